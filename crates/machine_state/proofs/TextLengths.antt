-- The text of each image has as many pages as its header tells.
use Rattle.std.proofs.Common.{◌≡◌, ℕ, zero, suc, ◌+◌, List, [], ◌∷◌, length, map, Some, ap, ◌∙◌, arith}
use Rattle.std.specs.Prelude.{slice_get}
use Rattle.vm_facts.specs.declared.page.Page.TheVariants.{Text}
use Rattle.aout_image.specs.declared.Image.{Image}
use Rattle.aout_image.specs.Image.{text_pages_of}
use Rattle.page_model.specs.Placement.{slots_of}
use Rattle.table_steps.specs.Named.{Named}
use Rattle.table_steps.specs.Tables.{Tables}
use Rattle.table_steps.specs.Sourced.{ImageNamed, named_at}
use Rattle.table_steps.specs.View.{pages_in, placement_of}
use Rattle.table_steps.specs.Machine.{lists_of, image_shown, images_of}
use Rattle.table_steps.proofs.Shows.{pages_hit, pages_miss, texts_shown, text_length}

-- as many as the header tells of the image at a place
pages_at : (k i : ℕ) (ns : List Named) (n : ImageNamed) → slice_get (map image_shown ns) i ≡ Some n
    → pages_in k (k + i) (map (λ (x : Named). x.facts) ns) ≡ text_pages_of n.facts
pages_at k i [] n e = absurd cc
pages_at k zero (m ∷ ms) n e =
    let same : image_shown m ≡ n = cc in
    pages_hit k (k + 0) m.facts (map (λ (x : Named). x.facts) ms) (omega arith) ∙ ap (λ (x : ImageNamed). text_pages_of x.facts) same
pages_at k (suc i) (m ∷ ms) n e =
    pages_miss k (k + suc i) m.facts (map (λ (x : Named). x.facts) ms) (λ h. absurd (omega arith))
    ∙ ap (λ (j : ℕ). pages_in (k + 1) j (map (λ (x : Named). x.facts) ms)) (omega arith) ∙ pages_at (k + 1) i ms n e

pub texts_stand : (t : Tables) (image : ℕ) (n : ImageNamed) → named_at (images_of t) image ≡ Some n
    → length (slots_of (placement_of (lists_of t)) (Text image 0)) ≡ text_pages_of n.facts
texts_stand t zero n e = absurd cc
texts_stand t (suc i) n e =
    let facts : List Image = map (λ (x : Named). x.facts) t.images.items in
    ap length (texts_shown (lists_of t) 1 (suc i) facts) ∙ text_length (lists_of t) (suc i) (pages_in 1 (suc i) facts)
    ∙ ap (λ (j : ℕ). pages_in 1 j facts) (omega arith) ∙ pages_at 1 i t.images.items n e
