-- The images of a machine, as inputs of a run have them.
use Rattle.std.proofs.Common.{◌≡◌, ℕ, zero, suc, ◌+◌, List, [], ◌∷◌, length, Option, Some, None, refl, ap, ◌∙◌, arith}
use Rattle.std.specs.Prelude.{slice_get}
use Rattle.std.proofs.lemmas.List.{length-replicate}
use Rattle.std.proofs.lemmas.Option.{same_Some}
use Rattle.aout_image.specs.Image.{text_pages_of}
use Rattle.flat_state.specs.Flat.{NamedImage, image_numbered}
use Rattle.page_model.specs.Pages.{TextPages, Zeros, Slot, text_in, numbered}
use Rattle.page_model.specs.Placement.{image_number, new_text, unfilled, texts_from}
use Rattle.page_laws.proofs.Lists.Pages.{numbered_hit, numbered_miss}
use Rattle.machine_state.specs.Applying.{facts_named}
use Rattle.machine_state.specs.Sourced.{ImageNamed, named_at}
use Rattle.proc_run.specs.Reading.{AreNamed}

-- an image of these names and headers
pub record IsImage (images : List NamedImage) (number : ℕ) (there : ImageNamed) : Type 0 where
  pub named : NamedImage
  pub is : image_numbered images number ≡ Some named
  pub name : named.name ≡ there.name
  pub facts : named.image.facts ≡ there.facts

none_there : {A C : Type 0} (x : A) → None ≡ Some x → C
none_there x e = absurd cc

record IsAt (images : List NamedImage) (place : ℕ) (there : ImageNamed) : Type 0 where
  named : NamedImage
  is : slice_get images place ≡ Some named
  name : named.name ≡ there.name
  facts : named.image.facts ≡ there.facts

image_at : (images : List NamedImage) (ns : List ImageNamed) (place : ℕ) (there : ImageNamed) → AreNamed images ns → slice_get ns place ≡ Some there
    → IsAt images place there
image_at [] [] place there a e = none_there there e
image_at [] (n ∷ ns) place there a e = absurd a
image_at (x ∷ images) [] place there a e = absurd a
image_at (x ∷ images) (n ∷ ns) zero there a e =
    let same : n ≡ there = same_Some n there e in
    record { named = x; is = refl; name = a.0 ∙ ap (λ (y : ImageNamed). y.name) same; facts = a.1 ∙ ap (λ (y : ImageNamed). y.facts) same }
image_at (x ∷ images) (n ∷ ns) (suc place) there a e =
    let more : IsAt images place there = image_at images ns place there a.2 e in
    record { named = more.named; is = more.is; name = more.name; facts = more.facts }

pub image_is : (images : List NamedImage) (ns : List ImageNamed) (number : ℕ) (there : ImageNamed) → AreNamed images ns → named_at ns number ≡ Some there
    → IsImage images number there
image_is images ns zero there a e = none_there there e
image_is images ns (suc place) there a e =
    let more : IsAt images place there = image_at images ns place there a e in
    record { named = more.named; is = more.is; name = more.name; facts = more.facts }

-- The slots of a text are as many as its header tells.

slots_at : (ns : List ImageNamed) (m place i : ℕ) (there : ImageNamed) → i ≡ m + place → slice_get ns place ≡ Some there
    → length (text_in (numbered image_number i (texts_from m (facts_named ns)))) ≡ text_pages_of there.facts
slots_at [] m place i there e s = none_there there s
slots_at (n ∷ ns) m zero i there e s =
    ap (λ (o : Option TextPages). length (text_in o)) (numbered_hit image_number i (new_text m n.facts) (texts_from (m + 1) (facts_named ns)) (omega arith))
    ∙ length-replicate {A = Slot} (text_pages_of n.facts) (unfilled Zeros) ∙ ap (λ (y : ImageNamed). text_pages_of y.facts) (same_Some n there s)
slots_at (n ∷ ns) m (suc place) i there e s =
    ap (λ (o : Option TextPages). length (text_in o)) (numbered_miss image_number i (new_text m n.facts) (texts_from (m + 1) (facts_named ns)) (λ h. absurd (let y : m ≡ i = h in omega arith)))
    ∙ slots_at ns (m + 1) place i there (omega arith) s

pub text_slots : (ns : List ImageNamed) (number : ℕ) (there : ImageNamed) → named_at ns number ≡ Some there
    → length (text_in (numbered image_number number (texts_from 1 (facts_named ns)))) ≡ text_pages_of there.facts
text_slots ns zero there e = none_there there e
text_slots ns (suc place) there e = slots_at ns 1 place (suc place) there (omega arith) e
