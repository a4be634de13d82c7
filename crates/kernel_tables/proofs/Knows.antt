-- What is known of the tables of a machine that runs.
use Rattle.std.proofs.Common.{◌≡◌, ◌≢◌, inl, inr, ℕ, ◌<◌, ◌≤◌, List, length, set, Option, Some, None, sym, ap, ◌∙◌, arith}
use Rattle.std.proofs.lemmas.Bool.{cases_eq}
use Rattle.std.proofs.lemmas.List.{get_or-set_same, get_or-set_other}
use Rattle.vm_facts.specs.declared.page.Page.{Page}
use Rattle.vm_facts.specs.declared.page.Page.TheVariants.{Text}
use Rattle.core_map.specs.declared.slot.Slot.{Slot as Token}
use Rattle.core_map.specs.declared.slot.Slot.TheVariants as tokens
use Rattle.core_map.specs.Slots.{slot_at, slot_page as token_page}
use Rattle.page_model.specs.Pages.{frame_of}
use Rattle.page_model.specs.Placement.{state_of, IsThere}
use Rattle.kernel_laws.proofs.Local.{none_some}
use Rattle.kernel_laws.proofs.PageLawsMovesSteps.{page_in}
use Rattle.kernel_tables.specs.View.{Lists, pages_in, flown_at, page_by, placement_of}
use Rattle.kernel_tables.specs.Steps.{AreTextsHere}
use Rattle.kernel_tables.proofs.Shows.{text_within, pages_low}
use Rattle.kernel_tables.proofs.Held.{held_at, above_zero, below_length}
use Rattle.kernel_tables.specs.Known.{Known}

-- the frame that holds a page, as the map says
pub holds_not_away : (s : Token) (q : Page) → token_page s ≡ Some q → s ≢ tokens.Away
holds_not_away s q e n = none_some q (sym (ap token_page n) ∙ e)

pub page_is_held : (s : Token) (q : Page) (o : Option Rattle.kernel_tables.specs.View.Flown) → token_page s ≡ Some q → page_by s o ≡ Some q
page_is_held tokens.Away q o e = none_some q e
page_is_held _ q o e = e

pub held_named : (t : Lists) (f : ℕ) (q : Page) → Known t → token_page (slot_at t.slots f) ≡ Some q → frame_of (state_of (placement_of t) q) ≡ Some f
held_named t f q k e =
    let away = holds_not_away (slot_at t.slots f) q e in
    k.owns.named f q (held_at t f (above_zero t.free t.slots f k.core away) (below_length t.slots f away) ∙ page_is_held (slot_at t.slots f) q (flown_at t.flown f) e)

pub text_low : (t : Lists) (i v : ℕ) → Known t → IsThere (placement_of t) (Text i v) → (1 ≤ i) × (i ≤ 16) × (v < 2048)
text_low t i v k there =
    let within : v < pages_in 1 i t.facts = text_within t i v there in
    let some : 0 < pages_in 1 i t.facts = omega arith in
    let low = pages_low 1 i t.facts some in
    let a = low.0 in
    let b = low.1 in
    let c = k.tied.few_images in
    let d = k.tied.small_texts i in
    (omega arith, omega arith, omega arith)

pub texts_here : (t : Lists) → Known t → AreTextsHere t.slots
texts_here t k f i v e = text_low t i v k (page_in (placement_of t) (Text i v) f (held_named t f (Text i v) k e))

-- a page with no frame is held by none
pub not_held : (t : Lists) (f : ℕ) (slots : List Token) (free : List ℕ) (q : Page) → Known t → frame_of (state_of (placement_of t) q) ≡ None
    → slots ≡ set t.slots f tokens.Away → f < length t.slots
    → (g : ℕ) → token_page (slot_at slots g) ≢ Some q
not_held t f slots free q k n e l g h = elim (cases_eq g f) [
  | inl i ↦ none_some q (sym (ap token_page (ap (λ (x : List Token). slot_at x g) e ∙ ap (slot_at (set t.slots f tokens.Away)) i ∙ get_or-set_same t.slots f tokens.Away tokens.Away l)) ∙ h)
  | inr d ↦ none_some g (sym n ∙ held_named t g q k (sym (ap token_page (ap (λ (x : List Token). slot_at x g) e ∙ get_or-set_other t.slots f g tokens.Away tokens.Away d)) ∙ h))
]
