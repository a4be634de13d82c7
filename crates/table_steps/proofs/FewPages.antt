-- The numbers of pages are low.
use Rattle.std.proofs.Common.{inl, inr, ℕ, zero, suc, ◌+◌, ◌<◌, ◌≤◌, List, [], ◌∷◌, length, map, Option, ap, ◌∙◌, arith}
use Rattle.std.proofs.lemmas.Bool.{cases_eq}
use Rattle.vm_facts.specs.declared.page.Page.{Page}
use Rattle.vm_facts.specs.declared.page.Page.TheVariants.{Data, Stack, Text}
use Rattle.core_map.specs.declared.slot.Slot.{Slot as Token}
use Rattle.space_map.specs.Space.{Places}
use Rattle.flat_state.specs.PageNames.{number_of, beside, pages_from}
use Rattle.page_model.specs.Pages.{SpacePages, numbered, data_in, stack_in}
use Rattle.page_model.specs.Placement.{space_number, IsThere}
use Rattle.page_model.specs.Conditions.{EachPage, HasSeat}
use Rattle.page_laws.proofs.Lists.Runs.{number_beside}
use Rattle.kernel_tables.specs.Alike.{EachSpace, HasFewPages}
use Rattle.kernel_tables.specs.Shown.{slot_shown, space_shown}
use Rattle.kernel_tables.specs.View.{Lists, placement_of}
use Rattle.kernel_tables.specs.Known.{Known}
use Rattle.kernel_tables.proofs.Shows.{hit, miss, length_map}
use Rattle.kernel_tables.proofs.Knows.{text_low}
use Rattle.table_steps.proofs.Residing.{Resides, seat_resides}

data_few : (slots : List Token) (ss : List Places) (n : ℕ) → EachSpace HasFewPages ss
    → length (data_in (numbered space_number n (map (space_shown slots) ss))) ≤ 4096
data_few slots [] n h = omega arith
data_few slots (s ∷ ss) n h = elim (cases_eq s.sid n) [
  | inl e ↦
      let a = ap (λ (o : Option SpacePages). length (data_in o)) (hit n (space_shown slots s) (map (space_shown slots) ss) e) ∙ length_map (slot_shown slots) s.data in
      let b = h.0.0 in
      omega arith
  | inr d ↦
      let a = ap (λ (o : Option SpacePages). length (data_in o)) (miss n (space_shown slots s) (map (space_shown slots) ss) d) in
      let b = data_few slots ss n h.1 in
      omega arith
]

stack_few : (slots : List Token) (ss : List Places) (n : ℕ) → EachSpace HasFewPages ss
    → length (stack_in (numbered space_number n (map (space_shown slots) ss))) ≤ 512
stack_few slots [] n h = omega arith
stack_few slots (s ∷ ss) n h = elim (cases_eq s.sid n) [
  | inl e ↦
      let a = ap (λ (o : Option SpacePages). length (stack_in o)) (hit n (space_shown slots s) (map (space_shown slots) ss) e) ∙ length_map (slot_shown slots) s.stack in
      let b = h.0.1 in
      omega arith
  | inr d ↦
      let a = ap (λ (o : Option SpacePages). length (stack_in o)) (miss n (space_shown slots s) (map (space_shown slots) ss) d) in
      let b = stack_few slots ss n h.1 in
      omega arith
]

pub page_low : (t : Lists) (q : Page) → Known t → IsThere (placement_of t) q → number_of q < 4096
page_low t (Data n v) k there =
    let a : v < length (data_in (numbered space_number n (map (space_shown t.slots) t.spaces))) = there in let b = data_few t.slots t.spaces n k.tied.few_pages in omega arith
page_low t (Stack n v) k there =
    let a : v < length (stack_in (numbered space_number n (map (space_shown t.slots) t.spaces))) = there in let b = stack_few t.slots t.spaces n k.tied.few_pages in omega arith
page_low t (Text i v) k there = let a = (text_low t i v k there).2 in omega arith

-- the end of a run of pages that are there
pub run_low : (t : Lists) (q : Page) (lo n : ℕ) → Known t → EachPage (HasSeat (placement_of t)) (pages_from q lo (suc n)) → lo + suc n ≤ 4096
run_low t q lo zero k h =
    let s : HasSeat (placement_of t) (beside q lo) = h.0 in
    let r : Resides t (beside q lo) s.frame = seat_resides t (beside q lo) s.frame k s.seat in
    let a = page_low t (beside q lo) k r.there in
    let b = number_beside q lo in
    omega arith
run_low t q lo (suc n) k h = let a = run_low t q (lo + 1) n k h.1 in omega arith
