-- A page that is there has one of few numbers.
use Rattle.std.proofs.Common.{◌≡◌, ℕ, ◌<◌, ◌≤◌, length, map, option_map, Option, Some, None, refl, ap, ◌∙◌, arith}
use Rattle.vm_facts.specs.declared.page.Page.{Page}
use Rattle.vm_facts.specs.declared.page.Page.TheVariants.{Data, Stack, Text}
use Rattle.space_map.specs.Space.{Places}
use Rattle.flat_state.specs.PageNames.{number_of}
use Rattle.page_model.specs.Pages.{SpacePages, numbered, data_in, stack_in}
use Rattle.page_model.specs.Placement.{IsThere, space_number}
use Rattle.kernel_tables.specs.Alike.{HasFewPages}
use Rattle.kernel_tables.specs.Shown.{slot_shown, space_shown}
use Rattle.kernel_tables.specs.View.{Lists, placement_of}
use Rattle.kernel_tables.specs.Known.{Known}
use Rattle.kernel_tables.proofs.Shows.{text_within, length_map}
use Rattle.kernel_tables.proofs.UserFrames.{numbered_shown}
use Rattle.kernel_tables.proofs.ForkedSpaces.{space_of_number}

module _ (t : Lists) (n : ℕ) (k : Known t) where
  shown : (o : Option Places) → numbered (λ (s : Places). s.sid) n t.spaces ≡ o
      → numbered space_number n (map (space_shown t.slots) t.spaces) ≡ option_map (space_shown t.slots) o
  shown o e = numbered_shown t.slots t.spaces n ∙ ap (option_map (space_shown t.slots)) e

  few_data : length (data_in (numbered space_number n (map (space_shown t.slots) t.spaces))) ≤ 4096
  few_data = go (numbered (λ (s : Places). s.sid) n t.spaces) refl
    where
      go : (o : Option Places) → numbered (λ (s : Places). s.sid) n t.spaces ≡ o
          → length (data_in (numbered space_number n (map (space_shown t.slots) t.spaces))) ≤ 4096
      go None e =
          let size : length (data_in (numbered space_number n (map (space_shown t.slots) t.spaces))) ≡ 0 = ap (λ (p : Option SpacePages). length (data_in p)) (shown None e) in
          omega arith
      go (Some s) e =
          let size : length (data_in (numbered space_number n (map (space_shown t.slots) t.spaces))) ≡ length s.data =
          ap (λ (p : Option SpacePages). length (data_in p)) (shown (Some s) e) ∙ length_map (slot_shown t.slots) s.data in
          let few : length s.data ≤ 4096 = (space_of_number HasFewPages t.spaces n s k.tied.few_pages e).0.0 in
          omega arith

  few_stack : length (stack_in (numbered space_number n (map (space_shown t.slots) t.spaces))) ≤ 4096
  few_stack = go (numbered (λ (s : Places). s.sid) n t.spaces) refl
    where
      go : (o : Option Places) → numbered (λ (s : Places). s.sid) n t.spaces ≡ o
          → length (stack_in (numbered space_number n (map (space_shown t.slots) t.spaces))) ≤ 4096
      go None e =
          let size : length (stack_in (numbered space_number n (map (space_shown t.slots) t.spaces))) ≡ 0 = ap (λ (p : Option SpacePages). length (stack_in p)) (shown None e) in
          omega arith
      go (Some s) e =
          let size : length (stack_in (numbered space_number n (map (space_shown t.slots) t.spaces))) ≡ length s.stack =
          ap (λ (p : Option SpacePages). length (stack_in p)) (shown (Some s) e) ∙ length_map (slot_shown t.slots) s.stack in
          let few : length s.stack ≤ 512 = (space_of_number HasFewPages t.spaces n s k.tied.few_pages e).0.1 in
          omega arith

pub few_numbers : (t : Lists) (q : Page) → Known t → IsThere (placement_of t) q → number_of q ≤ 4096
few_numbers t (Data n v) k there =
    let few = few_data t n k in
    let below : v < length (data_in (numbered space_number n (map (space_shown t.slots) t.spaces))) = there in
    omega arith
few_numbers t (Stack n v) k there =
    let few = few_stack t n k in
    let below : v < length (stack_in (numbered space_number n (map (space_shown t.slots) t.spaces))) = there in
    omega arith
few_numbers t (Text image v) k there =
    let few = k.tied.small_texts image in
    let below = text_within t image v there in
    omega arith
