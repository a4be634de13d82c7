-- Moves of the hands, judged one after another over the same pages.
use Rattle.std.proofs.Common.{◌≡◌, ℕ, zero, suc, ◌+◌, ◌<◌, false, List, [], ◌∷◌, Option, Some, None, refl, sym, ap, ◌∙◌, arith}
use Rattle.vm_facts.specs.SwapImages.{SwapImage}
use Rattle.vm_facts.specs.declared.entry.Entry.{Entry}
use Rattle.vm_facts.specs.declared.entry.Entry.TheVariants as entries
use Rattle.vm_facts.specs.declared.page.Page.{Page}
use Rattle.io_edge.specs.FileHolding.{NamedFile}
use Rattle.flat_state.specs.Flat.{Inputs}
use Rattle.flat_state.specs.Journal.{repeated}
use Rattle.machine_state.specs.Machine.{Standing}
use Rattle.run_model.specs.State.{State}
use Rattle.run_model.specs.Wanted.{locked}
use Rattle.paged_model.specs.declared.reason.Reason.{Reason}
use Rattle.paged_model.specs.Reasons.{or_reason}
use Rattle.paged_model.specs.Moves.{hand_reason}
use Rattle.paged_model.specs.Runs.{paged_after, unit_reason, units_reason}
use Rattle.repage_check.specs.declared.past.Past.{Past}
use Rattle.repage_check.specs.Past.{PastAt}
use Rattle.repage_check.specs.Units.{StandsPast, begun_reason}
use Rattle.repage_check.proofs.Judgings.{begun_is, hands_is}
use Rattle.repage_check.specs.Lines.{past_behind, UnitsTold}
use Rattle.repage_check.proofs.Along.{Left, all_left, left_on, left_bad, exactly, stands_on, first_reason, AlongUnits, units_over}
use Rattle.repage_check.proofs.Staying.{hands_locked}

-- a move changes nothing of what is known beside the machine
pub past_moves : (reason : Option Reason) (p : Past) → past_behind reason false p (entries.Hands 1) ≡ p
past_moves None p = ap (λ (n : ℕ). record p { counted = n }) (let e : p.counted + 0 ≡ p.counted = omega arith in e)
past_moves (Some r) p = refl

-- The machine stands at a state from which this is left of these moves, and at which these are the pages that the hands pass over.
pub record AlongMoves (whole left : List Entry) (pages : List Page) (p : Past) (m : Standing) (holds : Option (List NamedFile)) (j : Option SwapImage) (A : Inputs)
    (s : State) (image : SwapImage) : Type 0 where
  pub state : State
  pub stands : StandsPast p m holds j A state
  pub is_left : Left A s whole state left
  pub passed : pages ≡ locked A state

pub moves_begun : (whole : List Entry) (pages : List Page) (p : Past) (m : Standing) (holds : Option (List NamedFile)) (i : Option SwapImage) (A : Inputs)
    (s : State)
    (image : SwapImage)
    → PastAt p m holds i A s image → pages ≡ locked A s → AlongMoves whole whole pages p m holds i A s image
moves_begun whole pages p m holds i A s image at are =
    record { state = s; stands = record { image = image; at = at }; is_left = all_left A s whole; passed = are }

module _ (whole left : List Entry) (pages : List Page) (p : Past) (m : Standing) (holds : Option (List NamedFile)) (i j : Option SwapImage) (A : Inputs) (s : State)
    (image : SwapImage) (along : AlongMoves whole (entries.Hands 1 ∷ left) pages p m holds i A s image) (n : Standing) (reason : Option Reason)
    (told : UnitsTold reason (entries.Hands 1 ∷ []) p n holds j A along.state along.stands.image) where
  exact : reason ≡ unit_reason A along.state (entries.Hands 1)
  exact = exactly A along.state (entries.Hands 1) p n holds j along.stands.image reason told

  -- after a move that may come
  pub moves_on : reason ≡ None → AlongMoves whole left pages p n holds j A s image
  moves_on none = record {
    state = paged_after A along.state (entries.Hands 1);
    stands = stands_on A along.state (entries.Hands 1) p n holds j along.stands.image reason told none;
    is_left = left_on A s whole along.state (entries.Hands 1) left along.is_left reason exact none;
    passed = along.passed ∙ sym (hands_locked A along.state);
  }

  -- after one that can't
  pub moves_bad : (r : Reason) → reason ≡ Some r → UnitsTold (Some r) whole p n holds j A s image
  moves_bad r some = record { exact = left_bad A s whole along.state (entries.Hands 1) left along.is_left reason exact r some; stands = λ none. absurd cc }

-- after all of them
pub moves_over : (whole : List Entry) (pages : List Page) (p : Past) (m : Standing) (holds : Option (List NamedFile)) (i : Option SwapImage) (A : Inputs)
    (s : State)
    (image : SwapImage)
    → AlongMoves whole [] pages p m holds i A s image → UnitsTold None whole p m holds i A s image
moves_over whole pages p m holds i A s image along =
    let units : AlongUnits whole [] p m holds i A s image = record { state = along.state; stands = along.stands; is_left = along.is_left } in
    units_over whole p m holds i A s image units

-- where a step is begun none comes
pub moves_begun_step : (n : ℕ) (reason : Reason) (p : Past) (m : Standing) (holds : Option (List NamedFile)) (i : Option SwapImage) (A : Inputs) (s : State)
    (image : SwapImage)
    → 0 < n → begun_reason p.begun ≡ Some reason → PastAt p m holds i A s image
    → UnitsTold (Some reason) (repeated (entries.Hands 1) n []) p m holds i A s image
moves_begun_step zero reason p m holds i A s image some begun at = absurd (omega (arith, some))
moves_begun_step (suc n) reason p m holds i A s image some begun at = record {
  exact = sym (first_reason A s (entries.Hands 1) (repeated (entries.Hands 1) n [])
      ∙ ap (λ (o : Option Reason). or_reason o (units_reason A (paged_after A s (entries.Hands 1)) (repeated (entries.Hands 1) n [])))
      (hands_is A s 1
      ∙ ap (λ (o : Option Reason). or_reason o (hand_reason s.place (locked A s))) (sym (begun_is s.point.last) ∙ ap begun_reason at.judged.begun ∙ begun)));
  stands = λ none. absurd cc;
}
