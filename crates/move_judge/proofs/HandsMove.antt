-- Where a move of the hands may come the call may be made.
use Rattle.std.proofs.Common.{◌≡◌, ℕ, ◌<◌, List, Option, Some, None, refl, sym, ◌∙◌, arith}
use Rattle.vm_facts.specs.declared.page.Page.{Page}
use Rattle.page_model.specs.Placement.{Placement}
use Rattle.page_model.specs.Runs.{Run}
use Rattle.page_model.specs.Hands.{wants_moves, hand_run}
use Rattle.page_laws.proofs.Moves.HandRuns.{hand_some}
use Rattle.machine_state.specs.Calls.{CanMove, IsRunOf}
use Rattle.paged_model.specs.declared.reason.Reason.TheVariants as reasons
use Rattle.paged_model.specs.Reasons.{unless}
use Rattle.paged_model.specs.Moves.{no_room, write_room, hand_reason}
use Rattle.paged_model.proofs.Reasoned.{or_none, unless_none}
use Rattle.paged_model.proofs.Brought.{room_left}

-- a write of some pages asks for room
pub some_written : (p : Placement) (locked : List Page) (lo n : ℕ) → IsRunOf (hand_run p locked) lo n → 0 < n → write_room p (hand_run p locked) ≡ no_room p
some_written p locked lo n r l = go (hand_run p locked) r
  where
    go : (o : Option (Page × Run)) → IsRunOf o lo n → write_room p o ≡ no_room p
    go None k = absurd (omega (arith, k, l))
    go (Some w) k = refl

-- of none there is no write
pub none_written : (p : Placement) (locked : List Page) (lo n : ℕ) → IsRunOf (hand_run p locked) lo n → n ≡ 0 → write_room p (hand_run p locked) ≡ None
none_written p locked lo n r z = go (hand_run p locked) refl r
  where
    go : (o : Option (Page × Run)) → hand_run p locked ≡ o → IsRunOf o lo n → write_room p o ≡ None
    go None e k = refl
    go (Some w) e k = absurd (let some = hand_some p locked w e in let same = k.1 in omega (arith, some, same, z))

pub can_hand : (p : Placement) (locked : List Page) (lo n : ℕ) → IsRunOf (hand_run p locked) lo n → hand_reason p locked ≡ None → CanMove p locked lo n
can_hand p locked lo n r e =
    let o = or_none (unless (wants_moves p) reasons.EnoughFree) (write_room p (hand_run p locked)) e in
    record {
      wants = unless_none (wants_moves p) reasons.EnoughFree o.0;
      run = r;
      room = λ l. room_left p (sym (some_written p locked lo n r l) ∙ o.1);
    }
