-- One unit, judged by a machine whose journal was given room for one entry more.
use Rattle.std.proofs.Common.{◌≡◌, ◌⊎◌, ℕ, ◌+◌, ◌≤◌, Bool, List, [], ◌∷◌, length, Option, Some, None, Result, Ok, Err, sym, ◌∙◌, subst, arith}
use Rattle.std.specs.Prelude.{IfOk}
use Rattle.vm_facts.specs.SwapImages.{SwapImage}
use Rattle.vm_facts.specs.declared.entry.Entry.{Entry}
use Rattle.vm_facts.specs.declared.entry.Entry.TheVariants as entries
use Rattle.io_edge.specs.FileHolding.{NamedFile}
use Rattle.flat_state.specs.Flat.{Inputs}
use Rattle.flat_state.specs.Journal.{counted, repeated}
use Rattle.machine_state.specs.Machine.{Standing}
use Rattle.run_model.specs.State.{State}
use Rattle.vm_core.specs.Stepped.{AtSome, LeadsFrom}
use Rattle.step_judge.specs.At.{JudgedAt}
use Rattle.step_judge.specs.Told.{GoesOnWith}
use Rattle.paged_model.specs.declared.reason.Reason.{Reason}
use Rattle.repage_check.specs.declared.past.Past.{Past}
use Rattle.repage_check.specs.Past.{lines_next, turn_out, past_next, PastAt}
use Rattle.repage_check.specs.Units.{UnitTold}
use Rattle.repage_check.specs.Lines.{past_behind, UnitsTold, GoesBy}
use Rattle.repage_check.proofs.Along.{one_told, units_begun, units_over}
use Rattle.repage_check.proofs.Counting.{still_few}
use Rattle.repage_check.proofs.MovesJudged.{past_moves}
use Rattle.repage_check.proofs.Repeating.{journal_after, made_by}

-- no more lines of a schedule are known than the unit adds
pub lines_behind : (reason : Option Reason) (out : Bool) (p : Past) (u : Entry) → (past_behind reason out p u).lines ≤ lines_next p.lines u
lines_behind None out p u = omega arith
lines_behind (Some r) out p (entries.Event line) = omega arith
lines_behind (Some r) out p u = omega arith

-- the machine with room for one entry more
abbrev widened : Standing → Standing
widened m = record m { params = record m.params { journal = length m.kernel.journal + 1 } }

pub wide_past : (p : Past) (m : Standing) (holds : Option (List NamedFile)) (i : Option SwapImage) (A : Inputs) (s : State) (image : SwapImage)
    → PastAt p m holds i A s image → PastAt p (widened m) holds i A s image
wide_past p m holds i A s image at =
    let x : JudgedAt m p.counted p.begun holds i A s image = at.judged in
    record {
      judged = record {
        fit = x.fit;
        paged = x.paged;
        stands = x.stands;
        images = x.images;
        named = x.named;
        blocks = x.blocks;
        told = x.told;
        count = x.count;
        begun = x.begun;
        limit = x.limit;
        enough = x.enough;
      };
      counts = at.counts;
      lines = at.lines;
      mark = at.mark;
      turn = at.turn;
    }

module _ (p : Past) (old wide : Standing) (holds : Option (List NamedFile)) (i : Option SwapImage) (is : wide ≡ widened old) where
  pub wide_at : (A : Inputs) (s : State) (image : SwapImage) → PastAt p old holds i A s image → PastAt p wide holds i A s image
  wide_at A s image at = subst (λ (m : Standing). PastAt p m holds i A s image) (sym is) (wide_past p old holds i A s image at)

  pub wide_some : AtSome (PastAt p old holds i) → AtSome (PastAt p wide holds i)
  wide_some (A, s, image, at) = (A, s, image, wide_at A s image at)

  module _ (u : Entry) (new : Standing) (j : Option SwapImage) (reason : Option Reason)
      (told : LeadsFrom (PastAt p wide holds i) (UnitTold reason u p wide new holds j)) where
    pub next_told : LeadsFrom (PastAt p old holds i) (UnitsTold reason (u ∷ []) (past_behind reason (turn_out wide.kernel u) p u) new holds j)
    next_told A s image at = one_told reason u p wide new holds j A s image (told A s image (wide_at A s image at))

    pub next_by : AtSome (PastAt p old holds i) → reason ≡ None → GoesOnWith wide new → GoesBy (u ∷ []) old new
    next_by (A, s, image, at) none on =
        made_by u old wide new is on
        (journal_after A s u p (past_next (turn_out wide.kernel u) p u) old new holds i j image at ((told A s image (wide_at A s image at)).stands none))

    -- where it may come and counts instructions, few are counted
    pub next_counted : AtSome (PastAt p old holds i) → reason ≡ None → (counted u ≡ 0) ⊎ (p.counted + counted u ≤ 1000000)
    next_counted (A, s, image, at) none =
        still_few p wide holds i A s image u (wide_at A s image at) (sym (told A s image (wide_at A s image at)).exact ∙ none)

-- a move of the hands changes nothing of what is known beside the machine
pub once_told : (p : Past) (old wide new : Standing) → wide ≡ widened old → (reason : Option Reason) (holds : Option (List NamedFile)) (i : Option SwapImage)
    (A : Inputs) (s : State) (image : SwapImage)
    → UnitTold reason (entries.Hands 1) p wide new holds i A s image → UnitsTold reason (entries.Hands 1 ∷ []) p new holds i A s image
once_told p old wide new is reason holds i A s image told =
    subst (λ (q : Past). UnitsTold reason (entries.Hands 1 ∷ []) q new holds i A s image) (past_moves reason p)
    (one_told reason (entries.Hands 1) p wide new holds i A s image told)

pub both_ok : {T E : Type 0} (r : Result T E) (P Q R : T → Type 0) → ((x : T) → P x → Q x → R x) → IfOk r P → IfOk r Q → IfOk r R
both_ok (Ok x) P Q R f a b = f x a b
both_ok (Err e) P Q R f a b = tt

-- No unit at all.

pub none_told : (u : Entry) (n : ℕ) (p : Past) (m : Standing) (holds : Option (List NamedFile)) (i : Option SwapImage) (A : Inputs) (s : State)
    (image : SwapImage)
    → n ≡ 0 → PastAt p m holds i A s image → UnitsTold None (repeated u n []) p m holds i A s image
none_told u n p m holds i A s image none at =
    subst (λ (k : ℕ). UnitsTold None (repeated u k []) p m holds i A s image) (sym none)
    (units_over [] p m holds i A s image (units_begun [] p m holds i A s image at))
