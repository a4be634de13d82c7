-- Which calls of a form in memory fail. The calls of one kind are counted from 1, and each whose number
-- is in the list fails.
use Rattle.std.specs.Prelude.{◌≡◌, ◌≤◌, List, ℕ}
use Rattle.std.specs.List.{Contains}
use Rattle.io_edge.specs.Count.{next_count}
use Rattle.io_edge.specs.declared.count.FaultPlan.{FaultPlan}

-- no call was made so far, and these are to fail
pub record IsNewPlan (plan : FaultPlan) (numbers : List ℕ) : Type 0 where
  pub calls : plan.calls ≡ 0
  pub fail : plan.fail.items ≡ numbers

-- the next call is to fail
abbrev pub FailsNext : FaultPlan → Type 0
FailsNext plan = Contains plan.fail.items (next_count plan.calls)

-- one more call was made
pub record NextCall (old new : FaultPlan) : Type 0 where
  pub calls : new.calls ≡ next_count old.calls
  pub fail : new.fail.items ≡ old.fail.items

-- any number of calls were made
pub record LaterCalls (old new : FaultPlan) : Type 0 where
  pub calls : old.calls ≤ new.calls
  pub fail : new.fail.items ≡ old.fail.items
