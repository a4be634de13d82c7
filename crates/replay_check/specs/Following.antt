-- A run that is followed to list its pages: how far that has come.
use Rattle.std.specs.Prelude.{◌≡◌, ℕ, ◌==◌, Bool, false, List, ◌++◌, Option, Some, None, IsSome}
use Rattle.flat_state.specs.Flat.{FlatState, Inputs}
use Rattle.vm_facts.specs.declared.page.Page.{Page}
use Rattle.vm_facts.specs.declared.entry.Entry.{Entry}
use Rattle.flat_model.specs.Run.{Point, is_refused, flat_units}
use Rattle.replay_check.specs.Verdicts.{references_from}

-- it is this process whose pieces found no place
abbrev pub is_this : Option ℕ → ℕ → Bool
is_this None pid = false
is_this (Some p) pid = p == pid

-- the machine stands at a point of a run that goes on by these units, and the pages so far and those of the units
-- are these
pub record IsOnWay (A : Inputs) (F : FlatState) (refused : Option ℕ) (pages : List Page) (units : List Entry) (whole : List Page) : Type 0 where
  pub point : Point
  pub flat : point.flat ≡ F
  pub last : (pid : ℕ) → is_refused point.last pid ≡ is_this refused pid
  pub runs : IsSome (flat_units A (Some point) units)
  pub listed : pages ++ references_from A (Some point) units ≡ whole
