-- Whether a frame's page is valid, as the core map shows it.
use Rattle.std.specs.Prelude.{ℕ}
use Rattle.core_map.specs.declared.slot.Whose.{Whose}
use Rattle.core_map.specs.declared.slot.Whose.TheVariants as whose
use Rattle.page_model.specs.Placement.{Placement, state_of}
use Rattle.run_stats.specs.Looks.{valid_one}

-- 1 for the page of a frame that is neither free nor in a transfer, where it is valid
abbrev pub valid_by : Placement → Whose → ℕ
valid_by p (whose.Free page) = 0
valid_by p (whose.Resident q) = valid_one (state_of p q)
valid_by p whose.Away = 0
