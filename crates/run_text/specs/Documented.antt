-- The limits of a schedule as `vmrun --help` and FORMATS have them.
use Rattle.std.specs.Prelude.{◌≡◌}
use Rattle.run_text.specs.declared.limits.TheConstants.{SCHEDULE_LINES, LAST_PROCESS, MOST_TURN, MOST_MOVES}

-- the most lines, the highest P of `d P N`, and the highest N of it and of `h N`
pub record DocumentedLimits : Type 0 where
  pub schedule_lines : SCHEDULE_LINES ≡ 65536
  pub last_process : LAST_PROCESS ≡ 99999999
  pub most_turn : MOST_TURN ≡ 1000000
  pub most_moves : MOST_MOVES ≡ 8192
