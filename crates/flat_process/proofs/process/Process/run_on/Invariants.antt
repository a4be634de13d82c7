use Rattle.std.proofs.Common.{IsTrue}
use Rattle.flat_state.specs.Flat.{holds_space}
use Rattle.flat_process.specs.Running.{GoesFor}
use Rattle.flat_process.proofs.process.Process.run_on.Given as goal

-- so many instructions ran
abbrev pub invariant-loop-count : goal.invariant-loop-count
invariant-loop-count l = record {
  ran : GoesFor l.fn.self l.count l.self;
  holds : IsTrue (holds_space l.self.holding);
}
