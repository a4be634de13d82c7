use Rattle.std.proofs.Common.{◌≡◌, drop}
use Rattle.vm_facts.specs.Answers.{writes_down}
use Rattle.user_vax.specs.Program.{run}
use Rattle.user_vax.specs.Instruction.{write_tests}
use Rattle.user_step.proofs.commit.test_down.Given as goal

-- what is left to test decides as all of it does
abbrev pub invariant-loop-longword : goal.invariant-loop-longword
invariant-loop-longword g l =
    run (g.M.Memory.answers l.memory) (write_tests (writes_down l.place (drop l.longword-index l.longwords)))
    ≡ run (g.M.Memory.answers l.memory) (write_tests (writes_down l.address l.longwords))
