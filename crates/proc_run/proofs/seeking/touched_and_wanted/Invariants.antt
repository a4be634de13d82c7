use Rattle.std.proofs.Common.{◌≡◌, ◌-◌, Bool, length}
use Rattle.flat_state.specs.Flat.{Inputs}
use Rattle.run_model.specs.State.{State}
use Rattle.proc_run.specs.Touching.{RunsWith}
use Rattle.proc_run.proofs.RunsTouching.{AreSoFar}
use Rattle.proc_run.proofs.seeking.touched_and_wanted.Given as goal

abbrev pub invariant-loop-alloc : goal.invariant-loop-alloc
invariant-loop-alloc l = record {
  same : l.m ≡ l.fn.m;
  so_far : (A : Inputs) (s : State) (now : Bool) (r : RunsWith A s now l.fn.m l.pid l.regs) → AreSoFar A s now l.fn.m l.pid l.regs r l.touched;
}

abbrev pub decreases-loop-alloc : goal.decreases-loop-alloc
decreases-loop-alloc l = 32 - length l.touched
