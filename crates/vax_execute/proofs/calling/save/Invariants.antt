use Rattle.std.proofs.Common.{◌≡◌, ◌≤◌, ◌-◌, ◌++◌, ℕ, List}
use Rattle.user_vax.specs.Frames.{push_all, saved}
use Rattle.vax_execute.specs.Outcomes.{IsAtFrame, pushing}
use Rattle.vax_execute.proofs.calling.save.Given as goal

-- what is left to save leads to the effect with all of it
abbrev pub invariant-loop-done : goal.invariant-loop-done
invariant-loop-done l = record {
  pushed : (values : List ℕ) → push_all (pushing l.regs l.pushes) (saved (12 - l.done) l.registers l.mask ++ values) ≡ push_all (pushing l.fn.regs l.fn.pushes) (saved 12 l.registers l.mask ++ values);
  place : IsAtFrame l.regs l.pushes;
  few : l.pushes.frame_length ≤ l.done;
}
