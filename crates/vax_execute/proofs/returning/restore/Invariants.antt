use Rattle.std.proofs.Common.{◌≡◌, ◌-◌}
use Rattle.user_vax.specs.Program.{run}
use Rattle.user_vax.specs.Frames.{restored}
use Rattle.vax_execute.proofs.returning.restore.Given as goal

-- what is left to restore comes to what restoring all does
abbrev pub invariant-loop-reg : goal.invariant-loop-reg
invariant-loop-reg g l = run (g.M.Memory.answers l.memory) (restored (12 - l.reg) l.mask l.regs) ≡ run (g.M.Memory.answers l.memory) (restored 12 l.mask l.fn.regs)
