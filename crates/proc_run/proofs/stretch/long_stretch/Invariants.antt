use Rattle.std.proofs.Common.{List}
use Rattle.vm_facts.specs.Answers.{ByteWrite}
use Rattle.user_step.specs.FixedCode.{AreFixed}
use Rattle.proc_run.specs.Stretch.{StretchOf}
use Rattle.proc_run.proofs.stretch.long_stretch.Given as goal

-- so many were carried out, and wrote what was written; and what is known to stay does
abbrev pub invariant-loop-count : goal.invariant-loop-count
invariant-loop-count g l = StretchOf (g.M.Memory.answers l.fn.memory) l.fn.regs l.count l.regs (λ (ws : List ByteWrite). g.M.Memory.wrote l.fn.memory ws l.memory)
    × AreFixed (g.M.Memory.answers l.memory) l.fixed l.cache
