use Rattle.std.proofs.Common.{List}
use Rattle.vm_facts.specs.Answers.{ByteWrite}
use Rattle.proc_run.specs.Stretch.{StretchOf}
use Rattle.proc_run.proofs.stretch.short_stretch.Given as goal

-- so many were carried out, and wrote what was written
abbrev pub invariant-loop-count : goal.invariant-loop-count
invariant-loop-count g l = StretchOf (g.M.Memory.answers l.fn.memory) l.fn.regs l.count l.regs (λ (ws : List ByteWrite). g.M.Memory.wrote l.fn.memory ws l.memory)
