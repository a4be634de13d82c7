use Rattle.std.proofs.Common.{ℕ, ◌≢◌, ◌+◌, ◌%◌, ◌^◌, ◌<◌}
use Rattle.vm_facts.specs.declared.memory.MayWrite.TheVariants.{May}
use Rattle.user_step.proofs.fixed_code.stay_from.Given as goal

-- the bytes so far may not be written
abbrev pub invariant-loop-count : goal.invariant-loop-count
invariant-loop-count g l = (i : ℕ) → i < l.count → (g.M.Memory.answers l.memory).may_write ((l.address + i) % 2 ^ 32) ≢ May
