use Rattle.std.proofs.Common.{◌≡◌, ℕ, Some, Contains}
use Rattle.slab.specs.Slab.{get}
use Rattle.proc_table.specs.declared.process.Proc.{Proc}
use Rattle.proc_table.proofs.table.key_of.Given as goal

-- a record with the pid is among the entries that are left, and each of these is the slab's
abbrev pub invariant-loop-key : goal.invariant-loop-key
invariant-loop-key l =
    (goal.iterator-loop-key).can_next l.key-iterator ×
    (goal.iterator-loop-key).is_finite l.key-iterator ×
    ((key : ℕ) (p : Proc) → get l.records key ≡ Some p → p.pid ≡ l.pid → Contains l.key-iterator (key, p)) ×
    ((key : ℕ) (p : Proc) → Contains l.key-iterator (key, p) → get l.records key ≡ Some p)
