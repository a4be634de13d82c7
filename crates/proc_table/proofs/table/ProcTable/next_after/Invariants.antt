use Rattle.std.proofs.Common.{◌≡◌, ◌++◌, map}
use Rattle.proc_table.specs.Records.{Lowest}
use Rattle.proc_table.proofs.FindLemmas.{IsAbove}
use Rattle.proc_table.proofs.SlotLemmas.{seen}
use Rattle.proc_table.proofs.table.ProcTable.next_after.Given as goal

-- the records so far and those that are left are all, and `lowest` is right for those so far
abbrev pub invariant-loop-key : goal.invariant-loop-key
invariant-loop-key l =
    (goal.iterator-loop-key).can_next l._key-iterator ×
    (goal.iterator-loop-key).is_finite l._key-iterator ×
    (seen l.yielded ++ map (λ e. e.1) l._key-iterator ≡ map (λ e. e.1) l.initial._key-iterator) ×
    Lowest (IsAbove l.pid (seen l.yielded)) l.lowest
