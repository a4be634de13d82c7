use Rattle.std.proofs.Common.{ℕ, List, map, ◌++◌, sym, ap, ◌∙◌, append-nil}
use Rattle.proc_table.specs.declared.process.Proc.{Proc}
use Rattle.proc_table.proofs.FindLemmas.{lowest_kept, lowest_lowered}
use Rattle.proc_table.proofs.SlotLemmas.{records_of-entries, seen, seen_more, left_less}
use Rattle.proc_table.proofs.table.ProcTable.next_after.Goals as goal

pub loop-key-preserved-then-record-pid : goal.loop-key-preserved-then-record-pid
loop-key-preserved-then-record-pid c = (
  tt,
  tt,
  left_less _ c.in-Some._key c.in-Some.record _ _ _ c.in-Some.ensures.steps c.loop-key.invariant.2,
  rw (seen_more c.loop-key.yielded c.in-Some._key c.in-Some.record, c.lower.ensures)
      (lowest_lowered c.args.pid c.in-Some.record.now (seen c.loop-key.yielded) c.loop-key.lowest c.if-record-pid.true c.loop-key.invariant.3),
)

pub loop-key-preserved : goal.loop-key-preserved
loop-key-preserved c = (
  tt,
  tt,
  left_less _ c.in-Some._key c.in-Some.record _ _ _ c.in-Some.ensures.steps c.loop-key.invariant.2,
  rw (seen_more c.loop-key.yielded c.in-Some._key c.in-Some.record)
      (lowest_kept c.args.pid c.in-Some.record.now (seen c.loop-key.yielded) c.loop-key.lowest c.if-record-pid.false c.loop-key.invariant.3),
)

pub returns : goal.returns
returns c =
    let s = c.self.inside.records in
    let none_left = c.in-None.ensures.steps.0 in
    let all =
    sym (append-nil (seen c.loop-key.yielded)) ∙ ap (λ (es : List (ℕ × Proc)). seen c.loop-key.yielded ++ map (λ e. e.1) es) (sym none_left)
    ∙ c.loop-key.invariant.2
    ∙ ap (λ (es : List (ℕ × Proc)). map (λ e. e.1) es) (c.into_iter-key-iterator.ensures.into_iter_gives ∙ c.iter-key-items.ensures.rest)
    ∙ records_of-entries 0 s.slots ∙ c.self.view_is in
    rw all at c.loop-key.invariant.3
