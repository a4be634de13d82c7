use Rattle.std.proofs.Common.{refl, arith, ap, inl, inr, ◌∙◌}
use Rattle.slab.proofs.SlabLemmas.{Contains-cons, Contains-cons_cases, Contains-entries}
use Rattle.proc_table.proofs.table.key_of.Goals as goal

pub loop-key-init : goal.loop-key-init
loop-key-init c =
    let left = c.into_iter-key-iterator.ensures.into_iter_gives ∙ c.iter-key-items.ensures.rest in (
      tt,
      tt,
      λ key p there its. rw left ((Contains-entries c.args.records.now key p).1 there),
      λ key p listed. (Contains-entries c.args.records.now key p).0 (rw left at listed),
    )

pub loop-key-preserved : goal.loop-key-preserved
loop-key-preserved c =
    let at = c.in-Some.ensures.steps in (
      tt,
      tt,
      λ key p there its. elim (Contains-cons_cases _ _ _ (rw at at (c.loop-key.invariant.2 key p there its))) [
        | inl same ↦ elim (c.if-record-pid.false (ap (λ e. e.1.pid) same ∙ its)) [ ]
        | inr rest ↦ rest
      ],
      λ key p listed. c.loop-key.invariant.3 key p (rw at (Contains-cons _ _ _ listed)),
    )

pub returns-then-record-pid-clause-found : goal.returns-then-record-pid-clause-found
returns-then-record-pid-clause-found c = record {
  record_there = c.in-Some.record.now;
  there = c.loop-key.invariant.3 c.in-Some.key c.in-Some.record.now (rw c.in-Some.ensures.steps (0, omega arith, refl));
  its = c.if-record-pid.true;
}
