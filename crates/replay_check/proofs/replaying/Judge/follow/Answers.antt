use Rattle.std.proofs.Common.{◌≡◌, ℕ, ◌+◌, true, List, [], ◌∷◌, ◌++◌, take, ap, ◌∙◌, subst, arith}
use Rattle.vm_facts.specs.declared.entry.Entry.{Entry}
use Rattle.replay_check.specs.Judging.{HasTaken}
use Rattle.replay_check.specs.Verdicts.{is_run}
use Rattle.replay_check.proofs.Verdicts.{good_runs, next_front, taken_as_run}
use Rattle.replay_check.proofs.replaying.Judge.follow.Goals as goal

pub loop-index-preserved : goal.loop-index-preserved
loop-index-preserved c = record {
  taken =
      λ A same taken none.
      let s = c.accepts.new.self in
      let entries : List Entry = c.args.entries.now in
      let i : ℕ = c.loop-index.index in
      let e : Entry = c.index-entries-index.result in
      let front = next_front entries i e c.loop-index-test.true c.index-entries-index.is in
      let run : is_run A (take i entries ++ e ∷ []) ≡ true = ap (is_run A) front ∙ good_runs A entries (i + 1) none (omega arith) in
      subst (HasTaken A s.machine s.last s.count) front
      (taken_as_run A s.machine s.last s.count (take i entries ++ e ∷ []) c.in_ok-accepts.field-0 run
      (c.in_ok-accepts.ensures.judged A (take i entries) (cc) (c.loop-index.invariant.taken A same taken none)));
  programs = cc;
}
