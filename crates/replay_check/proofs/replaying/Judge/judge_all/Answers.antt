use Rattle.std.proofs.Common.{◌≡◌, ℕ, ◌+◌, Bool, false, List, [], ◌∷◌, ◌++◌, take, sym, ap, subst}
use Rattle.vm_facts.specs.declared.entry.Entry.{Entry}
use Rattle.replay_check.specs.Judging.{HasTaken, HasJudged}
use Rattle.replay_check.specs.Verdicts.{is_run, verdict_of}
use Rattle.replay_check.proofs.Verdicts.{none_bad, first_one_bad, next_front, runs_more, runs_none, taken_run}
use Rattle.replay_check.proofs.replaying.Judge.judge_all.Goals as goal

pub loop-index-init : goal.loop-index-init
loop-index-init c = record {
  taken = λ A same taken. let s = c.args.self.now in (taken, runs_none A c.args.entries.now (taken_run A s.machine s.last s.count [] taken));
  programs = cc;
}

pub loop-index-preserved : goal.loop-index-preserved
loop-index-preserved c = record {
  taken =
      λ A same taken.
      let s = c.accepts.new.self in
      let entries : List Entry = c.args.entries.now in
      let i : ℕ = c.loop-index.index in
      let e : Entry = c.index-entries-index.result in
      let so = c.loop-index.invariant.taken A same taken in
      let more : HasTaken A s.machine s.last s.count (take (i + 1) entries) =
      subst (HasTaken A s.machine s.last s.count) (next_front entries i e c.loop-index-test.true c.index-entries-index.is)
      (subst (λ (b : Bool). HasJudged A b s.machine s.last s.count (take i entries ++ e ∷ [])) c.if-not-branch.false
      (c.in_ok-accepts.ensures.judged A (take i entries) (cc) so.0)) in
      (more, runs_more A entries i so.1 (taken_run A s.machine s.last s.count (take (i + 1) entries) more));
  programs = cc;
}

pub returns-then-not-branch : goal.returns-then-not-branch
returns-then-not-branch c = λ A same taken.
    let s = c.accepts.new.self in
    let entries : List Entry = c.args.entries.now in
    let i : ℕ = c.loop-index.index in
    let e : Entry = c.index-entries-index.result in
    let so = c.loop-index.invariant.taken A same taken in
    let bad : is_run A (take (i + 1) entries) ≡ false =
    subst (λ (es : List Entry). is_run A es ≡ false) (next_front entries i e c.loop-index-test.true c.index-entries-index.is)
    (subst (λ (b : Bool). HasJudged A b s.machine s.last s.count (take i entries ++ e ∷ [])) c.if-not-branch.true
    (c.in_ok-accepts.ensures.judged A (take i entries) (cc) so.0)) in
    sym (ap verdict_of (first_one_bad A entries i c.loop-index-test.true so.1 bad))

pub returns : goal.returns
returns c = λ A same taken.
    sym (ap verdict_of (none_bad A c.args.entries.now c.loop-index.index c.loop-index-test.false (c.loop-index.invariant.taken A same taken).1))
