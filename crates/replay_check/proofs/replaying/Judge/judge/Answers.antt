use Rattle.std.proofs.Common.{[], Some, refl, sym, ap, ◌∙◌, subst}
use Rattle.vm_facts.specs.declared.entry.Entry.{Entry}
use Rattle.vm_facts.specs.declared.entry.Entry.TheVariants.{Out, Grew, Call, Sleeps, Refused, Ended}
use Rattle.flat_state.specs.Journal.{units_with}
use Rattle.flat_model.specs.Run.{flat_units}
use Rattle.replay_check.specs.Judging.{IsVerdict}
use Rattle.replay_check.proofs.Running.{unit_of, skipped}
use Rattle.replay_check.proofs.replaying.Judge.judge.Goals as goal

pub returns-in-Ran-clause-verdict : goal.returns-in-Ran-clause-verdict
returns-in-Ran-clause-verdict c = λ A point same at.
    subst (λ (e : Entry). IsVerdict A c.ran.result c.ran.new.self.machine c.ran.new.self.last (flat_units A (Some point) (units_with e []))) (sym c.in-Ran.is)
    (c.ran.ensures.verdict A point at)

pub returns-in-Out-clause-verdict : goal.returns-in-Out-clause-verdict
returns-in-Out-clause-verdict c = λ A point same at.
    rw (unit_of A point c.args.entry.now (Out c.in-Out.pid c.as_slice.result.now) (c.in-Out.is ∙ ap (Out c.in-Out.pid) (sym c.as_slice.ensures)) refl) (c.wrote.ensures.verdict A point same at)

pub returns-in-Grew-clause-verdict : goal.returns-in-Grew-clause-verdict
returns-in-Grew-clause-verdict c = λ A point same at.
    rw (unit_of A point c.args.entry.now (Grew c.in-Grew.pid c.in-Grew.pages) c.in-Grew.is refl) (c.grew.ensures.verdict A point same at)

pub returns-in-Call-clause-verdict : goal.returns-in-Call-clause-verdict
returns-in-Call-clause-verdict c = λ A point same at.
    rw (unit_of A point c.args.entry.now (Call c.in-Call.pid c.in-Call.number c.in-Call.carry c.in-Call.r0 c.in-Call.r1) c.in-Call.is refl) (c.called.ensures.verdict A point same at)

pub returns-in-Refused-clause-verdict : goal.returns-in-Refused-clause-verdict
returns-in-Refused-clause-verdict c = λ A point same at.
    rw (unit_of A point c.args.entry.now (Refused c.in-Refused.pid) c.in-Refused.is refl) (c.refused.ensures.verdict A point at)

pub returns-in-Sleeps-clause-verdict : goal.returns-in-Sleeps-clause-verdict
returns-in-Sleeps-clause-verdict c = λ A point same at.
    rw (unit_of A point c.args.entry.now (Sleeps c.in-Sleeps.pid) c.in-Sleeps.is refl) (c.slept.ensures.verdict A point same at)

pub returns-in-Ended-clause-verdict : goal.returns-in-Ended-clause-verdict
returns-in-Ended-clause-verdict c = λ A point same at.
    rw (unit_of A point c.args.entry.now (Ended c.in-Ended.pid c.in-Ended.status) c.in-Ended.is refl) (c.ended.ensures.verdict A point same at)

pub returns-in_default : goal.returns-in_default
returns-in_default c = record {
  verdict =
      λ A point same at.
      let n = c.in_default in
      rw (skipped A point c.args.entry.now n.not-Ran n.not-Out n.not-Grew n.not-Call n.not-Refused n.not-Sleeps n.not-Ended) at;
  programs = refl;
}
