use Rattle.std.proofs.Common.{◌≡◌, ◌==◌, ◌&&◌, Bool, true, false, None, refl, sym, ap, ◌∙◌, subst, arith}
use Rattle.std.proofs.lemmas.Bool.Decides.{nat_tests}
use Rattle.flat_state.specs.Flat.{FlatState}
use Rattle.vm_facts.specs.declared.entry.Entry.TheVariants.{Call}
use Rattle.flat_model.specs.Step.{call_entry}
use Rattle.flat_model.specs.Run.{same_entry}
use Rattle.replay_check.specs.declared.replaying.Last.TheVariants.{Other}
use Rattle.replay_check.specs.Judging.{IsAt, refused_in}
use Rattle.replay_check.proofs.JudgingOutcomes.{called_at, called_shut}
use Rattle.replay_check.proofs.JudgingWrites.{answered_at}
use Rattle.replay_check.proofs.replaying.Judge.called.Goals as goal

pub returns-then-of-pid-clause-verdict : goal.returns-then-of-pid-clause-verdict
returns-then-of-pid-clause-verdict c = λ A point same at.
    let mine : (c.in-Wrote.of == c.args.pid) ≡ true = grind (arith, nat_tests) in
    answered_at A point c.args.self.now.machine c.args.self.now.last Other c.in-Wrote.of c.args.pid c.args.number c.args.r0 c.args.r1 c.args.carry c.is_answer.result c.in-Wrote.call c.in-Wrote.regs
    c.in-Wrote.is refl at
    (c.is_answer.ensures c.args.pid
    ∙ sym (ap (λ (b : Bool). b && same_entry (call_entry c.args.pid c.in-Wrote.call c.in-Wrote.regs) (Call c.args.pid c.args.number c.args.carry c.args.r0 c.args.r1)) mine))

pub returns-else-of-pid-clause-verdict : goal.returns-else-of-pid-clause-verdict
returns-else-of-pid-clause-verdict c = λ A point same at.
    let other : (c.in-Wrote.of == c.args.pid) ≡ false = grind (arith, nat_tests) in
    answered_at A point c.args.self.now.machine c.args.self.now.last Other c.in-Wrote.of c.args.pid c.args.number c.args.r0 c.args.r1 c.args.carry
    (c.in-Wrote.of == c.args.pid) c.in-Wrote.call c.in-Wrote.regs
    c.in-Wrote.is refl at
    (other
    ∙ sym (ap (λ (b : Bool). b && same_entry (call_entry c.args.pid c.in-Wrote.call c.in-Wrote.regs) (Call c.args.pid c.args.number c.args.carry c.args.r0 c.args.r1)) other))

pub returns-in_default-take_refused : goal.returns-in_default-take_refused
returns-in_default-take_refused c = record {
  verdict = λ A point same at.
      let taken : refused_in c.args.pid c.args.self.now.last ≡ None = cc in
      called_shut A point c.args.self.now.machine c.take_refused.new.self.machine c.args.self.now.last c.take_refused.new.self.last c.args.pid c.args.number c.args.r0 c.args.r1 c.args.carry
      taken (λ q call regs is. c.in_default.not-Wrote q call regs is) at;
  programs = c.take_refused.ensures.programs;
}

pub returns-clause-verdict : goal.returns-clause-verdict
returns-clause-verdict c = λ A point same at.
    let mine = c.take_refused.new.self in
    let images : A.images ≡ mine.programs.now = cc in
    called_at A point mine.machine c.step.new.self.machine c.args.self.now.last c.step.new.self.last c.args.pid c.args.number c.args.r0 c.args.r1 c.args.carry c.in-Some.refused
    c.in_ok-did.did c.is_replied.result
    (sym c.in-Some.ensures.refused) (c.step.ensures.last ∙ c.in-Some.ensures.other)
    (subst (λ (F : FlatState). IsAt A F c.args.self.now.last point) (sym c.take_refused.ensures.machine) at)
    (c.in_ok-did.ensures.entries A images) (c.in_ok-did.ensures.after A images) (c.is_replied.ensures c.args.pid)
