use Rattle.std.proofs.Common.{ℕ, Option, Some, sym, subst}
use Rattle.vm_facts.specs.declared.entry.Entry.{Entry}
use Rattle.replay_check.specs.declared.expecting.Expected.TheVariants.{Comes}
use Rattle.replay_check.specs.Expecting.{run_length, IsExpected, IsExpectedOf}
use Rattle.replay_check.proofs.Misfits.{refused_due, refused_self, refused_expected, wrote_due, wrote_expected}
use Rattle.replay_check.proofs.replaying.Judge.expected.Goals as goal

pub returns-in_ok-next_of-in-Refused : goal.returns-in_ok-next_of-in-Refused
returns-in_ok-next_of-in-Refused c = λ A point same at.
    let s = c.args.self.now in
    let told = c.in_ok-next_of-in-Refused.field-0 in
    subst (λ (o : Option ℕ). IsExpectedOf A point c.args.entry.now o (Some told)) (sym (refused_due A s.machine s.last c.in-Refused.pid point c.args.entry.now c.in-Refused.is at))
    (refused_expected A point s.machine s.last c.in-Refused.pid (run_length c.args.entry.now) told c.in-Refused.is at
    (c.in_ok-next_of-in-Refused.ensures.expected A point same (refused_self c.in-Refused.pid s.last c.in-Refused.is) at))

pub returns-in-Wrote : goal.returns-in-Wrote
returns-in-Wrote c = λ A point same at.
    let s = c.args.self.now in
    subst (λ (o : Option ℕ). IsExpectedOf A point c.args.entry.now o (Some (Comes c.call_entry.result)))
    (sym (wrote_due A s.machine s.last c.in-Wrote.pid c.in-Wrote.call c.in-Wrote.regs point c.args.entry.now c.in-Wrote.is at))
    (subst (λ (e : Entry). IsExpected A point c.in-Wrote.pid (run_length c.args.entry.now) (Comes e)) (sym c.call_entry.ensures)
    (wrote_expected A point s.machine s.last c.in-Wrote.pid (run_length c.args.entry.now) c.in-Wrote.call c.in-Wrote.regs c.in-Wrote.is at))
