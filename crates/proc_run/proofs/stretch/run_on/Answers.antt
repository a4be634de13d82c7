use Rattle.std.proofs.Common.{◌≡◌, ℕ, true, List, sym, ap, ◌∙◌, subst, arith}
use Rattle.std.specs.Option.{is_some}
use Rattle.vm_facts.specs.Answers.{ByteWrite}
use Rattle.vm_facts.specs.declared.entry.Entry.{Entry}
use Rattle.machine_state.specs.Joined.{instructions_in, last_says}
use Rattle.machine_state.specs.UserMemory.{Wrote}
use Rattle.step_units.proofs.Journals.{last_counts_few}
use Rattle.step_units.specs.Growth.{space_of_pid}
use Rattle.proc_run.specs.Calls.{own_answers}
use Rattle.proc_run.specs.Stretch.{RanOn}
use Rattle.proc_run.proofs.SoFar.{lends_there}
use Rattle.proc_run.proofs.Stretched.{none_ran, none_left, wrote_journal, ends_counted, ran_all, at_once, missed_first, missed_on}
use Rattle.proc_run.proofs.Written.{wrote_lends}
use Rattle.proc_run.proofs.stretch.run_on.Goals as goal

pub carry_on-reach-requires-clause-lends : goal.carry_on-reach-requires-clause-lends
carry_on-reach-requires-clause-lends c = lends_there c.args.m.now c.args.pid c.requires.steady c.in-Some.ensures.ready

pub ran_on-requires-clause-can : goal.ran_on-requires-clause-can
ran_on-requires-clause-can c =
    let did = c.carry_on-reach.ensures.carried in
    wrote_lends c.args.m.now c.carry_on-reach.new.m c.args.pid (space_of_pid c.args.m.now.kernel c.args.pid) did.0 did.2.machine c.carry_on-reach.ensures.goes_on
    (lends_there c.args.m.now c.args.pid c.requires.steady c.in-Some.ensures.ready)

pub ran_on-requires-clause-counts : goal.ran_on-requires-clause-counts
ran_on-requires-clause-counts c =
    let same = wrote_journal c.args.m.now c.carry_on-reach.new.m c.args.pid c.carry_on-reach.ensures.carried.0 c.carry_on-reach.ensures.carried.2 in
    ap (λ (es : List Entry). is_some (last_says (instructions_in c.args.pid) es)) (same ∙ sym c.journal.ensures) ∙ sym c.last_counts.ensures ∙ c.if-not-last_counts.false

pub ran_on-requires-clause-fits : goal.ran_on-requires-clause-fits
ran_on-requires-clause-fits c = λ count before h.
    let same = wrote_journal c.args.m.now c.carry_on-reach.new.m c.args.pid c.carry_on-reach.ensures.carried.0 c.carry_on-reach.ensures.carried.2 in
    let last = last_counts_few c.args.m.now.kernel.journal before c.args.pid count (sym same ∙ h) in
    let room = c.requires.fits in
    let few = c.carry_on-reach.ensures.few in
    omega (arith, last, room, few)

pub returns-then-count-eq0-clause-ran : goal.returns-then-count-eq0-clause-ran
returns-then-count-eq0-clause-ran c =
    subst (λ (n : ℕ). RanOn c.args.m.now c.args.pid n c.carry_on-reach.new.m) (sym c.if-count-eq0.true)
    (none_ran c.args.m.now c.carry_on-reach.new.m (space_of_pid c.args.m.now.kernel c.args.pid)
    _ c.in-Some.regs c.carry_on-reach.new.regs c.carry_on-reach.result.count c.if-count-eq0.true c.carry_on-reach.ensures.carried)

pub returns-clause-ran : goal.returns-clause-ran
returns-clause-ran c =
    let counted : is_some (last_says (instructions_in c.args.pid) c.args.m.now.kernel.journal) ≡ true =
    ap (λ (es : List Entry). is_some (last_says (instructions_in c.args.pid) es)) (sym c.journal.ensures) ∙ sym c.last_counts.ensures ∙ c.if-not-last_counts.false in
    let ends = ends_counted c.args.m.now.kernel.journal c.args.pid counted in
    let did = c.carry_on-reach.ensures.carried in
    ran_all c.args.m.now c.args.pid c.in-Some.regs c.requires.steady.clear c.in-Some.ensures.ready c.in-Some.ensures.registers ends.0 ends.1 ends.2
    c.carry_on-reach.result.count did.0 c.carry_on-reach.new.regs c.ran_on.new.self c.if-count-eq0.false did.1 did.2.each
    (at_once c.args.m.now c.carry_on-reach.new.m c.ran_on.new.self c.args.pid c.carry_on-reach.result.count did.0 c.carry_on-reach.new.regs did.2 c.ran_on.ensures.step c.ran_on.ensures.rest)

pub returns-then-count-eq0-clause-missed : goal.returns-then-count-eq0-clause-missed
returns-then-count-eq0-clause-missed c =
    missed_first c.args.m.now c.carry_on-reach.new.m c.args.pid c.in-Some.regs c.carry_on-reach.new.regs c.carry_on-reach.result.missed c.in-Some.ensures.registers
    (none_ran c.args.m.now c.carry_on-reach.new.m (space_of_pid c.args.m.now.kernel c.args.pid)
    _ c.in-Some.regs c.carry_on-reach.new.regs c.carry_on-reach.result.count c.if-count-eq0.true c.carry_on-reach.ensures.carried)
    (none_left (own_answers c.args.m.now c.args.pid) c.in-Some.regs c.carry_on-reach.new.regs c.carry_on-reach.result.count
    (λ (ws : List ByteWrite). Wrote c.args.m.now (space_of_pid c.args.m.now.kernel c.args.pid) ws c.carry_on-reach.new.m) c.if-count-eq0.true c.carry_on-reach.ensures.carried)
    c.carry_on-reach.ensures.missed

pub returns-clause-missed : goal.returns-clause-missed
returns-clause-missed c =
    let counted : is_some (last_says (instructions_in c.args.pid) c.args.m.now.kernel.journal) ≡ true =
    ap (λ (es : List Entry). is_some (last_says (instructions_in c.args.pid) es)) (sym c.journal.ensures) ∙ sym c.last_counts.ensures ∙ c.if-not-last_counts.false in
    let ends = ends_counted c.args.m.now.kernel.journal c.args.pid counted in
    let did = c.carry_on-reach.ensures.carried in
    missed_on c.args.m.now c.args.pid c.in-Some.regs c.requires.steady.clear c.in-Some.ensures.ready c.in-Some.ensures.registers ends.0 ends.1 ends.2
    c.carry_on-reach.result.count did.0 c.carry_on-reach.new.regs c.carry_on-reach.new.m c.ran_on.new.self c.if-count-eq0.false did.2.each did.2.machine
    (at_once c.args.m.now c.carry_on-reach.new.m c.ran_on.new.self c.args.pid c.carry_on-reach.result.count did.0 c.carry_on-reach.new.regs did.2 c.ran_on.ensures.step c.ran_on.ensures.rest)
    c.carry_on-reach.result.missed c.carry_on-reach.ensures.missed
