use Rattle.std.proofs.Common.{ℕ, ap, sym, ◌∙◌, subst}
use Rattle.std.specs.Prelude.{IfSome}
use Rattle.kernel_model.specs.ChangeStep.{space_of_life}
use Rattle.machine_state.specs.Going.{CanGoOn}
use Rattle.machine_state.specs.Machine.{Standing}
use Rattle.machine_state.specs.UserMemory.{kernel_answers}
use Rattle.machine_state.specs.declared.user_memory.Layout.{Layout}
use Rattle.machine_state.proofs.WritesGoOn.{writes_go}
use Rattle.step_units.specs.Growth.{space_of_pid}
use Rattle.proc_run.specs.Stretch.{MissesByte}
use Rattle.proc_run.proofs.stretch.carry_on.Goals as goal

pub returns-clause-goes_on : goal.returns-clause-goes_on
returns-clause-goes_on c =
    let w = c.stretch.ensures.carried.2 in
    subst CanGoOn (sym (c.m-1.given.1 (sym (w.0 ∙ c.memory.ensures.same_reference)))) (writes_go _ _ _ _ w.2 (subst CanGoOn (sym c.memory.ensures.now) c.requires.ready))

pub returns-clause-missed : goal.returns-clause-missed
returns-clause-missed c =
    let w = c.stretch.ensures.carried.2 in
    subst (λ (m : Standing). IfSome c.stretch.result.missed (MissesByte (kernel_answers m.kernel (space_of_pid c.args.m.now.kernel c.args.pid)) c.stretch.new.regs))
    (sym (c.m-1.given.1 (sym (w.0 ∙ c.memory.ensures.same_reference))))
    (subst (λ (sid : ℕ). IfSome c.stretch.result.missed (MissesByte (kernel_answers c.stretch.new.memory.machine.now.kernel sid) c.stretch.new.regs))
    (ap (λ (l : Layout). l.sid) w.1 ∙ sym (ap space_of_life c.memory.ensures.space)) c.stretch.ensures.missed)
