use Rattle.std.proofs.Common.{◌≡◌, ◌↔◌, ℕ, true, sym, ap, subst}
use Rattle.std.specs.Prelude.{IfOk}
use Rattle.user_vax.specs.Program.{run}
use Rattle.user_vax.specs.Instruction.{instruction, answer_of}
use Rattle.user_vax.specs.declared.stepped.Stepped.TheVariants as steps
use Rattle.kernel_model.specs.ChangeStep.{space_of_life}
use Rattle.machine_state.specs.Machine.{Standing}
use Rattle.step_units.specs.Growth.{space_of_pid}
use Rattle.proc_run.specs.Shown.{shown_in}
use Rattle.proc_run.proofs.seeking.completes_shown.Goals as goal

pub returns-clause-value : goal.returns-clause-value
returns-clause-value c =
    let tells = λ (m : Standing) (sid : ℕ). IfOk c.completes.result
    (λ done. (done ≡ true) ↔ (answer_of (run (shown_in m.kernel sid c.args.pages.now) (instruction c.args.regs.now)) ≡ steps.Done)) in
    let held : c.memory.result.layout.sid ≡ space_of_pid c.args.m.now.kernel c.args.pid = sym (ap space_of_life c.memory.ensures.space) in
    subst (λ (sid : ℕ). tells c.args.m.now sid) held (subst (λ (m : Standing). tells m c.memory.result.layout.sid) c.memory.ensures.now c.completes.ensures)
