use Rattle.std.proofs.Common.{◌≡◌, Bool, true, false, ◌&&◌, not, refl, sym, ap, ◌∙◌}
use Rattle.machine_state.specs.Machine.{proc_shown}
use Rattle.proc_run.specs.Choosing.{can_run}
use Rattle.proc_run.proofs.Recorded.{no_record, record_runs, record_regs}
use Rattle.proc_run.proofs.choosing.ready_regs.Goals as goal
use Rattle.proc_run.proofs.choosing.ready_regs.Goals.{else-can_step-via-then-can_step+else-not-process, else-can_step-via-else-can_step}

pub returns-in_err-process-clause-none : goal.returns-in_err-process-clause-none
returns-in_err-process-clause-none c = λ e.
    no_record c.args.m.now.kernel c.processes.result.now c.args.pid c.processes.ensures.processes c.processes.ensures.residents (c.processes.ensures.records c.requires.runs)
    (sym c.in_err-process.ensures.value)

pub returns-then-not-process-clause-ready : goal.returns-then-not-process-clause-ready
returns-then-not-process-clause-ready c =
    record_runs c.args.m.now.kernel c.processes.result.now c.args.pid c.processes.ensures.processes c.processes.ensures.residents
    (c.processes.ensures.records c.requires.runs) c.in_ok-process.process.now
    (sym c.in_ok-process.ensures.value)
    ∙ ap (λ (b : Bool). b && not c.in_ok-process.process.now.out) (sym c.can_step.ensures ∙ c.if-can_step.true) ∙ ap not c.if-not-process.true

pub returns-then-not-process-clause-registers : goal.returns-then-not-process-clause-registers
returns-then-not-process-clause-registers c =
    record_regs c.args.m.now.kernel c.processes.result.now c.args.pid c.processes.ensures.processes c.processes.ensures.residents
    (c.processes.ensures.records c.requires.runs) c.in_ok-process.process.now
    (sym c.in_ok-process.ensures.value)

pub returns-else-can_step-clause-none : goal.returns-else-can_step-clause-none
returns-else-can_step-clause-none c = λ e.
    record_runs c.args.m.now.kernel c.processes.result.now c.args.pid c.processes.ensures.processes c.processes.ensures.residents
    (c.processes.ensures.records c.requires.runs) c.in_ok-process.process.now
    (sym c.in_ok-process.ensures.value) ∙ elim c.else-can_step.branch [
      | else-can_step-via-then-can_step+else-not-process w ↦ both (can_run (proc_shown c.in_ok-process.process.now)) (ap not w.if-not-process.false)
      | else-can_step-via-else-can_step w ↦ ap (λ (b : Bool). b && not c.in_ok-process.process.now.out) (sym c.can_step.ensures ∙ w.if-can_step.false)
    ]
  where
    both : (a : Bool) → not c.in_ok-process.process.now.out ≡ false → (a && not c.in_ok-process.process.now.out) ≡ false
    both true e = e
    both false e = refl
