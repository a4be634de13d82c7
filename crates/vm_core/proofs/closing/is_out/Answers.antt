use Rattle.std.proofs.Common.{sym, ◌∙◌}
use Rattle.vm_core.proofs.Outs.{none_there, none_held, out_held}
use Rattle.vm_core.proofs.closing.is_out.Goals as goal

pub returns-in_default-clause-resident : goal.returns-in_default-clause-resident
returns-in_default-clause-resident c = λ e.
    none_there c.args.m.now.kernel c.processes.result.now c.args.pid c.processes.ensures.processes c.processes.ensures.residents (c.processes.ensures.records c.requires.runs)
    (sym c.in_default.ensures.value)

pub returns-in_default-state-clause-resident : goal.returns-in_default-state-clause-resident
returns-in_default-state-clause-resident c = λ e.
    none_held c.args.m.now.kernel c.processes.result.now c.args.pid c.processes.ensures.processes c.processes.ensures.residents (c.processes.ensures.records c.requires.runs) c.in-Some.process.now
    (sym c.in-Some.ensures.value) c.in_default-state.not-Holds

pub returns-clause-out : goal.returns-clause-out
returns-clause-out c = λ e.
    sym (out_held c.args.m.now.kernel c.processes.result.now c.args.pid c.processes.ensures.processes c.processes.ensures.residents (c.processes.ensures.records c.requires.runs) c.in-Some.process.now
    c.in-Holds.field-0 (sym c.in-Some.ensures.value) c.in-Holds.is) ∙ e

pub returns-clause-resident : goal.returns-clause-resident
returns-clause-resident c = λ e sid h.
    sym (out_held c.args.m.now.kernel c.processes.result.now c.args.pid c.processes.ensures.processes c.processes.ensures.residents (c.processes.ensures.records c.requires.runs) c.in-Some.process.now
    c.in-Holds.field-0 (sym c.in-Some.ensures.value) c.in-Holds.is) ∙ e
