use Rattle.std.proofs.Common.{ap, ◌∙◌}
use Rattle.std.proofs.lemmas.Result.{on_ok_weaker}
use Rattle.vm_facts.specs.declared.entry.Entry.{Entry}
use Rattle.vm_facts.specs.declared.event.Event.TheVariants as events
use Rattle.kernel_model.specs.Kernel.{note_step}
use Rattle.proc_run.specs.Stops.{StopsBefore}
use Rattle.proc_run.specs.Stepped.{StopsFrom}
use Rattle.vm_core.proofs.Noting.{stops_weaker}
use Rattle.vm_core.proofs.Asked.{audit_makes, audit_halts}
use Rattle.vm_core.proofs.lines.audit.Goals as goal
use Rattle.vm_core.specs.Lines.{LineAt}

pub returns-clause-made : goal.returns-clause-made
returns-clause-made c holds i =
    let old = c.args.m.now in
    on_ok_weaker c.note.result
    (λ k. audit_makes old c.note.new.m holds i (k ∙ ap (λ (e : Entry). note_step old.kernel e) c.owners_of-entry.ensures))
    c.note.ensures.step

pub returns-clause-stops : goal.returns-clause-stops
returns-clause-stops c holds i =
    stops_weaker c.note.result (StopsBefore c.args.m.now c.note.new.m) (StopsFrom (LineAt c.args.m.now holds i events.Audit) c.args.m.now c.note.new.m i)
    (audit_halts c.args.m.now c.note.new.m holds i) c.note.ensures.stops
