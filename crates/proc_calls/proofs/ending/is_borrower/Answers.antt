use Rattle.std.proofs.Common.{sym, ap, ◌∙◌}
use Rattle.std.specs.Option.{option_copied}
use Rattle.machine_state.specs.Machine.{proc_of_record}
use Rattle.kernel_model.specs.Unit.{proc_of}
use Rattle.fault_fill.proofs.Touching.{record_shown}
use Rattle.proc_calls.proofs.Callers.{not_there}
use Rattle.proc_calls.proofs.ending.is_borrower.Goals as goal

pub unreachable-requires : goal.unreachable-requires
unreachable-requires c =
    not_there (proc_of c.args.m.now.kernel c.args.pid) c.requires.there
    (record_shown c.args.m.now.kernel c.processes.result.now c.args.pid c.processes.ensures.processes (c.processes.ensures.records c.requires.running.runs)
    ∙ ap proc_of_record (sym c.get.ensures.value ∙ ap option_copied c.in-None.is))
