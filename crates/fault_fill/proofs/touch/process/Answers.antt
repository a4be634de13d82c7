use Rattle.std.proofs.Common.{sym, ap, ◌∙◌}
use Rattle.std.specs.Option.{option_copied}
use Rattle.clock_hands.specs.Machine.{proc_of_record}
use Rattle.fault_fill.proofs.Touching.{record_shown, not_there}
use Rattle.fault_fill.proofs.touch.process.Goals as goal

pub unreachable-requires : goal.unreachable-requires
unreachable-requires c =
    not_there c.args.m.now.kernel c.args.pid c.requires.lends
    (record_shown c.args.m.now.kernel c.processes.result.now c.args.pid c.processes.ensures.processes (c.processes.ensures.records c.requires.running.runs)
    ∙ ap proc_of_record (sym c.get.ensures.value ∙ ap option_copied c.in-None.is))

pub returns : goal.returns
returns c =
    record_shown c.args.m.now.kernel c.processes.result.now c.args.pid c.processes.ensures.processes (c.processes.ensures.records c.requires.running.runs)
    ∙ ap proc_of_record (sym c.get.ensures.value ∙ ap option_copied c.in-Some.is)
