use Rattle.std.proofs.Common.{rules, sym, ap, ◌∙◌}
use Rattle.std.specs.Option.{option_copied}
use Rattle.pager_tests.proofs.Readiness.{none_due}
use Rattle.step_units.proofs.CallersSeen.{is_caller}
use Rattle.pager_tests.proofs.calls.see_caller.Goals as goal

pub returns : goal.returns
returns g c =
    is_caller c.args.m.now c.processes.result.now c.expect-process.result.now 1 1 c.requires.ready (none_due c.args.m.now.kernel.place.due (search rules))
    c.processes.ensures.processes c.processes.ensures.residents (c.processes.ensures.records c.requires.ready.running.runs) (sym c.get.ensures.value ∙ ap option_copied c.expect-process.ensures)
    (search rules) (search rules)
