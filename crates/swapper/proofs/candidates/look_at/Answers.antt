use Rattle.std.proofs.Common.{sym, ap, ◌∙◌}
use Rattle.std.specs.Option.{option_copied}
use Rattle.swapper.proofs.Numbers.{placed, seen_from}
use Rattle.swapper.proofs.candidates.look_at.Goals as goal

pub returns-clause-runner : goal.returns-clause-runner
returns-clause-runner c =
    seen_from c.args.processes.now c.args._next c.args.pid c.in_ok-process.process.now c.in-Holds.sid c.requires.records
    (sym c.get.ensures.value ∙ ap option_copied c.in_ok-process.was) c.in-Holds.is

pub returns-clause-placed : goal.returns-clause-placed
returns-clause-placed c = λ p h.
    placed p c.args.processes.now c.args._next c.args.pid c.in_ok-process.process.now c.in-Holds.sid h c.requires.low c.requires.high
    (sym c.get.ensures.value ∙ ap option_copied c.in_ok-process.was) c.in-Holds.is
