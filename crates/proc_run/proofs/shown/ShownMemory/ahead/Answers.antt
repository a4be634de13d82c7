use Rattle.std.proofs.Common.{◌∙◌, sym}
use Rattle.proc_run.proofs.Shows.{ahead_shown}
use Rattle.proc_run.proofs.shown.ShownMemory.ahead.Goals as goal

pub returns-then-shows : goal.returns-then-shows
returns-then-shows c =
    ahead_shown c.args.self.now.memory.machine.now.kernel c.args.self.now.memory.layout.sid c.args.self.now.pages.now c.args.address c.bytes_from.result.now c.bytes_from.ensures
    (sym c.shows.ensures ∙ c.if-shows.true)
