use Rattle.std.proofs.Common.{slice_get, ap, ◌∙◌}
use Rattle.grade_command.proofs.Lookups.{got}
use Rattle.grade_command.proofs.judging.entry_at.Goals as goal

pub returns : goal.returns
returns c =
    got c.get.result c.args.journal.now c.saturating_sub.result c.get.ensures.lookup.1 c.get.ensures.lookup.3
    ∙ ap (slice_get c.args.journal.now) c.saturating_sub.ensures
