use Rattle.std.proofs.Common.{slice_get, ap, ◌∙◌}
use Rattle.repage_command.proofs.Lookups.{got}
use Rattle.repage_command.proofs.judging.line_at.Goals as goal

pub returns : goal.returns
returns c =
    got c.get.result c.args.lines.now c.saturating_sub.result c.get.ensures.lookup.1 c.get.ensures.lookup.3
    ∙ ap (slice_get c.args.lines.now) c.saturating_sub.ensures
