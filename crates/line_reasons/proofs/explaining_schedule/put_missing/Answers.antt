use Rattle.command_words.proofs.Joining.{joined}
use Rattle.line_reasons.proofs.explaining_schedule.put_missing.Goals as goal

pub returns : goal.returns
returns c =
    joined _ _ _ _ _ _ _ _ c.argument_name.ensures c.in_ok-extend_from_slice.ensures.items c.in_ok-extend_from_slice-2.ensures.items c.in_ok-put_range.ensures
