-- A line that begins as a part's: it has no end, its text is of no part, or it is of one.
use Rattle.repage_command.proofs.TraceLines.{no_part, no_end, line_none, line_some}
use Rattle.repage_command.proofs.trace_reader.read_part.Goals as goal

pub returns-in_default : goal.returns-in_default
returns-in_default c = no_part c.args.line.now c.requires (λ x h. no_end c.args.line.now c.in_default.ensures x)

pub returns-in_default-read_part_text : goal.returns-in_default-read_part_text
returns-in_default-read_part_text c =
    no_part c.args.line.now c.requires (line_none c.in-Some.text.now c.args.line.now c.in-Some.ensures c.in_default-read_part_text.ensures)

pub returns : goal.returns
returns c =
    (c.in-Some-read_part_text.ensures.0, line_some c.in-Some.text.now c.args.line.now c.in-Some.ensures c.in-Some-read_part_text.part c.in-Some-read_part_text.ensures.1)
