-- A line that begins as no part's, and is of no entry.
use Rattle.repage_command.proofs.TraceLines.{no_entry}
use Rattle.repage_command.proofs.trace_reader.read_entry.Goals as goal

pub returns-in-None : goal.returns-in-None
returns-in-None c = no_entry c.args.line.now c.requires (rw c.in-None.is at c.in_ok-entry.ensures)
