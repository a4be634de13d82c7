-- All passed, and then what waits is written.
use Rattle.std.proofs.Common.{rules}
use Rattle.run_text.proofs.Putting.{text_written, text_lost}
use Rattle.owner_lines.proofs.writing.write_lines.Goals as goal

pub returns-in_err-put_lines : goal.returns-in_err-put_lines
returns-in_err-put_lines g c = text_lost c.new-out.ensures c.in_err-put_lines.ensures (search rules) (search rules)

pub returns : goal.returns
returns g c = text_written g.met.S.Sink.leads_through c.new-out.ensures c.in_ok-put_lines.ensures c.flush.ensures (search rules)
