-- All passed, and then what waits is written.
use Rattle.std.proofs.Common.{rules}
use Rattle.run_text.proofs.Putting.{text_written, text_lost}
use Rattle.run_text.proofs.text.write_whole.Goals as goal

pub returns-in_err-put_text_and : goal.returns-in_err-put_text_and
returns-in_err-put_text_and g c = text_lost c.new-out.ensures c.in_err-put_text_and.ensures (search rules) (search rules)

pub returns : goal.returns
returns g c = text_written g.met.S.Sink.leads_through c.new-out.ensures c.in_ok-put_text_and.ensures c.flush.ensures (search rules)
