-- The bytes fail, or the line's end follows them.
use Rattle.std.proofs.Common.{rules}
use Rattle.run_text.proofs.Putting.{text_then, text_failed}
use Rattle.run_text.proofs.line.put_out_line.Goals as goal

pub returns-in_err-put_out_bytes : goal.returns-in_err-put_out_bytes
returns-in_err-put_out_bytes g c = text_failed c.in_err-put_out_bytes.ensures _ (search rules)

pub returns : goal.returns
returns g c = text_then g.met.S.Sink.leads_through c.in_ok-put_out_bytes.ensures c.put.ensures
