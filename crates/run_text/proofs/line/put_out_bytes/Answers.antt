-- What stands before the bytes fails, or they follow it.
use Rattle.std.proofs.Common.{rules}
use Rattle.run_text.proofs.Putting.{text_then, text_failed}
use Rattle.run_text.proofs.line.put_out_bytes.Goals as goal

pub returns-in_err-put_out_head : goal.returns-in_err-put_out_head
returns-in_err-put_out_head g c = text_failed c.in_err-put_out_head.ensures _ (search rules)

pub returns : goal.returns
returns g c = text_then g.met.S.Sink.leads_through c.in_ok-put_out_head.ensures c.put_hex.ensures
