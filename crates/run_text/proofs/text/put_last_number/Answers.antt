-- The number fails, or the line's end follows it.
use Rattle.std.proofs.Common.{rules}
use Rattle.run_text.proofs.Putting.{text_then, text_failed}
use Rattle.run_text.proofs.text.put_last_number.Goals as goal

pub returns-in_err-put_large_number : goal.returns-in_err-put_large_number
returns-in_err-put_large_number g c = text_failed c.in_err-put_large_number.ensures _ (search rules)

pub returns : goal.returns
returns g c = text_then g.met.S.Sink.leads_through c.in_ok-put_large_number.ensures c.put.ensures
