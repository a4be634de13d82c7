-- The numbers fail, or the line's end follows them.
use Rattle.std.proofs.Common.{rules}
use Rattle.run_text.proofs.Putting.{text_then, text_failed}
use Rattle.run_text.proofs.line.put_rest.Goals as goal

pub returns-in_err-put_numbers : goal.returns-in_err-put_numbers
returns-in_err-put_numbers g c = text_failed c.in_err-put_numbers.ensures _ (search rules)

pub returns : goal.returns
returns g c = text_then g.met.S.Sink.leads_through c.in_ok-put_numbers.ensures c.put.ensures
