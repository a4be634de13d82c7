-- The letter fails, or the rest of the line follows it.
use Rattle.std.proofs.Common.{rules}
use Rattle.run_text.proofs.Putting.{text_then, text_failed}
use Rattle.run_text.proofs.line.put_line.Goals as goal

pub returns-in_err-put : goal.returns-in_err-put
returns-in_err-put g c = text_failed c.in_err-put.ensures _ (search rules)

pub returns : goal.returns
returns g c = text_then g.met.S.Sink.leads_through c.in_ok-put.ensures c.put_rest.ensures
