-- The letter and the page fail, or the rest of the line follows them.
use Rattle.std.proofs.Common.{rules}
use Rattle.run_text.proofs.Putting.{text_then, text_failed}
use Rattle.run_text.proofs.line.put_page_line.Goals as goal

pub returns-in_err-put_page_head : goal.returns-in_err-put_page_head
returns-in_err-put_page_head g c = text_failed c.in_err-put_page_head.ensures _ (search rules)

pub returns : goal.returns
returns g c = text_then g.met.S.Sink.leads_through c.in_ok-put_page_head.ensures c.put_rest.ensures
