-- Word, page and mark, one after the other.
use Rattle.std.proofs.Common.{rules}
use Rattle.run_text.proofs.Putting.{text_then, text_failed, text_more}
use Rattle.owner_lines.proofs.frames.put_kept.Goals as goal

pub returns-in_err-put : goal.returns-in_err-put
returns-in_err-put g c =
    text_failed (text_more c.in_err-put.ensures _) _ (search rules)

pub returns-in_err-put_page : goal.returns-in_err-put_page
returns-in_err-put_page g c =
    let through = g.met.S.Sink.leads_through in
    text_failed (text_then through c.in_ok-put.ensures c.in_err-put_page.ensures) _ (search rules)

pub returns : goal.returns
returns g c =
    let through = g.met.S.Sink.leads_through in
    text_then through (text_then through c.in_ok-put.ensures c.in_ok-put_page.ensures) c.put_if.ensures
