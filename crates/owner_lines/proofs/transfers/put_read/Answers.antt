-- Where the pages come from, the one that is demanded, and the lines of all.
use Rattle.std.proofs.Common.{rules}
use Rattle.run_text.proofs.Putting.{text_is, text_then, text_failed, text_more}
use Rattle.owner_lines.proofs.transfers.put_read.Goals as goal

pub returns-in_err-put : goal.returns-in_err-put
returns-in_err-put g c =
    text_failed (text_more (text_more ((text_is c.source_word.ensures c.in_err-put.ensures)) _) _) _ (search rules)

pub returns-in_err-put_page : goal.returns-in_err-put_page
returns-in_err-put_page g c =
    let through = g.met.S.Sink.leads_through in
    text_failed (text_more (text_then through (text_is c.source_word.ensures c.in_ok-put.ensures) c.in_err-put_page.ensures) _) _ (search rules)

pub returns-in_err-put-2 : goal.returns-in_err-put-2
returns-in_err-put-2 g c =
    let through = g.met.S.Sink.leads_through in
    text_failed (text_then through (text_then through (text_is c.source_word.ensures
    c.in_ok-put.ensures) c.in_ok-put_page.ensures) c.in_err-put-2.ensures) _ (search rules)

pub returns : goal.returns
returns g c =
    let through = g.met.S.Sink.leads_through in
    text_then through (text_then through (text_then through (text_is c.source_word.ensures
    c.in_ok-put.ensures) c.in_ok-put_page.ensures) c.in_ok-put-2.ensures) c.put_all_inbound.ensures
