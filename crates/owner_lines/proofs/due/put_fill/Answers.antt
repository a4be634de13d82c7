-- The page, its parent's, and the line's end.
use Rattle.std.proofs.Common.{rules}
use Rattle.run_text.proofs.Putting.{text_then, text_failed, text_more}
use Rattle.owner_lines.proofs.due.put_fill.Goals as goal

pub returns-in_err-put_word_and_page : goal.returns-in_err-put_word_and_page
returns-in_err-put_word_and_page g c =
    text_failed (text_more c.in_err-put_word_and_page.ensures _) _ (search rules)

pub returns-in_err-put_parent : goal.returns-in_err-put_parent
returns-in_err-put_parent g c =
    let through = g.met.S.Sink.leads_through in
    text_failed (text_then through c.in_ok-put_word_and_page.ensures c.in_err-put_parent.ensures) _ (search rules)

pub returns : goal.returns
returns g c =
    let through = g.met.S.Sink.leads_through in
    text_then through (text_then through c.in_ok-put_word_and_page.ensures c.in_ok-put_parent.ensures) c.put.ensures
