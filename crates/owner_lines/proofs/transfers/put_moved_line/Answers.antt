-- The page, its frame, its block, and the line's end.
use Rattle.std.proofs.Common.{rules, [], ◌∷◌, codes}
use Rattle.run_text.specs.Text.{parts, page_text}
use Rattle.owner_lines.specs.Owners.{block_if}
use Rattle.run_text.proofs.Putting.{text_then, text_failed, text_more}
use Rattle.owner_lines.proofs.transfers.put_moved_line.Goals as goal

pub returns-in_err-put : goal.returns-in_err-put
returns-in_err-put g c =
    let frame = parts (c.args.frame ∷ []) in
    text_failed (text_more (text_more (text_more c.in_err-put.ensures (page_text c.args.page.now)) frame) (block_if c.args.block)) (codes "\n") (search rules)

pub returns-in_err-put_page : goal.returns-in_err-put_page
returns-in_err-put_page g c =
    let through = g.met.S.Sink.leads_through in
    text_failed (text_more (text_more (text_then through c.in_ok-put.ensures c.in_err-put_page.ensures) _) _) _ (search rules)

pub returns-in_err-put_named : goal.returns-in_err-put_named
returns-in_err-put_named g c =
    let through = g.met.S.Sink.leads_through in
    text_failed (text_more (text_then through (text_then through c.in_ok-put.ensures c.in_ok-put_page.ensures) c.in_err-put_named.ensures) _) _ (search rules)

pub returns-in_err-put_block_if : goal.returns-in_err-put_block_if
returns-in_err-put_block_if g c =
    let through = g.met.S.Sink.leads_through in
    text_failed (text_then through (text_then through (text_then through
    c.in_ok-put.ensures c.in_ok-put_page.ensures) c.in_ok-put_named.ensures) c.in_err-put_block_if.ensures) _ (search rules)

pub returns : goal.returns
returns g c =
    let through = g.met.S.Sink.leads_through in
    text_then through (text_then through (text_then through (text_then through
    c.in_ok-put.ensures c.in_ok-put_page.ensures) c.in_ok-put_named.ensures) c.in_ok-put_block_if.ensures) c.put-2.ensures
