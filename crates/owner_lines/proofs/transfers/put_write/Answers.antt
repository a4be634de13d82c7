-- The word, and the lines of all pages.
use Rattle.std.proofs.Common.{rules}
use Rattle.run_text.proofs.Putting.{text_then, text_failed}
use Rattle.owner_lines.proofs.transfers.put_write.Goals as goal

pub returns-in_err-put : goal.returns-in_err-put
returns-in_err-put g c =
    text_failed c.in_err-put.ensures _ (search rules)

pub returns : goal.returns
returns g c =
    let through = g.met.S.Sink.leads_through in
    text_then through c.in_ok-put.ensures c.put_all_outbound.ensures
