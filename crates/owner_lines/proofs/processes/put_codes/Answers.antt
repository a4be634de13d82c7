-- The letters in their order.
use Rattle.std.proofs.Common.{rules}
use Rattle.run_text.proofs.Putting.{text_then, text_failed, text_more}
use Rattle.owner_lines.proofs.processes.put_codes.Goals as goal

pub returns-in_err-put_if : goal.returns-in_err-put_if
returns-in_err-put_if g c =
    text_failed (text_more (text_more c.in_err-put_if.ensures _) _) _ (search rules)

pub returns-in_err-put_if-2 : goal.returns-in_err-put_if-2
returns-in_err-put_if-2 g c =
    let through = g.met.S.Sink.leads_through in
    text_failed (text_more (text_then through c.in_ok-put_if.ensures c.in_err-put_if-2.ensures) _) _ (search rules)

pub returns-in_err-put_if-3 : goal.returns-in_err-put_if-3
returns-in_err-put_if-3 g c =
    let through = g.met.S.Sink.leads_through in
    text_failed (text_then through (text_then through c.in_ok-put_if.ensures c.in_ok-put_if-2.ensures) c.in_err-put_if-3.ensures) _ (search rules)

pub returns : goal.returns
returns g c =
    let through = g.met.S.Sink.leads_through in
    text_then through (text_then through (text_then through c.in_ok-put_if.ensures c.in_ok-put_if-2.ensures) c.in_ok-put_if-3.ensures) c.put_if-4.ensures
