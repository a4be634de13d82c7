-- The number, the registers, the letters of the codes, and the line's end.
use Rattle.std.proofs.Common.{rules}
use Rattle.run_text.proofs.Putting.{text_then, text_failed, text_more}
use Rattle.owner_lines.proofs.processes.put_regs.Goals as goal

pub returns-in_err-put_named : goal.returns-in_err-put_named
returns-in_err-put_named g c =
    text_failed (text_more (text_more c.in_err-put_named.ensures _) _) _ (search rules)

pub returns-in_err-put_named-2 : goal.returns-in_err-put_named-2
returns-in_err-put_named-2 g c =
    let through = g.met.S.Sink.leads_through in
    text_failed (text_more (text_then through c.in_ok-put_named.ensures c.in_err-put_named-2.ensures) _) _ (search rules)

pub returns-in_err-put_codes : goal.returns-in_err-put_codes
returns-in_err-put_codes g c =
    let through = g.met.S.Sink.leads_through in
    text_failed (text_then through (text_then through c.in_ok-put_named.ensures c.in_ok-put_named-2.ensures) c.in_err-put_codes.ensures) _ (search rules)

pub returns : goal.returns
returns g c =
    let through = g.met.S.Sink.leads_through in
    text_then through (text_then through (text_then through c.in_ok-put_named.ensures c.in_ok-put_named-2.ensures) c.in_ok-put_codes.ensures) c.put.ensures
