-- The number, what the process has, and the line's end.
use Rattle.std.proofs.Common.{rules}
use Rattle.run_text.proofs.Putting.{text_then, text_failed, text_more}
use Rattle.owner_lines.proofs.processes.put_process.Goals as goal

pub returns-in_err-put_named : goal.returns-in_err-put_named
returns-in_err-put_named g c =
    text_failed (text_more c.in_err-put_named.ensures _) _ (search rules)

pub returns-in_err-put_life : goal.returns-in_err-put_life
returns-in_err-put_life g c =
    let through = g.met.S.Sink.leads_through in
    text_failed (text_then through c.in_ok-put_named.ensures c.in_err-put_life.ensures) _ (search rules)

pub returns : goal.returns
returns g c =
    let through = g.met.S.Sink.leads_through in
    text_then through (text_then through c.in_ok-put_named.ensures c.in_ok-put_life.ensures) c.put.ensures
