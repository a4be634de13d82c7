-- The place, and the page after it.
use Rattle.std.proofs.Common.{rules}
use Rattle.run_text.proofs.Putting.{text_then, text_failed}
use Rattle.owner_lines.proofs.frames.put_free.Goals as goal

pub returns-in_err-put_named : goal.returns-in_err-put_named
returns-in_err-put_named g c =
    text_failed c.in_err-put_named.ensures _ (search rules)

pub returns : goal.returns
returns g c =
    let through = g.met.S.Sink.leads_through in
    text_then through c.in_ok-put_named.ensures c.put_page_if.ensures
