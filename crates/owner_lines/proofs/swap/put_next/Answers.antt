-- The free blocks, and the piece after them.
use Rattle.std.proofs.Common.{rules}
use Rattle.run_text.proofs.Putting.{text_then, text_failed}
use Rattle.owner_lines.proofs.swap.put_next.Goals as goal

pub returns-in_err-put_gap : goal.returns-in_err-put_gap
returns-in_err-put_gap g c =
    text_failed c.in_err-put_gap.ensures _ (search rules)

pub returns : goal.returns
returns g c =
    let through = g.met.S.Sink.leads_through in
    text_then through c.in_ok-put_gap.ensures c.put_piece.ensures
