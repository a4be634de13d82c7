-- All lines, in their order.
use Rattle.std.proofs.Common.{rules}
use Rattle.run_text.proofs.Putting.{text_then, text_failed, text_more}
use Rattle.owner_lines.specs.Owners.{owners_text}
use Rattle.owner_lines.proofs.writing.put_lines.Goals as goal

pub returns-in_err-put_head : goal.returns-in_err-put_head
unfolding owners_text
returns-in_err-put_head g c =
    text_failed (text_more (text_more (text_more (text_more (text_more c.in_err-put_head.ensures _) _) _) _) _) _ (search rules)

pub returns-in_err-put_hands : goal.returns-in_err-put_hands
unfolding owners_text
returns-in_err-put_hands g c =
    let through = g.met.S.Sink.leads_through in
    text_failed (text_more (text_more (text_more (text_more (text_then through c.in_ok-put_head.ensures c.in_err-put_hands.ensures) _) _) _) _) _ (search rules)

pub returns-in_err-put_frames : goal.returns-in_err-put_frames
unfolding owners_text
returns-in_err-put_frames g c =
    let through = g.met.S.Sink.leads_through in
    text_failed (text_more (text_more (text_more (text_then through (text_then through
    c.in_ok-put_head.ensures c.in_ok-put_hands.ensures) c.in_err-put_frames.ensures) _) _) _) _ (search rules)

pub returns-in_err-put_transfers : goal.returns-in_err-put_transfers
unfolding owners_text
returns-in_err-put_transfers g c =
    let through = g.met.S.Sink.leads_through in
    text_failed (text_more (text_more (text_then through (text_then through (text_then through
    c.in_ok-put_head.ensures c.in_ok-put_hands.ensures) c.in_ok-put_frames.ensures) c.in_err-put_transfers.ensures) _) _)
    _ (search rules)

pub returns-in_err-put_processes : goal.returns-in_err-put_processes
unfolding owners_text
returns-in_err-put_processes g c =
    let through = g.met.S.Sink.leads_through in
    text_failed (text_more (text_then through (text_then through (text_then through (text_then through
    c.in_ok-put_head.ensures c.in_ok-put_hands.ensures) c.in_ok-put_frames.ensures) c.in_ok-put_transfers.ensures)
    c.in_err-put_processes.ensures) _) _ (search rules)

pub returns-in_err-put_due : goal.returns-in_err-put_due
unfolding owners_text
returns-in_err-put_due g c =
    let through = g.met.S.Sink.leads_through in
    text_failed (text_then through (text_then through (text_then through (text_then through (text_then through
    c.in_ok-put_head.ensures c.in_ok-put_hands.ensures) c.in_ok-put_frames.ensures) c.in_ok-put_transfers.ensures)
    c.in_ok-put_processes.ensures) c.in_err-put_due.ensures) _ (search rules)

pub returns : goal.returns
unfolding owners_text
returns g c =
    let through = g.met.S.Sink.leads_through in
    text_then through (text_then through (text_then through (text_then through (text_then through (text_then through
    c.in_ok-put_head.ensures c.in_ok-put_hands.ensures) c.in_ok-put_frames.ensures) c.in_ok-put_transfers.ensures)
    c.in_ok-put_processes.ensures) c.in_ok-put_due.ensures) c.put_swap.ensures
