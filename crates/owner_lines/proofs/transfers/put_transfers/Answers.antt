-- One more transfer's lines pass, or fail.
use Rattle.std.proofs.Common.{rules, arith, ◌+◌}
use Rattle.std.proofs.lemmas.List.{at_drop_all}
use Rattle.owner_lines.specs.Owners.{transfers_from}
use Rattle.owner_lines.proofs.Counting.{transfers_more}
use Rattle.run_text.proofs.Putting.{leaves_all, leaves_rest, leaves_failed, leaves_none}
use Rattle.owner_lines.proofs.transfers.put_transfers.Goals as goal

pub loop-place-init : goal.loop-place-init
loop-place-init g c = leaves_all (g.met.S.Sink.leads_nowhere c.args.out.now.sink.now)

pub returns-in_err-put_transfer_at : goal.returns-in_err-put_transfer_at
returns-in_err-put_transfer_at g c =
    let i = c.loop-place.place in
    let here = transfers_more c.args.machine.now.before (i + 1) i c.args.machine.now.kernel.place.transfers in
    leaves_failed g.met.S.Sink.leads_through c.loop-place.invariant c.in_err-put_transfer_at.ensures _ here (search rules)

pub loop-place-preserved : goal.loop-place-preserved
loop-place-preserved g c =
    let i = c.loop-place.place in
    let here = transfers_more c.args.machine.now.before (i + 1) i c.args.machine.now.kernel.place.transfers in
    leaves_rest g.met.S.Sink.leads_through c.loop-place.invariant c.in_ok-put_transfer_at.ensures here

pub returns : goal.returns
returns g c =
    let i = c.loop-place.place in
    leaves_none c.loop-place.invariant
    (at_drop_all (transfers_from c.args.machine.now.before (i + 1)) c.args.machine.now.kernel.place.transfers i (omega (arith, c.in_flight-place-end.ensures, c.loop-place-test.false)))
