-- One more passes, or fails.
use Rattle.std.proofs.Common.{rules, arith}
use Rattle.std.specs.List.{flat_map}
use Rattle.std.proofs.lemmas.List.{at_drop_all}
use Rattle.owner_lines.specs.Carried.{inbound_line}
use Rattle.run_text.proofs.Putting.{leaves_all, leaves_rest, leaves_failed, leaves_none, items_at}
use Rattle.owner_lines.proofs.transfers.put_all_inbound.Goals as goal

pub loop-part-init : goal.loop-part-init
loop-part-init g c = leaves_all (g.met.S.Sink.leads_nowhere c.args.out.now.sink.now)

pub returns-in_err-put_inbound : goal.returns-in_err-put_inbound
returns-in_err-put_inbound g c =
    let here = items_at inbound_line c.args.parts.now c.loop-part.part-index c.part-item.result (omega arith) c.part-item.is in
    leaves_failed g.met.S.Sink.leads_through c.loop-part.invariant c.in_err-put_inbound.ensures _ here (search rules)

pub loop-part-preserved : goal.loop-part-preserved
loop-part-preserved g c =
    let here = items_at inbound_line c.args.parts.now c.loop-part.part-index c.part-item.result (omega arith) c.part-item.is in
    leaves_rest g.met.S.Sink.leads_through c.loop-part.invariant c.in_ok-put_inbound.ensures here

pub returns : goal.returns
returns g c = leaves_none c.loop-part.invariant (at_drop_all (flat_map inbound_line) c.args.parts.now c.loop-part.part-index (omega arith))
