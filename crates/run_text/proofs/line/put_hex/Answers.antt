-- One more passes, or fails.
use Rattle.std.proofs.Common.{rules, arith}
use Rattle.std.specs.List.{flat_map}
use Rattle.std.proofs.lemmas.List.{at_drop_more, at_drop_all}
use Rattle.run_text.specs.Text.{hex_pair, hex_text}
use Rattle.run_text.proofs.Putting.{leaves_all, leaves_rest, leaves_failed, leaves_none}
use Rattle.run_text.proofs.line.put_hex.Goals as goal

pub loop-byte-init : goal.loop-byte-init
loop-byte-init g c = leaves_all (g.met.S.Sink.leads_nowhere c.args.out.now.sink.now)

pub returns-in_err-put_pair : goal.returns-in_err-put_pair
returns-in_err-put_pair g c =
    let here = at_drop_more (flat_map hex_pair) c.args.bytes.now c.loop-byte.byte-index 0 (omega arith) in
    leaves_failed g.met.S.Sink.leads_through c.loop-byte.invariant c.in_err-put_pair.ensures _ here (search rules)

pub loop-byte-preserved : goal.loop-byte-preserved
loop-byte-preserved g c =
    let here = at_drop_more (flat_map hex_pair) c.args.bytes.now c.loop-byte.byte-index 0 (omega arith) in
    leaves_rest g.met.S.Sink.leads_through c.loop-byte.invariant c.in_ok-put_pair.ensures here

pub returns : goal.returns
returns g c = leaves_none c.loop-byte.invariant (at_drop_all hex_text c.args.bytes.now c.loop-byte.byte-index (omega arith))
