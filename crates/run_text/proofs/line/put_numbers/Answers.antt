-- One more passes, or fails.
use Rattle.std.proofs.Common.{rules, arith}
use Rattle.std.specs.List.{flat_map}
use Rattle.std.proofs.lemmas.List.{at_drop_more, at_drop_all}
use Rattle.run_text.specs.Text.{part, parts}
use Rattle.run_text.proofs.Putting.{leaves_all, leaves_rest, leaves_failed, leaves_none}
use Rattle.run_text.proofs.line.put_numbers.Goals as goal

pub loop-number-init : goal.loop-number-init
loop-number-init g c = leaves_all (g.met.S.Sink.leads_nowhere c.args.out.now.sink.now)

pub returns-in_err-put_number : goal.returns-in_err-put_number
returns-in_err-put_number g c =
    let here = at_drop_more (flat_map part) c.args.numbers.now c.loop-number.number-index 0 (omega arith) in
    leaves_failed g.met.S.Sink.leads_through c.loop-number.invariant c.in_err-put_number.ensures _ here (search rules)

pub loop-number-preserved : goal.loop-number-preserved
loop-number-preserved g c =
    let here = at_drop_more (flat_map part) c.args.numbers.now c.loop-number.number-index 0 (omega arith) in
    leaves_rest g.met.S.Sink.leads_through c.loop-number.invariant c.in_ok-put_number.ensures here

pub returns : goal.returns
returns g c = leaves_none c.loop-number.invariant (at_drop_all parts c.args.numbers.now c.loop-number.number-index (omega arith))
