-- One more passes, or fails.
use Rattle.std.proofs.Common.{rules, arith}
use Rattle.std.proofs.lemmas.List.{at_drop_all}
use Rattle.run_text.specs.Text.{line_of, lines_of}
use Rattle.run_text.proofs.Putting.{leaves_all, leaves_rest, leaves_failed, leaves_none, items_at}
use Rattle.run_text.proofs.text.put_lines.Goals as goal

pub loop-e-init : goal.loop-e-init
loop-e-init g c = leaves_all (g.met.S.Sink.leads_nowhere c.args.out.now.sink.now)

pub returns-in_err-put_entry : goal.returns-in_err-put_entry
returns-in_err-put_entry g c =
    let here = items_at line_of c.args.entries.now c.loop-e.e-index c.e-item.result (omega arith) c.e-item.is in
    leaves_failed g.met.S.Sink.leads_through c.loop-e.invariant c.in_err-put_entry.ensures _ here (search rules)

pub loop-e-preserved : goal.loop-e-preserved
loop-e-preserved g c =
    let here = items_at line_of c.args.entries.now c.loop-e.e-index c.e-item.result (omega arith) c.e-item.is in
    leaves_rest g.met.S.Sink.leads_through c.loop-e.invariant c.in_ok-put_entry.ensures here

pub returns : goal.returns
returns g c = leaves_none c.loop-e.invariant (at_drop_all lines_of c.args.entries.now c.loop-e.e-index (omega arith))
