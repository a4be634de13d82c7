-- One more page's line passes, or fails.
use Rattle.std.proofs.Common.{rules, arith}
use Rattle.std.specs.List.{flat_map}
use Rattle.std.proofs.lemmas.List.{at_drop_all}
use Rattle.owner_lines.specs.Owners.{due_line}
use Rattle.owner_lines.proofs.Counting.{dues_more}
use Rattle.run_text.proofs.Putting.{leaves_all, leaves_rest, leaves_failed, leaves_none}
use Rattle.owner_lines.proofs.due.put_due.Goals as goal

pub loop-place-init : goal.loop-place-init
loop-place-init g c = leaves_all (g.met.S.Sink.leads_nowhere c.args.out.now.sink.now)

pub returns-in_err-put_due_at : goal.returns-in_err-put_due_at
returns-in_err-put_due_at g c =
    let here = dues_more c.loop-place.place c.args.machine.now.kernel.place.due in
    leaves_failed g.met.S.Sink.leads_through c.loop-place.invariant c.in_err-put_due_at.ensures _ here (search rules)

pub loop-place-preserved : goal.loop-place-preserved
loop-place-preserved g c =
    let here = dues_more c.loop-place.place c.args.machine.now.kernel.place.due in
    leaves_rest g.met.S.Sink.leads_through c.loop-place.invariant c.in_ok-put_due_at.ensures here

pub returns : goal.returns
returns g c =
    leaves_none c.loop-place.invariant
    (at_drop_all (flat_map due_line) c.args.machine.now.kernel.place.due c.loop-place.place (omega (arith, c.due_count-place-end.ensures, c.loop-place-test.false)))
