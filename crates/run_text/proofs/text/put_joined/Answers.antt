-- One more entry comes, or fails, or what waits at the end is written.
use Rattle.std.proofs.Common.{rules, arith, sym}
use Rattle.std.proofs.lemmas.List.{drop_all}
use Rattle.run_text.proofs.Joining.{joined_at, joined_then, joined_end}
use Rattle.run_text.proofs.Putting.{leaves_all, leaves_rest, leaves_failed, leaves_last}
use Rattle.run_text.proofs.text.put_joined.Goals as goal

pub loop-e-init : goal.loop-e-init
loop-e-init g c = (leaves_all (g.met.S.Sink.leads_nowhere c.args.out.now.sink.now), omega arith)

pub returns-in_err-put_next : goal.returns-in_err-put_next
returns-in_err-put_next g c =
    let here = joined_at c.loop-e.run c.args.entries.now c.loop-e.e-index c.e-item.result (omega arith) (sym c.e-item.is) in
    leaves_failed g.met.S.Sink.leads_through c.loop-e.invariant.0 c.in_err-put_next.ensures.puts _ here (search rules)

pub loop-e-preserved : goal.loop-e-preserved
loop-e-preserved g c =
    let here = joined_then c.loop-e.run c.put_next.new.run c.args.entries.now c.loop-e.e-index c.e-item.result (omega arith) (sym c.e-item.is) c.in_ok-put_next.ensures.run in
    (leaves_rest g.met.S.Sink.leads_through c.loop-e.invariant.0 c.in_ok-put_next.ensures.puts here, omega (arith, c.in_ok-put_next.ensures.count, c.loop-e.invariant.1))

pub returns : goal.returns
returns g c =
    let last = joined_end c.loop-e.run (drop_all c.loop-e.e-index c.args.entries.now (omega arith)) in
    leaves_last g.met.S.Sink.leads_through c.loop-e.invariant.0 c.put_run.ensures last
