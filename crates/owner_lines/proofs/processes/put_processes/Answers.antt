-- One more process's line passes, or fails.
use Rattle.std.proofs.Common.{rules, ◌<◌, IsSome, ap, subst}
use Rattle.std.specs.List.{flat_map}
use Rattle.proc_table.specs.Records.{find, Lowest}
use Rattle.owner_lines.specs.Owners.{process_lines}
use Rattle.owner_lines.specs.Recorded.{record_lines}
use Rattle.owner_lines.proofs.Pids.{lines_of_all, lines_next, records_last}
use Rattle.run_text.proofs.Putting.{leaves_all, leaves_is, leaves_rest, leaves_failed, leaves_none}
use Rattle.owner_lines.proofs.processes.put_processes.Goals as goal

pub loop-next-init : goal.loop-next-init
loop-next-init g c =
    let k = c.args.machine.now.kernel in
    let e = c.processes-processes.ensures in
    leaves_is (lines_of_all k.place c.processes-processes.result.now k.next_pid k.processes e.residents (e.records c.requires.runs) e.processes)
    (leaves_all {t = flat_map (process_lines k.place) k.processes} (g.met.S.Sink.leads_nowhere c.args.out.now.sink.now))

pub returns-in_err-put_process_at : goal.returns-in_err-put_process_at
returns-in_err-put_process_at g c =
    let ps = c.processes-processes.result.now in
    let low = subst (Lowest (λ q. (c.loop-next.pid < q) × IsSome (find q ps))) c.in-Some.is c.next_after.ensures in
    let here = lines_next ps c.args.machine.now.kernel.next_pid c.loop-next.pid c.in-Some.next (c.processes-processes.ensures.records c.requires.runs) low in
    leaves_failed g.met.S.Sink.leads_through c.loop-next.invariant c.in_err-put_process_at.ensures _ here (search rules)

pub loop-next-preserved : goal.loop-next-preserved
loop-next-preserved g c =
    let ps = c.processes-processes.result.now in
    let low = subst (Lowest (λ q. (c.loop-next.pid < q) × IsSome (find q ps))) c.in-Some.is c.next_after.ensures in
    let here = lines_next ps c.args.machine.now.kernel.next_pid c.loop-next.pid c.in-Some.next (c.processes-processes.ensures.records c.requires.runs) low in
    leaves_rest g.met.S.Sink.leads_through c.loop-next.invariant c.in_ok-put_process_at.ensures here

pub returns : goal.returns
returns g c =
    let ps = c.processes-processes.result.now in
    let low = subst (Lowest (λ q. (c.loop-next.pid < q) × IsSome (find q ps))) c.in_default.is c.next_after.ensures in
    leaves_none c.loop-next.invariant (ap (flat_map record_lines) (records_last ps c.args.machine.now.kernel.next_pid c.loop-next.pid low))
