use Rattle.proc_run.proofs.Ready.{ready_of}
use Rattle.proc_run.proofs.choosing.next_ready.Goals as goal

pub returns : goal.returns
returns c = ready_of c.args.m.now.kernel c.processes.result.now c.args.above c.ready_above.result c.processes.ensures.processes (c.processes.ensures.records c.requires.runs) c.ready_above.ensures
