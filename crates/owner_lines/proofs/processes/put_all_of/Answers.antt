-- The line of the process, and that of its registers.
use Rattle.std.proofs.Common.{rules}
use Rattle.run_text.proofs.Putting.{text_then, text_failed}
use Rattle.owner_lines.proofs.processes.put_all_of.Goals as goal

pub returns-in_err-put_process : goal.returns-in_err-put_process
returns-in_err-put_process g c =
    text_failed c.in_err-put_process.ensures _ (search rules)

pub returns : goal.returns
returns g c =
    let through = g.met.S.Sink.leads_through in
    text_then through c.in_ok-put_process.ensures c.put_registers.ensures
