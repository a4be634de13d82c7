-- The space, and whether the process is asleep.
use Rattle.std.proofs.Common.{rules}
use Rattle.run_text.proofs.Putting.{text_then, text_failed}
use Rattle.owner_lines.proofs.processes.put_holder.Goals as goal

pub returns-in_err-put_space : goal.returns-in_err-put_space
returns-in_err-put_space g c =
    text_failed c.in_err-put_space.ensures _ (search rules)

pub returns : goal.returns
returns g c =
    let through = g.met.S.Sink.leads_through in
    text_then through c.in_ok-put_space.ensures c.put_if.ensures
