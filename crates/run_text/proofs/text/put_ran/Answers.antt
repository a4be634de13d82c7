-- The process fails, or the count follows it.
use Rattle.std.proofs.Common.{rules}
use Rattle.run_text.proofs.Joining.{ran_line}
use Rattle.run_text.proofs.Putting.{text_is, text_then, text_failed}
use Rattle.run_text.proofs.text.put_ran.Goals as goal

pub returns-in_err-put_named : goal.returns-in_err-put_named
returns-in_err-put_named g c = text_is (ran_line c.args.pid c.args.count) (text_failed c.in_err-put_named.ensures _ (search rules))

pub returns : goal.returns
returns g c = text_is (ran_line c.args.pid c.args.count) (text_then g.met.S.Sink.leads_through c.in_ok-put_named.ensures c.put_last_number.ensures)
