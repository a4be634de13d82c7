-- The entry is no paging entry: what waits fails, or the entry follows it.
use Rattle.std.proofs.Common.{rules, Bool, sym, ap, ◌∙◌}
use Rattle.run_text.specs.Running.{waiting_text, other_text}
use Rattle.run_text.proofs.Putting.{text_is, text_then, text_failed}
use Rattle.run_text.proofs.text.put_other.Goals as goal

pub returns-in_err-put_run-clause-puts : goal.returns-in_err-put_run-clause-puts
returns-in_err-put_run-clause-puts g c =
    text_is (ap (λ (paging : Bool). other_text paging c.args.run.now c.args.e.now) (sym c.if-is_paging.false ∙ c.is_paging.ensures))
    (text_failed (text_is (ap waiting_text c.take-ended.ensures.value) c.in_err-put_run.ensures) _ (search rules))

pub returns-clause-puts : goal.returns-clause-puts
returns-clause-puts g c =
    text_is (ap (λ (paging : Bool). other_text paging c.args.run.now c.args.e.now) (sym c.if-is_paging.false ∙ c.is_paging.ensures))
    (text_then g.met.S.Sink.leads_through (text_is (ap waiting_text c.take-ended.ensures.value) c.in_ok-put_run.ensures) c.put_entry.ensures)
