use Rattle.std.proofs.Common.{rules, ◌≡◌, Result, Err, sym, ap, ◌∙◌, subst}
use Rattle.command_edge.specs.declared.fault.Fault.{Fault}
use Rattle.repage_command.specs.declared.judging.Repaged.{Repaged}
use Rattle.repage_command.specs.Reading.{inputs_of}
use Rattle.repage_command.specs.Judging.{EndsRepaging}
use Rattle.repage_command.proofs.Judged.{misstep_ends, told_over}
use Rattle.repage_command.proofs.judging.repaged_not.Goals as goal

pub returns-in_err-transfer : goal.returns-in_err-transfer
returns-in_err-transfer c = λ has.
    let is : c.from_residual.result ≡ Err c.in_err-transfer.field-0.0 = search rules in
    subst (λ (r : Result Repaged Fault). EndsRepaging (inputs_of c.args.numbers c.args.case.now) c.args.case.now.lines.items r)
    (sym (is ∙ ap Err c.in_err-transfer.ensures.fault)) tt

pub returns : goal.returns
returns c = λ has.
    misstep_ends (inputs_of c.args.numbers c.args.case.now) c.args.case.now.lines.items c.args.misstep.now c.in_ok-transfer.transfer c.repaged_at.result has c.in_ok-transfer.ensures.number
    (told_over c.args.case.now.lines.items c.as_slice.result.now c.args.misstep.now c.in_ok-transfer.transfer c.repaged_at.result c.as_slice.ensures.value c.repaged_at.ensures.told)
    c.repaged_at.ensures.fault
