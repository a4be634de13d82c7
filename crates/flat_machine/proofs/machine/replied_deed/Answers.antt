use Rattle.std.proofs.Common.{◌≡◌, ℕ, ◌≤◌, false, length, ◌∙◌, ap, sym, subst, arith}
use Rattle.vm_facts.specs.declared.regs.Regs.{Regs}
use Rattle.flat_model.specs.Calls.{replied}
use Rattle.flat_process.specs.Images.{CanReply}
use Rattle.flat_machine.proofs.Stepping.{by_wrote}
use Rattle.flat_machine.proofs.machine.replied_deed.Goals as goal

pub returns-in-Writes-clause-value : goal.returns-in-Writes-clause-value
returns-in-Writes-clause-value c = λ images F p effect can same_regs same.
    let few : length c.in-Writes.bytes ≤ 1024 = subst (CanReply images) c.in-Writes.is can in
    let long : length c.as_slice.result.now ≡ length c.in-Writes.bytes = ap length c.as_slice.ensures in
    let all : c.min-len.result ≡ length c.in-Writes.bytes = omega (arith, c.min-len.ensures) in
    by_wrote images F p c.args.call effect c.args.reply c.in-Writes.bytes c.replied-after.result c.in-Writes.is
    (c.replied-after.ensures ∙ ap (λ (n : ℕ). replied c.args.regs false n) all ∙ ap (λ (regs : Regs). replied regs false (length c.in-Writes.bytes)) (sym same))
