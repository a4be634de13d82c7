use Rattle.std.proofs.Common.{sym, ap, ◌∙◌}
use Rattle.vm_facts.specs.declared.regs.Regs.{Regs}
use Rattle.user_vax.specs.Instruction.{registers_after}
use Rattle.flat_model.specs.Instruction.{instruction_in}
use Rattle.flat_process.proofs.Paging.{stepped_pages}
use Rattle.flat_process.proofs.present.Paged.step.Goals as goal

pub returns-clause-pages : goal.returns-clause-pages
returns-clause-pages c = λ F p same.
    let s = c.args.self.now.space in
    let r = instruction_in s c.args.regs.now in
    stepped_pages c.args.programs.now F p s c.run.new.self.space c.args.regs.now c.args.self.now.pages.items c.run.new.self.pages.items c.ask_behind.new.self.pages.items
    same c.in_ok-stepped.ensures.pages c.in_ok-stepped.ensures.space
    (c.in_ok-ask_behind.ensures.pages F p s r c.in_ok-stepped.ensures.answer
    (c.in_ok-stepped.ensures.registers ∙ ap (λ (x : Regs). registers_after x r) (sym same))
    c.in_ok-stepped.ensures.space)
