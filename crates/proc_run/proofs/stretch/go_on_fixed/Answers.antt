use Rattle.std.proofs.Common.{List, ap, sym, ◌∙◌, subst}
use Rattle.vm_facts.specs.Answers.{ByteWrite}
use Rattle.user_vax.specs.Program.{run}
use Rattle.user_vax.specs.Instruction.{instruction, writes_of}
use Rattle.user_step.specs.Tried.{registers_tried}
use Rattle.proc_run.proofs.Stretched.{call_unwritten, missed_still}
use Rattle.proc_run.proofs.stretch.go_on_fixed.Goals as goal

pub returns-in-Miss-clause-missed : goal.returns-in-Miss-clause-missed
returns-in-Miss-clause-missed g c =
    missed_still (g.M.Memory.answers c.args.memory.now) (g.M.Memory.answers c.step_fixed.new.memory) c.args.regs.now c.step_fixed.new.regs c.in-Miss.address c.in-Miss.write
    (sym c.step_fixed.ensures.answer ∙ c.in-Miss.is)
    (c.step_fixed.ensures.registers
    ∙ ap (λ stepped. registers_tried stepped c.args.regs.now (run (g.M.Memory.answers c.args.memory.now) (instruction c.args.regs.now))) c.in-Miss.is)
    (g.met.M.Memory.wrote_answers c.args.memory.now c.step_fixed.new.memory
    (writes_of (run (g.M.Memory.answers c.args.memory.now) (instruction c.args.regs.now))) c.step_fixed.ensures.wrote)

pub returns-in-Call-clause-goes : goal.returns-in-Call-clause-goes
returns-in-Call-clause-goes g c =
    let none = call_unwritten (g.M.Memory.answers c.args.memory.now) c.args.regs.now _ (sym c.step_fixed.ensures.answer ∙ c.in-Call.is) in (
      c.step_fixed.ensures.registers ∙ ap (λ stepped. registers_tried stepped c.args.regs.now (run (g.M.Memory.answers c.args.memory.now) (instruction c.args.regs.now))) c.in-Call.is,
      subst (λ (ws : List ByteWrite). g.M.Memory.wrote c.args.memory.now ws c.step_fixed.new.memory) none c.step_fixed.ensures.wrote,
    )
