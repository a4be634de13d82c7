use Rattle.std.proofs.Common.{List, sym, subst}
use Rattle.vm_facts.specs.Answers.{Answers, ByteWrite}
use Rattle.user_vax.specs.Instruction.{instruction, writes_of}
use Rattle.user_vax.specs.Program.{run}
use Rattle.user_step.specs.FixedCode.{AreFixed}
use Rattle.user_step.proofs.StaysFixed.{fixed_after}
use Rattle.user_step.proofs.stepping.step_fixed.Goals as goal

pub step_in_registers-requires-clause-fetched : goal.step_in_registers-requires-clause-fetched
step_in_registers-requires-clause-fetched g c = c.in-Some.ensures (g.M.Memory.answers c.args.memory.now) c.requires

pub step_decoded_unless_call-requires : goal.step_decoded_unless_call-requires
step_decoded_unless_call-requires g c = c.in-Some.ensures (g.M.Memory.answers c.args.memory.now) c.requires

pub returns-clause-fixed : goal.returns-clause-fixed
returns-clause-fixed g c =
    let old : Answers = g.M.Memory.answers c.args.memory.now in
    let ws : List ByteWrite = writes_of (run old (instruction c.args.regs.now)) in
    subst (λ (m : Answers). AreFixed m c.args.fixed.now c.args.cache.now)
    (sym (g.met.M.Memory.wrote_answers c.args.memory.now c.step_decoded_unless_call.new.memory ws c.step_decoded_unless_call.ensures.wrote))
    (fixed_after old c.args.fixed.now c.args.cache.now c.args.regs.now c.requires)
