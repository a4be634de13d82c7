use Rattle.std.proofs.Common.{List, sym, subst}
use Rattle.vm_facts.specs.Answers.{Answers, ByteWrite, written}
use Rattle.user_vax.specs.Instruction.{instruction, writes_of}
use Rattle.user_vax.specs.Operands.{register}
use Rattle.user_vax.specs.Program.{run}
use Rattle.user_step.specs.FixedCode.{AreFixed}
use Rattle.user_step.proofs.StaysFixed.{fixed_after, fixed_elsewhere}
use Rattle.user_step.proofs.stepping.step_unfixed.Goals as goal

pub remember-requires : goal.remember-requires
remember-requires g c =
    let old : Answers = g.M.Memory.answers c.args.memory.now in
    let ws : List ByteWrite = writes_of (run old (instruction c.args.regs.now)) in
    subst (λ (m : Answers). AreFixed m c.forget.new.self c.step_unless_call-stepped.new.cache)
    (sym (g.met.M.Memory.wrote_answers c.args.memory.now c.step_unless_call-stepped.new.memory ws c.step_unless_call-stepped.ensures.wrote))
    (fixed_elsewhere (written old ws) c.forget.new.self c.args.cache.now c.step_unless_call-stepped.new.cache (register c.args.regs.now 15)
    c.forget.ensures.gone c.step_unless_call-stepped.ensures.elsewhere
    (fixed_after old c.forget.new.self c.args.cache.now c.args.regs.now (c.forget.ensures.kept old c.args.cache.now c.requires)))
