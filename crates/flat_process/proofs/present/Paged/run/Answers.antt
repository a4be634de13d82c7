use Rattle.flat_process.proofs.Paging.{missed_answer, missed_from, hit_answer, hit_from}
use Rattle.flat_process.proofs.present.Paged.run.Goals as goal

pub loop-address-smaller : goal.loop-address-smaller
loop-address-smaller c =
    let now = c.loop-address.self in
    let after = c.step.new.memory in
    let first = c.args.self.now in
    let misses = missed_answer now.space after.space now.pages.items after.pages.items c.loop-address.regs c.step.new.regs c.step.result c.in-Miss.address c.in-Miss.write
    c.step.ensures.answer c.step.ensures.registers c.step.ensures.wrote c.in-Miss.is in
    (missed_from now.space after.space first.space first.pages.items now.pages.items after.pages.items c.bring.new.self.pages.items c.loop-address.regs c.step.new.regs c.args.regs.now
    c.in-Miss.address c.in-Miss.write
    misses c.loop-address.invariant.space c.loop-address.invariant.registers c.loop-address.invariant.pages c.in_ok-bring-in-Miss.ensures.pages).fewer

pub returns-in_default : goal.returns-in_default
returns-in_default c =
    let now = c.loop-address.self in
    let after = c.step.new.memory in
    let first = c.args.self.now in
    let hits = hit_answer now.space after.space now.pages.items after.pages.items c.loop-address.regs c.step.new.regs c.step.result
    c.step.ensures.answer c.step.ensures.registers c.step.ensures.wrote c.in_default.not-Miss in
    let all = hit_from now.space after.space first.space first.pages.items now.pages.items after.pages.items c.loop-address.regs c.step.new.regs c.args.regs.now c.step.result
    hits c.loop-address.invariant.space c.loop-address.invariant.registers c.loop-address.invariant.pages in
    record { answer = all.answer; registers = all.registers; space = all.space; pages = all.pages }
