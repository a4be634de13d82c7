use Rattle.std.proofs.Common.{ap, ◌∙◌}
use Rattle.user_vax.specs.Instruction.{instruction}
use Rattle.user_step.proofs.Trying.{granted, decided_below}
use Rattle.user_step.proofs.completing.completes.Goals as goal

pub loop-address-smaller : goal.loop-address-smaller
loop-address-smaller g c =
    let dry = c.loop-address.dry in
    (granted (g.M.Memory.answers c.args.memory.now) (g.M.Memory.answers dry.memory.now) (g.M.Memory.answers c.step-stepped.new.memory.memory.now) dry.slots.items c.step-stepped.new.memory.slots.items
    c.grant.new.self.slots.items (instruction c.args.regs.now) c.step-stepped.result c.wanted.result c.in-Some.address c.loop-address.invariant.below c.loop-address.invariant.empty
    c.step-stepped.ensures.answer
    c.wanted.ensures c.in-Some.is c.step-stepped.ensures.wrote c.in_ok-grant-in-Some.ensures.slots).0

pub loop-address-preserved : goal.loop-address-preserved
loop-address-preserved g c =
    let dry = c.loop-address.dry in
    let all =
    granted (g.M.Memory.answers c.args.memory.now) (g.M.Memory.answers dry.memory.now) (g.M.Memory.answers c.step-stepped.new.memory.memory.now) dry.slots.items c.step-stepped.new.memory.slots.items
    c.grant.new.self.slots.items (instruction c.args.regs.now) c.step-stepped.result c.wanted.result c.in-Some.address c.loop-address.invariant.below c.loop-address.invariant.empty
    c.step-stepped.ensures.answer
    c.wanted.ensures c.in-Some.is c.step-stepped.ensures.wrote c.in_ok-grant-in-Some.ensures.slots in
    record { below = ap g.M.Memory.answers c.grant.ensures.memory ∙ all.1; empty = all.2 }

pub returns-in-None : goal.returns-in-None
returns-in-None g c =
    let dry = c.loop-address.dry in
    let h =
    decided_below (g.M.Memory.answers c.args.memory.now) (g.M.Memory.answers dry.memory.now) dry.slots.items (instruction c.args.regs.now) c.step-stepped.result c.wanted.result
    c.loop-address.invariant.below c.loop-address.invariant.empty c.step-stepped.ensures.answer c.wanted.ensures c.in-None.is in
    ((λ d. h.0 (c.is_done.ensures.0 d)), (λ d. c.is_done.ensures.1 (h.1 d)))
