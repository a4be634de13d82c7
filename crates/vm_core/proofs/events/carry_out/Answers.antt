use Rattle.io_edge.specs.WithFiles.{stores}
use Rattle.vm_facts.specs.declared.event.Event.{Event}
use Rattle.vm_facts.specs.declared.event.Event.TheVariants as events
use Rattle.proc_run.specs.Stepped.{LeadsFrom}
use Rattle.std.proofs.Common.{sym, subst}
use Rattle.vm_core.proofs.Taking.{makes_carries}
use Rattle.vm_core.proofs.events.carry_out.Goals as goal
use Rattle.vm_core.specs.Cores.{AskedAt, LineDone}

pub returns-in_ok-interrupt-in-Interrupt-clause-done : goal.returns-in_ok-interrupt-in-Interrupt-clause-done
returns-in_ok-interrupt-in-Interrupt-clause-done g c =
    let i = stores g.F.Files g.D.SwapDev c.args.files.now c.args.swap.now in
    let j = stores g.F.Files g.D.SwapDev c.interrupt.new.files c.interrupt.new.swap in
    let holds = g.F.Files.holds c.args.files.now in
    subst (λ (e : Event). LeadsFrom (AskedAt c.args.m.now holds i c.args.counted e) (LineDone c.args.m.now c.interrupt.new.m j c.args.counted)) (sym c.in-Interrupt.is)
    (makes_carries c.args.m.now c.interrupt.new.m holds i j c.args.counted events.Interrupt c.in_ok-interrupt-in-Interrupt.ensures.made)

pub returns-in_ok-hands-in-Hands-clause-done : goal.returns-in_ok-hands-in-Hands-clause-done
returns-in_ok-hands-in-Hands-clause-done g c =
    let i = stores g.F.Files g.D.SwapDev c.args.files.now c.args.swap.now in
    let j = stores g.F.Files g.D.SwapDev c.hands.new.files c.hands.new.swap in
    let holds = g.F.Files.holds c.args.files.now in
    subst (λ (e : Event). LeadsFrom (AskedAt c.args.m.now holds i c.args.counted e) (LineDone c.args.m.now c.hands.new.m j c.args.counted)) (sym c.in-Hands.is)
    (makes_carries c.args.m.now c.hands.new.m holds i j c.args.counted (events.Hands c.in-Hands.count) c.in_ok-hands-in-Hands.ensures.made)

pub returns-in_ok-swapper-in-Swapper-clause-done : goal.returns-in_ok-swapper-in-Swapper-clause-done
returns-in_ok-swapper-in-Swapper-clause-done g c =
    let i = stores g.F.Files g.D.SwapDev c.args.files.now c.args.swap.now in
    let j = stores g.F.Files g.D.SwapDev c.swapper.new.files c.swapper.new.swap in
    let holds = g.F.Files.holds c.args.files.now in
    subst (λ (e : Event). LeadsFrom (AskedAt c.args.m.now holds i c.args.counted e) (LineDone c.args.m.now c.swapper.new.m j c.args.counted)) (sym c.in-Swapper.is)
    (makes_carries c.args.m.now c.swapper.new.m holds i j c.args.counted events.Swapper c.in_ok-swapper-in-Swapper.ensures.made)

pub returns-in_ok-audit-in-Audit-clause-done : goal.returns-in_ok-audit-in-Audit-clause-done
returns-in_ok-audit-in-Audit-clause-done g c =
    let i = stores g.F.Files g.D.SwapDev c.args.files.now c.args.swap.now in
    let holds = g.F.Files.holds c.args.files.now in
    subst (λ (e : Event). LeadsFrom (AskedAt c.args.m.now holds i c.args.counted e) (LineDone c.args.m.now c.audit.new.m i c.args.counted)) (sym c.in-Audit.is)
    (makes_carries c.args.m.now c.audit.new.m holds i i c.args.counted events.Audit (c.in_ok-audit-in-Audit.ensures.made holds i))
