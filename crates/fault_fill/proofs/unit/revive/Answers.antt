use Rattle.vm_facts.specs.declared.entry.Entry.TheVariants as entries
use Rattle.kernel_model.specs.Kernel.{reclaim_step}
use Rattle.fault_fill.proofs.Serving.{unit_reclaims}
use Rattle.fault_fill.proofs.Leading.{reclaim_calls, plain_either}
use Rattle.fault_fill.proofs.unit.revive.Goals as goal

pub returns-clause-made : goal.returns-clause-made
returns-clause-made c =
    let q = c.args.page in
    let p = c.args.m.now.kernel.place in
    plain_either c.reclaim.result q (entries.Reclaim q) c.args.m.now c.reclaim.new.self (reclaim_step c.args.m.now.kernel q)
    c.reclaim.ensures.performs c.reclaim.ensures.stops c.requires.ready.whole (reclaim_calls q)
    (λ now. unit_reclaims p q now c.args.frame c.requires.invalid) (λ h g i. h)
