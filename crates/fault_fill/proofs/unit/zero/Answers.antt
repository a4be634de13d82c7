use Rattle.vm_facts.specs.declared.entry.Entry.TheVariants as entries
use Rattle.kernel_model.specs.Kernel.{zero_step}
use Rattle.fault_fill.proofs.Serving.{unit_blank}
use Rattle.fault_fill.proofs.Leading.{zero_calls, plain_either}
use Rattle.fault_fill.proofs.unit.zero.Goals as goal

pub returns-clause-made : goal.returns-clause-made
returns-clause-made c =
    let q = c.args.page in
    let p = c.args.m.now.kernel.place in
    plain_either c.fill_zero.result q (entries.Zero q) c.args.m.now c.fill_zero.new.self (zero_step c.args.m.now.kernel q)
    c.fill_zero.ensures.performs c.fill_zero.ensures.stops c.requires.ready.whole (zero_calls q)
    (λ now. unit_blank p q now c.requires.blank c.requires.free) (λ h g i. h)
