use Rattle.std.proofs.Common.{ap, ◌∙◌, subst, false}
use Rattle.vm_facts.specs.declared.entry.Entry.TheVariants as entries
use Rattle.kernel_model.specs.Kernel.{get_step}
use Rattle.page_model.specs.Runs.{Run}
use Rattle.page_model.specs.Placement.{state_of, filling_of}
use Rattle.std.proofs.Common.{Some}
use Rattle.clock_hands.specs.Conditions.{CanBringIn}
use Rattle.fault_fill.proofs.Readings.{can_read}
use Rattle.fault_fill.proofs.Serving.{not_full, of_image, unit_reads}
use Rattle.fault_fill.proofs.Leading.{get_calls, plain_either}
use Rattle.fault_fill.proofs.unit.read.Goals as goal

pub begin_get-requires-clause-can : goal.begin_get-requires-clause-can
begin_get-requires-clause-can c =
    let q = c.args.page in
    let p = c.args.m.now.kernel.place in
    subst (λ (r : Run). CanBringIn p q r.lo r.n) c.run_of-lo.ensures.run
    (can_read p q c.requires.ready.running.due c.requires.can.there c.requires.can.shared c.requires.can.fresh c.requires.frameless
    (of_image (state_of p q) (filling_of p q) c.requires.filled) c.requires.free c.requires.few c.run_of-lo.ensures.small)

pub returns-clause-made : goal.returns-clause-made
returns-clause-made c =
    let q = c.args.page in
    let p = c.args.m.now.kernel.place in
    let lo = c.run_of-lo.result.0 in
    let n = c.run_of-lo.result.1 in
    plain_either c.begin_get.result q (entries.Get q lo n) c.args.m.now c.begin_get.new.self (get_step c.args.m.now.kernel q lo n)
    c.begin_get.ensures.performs c.begin_get.ensures.stops c.requires.ready.whole (get_calls q lo n)
    (λ now. unit_reads p q now false (not_full p c.requires.few) c.requires.frameless c.requires.filled c.requires.free ∙ ap (λ (r : Run). Some (entries.Get q r.lo r.n)) c.run_of-lo.ensures.run)
    (λ h g i. h)
