use Rattle.std.proofs.Common.{◌≡◌, ℕ, suc, ◌+◌, ◌<◌, List, ◌++◌, length, map, take, drop, set, get_or, None, ap, ◌∙◌, subst, arith}
use Rattle.vm_facts.specs.Answers.{ByteWrite}
use Rattle.user_step.specs.declared.slots.Slot.{Slot}
use Rattle.user_step.specs.Slots.{stored}
use Rattle.user_step.proofs.Storing.{changed_at, still_at}
use Rattle.user_step.proofs.slots.store_each.Goals as goal

pub loop-slot-preserved : goal.loop-slot-preserved
loop-slot-preserved c =
    let i : ℕ = c.loop-slot.slot-index in
    let w : ByteWrite = record { address = c.args.address; byte = c.args.byte } in
    let none : Slot = record { address = 0; byte = None } in
    let f : Slot → Slot = stored w in
    let old : List Slot = c.args.slots.now.items in
    let inv : c.loop-slot.slot-items ≡ map f (take i old) ++ drop i old = c.loop-slot.invariant in
    let item : get_or c.loop-slot.slot-items i none ≡ get_or old i none = ap (λ (zs : List Slot). get_or zs i none) inv ∙ still_at f old i none in
    let l : i < length old = subst (λ (zs : List Slot). i < length zs) c.deref_mut-slot-items.ensures.value c.loop-slot-test.true in
    let next : suc i ≡ i + 1 = omega arith in
    ap (λ (zs : List Slot). set zs i c.store.new.slot) inv
    ∙ ap (λ (x : Slot). set (map f (take i old) ++ drop i old) i x) (c.store.ensures ∙ ap f item)
    ∙ changed_at f old i none l
    ∙ ap (λ (n : ℕ). map f (take n old) ++ drop n old) next
