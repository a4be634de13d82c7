use Rattle.std.proofs.Common.{◌≡◌, ◌∙◌, sym, ap, subst, List, [], ◌∷◌, ◌++◌, length, inl, inr, arith, vec_len}
use Rattle.std.proofs.lemmas.Bool.{cases_lt, false≢true}
use Rattle.transfer_ring.specs.declared.transfer.Transfer.{Transfer}
use Rattle.transfer_ring.specs.Slots.{in_flight}
use Rattle.transfer_ring.proofs.KeepLemmas.{kept_length, begin_spare, begin_kept, begin_view, order_room, pushed_items}
use Rattle.transfer_ring.proofs.ring.TransferRing.begin.Goals as goal

pub returns-in_default-clause-full : goal.returns-in_default-clause-full
returns-in_default-clause-full c =
    let a = c.self.inside in
    let kept = c.self.invariant.kept in
    let size : length c.args.self.now ≡ length a.order.items =
    ap (λ (l : List Transfer). length l) (sym c.self.view_is) ∙ kept_length a.slots.items a.order.items a.spare.items kept in (
      λ _. elim (cases_lt 0 (vec_len a.spare)) [
        | inl more ↦ absurd (false≢true (c.in_default.ensures.variant.1 more))
        | inr none ↦ omega (arith, size, kept.count, none)
      ],
      λ _. tt,
    )

pub put-requires-clause-below : goal.put-requires-clause-below
put-requires-clause-below c =
    let a = c.self.inside in
    (begin_spare a.slots.items a.order.items a.spare.items _ c.in-Some.slot c.self.invariant.kept c.in-Some.ensures.items).below

pub put-requires-clause-empty : goal.put-requires-clause-empty
put-requires-clause-empty c =
    let a = c.self.inside in
    (begin_spare a.slots.items a.order.items a.spare.items _ c.in-Some.slot c.self.invariant.kept c.in-Some.ensures.items).empty

pub invariant_of-self-2 : goal.invariant_of-self-2
invariant_of-self-2 c =
    let a = c.self.inside in
    let kept = c.self.invariant.kept in
    let slot = c.in-Some.slot in
    let room = order_room a.slots.items a.order.items a.spare.items _ slot kept c.in-Some.ensures.items in
    let order = pushed_items a.order c.push_back.new.self slot c.self.invariant.order_room room c.push_back.ensures.items in
    record {
      order_room = ap (λ b. b.capacity) c.push_back.ensures.items ∙ c.self.invariant.order_room;
      spare_room = c.in-Some.ensures.capacity ∙ c.self.invariant.spare_room;
      kept = begin_kept a.slots.items c.put.new.slots.items a.order.items c.push_back.new.self.items a.spare.items c.pop.new.self.items slot c.args.t c.requires kept
          c.in-Some.ensures.items c.put.ensures order;
    }

pub returns-clause-begun : goal.returns-clause-begun
returns-clause-begun c =
    let a = c.self.inside in
    let kept = c.self.invariant.kept in
    let slot = c.in-Some.slot in
    let room = order_room a.slots.items a.order.items a.spare.items _ slot kept c.in-Some.ensures.items in
    let order = pushed_items a.order c.push_back.new.self slot c.self.invariant.order_room room c.push_back.ensures.items in
    subst (λ (l : List Transfer). in_flight c.put.new.slots.items c.push_back.new.self.items ≡ l ++ c.args.t ∷ []) c.self.view_is
    (begin_view a.slots.items c.put.new.slots.items a.order.items c.push_back.new.self.items a.spare.items c.pop.new.self.items slot c.args.t kept c.in-Some.ensures.items c.put.ensures order)

pub returns-clause-full : goal.returns-clause-full
returns-clause-full c =
    let a = c.self.inside in
    let kept = c.self.invariant.kept in
    let size : length c.args.self.now ≡ length a.order.items =
    ap (λ (l : List Transfer). length l) (sym c.self.view_is) ∙ kept_length a.slots.items a.order.items a.spare.items kept in
    let room = order_room a.slots.items a.order.items a.spare.items _ c.in-Some.slot kept c.in-Some.ensures.items in
    (λ no. absurd no, λ full. omega (arith, size, room, full))
