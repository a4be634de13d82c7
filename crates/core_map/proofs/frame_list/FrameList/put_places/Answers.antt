-- One more place is written; where none is left, each frame of the list has its own.
use Rattle.std.proofs.Common.{◌≡◌, ℕ, ◌+◌, ◌<◌, ◌≤◌, ◌-◌, List, length, get_or, set, slice_index, length-set, sym, ap, subst, ◌∙◌, inl, inr, arith}
use Rattle.std.proofs.lemmas.Bool.{cases_lt}
use Rattle.std.proofs.lemmas.List.{get_or_read}
use Rattle.vm_facts.specs.Lists.{times}
use Rattle.core_map.specs.Order.{Order, place_from}
use Rattle.core_map.specs.Links.{walk, frames_of}
use Rattle.core_map.proofs.PlaceLemmas.{written, written_more, written_all, written_listed, written_others}
use Rattle.core_map.proofs.frame_list.FrameList.put_places.Goals as goal

pub loop-before-preserved : goal.loop-before-preserved
loop-before-preserved c =
    let a = c.self.inside in
    let i : ℕ = c.loop-before.before in
    let places : List ℕ = c.loop-before.places in
    let x : ℕ = c.index-at.result.now in
    let link : x ≡ get_or a.next.items c.loop-before.at 0 = get_or_read a.next.items c.loop-before.at x c.loop-before.invariant.within c.index-at.ensures 0 in
    record {
      within = subst (λ (y : ℕ). y < length a.next.items) (sym link) (c.self.invariant.next_below c.loop-before.at 0 c.loop-before.invariant.within);
      long = length-set places x (i + 1) ∙ c.loop-before.invariant.long;
      left =
          ap (λ (y : ℕ). written (i + 1 + 1) (walk (a.len - (i + 1)) a.next.items y) (set places y (i + 1))) link
          ∙ sym (written_more a.next.items a.len i c.loop-before.at places c.loop-before-test.true)
          ∙ c.loop-before.invariant.left;
    }

pub returns-clause-listed : goal.returns-clause-listed
returns-clause-listed c frame here =
    let a = c.self.inside in
    let xs : List ℕ = frames_of a in
    let old : List ℕ = c.args.places.now in
    let is : c.loop-before.places ≡ written 1 xs old =
    sym (written_all a.next.items a.len c.loop-before.before c.loop-before.at c.loop-before.places c.loop-before-test.false) ∙ c.loop-before.invariant.left in
    let present : 0 < times frame xs = subst (λ (o : Order). 0 < times frame o.frames) (sym c.self.view_is) here in
    let bound : length a.next.items ≤ length old = subst (λ (o : Order). o.bound ≤ length old) (sym c.self.view_is) c.requires in
    let low : frame < length a.next.items = elim (cases_lt frame (length a.next.items)) [
      | inl h ↦ h
      | inr h ↦ absurd (omega (arith, present, c.self.invariant.order.below frame h))
    ] in
    ap (λ (ps : List ℕ). slice_index ps frame) is
    ∙ written_listed 1 frame xs old c.self.invariant.order.apart (omega (arith, low, bound)) present
    ∙ ap (λ (o : Order). place_from 1 frame o.frames) c.self.view_is

pub returns-clause-others : goal.returns-clause-others
returns-clause-others c frame none =
    let a = c.self.inside in
    let xs : List ℕ = frames_of a in
    let is : c.loop-before.places ≡ written 1 xs c.args.places.now =
    sym (written_all a.next.items a.len c.loop-before.before c.loop-before.at c.loop-before.places c.loop-before-test.false) ∙ c.loop-before.invariant.left in
    let absent : times frame xs ≡ 0 = subst (λ (o : Order). times frame o.frames ≡ 0) (sym c.self.view_is) none in
    ap (λ (ps : List ℕ). slice_index ps frame) is ∙ written_others 1 frame xs c.args.places.now absent
