use Rattle.std.proofs.Common.{◌≡◌, ℕ, ◌+◌, ◌<◌, ◌≤◌, Bool, false, nat_le, List, length, get_or, Some, None, sym, ap, ap₂, ◌∙◌, subst, arith}
use Rattle.std.specs.Prelude.{position, ◌==◌}
use Rattle.std.proofs.lemmas.Bool.{leb-true}
use Rattle.std.proofs.lemmas.List.Quantifiers.{position-Some}
use Rattle.resource_map.specs.declared.Extent.{Extent}
use Rattle.resource_map.specs.Blocks.{Blocks, is_free_block, marked}
use Rattle.resource_map.specs.Room.{lowest_room}
use Rattle.resource_map.specs.Extents.{InOrder, free_blocks, cut_front}
use Rattle.resource_map.proofs.ExtentLaws.{lies_at}
use Rattle.resource_map.proofs.AllocLaws.{first_fit_is, no_fit, cut_order, cut_is_marked}
use Rattle.resource_map.proofs.ResourceMap.alloc.Goals as goal

abbrev blocks_with : List Bool → ℕ → Blocks
blocks_with free spare = record { free = free; spare = spare }

abbrev none_here : Extent
none_here = record { start = 0; length = 0 }

pub returns-in_default-clause-lowest : goal.returns-in_default-clause-lowest
returns-in_default-clause-lowest c =
    let es = c.self.inside.extents.items in
    let p : Extent → Bool = λ e. nat_le c.args.n e.length in
    let none : position p es ≡ None = ap (position p) (sym c.deref.ensures.value) ∙ sym c.first_fit.ensures ∙ c.in_default.is in
    subst (λ (m : Blocks). None ≡ lowest_room (is_free_block m.free) (length m.free) c.args.n) c.self.view_is
    (sym (no_fit c.self.inside.size es c.args.n none_here c.self.invariant.order c.requires none))

pub take_front-start-requires-clause-fits : goal.take_front-start-requires-clause-fits
take_front-start-requires-clause-fits c = λ d.
    let es = c.self.inside.extents.items in
    let p : Extent → Bool = λ e. nat_le c.args.n e.length in
    let found : position p es ≡ Some c.in-Some.at = ap (position p) (sym c.deref.ensures.value) ∙ sym c.first_fit.ensures ∙ c.in-Some.is in
    subst (λ (fs : List Extent). c.args.n ≤ (get_or fs c.in-Some.at d).length) (sym c.reserve.ensures.items)
    (leb-true c.args.n (get_or es c.in-Some.at d).length (position-Some p es c.in-Some.at d found).1)

pub take_front-start-requires-clause-small : goal.take_front-start-requires-clause-small
take_front-start-requires-clause-small c = λ d.
    let es = c.self.inside.extents.items in
    let p : Extent → Bool = λ e. nat_le c.args.n e.length in
    let found : position p es ≡ Some c.in-Some.at = ap (position p) (sym c.deref.ensures.value) ∙ sym c.first_fit.ensures ∙ c.in-Some.is in
    let l = lies_at 0 es c.self.inside.size c.in-Some.at d c.self.invariant.order (position-Some p es c.in-Some.at d found).0 in
    let w = l.within in
    subst (λ (fs : List Extent). (get_or fs c.in-Some.at d).start + (get_or fs c.in-Some.at d).length < 4294967296) (sym c.reserve.ensures.items)
    (omega arith)

found : (c : goal.After-self-1) → position (λ (e : Extent). nat_le c.args.n e.length) c.self.inside.extents.items ≡ Some c.in-Some.at
found c =
    ap (position (λ (e : Extent). nat_le c.args.n e.length)) (sym c.deref.ensures.value) ∙ sym c.first_fit.ensures ∙ c.in-Some.is

-- the place that was found is one of the extents, and it has n blocks
at_found : (c : goal.After-self-1)
    → (c.in-Some.at < length c.self.inside.extents.items) × (c.args.n ≤ (get_or c.self.inside.extents.items c.in-Some.at none_here).length)
at_found c =
    let p = position-Some (λ (e : Extent). nat_le c.args.n e.length) c.self.inside.extents.items c.in-Some.at none_here (found c) in
    (p.0, leb-true c.args.n (get_or c.self.inside.extents.items c.in-Some.at none_here).length p.1)

cut : (c : goal.After-self-1)
    → c.take_front-start.new.extents.items ≡ cut_front c.self.inside.extents.items c.in-Some.at c.args.n
    (get_or c.self.inside.extents.items c.in-Some.at none_here) ((get_or c.self.inside.extents.items c.in-Some.at none_here).length == c.args.n)
cut c =
    c.take_front-start.ensures.cut none_here ∙
    ap (λ (fs : List Extent). cut_front fs c.in-Some.at c.args.n (get_or fs c.in-Some.at none_here) ((get_or fs c.in-Some.at none_here).length == c.args.n)) c.reserve.ensures.items

start : (c : goal.After-self-1) → c.take_front-start.result ≡ (get_or c.self.inside.extents.items c.in-Some.at none_here).start
start c =
    c.take_front-start.ensures.start none_here ∙
    ap (λ (fs : List Extent). (get_or fs c.in-Some.at none_here).start) c.reserve.ensures.items

pub invariant_of-self-2 : goal.invariant_of-self-2
invariant_of-self-2 c =
    let at = at_found c in
    record {
      order =
          subst (λ (fs : List Extent). InOrder 0 fs c.self.inside.size) (sym (cut c))
          (cut_order 0 c.self.inside.extents.items c.self.inside.size c.in-Some.at c.args.n none_here c.self.invariant.order at.0 c.requires at.1);
      room = omega (arith, c.in_ok-reserve.ensures.ok);
    }

pub returns-clause-lowest : goal.returns-clause-lowest
returns-clause-lowest c =
    let es = c.self.inside.extents.items in
    ap (λ (s : ℕ). Some s) (start c) ∙
    subst (λ (m : Blocks). Some (get_or es c.in-Some.at none_here).start ≡ lowest_room (is_free_block m.free) (length m.free) c.args.n) c.self.view_is
    (sym (first_fit_is c.self.inside.size es c.args.n c.in-Some.at none_here c.self.invariant.order c.requires (found c)))

pub returns-clause-taken : goal.returns-clause-taken
returns-clause-taken c =
    let at = at_found c in
    let es = c.self.inside.extents.items in
    ap₂ blocks_with
    (ap (free_blocks c.self.inside.size) (cut c) ∙
    cut_is_marked c.self.inside.size es c.in-Some.at c.args.n none_here c.self.invariant.order at.0 at.1 ∙
    ap₂ (λ (free : List Bool) (s : ℕ). marked free s c.args.n false) (ap (λ (m : Blocks). m.free) c.self.view_is) (sym (start c)))
    (ap (λ (m : Blocks). m.spare + 1) c.self.view_is)
