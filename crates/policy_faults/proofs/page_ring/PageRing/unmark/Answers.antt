use Rattle.std.proofs.Common.{◌<◌, ℕ, Some, None, false, length, get_or, refl, arith, deque_len}
use Rattle.std.proofs.lemmas.List.{get_or_read}
use Rattle.policy_faults.proofs.Calls.{unmarked_none, unmarked, unmarked_kept, there_at, place_past}
use Rattle.policy_faults.proofs.Marking.{there_within, mark_put}
use Rattle.policy_faults.proofs.page_ring.PageRing.unmark.Goals as goal

pub returns-in_default : goal.returns-in_default
returns-in_default c =
    unmarked_none (λ (q : ℕ). get_or c.self.inside.marks.items q None) c.self.inside.pages.items c.args.self.now c.self.view_is c.args.place
    (let past = place_past (deque_len c.self.inside.pages) c.args.place c.in_default.ensures.variant.1 in omega (arith, c.self.inside.pages.ok.0))

pub put_mark-requires : goal.put_mark-requires
put_mark-requires c =
    let within : c.args.place < length c.self.inside.pages.items = omega (arith, c.self.inside.pages.ok.0, c.in-Some.ensures.variant.0 refl) in
    let is = get_or_read c.self.inside.pages.items c.args.place c.in-Some.page.now within c.in-Some.ensures.lookup 0 in
    let there = there_at (λ (q : ℕ). get_or c.self.inside.marks.items q None) c.in-Some.page.now c.args.place c.self.inside.pages.items within is c.self.invariant in
    omega (arith, there_within c.self.inside.marks.items c.in-Some.page.now there, c.self.inside.marks.ok)

pub invariant_of-self : goal.invariant_of-self
invariant_of-self c =
    let within : c.args.place < length c.self.inside.pages.items = omega (arith, c.self.inside.pages.ok.0, c.in-Some.ensures.variant.0 refl) in
    let is = get_or_read c.self.inside.pages.items c.args.place c.in-Some.page.now within c.in-Some.ensures.lookup 0 in
    let there = there_at (λ (q : ℕ). get_or c.self.inside.marks.items q None) c.in-Some.page.now c.args.place c.self.inside.pages.items within is c.self.invariant in
    unmarked_kept (λ (q : ℕ). get_or c.self.inside.marks.items q None) (λ (q : ℕ). get_or c.put_mark.new.marks.items q None) c.in-Some.page.now c.args.place
    c.self.inside.pages.items within is c.self.invariant
    (mark_put c.self.inside.marks.items c.put_mark.new.marks.items c.in-Some.page.now (Some false) (there_within c.self.inside.marks.items c.in-Some.page.now there) c.put_mark.ensures)

pub returns : goal.returns
returns c =
    let within : c.args.place < length c.self.inside.pages.items = omega (arith, c.self.inside.pages.ok.0, c.in-Some.ensures.variant.0 refl) in
    let is = get_or_read c.self.inside.pages.items c.args.place c.in-Some.page.now within c.in-Some.ensures.lookup 0 in
    let there = there_at (λ (q : ℕ). get_or c.self.inside.marks.items q None) c.in-Some.page.now c.args.place c.self.inside.pages.items within is c.self.invariant in
    unmarked (λ (q : ℕ). get_or c.self.inside.marks.items q None) c.self.inside.pages.items c.args.self.now c.self.view_is
    (λ (q : ℕ). get_or c.put_mark.new.marks.items q None) c.in-Some.page.now c.args.place within is c.self.invariant
    (mark_put c.self.inside.marks.items c.put_mark.new.marks.items c.in-Some.page.now (Some false) (there_within c.self.inside.marks.items c.in-Some.page.now there) c.put_mark.ensures)
