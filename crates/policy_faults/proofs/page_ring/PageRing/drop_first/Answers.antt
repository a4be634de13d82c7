use Rattle.std.proofs.Common.{ℕ, None, get_or, arith}
use Rattle.policy_faults.proofs.Calls.{none_left, left, first_kept}
use Rattle.policy_faults.proofs.Marking.{front_there, there_within, mark_put}
use Rattle.policy_faults.proofs.page_ring.PageRing.drop_first.Goals as goal

pub returns-in_default : goal.returns-in_default
returns-in_default c =
    none_left (λ (q : ℕ). get_or c.self.inside.marks.items q None) c.self.inside.pages.items c.args.self.now c.self.view_is c.pop_front.new.self.items
    (omega (arith, c.self.inside.pages.ok.0, c.in_default.ensures.cases.0)) (omega (arith, c.pop_front.new.self.ok.0, c.in_default.ensures.cases.1))

pub put_mark-requires : goal.put_mark-requires
put_mark-requires c =
    let there = front_there (λ (q : ℕ). get_or c.self.inside.marks.items q None) c.in-Some.page c.self.inside.pages.items c.pop_front.new.self.items c.in-Some.ensures.items c.self.invariant in
    omega (arith, there_within c.self.inside.marks.items c.in-Some.page there, c.self.inside.marks.ok)

pub invariant_of-self-2 : goal.invariant_of-self-2
invariant_of-self-2 c =
    let there = front_there (λ (q : ℕ). get_or c.self.inside.marks.items q None) c.in-Some.page c.self.inside.pages.items c.pop_front.new.self.items c.in-Some.ensures.items c.self.invariant in
    first_kept (λ (q : ℕ). get_or c.self.inside.marks.items q None) (λ (q : ℕ). get_or c.put_mark.new.marks.items q None) c.in-Some.page
    c.self.inside.pages.items c.pop_front.new.self.items c.in-Some.ensures.items c.self.invariant
    (mark_put c.self.inside.marks.items c.put_mark.new.marks.items c.in-Some.page None (there_within c.self.inside.marks.items c.in-Some.page there) c.put_mark.ensures)

pub returns : goal.returns
returns c =
    let there = front_there (λ (q : ℕ). get_or c.self.inside.marks.items q None) c.in-Some.page c.self.inside.pages.items c.pop_front.new.self.items c.in-Some.ensures.items c.self.invariant in
    left (λ (q : ℕ). get_or c.self.inside.marks.items q None) c.self.inside.pages.items c.args.self.now c.self.view_is
    (λ (q : ℕ). get_or c.put_mark.new.marks.items q None) c.in-Some.page c.pop_front.new.self.items c.in-Some.ensures.items c.self.invariant
    (mark_put c.self.inside.marks.items c.put_mark.new.marks.items c.in-Some.page None (there_within c.self.inside.marks.items c.in-Some.page there) c.put_mark.ensures)
