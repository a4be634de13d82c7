use Rattle.std.proofs.Common.{ℕ, get_or, None, arith}
use Rattle.policy_faults.proofs.Calls.{none_passed, passed, hand_kept}
use Rattle.policy_faults.proofs.page_ring.PageRing.pass_hand.Goals as goal

pub returns-in_default : goal.returns-in_default
returns-in_default c =
    none_passed (λ (q : ℕ). get_or c.self.inside.marks.items q None) c.self.inside.pages.items c.args.self.now c.self.view_is c.pop_front.new.self.items
    (omega (arith, c.self.inside.pages.ok.0, c.in_default.ensures.cases.0)) (omega (arith, c.pop_front.new.self.ok.0, c.in_default.ensures.cases.1))

pub invariant_of-self-2 : goal.invariant_of-self-2
invariant_of-self-2 c =
    hand_kept (λ (q : ℕ). get_or c.self.inside.marks.items q None) c.in-Some.page c.self.inside.pages.items c.pop_front.new.self.items
    c.push_back.new.self.items c.in-Some.ensures.items
    c.in-Ok.ensures.items c.self.invariant

pub returns : goal.returns
returns c =
    passed (λ (q : ℕ). get_or c.self.inside.marks.items q None) c.self.inside.pages.items c.args.self.now c.self.view_is c.in-Some.page c.pop_front.new.self.items
    c.push_back.new.self.items c.in-Some.ensures.items
    c.in-Ok.ensures.items
