use Rattle.std.proofs.Common.{ℕ, Bool, Option, None, get_or, refl, ap, ◌∙◌, arith, deque_len}
use Rattle.std.specs.Prelude.{unwrap_or, false}
use Rattle.policy_faults.proofs.Calls.{none_at_hand, hand_told, place_past}
use Rattle.policy_faults.proofs.Marking.{mark_read}
use Rattle.policy_faults.proofs.page_ring.PageRing.is_hand_marked.Goals as goal

pub returns-in_default : goal.returns-in_default
returns-in_default c =
    none_at_hand (λ (q : ℕ). get_or c.self.inside.marks.items q None) c.self.inside.pages.items c.args.self.now c.self.view_is
    (let past = place_past (deque_len c.self.inside.pages) 0 c.in_default.ensures.variant.1 in omega (arith, c.self.inside.pages.ok.0))

pub returns : goal.returns
returns c =
    c.unwrap_or.ensures ∙ ap (λ (o : Option Bool). unwrap_or o false)
    (mark_read c.deref.result.now c.self.inside.marks.items c.in-Some.page.now c.mark_of.result c.mark_of.ensures c.deref.ensures.value)
    ∙ hand_told (λ (q : ℕ). get_or c.self.inside.marks.items q None) c.self.inside.pages.items c.args.self.now c.self.view_is c.in-Some.page.now
    (omega (arith, c.self.inside.pages.ok.0, c.in-Some.ensures.variant.0 refl)) c.in-Some.ensures.lookup
