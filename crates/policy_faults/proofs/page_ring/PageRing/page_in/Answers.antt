use Rattle.std.proofs.Common.{ℕ, List, Some, None, true, length, get_or, ap, ◌∷◌, [], ◌++◌, ◌∙◌, arith}
use Rattle.policy_faults.proofs.Calls.{came, came_kept, away_told}
use Rattle.policy_faults.proofs.Marking.{mark_came}
use Rattle.policy_faults.proofs.page_ring.PageRing.page_in.Goals as goal

pub put_mark-requires : goal.put_mark-requires
put_mark-requires c = c.in_ok-have_place.ensures.place

pub invariant_of-self-2 : goal.invariant_of-self-2
invariant_of-self-2 c =
    came_kept (λ (q : ℕ). get_or c.self.inside.marks.items q None) (λ (q : ℕ). get_or c.put_mark.new.marks.items q None) c.args.page c.self.inside.pages.items c.push_back.new.self.items
    (c.in-Ok.ensures.items ∙ ap (λ (ps : List ℕ). ps ++ c.args.page ∷ []) c.reserve.ensures.items) c.self.invariant
    (away_told (λ (q : ℕ). get_or c.self.inside.marks.items q None) c.self.inside.pages.items c.args.self.now c.self.view_is c.args.page c.requires)
    (mark_came c.have_place.new.marks.items c.self.inside.marks.items c.put_mark.new.marks.items c.args.page (Some true)
    (omega (arith, c.in_ok-have_place.ensures.place, c.have_place.new.marks.ok)) c.in_ok-have_place.ensures.same c.put_mark.ensures)

pub returns : goal.returns
returns c =
    came (λ (q : ℕ). get_or c.self.inside.marks.items q None) c.self.inside.pages.items c.args.self.now c.self.view_is
    (λ (q : ℕ). get_or c.put_mark.new.marks.items q None) c.args.page c.push_back.new.self.items
    (c.in-Ok.ensures.items ∙ ap (λ (ps : List ℕ). ps ++ c.args.page ∷ []) c.reserve.ensures.items) c.requires
    (mark_came c.have_place.new.marks.items c.self.inside.marks.items c.put_mark.new.marks.items c.args.page (Some true)
    (omega (arith, c.in_ok-have_place.ensures.place, c.have_place.new.marks.ok)) c.in_ok-have_place.ensures.same c.put_mark.ensures)
