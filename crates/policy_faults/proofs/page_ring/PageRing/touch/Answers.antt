use Rattle.std.proofs.Common.{ℕ, Bool, Option, Some, None, true, not, get_or, sym, ap, ◌∙◌, arith}
use Rattle.std.specs.Prelude.{is_some}
use Rattle.policy_faults.proofs.Calls.{resident_told, touched, touched_kept}
use Rattle.policy_faults.proofs.Marking.{mark_read, there_within, mark_put}
use Rattle.policy_faults.proofs.page_ring.PageRing.touch.Goals as goal

pub returns-then-is_none-clause-there : goal.returns-then-is_none-clause-there
returns-then-is_none-clause-there c =
    let read = mark_read c.deref.result.now c.self.inside.marks.items c.args.page c.mark_of.result c.mark_of.ensures c.deref.ensures.value in
    sym (c.is_none.ensures ∙ ap (λ (b : Bool). not b) c.if-is_none.true) ∙ ap (λ (o : Option Bool). is_some o) read
    ∙ resident_told (λ (q : ℕ). get_or c.self.inside.marks.items q None) c.self.inside.pages.items c.args.self.now c.self.view_is c.args.page c.self.invariant

pub put_mark-requires : goal.put_mark-requires
put_mark-requires c =
    let read = mark_read c.deref.result.now c.self.inside.marks.items c.args.page c.mark_of.result c.mark_of.ensures c.deref.ensures.value in
    let there = sym (ap (λ (o : Option Bool). is_some o) read) ∙ c.is_none.ensures ∙ ap (λ (b : Bool). not b) c.if-is_none.false in
    omega (arith, there_within c.self.inside.marks.items c.args.page there, c.self.inside.marks.ok)

pub invariant_of-self : goal.invariant_of-self
invariant_of-self c =
    let read = mark_read c.deref.result.now c.self.inside.marks.items c.args.page c.mark_of.result c.mark_of.ensures c.deref.ensures.value in
    let there = sym (ap (λ (o : Option Bool). is_some o) read) ∙ c.is_none.ensures ∙ ap (λ (b : Bool). not b) c.if-is_none.false in
    touched_kept (λ (q : ℕ). get_or c.self.inside.marks.items q None) (λ (q : ℕ). get_or c.put_mark.new.marks.items q None) c.args.page true c.self.inside.pages.items c.self.invariant there
    (mark_put c.self.inside.marks.items c.put_mark.new.marks.items c.args.page (Some true) (there_within c.self.inside.marks.items c.args.page there) c.put_mark.ensures)

pub returns-clause-there : goal.returns-clause-there
returns-clause-there c =
    let read = mark_read c.deref.result.now c.self.inside.marks.items c.args.page c.mark_of.result c.mark_of.ensures c.deref.ensures.value in
    sym (c.is_none.ensures ∙ ap (λ (b : Bool). not b) c.if-is_none.false) ∙ ap (λ (o : Option Bool). is_some o) read
    ∙ resident_told (λ (q : ℕ). get_or c.self.inside.marks.items q None) c.self.inside.pages.items c.args.self.now c.self.view_is c.args.page c.self.invariant

pub returns-clause-marked : goal.returns-clause-marked
returns-clause-marked c = λ is.
    let read = mark_read c.deref.result.now c.self.inside.marks.items c.args.page c.mark_of.result c.mark_of.ensures c.deref.ensures.value in
    let there = sym (ap (λ (o : Option Bool). is_some o) read) ∙ c.is_none.ensures ∙ ap (λ (b : Bool). not b) c.if-is_none.false in
    touched (λ (q : ℕ). get_or c.self.inside.marks.items q None) c.self.inside.pages.items c.args.self.now c.self.view_is (λ (q : ℕ). get_or c.put_mark.new.marks.items q None) c.args.page
    (mark_put c.self.inside.marks.items c.put_mark.new.marks.items c.args.page (Some true) (there_within c.self.inside.marks.items c.args.page there) c.put_mark.ensures)
