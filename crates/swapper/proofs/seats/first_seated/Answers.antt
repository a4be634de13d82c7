use Rattle.std.proofs.Common.{◌≡◌, ℕ, Option, None, Some, sym, ap, ◌∙◌, refl}
use Rattle.vm_facts.specs.declared.page.Page.{Page}
use Rattle.vm_facts.specs.declared.page.Page.TheVariants.{Stack}
use Rattle.flat_state.specs.PageNames.{pages_from}
use Rattle.page_model.specs.Swapper.{first_seated}
use Rattle.swapper.proofs.Seen.{first_of, first_whole}
use Rattle.swapper.proofs.seats.first_seated.Goals as goal

pub returns-in-Some : goal.returns-in-Some
returns-in-Some c = λ p h.
    let s = c.args.space.now in
    let rest : Option Page = first_seated p (pages_from (Stack c.sid-sid.result 0) 0 (Rattle.std.proofs.Common.length s.stack)) in
    sym (ap (λ (o : Option Page). first_of o rest) c.in-Some.is)
    ∙ first_whole p c.args.core.now s c.sid-sid.result c.data_pages.result (Rattle.std.proofs.Common.length s.stack) c.first_in.result rest h c.sid-sid.ensures c.data_pages.ensures.count refl
    (c.first_in.ensures p h (λ v. c.sid-sid.ensures)) refl

pub returns-in-None : goal.returns-in-None
returns-in-None c = λ p h.
    sym (ap (λ (o : Option Page). first_of o c.first_in-in-None.result) c.in-None.is)
    ∙ first_whole p c.args.core.now c.args.space.now c.sid-sid.result c.data_pages.result c.stack_pages.result c.first_in.result c.first_in-in-None.result h c.sid-sid.ensures
    c.data_pages.ensures.count c.stack_pages.ensures.count (c.first_in.ensures p h (λ v. c.sid-sid.ensures)) (c.first_in-in-None.ensures p h (λ v. c.sid-sid.ensures))
