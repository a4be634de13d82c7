use Rattle.std.proofs.Common.{◌&&◌, Bool, sym, ap, ◌∙◌}
use Rattle.vm_facts.specs.declared.page.PageState.{PageState}
use Rattle.page_model.specs.Placement.{is_dirty}
use Rattle.page_model.specs.Runs.{is_seated_by}
use Rattle.swapper.proofs.Seen.{shown_page}
use Rattle.swapper.proofs.seats.is_dirty.Goals as goal

pub returns-in-Some : goal.returns-in-Some
returns-in-Some c = λ p h n s.
    let x = shown_page p c.args.core.now c.args.space.now c.args.page c.in-Some.place h n (sym c.place.ensures ∙ c.in-Some.is) in
    c.is_dirty_seat.ensures p (is_dirty p c.args.page) h.free x.2
    ∙ ap (λ (y : PageState). is_seated_by p y && is_dirty p c.args.page) (sym x.1)
    ∙ ap (λ (b : Bool). b && is_dirty p c.args.page) s
