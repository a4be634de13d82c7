-- The fills are shown one by one.
use Rattle.std.proofs.Common.{◌≡◌, ℕ, List, length, map, Option, Some, None, option_map, slice_get, refl, sym, ap, ap₂, ◌∙◌}
use Rattle.std.proofs.lemmas.Option.{slice_get-map, slice_get_read, slice_get_past}
use Rattle.vm_facts.specs.declared.page.Page.{Page}
use Rattle.table_steps.specs.DueFill.{DueFill}
use Rattle.table_steps.specs.Calls.{due_and_parent}
use Rattle.table_steps.specs.Machine.{Standing}
use Rattle.table_steps.specs.View.{due_shown}
use Rattle.page_model.specs.Placement.{Due}
use Rattle.machine_state.proofs.machine.Machine.due_at.Goals as goal

shown_at : (ds : List DueFill) (place : ℕ)
    → option_map due_and_parent (option_map due_shown (slice_get ds place)) ≡ option_map due_and_parent (slice_get (map due_shown ds) place)
shown_at ds place = sym (ap (λ (o : Option Due). option_map due_and_parent o) (slice_get-map due_shown ds place))

pub returns : goal.returns
returns c =
    let ds = c.self.inside.tables.fills.items in
    let some : slice_get ds c.args.place ≡ Some c.in_ok-fill.fill.now =
    slice_get_read ds (length ds) c.args.place c.in_ok-fill.fill.now refl c.in_ok-fill.ensures.item.3.0 c.in_ok-fill.ensures.lookup in
    let pair : (c.page.result, c.parent.result) ≡ due_and_parent (due_shown c.in_ok-fill.fill.now) =
    ap₂ (λ (q : Page) (r : Option Page). let z : Page × Option Page = (q, r) in z) c.page.ensures c.parent.ensures in
    ap (λ (z : Page × Option Page). Some z) pair
    ∙ sym (ap (λ (o : Option DueFill). option_map due_and_parent (option_map due_shown o)) some)
    ∙ shown_at ds c.args.place
    ∙ ap (λ (s : Standing). option_map due_and_parent (slice_get s.kernel.place.due c.args.place)) c.self.view_is

pub returns-in_err-fill : goal.returns-in_err-fill
returns-in_err-fill c =
    let ds = c.self.inside.tables.fills.items in
    let none : slice_get ds c.args.place ≡ None = slice_get_past ds c.args.place c.in_err-fill.ensures.item.3 in
    c.from_residual.ensures
    ∙ sym (ap (λ (o : Option DueFill). option_map due_and_parent (option_map due_shown o)) none)
    ∙ shown_at ds c.args.place
    ∙ ap (λ (s : Standing). option_map due_and_parent (slice_get s.kernel.place.due c.args.place)) c.self.view_is
