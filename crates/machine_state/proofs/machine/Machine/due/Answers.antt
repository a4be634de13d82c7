use Rattle.std.proofs.Common.{◌≡◌, ◌<◌, List, [], ◌∷◌, length, map, get_or, Some, ap, ◌∙◌, arith}
use Rattle.vm_facts.specs.declared.page.Page.{Page}
use Rattle.page_model.specs.Placement.{due_page}
use Rattle.table_steps.specs.DueFill.{DueFill}
use Rattle.table_steps.specs.Calls.{first_due}
use Rattle.table_steps.specs.Machine.{Standing}
use Rattle.table_steps.specs.View.{due_shown}
use Rattle.machine_state.proofs.machine.Machine.due.Goals as goal

first_is : (ds : List DueFill) (x : DueFill) → x ≡ get_or ds 0 x → 0 < length ds → Some (due_page (due_shown x)) ≡ first_due (map due_shown ds)
first_is [] x e l = absurd (omega arith)
first_is (d ∷ ds) x e l = ap (λ (y : DueFill). Some (due_page (due_shown y))) e

pub returns : goal.returns
returns c =
    ap (λ (q : Page). Some q) c.page.ensures
    ∙ first_is c.self.inside.tables.fills.items c.in_ok-front.field-0.now c.in_ok-front.ensures.lookup c.in_ok-front.ensures.item.3.0
    ∙ ap (λ (s : Standing). first_due s.kernel.place.due) c.self.view_is
