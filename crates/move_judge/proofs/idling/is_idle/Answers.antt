use Rattle.std.proofs.Common.{◌==◌, ℕ, List, sym, ap, ◌∙◌}
use Rattle.vm_facts.specs.Lists.{times}
use Rattle.page_model.specs.Runs.{is_idle_by}
use Rattle.move_judge.proofs.idling.is_idle.Goals as goal

pub returns-in-Invalid : goal.returns-in-Invalid
returns-in-Invalid c =
    c.is_off_list.ensures
    ∙ ap (λ (fs : List ℕ). times c.in-Invalid.frame fs == 0) (sym c.core.ensures.free)
    ∙ ap (is_idle_by c.args.m.now.kernel.place) (sym c.in-Invalid.is ∙ c.state.ensures)
