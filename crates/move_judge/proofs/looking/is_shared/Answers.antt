use Rattle.std.proofs.Common.{sym, ap, ◌∙◌}
use Rattle.vm_facts.specs.declared.page.Page.{Page}
use Rattle.paged_model.specs.Moves.{is_shared}
use Rattle.move_judge.proofs.Homes.{sharer_says}
use Rattle.move_judge.proofs.looking.is_shared.Goals as goal

pub returns-in-Text : goal.returns-in-Text
returns-in-Text c =
    let p = c.args.m.now.kernel.place in
    c.is_some.ensures ∙ sharer_says p c.in-Text.image c.sharer.result c.requires.numbered.spaces_differ c.sharer.ensures
    ∙ sym (ap (λ (q : Page). is_shared p q) c.in-Text.is)
