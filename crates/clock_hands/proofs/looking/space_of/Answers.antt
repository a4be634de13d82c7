use Rattle.std.proofs.Common.{subst}
use Rattle.vm_facts.specs.declared.page.Page.{Page}
use Rattle.page_model.specs.Conditions.{IsShared}
use Rattle.clock_hands.proofs.Homes.{shared_by}
use Rattle.clock_hands.proofs.looking.space_of.Goals as goal

pub returns-in_err-sharer-in-Text-clause-found : goal.returns-in_err-sharer-in-Text-clause-found
returns-in_err-sharer-in-Text-clause-found c =
    absurd (shared_by c.args.m.now.kernel.place c.in-Text.image c.requires.running.numbered.spaces_differ
    (subst (λ (q : Page). IsShared c.args.m.now.kernel.place q) c.in-Text.is c.requires.shared) c.in_err-sharer-in-Text.ensures)
