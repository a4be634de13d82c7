use Rattle.std.proofs.Common.{◌≤◌, List, length, sym, subst}
use Rattle.vm_facts.specs.declared.page.Page.{Page}
use Rattle.reference_answers.specs.Grammar.{most_references}
use Rattle.reference_commands.specs.InMemory.{inputs_with}
use Rattle.reference_commands.proofs.Runs.{few_references}
use Rattle.reference_commands.proofs.answering.optimum_over.Goals as goal

pub optimum_text-requires-clause-small : goal.optimum_text-requires-clause-small
optimum_text-requires-clause-small c =
    subst (λ (xs : List Page). length xs ≤ most_references) (sym c.as_slice.ensures.value)
    (few_references (inputs_with c.args.numbers c.args.images.now c.args.first.now c.args.lines.now) c.in_ok-pages.pages.items c.requires.limit c.in_ok-pages.ensures)
