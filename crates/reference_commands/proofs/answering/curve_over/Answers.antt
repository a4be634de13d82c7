use Rattle.std.proofs.Common.{◌≤◌, List, length, sym, subst}
use Rattle.vm_facts.specs.declared.page.Page.{Page}
use Rattle.reference_answers.specs.Grammar.{most_references}
use Rattle.reference_commands.specs.InMemory.{inputs_with}
use Rattle.reference_commands.proofs.Runs.{few_references}
use Rattle.reference_commands.proofs.answering.curve_over.Goals as goal

pub curve_text-requires : goal.curve_text-requires
curve_text-requires c =
    subst (λ (xs : List Page). length xs ≤ most_references) (sym c.as_slice.ensures.value)
    (few_references (inputs_with c.args.numbers c.args.images.now c.args.first.now c.args.lines.now) c.in_ok-pages.pages.items c.requires.limit c.in_ok-pages.ensures)
