use Rattle.std.proofs.Common.{List, length, refl, sym, ap, subst, arith}
use Rattle.vm_facts.specs.declared.entry.Entry.{Entry}
use Rattle.run_command.specs.RunEnds.{RunEnds}
use Rattle.reference_commands.specs.Answering.{blank_stores}
use Rattle.reference_commands.specs.InMemory.{inputs_with}
use Rattle.reference_commands.proofs.running.run_references.Goals as goal

pub returns : goal.returns
returns c =
    let A = inputs_with c.args.numbers c.args.images.now c.args.first.now c.args.lines.now in
    c.references_at_end-pages.ensures.ends A c.in-Ok.ensures.left refl refl c.requires.runnable.allowed.most_limit
    (subst (λ (journal : List Entry). RunEnds A journal (blank_stores c.args.numbers.swap) c.in-Ok.ran.end c.in-Ok.ensures.left) (sym c.journal.ensures) c.in-Ok.ensures.ends)
    (λ e. let bound = (c.in-Ok.ensures.full e).bound in
    let entries = c.in-Ok.ensures.journal in let same = ap (λ (journal : List Entry). length journal) c.journal.ensures in omega (arith, bound, entries, same))
