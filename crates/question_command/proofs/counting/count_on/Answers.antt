use Rattle.io_edge.specs.WithFiles.{stores}
use Rattle.std.proofs.Common.{List, length, sym, ap, ◌∙◌, subst, arith}
use Rattle.run_stats.specs.declared.noting.Note.{Note}
use Rattle.question_command.specs.Counted.{look_at_film, Counted}
use Rattle.reference_commands.specs.Machines.{journal_entries}
use Rattle.question_command.proofs.Steps.{goes_further}
use Rattle.question_command.proofs.Noting.{counted_first}
use Rattle.question_command.proofs.counting.count_on.Goals as goal

pub loop-film-init : goal.loop-film-init
loop-film-init g c = record {
  filming = c.requires.filming;
  so_far = λ A image are begun.
      subst (λ (xs : List Note). Counted A c.args.film.now (g.F.Files.holds c.args.files.now) (stores g.F.Files g.D.SwapDev c.args.files.now c.args.swap.now)
      (look_at_film c.args.film.now) xs) (sym c.new-notes.ensures.items)
      (counted_first A c.args.film.now (g.F.Files.holds c.args.files.now) (stores g.F.Files g.D.SwapDev c.args.files.now c.args.swap.now) image begun);
  within = let empty = ap length c.requires.first in omega (arith, empty);
  backed = c.requires.backed;
}

pub goes_on-requires : goal.goes_on-requires
goes_on-requires g c = c.loop-film.invariant.filming.at.ready.running

pub count_entry-requires-clause-more : goal.count_entry-requires-clause-more
count_entry-requires-clause-more g c =
    (goes_further c.loop-film.film.over (length c.loop-film.film.machine.kernel.journal) journal_entries (sym c.goes_on.ensures ∙ c.loop-film-test.true)).0

pub count_entry-requires-clause-room : goal.count_entry-requires-clause-room
count_entry-requires-clause-room g c =
    let below = (goes_further c.loop-film.film.over (length c.loop-film.film.machine.kernel.journal) journal_entries (sym c.goes_on.ensures ∙ c.loop-film-test.true)).1 in
    omega (arith, below)

pub loop-film-preserved : goal.loop-film-preserved
loop-film-preserved g c =
    let so = c.loop-film.invariant in
    let below = (goes_further c.loop-film.film.over (length c.loop-film.film.machine.kernel.journal) journal_entries (sym c.goes_on.ensures ∙ c.loop-film-test.true)).1 in
    let ends = c.in_ok-count_entry.ensures in
    record {
      filming = ends.filming;
      so_far = λ A image are begun. ends.counts A _ are (so.so_far A image are begun);
      within = let longer = ends.longer in omega (arith, below, longer);
      backed = ends.backed;
    }

pub loop-film-smaller : goal.loop-film-smaller
loop-film-smaller g c =
    let below = (goes_further c.loop-film.film.over (length c.loop-film.film.machine.kernel.journal) journal_entries (sym c.goes_on.ensures ∙ c.loop-film-test.true)).1 in
    let longer = c.in_ok-count_entry.ensures.longer in
    omega (arith, below, longer)

pub returns-clause-counted : goal.returns-clause-counted
returns-clause-counted g c = λ A image are begun. c.loop-film.invariant.so_far A image are begun

pub returns-clause-running : goal.returns-clause-running
returns-clause-running g c = c.loop-film.invariant.filming.at.ready.running

pub returns-clause-ends : goal.returns-clause-ends
returns-clause-ends g c = sym c.goes_on.ensures ∙ c.loop-film-test.false
