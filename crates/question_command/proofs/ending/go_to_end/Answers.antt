use Rattle.std.proofs.Common.{length, sym, ap, ◌∙◌, arith}
use Rattle.reference_commands.specs.Machines.{journal_entries}
use Rattle.question_command.proofs.Steps.{goes_further}
use Rattle.question_command.proofs.ending.go_to_end.Goals as goal

pub loop-film-init : goal.loop-film-init
loop-film-init g c = record {
  filming = c.requires.filming;
  so_far = λ A image are begun. record { state = begun.state; image = image; at = begun.at };
  within = let empty = ap length c.requires.first in omega (arith, empty);
  backed = c.requires.backed;
}

pub goes_on-requires : goal.goes_on-requires
goes_on-requires g c = c.loop-film.invariant.filming.at.ready.running

pub go_on_once-requires-clause-more : goal.go_on_once-requires-clause-more
go_on_once-requires-clause-more g c =
    (goes_further c.loop-film.film.over (length c.loop-film.film.machine.kernel.journal) journal_entries (sym c.goes_on.ensures ∙ c.loop-film-test.true)).0

pub go_on_once-requires-clause-room : goal.go_on_once-requires-clause-room
go_on_once-requires-clause-room g c =
    let below = (goes_further c.loop-film.film.over (length c.loop-film.film.machine.kernel.journal) journal_entries (sym c.goes_on.ensures ∙ c.loop-film-test.true)).1 in
    omega (arith, below)

pub loop-film-preserved : goal.loop-film-preserved
loop-film-preserved g c =
    let so = c.loop-film.invariant in
    let below = (goes_further c.loop-film.film.over (length c.loop-film.film.machine.kernel.journal) journal_entries (sym c.goes_on.ensures ∙ c.loop-film-test.true)).1 in
    let ends = c.in_ok-go_on_once.ensures in
    record {
      filming = ends.filming;
      so_far = λ A image are begun. ends.goes A are (so.so_far A image are begun);
      within = let longer = ends.longer in omega (arith, below, longer);
      backed = ends.backed;
    }

pub loop-film-smaller : goal.loop-film-smaller
loop-film-smaller g c =
    let below = (goes_further c.loop-film.film.over (length c.loop-film.film.machine.kernel.journal) journal_entries (sym c.goes_on.ensures ∙ c.loop-film-test.true)).1 in
    let longer = c.in_ok-go_on_once.ensures.longer in
    omega (arith, below, longer)

pub returns-clause-there : goal.returns-clause-there
returns-clause-there g c = λ A image are begun. c.loop-film.invariant.so_far A image are begun

pub returns-clause-running : goal.returns-clause-running
returns-clause-running g c = c.loop-film.invariant.filming.at.ready.running

pub returns-clause-ends : goal.returns-clause-ends
returns-clause-ends g c = sym c.goes_on.ensures ∙ c.loop-film-test.false
