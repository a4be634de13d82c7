-- The film stands at a state of the run, and all entries so far are noted.
use Rattle.io_edge.specs.WithFiles.{stores}
use Rattle.std.proofs.Common.{◌≡◌, ◌≤◌, ◌-◌, length}
use Rattle.vm_facts.specs.SwapImages.{SwapImage}
use Rattle.flat_state.specs.Flat.{Inputs}
use Rattle.machine_state.specs.Outside.{IsBacked}
use Rattle.reference_commands.specs.Machines.{journal_entries}
use Rattle.film_core.specs.Films.{IsFilming, FilmBegun}
use Rattle.question_command.specs.Counted.{look_at_film, Counted}
use Rattle.question_command.proofs.counting.count_on.Given as goal

abbrev pub invariant-loop-film : goal.invariant-loop-film
invariant-loop-film g l = record {
  filming : IsFilming l.film l.lines (g.F.Files.holds l.files) (stores g.F.Files g.D.SwapDev l.files l.swap);
  so_far : (A : Inputs) (image : SwapImage) → A.lines ≡ l.lines → FilmBegun A l.fn.film (g.F.Files.holds l.fn.files) (stores g.F.Files g.D.SwapDev l.fn.files l.fn.swap) image
      → Counted A l.film (g.F.Files.holds l.files) (stores g.F.Files g.D.SwapDev l.files l.swap) (look_at_film l.fn.film) l.notes.items;
  within : length l.film.machine.kernel.journal ≤ journal_entries;
  backed : IsBacked l.film.machine (g.F.Files.holds l.files) (g.D.SwapDev.blocks l.swap);
}

abbrev pub decreases-loop-film : goal.decreases-loop-film
decreases-loop-film g l = journal_entries - length l.film.machine.kernel.journal
