-- The film stands at a state of the run, and its journal agrees with the trace, or has just parted from it.
use Rattle.io_edge.specs.WithFiles.{stores}
use Rattle.std.proofs.Common.{◌≡◌, ◌≤◌, ◌-◌, length}
use Rattle.vm_facts.specs.SwapImages.{SwapImage}
use Rattle.flat_state.specs.Flat.{Inputs}
use Rattle.machine_state.specs.Outside.{IsBacked}
use Rattle.film_core.specs.Films.{IsFilming, FilmBegun}
use Rattle.grade_command.specs.Along.{Along}
use Rattle.grade_command.proofs.grading.grade_trace.Given as goal

abbrev pub invariant-loop-film : goal.invariant-loop-film
invariant-loop-film g l = record {
  filming : IsFilming l.film l.lines (g.F.Files.holds l.files) (stores g.F.Files g.D.SwapDev l.files l.swap);
  so_far : (A : Inputs) (image : SwapImage) → A.lines ≡ l.lines → FilmBegun A l.fn.film (g.F.Files.holds l.fn.files) (stores g.F.Files g.D.SwapDev l.fn.files l.fn.swap) image
      → Along A l.film (g.F.Files.holds l.files) (stores g.F.Files g.D.SwapDev l.files l.swap) l.agrees l.entries;
  within : length l.film.machine.kernel.journal ≤ length l.entries;
  backed : IsBacked l.film.machine (g.F.Files.holds l.files) (g.D.SwapDev.blocks l.swap);
}

abbrev pub decreases-loop-film : goal.decreases-loop-film
decreases-loop-film g l = length l.entries - length l.film.machine.kernel.journal
