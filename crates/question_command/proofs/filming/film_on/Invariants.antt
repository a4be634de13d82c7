-- The film stands at a state of the run, and the text has its steps so far.
use Rattle.io_edge.specs.WithFiles.{stores}
use Rattle.std.proofs.Common.{◌≡◌, ◌≤◌, ◌-◌, length}
use Rattle.vm_facts.specs.SwapImages.{SwapImage}
use Rattle.flat_state.specs.Flat.{Inputs}
use Rattle.machine_state.specs.Outside.{IsBacked}
use Rattle.film_core.specs.Films.{IsFilming, FilmBegun}
use Rattle.question_command.specs.Filmed.{Filmed}
use Rattle.question_command.proofs.filming.film_on.Given as goal

abbrev pub invariant-loop-alloc : goal.invariant-loop-alloc
invariant-loop-alloc g l = record {
  filming : IsFilming l.film l.lines (g.F.Files.holds l.files) (stores g.F.Files g.D.SwapDev l.files l.swap);
  so_far : (A : Inputs) (image : SwapImage) → A.lines ≡ l.lines → FilmBegun A l.fn.film (g.F.Files.holds l.fn.files) (stores g.F.Files g.D.SwapDev l.fn.files l.fn.swap) image
      → Filmed A l.steps l.film (g.F.Files.holds l.files) (stores g.F.Files g.D.SwapDev l.files l.swap) l.text.items;
  within : length l.film.machine.kernel.journal ≤ l.steps.to;
  backed : IsBacked l.film.machine (g.F.Files.holds l.files) (g.D.SwapDev.blocks l.swap);
}

abbrev pub decreases-loop-alloc : goal.decreases-loop-alloc
decreases-loop-alloc g l = l.steps.to - length l.film.machine.kernel.journal
