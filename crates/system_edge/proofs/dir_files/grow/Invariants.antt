use Rattle.std.proofs.Common.{◌≡◌, ℕ, List, length}
use Rattle.system_edge.specs.Places.{SamePlaces}
use Rattle.system_edge.specs.declared.place.Place.{Place}
use Rattle.system_edge.proofs.dir_files.grow.Given as goal

pub record Kept {F : Type 0} (old new : List (Place F)) (counter : ℕ) : Type 0 where
  pub same : SamePlaces old new
  pub long : length new ≡ counter

abbrev pub invariant-loop : goal.invariant-loop
invariant-loop g l = Kept l.fn.places.items l.places.items l.counter
