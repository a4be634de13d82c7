-- The images of a machine, with their names and headers, as those of some run.
use Rattle.std.proofs.Common.{List, [], ◌∷◌, refl}
use Rattle.flat_state.specs.Flat.{NamedImage}
use Rattle.machine_state.specs.Sourced.{ImageNamed}
use Rattle.step_units.specs.Reading.{AreNamed}

abbrev pub known : List ImageNamed → List NamedImage
known [] = []
known (s ∷ named) = record { name = s.name; image = record { facts = s.facts; text = []; «data» = [] } } ∷ known named

pub are_known : (named : List ImageNamed) → AreNamed (known named) named
are_known [] = tt
are_known (s ∷ named) = (refl, refl, are_known named)
