-- What must be so before each call of the core, as one premise: before its start, and before a line.
use Rattle.std.specs.Prelude.{ℕ, ◌≤◌, List, map, length, Option, All}
use Rattle.io_edge.specs.FileHolding.{NamedFile}
use Rattle.machine_state.specs.Named.{Named}
use Rattle.machine_state.specs.Files.{AreFiles}
use Rattle.machine_state.specs.Machine.{image_shown}
use Rattle.machine_state.specs.New.{AreSound}
use Rattle.machine_state.specs.Sourced.{AreNames}
use Rattle.vm_core.specs.Cores.{Underway, StandsUnderway}
use Rattle.vm_core.specs.Starting.{IsFresh}

-- images of which a core may be made, whose files these are
pub record AreFit (images : List Named) (holds : Option (List NamedFile)) : Type 0 where
  pub sound : AreSound (map (λ (x : Named). x.facts) images)
  pub names : AreNames (map image_shown images)
  pub files : AreFiles (map image_shown images) holds

-- The core may start, in images of these numbers, over these files and so many blocks.
pub record MayStart (c : Underway) (first : List ℕ) (holds : Option (List NamedFile)) (blocks : ℕ) : Type 0 where
  pub fresh : IsFresh c
  pub frames : 64 ≤ c.machine.params.frames
  pub few : length first ≤ 16
  pub numbers : All (λ number. (1 ≤ number) × (number ≤ length c.machine.images)) first
  pub area : c.machine.params.swap_blocks ≤ blocks
  pub files : AreFiles c.machine.images holds

-- It started, and may take the next line, or close the run.
pub record MayGoOn (c : Underway) (holds : Option (List NamedFile)) (blocks : ℕ) : Type 0 where
  pub goes_on : StandsUnderway c
  pub area : c.machine.params.swap_blocks ≤ blocks
  pub files : AreFiles c.machine.images holds
