-- The pieces of swap space that are asked for by a placement and by the flat state.
use Rattle.std.specs.Prelude.{◌≡◌, ℕ, true, false, List, Some}
use Rattle.flat_state.specs.Space.{Space}
use Rattle.flat_state.specs.Flat.{Holds, Process, FlatState, NamedImage, Inputs, process_of, can_step}
use Rattle.flat_state.specs.declared.change.Change.{Change}
use Rattle.kernel_model.specs.Kernel.{Kernel}
use Rattle.kernel_model.specs.Coupled.{SameTables}
use Rattle.kernel_model.specs.Sound.{TextFits}
use Rattle.kernel_model.specs.Asks.{asked}
use Rattle.flat_state.specs.Numbers.{IsNumbered}
use Rattle.kernel_model.specs.Numbers.{Numbered}
use Rattle.kernel_model.specs.Start.{ImagesFit}
use Rattle.flat_model.specs.Asked.{change_wanted, asks}
use Rattle.flat_model.specs.Step.{flat_step}
use Rattle.kernel_model.specs.Place.{facts_of}

-- a change wants the same pieces by the placement and by the flat state
abbrev pub ChangeAsksAgree : Type 0
ChangeAsksAgree = (images : List NamedImage) (k : Kernel) (flat : FlatState) (pid : ℕ) (p : Process) (s : Space)
    (change : Change)
    → ImagesFit images → TextFits images k.place → Numbered k → IsNumbered flat → SameTables k flat
    → process_of flat pid ≡ Some p → p.holding ≡ Holds s
    → asked (facts_of images) k pid change ≡ change_wanted images flat s change

-- the change by which a step ends wants the pieces that the step asks for
abbrev pub StepAsksAgree : Type 0
StepAsksAgree = (A : Inputs) (k : Kernel) (flat : FlatState) (pid : ℕ)
    → ImagesFit A.images → TextFits A.images k.place → Numbered k → IsNumbered flat → SameTables k flat
    → can_step flat pid ≡ true → asked (facts_of A.images) k pid (flat_step A flat pid false).change ≡ asks A flat pid
