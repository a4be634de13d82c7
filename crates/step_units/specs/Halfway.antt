-- A machine under a mark of which some units may be made already: what it finds there, and what it makes of the rest.
use Rattle.std.specs.Prelude.{◌≡◌, ℕ, ◌<◌, false, List, length, Option, Some}
use Rattle.vm_facts.specs.SwapImages.{SwapImage}
use Rattle.vm_facts.specs.declared.entry.Entry.TheVariants as entries
use Rattle.vm_facts.specs.declared.stop.Stop.{Stop}
use Rattle.io_edge.specs.FileHolding.{NamedFile}
use Rattle.flat_state.specs.Flat.{Inputs}
use Rattle.page_model.specs.Swapper.{is_out}
use Rattle.kernel_model.specs.Kernel.{Kernel}
use Rattle.machine_state.specs.Calls.{CanComeIn}
use Rattle.machine_state.specs.Machine.{Standing}
use Rattle.machine_state.specs.Swapping.{AsksU, IsIn}
use Rattle.swapper.specs.Stops.{StopsAt, StopsWhile}
use Rattle.swapper.specs.Putting.{HoldsThere, PutOut, putting_out}
use Rattle.run_model.specs.declared.mark.Mark.TheVariants as marks
use Rattle.run_model.specs.State.{State}
use Rattle.run_model.specs.After.{interrupt_mark}
use Rattle.run_laws.specs.Longwords.{ProcessesFit}
use Rattle.run_units.specs.Serving.{At}
use Rattle.step_units.specs.Machines.{MachineAt}
use Rattle.step_units.specs.Stepped.{StopLeads}
use Rattle.step_units.specs.Lines.{IsClear, LineLeads}

-- What a machine finds under a mark.

-- an interrupt waits for a transfer
abbrev pub InterruptWaits : Type 0
InterruptWaits =
    (A : Inputs) (s : State) (k : Kernel) (image : SwapImage) → At A s k image → s.mark ≡ marks.Interrupt
    → (s.mark ≡ interrupt_mark s.place.transfers) × (0 < length s.place.transfers)

-- who is to be brought in is out, and nothing is due
abbrev pub BroughtInMayCome : Type 0
BroughtInMayCome = (A : Inputs) (s : State) (k : Kernel) (image : SwapImage) (pid : ℕ) → At A s k image → s.mark ≡ marks.BringIn pid → CanComeIn k pid

-- who is put out holds a space that is there, and is in
abbrev pub PutOutIsIn : Type 0
PutOutIsIn =
    (A : Inputs) (s : State) (k : Kernel) (image : SwapImage) (pid : ℕ) → At A s k image → s.mark ≡ marks.PutOut pid
    → ((sid : ℕ) × HoldsThere k pid sid) × (is_out k.place pid ≡ false)

-- What it makes of the rest.

-- the units that put a process out, or are left of those, are next units, and lead to where the line is over
abbrev pub PuttingIsMade : Type 0
PuttingIsMade =
    (A : Inputs) (s : State) (old new : Standing) (holds : Option (List NamedFile)) (image : SwapImage) (j : Option SwapImage) (pid sid : ℕ)
    → MachineAt A s old holds image → IsClear s → ProcessesFit s.point.flat.processes → s.mark ≡ marks.PutOut pid → HoldsThere old.kernel pid sid
    → PutOut pid sid old new holds (Some image) j → LineLeads A s old.kernel image new.kernel j

-- or to where the run stops
abbrev pub PuttingStops : Type 0
PuttingStops =
    (A : Inputs) (s : State) (old new : Standing) (holds : Option (List NamedFile)) (image : SwapImage) (j : Option SwapImage) (pid sid : ℕ) (stop : Stop)
    → MachineAt A s old holds image → IsClear s → s.mark ≡ marks.PutOut pid → HoldsThere old.kernel pid sid
    → StopsWhile (putting_out pid sid) old new holds (Some image) j stop → StopLeads A s old.kernel image stop new j

-- so is the unit that brings one in
abbrev pub BringingIsMade : Type 0
BringingIsMade =
    (A : Inputs) (s : State) (old new : Standing) (image : SwapImage) (j : Option SwapImage) (pid : ℕ) → IsClear s → s.mark ≡ marks.BringIn pid
    → IsIn old.kernel new.kernel pid (Some image) → AsksU old.kernel pid (Some image) j → LineLeads A s old.kernel image new.kernel j

-- or the run stops at it
abbrev pub BringingStops : Type 0
BringingStops =
    (A : Inputs) (s : State) (old new : Standing) (image : SwapImage) (j : Option SwapImage) (pid : ℕ) (stop : Stop) → IsClear s
    → s.mark ≡ marks.BringIn pid → StopsAt (entries.SwapIn pid) old new (Some image) j stop → StopLeads A s old.kernel image stop new j
