-- What one turn of the swapper does: one process comes in, one goes out, or none.
use Rattle.std.specs.Prelude.{◌≡◌, ℕ, true, false, List, Option}
use Rattle.vm_facts.specs.SwapImages.{SwapImage}
use Rattle.vm_facts.specs.declared.entry.Entry.TheVariants as entries
use Rattle.vm_facts.specs.declared.stop.Stop.{Stop}
use Rattle.io_edge.specs.FileHolding.{NamedFile}
use Rattle.page_model.specs.Swapper.{is_out}
use Rattle.kernel_model.specs.Kernel.{Kernel}
use Rattle.kernel_model.specs.Unit.{has_lender}
use Rattle.machine_state.specs.Machine.{Standing}
use Rattle.machine_state.specs.Settled.{IsSameBeside}
use Rattle.machine_state.specs.Done.{KeepsThrough}
use Rattle.machine_state.specs.Swapping.{IsIn, AsksU, KeepsIn}
use Rattle.paging_units.specs.Stops.{StopsAt, StopsWhile}
use Rattle.swapper.specs.declared.Turned.{Turned}
use Rattle.swapper.specs.declared.Turned.TheVariants as turns
use Rattle.swapper.specs.Putting.{HoldsThere, PutOut, putting_out}

-- who comes in is out; who goes out is in, and holds a space of its own
abbrev pub MayTurn : Kernel → Turned → Type 0
MayTurn k turns.Nothing = Unit {0}
MayTurn k (turns.In pid) = is_out k.place pid ≡ true
MayTurn k (turns.Out pid) = ((sid : ℕ) × HoldsThere k pid sid) × (has_lender k.processes pid ≡ false) × (is_out k.place pid ≡ false)

-- the process comes in, or goes out by its units, or nothing changes
abbrev pub Turns : Turned → Standing → Standing → Option (List NamedFile) → Option SwapImage → Option SwapImage → Type 0
Turns turns.Nothing old new holds i j = (new ≡ old) × (j ≡ i)
Turns (turns.In pid) old new holds i j = IsIn old.kernel new.kernel pid i × IsSameBeside old new × AsksU old.kernel pid i j
Turns (turns.Out pid) old new holds i j = (sid : ℕ) × HoldsThere old.kernel pid sid × PutOut pid sid old new holds i j

-- The machine still stands for the flat states that it stood for; where a process comes in, for those in which its
-- registers are longwords.
abbrev pub KeepsTurn : Turned → Standing → Standing → Option (List NamedFile) → Option SwapImage → Option SwapImage → Type 0
KeepsTurn turns.Nothing old new holds i j = KeepsThrough old new holds i j
KeepsTurn (turns.In pid) old new holds i j = KeepsIn old.kernel new.kernel pid i j
KeepsTurn (turns.Out pid) old new holds i j = KeepsThrough old new holds i j

-- the turn stops at a unit of what it was to do
abbrev pub StopsTurning : Turned → Standing → Standing → Option (List NamedFile) → Option SwapImage → Option SwapImage → Stop → Type 0
StopsTurning turns.Nothing old new holds i j stop = ⊥
StopsTurning (turns.In pid) old new holds i j stop = StopsAt (entries.SwapIn pid) old new i j stop
StopsTurning (turns.Out pid) old new holds i j stop = (sid : ℕ) × HoldsThere old.kernel pid sid × StopsWhile (putting_out pid sid) old new holds i j stop
