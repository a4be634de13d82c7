-- How a process leaves its space and ends: the space settles or goes back, then comes the entry.
use Rattle.std.specs.Prelude.{◌≡◌, ◌⊎◌, ℕ, ◌<◌, Bool, true, false, List, length, Option, Result, Ok, Err}
use Rattle.vm_facts.specs.SwapImages.{SwapImage}
use Rattle.io_edge.specs.FileHolding.{NamedFile}
use Rattle.vm_facts.specs.declared.entry.Entry.TheVariants as entries
use Rattle.vm_facts.specs.declared.regs.Regs.{Regs}
use Rattle.vm_facts.specs.declared.stop.Stop.{Stop}
use Rattle.user_vax.specs.declared.refused.Refused.{Refused}
use Rattle.flat_model.specs.declared.calls.Reply.{Reply}
use Rattle.flat_model.specs.declared.calls.Reply.TheVariants.{Exits}
use Rattle.flat_model.specs.declared.calls.SystemCall.TheVariants.{Exit}
use Rattle.flat_state.specs.declared.change.Change.TheVariants.{End}
use Rattle.kernel_model.specs.ChangeStep.{pass_step}
use Rattle.kernel_model.specs.Unit.{lender_among, has_lender}
use Rattle.machine_state.specs.Machine.{Standing}
use Rattle.machine_state.specs.Settled.{SettledBy, IsSameBeside, StopsSettling}
use Rattle.machine_state.specs.Done.{sources, KeepsThrough}
use Rattle.fault_fill.specs.Stops.{StopsBefore}
use Rattle.fault_fill.specs.Growth.{space_of_pid}
use Rattle.proc_calls.specs.Callers.{regs_of}
use Rattle.proc_calls.specs.Answered.{Entered, Comes, StopsOnce}
use Rattle.proc_calls.specs.declared.replying.Called.{Called}
use Rattle.proc_calls.specs.declared.replying.Called.TheVariants as calls

-- Transfers end until a space is settled, each read with the bytes of the files and the swap image, and the flat states are
-- kept through the devices.
pub record HasSettled (old new : Standing) (sid : ℕ) (holds : Option (List NamedFile)) (before after : Option SwapImage) : Type 0 where
  pub settled : SettledBy (sources old holds) sid old.kernel new.kernel before after
  pub rest : IsSameBeside old new
  pub keeps : KeepsThrough old new holds before after

-- a space that was lent goes back to the one that lent it, with no call of a device, where the journal has room for one more entry
pub record HasReturned (old new : Standing) (pid : ℕ) (before after : Option SwapImage) : Type 0 where
  pub room : length old.kernel.journal < old.params.journal
  pub step : new ≡ record old { kernel = pass_step old.kernel pid (lender_among old.kernel.processes pid) }
  pub image : after ≡ before

-- by whether some process lends its space to this one
abbrev pub HasLeftBy : Bool → Standing → Standing → ℕ → Option (List NamedFile) → Option SwapImage → Option SwapImage → Type 0
HasLeftBy true old new pid holds before after = HasReturned old new pid before after
HasLeftBy false old new pid holds before after = HasSettled old new (space_of_pid old.kernel pid) holds before after

-- a process left its space: it went back to its lender, or is its own and settled
abbrev pub HasLeft : Standing → Standing → ℕ → Option (List NamedFile) → Option SwapImage → Option SwapImage → Type 0
HasLeft old new pid holds before after = HasLeftBy (has_lender old.kernel.processes pid) old new pid holds before after

-- the process left its space, and ended with this status and with the registers of its record
pub record HasEnded (old new : Standing) (pid status : ℕ) (holds : Option (List NamedFile)) (before after : Option SwapImage) : Type 0 where
  pub between : Standing
  pub left : HasLeft old between pid holds before after
  pub ended : Entered between new pid (regs_of old.kernel pid) (entries.Ended pid status) (End status)

-- a reply that ends the process
abbrev pub IsExit : Reply → Type 0
IsExit (Exits status) = Unit {0}
IsExit _ = ⊥

-- What an exit comes to, by what its argument reads as.
abbrev pub ExitComes : Standing → Standing → ℕ → Regs → Result Reply Refused → Option (List NamedFile) → Option SwapImage → Option SwapImage → Called → Type 0
ExitComes old new pid regs (Ok (Exits status)) holds before after called = (called ≡ calls.Gone) × HasEnded old new pid status holds before after
ExitComes old new pid regs (Ok reply) holds before after called = ⊥
ExitComes old new pid regs (Err refused) holds before after called = Comes old new pid Exit regs (Err refused) called × (after ≡ before)

-- Where the run stops.

-- A process stops as a space of its own settles, or before a space that was lent goes back, which it does only where there is room
-- for the entry that follows.
abbrev pub StopsLeaving : Standing → Standing → ℕ → Option (List NamedFile) → Option SwapImage → Option SwapImage → Stop → Type 0
StopsLeaving old new pid holds before after stop =
    ((has_lender old.kernel.processes pid ≡ false) × StopsSettling (space_of_pid old.kernel pid) old new holds before after stop)
    ⊎ ((has_lender old.kernel.processes pid ≡ true) × StopsBefore old new stop × (after ≡ before))

-- A run stops before a process has ended or has its image: as the process leaves its space, or once it has, before the entry that
-- follows, with the swap image as it was there; after a space that went back the journal isn't full.
abbrev pub StopsAlive : Standing → Standing → ℕ → Option (List NamedFile) → Option SwapImage → Option SwapImage → Stop → Type 0
StopsAlive old new pid holds before after stop =
    StopsLeaving old new pid holds before after stop
    ⊎ StopsOnce (λ m. HasLeft old m pid holds before after) (λ m. StopsBefore m new stop)
