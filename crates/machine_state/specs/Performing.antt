-- What each call comes to that makes one entry and calls no device: the step was made, or there was no room.
use Rattle.std.specs.Prelude.{◌≡◌, ◌⊎◌, ◌↔◌, ◌≤◌, length, None, Result, Err, OnOk, OnErr}
use Rattle.vm_facts.specs.declared.stop.Stop.{Stop}
use Rattle.vm_facts.specs.declared.stop.Stop.TheVariants as stops
use Rattle.kernel_model.specs.Kernel.{Kernel}
use Rattle.table_steps.specs.Machine.{Standing}
use Rattle.table_steps.specs.Conditions.{HasStopped, KeepsFlat}
use Rattle.machine_state.specs.Going.{CanGoOn}

-- the journal has as many entries as it may have
abbrev pub IsAtBound : Standing → Type 0
IsAtBound m = m.params.journal ≤ length m.kernel.journal

-- Where the call doesn't stop, the kernel has made this step, and all else is as before, but that room for an instruction is given up.
-- The machine stands for the flat states for which it stood, the bytes of pages are alike so far, and any call may come next.
pub record Performs (stepped : Kernel) (Alike : Kernel → Kernel → Type 0) (result : Result (Unit {0}) Stop) (old new : Standing) : Type 0 where
  pub step : OnOk result (new.kernel ≡ stepped)
  pub rest : OnOk result (new ≡ record old { kernel = new.kernel; room = None })
  pub keeps : OnOk result (KeepsFlat old.kernel new.kernel)
  pub same : OnOk result (Alike old.kernel new.kernel)
  pub goes_on : OnOk result (CanGoOn new)

-- Where the call stops, the journal is full, exactly where this is so, or memory is wanting.
pub record StopsForRoom {A : Type 0} (no_room : Type 0) (result : Result A Stop) (old new : Standing) : Type 0 where
  pub stop : OnErr result (HasStopped old new)
  pub cause : OnErr result ((result ≡ Err stops.JournalFull) ⊎ (result ≡ Err stops.NoMemory))
  pub full : (result ≡ Err stops.JournalFull) ↔ no_room
