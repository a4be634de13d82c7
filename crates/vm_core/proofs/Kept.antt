-- What stays of the machine where a line or a turn stops the run.
use Rattle.std.proofs.Common.{◌≡◌, ℕ, ◌<◌, ◌≤◌, Bool, List, length, Option, Result, Err, ap}
use Rattle.std.specs.Prelude.{◌↔◌}
use Rattle.vm_facts.specs.SwapImages.{SwapImage}
use Rattle.vm_facts.specs.declared.entry.Entry.TheVariants as entries
use Rattle.vm_facts.specs.declared.stop.Stop.{Stop}
use Rattle.vm_facts.specs.declared.stop.Stop.TheVariants as stops
use Rattle.io_edge.specs.FileHolding.{NamedFile}
use Rattle.machine_state.specs.Machine.{Standing}
use Rattle.machine_state.specs.Conditions.{HasStopped}
use Rattle.proc_run.specs.Stops.{StopsWhile}
use Rattle.proc_run.specs.Moved.{moving_hands}
use Rattle.proc_run.specs.Sizes.{KeptAtStop}
use Rattle.proc_run.specs.Turned.TheVariants as turns
use Rattle.proc_run.specs.Turned.{Turned}
use Rattle.proc_run.specs.Putting.{putting_out}
use Rattle.proc_run.specs.Turns.{StopsTurning}
use Rattle.proc_run.proofs.StopsKeep.{kept_here, kept_at, kept_while}

-- the end of the oldest transfer
pub kept_ending : (old new : Standing) (stop : Stop) → HasStopped old new
    → (let r : Result Bool Stop = Err stop in
    (r ≡ Err stops.JournalFull) ↔ ((0 < length old.kernel.place.transfers) × (old.params.journal ≤ length old.kernel.journal))) → KeptAtStop old new stop
kept_ending old new stop h f = kept_here old new stop h (λ e. (f.0 (ap (λ (s : Stop). let r : Result Bool Stop = Err s in r) e)).1)

pub kept_moving : (old new : Standing) (holds : Option (List NamedFile)) (i j : Option SwapImage) (n : ℕ) (stop : Stop)
    → StopsWhile (moving_hands n) old new holds i j stop → KeptAtStop old new stop
kept_moving old new holds i j n stop h = kept_while (moving_hands n) old new holds i j stop h

pub kept_turning : (old new : Standing) (holds : Option (List NamedFile)) (i j : Option SwapImage) (t : Turned) (stop : Stop)
    → StopsTurning t old new holds i j stop → KeptAtStop old new stop
kept_turning old new holds i j turns.Nothing stop h = absurd h
kept_turning old new holds i j (turns.In pid) stop h = kept_at (entries.SwapIn pid) old new i j stop h
kept_turning old new holds i j (turns.Out pid) stop h = kept_while (putting_out pid h.0) old new holds i j stop h.2
