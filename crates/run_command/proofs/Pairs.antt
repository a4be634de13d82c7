-- What a stop of a run over two devices is said as, and which device failed.
use Rattle.std.proofs.Common.{◌≡◌, inl, inr, ℕ, ◌<◌, ◌≤◌, List, Option, Some, None, Err, refl, sym, ap, ◌∙◌, subst, arith}
use Rattle.std.specs.Option.{ForSome}
use Rattle.vm_facts.specs.SwapImages.{SwapImage}
use Rattle.vm_facts.specs.declared.entry.Entry.{Entry}
use Rattle.vm_facts.specs.declared.stop.Stop.{Stop}
use Rattle.vm_facts.specs.declared.stop.Stop.TheVariants as stops
use Rattle.io_edge.specs.Count.{Rose}
use Rattle.io_edge.specs.PairFailures.{AddsFailures}
use Rattle.io_edge.proofs.PairCalls.{none_rose, rose_alone}
use Rattle.flat_state.specs.Flat.{Inputs}
use Rattle.machine_state.specs.Outside.{CountsReadFaults, CountsWriteFaults}
use Rattle.vm_core.specs.declared.schedule.Unfinished.{Unfinished}
use Rattle.vm_core.specs.declared.schedule.Unfinished.TheVariants as ends
use Rattle.vm_core.specs.RunEnds.{RunEnds}
use Rattle.command_edge.specs.declared.fault.Fault.{Fault}
use Rattle.command_edge.specs.declared.fault.Fault.TheVariants.{FileFault, SwapReadFault, SwapWriteFault, NoMemory, JournalFull, NoSpace}
use Rattle.run_command.specs.Seen.{DeviceFaults, NoneFailed, DeviceFailed}
use Rattle.run_command.specs.Paired.{unfinished_by, IsFaultOf, IsRunFault, ReadsFail, WritesFail}

pub stopped_ends : (A : Inputs) (es : List Entry) (image : SwapImage) (j : Option SwapImage) (stop : Stop) (fault : Fault) → IsFaultOf stop fault
    → RunEnds A es image (Err (ends.Stopped stop)) j
    → RunEnds A es image (Err (unfinished_by fault)) j
stopped_ends A es image j stop fault e x = subst (λ (u : Unfinished). RunEnds A es image (Err u) j) (sym e) x

-- while a pair that counted no failed call counts none, no device does
pub none_failed : (f : DeviceFaults) (old new : ℕ) (before after : Option ℕ)
    → AddsFailures old new before after f.zero_before f.zero_after f.one_before f.one_after → old ≡ 0 → new ≡ old → NoneFailed f
none_failed f old new before after a none same =
    let both = none_rose old new before after f.zero_before f.zero_after f.one_before f.one_after a none same in
    record { zero = both.0; one = both.1 }

rose_once : (old new : ℕ) → old ≡ 0 → Rose old new → new ≤ 1
rose_once old new none (inl rises) = let one_more = rises.1 in omega (arith, none, one_more)
rose_once old new none (inr stands) = let same = stands.1 in omega (arith, none, same)

-- once it counts one, the device that is named failed, by one call, and the other by none
pub device_failed : (f : DeviceFaults) (old new : ℕ) (before after : Option ℕ) (device : ℕ)
    → AddsFailures old new before after f.zero_before f.zero_after f.one_before f.one_after → old ≡ 0 → before ≡ None → Rose old new
    → ForSome after (λ (d : ℕ). d < 2) → after ≡ Some device → DeviceFailed device f
device_failed f old new before after device a none unnamed rose low named =
    (low device named, rose_alone old new before after f.zero_before f.zero_after f.one_before f.one_after device a none unnamed (rose_once old new none rose) named)

-- a stop that isn't of a read from swap, or of a write
stop_of : (stop : Stop) (fault : Fault) (other : Stop) → IsFaultOf stop fault → (unfinished_by fault ≡ ends.Stopped other → ⊥) → stop ≡ other → ⊥
stop_of stop fault other e never same = never (e ∙ ap (λ (s : Stop). ends.Stopped s) same)

-- what a run whose journal is full has of the bound
pub full_at : (stop : Stop) (fault : Fault) (few many : ℕ) → IsFaultOf stop fault → many ≤ few → (stop ≡ stops.JournalFull → few ≤ many)
    → fault ≡ JournalFull → many ≡ few
full_at stop fault few many e within full is =
    let same : ends.Stopped stops.JournalFull ≡ ends.Stopped stop = ap unfinished_by (sym is) ∙ e in
    let bound : few ≤ many = full (let s : stop ≡ stops.JournalFull = cc in s) in
    omega (arith, within, bound)

reads_stay : (stop : Stop) (old new : ℕ) → (stop ≡ stops.SwapReadFault → ⊥) → CountsReadFaults (Some stop) old new → new ≡ old
reads_stay stops.SwapReadFault old new other c = absurd (other refl)
reads_stay stops.NoMemory old new other c = c
reads_stay stops.JournalFull old new other c = c
reads_stay stops.FileFault old new other c = c
reads_stay stops.SwapWriteFault old new other c = c

writes_stay : (stop : Stop) (old new : ℕ) → (stop ≡ stops.SwapWriteFault → ⊥) → CountsWriteFaults (Some stop) old new → new ≡ old
writes_stay stops.SwapWriteFault old new other c = absurd (other refl)
writes_stay stops.NoMemory old new other c = c
writes_stay stops.JournalFull old new other c = c
writes_stay stops.FileFault old new other c = c
writes_stay stops.SwapReadFault old new other c = c

-- a stop that is said as a failed read is one, and so is one that is said as a failed write
rose_at : (stop : Stop) (old new device : ℕ) → IsFaultOf stop (SwapReadFault device) → CountsReadFaults (Some stop) old new → Rose old new
rose_at stop old new device is c =
    subst (λ (s : Stop). CountsReadFaults (Some s) old new) (let same : stop ≡ stops.SwapReadFault = cc in same) c

wrote_at : (stop : Stop) (old new device : ℕ) → IsFaultOf stop (SwapWriteFault device) → CountsWriteFaults (Some stop) old new → Rose old new
wrote_at stop old new device is c =
    subst (λ (s : Stop). CountsWriteFaults (Some s) old new) (let same : stop ≡ stops.SwapWriteFault = cc in same) c

module _ (f : DeviceFaults) (old new : ℕ) (before after : Option ℕ) (a : AddsFailures old new before after f.zero_before f.zero_after f.one_before f.one_after) (zero : old ≡ 0) (none : before ≡ None)
    (low : ForSome after (λ (d : ℕ). d < 2)) (stop : Stop) where
  reads_none : (fault : Fault) → CountsReadFaults (Some stop) old new → IsFaultOf stop fault → (unfinished_by fault ≡ ends.Stopped stops.SwapReadFault → ⊥) → NoneFailed f
  reads_none fault c is never = none_failed f old new before after a zero (reads_stay stop old new (stop_of stop fault stops.SwapReadFault is never) c)

  writes_none : (fault : Fault) → CountsWriteFaults (Some stop) old new → IsFaultOf stop fault → (unfinished_by fault ≡ ends.Stopped stops.SwapWriteFault → ⊥) → NoneFailed f
  writes_none fault c is never = none_failed f old new before after a zero (writes_stay stop old new (stop_of stop fault stops.SwapWriteFault is never) c)

  pub reads_fail : (fault : Fault) → CountsReadFaults (Some stop) old new → IsFaultOf stop fault → IsRunFault fault → ((device : ℕ) → fault ≡ SwapReadFault device → after ≡ Some device)
      → ReadsFail (Err fault) f
  reads_fail (SwapReadFault device) c is kind named = device_failed f old new before after device a zero none (rose_at stop old new device is c) low (named device refl)
  reads_fail FileFault c is kind named = reads_none FileFault c is (λ e. cc)
  reads_fail (SwapWriteFault device) c is kind named = reads_none (SwapWriteFault device) c is (λ e. cc)
  reads_fail NoMemory c is kind named = reads_none NoMemory c is (λ e. cc)
  reads_fail JournalFull c is kind named = reads_none JournalFull c is (λ e. cc)
  reads_fail (NoSpace pid) c is kind named = reads_none (NoSpace pid) c is (λ e. cc)
  reads_fail _ c is kind named = absurd kind

  pub writes_fail : (fault : Fault) → CountsWriteFaults (Some stop) old new → IsFaultOf stop fault → IsRunFault fault → ((device : ℕ) → fault ≡ SwapWriteFault device → after ≡ Some device)
      → WritesFail (Err fault) f
  writes_fail (SwapWriteFault device) c is kind named = device_failed f old new before after device a zero none (wrote_at stop old new device is c) low (named device refl)
  writes_fail FileFault c is kind named = writes_none FileFault c is (λ e. cc)
  writes_fail (SwapReadFault device) c is kind named = writes_none (SwapReadFault device) c is (λ e. cc)
  writes_fail NoMemory c is kind named = writes_none NoMemory c is (λ e. cc)
  writes_fail JournalFull c is kind named = writes_none JournalFull c is (λ e. cc)
  writes_fail (NoSpace pid) c is kind named = writes_none (NoSpace pid) c is (λ e. cc)
  writes_fail _ c is kind named = absurd kind
