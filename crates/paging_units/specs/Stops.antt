-- What is known of a call that stopped where a unit comes next: why, and what it left.
use Rattle.std.specs.Prelude.{◌≡◌, ◌⊎◌, ◌↔◌, ℕ, ◌<◌, ◌≤◌, List, length, map, Bool, true, Option, Some, Result, Err}
use Rattle.vm_facts.specs.SwapImages.{SwapImage}
use Rattle.vm_facts.specs.declared.page.Page.{Page}
use Rattle.vm_facts.specs.declared.entry.Entry.{Entry}
use Rattle.vm_facts.specs.declared.entry.Entry.TheVariants as entries
use Rattle.vm_facts.specs.declared.stop.Stop.{Stop}
use Rattle.vm_facts.specs.declared.stop.Stop.TheVariants as stops
use Rattle.io_edge.specs.FileHolding.{NamedFile}
use Rattle.flat_state.specs.Journal.{append}
use Rattle.page_model.specs.Placement.{Placement, Transfer}
use Rattle.kernel_model.specs.Kernel.{Kernel}
use Rattle.kernel_model.specs.Coupled.{outline_kept}
use Rattle.kernel_model.specs.ChangeStep.{pass_step}
use Rattle.kernel_model.specs.Requests.{ImageFile}
use Rattle.machine_state.specs.Machine.{Standing}
use Rattle.machine_state.specs.Sourced.{files_named}
use Rattle.machine_state.specs.Conditions.{HasStopped, kernel_before}
use Rattle.machine_state.specs.Failing.{LosesOldest}
use Rattle.machine_state.specs.Done.{StopsFor, SwapAfter}
use Rattle.machine_state.specs.Swapping.{SwapBehind}
use Rattle.paging_units.specs.Made.{ground, Made}

-- why a unit stops the run: a fault of a device comes only of the end of a transfer, and of one of its own kind, and of a
-- u page that is written or read
abbrev pub CauseBy : Entry → Stop → List Transfer → Type 0
CauseBy entries.Done stop ts = StopsFor (Err stop) ts
CauseBy (entries.SwapOut pid) stop ts = (stop ≡ stops.JournalFull) ⊎ ((stop ≡ stops.NoMemory) ⊎ (stop ≡ stops.SwapWriteFault))
CauseBy (entries.SwapIn pid) stop ts = (stop ≡ stops.JournalFull) ⊎ ((stop ≡ stops.NoMemory) ⊎ (stop ≡ stops.SwapReadFault))
CauseBy _ stop ts = (stop ≡ stops.JournalFull) ⊎ (stop ≡ stops.NoMemory)

-- the swap image after a unit that stops the run: it has the requests up to the one that failed, and only a write that failed
-- changes a byte
abbrev pub SpoilsBy : List ImageFile → Entry → Stop → Kernel → Option SwapImage → Option SwapImage → Type 0
SpoilsBy files entries.Done stop k i j = SwapAfter (Err stop) files k i j
SpoilsBy files (entries.SwapOut pid) stop k i j = let r : Result Bool Stop = Err stop in SwapBehind r k pid i j
SpoilsBy files (entries.SwapIn pid) stop k i j = let r : Result Bool Stop = Err stop in SwapBehind r k pid i j
SpoilsBy files _ stop k i j = j ≡ i

-- The machine has this kernel, and no pieces wait: it is as it was, its bytes and registers too.
pub record StaysPut (k : Kernel) (new : Standing) : Type 0 where
  pub kernel : new.kernel ≡ k
  pub whole : new.before ≡ new.kernel.holdings

-- The machine has this kernel, but for pieces that were found for an entry for which there was no memory.
abbrev pub StaysStarved : Kernel → Standing → Type 0
StaysStarved k new = kernel_before new ≡ k

-- the space of a process went back to its lender before its entry, for which there was no memory then
abbrev pub StaysReturned : Kernel → Standing → Type 0
StaysReturned k new = (pid lender : ℕ) × StaysStarved (pass_step k pid lender) new

-- the placement that a fault leaves: without the oldest transfer and its frames, or, where a u page failed, as it was
abbrev pub PlaceLeft : Stop → Placement → Placement → Type 0
PlaceLeft stops.FileFault p r = LosesOldest p r
PlaceLeft _ p r = LosesOldest p r ⊎ (r ≡ p)

-- A fault of a device has stopped the machine there.
pub record StoppedByFault (stop : Stop) (k : Kernel) (new : Standing) : Type 0 where
  pub stopped : new.kernel.stopped ≡ true
  pub place : PlaceLeft stop k.place new.kernel.place
  pub holdings : new.before ≡ k.holdings
  pub processes : map outline_kept new.kernel.processes ≡ map outline_kept k.processes

-- How the machine is left, by the cause. Where the journal is full it stays there, and runs on. Where it wants memory and runs on, it
-- stays there too, but for pieces that were found; it doesn't run on where it broke off within an entry of a process. A fault stops
-- it.
abbrev pub LeftBy : Stop → Kernel → Standing → Type 0
LeftBy stops.JournalFull k new = StaysPut k new
LeftBy stops.NoMemory k new = new.kernel.stopped ≡ k.stopped → StaysStarved k new ⊎ StaysReturned k new
LeftBy stop k new = StoppedByFault stop k new

-- A call stops where this unit comes next in a machine, with the journal as it was there, and with its sizes and images. The journal
-- was full exactly where it was at its bound and the unit wouldn't join its last entry. The machine is left there by the cause.
pub record StopsAt (e : Entry) (old new : Standing) (i j : Option SwapImage) (stop : Stop) : Type 0 where
  pub journal : new.kernel.journal ≡ old.kernel.journal
  pub held : LeftBy stop old.kernel new
  pub full : (stop ≡ stops.JournalFull)
      ↔ ((new.params.journal ≤ length old.kernel.journal) × (length old.kernel.journal < length (append old.kernel.journal e)))
  pub cause : CauseBy e stop old.kernel.place.transfers
  pub image : SpoilsBy (files_named new.images) e stop old.kernel i j
  pub params : new.params ≡ old.params
  pub images : new.images ≡ old.images

-- What a call does unit by unit: the pages over which the hands pass; which units, from one kernel to another, leave some to be made;
-- and the unit that comes next there.
pub record Work : Type 1 where
  pub locked : List Page
  pub Unfinished : Kernel → List Entry → Kernel → Type 0
  pub next : Placement → Option Entry

-- A call stops while it does this work: these units were made, and the machine stops where the next one comes.
pub record StopsWhile (work : Work) (old new : Standing) (holds : Option (List NamedFile)) (i j : Option SwapImage) (stop : Stop) : Type 0 where
  pub units : List Entry
  pub at : Kernel
  pub image : Option SwapImage
  pub made : Made (ground old holds work.locked) units old.kernel i at image
  pub leads : work.Unfinished old.kernel units at
  pub entry : Entry
  pub next : work.next at.place ≡ Some entry
  pub stops : StopsAt entry (record old { kernel = at }) new image j stop

-- A call stops where it was, before an entry: for want of memory, or since the journal is full, which it is only at its bound. No
-- pieces wait where it stops, but those that the entry itself takes.
pub record StopsBefore (old new : Standing) (stop : Stop) : Type 0 where
  pub stopped : HasStopped old new
  pub whole : old.before ≡ old.kernel.holdings
  pub cause : (stop ≡ stops.JournalFull) ⊎ (stop ≡ stops.NoMemory)
  pub full : stop ≡ stops.JournalFull → old.params.journal ≤ length old.kernel.journal
