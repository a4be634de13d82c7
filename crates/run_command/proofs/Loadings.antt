-- How a load ends, by how its run does.
use Rattle.std.proofs.Common.{◌≡◌, inl, inr, ℕ, ◌≤◌, Bool, true, false, if◌then◌else◌, nat_lt, List, [], length, Option, Some, None, Result, Ok, Err, refl, ap, ◌∙◌, subst, arith}
use Rattle.std.specs.Prelude.{IfErr}
use Rattle.std.proofs.lemmas.Bool.{ltb-false}
use Rattle.vm_facts.specs.SwapImages.{SwapImage}
use Rattle.vm_facts.specs.declared.entry.Entry.{Entry}
use Rattle.io_edge.specs.Count.{Rose}
use Rattle.io_edge.specs.Striping.{zero_needs, one_needs, MeetsNeeds}
use Rattle.flat_state.specs.Flat.{NamedImage, Inputs}
use Rattle.flat_model.specs.Asked.{start_held}
use Rattle.machine_state.specs.Outside.{stop_of, CountsFileFaults}
use Rattle.vm_core.specs.RunEnds.{stopped_as, RunEnds}
use Rattle.command_edge.specs.declared.fault.Fault.{Fault}
use Rattle.command_edge.specs.declared.fault.Fault.TheVariants as faults
use Rattle.command_edge.specs.Command.{NoFaults, Writes, WritesSome}
use Rattle.command_edge.specs.Named.{Why, AnswersNamed}
use Rattle.run_opening.specs.Images.{IsImageFault}
use Rattle.run_opening.specs.Devices.{device_fault}
use Rattle.run_opening.specs.Opening.{CountsAt}
use Rattle.io_edge.specs.FileRequests.{no_notes}
use Rattle.io_edge.specs.WithFiles.{image_with_files, with_files}
use Rattle.run_opening.proofs.Openings.{IsShort}
use Rattle.run_command.specs.Seen.{Seen}
use Rattle.run_command.specs.Paired.{unfinished_of, IsRunFault, ReadsFail, WritesFail}
use Rattle.run_command.specs.Machines.{journal_entries}
use Rattle.run_command.specs.Ends.{RunEnding, NothingDone, Unbegun, NoneFaulted, RunCaused, DevicesSuffice, RunEnded}
use Rattle.run_command.specs.Loads.{load_inputs, load_numbers, load_written, CountsBeLost, WritesCounts, IsLoadCaused, LoadEnded, LoadTold, IsRunEnding, Loads, LoadRuns}
use Rattle.run_command.proofs.LoadSpace.{all_start}
use Rattle.run_command.proofs.Counted.{counted_by}
use Rattle.run_command.proofs.LoadLength.{load_fits}
use Rattle.run_command.proofs.Endings.{none_faulted, lost_caused, run_ended, lost_ended}

-- Writing.

-- six lines that were made
pub counts_written : (number : ℕ) (journal : List Entry) (done : Unit {0}) (text : List ℕ) (before after : Option (List ℕ)) (old new status : ℕ)
    → text ≡ load_written number journal (Ok done)
    → WritesSome before after old new (Ok text) status → WritesCounts number journal (Ok done) before after old new status
counts_written number journal done text before after old new status is (inl w) = inl (subst (λ (t : List ℕ). Writes before after old new t 0 status) is w)
counts_written number journal done text before after old new status is (inr lost) = absurd lost.0

-- lines that found no memory
pub counts_lost : (number : ℕ) (journal : List Entry) (ending : RunEnding) (before after : Option (List ℕ)) (old new status : ℕ) → CountsBeLost ending
    → WritesSome before after old new (Err faults.NoMemory) status → WritesCounts number journal ending before after old new status
counts_lost number journal ending before after old new status lost (inl w) = inr (lost, w)
counts_lost number journal ending before after old new status lost (inr never) = absurd never.0

-- the line of a fault
pub fault_written : (number : ℕ) (journal : List Entry) (fault : Fault) (before after : Option (List ℕ)) (old new status : ℕ)
    → WritesSome before after old new (Err fault) status → WritesCounts number journal (Err fault) before after old new status
fault_written number journal fault before after old new status w = w

-- Endings.

-- files that never fail are the cause of none
no_file_fault : (A : Type 0) → Rose 0 0 → A
no_file_fault A (inl rises) = absurd (let one_more = rises.1 in omega (arith, one_more))
no_file_fault A (inr last) = absurd (let most = last.0 in omega arith)

-- so the run didn't halt by one
files_hold : (r : RunEnding) → IfErr r IsRunFault → CountsFileFaults (stop_of (stopped_as (unfinished_of r))) 0 0 → IsRunEnding r
files_hold (Ok done) kind pages = tt
files_hold (Err faults.FileFault) kind pages = no_file_fault (IsRunEnding (Err faults.FileFault)) pages
files_hold (Err (faults.SwapReadFault device)) kind pages = tt
files_hold (Err (faults.SwapWriteFault device)) kind pages = tt
files_hold (Err faults.JournalFull) kind pages = tt
files_hold (Err (faults.NoSpace pid)) kind pages = tt
files_hold (Err faults.NoMemory) kind pages = tt
files_hold (Err _) kind pages = absurd kind

as_run : (r : RunEnding) → IsRunEnding r → IfErr r IsRunFault
as_run (Ok done) began = tt
as_run (Err faults.FileFault) began = absurd began
as_run (Err (faults.SwapReadFault device)) began = tt
as_run (Err (faults.SwapWriteFault device)) began = tt
as_run (Err faults.JournalFull) began = tt
as_run (Err (faults.NoSpace pid)) began = tt
as_run (Err faults.NoMemory) began = tt
as_run (Err _) began = absurd began

load_stops : (seen : Seen) (journal : List Entry) (r : RunEnding) → IsRunEnding r → NoFaults seen.faults → ReadsFail r seen.reads → WritesFail r seen.writes
    → ((pid : ℕ) → r ≡ Err (faults.NoSpace pid) → journal ≡ [])
    → ((pid : ℕ) → r ≡ Err (faults.NoSpace pid) → seen.swap_after ≡ seen.swap_before) → (r ≡ Err faults.JournalFull → length journal ≡ journal_entries)
    → RunCaused seen journal r
load_stops seen journal (Ok done) began files reads writes none same full = record { files = files; reads = reads; writes = writes }
load_stops seen journal (Err faults.FileFault) began files reads writes none same full = absurd began
load_stops seen journal (Err (faults.SwapReadFault device)) began files reads writes none same full = record { files = files; read = reads; writes = writes }
load_stops seen journal (Err (faults.SwapWriteFault device)) began files reads writes none same full = record { files = files; reads = reads; write = writes }
load_stops seen journal (Err faults.JournalFull) began files reads writes none same full = (record { files = files; reads = reads; writes = writes }, full refl)
load_stops seen journal (Err (faults.NoSpace pid)) began files reads writes none same full =
    record { nothing = record { journal_is = none pid refl; swap = same pid refl; reads = reads; writes = writes }; files = files }
load_stops seen journal (Err faults.NoMemory) began files reads writes none same full = record { files = files; reads = reads; writes = writes }
load_stops seen journal (Err _) began files reads writes none same full = absurd began

-- The lines of an ending found no memory: that is want of memory, also of a run that is finished.

counts_lost_caused : (seen : Seen) (journal : List Entry) (r : RunEnding) → IsRunEnding r → CountsBeLost r → RunCaused seen journal r
    → RunCaused seen journal (Err faults.NoMemory)
counts_lost_caused seen journal (Ok done) began lost c = c
counts_lost_caused seen journal (Err fault) began lost c = lost_caused seen journal (Err fault) (as_run (Err fault) began) lost c

counts_starve : (seen : Seen) (A : Inputs) (journal : List Entry) (image : SwapImage) (after : Option SwapImage) (r : RunEnding) → IsRunEnding r →
    CountsBeLost r
    → RunCaused seen journal r
    → RunEnded seen A journal image after r → RunEnded seen A journal image after (Err faults.NoMemory)
counts_starve seen A journal image after (Ok done) began lost c e = (c, inr (record { state = e.state; made = e.made; left = e.left }))
counts_starve seen A journal image after (Err fault) began lost c e = lost_ended seen A journal image after (Err fault) (as_run (Err fault) began) lost c e

other_fault : (pid : ℕ) → (let r : RunEnding = Err faults.NoMemory in r) ≡ Err (faults.NoSpace pid) → ⊥
other_fault pid e = cc

module _ (IsOf : Inputs → SwapImage → Type 0) (Starts : Inputs → Type 0) (number : ℕ) (seen : Seen) (status : ℕ) where
  -- the run of a machine, as it was written
  load_runs : (journal : List Entry) (r : RunEnding)
      → IsRunEnding r → length journal ≤ journal_entries → RunCaused seen journal r
      → ((A : Inputs) → Starts A → (pid : ℕ) → r ≡ Err (faults.NoSpace pid) → start_held A ≡ Err pid)
      → ((A : Inputs) (image : SwapImage) → IsOf A image → with_files no_notes seen.swap_before ≡ Some image
      → RunEnded seen A journal image (with_files no_notes seen.swap_after) r)
      → WritesCounts number journal r seen.written_before seen.written_after seen.sink_faults_before seen.sink_faults_after status
      → LoadRuns IsOf Starts number seen status
  load_runs journal r began within caused space ended (inl w) =
      record { ending = r; journal = journal; writes = w; within = within; caused = caused; began = began; space = space; ended = ended }
  load_runs journal r began within caused space ended (inr (lost, w)) = record {
    ending = Err faults.NoMemory;
    journal = journal;
    writes = w;
    within = within;
    caused = counts_lost_caused seen journal r began lost caused;
    began = tt;
    space = λ A starts pid e. absurd (other_fault pid e);
    ended = λ A image is told. counts_starve seen A journal image (with_files no_notes seen.swap_after) r began lost caused (ended A image is told);
  }

  pub load_ran : (journal : List Entry) (r : RunEnding)
      → IfErr r IsRunFault → CountsFileFaults (stop_of (stopped_as (unfinished_of r))) 0 0
      → NoFaults seen.faults
      → ReadsFail r seen.reads → WritesFail r seen.writes → ((pid : ℕ) → r ≡ Err (faults.NoSpace pid) → journal ≡ [])
      → ((pid : ℕ) → r ≡ Err (faults.NoSpace pid) → seen.swap_after ≡ seen.swap_before)
      → (r ≡ Err faults.JournalFull → length journal ≡ journal_entries) → length journal ≤ journal_entries
      → ((A : Inputs) → Starts A → (pid : ℕ) → r ≡ Err (faults.NoSpace pid) → start_held A ≡ Err pid)
      → ((A : Inputs) (image : SwapImage) → IsOf A image → with_files no_notes seen.swap_before ≡ Some image
      → RunEnds A journal image (unfinished_of r) (with_files no_notes seen.swap_after))
      → WritesCounts number journal r seen.written_before seen.written_after seen.sink_faults_before seen.sink_faults_after status
      → LoadRuns IsOf Starts number seen status
  load_ran journal r kind pages files reads writes none same full within space ends w =
      let began = files_hold r kind pages in
      let caused = load_stops seen journal r began files reads writes none same full in
      load_runs journal r began within caused space
      (λ A image is told. run_ended seen A journal image (with_files no_notes seen.swap_after) r kind caused (ends A image is told)) w

  -- a machine that wasn't made
  pub load_unmade : seen.swap_after ≡ seen.swap_before → NoneFaulted seen
      → WritesCounts number [] (Err faults.NoMemory) seen.written_before seen.written_after seen.sink_faults_before seen.sink_faults_after status
      → LoadRuns IsOf Starts number seen status
  load_unmade same none w =
      load_runs [] (Err faults.NoMemory) tt (omega arith) none (λ A starts pid e. absurd (other_fault pid e))
      (λ A image is told. (none, inl (refl, ap (with_files no_notes) same ∙ told))) w

-- Loads.

-- the devices were judged to be long enough
load_caused : (seen : Seen) (journal : List Entry) (r : RunEnding) → IsRunEnding r → ((pid : ℕ) → r ≡ Err (faults.NoSpace pid) → ⊥) → RunCaused seen journal r
    → DevicesSuffice load_numbers.swap seen
    → IsLoadCaused seen journal r
load_caused seen journal (Ok done) began never c d = (c, d)
load_caused seen journal (Err faults.FileFault) began never c d = absurd began
load_caused seen journal (Err (faults.SwapReadFault device)) began never c d = (c, d)
load_caused seen journal (Err (faults.SwapWriteFault device)) began never c d = (c, d)
load_caused seen journal (Err faults.JournalFull) began never c d = (c, d)
load_caused seen journal (Err (faults.NoSpace pid)) began never c d = absurd (never pid refl)
load_caused seen journal (Err faults.NoMemory) began never c d = inr (c, d)
load_caused seen journal (Err _) began never c d = absurd began

load_ended : (number : ℕ) (seen : Seen) (journal : List Entry) (image : SwapImage) (after : Option SwapImage) (r : RunEnding) → IsRunEnding r
    → RunEnded seen (load_inputs number) journal image after r → LoadEnded number seen journal image after r
load_ended number seen journal image after (Ok done) began e = e
load_ended number seen journal image after (Err faults.FileFault) began e = e
load_ended number seen journal image after (Err (faults.SwapReadFault device)) began e = e
load_ended number seen journal image after (Err (faults.SwapWriteFault device)) began e = e
load_ended number seen journal image after (Err faults.JournalFull) began e = e
load_ended number seen journal image after (Err (faults.NoSpace pid)) began e = e
load_ended number seen journal image after (Err faults.NoMemory) began e = e
load_ended number seen journal image after (Err _) began e = absurd began

pub loads_run : (IsOf : Inputs → SwapImage → Type 0) (Starts : Inputs → Type 0) (number : ℕ) (seen : Seen) (status : ℕ)
    → DevicesSuffice load_numbers.swap seen → NoFaults seen.faults
    → Starts (load_inputs number) → seen.notes_after ≡ seen.notes_before
    → ((image : SwapImage) → seen.swap_before ≡ Some image → IsOf (load_inputs number) (image_with_files no_notes image))
    → LoadRuns IsOf Starts number seen status → Loads number seen status
loads_run IsOf Starts number seen status long files starts unasked is_of x =
    let ends : LoadTold number seen x.journal x.ending
    = λ image told. load_ended number seen x.journal (image_with_files no_notes image) (with_files no_notes seen.swap_after) x.ending x.began
    (x.ended (load_inputs number) (image_with_files no_notes image) (is_of image told) (ap (with_files no_notes) told)) in
    record {
      ending = x.ending;
      journal = x.journal;
      writes = x.writes;
      within = x.within;
      caused = load_caused seen x.journal x.ending x.began (λ pid e. all_start number pid (x.space (load_inputs number) starts pid e)) x.caused long;
      files = files;
      asked = unasked;
      told = ends;
      counted = counted_by number seen status x.journal x.ending x.writes ends;
      fits = load_fits number seen status x.journal x.ending x.writes
          (load_caused seen x.journal x.ending x.began (λ pid e. all_start number pid (x.space (load_inputs number) starts pid e)) x.caused long) ends;
    }

-- no memory before the run
pub loads_unmade : (number : ℕ) (seen : Seen) (status : ℕ) → seen.swap_after ≡ seen.swap_before → seen.notes_after ≡ seen.notes_before → NoneFaulted seen
    → WritesCounts number [] (Err faults.NoMemory) seen.written_before seen.written_after seen.sink_faults_before seen.sink_faults_after status
    → Loads number seen status
loads_unmade number seen status same unasked none (inl w) =
    let ends : LoadTold number seen [] (Err faults.NoMemory)
    = λ image told. (none, inl (refl, ap (with_files no_notes) (same ∙ told))) in
    let unbegun : Unbegun seen [] = record { nothing = record { journal_is = refl; swap = same; reads = none.reads; writes = none.writes }; files = none.files } in
    record {
      ending = Err faults.NoMemory;
      journal = [];
      writes = w;
      within = omega arith;
      caused = inl unbegun;
      files = none.files;
      asked = unasked;
      told = ends;
      counted = counted_by number seen status [] (Err faults.NoMemory) w ends;
      fits = load_fits number seen status [] (Err faults.NoMemory) w (inl unbegun) ends;
    }
loads_unmade number seen status same unasked none (inr never) = absurd never.0

is_short : (zero_short one_short : Bool) (z zn o on : ℕ) (fault : Fault)
    → (if zero_short then Some (faults.ShortDevice 0 z zn) else (if one_short then Some (faults.ShortDevice 1 o on) else None)) ≡ Some fault → IsShort fault
is_short true one_short z zn o on fault e = let same : faults.ShortDevice 0 z zn ≡ fault = cc in subst IsShort same tt
is_short false true z zn o on fault e = let same : faults.ShortDevice 1 o on ≡ fault = cc in subst IsShort same tt
is_short false false z zn o on fault e = absurd cc

loads_short : (number : ℕ) (seen : Seen) (status : ℕ) (fault : Fault) → IsShort fault
    → device_fault load_numbers.swap seen.zero_blocks seen.one_blocks ≡ Some fault → Unbegun seen [] → seen.notes_after ≡ seen.notes_before
    → WritesCounts number [] (Err fault) seen.written_before seen.written_after seen.sink_faults_before seen.sink_faults_after status → Loads number seen status
loads_short number seen status (faults.ShortDevice device blocks needed) short is done unasked (inl w) =
    let ends : LoadTold number seen [] (Err (faults.ShortDevice device blocks needed))
    = λ image told. (refl, ap (with_files no_notes) ((let n : NothingDone seen [] = done.nothing in n.swap) ∙ told)) in
    record {
      ending = Err (faults.ShortDevice device blocks needed);
      journal = [];
      writes = w;
      within = omega arith;
      caused = (done, is);
      files = done.files;
      asked = unasked;
      told = ends;
      counted = counted_by number seen status [] (Err (faults.ShortDevice device blocks needed)) w ends;
      fits = load_fits number seen status [] (Err (faults.ShortDevice device blocks needed)) w (done, is) ends;
    }
loads_short number seen status (faults.ShortDevice device blocks needed) short is done unasked (inr (lost, w)) =
    loads_unmade number seen status (let n : NothingDone seen [] = done.nothing in n.swap) unasked (none_faulted seen [] done) (inl w)
loads_short number seen status _ short is done unasked w = absurd short

pub loads_judged : (number : ℕ) (seen : Seen) (status : ℕ) (fault : Fault)
    → device_fault load_numbers.swap seen.zero_blocks seen.one_blocks ≡ Some fault → Unbegun seen [] → seen.notes_after ≡ seen.notes_before
    → WritesCounts number [] (Err fault) seen.written_before seen.written_after seen.sink_faults_before seen.sink_faults_after status → Loads number seen status
loads_judged number seen status fault is done unasked w =
    loads_short number seen status fault
    (is_short (nat_lt seen.zero_blocks (zero_needs load_numbers.swap)) (nat_lt seen.one_blocks (one_needs load_numbers.swap)) seen.zero_blocks (zero_needs load_numbers.swap) seen.one_blocks
    (one_needs load_numbers.swap) fault is)
    is done unasked w

-- devices that are long enough
long_enough : (zero_short one_short : Bool) (z zn o on : ℕ) → nat_lt z zn ≡ zero_short → nat_lt o on ≡ one_short
    → (if zero_short then Some (faults.ShortDevice 0 z zn) else (if one_short then Some (faults.ShortDevice 1 o on) else None)) ≡ None → (zn ≤ z) × (on ≤ o)
long_enough true one_short z zn o on zs os e = absurd cc
long_enough false true z zn o on zs os e = absurd cc
long_enough false false z zn o on zs os e = (ltb-false z zn zs, ltb-false o on os)

pub meets_needs : (z o : ℕ) → device_fault load_numbers.swap z o ≡ None → MeetsNeeds z o load_numbers.swap
meets_needs z o long =
    long_enough (nat_lt z (zero_needs load_numbers.swap)) (nat_lt o (one_needs load_numbers.swap)) z (zero_needs load_numbers.swap) o (one_needs load_numbers.swap) refl refl long

-- Images that are found in files that never fail are opened, unless memory is wanted.
pub only_memory : {X : Type 0} (view : X → List NamedImage) (found : Result (List NamedImage) Why) (images : List NamedImage) (fault : Fault)
    → found ≡ Ok images → AnswersNamed view found (Err fault)
    → CountsAt fault 0 0 → IsImageFault fault → fault ≡ faults.NoMemory
only_memory view found images (faults.Absent name) is answers counts kind = absurd cc
only_memory view found images (faults.NotImage name reason) is answers counts kind = absurd cc
only_memory view found images faults.FileFault is answers counts kind = no_file_fault (faults.FileFault ≡ faults.NoMemory) counts
only_memory view found images faults.NoMemory is answers counts kind = refl
only_memory view found images _ is answers counts kind = absurd kind
