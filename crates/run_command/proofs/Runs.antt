-- What a command did, from what its opening and its run say.
use Rattle.std.proofs.Common.{◌≡◌, inl, inr, ℕ, ◌*◌, ◌≤◌, nat_lt, Bool, true, false, List, [], length, map, Option, Some, None, Result, Ok, Err, if◌then◌else◌, refl, sym, ap, ◌∙◌, subst, arith}
use Rattle.std.specs.Prelude.{IfOk, IfErr, OnOk}
use Rattle.std.proofs.lemmas.Bool.Decides.{nat_tests}
use Rattle.vm_facts.specs.SwapImages.{SwapImage}
use Rattle.vm_facts.specs.declared.entry.Entry.{Entry}
use Rattle.io_edge.specs.FileHolding.{NamedFile}
use Rattle.io_edge.specs.FileRequests.{FileNotes}
use Rattle.io_edge.specs.WithFiles.{image_with_files, with_files}
use Rattle.io_edge.specs.Striping.{zero_needs, one_needs, most_blocks, MeetsNeeds, pair_blocks}
use Rattle.io_edge.specs.StripeSizes.{tell_blocks, pair_whole}
use Rattle.io_edge.proofs.Stripes.{largest_swap}
use Rattle.aout_image.specs.declared.Image.{Image}
use Rattle.flat_state.specs.Flat.{Inputs}
use Rattle.machine_state.specs.Applying.{facts_named}
use Rattle.machine_state.specs.Outside.{stop_of, CountsFileFaults}
use Rattle.machine_state.specs.Machine.{Standing}
use Rattle.machine_state.specs.New.{fresh_kernel}
use Rattle.machine_state.specs.Sourced.{ImageNamed}
use Rattle.vm_core.specs.RunEnds.{stopped_as}
use Rattle.run_text.specs.Transcript.{HaveNumbers}
use Rattle.command_edge.specs.declared.fault.Fault.{Fault}
use Rattle.command_edge.specs.declared.fault.Fault.TheVariants.{Absent, NotImage, BadSchedule, FileFault, SwapReadFault, SwapWriteFault, NoMemory, JournalFull, NoSpace, ShortDevice}
use Rattle.command_edge.specs.Ending.{NeedsMemory}
use Rattle.command_edge.specs.Command.{Made}
use Rattle.command_words.specs.declared.command.Numbers.{Numbers}
use Rattle.command_words.specs.Command.{AreAllowed}
use Rattle.run_opening.specs.declared.images.OpenedImage.{OpenedImage}
use Rattle.run_opening.specs.declared.opening.Opening.{Opening}
use Rattle.command_edge.specs.ImageWords.{image_names}
use Rattle.run_opening.specs.Asked.{AsksOpening}
use Rattle.run_opening.specs.Devices.{device_fault}
use Rattle.run_opening.specs.Opening.{FoundFiles, found_told, EndsOpening, CountsAt}
use Rattle.command_words.specs.Asked.{Request}
use Rattle.run_command.specs.Naming.{shown_as}
use Rattle.run_command.specs.Machines.{journal_entries, params_up_to, machine_up_to, IsOfOpening}
use Rattle.run_command.specs.Seen.{Seen, NoneFailed, stores_after}
use Rattle.run_command.specs.Paired.{image_together, unfinished_of, IsRunFault, ReadsFail, WritesFail}
use Rattle.run_command.specs.Ends.{RunEnding, NothingDone, Unbegun, NoneFaulted, RunCaused, DevicesSuffice, IsCaused, AllGood, IsJudged, RunEnded, RunOfWords, EndsOpened, EndsLacking, EndsTold, WritesRun, Writing, RunsOpened, Runs}
use Rattle.run_command.proofs.Openings.{shown_facts}
use Rattle.run_command.proofs.Inputs.{KnownOpening, inputs_of, asks_for, is_asked_of}
use Rattle.run_command.proofs.Endings.{lost_caused, lost_ended, ended_flat}

-- The machine of what was opened.

pub fresh_machine : (entries : ℕ) (numbers : Numbers) (facts : List Image) (shown : List ImageNamed) (images : List OpenedImage)
    → facts ≡ map (λ (o : OpenedImage). o.facts) images → shown ≡ map shown_as images
    → (let m : Standing = record {
      kernel = fresh_kernel facts numbers.frames;
      params = params_up_to entries numbers;
      images = shown;
      before = [];
      room = None;
    } in m) ≡ machine_up_to entries numbers (map shown_as images)
fresh_machine entries numbers facts shown images same_facts same_images =
    ap (λ (fs : List Image). let m : Standing = record { kernel = fresh_kernel fs numbers.frames; params = params_up_to entries numbers; images = shown; before = []; room = None } in m)
    (same_facts ∙ sym (shown_facts images))
    ∙ ap (λ (ns : List ImageNamed). let m : Standing = record {
      kernel = fresh_kernel (facts_named (map shown_as images)) numbers.frames;
      params = params_up_to entries numbers;
      images = ns;
      before = [];
      room = None;
    } in m) same_images

pub if_ok : {T E : Type 0} (r : Result T E) (P Q : T → Type 0) → ((x : T) → P x → Q x) → IfOk r P → IfOk r Q
if_ok (Ok x) P Q f p = f x p
if_ok (Err e) P Q f p = tt

-- The devices.

pub needs_met : (swap zero_size one_size : ℕ) → device_fault swap zero_size one_size ≡ None → MeetsNeeds zero_size one_size swap
needs_met swap zero_size one_size none = go (nat_lt zero_size (zero_needs swap)) (nat_lt one_size (one_needs swap)) refl refl none
  where
    go : (a b : Bool) → nat_lt zero_size (zero_needs swap) ≡ a → nat_lt one_size (one_needs swap) ≡ b
        → (if a then Some (ShortDevice 0 zero_size (zero_needs swap)) else (if b then Some (ShortDevice 1 one_size (one_needs swap)) else None)) ≡ None → MeetsNeeds zero_size one_size swap
    go true b short fits e = absurd cc
    go false true fits short e = absurd cc
    go false false zero_fits one_fits e = (grind (arith, nat_tests), grind (arith, nat_tests))

pub room_told : (zero_size one_size swap : ℕ) (zero one : Option SwapImage) (image : SwapImage)
    → ((whole : SwapImage) → zero ≡ Some whole → length whole.bytes ≡ 512 * zero_size) → ((whole : SwapImage) → one ≡ Some whole → length whole.bytes ≡ 512 * one_size)
    → MeetsNeeds zero_size one_size swap → swap ≤ most_blocks → image_together zero_size one_size zero one ≡ Some image → 512 * swap ≤ length image.bytes
room_told zero_size one_size swap zero one image zero_whole one_whole meets most told =
    let long = pair_whole (pair_blocks zero_size one_size) zero one image (tell_blocks zero_size one_size zero one zero_whole one_whole) told in
    let fits = (largest_swap zero_size one_size).2 swap most meets in
    omega (arith, long, fits)

-- Why a run that was opened isn't finished.

pub run_caused : (seen : Seen) (es : List Entry) (r : RunEnding) → IfErr r IsRunFault → seen.faults.open_after ≡ seen.faults.open_before
    → CountsFileFaults (stop_of (stopped_as (unfinished_of r))) seen.faults.page_before seen.faults.page_after
    → ReadsFail r seen.reads → WritesFail r seen.writes → ((pid : ℕ) → r ≡ Err (NoSpace pid) → es ≡ [])
    → ((pid : ℕ) → r ≡ Err (NoSpace pid) → seen.swap_after ≡ seen.swap_before)
    → (r ≡ Err JournalFull → length es ≡ journal_entries) → RunCaused seen es r
run_caused seen es (Ok done) kind opens pages reads writes none same full =
    record { files = record { open_same = opens; page_same = pages }; reads = reads; writes = writes }
run_caused seen es (Err FileFault) kind opens pages reads writes none same full = record { page = (opens, pages); reads = reads; writes = writes }
run_caused seen es (Err (SwapReadFault device)) kind opens pages reads writes none same full =
    record { files = record { open_same = opens; page_same = pages }; read = reads; writes = writes }
run_caused seen es (Err (SwapWriteFault device)) kind opens pages reads writes none same full =
    record { files = record { open_same = opens; page_same = pages }; reads = reads; write = writes }
run_caused seen es (Err JournalFull) kind opens pages reads writes none same full =
    (record { files = record { open_same = opens; page_same = pages }; reads = reads; writes = writes }, full refl)
run_caused seen es (Err NoMemory) kind opens pages reads writes none same full = record { files = record { open_same = opens; page_same = pages }; reads = reads; writes = writes }
run_caused seen es (Err (NoSpace pid)) kind opens pages reads writes none same full = record {
  nothing = record { journal_is = none pid refl; swap = same pid refl; reads = reads; writes = writes };
  files = record { open_same = opens; page_same = pages };
}
run_caused seen es (Err _) kind opens pages reads writes none same full = absurd kind

-- A run over a machine, as it was written.

pub opened_runs : (IsOf : Inputs → SwapImage → Type 0) (opened : FileNotes) (traced : Bool) (seen : Seen) (es : List Entry) (r : RunEnding) (status : ℕ)
    → WritesRun traced es r seen.written_before seen.written_after seen.sink_faults_before seen.sink_faults_after status → HaveNumbers es
    → length es ≤ journal_entries → RunCaused seen es r → IfErr r IsRunFault
    → ((A : Inputs) (image : SwapImage) → IsOf A image → with_files opened seen.swap_before ≡ Some image → RunEnded seen A es image (stores_after seen) r)
    → RunsOpened IsOf opened traced seen status
opened_runs IsOf opened traced seen es r status (inl writes) numbers within caused kind ended =
    record { ending = r; journal = es; writes = writes; within = within; caused = caused; numbers = numbers; ended = ended }
opened_runs IsOf opened traced seen es r status (inr (lost, writes)) numbers within caused kind ended = record {
  ending = Err NoMemory;
  journal = es;
  writes = writes;
  within = within;
  caused = lost_caused seen es r kind lost caused;
  numbers = numbers;
  ended = λ A image is told. lost_ended seen A es image (stores_after seen) r kind lost caused (ended A image is told);
}

pub opened_lacking : (IsOf : Inputs → SwapImage → Type 0) (opened : FileNotes) (traced : Bool) (seen : Seen) (status : ℕ)
    → WritesRun traced [] (Err NoMemory) seen.written_before seen.written_after seen.sink_faults_before seen.sink_faults_after status
    → stores_after seen ≡ with_files opened seen.swap_before → NoneFaulted seen → RunsOpened IsOf opened traced seen status
opened_lacking IsOf opened traced seen status (inl writes) same none =
    record { ending = Err NoMemory; journal = []; writes = writes; within = omega arith; caused = none; numbers = tt; ended = λ A image is told. (none, inl (refl, same ∙ told)) }
opened_lacking IsOf opened traced seen status (inr (lost, writes)) same none = absurd lost

-- The same for the words.

module _ (request : Request) (seen : Seen) where
  caused_so : (es : List Entry) (r : RunEnding) → RunCaused seen es r → DevicesSuffice request.numbers.swap seen → IsCaused request seen es r
  caused_so es (Ok done) c d = (c, d)
  caused_so es (Err FileFault) c d = inr (c, d)
  caused_so es (Err (SwapReadFault device)) c d = (c, d)
  caused_so es (Err (SwapWriteFault device)) c d = (c, d)
  caused_so es (Err JournalFull) c d = (c, d)
  caused_so es (Err NoMemory) c d = inr (c, d)
  caused_so es (Err (NoSpace pid)) c d = (c, d)
  caused_so es (Err _) c d = absurd c

  judged_good : (files : List NamedFile) (es : List Entry) (r : RunEnding) → RunCaused seen es r → AllGood request seen files → IsJudged request seen files r
  judged_good files es (Ok done) c good = good
  judged_good files es (Err FileFault) c good = inr (c.page, good)
  judged_good files es (Err (SwapReadFault device)) c good = good
  judged_good files es (Err (SwapWriteFault device)) c good = good
  judged_good files es (Err JournalFull) c good = good
  judged_good files es (Err NoMemory) c good = inr good
  judged_good files es (Err (NoSpace pid)) c good = good
  judged_good files es (Err _) c good = absurd c

  told_so : (files : List NamedFile) (es : List Entry) (image : SwapImage) (r : RunEnding) → RunCaused seen es r → AllGood request seen files
      → RunOfWords request seen files es image r → EndsTold request seen files es image r
  told_so files es image (Ok done) c good x = x
  told_so files es image (Err FileFault) c good x = inr (c.page, good, x)
  told_so files es image (Err (SwapReadFault device)) c good x = x
  told_so files es image (Err (SwapWriteFault device)) c good x = x
  told_so files es image (Err JournalFull) c good x = x
  told_so files es image (Err NoMemory) c good x = inr x
  told_so files es image (Err (NoSpace pid)) c good x = x
  told_so files es image (Err _) c good x = absurd c

  of_words : (files : List NamedFile) (opening : Opening) (opened : FileNotes) (es : List Entry) (image : SwapImage) (r : RunEnding)
      → KnownOpening request files opening → AreAllowed request.numbers → HaveNumbers es
      → AsksOpening request.schedule (image_names request.words) (Some files) (Ok opening) seen.notes_before opened
      → RunEnded seen (inputs_of request files opening) es (image_with_files opened image) (stores_after seen) r → RunOfWords request seen files es image r
  of_words files opening opened es image r known allowed numbers opens ended = record {
    inputs = inputs_of request files opening;
    asks = asks_for request files opening known;
    opening = opening;
    opened = opened;
    opens = opens;
    ended = ended;
    replayed = ended_flat seen (inputs_of request files opening) es (image_with_files opened image) (stores_after seen) r allowed.most_limit numbers ended;
  }

  pub opened_words : (opening : Opening) (opened : FileNotes) (status : ℕ)
      → RunsOpened (IsOfOpening request.numbers opening seen.files) opened request.traced seen status → AreAllowed request.numbers
      → DevicesSuffice request.numbers.swap seen → ((files : List NamedFile) → seen.files ≡ Some files → AllGood request seen files)
      → ((files : List NamedFile) → seen.files ≡ Some files → KnownOpening request files opening)
      → AsksOpening request.schedule (image_names request.words) seen.files (Ok opening) seen.notes_before opened
      → ((image : SwapImage) → seen.swap_before ≡ Some image → 512 * request.numbers.swap ≤ length image.bytes) → Runs request seen status
  opened_words opening opened status x allowed devices good known opens room = record {
    ending = x.ending;
    journal = x.journal;
    writes = x.writes;
    within = x.within;
    caused = caused_so x.journal x.ending x.caused devices;
    judged = λ files told. judged_good files x.journal x.ending x.caused (good files told);
    told = λ files image told octets swap.
        told_so files x.journal image x.ending x.caused (good files told)
        (of_words files opening opened x.journal image x.ending (known files told) allowed x.numbers
        (subst (λ (holds : Option (List NamedFile)). AsksOpening request.schedule (image_names request.words) holds (Ok opening) seen.notes_before opened) told opens)
        (x.ended (inputs_of request files opening) (image_with_files opened image)
        (is_asked_of request files opening (known files told) allowed (image_with_files opened image) seen.files told octets (room image swap)) (ap (with_files opened) swap)));
  }

-- What was not opened.

-- where the line of a fault can be lost, no file failed on the way to its first bytes
lost_opens : (fault : Fault) (old new : ℕ) → NeedsMemory fault → CountsAt fault old new → new ≡ old
lost_opens FileFault old new lost c = absurd lost
lost_opens _ old new lost c = c

abbrev pub OpeningOf : Request → Seen → FoundFiles → Fault → Type 0
OpeningOf request seen found fault =
    EndsOpening request.schedule request.words request.numbers.swap seen.zero_blocks seen.one_blocks found seen.faults (let r : Result Opening Fault = Err fault in r)

module _ (request : Request) (seen : Seen) (same : seen.swap_after ≡ seen.swap_before) (reads : NoneFailed seen.reads) (writes : NoneFailed seen.writes)
    (pages : seen.faults.page_after ≡ seen.faults.page_before) where
  nothing : NothingDone seen []
  nothing = record { journal_is = refl; swap = same; reads = reads; writes = writes }

  unbegun : seen.faults.open_after ≡ seen.faults.open_before → Unbegun seen []
  unbegun opens = record { nothing = nothing; files = record { open_same = opens; page_same = pages } }

  none_faulted : seen.faults.open_after ≡ seen.faults.open_before → NoneFaulted seen
  none_faulted opens = record { files = record { open_same = opens; page_same = pages }; reads = reads; writes = writes }

  -- no memory, before a file failed
  starved_runs : (status : ℕ) → seen.faults.open_after ≡ seen.faults.open_before
      → ((files : List NamedFile) (image : SwapImage) → seen.files ≡ Some files → seen.swap_before ≡ Some image → EndsLacking request seen files [] image)
      → Writing request.traced seen [] (Err NoMemory) status → Runs request seen status
  starved_runs status opens lacking w = record {
    ending = Err NoMemory;
    journal = [];
    writes = w;
    within = omega arith;
    caused = inl (unbegun opens);
    judged = λ files told. inl (none_faulted opens);
    told = λ files image told octets swap. inl (unbegun opens, lacking files image told swap);
  }

  pub lacking_runs : (status : ℕ) → WritesRun request.traced [] (Err NoMemory) seen.written_before seen.written_after seen.sink_faults_before seen.sink_faults_after status
      → seen.faults.open_after ≡ seen.faults.open_before → seen.notes_after ≡ seen.notes_before → Runs request seen status
  lacking_runs status (inl w) opens unasked = starved_runs status opens (λ files image told swap. inl ((refl, same ∙ swap), unasked)) w
  lacking_runs status (inr (lost, w)) opens unasked = absurd lost

  -- they were asked for up to the fault
  ends_opened : (fault : Fault) (files : List NamedFile) (image : SwapImage)
      → AsksOpening request.schedule (image_names request.words) seen.files (let r : Result Opening Fault = Err fault in r) seen.notes_before seen.notes_after
      → seen.files ≡ Some files → seen.swap_before ≡ Some image → EndsOpened request seen files [] image fault
  ends_opened fault files image asks told swap = record {
    none = (refl, same ∙ swap);
    opens = subst (λ (holds : Option (List NamedFile)). AsksOpening request.schedule (image_names request.words) holds (let r : Result Opening Fault = Err fault in r)
        seen.notes_before seen.notes_after)
        told asks;
  }

  unopened_caused : (fault : Fault) (found : FoundFiles) → OpeningOf request seen found fault → CountsAt fault seen.faults.open_before seen.faults.open_after → IsCaused request seen [] (Err fault)
  unopened_caused (Absent name) found ends opens = unbegun opens
  unopened_caused (NotImage name reason) found ends opens = unbegun opens
  unopened_caused (BadSchedule line) found ends opens = unbegun opens
  unopened_caused (ShortDevice device blocks needed) found ends opens = (unbegun opens, ends.1)
  unopened_caused FileFault found ends opens = inl (ends, nothing)
  unopened_caused NoMemory found ends opens = inl (unbegun opens)
  unopened_caused _ found ends opens = absurd ends

  unopened_judged : (fault : Fault) (found : FoundFiles) (files : List NamedFile) → OpeningOf request seen found fault → CountsAt fault seen.faults.open_before seen.faults.open_after
      → found ≡ found_told request.schedule request.words files → IsJudged request seen files (Err fault)
  unopened_judged (Absent name) found files ends opens is = subst (λ (x : FoundFiles). OpeningOf request seen x (Absent name)) is ends
  unopened_judged (NotImage name reason) found files ends opens is = subst (λ (x : FoundFiles). OpeningOf request seen x (NotImage name reason)) is ends
  unopened_judged (BadSchedule line) found files ends opens is = subst (λ (x : FoundFiles). OpeningOf request seen x (BadSchedule line)) is ends
  unopened_judged (ShortDevice device blocks needed) found files ends opens is = subst (λ (x : FoundFiles). OpeningOf request seen x (ShortDevice device blocks needed)) is ends
  unopened_judged FileFault found files ends opens is = inl ends
  unopened_judged NoMemory found files ends opens is = inl (none_faulted opens)
  unopened_judged _ found files ends opens is = absurd ends

  unopened_told : (fault : Fault) (found : FoundFiles) (files : List NamedFile) (image : SwapImage) → OpeningOf request seen found fault → CountsAt fault seen.faults.open_before seen.faults.open_after
      → EndsOpened request seen files [] image fault → EndsTold request seen files [] image (Err fault)
  unopened_told (Absent name) found files image ends opens e = e
  unopened_told (NotImage name reason) found files image ends opens e = e
  unopened_told (BadSchedule line) found files image ends opens e = e
  unopened_told (ShortDevice device blocks needed) found files image ends opens e = e
  unopened_told FileFault found files image ends opens e = inl ((ends, nothing), e)
  unopened_told NoMemory found files image ends opens e = inl (unbegun opens, inr (NoMemory, e))
  unopened_told _ found files image ends opens e = absurd ends

  pub unopened_runs : (fault : Fault) (status : ℕ) → WritesRun request.traced [] (Err fault) seen.written_before seen.written_after seen.sink_faults_before seen.sink_faults_after status
      → (made : Made (EndsOpening request.schedule request.words request.numbers.swap seen.zero_blocks seen.one_blocks) (found_told request.schedule request.words) seen.files seen.faults
      (let r : Result Opening Fault = Err fault in r))
      → CountsAt fault seen.faults.open_before seen.faults.open_after
      → AsksOpening request.schedule (image_names request.words) seen.files (let r : Result Opening Fault = Err fault in r) seen.notes_before seen.notes_after
      → Runs request seen status
  unopened_runs fault status (inl w) made opens asks = record {
    ending = Err fault;
    journal = [];
    writes = w;
    within = omega arith;
    caused = unopened_caused fault made.read made.ends opens;
    judged = λ files told. unopened_judged fault made.read files made.ends opens (made.is_told files told);
    told = λ files image told octets swap. unopened_told fault made.read files image made.ends opens (ends_opened fault files image asks told swap);
  }
  unopened_runs fault status (inr (lost, w)) made opens asks =
      starved_runs status (lost_opens fault seen.faults.open_before seen.faults.open_after lost opens)
      (λ files image told swap. inr (fault, ends_opened fault files image asks told swap)) w
