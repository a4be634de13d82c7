-- Which calls failed, by how a command ended.
use Rattle.std.proofs.Common.{◌≡◌, ◌⊎◌, inl, inr, ℕ, ◌<◌, ◌≤◌, List, Option, Some, None, Ok, Err, refl, sym, ◌∙◌, arith}
use Rattle.io_edge.specs.FileHolding.{NamedFile}
use Rattle.vm_facts.specs.declared.entry.Entry.{Entry}
use Rattle.command_words.specs.Asked.{Request, Asked, Run, Load, Replay, Assemble, Show, Optimum, Curve, Owners, Film, Stats, References, Grade, Repage, RepageOwners, Policies}
use Rattle.command_edge.specs.declared.fault.Fault.TheVariants as faults
use Rattle.command_edge.specs.Ending.{Ending, status_of as status_of_ending}
use Rattle.command_edge.specs.Command.{Faults, NoFaults, EndCounted, Writes, All, Prefix, Completes}
use Rattle.question_command.specs.Seen.{Seen, NoneFailed}
use Rattle.question_command.specs.RunCommandEnds.{RunEnding, run_status, NothingDone, Unbegun, NoneFaulted, PageFailedAlone, ReadFailedAlone, WriteFailedAlone, IsCaused}
use Rattle.question_command.specs.Loads.{IsLoadCaused}
use Rattle.vm_run.specs.Obeying.{Obeys, LeavesFiles, LeavesDevice}
use Rattle.vm_run.specs.Failing.{FileFailedAlone, FailedOnce, NoCall, FileCall, ReadCall, WriteCall, FailsByStatus}

-- a status of no failed call
abbrev IsOther : ℕ → Type 0
IsOther status = (status < 5) ⊎ (8 < status)

no_other : (A : Type 0) (status n : ℕ) → IsOther status → 5 ≤ n → n ≤ 8 → status ≡ n → A
no_other A status n (inl below) least most is = absurd (omega (arith, below, least, is))
no_other A status n (inr above) least most is = absurd (omega (arith, above, most, is))

module _ (seen : Seen) where
  -- what failed before the text of an ending with this status was written
  record Names (whole : ℕ) : Type 0 where
    pub none : IsOther whole → NoneFaulted seen
    pub file : whole ≡ 5 → FileFailedAlone seen
    pub read : whole ≡ 6 → (device : ℕ) × ReadFailedAlone device seen
    pub write : whole ≡ 7 → (device : ℕ) × WriteFailedAlone device seen
    pub unwritten : whole ≡ 8 → ⊥
    pub once : FailedOnce seen

  no_call : (whole : ℕ) → IsOther whole → NoneFaulted seen → Names whole
  no_call whole other calm = record {
    none = λ is. calm;
    file = λ is. no_other (FileFailedAlone seen) whole 5 other (omega arith) (omega arith) is;
    read = λ is. no_other ((device : ℕ) × ReadFailedAlone device seen) whole 6 other (omega arith) (omega arith) is;
    write = λ is. no_other ((device : ℕ) × WriteFailedAlone device seen) whole 7 other (omega arith) (omega arith) is;
    unwritten = λ is. no_other ⊥ whole 8 other (omega arith) (omega arith) is;
    once = NoCall calm;
  }

  file_call : FileFailedAlone seen → Names 5
  file_call failed = record {
    none = λ is. no_other (NoneFaulted seen) 5 5 is (omega arith) (omega arith) refl;
    file = λ is. failed;
    read = λ is. absurd (omega (arith, is));
    write = λ is. absurd (omega (arith, is));
    unwritten = λ is. absurd (omega (arith, is));
    once = FileCall failed;
  }

  read_call : (device : ℕ) → ReadFailedAlone device seen → Names 6
  read_call device failed = record {
    none = λ is. no_other (NoneFaulted seen) 6 6 is (omega arith) (omega arith) refl;
    file = λ is. absurd (omega (arith, is));
    read = λ is. (device, failed);
    write = λ is. absurd (omega (arith, is));
    unwritten = λ is. absurd (omega (arith, is));
    once = ReadCall device failed;
  }

  write_call : (device : ℕ) → WriteFailedAlone device seen → Names 7
  write_call device failed = record {
    none = λ is. no_other (NoneFaulted seen) 7 7 is (omega arith) (omega arith) refl;
    file = λ is. absurd (omega (arith, is));
    read = λ is. absurd (omega (arith, is));
    write = λ is. (device, failed);
    unwritten = λ is. absurd (omega (arith, is));
    once = WriteCall device failed;
  }

  -- the text of the ending was written, or the output failed
  written : (text : List ℕ) (whole status : ℕ)
      → Writes seen.written_before seen.written_after seen.sink_faults_before seen.sink_faults_after text whole status → Names whole → FailsByStatus seen status
  written text whole status (All same appends left) names = record {
    none = λ is. names.none (elim is [ inl below ↦ inl (omega (arith, same, below)) | inr above ↦ inr (omega (arith, same, above)) ]);
    file = λ is. names.file (sym same ∙ is);
    read = λ is. names.read (sym same ∙ is);
    write = λ is. names.write (sym same ∙ is);
    output = λ is. absurd (names.unwritten (sym same ∙ is));
    output_left = λ never. left;
  }
  written text whole status (Prefix eight some rose) names = record {
    none = λ is. no_other (NoneFaulted seen) status 8 is (omega arith) (omega arith) eight;
    file = λ is. absurd (omega (arith, eight, is));
    read = λ is. absurd (omega (arith, eight, is));
    write = λ is. absurd (omega (arith, eight, is));
    output = λ is. (rose, names.once);
    output_left = λ never. absurd (never eight);
  }

  -- nothing was done
  unbegun : (journal : List Entry) → Unbegun seen journal → NoneFaulted seen
  unbegun journal u = let n : NothingDone seen journal = u.nothing in record { files = u.files; reads = n.reads; writes = n.writes }

  page_call : PageFailedAlone seen → FileFailedAlone seen
  page_call failed = record { file = inr failed.page; reads = failed.reads; writes = failed.writes }

  -- a run
  run_names : (request : Request) (journal : List Entry) (ending : RunEnding) → IsCaused request seen journal ending → Names (run_status ending)
  run_names request journal (Ok done) c = no_call 0 (inl (omega arith)) c.0
  run_names request journal (Err (faults.Absent name)) c = no_call 2 (inl (omega arith)) (unbegun journal c)
  run_names request journal (Err (faults.NotImage name reason)) c = no_call 3 (inl (omega arith)) (unbegun journal c)
  run_names request journal (Err (faults.BadSchedule line)) c = no_call 4 (inl (omega arith)) (unbegun journal c)
  run_names request journal (Err (faults.ShortDevice device blocks needed)) c = no_call 12 (inr (omega arith)) (unbegun journal c.0)
  run_names request journal (Err faults.FileFault) (inl before) =
      file_call (let n : NothingDone seen journal = before.1 in record { file = inl before.0; reads = n.reads; writes = n.writes })
  run_names request journal (Err faults.FileFault) (inr halted) = file_call (page_call halted.0)
  run_names request journal (Err faults.NoMemory) (inl before) = no_call 9 (inr (omega arith)) (unbegun journal before)
  run_names request journal (Err faults.NoMemory) (inr halted) = no_call 9 (inr (omega arith)) halted.0
  run_names request journal (Err (faults.SwapReadFault device)) c = read_call device c.0
  run_names request journal (Err (faults.SwapWriteFault device)) c = write_call device c.0
  run_names request journal (Err faults.JournalFull) c = no_call 10 (inr (omega arith)) c.0.0
  run_names request journal (Err (faults.NoSpace pid)) c = no_call 11 (inr (omega arith)) (unbegun journal c.0)
  run_names request journal (Err _) c = absurd c.0

  -- a load
  load_names : (journal : List Entry) (ending : RunEnding) → IsLoadCaused seen journal ending → Names (run_status ending)
  load_names journal (Ok done) c = no_call 0 (inl (omega arith)) c.0
  load_names journal (Err (faults.ShortDevice device blocks needed)) c = no_call 12 (inr (omega arith)) (unbegun journal c.0)
  load_names journal (Err faults.FileFault) c = absurd c
  load_names journal (Err (faults.NoSpace pid)) c = absurd c
  load_names journal (Err faults.NoMemory) (inl before) = no_call 9 (inr (omega arith)) (unbegun journal before)
  load_names journal (Err faults.NoMemory) (inr halted) = no_call 9 (inr (omega arith)) halted.0
  load_names journal (Err (faults.SwapReadFault device)) c = read_call device c.0
  load_names journal (Err (faults.SwapWriteFault device)) c = write_call device c.0
  load_names journal (Err faults.JournalFull) c = no_call 10 (inr (omega arith)) c.0.0
  load_names journal (Err _) c = absurd c.0

  -- another command, which leaves the devices, and so has no fault of theirs
  abbrev IsNoDevice : Ending → Type 0
  IsNoDevice (Err (faults.SwapReadFault device)) = ⊥
  IsNoDevice (Err (faults.SwapWriteFault device)) = ⊥
  IsNoDevice ending = Unit {0}

  end_names : (ending : Ending) → IsNoDevice ending → EndCounted ending seen.faults → NoneFailed seen.reads → NoneFailed seen.writes
      → Names (status_of_ending ending)
  end_names (Ok output) kind counted reads writes = no_call 0 (inl (omega arith)) (record { files = counted; reads = reads; writes = writes })
  end_names (Err faults.BadWords) kind counted reads writes = no_call 1 (inl (omega arith)) (record { files = counted; reads = reads; writes = writes })
  end_names (Err (faults.Absent name)) kind counted reads writes = no_call 2 (inl (omega arith)) (record { files = counted; reads = reads; writes = writes })
  end_names (Err (faults.NotImage name reason)) kind counted reads writes = no_call 3 (inl (omega arith)) (record { files = counted; reads = reads; writes = writes })
  end_names (Err (faults.BadSchedule line)) kind counted reads writes = no_call 4 (inl (omega arith)) (record { files = counted; reads = reads; writes = writes })
  end_names (Err faults.FileFault) kind counted reads writes = file_call (record { file = counted; reads = reads; writes = writes })
  end_names (Err (faults.SwapReadFault device)) kind counted reads writes = absurd kind
  end_names (Err (faults.SwapWriteFault device)) kind counted reads writes = absurd kind
  end_names (Err faults.NoMemory) kind counted reads writes = no_call 9 (inr (omega arith)) (record { files = counted; reads = reads; writes = writes })
  end_names (Err faults.JournalFull) kind counted reads writes = no_call 10 (inr (omega arith)) (record { files = counted; reads = reads; writes = writes })
  end_names (Err (faults.NoSpace pid)) kind counted reads writes = no_call 11 (inr (omega arith)) (record { files = counted; reads = reads; writes = writes })
  end_names (Err (faults.ShortDevice device blocks needed)) kind counted reads writes = no_call 12 (inr (omega arith)) (record { files = counted; reads = reads; writes = writes })
  end_names (Err (faults.NotFlatRun line)) kind counted reads writes = no_call 14 (inr (omega arith)) (record { files = counted; reads = reads; writes = writes })
  end_names (Err (faults.BadTranscript line)) kind counted reads writes = no_call 15 (inr (omega arith)) (record { files = counted; reads = reads; writes = writes })
  end_names (Err faults.TooLong) kind counted reads writes = no_call 16 (inr (omega arith)) (record { files = counted; reads = reads; writes = writes })
  end_names (Err (faults.BadSource line)) kind counted reads writes = no_call 17 (inr (omega arith)) (record { files = counted; reads = reads; writes = writes })
  end_names (Err (faults.BadReferences line)) kind counted reads writes = no_call 18 (inr (omega arith)) (record { files = counted; reads = reads; writes = writes })
  end_names (Err faults.ReferencesTooLong) kind counted reads writes = no_call 16 (inr (omega arith)) (record { files = counted; reads = reads; writes = writes })
  end_names (Err (faults.NotAsWritten line)) kind counted reads writes = no_call 19 (inr (omega arith)) (record { files = counted; reads = reads; writes = writes })
  end_names (Err (faults.WrittenSoFar entries)) kind counted reads writes = no_call 20 (inr (omega arith)) (record { files = counted; reads = reads; writes = writes })
  end_names (Err (faults.NotPaged line)) kind counted reads writes = no_call 14 (inr (omega arith)) (record { files = counted; reads = reads; writes = writes })

  no_device : {R : Type 0} (Ends : R → Faults → Ending → Type 0) (read : R) (ending : Ending)
      → ((device : ℕ) → Ends read seen.faults (Err (faults.SwapReadFault device)) → ⊥)
      → ((device : ℕ) → Ends read seen.faults (Err (faults.SwapWriteFault device)) → ⊥)
      → Ends read seen.faults ending → IsNoDevice ending
  no_device Ends read (Err (faults.SwapReadFault device)) no_read no_write ends = no_read device ends
  no_device Ends read (Err (faults.SwapWriteFault device)) no_read no_write ends = no_write device ends
  no_device Ends read _ no_read no_write ends = tt

  completes_fails : {R : Type 0} (Ends : R → Faults → Ending → Type 0) (told : List NamedFile → R) (status : ℕ)
      → Completes Ends told seen.files seen.faults seen.written_before seen.written_after seen.sink_faults_before seen.sink_faults_after status
      → ((read : R) (device : ℕ) → Ends read seen.faults (Err (faults.SwapReadFault device)) → ⊥)
      → ((read : R) (device : ℕ) → Ends read seen.faults (Err (faults.SwapWriteFault device)) → ⊥)
      → NoneFailed seen.reads → NoneFailed seen.writes → FailsByStatus seen status
  completes_fails Ends told status x no_read no_write reads writes =
      written _ (status_of_ending x.ending) status x.writes
      (end_names x.ending (no_device Ends x.made.read x.ending (no_read x.made.read) (no_write x.made.read) x.made.ends) x.counted reads writes)

-- Any words. What is left has the counts that it had.
module _ (seen : Seen) (status : ℕ) (F Z O : Type 0) (files : F → NoFaults seen.faults)
    (zero : Z → (seen.reads.zero_after ≡ seen.reads.zero_before) × (seen.writes.zero_after ≡ seen.writes.zero_before))
    (one : O → (seen.reads.one_after ≡ seen.reads.one_before) × (seen.writes.one_after ≡ seen.writes.one_before)) where
  no_reads : Z → O → NoneFailed seen.reads
  no_reads z o = record { zero = (zero z).0; one = (one o).0 }

  no_writes : Z → O → NoneFailed seen.writes
  no_writes z o = record { zero = (zero z).1; one = (one o).1 }

  pub obeys_fails : (asked : Option Asked) → Obeys asked seen status → LeavesFiles asked F → LeavesDevice asked status Z → LeavesDevice asked status O
      → FailsByStatus seen status
  obeys_fails None x f z o =
      written seen _ 1 status x (no_call seen 1 (inl (omega arith)) (record { files = files f; reads = no_reads z o; writes = no_writes z o }))
  obeys_fails (Some (Run traced numbers schedule images)) x f z o =
      written seen _ (run_status x.ending) status x.writes
      (run_names seen (record { traced = traced; numbers = numbers; schedule = schedule; words = images }) x.journal x.ending x.caused)
  obeys_fails (Some (Load number)) x f z o = written seen _ (run_status x.ending) status x.writes (load_names seen x.journal x.ending x.caused)
  obeys_fails (Some (Replay transcript images)) x f z o =
      completes_fails seen _ _ status x (λ read device ends. ends) (λ read device ends. ends) (no_reads z o) (no_writes z o)
  obeys_fails (Some (Assemble source)) x f z o =
      completes_fails seen _ _ status x (λ read device ends. ends) (λ read device ends. ends) (no_reads z o) (no_writes z o)
  obeys_fails (Some (Show image)) x f z o =
      completes_fails seen _ _ status x (λ read device ends. ends) (λ read device ends. ends) (no_reads z o) (no_writes z o)
  obeys_fails (Some (Optimum size numbers schedule images)) x f z o =
      completes_fails seen _ _ status x (λ read device ends. ends) (λ read device ends. ends) (no_reads z o) (no_writes z o)
  obeys_fails (Some (Curve numbers schedule images)) x f z o =
      completes_fails seen _ _ status x (λ read device ends. ends) (λ read device ends. ends) (no_reads z o) (no_writes z o)
  obeys_fails (Some (Owners entries numbers schedule images)) x f z o =
      completes_fails seen _ _ status x (λ read device ends. ends) (λ read device ends. ends) (no_reads z o) (no_writes z o)
  obeys_fails (Some (Film steps numbers schedule images)) x f z o =
      completes_fails seen _ _ status x (λ read device ends. ends) (λ read device ends. ends) (no_reads z o) (no_writes z o)
  obeys_fails (Some (Stats numbers schedule images)) x f z o =
      completes_fails seen _ _ status x (λ read device ends. ends) (λ read device ends. ends) (no_reads z o) (no_writes z o)
  obeys_fails (Some (References numbers schedule images)) x f z o =
      completes_fails seen _ _ status x (λ read device ends. ends) (λ read device ends. ends) (no_reads z o) (no_writes z o)
  obeys_fails (Some (Grade numbers schedule trace images)) x f z o =
      completes_fails seen _ _ status x (λ read device ends. ends) (λ read device ends. ends) (no_reads z o) (no_writes z o)
  obeys_fails (Some (Repage numbers trace images)) x f z o =
      completes_fails seen _ _ status x (λ read device ends. ends) (λ read device ends. ends) (no_reads z o) (no_writes z o)
  obeys_fails (Some (RepageOwners entries numbers trace images)) x f z o =
      completes_fails seen _ _ status x (λ read device ends. ends) (λ read device ends. ends) (no_reads z o) (no_writes z o)
  obeys_fails (Some (Policies comparison references)) x f z o =
      completes_fails seen _ _ status x (λ read device ends. ends) (λ read device ends. ends) (no_reads z o) (no_writes z o)
