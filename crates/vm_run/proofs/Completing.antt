-- Which endings sound inputs leave.
use Rattle.std.proofs.Common.{◌≡◌, ◌⊎◌, inl, inr, ℕ, List, length, Option, Some, None, Ok, Err, refl, sym, ◌∙◌}
use Rattle.vm_facts.specs.SwapImages.{SwapImage}
use Rattle.io_edge.specs.Count.{Rose}
use Rattle.io_edge.specs.FileHolding.{NamedFile}
use Rattle.vm_facts.specs.declared.entry.Entry.{Entry}
use Rattle.command_edge.specs.declared.fault.Fault.TheVariants.{Absent, NotImage, BadSchedule, FileFault, SwapReadFault, SwapWriteFault, NoMemory, JournalFull, NoSpace, ShortDevice}
use Rattle.command_edge.specs.Command.{Writes, All, Prefix}
use Rattle.command_words.specs.Asked.{Request}
use Rattle.question_command.specs.Seen.{Seen}
use Rattle.question_command.specs.Machines.{journal_entries}
use Rattle.question_command.specs.RunCommandEnds.{RunEnding, run_status, DevicesSuffice, IsCaused, IsJudged, EndsTold}
use Rattle.question_command.specs.Loads.{load_numbers, IsLoadCaused}
use Rattle.question_command.proofs.Found.{no_absent, no_bad_event, no_failed_image}
use Rattle.vm_run.specs.Complete.{IsWellTold, NoneRose, RunsComplete, LoadsComplete, ToldLoadsComplete}

-- what was written whole has the status of its ending
whole_status : (before after : Option (List ℕ)) (old new : ℕ) (text : List ℕ) (whole status : ℕ) → Writes before after old new text whole status
    → (Rose old new → ⊥) → status ≡ whole
whole_status before after old new text whole status (All same appends faults) never = same
whole_status before after old new text whole status (Prefix is appends rose) never = absurd (never rose)

-- what is left for an ending
abbrev Left : RunEnding → List Entry → Type 0
Left ending journal = (run_status ending ≡ 0) ⊎ ((run_status ending ≡ 9) ⊎ ((run_status ending ≡ 10) × (length journal ≡ journal_entries)))

module _ (request : Request) (seen : Seen) (files : List NamedFile) (image : SwapImage) (journal : List Entry) (is : IsWellTold request seen files image) (none : NoneRose seen) where
  left : (ending : RunEnding) → IsCaused request seen journal ending → IsJudged request seen files ending → EndsTold request seen files journal image ending → Left ending journal
  left (Ok done) caused judged told = inl refl
  left (Err NoMemory) caused judged told = inr (inl refl)
  left (Err JournalFull) caused judged told = inr (inr (refl, caused.0.1))
  left (Err FileFault) caused judged told = absurd (elim caused [ inl before ↦ none.opens before.0.0 | inr failed ↦ none.pages failed.0.page.1 ])
  left (Err (SwapReadFault device)) caused judged told = absurd (none.reads device caused.0.read)
  left (Err (SwapWriteFault device)) caused judged told = absurd (none.writes device caused.0.write)
  left (Err (NoSpace pid)) caused judged told = absurd (is.space told.inputs told.asks pid told.ended.1)
  left (Err (Absent name)) caused judged told =
      absurd (elim judged [ inl schedule ↦ no_absent _ is.good.found.0.0 _ is.good.found.0.1 schedule.1 | inr image_fails ↦ no_failed_image _ _ is.good.found image_fails ])
  left (Err (NotImage name reason)) caused judged told = absurd (no_failed_image _ _ is.good.found judged)
  left (Err (BadSchedule line)) caused judged told = absurd (no_bad_event _ is.good.found.0.0 line is.good.found.0.1 judged)
  left (Err (ShortDevice device blocks needed)) caused judged told = absurd (let same : None ≡ Some (ShortDevice device blocks needed) = sym is.good.devices ∙ caused.1 in cc)
  left (Err _) caused judged told = absurd caused.0

pub runs_complete : RunsComplete
runs_complete request seen status files image runs is none =
    let whole = whole_status seen.written_before seen.written_after seen.sink_faults_before seen.sink_faults_after _ (run_status runs.ending) status runs.writes none.sink in
    let ended = left request seen files image runs.journal is none runs.ending runs.caused (runs.judged files is.files_told) (runs.told files image is.files_told is.octets is.swap_told) in
    elim ended [
      | inl zero ↦ inl (whole ∙ zero)
      | inr more ↦ elim more [ inl nine ↦ inr (inl (whole ∙ nine)) | inr full ↦ inr (inr (whole ∙ full.0, full.1)) ]
    ]

-- Loads.

module _ (seen : Seen) (journal : List Entry) (devices : DevicesSuffice load_numbers.swap seen) (none : NoneRose seen) where
  left_of_load : (ending : RunEnding) → IsLoadCaused seen journal ending → Left ending journal
  left_of_load (Ok done) caused = inl refl
  left_of_load (Err NoMemory) caused = inr (inl refl)
  left_of_load (Err JournalFull) caused = inr (inr (refl, caused.0.1))
  left_of_load (Err FileFault) caused = absurd caused
  left_of_load (Err (SwapReadFault device)) caused = absurd (none.reads device caused.0.read)
  left_of_load (Err (SwapWriteFault device)) caused = absurd (none.writes device caused.0.write)
  left_of_load (Err (NoSpace pid)) caused = absurd caused
  left_of_load (Err (ShortDevice device blocks needed)) caused = absurd (let same : None ≡ Some (ShortDevice device blocks needed) = sym devices ∙ caused.1 in cc)
  left_of_load (Err _) caused = absurd caused.0

pub loads_complete : LoadsComplete
loads_complete number seen status loads devices none =
    let whole = whole_status seen.written_before seen.written_after seen.sink_faults_before seen.sink_faults_after _ (run_status loads.ending) status loads.writes none.sink in
    let ended = left_of_load seen loads.journal devices none loads.ending loads.caused in
    elim ended [
      | inl zero ↦ inl (whole ∙ zero)
      | inr more ↦ elim more [ inl nine ↦ inr (inl (whole ∙ nine)) | inr full ↦ inr (inr (whole ∙ full.0, full.1)) ]
    ]

pub told_loads_complete : ToldLoadsComplete
told_loads_complete number seen status image loads told devices none = elim (loads_complete number seen status loads devices none) [
  | inl zero ↦ inl zero
  | inr more ↦ elim more [ inl nine ↦ inr nine | inr full ↦ absurd (loads.fits image told full.0) ]
]
