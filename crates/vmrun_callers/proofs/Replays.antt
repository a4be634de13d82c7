-- The replay of such a text.
use Rattle.std.proofs.Common.{◌≡◌, ◌<◌, inl, inr, ℕ, Bool, true, false, List, [], ◌∷◌, ◌++◌, length, Option, Some, None, Result, Ok, Err, refl, sym, ap, ◌∙◌, subst, arith}
use Rattle.std.specs.Prelude.{nat_le}
use Rattle.std.proofs.lemmas.Bool.{leb-true}
use Rattle.std.proofs.lemmas.Bool.Decides.{nat_tests}
use Rattle.std.proofs.lemmas.List.{append-nil}
use Rattle.vm_facts.specs.SwapImages.{SwapImage}
use Rattle.vm_facts.specs.declared.entry.Entry.{Entry}
use Rattle.io_edge.specs.Count.{Rose}
use Rattle.io_edge.specs.FileHolding.{NamedFile, place_of}
use Rattle.io_edge.specs.Told.{some_is}
use Rattle.run_text.specs.Text.{text_of}
use Rattle.run_text.specs.Lines.{lines_in, AreLines}
use Rattle.command_edge.specs.Told.{bytes_if}
use Rattle.command_edge.specs.ImageWords.{image_names}
use Rattle.command_edge.specs.declared.answers.Unread.{Unread}
use Rattle.command_edge.specs.declared.fault.Fault.TheVariants as faults
use Rattle.command_edge.specs.Ending.{Ending, ending_text as written_at, status_of}
use Rattle.command_edge.specs.Command.{Faults, All, Prefix, WritesEnding}
use Rattle.command_words.specs.Words.{is_plain, is_name}
use Rattle.command_words.specs.Asked.{Asked, Replay, asked_of}
use Rattle.replay_command.specs.Reading.{Read, HasEntries, transcript_bytes, images_told, read_of_transcript}
use Rattle.replay_command.specs.Command.{run_line, EndsReplay}
use Rattle.replay_command.specs.Replayed.{entries_shown}
use Rattle.replay_command.specs.Accepting.{ReadsText, IsAccepted}
use Rattle.replay_command.proofs.Accepting.{are_accepted}
use Rattle.replay_command.proofs.SameImages.{same_images}
use Rattle.replay_command.proofs.Lines.{no_lines}
use Rattle.vm_run.specs.Paired.{image_together}
use Rattle.vm_run.specs.InMemory.{seen_of, blank_pair, CompletesTold, DoesInMemory}
use Rattle.vmrun_callers.specs.Replayed.{replay_words, IsReplayed, FlatRun, TooLong, NoMemory, OutputFailed, RunIsReplayed}
use Rattle.vmrun_callers.proofs.Files.{images_kept, new_told}
use Rattle.vmrun_callers.proofs.Asking.{good_images, replay_asked}
use Rattle.vmrun_callers.proofs.Texts.{IsRunText, run_text}

-- no file in memory fails
abbrev no_faults : Faults
no_faults = record { open_before = 0; open_after = 0; page_before = 0; page_after = 0 }

never_rose : Rose 0 0 → ⊥
never_rose (inl rises) = omega (arith, rises.1)
never_rose (inr stands) = omega (arith, stands.0)

-- How a replay ends.

-- one whose transcript is too long to be read
abbrev EndsUnread : Ending → Type 0
EndsUnread (Ok output) = ⊥
EndsUnread (Err faults.TooLong) = Unit {0}
EndsUnread (Err faults.NoMemory) = Unit {0}
EndsUnread (Err _) = ⊥

module _ (name : List ℕ) (words : List (List ℕ)) (read : Read) (long : read.transcript ≡ Ok None) where
  none_read : (entries : List Entry) → HasEntries read.transcript entries → ⊥
  none_read entries has = subst (λ (t : Result (Option (List ℕ)) Unread). HasEntries t entries) long has

  was_read : (unread : Unread) → read.transcript ≡ Err unread → ⊥
  was_read unread is = let bad : (let r : Result (Option (List ℕ)) Unread = Err unread in r) ≡ Ok None = sym is ∙ long in cc

  ends_unread : (ending : Ending) → EndsReplay name words read no_faults ending → EndsUnread ending
  ends_unread (Ok output) ends = absurd (none_read ends.1.0 ends.1.1.has)
  ends_unread (Err (faults.Absent absent)) (inl named) = absurd (was_read _ named.1)
  ends_unread (Err (faults.Absent absent)) (inr lacks) = absurd (none_read lacks.0.0 lacks.0.1)
  ends_unread (Err (faults.NotImage file reason)) lacks = absurd (none_read lacks.0.0 lacks.0.1)
  ends_unread (Err faults.FileFault) (inl opening) = absurd (never_rose opening.0)
  ends_unread (Err faults.FileFault) (inr behind) = absurd (never_rose behind.0.1)
  ends_unread (Err faults.NoMemory) ends = tt
  ends_unread (Err (faults.NotFlatRun line)) ends = absurd (none_read ends.0 ends.1.has)
  ends_unread (Err (faults.BadTranscript line)) bad =
      absurd (subst (λ (t : Result (Option (List ℕ)) Unread). Rattle.replay_command.specs.Reading.HasBadLine t line) long bad)
  ends_unread (Err faults.TooLong) ends = tt
  ends_unread (Err _) ends = absurd ends

-- one that is accepted
abbrev EndsAccepted : ℕ → Ending → Type 0
EndsAccepted entries (Ok output) = output ≡ run_line entries
EndsAccepted entries (Err faults.NoMemory) = Unit {0}
EndsAccepted entries (Err _) = ⊥

ends_accepted : (name : List ℕ) (words : List (List ℕ)) (read : Read) (entries : ℕ) (ending : Ending) → EndsReplay name words read no_faults ending
    → IsAccepted entries ending
    → EndsAccepted entries ending
ends_accepted name words read entries (Ok output) ends is = is
ends_accepted name words read entries (Err faults.FileFault) (inl opening) is = absurd (never_rose opening.0)
ends_accepted name words read entries (Err faults.FileFault) (inr behind) is = absurd (never_rose behind.0.1)
ends_accepted name words read entries (Err faults.NoMemory) ends is = tt
ends_accepted name words read entries (Err _) ends is = absurd is

-- What is written then.

module _ (text : List ℕ) (status : ℕ) (written : Option (List ℕ)) (failed : ℕ) where
  too_long : (ending : Ending) → EndsUnread ending → status ≡ status_of ending → written ≡ Some (written_at ending) → transcript_bytes < length text → IsReplayed text status written
  too_long (Ok output) ends whole appends long = absurd ends
  too_long (Err faults.TooLong) ends whole appends long = TooLong whole long appends
  too_long (Err faults.NoMemory) ends whole appends long = NoMemory whole appends
  too_long (Err _) ends whole appends long = absurd ends

  long_written : (ending : Ending) → EndsUnread ending → WritesEnding (Some []) written 0 failed ending status → transcript_bytes < length text → IsReplayed text status written
  long_written ending ends (All whole appends none) long = too_long ending ends whole appends long
  long_written ending ends (Prefix whole appends rose) long = OutputFailed whole

  a_run : (entries : ℕ) (ending : Ending) → EndsAccepted entries ending → status ≡ status_of ending → written ≡ Some (written_at ending) → entries ≡ length (lines_in text)
      → IsReplayed text status written
  a_run entries (Ok output) is whole appends count =
      FlatRun whole (appends ∙ ap (λ (o : List ℕ). Some o) is ∙ ap (λ (n : ℕ). Some (run_line n)) count)
  a_run entries (Err faults.NoMemory) ends whole appends count = NoMemory whole appends
  a_run entries (Err _) ends whole appends count = absurd ends

  run_written : (entries : ℕ) (ending : Ending) → EndsAccepted entries ending → WritesEnding (Some []) written 0 failed ending status → entries ≡ length (lines_in text)
      → IsReplayed text status written
  run_written entries ending ends (All whole appends none) count = a_run entries ending ends whole appends count
  run_written entries ending ends (Prefix whole appends rose) count = OutputFailed whole

-- The lines of a text are as many as the entries that it shows.

as_many : {E : Type 0} (IsLine : E → List ℕ → Type 0) (es : List E) (ls : List (List ℕ)) → AreLines IsLine es ls → length es ≡ length ls
as_many IsLine [] [] are = refl
as_many IsLine [] (l ∷ ls) are = absurd are
as_many IsLine (e ∷ es) [] are = absurd are
as_many IsLine (e ∷ es) (l ∷ ls) are = let rest = as_many IsLine es ls are.1 in omega (arith, rest)

module _ (traced : Bool) (words : List (List ℕ)) (files : List NamedFile) (written : Option (List ℕ)) (run : IsRunText words files traced written) where
  count : length (entries_shown traced run.journal) ≡ length (lines_in (text_of traced run.journal ++ []))
  count =
      let begins = run.flat.begins [] in
      as_many _ (entries_shown traced run.journal) begins.lines begins.are
      ∙ sym (ap length (begins.cut ∙ ap (λ (ls : List (List ℕ)). begins.lines ++ ls) no_lines ∙ append-nil begins.lines))

  -- the replay of the text, as a file of a new name beside the files
  text_replayed : (transcript : List ℕ) (swap : Option SwapImage) (after : Option (List ℕ)) (failed status : ℕ) → place_of files transcript ≡ None
      → CompletesTold (EndsReplay transcript words) (read_of_transcript transcript words (files ++ record { name = transcript; bytes = text_of traced run.journal ++ [] } ∷ []))
      (seen_of (files ++ record { name = transcript; bytes = text_of traced run.journal ++ [] } ∷ []) 0 0 swap after failed) status
      → IsReplayed (text_of traced run.journal ++ []) status after
  text_replayed transcript swap after failed status new done = go (nat_le (length (text_of traced run.journal ++ [])) transcript_bytes) refl
    where
      file : NamedFile
      file = record { name = transcript; bytes = text_of traced run.journal ++ [] }

      read : Read
      read = read_of_transcript transcript words (files ++ file ∷ [])

      go : (short : Bool) → nat_le (length (text_of traced run.journal ++ [])) transcript_bytes ≡ short → IsReplayed (text_of traced run.journal ++ []) status after
      go true short =
          let told : read.transcript ≡ Ok (Some (text_of traced run.journal ++ []))
          = new_told files file transcript_bytes new ∙ ap (λ (b : Bool). Ok (bytes_if b (text_of traced run.journal ++ []))) short in
          let images = same_images (files ++ file ∷ []) (image_names words) run.inputs.images (images_kept files file (image_names words) run.inputs.images run.images) in
          let reads : ReadsText run.inputs traced run.journal [] words read
          = record { text = told; short = leb-true _ _ short; images = images.0; are = images.1; images_are = images.2; first = run.first } in
          run_written (text_of traced run.journal ++ []) status after failed (length (entries_shown traced run.journal)) done.ending
          (ends_accepted transcript words read (length (entries_shown traced run.journal)) done.ending done.ends
          (are_accepted run.inputs traced run.journal [] transcript words read no_faults done.ending run.flat (inl refl) reads done.ends))
          done.writes count
      go false long =
          let told : read.transcript ≡ Ok None = new_told files file transcript_bytes new ∙ ap (λ (b : Bool). Ok (bytes_if b (text_of traced run.journal ++ []))) long in
          long_written (text_of traced run.journal ++ []) status after failed done.ending (ends_unread transcript words read told done.ending done.ends) done.writes (grind (arith, nat_tests))

-- Both calls.

-- what a run wrote, handed over as a file, is replayed
pub run_replayed : (words : List (List ℕ)) (files : List NamedFile) (zero_blocks one_blocks : ℕ) (zero one : Option SwapImage) (written : Option (List ℕ))
    (failed status : ℕ) (transcript text : List ℕ)
    (also_zero also_one : Option SwapImage) (after : Option (List ℕ)) (also_failed also_status : ℕ)
    → is_plain transcript ≡ true → is_name transcript ≡ true → place_of files transcript ≡ None
    → DoesInMemory (asked_of words) files zero_blocks one_blocks zero one written failed status → written ≡ Some text
    → DoesInMemory (asked_of (replay_words transcript (asked_of words))) (files ++ record { name = transcript; bytes = text } ∷ []) 0 0 also_zero also_one
    after also_failed also_status
    → RunIsReplayed (asked_of words) status written also_status after
run_replayed words files zero_blocks one_blocks zero one written failed status transcript text also_zero also_one after also_failed also_status plain name new does wrote also =
    λ traced numbers schedule images is none.
    let asks : asked_of (replay_words transcript (asked_of words)) ≡ Some (Replay transcript images)
    = ap (λ (a : Option Asked). asked_of (replay_words transcript a)) is ∙ replay_asked transcript images plain name (good_images traced numbers schedule images words is) in
    let run : IsRunText images files traced written
    = run_text (record { traced = traced; numbers = numbers; schedule = schedule; words = images }) files zero_blocks one_blocks (image_together zero_blocks one_blocks zero one) written failed
    (blank_pair zero_blocks one_blocks) status (subst (λ (a : Option Asked). DoesInMemory a files zero_blocks one_blocks zero one written failed status) is does) none in
    let same : text ≡ text_of traced run.journal ++ [] = some_is _ _ (sym wrote ∙ run.wrote) in
    let done = subst (λ (t : List ℕ). DoesInMemory (Some (Replay transcript images)) (files ++ record { name = transcript; bytes = t } ∷ []) 0 0 also_zero also_one after also_failed also_status) same
    (subst (λ (a : Option Asked). DoesInMemory a (files ++ record { name = transcript; bytes = text } ∷ []) 0 0 also_zero also_one after also_failed also_status) asks also) in (
      text,
      wrote,
      subst (λ (t : List ℕ). IsReplayed t also_status after) (sym same)
          (text_replayed traced images files written run transcript (image_together 0 0 also_zero also_one) after also_failed also_status new done),
    )
