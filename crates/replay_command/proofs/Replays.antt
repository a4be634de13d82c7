-- What a replay makes of what it reads.
use Rattle.std.proofs.Common.{◌≡◌, inl, inr, ℕ, List, [], Option, Some, None, Result, Ok, Err, refl, subst}
use Rattle.io_edge.specs.FileHolding.{NamedFile}
use Rattle.vm_facts.specs.declared.entry.Entry.{Entry}
use Rattle.command_edge.specs.declared.answers.Unread.{Unread}
use Rattle.command_edge.specs.declared.answers.Unread.TheVariants as unreads
use Rattle.command_edge.specs.Told.{whole_told}
use Rattle.command_edge.specs.ImageWords.{image_names, first_images}
use Rattle.replay_check.specs.Images.{FlatFile}
use Rattle.command_edge.specs.declared.fault.Fault.{Fault}
use Rattle.command_edge.specs.declared.fault.Fault.TheVariants as faults
use Rattle.command_edge.specs.Ending.{Ending}
use Rattle.command_edge.specs.Named.{Why, AnswersNamed}
use Rattle.command_edge.specs.Command.{Faults, NoFaults, FaultCounted, EndCounted, Made}
use Rattle.command_edge.proofs.Counting.{none_then, one_then}
use Rattle.command_edge.proofs.Makings.{made_where, made_nothing}
use Rattle.replay_command.specs.Reading.{Read, HasEntries, EndsTranscript, FaultsBy, images_told, read_of_transcript}
use Rattle.replay_command.specs.Command.{EndsVerdict, EndsReplay}

abbrev pub whole : List ℕ → List NamedFile → Result (Option (List ℕ)) Unread
whole name list = whole_told list name 67108864

-- the transcript's fault is that of the replay
transcript_fault : (name : List ℕ) (words : List (List ℕ)) (f : Faults) (fault : Fault) (read : Read) → EndsTranscript name read.transcript f (Err fault)
    → EndsReplay name words read f (Err fault)
transcript_fault name words f (faults.Absent absent) read ends = inl ends
transcript_fault name words f faults.FileFault read ends = inl ends
transcript_fault name words f faults.NoMemory read ends = tt
transcript_fault name words f (faults.BadTranscript line) read ends = ends
transcript_fault name words f faults.TooLong read ends = ends
transcript_fault name words f _ read ends = absurd ends

pub transcript_ends : (name : List ℕ) (words : List (List ℕ)) (holds : Option (List NamedFile)) (f : Faults) (fault : Fault)
    → Made {E = Result (List Entry) Fault} (EndsTranscript name) (whole name) holds f (Err fault)
    → Made (EndsReplay name words) (read_of_transcript name words) holds f (Err fault)
transcript_ends name words holds f fault made =
    made_where (λ (read : Read). EndsTranscript name read.transcript f (Err fault)) (EndsReplay name words) (record { transcript = made.read; images = Ok [] })
    (read_of_transcript name words) holds f (Err fault)
    made.ends (λ list told. subst (λ (read : Result (Option (List ℕ)) Unread). EndsTranscript name read f (Err fault)) (made.is_told list told) made.ends)
    (transcript_fault name words f fault)

pub refused : (name : List ℕ) (words : List (List ℕ)) (holds : Option (List NamedFile)) (f : Faults)
    → Made (EndsReplay name words) (read_of_transcript name words) holds f (Err faults.NoMemory)
refused name words holds f =
    made_nothing (EndsReplay name words) (record { transcript = Ok None; images = Ok [] }) (read_of_transcript name words) holds f (Err faults.NoMemory) (λ read. tt)

-- what reading images counted, by their fault
pub images_counted : (A : Type 0) (f : Faults) (fault : Fault) → FaultsBy {A = A} (Err fault) f → FaultCounted fault f
images_counted A f (faults.Absent absent) by = by
images_counted A f (faults.NotImage file reason) by = by
images_counted A f faults.FileFault by = by
images_counted A f faults.NoMemory by = by
images_counted A f _ by = absurd by

-- the transcript's entries were read, and this of the images
record Reads (name : List ℕ) (words : List (List ℕ)) (holds : Option (List NamedFile)) (entries : List Entry)
    (images : Result (List FlatFile) Why) : Type 0 where
  pub read : Result (Option (List ℕ)) Unread
  pub has : HasEntries read entries
  pub transcript_told : (list : List NamedFile) → holds ≡ Some list → read ≡ whole name list
  pub images_are : (list : List NamedFile) → holds ≡ Some list → images_told list (image_names words) ≡ images

record HasRead (entries : List Entry) (images : Result (List FlatFile) Why) (read : Read) : Type 0 where
  pub has : HasEntries read.transcript entries
  pub images_are : read.images ≡ images

made_read : (name : List ℕ) (words : List (List ℕ)) (holds : Option (List NamedFile)) (f : Faults) (entries : List Entry) (images : Result (List FlatFile) Why)
    (ending : Ending) → Reads name words holds entries images
    → ((read : Read) → HasRead entries images read → EndsReplay name words read f ending)
    → Made (EndsReplay name words) (read_of_transcript name words) holds f ending
made_read name words holds f entries images ending reads ends =
    made_where (HasRead entries images) (EndsReplay name words) (record { transcript = reads.read; images = images }) (read_of_transcript name words) holds f ending
    (record { has = reads.has; images_are = refl })
    (λ list told. record {
      has = subst (λ (read : Result (Option (List ℕ)) Unread). HasEntries read entries) (reads.transcript_told list told) reads.has;
      images_are = reads.images_are list told;
    })
    ends

-- an image's fault is that of the replay
pub images_end : (name : List ℕ) (words : List (List ℕ)) (holds : Option (List NamedFile))
    (open_before open_between open_after page_before page_between page_after : ℕ) (entries : List Entry) (fault : Fault)
    → Made {E = Result (List Entry) Fault} (EndsTranscript name) (whole name) holds
    (record { open_before = open_before; open_after = open_between; page_before = page_before; page_after = page_between }) (Ok entries)
    → {A : Type 0} → (view : A → List FlatFile)
    → ((list : List NamedFile) → holds ≡ Some list → AnswersNamed view (images_told list (image_names words)) (Err fault))
    → FaultsBy {A = A} (Err fault) (record { open_before = open_between; open_after = open_after; page_before = page_between; page_after = page_after })
    → Made (EndsReplay name words) (read_of_transcript name words) holds
    (record { open_before = open_before; open_after = open_after; page_before = page_before; page_after = page_after }) (Err fault)
images_end name words holds open_before open_between open_after page_before page_between page_after entries (faults.Absent absent) made view answers by =
    made_read name words holds _ entries (Err (absent.now, unreads.Absent)) (Err (faults.Absent absent))
    (record { read = made.read; has = made.ends.1; transcript_told = made.is_told; images_are = answers })
    (λ read has. inr ((entries, has.has), has.images_are))
images_end name words holds open_before open_between open_after page_before page_between page_after entries (faults.NotImage file reason) made view answers by =
    made_read name words holds _ entries (Err (file.now, unreads.NotImage reason)) (Err (faults.NotImage file reason))
    (record { read = made.read; has = made.ends.1; transcript_told = made.is_told; images_are = answers })
    (λ read has. ((entries, has.has), has.images_are))
images_end name words holds open_before open_between open_after page_before page_between page_after entries faults.FileFault made view answers by =
    made_where (λ (read : Read). HasEntries read.transcript entries) (EndsReplay name words) (record { transcript = made.read; images = Ok [] })
    (read_of_transcript name words) holds _ (Err faults.FileFault)
    made.ends.1 (λ list told. subst (λ (read : Result (Option (List ℕ)) Unread). HasEntries read entries) (made.is_told list told) made.ends.1)
    (λ read has. elim (one_then open_before open_between open_after page_before page_between page_after made.ends.0 by) [ inl first ↦ inl first | inr behind ↦ inr (behind, (entries, has)) ])
images_end name words holds open_before open_between open_after page_before page_between page_after entries faults.NoMemory made view answers by = refused name words holds _
images_end name words holds open_before open_between open_after page_before page_between page_after entries _ made view answers by = absurd by

-- judging counts nothing
pub verdict_counted : (images : List FlatFile) (first : List ℕ) (entries : List Entry) (f : Faults) (ending : Ending) → NoFaults f
    → EndsVerdict images first entries ending → EndCounted ending f
verdict_counted images first entries f (Ok output) none verdict = none
verdict_counted images first entries f (Err faults.NoMemory) none verdict = none
verdict_counted images first entries f (Err (faults.NotFlatRun line)) none verdict = none
verdict_counted images first entries f (Err _) none verdict = absurd verdict

-- the verdict is that of the replay
verdict_ends : (name : List ℕ) (words : List (List ℕ)) (f : Faults) (entries : List Entry) (images : List FlatFile) (ending : Ending) (read : Read)
    → NoFaults f → EndsVerdict images (first_images (image_names words) words) entries ending → HasRead entries (Ok images) read
    → EndsReplay name words read f ending
verdict_ends name words f entries images (Ok output) read none verdict has =
    (none, (entries, record { has = has.has; images = images; are = has.images_are; verdict = verdict.0 }, verdict.1))
verdict_ends name words f entries images (Err faults.NoMemory) read none verdict has = tt
verdict_ends name words f entries images (Err (faults.NotFlatRun line)) read none verdict has =
    (entries, record { has = has.has; images = images; are = has.images_are; verdict = verdict })
verdict_ends name words f entries images (Err _) read none verdict has = absurd verdict

pub judged_ends : (name : List ℕ) (words : List (List ℕ)) (holds : Option (List NamedFile))
    (open_before open_between open_after page_before page_between page_after : ℕ) (entries : List Entry) (images : List FlatFile) (ending : Ending)
    → Made {E = Result (List Entry) Fault} (EndsTranscript name) (whole name) holds
    (record { open_before = open_before; open_after = open_between; page_before = page_before; page_after = page_between }) (Ok entries)
    → ((list : List NamedFile) → holds ≡ Some list → images_told list (image_names words) ≡ Ok images)
    → NoFaults (record { open_before = open_between; open_after = open_after; page_before = page_between; page_after = page_after })
    → EndsVerdict images (first_images (image_names words) words) entries ending
    → Made (EndsReplay name words) (read_of_transcript name words) holds
    (record { open_before = open_before; open_after = open_after; page_before = page_before; page_after = page_after }) ending
judged_ends name words holds open_before open_between open_after page_before page_between page_after entries images ending made answers none verdict =
    made_read name words holds _ entries (Ok images) ending
    (record { read = made.read; has = made.ends.1; transcript_told = made.is_told; images_are = answers })
    (λ read has. verdict_ends name words _ entries images ending read
    (none_then open_before open_between open_after page_before page_between page_after made.ends.0 none) verdict has)
