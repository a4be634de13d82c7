-- What reading a trace, and its images, makes of what the files give.
use Rattle.std.proofs.Common.{◌≡◌, inl, inr, ℕ, suc, ◌+◌, ◌<◌, ◌≤◌, ◌^◌, List, [], ◌∷◌, length, Option, Some, None, Result, Ok, Err, Bor, refl, ap, subst, arith}
use Rattle.io_edge.specs.FileHolding.{NamedFile}
use Rattle.command_edge.specs.declared.answers.Unread.{Unread}
use Rattle.command_edge.specs.declared.answers.Unread.TheVariants as unreads
use Rattle.command_edge.specs.Answering.{Answers, CountsFault, IsOfAnyFile}
use Rattle.command_edge.specs.ImageWords.{image_names, first_images}
use Rattle.run_text.specs.Lines.{lines_in, AreLines}
use Rattle.repage_command.specs.Grammar.{IsTraceLine}
use Rattle.replay_check.specs.Images.{FlatFile}
use Rattle.paged_model.specs.declared.line.Line.{Line}
use Rattle.command_edge.specs.declared.fault.Fault.{Fault}
use Rattle.command_edge.specs.declared.fault.Fault.TheVariants as faults
use Rattle.command_edge.specs.Ending.{fault_of}
use Rattle.command_edge.specs.Named.{Why, AnswersNamed}
use Rattle.command_edge.specs.Command.{Faults, NoFaults, EndCounted, Made}
use Rattle.command_edge.proofs.Counting.{none_then, one_then}
use Rattle.command_edge.proofs.Makings.{made_where, made_nothing, made_by}
use Rattle.replay_command.specs.Reading.{Read, FaultsBy, images_told, read_of_transcript}
use Rattle.replay_command.proofs.LastLines.{few_lines}
use Rattle.replay_command.proofs.Replays.{whole}
use Rattle.repage_command.specs.declared.reading.Case.{Case}
use Rattle.repage_command.specs.Reading.{HasFew, EndsTrace, EndsBytes, EndsFew, LacksCase, EndsCase}

-- The bytes of a trace.

-- as many lines as texts
lines_count : (ls : List Line) (texts : List (List ℕ)) → AreLines IsTraceLine ls texts → length ls ≡ length texts
lines_count [] [] are = refl
lines_count [] (t ∷ ts) are = absurd are
lines_count (l ∷ ls) [] are = absurd are
lines_count (l ∷ ls) (t ∷ ts) are = ap (λ (n : ℕ). suc n) (lines_count ls ts are.1)

pub lines_few : (ls : List Line) (bytes all : List ℕ) → AreLines IsTraceLine ls (lines_in bytes) → length bytes ≤ length all → length all ≤ 67108864
    → length ls + 2 < 2 ^ 32
lines_few ls bytes all are shorter few = omega (arith, lines_count ls (lines_in bytes) are, few_lines bytes, shorter, few)

pub bytes_fault : (bytes : List ℕ) (fault : Fault) → EndsBytes bytes (Err fault) → EndsFew bytes (Err fault)
bytes_fault bytes faults.NoMemory ends = tt
bytes_fault bytes (faults.BadTranscript n) ends = ends
bytes_fault bytes _ ends = absurd ends

-- what the bytes give is what the trace gives
pub few_ends : (name bytes : List ℕ) (f : Faults) (result : Result (List Line) Fault) → NoFaults f → EndsFew bytes result
    → EndsTrace name (Ok (Some bytes)) f result
few_ends name bytes f (Ok ls) none ends = (none, ends)
few_ends name bytes f (Err faults.NoMemory) none ends = tt
few_ends name bytes f (Err (faults.BadTranscript n)) none ends = ends
few_ends name bytes f (Err faults.TooLong) none ends = ends
few_ends name bytes f (Err _) none ends = absurd ends

pub few_counted : (bytes : List ℕ) (f : Faults) (result : Result (List Line) Fault) → NoFaults f → EndsFew bytes result → EndCounted result f
few_counted bytes f (Ok ls) none ends = none
few_counted bytes f (Err faults.NoMemory) none ends = none
few_counted bytes f (Err (faults.BadTranscript n)) none ends = none
few_counted bytes f (Err faults.TooLong) none ends = none
few_counted bytes f (Err _) none ends = absurd ends

-- a trace that wasn't read
pub unread_trace : {A : Type 0} (view : A → Option (List ℕ)) (name : Bor (List ℕ)) (told : List NamedFile → Result (Option (List ℕ)) Unread)
    (holds : Option (List NamedFile)) (f : Faults) (unread : Unread)
    → ((files : List NamedFile) → holds ≡ Some files → Answers view (told files) (Err unread)) → IsOfAnyFile unread
    → CountsFault {A = A} (Err unread) f.open_before f.open_after → f.page_after ≡ f.page_before
    → Made {E = Result (List Line) Fault} (EndsTrace name.now) told holds f (Err (fault_of name unread))
unread_trace view name told holds f unreads.Absent answers kind counts stays = made_by (EndsTrace name.now) told holds f (Err (faults.Absent name)) (Err unreads.Absent) answers (refl, refl)
unread_trace view name told holds f (unreads.NotImage reason) answers kind counts stays = absurd kind
unread_trace view name told holds f unreads.FileFault answers kind counts stays =
    made_nothing (EndsTrace name.now) (Err unreads.NoMemory) told holds f (Err faults.FileFault) (λ read. (counts, stays))
unread_trace view name told holds f unreads.NoMemory answers kind counts stays =
    made_nothing (EndsTrace name.now) (Err unreads.NoMemory) told holds f (Err faults.NoMemory) (λ read. tt)

-- The trace, as a part of what is read.

abbrev pub Ends : List ℕ → List (List ℕ) → Option (List NamedFile) → Faults → Result Case Fault → Type 0
Ends name words holds f result = Made (EndsCase name words) (read_of_transcript name words) holds f result

trace_fault : (name : List ℕ) (f : Faults) (fault : Fault) (read : Read) → EndsTrace name read.transcript f (Err fault) → LacksCase name read f fault
trace_fault name f (faults.Absent absent) read ends = inl ends
trace_fault name f faults.FileFault read ends = inl ends
trace_fault name f faults.NoMemory read ends = tt
trace_fault name f (faults.BadTranscript n) read ends = ends
trace_fault name f faults.TooLong read ends = ends
trace_fault name f _ read ends = absurd ends

module _ (name : List ℕ) (words : List (List ℕ)) (holds : Option (List NamedFile)) where
  pub trace_ends : (f : Faults) (fault : Fault) → Made {E = Result (List Line) Fault} (EndsTrace name) (whole name) holds f (Err fault)
      → Ends name words holds f (Err fault)
  trace_ends f fault made =
      made_where (λ (read : Read). EndsTrace name read.transcript f (Err fault)) (EndsCase name words) (record { transcript = made.read; images = Ok [] })
      (read_of_transcript name words) holds f (Err fault)
      made.ends (λ list told. subst (λ (read : Result (Option (List ℕ)) Unread). EndsTrace name read f (Err fault)) (made.is_told list told) made.ends)
      (trace_fault name f fault)

  pub refused : (f : Faults) → Ends name words holds f (Err faults.NoMemory)
  refused f =
      made_nothing (EndsCase name words) (record { transcript = Ok None; images = Ok [] }) (read_of_transcript name words) holds f (Err faults.NoMemory) (λ read. tt)

  -- The trace's lines were read, and this of the images.
  record Reads (ls : List Line) (images : Result (List FlatFile) Why) : Type 0 where
    pub read : Result (Option (List ℕ)) Unread
    pub has : HasFew read ls
    pub transcript_told : (list : List NamedFile) → holds ≡ Some list → read ≡ whole name list
    pub images_are : (list : List NamedFile) → holds ≡ Some list → images_told list (image_names words) ≡ images

record HasRead (ls : List Line) (images : Result (List FlatFile) Why) (read : Read) : Type 0 where
  pub has : HasFew read.transcript ls
  pub images_are : read.images ≡ images

made_read : (name : List ℕ) (words : List (List ℕ)) (holds : Option (List NamedFile)) (f : Faults) (ls : List Line) (images : Result (List FlatFile) Why)
    (result : Result Case Fault) → Reads name words holds ls images → ((read : Read) → HasRead ls images read → EndsCase name words read f result)
    → Ends name words holds f result
made_read name words holds f ls images result reads ends =
    made_where (HasRead ls images) (EndsCase name words) (record { transcript = reads.read; images = images }) (read_of_transcript name words) holds f result
    (record { has = reads.has; images_are = refl })
    (λ list told. record {
      has = subst (λ (read : Result (Option (List ℕ)) Unread). HasFew read ls) (reads.transcript_told list told) reads.has;
      images_are = reads.images_are list told;
    })
    ends

-- an image's fault is that of the command
pub images_end : (name : List ℕ) (words : List (List ℕ)) (holds : Option (List NamedFile))
    (open_before open_between open_after page_before page_between page_after : ℕ) (ls : List Line) (fault : Fault)
    → Made {E = Result (List Line) Fault} (EndsTrace name) (whole name) holds
    (record { open_before = open_before; open_after = open_between; page_before = page_before; page_after = page_between }) (Ok ls)
    → {A : Type 0} → (view : A → List FlatFile)
    → ((list : List NamedFile) → holds ≡ Some list → AnswersNamed view (images_told list (image_names words)) (Err fault))
    → FaultsBy {A = A} (Err fault) (record { open_before = open_between; open_after = open_after; page_before = page_between; page_after = page_after })
    → Ends name words holds (record { open_before = open_before; open_after = open_after; page_before = page_before; page_after = page_after }) (Err fault)
images_end name words holds open_before open_between open_after page_before page_between page_after ls (faults.Absent absent) made view answers by =
    made_read name words holds _ ls (Err (absent.now, unreads.Absent)) (Err (faults.Absent absent))
    (record { read = made.read; has = made.ends.1; transcript_told = made.is_told; images_are = answers })
    (λ read has. inr ((ls, has.has), has.images_are))
images_end name words holds open_before open_between open_after page_before page_between page_after ls (faults.NotImage file reason) made view answers by =
    made_read name words holds _ ls (Err (file.now, unreads.NotImage reason)) (Err (faults.NotImage file reason))
    (record { read = made.read; has = made.ends.1; transcript_told = made.is_told; images_are = answers })
    (λ read has. ((ls, has.has), has.images_are))
images_end name words holds open_before open_between open_after page_before page_between page_after ls faults.FileFault made view answers by =
    made_where (λ (read : Read). HasFew read.transcript ls) (EndsCase name words) (record { transcript = made.read; images = Ok [] })
    (read_of_transcript name words) holds _ (Err faults.FileFault)
    made.ends.1 (λ list told. subst (λ (read : Result (Option (List ℕ)) Unread). HasFew read ls) (made.is_told list told) made.ends.1)
    (λ read has. elim (one_then open_before open_between open_after page_before page_between page_after made.ends.0 by) [ inl first ↦ inl first | inr behind ↦ inr (behind, (ls, has)) ])
images_end name words holds open_before open_between open_after page_before page_between page_after ls faults.NoMemory made view answers by =
    refused name words holds _
images_end name words holds open_before open_between open_after page_before page_between page_after ls _ made view answers by = absurd by

-- all of it was read
pub case_ends : (name : List ℕ) (words : List (List ℕ)) (holds : Option (List NamedFile))
    (open_before open_between open_after page_before page_between page_after : ℕ) (case : Case)
    → Made {E = Result (List Line) Fault} (EndsTrace name) (whole name) holds
    (record { open_before = open_before; open_after = open_between; page_before = page_before; page_after = page_between }) (Ok case.lines.items)
    → ((list : List NamedFile) → holds ≡ Some list → images_told list (image_names words) ≡ Ok case.images.items)
    → NoFaults (record { open_before = open_between; open_after = open_after; page_before = page_between; page_after = page_after })
    → case.naming.first.items ≡ first_images (image_names words) words
    → Ends name words holds (record { open_before = open_before; open_after = open_after; page_before = page_before; page_after = page_after }) (Ok case)
case_ends name words holds open_before open_between open_after page_before page_between page_after case made answers none first =
    made_read name words holds _ case.lines.items (Ok case.images.items) (Ok case)
    (record { read = made.read; has = made.ends.1; transcript_told = made.is_told; images_are = answers })
    (λ read has. (
      none_then open_before open_between open_after page_before page_between page_after made.ends.0 none,
      record { lines = has.has; images = has.images_are; first = first },
    ))
