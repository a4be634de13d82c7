-- The transcript that was read, or wasn't.
use Rattle.std.proofs.Common.{◌≡◌, ℕ, suc, ◌≤◌, List, [], ◌∷◌, length, Option, Some, Result, Ok, Err, Bor, refl, ap, arith}
use Rattle.io_edge.specs.FileHolding.{NamedFile}
use Rattle.vm_facts.specs.declared.entry.Entry.{Entry}
use Rattle.command_edge.specs.declared.answers.Unread.{Unread}
use Rattle.command_edge.specs.declared.answers.Unread.TheVariants as unreads
use Rattle.command_edge.specs.Answering.{Answers, CountsFault, IsOfAnyFile}
use Rattle.run_text.specs.Lines.{lines_in, AreLines}
use Rattle.run_text.specs.Transcript.{IsEntryLine}
use Rattle.command_edge.specs.declared.fault.Fault.{Fault}
use Rattle.command_edge.specs.declared.fault.Fault.TheVariants as faults
use Rattle.command_edge.specs.Ending.{fault_of}
use Rattle.command_edge.specs.Command.{Faults, NoFaults, EndCounted, Made}
use Rattle.command_edge.proofs.Makings.{made_by, made_nothing}
use Rattle.replay_command.specs.Reading.{EndsLines, EndsTranscript}
use Rattle.replay_command.proofs.LastLines.{few_lines}

-- as many entries as lines
entries_count : {E : Type 0} (IsLine : E → List ℕ → Type 0) (items : List E) (ls : List (List ℕ)) → AreLines IsLine items ls → length items ≡ length ls
entries_count IsLine [] [] are = refl
entries_count IsLine [] (l ∷ ls) are = absurd are
entries_count IsLine (e ∷ es) [] are = absurd are
entries_count IsLine (e ∷ es) (l ∷ ls) are = ap (λ (n : ℕ). suc n) (entries_count IsLine es ls are.1)

pub few_entries : (entries : List Entry) (bytes whole : List ℕ) (most : ℕ) → AreLines IsEntryLine entries (lines_in bytes) → length bytes ≤ length whole
    → length whole ≤ most → length entries ≤ most
few_entries entries bytes whole most are shorter few = omega (arith, entries_count IsEntryLine entries (lines_in bytes) are, few_lines bytes, shorter, few)

-- what the bytes give is what the transcript gives
pub ends_read : (name bytes : List ℕ) (f : Faults) (result : Result (List Entry) Fault) → NoFaults f → EndsLines bytes result
    → EndsTranscript name (Ok (Some bytes)) f result
ends_read name bytes f (Ok entries) none ends = (none, ends)
ends_read name bytes f (Err faults.NoMemory) none ends = tt
ends_read name bytes f (Err (faults.BadTranscript line)) none ends = ends
ends_read name bytes f (Err _) none ends = absurd ends

pub lines_counted : (bytes : List ℕ) (f : Faults) (result : Result (List Entry) Fault) → NoFaults f → EndsLines bytes result → EndCounted result f
lines_counted bytes f (Ok entries) none ends = none
lines_counted bytes f (Err faults.NoMemory) none ends = none
lines_counted bytes f (Err (faults.BadTranscript line)) none ends = none
lines_counted bytes f (Err _) none ends = absurd ends

-- a transcript that wasn't read
pub unread_transcript : {A : Type 0} (view : A → Option (List ℕ)) (name : Bor (List ℕ)) (told : List NamedFile → Result (Option (List ℕ)) Unread)
    (holds : Option (List NamedFile)) (f : Faults) (unread : Unread)
    → ((files : List NamedFile) → holds ≡ Some files → Answers view (told files) (Err unread)) → IsOfAnyFile unread
    → CountsFault {A = A} (Err unread) f.open_before f.open_after → f.page_after ≡ f.page_before
    → Made {E = Result (List Entry) Fault} (EndsTranscript name.now) told holds f (Err (fault_of name unread))
unread_transcript view name told holds f unreads.Absent answers kind counts stays = made_by (EndsTranscript name.now) told holds f (Err (faults.Absent name)) (Err unreads.Absent) answers (refl, refl)
unread_transcript view name told holds f (unreads.NotImage reason) answers kind counts stays = absurd kind
unread_transcript view name told holds f unreads.FileFault answers kind counts stays =
    made_nothing (EndsTranscript name.now) (Err unreads.NoMemory) told holds f (Err faults.FileFault) (λ read. (counts, stays))
unread_transcript view name told holds f unreads.NoMemory answers kind counts stays = made_nothing (EndsTranscript name.now) (Err unreads.NoMemory) told holds f (Err faults.NoMemory) (λ read. tt)
