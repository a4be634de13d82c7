-- The file of references that was read, or wasn't.
use Rattle.std.proofs.Common.{◌≡◌, ℕ, List, Option, Some, None, Ok, Err, Bor, refl}
use Rattle.io_edge.specs.FileHolding.{NamedFile}
use Rattle.command_edge.specs.declared.answers.Unread.{Unread}
use Rattle.command_edge.specs.declared.answers.Unread.TheVariants as unreads
use Rattle.command_edge.specs.Answering.{Answers, CountsFault, IsOfAnyFile}
use Rattle.command_edge.specs.declared.fault.Fault.TheVariants as faults
use Rattle.command_edge.specs.Ending.{Ending, fault_of}
use Rattle.command_edge.specs.Command.{Faults, NoFaults, EndCounted, Made}
use Rattle.command_edge.proofs.Makings.{made_by, made_nothing}
use Rattle.command_words.specs.declared.command.Comparison.{Comparison}
use Rattle.reference_answers.specs.Command.{references_told, EndsText, EndsPolicies}

-- what the bytes give is what the file gives
text_ends : (asked : Comparison) (name bytes : List ℕ) (f : Faults) (ending : Ending) → NoFaults f → EndsText asked bytes ending
    → EndsPolicies asked name (Ok (Some bytes)) f ending
text_ends asked name bytes f (Ok text) none ends = (none, ends)
text_ends asked name bytes f (Err faults.NoMemory) none ends = tt
text_ends asked name bytes f (Err (faults.BadReferences line)) none ends = ends
text_ends asked name bytes f (Err _) none ends = absurd ends

pub text_counted : (asked : Comparison) (bytes : List ℕ) (f : Faults) (ending : Ending) → NoFaults f → EndsText asked bytes ending → EndCounted ending f
text_counted asked bytes f (Ok text) none ends = none
text_counted asked bytes f (Err faults.NoMemory) none ends = none
text_counted asked bytes f (Err (faults.BadReferences line)) none ends = none
text_counted asked bytes f (Err _) none ends = absurd ends

pub file_ends : (asked : Comparison) (name bytes : List ℕ) (holds : Option (List NamedFile)) (f : Faults) (ending : Ending)
    → ((files : List NamedFile) → holds ≡ Some files → references_told name files ≡ Ok (Some bytes)) → NoFaults f → EndsText asked bytes ending
    → Made (EndsPolicies asked name) (references_told name) holds f ending
file_ends asked name bytes holds f ending told none ends =
    made_by (EndsPolicies asked name) (references_told name) holds f ending (Ok (Some bytes)) told (text_ends asked name bytes f ending none ends)

pub too_long : (asked : Comparison) (name : List ℕ) (holds : Option (List NamedFile)) (f : Faults)
    → ((files : List NamedFile) → holds ≡ Some files → references_told name files ≡ Ok None)
    → Made (EndsPolicies asked name) (references_told name) holds f (Err faults.ReferencesTooLong)
too_long asked name holds f told = made_by (EndsPolicies asked name) (references_told name) holds f (Err faults.ReferencesTooLong) (Ok None) told refl

-- a file that wasn't read
pub unread_file : {A : Type 0} (view : A → Option (List ℕ)) (asked : Comparison) (name : Bor (List ℕ)) (holds : Option (List NamedFile)) (f : Faults)
    (unread : Unread)
    → ((files : List NamedFile) → holds ≡ Some files → Answers view (references_told name.now files) (Err unread)) → IsOfAnyFile unread
    → CountsFault {A = A} (Err unread) f.open_before f.open_after → f.page_after ≡ f.page_before
    → Made (EndsPolicies asked name.now) (references_told name.now) holds f (Err (fault_of name unread))
unread_file view asked name holds f unreads.Absent answers kind counts stays =
    made_by (EndsPolicies asked name.now) (references_told name.now) holds f (Err (faults.Absent name)) (Err unreads.Absent) answers (refl, refl)
unread_file view asked name holds f (unreads.NotImage reason) answers kind counts stays = absurd kind
unread_file view asked name holds f unreads.FileFault answers kind counts stays =
    made_nothing (EndsPolicies asked name.now) (Err unreads.NoMemory) (references_told name.now) holds f (Err faults.FileFault) (λ read. (counts, stays))
unread_file view asked name holds f unreads.NoMemory answers kind counts stays =
    made_nothing (EndsPolicies asked name.now) (Err unreads.NoMemory) (references_told name.now) holds f (Err faults.NoMemory) (λ read. tt)
