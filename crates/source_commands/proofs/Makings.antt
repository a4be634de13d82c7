-- Files that weren't read, and what the commands make of that.
use Rattle.std.proofs.Common.{◌≡◌, inl, inr, ℕ, List, [], Option, Some, Result, Ok, Err, Bor, refl}
use Rattle.std.specs.Prelude.{IsTrue, is_ok}
use Rattle.io_edge.specs.FileHolding.{NamedFile}
use Rattle.aout_image.specs.declared.Kind.TheVariants.{Impure}
use Rattle.aout_image.specs.declared.Image.{Image}
use Rattle.command_edge.specs.declared.answers.Unread.{Unread}
use Rattle.command_edge.specs.declared.answers.Unread.TheVariants as unreads
use Rattle.command_edge.specs.Answering.{Answers, CountsFault, CountsFaults, FailsInOrder, IsOfAnyFile}
use Rattle.command_edge.specs.declared.fault.Fault.TheVariants.{Absent, NotImage, FileFault, NoMemory}
use Rattle.command_edge.specs.Ending.{fault_of}
use Rattle.command_edge.specs.Command.{Faults, FailedBehind, Made}
use Rattle.command_edge.proofs.Makings.{made_where, made_by, made_nothing}
use Rattle.source_commands.specs.Command.{EndsAssembly, EndsListing}

-- a source that wasn't read
pub unread_source : {A : Type 0} (view : A → List ℕ) (name : Bor (List ℕ)) (told : List NamedFile → Result (List ℕ) Unread) (holds : Option (List NamedFile))
    (f : Faults) (unread : Unread)
    → ((files : List NamedFile) → holds ≡ Some files → Answers view (told files) (Err unread)) → IsOfAnyFile unread
    → CountsFault {A = A} (Err unread) f.open_before f.open_after → f.page_after ≡ f.page_before
    → Made (EndsAssembly name.now) told holds f (Err (fault_of name unread))
unread_source view name told holds f unreads.Absent answers kind counts stays = made_by (EndsAssembly name.now) told holds f (Err (Absent name)) (Err unreads.Absent) answers (refl, refl)
unread_source view name told holds f (unreads.NotImage reason) answers kind counts stays = absurd kind
unread_source view name told holds f unreads.FileFault answers kind counts stays = made_nothing (EndsAssembly name.now) (Err unreads.NoMemory) told holds f (Err FileFault) (λ read. (counts, stays))
unread_source view name told holds f unreads.NoMemory answers kind counts stays = made_nothing (EndsAssembly name.now) (Err unreads.NoMemory) told holds f (Err NoMemory) (λ read. tt)

-- an image of nothing
empty_image : Image
empty_image = record { kind = Impure; text_len = 0; data_len = 0; bss_len = 0; entry = 0 }

-- an image that wasn't read
pub unread_image : {A : Type 0} (view : A → Image × List ℕ) (name : Bor (List ℕ)) (told : List NamedFile → Result (Image × List ℕ) Unread)
    (holds : Option (List NamedFile)) (f : Faults) (unread : Unread)
    → ((files : List NamedFile) → holds ≡ Some files → Answers view (told files) (Err unread))
    → CountsFaults {A = A} (Err unread) f.open_before f.open_after f.page_before f.page_after
    → ((files : List NamedFile) → holds ≡ Some files → FailsInOrder {A = A} (told files) (Err unread) f.open_before f.open_after f.page_before f.page_after)
    → Made (EndsListing name.now) told holds f (Err (fault_of name unread))
unread_image view name told holds f unreads.Absent answers counts order = made_by (EndsListing name.now) told holds f (Err (Absent name)) (Err unreads.Absent) answers (refl, refl)
unread_image view name told holds f (unreads.NotImage reason) answers counts order =
    made_by (EndsListing name.now) told holds f (Err (NotImage name reason)) (Err (unreads.NotImage reason)) answers (refl, refl)
unread_image view name told holds f unreads.FileFault answers counts order =
    made_where (λ (read : Result (Image × List ℕ) Unread). FailedBehind (IsTrue (is_ok read)) f) (EndsListing name.now) (Ok (empty_image, [])) told holds f (Err FileFault)
    (elim counts [ inl first ↦ inl first | inr behind ↦ inr (behind, refl) ]) order (λ read fails. fails)
unread_image view name told holds f unreads.NoMemory answers counts order = made_nothing (EndsListing name.now) (Err unreads.NoMemory) told holds f (Err NoMemory) (λ read. tt)
