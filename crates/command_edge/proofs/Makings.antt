-- What a command makes of what it reads.
use Rattle.std.proofs.Common.{◌≡◌, inl, inr, ℕ, List, Option, Some, None, Ok, Err, refl, sym, ap, subst}
use Rattle.io_edge.specs.FileHolding.{NamedFile}
use Rattle.command_edge.specs.declared.fault.Fault.TheVariants.{FileFault, NoMemory}
use Rattle.command_edge.specs.Ending.{Ending, CanBeLost}
use Rattle.command_edge.specs.Command.{Faults, NoFaults, EndCounted, Made, Completes, WritesSome}

-- something that may have been read, and is what is told where the files are told
record Reading {R : Type 0} (P : R → Type 0) (told : List NamedFile → R) (holds : Option (List NamedFile)) : Type 0 where
  pub read : R
  pub fits : P read
  pub is_told : (files : List NamedFile) → holds ≡ Some files → read ≡ told files

abbrev pub Tells : {R : Type 0} → (R → Type 0) → (List NamedFile → R) → Option (List NamedFile) → Type 0
Tells P told holds = (files : List NamedFile) → holds ≡ Some files → P (told files)

some_is : (a b : List NamedFile) → Some a ≡ Some b → a ≡ b
some_is a b same = cc

reading : {R : Type 0} (P : R → Type 0) (any : R) (told : List NamedFile → R) (holds : Option (List NamedFile)) → P any → Tells P told holds
    → Reading P told holds
reading P any told None fits tells = record { read = any; fits = fits; is_told = λ files none. absurd cc }
reading P any told (Some list) fits tells = record { read = told list; fits = tells list refl; is_told = λ files same. ap told (some_is list files same) }

-- an end that each reading of some kind leads to, of which what is told is one
pub made_where : {R E : Type 0} (P : R → Type 0) (Ends : R → Faults → E → Type 0) (any : R) (told : List NamedFile → R) (holds : Option (List NamedFile))
    (f : Faults) (ending : E)
    → P any → Tells P told holds → ((read : R) → P read → Ends read f ending) → Made Ends told holds f ending
made_where P Ends any told holds f ending fits tells ends =
    let r = reading P any told holds fits tells in
    record { read = r.read; is_told = r.is_told; ends = ends r.read r.fits }

-- an end that each reading leads to
pub made_nothing : {R E : Type 0} (Ends : R → Faults → E → Type 0) (any : R) (told : List NamedFile → R) (holds : Option (List NamedFile))
    (f : Faults) (ending : E)
    → ((read : R) → Ends read f ending) → Made Ends told holds f ending
made_nothing {R} Ends any told holds f ending ends = made_where (λ (read : R). Unit {0}) Ends any told holds f ending tt (λ files same. tt) (λ read fits. ends read)

-- an end that this reading leads to
pub made_by : {R E : Type 0} (Ends : R → Faults → E → Type 0) (told : List NamedFile → R) (holds : Option (List NamedFile)) (f : Faults) (ending : E) (read : R)
    → ((files : List NamedFile) → holds ≡ Some files → told files ≡ read) → Ends read f ending → Made Ends told holds f ending
made_by {R} Ends told holds f ending read tells ends =
    made_where (λ (r : R). r ≡ read) Ends read told holds f ending refl tells (λ r is. subst (λ (x : R). Ends x f ending) (sym is) ends)

-- an ending whose text can be lost counted no fault of a file
lost_counted : (ending : Ending) (f : Faults) → CanBeLost ending → EndCounted ending f → NoFaults f
lost_counted (Ok output) f lost counted = absurd lost
lost_counted (Err FileFault) f lost counted = absurd lost
lost_counted (Err _) f lost counted = counted

-- the ending was written, or forgotten for want of memory
pub completed : {R : Type 0} (Ends : R → Faults → Ending → Type 0) (told : List NamedFile → R) (holds : Option (List NamedFile)) (f : Faults)
    (before after : Option (List ℕ)) (old new status : ℕ) (ending : Ending) → ((read : R) → Ends read f (Err NoMemory)) → Made Ends told holds f ending
    → EndCounted ending f → WritesSome before after old new ending status → Completes Ends told holds f before after old new status
completed Ends told holds f before after old new status ending forget made counted (inl writes) =
    record { ending = ending; made = made; counted = counted; writes = writes }
completed Ends told holds f before after old new status ending forget made counted (inr lost) = record {
  ending = Err NoMemory;
  made = record { read = made.read; is_told = made.is_told; ends = forget made.read };
  counted = lost_counted ending f lost.0 counted;
  writes = lost.1;
}
