-- Statements on every computation over a memory: which access refused it, and what it kept to.
use Rattle.std.specs.Prelude.{◌≡◌, ℕ, Bool, true, false, List, [], ◌∷◌, ◌++◌, Option, Some, None, Ok, Err, ◌⊎◌}
use Rattle.vm_facts.specs.Answers.{Answers}
use Rattle.vm_facts.specs.declared.memory.ByteRead.{ByteRead}
use Rattle.vm_facts.specs.declared.memory.ByteRead.TheVariants as bytes
use Rattle.vm_facts.specs.declared.memory.MayWrite.{MayWrite}
use Rattle.vm_facts.specs.declared.memory.MayWrite.TheVariants as tests
use Rattle.user_vax.specs.declared.refused.Refused.{Refused}
use Rattle.user_vax.specs.declared.refused.Refused.TheVariants.{Miss, Below, Signal}
use Rattle.user_vax.specs.Signals.{sigill, sigfpe, sigbus, sigsegv}
use Rattle.user_vax.specs.Program.{Program, run, ByteAccess, ReadOf, TestOf, accesses}

-- how a read of an address is refused, by what the memory answers to it
abbrev pub read_refusal : ByteRead → ℕ → Option Refused
read_refusal (bytes.Is byte) address = None
read_refusal bytes.Miss address = Some (Miss address false)
read_refusal bytes.Below address = Some (Below address)
read_refusal bytes.Outside address = Some (Signal sigsegv)

-- how a test for a write to an address is refused, by what the memory answers to it
abbrev pub test_refusal : MayWrite → ℕ → Option Refused
test_refusal tests.May address = None
test_refusal tests.Miss address = Some (Miss address true)
test_refusal tests.Below address = Some (Below address)
test_refusal tests.Text address = Some (Signal sigbus)
test_refusal tests.Outside address = Some (Signal sigsegv)

-- how a memory refuses an access, if it does
abbrev pub refusal : Answers → ByteAccess → Option Refused
refusal memory (ReadOf address) = read_refusal (memory.read address) address
refusal memory (TestOf address) = test_refusal (memory.may_write address) address

-- the memory refuses none of these accesses
abbrev pub AllGranted : Answers → List ByteAccess → Type 0
AllGranted memory [] = Unit {0}
AllGranted memory (access ∷ more) = (refusal memory access ≡ None) × AllGranted memory more

-- all are granted but the last, which is refused so
abbrev pub EndsRefused : Answers → List ByteAccess → Refused → Type 0
EndsRefused memory list refused =
    (front : List ByteAccess) × (last : ByteAccess) × (list ≡ front ++ last ∷ []) × AllGranted memory front × (refusal memory last ≡ Some refused)

-- A signal comes of the last access, which was refused so: SIGBUS and SIGSEGV. Or each access was granted and the
-- instruction itself is at fault: SIGILL and SIGFPE.
abbrev pub SignalFrom : Answers → List ByteAccess → ℕ → Type 0
SignalFrom memory list number =
    (((number ≡ sigbus) ⊎ (number ≡ sigsegv)) × EndsRefused memory list (Signal number))
    ⊎ (((number ≡ sigill) ⊎ (number ≡ sigfpe)) × AllGranted memory list)

-- a computation that gives something was granted each access; a miss and a fall below the stack name the
-- one access that was refused, after which there is none
pub record KeepsOrder {A : Type 0} (memory : Answers) (p : Program A) : Type 0 where
  pub gives : (x : A) → run memory p ≡ Ok x → AllGranted memory (accesses memory p)
  pub misses : (address : ℕ) (write : Bool) → run memory p ≡ Err (Miss address write) → EndsRefused memory (accesses memory p) (Miss address write)
  pub falls : (address : ℕ) → run memory p ≡ Err (Below address) → EndsRefused memory (accesses memory p) (Below address)

-- some answers as other does, where it doesn't miss
pub record Covers (some other : Answers) : Type 0 where
  pub reads : (x : ℕ) → (some.read x ≡ bytes.Miss) ⊎ (some.read x ≡ other.read x)
  pub tests : (x : ℕ) → (some.may_write x ≡ tests.Miss) ⊎ (some.may_write x ≡ other.may_write x)

-- the computation comes to the same over both, by the same accesses; or it misses over the first, whose
-- accesses are then the first ones of those over the second
abbrev pub SameOrMisses : {A : Type 0} → Answers → Answers → Program A → Type 0
SameOrMisses some other p =
    ((run some p ≡ run other p) × (accesses some p ≡ accesses other p))
    ⊎ ((address : ℕ) × (write : Bool) × (run some p ≡ Err (Miss address write)) × (more : List ByteAccess) × (accesses other p ≡ accesses some p ++ more))
