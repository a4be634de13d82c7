-- A computation that reads bytes and asks whether bytes may be written, one access after another, over
-- whatever a memory answers.
use Rattle.std.specs.Prelude.{ℕ, true, false, List, [], ◌∷◌, Result, Ok, Err}
use Rattle.vm_facts.specs.Answers.{Answers}
use Rattle.vm_facts.specs.declared.memory.ByteRead.{ByteRead}
use Rattle.vm_facts.specs.declared.memory.ByteRead.TheVariants as bytes
use Rattle.vm_facts.specs.declared.memory.MayWrite.{MayWrite}
use Rattle.vm_facts.specs.declared.memory.MayWrite.TheVariants as tests
use Rattle.user_vax.specs.declared.refused.Refused.{Refused}
use Rattle.user_vax.specs.declared.refused.Refused.TheVariants.{Miss, Below, Signal}
use Rattle.user_vax.specs.Signals.{sigbus, sigsegv}

-- It gives a value, refuses by a signal, reads a byte and goes on from it, or tests a byte and goes on.
pub data Program (A : Type 0) : Type 0 where
  Gives : A → Program A
  Refuses : ℕ → Program A
  Reads : (address : ℕ) → (ℕ → Program A) → Program A
  Tests : (address : ℕ) → Program A → Program A

-- one computation, and then another one from the value that it gives
infixl 10 ◌>>=◌
-- a refusal of the first one is that of both
abbrev pub ◌>>=◌ : {A B : Type 0} → Program A → (A → Program B) → Program B
(Gives x) >>= f = f x
(Refuses signal) >>= f = Refuses signal
(Reads address next) >>= f = Reads address (λ byte. next byte >>= f)
(Tests address next) >>= f = Tests address (next >>= f)

-- what a read leads to: what follows with its byte, or a refusal: a miss, below the stack, or SIGSEGV outside
abbrev pub after_read : {A : Type 0} → ByteRead → ℕ → (ℕ → Result A Refused) → Result A Refused
after_read (bytes.Is byte) address next = next byte
after_read bytes.Miss address next = Err (Miss address false)
after_read bytes.Below address next = Err (Below address)
after_read bytes.Outside address next = Err (Signal sigsegv)

-- what a test leads to: what follows, or a refusal: a miss, below the stack, SIGBUS in the text, or SIGSEGV outside
abbrev pub after_test : {A : Type 0} → MayWrite → ℕ → Result A Refused → Result A Refused
after_test tests.May address next = next
after_test tests.Miss address next = Err (Miss address true)
after_test tests.Below address next = Err (Below address)
after_test tests.Text address next = Err (Signal sigbus)
after_test tests.Outside address next = Err (Signal sigsegv)

-- what the computation comes to over the answers of a memory
abbrev pub run : {A : Type 0} → Answers → Program A → Result A Refused
run memory (Gives x) = Ok x
run memory (Refuses signal) = Err (Signal signal)
run memory (Reads address next) = after_read (memory.read address) address (λ byte. run memory (next byte))
run memory (Tests address next) = after_test (memory.may_write address) address (run memory next)

-- an access to a byte, by its address: a read, or a test whether it may be written
pub data ByteAccess : Type 0 where
  ReadOf : ℕ → ByteAccess
  TestOf : ℕ → ByteAccess

-- the accesses after a read, which depend on its byte; none where it is refused
abbrev pub rest_of_read : ByteRead → (ℕ → List ByteAccess) → List ByteAccess
rest_of_read (bytes.Is byte) next = next byte
rest_of_read _ next = []

-- the accesses after a test; none where it is refused
abbrev pub rest_of_test : MayWrite → List ByteAccess → List ByteAccess
rest_of_test tests.May next = next
rest_of_test _ next = []

-- the accesses in order, ending at the first that is refused
abbrev pub accesses : {A : Type 0} → Answers → Program A → List ByteAccess
accesses memory (Gives x) = []
accesses memory (Refuses signal) = []
accesses memory (Reads address next) = ReadOf address ∷ rest_of_read (memory.read address) (λ byte. accesses memory (next byte))
accesses memory (Tests address next) = TestOf address ∷ rest_of_test (memory.may_write address) (accesses memory next)
