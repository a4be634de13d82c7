-- What computations give, whatever the memory answers: what all that a computation may give has, its reply has.
use Rattle.std.proofs.Common.{◌≡◌, ℕ, Bool, true, false, Result, Ok, Err, refl, subst}
use Rattle.vm_facts.specs.Answers.{Answers}
use Rattle.vm_facts.specs.declared.memory.ByteRead.{ByteRead}
use Rattle.vm_facts.specs.declared.memory.ByteRead.TheVariants as bytes
use Rattle.vm_facts.specs.declared.memory.MayWrite.{MayWrite}
use Rattle.vm_facts.specs.declared.memory.MayWrite.TheVariants as tests
use Rattle.user_vax.specs.Program.{Program, Gives, Refuses, Reads, Tests, ◌>>=◌, run, after_read, after_test}
use Rattle.user_vax.specs.declared.refused.Refused.{Refused}
use Rattle.flat_model.specs.declared.calls.Reply.{Reply}
use Rattle.flat_model.specs.declared.calls.Reply.TheVariants.{Fails, Does, Writes, Waits, Exits}
use Rattle.flat_model.specs.Calls.{or_fault, bad_address, no_memory, wants_space, unless_refused, refused_reply}

-- all that a computation may give has this
abbrev pub AllGives : {A : Type 0} → (A → Type 0) → Program A → Type 0
AllGives P (Gives x) = P x
AllGives P (Refuses signal) = Unit {0}
AllGives P (Reads a next) = (byte : ℕ) → AllGives P (next byte)
AllGives P (Tests a next) = AllGives P next

pub gives_bind : {A B : Type 0} (P : A → Type 0) (Q : B → Type 0) (p : Program A) (f : A → Program B) → AllGives P p
    → ((x : A) → P x → AllGives Q (f x)) → AllGives Q (p >>= f)
gives_bind P Q (Gives x) f h k = k x h
gives_bind P Q (Refuses signal) f h k = tt
gives_bind P Q (Reads a next) f h k = λ byte. gives_bind P Q (next byte) f (h byte) k
gives_bind P Q (Tests a next) f h k = gives_bind P Q next f h k

pub gives_any : {A B : Type 0} (Q : B → Type 0) (p : Program A) (f : A → Program B) → ((x : A) → AllGives Q (f x)) → AllGives Q (p >>= f)
gives_any Q (Gives x) f k = k x
gives_any Q (Refuses signal) f k = tt
gives_any Q (Reads a next) f k = λ byte. gives_any Q (next byte) f k
gives_any Q (Tests a next) f k = gives_any Q next f k

-- what a computation gives, it comes to
pub run_gives : {A : Type 0} (P : A → Type 0) (memory : Answers) (p : Program A) (value : A) → AllGives P p → run memory p ≡ Ok value → P value
run_gives P memory (Gives y) value h e = subst P (let same : y ≡ value = cc in same) h
run_gives P memory (Refuses signal) value h e = absurd cc
run_gives {A} P memory (Reads a next) value h e = go (λ byte k. run_gives P memory (next byte) value (h byte) k) (memory.read a) e
  where
    go : ((byte : ℕ) → run memory (next byte) ≡ Ok value → P value) → (answer : ByteRead) → after_read {A = A} answer a (λ byte. run memory (next byte)) ≡ Ok value → P value
    go later (bytes.Is byte) k = later byte k
    go later bytes.Miss k = absurd cc
    go later bytes.Below k = absurd cc
    go later bytes.Outside k = absurd cc
run_gives {A} P memory (Tests a next) value h e = go (λ k. run_gives P memory next value h k) (memory.may_write a) e
  where
    go : (run memory next ≡ Ok value → P value) → (answer : MayWrite) → after_test {A = A} answer a (run memory next) ≡ Ok value → P value
    go later tests.May k = later k
    go later tests.Miss k = absurd cc
    go later tests.Below k = absurd cc
    go later tests.Text k = absurd cc
    go later tests.Outside k = absurd cc

-- so it is of a call's reply, where EFAULT has it
pub reply_gives : (P : Reply → Type 0) (memory : Answers) (p : Program Reply) → P (Fails bad_address) → AllGives P p → P (or_fault (run memory p))
reply_gives P memory p faulted h = go (run memory p) refl
  where
    go : (r : Result Reply Refused) → run memory p ≡ r → P (or_fault r)
    go (Ok reply) e = run_gives P memory p reply h e
    go (Err refused) e = faulted

-- and of the reply that is left where space may be refused, where ENOMEM has it
pub refused_gives : (P : Reply → Type 0) (refused : Bool) (reply : Reply) → P (Fails no_memory) → P reply → P (refused_reply refused reply)
refused_gives P false reply none h = h
refused_gives P true (Does regs change) none h = go (wants_space change)
  where
    go : (b : Bool) → P (unless_refused b (Does regs change))
    go true = none
    go false = h
refused_gives P true (Fails error) none h = h
refused_gives P true (Writes bytes) none h = h
refused_gives P true Waits none h = h
refused_gives P true (Exits status) none h = h
