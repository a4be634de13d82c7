-- Calls only read: where a byte misses, nothing asked whether it may be written.
use Rattle.std.proofs.Common.{◌≡◌, ℕ, zero, suc, ◌==◌, ◌||◌, min, Bool, true, false, List, Option, Some, None, Err}
use Rattle.vm_facts.specs.Answers.{Answers}
use Rattle.vm_facts.specs.declared.memory.ByteRead.{ByteRead}
use Rattle.vm_facts.specs.declared.memory.ByteRead.TheVariants as bytes
use Rattle.vm_facts.specs.declared.regs.Regs.{Regs}
use Rattle.user_vax.specs.Program.{Program, Gives, Refuses, Reads, Tests, ◌>>=◌, after_read, run}
use Rattle.user_vax.specs.Operands.{number_at, past}
use Rattle.user_vax.specs.declared.refused.Refused.TheVariants.{Miss}
use Rattle.flat_state.specs.Space.{Space}
use Rattle.flat_state.specs.Flat.{Process, FlatState, NamedImage}
use Rattle.flat_model.specs.declared.calls.SystemCall.{SystemCall}
use Rattle.flat_model.specs.declared.calls.SystemCall.TheVariants as system_calls
use Rattle.flat_model.specs.Calls.{argument, three_arguments, bytes_from, string_after, string_from, string_limit, string_before, last_pointer, pointer_after, arguments_from, argument_limit, arguments_at, exit_reply, written_to, write_limit, write_reply, break_reply, path_image, execve_of, execve_reply, reply_of}

-- it reads, and asks of no byte whether it may be written
abbrev pub OnlyReads : {A : Type 0} → Program A → Type 0
OnlyReads (Gives x) = Unit {0}
OnlyReads (Refuses signal) = Unit {0}
OnlyReads (Reads address next) = (byte : ℕ) → OnlyReads (next byte)
OnlyReads (Tests address next) = ⊥

pub missed_read : {A : Type 0} (memory : Answers) (p : Program A) (address : ℕ) (write : Bool) → OnlyReads p → run memory p ≡ Err (Miss address write)
    → write ≡ false
missed_read memory (Gives x) address write h e = absurd cc
missed_read memory (Refuses signal) address write h e = absurd cc
missed_read {A} memory (Reads at next) address write h e = go (λ byte k. missed_read memory (next byte) address write (h byte) k) (memory.read at) e
  where
    go : ((byte : ℕ) → run memory (next byte) ≡ Err (Miss address write) → write ≡ false) → (b : ByteRead) → after_read b at (λ byte. run memory (next byte)) ≡ Err (Miss address write) → write ≡ false
    go later (bytes.Is byte) k = later byte k
    go later bytes.Miss k = cc
    go later bytes.Below k = absurd cc
    go later bytes.Outside k = absurd cc
missed_read memory (Tests at next) address write h e = absurd h

both_read : {A B : Type 0} (p : Program A) (f : A → Program B) → OnlyReads p → ((x : A) → OnlyReads (f x)) → OnlyReads (p >>= f)
both_read (Gives x) f h k = k x
both_read (Refuses signal) f h k = tt
both_read (Reads address next) f h k = λ byte. both_read (next byte) f (h byte) k
both_read (Tests address next) f h k = absurd h

number_reads : (size address : ℕ) → OnlyReads (number_at size address)
unfolding number_at
number_reads zero address = tt
number_reads (suc size) address = λ byte. both_read (number_at size (past address 1)) _ (number_reads size (past address 1)) (λ high. tt)

argument_reads : (regs : Regs) (k : ℕ) → OnlyReads (argument regs k)
unfolding argument
argument_reads regs k = number_reads 4 _

arguments_read : (regs : Regs) → OnlyReads (three_arguments regs)
unfolding three_arguments
arguments_read regs =
    both_read (argument regs 1) _ (argument_reads regs 1)
    (λ a. both_read (argument regs 2) _ (argument_reads regs 2) (λ b. both_read (argument regs 3) _ (argument_reads regs 3) (λ c. tt)))

bytes_read : (count address : ℕ) → OnlyReads (bytes_from count address)
unfolding bytes_from
bytes_read zero address = tt
bytes_read (suc count) address = λ byte. both_read (bytes_from count (past address 1)) _ (bytes_read count (past address 1)) (λ more. tt)

behind_byte : (more : Program (Option (List ℕ))) → OnlyReads more → (byte : ℕ) → OnlyReads (string_after byte more)
behind_byte more h zero = tt
behind_byte more h (suc n) = both_read more _ h (λ string. tt)

string_reads : (left address : ℕ) → OnlyReads (string_from left address)
unfolding string_from
string_reads zero address = tt
string_reads (suc left) address = λ byte. behind_byte (string_from left (past address 1)) (string_reads left (past address 1)) byte

last_reads : (n : ℕ) → OnlyReads (last_pointer n)
last_reads zero = tt
last_reads (suc n) = tt

before_reads : (more : Program (Option (List (List ℕ)))) (o : Option (List ℕ)) → OnlyReads more → OnlyReads (string_before more o)
before_reads more None h = tt
before_reads more (Some string) h = both_read more _ h (λ strings. tt)

pointer_reads : (pointer : ℕ) (more : Program (Option (List (List ℕ)))) → OnlyReads more → OnlyReads (pointer_after pointer more)
pointer_reads zero more h = tt
pointer_reads (suc n) more h = both_read (string_from string_limit (suc n)) (string_before more) (string_reads string_limit (suc n)) (λ o. before_reads more o h)

list_reads : (left address : ℕ) → OnlyReads (arguments_from left address)
unfolding arguments_from
list_reads zero address = both_read (number_at 4 address) last_pointer (number_reads 4 address) last_reads
list_reads (suc left) address =
    both_read (number_at 4 address) _ (number_reads 4 address) (λ pointer. pointer_reads pointer (arguments_from left (past address 4)) (list_reads left (past address 4)))

all_read : (argv : ℕ) → OnlyReads (arguments_at argv)
all_read zero = tt
all_read (suc n) = list_reads argument_limit (suc n)

image_reads : (argv : ℕ) (o : Option (ℕ × NamedImage)) → OnlyReads (execve_of argv o)
image_reads argv None = tt
image_reads argv (Some found) = both_read (arguments_at argv) _ (all_read argv) (λ arguments. tt)

written_reads : (b : Bool) (buffer count : ℕ) → OnlyReads (written_to b buffer count)
unfolding written_to
written_reads true buffer count = both_read (bytes_from (min count write_limit) buffer) _ (bytes_read (min count write_limit) buffer) (λ bytes. tt)
written_reads false buffer count = tt

pub call_reads : (images : List NamedImage) (F : FlatState) (p : Process) (s : Space) (call : SystemCall) (regs : Regs)
    → OnlyReads (reply_of images F p s call regs)
unfolding reply_of exit_reply write_reply break_reply execve_reply
call_reads images F p s system_calls.Exit regs = both_read (argument regs 1) _ (argument_reads regs 1) (λ code. tt)
call_reads images F p s system_calls.Fork regs = tt
call_reads images F p s system_calls.Write regs = both_read (three_arguments regs) _ (arguments_read regs) (λ asked. written_reads (asked.0 == 1 || asked.0 == 2) asked.1 asked.2)
call_reads images F p s system_calls.Break regs = both_read (argument regs 1) _ (argument_reads regs 1) (λ address. tt)
call_reads images F p s system_calls.Getpid regs = tt
call_reads images F p s system_calls.Execve regs =
    both_read (three_arguments regs) _ (arguments_read regs)
    (λ asked. both_read (string_from string_limit asked.0) _ (string_reads string_limit asked.0) (λ path. image_reads asked.1 (path_image images path)))
call_reads images F p s system_calls.Vfork regs = tt
call_reads images F p s system_calls.Wait regs = tt
