-- What the system calls read.
use Rattle.std.proofs.Common.{ℕ, zero, suc, ◌+◌, ◌*◌, ◌≤◌, ◌==◌, ◌||◌, Bool, true, false, min, List, Option, Some, None, arith}
use Rattle.vm_facts.specs.Answers.{Answers}
use Rattle.flat_state.specs.Space.{Space}
use Rattle.flat_state.specs.Flat.{Process, FlatState, NamedImage}
use Rattle.vm_facts.specs.declared.regs.Regs.{Regs}
use Rattle.user_vax.specs.Operands.{register, past, number_at}
use Rattle.flat_model.specs.declared.calls.SystemCall.{SystemCall}
use Rattle.flat_model.specs.declared.calls.SystemCall.TheVariants as calls
use Rattle.flat_model.specs.Calls.{write_limit, string_limit, argument_limit, argument, three_arguments, bytes_from, string_after, string_from, string_before, last_pointer, pointer_after, arguments_from, arguments_at, exit_reply, written_to, write_reply, break_reply, path_image, execve_of, execve_reply, reply_of}
use Rattle.flat_laws.proofs.Near.{IsAt, at_self, at_past, at_more}
use Rattle.flat_laws.proofs.Cover.{Within, within_bind, Covered, within_one, covered_rebased, covered_more, covered_gives, covered_bind, covered_behind}
use Rattle.flat_laws.proofs.Fetched.{within_number}

-- the arguments stand after the longword that AP points to
within_argument : (regs : Regs) (k : ℕ) → 4 * k ≤ 1000 → Within (register regs 12) (λ _. Unit {0}) (argument regs k)
unfolding argument
within_argument regs k l =
    within_number 4 (register regs 12) (0 + 4 * k) (past (register regs 12) (4 * k)) (at_past (register regs 12) 0 (4 * k) (register regs 12) (at_self (register regs 12))) (omega arith)

within_three : (regs : Regs) → Within (register regs 12) (λ _. Unit {0}) (three_arguments regs)
unfolding three_arguments
within_three regs =
    within_bind (register regs 12) (λ _. Unit {0}) (λ _. Unit {0}) (argument regs 1) _ (within_argument regs 1 (omega arith)) (λ a _.
    within_bind (register regs 12) (λ _. Unit {0}) (λ _. Unit {0}) (argument regs 2) _ (within_argument regs 2 (omega arith)) (λ b _.
    within_bind (register regs 12) (λ _. Unit {0}) (λ _. Unit {0}) (argument regs 3) _ (within_argument regs 3 (omega arith)) (λ c _. tt)))

within_bytes : (count start most address : ℕ) → IsAt start most address → most + count ≤ 1024 → Within start (λ _. Unit {0}) (bytes_from count address)
unfolding bytes_from
within_bytes zero start most address h l = tt
within_bytes (suc count) start most address h l = (
  at_more start most 1023 address (omega arith) h,
  λ byte. within_bind start (λ _. Unit {0}) (λ _. Unit {0}) (bytes_from count (past address 1)) _
      (within_bytes count start (most + 1) (past address 1) (at_past start most 1 address h) (omega arith)) (λ more _. tt),
)

within_string : (left start most address : ℕ) → IsAt start most address → most + left ≤ 1024 → Within start (λ _. Unit {0}) (string_from left address)
unfolding string_from
within_string zero start most address h l = tt
within_string (suc left) start most address h l = (
  at_more start most 1023 address (omega arith) h,
  λ byte. go byte (within_string left start (most + 1) (past address 1) (at_past start most 1 address h) (omega arith)),
)
  where
    go : (byte : ℕ) → Within start (λ _. Unit {0}) (string_from left (past address 1)) → Within start (λ _. Unit {0}) (string_after byte (string_from left (past address 1)))
    go zero k = tt
    go (suc n) k = within_bind start (λ _. Unit {0}) (λ _. Unit {0}) (string_from left (past address 1)) _ k (λ string _. tt)

string_covered : (memory : Answers) (base address : ℕ) → Covered memory base 1 (string_from string_limit address)
string_covered memory base address = within_one memory base address (λ _. Unit {0}) (string_from string_limit address) (within_string string_limit address 0 address (at_self address) (omega arith))

-- the pointers are near the first one, and each has its string
pointers_covered : (memory : Answers) (left start most address : ℕ) → IsAt start most address → most + 4 * left + 4 ≤ 1024
    → Covered memory start left (arguments_from left address)
unfolding arguments_from
pointers_covered memory zero start most address h l =
    covered_behind memory start 0 (λ _. Unit {0}) (number_at 4 address) last_pointer (within_number 4 start most address h (omega arith)) (λ pointer _. go pointer)
  where
    go : (pointer : ℕ) → Covered memory start 0 (last_pointer pointer)
    go zero = covered_gives memory start 0 _
    go (suc n) = covered_gives memory start 0 _
pointers_covered memory (suc left) start most address h l =
    covered_behind memory start (suc left) (λ _. Unit {0}) (number_at 4 address) _ (within_number 4 start most address h (omega arith))
    (λ pointer _. go (pointers_covered memory left start (most + 4) (past address 4) (at_past start most 4 address h) (omega arith)) pointer)
  where
    before : Covered memory start left (arguments_from left (past address 4)) → (string : Option (List ℕ)) → Covered memory start left (string_before (arguments_from left (past address 4)) string)
    before later None = covered_gives memory start left _
    before later (Some string) =
        covered_more memory start (left + 0) left _ (omega arith) (covered_bind memory start left 0 (arguments_from left (past address 4)) _ later (λ strings e. covered_gives memory start 0 _))

    go : Covered memory start left (arguments_from left (past address 4)) → (pointer : ℕ) → Covered memory start (suc left) (pointer_after pointer (arguments_from left (past address 4)))
    go later zero = covered_gives memory start (suc left) _
    go later (suc n) =
        covered_more memory start (1 + left) (suc left) _ (omega arith)
        (covered_bind memory start 1 left (string_from string_limit (suc n)) (string_before (arguments_from left (past address 4))) (string_covered memory start (suc n))
        (λ string e. before later string))

arguments_covered : (memory : Answers) (base address : ℕ) → Covered memory base 9 (arguments_at address)
arguments_covered memory base zero = covered_gives memory base 9 _
arguments_covered memory base (suc n) =
    covered_rebased memory base (suc n) 8 (arguments_from argument_limit (suc n)) (pointers_covered memory argument_limit (suc n) 0 (suc n) (at_self (suc n)) (omega arith))

execve_covered : (memory : Answers) (base : ℕ) (images : List NamedImage) (regs : Regs) → Covered memory base 11 (execve_reply images regs)
unfolding execve_reply
execve_covered memory base images regs =
    covered_bind memory base 1 10 (three_arguments regs) _ (within_one memory base (register regs 12) (λ _. Unit {0}) (three_arguments regs) (within_three regs)) (λ asked e.
    covered_bind memory base 1 9 (string_from string_limit asked.0) _ (string_covered memory base asked.0) (λ path f. go asked.1 (path_image images path)))
  where
    go : (argv : ℕ) (found : Option (ℕ × NamedImage)) → Covered memory base 9 (execve_of argv found)
    go argv None = covered_gives memory base 9 _
    go argv (Some found) = covered_bind memory base 9 0 (arguments_at argv) _ (arguments_covered memory base argv) (λ arguments e. covered_gives memory base 0 _)

write_covered : (memory : Answers) (base : ℕ) (regs : Regs) → Covered memory base 2 (write_reply regs)
unfolding write_reply written_to
write_covered memory base regs =
    covered_bind memory base 1 1 (three_arguments regs) _ (within_one memory base (register regs 12) (λ _. Unit {0}) (three_arguments regs) (within_three regs))
    (λ asked e. go (asked.0 == 1 || asked.0 == 2) asked.1 asked.2)
  where
    go : (b : Bool) (buffer count : ℕ) → Covered memory base 1 (written_to b buffer count)
    go true buffer count =
        covered_bind memory base 1 0 (bytes_from (min count write_limit) buffer) _
        (within_one memory base buffer (λ _. Unit {0}) (bytes_from (min count write_limit) buffer) (within_bytes (min count write_limit) buffer 0 buffer (at_self buffer) (omega arith)))
        (λ bytes e. covered_gives memory base 0 _)
    go false buffer count = covered_gives memory base 1 _

argument_covered : (memory : Answers) (base : ℕ) (regs : Regs) → Covered memory base 1 (argument regs 1)
argument_covered memory base regs = within_one memory base (register regs 12) (λ _. Unit {0}) (argument regs 1) (within_argument regs 1 (omega arith))

exit_covered : (memory : Answers) (base : ℕ) (regs : Regs) → Covered memory base 1 (exit_reply regs)
unfolding exit_reply
exit_covered memory base regs = covered_bind memory base 1 0 (argument regs 1) _ (argument_covered memory base regs) (λ code e. covered_gives memory base 0 _)

break_covered : (memory : Answers) (base : ℕ) (s : Space) (regs : Regs) → Covered memory base 1 (break_reply s regs)
unfolding break_reply
break_covered memory base s regs = covered_bind memory base 1 0 (argument regs 1) _ (argument_covered memory base regs) (λ address e. covered_gives memory base 0 _)

-- a call reads near eleven starts at most: an execve's arguments, path, pointers, and eight strings
pub reply_covered : (memory : Answers) (base : ℕ) (images : List NamedImage) (F : FlatState) (p : Process) (s : Space) (call : SystemCall) (regs : Regs)
    → Covered memory base 11 (reply_of images F p s call regs)
unfolding reply_of
reply_covered memory base images F p s calls.Exit regs = covered_more memory base 1 11 _ (omega arith) (exit_covered memory base regs)
reply_covered memory base images F p s calls.Write regs = covered_more memory base 2 11 _ (omega arith) (write_covered memory base regs)
reply_covered memory base images F p s calls.Break regs = covered_more memory base 1 11 _ (omega arith) (break_covered memory base s regs)
reply_covered memory base images F p s calls.Execve regs = execve_covered memory base images regs
reply_covered memory base images F p s _ regs = covered_gives memory base 11 _
