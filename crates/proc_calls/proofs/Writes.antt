-- The replies of write, and a machine after the bytes that go out.
use Rattle.std.proofs.Common.{◌≡◌, ℕ, zero, suc, ◌≤◌, ◌==◌, ◌||◌, min, Bool, true, false, List, [], ◌∷◌, length, Result, Ok, Err, sym, ap, ◌∙◌, subst, arith}
use Rattle.vm_facts.specs.Answers.{Answers}
use Rattle.vm_facts.specs.declared.regs.Regs.{Regs}
use Rattle.user_vax.specs.Program.{Gives, Reads, run, ◌>>=◌}
use Rattle.user_vax.specs.declared.refused.Refused.{Refused}
use Rattle.user_vax.specs.Operands.{past}
use Rattle.user_vax.proofs.Runs.{ok_of_bind}
use Rattle.flat_model.specs.declared.calls.Reply.{Reply}
use Rattle.flat_model.specs.declared.calls.Reply.TheVariants.{Fails, Writes}
use Rattle.flat_model.specs.Calls.{three_arguments, bytes_from, written_to, write_reply, write_limit}
use Rattle.proc_calls.specs.Writing.{IsWrite, IsWriteReply}

bytes_count : (memory : Answers) (count address : ℕ) (bytes : List ℕ) → run memory (bytes_from count address) ≡ Ok bytes → length bytes ≡ count
unfolding bytes_from
bytes_count memory zero address bytes e = let is : [] ≡ bytes = cc in sym (ap length is)
bytes_count memory (suc count) address bytes e =
    let first = ok_of_bind memory (Reads address (λ b. Gives b)) (λ byte. bytes_from count (past address 1) >>= λ more. Gives (byte ∷ more)) bytes e in
    let rest = ok_of_bind memory (bytes_from count (past address 1)) (λ more. Gives (first.0 ∷ more)) bytes first.2 in
    let all : Ok (first.0 ∷ rest.0) ≡ Ok bytes = rest.2 in
    let is : first.0 ∷ rest.0 ≡ bytes = cc in
    sym (ap length is) ∙ ap suc (bytes_count memory count (past address 1) rest.0 rest.1)

written_so : (memory : Answers) (output : Bool) (buffer count : ℕ) (reply : Reply) → run memory (written_to output buffer count) ≡ Ok reply → IsWrite reply
unfolding written_to
written_so memory false buffer count reply e = let all : Ok (Fails 9) ≡ Ok reply = e in let is : Fails 9 ≡ reply = cc in subst IsWrite is tt
written_so memory true buffer count reply e =
    let wrote = ok_of_bind memory (bytes_from (min count write_limit) buffer) (λ bytes. Gives (Writes bytes)) reply e in
    let all : Ok (Writes wrote.0) ≡ Ok reply = wrote.2 in
    let is : Writes wrote.0 ≡ reply = cc in
    let long = bytes_count memory (min count write_limit) buffer wrote.0 wrote.1 in
    subst IsWrite is (let few : length wrote.0 ≤ 1024 = omega arith in few)

pub may_write : (memory : Answers) (regs : Regs) (asked : Result Reply Refused) → asked ≡ run memory (write_reply regs) → IsWriteReply asked
unfolding write_reply
may_write memory regs (Err refused) e = tt
may_write memory regs (Ok reply) e =
    let asked = ok_of_bind memory (three_arguments regs) (λ asked. written_to (asked.0 == 1 || asked.0 == 2) asked.1 asked.2) reply (sym e) in
    written_so memory (asked.0.0 == 1 || asked.0.0 == 2) asked.0.1 asked.0.2 reply asked.2
