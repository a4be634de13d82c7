-- Numbers whose bytes lie together.
use Rattle.std.proofs.Common.{◌≡◌, ◌∙◌, ℕ, zero, suc, ◌+◌, ◌*◌, ◌<◌, ◌≤◌, ◌^◌, List, length, Result, Ok, refl, ap, sym, arith}
use Rattle.std.specs.Prelude.{slice_index}
use Rattle.byteorder.specs.Endian.{little_from, little_number}
use Rattle.vm_facts.specs.Ahead.{AreAhead}
use Rattle.vm_facts.specs.Answers.{Answers}
use Rattle.vm_facts.specs.declared.memory.ByteRead.{ByteRead}
use Rattle.vm_facts.specs.declared.memory.ByteRead.TheVariants as bytes
use Rattle.user_vax.specs.declared.refused.Refused.{Refused}
use Rattle.user_vax.specs.Program.{Program, Gives, ◌>>=◌, run, after_read}
use Rattle.user_vax.specs.Operands.{past, number_at}
use Rattle.user_vax.proofs.Runs.{then, run_bind}
use Rattle.user_vax.proofs.Numbers.{past-past, past-none}

-- the number of so many bytes from one of them on
number_from : (memory : Answers) (size i address : ℕ) (held : List ℕ) → AreAhead memory address held → i + size ≤ length held
    → run memory (number_at size (past address i)) ≡ Ok (little_from i size held)
unfolding number_at
number_from memory zero i address held ahead within = refl
number_from memory (suc size) i address held ahead within =
    let here : memory.read (past address i) ≡ bytes.Is (slice_index held i) = ahead i (omega (arith, within)) in
    let more : run memory (number_at size (past (past address i) 1)) ≡ Ok (little_from (suc i) size held) =
    ap (λ (a : ℕ). run memory (number_at size a)) (past-past address i ∙ ap (past address) (let e : i + 1 ≡ suc i = omega arith in e))
    ∙ number_from memory size (suc i) address held ahead (omega (arith, within)) in
    let value : ℕ → Result ℕ Refused = λ (high : ℕ). Ok (slice_index held i + 256 * high) in
    let next : ℕ → Program ℕ = λ (low : ℕ). number_at size (past (past address i) 1) >>= λ high. Gives (low + 256 * high) in
    ap (λ (answer : ByteRead). after_read answer (past address i) (λ byte. run memory (next byte))) here
    ∙ run_bind memory (number_at size (past (past address i) 1)) (λ high. Gives (slice_index held i + 256 * high))
    ∙ ap (λ (r : Result ℕ Refused). then r value) more

pub number_ahead : (memory : Answers) (size address : ℕ) (held : List ℕ) → AreAhead memory address held → address < 2 ^ 32 → size ≤ length held
    → run memory (number_at size address) ≡ Ok (little_number size held)
number_ahead memory size address held ahead small within =
    ap (λ (a : ℕ). run memory (number_at size a)) (sym (past-none address small))
    ∙ number_from memory size 0 address held ahead (omega (arith, within))
