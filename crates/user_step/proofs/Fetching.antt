-- Fetching an instruction by the bytes that are there.
use Rattle.std.proofs.Common.{◌≡◌, ◌∙◌, ℕ, zero, suc, ◌+◌, ◌-◌, ◌<◌, ◌^◌, List, [], ◌∷◌, ◌++◌, length, Result, Ok, Err, refl, ap, sym, arith, append-nil, append_assoc, length-append}
use Rattle.vm_facts.specs.Answers.{Answers}
use Rattle.vm_facts.specs.declared.memory.ByteRead.{ByteRead}
use Rattle.vm_facts.specs.declared.memory.ByteRead.TheVariants as bytes
use Rattle.vax_code.specs.declared.instr.Decoded.{Decoded}
use Rattle.vax_code.specs.declared.instr.Decoded.TheVariants as decodings
use Rattle.vax_code.specs.declared.instr.Instr.{Instr}
use Rattle.vax_code.specs.Reading.{decoded}
use Rattle.vax_code.proofs.Law.{decoded_extends, decoded_stuck}
use Rattle.user_vax.specs.declared.refused.Refused.{Refused}
use Rattle.user_vax.specs.declared.refused.Refused.TheVariants.{Signal}
use Rattle.user_vax.specs.Signals.{sigill}
use Rattle.user_vax.specs.Program.{Program, Gives, Reads, run, after_read}
use Rattle.user_vax.specs.Operands.{past}
use Rattle.user_vax.specs.Instruction.{fetch, on_decoded}
use Rattle.user_step.specs.Fetching.{settled}
use Rattle.user_step.specs.Code.{held_from, reads_from, with_byte}
use Rattle.user_vax.proofs.Runs.{then}
use Rattle.user_vax.proofs.Numbers.{past-past, past-none}

-- ---- reading bytes

abbrev one : ℕ → Result ℕ Refused
one byte = Ok byte

reads_by : (answer : ByteRead) (address : ℕ) (next : Result (Unit {0}) Refused)
    → after_read answer address (λ byte. next) ≡ then (after_read answer address one) (λ _. next)
reads_by (bytes.Is byte) address next = refl
reads_by bytes.Miss address next = refl
reads_by bytes.Below address next = refl
reads_by bytes.Outside address next = refl

-- what is left to read after so many bytes of 20
abbrev left_from : Answers → ℕ → ℕ → Result (Unit {0}) Refused
left_from memory pc count = run memory (reads_from (past pc count) (20 - count))

-- reading so many bytes is reading one, and then the others
pub reads_more : (memory : Answers) (pc count : ℕ) → count < 20
    → left_from memory pc count ≡ then (run memory (Reads (past pc count) (λ b. Gives b))) (λ _. left_from memory pc (count + 1))
unfolding reads_from
reads_more memory pc count below =
    let left : 20 - count ≡ suc (19 - count) = omega arith in
    let next : 20 - (count + 1) ≡ 19 - count = omega arith in
    let rest : Result (Unit {0}) Refused = run memory (reads_from (past (past pc count) 1) (19 - count)) in
    rw (left, next, ← past-past pc count) (reads_by (memory.read (past pc count)) (past pc count) rest)

pub reads_all : (memory : Answers) (pc : ℕ) → pc < 2 ^ 32 → run memory (reads_from (past pc 0) 20) ≡ run memory (reads_from pc 20)
reads_all memory pc small = ap (λ (address : ℕ). run memory (reads_from address 20)) (past-none pc small)

-- ---- what bytes settle

settles : (memory : Answers) (found : Decoded) (more : Program Instr) (next : Result Instr Refused) → run memory more ≡ next
    → run memory (on_decoded found more) ≡ settled found next
settles memory (decodings.Is instr) more next h = refl
settles memory decodings.Reserved more next h = refl
settles memory decodings.NeedMore more next h = h

-- what the first bytes settle, more of them settle alike
settled_on : (bytes more : List ℕ) (found : Decoded) (next : Result Instr Refused) → decoded bytes ≡ found
    → settled found (settled (decoded (bytes ++ more)) next) ≡ settled (decoded (bytes ++ more)) next
settled_on bytes more (decodings.Is instr) next e = ap (λ (d : Decoded). settled d next) (sym (decoded_extends bytes more instr e))
settled_on bytes more decodings.Reserved next e = ap (λ (d : Decoded). settled d next) (sym (decoded_stuck bytes more e))
settled_on bytes more decodings.NeedMore next e = refl

-- no byte more settles the same
settled_none : (front : List ℕ) (next : Result Instr Refused) → settled (decoded front) next ≡ settled (decoded (front ++ [])) next
settled_none front next = ap (λ (list : List ℕ). settled (decoded list) next) (sym (append-nil front))

-- ---- fetching

-- bytes that were read, and are no instruction
abbrev pub refusing : Result (Unit {0}) Refused → Result Instr Refused
refusing (Ok done) = Err (Signal sigill)
refusing (Err refused) = Err refused

abbrev pub unfetched : Answers → ℕ → ℕ → Result Instr Refused
unfetched memory address count = refusing (run memory (reads_from address count))

-- where the next byte stands
abbrev behind : ℕ → List ℕ → ℕ
behind pc front = past pc (length front)

abbrev longer : List ℕ → ℕ → List ℕ
longer front byte = front ++ byte ∷ []

abbrev fetching : Answers → ℕ → ℕ → List ℕ → Result Instr Refused
fetching memory pc more front = run memory (fetch (suc more) pc front)

-- what comes of it, by the bytes that are there
abbrev comes : Answers → ℕ → ℕ → List ℕ → Result Instr Refused
comes memory address more front = settled (decoded (front ++ held_from memory address more)) (unfetched memory address (suc more))

abbrev IsFetched : Answers → ℕ → ℕ → List ℕ → Type 0
IsFetched memory pc more front = fetching memory pc more front ≡ comes memory (behind pc front) more front

-- the same, by what is answered for the next byte
abbrev comes_by : Answers → ByteRead → ℕ → ℕ → List ℕ → Result Instr Refused
comes_by memory answer address more front =
    settled (decoded (front ++ with_byte answer (held_from memory (past address 1) more)))
    (refusing (after_read answer address (λ byte. run memory (reads_from (past address 1) (suc more)))))

abbrev fetching_by : Answers → ByteRead → ℕ → ℕ → List ℕ → Result Instr Refused
fetching_by memory answer pc more front = after_read answer (behind pc front) (λ byte. fetching memory pc more (longer front byte))

abbrev ill : Result Instr Refused
ill = Err (Signal sigill)

abbrev done : Result (Unit {0}) Refused
done = Ok tt

last_by : (answer : ByteRead) (address : ℕ) → after_read answer address (λ byte. ill) ≡ refusing (after_read answer address (λ byte. done))
last_by (bytes.Is byte) address = refl
last_by bytes.Miss address = refl
last_by bytes.Below address = refl
last_by bytes.Outside address = refl

-- one byte more is there
further : (memory : Answers) (pc more b : ℕ) (front : List ℕ) → IsFetched memory pc more (longer front b)
    → settled (decoded front) (fetching memory pc more (longer front b)) ≡ comes_by memory (bytes.Is b) (behind pc front) more front
further memory pc more b front h =
    let next : ℕ = past (behind pc front) 1 in
    let long : length (longer front b) ≡ length front + 1 = length-append front (b ∷ []) in
    let at : behind pc (longer front b) ≡ past (behind pc front) 1 = ap (past pc) long ∙ sym (past-past pc (length front)) in
    ap (settled (decoded front))
    (h
    ∙ ap (λ (address : ℕ). comes memory address more (longer front b)) at
    ∙ ap (λ (list : List ℕ). settled (decoded list) (unfetched memory next (suc more))) (append_assoc front (b ∷ []) (held_from memory next more)))
    ∙ settled_on front (b ∷ held_from memory next more) (decoded front) (unfetched memory next (suc more)) refl

fetched_by : (memory : Answers) (pc more : ℕ) (front : List ℕ) → IsFetched memory pc more front
unfolding fetch held_from reads_from
fetched_by memory pc zero front =
    settles memory (decoded front) (Reads (behind pc front) (λ byte. fetch zero pc (longer front byte))) _ (last_by (memory.read (behind pc front)) (behind pc front))
    ∙ settled_none front (unfetched memory (behind pc front) 1)
fetched_by memory pc (suc more) front =
    settles memory (decoded front) (Reads (behind pc front) (λ byte. fetch (suc more) pc (longer front byte))) _ refl
    ∙ elim (memory.read (behind pc front)) as (λ answer. settled (decoded front) (fetching_by memory answer pc more front) ≡ comes_by memory answer (behind pc front) more front) [
      | bytes.Is byte ↦ further memory pc more byte front (fetched_by memory pc more (longer front byte))
      | bytes.Miss ↦ settled_none front _
      | bytes.Below ↦ settled_none front _
      | bytes.Outside ↦ settled_none front _
    ]

-- what is fetched, by the bytes that are there
pub fetched : (memory : Answers) (pc : ℕ) → pc < 2 ^ 32 → run memory (fetch 20 pc []) ≡ comes memory pc 19 []
fetched memory pc small = fetched_by memory pc 19 [] ∙ ap (λ (address : ℕ). comes memory address 19 []) (past-none pc small)
