-- Bytes that lie together: an instruction that is fetched of them, and a number that is tested.
use Rattle.std.proofs.Common.{◌≡◌, ◌∙◌, ℕ, zero, suc, ◌+◌, ◌<◌, ◌≤◌, ◌/◌, ◌^◌, List, [], ◌∷◌, ◌++◌, length, take, Ok, Err, refl, ap, sym, arith}
use Rattle.std.specs.Prelude.{slice_index}
use Rattle.vm_facts.specs.Ahead.{AreAhead, MayAhead}
use Rattle.vm_facts.specs.Answers.{Answers}
use Rattle.vm_facts.specs.declared.memory.ByteRead.{ByteRead}
use Rattle.vm_facts.specs.declared.memory.ByteRead.TheVariants as bytes
use Rattle.vm_facts.specs.declared.memory.MayWrite.{MayWrite}
use Rattle.vm_facts.specs.declared.memory.MayWrite.TheVariants as tests
use Rattle.vax_code.specs.declared.instr.Decoded.{Decoded}
use Rattle.vax_code.specs.declared.instr.Decoded.TheVariants as decodings
use Rattle.vax_code.specs.declared.instr.Instr.{Instr}
use Rattle.vax_code.specs.Reading.{decoded}
use Rattle.vax_code.proofs.Law.{decoded_extends, decoded_stuck}
use Rattle.user_vax.specs.declared.refused.Refused.TheVariants.{Signal}
use Rattle.user_vax.specs.Signals.{sigill}
use Rattle.user_vax.specs.Program.{run, after_test}
use Rattle.user_vax.specs.Operands.{past, back}
use Rattle.user_vax.specs.Effects.{bytes_at}
use Rattle.user_vax.specs.Instruction.{fetch, write_tests}
use Rattle.user_vax.proofs.Numbers.{past-past, past-none}
use Rattle.vax_execute.proofs.Within.{past-back}
use Rattle.user_step.specs.Fetching.{settled}
use Rattle.user_step.specs.Code.{held_from, with_byte}
use Rattle.user_step.proofs.Fetching.{fetched, unfetched}

-- ---- instructions

-- bytes that lie together, of which the first stands so far after an address
abbrev AreShifted : Answers → ℕ → ℕ → List ℕ → Type 0
AreShifted memory address i held = (j : ℕ) → j < length held → memory.read (past address (i + j)) ≡ bytes.Is (slice_index held j)

-- they are the first bytes that are there
held_shifted : (memory : Answers) (count room i address : ℕ) (held : List ℕ) → AreShifted memory address i held → count ≤ room
    → (more : List ℕ) × (held_from memory (past address i) room ≡ take count held ++ more)
unfolding held_from
held_shifted memory zero room i address held ahead few = (held_from memory (past address i) room, refl)
held_shifted memory (suc count) room i address [] ahead few = (held_from memory (past address i) room, refl)
held_shifted memory (suc count) zero i address (b ∷ held) ahead few = absurd (omega (arith, few))
held_shifted memory (suc count) (suc room) i address (b ∷ held) ahead few =
    let place : i ≡ i + 0 = omega arith in
    let here : memory.read (past address i) ≡ bytes.Is b = ap (λ (k : ℕ). memory.read (past address k)) place ∙ ahead 0 (omega arith) in
    let later : AreShifted memory address (suc i) held = λ j below.
    ap (λ (k : ℕ). memory.read (past address k)) (let e : suc i + j ≡ i + suc j = omega arith in e) ∙ ahead (suc j) (omega (arith, below)) in
    let rest = held_shifted memory count room (suc i) address held later (omega (arith, few)) in
    let next : past (past address i) 1 ≡ past address (suc i) = past-past address i ∙ ap (past address) (let e : i + 1 ≡ suc i = omega arith in e) in (
      rest.0,
      ap (λ (answer : ByteRead). with_byte answer (held_from memory (past (past address i) 1) room)) here
          ∙ ap (λ (bs : List ℕ). b ∷ bs) (ap (λ (a : ℕ). held_from memory a room) next ∙ rest.1),
    )

held_first : (memory : Answers) (pc count : ℕ) (held : List ℕ) → AreAhead memory pc held → pc < 2 ^ 32 → count ≤ 19
    → (more : List ℕ) × (held_from memory pc 19 ≡ take count held ++ more)
held_first memory pc count held ahead small few =
    let shifted : AreShifted memory pc 0 held = λ j below.
    ap (λ (k : ℕ). memory.read (past pc k)) (let e : 0 + j ≡ j = omega arith in e) ∙ ahead j below in
    let found = held_shifted memory count 19 0 pc held shifted few in
    (found.0, ap (λ (a : ℕ). held_from memory a 19) (sym (past-none pc small)) ∙ found.1)

-- an instruction of bytes that lie together is fetched
pub fetched_first : (memory : Answers) (pc count : ℕ) (held : List ℕ) (instr : Instr) → AreAhead memory pc held → pc < 2 ^ 32 → count ≤ 19
    → decoded (take count held) ≡ decodings.Is instr → run memory (fetch 20 pc []) ≡ Ok instr
fetched_first memory pc count held instr ahead small few e =
    let found = held_first memory pc count held ahead small few in
    fetched memory pc small
    ∙ ap (λ (d : Decoded). settled d (unfetched memory pc 20)) (ap decoded found.1 ∙ decoded_extends (take count held) found.0 instr e)

-- the same of sixteen bytes
pub fetched_sixteen : (memory : Answers) (pc : ℕ) (held : List ℕ) (instr : Instr) → AreAhead memory pc held → pc < 2 ^ 32
    → decoded (take 16 held) ≡ decodings.Is instr → run memory (fetch 20 pc []) ≡ Ok instr
fetched_sixteen memory pc held instr ahead small e = fetched_first memory pc 16 held instr ahead small (omega arith) e

-- bytes that lie together and begin no instruction are refused
pub refused_first : (memory : Answers) (pc count : ℕ) (held : List ℕ) → AreAhead memory pc held → pc < 2 ^ 32 → count ≤ 19
    → decoded (take count held) ≡ decodings.Reserved → run memory (fetch 20 pc []) ≡ Err (Signal sigill)
refused_first memory pc count held ahead small few e =
    let found = held_first memory pc count held ahead small few in
    fetched memory pc small
    ∙ ap (λ (d : Decoded). settled d (unfetched memory pc 20)) (ap decoded found.1 ∙ decoded_stuck (take count held) found.0 e)

-- ---- writes

tests_from : (memory : Answers) (size i count address value : ℕ) → MayAhead memory address count → i + size ≤ count
    → run memory (write_tests (bytes_at size (past address i) value)) ≡ Ok tt
unfolding write_tests bytes_at
tests_from memory zero i count address value may within = refl
tests_from memory (suc size) i count address value may within =
    let here : memory.may_write (past address i) ≡ tests.May = may i (omega (arith, within)) in
    let next : past (past address i) 1 ≡ past address (suc i) = past-past address i ∙ ap (past address) (let e : i + 1 ≡ suc i = omega arith in e) in
    ap (λ (answer : MayWrite). after_test answer (past address i) (run memory (write_tests (bytes_at size (past (past address i) 1) (value / 256))))) here
    ∙ ap (λ (a : ℕ). run memory (write_tests (bytes_at size a (value / 256)))) next
    ∙ tests_from memory size (suc i) count address (value / 256) may (omega (arith, within))

-- a number may be written, where so many bytes from its address on may
pub tests_at : (memory : Answers) (size address value : ℕ) → address < 2 ^ 32 → MayAhead memory address size
    → run memory (write_tests (bytes_at size address value)) ≡ Ok tt
tests_at memory size address value small may =
    ap (λ (a : ℕ). run memory (write_tests (bytes_at size a value))) (sym (past-none address small))
    ∙ tests_from memory size 0 size address value may (omega arith)

-- bytes among those that lie together may be written, where these may
pub tests_within : (memory : Answers) (size many from address value : ℕ) → MayAhead memory from many → address < 2 ^ 32 → from < 2 ^ 32
    → back address from + size ≤ many → run memory (write_tests (bytes_at size address value)) ≡ Ok tt
tests_within memory size many from address value may small low within =
    ap (λ (a : ℕ). run memory (write_tests (bytes_at size a value))) (sym (past-back address from small low))
    ∙ tests_from memory size (back address from) many from value may within
