-- Bytes read one after another.
use Rattle.std.proofs.Common.{◌≡◌, ℕ, zero, suc, ◌+◌, ◌-◌, ◌<◌, ◌≤◌, List, [], ◌∷◌, ◌++◌, Option, Some, None, Result, Ok, Err, refl, sym, ap, ◌∙◌, append_assoc, arith}
use Rattle.std.proofs.lemmas.List.{append-nil}
use Rattle.vm_facts.specs.Answers.{Answers}
use Rattle.vm_facts.specs.declared.memory.ByteRead.{ByteRead}
use Rattle.vm_facts.specs.declared.memory.ByteRead.TheVariants as reads
use Rattle.user_vax.specs.declared.refused.Refused.{Refused}
use Rattle.user_vax.specs.Program.{Program, Gives, Reads, ◌>>=◌, run, after_read}
use Rattle.user_vax.specs.Operands.{past}
use Rattle.user_vax.proofs.Runs.{then, run_bind}
use Rattle.user_vax.proofs.Numbers.{past-past}
use Rattle.flat_model.specs.Calls.{bytes_from, string_from, string_after, before}

-- bytes that were read, and what the rest comes to
abbrev pub after_bytes : List ℕ → Result (List ℕ) Refused → Result (List ℕ) Refused
after_bytes bytes (Ok more) = Ok (bytes ++ more)
after_bytes bytes (Err refused) = Err refused

abbrev pub byte_at : ℕ → Program ℕ
byte_at address = Reads address (λ byte. Gives byte)

one : (memory : Answers) (count address : ℕ)
    → run memory (bytes_from (suc count) address)
    ≡ then (run memory (byte_at address)) (λ byte. then (run memory (bytes_from count (past address 1))) (λ more. Ok (byte ∷ more)))
unfolding bytes_from
one memory count address =
    run_bind memory (byte_at address) (λ (byte : ℕ). bytes_from count (past address 1) >>= λ more. Gives (byte ∷ more))
    ∙ ap (then (run memory (byte_at address))) (λ i byte. run_bind memory (bytes_from count (past address 1)) (λ (more : List ℕ). Gives (byte ∷ more)) i)

moved : (bytes : List ℕ) (byte : ℕ) (rest : Result (List ℕ) Refused)
    → after_bytes bytes (then rest (λ more. Ok (byte ∷ more))) ≡ after_bytes (bytes ++ byte ∷ []) rest
moved bytes byte (Ok more) = ap (λ (x : List ℕ). Ok x) (sym (append_assoc bytes (byte ∷ []) more))
moved bytes byte (Err refused) = refl

-- none read yet
pub gathered_none : (rest : Result (List ℕ) Refused) → rest ≡ after_bytes [] rest
gathered_none (Ok more) = refl
gathered_none (Err refused) = refl

-- one more was read
pub gathered_more : (memory : Answers) (bytes : List ℕ) (byte count address : ℕ) → run memory (byte_at address) ≡ Ok byte
    → after_bytes bytes (run memory (bytes_from (suc count) address)) ≡ after_bytes (bytes ++ byte ∷ []) (run memory (bytes_from count (past address 1)))
gathered_more memory bytes byte count address e =
    ap (after_bytes bytes) (one memory count address ∙ ap (λ (r : Result ℕ Refused). then r (λ b. then (run memory (bytes_from count (past address 1))) (λ more. Ok (b ∷ more)))) e)
    ∙ moved bytes byte (run memory (bytes_from count (past address 1)))

-- the next is refused
pub gathered_refused : (memory : Answers) (bytes : List ℕ) (count address : ℕ) (refused : Refused) → run memory (byte_at address) ≡ Err refused
    → after_bytes bytes (run memory (bytes_from (suc count) address)) ≡ Err refused
gathered_refused memory bytes count address refused e =
    ap (after_bytes bytes) (one memory count address ∙ ap (λ (r : Result ℕ Refused). then r (λ b. then (run memory (bytes_from count (past address 1))) (λ more. Ok (b ∷ more)))) e)

-- all were read
pub gathered_all : (memory : Answers) (bytes : List ℕ) (address : ℕ) → after_bytes bytes (run memory (bytes_from zero address)) ≡ Ok bytes
unfolding bytes_from
gathered_all memory bytes address = ap (λ (x : List ℕ). Ok x) (append-nil bytes)

pub left_one : (count index : ℕ) → index < count → count - index ≡ suc (count - (index + 1))
left_one count index below = omega arith

-- The bytes so far and what is left come to all: so it is when the next byte is read, is refused, and at the end.
abbrev pub Gathers : Answers → ℕ → ℕ → ℕ → List ℕ → Type 0
Gathers memory count address index bytes =
    run memory (bytes_from count address) ≡ after_bytes bytes (run memory (bytes_from (count - index) (past address index)))

module _ (memory : Answers) (count address index : ℕ) (bytes : List ℕ) where
  pub gathers_more : (byte : ℕ) → Gathers memory count address index bytes → index < count
      → run memory (byte_at (past address index)) ≡ Ok byte → Gathers memory count address (index + 1) (bytes ++ byte ∷ [])
  gathers_more byte h below e =
      h
      ∙ ap (λ (n : ℕ). after_bytes bytes (run memory (bytes_from n (past address index)))) (left_one count index below)
      ∙ gathered_more memory bytes byte (count - (index + 1)) (past address index) e
      ∙ ap (λ (a : ℕ). after_bytes (bytes ++ byte ∷ []) (run memory (bytes_from (count - (index + 1)) a))) (past-past address index)

  pub gathers_refused : (refused : Refused) → Gathers memory count address index bytes → index < count → run memory (byte_at (past address index)) ≡ Err refused
      → run memory (bytes_from count address) ≡ Err refused
  gathers_refused refused h below e =
      h
      ∙ ap (λ (n : ℕ). after_bytes bytes (run memory (bytes_from n (past address index)))) (left_one count index below)
      ∙ gathered_refused memory bytes (count - (index + 1)) (past address index) refused e

  pub gathers_all : Gathers memory count address index bytes → count ≤ index → run memory (bytes_from count address) ≡ Ok bytes
  gathers_all h above =
      h
      ∙ ap (λ (n : ℕ). after_bytes bytes (run memory (bytes_from n (past address index)))) (let e : count - index ≡ 0 = omega arith in e)
      ∙ gathered_all memory bytes (past address index)

-- A string that is read byte by byte.

-- bytes that were read, and what the rest of the string comes to
abbrev pub after_string : List ℕ → Result (Option (List ℕ)) Refused → Result (Option (List ℕ)) Refused
after_string bytes (Ok (Some more)) = Ok (Some (bytes ++ more))
after_string bytes (Ok None) = Ok None
after_string bytes (Err refused) = Err refused

-- what comes after a byte
abbrev pub string_by : Result (Option (List ℕ)) Refused → ℕ → Result (Option (List ℕ)) Refused
string_by rest byte = then rest (λ string. Ok (before byte string))

abbrev pub string_next : Answers → Program (Option (List ℕ)) → ℕ → Result (Option (List ℕ)) Refused
string_next memory more byte = run memory (string_after byte more)

string_one : (memory : Answers) (left address : ℕ)
    → run memory (string_from (suc left) address) ≡ then (run memory (byte_at address)) (string_next memory (string_from left (past address 1)))
unfolding string_from
string_one memory left address = go (memory.read address)
  where
    go : (r : ByteRead) → after_read r address (λ byte. run memory (string_after byte (string_from left (past address 1))))
        ≡ then (after_read r address (λ byte. Ok byte)) (string_next memory (string_from left (past address 1)))
    go (reads.Is byte) = refl
    go reads.Miss = refl
    go reads.Below = refl
    go reads.Outside = refl

string_moved : (bytes : List ℕ) (byte : ℕ) (rest : Result (Option (List ℕ)) Refused)
    → after_string bytes (string_by rest byte) ≡ after_string (bytes ++ byte ∷ []) rest
string_moved bytes byte (Ok (Some more)) = ap (λ (x : List ℕ). Ok (Some x)) (sym (append_assoc bytes (byte ∷ []) more))
string_moved bytes byte (Ok None) = refl
string_moved bytes byte (Err refused) = refl

-- a byte that isn't 0 goes before what is left
string_byte : (memory : Answers) (byte : ℕ) (more : Program (Option (List ℕ))) → (byte ≡ 0 → ⊥)
    → string_next memory more byte ≡ string_by (run memory more) byte
string_byte memory zero more h = absurd (h refl)
string_byte memory (suc n) more h = run_bind memory more (λ (string : Option (List ℕ)). Gives (before (suc n) string))

-- The bytes so far and what is left of the string come to all.
abbrev pub Spells : Answers → ℕ → ℕ → ℕ → List ℕ → Type 0
Spells memory limit address index bytes =
    run memory (string_from limit address) ≡ after_string bytes (run memory (string_from (limit - index) (past address index)))

spells_one : (memory : Answers) (limit address index : ℕ) (bytes : List ℕ) → Spells memory limit address index bytes → index < limit
    → run memory (string_from limit address)
    ≡ after_string bytes (then (run memory (byte_at (past address index))) (string_next memory (string_from (limit - (index + 1)) (past address (index + 1)))))
spells_one memory limit address index bytes h below =
    h
    ∙ ap (λ (n : ℕ). after_string bytes (run memory (string_from n (past address index)))) (left_one limit index below)
    ∙ ap (after_string bytes) (string_one memory (limit - (index + 1)) (past address index))
    ∙ ap (λ (a : ℕ). after_string bytes (then (run memory (byte_at (past address index))) (string_next memory (string_from (limit - (index + 1)) a)))) (past-past address index)

pub spells_more : (memory : Answers) (limit address index : ℕ) (bytes : List ℕ) (byte : ℕ) → Spells memory limit address index bytes → index < limit
    → run memory (byte_at (past address index)) ≡ Ok byte → (byte ≡ 0 → ⊥) → Spells memory limit address (index + 1) (bytes ++ byte ∷ [])
spells_more memory limit address index bytes byte h below e other =
    spells_one memory limit address index bytes h below
    ∙ ap (λ (r : Result ℕ Refused). after_string bytes (then r (string_next memory (string_from (limit - (index + 1)) (past address (index + 1)))))) e
    ∙ ap (after_string bytes) (string_byte memory byte (string_from (limit - (index + 1)) (past address (index + 1))) other)
    ∙ string_moved bytes byte (run memory (string_from (limit - (index + 1)) (past address (index + 1))))

pub spells_end : (memory : Answers) (limit address index : ℕ) (bytes : List ℕ) → Spells memory limit address index bytes → index < limit
    → run memory (byte_at (past address index)) ≡ Ok 0 → run memory (string_from limit address) ≡ Ok (Some bytes)
spells_end memory limit address index bytes h below e =
    spells_one memory limit address index bytes h below
    ∙ ap (λ (r : Result ℕ Refused). after_string bytes (then r (string_next memory (string_from (limit - (index + 1)) (past address (index + 1)))))) e
    ∙ ap (λ (x : List ℕ). Ok (Some x)) (append-nil bytes)

pub spells_refused : (memory : Answers) (limit address index : ℕ) (bytes : List ℕ) (refused : Refused) → Spells memory limit address index bytes → index < limit
    → run memory (byte_at (past address index)) ≡ Err refused → run memory (string_from limit address) ≡ Err refused
spells_refused memory limit address index bytes refused h below e =
    spells_one memory limit address index bytes h below
    ∙ ap (λ (r : Result ℕ Refused). after_string bytes (then r (string_next memory (string_from (limit - (index + 1)) (past address (index + 1)))))) e

string_none : (memory : Answers) (bytes : List ℕ) (address : ℕ) → after_string bytes (run memory (string_from zero address)) ≡ Ok None
unfolding string_from
string_none memory bytes address = refl

pub spells_none : (memory : Answers) (limit address index : ℕ) (bytes : List ℕ) → Spells memory limit address index bytes → limit ≤ index
    → run memory (string_from limit address) ≡ Ok None
spells_none memory limit address index bytes h above =
    h
    ∙ ap (λ (n : ℕ). after_string bytes (run memory (string_from n (past address index)))) (let e : limit - index ≡ 0 = omega arith in e)
    ∙ string_none memory bytes (past address index)
