-- Longwords that are tested and written downwards.
use Rattle.std.proofs.Common.{◌≡◌, ◌∙◌, ℕ, zero, suc, ◌+◌, ◌-◌, ◌*◌, ◌%◌, ◌^◌, ◌<◌, ◌≤◌, List, [], ◌∷◌, ◌++◌, Result, Ok, length, take, drop, get_or, refl, ap, sym, subst, arith}
use Rattle.std.proofs.lemmas.List.{at_drop_more, take_more}
use Rattle.std.specs.Int.{w32, to_le_bytes}
use Rattle.vm_facts.specs.Ahead.{MayAhead, MayBelow}
use Rattle.vm_facts.specs.Answers.{Answers, ByteWrite, longword_below, writes_from, writes_down}
use Rattle.user_vax.specs.declared.refused.Refused.{Refused}
use Rattle.user_vax.specs.Program.{run}
use Rattle.user_vax.specs.Operands.{past}
use Rattle.user_vax.specs.Effects.{bytes_at}
use Rattle.user_vax.specs.Instruction.{MayAll, write_tests}
use Rattle.user_vax.proofs.Runs.{then}
use Rattle.vax_execute.specs.Outcomes.{lowest}
use Rattle.vax_execute.proofs.Pushing.{longword_written, lowest-append, writes_down-append}
use Rattle.user_step.specs.Tried.{writes_below}
use Rattle.user_step.proofs.Ahead.{tests_at}
use Rattle.user_step.proofs.Writing.{tests_append}

-- ---- one after another

first_test : (memory : Answers) (address value : ℕ) (values : List ℕ)
    → run memory (write_tests (writes_down address (value ∷ values)))
    ≡ then (run memory (write_tests (bytes_at 4 (longword_below address) value))) (λ _. run memory (write_tests (writes_down (longword_below address) values)))
first_test memory address value values =
    tests_append memory (writes_from (longword_below address) (to_le_bytes w32 value)) (writes_down (longword_below address) values)
    ∙ ap (λ (writes : List ByteWrite). then (run memory (write_tests writes)) (λ _. run memory (write_tests (writes_down (longword_below address) values))))
    (longword_written (longword_below address) value)

-- to test what is left is to test one longword, and then the others
pub tests_more : (memory : Answers) (address : ℕ) (longwords : List ℕ) (i : ℕ) → i < length longwords
    → run memory (write_tests (writes_down address (drop i longwords)))
    ≡ then (run memory (write_tests (bytes_at 4 (longword_below address) (get_or longwords i 0))))
    (λ _. run memory (write_tests (writes_down (longword_below address) (drop (i + 1) longwords))))
tests_more memory address longwords i within =
    at_drop_more (λ rest. run memory (write_tests (writes_down address rest))) longwords i 0 within
    ∙ first_test memory address (get_or longwords i 0) (drop (i + 1) longwords)

-- the bytes of one more longword come after those so far
pub writes_more : (address : ℕ) (longwords : List ℕ) (i : ℕ) → i < length longwords
    → writes_down address (take (i + 1) longwords)
    ≡ writes_down address (take i longwords) ++ bytes_at 4 (longword_below (lowest address (take i longwords))) (get_or longwords i 0)
writes_more address longwords i within =
    ap (writes_down address) (take_more longwords i 0 within) ∙ writes_down-append address (take i longwords) (get_or longwords i 0)

-- one more longword lies just below the last one so far
pub lowest_next : (address : ℕ) (longwords : List ℕ) (i : ℕ) → i < length longwords
    → longword_below (lowest address (take i longwords)) ≡ lowest address (take (i + 1) longwords)
lowest_next address longwords i within =
    sym (ap (lowest address) (take_more longwords i 0 within) ∙ lowest-append address (take i longwords) (get_or longwords i 0))

may_parts : (memory : Answers) (xs ys : List ByteWrite) → MayAll memory (xs ++ ys) → MayAll memory xs × MayAll memory ys
may_parts memory [] ys all = (tt, all)
may_parts memory (x ∷ xs) ys all = let parts = may_parts memory xs ys all.1 in ((all.0, parts.0), parts.1)

-- where they all may be written, each of them may
pub may_at : (memory : Answers) (address : ℕ) (longwords : List ℕ) (i : ℕ) → MayAll memory (writes_down address longwords) → i < length longwords
    → MayAll memory (bytes_at 4 (longword_below (lowest address (take i longwords))) (get_or longwords i 0))
may_at memory address [] i all within = absurd (omega (arith, within))
may_at memory address (value ∷ values) zero all within =
    subst (MayAll memory) (longword_written (longword_below address) value)
    (may_parts memory (writes_from (longword_below address) (to_le_bytes w32 value)) (writes_down (longword_below address) values) all).0
may_at memory address (value ∷ values) (suc i) all within =
    may_at memory (longword_below address) values i
    (may_parts memory (writes_from (longword_below address) (to_le_bytes w32 value)) (writes_down (longword_below address) values) all).1
    (omega (arith, within))

-- ---- at once

-- the address so many longwords below another
abbrev below : ℕ → ℕ → ℕ
below address i = (address + (2 ^ 32 - 4 * i)) % 2 ^ 32

next_below : (address i : ℕ) → address < 2 ^ 32 → 4 * (i + 1) ≤ 2 ^ 32 → longword_below (below address i) ≡ below address (i + 1)
next_below address i small fits = omega (arith, small, fits)

within_longword : (address i j : ℕ) → address < 2 ^ 32 → 4 * (i + 1) ≤ 2 ^ 32 → j < 4
    → (longword_below (below address i) + j) % 2 ^ 32 ≡ (address + (2 ^ 32 - (4 * i + 3 - j + 1))) % 2 ^ 32
within_longword address i j small fits few = omega (arith, small, fits, few)

tests_below : (memory : Answers) (address count : ℕ) (longwords : List ℕ) (i : ℕ) → MayBelow memory address count → address < 2 ^ 32 → count ≤ 2 ^ 32
    → 4 * (i + length longwords) ≤ count → run memory (write_tests (writes_down (below address i) longwords)) ≡ Ok tt
unfolding write_tests
tests_below memory address count [] i may small room few = refl
tests_below memory address count (value ∷ values) i may small room few =
    let fits : 4 * (i + 1) ≤ 2 ^ 32 = omega (arith, room, few) in
    let place : ℕ = longword_below (below address i) in
    let ahead : MayAhead memory place 4 = λ j low.
    ap memory.may_write (within_longword address i j small fits low) ∙ may (4 * i + 3 - j) (omega (arith, few, low)) in
    let next : Result (Unit {0}) Refused = run memory (write_tests (writes_down place values)) in
    first_test memory (below address i) value values
    ∙ ap (λ (r : Result (Unit {0}) Refused). then r (λ _. next)) (tests_at memory 4 place value (omega arith) ahead)
    ∙ ap (λ (a : ℕ). run memory (write_tests (writes_down a values))) (next_below address i small fits)
    ∙ tests_below memory address count values (i + 1) may small room (omega (arith, few))

-- longwords may be written downwards, where all their bytes may
pub tests_down : (memory : Answers) (address : ℕ) (longwords : List ℕ) → address < 2 ^ 32 → length longwords ≤ 18
    → MayBelow memory address (4 * length longwords) → run memory (write_tests (writes_down address longwords)) ≡ Ok tt
tests_down memory address longwords small few may =
    let place : below address 0 ≡ address = omega (arith, small) in
    ap (λ (a : ℕ). run memory (write_tests (writes_down a longwords))) (sym place)
    ∙ tests_below memory address (4 * length longwords) longwords 0 may small (omega (arith, few)) (omega arith)

back_again : (address : ℕ) → address < 2 ^ 32 → longword_below (past address 4) ≡ address
back_again address small = omega (arith, small)

-- a longword and those just below it
pub below_first : (address : ℕ) (longwords : List ℕ) → address < 2 ^ 32 → 0 < length longwords
    → writes_down (past address 4) longwords ≡ writes_below address longwords
below_first address [] small some = absurd (omega (arith, some))
below_first address (value ∷ values) small some =
    ap (λ (a : ℕ). writes_from a (to_le_bytes w32 value) ++ writes_down a values) (back_again address small)
    ∙ ap (λ (writes : List ByteWrite). writes ++ writes_down address values) (longword_written address value)

-- the count and the frame behind it
pub counted_first : (address : ℕ) (longwords : List ℕ) (many : ℕ) → 0 < length longwords
    → writes_below address (take (many + 1) longwords) ≡ bytes_at 4 address (get_or longwords 0 0) ++ writes_down address (take many (drop 1 longwords))
counted_first address [] many some = absurd (omega (arith, some))
counted_first address (value ∷ values) many some =
    let next : many + 1 ≡ suc many = omega arith in ap (λ (n : ℕ). writes_below address (take n (value ∷ values))) next
