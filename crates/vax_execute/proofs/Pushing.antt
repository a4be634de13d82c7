-- One more longword among those that a procedure call pushes.
use Rattle.std.proofs.Common.{◌≡◌, ◌≢◌, ◌∙◌, ℕ, suc, ◌+◌, ◌%◌, ◌/◌, ◌<◌, List, [], ◌∷◌, ◌++◌, Option, Some, None, length, take, drop, set, get_or, refl, ap, sym, append_assoc, append-nil, arith}
use Rattle.std.proofs.lemmas.List.{take_more_set, get_or-set_same, get_or-set_other}
use Rattle.std.specs.Int.{w32, to_le_bytes}
use Rattle.vm_facts.specs.Answers.{ByteWrite, longword_below, writes_from, writes_down}
use Rattle.user_vax.specs.Operands.{back}
use Rattle.user_vax.specs.Effects.{bytes_at}
use Rattle.vax_execute.specs.Outcomes.{counted_bytes, lowest}

-- ---- downwards

-- the bytes of a longword are written as those of a number of four
pub longword_written : (address value : ℕ) → writes_from address (to_le_bytes w32 value) ≡ bytes_at 4 address value
unfolding bytes_at
longword_written address value =
    let third : value / 256 / 256 % 256 ≡ get_or (to_le_bytes w32 value) 2 0 = grind arith in
    let fourth : value / 256 / 256 / 256 % 256 ≡ get_or (to_le_bytes w32 value) 3 0 = grind arith in
    rw (← third, ← fourth) refl

pub lowest-append : (address : ℕ) (longwords : List ℕ) (value : ℕ) → lowest address (longwords ++ value ∷ []) ≡ back (lowest address longwords) 4
lowest-append address [] value = refl
lowest-append address (longword ∷ longwords) value = lowest-append (longword_below address) longwords value

-- one more longword lies just below the last one
pub writes_down-append : (address : ℕ) (longwords : List ℕ) (value : ℕ)
    → writes_down address (longwords ++ value ∷ []) ≡ writes_down address longwords ++ bytes_at 4 (back (lowest address longwords) 4) value
writes_down-append address [] value =
    append-nil (writes_from (longword_below address) (to_le_bytes w32 value)) ∙ longword_written (longword_below address) value
writes_down-append address (longword ∷ longwords) value =
    let first : List ByteWrite = writes_from (longword_below address) (to_le_bytes w32 longword) in
    ap (λ (ws : List ByteWrite). first ++ ws) (writes_down-append (longword_below address) longwords value)
    ∙ sym (append_assoc first (writes_down (longword_below address) longwords) (bytes_at 4 (back (lowest (longword_below address) longwords) 4) value))

-- ---- a frame

-- the frame with one more longword
pub frame_more : (longwords : List ℕ) (many value : ℕ) → many + 1 < length longwords
    → take (many + 1) (drop 1 (set longwords (many + 1) value)) ≡ take many (drop 1 longwords) ++ value ∷ []
frame_more [] many value within = absurd (omega (arith, within))
frame_more (first ∷ longwords) many value within =
    let next : many + 1 ≡ suc many = omega arith in
    let inside : many < length longwords = omega (arith, within) in
    ap (λ (n : ℕ). take (many + 1) (drop 1 (set (first ∷ longwords) n value))) next ∙ take_more_set longwords many value inside

pub lowest_more : (longwords : List ℕ) (top many value sp : ℕ) → many + 1 < length longwords → sp ≡ lowest top (take many (drop 1 longwords))
    → back sp 4 ≡ lowest top (take (many + 1) (drop 1 (set longwords (many + 1) value)))
lowest_more longwords top many value sp within place =
    ap (λ (a : ℕ). back a 4) place
    ∙ sym (lowest-append top (take many (drop 1 longwords)) value)
    ∙ ap (lowest top) (sym (frame_more longwords many value within))

-- what is pushed with one more longword of the frame
pub pushed_more : (counted : Option ℕ) (longwords : List ℕ) (top many value sp : ℕ) → many + 1 < length longwords
    → sp ≡ lowest top (take many (drop 1 longwords))
    → counted_bytes counted (get_or (set longwords (many + 1) value) 0 0) ++ writes_down top (take (many + 1) (drop 1 (set longwords (many + 1) value)))
    ≡ (counted_bytes counted (get_or longwords 0 0) ++ writes_down top (take many (drop 1 longwords))) ++ bytes_at 4 (back sp 4) value
pushed_more counted longwords top many value sp within place =
    let before : List ByteWrite = counted_bytes counted (get_or longwords 0 0) in
    let frame : List ℕ = take many (drop 1 longwords) in
    let other : 0 ≢ many + 1 = λ e. absurd (omega (arith, e)) in
    ap (λ (count : ℕ). counted_bytes counted count ++ writes_down top (take (many + 1) (drop 1 (set longwords (many + 1) value))))
    (get_or-set_other longwords (many + 1) 0 value 0 other)
    ∙ ap (λ (some : List ℕ). before ++ writes_down top some) (frame_more longwords many value within)
    ∙ ap (λ (ws : List ByteWrite). before ++ ws) (writes_down-append top frame value)
    ∙ sym (append_assoc before (writes_down top frame) (bytes_at 4 (back (lowest top frame) 4) value))
    ∙ ap (λ (a : ℕ). (before ++ writes_down top frame) ++ bytes_at 4 (back a 4) value) (sym place)

-- ---- the count

-- the count alone is pushed
pub counted_pushed : (counted : Option ℕ) (longwords : List ℕ) (top many value address : ℕ) → 0 < length longwords → counted ≡ None → many ≡ 0
    → counted_bytes (Some address) (get_or (set longwords 0 value) 0 0) ++ writes_down top (take many (drop 1 (set longwords 0 value)))
    ≡ (counted_bytes counted (get_or longwords 0 0) ++ writes_down top (take many (drop 1 longwords))) ++ bytes_at 4 address value
counted_pushed counted longwords top many value address within uncounted unframed =
    rw (uncounted, unframed) (append-nil (bytes_at 4 address (get_or (set longwords 0 value) 0 0))
    ∙ ap (bytes_at 4 address) (get_or-set_same longwords 0 value 0 within))
