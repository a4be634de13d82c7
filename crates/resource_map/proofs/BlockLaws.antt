-- The set of free blocks as a list of tests.
use Rattle.std.proofs.Common.{◌≡◌, ℕ, ◌+◌, ◌-◌, ◌<◌, ◌≤◌, Bool, true, false, List, ◌++◌, length, get_or, take, drop, replicate, sym, ap, ◌∙◌, arith, inl, inr, ◌⊎◌}
use Rattle.std.proofs.lemmas.Bool.{cases_lt}
use Rattle.std.proofs.lemmas.List.{length-append, length-take-le, length-drop, length-replicate, get_or_append_left, get_or-append_right, get_or-take, get_or-drop, get_or-replicate, ext_get_or}
use Rattle.std.proofs.lemmas.List.FromFn.{length-map-range_with_len, get_or-map-range_with_len}
use Rattle.resource_map.specs.declared.Extent.{Extent}
use Rattle.resource_map.specs.Blocks.{is_free_block, marked}
use Rattle.resource_map.specs.Extents.{covers, free_blocks}

pub length-marked : (free : List Bool) (start n : ℕ) (to : Bool) → start + n ≤ length free → length (marked free start n to) ≡ length free
unfolding marked
length-marked free start n to h =
    length-append (take start free ++ replicate n to) (drop (start + n) free) ∙
    omega (arith, length-append (take start free) (replicate n to), length-take-le start free (omega arith), length-replicate n to, length-drop (start + n) free)

pub is_free-marked_in : (free : List Bool) (start n : ℕ) (to : Bool) (b : ℕ) → start + n ≤ length free → start ≤ b → b < start + n
    → is_free_block (marked free start n to) b ≡ to
unfolding marked
is_free-marked_in free start n to b h low high =
    let front = length-take-le start free (omega arith) in
    let both = length-append (take start free) (replicate n to) in
    let copies = length-replicate n to in
    get_or_append_left (take start free ++ replicate n to) (drop (start + n) free) false b (omega arith) ∙
    get_or-append_right (take start free) (replicate n to) start b false front low ∙
    get_or-replicate n (b - start) to false (omega arith)

pub is_free-marked_out : (free : List Bool) (start n : ℕ) (to : Bool) (b : ℕ) → start + n ≤ length free → (b < start) ⊎ (start + n ≤ b)
    → is_free_block (marked free start n to) b ≡ is_free_block free b
unfolding marked
is_free-marked_out free start n to b h (inl below) =
    let front = length-take-le start free (omega arith) in
    let both = length-append (take start free) (replicate n to) in
    get_or_append_left (take start free ++ replicate n to) (drop (start + n) free) false b (omega arith) ∙
    get_or_append_left (take start free) (replicate n to) false b (omega arith) ∙
    get_or-take start free b false below
is_free-marked_out free start n to b h (inr above) =
    let front = length-take-le start free (omega arith) in
    let both = length-append (take start free) (replicate n to) in
    let copies = length-replicate n to in
    let whole : length (take start free ++ replicate n to) ≡ start + n = omega arith in
    get_or-append_right (take start free ++ replicate n to) (drop (start + n) free) (start + n) b false whole above ∙
    get_or-drop (start + n) free (b - (start + n)) false ∙
    ap (λ (k : ℕ). get_or free k false) (omega arith)

pub length-free_blocks : (size : ℕ) (es : List Extent) → length (free_blocks size es) ≡ size
unfolding free_blocks
length-free_blocks size es = length-map-range_with_len (covers es) 0 size

pub is_free-free_blocks : (size : ℕ) (es : List Extent) (b : ℕ) → b < size → is_free_block (free_blocks size es) b ≡ covers es b
unfolding free_blocks
is_free-free_blocks size es b h = get_or-map-range_with_len (covers es) 0 size b b false h (omega arith)

-- extents that differ from others only at n blocks make the set that differs there
pub free_blocks_marked : (size : ℕ) (es fs : List Extent) (start n : ℕ) (to : Bool) → start + n ≤ size
    → ((b : ℕ) → start ≤ b → b < start + n → covers fs b ≡ to)
    → ((b : ℕ) → (b < start) ⊎ (start + n ≤ b) → covers fs b ≡ covers es b)
    → free_blocks size fs ≡ marked (free_blocks size es) start n to
free_blocks_marked size es fs start n to h inside outside =
    let old = length-free_blocks size es in
    let new = length-free_blocks size fs in
    let changed = length-marked (free_blocks size es) start n to (omega arith) in
    ext_get_or false (free_blocks size fs) (marked (free_blocks size es) start n to) (omega arith)
    (λ b lt. is_free-free_blocks size fs b (omega arith) ∙ at b (omega arith) (omega arith))
  where
    out : (b : ℕ) → b < size → start + n ≤ length (free_blocks size es) → (b < start) ⊎ (start + n ≤ b) → covers fs b ≡ is_free_block (marked (free_blocks size es) start n to) b
    out b lt fits side =
        outside b side ∙ sym (is_free-free_blocks size es b lt) ∙
        sym (is_free-marked_out (free_blocks size es) start n to b fits side)

    at : (b : ℕ) → b < size → start + n ≤ length (free_blocks size es) → covers fs b ≡ is_free_block (marked (free_blocks size es) start n to) b
    at b lt fits = elim (cases_lt b start) [
      | inl below ↦ out b lt fits (inl below)
      | inr from ↦ elim (cases_lt b (start + n)) [
        | inl high ↦ inside b from high ∙ sym (is_free-marked_in (free_blocks size es) start n to b fits from high)
        | inr above ↦ out b lt fits (inr above)
      ]
    ]

pub free_blocks_all : (size : ℕ) (es : List Extent) → ((b : ℕ) → b < size → covers es b ≡ true) → free_blocks size es ≡ replicate size true
free_blocks_all size es all =
    let here = length-free_blocks size es in
    let copies = length-replicate size true in
    ext_get_or false (free_blocks size es) (replicate size true) (omega arith)
    (λ b lt. is_free-free_blocks size es b (omega arith) ∙ all b (omega arith) ∙ sym (get_or-replicate size b true false (omega arith)))
