-- A bitmap as the set of the pages that it marks.
use Rattle.std.proofs.Common.{◌≡◌, ℕ, ◌/◌, ◌%◌, ◌<◌, Bool, true, false, cond, eqb, List, length, get_or, set, replicate, sym, ap, ◌∙◌, arith, inl, inr, refl, ◌≢◌}
use Rattle.std.specs.Int.{bit_at}
use Rattle.std.proofs.lemmas.Bool.{cases_eq}
use Rattle.std.proofs.lemmas.Nat.Bits.{bit_at-zero}
use Rattle.std.proofs.lemmas.List.{length-set, length-replicate, get_or-replicate, get_or-set_same, get_or-set_other, ext_get_or}
use Rattle.std.proofs.lemmas.List.FromFn.{length-map-range_with_len, get_or-map-range_with_len}
use Rattle.text_table.specs.Bitmap.{has_page, pages_of}
use Rattle.text_table.specs.Texts.{no_pages}

pub length-pages_of : (words : List ℕ) → length (pages_of words) ≡ 2048
unfolding pages_of
length-pages_of words = length-map-range_with_len (has_page words) 0 2048

pub get_or-pages_of : (words : List ℕ) (v : ℕ) → v < 2048 → get_or (pages_of words) v false ≡ has_page words v
unfolding pages_of
get_or-pages_of words v h = get_or-map-range_with_len (has_page words) 0 2048 v v false h (omega arith)

-- a page is marked where its bit is 1
pub page_by_bit : (words : List ℕ) (v : ℕ) → v < 2048 → eqb (bit_at (get_or words (v / 32) 0) (v % 32)) 1 ≡ get_or (pages_of words) v false
unfolding has_page
page_by_bit words v h = sym (get_or-pages_of words v h)

has_page-zeros : (v : ℕ) → v < 2048 → has_page (replicate 64 0) v ≡ false
unfolding has_page
has_page-zeros v h =
    ap (λ (word : ℕ). eqb (bit_at word (v % 32)) 1) (get_or-replicate 64 (v / 32) 0 0 (omega arith)) ∙
    ap (λ (bit : ℕ). eqb bit 1) (bit_at-zero (v % 32))

-- words of zeros mark nothing
pub pages_of-zeros : pages_of (replicate 64 0) ≡ no_pages
unfolding no_pages
pages_of-zeros =
    ext_get_or false (pages_of (replicate 64 0)) (replicate 2048 false)
    (length-pages_of (replicate 64 0) ∙ sym (length-replicate 2048 false))
    (λ v lt. let h : v < 2048 = omega (arith, length-pages_of (replicate 64 0)) in
    get_or-pages_of (replicate 64 0) v h ∙ has_page-zeros v h ∙ sym (get_or-replicate 2048 v false false h))

-- a page is marked as the bit was written
has_page-set_same : (words : List ℕ) (v word : ℕ) (member : Bool) → v / 32 < length words
    → bit_at word (v % 32) ≡ cond member 1 0 → has_page (set words (v / 32) word) v ≡ member
unfolding has_page
has_page-set_same words v word member within same =
    ap (λ (w : ℕ). eqb (bit_at w (v % 32)) 1) (get_or-set_same words (v / 32) word 0 within) ∙
    ap (λ (bit : ℕ). eqb bit 1) same ∙
    elim member as (λ m. eqb (cond m 1 0) 1 ≡ m) [ true ↦ refl | false ↦ refl ]

-- any other page is marked as before, in the same word
has_page-set_near : (words : List ℕ) (v word u : ℕ) → v / 32 < length words
    → ((i : ℕ) → i < 32 → i ≢ v % 32 → bit_at word i ≡ bit_at (get_or words (v / 32) 0) i)
    → u ≢ v → u / 32 ≡ v / 32 → has_page (set words (v / 32) word) u ≡ has_page words u
unfolding has_page
has_page-set_near words v word u within others apart block =
    ap (λ (k : ℕ). eqb (bit_at (get_or (set words (v / 32) word) k 0) (u % 32)) 1) block ∙
    ap (λ (w : ℕ). eqb (bit_at w (u % 32)) 1) (get_or-set_same words (v / 32) word 0 within) ∙
    ap (λ (bit : ℕ). eqb bit 1) (others (u % 32) (omega arith) (λ e. apart (omega arith))) ∙
    ap (λ (k : ℕ). eqb (bit_at (get_or words k 0) (u % 32)) 1) (sym block)

-- or in another
has_page-set_far : (words : List ℕ) (v word u : ℕ) → u / 32 ≢ v / 32 → has_page (set words (v / 32) word) u ≡ has_page words u
unfolding has_page
has_page-set_far words v word u apart = ap (λ (w : ℕ). eqb (bit_at w (u % 32)) 1) (get_or-set_other words (v / 32) (u / 32) word 0 apart)

-- to write one bit of one word is to put its page into the set, or to take it out
pub pages_of-set : (words : List ℕ) (v word : ℕ) (member : Bool) → length words ≡ 64 → v < 2048
    → bit_at word (v % 32) ≡ cond member 1 0
    → ((i : ℕ) → i < 32 → i ≢ v % 32 → bit_at word i ≡ bit_at (get_or words (v / 32) 0) i)
    → pages_of (set words (v / 32) word) ≡ set (pages_of words) v member
pages_of-set words v word member whole h same others =
    ext_get_or false (pages_of (set words (v / 32) word)) (set (pages_of words) v member)
    (length-pages_of (set words (v / 32) word) ∙ sym (length-set (pages_of words) v member ∙ length-pages_of words))
    (λ u lt. let below : u < 2048 = omega (arith, length-pages_of (set words (v / 32) word)) in
    get_or-pages_of (set words (v / 32) word) u below ∙ at u below)
  where
    within : v / 32 < length words
    within = omega arith

    there : (u : ℕ) → u ≢ v → has_page (set words (v / 32) word) u ≡ has_page words u
    there u apart = elim (cases_eq (u / 32) (v / 32)) [
      | inl block ↦ has_page-set_near words v word u within others apart block
      | inr far ↦ has_page-set_far words v word u far
    ]

    at : (u : ℕ) → u < 2048 → has_page (set words (v / 32) word) u ≡ get_or (set (pages_of words) v member) u false
    at u below = elim (cases_eq u v) [
      | inl e ↦
          ap (has_page (set words (v / 32) word)) e ∙ has_page-set_same words v word member within same ∙
          sym (ap (λ (k : ℕ). get_or (set (pages_of words) v member) k false) e ∙
          get_or-set_same (pages_of words) v member false (omega (arith, length-pages_of words)))
      | inr apart ↦
          there u apart ∙ sym (get_or-pages_of words u below) ∙
          sym (get_or-set_other (pages_of words) v u member false apart)
    ]
