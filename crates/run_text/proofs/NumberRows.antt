-- Numbers that are read one after another.
use Rattle.std.proofs.Common.{◌≡◌, ℕ, ◌<◌, ◌≤◌, ◌^◌, List, [], ◌∷◌, ◌++◌, length, refl, sym, ◌∙◌, ap, subst, append_assoc, arith, length-append}
use Rattle.std.proofs.lemmas.List.{append-nil}
use Rattle.std.proofs.lemmas.Grind.{flat_map-append}
use Rattle.run_text.specs.Text.{part, parts}
use Rattle.run_text.specs.Pieces.{AtSpace}
use Rattle.run_text.specs.Transcript.{AllBelow}
use Rattle.run_text.proofs.Words.{cut_part, parts_at_space}

-- the text is these numbers and the rest; and where the text is a row of numbers, it is these and
-- further ones, which are the rest
pub record RowSoFar (text numbers rest : List ℕ) : Type 0 where
  pub split : text ≡ parts numbers ++ rest
  pub below : AllBelow 4294967296 numbers
  pub further : (ns : List ℕ) → AllBelow 4294967296 ns → text ≡ parts ns → (ms : List ℕ) × (ns ≡ numbers ++ ms) × AllBelow 4294967296 ms × (rest ≡ parts ms)

pub row_start : (text : List ℕ) → RowSoFar text [] text
row_start text = record { split = refl; below = tt; further = λ ns h e. (ns, refl, h, e) }

below_push : (ns : List ℕ) (n : ℕ) → AllBelow 4294967296 ns → n < 4294967296 → AllBelow 4294967296 (ns ++ n ∷ [])
below_push [] n h k = (k, tt)
below_push (m ∷ ns) n h k = (h.0, below_push ns n h.1 k)

parts_push : (ns : List ℕ) (n : ℕ) (rest : List ℕ) → parts (ns ++ n ∷ []) ++ rest ≡ parts ns ++ (part n ++ rest)
parts_push ns n rest =
    ap (λ (z : List ℕ). z ++ rest) (flat_map-append part ns (n ∷ []) ∙ ap (λ (z : List ℕ). parts ns ++ z) (append-nil (part n))) ∙ append_assoc (parts ns) (part n) rest

-- one more number
further_step : (numbers rest more : List ℕ) (n : ℕ) → n < 4294967296 → rest ≡ part n ++ more → AtSpace more → (ns ms : List ℕ) → ns ≡ numbers ++ ms
    → AllBelow 4294967296 ms → rest ≡ parts ms → (ks : List ℕ) × (ns ≡ (numbers ++ n ∷ []) ++ ks) × AllBelow 4294967296 ks × (more ≡ parts ks)
further_step numbers rest more n small cut at ns [] is below e = absurd (no_part n more (sym cut ∙ e))
  where
    no_part : (n : ℕ) (more : List ℕ) → part n ++ more ≡ [] → ⊥
    no_part n more e = cc
further_step numbers rest more n small cut at ns (m ∷ ms) is below e =
    let same : (n ≡ m) × (more ≡ parts ms) = cut_part n m more (parts ms) small below.0 at (parts_at_space ms) (sym cut ∙ e) in
    (ms, is ∙ ap (λ (z : ℕ). numbers ++ z ∷ ms) (sym same.0) ∙ sym (append_assoc numbers (n ∷ []) ms), below.1, same.1)

pub row_step : (text numbers rest more : List ℕ) (n : ℕ) → n < 4294967296 → rest ≡ part n ++ more → AtSpace more → RowSoFar text numbers rest
    → RowSoFar text (numbers ++ n ∷ []) more
row_step text numbers rest more n small cut at so_far = record {
  split = so_far.split ∙ ap (λ (z : List ℕ). parts numbers ++ z) cut ∙ sym (parts_push numbers n more);
  below = below_push numbers n so_far.below small;
  further = λ ns h e. (let f : (ms : List ℕ) × (ns ≡ numbers ++ ms) × AllBelow 4294967296 ms × (rest ≡ parts ms) = so_far.further ns h e in
      further_step numbers rest more n small cut at ns f.0 f.1 f.2 f.3);
}

-- no number stands there, so the text is no row
pub row_none : (text numbers rest : List ℕ) → 0 < length rest → ((n : ℕ) (more : List ℕ) → n < 2 ^ 32 → AtSpace more → rest ≡ part n ++ more → ⊥)
    → RowSoFar text numbers rest → (ns : List ℕ) → AllBelow 4294967296 ns → text ≡ parts ns → ⊥
row_none text numbers rest some none so_far ns h e = by_further rest some none (so_far.further ns h e).0 (so_far.further ns h e).2 (so_far.further ns h e).3
  where
    by_further : (rest : List ℕ) → 0 < length rest → ((n : ℕ) (more : List ℕ) → n < 2 ^ 32 → AtSpace more → rest ≡ part n ++ more → ⊥) → (ms : List ℕ) → AllBelow 4294967296 ms → rest ≡ parts ms → ⊥
    by_further rest some none [] below e = let empty : length rest ≡ 0 = ap length e in omega arith
    by_further rest some none (m ∷ ms) below e = none m (parts ms) below.0 (parts_at_space ms) e

-- more than five numbers
pub row_full : (text numbers rest more : List ℕ) (n : ℕ) → length numbers ≡ 5 → n < 4294967296 → rest ≡ part n ++ more → AtSpace more
    → RowSoFar text numbers rest → (ns : List ℕ) → length ns ≤ 5 → AllBelow 4294967296 ns → text ≡ parts ns → ⊥
row_full text numbers rest more n five small cut at so_far ns few h e =
    let f : (ks : List ℕ) × (ns ≡ (numbers ++ n ∷ []) ++ ks) × AllBelow 4294967296 ks × (more ≡ parts ks) = (row_step text numbers rest more n small cut at so_far).further ns h e in
    let long : length ns ≡ length ((numbers ++ n ∷ []) ++ f.0) = ap length f.1 in
    omega (arith, long, length-append (numbers ++ n ∷ []) f.0, length-append numbers (n ∷ []))

pub row_push : (text numbers numbers' rest more : List ℕ) (n : ℕ) → numbers' ≡ numbers ++ n ∷ [] → n < 4294967296 → rest ≡ part n ++ more
    → AtSpace more → RowSoFar text numbers rest → RowSoFar text numbers' more
row_push text numbers numbers' rest more n pushed small cut at so_far =
    subst (λ (ns : List ℕ). RowSoFar text ns more) (sym pushed) (row_step text numbers rest more n small cut at so_far)

-- nothing is left
pub row_end : (text numbers rest : List ℕ) → length rest ≡ 0 → RowSoFar text numbers rest → (text ≡ parts numbers) × AllBelow 4294967296 numbers
row_end text numbers [] none so_far = (so_far.split ∙ append-nil (parts numbers), so_far.below)
row_end text numbers (b ∷ bs) none so_far = absurd (omega arith)
