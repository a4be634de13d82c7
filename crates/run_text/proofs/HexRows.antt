-- Pairs of hexadecimal digits that are read one after another.
use Rattle.std.proofs.Common.{◌≡◌, ℕ, ◌+◌, ◌*◌, ◌/◌, ◌%◌, ◌<◌, List, [], ◌∷◌, ◌++◌, length, refl, sym, ◌∙◌, ap, subst, append_assoc, arith}
use Rattle.std.proofs.lemmas.List.{append-nil}
use Rattle.std.proofs.lemmas.Grind.{flat_map-append}
use Rattle.run_text.specs.Text.{hex_digit, hex_pair, hex_text}
use Rattle.run_text.specs.Transcript.{AllBelow}
use Rattle.run_text.proofs.Words.{hex_pair_once}

-- the text is the pairs of these bytes and the rest; and where the text is the pairs of bytes, they are
-- these and further ones, of which the rest is the pairs
pub record HexSoFar (text bytes rest : List ℕ) : Type 0 where
  pub split : text ≡ hex_text bytes ++ rest
  pub below : AllBelow 256 bytes
  pub further : (bs : List ℕ) → AllBelow 256 bs → text ≡ hex_text bs → (cs : List ℕ) × (bs ≡ bytes ++ cs) × AllBelow 256 cs × (rest ≡ hex_text cs)

pub hex_start : (text : List ℕ) → HexSoFar text [] text
hex_start text = record { split = refl; below = tt; further = λ bs h e. (bs, refl, h, e) }

below_push : (bs : List ℕ) (b : ℕ) → AllBelow 256 bs → b < 256 → AllBelow 256 (bs ++ b ∷ [])
below_push [] b h k = (k, tt)
below_push (a ∷ bs) b h k = (h.0, below_push bs b h.1 k)

hex_text_push : (bs : List ℕ) (b : ℕ) (rest : List ℕ) → hex_text (bs ++ b ∷ []) ++ rest ≡ hex_text bs ++ (hex_pair b ++ rest)
hex_text_push bs b rest =
    ap (λ (z : List ℕ). z ++ rest) (flat_map-append hex_pair bs (b ∷ []) ∙ ap (λ (z : List ℕ). hex_text bs ++ z) (append-nil (hex_pair b))) ∙ append_assoc (hex_text bs) (hex_pair b) rest

further_step : (bytes rest more : List ℕ) (b : ℕ) → b < 256 → rest ≡ hex_pair b ++ more → (bs cs : List ℕ) → bs ≡ bytes ++ cs → AllBelow 256 cs
    → rest ≡ hex_text cs → (ds : List ℕ) × (bs ≡ (bytes ++ b ∷ []) ++ ds) × AllBelow 256 ds × (more ≡ hex_text ds)
further_step bytes rest more b small cut bs [] is below e = absurd (no_pair b more (sym cut ∙ e))
  where
    no_pair : (b : ℕ) (more : List ℕ) → hex_pair b ++ more ≡ [] → ⊥
    no_pair b more e = cc
further_step bytes rest more b small cut bs (c ∷ cs) is below e =
    let same : (b ≡ c) × (more ≡ hex_text cs) = hex_pair_once b c more (hex_text cs) small below.0 (sym cut ∙ e) in
    (cs, is ∙ ap (λ (z : ℕ). bytes ++ z ∷ cs) (sym same.0) ∙ sym (append_assoc bytes (b ∷ []) cs), below.1, same.1)

pub hex_push : (text bytes bytes' rest more : List ℕ) (b : ℕ) → bytes' ≡ bytes ++ b ∷ [] → b < 256 → rest ≡ hex_pair b ++ more
    → HexSoFar text bytes rest → HexSoFar text bytes' more
hex_push text bytes bytes' rest more b pushed small cut so_far =
    subst (λ (bs : List ℕ). HexSoFar text bs more) (sym pushed) (record {
      split = so_far.split ∙ ap (λ (z : List ℕ). hex_text bytes ++ z) cut ∙ sym (hex_text_push bytes b more);
      below = below_push bytes b so_far.below small;
      further = λ bs h e. (let f : (cs : List ℕ) × (bs ≡ bytes ++ cs) × AllBelow 256 cs × (rest ≡ hex_text cs) = so_far.further bs h e in
          further_step bytes rest more b small cut bs f.0 f.1 f.2 f.3);
    })

pub hex_none : (text bytes rest : List ℕ) → 0 < length rest → ((b : ℕ) (more : List ℕ) → b < 256 → rest ≡ hex_pair b ++ more → ⊥)
    → HexSoFar text bytes rest → (bs : List ℕ) → AllBelow 256 bs → text ≡ hex_text bs → ⊥
hex_none text bytes rest some none so_far bs h e = by_further rest some none (so_far.further bs h e).0 (so_far.further bs h e).2 (so_far.further bs h e).3
  where
    by_further : (rest : List ℕ) → 0 < length rest → ((b : ℕ) (more : List ℕ) → b < 256 → rest ≡ hex_pair b ++ more → ⊥) → (cs : List ℕ) → AllBelow 256 cs → rest ≡ hex_text cs → ⊥
    by_further rest some none [] below e = let empty : length rest ≡ 0 = ap length e in omega arith
    by_further rest some none (c ∷ cs) below e = none c (hex_text cs) below.0 e

pub hex_end : (text bytes rest : List ℕ) → length rest ≡ 0 → HexSoFar text bytes rest → (text ≡ hex_text bytes) × AllBelow 256 bytes
hex_end text bytes [] none so_far = (so_far.split ∙ append-nil (hex_text bytes), so_far.below)
hex_end text bytes (b ∷ bs) none so_far = absurd (omega arith)

-- two digits of a byte
pub pair_of : (high low : ℕ) → high < 16 → low < 16 → hex_pair (16 * high + low) ≡ hex_digit high ∷ hex_digit low ∷ []
pair_of high low h k =
    let a : (16 * high + low) / 16 ≡ high = omega arith in
    let b : (16 * high + low) % 16 ≡ low = omega arith in
    ap (λ (d : ℕ). hex_digit d ∷ hex_digit ((16 * high + low) % 16) ∷ []) a ∙ ap (λ (d : ℕ). hex_digit high ∷ hex_digit d ∷ []) b
