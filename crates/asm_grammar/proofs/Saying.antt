-- What is read of a text is what the text says.
use Rattle.std.proofs.Common.{◌≡◌, ℕ, ◌+◌, ◌-◌, Bool, true, false, List, [], ◌∷◌, ◌++◌, length, drop, Some, refl, sym, ◌∙◌, ap, subst}
use Rattle.std.specs.Prelude.{◌==◌, ◌&&◌, if◌then◌else◌, codes, nat_le}
use Rattle.std.specs.List.{list_all}
use Rattle.std.specs.Str.Parse.{digits_value}
use Rattle.asm_grammar.specs.Text.{front_of, behind}
use Rattle.asm_grammar.specs.Numbers.{is_digit, held, numeral_of, numeral_at, is_hexadecimal, magnitude_at, signed, signed_at, spelled_number_at}
use Rattle.asm_grammar.specs.Values.{is_label_start, is_word_byte, padded, label_of_word, label_at, value_label_at, value_number_at, value_at}
use Rattle.asm_grammar.specs.declared.syntax.Number.{Number}
use Rattle.asm_grammar.specs.declared.syntax.Label.{Label}
use Rattle.asm_grammar.specs.declared.syntax.Value.{Value}
use Rattle.asm_grammar.specs.declared.syntax.Value.TheVariants as values
use Rattle.asm_grammar.proofs.Spelled.{bind_some, some_same, some_if, le_of, both}
use Rattle.asm_grammar.specs.Grammar.{IsMagnitude, Decimal, Hexadecimal, IsNumber, Unsigned, Minus, IsLabel, Name, IsValue, OfNumber, OfLabel}
use Rattle.asm_grammar.proofs.FrontSplits.{Begins, front_all, front_split, eq_of}

-- ---- numbers

-- digits at the front, of a value
record Digits (base : ℕ) (text : List ℕ) (r : ℕ × List ℕ) : Type 0 where
  digit : ℕ
  digits : List ℕ
  all : list_all (is_digit base) (digit ∷ digits) ≡ true
  split : text ≡ (digit ∷ digits) ++ r.1
  value : r.0 ≡ held (digits_value base (digit ∷ digits))

digits_by : (base : ℕ) (text front rest : List ℕ) (r : ℕ × List ℕ) → list_all (is_digit base) front ≡ true → text ≡ front ++ rest
    → numeral_of base front rest ≡ Some r → Digits base text r
digits_by base text [] rest r all split e = absurd (cc)
digits_by base text (digit ∷ digits) rest r all split e =
    let same : (held (digits_value base (digit ∷ digits)), rest) ≡ r = some_same _ _ e in
    record {
      digit = digit;
      digits = digits;
      all = all;
      split = subst (λ (q : ℕ × List ℕ). text ≡ (digit ∷ digits) ++ q.1) same split;
      value = sym (ap (λ (q : ℕ × List ℕ). q.0) same);
    }

digits_at : (base : ℕ) (text : List ℕ) (r : ℕ × List ℕ) → numeral_at base text ≡ Some r → Digits base text r
unfolding numeral_at
digits_at base text r e =
    digits_by base text (front_of (is_digit base) text) (behind (is_digit base) text) r (front_all (is_digit base) text) (front_split (is_digit base) text) e

hexadecimal_text : (text : List ℕ) → is_hexadecimal text ≡ true → text ≡ codes "0x" ++ drop 2 text
hexadecimal_text [] e = absurd (cc)
hexadecimal_text (first ∷ []) e = absurd (cc)
hexadecimal_text (first ∷ second ∷ rest) e =
    let tests = both (first == 48) (second == 120) e in
    ap (λ (b : ℕ). b ∷ second ∷ rest) (eq_of first 48 tests.0) ∙ ap (λ (b : ℕ). 48 ∷ b ∷ rest) (eq_of second 120 tests.1)

magnitude_by : (text : List ℕ) (r : ℕ × List ℕ) (hexadecimal : Bool) → is_hexadecimal text ≡ hexadecimal
    → (if hexadecimal then numeral_at 16 (drop 2 text) else numeral_at 10 text) ≡ Some r → Begins IsMagnitude text r.0 r.1
magnitude_by text r true hex e =
    let d : Digits 16 (drop 2 text) r = digits_at 16 (drop 2 text) r e in
    record {
      front = codes "0x" ++ d.digit ∷ d.digits;
      split = hexadecimal_text text hex ∙ ap (λ (l : List ℕ). codes "0x" ++ l) d.split;
      says = subst (λ (m : ℕ). IsMagnitude (codes "0x" ++ d.digit ∷ d.digits) m) (sym d.value) (Hexadecimal d.all);
    }
magnitude_by text r false hex e =
    let d : Digits 10 text r = digits_at 10 text r e in
    record {
      front = d.digit ∷ d.digits;
      split = d.split;
      says = subst (λ (m : ℕ). IsMagnitude (d.digit ∷ d.digits) m) (sym d.value) (Decimal d.all);
    }

magnitude_says : (text : List ℕ) (r : ℕ × List ℕ) → magnitude_at text ≡ Some r → Begins IsMagnitude text r.0 r.1
unfolding magnitude_at
magnitude_says text r e = magnitude_by text r (is_hexadecimal text) refl e

signed_says : (minus : Bool) (text : List ℕ) (r : Number × List ℕ) → signed_at minus text ≡ Some r
    → (magnitude : ℕ) × Begins IsMagnitude text magnitude r.1 × (r.0 ≡ signed minus magnitude)
unfolding signed_at
signed_says minus text r e =
    let m = bind_some (magnitude_at text) _ r e in
    let same : (signed minus m.0.0, m.0.1) ≡ r = some_same _ _ m.2 in
    (m.0.0, subst (λ (q : Number × List ℕ). Begins IsMagnitude text m.0.0 q.1) same (magnitude_says text m.0 m.1), sym (ap (λ (q : Number × List ℕ). q.0) same))

number_by : (first : ℕ) (rest : List ℕ) (r : Number × List ℕ) (minus : Bool) → (first == 45) ≡ minus
    → (if minus then signed_at true rest else signed_at false (first ∷ rest)) ≡ Some r → Begins IsNumber (first ∷ rest) r.0 r.1
number_by first rest r true sign e =
    let s = signed_says true rest r e in
    let b : Begins IsMagnitude rest s.0 r.1 = s.1 in
    record {
      front = codes "-" ++ b.front;
      split = ap (λ (c : ℕ). c ∷ rest) (eq_of first 45 sign) ∙ ap (λ (l : List ℕ). 45 ∷ l) b.split;
      says = subst (λ (n : Number). IsNumber (codes "-" ++ b.front) n) (sym s.2) (Minus b.says);
    }
number_by first rest r false sign e =
    let s = signed_says false (first ∷ rest) r e in
    let b : Begins IsMagnitude (first ∷ rest) s.0 r.1 = s.1 in
    record { front = b.front; split = b.split; says = subst (λ (n : Number). IsNumber b.front n) (sym s.2) (Unsigned b.says) }

pub number_says : (text : List ℕ) (r : Number × List ℕ) → spelled_number_at text ≡ Some r → Begins IsNumber text r.0 r.1
unfolding spelled_number_at
number_says [] r e = absurd (cc)
number_says (first ∷ rest) r e = number_by first rest r (first == 45) refl e

-- ---- labels and values

label_by : (text word rest : List ℕ) (r : Label × List ℕ) → list_all is_word_byte word ≡ true → text ≡ word ++ rest
    → label_of_word word rest ≡ Some r → Begins IsLabel text r.0 r.1
label_by text [] rest r all split e = absurd (cc)
label_by text (first ∷ more) rest r all split e =
    let found = some_if (is_label_start first && nat_le (length (first ∷ more)) 16) (Some (record { bytes = padded (first ∷ more) }, rest)) r e in
    let tests = both (is_label_start first) (nat_le (length (first ∷ more)) 16) found.0 in
    let same : (record { bytes = padded (first ∷ more) }, rest) ≡ r = some_same _ _ found.1 in
    subst (λ (q : Label × List ℕ). Begins IsLabel text q.0 q.1) same (record {
      front = first ∷ more;
      split = split;
      says = Name tests.0 (both (is_word_byte first) (list_all is_word_byte more) all).1 (le_of (length (first ∷ more)) 16 tests.1);
    })

pub label_says : (text : List ℕ) (r : Label × List ℕ) → label_at text ≡ Some r → Begins IsLabel text r.0 r.1
unfolding label_at
label_says text r e =
    label_by text (front_of is_word_byte text) (behind is_word_byte text) r (front_all is_word_byte text) (front_split is_word_byte text) e

-- one that says something else of the same text
pub retold : {A B : Type 0} {P : List ℕ → A → Type 0} {Q : List ℕ → B → Type 0} (text : List ℕ) (x : A) (y : B) (rest : List ℕ)
    → ((front : List ℕ) → P front x → Q front y) → Begins P text x rest → Begins Q text y rest
retold text x y rest f b = record { front = b.front; split = b.split; says = f b.front b.says }

value_by : (first : ℕ) (rest : List ℕ) (r : Value × List ℕ) (start : Bool)
    → (if start then value_label_at (first ∷ rest) else value_number_at (first ∷ rest)) ≡ Some r → Begins IsValue (first ∷ rest) r.0 r.1
unfolding value_label_at value_number_at
value_by first rest r true e =
    let l = bind_some (label_at (first ∷ rest)) _ r e in
    let same : (values.Label l.0.0, l.0.1) ≡ r = some_same _ _ l.2 in
    subst (λ (q : Value × List ℕ). Begins IsValue (first ∷ rest) q.0 q.1) same
    (retold (first ∷ rest) l.0.0 (values.Label l.0.0) l.0.1 (λ front is. OfLabel is) (label_says (first ∷ rest) l.0 l.1))
value_by first rest r false e =
    let n = bind_some (spelled_number_at (first ∷ rest)) _ r e in
    let same : (values.Number n.0.0, n.0.1) ≡ r = some_same _ _ n.2 in
    subst (λ (q : Value × List ℕ). Begins IsValue (first ∷ rest) q.0 q.1) same
    (retold (first ∷ rest) n.0.0 (values.Number n.0.0) n.0.1 (λ front is. OfNumber is) (number_says (first ∷ rest) n.0 n.1))

pub value_says : (text : List ℕ) (r : Value × List ℕ) → value_at text ≡ Some r → Begins IsValue text r.0 r.1
unfolding value_at
value_says [] r e = absurd (cc)
value_says (first ∷ rest) r e = value_by first rest r (is_label_start first) e
