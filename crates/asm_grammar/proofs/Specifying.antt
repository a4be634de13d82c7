-- An operand that is read of a text is what the text says.
use Rattle.std.proofs.Common.{◌≡◌, ℕ, ◌+◌, ◌-◌, ◌<◌, ◌≤◌, Bool, true, false, not, List, [], ◌∷◌, ◌++◌, Some, None, refl, sym, ◌∙◌, ap, subst, arith, append_assoc}
use Rattle.std.specs.Prelude.{◌==◌, ◌&&◌, if◌then◌else◌, codes}
use Rattle.std.specs.Int.{is_in_range}
use Rattle.std.proofs.lemmas.Bool.Decides.{nat_tests}
use Rattle.asm_grammar.specs.Text.{behind_byte}
use Rattle.asm_grammar.specs.Numbers.{spelled_number_at}
use Rattle.asm_grammar.specs.Values.{value_at}
use Rattle.asm_grammar.specs.Operands.{second_digit, register_number_at, register_at, in_parentheses_at, incremented, deferred_at, decremented_at, increment_deferred_at, absolute_at, marked_size, displacement_at, displaced_at, pointer_at, place_at, index_at, indexed, addressed_at, misindexed_at, unaddressed, literal_at, immediate_at, plain_register_at, specifier_at, target_at, operand_at}
use Rattle.asm_grammar.specs.declared.syntax.Number.{Number}
use Rattle.asm_grammar.specs.declared.syntax.Place.{Place}
use Rattle.asm_grammar.specs.declared.syntax.Place.TheVariants as places
use Rattle.asm_grammar.specs.declared.syntax.Written.{Written}
use Rattle.asm_grammar.specs.declared.syntax.Written.TheVariants as writtens
use Rattle.asm_grammar.proofs.Spelled.{bind_some, some_same, some_if, some_unless, both}
use Rattle.asm_grammar.specs.Grammar.{IsNumber, IsValue, IsRegister, OneDigit, TwoDigits, IsParenthesised, Parentheses, IsMark, OfByte, OfWord, OfLongword, IsAddressed, Deferred, Decremented, Incremented, IncrementedDeferred, Absolute, Displaced, DisplacedDeferred, IsUnaddressed, Literal, Immediate, Register, IsIndex, Brackets, IsSpecified, Unaddressed, Addressed, Indexed, Misindexed, IsOperand, Target, Specified}
use Rattle.asm_grammar.proofs.FrontSplits.{Begins, after_splits, eq_of}
use Rattle.asm_grammar.proofs.Saying.{number_says, value_says, retold}

-- ---- registers

digit_is : (digit : ℕ) → is_in_range 48 57 digit ≡ true → (digit - 48 < 10) × (digit ≡ 48 + (digit - 48))
digit_is digit h = (let d : 48 ≤ digit × digit < 58 = grind (arith, nat_tests) in (omega (arith, d.0, d.1), omega (arith, d.0, d.1)))

-- after the `r` and a 1
second_by : (digit : ℕ) (rest : List ℕ) (r : ℕ × List ℕ) (low : Bool) → is_in_range 48 53 digit ≡ low
    → (if low then Some (10 + (digit - 48), rest) else Some (1, digit ∷ rest)) ≡ Some r → Begins IsRegister (114 ∷ 49 ∷ digit ∷ rest) r.0 r.1
second_by digit rest r true range e =
    let d : 48 ≤ digit × digit < 54 = grind (arith, nat_tests) in
    let small : digit - 48 < 6 = omega (arith, d.0, d.1) in
    let back : digit ≡ 48 + (digit - 48) = omega (arith, d.0, d.1) in
    let same : (10 + (digit - 48), rest) ≡ r = some_same _ _ e in
    subst (λ (q : ℕ × List ℕ). Begins IsRegister (114 ∷ 49 ∷ digit ∷ rest) q.0 q.1) same (record {
      front = codes "r1" ++ (48 + (digit - 48)) ∷ [];
      split = ap (λ (b : ℕ). 114 ∷ 49 ∷ b ∷ rest) back;
      says = TwoDigits small;
    })
second_by digit rest r false range e =
    let same : (1, digit ∷ rest) ≡ r = some_same _ _ e in
    subst (λ (q : ℕ × List ℕ). Begins IsRegister (114 ∷ 49 ∷ digit ∷ rest) q.0 q.1) same (record { front = codes "r1"; split = refl; says = OneDigit {k = 1} (omega arith) })

second_says : (rest : List ℕ) (r : ℕ × List ℕ) → second_digit rest ≡ Some r → Begins IsRegister (114 ∷ 49 ∷ rest) r.0 r.1
second_says [] r e =
    let same : (1, []) ≡ r = some_same _ _ e in
    subst (λ (q : ℕ × List ℕ). Begins IsRegister (114 ∷ 49 ∷ []) q.0 q.1) same (record { front = codes "r1"; split = refl; says = OneDigit {k = 1} (omega arith) })
second_says (digit ∷ rest) r e = second_by digit rest r (is_in_range 48 53 digit) refl e

register_by : (digit : ℕ) (rest : List ℕ) (r : ℕ × List ℕ) (one : Bool) → (digit == 49) ≡ one
    → (if one then second_digit rest else (if is_in_range 48 57 digit then Some (digit - 48, rest) else None)) ≡ Some r
    → Begins IsRegister (114 ∷ digit ∷ rest) r.0 r.1
register_by digit rest r true is e =
    subst (λ (b : ℕ). Begins IsRegister (114 ∷ b ∷ rest) r.0 r.1) (sym (eq_of digit 49 is)) (second_says rest r e)
register_by digit rest r false is e =
    let found = some_if (is_in_range 48 57 digit) (Some (digit - 48, rest)) r e in
    let d = digit_is digit found.0 in
    let same : (digit - 48, rest) ≡ r = some_same _ _ found.1 in
    subst (λ (q : ℕ × List ℕ). Begins IsRegister (114 ∷ digit ∷ rest) q.0 q.1) same (record {
      front = codes "r" ++ (48 + (digit - 48)) ∷ [];
      split = ap (λ (b : ℕ). 114 ∷ b ∷ rest) d.1;
      says = OneDigit d.0;
    })

register_number_says : (text : List ℕ) (r : ℕ × List ℕ) → register_number_at text ≡ Some r → Begins IsRegister (114 ∷ text) r.0 r.1
unfolding register_number_at
register_number_says [] r e = absurd (cc)
register_number_says (digit ∷ rest) r e = register_by digit rest r (digit == 49) refl e

register_says : (text : List ℕ) (r : ℕ × List ℕ) → register_at text ≡ Some r → Begins IsRegister text r.0 r.1
unfolding register_at
register_says text r e =
    let digits = bind_some (behind_byte 114 text) _ r e in
    subst (λ (l : List ℕ). Begins IsRegister l r.0 r.1) (sym (after_splits 114 text digits.0 digits.1)) (register_number_says digits.0 r digits.2)

register_small : (r : List ℕ) (k : ℕ) → IsRegister r k → k < 16
register_small r k (OneDigit small) = omega (arith, small)
register_small r k (TwoDigits small) = omega (arith, small)

parenthesised_small : (p : List ℕ) (k : ℕ) → IsParenthesised p k → k < 16
parenthesised_small p k (Parentheses {r} is) = register_small r k is

parentheses_says : (text : List ℕ) (r : ℕ × List ℕ) → in_parentheses_at text ≡ Some r → Begins IsParenthesised text r.0 r.1
unfolding in_parentheses_at
parentheses_says text r e =
    let inner = bind_some (behind_byte 40 text) _ r e in
    let reg = bind_some (register_at inner.0) _ r inner.2 in
    let close = bind_some (behind_byte 41 reg.0.1) _ r reg.2 in
    let same : (reg.0.0, close.0) ≡ r = some_same _ _ close.2 in
    let b : Begins IsRegister inner.0 reg.0.0 reg.0.1 = register_says inner.0 reg.0 reg.1 in
    subst (λ (q : ℕ × List ℕ). Begins IsParenthesised text q.0 q.1) same (record {
      front = codes "(" ++ b.front ++ codes ")";
      split = after_splits 40 text inner.0 inner.1 ∙ ap (λ (l : List ℕ). 40 ∷ l)
          (b.split ∙ ap (λ (l : List ℕ). b.front ++ l) (after_splits 41 reg.0.1 close.0 close.1) ∙ sym (append_assoc b.front (codes ")") close.0));
      says = Parentheses b.says;
    })

-- ---- places

deferred : (text : List ℕ) (k : ℕ) (rest : List ℕ) → Begins IsParenthesised text k rest → Begins IsAddressed text (places.Deferred k) rest
deferred text k rest b = retold text k (places.Deferred k) rest (λ front says. Deferred says) b

not_pc : (k : ℕ) → not (k == 15) ≡ true → k < 16 → k < 15
not_pc k h small = grind (arith, nat_tests, small)

incremented_by : (text : List ℕ) (k first : ℕ) (rest : List ℕ) (r : Place × List ℕ) (plus : Bool) → Begins IsParenthesised text k (first ∷ rest)
    → ((first == 43) && not (k == 15)) ≡ plus
    → (if plus then Some (places.AutoInc k, rest) else Some (places.Deferred k, first ∷ rest)) ≡ Some r → Begins IsAddressed text r.0 r.1
incremented_by text k first rest r true b is e =
    let tests = both (first == 43) (not (k == 15)) is in
    let same : (places.AutoInc k, rest) ≡ r = some_same _ _ e in
    subst (λ (q : Place × List ℕ). Begins IsAddressed text q.0 q.1) same (record {
      front = b.front ++ codes "+";
      split = b.split ∙ ap (λ (c : ℕ). b.front ++ (c ∷ rest)) (eq_of first 43 tests.0) ∙ sym (append_assoc b.front (codes "+") rest);
      says = Incremented b.says (not_pc k tests.1 (parenthesised_small b.front k b.says));
    })
incremented_by text k first rest r false b is e =
    let same : (places.Deferred k, first ∷ rest) ≡ r = some_same _ _ e in
    subst (λ (q : Place × List ℕ). Begins IsAddressed text q.0 q.1) same (deferred text k (first ∷ rest) b)

incremented_says : (text : List ℕ) (k : ℕ) (rest : List ℕ) (r : Place × List ℕ) → Begins IsParenthesised text k rest → incremented k rest ≡ Some r
    → Begins IsAddressed text r.0 r.1
incremented_says text k [] r b e =
    let same : (places.Deferred k, []) ≡ r = some_same _ _ e in
    subst (λ (q : Place × List ℕ). Begins IsAddressed text q.0 q.1) same (deferred text k [] b)
incremented_says text k (first ∷ rest) r b e = incremented_by text k first rest r ((first == 43) && not (k == 15)) b refl e

deferred_says : (text : List ℕ) (r : Place × List ℕ) → deferred_at text ≡ Some r → Begins IsAddressed text r.0 r.1
unfolding deferred_at
deferred_says text r e =
    let reg = bind_some (in_parentheses_at text) _ r e in
    incremented_says text reg.0.0 reg.0.1 r (parentheses_says text reg.0 reg.1) reg.2

decremented_says : (text : List ℕ) (r : Place × List ℕ) → decremented_at text ≡ Some r → Begins IsAddressed (45 ∷ text) r.0 r.1
unfolding decremented_at
decremented_says text r e =
    let reg = bind_some (in_parentheses_at text) _ r e in
    let b : Begins IsParenthesised text reg.0.0 reg.0.1 = parentheses_says text reg.0 reg.1 in
    let same : (places.AutoDec reg.0.0, reg.0.1) ≡ r = some_same _ _ reg.2 in
    subst (λ (q : Place × List ℕ). Begins IsAddressed (45 ∷ text) q.0 q.1) same
    (record { front = codes "-" ++ b.front; split = ap (λ (l : List ℕ). 45 ∷ l) b.split; says = Decremented b.says })

other_pc : (k : ℕ) → (k == 15) ≡ false → k < 16 → k < 15
other_pc k h small = grind (arith, nat_tests, small)

increment_deferred_says : (text : List ℕ) (r : Place × List ℕ) → increment_deferred_at text ≡ Some r → Begins IsAddressed (42 ∷ text) r.0 r.1
unfolding increment_deferred_at
increment_deferred_says text r e =
    let reg = bind_some (in_parentheses_at text) _ r e in
    let b : Begins IsParenthesised text reg.0.0 reg.0.1 = parentheses_says text reg.0 reg.1 in
    let plus = bind_some (behind_byte 43 reg.0.1) _ r reg.2 in
    let found = some_unless (reg.0.0 == 15) (Some (places.AutoIncDef reg.0.0, plus.0)) r plus.2 in
    let same : (places.AutoIncDef reg.0.0, plus.0) ≡ r = some_same _ _ found.1 in
    subst (λ (q : Place × List ℕ). Begins IsAddressed (42 ∷ text) q.0 q.1) same (record {
      front = codes "*" ++ b.front ++ codes "+";
      split = ap (λ (l : List ℕ). 42 ∷ l)
          (b.split ∙ ap (λ (l : List ℕ). b.front ++ l) (after_splits 43 reg.0.1 plus.0 plus.1) ∙ sym (append_assoc b.front (codes "+") plus.0));
      says = IncrementedDeferred b.says (other_pc reg.0.0 found.0 (parenthesised_small b.front reg.0.0 b.says));
    })

absolute_says : (text : List ℕ) (r : Place × List ℕ) → absolute_at text ≡ Some r → Begins IsAddressed (42 ∷ 36 ∷ text) r.0 r.1
unfolding absolute_at
absolute_says text r e =
    let x = bind_some (value_at text) _ r e in
    let b : Begins IsValue text x.0.0 x.0.1 = value_says text x.0 x.1 in
    let same : (places.Absolute x.0.0, x.0.1) ≡ r = some_same _ _ x.2 in
    subst (λ (q : Place × List ℕ). Begins IsAddressed (42 ∷ 36 ∷ text) q.0 q.1) same (record {
      front = codes "*$" ++ b.front;
      split = ap (λ (l : List ℕ). 42 ∷ 36 ∷ l) b.split;
      says = Absolute b.says;
    })

-- ---- displacements

mark_by : (mark size : ℕ) (b w l : Bool) → (mark == 98) ≡ b → (mark == 119) ≡ w → (mark == 108) ≡ l
    → (if b then Some 1 else (if w then Some 2 else (if l then Some 4 else None))) ≡ Some size → IsMark (mark ∷ codes "^") size
mark_by mark size true w l is_b is_w is_l e =
    subst (λ (s : ℕ). IsMark (mark ∷ codes "^") s) (some_same _ _ e) (subst (λ (m : ℕ). IsMark (m ∷ codes "^") 1) (sym (eq_of mark 98 is_b)) OfByte)
mark_by mark size false true l is_b is_w is_l e =
    subst (λ (s : ℕ). IsMark (mark ∷ codes "^") s) (some_same _ _ e) (subst (λ (m : ℕ). IsMark (m ∷ codes "^") 2) (sym (eq_of mark 119 is_w)) OfWord)
mark_by mark size false false true is_b is_w is_l e =
    subst (λ (s : ℕ). IsMark (mark ∷ codes "^") s) (some_same _ _ e) (subst (λ (m : ℕ). IsMark (m ∷ codes "^") 4) (sym (eq_of mark 108 is_l)) OfLongword)
mark_by mark size false false false is_b is_w is_l e = absurd (cc)

-- a displacement at the front
record Displacement (text : List ℕ) (deferred : Bool) (r : Place × List ℕ) : Type 0 where
  mark : List ℕ
  number : List ℕ
  register : List ℕ
  size : ℕ
  by : Number
  k : ℕ
  is_mark : IsMark mark size
  is_number : IsNumber number by
  is_register : IsParenthesised register k
  split : text ≡ (mark ++ number ++ register) ++ r.1
  place : places.Disp size k by deferred ≡ r.0

displacement_split : (mark : ℕ) (rest caret number reg p back : List ℕ) → rest ≡ 94 ∷ caret → caret ≡ number ++ reg → reg ≡ p ++ back
    → mark ∷ rest ≡ ((mark ∷ codes "^") ++ number ++ p) ++ back
displacement_split mark rest caret number reg p back e f g =
    ap (λ (l : List ℕ). mark ∷ l) (e ∙ ap (λ (l : List ℕ). 94 ∷ l) (f ∙ ap (λ (l : List ℕ). number ++ l) g ∙ sym (append_assoc number p back)))

displacement_by : (deferred : Bool) (mark : ℕ) (rest : List ℕ) (r : Place × List ℕ) (size : ℕ) → IsMark (mark ∷ codes "^") size
    → displacement_at size deferred rest ≡ Some r → Displacement (mark ∷ rest) deferred r
unfolding displacement_at
displacement_by deferred mark rest r size is_mark e =
    let caret = bind_some (behind_byte 94 rest) _ r e in
    let by = bind_some (spelled_number_at caret.0) _ r caret.2 in
    let reg = bind_some (in_parentheses_at by.0.1) _ r by.2 in
    let n : Begins IsNumber caret.0 by.0.0 by.0.1 = number_says caret.0 by.0 by.1 in
    let p : Begins IsParenthesised by.0.1 reg.0.0 reg.0.1 = parentheses_says by.0.1 reg.0 reg.1 in
    let same : (places.Disp size reg.0.0 by.0.0 deferred, reg.0.1) ≡ r = some_same _ _ reg.2 in
    subst (λ (q : Place × List ℕ). Displacement (mark ∷ rest) deferred q) same (record {
      mark = mark ∷ codes "^";
      number = n.front;
      register = p.front;
      size = size;
      by = by.0.0;
      k = reg.0.0;
      is_mark = is_mark;
      is_number = n.says;
      is_register = p.says;
      split = displacement_split mark rest caret.0 n.front by.0.1 p.front reg.0.1 (after_splits 94 rest caret.0 caret.1) n.split p.split;
      place = refl;
    })

displaced_says : (deferred : Bool) (text : List ℕ) (r : Place × List ℕ) → displaced_at deferred text ≡ Some r → Displacement text deferred r
unfolding displaced_at
displaced_says deferred [] r e = absurd (cc)
displaced_says deferred (mark ∷ rest) r e =
    let size = bind_some (marked_size mark) _ r e in
    displacement_by deferred mark rest r size.0 (mark_by mark size.0 (mark == 98) (mark == 119) (mark == 108) refl refl refl size.1) size.2

displacement : (text : List ℕ) (r : Place × List ℕ) → Displacement text false r → Begins IsAddressed text r.0 r.1
displacement text r d = record {
  front = d.mark ++ d.number ++ d.register;
  split = d.split;
  says = subst (λ (p : Place). IsAddressed (d.mark ++ d.number ++ d.register) p) d.place (Displaced d.is_mark d.is_number d.is_register);
}

deferred_displacement : (text : List ℕ) (r : Place × List ℕ) → Displacement text true r → Begins IsAddressed (42 ∷ text) r.0 r.1
deferred_displacement text r d = record {
  front = codes "*" ++ d.mark ++ d.number ++ d.register;
  split = ap (λ (l : List ℕ). 42 ∷ l) d.split;
  says = subst (λ (p : Place). IsAddressed (codes "*" ++ d.mark ++ d.number ++ d.register) p) d.place (DisplacedDeferred d.is_mark d.is_number d.is_register);
}

-- ---- by the first byte

pointer_by : (first : ℕ) (rest : List ℕ) (r : Place × List ℕ) (dollar bracket : Bool) → (first == 36) ≡ dollar
    → (if dollar then absolute_at rest else (if bracket then increment_deferred_at (first ∷ rest) else displaced_at true (first ∷ rest))) ≡ Some r
    → Begins IsAddressed (42 ∷ first ∷ rest) r.0 r.1
pointer_by first rest r true bracket is e =
    subst (λ (b : ℕ). Begins IsAddressed (42 ∷ b ∷ rest) r.0 r.1) (sym (eq_of first 36 is)) (absolute_says rest r e)
pointer_by first rest r false true is e = increment_deferred_says (first ∷ rest) r e
pointer_by first rest r false false is e = deferred_displacement (first ∷ rest) r (displaced_says true (first ∷ rest) r e)

pointer_says : (text : List ℕ) (r : Place × List ℕ) → pointer_at text ≡ Some r → Begins IsAddressed (42 ∷ text) r.0 r.1
unfolding pointer_at
pointer_says [] r e = absurd (cc)
pointer_says (first ∷ rest) r e = pointer_by first rest r (first == 36) (first == 40) refl e

place_by : (first : ℕ) (rest : List ℕ) (r : Place × List ℕ) (bracket minus star : Bool) → (first == 45) ≡ minus → (first == 42) ≡ star
    → (if bracket then deferred_at (first ∷ rest)
    else (if minus then decremented_at rest
    else (if star then pointer_at rest
    else displaced_at false (first ∷ rest)))) ≡ Some r
    → Begins IsAddressed (first ∷ rest) r.0 r.1
place_by first rest r true minus star is_minus is_star e = deferred_says (first ∷ rest) r e
place_by first rest r false true star is_minus is_star e =
    subst (λ (b : ℕ). Begins IsAddressed (b ∷ rest) r.0 r.1) (sym (eq_of first 45 is_minus)) (decremented_says rest r e)
place_by first rest r false false true is_minus is_star e =
    subst (λ (b : ℕ). Begins IsAddressed (b ∷ rest) r.0 r.1) (sym (eq_of first 42 is_star)) (pointer_says rest r e)
place_by first rest r false false false is_minus is_star e = displacement (first ∷ rest) r (displaced_says false (first ∷ rest) r e)

place_says : (text : List ℕ) (r : Place × List ℕ) → place_at text ≡ Some r → Begins IsAddressed text r.0 r.1
unfolding place_at
place_says [] r e = absurd (cc)
place_says (first ∷ rest) r e = place_by first rest r (first == 40) (first == 45) (first == 42) refl refl e

-- ---- operands

-- `rK]` after the `[`
bracket_says : (text : List ℕ) (reg : ℕ × List ℕ) (rest : List ℕ) → register_at text ≡ Some reg → behind_byte 93 reg.1 ≡ Some rest
    → Begins IsIndex (91 ∷ text) reg.0 rest
bracket_says text reg rest e close =
    let b : Begins IsRegister text reg.0 reg.1 = register_says text reg e in
    record {
      front = codes "[" ++ b.front ++ codes "]";
      split = ap (λ (l : List ℕ). 91 ∷ l) (b.split ∙ ap (λ (l : List ℕ). b.front ++ l) (after_splits 93 reg.1 rest close) ∙ sym (append_assoc b.front (codes "]") rest));
      says = Brackets b.says;
    }

-- one text after another
joined : (text one rest two back : List ℕ) → text ≡ one ++ rest → rest ≡ two ++ back → text ≡ (one ++ two) ++ back
joined text one rest two back e f = e ∙ ap (λ (l : List ℕ). one ++ l) f ∙ sym (append_assoc one two back)

indexed_by : (text : List ℕ) (place : Place) (first : ℕ) (rest : List ℕ) (r : Written × List ℕ) (bracket : Bool) → (first == 91) ≡ bracket
    → Begins IsAddressed text place (first ∷ rest)
    → (if bracket then index_at place rest else Some (writtens.Plain place, first ∷ rest)) ≡ Some r → Begins IsSpecified text r.0 r.1
unfolding index_at
indexed_by text place first rest r true is b e =
    let reg = bind_some (register_at rest) _ r e in
    let close = bind_some (behind_byte 93 reg.0.1) _ r reg.2 in
    let i : Begins IsIndex (91 ∷ rest) reg.0.0 close.0 = bracket_says rest reg.0 close.0 reg.1 close.1 in
    let same : (writtens.Indexed reg.0.0 place, close.0) ≡ r = some_same _ _ close.2 in
    subst (λ (q : Written × List ℕ). Begins IsSpecified text q.0 q.1) same (record {
      front = b.front ++ i.front;
      split = joined text b.front (first ∷ rest) i.front close.0 b.split (ap (λ (c : ℕ). c ∷ rest) (eq_of first 91 is) ∙ i.split);
      says = Indexed b.says i.says;
    })
indexed_by text place first rest r false is b e =
    let same : (writtens.Plain place, first ∷ rest) ≡ r = some_same _ _ e in
    subst (λ (q : Written × List ℕ). Begins IsSpecified text q.0 q.1) same
    (retold text place (writtens.Plain place) (first ∷ rest) (λ front says. Addressed says) b)

indexed_says : (text : List ℕ) (place : Place) (rest : List ℕ) (r : Written × List ℕ) → Begins IsAddressed text place rest
    → indexed place rest ≡ Some r → Begins IsSpecified text r.0 r.1
indexed_says text place [] r b e =
    let same : (writtens.Plain place, []) ≡ r = some_same _ _ e in
    subst (λ (q : Written × List ℕ). Begins IsSpecified text q.0 q.1) same (retold text place (writtens.Plain place) [] (λ front says. Addressed says) b)
indexed_says text place (first ∷ rest) r b e = indexed_by text place first rest r (first == 91) refl b e

addressed_says : (text : List ℕ) (r : Written × List ℕ) → addressed_at text ≡ Some r → Begins IsSpecified text r.0 r.1
unfolding addressed_at
addressed_says text r e =
    let p = bind_some (place_at text) _ r e in
    indexed_says text p.0.0 p.0.1 r (place_says text p.0 p.1) p.2

unaddressed_by : (text : List ℕ) (immediate : Bool) (written : Written) (first : ℕ) (rest : List ℕ) (r : Written × List ℕ) (bracket : Bool)
    → (first == 91) ≡ bracket → Begins (λ front w. IsUnaddressed front immediate w) text written (first ∷ rest)
    → (if bracket then misindexed_at immediate rest else Some (written, first ∷ rest)) ≡ Some r → Begins IsSpecified text r.0 r.1
unfolding misindexed_at
unaddressed_by text immediate written first rest r true is b e =
    let reg = bind_some (register_at rest) _ r e in
    let close = bind_some (behind_byte 93 reg.0.1) _ r reg.2 in
    let i : Begins IsIndex (91 ∷ rest) reg.0.0 close.0 = bracket_says rest reg.0 close.0 reg.1 close.1 in
    let same : (writtens.Misindexed immediate, close.0) ≡ r = some_same _ _ close.2 in
    subst (λ (q : Written × List ℕ). Begins IsSpecified text q.0 q.1) same (record {
      front = b.front ++ i.front;
      split = joined text b.front (first ∷ rest) i.front close.0 b.split (ap (λ (c : ℕ). c ∷ rest) (eq_of first 91 is) ∙ i.split);
      says = Misindexed b.says i.says;
    })
unaddressed_by text immediate written first rest r false is b e =
    let same : (written, first ∷ rest) ≡ r = some_same _ _ e in
    subst (λ (q : Written × List ℕ). Begins IsSpecified text q.0 q.1) same (retold text written written (first ∷ rest) (λ front says. Unaddressed says) b)

unaddressed_says : (text : List ℕ) (immediate : Bool) (written : Written) (rest : List ℕ) (r : Written × List ℕ)
    → Begins (λ front w. IsUnaddressed front immediate w) text written rest → unaddressed immediate written rest ≡ Some r
    → Begins IsSpecified text r.0 r.1
unaddressed_says text immediate written [] r b e =
    let same : (written, []) ≡ r = some_same _ _ e in
    subst (λ (q : Written × List ℕ). Begins IsSpecified text q.0 q.1) same (retold text written written [] (λ front says. Unaddressed says) b)
unaddressed_says text immediate written (first ∷ rest) r b e = unaddressed_by text immediate written first rest r (first == 91) refl b e

literal_says : (text : List ℕ) (r : Written × List ℕ) → literal_at text ≡ Some r → Begins IsSpecified (36 ∷ text) r.0 r.1
unfolding literal_at
literal_says text r e =
    let n = bind_some (spelled_number_at text) _ r e in
    let b : Begins IsNumber text n.0.0 n.0.1 = number_says text n.0 n.1 in
    unaddressed_says (36 ∷ text) false (writtens.Literal n.0.0) n.0.1 r
    (record { front = codes "$" ++ b.front; split = ap (λ (l : List ℕ). 36 ∷ l) b.split; says = Literal b.says }) n.2

immediate_says : (text : List ℕ) (r : Written × List ℕ) → immediate_at text ≡ Some r → Begins IsSpecified (105 ∷ text) r.0 r.1
unfolding immediate_at
immediate_says text r e =
    let caret = bind_some (behind_byte 94 text) _ r e in
    let dollar = bind_some (behind_byte 36 caret.0) _ r caret.2 in
    let x = bind_some (value_at dollar.0) _ r dollar.2 in
    let b : Begins IsValue dollar.0 x.0.0 x.0.1 = value_says dollar.0 x.0 x.1 in
    unaddressed_says (105 ∷ text) true (writtens.Immediate x.0.0) x.0.1 r (record {
      front = codes "i^$" ++ b.front;
      split = ap (λ (l : List ℕ). 105 ∷ l) (after_splits 94 text caret.0 caret.1
          ∙ ap (λ (l : List ℕ). 94 ∷ l) (after_splits 36 caret.0 dollar.0 dollar.1 ∙ ap (λ (l : List ℕ). 36 ∷ l) b.split));
      says = Immediate b.says;
    }) x.2

plain_register_says : (text : List ℕ) (r : Written × List ℕ) → plain_register_at text ≡ Some r → Begins IsSpecified text r.0 r.1
unfolding plain_register_at
plain_register_says text r e =
    let reg = bind_some (register_at text) _ r e in
    let b : Begins IsRegister text reg.0.0 reg.0.1 = register_says text reg.0 reg.1 in
    unaddressed_says text false (writtens.Register reg.0.0) reg.0.1 r (record { front = b.front; split = b.split; says = Register b.says }) reg.2

specified_by : (first : ℕ) (rest : List ℕ) (r : Written × List ℕ) (dollar i letter : Bool) → (first == 36) ≡ dollar → (first == 105) ≡ i
    → (if dollar then literal_at rest
    else (if i then immediate_at rest
    else (if letter then plain_register_at (first ∷ rest)
    else addressed_at (first ∷ rest)))) ≡ Some r
    → Begins IsSpecified (first ∷ rest) r.0 r.1
specified_by first rest r true i letter is_dollar is_i e =
    subst (λ (b : ℕ). Begins IsSpecified (b ∷ rest) r.0 r.1) (sym (eq_of first 36 is_dollar)) (literal_says rest r e)
specified_by first rest r false true letter is_dollar is_i e =
    subst (λ (b : ℕ). Begins IsSpecified (b ∷ rest) r.0 r.1) (sym (eq_of first 105 is_i)) (immediate_says rest r e)
specified_by first rest r false false true is_dollar is_i e = plain_register_says (first ∷ rest) r e
specified_by first rest r false false false is_dollar is_i e = addressed_says (first ∷ rest) r e

specified_says : (text : List ℕ) (r : Written × List ℕ) → specifier_at text ≡ Some r → Begins IsSpecified text r.0 r.1
unfolding specifier_at
specified_says [] r e = absurd (cc)
specified_says (first ∷ rest) r e = specified_by first rest r (first == 36) (first == 105) (first == 114) refl refl e

target_says : (text : List ℕ) (r : Written × List ℕ) → target_at text ≡ Some r → Begins (IsOperand true) text r.0 r.1
unfolding target_at
target_says text r e =
    let x = bind_some (value_at text) _ r e in
    let same : (writtens.Target x.0.0, x.0.1) ≡ r = some_same _ _ x.2 in
    subst (λ (q : Written × List ℕ). Begins (IsOperand true) text q.0 q.1) same
    (retold text x.0.0 (writtens.Target x.0.0) x.0.1 (λ front says. Target says) (value_says text x.0 x.1))

pub operand_says : (branch : Bool) (text : List ℕ) (r : Written × List ℕ) → operand_at branch text ≡ Some r → Begins (IsOperand branch) text r.0 r.1
unfolding operand_at
operand_says true text r e = target_says text r e
operand_says false text r e = retold text r.0 r.0 r.1 (λ front says. Specified says) (specified_says text r e)
