-- What is written of an instruction is a text of the grammar, which says the instruction.
use Rattle.std.proofs.Common.{◌≡◌, ◌⊎◌, inl, inr, ℕ, zero, suc, ◌+◌, ◌-◌, ◌*◌, ◌/◌, ◌%◌, ◌<◌, Bool, true, false, List, [], ◌∷◌, ◌++◌, length, Some, refl, sym, ◌∙◌, ap, subst, arith, append_assoc, length-append}
use Rattle.std.specs.Prelude.{if◌then◌else◌, nat_lt, codes, min}
use Rattle.std.specs.Char.{digit_value}
use Rattle.std.specs.List.{list_all}
use Rattle.std.specs.Str.Parse.{digits_value}
use Rattle.std.proofs.lemmas.Int.Digits.{digits_value_push}
use Rattle.std.proofs.lemmas.List.Folds.{list_all-append}
use Rattle.std.proofs.lemmas.Bool.Decides.{nat_tests}
use Rattle.vax_code.specs.declared.table.Row.{Row}
use Rattle.vax_code.specs.Table.{row_for, slot_in}
use Rattle.vax_code.specs.Operands.{is_branch}
use Rattle.asm_grammar.specs.Numbers.{is_digit, held, signed}
use Rattle.asm_grammar.specs.Mnemonics.{mnemonic}
use Rattle.asm_grammar.specs.Sentences.{separator}
use Rattle.asm_grammar.specs.declared.syntax.Number.{Number}
use Rattle.asm_grammar.specs.declared.syntax.Value.{Value}
use Rattle.asm_grammar.specs.declared.syntax.Value.TheVariants as values
use Rattle.asm_grammar.specs.declared.syntax.Place.{Place}
use Rattle.asm_grammar.specs.declared.syntax.Place.TheVariants as places
use Rattle.asm_grammar.specs.declared.syntax.Written.{Written}
use Rattle.asm_grammar.specs.declared.syntax.Written.TheVariants as writtens
use Rattle.asm_grammar.specs.declared.syntax.Sentence.{Sentence}
use Rattle.asm_grammar.proofs.Spelled.{lt_of, ge_of}
use Rattle.asm_grammar.specs.Grammar.{IsMagnitude, Hexadecimal, IsNumber, Unsigned, Minus, IsValue, OfNumber, IsRegister, OneDigit, TwoDigits, IsParenthesised, Parentheses, IsMark, OfByte, OfWord, OfLongword, IsAddressed, Deferred, Decremented, Incremented, IncrementedDeferred, Absolute, Displaced, DisplacedDeferred, Literal, Immediate, Register, Brackets, IsSpecified, Unaddressed, Addressed, Indexed, IsOperand, Target, Specified, IsInPlace, Present, Lacking, IsInstructionText, Mnemonic}
use Rattle.vax_disasm.specs.Showing.{hexadecimal_digit, hexadecimal, sign_text, number_text, value_text, register_text, parenthesised_text, star_text, displacement_text, place_text, written_text, row_place_text, sentence_text}
use Rattle.vax_disasm.proofs.Respelled.{GoodNumber, GoodValue, GoodPlace, GoodSpecifier, GoodTarget, GoodOperand, GoodPlaceOfRow}

-- ---- numbers

digit_is : (d : ℕ) → d < 16 → is_digit 16 (hexadecimal_digit d) ≡ true
digit_is d h = grind (arith, nat_tests)

digit_worth : (d : ℕ) → d < 16 → digit_value (hexadecimal_digit d) ≡ d
digit_worth d h = grind (arith, nat_tests)

digits_by : (k n : ℕ) (t : Bool) → nat_lt n 16 ≡ t → list_all (is_digit 16) (hexadecimal k (n / 16)) ≡ true
    → list_all (is_digit 16) (if t then hexadecimal_digit n ∷ [] else hexadecimal k (n / 16) ++ (hexadecimal_digit (n % 16) ∷ [])) ≡ true
digits_by k n true e h = rw (digit_is n (lt_of n 16 e)) refl
digits_by k n false e h =
    list_all-append (is_digit 16) (hexadecimal k (n / 16)) (hexadecimal_digit (n % 16) ∷ []) ∙ rw h (rw (digit_is (n % 16) (omega arith)) refl)

hexadecimal_digits : (k n : ℕ) → list_all (is_digit 16) (hexadecimal k n) ≡ true
hexadecimal_digits zero n = refl
hexadecimal_digits (suc k) n = digits_by k n (nat_lt n 16) refl (hexadecimal_digits k (n / 16))

-- so many digits hold the number
abbrev HasPlaces : ℕ → ℕ → Type 0
HasPlaces zero n = n ≡ 0
HasPlaces (suc k) n = HasPlaces k (n / 16)

value_by : (k n : ℕ) (t : Bool) → nat_lt n 16 ≡ t → digits_value 16 (hexadecimal k (n / 16)) ≡ n / 16
    → digits_value 16 (if t then hexadecimal_digit n ∷ [] else hexadecimal k (n / 16) ++ (hexadecimal_digit (n % 16) ∷ [])) ≡ n
value_by k n true e h = (let worth : digit_value (hexadecimal_digit n) ≡ n = digit_worth n (lt_of n 16 e) in omega (arith, worth))
value_by k n false e h =
    let last : digit_value (hexadecimal_digit (n % 16)) ≡ n % 16 = digit_worth (n % 16) (omega arith) in
    digits_value_push 16 (hexadecimal k (n / 16)) (hexadecimal_digit (n % 16)) ∙ ap (λ (v : ℕ). v * 16 + digit_value (hexadecimal_digit (n % 16))) h
    ∙ ap (λ (v : ℕ). n / 16 * 16 + v) last ∙ (omega arith)

hexadecimal_value : (k n : ℕ) → HasPlaces k n → digits_value 16 (hexadecimal k n) ≡ n
hexadecimal_value zero n h = sym h
hexadecimal_value (suc k) n h = value_by k n (nat_lt n 16) refl (hexadecimal_value k (n / 16) h)

eight_places : (n : ℕ) → n < 4294967296 → HasPlaces 8 n
eight_places n h = omega arith

some_by : (k n : ℕ) (t : Bool) → 0 < length (if t then hexadecimal_digit n ∷ [] else hexadecimal k (n / 16) ++ (hexadecimal_digit (n % 16) ∷ []))
some_by k n true = omega arith
some_by k n false = omega (arith, length-append (hexadecimal k (n / 16)) (hexadecimal_digit (n % 16) ∷ []))

magnitude_by : (digits : List ℕ) (n : ℕ) → 0 < length digits → list_all (is_digit 16) digits ≡ true → digits_value 16 digits ≡ n → n < 4294967296
    → IsMagnitude (codes "0x" ++ digits) n
magnitude_by [] n some all e small = absurd (omega (arith, some))
magnitude_by (digit ∷ digits) n some all e small =
    let least : min n 4294967296 ≡ n = omega arith in
    subst (λ (m : ℕ). IsMagnitude (codes "0x" ++ digit ∷ digits) m) (ap held e ∙ least) (Hexadecimal all)

magnitude_says : (n : ℕ) → n < 4294967296 → IsMagnitude (codes "0x" ++ hexadecimal 8 n) n
magnitude_says n small =
    magnitude_by (hexadecimal 8 n) n (some_by 7 n (nat_lt n 16)) (hexadecimal_digits 8 n) (hexadecimal_value 8 n (eight_places n small)) small

number_by : (negative : Bool) (n : ℕ) → n < 4294967296 → IsNumber (sign_text negative ++ (codes "0x" ++ hexadecimal 8 n)) (signed negative n)
number_by true n small = Minus (magnitude_says n small)
number_by false n small = Unsigned (magnitude_says n small)

number_says : (number : Number) → GoodNumber number → IsNumber (number_text number) number
unfolding number_text
number_says number good =
    subst (λ (n : Number). IsNumber (sign_text number.negative ++ (codes "0x" ++ hexadecimal 8 number.magnitude)) n) good.1 (number_by number.negative number.magnitude good.0)

value_says : (value : Value) → GoodValue value → IsValue (value_text value) value
unfolding value_text
value_says (values.Number number) good = OfNumber (number_says number good)
value_says (values.Label label) good = absurd good

-- ---- operands

register_by : (k : ℕ) (t : Bool) → nat_lt k 10 ≡ t → k < 16
    → IsRegister (codes "r" ++ (if t then (48 + k) ∷ [] else (48 + k / 10) ∷ (48 + k % 10) ∷ [])) k
register_by k true e small = OneDigit (lt_of k 10 e)
register_by k false e small =
    let large = ge_of k 10 e in
    let tens : 1 ≡ k / 10 = omega (arith, large) in
    let units : k - 10 ≡ k % 10 = omega (arith, large) in
    let back : 10 + (k - 10) ≡ k = omega (arith, large) in
    let few : k - 10 < 6 = omega (arith, large) in
    subst (λ (n : ℕ). IsRegister (114 ∷ (48 + k / 10) ∷ (48 + k % 10) ∷ []) n) back
    (subst (λ (a : ℕ). IsRegister (114 ∷ (48 + a) ∷ (48 + k % 10) ∷ []) (10 + (k - 10))) tens
    (subst (λ (b : ℕ). IsRegister (114 ∷ 49 ∷ (48 + b) ∷ []) (10 + (k - 10))) units (TwoDigits few)))

register_says : (k : ℕ) → k < 16 → IsRegister (register_text k) k
unfolding register_text
register_says k small = register_by k (nat_lt k 10) refl small

parentheses_say : (k : ℕ) → k < 16 → IsParenthesised (parenthesised_text k) k
unfolding parenthesised_text
parentheses_say k small = Parentheses (register_says k small)

below_sixteen : (k : ℕ) → k < 15 → k < 16
below_sixteen k h = omega (arith, h)

displaced : (m n p : List ℕ) (size k : ℕ) (number : Number) (deferred : Bool) → IsMark m size → IsNumber n number → IsParenthesised p k
    → IsAddressed (star_text deferred ++ (m ++ n ++ p)) (places.Disp size k number deferred)
displaced m n p size k number true mark is reg = DisplacedDeferred mark is reg
displaced m n p size k number false mark is reg = Displaced mark is reg

displacement_says : (size k : ℕ) (by : Number) (deferred : Bool) → (size ≡ 1) ⊎ (size ≡ 2) ⊎ (size ≡ 4) → k < 16 → GoodNumber by
    → IsAddressed (star_text deferred ++ displacement_text size k by) (places.Disp size k by deferred)
unfolding displacement_text
displacement_says size k by deferred (inl e) small good =
    subst (λ (s : ℕ). IsAddressed (star_text deferred ++ displacement_text s k by) (places.Disp s k by deferred)) (sym e)
    (displaced (codes "b^") (number_text by) (parenthesised_text k) 1 k by deferred OfByte (number_says by good) (parentheses_say k small))
displacement_says size k by deferred (inr (inl e)) small good =
    subst (λ (s : ℕ). IsAddressed (star_text deferred ++ displacement_text s k by) (places.Disp s k by deferred)) (sym e)
    (displaced (codes "w^") (number_text by) (parenthesised_text k) 2 k by deferred OfWord (number_says by good) (parentheses_say k small))
displacement_says size k by deferred (inr (inr e)) small good =
    subst (λ (s : ℕ). IsAddressed (star_text deferred ++ displacement_text s k by) (places.Disp s k by deferred)) (sym e)
    (displaced (codes "l^") (number_text by) (parenthesised_text k) 4 k by deferred OfLongword (number_says by good) (parentheses_say k small))

place_says : (place : Place) → GoodPlace place → IsAddressed (place_text place) place
unfolding place_text
place_says (places.Deferred k) good = Deferred (parentheses_say k (below_sixteen k good))
place_says (places.AutoDec k) good = Decremented (parentheses_say k (below_sixteen k good))
place_says (places.AutoInc k) good = Incremented (parentheses_say k (below_sixteen k good)) good
place_says (places.AutoIncDef k) good = IncrementedDeferred (parentheses_say k (below_sixteen k good)) good
place_says (places.Absolute address) good = Absolute (value_says address good)
place_says (places.Disp size k by deferred) good = displacement_says size k by deferred good.0 good.1 good.2

specified_says : (written : Written) → GoodSpecifier written → IsSpecified (written_text written) written
unfolding written_text
specified_says writtens.Absent good = absurd good
specified_says (writtens.Literal number) good = Unaddressed (Literal (number_says number good))
specified_says (writtens.Register k) good = Unaddressed (Register (register_says k (below_sixteen k good)))
specified_says (writtens.Immediate value) good = Unaddressed (Immediate (value_says value good))
specified_says (writtens.Plain place) good = Addressed (place_says place good)
specified_says (writtens.Indexed index base) good = Indexed (place_says base good.1) (Brackets (register_says index (below_sixteen index good.0)))
specified_says (writtens.Misindexed immediate) good = absurd good
specified_says (writtens.Target target) good = absurd good

target_says : (written : Written) → GoodTarget written → IsOperand true (written_text written) written
unfolding written_text
target_says writtens.Absent good = absurd good
target_says (writtens.Literal number) good = absurd good
target_says (writtens.Register k) good = absurd good
target_says (writtens.Immediate value) good = absurd good
target_says (writtens.Plain place) good = absurd good
target_says (writtens.Indexed index base) good = absurd good
target_says (writtens.Misindexed immediate) good = absurd good
target_says (writtens.Target target) good = Target (value_says target good)

operand_says : (branch : Bool) (written : Written) → GoodOperand branch written → IsOperand branch (written_text written) written
operand_says true written good = target_says written good
operand_says false written good = Specified (specified_says written good)

-- ---- instructions

place_by : (row : Row) (place : ℕ) (here : Bool) (written : Written) → nat_lt place row.count ≡ here
    → GoodPlaceOfRow here (is_branch (slot_in row place).access) written
    → IsInPlace row place (if here then separator place ∷ written_text written else []) written
place_by row place true written here good = Present (lt_of place row.count here) (operand_says (is_branch (slot_in row place).access) written good)
place_by row place false written past good = subst (λ (w : Written). IsInPlace row place [] w) (sym good) (Lacking (ge_of place row.count past))

in_place_says : (row : Row) (place : ℕ) (written : Written) → GoodPlaceOfRow (nat_lt place row.count) (is_branch (slot_in row place).access) written
    → IsInPlace row place (row_place_text row place written) written
unfolding row_place_text
in_place_says row place written good = place_by row place (nat_lt place row.count) written refl good

pub sentence_says : (s : Sentence) → row_for s.row.op ≡ Some s.row → GoodPlaceOfRow (nat_lt 0 s.row.count) (is_branch (slot_in s.row 0).access) s.a
    → GoodPlaceOfRow (nat_lt 1 s.row.count) (is_branch (slot_in s.row 1).access) s.b
    → GoodPlaceOfRow (nat_lt 2 s.row.count) (is_branch (slot_in s.row 2).access) s.c → IsInstructionText (sentence_text s) s
unfolding sentence_text
sentence_says s listed good_a good_b good_c =
    let a : List ℕ = row_place_text s.row 0 s.a in
    let b : List ℕ = row_place_text s.row 1 s.b in
    let c : List ℕ = row_place_text s.row 2 s.c in
    subst (λ (l : List ℕ). IsInstructionText l s) (append_assoc (mnemonic s.row.name ++ a) b c ∙ append_assoc (mnemonic s.row.name) a (b ++ c))
    (Mnemonic listed (in_place_says s.row 0 s.a good_a) (in_place_says s.row 1 s.b good_b) (in_place_says s.row 2 s.c good_c))
