-- A text of the grammar is read as what it says.
use Rattle.std.proofs.Common.{◌≡◌, ℕ, ◌+◌, ◌≤◌, Bool, true, false, List, [], ◌∷◌, ◌++◌, length, Some, refl, ◌∙◌, ap, arith}
use Rattle.std.specs.Prelude.{◌==◌, nat_le}
use Rattle.std.specs.List.{list_all}
use Rattle.std.specs.Str.Parse.{digits_value}
use Rattle.std.proofs.lemmas.Bool.Decides.{nat_tests}
use Rattle.std.proofs.lemmas.Bool.{and_right}
use Rattle.asm_grammar.specs.Text.{◌>>=◌, Text, behind}
use Rattle.asm_grammar.specs.Numbers.{is_digit, held, numeral_of, numeral_at, is_hexadecimal, magnitude_at, signed, signed_at, spelled_number_at}
use Rattle.asm_grammar.specs.Values.{is_label_start, is_word_byte, label_of_word, label_at, value_label_at, value_number_at, value_at}
use Rattle.asm_grammar.specs.declared.syntax.Number.{Number}
use Rattle.asm_grammar.specs.declared.syntax.Label.{Label}
use Rattle.asm_grammar.specs.declared.syntax.Value.{Value}
use Rattle.asm_grammar.specs.declared.syntax.Value.TheVariants as values
use Rattle.asm_grammar.proofs.Spelled.{both}
use Rattle.asm_grammar.specs.Grammar.{IsMagnitude, Decimal, Hexadecimal, IsNumber, Unsigned, Minus, IsLabel, Name, IsValue, OfNumber, OfLabel}
use Rattle.asm_grammar.proofs.FrontSplits.{Stops, cut}

-- no byte of a word comes next
abbrev pub Ends : List ℕ → Type 0
Ends rest = Stops is_word_byte rest

-- ---- numbers

digit_word : (base byte : ℕ) → is_word_byte byte ≡ false → is_digit base byte ≡ false
digit_word base byte h = grind (arith, nat_tests)

no_digit : (base : ℕ) (rest : List ℕ) → Ends rest → Stops (is_digit base) rest
no_digit base [] h = tt
no_digit base (byte ∷ rest) h = digit_word base byte h

numeral_read : (base digit : ℕ) (digits rest : List ℕ) → list_all (is_digit base) (digit ∷ digits) ≡ true → Ends rest
    → numeral_at base (digit ∷ (digits ++ rest)) ≡ Some (held (digits_value base (digit ∷ digits)), rest)
unfolding numeral_at
numeral_read base digit digits rest all ends =
    let parts = cut (is_digit base) (digit ∷ digits) rest all (no_digit base rest ends) in
    ap (λ (l : List ℕ). numeral_of base l (behind (is_digit base) (digit ∷ (digits ++ rest)))) parts.0
    ∙ ap (λ (l : List ℕ). numeral_of base (digit ∷ digits) l) parts.1

no_x : (byte : ℕ) → is_word_byte byte ≡ false → (byte == 120) ≡ false
no_x byte h = grind (arith, nat_tests)

digit_no_x : (byte : ℕ) → is_digit 10 byte ≡ true → (byte == 120) ≡ false
digit_no_x byte h = grind (arith, nat_tests)

-- a decimal numeral doesn't begin with `0x`
decimal_text : (digit : ℕ) (digits rest : List ℕ) → list_all (is_digit 10) digits ≡ true → Ends rest → is_hexadecimal (digit ∷ (digits ++ rest)) ≡ false
decimal_text digit [] [] all ends = refl
decimal_text digit [] (byte ∷ rest) all ends = and_right (digit == 48) (byte == 120) (no_x byte ends)
decimal_text digit (next ∷ digits) rest all ends =
    and_right (digit == 48) (next == 120) (digit_no_x next (both (is_digit 10 next) (list_all (is_digit 10) digits) all).0)

magnitude_read : (m : List ℕ) (magnitude : ℕ) (rest : List ℕ) → IsMagnitude m magnitude → Ends rest → magnitude_at (m ++ rest) ≡ Some (magnitude, rest)
unfolding magnitude_at
magnitude_read m magnitude rest (Decimal {digit} {digits} all) ends =
    rw (decimal_text digit digits rest (both (is_digit 10 digit) (list_all (is_digit 10) digits) all).1 ends) (numeral_read 10 digit digits rest all ends)
magnitude_read m magnitude rest (Hexadecimal {digit} {digits} all) ends = numeral_read 16 digit digits rest all ends

no_minus : (byte : ℕ) → is_digit 10 byte ≡ true → (byte == 45) ≡ false
no_minus byte h = grind (arith, nat_tests)

unsigned_read : (m : List ℕ) (magnitude : ℕ) (rest : List ℕ) → IsMagnitude m magnitude → spelled_number_at (m ++ rest) ≡ signed_at false (m ++ rest)
unfolding spelled_number_at
unsigned_read m magnitude rest (Decimal {digit} {digits} all) = rw (no_minus digit (both (is_digit 10 digit) (list_all (is_digit 10) digits) all).0) refl
unsigned_read m magnitude rest (Hexadecimal {digit} {digits} all) = refl

signed_read : (minus : Bool) (m : List ℕ) (magnitude : ℕ) (rest : List ℕ) → IsMagnitude m magnitude → Ends rest
    → signed_at minus (m ++ rest) ≡ Some (signed minus magnitude, rest)
unfolding signed_at
signed_read minus m magnitude rest is ends = ap (λ (o : Text ℕ). o >>= λ r. Some (signed minus r.0, r.1)) (magnitude_read m magnitude rest is ends)

pub number_read : (n : List ℕ) (number : Number) (rest : List ℕ) → IsNumber n number → Ends rest → spelled_number_at (n ++ rest) ≡ Some (number, rest)
unfolding spelled_number_at
number_read n number rest (Unsigned {m} {magnitude} is) ends = unsigned_read m magnitude rest is ∙ signed_read false m magnitude rest is ends
number_read n number rest (Minus {m} {magnitude} is) ends = signed_read true m magnitude rest is ends

-- ---- labels and values

pub start_word : (byte : ℕ) → is_label_start byte ≡ true → is_word_byte byte ≡ true
start_word byte h = grind (arith, nat_tests)

pub le_true : (a b : ℕ) → a ≤ b → nat_le a b ≡ true
le_true a b h = grind (arith, nat_tests)

pub label_read : (l : List ℕ) (label : Label) (rest : List ℕ) → IsLabel l label → Ends rest → label_at (l ++ rest) ≡ Some (label, rest)
unfolding label_at
label_read l label rest (Name {first} {more} start word few) ends =
    let all : list_all is_word_byte (first ∷ more) ≡ true = rw (start_word first start) word in
    let parts = cut is_word_byte (first ∷ more) rest all ends in
    ap (λ (w : List ℕ). label_of_word w (behind is_word_byte ((first ∷ more) ++ rest))) parts.0
    ∙ ap (λ (b : List ℕ). label_of_word (first ∷ more) b) parts.1
    ∙ rw start (rw (le_true (length (first ∷ more)) 16 few) refl)

digit_no_start : (byte : ℕ) → is_digit 10 byte ≡ true → is_label_start byte ≡ false
digit_no_start byte h = grind (arith, nat_tests)

magnitude_value : (m : List ℕ) (magnitude : ℕ) (rest : List ℕ) → IsMagnitude m magnitude → value_at (m ++ rest) ≡ value_number_at (m ++ rest)
unfolding value_at
magnitude_value m magnitude rest (Decimal {digit} {digits} all) = rw (digit_no_start digit (both (is_digit 10 digit) (list_all (is_digit 10) digits) all).0) refl
magnitude_value m magnitude rest (Hexadecimal {digit} {digits} all) = refl

number_value : (n : List ℕ) (number : Number) (rest : List ℕ) → IsNumber n number → value_at (n ++ rest) ≡ value_number_at (n ++ rest)
unfolding value_at
number_value n number rest (Unsigned {m} {magnitude} is) = magnitude_value m magnitude rest is
number_value n number rest (Minus {m} {magnitude} is) = refl

label_value : (l : List ℕ) (label : Label) (rest : List ℕ) → IsLabel l label → value_at (l ++ rest) ≡ value_label_at (l ++ rest)
unfolding value_at
label_value l label rest (Name {first} {more} start word few) = rw start refl

pub value_read : (x : List ℕ) (value : Value) (rest : List ℕ) → IsValue x value → Ends rest → value_at (x ++ rest) ≡ Some (value, rest)
unfolding value_number_at value_label_at
value_read x value rest (OfNumber {number = number} is) ends =
    number_value x number rest is ∙ ap (λ (o : Text Number). o >>= λ r. Some (values.Number r.0, r.1)) (number_read x number rest is ends)
value_read x value rest (OfLabel {label = label} is) ends =
    label_value x label rest is ∙ ap (λ (o : Text Label). o >>= λ r. Some (values.Label r.0, r.1)) (label_read x label rest is ends)
