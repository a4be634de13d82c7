-- What is shown of some bytes has these bytes again.
use Rattle.std.proofs.Common.{◌≡◌, ◌≢◌, ◌⊎◌, inl, inr, ℕ, zero, suc, ◌+◌, ◌-◌, ◌*◌, ◌/◌, ◌%◌, ◌<◌, ◌≤◌, Bool, true, false, not, List, [], ◌∷◌, ◌++◌, length, get_or, take, drop, Option, Some, None, refl, sym, ◌∙◌, ap, subst, arith, append_assoc, length-append}
use Rattle.std.specs.Prelude.{if◌then◌else◌, nat_lt, nat_le, ◌==◌, ◌&&◌, ◌||◌}
use Rattle.std.specs.Int.{to_le_bytes, from_le_bytes, w8, w16, w32}
use Rattle.std.proofs.Math.Nat.{mod-eq_of_lt}
use Rattle.std.proofs.lemmas.Nat.{le_bytes_2, le_bytes_4}
use Rattle.std.proofs.lemmas.List.{length-take-le, take-append-drop}
use Rattle.std.proofs.lemmas.Bool.Decides.{nat_tests}
use Rattle.std.proofs.lemmas.Bool.{or_parts}
use Rattle.vax_code.specs.declared.table.Slot.{Slot}
use Rattle.vax_code.specs.declared.table.Row.{Row}
use Rattle.vax_code.specs.Table.{row_for, slot_in}
use Rattle.vax_code.specs.Operands.{width_of, is_read, is_address, is_branch}
use Rattle.vax_code.specs.Grammar.{AreOctets, specifier}
use Rattle.vax_code.proofs.Spelling.{octets_front, halves as byte_halves, octets_rest}
use Rattle.vax_code.proofs.Rule.{row_of_op}
use Rattle.asm_grammar.specs.Text.{◌>>=◌}
use Rattle.asm_grammar.specs.Numbers.{signed}
use Rattle.asm_grammar.specs.Encoding.{whole_of, half_of, value_bits, displacement_bits, number_of_value, bits_of_value, plain_specifier, with_number, displacement_mode, displaced_bytes, place_bytes, leaves_index, indexed_bytes, immediate_bytes, distance, branch_bits, target_bytes, branch_bytes, specifier_bytes, absent_bytes, operand_bytes, sentence_bytes}
use Rattle.vax_disasm.specs.Showing.{byte_shown, number_shown, plain_number, signed_number, size_of_mode, displacement_shown, absolute_shown, place_shown, indexed_shown, immediate_shown, specifier_shown, branch_target, branch_shown, operand_shown, row_place_shown, operands_shown, sentence_shown}
use Rattle.asm_grammar.specs.declared.syntax.Number.{Number}
use Rattle.asm_grammar.specs.declared.syntax.Value.{Value}
use Rattle.asm_grammar.specs.declared.syntax.Value.TheVariants as values
use Rattle.asm_grammar.specs.declared.syntax.Place.{Place}
use Rattle.asm_grammar.specs.declared.syntax.Place.TheVariants as places
use Rattle.asm_grammar.specs.declared.syntax.Written.{Written}
use Rattle.asm_grammar.specs.declared.syntax.Written.TheVariants as writtens
use Rattle.asm_grammar.specs.declared.syntax.Sentence.{Sentence}
use Rattle.asm_grammar.proofs.Spelled.{bind_some, some_same, some_if, some_unless, lt_of, ge_of, size_is, both, kind_sized, three_binds}
use Rattle.vax_disasm.proofs.Hexadecimal.{lt_is, ge_is}

-- ---- what is written so can be read again

abbrev pub GoodNumber : Number → Type 0
GoodNumber number = (number.magnitude < 4294967296) × (signed number.negative number.magnitude ≡ number)

abbrev pub GoodValue : Value → Type 0
GoodValue (values.Number number) = GoodNumber number
GoodValue (values.Label label) = ⊥

abbrev pub GoodPlace : Place → Type 0
GoodPlace (places.Deferred reg) = reg < 15
GoodPlace (places.AutoDec reg) = reg < 15
GoodPlace (places.AutoInc reg) = reg < 15
GoodPlace (places.AutoIncDef reg) = reg < 15
GoodPlace (places.Absolute address) = GoodValue address
GoodPlace (places.Disp size reg by deferred) = ((size ≡ 1) ⊎ (size ≡ 2) ⊎ (size ≡ 4)) × (reg < 16) × GoodNumber by

abbrev pub GoodSpecifier : Written → Type 0
GoodSpecifier writtens.Absent = ⊥
GoodSpecifier (writtens.Literal number) = GoodNumber number
GoodSpecifier (writtens.Register reg) = reg < 15
GoodSpecifier (writtens.Immediate value) = GoodValue value
GoodSpecifier (writtens.Plain place) = GoodPlace place
GoodSpecifier (writtens.Indexed index base) = (index < 15) × GoodPlace base
GoodSpecifier (writtens.Misindexed immediate) = ⊥
GoodSpecifier (writtens.Target target) = ⊥

abbrev pub GoodTarget : Written → Type 0
GoodTarget (writtens.Target target) = GoodValue target
GoodTarget _ = ⊥

abbrev pub GoodOperand : Bool → Written → Type 0
GoodOperand true written = GoodTarget written
GoodOperand false written = GoodSpecifier written

abbrev pub GoodPlaceOfRow : Bool → Bool → Written → Type 0
GoodPlaceOfRow true branch written = GoodOperand branch written
GoodPlaceOfRow false branch written = written ≡ writtens.Absent

-- ---- lists of bytes

octet : (xs : List ℕ) → AreOctets xs → (i : ℕ) → get_or xs i 0 < 256
octet [] h i = omega arith
octet (x ∷ xs) h zero = h.0
octet (x ∷ xs) h (suc i) = octet xs h.1 i

length_zero : (x : ℕ) (xs : List ℕ) → length (x ∷ xs) ≡ 0 → ⊥
length_zero x xs e = omega (arith, e)

le_1 : (bs : List ℕ) → length bs ≡ 1 → AreOctets bs → (to_le_bytes w8 (from_le_bytes w8 bs) ≡ bs) × (from_le_bytes w8 bs < 256)
le_1 [] e h = absurd (omega (arith, e))
le_1 (a ∷ []) e h =
    (let small : a < 256 = h.0 in let same : from_le_bytes w8 (a ∷ []) ≡ a = omega arith in (let low : from_le_bytes w8 (a ∷ []) % 256 ≡ a = omega arith in ap (λ (n : ℕ). n ∷ []) low, omega arith))
le_1 (a ∷ b ∷ bs) e h = absurd (omega (arith, e))

le_2 : (bs : List ℕ) → length bs ≡ 2 → AreOctets bs → (to_le_bytes w16 (from_le_bytes w16 bs) ≡ bs) × (from_le_bytes w16 bs < 65536)
le_2 [] e h = absurd (omega (arith, e))
le_2 (a ∷ []) e h = absurd (omega (arith, e))
le_2 (a ∷ b ∷ []) e h = (le_bytes_2 (a ∷ b ∷ []) _ refl (octet (a ∷ b ∷ []) h) refl, (let p : a < 256 = h.0 in let q : b < 256 = h.1.0 in omega arith))
le_2 (a ∷ b ∷ c ∷ bs) e h = absurd (omega (arith, e))

le_4 : (bs : List ℕ) → length bs ≡ 4 → AreOctets bs → (to_le_bytes w32 (from_le_bytes w32 bs) ≡ bs) × (from_le_bytes w32 bs < 4294967296)
le_4 [] e h = absurd (omega (arith, e))
le_4 (a ∷ []) e h = absurd (omega (arith, e))
le_4 (a ∷ b ∷ []) e h = absurd (omega (arith, e))
le_4 (a ∷ b ∷ c ∷ []) e h = absurd (omega (arith, e))
le_4 (a ∷ b ∷ c ∷ d ∷ []) e h = (
  le_bytes_4 (a ∷ b ∷ c ∷ d ∷ []) _ refl (octet (a ∷ b ∷ c ∷ d ∷ []) h) refl,
  (let p : a < 256 = h.0 in
      let q : b < 256 = h.1.0 in let r : c < 256 = h.1.1.0 in let s : d < 256 = h.1.1.1.0 in omega arith),
)
le_4 (a ∷ b ∷ c ∷ d ∷ f ∷ bs) e h = absurd (omega (arith, e))

le_back : (size : ℕ) (bs : List ℕ) → (size ≡ 1) ⊎ (size ≡ 2) ⊎ (size ≡ 4) → length bs ≡ size → AreOctets bs
    → (to_le_bytes (width_of size) (from_le_bytes (width_of size) bs) ≡ bs) × (from_le_bytes (width_of size) bs < whole_of size)
le_back size bs (inl s) e h = subst (λ (z : ℕ). (to_le_bytes (width_of z) (from_le_bytes (width_of z) bs) ≡ bs) × (from_le_bytes (width_of z) bs < whole_of z)) (sym s) (le_1 bs (e ∙ s) h)
le_back size bs (inr (inl s)) e h = subst (λ (z : ℕ). (to_le_bytes (width_of z) (from_le_bytes (width_of z) bs) ≡ bs) × (from_le_bytes (width_of z) bs < whole_of z)) (sym s) (le_2 bs (e ∙ s) h)
le_back size bs (inr (inr s)) e h = subst (λ (z : ℕ). (to_le_bytes (width_of z) (from_le_bytes (width_of z) bs) ≡ bs) × (from_le_bytes (width_of z) bs < whole_of z)) (sym s) (le_4 bs (e ∙ s) h)

-- ---- numbers

-- the bytes begin with this number
record BeginsNumber (size number : ℕ) (bytes rest : List ℕ) : Type 0 where
  split : bytes ≡ to_le_bytes (width_of size) number ++ rest
  small : number < whole_of size

length_take : (n : ℕ) (xs : List ℕ) → n ≤ length xs → length (take n xs) ≡ n
length_take n xs h = length-take-le n xs h

begins_number : (size : ℕ) (bytes : List ℕ) (number : ℕ) (rest : List ℕ) → (size ≡ 1) ⊎ (size ≡ 2) ⊎ (size ≡ 4) → AreOctets bytes
    → number_shown size bytes ≡ Some (number, rest) → BeginsNumber size number bytes rest
unfolding number_shown
begins_number size bytes number rest sized octets e =
    let p = some_unless (nat_lt (length bytes) size) (Some (from_le_bytes (width_of size) (take size bytes), drop size bytes)) (number, rest) e in
    let same : (from_le_bytes (width_of size) (take size bytes), drop size bytes) ≡ (number, rest) = some_same _ _ p.1 in
    let value : from_le_bytes (width_of size) (take size bytes) ≡ number = ap (λ (x : ℕ × List ℕ). x.0) same in
    let left : drop size bytes ≡ rest = ap (λ (x : ℕ × List ℕ). x.1) same in
    let long : size ≤ length bytes = ge_of (length bytes) size p.0 in
    let front : AreOctets (take size bytes) = octets_front (take size bytes) (drop size bytes) (subst (λ (l : List ℕ). AreOctets l) (sym (take-append-drop size bytes)) octets) in
    let back = le_back size (take size bytes) sized (length_take size bytes long) front in
    record {
      split = sym (take-append-drop size bytes) ∙ ap (λ (l : List ℕ). l ++ drop size bytes) (sym back.0) ∙ ap (λ (n : ℕ). to_le_bytes (width_of size) n ++ drop size bytes) value
          ∙ ap (λ (l : List ℕ). to_le_bytes (width_of size) number ++ l) left;
      small = subst (λ (n : ℕ). n < whole_of size) value back.1;
    }

value_plain : (size number : ℕ) → number < whole_of size → value_bits size (plain_number number) ≡ Some number
unfolding value_bits
value_plain size number h = rw (lt_is number (whole_of size) h) refl

bits_plain : (size number : ℕ) → number < whole_of size → bits_of_value [] size (values.Number (plain_number number)) ≡ Some number
unfolding bits_of_value number_of_value
bits_plain size number h = value_plain size number h

good_plain : (number : ℕ) → number < 4294967296 → GoodNumber (plain_number number)
good_plain number h = (h, refl)

whole_most : (size : ℕ) → (size ≡ 1) ⊎ (size ≡ 2) ⊎ (size ≡ 4) → whole_of size ≤ 4294967296
whole_most size (inl e) = subst (λ (s : ℕ). whole_of s ≤ 4294967296) (sym e) (omega arith)
whole_most size (inr (inl e)) = subst (λ (s : ℕ). whole_of s ≤ 4294967296) (sym e) (omega arith)
whole_most size (inr (inr e)) = subst (λ (s : ℕ). whole_of s ≤ 4294967296) (sym e) (omega arith)

halves : (size : ℕ) → (size ≡ 1) ⊎ (size ≡ 2) ⊎ (size ≡ 4) → whole_of size ≡ half_of size + half_of size
halves size (inl e) = subst (λ (s : ℕ). whole_of s ≡ half_of s + half_of s) (sym e) (omega arith)
halves size (inr (inl e)) = subst (λ (s : ℕ). whole_of s ≡ half_of s + half_of s) (sym e) (omega arith)
halves size (inr (inr e)) = subst (λ (s : ℕ). whole_of s ≡ half_of s + half_of s) (sym e) (omega arith)

le_is : (a b : ℕ) → a ≤ b → nat_le a b ≡ true
le_is a b h = grind (arith, nat_tests)

remainder : (a b : ℕ) → a < b → a % b ≡ a
remainder a b h = mod-eq_of_lt h

displacement_by : (size bits : ℕ) (t : Bool) → whole_of size ≡ half_of size + half_of size → bits < whole_of size → nat_lt bits (half_of size) ≡ t
    → displacement_bits size (if t then plain_number bits else record { negative = true; magnitude = whole_of size - bits }) ≡ Some bits
unfolding displacement_bits value_bits
displacement_by size bits true h small e = rw e (rw (lt_is bits (whole_of size) small) refl)
displacement_by size bits false h small e =
    let large : half_of size ≤ bits = ge_of bits (half_of size) e in
    let fits : whole_of size - bits ≤ half_of size = omega (arith, h) in
    let back : whole_of size - (whole_of size - bits) ≡ bits = omega (arith, small) in
    rw (le_is (whole_of size - bits) (half_of size) fits) (ap (λ (n : ℕ). Some (n % whole_of size)) back ∙ ap (λ (n : ℕ). Some n) (remainder bits (whole_of size) small))

displacement_back : (size bits : ℕ) → (size ≡ 1) ⊎ (size ≡ 2) ⊎ (size ≡ 4) → bits < whole_of size → displacement_bits size (signed_number size bits) ≡ Some bits
displacement_back size bits sized small = displacement_by size bits (nat_lt bits (half_of size)) (halves size sized) small refl

not_zero : (n : ℕ) → 0 < n → (n == 0) ≡ false
not_zero n h = grind (arith, nat_tests)

good_by : (size bits : ℕ) (t : Bool) → whole_of size ≤ 4294967296 → 0 < half_of size → bits < whole_of size → nat_lt bits (half_of size) ≡ t
    → GoodNumber (if t then plain_number bits else record { negative = true; magnitude = whole_of size - bits })
good_by size bits true most some small e = (omega (arith, most, small), refl)
good_by size bits false most some small e =
    let large : half_of size ≤ bits = ge_of bits (half_of size) e in
    let positive : 0 < whole_of size - bits = omega (arith, small) in
    (omega (arith, most, some, large), ap (λ (t : Bool). record { negative = not t; magnitude = whole_of size - bits }) (not_zero (whole_of size - bits) positive))

half_some : (size : ℕ) → (size ≡ 1) ⊎ (size ≡ 2) ⊎ (size ≡ 4) → 0 < half_of size
half_some size (inl e) = subst (λ (s : ℕ). 0 < half_of s) (sym e) (omega arith)
half_some size (inr (inl e)) = subst (λ (s : ℕ). 0 < half_of s) (sym e) (omega arith)
half_some size (inr (inr e)) = subst (λ (s : ℕ). 0 < half_of s) (sym e) (omega arith)

good_signed : (size bits : ℕ) → (size ≡ 1) ⊎ (size ≡ 2) ⊎ (size ≡ 4) → bits < whole_of size → GoodNumber (signed_number size bits)
good_signed size bits sized small = good_by size bits (nat_lt bits (half_of size)) (whole_most size sized) (half_some size sized) small refl

-- ---- places

abbrev got : {A : Type 0} → A → List ℕ → Option (A × List ℕ)
got x rest = Some (x, rest)

-- The bytes after a specifier of this mode and register begin with what the place has after its own.
record PlaceBack (mode reg : ℕ) (bytes rest : List ℕ) (place : Place) : Type 0 where
  front : List ℕ
  split : bytes ≡ front ++ rest
  spells : place_bytes [] place ≡ Some (specifier mode reg ∷ front)
  good : GoodPlace place

place_as : (mode reg : ℕ) (bytes rest : List ℕ) (place place' : Place) → place ≡ place' → PlaceBack mode reg bytes rest place
    → PlaceBack mode reg bytes rest place'
place_as mode reg bytes rest place place' e h = subst (λ (p : Place). PlaceBack mode reg bytes rest p) e h

mode_as : (mode mode' reg reg' : ℕ) (bytes rest : List ℕ) (place : Place) → mode' ≡ mode → reg' ≡ reg → PlaceBack mode reg bytes rest place
    → PlaceBack mode' reg' bytes rest place
mode_as mode mode' reg reg' bytes rest place e f h = subst (λ (m : ℕ). PlaceBack m reg' bytes rest place) (sym e) (subst (λ (r : ℕ). PlaceBack mode r bytes rest place) (sym f) h)

plain_is : (mode reg : ℕ) → reg < 15 → plain_specifier mode reg ≡ Some (specifier mode reg ∷ [])
plain_is mode reg h = rw (lt_is reg 15 h) refl

-- nothing stands after a specifier of modes 6 to 9 on another register than PC
plain_back : (mode reg : ℕ) (bytes rest : List ℕ) (place : Place) → reg < 15 → place_bytes [] place ≡ plain_specifier mode reg → GoodPlace place
    → (place' : Place) → got place bytes ≡ got place' rest → PlaceBack mode reg bytes rest place'
plain_back mode reg bytes rest place small spells good place' e =
    let same : (place, bytes) ≡ (place', rest) = some_same _ _ e in
    place_as mode reg bytes rest place place' (ap (λ (x : Place × List ℕ). x.0) same) (record {
      front = [];
      split = ap (λ (x : Place × List ℕ). x.1) same;
      spells = spells ∙ plain_is mode reg small;
      good = good;
    })

displaced_mode : (mode : ℕ) → 9 < mode → mode < 16 → displacement_mode (size_of_mode mode) (mode % 2 == 1) ≡ mode
displaced_mode mode low high = grind (arith, nat_tests)

abbrev size_by : Bool → Bool → ℕ
size_by t u = if t then 1 else (if u then 2 else 4)

sized_by : (t u : Bool) → (size_by t u ≡ 1) ⊎ (size_by t u ≡ 2) ⊎ (size_by t u ≡ 4)
sized_by true u = inl refl
sized_by false true = inr (inl refl)
sized_by false false = inr (inr refl)

mode_sized : (mode : ℕ) → (size_of_mode mode ≡ 1) ⊎ (size_of_mode mode ≡ 2) ⊎ (size_of_mode mode ≡ 4)
mode_sized mode = sized_by (nat_lt mode 12) (nat_lt mode 14)

displacement_place : (mode reg : ℕ) (bytes rest : List ℕ) (place : Place) → 9 < mode → mode < 16 → reg < 16 → AreOctets bytes
    → displacement_shown mode reg bytes ≡ Some (place, rest) → PlaceBack mode reg bytes rest place
unfolding displacement_shown place_bytes displaced_bytes
displacement_place mode reg bytes rest place low high small octets e =
    let size : ℕ = size_of_mode mode in
    let b =
    bind_some (number_shown (size_of_mode mode) bytes) (λ bits. Some (places.Disp (size_of_mode mode) reg (signed_number (size_of_mode mode) bits.0) (mode % 2 == 1), bits.1)) (place, rest) e in
    let same : (places.Disp (size_of_mode mode) reg (signed_number (size_of_mode mode) b.0.0) (mode % 2 == 1), b.0.1) ≡ (place, rest) = some_same _ _ b.2 in
    let left : b.0.1 ≡ rest = ap (λ (x : Place × List ℕ). x.1) same in
    let begins = begins_number (size_of_mode mode) bytes b.0.0 b.0.1 (mode_sized mode) octets b.1 in
    place_as mode reg bytes rest (places.Disp (size_of_mode mode) reg (signed_number (size_of_mode mode) b.0.0) (mode % 2 == 1)) place (ap (λ (x : Place × List ℕ). x.0) same) (record {
      front = to_le_bytes (width_of (size_of_mode mode)) b.0.0;
      split = begins.split ∙ ap (λ (l : List ℕ). to_le_bytes (width_of (size_of_mode mode)) b.0.0 ++ l) left;
      spells = rw (lt_is reg 16 small) (rw (displacement_back (size_of_mode mode) b.0.0 (mode_sized mode) begins.small)
          (ap (λ (m : ℕ). Some (with_number (specifier m reg) (size_of_mode mode) b.0.0)) (displaced_mode mode low high)));
      good = (mode_sized mode, small, good_signed (size_of_mode mode) b.0.0 (mode_sized mode) begins.small);
    })

absolute_place : (bytes rest : List ℕ) (place : Place) → AreOctets bytes → absolute_shown bytes ≡ Some (place, rest) → PlaceBack 9 15 bytes rest place
unfolding absolute_shown place_bytes
absolute_place bytes rest place octets e =
    let b = bind_some (number_shown 4 bytes) (λ address. Some (places.Absolute (values.Number (plain_number address.0)), address.1)) (place, rest) e in
    let same : (places.Absolute (values.Number (plain_number b.0.0)), b.0.1) ≡ (place, rest) = some_same _ _ b.2 in
    let left : b.0.1 ≡ rest = ap (λ (x : Place × List ℕ). x.1) same in
    let begins = begins_number 4 bytes b.0.0 b.0.1 (inr (inr refl)) octets b.1 in
    place_as 9 15 bytes rest (places.Absolute (values.Number (plain_number b.0.0))) place (ap (λ (x : Place × List ℕ). x.0) same) (record {
      front = to_le_bytes w32 b.0.0;
      split = begins.split ∙ ap (λ (l : List ℕ). to_le_bytes w32 b.0.0 ++ l) left;
      spells = rw (bits_plain 4 b.0.0 begins.small) refl;
      good = good_plain b.0.0 begins.small;
    })

pick : {A : Type 0} (t : Bool) (a b : Option A) (y : A) → (if t then a else b) ≡ Some y → ((t ≡ true) × (a ≡ Some y)) ⊎ ((t ≡ false) × (b ≡ Some y))
pick true a b y e = inl (refl, e)
pick false a b y e = inr (refl, e)

is_not : (a b : ℕ) → (a == b) ≡ false → a ≢ b
is_not a b e = grind (arith, nat_tests)

place_by_8 : (mode reg : ℕ) (bytes rest : List ℕ) (place : Place) → reg < 15 → 5 < mode → mode ≤ 9 → mode ≢ 6 → mode ≢ 7
    → (((mode == 8) ≡ true) × (got (places.AutoInc reg) bytes ≡ Some (place, rest)))
    ⊎ (((mode == 8) ≡ false) × (got (places.AutoIncDef reg) bytes ≡ Some (place, rest)))
    → PlaceBack mode reg bytes rest place
unfolding place_bytes
place_by_8 mode reg bytes rest place small low high a b (inl p) =
    mode_as 8 mode reg reg bytes rest place (size_is mode 8 p.0) refl (plain_back 8 reg bytes rest (places.AutoInc reg) small refl small place p.1)
place_by_8 mode reg bytes rest place small low high a b (inr p) =
    let nine : mode ≡ 9 = (let c = is_not mode 8 p.0 in omega (arith, a, b, c)) in
    mode_as 9 mode reg reg bytes rest place nine refl (plain_back 9 reg bytes rest (places.AutoIncDef reg) small refl small place p.1)

place_by_7 : (mode reg : ℕ) (bytes rest : List ℕ) (place : Place) → reg < 15 → 5 < mode → mode ≤ 9 → mode ≢ 6
    → (((mode == 7) ≡ true) × (got (places.AutoDec reg) bytes ≡ Some (place, rest)))
    ⊎ (((mode == 7) ≡ false) × ((if mode == 8 then got (places.AutoInc reg) bytes else Some (places.AutoIncDef reg, bytes)) ≡ Some (place, rest)))
    → PlaceBack mode reg bytes rest place
unfolding place_bytes
place_by_7 mode reg bytes rest place small low high a (inl p) =
    mode_as 7 mode reg reg bytes rest place (size_is mode 7 p.0) refl (plain_back 7 reg bytes rest (places.AutoDec reg) small refl small place p.1)
place_by_7 mode reg bytes rest place small low high a (inr p) =
    place_by_8 mode reg bytes rest place small low high a (is_not mode 7 p.0) (pick (mode == 8) (Some (places.AutoInc reg, bytes)) (Some (places.AutoIncDef reg, bytes)) (place, rest) p.1)

-- modes 6 to 9 on another register than PC
abbrev from_six : ℕ → ℕ → List ℕ → Option (Place × List ℕ)
from_six mode reg bytes =
    if mode == 6 then Some (places.Deferred reg, bytes)
    else (if mode == 7 then Some (places.AutoDec reg, bytes)
    else (if mode == 8 then Some (places.AutoInc reg, bytes)
    else Some (places.AutoIncDef reg, bytes)))

module _ (mode reg : ℕ) (bytes rest : List ℕ) (place : Place) where
  place_by_6 : reg < 15 → 5 < mode → mode ≤ 9
      → (((mode == 6) ≡ true) × (got (places.Deferred reg) bytes ≡ Some (place, rest))) ⊎ (((mode == 6) ≡ false) × ((if mode == 7 then got (places.AutoDec reg)
      bytes else (if mode == 8 then Some (places.AutoInc reg, bytes) else Some (places.AutoIncDef reg, bytes))) ≡ Some (place, rest)))
      → PlaceBack mode reg bytes rest place
  unfolding place_bytes
  place_by_6 small low high (inl p) =
      mode_as 6 mode reg reg bytes rest place (size_is mode 6 p.0) refl (plain_back 6 reg bytes rest (places.Deferred reg) small refl small place p.1)
  place_by_6 small low high (inr p) =
      place_by_7 mode reg bytes rest place small low high (is_not mode 6 p.0)
      (pick (mode == 7) (Some (places.AutoDec reg, bytes)) (if mode == 8 then Some (places.AutoInc reg, bytes) else Some (places.AutoIncDef reg, bytes)) (place, rest) p.1)

  place_by_9 : reg < 16 → 5 < mode → mode ≤ 9 → AreOctets bytes
      → ((((mode == 9) && (reg == 15)) ≡ true) × (absolute_shown bytes ≡ Some (place, rest)))
      ⊎ ((((mode == 9) && (reg == 15)) ≡ false) × ((if reg == 15 then None else from_six mode reg bytes) ≡ Some (place, rest)))
      → PlaceBack mode reg bytes rest place
  place_by_9 small low high octets (inl p) =
      let tests = both (mode == 9) (reg == 15) p.0 in
      mode_as 9 mode 15 reg bytes rest place (size_is mode 9 tests.0) (size_is reg 15 tests.1) (absolute_place bytes rest place octets p.1)
  place_by_9 small low high octets (inr p) =
      let q = some_unless (reg == 15) (from_six mode reg bytes) (place, rest) p.1 in
      let less : reg < 15 = (let c = is_not reg 15 q.0 in omega (arith, small, c)) in
      place_by_6 less low high (pick (mode == 6) (Some (places.Deferred reg, bytes))
      (if mode == 7 then Some (places.AutoDec reg, bytes) else (if mode == 8 then Some (places.AutoInc reg, bytes) else Some (places.AutoIncDef reg, bytes))) (place, rest) q.1)

  place_by_high : mode < 16 → reg < 16 → 5 < mode → AreOctets bytes
      → ((nat_lt 9 mode ≡ true) × (displacement_shown mode reg bytes ≡ Some (place, rest))) ⊎ ((nat_lt 9 mode ≡ false)
      × ((if (mode == 9) && (reg == 15) then absolute_shown bytes else (if reg == 15 then None else from_six mode reg bytes)) ≡ Some (place, rest)))
      → PlaceBack mode reg bytes rest place
  place_by_high high small low octets (inl p) = displacement_place mode reg bytes rest place (lt_of 9 mode p.0) high small octets p.1
  place_by_high high small low octets (inr p) =
      place_by_9 small low (ge_of 9 mode p.0) octets
      (pick ((mode == 9) && (reg == 15)) (absolute_shown bytes) (if reg == 15 then None else from_six mode reg bytes) (place, rest) p.1)

  place_back : mode < 16 → reg < 16 → AreOctets bytes → place_shown mode reg bytes ≡ Some (place, rest) → PlaceBack mode reg bytes rest place
  unfolding place_shown
  place_back high small octets e =
      let after_low : Option (Place × List ℕ) =
      if nat_lt 9 mode then displacement_shown mode reg bytes else (if (mode == 9) && (reg == 15) then absolute_shown bytes else (if reg == 15 then None else from_six mode reg bytes)) in
      let p = some_unless (nat_lt mode 6) after_low (place, rest) e in
      place_by_high high small (ge_of mode 6 p.0) octets
      (pick (nat_lt 9 mode) (displacement_shown mode reg bytes) (if (mode == 9) && (reg == 15) then absolute_shown bytes else (if reg == 15 then None else from_six mode reg bytes)) (place, rest) p.1)

-- ---- operands

-- the bytes of an operand, and what is left
record WrittenBack (bytes rest : List ℕ) (spelling : Option (List ℕ)) (good : Type 0) : Type 0 where
  front : List ℕ
  split : bytes ≡ front ++ rest
  spells : spelling ≡ Some front
  is_good : good

written_as : (bytes rest : List ℕ) (spelling : Written → Option (List ℕ)) (good : Written → Type 0) (written written' : Written) → written ≡ written'
    → WrittenBack bytes rest (spelling written) (good written) → WrittenBack bytes rest (spelling written') (good written')
written_as bytes rest spelling good written written' e h = subst (λ (w : Written). WrittenBack bytes rest (spelling w) (good w)) e h

last_false : (a b c : Bool) → a ≡ true → b ≡ true → (a && b && c) ≡ false → c ≡ false
last_false true true c p q e = e
last_false true false c p q e = absurd (cc)
last_false false b c p q e = absurd (cc)

same_specifier : (mode reg m r : ℕ) → mode < 16 → reg < 16 → r < 15 → specifier m r ≡ specifier mode reg → (mode ≡ m) × (reg ≡ r)
same_specifier mode reg m r high small less e = (omega (arith, e), omega (arith, e))

-- a base that changes its register is one of modes 7 to 9
left_auto : (index mode reg m r : ℕ) (front : List ℕ) → mode < 16 → reg < 16 → 6 < m → m < 10
    → plain_specifier m r ≡ Some (specifier mode reg ∷ front) → (nat_lt 6 mode && nat_lt mode 10 && (reg == index)) ≡ false → not (r == index) ≡ true
left_auto index mode reg m r front high small low up e f =
    let p = some_if (nat_lt r 15) (Some (specifier m r ∷ [])) (specifier mode reg ∷ front) e in
    let lists : specifier m r ∷ [] ≡ specifier mode reg ∷ front = some_same _ _ p.1 in
    let same = same_specifier mode reg m r high small (lt_of r 15 p.0) (heads (specifier m r) (specifier mode reg) [] front lists) in
    let other : (reg == index) ≡ false = last_false (nat_lt 6 mode) (nat_lt mode 10) (reg == index) (lt_is 6 mode (omega (arith, same.0, low))) (lt_is mode 10 (omega (arith, same.0, up))) f in
    ap not (subst (λ (k : ℕ). (k == index) ≡ false) same.1 other)
  where
    heads : (x y : ℕ) (xs ys : List ℕ) → x ∷ xs ≡ y ∷ ys → x ≡ y
    heads x y xs ys e = cc

-- the place that a mode and a register give leaves an index alone, unless it's one of 7, 8 and 9 on the index
left_by : (index mode reg : ℕ) (front : List ℕ) (place : Place) → mode < 16 → reg < 16 → place_bytes [] place ≡ Some (specifier mode reg ∷ front)
    → (nat_lt 6 mode && nat_lt mode 10 && (reg == index)) ≡ false → leaves_index index place ≡ true
unfolding place_bytes
left_by index mode reg front (places.Deferred r) high small e f = refl
left_by index mode reg front (places.AutoDec r) high small e f = left_auto index mode reg 7 r front high small (omega arith) (omega arith) e f
left_by index mode reg front (places.AutoInc r) high small e f = left_auto index mode reg 8 r front high small (omega arith) (omega arith) e f
left_by index mode reg front (places.AutoIncDef r) high small e f = left_auto index mode reg 9 r front high small (omega arith) (omega arith) e f
left_by index mode reg front (places.Absolute address) high small e f = refl
left_by index mode reg front (places.Disp size r by deferred) high small e f = refl

index_back : (index : ℕ) (bytes rest : List ℕ) (written : Written) (slot : Slot) → index < 15 → AreOctets bytes
    → indexed_shown index bytes ≡ Some (written, rest)
    → WrittenBack (specifier 4 index ∷ bytes) rest (specifier_bytes [] slot written) (GoodSpecifier written)
unfolding indexed_shown byte_shown specifier_bytes indexed_bytes
index_back index [] rest written slot small octets e = absurd (cc)
index_back index (first ∷ bytes) rest written slot small octets e =
    let mode : ℕ = first / 16 in
    let byte : first < 256 = octets.0 in
    let high : first / 16 < 16 = omega arith in
    let low : first % 16 < 16 = omega arith in
    let inner = λ (base : Place × List ℕ). got (writtens.Indexed index base.0) base.1 in
    let p = some_unless (nat_lt 6 (first / 16) && nat_lt (first / 16) 10 && (first % 16 == index))
    (place_shown (first / 16) (first % 16) bytes >>= λ base. got (writtens.Indexed index base.0) base.1) (written, rest) e in
    let b = bind_some (place_shown (first / 16) (first % 16) bytes) (λ base. got (writtens.Indexed index base.0) base.1) (written, rest) p.1 in
    let same : (writtens.Indexed index b.0.0, b.0.1) ≡ (written, rest) = some_same _ _ b.2 in
    let left : b.0.1 ≡ rest = ap (λ (x : Written × List ℕ). x.1) same in
    let back = place_back (first / 16) (first % 16) bytes b.0.1 b.0.0 high low octets.1 b.1 in
    let free : leaves_index index b.0.0 ≡ true = left_by index (first / 16) (first % 16) back.front b.0.0 high low back.spells p.0 in
    written_as (specifier 4 index ∷ first ∷ bytes) rest (specifier_bytes [] slot) GoodSpecifier (writtens.Indexed index b.0.0) written (ap (λ (x : Written × List ℕ). x.0) same) (record {
      front = specifier 4 index ∷ first ∷ back.front;
      split = ap (λ (l : List ℕ). specifier 4 index ∷ first ∷ l) (back.split ∙ ap (λ (l : List ℕ). back.front ++ l) left);
      spells = rw (lt_is index 15 small) (rw free (rw back.spells (ap (λ (n : ℕ). Some (specifier 4 index ∷ n ∷ back.front)) (byte_halves first))));
      is_good = (small, back.good);
    })

literal_back : (slot : Slot) (mode reg : ℕ) (bytes rest : List ℕ) (written : Written) → mode < 4 → reg < 16
    → (if is_read slot.access then got (writtens.Literal (plain_number (16 * mode + reg))) bytes else None) ≡ Some (written, rest)
    → WrittenBack (specifier mode reg ∷ bytes) rest (specifier_bytes [] slot written) (GoodSpecifier written)
unfolding specifier_bytes
literal_back slot mode reg bytes rest written low small e =
    let p = some_if (is_read slot.access) (got (writtens.Literal (plain_number (16 * mode + reg))) bytes) (written, rest) e in
    let same : (writtens.Literal (plain_number (16 * mode + reg)), bytes) ≡ (written, rest) = some_same _ _ p.1 in
    let few : 16 * mode + reg < 64 = omega arith in
    written_as (specifier mode reg ∷ bytes) rest (specifier_bytes [] slot) GoodSpecifier (writtens.Literal (plain_number (16 * mode + reg))) written (ap (λ (x : Written × List ℕ). x.0) same) (record {
      front = specifier mode reg ∷ [];
      split = ap (λ (x : Written × List ℕ). specifier mode reg ∷ x.1) same;
      spells = rw p.0 (rw (lt_is (16 * mode + reg) 64 few) refl);
      is_good = good_plain (16 * mode + reg) (omega arith);
    })

register_back : (slot : Slot) (reg : ℕ) (bytes rest : List ℕ) (written : Written) → reg < 16
    → (if (reg == 15) || is_address slot.access then None else got (writtens.Register reg) bytes) ≡ Some (written, rest)
    → WrittenBack (specifier 5 reg ∷ bytes) rest (specifier_bytes [] slot written) (GoodSpecifier written)
unfolding specifier_bytes
register_back slot reg bytes rest written small e =
    let p = some_unless ((reg == 15) || is_address slot.access) (got (writtens.Register reg) bytes) (written, rest) e in
    let tests = or_parts (reg == 15) (is_address slot.access) p.0 in
    let same : (writtens.Register reg, bytes) ≡ (written, rest) = some_same _ _ p.1 in
    let less : reg < 15 = (let c = is_not reg 15 tests.0 in omega (arith, small, c)) in
    written_as (specifier 5 reg ∷ bytes) rest (specifier_bytes [] slot) GoodSpecifier (writtens.Register reg) written (ap (λ (x : Written × List ℕ). x.0) same) (record {
      front = specifier 5 reg ∷ [];
      split = ap (λ (x : Written × List ℕ). specifier 5 reg ∷ x.1) same;
      spells = rw tests.1 (plain_is 5 reg less);
      is_good = less;
    })

immediate_spells : (slot : Slot) (value : Value) (bits : ℕ) → is_read slot.access ≡ true → bits_of_value [] slot.size value ≡ Some bits
    → specifier_bytes [] slot (writtens.Immediate value) ≡ Some (with_number 143 slot.size bits)
unfolding specifier_bytes immediate_bytes
immediate_spells slot value bits read e = rw read (rw e refl)

immediate_back : (slot : Slot) (bytes rest : List ℕ) (written : Written) → (slot.size ≡ 1) ⊎ (slot.size ≡ 2) ⊎ (slot.size ≡ 4) → AreOctets bytes
    → (if is_read slot.access then immediate_shown slot bytes else None) ≡ Some (written, rest)
    → WrittenBack (specifier 8 15 ∷ bytes) rest (specifier_bytes [] slot written) (GoodSpecifier written)
unfolding immediate_shown
immediate_back slot bytes rest written sized octets e =
    let p = some_if (is_read slot.access) (number_shown slot.size bytes >>= λ number. got (writtens.Immediate (values.Number (plain_number number.0))) number.1) (written, rest) e in
    let b = bind_some (number_shown slot.size bytes) (λ number. got (writtens.Immediate (values.Number (plain_number number.0))) number.1) (written, rest) p.1 in
    let same : (writtens.Immediate (values.Number (plain_number b.0.0)), b.0.1) ≡ (written, rest) = some_same _ _ b.2 in
    let left : b.0.1 ≡ rest = ap (λ (x : Written × List ℕ). x.1) same in
    let begins = begins_number slot.size bytes b.0.0 b.0.1 sized octets b.1 in
    let most : whole_of slot.size ≤ 4294967296 = whole_most slot.size sized in
    written_as (specifier 8 15 ∷ bytes) rest (specifier_bytes [] slot) GoodSpecifier (writtens.Immediate (values.Number (plain_number b.0.0))) written
    (ap (λ (x : Written × List ℕ). x.0) same) (record {
      front = with_number 143 slot.size b.0.0;
      split = ap (λ (l : List ℕ). 143 ∷ l) (begins.split ∙ ap (λ (l : List ℕ). to_le_bytes (width_of slot.size) b.0.0 ++ l) left);
      spells = immediate_spells slot (values.Number (plain_number b.0.0)) b.0.0 p.0 (bits_plain slot.size b.0.0 begins.small);
      is_good = good_plain b.0.0 (omega (arith, most, begins.small));
    })

addressed_back : (slot : Slot) (mode reg : ℕ) (bytes rest : List ℕ) (written : Written) → mode < 16 → reg < 16 → AreOctets bytes
    → (place_shown mode reg bytes >>= λ place. got (writtens.Plain place.0) place.1) ≡ Some (written, rest)
    → WrittenBack (specifier mode reg ∷ bytes) rest (specifier_bytes [] slot written) (GoodSpecifier written)
unfolding specifier_bytes
addressed_back slot mode reg bytes rest written high small octets e =
    let b = bind_some (place_shown mode reg bytes) (λ place. got (writtens.Plain place.0) place.1) (written, rest) e in
    let same : (writtens.Plain b.0.0, b.0.1) ≡ (written, rest) = some_same _ _ b.2 in
    let left : b.0.1 ≡ rest = ap (λ (x : Written × List ℕ). x.1) same in
    let back = place_back mode reg bytes b.0.1 b.0.0 high small octets b.1 in
    written_as (specifier mode reg ∷ bytes) rest (specifier_bytes [] slot) GoodSpecifier (writtens.Plain b.0.0) written (ap (λ (x : Written × List ℕ). x.0) same) (record {
      front = specifier mode reg ∷ back.front;
      split = ap (λ (l : List ℕ). specifier mode reg ∷ l) (back.split ∙ ap (λ (l : List ℕ). back.front ++ l) left);
      spells = back.spells;
      is_good = back.good;
    })

-- at a mode and a register that are known
specifier_as : (mode mode' reg reg' : ℕ) (bytes rest : List ℕ) (spelling : Option (List ℕ)) (good : Type 0) → mode' ≡ mode → reg' ≡ reg
    → WrittenBack (specifier mode reg ∷ bytes) rest spelling good → WrittenBack (specifier mode' reg' ∷ bytes) rest spelling good
specifier_as mode mode' reg reg' bytes rest spelling good e f h =
    subst (λ (m : ℕ). WrittenBack (specifier m reg' ∷ bytes) rest spelling good) (sym e) (subst (λ (r : ℕ). WrittenBack (specifier mode r ∷ bytes) rest spelling good) (sym f) h)

abbrev from_mode_8 : Slot → ℕ → ℕ → List ℕ → Option (Written × List ℕ)
from_mode_8 slot mode reg bytes =
    if (mode == 8) && (reg == 15) then (if is_read slot.access then immediate_shown slot bytes else None)
    else (place_shown mode reg bytes >>= λ place. Some (writtens.Plain place.0, place.1))

abbrev from_mode_5 : Slot → ℕ → ℕ → List ℕ → Option (Written × List ℕ)
from_mode_5 slot mode reg bytes =
    if mode == 5 then (if (reg == 15) || is_address slot.access then None else Some (writtens.Register reg, bytes)) else from_mode_8 slot mode reg bytes

abbrev from_mode_4 : Slot → ℕ → ℕ → List ℕ → Option (Written × List ℕ)
from_mode_4 slot mode reg bytes = if mode == 4 then (if reg == 15 then None else indexed_shown reg bytes) else from_mode_5 slot mode reg bytes

abbrev Backs : Slot → ℕ → ℕ → List ℕ → List ℕ → Written → Type 0
Backs slot mode reg bytes rest written = WrittenBack (specifier mode reg ∷ bytes) rest (specifier_bytes [] slot written) (GoodSpecifier written)

back_by_8 : (slot : Slot) (mode reg : ℕ) (bytes rest : List ℕ) (written : Written) → (slot.size ≡ 1) ⊎ (slot.size ≡ 2) ⊎ (slot.size ≡ 4) → mode < 16
    → reg < 16 → AreOctets bytes
    → ((((mode == 8) && (reg == 15)) ≡ true) × ((if is_read slot.access then immediate_shown slot bytes else None) ≡ Some (written, rest)))
    ⊎ ((((mode == 8) && (reg == 15)) ≡ false) × ((place_shown mode reg bytes >>= λ place. got (writtens.Plain place.0) place.1) ≡ Some (written, rest)))
    → Backs slot mode reg bytes rest written
back_by_8 slot mode reg bytes rest written sized high small octets (inl p) =
    let tests = both (mode == 8) (reg == 15) p.0 in
    specifier_as 8 mode 15 reg bytes rest (specifier_bytes [] slot written) (GoodSpecifier written) (size_is mode 8 tests.0) (size_is reg 15 tests.1)
    (immediate_back slot bytes rest written sized octets p.1)
back_by_8 slot mode reg bytes rest written sized high small octets (inr p) = addressed_back slot mode reg bytes rest written high small octets p.1

back_by_5 : (slot : Slot) (mode reg : ℕ) (bytes rest : List ℕ) (written : Written) → (slot.size ≡ 1) ⊎ (slot.size ≡ 2) ⊎ (slot.size ≡ 4) → mode < 16
    → reg < 16 → AreOctets bytes
    → (((mode == 5) ≡ true) × ((if (reg == 15) || is_address slot.access then None else got (writtens.Register reg) bytes) ≡ Some (written, rest)))
    ⊎ (((mode == 5) ≡ false) × (from_mode_8 slot mode reg bytes ≡ Some (written, rest)))
    → Backs slot mode reg bytes rest written
back_by_5 slot mode reg bytes rest written sized high small octets (inl p) =
    specifier_as 5 mode reg reg bytes rest (specifier_bytes [] slot written) (GoodSpecifier written) (size_is mode 5 p.0) refl (register_back slot reg bytes rest written small p.1)
back_by_5 slot mode reg bytes rest written sized high small octets (inr p) =
    back_by_8 slot mode reg bytes rest written sized high small octets (pick ((mode == 8) && (reg == 15)) (if is_read slot.access then immediate_shown slot bytes else None)
    (place_shown mode reg bytes >>= λ place. Some (writtens.Plain place.0, place.1)) (written, rest) p.1)

back_by_4 : (slot : Slot) (mode reg : ℕ) (bytes rest : List ℕ) (written : Written) → (slot.size ≡ 1) ⊎ (slot.size ≡ 2) ⊎ (slot.size ≡ 4) → mode < 16
    → reg < 16 → AreOctets bytes
    → (((mode == 4) ≡ true) × ((if reg == 15 then None else indexed_shown reg bytes) ≡ Some (written, rest)))
    ⊎ (((mode == 4) ≡ false) × (from_mode_5 slot mode reg bytes ≡ Some (written, rest)))
    → Backs slot mode reg bytes rest written
back_by_4 slot mode reg bytes rest written sized high small octets (inl p) =
    let q = some_unless (reg == 15) (indexed_shown reg bytes) (written, rest) p.1 in
    let less : reg < 15 = (let c = is_not reg 15 q.0 in omega (arith, small, c)) in
    specifier_as 4 mode reg reg bytes rest (specifier_bytes [] slot written) (GoodSpecifier written) (size_is mode 4 p.0) refl (index_back reg bytes rest written slot less octets q.1)
back_by_4 slot mode reg bytes rest written sized high small octets (inr p) =
    back_by_5 slot mode reg bytes rest written sized high small octets
    (pick (mode == 5) (if (reg == 15) || is_address slot.access then None else got (writtens.Register reg) bytes) (from_mode_8 slot mode reg bytes) (written, rest) p.1)

back_by_0 : (slot : Slot) (mode reg : ℕ) (bytes rest : List ℕ) (written : Written) → (slot.size ≡ 1) ⊎ (slot.size ≡ 2) ⊎ (slot.size ≡ 4) → mode < 16
    → reg < 16 → AreOctets bytes
    → ((nat_lt mode 4 ≡ true) × ((if is_read slot.access then got (writtens.Literal (plain_number (16 * mode + reg))) bytes else None) ≡ Some (written, rest)))
    ⊎ ((nat_lt mode 4 ≡ false) × (from_mode_4 slot mode reg bytes ≡ Some (written, rest)))
    → Backs slot mode reg bytes rest written
back_by_0 slot mode reg bytes rest written sized high small octets (inl p) = literal_back slot mode reg bytes rest written (lt_of mode 4 p.0) small p.1
back_by_0 slot mode reg bytes rest written sized high small octets (inr p) =
    back_by_4 slot mode reg bytes rest written sized high small octets (pick (mode == 4) (if reg == 15 then None else indexed_shown reg bytes) (from_mode_5 slot mode reg bytes) (written, rest) p.1)

specifier_back : (slot : Slot) (mode reg : ℕ) (bytes rest : List ℕ) (written : Written) → (slot.size ≡ 1) ⊎ (slot.size ≡ 2) ⊎ (slot.size ≡ 4)
    → mode < 16 → reg < 16 → AreOctets bytes → specifier_shown slot mode reg bytes ≡ Some (written, rest) → Backs slot mode reg bytes rest written
unfolding specifier_shown
specifier_back slot mode reg bytes rest written sized high small octets e =
    back_by_0 slot mode reg bytes rest written sized high small octets
    (pick (nat_lt mode 4) (if is_read slot.access then got (writtens.Literal (plain_number (16 * mode + reg))) bytes else None) (from_mode_4 slot mode reg bytes) (written, rest) e)

-- ---- branches

-- a distance from an end to where it leads is that distance
distance_back : (by end : ℕ) → by < 4294967296 → distance ((end + by) % 4294967296) end ≡ by
distance_back by end small = omega arith

backwards : (size bits : ℕ) → whole_of size ≡ half_of size + half_of size → whole_of size ≤ 4294967296 → bits < whole_of size → half_of size ≤ bits
    → branch_bits size (bits + (4294967296 - whole_of size)) ≡ Some bits
backwards size bits two most small large =
    let high : half_of size ≤ bits + (4294967296 - whole_of size) = omega (arith, two, most, large) in
    let low : 4294967296 - half_of size ≤ bits + (4294967296 - whole_of size) = omega (arith, two, most, large) in
    let back : bits + (4294967296 - whole_of size) - (4294967296 - whole_of size) ≡ bits = omega arith in
    rw (ge_is (bits + (4294967296 - whole_of size)) (half_of size) high) (rw (le_is (4294967296 - half_of size) (bits + (4294967296 - whole_of size)) low) (ap (λ (n : ℕ). Some n) back))

target_by : (size bits end : ℕ) (t : Bool) → whole_of size ≡ half_of size + half_of size → whole_of size ≤ 4294967296 → bits < whole_of size
    → nat_lt bits (half_of size) ≡ t
    → branch_bits size (distance (if t then (end + bits) % 4294967296 else (end + bits + (4294967296 - whole_of size)) % 4294967296) end) ≡ Some bits
target_by size bits end true two most small e = ap (branch_bits size) (distance_back bits end (omega (arith, most, small))) ∙ rw e refl
target_by size bits end false two most small e =
    let large : half_of size ≤ bits = ge_of bits (half_of size) e in
    let by : ℕ = bits + (4294967296 - whole_of size) in
    let sum : end + bits + (4294967296 - whole_of size) ≡ end + (bits + (4294967296 - whole_of size)) = omega arith in
    let fits : bits + (4294967296 - whole_of size) < 4294967296 = omega (arith, most, small) in
    ap (λ (n : ℕ). branch_bits size (distance (n % 4294967296) end)) sum ∙ ap (branch_bits size) (distance_back (bits + (4294967296 - whole_of size)) end fits)
    ∙ backwards size bits two most small large

target_back : (size bits end : ℕ) → (size ≡ 1) ⊎ (size ≡ 2) ⊎ (size ≡ 4) → bits < whole_of size
    → branch_bits size (distance (branch_target size bits end) end) ≡ Some bits
target_back size bits end sized small = target_by size bits end (nat_lt bits (half_of size)) (halves size sized) (whole_most size sized) small refl

target_small : (size bits end : ℕ) → branch_target size bits end < 4294967296
target_small size bits end = small_by (nat_lt bits (half_of size))
  where
    small_by : (t : Bool) → (if t then (end + bits) % 4294967296 else (end + bits + (4294967296 - whole_of size)) % 4294967296) < 4294967296
    small_by true = omega arith
    small_by false = omega arith

target_spells : (from : ℕ) (slot : Slot) (target bits : ℕ) → target < 4294967296
    → branch_bits slot.size (distance target (from + slot.size)) ≡ Some bits
    → branch_bytes [] from slot (writtens.Target (values.Number (plain_number target))) ≡ Some (to_le_bytes (width_of slot.size) bits)
unfolding branch_bytes target_bytes
target_spells from slot target bits small e = rw (bits_plain 4 target small) (rw e refl)

branch_back : (slot : Slot) (from : ℕ) (bytes rest : List ℕ) (written : Written) → (slot.size ≡ 1) ⊎ (slot.size ≡ 2) ⊎ (slot.size ≡ 4)
    → AreOctets bytes → branch_shown slot from bytes ≡ Some (written, rest)
    → WrittenBack bytes rest (branch_bytes [] from slot written) (GoodTarget written)
unfolding branch_shown
branch_back slot from bytes rest written sized octets e =
    let b = bind_some (number_shown slot.size bytes) (λ bits. got (writtens.Target (values.Number (plain_number (branch_target slot.size bits.0 (from + slot.size))))) bits.1) (written, rest) e in
    let target : ℕ = branch_target slot.size b.0.0 (from + slot.size) in
    let same : (writtens.Target (values.Number (plain_number (branch_target slot.size b.0.0 (from + slot.size)))), b.0.1) ≡ (written, rest) = some_same _ _ b.2 in
    let left : b.0.1 ≡ rest = ap (λ (x : Written × List ℕ). x.1) same in
    let begins = begins_number slot.size bytes b.0.0 b.0.1 sized octets b.1 in
    written_as bytes rest (branch_bytes [] from slot) GoodTarget (writtens.Target (values.Number (plain_number (branch_target slot.size b.0.0 (from + slot.size))))) written
    (ap (λ (x : Written × List ℕ). x.0) same) (record {
      front = to_le_bytes (width_of slot.size) b.0.0;
      split = begins.split ∙ ap (λ (l : List ℕ). to_le_bytes (width_of slot.size) b.0.0 ++ l) left;
      spells = target_spells from slot (branch_target slot.size b.0.0 (from + slot.size)) b.0.0 (target_small slot.size b.0.0 (from + slot.size))
          (target_back slot.size b.0.0 (from + slot.size) sized begins.small);
      is_good = good_plain (branch_target slot.size b.0.0 (from + slot.size)) (target_small slot.size b.0.0 (from + slot.size));
    })

-- ---- places of the row

operand_by : (slot : Slot) (from : ℕ) (bytes rest : List ℕ) (written : Written) (branch : Bool) → (slot.size ≡ 1) ⊎ (slot.size ≡ 2) ⊎ (slot.size ≡ 4)
    → AreOctets bytes
    → (if branch then branch_shown slot from bytes else (byte_shown bytes >>= λ first. specifier_shown slot (first.0 / 16) (first.0 % 16) first.1))
    ≡ Some (written, rest)
    → WrittenBack bytes rest (if branch then branch_bytes [] from slot written else specifier_bytes [] slot written) (GoodOperand branch written)
unfolding byte_shown
operand_by slot from bytes rest written true sized octets e = branch_back slot from bytes rest written sized octets e
operand_by slot from [] rest written false sized octets e = absurd (cc)
operand_by slot from (first ∷ bytes) rest written false sized octets e =
    let byte : first < 256 = octets.0 in
    subst (λ (b : ℕ). WrittenBack (b ∷ bytes) rest (specifier_bytes [] slot written) (GoodSpecifier written)) (byte_halves first)
    (specifier_back slot (first / 16) (first % 16) bytes rest written sized (omega arith) (omega arith) octets.1 e)

row_place_by : (slot : Slot) (from : ℕ) (bytes rest : List ℕ) (written : Written) (here : Bool) → (slot.size ≡ 1) ⊎ (slot.size ≡ 2) ⊎ (slot.size ≡ 4)
    → AreOctets bytes → (if here then operand_shown slot from bytes else got writtens.Absent bytes) ≡ Some (written, rest)
    → WrittenBack bytes rest (if here then (if is_branch slot.access then branch_bytes [] from slot written else specifier_bytes [] slot written)
    else absent_bytes written) (GoodPlaceOfRow here (is_branch slot.access) written)
unfolding operand_shown
row_place_by slot from bytes rest written true sized octets e = operand_by slot from bytes rest written (is_branch slot.access) sized octets e
row_place_by slot from bytes rest written false sized octets e =
    let same : (writtens.Absent, bytes) ≡ (written, rest) = some_same _ _ e in
    let absent : writtens.Absent ≡ written = ap (λ (x : Written × List ℕ). x.0) same in
    record {
      front = [];
      split = ap (λ (x : Written × List ℕ). x.1) same;
      spells = ap absent_bytes (sym absent);
      is_good = sym absent;
    }

row_place_back : (row : Row) (place from : ℕ) (bytes rest : List ℕ) (written : Written) → AreOctets bytes
    → row_place_shown row place from bytes ≡ Some (written, rest)
    → WrittenBack bytes rest (operand_bytes [] from row place written) (GoodPlaceOfRow (nat_lt place row.count) (is_branch (slot_in row place).access) written)
unfolding row_place_shown operand_bytes
row_place_back row place from bytes rest written octets e =
    row_place_by (slot_in row place) from bytes rest written (nat_lt place row.count) (kind_sized (if place == 0 then row.a else (if place == 1 then row.b else row.c))) octets e

-- ---- instructions

-- The bytes at an address begin with those of the instruction, whose operands can be read again.
pub record SentenceBack (at : ℕ) (bytes rest : List ℕ) (sentence : Sentence) : Type 0 where
  pub front : List ℕ
  pub split : bytes ≡ front ++ rest
  pub spells : sentence_bytes [] at sentence ≡ Some front
  pub listed : row_for sentence.row.op ≡ Some sentence.row
  pub good_a : GoodPlaceOfRow (nat_lt 0 sentence.row.count) (is_branch (slot_in sentence.row 0).access) sentence.a
  pub good_b : GoodPlaceOfRow (nat_lt 1 sentence.row.count) (is_branch (slot_in sentence.row 1).access) sentence.b
  pub good_c : GoodPlaceOfRow (nat_lt 2 sentence.row.count) (is_branch (slot_in sentence.row 2).access) sentence.c

from_second : (from : ℕ) (bytes front rest : List ℕ) → bytes ≡ front ++ rest → from + (length bytes - length rest) ≡ from + length front
from_second from bytes front rest e =
    let sizes : length bytes ≡ length front + length rest = ap length e ∙ length-append front rest in
    omega (arith, sizes)

from_third : (from : ℕ) (bytes front middle more rest : List ℕ) → bytes ≡ front ++ middle → middle ≡ more ++ rest
    → from + (length bytes - length rest) ≡ from + length front + length more
from_third from bytes front middle more rest e f =
    let sizes : length bytes ≡ length front + length middle = ap length e ∙ length-append front middle in
    let others : length middle ≡ length more + length rest = ap length f ∙ length-append more rest in
    omega (arith, sizes, others)

written_from : (row : Row) (place from from' : ℕ) (written : Written) (bytes : List ℕ) → from ≡ from'
    → operand_bytes [] from row place written ≡ Some bytes → operand_bytes [] from' row place written ≡ Some bytes
written_from row place from from' written bytes e h = subst (λ (f : ℕ). operand_bytes [] f row place written ≡ Some bytes) e h

behind_front : (xs ys zs : List ℕ) → xs ≡ ys ++ zs → AreOctets xs → AreOctets zs
behind_front xs ys zs e h = octets_rest ys zs (subst (λ (l : List ℕ). AreOctets l) e h)

joined : (bytes one after_one two after_two three rest : List ℕ) → bytes ≡ one ++ after_one → after_one ≡ two ++ after_two → after_two ≡ three ++ rest
    → bytes ≡ (one ++ (two ++ three)) ++ rest
joined bytes one after_one two after_two three rest e f g =
    e ∙ ap (λ (l : List ℕ). one ++ l) (f ∙ ap (λ (l : List ℕ). two ++ l) g ∙ sym (append_assoc two three rest)) ∙ sym (append_assoc one (two ++ three) rest)

three_spell : (at : ℕ) (s : Sentence) (a b c : List ℕ) → operand_bytes [] (at + 1) s.row 0 s.a ≡ Some a
    → operand_bytes [] (at + 1 + length a) s.row 1 s.b ≡ Some b → operand_bytes [] (at + 1 + length a + length b) s.row 2 s.c ≡ Some c
    → sentence_bytes [] at s ≡ Some (s.row.op ∷ (a ++ (b ++ c)))
unfolding sentence_bytes
three_spell at s a b c e f g =
    three_binds (operand_bytes [] (at + 1) s.row 0 s.a) (λ a. operand_bytes [] (at + 1 + length a) s.row 1 s.b) (λ a b. operand_bytes [] (at + 1 + length a + length b) s.row 2 s.c)
    (λ a b c. s.row.op ∷ (a ++ (b ++ c))) a b c e f g

sentence_as : (at : ℕ) (bytes rest rest' : List ℕ) (s s' : Sentence) → s ≡ s' → rest ≡ rest' → SentenceBack at bytes rest s → SentenceBack at bytes rest' s'
sentence_as at bytes rest rest' s s' e f h = subst (λ (x : Sentence). SentenceBack at bytes rest' x) e (subst (λ (l : List ℕ). SentenceBack at bytes l s) f h)

abbrev made : Row → Written → Written → Written → Sentence
made row a b c = record { row = row; a = a; b = b; c = c }

operands_back : (at first : ℕ) (bytes rest : List ℕ) (row : Row) (sentence : Sentence) → AreOctets bytes → row_for first ≡ Some row
    → operands_shown row (at + 1) bytes ≡ Some (sentence, rest) → SentenceBack at (first ∷ bytes) rest sentence
unfolding operands_shown
operands_back at first bytes rest row sentence octets listed e =
    let a = bind_some (row_place_shown row 0 (at + 1) bytes) (λ a. row_place_shown row 1 (at + 1 + (length bytes - length a.1)) a.1 >>= λ b.
    row_place_shown row 2 (at + 1 + (length bytes - length b.1)) b.1 >>= λ c. got (made row a.0 b.0 c.0) c.1) (sentence, rest) e in
    let b = bind_some (row_place_shown row 1 (at + 1 + (length bytes - length a.0.1)) a.0.1)
    (λ b. row_place_shown row 2 (at + 1 + (length bytes - length b.1)) b.1 >>= λ c. got (made row a.0.0 b.0 c.0) c.1) (sentence, rest) a.2 in
    let c = bind_some (row_place_shown row 2 (at + 1 + (length bytes - length b.0.1)) b.0.1) (λ c. got (made row a.0.0 b.0.0 c.0) c.1) (sentence, rest) b.2 in
    let same : (made row a.0.0 b.0.0 c.0.0, c.0.1) ≡ (sentence, rest) = some_same _ _ c.2 in
    let one = row_place_back row 0 (at + 1) bytes a.0.1 a.0.0 octets a.1 in
    let octets_b = behind_front bytes one.front a.0.1 one.split octets in
    let two = row_place_back row 1 (at + 1 + (length bytes - length a.0.1)) a.0.1 b.0.1 b.0.0 octets_b b.1 in
    let octets_c = behind_front a.0.1 two.front b.0.1 two.split octets_b in
    let three = row_place_back row 2 (at + 1 + (length bytes - length b.0.1)) b.0.1 c.0.1 c.0.0 octets_c c.1 in
    let from_b = from_second (at + 1) bytes one.front a.0.1 one.split in
    let from_c = from_third (at + 1) bytes one.front a.0.1 two.front b.0.1 one.split two.split in
    let op : row.op ≡ first = row_of_op first row listed in
    sentence_as at (first ∷ bytes) c.0.1 rest (made row a.0.0 b.0.0 c.0.0) sentence (ap (λ (x : Sentence × List ℕ). x.0) same) (ap (λ (x : Sentence × List ℕ). x.1) same) (record {
      front = row.op ∷ (one.front ++ (two.front ++ three.front));
      split = ap (λ (n : ℕ). n ∷ bytes) (sym op) ∙ ap (λ (l : List ℕ). row.op ∷ l) (joined bytes one.front a.0.1 two.front b.0.1 three.front c.0.1 one.split two.split three.split);
      spells = three_spell at (made row a.0.0 b.0.0 c.0.0) one.front two.front three.front one.spells
          (written_from row 1 (at + 1 + (length bytes - length a.0.1)) (at + 1 + length one.front) b.0.0 two.front from_b two.spells)
          (written_from row 2 (at + 1 + (length bytes - length b.0.1)) (at + 1 + length one.front + length two.front) c.0.0 three.front from_c three.spells);
      listed = subst (λ (n : ℕ). row_for n ≡ Some row) (sym op) listed;
      good_a = one.is_good;
      good_b = two.is_good;
      good_c = three.is_good;
    })

pub sentence_back : (at : ℕ) (bytes rest : List ℕ) (sentence : Sentence) → AreOctets bytes → sentence_shown at bytes ≡ Some (sentence, rest)
    → SentenceBack at bytes rest sentence
unfolding sentence_shown byte_shown
sentence_back at [] rest sentence octets e = absurd (cc)
sentence_back at (first ∷ bytes) rest sentence octets e =
    let r = bind_some (row_for first) (λ row. operands_shown row (at + 1) bytes) (sentence, rest) e in
    operands_back at first bytes rest r.0 sentence octets.1 r.1 r.2
