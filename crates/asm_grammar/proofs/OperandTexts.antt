-- An operand of the grammar is read as what it says.
use Rattle.std.proofs.Common.{◌≡◌, ℕ, ◌+◌, ◌-◌, ◌<◌, Bool, true, false, List, [], ◌∷◌, ◌++◌, Some, None, refl, sym, ◌∙◌, ap, subst, arith, append_assoc}
use Rattle.std.specs.Prelude.{◌==◌, if◌then◌else◌, codes, ⊤}
use Rattle.std.specs.Int.{is_in_range}
use Rattle.std.proofs.lemmas.Bool.Decides.{nat_tests}
use Rattle.vax_code.proofs.Parsing.{not_pc}
use Rattle.asm_grammar.specs.Text.{◌>>=◌, Text, behind_byte}
use Rattle.asm_grammar.specs.Numbers.{spelled_number_at}
use Rattle.asm_grammar.specs.Values.{is_word_byte}
use Rattle.asm_grammar.specs.Operands.{second_digit, register_number_at, register_at, in_parentheses_at, incremented, deferred_at, decremented_at, increment_deferred_at, absolute_at, displacement_at, displaced_at, pointer_at, place_at, index_at, indexed, addressed_at, misindexed_at, unaddressed, literal_at, immediate_at, plain_register_at, specifier_at, target_at, operand_at}
use Rattle.asm_grammar.specs.declared.syntax.Number.{Number}
use Rattle.asm_grammar.specs.declared.syntax.Value.{Value}
use Rattle.asm_grammar.specs.declared.syntax.Place.{Place}
use Rattle.asm_grammar.specs.declared.syntax.Place.TheVariants as places
use Rattle.asm_grammar.specs.declared.syntax.Written.{Written}
use Rattle.asm_grammar.specs.declared.syntax.Written.TheVariants as writtens
use Rattle.asm_grammar.specs.Grammar.{IsNumber, IsRegister, OneDigit, TwoDigits, IsParenthesised, Parentheses, IsMark, OfByte, OfWord, OfLongword, IsAddressed, Deferred, Decremented, Incremented, IncrementedDeferred, Absolute, Displaced, DisplacedDeferred, IsUnaddressed, Literal, Immediate, Register, IsIndex, Brackets, IsSpecified, Unaddressed, Addressed, Indexed, Misindexed, IsOperand, Target, Specified}
use Rattle.asm_grammar.proofs.Reading.{Ends, number_read, value_read}

-- ---- registers

second_ends : (rest : List ℕ) → Ends rest → second_digit rest ≡ Some (1, rest)
second_ends [] h = refl
second_ends (byte ∷ rest) h = (let other : is_in_range 48 53 byte ≡ false = grind (arith, nat_tests, h) in rw other refl)

is_one : (k : ℕ) → (48 + k == 49) ≡ true → 1 ≡ k
is_one k h = grind (arith, nat_tests)

one_digit_by : (k : ℕ) (rest : List ℕ) (one : Bool) → (48 + k == 49) ≡ one → k < 10 → Ends rest
    → (if one then second_digit rest else (if is_in_range 48 57 (48 + k) then Some (48 + k - 48, rest) else None)) ≡ Some (k, rest)
one_digit_by k rest true e small ends = second_ends rest ends ∙ ap (λ (n : ℕ). Some (n, rest)) (is_one k e)
one_digit_by k rest false e small ends =
    let here : is_in_range 48 57 (48 + k) ≡ true = grind (arith, nat_tests) in
    let back : 48 + k - 48 ≡ k = omega arith in
    rw here (ap (λ (n : ℕ). Some (n, rest)) back)

pub register_read : (r : List ℕ) (k : ℕ) (rest : List ℕ) → IsRegister r k → Ends rest → register_at (r ++ rest) ≡ Some (k, rest)
unfolding register_at behind_byte register_number_at
register_read r reg rest (OneDigit {k} small) ends = one_digit_by k rest (48 + k == 49) refl small ends
register_read r reg rest (TwoDigits {k} small) ends =
    let here : is_in_range 48 53 (48 + k) ≡ true = grind (arith, nat_tests) in
    let back : 48 + k - 48 ≡ k = omega arith in
    rw here (ap (λ (n : ℕ). Some (10 + n, rest)) back)

parentheses_read : (p : List ℕ) (k : ℕ) (rest : List ℕ) → IsParenthesised p k → in_parentheses_at (p ++ rest) ≡ Some (k, rest)
unfolding in_parentheses_at behind_byte
parentheses_read p k rest (Parentheses {r} is) =
    ap (λ (l : List ℕ). register_at l >>= λ reg. behind_byte 41 reg.1 >>= λ rest. Some (reg.0, rest)) (append_assoc r (codes ")") rest)
    ∙ ap (λ (o : Text ℕ). o >>= λ reg. behind_byte 41 reg.1 >>= λ rest. Some (reg.0, rest)) (register_read r k (41 ∷ rest) is refl)

-- a `(` stands first
opened : (p : List ℕ) (k : ℕ) (rest : List ℕ) → IsParenthesised p k
    → (place_at (p ++ rest) ≡ deferred_at (p ++ rest)) × (pointer_at (p ++ rest) ≡ increment_deferred_at (p ++ rest))
    × (specifier_at (p ++ rest) ≡ addressed_at (p ++ rest)) × Ends (p ++ rest)
unfolding place_at pointer_at specifier_at
opened p k rest (Parentheses {r} is) = (refl, refl, refl, refl)

-- ---- places

-- no byte of a word comes next, and no `+`
abbrev pub PlaceEnds : List ℕ → Type 0
PlaceEnds [] = ⊤
PlaceEnds (byte ∷ bytes) = (is_word_byte byte ≡ false) × ((byte == 43) ≡ false)

pub word_ends : (rest : List ℕ) → PlaceEnds rest → Ends rest
word_ends [] h = tt
word_ends (byte ∷ rest) h = h.0

not_incremented : (k : ℕ) (rest : List ℕ) → PlaceEnds rest → incremented k rest ≡ Some (places.Deferred k, rest)
not_incremented k [] h = refl
not_incremented k (byte ∷ rest) h = rw h.1 refl

displacement_read : (n p : List ℕ) (size k : ℕ) (number : Number) (deferred : Bool) (rest : List ℕ) → IsNumber n number → IsParenthesised p k
    → displacement_at size deferred (94 ∷ ((n ++ p) ++ rest)) ≡ Some (places.Disp size k number deferred, rest)
unfolding displacement_at behind_byte
displacement_read n p size k number deferred rest is reg =
    ap (λ (l : List ℕ). spelled_number_at l >>= λ by. in_parentheses_at by.1 >>= λ reg. Some (places.Disp size reg.0 by.0 deferred, reg.1)) (append_assoc n p rest)
    ∙ ap (λ (o : Text Number). o >>= λ by. in_parentheses_at by.1 >>= λ reg. Some (places.Disp size reg.0 by.0 deferred, reg.1))
    (number_read n number (p ++ rest) is (opened p k rest reg).3)
    ∙ ap (λ (o : Text ℕ). o >>= λ reg. Some (places.Disp size reg.0 number deferred, reg.1)) (parentheses_read p k rest reg)

displaced_read : (m n p : List ℕ) (size k : ℕ) (number : Number) (deferred : Bool) (rest : List ℕ) → IsMark m size → IsNumber n number
    → IsParenthesised p k → displaced_at deferred ((m ++ n ++ p) ++ rest) ≡ Some (places.Disp size k number deferred, rest)
unfolding displaced_at
displaced_read m n p size k number deferred rest OfByte is reg = displacement_read n p 1 k number deferred rest is reg
displaced_read m n p size k number deferred rest OfWord is reg = displacement_read n p 2 k number deferred rest is reg
displaced_read m n p size k number deferred rest OfLongword is reg = displacement_read n p 4 k number deferred rest is reg

-- a mark stands first
marked : (m n p rest : List ℕ) (size : ℕ) → IsMark m size
    → (place_at ((m ++ n ++ p) ++ rest) ≡ displaced_at false ((m ++ n ++ p) ++ rest))
    × (pointer_at ((m ++ n ++ p) ++ rest) ≡ displaced_at true ((m ++ n ++ p) ++ rest))
    × (specifier_at ((m ++ n ++ p) ++ rest) ≡ addressed_at ((m ++ n ++ p) ++ rest))
unfolding place_at pointer_at specifier_at
marked m n p rest size OfByte = (refl, refl, refl)
marked m n p rest size OfWord = (refl, refl, refl)
marked m n p rest size OfLongword = (refl, refl, refl)

pub place_read : (a : List ℕ) (place : Place) (rest : List ℕ) → IsAddressed a place → PlaceEnds rest → place_at (a ++ rest) ≡ Some (place, rest)
unfolding place_at deferred_at decremented_at increment_deferred_at absolute_at pointer_at behind_byte
place_read a place rest (Deferred {p} {k} is) ends =
    (opened p k rest is).0 ∙ ap (λ (o : Text ℕ). o >>= λ reg. incremented reg.0 reg.1) (parentheses_read p k rest is) ∙ not_incremented k rest ends
place_read a place rest (Decremented {p} {k} is) ends = ap (λ (o : Text ℕ). o >>= λ reg. Some (places.AutoDec reg.0, reg.1)) (parentheses_read p k rest is)
place_read a place rest (Incremented {p} {k} is small) ends =
    ap place_at (append_assoc p (codes "+") rest) ∙ (opened p k (43 ∷ rest) is).0
    ∙ ap (λ (o : Text ℕ). o >>= λ reg. incremented reg.0 reg.1) (parentheses_read p k (43 ∷ rest) is) ∙ rw (not_pc k small) refl
place_read a place rest (IncrementedDeferred {p} {k} is small) ends =
    ap pointer_at (append_assoc p (codes "+") rest) ∙ (opened p k (43 ∷ rest) is).1
    ∙ ap (λ (o : Text ℕ). o >>= λ reg. behind_byte 43 reg.1 >>= λ rest. if reg.0 == 15 then None else Some (places.AutoIncDef reg.0, rest))
    (parentheses_read p k (43 ∷ rest) is) ∙ rw (not_pc k small) refl
place_read a place rest (Absolute {x} {value} is) ends =
    ap (λ (o : Text Value). o >>= λ address. Some (places.Absolute address.0, address.1)) (value_read x value rest is (word_ends rest ends))
place_read a place rest (Displaced {m} {n} {p} {size} {k} {number} mark is reg) ends =
    (marked m n p rest size mark).0 ∙ displaced_read m n p size k number false rest mark is reg
place_read a place rest (DisplacedDeferred {m} {n} {p} {size} {k} {number} mark is reg) ends =
    (marked m n p rest size mark).1 ∙ displaced_read m n p size k number true rest mark is reg

-- ---- operands

-- nothing comes next, or a comma
abbrev pub OperandEnds : List ℕ → Type 0
OperandEnds [] = ⊤
OperandEnds (byte ∷ bytes) = byte ≡ 44

pub place_ends : (rest : List ℕ) → OperandEnds rest → PlaceEnds rest
place_ends [] h = tt
place_ends (byte ∷ rest) h = subst (λ (b : ℕ). (is_word_byte b ≡ false) × ((b == 43) ≡ false)) (sym h) (refl, refl)

pub operand_ends : (rest : List ℕ) → OperandEnds rest → Ends rest
operand_ends rest h = word_ends rest (place_ends rest h)

not_indexed : (place : Place) (rest : List ℕ) → OperandEnds rest → indexed place rest ≡ Some (writtens.Plain place, rest)
not_indexed place [] h = refl
not_indexed place (byte ∷ rest) h = subst (λ (b : ℕ). indexed place (b ∷ rest) ≡ Some (writtens.Plain place, b ∷ rest)) (sym h) refl

not_misindexed : (immediate : Bool) (written : Written) (rest : List ℕ) → OperandEnds rest → unaddressed immediate written rest ≡ Some (written, rest)
not_misindexed immediate written [] h = refl
not_misindexed immediate written (byte ∷ rest) h =
    subst (λ (b : ℕ). unaddressed immediate written (b ∷ rest) ≡ Some (written, b ∷ rest)) (sym h) refl

-- an operand with an address isn't taken for another one
addressed : (a : List ℕ) (place : Place) (rest : List ℕ) → IsAddressed a place → specifier_at (a ++ rest) ≡ addressed_at (a ++ rest)
unfolding specifier_at
addressed a place rest (Deferred {p} {k} is) = (opened p k rest is).2
addressed a place rest (Decremented {p} {k} is) = refl
addressed a place rest (Incremented {p} {k} is small) =
    ap specifier_at (append_assoc p (codes "+") rest) ∙ (opened p k (43 ∷ rest) is).2 ∙ ap addressed_at (sym (append_assoc p (codes "+") rest))
addressed a place rest (IncrementedDeferred {p} {k} is small) = refl
addressed a place rest (Absolute {x} {value} is) = refl
addressed a place rest (Displaced {m} {n} {p} {size} {k} {number} mark is reg) = (marked m n p rest size mark).2
addressed a place rest (DisplacedDeferred {m} {n} {p} {size} {k} {number} mark is reg) = refl

addressed_read : (p : List ℕ) (place : Place) (rest : List ℕ) → IsAddressed p place → PlaceEnds rest → specifier_at (p ++ rest) ≡ indexed place rest
unfolding addressed_at
addressed_read p place rest is ends = addressed p place rest is ∙ ap (λ (o : Text Place). o >>= λ r. indexed r.0 r.1) (place_read p place rest is ends)

index_read : (i : List ℕ) (k : ℕ) (place : Place) (rest : List ℕ) → IsIndex i k → indexed place (i ++ rest) ≡ Some (writtens.Indexed k place, rest)
unfolding index_at behind_byte
index_read i k place rest (Brackets {r} is) =
    ap (λ (l : List ℕ). index_at place l) (append_assoc r (codes "]") rest)
    ∙ ap (λ (o : Text ℕ). o >>= λ reg. behind_byte 93 reg.1 >>= λ rest. Some (writtens.Indexed reg.0 place, rest)) (register_read r k (93 ∷ rest) is refl)

misindex_read : (i : List ℕ) (k : ℕ) (immediate : Bool) (written : Written) (rest : List ℕ) → IsIndex i k
    → unaddressed immediate written (i ++ rest) ≡ Some (writtens.Misindexed immediate, rest)
unfolding misindexed_at behind_byte
misindex_read i k immediate written rest (Brackets {r} is) =
    ap (λ (l : List ℕ). misindexed_at immediate l) (append_assoc r (codes "]") rest)
    ∙ ap (λ (o : Text ℕ). o >>= λ reg. behind_byte 93 reg.1 >>= λ rest. Some (writtens.Misindexed immediate, rest)) (register_read r k (93 ∷ rest) is refl)

index_ends : (i : List ℕ) (k : ℕ) (rest : List ℕ) → IsIndex i k → PlaceEnds (i ++ rest)
index_ends i k rest (Brackets {r} is) = (refl, refl)

register_first : (r : List ℕ) (k : ℕ) (rest : List ℕ) → IsRegister r k → specifier_at (r ++ rest) ≡ plain_register_at (r ++ rest)
unfolding specifier_at
register_first r k rest (OneDigit small) = refl
register_first r k rest (TwoDigits small) = refl

unaddressed_read : (u : List ℕ) (immediate : Bool) (written : Written) (rest : List ℕ) → IsUnaddressed u immediate written → PlaceEnds rest
    → specifier_at (u ++ rest) ≡ unaddressed immediate written rest
unfolding specifier_at literal_at immediate_at plain_register_at behind_byte
unaddressed_read u immediate written rest (Literal {n} {number} is) ends =
    ap (λ (o : Text Number). o >>= λ r. unaddressed false (writtens.Literal r.0) r.1) (number_read n number rest is (word_ends rest ends))
unaddressed_read u immediate written rest (Immediate {x} {value} is) ends =
    ap (λ (o : Text Value). o >>= λ r. unaddressed true (writtens.Immediate r.0) r.1) (value_read x value rest is (word_ends rest ends))
unaddressed_read u immediate written rest (Register {k = k} is) ends =
    register_first u k rest is
    ∙ ap (λ (o : Text ℕ). o >>= λ r. unaddressed false (writtens.Register r.0) r.1) (register_read u k rest is (word_ends rest ends))

specified_read : (o : List ℕ) (written : Written) (rest : List ℕ) → IsSpecified o written → OperandEnds rest
    → specifier_at (o ++ rest) ≡ Some (written, rest)
specified_read o written rest (Unaddressed {immediate = immediate} is) ends =
    unaddressed_read o immediate written rest is (place_ends rest ends) ∙ not_misindexed immediate written rest ends
specified_read o written rest (Addressed {place = place} is) ends = addressed_read o place rest is (place_ends rest ends) ∙ not_indexed place rest ends
specified_read o written rest (Indexed {a} {i} {place} {k} is index) ends =
    ap specifier_at (append_assoc a i rest) ∙ addressed_read a place (i ++ rest) is (index_ends i k rest index) ∙ index_read i k place rest index
specified_read o written rest (Misindexed {u} {i} {immediate} {written = plain} {k} is index) ends =
    ap specifier_at (append_assoc u i rest) ∙ unaddressed_read u immediate plain (i ++ rest) is (index_ends i k rest index)
    ∙ misindex_read i k immediate plain rest index

pub operand_read : (branch : Bool) (o : List ℕ) (written : Written) (rest : List ℕ) → IsOperand branch o written → OperandEnds rest
    → operand_at branch (o ++ rest) ≡ Some (written, rest)
unfolding operand_at target_at
operand_read branch o written rest (Target {value = value} is) ends =
    ap (λ (t : Text Value). t >>= λ r. Some (writtens.Target r.0, r.1)) (value_read o value rest is (operand_ends rest ends))
operand_read branch o written rest (Specified is) ends = specified_read o written rest is ends
