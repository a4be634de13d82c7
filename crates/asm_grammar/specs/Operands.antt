-- Reading an operand from the front of a text, as a function, form by form.
use Prim.Native.Char.{code}
use Rattle.std.specs.Prelude.{ℕ, ◌+◌, ◌-◌, ◌==◌, ◌&&◌, Bool, true, false, not, if◌then◌else◌, List, [], ◌∷◌, Option, Some, None}
use Rattle.std.specs.Int.{is_in_range}
use Rattle.asm_grammar.specs.Text.{◌>>=◌, Text, behind_byte}
use Rattle.asm_grammar.specs.Numbers.{spelled_number_at}
use Rattle.asm_grammar.specs.Values.{value_at}
use Rattle.asm_grammar.specs.declared.syntax.Place.{Place}
use Rattle.asm_grammar.specs.declared.syntax.Place.TheVariants as places
use Rattle.asm_grammar.specs.declared.syntax.Written.{Written}
use Rattle.asm_grammar.specs.declared.syntax.Written.TheVariants as writtens

-- a register's number after a 1: 10 to 15, or 1
abbrev pub second_digit : List ℕ → Text ℕ
second_digit [] = Some (1, [])
second_digit (digit ∷ rest) = if is_in_range (code "0") (code "5") digit then Some (10 + (digit - code "0"), rest) else Some (1, digit ∷ rest)

-- 0 to 15, without leading zeros
unfoldable pub register_number_at : List ℕ → Text ℕ
register_number_at [] = None
register_number_at (digit ∷ rest) =
    if digit == code "1" then second_digit rest
    else (if is_in_range (code "0") (code "9") digit then Some (digit - code "0", rest) else None)

-- `rK`
unfoldable pub register_at : List ℕ → Text ℕ
register_at text = behind_byte (code "r") text >>= register_number_at

-- `(rK)`
unfoldable pub in_parentheses_at : List ℕ → Text ℕ
in_parentheses_at text = do
  inner ← behind_byte (code "(") text
  reg ← register_at inner
  rest ← behind_byte (code ")") reg.1
  Some (reg.0, rest)

-- `(rK)` or `(rK)+`
abbrev pub incremented : ℕ → List ℕ → Text Place
incremented reg [] = Some (places.Deferred reg, [])
incremented reg (first ∷ rest) =
    if (first == code "+") && not (reg == 15) then Some (places.AutoInc reg, rest) else Some (places.Deferred reg, first ∷ rest)

-- an operand that begins with `(`: `(rK)` or `(rK)+`
unfoldable pub deferred_at : List ℕ → Text Place
deferred_at text = in_parentheses_at text >>= λ reg. incremented reg.0 reg.1

-- `-(rK)`, after the `-`
unfoldable pub decremented_at : List ℕ → Text Place
decremented_at text = in_parentheses_at text >>= λ reg. Some (places.AutoDec reg.0, reg.1)

-- `*(rK)+`, after the `*`
unfoldable pub increment_deferred_at : List ℕ → Text Place
increment_deferred_at text = do
  reg ← in_parentheses_at text
  rest ← behind_byte (code "+") reg.1
  if reg.0 == 15 then None else Some (places.AutoIncDef reg.0, rest)

-- `*$X`, after the `$`
unfoldable pub absolute_at : List ℕ → Text Place
absolute_at text = value_at text >>= λ address. Some (places.Absolute address.0, address.1)

-- how many bytes a displacement has by its mark
abbrev pub marked_size : ℕ → Option ℕ
marked_size mark = if mark == code "b" then Some 1 else (if mark == code "w" then Some 2 else (if mark == code "l" then Some 4 else None))

-- `^N(rK)`, after the mark
unfoldable pub displacement_at : ℕ → Bool → List ℕ → Text Place
displacement_at size deferred text = do
  number ← behind_byte (code "^") text
  by ← spelled_number_at number
  reg ← in_parentheses_at by.1
  Some (places.Disp size reg.0 by.0 deferred, reg.1)

-- `b^N(rK)`, `w^N(rK)` or `l^N(rK)`, after the `*` where it is deferred
unfoldable pub displaced_at : Bool → List ℕ → Text Place
displaced_at deferred [] = None
displaced_at deferred (mark ∷ rest) = marked_size mark >>= λ size. displacement_at size deferred rest

-- what follows a `*`
unfoldable pub pointer_at : List ℕ → Text Place
pointer_at [] = None
pointer_at (first ∷ rest) =
    if first == code "$" then absolute_at rest
    else (if first == code "(" then increment_deferred_at (first ∷ rest)
    else displaced_at true (first ∷ rest))

-- an operand that an index may follow
unfoldable pub place_at : List ℕ → Text Place
place_at [] = None
place_at (first ∷ rest) =
    if first == code "(" then deferred_at (first ∷ rest)
    else (if first == code "-" then decremented_at rest
    else (if first == code "*" then pointer_at rest
    else displaced_at false (first ∷ rest)))

-- `rK]`, after the `[`
unfoldable pub index_at : Place → List ℕ → Text Written
index_at base text = do
  reg ← register_at text
  rest ← behind_byte (code "]") reg.1
  Some (writtens.Indexed reg.0 base, rest)

-- a place, with the index `[rK]` where the text after it begins with one
abbrev pub indexed : Place → List ℕ → Text Written
indexed place [] = Some (writtens.Plain place, [])
indexed place (first ∷ rest) = if first == code "[" then index_at place rest else Some (writtens.Plain place, first ∷ rest)

-- an operand that has an address, with an index or without
unfoldable pub addressed_at : List ℕ → Text Written
addressed_at text = place_at text >>= λ place. indexed place.0 place.1

-- `rK]`, after the `[` of an index on an operand without an address
unfoldable pub misindexed_at : Bool → List ℕ → Text Written
misindexed_at immediate text = do
  reg ← register_at text
  rest ← behind_byte (code "]") reg.1
  Some (writtens.Misindexed immediate, rest)

-- an operand without an address: with an index after it, it is still one of the grammar, but refused
abbrev pub unaddressed : Bool → Written → List ℕ → Text Written
unaddressed immediate written [] = Some (written, [])
unaddressed immediate written (first ∷ rest) = if first == code "[" then misindexed_at immediate rest else Some (written, first ∷ rest)

-- `$N`, after the `$`
unfoldable pub literal_at : List ℕ → Text Written
literal_at text = spelled_number_at text >>= λ number. unaddressed false (writtens.Literal number.0) number.1

-- `i^$X`, after the `i`
unfoldable pub immediate_at : List ℕ → Text Written
immediate_at text = do
  dollar ← behind_byte (code "^") text
  number ← behind_byte (code "$") dollar
  value ← value_at number
  unaddressed true (writtens.Immediate value.0) value.1

-- the operand `rK`
unfoldable pub plain_register_at : List ℕ → Text Written
plain_register_at text = register_at text >>= λ reg. unaddressed false (writtens.Register reg.0) reg.1

-- an operand that has a specifier
unfoldable pub specifier_at : List ℕ → Text Written
specifier_at [] = None
specifier_at (first ∷ rest) =
    if first == code "$" then literal_at rest
    else (if first == code "i" then immediate_at rest
    else (if first == code "r" then plain_register_at (first ∷ rest)
    else addressed_at (first ∷ rest)))

-- the target of a branch, which is a value
unfoldable pub target_at : List ℕ → Text Written
target_at text = value_at text >>= λ value. Some (writtens.Target value.0, value.1)

-- an operand, which is a branch or has a specifier
unfoldable pub operand_at : Bool → List ℕ → Text Written
operand_at true text = target_at text
operand_at false text = specifier_at text
