-- The grammar of a source: which texts are a number, an operand, a statement or a line, and what they say.
use Prim.Native.Char.{code}
use Rattle.std.specs.Prelude.{◌≡◌, ◌≢◌, ℕ, ◌+◌, ◌<◌, ◌≤◌, ◌==◌, Bool, true, false, not, List, [], ◌∷◌, ◌++◌, codes, length, Option, Some, None}
use Rattle.std.specs.List.{list_all}
use Rattle.std.specs.Str.Parse.{digits_value}
use Rattle.vax_code.specs.declared.table.Row.{Row}
use Rattle.vax_code.specs.Table.{row_for, slot_in}
use Rattle.vax_code.specs.Operands.{is_branch}
use Rattle.asm_grammar.specs.Numbers.{is_digit, held, signed}
use Rattle.asm_grammar.specs.Values.{is_label_start, is_word_byte, padded}
use Rattle.asm_grammar.specs.Mnemonics.{mnemonic}
use Rattle.asm_grammar.specs.Sentences.{separator}
use Rattle.asm_grammar.specs.Lines.{empty_line, unlabelled, labelled}
use Rattle.asm_grammar.specs.declared.syntax.Number.{Number}
use Rattle.asm_grammar.specs.declared.syntax.Label.{Label}
use Rattle.asm_grammar.specs.declared.syntax.Value.{Value}
use Rattle.asm_grammar.specs.declared.syntax.Value.TheVariants as values
use Rattle.asm_grammar.specs.declared.syntax.Place.{Place}
use Rattle.asm_grammar.specs.declared.syntax.Place.TheVariants as places
use Rattle.asm_grammar.specs.declared.syntax.Written.{Written}
use Rattle.asm_grammar.specs.declared.syntax.Written.TheVariants as writtens
use Rattle.asm_grammar.specs.declared.syntax.Sentence.{Sentence}
use Rattle.asm_grammar.specs.declared.syntax.Statement.{Statement}
use Rattle.asm_grammar.specs.declared.syntax.Statement.TheVariants as statements
use Rattle.asm_grammar.specs.declared.syntax.SourceLine.{SourceLine}

-- ---- numbers and labels

-- one decimal digit or more, or `0x` and hexadecimal ones in lower case: their value, where 2^32 stands for each larger one
pub data IsMagnitude : List ℕ → ℕ → Type 0 where
  Decimal : {digit : ℕ} {digits : List ℕ} → list_all (is_digit 10) (digit ∷ digits) ≡ true
      → IsMagnitude (digit ∷ digits) (held (digits_value 10 (digit ∷ digits)))
  Hexadecimal : {digit : ℕ} {digits : List ℕ} → list_all (is_digit 16) (digit ∷ digits) ≡ true
      → IsMagnitude (codes "0x" ++ digit ∷ digits) (held (digits_value 16 (digit ∷ digits)))

-- a magnitude, with a `-` before it or without
pub data IsNumber : List ℕ → Number → Type 0 where
  Unsigned : {m : List ℕ} {magnitude : ℕ} → IsMagnitude m magnitude → IsNumber m (signed false magnitude)
  Minus : {m : List ℕ} {magnitude : ℕ} → IsMagnitude m magnitude → IsNumber (codes "-" ++ m) (signed true magnitude)

-- 1 to 16 letters in lower case, `_` and digits, no digit first
pub data IsLabel : List ℕ → Label → Type 0 where
  Name : {first : ℕ} {more : List ℕ} → is_label_start first ≡ true → list_all is_word_byte more ≡ true → length (first ∷ more) ≤ 16
      → IsLabel (first ∷ more) (record { bytes = padded (first ∷ more) })

-- X: a number, or a label
pub data IsValue : List ℕ → Value → Type 0 where
  OfNumber : {n : List ℕ} {number : Number} → IsNumber n number → IsValue n (values.Number number)
  OfLabel : {l : List ℕ} {label : Label} → IsLabel l label → IsValue l (values.Label label)

-- ---- operands

-- `r0` to `r9`, and `r10` to `r15`
pub data IsRegister : List ℕ → ℕ → Type 0 where
  OneDigit : {k : ℕ} → k < 10 → IsRegister (codes "r" ++ (code "0" + k) ∷ []) k
  TwoDigits : {k : ℕ} → k < 6 → IsRegister (codes "r1" ++ (code "0" + k) ∷ []) (10 + k)

-- `(rK)`
pub data IsParenthesised : List ℕ → ℕ → Type 0 where
  Parentheses : {r : List ℕ} {k : ℕ} → IsRegister r k → IsParenthesised (codes "(" ++ r ++ codes ")") k

-- the mark before a displacement of 1, 2 or 4 bytes
pub data IsMark : List ℕ → ℕ → Type 0 where
  OfByte : IsMark (codes "b^") 1
  OfWord : IsMark (codes "w^") 2
  OfLongword : IsMark (codes "l^") 4

-- an operand that has an address
pub data IsAddressed : List ℕ → Place → Type 0 where
  Deferred : {p : List ℕ} {k : ℕ} → IsParenthesised p k → IsAddressed p (places.Deferred k)
  Decremented : {p : List ℕ} {k : ℕ} → IsParenthesised p k → IsAddressed (codes "-" ++ p) (places.AutoDec k)
  Incremented : {p : List ℕ} {k : ℕ} → IsParenthesised p k → k < 15 → IsAddressed (p ++ codes "+") (places.AutoInc k)
  IncrementedDeferred : {p : List ℕ} {k : ℕ} → IsParenthesised p k → k < 15 → IsAddressed (codes "*" ++ p ++ codes "+") (places.AutoIncDef k)
  Absolute : {x : List ℕ} {value : Value} → IsValue x value → IsAddressed (codes "*$" ++ x) (places.Absolute value)
  Displaced : {m n p : List ℕ} {size k : ℕ} {number : Number} → IsMark m size → IsNumber n number → IsParenthesised p k
      → IsAddressed (m ++ n ++ p) (places.Disp size k number false)
  DisplacedDeferred : {m n p : List ℕ} {size k : ℕ} {number : Number} → IsMark m size → IsNumber n number → IsParenthesised p k
      → IsAddressed (codes "*" ++ m ++ n ++ p) (places.Disp size k number true)

-- an operand that has no address, which is an immediate or isn't
pub data IsUnaddressed : List ℕ → Bool → Written → Type 0 where
  Literal : {n : List ℕ} {number : Number} → IsNumber n number → IsUnaddressed (codes "$" ++ n) false (writtens.Literal number)
  Immediate : {x : List ℕ} {value : Value} → IsValue x value → IsUnaddressed (codes "i^$" ++ x) true (writtens.Immediate value)
  Register : {r : List ℕ} {k : ℕ} → IsRegister r k → IsUnaddressed r false (writtens.Register k)

-- `[rK]`
pub data IsIndex : List ℕ → ℕ → Type 0 where
  Brackets : {r : List ℕ} {k : ℕ} → IsRegister r k → IsIndex (codes "[" ++ r ++ codes "]") k

-- an operand that has a specifier, with an index or without; on one that has no address the index is in the grammar, and refused
pub data IsSpecified : List ℕ → Written → Type 0 where
  Unaddressed : {u : List ℕ} {immediate : Bool} {written : Written} → IsUnaddressed u immediate written → IsSpecified u written
  Addressed : {a : List ℕ} {place : Place} → IsAddressed a place → IsSpecified a (writtens.Plain place)
  Indexed : {a i : List ℕ} {place : Place} {k : ℕ} → IsAddressed a place → IsIndex i k → IsSpecified (a ++ i) (writtens.Indexed k place)
  Misindexed : {u i : List ℕ} {immediate : Bool} {written : Written} {k : ℕ} → IsUnaddressed u immediate written → IsIndex i k
      → IsSpecified (u ++ i) (writtens.Misindexed immediate)

-- the target X of a branch, or an operand that has a specifier
pub data IsOperand : Bool → List ℕ → Written → Type 0 where
  Target : {x : List ℕ} {value : Value} → IsValue x value → IsOperand true x (writtens.Target value)
  Specified : {o : List ℕ} {written : Written} → IsSpecified o written → IsOperand false o written

-- ---- instructions

-- in one of the places 0, 1 and 2 of an instruction: a space or a comma and the operand, or nothing where it has none there
pub data IsInPlace (row : Row) (place : ℕ) : List ℕ → Written → Type 0 where
  Present : {o : List ℕ} {written : Written} → place < row.count → IsOperand (is_branch (slot_in row place).access) o written
      → IsInPlace row place (separator place ∷ o) written
  Lacking : row.count ≤ place → IsInPlace row place [] writtens.Absent

-- a mnemonic of the instruction table, and the operands of its row
pub data IsInstructionText : List ℕ → Sentence → Type 0 where
  Mnemonic : {row : Row} {one two three : List ℕ} {a b c : Written} → row_for row.op ≡ Some row
      → IsInPlace row 0 one a → IsInPlace row 1 two b → IsInPlace row 2 three c
      → IsInstructionText (mnemonic row.name ++ one ++ two ++ three) (record { row = row; a = a; b = b; c = c })

-- ---- lines

-- a directive with its value or number, or an instruction
pub data IsStatement : List ℕ → Statement → Type 0 where
  Byte : {x : List ℕ} {value : Value} → IsValue x value → IsStatement (codes ".byte " ++ x) (statements.Byte value)
  Word : {x : List ℕ} {value : Value} → IsValue x value → IsStatement (codes ".word " ++ x) (statements.Word value)
  Long : {x : List ℕ} {value : Value} → IsValue x value → IsStatement (codes ".long " ++ x) (statements.Long value)
  Space : {n : List ℕ} {number : Number} → IsNumber n number → IsStatement (codes ".space " ++ n) (statements.Space number)
  Bss : {n : List ℕ} {number : Number} → IsNumber n number → IsStatement (codes ".bss " ++ n) (statements.Bss number)
  Instruction : {i : List ℕ} {sentence : Sentence} → IsInstructionText i sentence → IsStatement i (statements.Instruction sentence)

-- a line of any length: empty, a comment, or an optional label and an optional statement with a space between them
pub data IsLineText : List ℕ → SourceLine → Type 0 where
  Empty : IsLineText [] empty_line
  Comment : {c : List ℕ} → IsLineText (codes "#" ++ c) empty_line
  Unlabelled : {s : List ℕ} {statement : Statement} → IsStatement s statement → IsLineText s (unlabelled statement)
  LabelAlone : {l : List ℕ} {label : Label} → IsLabel l label → IsLineText (l ++ codes ":") (record { label = Some label; statement = None })
  Labelled : {l s : List ℕ} {label : Label} {statement : Statement} → IsLabel l label → IsStatement s statement
      → IsLineText (l ++ codes ": " ++ s) (labelled label statement)

-- a line has at most 120 bytes
pub record IsLine (text : List ℕ) (line : SourceLine) : Type 0 where
  pub few : length text ≤ 120
  pub says : IsLineText text line

-- what a line says by the grammar; none where it is outside of it
pub data SaysLine : List ℕ → Option SourceLine → Type 0 where
  InGrammar : {text : List ℕ} {line : SourceLine} → IsLine text line → SaysLine text (Some line)
  Outside : {text : List ℕ} → ((line : SourceLine) → ¬ IsLine text line) → SaysLine text None

-- no byte is a line feed
abbrev pub is_unbroken : List ℕ → Bool
is_unbroken text = list_all (λ byte. not (byte == code "\n")) text

-- what the lines of a source say, each ended by a line feed; none for a last line that has no line feed
pub data SaysLines : List ℕ → List (Option SourceLine) → Type 0 where
  NoLine : SaysLines [] []
  Line : {text rest : List ℕ} {item : Option SourceLine} {items : List (Option SourceLine)} → is_unbroken text ≡ true → SaysLine text item
      → SaysLines rest items → SaysLines (text ++ codes "\n" ++ rest) (item ∷ items)
  Unended : {text : List ℕ} → text ≢ [] → is_unbroken text ≡ true → SaysLines text (None ∷ [])
