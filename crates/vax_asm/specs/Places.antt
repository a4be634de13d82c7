-- Where the first definition of a label stands in a list.
use Rattle.std.specs.Prelude.{◌≡◌, ℕ, ◌+◌, nat_eq, if◌then◌else◌, List, [], ◌∷◌, Option, Some, None}
use Rattle.std.specs.Cmp.Lexicographic.{pointwise}
use Rattle.std.specs.HashMap.{HashMap, get}
use Rattle.std.specs.declared.hash.FoldHasher.{FoldHasher}
use Rattle.std.specs.declared.hash.BuildHasherDefault.{BuildHasherDefault}
use Rattle.asm_grammar.specs.Mnemonics.{same_text}
use Rattle.asm_grammar.specs.declared.syntax.Definition.{Definition}

-- the same place, where one more definition stands before it
abbrev pub one_later : Option ℕ → Option ℕ
one_later None = None
one_later (Some place) = Some (place + 1)

-- the place of the first definition of a label of these bytes
abbrev pub place_in : List Definition → List ℕ → Option ℕ
place_in [] bytes = None
place_in (definition ∷ definitions) bytes = if same_text definition.label.bytes bytes then Some 0 else one_later (place_in definitions bytes)

-- what the map has at each label is the place of its first definition
abbrev pub ArePlaces : List Definition → HashMap (List ℕ) ℕ (BuildHasherDefault FoldHasher) → Type 0
ArePlaces definitions places = (bytes : List ℕ) → get (pointwise nat_eq) places bytes ≡ place_in definitions bytes

-- the definitions of a table, where there is one
abbrev pub defined_in : Option (List Definition) → List Definition
defined_in None = []
defined_in (Some definitions) = definitions
