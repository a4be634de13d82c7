-- Why a file of references is bad, as a line of text.
use Rattle.std.specs.Prelude.{◌≡◌, ℕ, List, [], ◌∷◌, ◌++◌, codes, decimal, Option, Some, None, Ok, Err}
use Rattle.io_edge.specs.FileHolding.{NamedFile}
use Rattle.command_edge.specs.declared.answers.Unread.{Unread}
use Rattle.command_edge.specs.declared.answers.Unread.TheVariants.{Absent, NotImage, FileFault, NoMemory}
use Rattle.reference_answers.specs.Grammar.{IsReadReferences}
use Rattle.reference_answers.specs.declared.references.References.{References}
use Rattle.reference_answers.specs.declared.references.References.TheVariants.{Are, BadLine}
use Rattle.line_reasons.specs.Shown.{shown}
use Rattle.reference_answers.specs.Command.{references_told}
use Rattle.line_reasons.specs.declared.references.Argument.{Argument}
use Rattle.line_reasons.specs.declared.references.Argument.TheVariants.{Owner, Place}
use Rattle.line_reasons.specs.ReferenceReasons.{Why, CarriageReturn, Tab, Blank, NoReference, Missing, NotNumber, TooMany, NoLineFeed, TooManyReferences, why_at}

-- a number of a page, and what it numbers
abbrev pub argument_name : Argument → List ℕ
argument_name Owner = codes "SID or IMAGE"
argument_name Place = codes "V"

-- the numbers that may stand in a reference
abbrev pub range_text : List ℕ
range_text = codes "0 to 4294967295, with no zero in front"

-- a reason in words
abbrev pub why_text : Why → List ℕ
why_text CarriageReturn = codes "a carriage return stands before the line's end"
why_text Tab = codes "a tab: parts have one blank between them"
why_text Blank = codes "a blank too many: parts have one between them"
why_text (NoReference word) = shown word ++ codes " is no reference: d, s, x, or a number, " ++ range_text
why_text (Missing argument) = argument_name argument ++ codes " is missing: " ++ range_text
why_text (NotNumber argument word) = argument_name argument ++ codes " is " ++ shown word ++ codes ": " ++ range_text
why_text (TooMany word) = shown word ++ codes " is a part too many"
why_text NoLineFeed = codes "the last line has no line feed"
why_text TooManyReferences = codes "more than 4000000 references"

-- the line that tells it, of a line of the file of this name
abbrev pub why_line : List ℕ → ℕ → Why → List ℕ
why_line name number why = codes "vmrun: " ++ name ++ codes " line " ++ decimal number ++ codes ": " ++ why_text why ++ 10 ∷ []

-- what is told of these bytes: nothing of a good file, and else the reason of its first bad line
abbrev pub references_explained : List ℕ → List ℕ → References → Option (List ℕ)
references_explained name bytes (Are refs) = None
references_explained name bytes (BadLine number) = Some (why_line name number (why_at number bytes))

-- What is told of the file of this name: nothing where it has too many bytes, or is good.
pub data ExplainsReferences (name : List ℕ) (holds : Option (List NamedFile)) (text : Option (List ℕ)) : Type 0 where
  TooLong : ((files : List NamedFile) → holds ≡ Some files → references_told name files ≡ Ok None) → text ≡ None → ExplainsReferences name holds text
  Read : (bytes : List ℕ) → ((files : List NamedFile) → holds ≡ Some files → references_told name files ≡ Ok (Some bytes))
      → (reads : References) → IsReadReferences bytes reads → text ≡ references_explained name bytes reads → ExplainsReferences name holds text

-- no reason is told: there is no file of this name, or a file failed, or memory was refused
abbrev pub LacksReferences : List ℕ → Option (List NamedFile) → Unread → Type 0
LacksReferences name holds Absent = (files : List NamedFile) → holds ≡ Some files → references_told name files ≡ Err Absent
LacksReferences name holds (NotImage reason) = ⊥
LacksReferences name holds FileFault = Unit {0}
LacksReferences name holds NoMemory = Unit {0}
