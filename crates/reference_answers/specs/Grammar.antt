-- The grammar of a file of references: on each line a page, a plain number, a remark or nothing.
use Rattle.std.specs.Prelude.{◌≡◌, ◌≤◌, ◌⊎◌, ℕ, ◌+◌, List, [], ◌∷◌, ◌++◌, length, codes, decimal, Option, Some, None, IsSome}
use Rattle.vm_facts.specs.declared.page.Page.{Page}
use Rattle.vm_facts.specs.declared.page.Page.TheVariants.{Data}
use Rattle.run_text.specs.Text.{parts}
use Rattle.run_text.specs.Transcript.{AllBelow, page_numbers}
use Rattle.run_text.specs.EntryParts.{segment_of}
use Rattle.run_text.specs.Lines.{lines_in, AreLines}
use Rattle.reference_answers.specs.declared.references.References.{References}
use Rattle.reference_answers.specs.declared.references.References.TheVariants.{Are, BadLine}
use Rattle.reference_answers.specs.declared.reader.TheConstants.{MOST_REFERENCES}

-- a page: the letter of its segment, the number of its space or image, and its own
abbrev pub page_word : Page → List ℕ
page_word page = segment_of page ∷ parts (page_numbers page)

-- a plain number, which is a page of space 0: no run has that space
abbrev pub IsPlainNumber : Page → List ℕ → Type 0
IsPlainNumber page text = (number : ℕ) × (page ≡ Data 0 number) × (text ≡ decimal number)

-- the text of a reference: its page, whose numbers have 32 bits, or a plain number
abbrev pub IsReference : Page → List ℕ → Type 0
IsReference page text = AllBelow 4294967296 (page_numbers page) × ((text ≡ page_word page) ⊎ IsPlainNumber page text)

-- a text of none: it is empty, or a remark, which begins with #
abbrev pub IsRemark : List ℕ → Type 0
IsRemark text = (text ≡ []) ⊎ ((rest : List ℕ) × (text ≡ codes "#" ++ rest))

-- the text of a reference, if there is one
abbrev pub IsLineText : Option Page → List ℕ → Type 0
IsLineText (Some page) text = IsReference page text
IsLineText None text = IsRemark text

-- such a text and a line feed
abbrev pub IsReferenceLine : Option Page → List ℕ → Type 0
IsReferenceLine read line = (text : List ℕ) × (line ≡ text ++ codes "\n") × IsLineText read text

-- the references on lines
unfoldable pub references_on : List (Option Page) → List Page
references_on [] = []
references_on (None ∷ lines) = references_on lines
references_on (Some page ∷ lines) = page ∷ references_on lines

-- the most references of a file
abbrev pub most_references : ℕ
most_references = MOST_REFERENCES

-- the file has these references, one after another
pub record ReadsReferences (bytes : List ℕ) (refs : List Page) : Type 0 where
  pub lines : List (Option Page)
  pub good : AreLines IsReferenceLine lines (lines_in bytes)
  pub are : refs ≡ references_on lines
  pub few : length refs ≤ most_references

-- Line n, counted from 1, is the first bad one: those before it are good, and it is none of a file, or has one reference more than there may be.
pub record HasBadReference (bytes : List ℕ) (n : ℕ) : Type 0 where
  pub lines : List (Option Page)
  pub before : List (List ℕ)
  pub bad : List ℕ
  pub after : List (List ℕ)
  pub split : lines_in bytes ≡ before ++ bad ∷ after
  pub number : n ≡ length before + 1
  pub good : AreLines IsReferenceLine lines before
  pub few : length (references_on lines) ≤ most_references
  pub none : (read : Option Page) → IsReferenceLine read bad → IsSome read × (length (references_on lines) ≡ most_references)

-- what a file reads as: its references, or its first bad line
abbrev pub IsReadReferences : List ℕ → References → Type 0
IsReadReferences bytes (Are refs) = ReadsReferences bytes refs.items
IsReadReferences bytes (BadLine n) = HasBadReference bytes n
