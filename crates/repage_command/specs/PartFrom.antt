-- The part of a letter, a page's letter and numbers.
use Prim.Native.Char.{code}
use Rattle.std.specs.Prelude.{◌≡◌, ℕ, ◌==◌, Bool, false, ◌&&◌, ◌||◌, if◌then◌else◌, nat_lt, List, [], ◌∷◌, ◌++◌, Option, Some, None}
use Rattle.vm_facts.specs.declared.page.Page.{Page}
use Rattle.kernel_model.specs.declared.part.HandPart.{HandPart}
use Rattle.kernel_model.specs.declared.part.HandPart.TheVariants.{Expires, Writes, Frees}
use Rattle.run_text.specs.Text.{parts}
use Rattle.run_text.specs.Transcript.{page_numbers}
use Rattle.run_text.specs.EntryParts.{segment_of, page_from}
use Rattle.repage_command.specs.Grammar.{part_numbers, WritesSome}

-- the letter that a part's line begins with
abbrev pub part_letter : HandPart → ℕ
part_letter (Expires q) = code "E"
part_letter (Writes q n) = code "W"
part_letter (Frees q) = code "F"

-- the page of a part; the first of those that are written
abbrev pub part_page : HandPart → Page
part_page (Expires q) = q
part_page (Writes q n) = q
part_page (Frees q) = q

-- the text of a part's line without its end
abbrev pub part_text : HandPart → List ℕ
part_text x = part_letter x ∷ code " " ∷ segment_of (part_page x) ∷ parts (part_numbers x)

-- the letters of parts
abbrev pub is_part_letter : ℕ → Bool
is_part_letter l = l == code "E" || (l == code "W" || l == code "F")

-- the line begins with one of these letters
abbrev pub begins_part : List ℕ → Bool
begins_part [] = false
begins_part (l ∷ bs) = is_part_letter l

-- the part of a letter and a page alone
abbrev pub part_alone : ℕ → Option Page → Option HandPart
part_alone l None = None
part_alone l (Some q) = if l == code "E" then Some (Expires q) else (if l == code "F" then Some (Frees q) else None)

-- the part of a letter, a page and one further number
abbrev pub part_and_one : ℕ → Option Page → ℕ → Option HandPart
part_and_one l None n = None
part_and_one l (Some q) n = if l == code "W" && nat_lt 0 n then Some (Writes q n) else None

-- the part of a letter, a segment's letter and numbers, of which the first two are the page's
abbrev pub part_from : ℕ → ℕ → List ℕ → Option HandPart
part_from l s [] = None
part_from l s (a ∷ []) = None
part_from l s (a ∷ b ∷ []) = part_alone l (page_from s a b)
part_from l s (a ∷ b ∷ n ∷ []) = part_and_one l (page_from s a b) n
part_from l s (a ∷ b ∷ c ∷ d ∷ ns) = None

-- a part has this letter, this page and these further numbers
abbrev pub HasPagePart : ℕ → Page → List ℕ → HandPart → Type 0
HasPagePart l page ns x = (part_letter x ≡ l) × (part_page x ≡ page) × (part_numbers x ≡ page_numbers page ++ ns) × WritesSome x

-- a part has this letter, this segment's letter and these numbers
abbrev pub HasPart : ℕ → ℕ → List ℕ → HandPart → Type 0
HasPart l s ns x = (part_letter x ≡ l) × (segment_of (part_page x) ≡ s) × (part_numbers x ≡ ns) × WritesSome x
