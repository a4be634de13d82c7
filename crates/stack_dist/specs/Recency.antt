-- Pages by how recently they were referenced. A history is a list of references, the latest first.
use Rattle.std.specs.Prelude.{◌≡◌, ℕ, zero, suc, ◌+◌, ◌-◌, ◌<◌, ◌==◌, if◌then◌else◌, List, [], ◌∷◌, ◌++◌, take, slice_set, slice_index_or, Option, Some, None}
use Rattle.std.specs.Option.{option_map}
use Rattle.stack_dist.specs.Lru.{holds}
use Rattle.vm_facts.specs.Lists.{without_first}
use Rattle.stack_dist.specs.Tree.{total}

-- the pages of a history, the latest referenced first
unfoldable pub stack : List ℕ → List ℕ
stack [] = []
stack (page ∷ history) = page ∷ without_first page (stack history)

-- the history after more references
unfoldable pub after : List ℕ → List ℕ → List ℕ
after [] history = history
after (page ∷ refs) history = after refs (page ∷ history)

-- the first place of a page in a list, where it is there
unfoldable pub place_in : ℕ → List ℕ → Option ℕ
place_in page [] = None
place_in page (q ∷ pages) = if q == page then Some 0 else option_map suc (place_in page pages)

-- the mark at a place is taken away, where there is a place
abbrev pub unmarked : Option ℕ → List ℕ → List ℕ
unmarked None marks = marks
unmarked (Some at) marks = slice_set marks at 0

-- 1 at the latest reference to each page, and 0 at the others
unfoldable pub marks : List ℕ → List ℕ
marks [] = []
marks (page ∷ history) = 1 ∷ unmarked (place_in page history) (marks history)

-- a gap is left at a place, where there is one
abbrev pub gapped : Option ℕ → List ℕ → List ℕ
gapped None gaps = gaps
gapped (Some at) gaps = slice_set gaps at (slice_index_or gaps at 0 + 1)

-- 0 at the latest reference to each page, and 1, a gap, at the others
unfoldable pub gaps : List ℕ → List ℕ
gaps [] = []
gaps (page ∷ history) = 0 ∷ gapped (place_in page history) (gaps history)

-- how many places before one, where there is one, are no gaps, from the latest reference's on
abbrev pub filled_before : ℕ → Option ℕ → List ℕ → Option ℕ
filled_before latest None gaps = None
filled_before latest (Some at) gaps = Some (at - latest - total (take at gaps))

-- the list after as many zeros
unfoldable pub padded : ℕ → List ℕ → List ℕ
padded zero xs = xs
padded (suc n) xs = 0 ∷ padded n xs

-- how many references of a history were hits with room for n pages
unfoldable pub hits_within : ℕ → List ℕ → ℕ
hits_within n [] = 0
hits_within n (page ∷ history) = (if holds (take n (stack history)) page then 1 else 0) + hits_within n history

-- one more hit at a depth; a page that comes for the first time makes the stack deeper
abbrev pub counted : List ℕ → Option ℕ → List ℕ
counted hits None = hits ++ 0 ∷ []
counted hits (Some depth) = slice_set hits depth (slice_index_or hits depth 0 + 1)

-- how many marks stand before a place, where there is one
abbrev pub marks_before : Option ℕ → List ℕ → Option ℕ
marks_before None marks = None
marks_before (Some at) marks = Some (total (take at marks))

-- a place in a list, after so many others
abbrev pub moved_by : ℕ → Option ℕ → Option ℕ
moved_by n o = option_map (λ k. n + k) o

-- for each of so many references the place of the last one before it to its page, where places fall from an end
abbrev pub AreLastPlaces : List ℕ → ℕ → ℕ → List (Option ℕ) → Type 0
AreLastPlaces refs end n last = (i : ℕ) → i < n → slice_index_or last i None ≡ moved_by (end - i) (place_in (slice_index_or refs i 0) (after (take i refs) []))
