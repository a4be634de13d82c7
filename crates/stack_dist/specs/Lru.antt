-- Page faults under LRU: a list of pages, the latest referenced first.
use Rattle.std.specs.Prelude.{ℕ, ◌+◌, Bool, false, ◌||◌, ◌==◌, if◌then◌else◌, List, [], ◌∷◌, take}
use Rattle.vm_facts.specs.Lists.{without_first}

-- the page is in the list
unfoldable pub holds : List ℕ → ℕ → Bool
holds [] page = false
holds (q ∷ pages) page = (q == page) || holds pages page

-- the list of at most n pages after a reference: its page at the front, and what is past n cut
abbrev pub referenced : ℕ → List ℕ → ℕ → List ℕ
referenced n pages page = take n (page ∷ without_first page pages)

-- the faults of the references, where the list is this at first: a page that is not in the list is a fault
unfoldable pub faults_from : ℕ → List ℕ → List ℕ → ℕ
faults_from n pages [] = 0
faults_from n pages (page ∷ refs) = (if holds pages page then 0 else 1) + faults_from n (referenced n pages page) refs

-- the faults of the references with room for n pages, none of which is there at first
abbrev pub lru_faults : List ℕ → ℕ → ℕ
lru_faults refs n = faults_from n [] refs

-- how many pages there are among the references: each counts where it is referenced last
unfoldable pub distinct_pages : List ℕ → ℕ
distinct_pages [] = 0
distinct_pages (page ∷ refs) = (if holds refs page then 0 else 1) + distinct_pages refs
