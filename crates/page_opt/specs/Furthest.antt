-- Belady's rule: the page that leaves is the one that is used again last, or never.
use Rattle.std.specs.Prelude.{ℕ, suc, ◌+◌, Bool, true, false, ◌||◌, ◌&&◌, ◌==◌, cond, nat_lt, nat_le, List, [], ◌∷◌, ◌++◌, length, Option, Some, None}
use Rattle.page_opt.specs.declared.Victim.{Victim}
use Rattle.page_opt.specs.Plans.{has}
use Rattle.vm_facts.specs.Lists.{without_first}

-- how many references come before the next one to the page; all of them, where there is none
unfoldable pub next_use : ℕ → List ℕ → ℕ
next_use page [] = 0
next_use page (q ∷ qs) = cond (q == page) 0 (suc (next_use page qs))

-- p is used again after q, or neither is used again and p is the lower
unfoldable pub is_further : List ℕ → ℕ → ℕ → Bool
is_further future p q =
    nat_lt (next_use q future) (next_use p future) || ((next_use p future == next_use q future) && nat_le p q)

-- the one of two pages that is used again later; the page itself where there is no other
unfoldable pub further : List ℕ → ℕ → Option ℕ → ℕ
further future p None = p
further future p (Some q) = cond (is_further future p q) p q

-- the page of the cache that is used again last or never, and of those that are never used again the lowest
unfoldable pub furthest : List ℕ → List ℕ → Option ℕ
furthest future [] = None
furthest future (p ∷ ps) = Some (further future p (furthest future ps))

-- the victim of a reference to a page, with these to come: none at a hit, nor while there is room
unfoldable pub choice : ℕ → ℕ → List ℕ → List ℕ → Option ℕ
choice n page future cache = cond (has page cache || nat_lt (length cache) n) None (furthest future cache)

-- the cache after a reference, by whether it has the page and by the victim
unfoldable pub cached : ℕ → Bool → Option ℕ → List ℕ → List ℕ
cached page true victim cache = cache
cached page false None cache = page ∷ cache
cached page false (Some victim) cache = page ∷ without_first victim cache

-- the victim, if there is one, with the number of its reference
unfoldable pub listed : ℕ → Option ℕ → List Victim
listed at None = []
listed at (Some page) = record { at = at; page = page } ∷ []

-- the victims of the references from here on, the first with this number
unfoldable pub victims_from : ℕ → ℕ → List ℕ → List ℕ → List Victim
victims_from n at [] cache = []
victims_from n at (page ∷ future) cache =
    listed at (choice n page future cache) ++
    victims_from n (at + 1) future (cached page (has page cache) (choice n page future cache) cache)

-- the victims by this rule
unfoldable pub furthest_victims : List ℕ → ℕ → List Victim
furthest_victims refs n = victims_from n 1 refs []
