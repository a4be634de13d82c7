-- A cache of pages, and when each of its pages is used next.
use Rattle.std.specs.Prelude.{◌≡◌, ℕ, ◌+◌, ◌<◌, ◌≤◌, Bool, true, false, ◌==◌, cond, nat_lt, List, [], ◌∷◌, length, drop, slice_index, slice_index_or, Option, Some, None}
use Rattle.page_opt.specs.Furthest.{next_use}

-- a test as a number
abbrev pub bit : Bool → ℕ
bit true = 1
bit false = 0

-- how many pages pass
abbrev pub tally : (ℕ → Bool) → List ℕ → ℕ
tally f [] = 0
tally f (q ∷ qs) = bit (f q) + tally f qs

-- how often a page is in the cache
abbrev pub count_in : ℕ → List ℕ → ℕ
count_in p = tally (λ q. q == p)

-- each page is in the cache at most once, and there are at most n
pub record IsCache (n : ℕ) (cache : List ℕ) : Type 0 where
  pub once : (q : ℕ) → count_in q cache ≤ 1
  pub small : length cache ≤ n

-- the place of a page's next use, if there is one; the references to come begin at a place
unfoldable pub next_at : ℕ → ℕ → List ℕ → Option ℕ
next_at at page future = cond (nat_lt (next_use page future) (length future)) (Some (at + next_use page future)) None

-- for each reference the place of the next use of its page, if there is one
pub record AreNextUses (refs : List ℕ) (next : List (Option ℕ)) : Type 0 where
  pub len : length next ≡ length refs
  pub each : (i : ℕ) (d : Option ℕ) → i < length refs → slice_index_or next i d ≡ next_at (i + 1) (slice_index refs i) (drop (i + 1) refs)

-- a set after one number was put in or taken out
pub record Changed (old new : ℕ → Bool) (k : ℕ) (to : Bool) : Type 0 where
  pub here : new k ≡ to
  pub other : (q : ℕ) → (q ≡ k → ⊥) → new q ≡ old q

-- the pages of a cache in two sets: the awaited places of next uses, and the pages that are never used again
pub record Held (future : List ℕ) (at : ℕ) (inside awaited spent : ℕ → Bool) : Type 0 where
  pub due : (k : ℕ) → awaited k ≡ true → (q : ℕ) × (inside q ≡ true) × (next_use q future < length future) × (k ≡ at + next_use q future)
  pub waits : (q : ℕ) → inside q ≡ true → next_use q future < length future → awaited (at + next_use q future) ≡ true
  pub over : (q : ℕ) → spent q ≡ true → (inside q ≡ true) × (next_use q future ≡ length future)
  pub never : (q : ℕ) → inside q ≡ true → next_use q future ≡ length future → spent q ≡ true
