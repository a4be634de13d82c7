-- What a plan of replacement is: who leaves at which reference, and the faults that this costs.
use Rattle.std.specs.Prelude.{ℕ, ◌+◌, ◌<◌, ◌≤◌, Bool, true, false, ◌||◌, ◌==◌, cond, nat_lt, List, [], ◌∷◌, length, drop, Option, Some, None, IsSome}
use Rattle.vm_facts.specs.Lists.{without_first}
use Rattle.page_opt.specs.declared.Victim.{Victim}

-- the page is in the cache
unfoldable pub has : ℕ → List ℕ → Bool
has page [] = false
has page (q ∷ qs) = (q == page) || has page qs

-- a run in its midst: the pages in the cache, the victims to come, and the faults so far
pub record Run : Type 0 where
  pub cache : List ℕ
  pub victims : List Victim
  pub faults : ℕ

-- the page that is to leave at the reference with this number, where there is one
unfoldable pub due : ℕ → List Victim → Option ℕ
due at [] = None
due at (v ∷ vs) = cond (v.at == at) (Some v.page) None

-- the page enters, where the cache has fewer than n pages
unfoldable pub entered : ℕ → ℕ → Run → Option Run
entered n page run =
    cond (nat_lt (length run.cache) n) (Some (record { cache = page ∷ run.cache; victims = run.victims; faults = run.faults + 1 })) None

-- the next victim leaves, where it is in the cache
unfoldable pub left : ℕ → Run → Option Run
left victim run =
    cond (has victim run.cache) (Some (record { cache = without_first victim run.cache; victims = drop 1 run.victims; faults = run.faults })) None

-- one step after another
unfoldable pub then : (Run → Option Run) → Option Run → Option Run
then step None = None
then step (Some run) = step run

-- a reference by whether its page is in the cache, and by its victim: a hit has none
unfoldable pub served : ℕ → ℕ → Bool → Option ℕ → Run → Option Run
served n page true None run = Some run
served n page true (Some victim) run = None
served n page false None run = entered n page run
served n page false (Some victim) run = then (entered n page) (left victim run)

-- the reference with this number, to a page
unfoldable pub serve : ℕ → ℕ → ℕ → Run → Option Run
serve n at page run = served n page (has page run.cache) (due at run.victims) run

-- references in turn, the first with this number
unfoldable pub runs : ℕ → ℕ → List ℕ → Option Run → Option Run
runs n at [] run = run
runs n at (page ∷ pages) run = runs n (at + 1) pages (then (serve n at page) run)

-- no victim is left over
unfoldable pub all_left : List Victim → ℕ → Option ℕ
all_left [] faults = Some faults
all_left (v ∷ vs) faults = None

-- the faults of a run that came to its end; none where a reference wasn't served or a victim is left over
unfoldable pub faults_of : Option Run → Option ℕ
faults_of None = None
faults_of (Some run) = all_left run.victims run.faults

-- the faults of a plan for n frames; none where the victims are no plan: each has to be due at a fault, in
-- this order, so their numbers rise from 1 to at most the number of references
unfoldable pub plan_faults : List ℕ → ℕ → List Victim → Option ℕ
plan_faults refs n victims = faults_of (runs n 1 refs (Some (record { cache = []; victims = victims; faults = 0 })))

-- these victims are a plan for n frames
abbrev pub IsPlan : List ℕ → ℕ → List Victim → Type 0
IsPlan refs n victims = IsSome (plan_faults refs n victims)

-- the victims' numbers rise, from a number on and below an end
abbrev pub Rises : ℕ → List Victim → ℕ → Type 0
Rises from [] end = Unit {0}
Rises from (v ∷ vs) end = (from ≤ v.at) × (v.at < end) × Rises (v.at + 1) vs end
