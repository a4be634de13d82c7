-- A plan as the code plays it: the set of pages in the cache, and what each step does.
use Rattle.std.specs.Prelude.{◌≡◌, ℕ, ◌+◌, ◌<◌, ◌≤◌, Bool, true, false, List, length, drop, Option, Some, None}
use Rattle.std.specs.BTreeSet.{BTreeSet, btree_set_len}
use Rattle.page_opt.specs.declared.Victim.{Victim}
use Rattle.page_opt.specs.declared.replay.Replay.{Replay}
use Rattle.page_opt.specs.Plans.{Run, has, serve, runs, faults_of, plan_faults}
use Rattle.page_opt.specs.Cache.{bit, count_in}
use Rattle.page_opt.specs.Held.{in_set, Changes}

-- the set has the pages of the cache
pub record Tracks (cache : List ℕ) (set : BTreeSet ℕ) : Type 0 where
  pub same : (q : ℕ) → in_set set q ≡ has q cache
  pub size : btree_set_len set ≡ length cache
  pub once : (q : ℕ) → count_in q cache ≤ 1

-- the run that the code is in
abbrev pub run_of : List ℕ → Replay → Run
run_of cache r = record { cache = cache; victims = r.victims.now; faults = r.faults }

-- no victim was due
pub record NoneLeft (old new : Replay) (ok : Bool) : Type 0 where
  pub yes : ok ≡ true
  pub cache : new.cache ≡ old.cache
  pub victims : new.victims.now ≡ old.victims.now
  pub faults : new.faults ≡ old.faults

-- this victim left, where it was in the cache
pub record OneLeft (victim : ℕ) (old new : Replay) (ok : Bool) : Type 0 where
  pub test : ok ≡ in_set old.cache victim
  pub cache : Changes old.cache new.cache victim false
  pub size : btree_set_len new.cache + bit ok ≡ btree_set_len old.cache
  pub victims : ok ≡ true → new.victims.now ≡ drop 1 old.victims.now
  pub faults : new.faults ≡ old.faults

-- the victim that is due left, if one is
abbrev pub Leaving : Option ℕ → Replay → Replay → Bool → Type 0
Leaving None old new ok = NoneLeft old new ok
Leaving (Some victim) old new ok = OneLeft victim old new ok

-- a page entered, where there was room
pub record Enters (n page : ℕ) (old new : Replay) : Type 0 where
  pub room : btree_set_len old.cache < n
  pub cache : Changes old.cache new.cache page true
  pub size : in_set old.cache page ≡ false → btree_set_len new.cache ≡ btree_set_len old.cache + 1
  pub victims : new.victims.now ≡ old.victims.now
  pub faults : new.faults ≡ old.faults + 1

-- the page entered, or there was no room
abbrev pub Entering : ℕ → ℕ → Replay → Replay → Bool → Type 0
Entering n page old new true = Enters n page old new
Entering n page old new false = n ≤ btree_set_len old.cache

-- the reference was served
pub record Serves (n at page : ℕ) (cache : List ℕ) (old new : Replay) : Type 0 where
  pub later : List ℕ
  pub tracks : Tracks later new.cache
  pub step : serve n at page (run_of cache old) ≡ Some (run_of later new)
  pub faults : new.faults ≤ old.faults + 1

-- the reference by the code's answer: it was served, or no step of the plan serves it
abbrev pub Serving : ℕ → ℕ → ℕ → List ℕ → Replay → Replay → Bool → Type 0
Serving n at page cache old new true = Serves n at page cache old new
Serving n at page cache old new false = serve n at page (run_of cache old) ≡ None

-- the references below i are served by a plan's victims
pub record Replays (refs : List ℕ) (n i : ℕ) (victims : List Victim) (r : Replay) : Type 0 where
  pub cache : List ℕ
  pub tracks : Tracks cache r.cache
  pub run : faults_of (runs n (i + 1) (drop i refs) (Some (run_of cache r))) ≡ plan_faults refs n victims
  pub few : r.faults ≤ i
