-- The two sets in which the code keeps a cache, and how each step changes them.
use Rattle.std.specs.Prelude.{◌≡◌, ℕ, ◌+◌, ◌<◌, ◌≤◌, Bool, true, false, nat_lt, List, [], ◌∷◌, ◌++◌, length, drop, slice_index, Option, Some, None, ◌⊎◌}
use Rattle.std.specs.Ordering.{nat_cmp}
use Rattle.std.specs.BTreeSet.{BTreeSet, contains}
use Rattle.page_opt.specs.declared.Victim.{Victim}
use Rattle.page_opt.specs.declared.resident.Resident.{Resident}
use Rattle.page_opt.specs.Plans.{has, runs}
use Rattle.page_opt.specs.Furthest.{victims_from, furthest_victims}
use Rattle.page_opt.specs.Cache.{bit, IsCache, Changed, Held}
use Rattle.page_opt.specs.PlaceSet.{Bits, capacity, has_place}

-- the set has the number
abbrev pub in_set : BTreeSet ℕ → ℕ → Bool
in_set s k = contains nat_cmp s k

-- one number was put in or taken out
abbrev pub Changes : BTreeSet ℕ → BTreeSet ℕ → ℕ → Bool → Type 0
Changes old new k to = Changed (in_set old) (in_set new) k to

-- each awaited place is one of the references
abbrev pub IsWithin : List ℕ → Resident → Type 0
IsWithin refs r = (k : ℕ) → has_place r.awaited k ≡ true → k < length refs

-- not both sets are empty
abbrev pub HasPages : Resident → Type 0
HasPages r = ((k : ℕ) → has_place r.awaited k ≡ false) → ((q : ℕ) → in_set r.spent q ≡ false) → ⊥

-- one place was put in or taken out
pub record Awaits (old new : Bits) (k : ℕ) (to : Bool) : Type 0 where
  pub room : capacity new ≡ capacity old
  pub places : Changed (has_place old) (has_place new) k to

-- the page that is used at a place was in the cache or not, and is awaited there no longer
pub record Arrives (old new : Resident) (place : ℕ) (hit : Bool) : Type 0 where
  pub test : hit ≡ has_place old.awaited place
  pub awaited : Awaits old.awaited new.awaited place false
  pub spent : new.spent ≡ old.spent
  pub used : new.used ≡ old.used

-- a frame was free and is taken, or none was
pub record Takes (n : ℕ) (old new : Resident) (free : Bool) : Type 0 where
  pub test : free ≡ nat_lt old.used n
  pub awaited : new.awaited ≡ old.awaited
  pub spent : new.spent ≡ old.spent
  pub used : new.used ≡ old.used + bit free

-- the lowest page that is never used again left
pub record LeavesSpent (old new : Resident) (page : ℕ) : Type 0 where
  pub there : in_set old.spent page ≡ true
  pub lowest : (q : ℕ) → in_set old.spent q ≡ true → page ≤ q
  pub spent : Changes old.spent new.spent page false
  pub awaited : new.awaited ≡ old.awaited
  pub used : new.used ≡ old.used

-- no page is never used again, and the one that is used again last left
pub record LeavesAwaited (refs : List ℕ) (old new : Resident) (page : ℕ) : Type 0 where
  pub none : (q : ℕ) → in_set old.spent q ≡ false
  pub place : ℕ
  pub there : has_place old.awaited place ≡ true
  pub last : (k : ℕ) → has_place old.awaited k ≡ true → k ≤ place
  pub page_is : page ≡ slice_index refs place
  pub awaited : Awaits old.awaited new.awaited place false
  pub spent : new.spent ≡ old.spent
  pub used : new.used ≡ old.used

-- a page left by Belady's rule: one that is never used again, or else the one that is used again last
abbrev pub Leaves : List ℕ → Resident → Resident → ℕ → Type 0
Leaves refs old new page = LeavesSpent old new page ⊎ LeavesAwaited refs old new page

-- there was room for a page
pub record HadRoom (n : ℕ) (old new : Resident) (before after : List Victim) : Type 0 where
  pub room : old.used < n
  pub awaited : new.awaited ≡ old.awaited
  pub spent : new.spent ≡ old.spent
  pub used : new.used ≡ old.used + 1
  pub victims : after ≡ before

-- there was none, and a page left as the victim of the reference at place i
pub record MadeRoom (refs : List ℕ) (n i : ℕ) (old new : Resident) (before after : List Victim) : Type 0 where
  pub full : n ≤ old.used
  pub victim : ℕ
  pub leaves : Leaves refs old new victim
  pub victims : after ≡ before ++ record { at = i + 1; page = victim } ∷ []

-- there is room for a page: there was, or it was made
abbrev pub HasRoom : List ℕ → ℕ → ℕ → Resident → Resident → List Victim → List Victim → Type 0
HasRoom refs n i old new before after = HadRoom n old new before after ⊎ MadeRoom refs n i old new before after

-- a page was put in, by the place of its next use
pub record PutAwaited (old new : Resident) (k : ℕ) : Type 0 where
  pub awaited : Awaits old.awaited new.awaited k true
  pub spent : new.spent ≡ old.spent
  pub used : new.used ≡ old.used

-- a page was put in that is never used again
pub record PutSpent (old new : Resident) (page : ℕ) : Type 0 where
  pub spent : Changes old.spent new.spent page true
  pub awaited : new.awaited ≡ old.awaited
  pub used : new.used ≡ old.used

-- a page was put in, by the place of its next use, if there is one
abbrev pub Puts : ℕ → Option ℕ → Resident → Resident → Type 0
Puts page (Some k) old new = PutAwaited old new k
Puts page None old new = PutSpent old new page

-- the references below i are served by Belady's rule
pub record Stands (refs : List ℕ) (n i : ℕ) (r : Resident) (victims : List Victim) (faults : ℕ) : Type 0 where
  pub cache : List ℕ
  pub is_cache : IsCache n cache
  pub held : Held (drop i refs) i (λ q. has q cache) (has_place r.awaited) (in_set r.spent)
  pub room : length refs ≤ capacity r.awaited
  pub used : r.used ≡ length cache
  pub run : runs n (i + 1) (drop i refs) (Some (record { cache = cache; victims = victims_from n (i + 1) (drop i refs) cache; faults = faults }))
      ≡ runs n 1 refs (Some (record { cache = []; victims = furthest_victims refs n; faults = 0 }))
  pub made : victims ++ victims_from n (i + 1) (drop i refs) cache ≡ furthest_victims refs n
  pub few : faults ≤ i
