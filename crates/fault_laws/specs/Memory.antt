-- A memory in the course of time, and the plans that it is compared with.
use Rattle.std.specs.Prelude.{◌≡◌, ℕ, ◌+◌, ◌≤◌, true, not, List, [], ◌∷◌, ◌++◌, Some}
use Rattle.page_opt.specs.declared.Victim.{Victim}
use Rattle.page_opt.specs.Plans.{has, plan_faults}
use Rattle.page_opt.specs.Cache.{tally, IsCache}

-- a moment: the pages that are in memory, and those of them that are used, in order
pub record Moment : Type 0 where
  pub pages : List ℕ
  pub used : List ℕ

-- the references: the pages that are used, moment after moment
abbrev pub used_in : List Moment → List ℕ
used_in [] = []
used_in (m ∷ ms) = m.used ++ used_in ms

-- how many of these pages aren't among those that are held
abbrev pub lacking : List ℕ → List ℕ → ℕ
lacking held pages = tally (λ p. not (has p held)) pages

-- how many pages are brought in: at each moment those that weren't in memory at the moment before
abbrev pub brought : List ℕ → List Moment → ℕ
brought before [] = 0
brought before (m ∷ ms) = lacking before m.pages + brought m.pages ms

-- at most n pages are in memory, each of them once, and what is used is one of them
pub record IsMoment (n : ℕ) (m : Moment) : Type 0 where
  pub held : IsCache n m.pages
  pub there : (p : ℕ) → has p m.used ≡ true → has p m.pages ≡ true

-- a memory of n frames, moment after moment
abbrev pub IsMemory : ℕ → List Moment → Type 0
IsMemory n [] = Unit {0}
IsMemory n (m ∷ ms) = IsMoment n m × IsMemory n ms

-- there is a plan for n frames with at most so many faults
pub record HasPlan (refs : List ℕ) (n most : ℕ) : Type 0 where
  pub victims : List Victim
  pub faults : ℕ
  pub plan : plan_faults refs n victims ≡ Some faults
  pub few : faults ≤ most

-- no plan for n frames has fewer faults
abbrev pub NoneFewer : List ℕ → ℕ → ℕ → Type 0
NoneFewer refs n least = (victims : List Victim) (faults : ℕ) → plan_faults refs n victims ≡ Some faults → least ≤ faults
