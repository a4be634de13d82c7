-- The process table as its callers see it: a finite map from pids to records.
use Rattle.std.specs.Prelude.{◌≡◌, ◌≢◌, ℕ, ◌+◌, ◌≤◌, ◌==◌, if◌then◌else◌, List, [], ◌∷◌, length, Option, Some, None}
use Rattle.proc_table.specs.declared.process.Proc.{Proc}
use Rattle.proc_table.specs.declared.table.Added.{Added}
use Rattle.proc_table.specs.declared.table.Added.TheVariants.{Ok as Entered, Full}

-- the record with this pid
abbrev pub find : ℕ → List Proc → Option Proc
find pid [] = None
find pid (p ∷ ps) = if p.pid == pid then Some p else find pid ps

-- no two records have one pid
abbrev pub ArePidsApart : List Proc → Type 0
ArePidsApart [] = Unit {0}
ArePidsApart (p ∷ ps) = (find p.pid ps ≡ None) × ArePidsApart ps

-- what holds of every table
pub record IsProcTable (ps : List Proc) : Type 0 where
  pub few : length ps ≤ 64
  pub apart : ArePidsApart ps

-- this pid has this record or none now, and each other pid what it had
pub record Changes (old new : List Proc) (pid : ℕ) (found : Option Proc) : Type 0 where
  pub changed : find pid new ≡ found
  pub others : (other : ℕ) → other ≢ pid → find other new ≡ find other old

-- what `add` answers
abbrev pub answer_of : List Proc → Proc → Added
answer_of ps p = if length ps == 64 then Full p else Entered

-- what `add` leaves by its answer: one record more, or all as it was
abbrev pub Adds : Added → List Proc → Proc → List Proc → Type 0
Adds Entered old p new = Changes old new p.pid (Some p) × (length new ≡ length old + 1)
Adds (Full back) old p new = new ≡ old

-- the lowest number of which P holds; None where it holds of none
abbrev pub Lowest : (ℕ → Type 0) → Option ℕ → Type 0
Lowest P None = (q : ℕ) → P q → ⊥
Lowest P (Some n) = P n × ((q : ℕ) → P q → n ≤ q)
