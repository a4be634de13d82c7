-- Numbers of processes and spaces: no two are one, and those to come are larger than all.
use Rattle.std.specs.Prelude.{◌≢◌, ℕ, ◌<◌, List, [], ◌∷◌, map}
use Rattle.flat_state.specs.Space.{Space}
use Rattle.flat_state.specs.Flat.{Process, FlatState, spaces_of}

-- the number is none of these
abbrev pub IsAbsent : ℕ → List ℕ → Type 0
IsAbsent n [] = Unit {0}
IsAbsent n (x ∷ xs) = (x ≢ n) × IsAbsent n xs

-- no two of these numbers are one
abbrev pub AllDistinct : List ℕ → Type 0
AllDistinct [] = Unit {0}
AllDistinct (x ∷ xs) = IsAbsent x xs × AllDistinct xs

-- each of these numbers is below n
abbrev pub AllBelow : ℕ → List ℕ → Type 0
AllBelow n [] = Unit {0}
AllBelow n (x ∷ xs) = (x < n) × AllBelow n xs

-- no process is its own parent, nor that of a lower one
abbrev pub AllLower : List Process → Type 0
AllLower [] = Unit {0}
AllLower (q ∷ qs) = (q.parent < q.pid) × AllLower qs

-- the numbers of all processes
abbrev pub pids_of : FlatState → List ℕ
pids_of flat = map (λ (q : Process). q.pid) flat.processes

-- the numbers of all spaces
abbrev pub sids_of : FlatState → List ℕ
sids_of flat = map (λ (s : Space). s.sid) (spaces_of flat)

-- no two processes and no two spaces have one number, the next ones are larger, and a parent's is lower than its child's
pub record IsNumbered (flat : FlatState) : Type 0 where
  pub pids : AllDistinct (pids_of flat)
  pub sids : AllDistinct (sids_of flat)
  pub pids_below : AllBelow flat.next_pid (pids_of flat)
  pub sids_below : AllBelow flat.next_sid (sids_of flat)
  pub parents : AllLower flat.processes
