-- Counts of faults, and what a call that moves bytes says by its answer.
use Rattle.std.specs.Prelude.{◌≡◌, ◌≤◌, ◌<◌, ◌+◌, ◌-◌, ◌⊎◌, min, ℕ, ⊤}
use Rattle.io_edge.specs.declared.Moved.{Moved}
use Rattle.io_edge.specs.declared.Moved.TheVariants.{Done, Failed}

-- the last value of a count that is kept in 64 bits
abbrev pub last_count : ℕ
last_count = 0xffff_ffff_ffff_ffff

-- one failed call was counted: the count rose by one, or stands at its last value
abbrev pub Rose : ℕ → ℕ → Type 0
Rose old new = ((old < last_count) × (new ≡ old + 1)) ⊎ ((last_count ≤ old) × (new ≡ old))

-- the count after so many more failed calls: it rises by as many, as far as its last value
abbrev pub count_after : ℕ → ℕ → ℕ
count_after count calls = count + min calls (last_count - count)

-- the count after one more failed call
abbrev pub next_count : ℕ → ℕ
next_count count = min (count + 1) last_count

-- a count of faults over one call: it rises by one where the call failed, and stays in every other call
abbrev pub Counts : Moved → ℕ → ℕ → Type 0
Counts Done old new = new ≡ old
Counts Failed old new = Rose old new

-- the fact holds where all was moved
abbrev pub OnDone : Moved → Type 0 → Type 0
OnDone Done P = P
OnDone Failed P = ⊤

-- the fact holds where the call failed
abbrev pub OnFailed : Moved → Type 0 → Type 0
OnFailed Done P = ⊤
OnFailed Failed P = P
