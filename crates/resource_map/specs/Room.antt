-- The lowest place at which so many blocks of one unit are free.
use Rattle.std.specs.Prelude.{ℕ, zero, suc, ◌+◌, ◌-◌, ◌/◌, Bool, true, false, ◌&&◌, ◌==◌, nat_le, Option, Some, None}

-- the n blocks from start on all pass
unfoldable pub all_pass : (ℕ → Bool) → ℕ → ℕ → Bool
all_pass passes start zero = true
all_pass passes start (suc n) = passes start && all_pass passes (suc start) n

-- the n blocks from start on lie below size and in one unit of 1,024, and are all free
unfoldable pub has_room : (ℕ → Bool) → ℕ → ℕ → ℕ → Bool
has_room free size n start =
    nat_le (start + n) size && ((start / 1024 == (start + n - 1) / 1024) && all_pass free start n)

-- what was found before, or else this number where it passes
abbrev pub or_this : Option ℕ → ℕ → Bool → Option ℕ
or_this (Some k) n passes = Some k
or_this None n true = Some n
or_this None n false = None

-- the lowest number below the bound that passes
unfoldable pub lowest : (ℕ → Bool) → ℕ → Option ℕ
lowest passes zero = None
lowest passes (suc n) = or_this (lowest passes n) n (passes n)

-- the lowest start with room for n blocks, where there is one
unfoldable pub lowest_room : (ℕ → Bool) → ℕ → ℕ → Option ℕ
lowest_room free size n = lowest (has_room free size n) size
