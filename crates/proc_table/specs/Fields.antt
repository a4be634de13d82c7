-- The process table by its slab: what callers see of it, and when keys and pids fit.
use Rattle.std.specs.Prelude.{◌≡◌, ℕ, ◌≤◌, min, List, filter_map, Option, Some, None}
use Rattle.slab.specs.Slab.{Slab, get, slab_len}
use Rattle.proc_table.specs.declared.process.Proc.{Proc}

-- the records in these slots
abbrev pub records_of : List (Option Proc) → List Proc
records_of slots = filter_map (λ slot. slot) slots

-- a record with this pid stands under the key
pub record HasPid (s : Slab Proc) (key pid : ℕ) : Type 0 where
  pub record_there : Proc
  pub there : get s key ≡ Some record_there
  pub its : record_there.pid ≡ pid

-- no pid stands under two keys
abbrev pub AreKeysApart : Slab Proc → Type 0
AreKeysApart s = (j k : ℕ) (p q : Proc) → get s j ≡ Some p → get s k ≡ Some q → p.pid ≡ q.pid → j ≡ k

-- at most 64 records, the room for them, and no pid under two keys
pub record IsSound (s : Slab Proc) : Type 0 where
  pub few : slab_len s ≤ 64
  pub room : 64 ≤ s.capacity
  pub apart : AreKeysApart s

-- the lower of two numbers, or the second alone
abbrev pub lower_of : Option ℕ → ℕ → ℕ
lower_of None n = n
lower_of (Some m) n = min m n
