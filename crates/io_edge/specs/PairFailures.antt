-- The failed calls of one kind through a pair of devices, over a row of calls.
use Rattle.std.specs.Prelude.{◌≡◌, ◌≤◌, ◌+◌, ◌⊎◌, ℕ, Option, Some}
use Rattle.io_edge.specs.Count.{Rose, count_after}
use Rattle.io_edge.specs.Striping.{of_device}

-- So many calls failed on each device. Each device counts its own, the pair counts them together, and a device that is named at the end
-- was named at the start, or is one on which a call failed.
pub record AddsFailures (old_count new_count : ℕ) (old_last new_last : Option ℕ) (old_zero new_zero old_one new_one : ℕ) : Type 0 where
  pub on_zero : ℕ
  pub on_one : ℕ
  pub together : new_count ≡ count_after old_count (on_zero + on_one)
  pub zero : new_zero ≡ count_after old_zero on_zero
  pub one : new_one ≡ count_after old_one on_one
  pub named : (device : ℕ) → new_last ≡ Some device → (old_last ≡ Some device) ⊎ (1 ≤ of_device device on_zero on_one)

-- one failed call was counted, by this device, and none by the other
abbrev pub RoseAlone : ℕ → ℕ → ℕ → ℕ → ℕ → Type 0
RoseAlone device old_zero new_zero old_one new_one =
    Rose (of_device device old_zero old_one) (of_device device new_zero new_one)
    × (of_device device new_one new_zero ≡ of_device device old_one old_zero)
