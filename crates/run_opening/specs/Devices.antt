-- The sizes of the two swap devices: device 0 is judged first.
use Rattle.std.specs.Prelude.{ℕ, nat_lt, if◌then◌else◌, Option, Some, None}
use Rattle.io_edge.specs.Striping.{zero_needs, one_needs}
use Rattle.command_edge.specs.declared.fault.Fault.{Fault}
use Rattle.command_edge.specs.declared.fault.Fault.TheVariants.{ShortDevice}

-- a device that has fewer blocks than a swap of so many needs of it
abbrev pub device_fault : ℕ → ℕ → ℕ → Option Fault
device_fault swap zero_blocks one_blocks =
    if nat_lt zero_blocks (zero_needs swap) then Some (ShortDevice 0 zero_blocks (zero_needs swap))
    else (if nat_lt one_blocks (one_needs swap) then Some (ShortDevice 1 one_blocks (one_needs swap)) else None)
