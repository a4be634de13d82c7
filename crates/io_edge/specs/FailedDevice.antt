-- The device of a pair's last failed call of a kind.
use Rattle.std.specs.Prelude.{ℕ, Option}
use Rattle.io_edge.specs.declared.swap_pair.SwapPair.{SwapPair}

-- the device whose read failed last
abbrev pub failed_read_of : {D E : Type 0} → SwapPair D E → Option ℕ
failed_read_of pair = pair.reads.last

-- the device whose write failed last
abbrev pub failed_write_of : {D E : Type 0} → SwapPair D E → Option ℕ
failed_write_of pair = pair.writes.last
