use Rattle.std.proofs.Common.{◌≡◌, drop}
use Rattle.kernel_tables.specs.Sharing.{first_sharer}
use Rattle.kernel_tables.proofs.spaces.first_sharer.Given as goal

abbrev pub invariant-loop-space : goal.invariant-loop-space
invariant-loop-space l = first_sharer l.maps l.image ≡ first_sharer (drop l.space-index l.maps) l.image
