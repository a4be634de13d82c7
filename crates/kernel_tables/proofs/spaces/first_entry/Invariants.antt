use Rattle.std.proofs.Common.{◌≡◌, drop}
use Rattle.kernel_tables.specs.Shown.{entry_in}
use Rattle.kernel_tables.proofs.spaces.first_entry.Given as goal

abbrev pub invariant-loop-space : goal.invariant-loop-space
invariant-loop-space l = entry_in l.maps l.page ≡ entry_in (drop l.space-index l.maps) l.page
