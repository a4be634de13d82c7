use Rattle.std.proofs.Common.{◌≡◌, drop}
use Rattle.kernel_tables.specs.Gone.{sharing}
use Rattle.kernel_tables.proofs.spaces.text_pages.Given as goal

abbrev pub invariant-loop-space : goal.invariant-loop-space
invariant-loop-space l = sharing l.maps l.image ≡ sharing (drop l.space-index l.maps) l.image
