use Rattle.core_vectors.specs.Ready.{AreFit}
use Rattle.core_vectors.proofs.opening.open_all.Given as goal

abbrev pub invariant-loop-name : goal.invariant-loop-name
invariant-loop-name g l = AreFit l.images.items (g.F.Files.holds l.files)
