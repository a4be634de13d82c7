use Rattle.core_vectors.specs.Ready.{MayGoOn}
use Rattle.core_vectors.proofs.running.take_lines.Given as goal

abbrev pub invariant-loop-event : goal.invariant-loop-event
invariant-loop-event g l = MayGoOn l.core (g.F.Files.holds l.files) (g.D.SwapDev.blocks l.swap)
