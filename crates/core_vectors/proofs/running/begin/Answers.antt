use Rattle.vm_core.proofs.Ending.{are_among}
use Rattle.core_vectors.proofs.running.begin.Goals as goal

pub start-requires-clause-numbers : goal.start-requires-clause-numbers
start-requires-clause-numbers g c = are_among c.args.core.now.machine.images c.args.first.now c.requires.numbers
