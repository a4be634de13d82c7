use Rattle.reference_commands.proofs.Owning.{owned_over}
use Rattle.reference_commands.proofs.running.lines_over.Goals as goal

pub returns-in-Ok : goal.returns-in-Ok
returns-in-Ok c = λ A entries bound size over. owned_over A entries c.args.machine.now c.in-Ok.text.items bound size c.requires.running.within over c.in-Ok.ensures
