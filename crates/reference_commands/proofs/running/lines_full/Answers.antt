use Rattle.reference_commands.proofs.Owning.{owned_full}
use Rattle.reference_commands.proofs.running.lines_full.Goals as goal

pub returns-in-Ok : goal.returns-in-Ok
returns-in-Ok c = λ A entries bound size full. owned_full A entries c.args.machine.now c.in-Ok.text.items bound size c.requires.running.within full c.in-Ok.ensures
