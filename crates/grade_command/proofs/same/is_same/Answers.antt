use Rattle.grade_command.proofs.Entries.{one_exactly}
use Rattle.grade_command.proofs.same.is_same.Goals as goal

pub returns : goal.returns
returns c = one_exactly c.args.entry.now c.args.other.now c.is_one_entry.result c.is_one_entry.ensures
