use Rattle.flat_laws.proofs.Entries.{next_same, one_entry}
use Rattle.flat_laws.proofs.coming.entries_are_determined.Goals as goal

pub returns-clause-next : goal.returns-clause-next
returns-clause-next c = next_same

pub returns-clause-one : goal.returns-clause-one
returns-clause-one c = one_entry
