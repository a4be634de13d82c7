use Rattle.fault_laws.proofs.Copied.{copies_matter}
use Rattle.fault_laws.proofs.runs.copies_count.Goals as goal

pub returns : goal.returns
returns c = copies_matter
