use Rattle.page_laws.proofs.Spanning.{units_added, added_apart}
use Rattle.page_laws.proofs.spans.entries_added.Goals as goal

pub returns-clause-journal : goal.returns-clause-journal
returns-clause-journal c = units_added

pub returns-clause-apart : goal.returns-clause-apart
returns-clause-apart c = added_apart
