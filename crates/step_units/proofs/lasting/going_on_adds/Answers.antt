use Rattle.step_units.proofs.Journals.{last_counts_few}
use Rattle.step_units.proofs.Running.{continues_self, continues_both}
use Rattle.step_units.proofs.lasting.going_on_adds.Goals as goal

pub returns-clause-same : goal.returns-clause-same
returns-clause-same c = continues_self

pub returns-clause-both : goal.returns-clause-both
returns-clause-both c = continues_both

pub returns-clause-counts : goal.returns-clause-counts
returns-clause-counts c = last_counts_few
