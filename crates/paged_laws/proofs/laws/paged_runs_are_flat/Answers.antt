use Rattle.paged_laws.proofs.Acted.{paged_flat, paged_few}
use Rattle.paged_laws.proofs.laws.paged_runs_are_flat.Goals as goal

pub returns-clause-flat : goal.returns-clause-flat
returns-clause-flat c = paged_flat

pub returns-clause-few : goal.returns-clause-few
returns-clause-few c = paged_few
