use Rattle.load_maker.proofs.Ending.{under_way, finished_counts}
use Rattle.load_maker.proofs.Short.{loads_short}
use Rattle.load_maker.proofs.laws.loads_count.Goals as goal

pub returns-clause-way : goal.returns-clause-way
returns-clause-way c = under_way

pub returns-clause-finished : goal.returns-clause-finished
returns-clause-finished c = finished_counts

pub returns-clause-short : goal.returns-clause-short
returns-clause-short c = loads_short
