use Rattle.run_model.proofs.Followed.{followed_once, followed_on}
use Rattle.run_model.proofs.laws.follows_once.Goals as goal

pub returns-clause-once : goal.returns-clause-once
returns-clause-once c = followed_once

pub returns-clause-on : goal.returns-clause-on
returns-clause-on c = followed_on
