use Rattle.step_units.proofs.CallersSeen.{is_caller}
use Rattle.step_units.proofs.lasting.callers_are_seen.Goals as goal

pub returns : goal.returns
returns c = is_caller
