use Rattle.run_model.proofs.Wanting.{wanted_splits, splits_wanted, splits_locked, locked_valid, wanted_none, locked_all, all_unwanted}
use Rattle.run_model.proofs.state_laws.wanted_splits.Goals as goal

pub returns-clause-splits : goal.returns-clause-splits
returns-clause-splits c = wanted_splits

pub returns-clause-wanted : goal.returns-clause-wanted
returns-clause-wanted c = splits_wanted

pub returns-clause-locked : goal.returns-clause-locked
returns-clause-locked c = splits_locked

pub returns-clause-valid : goal.returns-clause-valid
returns-clause-valid c = locked_valid

pub returns-clause-none : goal.returns-clause-none
returns-clause-none c = wanted_none

pub returns-clause-all : goal.returns-clause-all
returns-clause-all c = locked_all

pub returns-clause-unwanted : goal.returns-clause-unwanted
returns-clause-unwanted c = all_unwanted
