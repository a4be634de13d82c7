use Rattle.run_units.proofs.Instructing.{miss_wanted, hit_ready, call_wanted, call_ready}
use Rattle.run_units.proofs.Calling.{calls_write_none}
use Rattle.run_units.proofs.laws.accesses_tell_pages.Goals as goal

pub returns-clause-misses : goal.returns-clause-misses
returns-clause-misses c = miss_wanted

pub returns-clause-hits : goal.returns-clause-hits
returns-clause-hits c = hit_ready

pub returns-clause-calls : goal.returns-clause-calls
returns-clause-calls c = calls_write_none

pub returns-clause-calls_miss : goal.returns-clause-calls_miss
returns-clause-calls_miss c = call_wanted

pub returns-clause-calls_hit : goal.returns-clause-calls_hit
returns-clause-calls_hit c = call_ready
