use Rattle.fault_laws.proofs.Policies.{fifo_least, clock_least, hands_least, lru_least}
use Rattle.fault_laws.proofs.replacement.policies_have_least_faults.Goals as goal

pub returns-clause-fifo : goal.returns-clause-fifo
returns-clause-fifo c = fifo_least

pub returns-clause-clock : goal.returns-clause-clock
returns-clause-clock c = clock_least

pub returns-clause-hands : goal.returns-clause-hands
returns-clause-hands c = hands_least

pub returns-clause-lru : goal.returns-clause-lru
returns-clause-lru c = lru_least
