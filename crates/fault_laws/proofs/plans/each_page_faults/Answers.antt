use Rattle.fault_laws.proofs.Cold.{pages_fault}
use Rattle.fault_laws.proofs.plans.each_page_faults.Goals as goal

pub returns : goal.returns
returns c = pages_fault
