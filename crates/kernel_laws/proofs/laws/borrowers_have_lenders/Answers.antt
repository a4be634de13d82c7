use Rattle.kernel_laws.proofs.Flat.Lenders.{lender_found}
use Rattle.kernel_laws.proofs.laws.borrowers_have_lenders.Goals as goal

pub returns : goal.returns
returns c = lender_found
