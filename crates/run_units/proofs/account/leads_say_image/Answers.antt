use Rattle.run_units.proofs.Journals.{leads_told}
use Rattle.run_units.proofs.account.leads_say_image.Goals as goal

pub returns : goal.returns
returns c = leads_told
