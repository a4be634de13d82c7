use Rattle.page_laws.proofs.Swapper.Choices.{chosen_in, chosen_out, chosen_none}
use Rattle.page_laws.proofs.laws.swapper_chooses.Goals as goal

pub returns-clause-comes : goal.returns-clause-comes
returns-clause-comes c = chosen_in

pub returns-clause-goes : goal.returns-clause-goes
returns-clause-goes c = chosen_out

pub returns-clause-rests : goal.returns-clause-rests
returns-clause-rests c = chosen_none
