use Rattle.std.proofs.Common.{sym}
use Rattle.flat_model.proofs.Coming.{Came, came, leads, stands, never}
use Rattle.flat_laws.proofs.coming.entries_come.Goals as goal

pub returns-clause-leads : goal.returns-clause-leads
returns-clause-leads c = leads

pub returns-clause-comes : goal.returns-clause-comes
returns-clause-comes c = λ A point next pid e of h. let x : Came A point next pid e = came A point next pid e of h in (x.comes, sym x.leads)

pub returns-clause-refused : goal.returns-clause-refused
returns-clause-refused c = never

pub returns-clause-others : goal.returns-clause-others
returns-clause-others c = stands
