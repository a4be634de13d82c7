use Rattle.owner_lines.proofs.Auditing.{told_there, audit_there}
use Rattle.run_laws.proofs.Noting.{noted_are}
use Rattle.owner_lines.proofs.laws.runs_are_told.Goals as goal

pub returns-clause-told : goal.returns-clause-told
returns-clause-told c = told_there

pub returns-clause-audit : goal.returns-clause-audit
returns-clause-audit c = audit_there

pub returns-clause-noted : goal.returns-clause-noted
returns-clause-noted c = noted_are
