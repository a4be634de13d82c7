use Rattle.run_units.proofs.Journals.{journal_lawful, journal_accounted, journal_economical, journal_image}
use Rattle.run_units.proofs.account.lawful_journals.Goals as goal

pub returns-clause-lawful : goal.returns-clause-lawful
returns-clause-lawful c = journal_lawful

pub returns-clause-account : goal.returns-clause-account
returns-clause-account c = journal_accounted

pub returns-clause-economy : goal.returns-clause-economy
returns-clause-economy c = λ A hs us t can l f. journal_economical A hs us t can f l

pub returns-clause-image : goal.returns-clause-image
returns-clause-image c = journal_image
