use Rattle.economy_laws.proofs.Totals.{few_sleeps, turns_are_few, copies_are_few, journals_short}
use Rattle.economy_laws.proofs.lengths.journals_are_short.Goals as goal

pub returns : goal.returns
returns c = record {
  sleeps = few_sleeps;
  turns = turns_are_few;
  copies = copies_are_few;
  entries = journals_short;
}
