use Rattle.economy_laws.proofs.SmallReads.{read_small}
use Rattle.economy_laws.proofs.pages.reads_are_small.Goals as goal

pub returns : goal.returns
returns c = read_small
