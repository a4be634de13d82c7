-- Head by head.
use Rattle.run_stats.specs.declared.heads.Head.TheVariants.{OfRunner, WrittenOf, OfRun}
use Rattle.run_stats.proofs.sums.Tally.add.Goals as goal

pub add_paging-requires : goal.add_paging-requires
add_paging-requires c pid head = c.requires (OfRunner pid head)

pub add_written-requires : goal.add_written-requires
add_written-requires c owner = c.requires (WrittenOf owner)

pub add_run-self-requires : goal.add_run-self-requires
add_run-self-requires c head = c.requires (OfRun head)

pub returns-clause-value : goal.returns-clause-value
returns-clause-value c (OfRunner pid h) = c.in_ok-add_paging.ensures.value pid h
returns-clause-value c (WrittenOf owner) = c.in_ok-add_written.ensures.value owner
returns-clause-value c (OfRun h) = c.add_run-self.ensures.value h

pub returns-clause-grows : goal.returns-clause-grows
returns-clause-grows c (OfRunner pid h) = c.in_ok-add_paging.ensures.grows pid h
returns-clause-grows c (WrittenOf owner) = c.in_ok-add_written.ensures.grows owner
returns-clause-grows c (OfRun h) = c.add_run-self.ensures.grows h
