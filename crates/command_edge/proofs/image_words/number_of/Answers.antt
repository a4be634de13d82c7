use Rattle.std.proofs.Common.{Some, None}
use Rattle.command_edge.proofs.ImageNames.{numbered}
use Rattle.command_edge.proofs.image_words.number_of.Goals as goal

pub returns-in-Some-clause-exact : goal.returns-in-Some-clause-exact
returns-in-Some-clause-exact c = numbered c.args.names.now c.args.name.now (Some c.in-Some.place) c.in-Some.ensures.place

pub returns-in-None-clause-exact : goal.returns-in-None-clause-exact
returns-in-None-clause-exact c = numbered c.args.names.now c.args.name.now None c.in-None.ensures.place
