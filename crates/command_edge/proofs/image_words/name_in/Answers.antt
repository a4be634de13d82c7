use lib.Utf8.{encode}
use Rattle.command_edge.proofs.ImageNames.{plain_name}
use Rattle.command_edge.proofs.image_words.name_in.Goals as goal

pub returns-in-None : goal.returns-in-None
unfolding lib.Utf8.encode
returns-in-None c = plain_name c.args.word.now c.in-None.ensures.cases
