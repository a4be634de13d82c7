use lib.Utf8.{encode}
use Rattle.system_edge.proofs.Numbers.{plain_name}
use Rattle.system_edge.proofs.dir_files.name_in.Goals as goal

pub returns-in-None : goal.returns-in-None
unfolding lib.Utf8.encode
returns-in-None c = plain_name c.args.word.now c.in-None.ensures.cases
