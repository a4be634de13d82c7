use lib.Utf8.{encode}
use Rattle.std.proofs.Common.{ap, ◌∙◌}
use Rattle.command_edge.proofs.ImageNames.{plain_name}
use Rattle.command_words.specs.Words.{is_name, is_image_word}
use Rattle.command_words.proofs.word.is_image_word.Goals as goal

pub returns-in-None : goal.returns-in-None
unfolding is_image_word lib.Utf8.encode
returns-in-None c = c.is_name-in-None.ensures.exact ∙ ap is_name (plain_name c.args.word.now c.in-None.ensures.cases)
