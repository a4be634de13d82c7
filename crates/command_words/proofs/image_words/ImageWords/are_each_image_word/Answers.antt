use Rattle.std.proofs.Common.{sym, ◌∙◌}
use Rattle.command_words.specs.Words.{is_image_word}
use Rattle.command_words.proofs.WordLists.{all_then, all_else}
use Rattle.command_words.proofs.image_words.ImageWords.are_each_image_word.Goals as goal

pub returns-then-are_each_image_word : goal.returns-then-are_each_image_word
returns-then-are_each_image_word c =
    c.are_each_image_word-then-are_each_image_word.ensures ∙ all_then is_image_word c.args.self.before.now c.args.self.after.now (sym c.are_each_image_word.ensures ∙ c.if-are_each_image_word.true)

pub returns-else-are_each_image_word : goal.returns-else-are_each_image_word
returns-else-are_each_image_word c =
    c.if-are_each_image_word.false ∙ all_else is_image_word c.args.self.before.now c.args.self.after.now (sym c.are_each_image_word.ensures ∙ c.if-are_each_image_word.false)
