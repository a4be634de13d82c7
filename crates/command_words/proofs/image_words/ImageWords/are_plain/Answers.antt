use Rattle.std.proofs.Common.{sym, ◌∙◌}
use Rattle.command_words.specs.Words.{is_plain}
use Rattle.command_words.proofs.WordLists.{all_then, all_else}
use Rattle.command_words.proofs.image_words.ImageWords.are_plain.Goals as goal

pub returns-then-are_plain : goal.returns-then-are_plain
returns-then-are_plain c = c.are_plain-then-are_plain.ensures ∙ all_then is_plain c.args.self.before.now c.args.self.after.now (sym c.are_plain.ensures ∙ c.if-are_plain.true)

pub returns-else-are_plain : goal.returns-else-are_plain
returns-else-are_plain c = c.if-are_plain.false ∙ all_else is_plain c.args.self.before.now c.args.self.after.now (sym c.are_plain.ensures ∙ c.if-are_plain.false)
