use Rattle.std.proofs.Common.{sym, ◌∙◌}
use Rattle.command_edge.specs.ImageWords.{starts}
use Rattle.command_words.proofs.WordLists.{some_then, some_else}
use Rattle.command_words.proofs.image_words.ImageWords.starts_some.Goals as goal

pub returns-then-starts_some : goal.returns-then-starts_some
returns-then-starts_some c = c.if-starts_some.true ∙ some_then starts c.args.self.before.now c.args.self.after.now (sym c.starts_some.ensures ∙ c.if-starts_some.true)

pub returns-else-starts_some : goal.returns-else-starts_some
returns-else-starts_some c = c.starts_some-else-starts_some.ensures ∙ some_else starts c.args.self.before.now c.args.self.after.now (sym c.starts_some.ensures ∙ c.if-starts_some.false)
