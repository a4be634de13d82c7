use Rattle.std.proofs.Common.{◌<◌, ◌≤◌, arith, sym, ◌∙◌}
use Rattle.std.proofs.lemmas.Bool.{leb-true}
use Rattle.command_words.specs.Command.{word_list}
use Rattle.command_words.proofs.WordLists.{image_words}
use Rattle.command_words.proofs.image_words.ImageWords.are_image_words.Goals.{then-len-le16, else-len-le16}
use Rattle.command_words.proofs.image_words.ImageWords.are_image_words.Goals as goal

pub returns-then-are_each_image_word-clause-fits : goal.returns-then-are_each_image_word-clause-fits
returns-then-are_each_image_word-clause-fits c some = elim c.if-len-le16.branch [
  | then-len-le16 w ↦ image_words (word_list c.args.self) (rw (← c.len.ensures) w.if-len-le16.true)
      (sym w.are_each_image_word.ensures ∙ sym w.value-is ∙ c.if-are_each_image_word.true) (sym c.starts_some.ensures ∙ some)
  | else-len-le16 w ↦ absurd (let most : c.len.result ≤ 16 = leb-true _ _ (sym w.value-is ∙ c.if-are_each_image_word.true) in let more : 16 < c.len.result = w.if-len-le16.false in omega arith)
]
