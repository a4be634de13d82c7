use Rattle.command_words.proofs.WordLists.{drop_both}
use Rattle.command_words.proofs.image_words.ImageWords.from.Goals as goal

pub returns : goal.returns
returns c = rw (c.from_place.ensures, c.from_place-2.ensures, c.saturating_sub.ensures) (drop_both c.args.self.before.now c.args.self.after.now c.args.place)
