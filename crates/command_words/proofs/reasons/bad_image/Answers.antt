use Rattle.command_words.proofs.Finding.{unnamed_told}
use Rattle.command_words.proofs.reasons.bad_image.Goals as goal

pub returns-in-Some : goal.returns-in-Some
returns-in-Some c = unnamed_told c.args.words.now _ c.in-Some.ensures

pub returns-in-None : goal.returns-in-None
returns-in-None c = unnamed_told c.args.words.now _ c.in-None.ensures
