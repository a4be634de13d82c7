use Rattle.command_words.proofs.Finding.{unplain_told}
use Rattle.command_words.proofs.reasons.bad_plain.Goals as goal

pub returns-in-Some : goal.returns-in-Some
returns-in-Some c = unplain_told c.args.words.now _ c.in-Some.ensures

pub returns-in-None : goal.returns-in-None
returns-in-None c = unplain_told c.args.words.now _ c.in-None.ensures
