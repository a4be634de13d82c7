use Rattle.command_words.proofs.Refusals.{refused_have_reasons}
use Rattle.command_words.proofs.reasons.refused_words_have_reasons.Goals as goal

pub returns : goal.returns
returns c = refused_have_reasons
