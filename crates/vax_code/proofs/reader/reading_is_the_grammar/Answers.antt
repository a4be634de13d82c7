use Rattle.vax_code.proofs.Law.{reading_is_the_grammar}
use Rattle.vax_code.proofs.reader.reading_is_the_grammar.Goals as goal

pub returns : goal.returns
returns c = reading_is_the_grammar
