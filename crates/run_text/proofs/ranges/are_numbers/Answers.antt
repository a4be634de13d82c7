use Rattle.run_text.proofs.Numbered.{longwords_below}
use Rattle.run_text.proofs.ranges.are_numbers.Goals as goal

pub returns : goal.returns
returns c = longwords_below c.args.numbers.now c.type_inv.numbers
