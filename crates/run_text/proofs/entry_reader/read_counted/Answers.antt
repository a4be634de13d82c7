-- The numbers are of no entry.
use Rattle.std.proofs.Common.{◌∙◌, ap, List, ℕ}
use Rattle.run_text.specs.EntryParts.{from_numbers}
use Rattle.run_text.proofs.EntryTexts.{counted_none}
use Rattle.run_text.proofs.entry_reader.read_counted.Goals as goal

pub returns-in_default-from_numbers : goal.returns-in_default-from_numbers
returns-in_default-from_numbers c =
    counted_none c.args.letter c.args.rest.now c.in-Some.numbers c.in-Some.ensures.0 c.in-Some.ensures.1
    (c.in_default-from_numbers.ensures.is ∙ ap (λ (zs : List ℕ). from_numbers c.args.letter zs) c.as_slice.ensures)
