-- The page and the numbers are of no entry.
use Rattle.std.proofs.Common.{◌∙◌, ap, List, ℕ}
use Rattle.run_text.specs.EntryParts.{from_paged}
use Rattle.run_text.proofs.EntryTexts.{paged_none}
use Rattle.run_text.proofs.entry_reader.read_paged.Goals as goal

pub returns-in_default-from_paged : goal.returns-in_default-from_paged
returns-in_default-from_paged c =
    paged_none c.args.letter c.in-Some-split_first.segment.now c.args.rest.now c.in-Some.after.now c.in-Some-split_first.behind.now c.in-Some-read_numbers.numbers
    c.in-Some.ensures c.in-Some-split_first.ensures.cases.0 c.in-Some-read_numbers.ensures.0 c.in-Some-read_numbers.ensures.1
    (c.in_default-from_paged.ensures.is ∙ ap (λ (zs : List ℕ). from_paged c.args.letter c.in-Some-split_first.segment.now zs) c.as_slice.ensures)
