-- Where a text is none of a part, and where it is one.
use Rattle.std.proofs.Common.{◌∷◌, ◌∙◌, List, ℕ, ap, subst}
use Rattle.run_text.specs.Text.{parts}
use Rattle.run_text.specs.EntryParts.{segment_of}
use Rattle.repage_command.specs.Grammar.{part_numbers}
use Rattle.repage_command.specs.PartFrom.{part_letter, part_page, part_from, HasPart}
use Rattle.repage_command.proofs.PartTexts.{cut_text, rest_is, after_is, none_first, behind_numbers, numbers_few, part_none, part_some}
use Rattle.repage_command.proofs.part_reader.read_part_text.Goals as goal

pub returns-in_default : goal.returns-in_default
returns-in_default c = λ x h is. none_first c.args.text.now (part_letter x) (32 ∷ segment_of (part_page x) ∷ parts (part_numbers x)) c.in_default.ensures.cases is

pub returns-in_default-strip_front : goal.returns-in_default-strip_front
returns-in_default-strip_front c = λ x h is.
    c.in_default-strip_front.ensures (segment_of (part_page x) ∷ parts (part_numbers x))
    (rest_is c.in-Some.letter.now c.in-Some.rest.now c.args.text.now x c.in-Some.ensures.cases.0 is)

pub returns-in_default-split_first : goal.returns-in_default-split_first
returns-in_default-split_first c = λ x h is.
    none_first c.in-Some-strip_front.after.now (segment_of (part_page x)) (parts (part_numbers x)) c.in_default-split_first.ensures.cases
    (after_is c.in-Some.letter.now c.in-Some-strip_front.after.now c.in-Some.rest.now c.args.text.now x c.in-Some.ensures.cases.0 c.in-Some-strip_front.ensures is)

pub returns-in_default-read_numbers : goal.returns-in_default-read_numbers
returns-in_default-read_numbers c = λ x h is.
    c.in_default-read_numbers.ensures (part_numbers x) (numbers_few x) h.0
    (behind_numbers c.in-Some.letter.now c.in-Some-split_first.segment.now c.in-Some-split_first.behind.now c.args.text.now x
    (cut_text c.in-Some.letter.now c.in-Some-split_first.segment.now c.in-Some.rest.now c.in-Some-strip_front.after.now c.in-Some-split_first.behind.now
    c.args.text.now c.in-Some.ensures.cases.0 c.in-Some-strip_front.ensures c.in-Some-split_first.ensures.cases.0) is)

pub returns-in_default-part_from : goal.returns-in_default-part_from
returns-in_default-part_from c =
    part_none c.in-Some.letter.now c.in-Some-split_first.segment.now c.in-Some-split_first.behind.now c.args.text.now c.in-Some-read_numbers.numbers
    (cut_text c.in-Some.letter.now c.in-Some-split_first.segment.now c.in-Some.rest.now c.in-Some-strip_front.after.now c.in-Some-split_first.behind.now
    c.args.text.now c.in-Some.ensures.cases.0 c.in-Some-strip_front.ensures c.in-Some-split_first.ensures.cases.0) c.in-Some-read_numbers.ensures.0 c.in-Some-read_numbers.ensures.1
    (c.in_default-part_from.ensures.is ∙ ap (λ (zs : List ℕ). part_from c.in-Some.letter.now c.in-Some-split_first.segment.now zs) c.as_slice.ensures)

pub returns : goal.returns
returns c =
    part_some c.in-Some.letter.now c.in-Some-split_first.segment.now c.in-Some-split_first.behind.now c.args.text.now c.in-Some-read_numbers.numbers c.in-Some-part_from.part
    (cut_text c.in-Some.letter.now c.in-Some-split_first.segment.now c.in-Some.rest.now c.in-Some-strip_front.after.now c.in-Some-split_first.behind.now
    c.args.text.now c.in-Some.ensures.cases.0 c.in-Some-strip_front.ensures c.in-Some-split_first.ensures.cases.0) c.in-Some-read_numbers.ensures.0 c.in-Some-read_numbers.ensures.1
    (subst (λ (zs : List ℕ). HasPart c.in-Some.letter.now c.in-Some-split_first.segment.now zs c.in-Some-part_from.part) c.as_slice.ensures c.in-Some-part_from.ensures.parts)
