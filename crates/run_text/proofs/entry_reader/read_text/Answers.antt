-- The letter says how the rest is read.
use Rattle.std.proofs.Common.{sym, ◌∙◌}
use Rattle.run_text.proofs.EntryTexts.{text_paged, text_counted, kind_paged, kind_counted}
use Rattle.run_text.proofs.entry_reader.read_text.Goals as goal

pub returns-then-is_page_letter : goal.returns-then-is_page_letter
returns-then-is_page_letter c =
    text_paged c.in-Some.letter.now c.in-Some.rest.now c.args.text.now c.read_paged.result c.in-Some.ensures.cases.0
    (kind_paged c.in-Some.letter.now c.if-letter-eq111.false (sym c.is_page_letter.ensures ∙ c.if-is_page_letter.true)) c.read_paged.ensures

pub returns : goal.returns
returns c =
    text_counted c.in-Some.letter.now c.in-Some.rest.now c.args.text.now c.read_counted.result c.in-Some.ensures.cases.0
    (kind_counted c.in-Some.letter.now c.if-letter-eq111.false (sym c.is_page_letter.ensures ∙ c.if-is_page_letter.false)) c.read_counted.ensures
