use Rattle.run_text.proofs.EntryTexts.{text_line, no_end}
use Rattle.run_text.proofs.entry_reader.read_entry_line.Goals as goal

pub returns-in_default : goal.returns-in_default
returns-in_default c = no_end c.args.line.now c.in_default.ensures

pub returns : goal.returns
returns c = text_line c.in-Some.text.now c.args.line.now c.read_text.result c.in-Some.ensures c.read_text.ensures
