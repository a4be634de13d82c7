use Rattle.asm_grammar.proofs.Items.{open_line, ended_line}
use Rattle.asm_grammar.proofs.lines.next_line.Goals as goal

pub returns-in-empty-clause-line : goal.returns-in-empty-clause-line
returns-in-empty-clause-line c =
    open_line c.args.text.now c.split_at.result.1.now c.line_len.result c.line_len.ensures.len c.split_at.ensures.back c.in-empty.len_below c.requires

pub returns-in-len1-up-clause-line : goal.returns-in-len1-up-clause-line
returns-in-len1-up-clause-line c =
    ended_line c.args.text.now c.split_at.result.0.now c.split_at.result.1.now c.line_len.result c.line_len.ensures.len c.split_at.ensures.front c.split_at.ensures.back c.in-len1-up.len_at_least
