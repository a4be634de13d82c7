use Rattle.std.proofs.Common.{sym, ap, ◌∙◌}
use Rattle.run_text.specs.Lines.{lines_in}
use Rattle.replay_command.specs.LastLine.{is_fault_line}
use Rattle.replay_command.proofs.LastLines.{fault_left_out, other_stays}
use Rattle.replay_command.proofs.last_line.without_fault_line.Goals as goal

pub returns-then-is_fault_line-clause-lines : goal.returns-then-is_fault_line-clause-lines
returns-then-is_fault_line-clause-lines c =
    ap lines_in c.split_at.ensures.front
    ∙ fault_left_out c.args.bytes.now c.last_start.result c.last_start.ensures (ap is_fault_line (sym c.split_at.ensures.back) ∙ sym c.is_fault_line.ensures ∙ c.if-is_fault_line.true)

pub returns-else-is_fault_line-clause-lines : goal.returns-else-is_fault_line-clause-lines
returns-else-is_fault_line-clause-lines c =
    other_stays c.args.bytes.now c.last_start.result c.last_start.ensures (ap is_fault_line (sym c.split_at.ensures.back) ∙ sym c.is_fault_line.ensures ∙ c.if-is_fault_line.false)
