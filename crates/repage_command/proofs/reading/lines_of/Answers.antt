use Rattle.std.proofs.Common.{subst}
use Rattle.repage_command.specs.Grammar.{IsReadTrace}
use Rattle.repage_command.proofs.Readings.{lines_few}
use Rattle.repage_command.proofs.reading.lines_of.Goals as goal

pub returns-in-Ok-Is-clause-few : goal.returns-in-Ok-Is-clause-few
returns-in-Ok-Is-clause-few c =
    lines_few c.in-Ok-Is.lines.items c.without_fault_line.result.now c.args.bytes.now
    (subst (IsReadTrace c.without_fault_line.result.now) c.in-Ok-Is.field-0-is c.in-Ok-Is.ensures) c.without_fault_line.ensures.shorter c.requires
