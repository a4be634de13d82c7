use Rattle.std.proofs.Common.{arith}
use Rattle.grade_command.proofs.Parting.{same_at}
use Rattle.grade_command.proofs.grading.is_last_same.Goals as goal

pub returns : goal.returns
returns c =
    let some = c.requires.some in
    let within = c.requires.within in
    same_at c.args.journal.now c.args.entries.now _ c.index-journal-last.result c.index-entries-last.result c.is_same.result (omega (arith, some)) (omega (arith, some, within))
    c.index-journal-last.is c.index-entries-last.is c.is_same.ensures
