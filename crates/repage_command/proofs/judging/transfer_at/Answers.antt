use Rattle.std.proofs.Common.{◌-◌, take, sym, ap, ◌∙◌}
use Rattle.repage_command.specs.Reading.{inputs_of}
use Rattle.repage_command.specs.Judging.{traced_to, transfer_by}
use Rattle.repage_command.proofs.judging.transfer_at.Goals as goal

pub returns-in-None-clause-number : goal.returns-in-None-clause-number
returns-in-None-clause-number c = λ hs found first.
    ap (transfer_by (traced_to (inputs_of c.args.numbers c.args.case.now) hs (take (c.args.misstep.now.line - 1) c.args.case.now.lines.items)).place)
    (sym c.in-None.is ∙ c.frame_away.ensures)
