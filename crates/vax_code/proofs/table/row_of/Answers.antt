use Rattle.std.proofs.Common.{◌∙◌, List, ap, arith}
use Rattle.std.specs.List.{slice_get}
use Rattle.std.proofs.Common.{get_or}
use Rattle.vax_code.specs.declared.table.Row.{Row}
use Rattle.vax_code.specs.declared.table.TheConstants.{PLACES}
use Rattle.vax_code.proofs.Places.{row_at_place}
use Rattle.vax_code.proofs.table.row_of.Goals as goal

pub returns : goal.returns
returns c =
    c.row_at.ensures
    ∙ ap (λ (rows : List Row). slice_get rows (get_or PLACES c.args.op 0)) c.rows.ensures
    ∙ row_at_place c.args.op (omega arith)
