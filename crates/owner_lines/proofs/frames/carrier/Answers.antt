use Rattle.std.proofs.Common.{sym, ap, ◌∙◌}
use Rattle.owner_lines.specs.Carried.{carried_number}
use Rattle.owner_lines.proofs.Owning.{carrier_found}
use Rattle.owner_lines.proofs.frames.carrier.Goals as goal

pub returns : goal.returns
returns c = c.carried_number.ensures ∙ ap carried_number c.find_carrier.ensures ∙ sym (carrier_found 1 c.args.frame c.args.machine.now.kernel.place.transfers)
