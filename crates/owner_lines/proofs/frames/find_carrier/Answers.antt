-- The transfer at the place has the frame, or the search goes on.
use Rattle.std.proofs.Common.{◌+◌, sym, ap, ◌∙◌, arith}
use Rattle.std.proofs.lemmas.List.{drop_all}
use Rattle.owner_lines.specs.Carried.{carried_from}
use Rattle.owner_lines.proofs.Counting.{carried_here, carried_behind}
use Rattle.owner_lines.proofs.frames.find_carrier.Goals as goal

pub returns-in-Some : goal.returns-in-Some
returns-in-Some c =
    sym (carried_here (c.loop-place.place + 1) c.args.frame c.loop-place.place c.args.machine.now.kernel.place.transfers c.in-Some.found c.in-Some.ensures) ∙ c.loop-place.invariant

pub loop-place-preserved : goal.loop-place-preserved
loop-place-preserved c =
    sym (carried_behind (c.loop-place.place + 1) c.args.frame c.loop-place.place c.args.machine.now.kernel.place.transfers c.in_default.ensures) ∙ c.loop-place.invariant

pub returns : goal.returns
returns c =
    let ts = c.args.machine.now.kernel.place.transfers in
    sym (ap (carried_from (c.loop-place.place + 1) c.args.frame) (drop_all c.loop-place.place ts (omega (arith, c.in_flight-place-end.ensures, c.loop-place-test.false)))) ∙ c.loop-place.invariant
