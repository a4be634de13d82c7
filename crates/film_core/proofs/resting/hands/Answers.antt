use Rattle.io_edge.specs.WithFiles.{stores}
use Rattle.std.proofs.Common.{arith}
use Rattle.run_model.specs.declared.mark.Mark.TheVariants as marks
use Rattle.vm_core.specs.Sizes.{KeptAtStop}
use Rattle.vm_core.specs.Stepped.{StopsFrom}
use Rattle.vm_core.proofs.Kept.{kept_moving}
use Rattle.vm_core.proofs.Noting.{stops_on}
use Rattle.film_core.proofs.RestsMade.{hands_rest, hands_stops, hands_stay, hands_fit}
use Rattle.film_core.proofs.resting.hands.Goals as goal
use Rattle.film_core.specs.Ways.{RestAt}

pub move_hands-requires-clause-fits : goal.move_hands-requires-clause-fits
move_hands-requires-clause-fits g c =
    let u = c.requires.under in
    let few = hands_fit u.0 u.1 c.args.m.now c.args.left c.args.counted (g.F.Files.holds c.args.files.now) (stores g.F.Files g.D.SwapDev c.args.files.now c.args.swap.now) u.2 u.3 in
    let low = c.requires.steady.low in
    omega (arith, few, low)

pub returns-clause-rests : goal.returns-clause-rests
returns-clause-rests g c =
    hands_rest c.args.m.now c.move_hands.new.m c.args.left c.in_ok-move_hands.field-0 c.args.counted (g.F.Files.holds c.args.files.now) (stores g.F.Files g.D.SwapDev c.args.files.now c.args.swap.now)
    (stores g.F.Files g.D.SwapDev c.move_hands.new.files c.move_hands.new.swap)
    c.in_ok-move_hands.ensures.moved

pub returns-clause-on : goal.returns-clause-on
returns-clause-on g c =
    hands_stay c.args.m.now c.move_hands.new.m c.args.left c.in_ok-move_hands.field-0 c.args.counted (g.F.Files.holds c.args.files.now) (stores g.F.Files g.D.SwapDev c.args.files.now c.args.swap.now)
    (stores g.F.Files g.D.SwapDev c.move_hands.new.files c.move_hands.new.swap)
    c.requires.steady c.requires.counted c.in_ok-move_hands.ensures.moved c.in_ok-move_hands.ensures.goes_on.asks.ready

pub returns-in_err-move_hands-clause-stops : goal.returns-in_err-move_hands-clause-stops
returns-in_err-move_hands-clause-stops g c =
    let old = c.args.m.now in
    let new = c.move_hands.new.m in
    let holds = g.F.Files.holds c.args.files.now in
    let i = stores g.F.Files g.D.SwapDev c.args.files.now c.args.swap.now in
    let j = stores g.F.Files g.D.SwapDev c.move_hands.new.files c.move_hands.new.swap in
    let stop = c.in_err-move_hands.field-0.0 in
    stops_on c.from_residual.result stop (StopsFrom (RestAt old (marks.Hands c.args.left) c.args.counted holds i) old new j) c.from_residual.ensures.1
    (hands_stops old new c.args.left c.args.counted holds i j stop c.in_err-move_hands.ensures.stopped)

pub returns-in_err-move_hands-clause-kept : goal.returns-in_err-move_hands-clause-kept
returns-in_err-move_hands-clause-kept g c =
    let stop = c.in_err-move_hands.field-0.0 in
    stops_on c.from_residual.result stop (KeptAtStop c.args.m.now c.move_hands.new.m) c.from_residual.ensures.1
    (kept_moving c.args.m.now c.move_hands.new.m (g.F.Files.holds c.args.files.now) (stores g.F.Files g.D.SwapDev c.args.files.now c.args.swap.now)
    (stores g.F.Files g.D.SwapDev c.move_hands.new.files c.move_hands.new.swap) c.args.left stop c.in_err-move_hands.ensures.stopped)
