use Rattle.io_edge.specs.WithFiles.{stores}
use Rattle.std.proofs.Common.{sym, ◌∙◌}
use Rattle.proc_calls.proofs.Spaces.{all_asked, own_asked, shared_asks, first_asks, first_can, finds, finding_stops}
use Rattle.proc_calls.proofs.starting.find_space.Goals as goal

pub find_pieces-requires-else-is_shared-clause-can : goal.find_pieces-requires-else-is_shared-clause-can
find_pieces-requires-else-is_shared-clause-can g c =
    first_can c.args.m.now c.args.image c.next_wants.result c.requires.calls.ready c.next_wants.ensures
    (sym c.is_shared.ensures ∙ c.if-is_shared.false)

pub returns-then-is_shared-clause-finds : goal.returns-then-is_shared-clause-finds
returns-then-is_shared-clause-finds g c =
    finds c.find_pieces.result c.args.m.now c.find_pieces.new.m c.args.pid c.args.image (own_asked c.next_wants.result)
    (g.F.Files.holds c.args.files.now) (stores g.F.Files g.D.SwapDev c.args.files.now c.args.swap.now) (stores g.F.Files g.D.SwapDev c.find_pieces.new.files c.find_pieces.new.swap)
    (shared_asks c.args.m.now c.args.image c.next_wants.result c.requires.calls.ready c.next_wants.ensures
    (sym c.is_shared.ensures ∙ c.if-is_shared.true))
    c.find_pieces.ensures.finds

pub returns-else-is_shared-clause-finds : goal.returns-else-is_shared-clause-finds
returns-else-is_shared-clause-finds g c =
    finds c.find_pieces-else-is_shared.result c.args.m.now c.find_pieces-else-is_shared.new.m c.args.pid c.args.image (all_asked c.next_wants.result)
    (g.F.Files.holds c.args.files.now) (stores g.F.Files g.D.SwapDev c.args.files.now c.args.swap.now)
    (stores g.F.Files g.D.SwapDev c.find_pieces-else-is_shared.new.files c.find_pieces-else-is_shared.new.swap)
    (first_asks c.args.m.now c.args.image c.next_wants.result c.requires.calls.ready c.next_wants.ensures
    (sym c.is_shared.ensures ∙ c.if-is_shared.false))
    c.find_pieces-else-is_shared.ensures.finds

pub returns-then-is_shared-clause-stops : goal.returns-then-is_shared-clause-stops
returns-then-is_shared-clause-stops g c =
    finding_stops c.find_pieces.result c.args.m.now c.find_pieces.new.m c.args.pid c.args.image (own_asked c.next_wants.result)
    (g.F.Files.holds c.args.files.now) (stores g.F.Files g.D.SwapDev c.args.files.now c.args.swap.now) (stores g.F.Files g.D.SwapDev c.find_pieces.new.files c.find_pieces.new.swap)
    (shared_asks c.args.m.now c.args.image c.next_wants.result c.requires.calls.ready c.next_wants.ensures
    (sym c.is_shared.ensures ∙ c.if-is_shared.true))
    c.find_pieces.ensures.stops

pub returns-else-is_shared-clause-stops : goal.returns-else-is_shared-clause-stops
returns-else-is_shared-clause-stops g c =
    finding_stops c.find_pieces-else-is_shared.result c.args.m.now c.find_pieces-else-is_shared.new.m c.args.pid c.args.image (all_asked c.next_wants.result)
    (g.F.Files.holds c.args.files.now) (stores g.F.Files g.D.SwapDev c.args.files.now c.args.swap.now)
    (stores g.F.Files g.D.SwapDev c.find_pieces-else-is_shared.new.files c.find_pieces-else-is_shared.new.swap)
    (first_asks c.args.m.now c.args.image c.next_wants.result c.requires.calls.ready c.next_wants.ensures
    (sym c.is_shared.ensures ∙ c.if-is_shared.false))
    c.find_pieces-else-is_shared.ensures.stops
