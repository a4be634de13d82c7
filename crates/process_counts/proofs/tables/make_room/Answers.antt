-- The table is filled up.
use Rattle.std.proofs.Common.{◌+◌, arith, refl}
use Rattle.process_counts.proofs.Counting.{room_same}
use Rattle.process_counts.proofs.tables.make_room.Goals as goal

pub returns-clause-same : goal.returns-clause-same
returns-clause-same c k =
    room_same c.args.counts.now.items c.resize.new.self.items (c.args.place + 1) (omega (arith, c.in_ok-resize.ensures.len)) (omega arith)
    (λ k d within low. c.in_ok-resize.ensures.by_index.0 k d within (omega (arith, low)))
    (λ k d high within. c.in_ok-resize.ensures.by_index.1 k d refl (omega (arith, high)) within) k
