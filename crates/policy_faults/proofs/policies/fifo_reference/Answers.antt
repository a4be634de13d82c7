use Rattle.std.proofs.Common.{List, ℕ, ap, sym, ◌∙◌}
use Rattle.page_opt.specs.Plans.{has}
use Rattle.policy_faults.specs.Ring.{ring_pages}
use Rattle.policy_faults.proofs.Turning.{fifo_away, fifo_came}
use Rattle.policy_faults.proofs.policies.fifo_reference.Goals as goal

pub page_in-requires : goal.page_in-requires
page_in-requires c =
    ap (λ (qs : List ℕ). has c.args.page qs) c.make_fifo_room.ensures ∙ fifo_away c.args.page c.args.frames (ring_pages c.args.ring.now) (sym c.if-contains.ensures)

pub returns-clause-after : goal.returns-clause-after
returns-clause-after c = fifo_came c.args.page c.args.frames c.args.ring.now c.make_fifo_room.new.ring c.page_in.new.self (sym c.if-contains.ensures) c.make_fifo_room.ensures c.in_ok-page_in.ensures
