use Rattle.io_edge.specs.WithFiles.{stores}
use Rattle.std.proofs.Common.{inl, inr}
use Rattle.film_core.proofs.Passing.{ComesNext, over_rounds, full_round, full_kept}
use Rattle.film_core.proofs.going.round.Goals as goal

pub returns-in-Over-clause-rounds : goal.returns-in-Over-clause-rounds
returns-in-Over-clause-rounds g c =
    over_rounds c.args.m.now c.rest.new.m c.args.mark c.args.lines.now c.args.taken c.args.counted c.in_ok-count.count c.last_turned.result (g.F.Files.holds c.args.files.now)
    (stores g.F.Files g.D.SwapDev c.args.files.now c.args.swap.now)
    (stores g.F.Files g.D.SwapDev c.rest.new.files c.rest.new.swap) c.in_ok-count.ensures.rests c.in_ok-count.ensures.on c.last_turned.ensures (c.next_of.ensures.over c.in-Over.is)

pub returns-in-Line : goal.returns-in-Line
returns-in-Line g c =
    let old = c.args.m.now in
    let new = c.rest.new.m in
    let holds = g.F.Files.holds c.args.files.now in
    let i = stores g.F.Files g.D.SwapDev c.args.files.now c.args.swap.now in
    let j = stores g.F.Files g.D.SwapDev c.rest.new.files c.rest.new.swap in
    let o = c.in_ok-count.ensures.outside in
    let next : ComesNext new c.args.lines.now c.args.taken c.in_ok-count.count c.last_turned.result = elim c.in-Line.is [
      | inl line ↦ (let due = c.next_of.ensures.line line.0 line.1 in inl (line.0, due.0, due.1))
      | inr turn ↦ (let due = c.next_of.ensures.turn turn.0 turn.1 in inr (turn.0, due.0, due.1, due.2))
    ] in
    record {
      rounds = tt;
      stops = full_round old new c.args.mark c.args.lines.now c.args.taken c.args.counted c.in_ok-count.count c.last_turned.result holds i j c.in_ok-count.ensures.rests
          c.in_ok-count.ensures.on c.last_turned.ensures
          c.requires.full next;
      ends = tt;
      kept = full_kept old new c.args.mark c.args.lines.now c.args.taken c.args.counted c.in_ok-count.count c.last_turned.result holds i j c.in_ok-count.ensures.rests
          c.in_ok-count.ensures.on c.last_turned.ensures
          c.requires.full c.requires.round;
      outside = record {
        files = record { leads = o.files.leads; holds = o.files.holds; open_faults = o.files.open_faults; page_faults = o.files.page_faults };
        swap = record { leads = o.swap.leads; blocks = o.swap.blocks; read_faults = o.swap.read_faults; write_faults = o.swap.write_faults };
      };
    }
