-- One more piece's line passes, or fails, and then that of what is free after the last one.
use Rattle.std.proofs.Common.{rules, arith, ◌≡◌, Some, None, sym, ◌∙◌}
use Rattle.owner_lines.specs.Owners.{swap_lines}
use Rattle.owner_lines.specs.Pieces.{next_from}
use Rattle.owner_lines.proofs.Rising.{text_start, text_step, text_end, next_piece_is}
use Rattle.run_text.proofs.Putting.{leaves_all, leaves_is, leaves_rest, leaves_failed, leaves_last}
use Rattle.owner_lines.proofs.swap.put_blocks.Goals as goal

pub loop-piece-init : goal.loop-piece-init
loop-piece-init g c =
    leaves_is (text_start c.args.blocks c.args.holdings.now c.requires)
    (leaves_all {t = swap_lines c.args.blocks c.args.holdings.now} (g.met.S.Sink.leads_nowhere c.args.out.now.sink.now))

pub overflow_add-from : goal.overflow_add-from
overflow_add-from g c =
    let x : Some c.in-Some.piece ≡ next_from c.loop-piece.from c.args.holdings.now = sym c.in-Some.is ∙ c.next_piece.ensures in
    let k = next_piece_is c.args.blocks c.loop-piece.from c.args.holdings.now c.in-Some.piece c.requires x in
    omega (arith, k.2, c.ranges.blocks.fits)

pub loop-piece-smaller : goal.loop-piece-smaller
loop-piece-smaller g c =
    let x : Some c.in-Some.piece ≡ next_from c.loop-piece.from c.args.holdings.now = sym c.in-Some.is ∙ c.next_piece.ensures in
    let k = next_piece_is c.args.blocks c.loop-piece.from c.args.holdings.now c.in-Some.piece c.requires x in
    omega (arith, k.0, k.1, k.2)

pub returns-in_err-put_next : goal.returns-in_err-put_next
returns-in_err-put_next g c =
    let here = text_step c.args.blocks c.loop-piece.from c.args.holdings.now c.in-Some.piece c.requires (sym c.in-Some.is ∙ c.next_piece.ensures) in
    leaves_failed g.met.S.Sink.leads_through c.loop-piece.invariant c.in_err-put_next.ensures _ here (search rules)

pub loop-piece-preserved : goal.loop-piece-preserved
loop-piece-preserved g c =
    let here = text_step c.args.blocks c.loop-piece.from c.args.holdings.now c.in-Some.piece c.requires (sym c.in-Some.is ∙ c.next_piece.ensures) in
    leaves_rest g.met.S.Sink.leads_through c.loop-piece.invariant c.in_ok-put_next.ensures here

pub returns : goal.returns
returns g c =
    let x : None ≡ next_from c.loop-piece.from c.args.holdings.now = sym c.in_default.is ∙ c.next_piece.ensures in
    leaves_last g.met.S.Sink.leads_through c.loop-piece.invariant c.put_gap.ensures (text_end c.args.blocks c.loop-piece.from c.args.holdings.now x)
