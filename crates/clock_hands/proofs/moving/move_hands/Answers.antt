use Rattle.io_edge.specs.WithFiles.{stores}
use Rattle.std.proofs.Common.{◌≡◌, true, false, Bool, ◌<◌, ◌∙◌, [], sym, subst, arith, None}
use Rattle.std.proofs.lemmas.Result.{err_from_is_err_and}
use Rattle.page_model.specs.Hands.{wants_moves}
use Rattle.run_model.specs.Next.{move_unit}
use Rattle.clock_hands.specs.Moved.{IsMoveOf}
use Rattle.clock_hands.proofs.Moves.{stops_moving, move_flies, done_flies, move_last, done_last, moves_none, moves_one, moves_done, moves_all}
use Rattle.clock_hands.proofs.moving.move_hands.Goals.{then-loop-left-test+else-wants_moves, else-loop-left-test}
use Rattle.paging_units.proofs.Transfers.{transfers_none, transfers_then}
use Rattle.clock_hands.proofs.moving.move_hands.Goals as goal

pub loop-left-init : goal.loop-left-init
loop-left-init g c = record {
  asks = c.requires.asks;
  few = omega arith;
  fits = c.requires.fits;
  so_far = moves_none c.args.n c.args.m.now (g.F.Files.holds c.args.files.now) (stores g.F.Files g.D.SwapDev c.args.files.now c.args.swap.now);
  outside = transfers_none g.met.F.Files.leads_nowhere g.met.D.SwapDev.leads_nowhere c.args.files.now c.args.swap.now;
}

pub loop-left-preserved-then-branch : goal.loop-left-preserved-then-branch
loop-left-preserved-then-branch g c =
    let so = c.loop-left.invariant in
    let left = c.loop-left.left in
    let now = c.loop-left.m in
    let next = c.move_once.new.m in
    let later = g.F.Files.holds c.loop-left.files in
    let latest = g.F.Files.holds c.move_once.new.files in
    let h = stores g.F.Files g.D.SwapDev c.loop-left.files c.loop-left.swap in
    let k = stores g.F.Files g.D.SwapDev c.move_once.new.files c.move_once.new.swap in
    let some : 0 < left = omega arith in
    let u : IsMoveOf (move_unit now.kernel.place []) true = subst (λ (b : Bool). IsMoveOf (move_unit now.kernel.place []) b) c.if-branch.true c.in_ok-move_once.ensures.moved in
    let made = c.in_ok-move_once.ensures.made in
    let w : wants_moves now.kernel.place ≡ true = sym c.wants_moves.ensures ∙ c.if-wants_moves.true in
    record {
      asks = c.in_ok-move_once.ensures.goes_on.asks;
      few = let few = so.few in omega arith;
      fits = move_last left now next later h k some u made so.fits;
      so_far = moves_one c.args.n left c.args.m.now now next (g.F.Files.holds c.args.files.now) later latest (stores g.F.Files g.D.SwapDev c.args.files.now c.args.swap.now) h k
          c.in_ok-move_once.ensures.goes_on.outside.files.holds so.few some w made u c.in_ok-move_once.ensures.keeps so.so_far;
      outside = transfers_then {stop = None} g.met.F.Files.leads_through g.met.D.SwapDev.leads_through so.outside c.in_ok-move_once.ensures.goes_on.outside;
    }

pub loop-left-preserved : goal.loop-left-preserved
loop-left-preserved g c =
    let so = c.loop-left.invariant in
    let left = c.loop-left.left in
    let now = c.loop-left.m in
    let next = c.move_once.new.m in
    let later = g.F.Files.holds c.loop-left.files in
    let latest = g.F.Files.holds c.move_once.new.files in
    let h = stores g.F.Files g.D.SwapDev c.loop-left.files c.loop-left.swap in
    let k = stores g.F.Files g.D.SwapDev c.move_once.new.files c.move_once.new.swap in
    let some : 0 < left = omega arith in
    let u : IsMoveOf (move_unit now.kernel.place []) false = subst (λ (b : Bool). IsMoveOf (move_unit now.kernel.place []) b) c.if-branch.false c.in_ok-move_once.ensures.moved in
    let made = c.in_ok-move_once.ensures.made in
    let w : wants_moves now.kernel.place ≡ true = sym c.wants_moves.ensures ∙ c.if-wants_moves.true in
    record {
      asks = c.in_ok-move_once.ensures.goes_on.asks;
      few = let few = so.few in omega arith;
      fits = done_last left now next later h k u made so.fits;
      so_far = moves_done c.args.n left c.args.m.now now next (g.F.Files.holds c.args.files.now) later latest (stores g.F.Files g.D.SwapDev c.args.files.now c.args.swap.now) h k
          c.in_ok-move_once.ensures.goes_on.outside.files.holds some w made u c.in_ok-move_once.ensures.keeps so.so_far;
      outside = transfers_then {stop = None} g.met.F.Files.leads_through g.met.D.SwapDev.leads_through so.outside c.in_ok-move_once.ensures.goes_on.outside;
    }

pub loop-left-smaller-then-branch : goal.loop-left-smaller-then-branch
loop-left-smaller-then-branch g c =
    let so = c.loop-left.invariant in
    let left = c.loop-left.left in
    let now = c.loop-left.m in
    let next = c.move_once.new.m in
    let later = g.F.Files.holds c.loop-left.files in
    let latest = g.F.Files.holds c.move_once.new.files in
    let h = stores g.F.Files g.D.SwapDev c.loop-left.files c.loop-left.swap in
    let k = stores g.F.Files g.D.SwapDev c.move_once.new.files c.move_once.new.swap in
    let some : 0 < left = omega arith in
    let u : IsMoveOf (move_unit now.kernel.place []) true = subst (λ (b : Bool). IsMoveOf (move_unit now.kernel.place []) b) c.if-branch.true c.in_ok-move_once.ensures.moved in
    let made = c.in_ok-move_once.ensures.made in
    let flies = move_flies now next later h k u made in
    omega (arith, flies, some)

pub loop-left-smaller : goal.loop-left-smaller
loop-left-smaller g c =
    let so = c.loop-left.invariant in
    let left = c.loop-left.left in
    let now = c.loop-left.m in
    let next = c.move_once.new.m in
    let later = g.F.Files.holds c.loop-left.files in
    let latest = g.F.Files.holds c.move_once.new.files in
    let h = stores g.F.Files g.D.SwapDev c.loop-left.files c.loop-left.swap in
    let k = stores g.F.Files g.D.SwapDev c.move_once.new.files c.move_once.new.swap in
    let some : 0 < left = omega arith in
    let u : IsMoveOf (move_unit now.kernel.place []) false = subst (λ (b : Bool). IsMoveOf (move_unit now.kernel.place []) b) c.if-branch.false c.in_ok-move_once.ensures.moved in
    let made = c.in_ok-move_once.ensures.made in
    let flies = done_flies now next later h k u made in
    omega (arith, flies, some)

pub returns-in_err-move_once-clause-stopped : goal.returns-in_err-move_once-clause-stopped
returns-in_err-move_once-clause-stopped g c =
    let so = c.loop-left.invariant in
    let now = c.loop-left.m in
    let w : wants_moves now.kernel.place ≡ true = sym c.wants_moves.ensures ∙ c.if-wants_moves.true in
    let p = err_from_is_err_and c.from_residual.result c.from_residual.ensures.1 in
    let stop = c.in_err-move_once.field-0.0 in
    let new = c.move_once.new.m in
    let j = stores g.F.Files g.D.SwapDev c.move_once.new.files c.move_once.new.swap in
    rw (p.1, p.2) (so.so_far.stops stop new j
    (stops_moving c.loop-left.left now stop new (g.F.Files.holds c.loop-left.files) (stores g.F.Files g.D.SwapDev c.loop-left.files c.loop-left.swap) j
    (omega arith) w c.in_err-move_once.ensures.stopped))

pub returns-clause-moved : goal.returns-clause-moved
returns-clause-moved g c =
    let so = c.loop-left.invariant in
    let over : 0 < c.loop-left.left → wants_moves c.loop-left.m.kernel.place ≡ false = elim c.loop-left-test.branch [
      | then-loop-left-test+else-wants_moves w ↦ λ l. sym w.wants_moves.ensures ∙ w.if-wants_moves.false
      | else-loop-left-test w ↦ λ l. absurd (omega (arith, l, w.loop-left-test.false))
    ] in
    moves_all c.args.n c.loop-left.left c.args.m.now c.loop-left.m (g.F.Files.holds c.args.files.now) (g.F.Files.holds c.loop-left.files)
    (stores g.F.Files g.D.SwapDev c.args.files.now c.args.swap.now)
    (stores g.F.Files g.D.SwapDev c.loop-left.files c.loop-left.swap) over so.so_far

pub returns-clause-keeps : goal.returns-clause-keeps
returns-clause-keeps g c =
    let so = c.loop-left.invariant in
    so.so_far.keeps c.loop-left.m (stores g.F.Files g.D.SwapDev c.loop-left.files c.loop-left.swap) (λ images flat a f t. t)
