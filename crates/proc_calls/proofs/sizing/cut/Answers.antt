use Rattle.io_edge.specs.WithFiles.{stores}
use Rattle.std.proofs.Common.{ℕ, false, subst}
use Rattle.flat_model.specs.Calls.{replied}
use Rattle.proc_calls.specs.Leaving.{HasSettled}
use Rattle.proc_calls.proofs.Sizes.{can_cut}
use Rattle.proc_calls.proofs.Stopping.{cut_stops}
use Rattle.proc_calls.proofs.sizing.cut.Goals as goal

pub resize-requires-clause-can : goal.resize-requires-clause-can
resize-requires-clause-can g c =
    let m = c.args.m.now in
    let n = c.settle.new.self in
    let holds = g.F.Files.holds c.args.files.now in
    let i = stores g.F.Files g.D.SwapDev c.args.files.now c.args.swap.now in
    let j = stores g.F.Files g.D.SwapDev c.settle.new.files c.settle.new.swap in
    can_cut m n c.args.pid (replied c.args.regs.now false 0) c.requires.calls holds i j
    (subst (λ (x : ℕ). HasSettled m n x holds i j) c.requires.named
    (record { settled = c.in_ok-settle.ensures.settled; rest = c.in_ok-settle.ensures.rest; keeps = c.in_ok-settle.ensures.keeps }))
    n.params.swap_blocks c.in_ok-settle.ensures.goes_on.running.sound c.args.sizes.wanted c.args.sizes.stack_pages
    c.requires.stack c.requires.few c.requires.most c.requires.fewer

pub returns-clause-stops : goal.returns-clause-stops
returns-clause-stops g c =
    let m = c.args.m.now in
    let n = c.settle.new.self in
    let holds = g.F.Files.holds c.args.files.now in
    let i = stores g.F.Files g.D.SwapDev c.args.files.now c.args.swap.now in
    let j = stores g.F.Files g.D.SwapDev c.settle.new.files c.settle.new.swap in
    cut_stops c.resize.result m n c.resize.new.m c.args.pid c.args.sizes.wanted holds i j c.requires.fewer
    (subst (λ (x : ℕ). HasSettled m n x holds i j) c.requires.named
    (record { settled = c.in_ok-settle.ensures.settled; rest = c.in_ok-settle.ensures.rest; keeps = c.in_ok-settle.ensures.keeps }))
    c.in_ok-settle.ensures.goes_on.whole c.resize.ensures.stop c.resize.ensures.cause c.resize.ensures.full
