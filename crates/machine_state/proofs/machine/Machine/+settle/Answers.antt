use Rattle.std.proofs.Common.{Bool, Result, Ok, sym, ap, ◌∙◌, arith}
use Rattle.std.proofs.lemmas.Result.{err_from_is_err_and}
use Rattle.io_edge.specs.WithFiles.{stores}
use Rattle.vm_facts.specs.declared.stop.Stop.{Stop}
use Rattle.table_steps.specs.Done.{Sources, sources, IsDone}
use Rattle.machine_state.proofs.Settling.{fewer, beside_done, same_sources, one_more, one_stopped, stopped_first, through}
use Rattle.machine_state.proofs.Backing.{asks_on}
use Rattle.table_steps.proofs.Outcomes.{on_ok, if_err}
use Rattle.machine_state.proofs.machine.Machine.+settle.Goals as goal

pub returns-in_err-done-clause-stops : goal.returns-in_err-done-clause-stops
returns-in_err-done-clause-stops g t c =
    let p = err_from_is_err_and c.from_residual.result c.from_residual.ensures.1 in
    rw (p.1, p.2)
    (stopped_first c.args.sid c.args.self.now c.done.new.self (g.F.Files.holds c.args.files.now) (stores g.F.Files g.D.SwapDev c.args.files.now c.args.swap.now)
    (stores g.F.Files g.D.SwapDev c.done.new.files c.done.new.swap) c.in_err-done.field-0.0
    (sym c.settled.ensures ∙ c.if-settled.false) c.in_err-done.ensures.stop c.requires.asks.ready.whole c.in_err-done.ensures.cause c.in_err-done.ensures.full c.in_err-done.ensures.lost
    c.in_err-done.ensures.spoiled)

pub settle-requires : goal.settle-requires
settle-requires g t c κs out =
    let yes = ap (λ (b : Bool). let r : Result Bool Stop = Ok b in r) c.if-branch.true in
    let b = beside_done c.args.self.now c.done.new.self (c.in_ok-done.ensures.rest yes) in
    let outside = c.in_ok-done.ensures.outside in
    let asks = asks_on c.args.self.now c.done.new.self (g.F.Files.holds c.args.files.now) (g.F.Files.holds c.done.new.files) _ _ b outside.files.holds outside.swap.blocks
    c.in_ok-done.ensures.goes_on c.requires.asks in
    let less = fewer _ _ _ _ (c.in_ok-done.ensures.step yes) in
    (omega (arith, c.decreases, less), (out.0, (out.1, asks)))

pub returns-then-branch-clause-settled : goal.returns-then-branch-clause-settled
returns-then-branch-clause-settled g t c =
    let yes = ap (λ (b : Bool). let r : Result Bool Stop = Ok b in r) c.if-branch.true in
    let i = stores g.F.Files g.D.SwapDev c.args.files.now c.args.swap.now in
    let old = c.args.self.now in
    let from : Sources = sources old (g.F.Files.holds c.args.files.now) in
    let d : IsDone from i old.kernel c.done.new.self.kernel = c.in_ok-done.ensures.step yes in
    on_ok c.settle.result
    (one_more from (sources c.done.new.self (g.F.Files.holds c.done.new.files)) c.args.sid old.kernel c.done.new.self.kernel c.settle.new.self.kernel i
    (stores g.F.Files g.D.SwapDev c.done.new.files c.done.new.swap)
    (stores g.F.Files g.D.SwapDev c.settle.new.files c.settle.new.swap)
    (same_sources old c.done.new.self (g.F.Files.holds c.args.files.now) (g.F.Files.holds c.done.new.files) c.in_ok-done.ensures.outside.files.holds
    (beside_done old c.done.new.self (c.in_ok-done.ensures.rest yes)))
    (sym c.settled.ensures ∙ c.if-settled.false) d c.in_ok-done.ensures.swapped) c.settle.ensures.settled

pub returns-then-branch-clause-keeps : goal.returns-then-branch-clause-keeps
returns-then-branch-clause-keeps g t c =
    let yes = ap (λ (b : Bool). let r : Result Bool Stop = Ok b in r) c.if-branch.true in
    on_ok c.settle.result (through _ _ c.args.self.now c.done.new.self c.settle.new.self (g.F.Files.holds c.args.files.now) (g.F.Files.holds c.done.new.files)
    (stores g.F.Files g.D.SwapDev c.args.files.now c.args.swap.now)
    (stores g.F.Files g.D.SwapDev c.done.new.files c.done.new.swap) (stores g.F.Files g.D.SwapDev c.settle.new.files c.settle.new.swap)
    (beside_done c.args.self.now c.done.new.self (c.in_ok-done.ensures.rest yes)) (c.in_ok-done.ensures.step yes)
    c.in_ok-done.ensures.outside.files.holds c.in_ok-done.ensures.keeps) c.settle.ensures.keeps

pub returns-then-branch-clause-stops : goal.returns-then-branch-clause-stops
returns-then-branch-clause-stops g t c =
    let yes = ap (λ (b : Bool). let r : Result Bool Stop = Ok b in r) c.if-branch.true in
    let i = stores g.F.Files g.D.SwapDev c.args.files.now c.args.swap.now in
    let old = c.args.self.now in
    let holds = g.F.Files.holds c.args.files.now in
    let d : IsDone (sources old holds) i old.kernel c.done.new.self.kernel = c.in_ok-done.ensures.step yes in
    if_err c.settle.result
    (λ stop. one_stopped c.args.sid old c.done.new.self c.settle.new.self holds (g.F.Files.holds c.done.new.files) i
    (stores g.F.Files g.D.SwapDev c.done.new.files c.done.new.swap) (stores g.F.Files g.D.SwapDev c.settle.new.files c.settle.new.swap) stop
    c.in_ok-done.ensures.outside.files.holds (beside_done old c.done.new.self (c.in_ok-done.ensures.rest yes))
    (sym c.settled.ensures ∙ c.if-settled.false) d c.in_ok-done.ensures.swapped) c.settle.ensures.stops
