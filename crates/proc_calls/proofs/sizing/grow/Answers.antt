use Rattle.std.proofs.Common.{◌≡◌, true, false}
use Rattle.std.specs.Prelude.{Ok}
use Rattle.flat_model.specs.Calls.{replied}
use Rattle.proc_calls.proofs.Sizes.{can_grow}
use Rattle.proc_calls.proofs.Stopping.{grown_stops}
use Rattle.proc_calls.proofs.sizing.grow.Goals as goal

pub resize-requires-clause-can : goal.resize-requires-clause-can
resize-requires-clause-can c =
    let m = c.args.m.now in
    let e : c.ask.result ≡ Ok true = let t = c.if-branch.true in let w = c.in_ok-ask.was in cc in
    let f = c.ask.ensures.found e in
    can_grow m c.args.pid (replied c.args.regs.now false 0) c.requires.calls c.args.sizes.wanted c.args.sizes.stack_pages c.requires.stack c.requires.few c.requires.most
    c.args.sizes.sid c.requires.named c.ask.new.self f.0 f.1 f.2 c.requires.more

pub returns-then-branch-clause-stops : goal.returns-then-branch-clause-stops
returns-then-branch-clause-stops c =
    let e : c.ask.result ≡ Ok true = let t = c.if-branch.true in let w = c.in_ok-ask.was in cc in
    let f = c.ask.ensures.found e in
    grown_stops c.resize.result c.args.m.now c.ask.new.self c.resize.new.m c.args.pid c.args.sizes.wanted f.0 f.2 c.requires.calls.ready.whole c.in_ok-ask.ensures.has_room
    c.resize.ensures.stop c.resize.ensures.cause c.resize.ensures.full
