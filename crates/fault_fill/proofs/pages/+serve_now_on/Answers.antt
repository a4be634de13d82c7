use Rattle.io_edge.specs.WithFiles.{stores}
use Rattle.std.proofs.Common.{◌+◌, ◌≤◌, Bool, true, length, subst, arith}
use Rattle.page_model.specs.Rank.{rank}
use Rattle.clock_hands.specs.Stops.{StopsWhile}
use Rattle.fault_fill.specs.Serving.{serving_page}
use Rattle.fault_fill.specs.Units.{GoesFurther, Further}
use Rattle.fault_fill.specs.Answers.{ServesNow}
use Rattle.fault_fill.proofs.Serving.{Behind, served_behind, rank_falls}
use Rattle.fault_fill.proofs.Leading.{match_map, stops_later, served_now_later}
use Rattle.fault_fill.proofs.pages.+serve_now_on.Goals as goal

pub serve_now_on-requires : goal.serve_now_on-requires
serve_now_on-requires g t c κs out =
    let q = c.args.page in
    let old = c.args.m.now in
    let new = c.serve_further.new.m in
    let locked = c.args.locked.now in
    let holds = g.F.Files.holds c.args.files.now in
    let i = stores g.F.Files g.D.SwapDev c.args.files.now c.args.swap.now in
    let j = stores g.F.Files g.D.SwapDev c.serve_further.new.files c.serve_further.new.swap in
    let f : Further locked q old new holds i j = subst (λ (b : Bool). GoesFurther b locked q old new holds i j) c.if-more.true c.in-Ok.ensures.made in
    let s = c.requires.asks.ready.running.sound in
    let b : Behind old.kernel.place new.kernel.place locked q = served_behind f.serves.units old.kernel.place new.kernel.place locked q true s.owner.frames c.requires.can f.serves.leads in
    let less : length f.serves.units + rank new.kernel.place locked q ≤ rank old.kernel.place locked q =
    rank_falls f.serves.units old.kernel.place new.kernel.place locked q true s.owner.frames c.requires.can s.hands c.requires.room f.serves.leads in
    let some = f.some in (
      omega (arith, c.decreases, less, some),
      (
        out.0,
        (
          out.1,
          (
            c.in-Ok.ensures.goes_on.asks,
            (b.can, (b.room c.requires.room, f.low)),
          ),
        ),
      ),
    )

pub returns-then-more-clause-served : goal.returns-then-more-clause-served
returns-then-more-clause-served g t c =
    let q = c.args.page in
    let old = c.args.m.now in
    let next = c.serve_further.new.m in
    let new = c.serve_now_on.new.m in
    let locked = c.args.locked.now in
    let holds = g.F.Files.holds c.args.files.now in
    let later = g.F.Files.holds c.serve_further.new.files in
    let i = stores g.F.Files g.D.SwapDev c.args.files.now c.args.swap.now in
    let h = stores g.F.Files g.D.SwapDev c.serve_further.new.files c.serve_further.new.swap in
    let j = stores g.F.Files g.D.SwapDev c.serve_now_on.new.files c.serve_now_on.new.swap in
    let f : Further locked q old next holds i h = subst (λ (b : Bool). GoesFurther b locked q old next holds i h) c.if-more.true c.in-Ok.ensures.made in
    match_map (λ u. ServesNow locked q next new later h j) (λ u. ServesNow locked q old new holds i j)
    (StopsWhile (serving_page true locked q) next new later h j) (StopsWhile (serving_page true locked q) old new holds i j) c.serve_now_on.result
    (λ u m. served_now_later locked q old next new holds later i h j c.in-Ok.ensures.goes_on.outside.files.holds f.serves m)
    (λ stop m. stops_later true locked q old next new holds later i h j stop c.in-Ok.ensures.goes_on.outside.files.holds f.serves m)
    c.serve_now_on.ensures.served
