use Rattle.io_edge.specs.WithFiles.{stores}
use Rattle.std.proofs.Common.{◌<◌, [], false, Option, subst, arith}
use Rattle.page_model.specs.Ownership.{OwnsFrames}
use Rattle.clock_hands.specs.Stops.{StopsWhile}
use Rattle.fault_fill.specs.Serving.{UnitMade, ServesTo, serving_page}
use Rattle.fault_fill.specs.Units.{ComesTo, AnyUnit}
use Rattle.fault_fill.specs.Answers.{ServesAs}
use Rattle.fault_fill.specs.declared.served.Served.{Served}
use Rattle.fault_fill.proofs.Serving.{near, Behind}
use Rattle.fault_fill.proofs.Leading.{match_map, none_serves, one_serves, stops_here, stops_later, unit_behind, unit_nearer, served_later}
use Rattle.fault_fill.proofs.pages.+serve_on.Goals as goal

pub returns-in-Err-clause-served : goal.returns-in-Err-clause-served
returns-in-Err-clause-served g t c =
    stops_here false [] c.args.page c.args.m.now c.serve_unit.new.m (g.F.Files.holds c.args.files.now) (stores g.F.Files g.D.SwapDev c.args.files.now c.args.swap.now)
    (stores g.F.Files g.D.SwapDev c.serve_unit.new.files c.serve_unit.new.swap) c.in-Err.stop
    (c.in-Err.ensures.made false)

pub returns-in-Some-clause-served : goal.returns-in-Some-clause-served
returns-in-Some-clause-served g t c =
    none_serves _ c.in-Some.served c.args.page c.args.m.now c.serve_unit.new.m (g.F.Files.holds c.args.files.now)
    (stores g.F.Files g.D.SwapDev c.args.files.now c.args.swap.now) (stores g.F.Files g.D.SwapDev c.serve_unit.new.files c.serve_unit.new.swap)
    c.in-Some.is c.in-Ok.ensures.made

pub serve_on-requires : goal.serve_on-requires
serve_on-requires g t c κs out =
    let q = c.args.page in
    let old = c.args.m.now in
    let new = c.serve_unit.new.m in
    let holds = g.F.Files.holds c.args.files.now in
    let i = stores g.F.Files g.D.SwapDev c.args.files.now c.args.swap.now in
    let j = stores g.F.Files g.D.SwapDev c.serve_unit.new.files c.serve_unit.new.swap in
    let any : AnyUnit q old new holds i j = subst (λ (u : Option Served). ComesTo u q old new holds i j) c.in-None.is c.in-Ok.ensures.made in
    let u : UnitMade false [] q old new holds i j = any false [] in
    let owner : OwnsFrames old.kernel.place = c.requires.asks.ready.running.sound.owner.frames in
    let b : Behind old.kernel.place new.kernel.place [] q = unit_behind false [] q old new holds i j owner c.requires.can u in
    let less : near new.kernel.place q < near old.kernel.place q = unit_nearer q old new holds i j owner c.requires.can u in (
      omega (arith, c.decreases, less),
      (
        out.0,
        (
          out.1,
          (
            c.in-Ok.ensures.goes_on.asks,
            b.can,
          ),
        ),
      ),
    )

pub returns-in-None-clause-served : goal.returns-in-None-clause-served
returns-in-None-clause-served g t c =
    let q = c.args.page in
    let old = c.args.m.now in
    let next = c.serve_unit.new.m in
    let new = c.serve_on.new.m in
    let holds = g.F.Files.holds c.args.files.now in
    let later = g.F.Files.holds c.serve_unit.new.files in
    let i = stores g.F.Files g.D.SwapDev c.args.files.now c.args.swap.now in
    let h = stores g.F.Files g.D.SwapDev c.serve_unit.new.files c.serve_unit.new.swap in
    let j = stores g.F.Files g.D.SwapDev c.serve_on.new.files c.serve_on.new.swap in
    let any : AnyUnit q old next holds i h = subst (λ (u : Option Served). ComesTo u q old next holds i h) c.in-None.is c.in-Ok.ensures.made in
    let s : ServesTo false [] q old next holds i h = one_serves false [] q old next holds i h c.requires.can (any false []) in
    match_map (λ (a : Served). ServesAs a q next new later h j) (λ (a : Served). ServesAs a q old new holds i j)
    (StopsWhile (serving_page false [] q) next new later h j) (StopsWhile (serving_page false [] q) old new holds i j) c.serve_on.result
    (λ a m. served_later a q old next new holds later i h j c.in-Ok.ensures.goes_on.outside.files.holds s m)
    (λ stop m. stops_later false [] q old next new holds later i h j stop c.in-Ok.ensures.goes_on.outside.files.holds s m)
    c.serve_on.ensures.served
