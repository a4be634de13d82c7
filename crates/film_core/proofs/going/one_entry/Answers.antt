use Rattle.io_edge.specs.WithFiles.{stores}
use Rattle.std.proofs.Common.{subst}
use Rattle.vm_facts.specs.declared.stop.Stop.{Stop}
use Rattle.vm_core.specs.Sizes.{KeptAtStop}
use Rattle.vm_core.specs.Stepped.{StopsFrom}
use Rattle.film_core.proofs.Making.{widened_by, over_made, full_made, full_ready, other_stops}
use Rattle.film_core.proofs.going.one_entry.Goals as goal
use Rattle.film_core.specs.Ways.{GoesAt}

pub returns-in-Ok-clause-made : goal.returns-in-Ok-clause-made
returns-in-Ok-clause-made g c =
    over_made c.args.m.now c.widen.new.self c.go_further-went.new.m c.args.mark c.args.lines.now c.args.taken c.args.counted (g.F.Files.holds c.args.files.now)
    (stores g.F.Files g.D.SwapDev c.args.files.now c.args.swap.now)
    (stores g.F.Files g.D.SwapDev c.go_further-went.new.files c.go_further-went.new.swap)
    (widened_by c.args.m.now c.widen.new.self c.params.result.now c.params.ensures c.widen.ensures.step) c.always.ensures.within
    c.in-Ok.ensures.over c.in-Ok.ensures.ends

pub returns-in-JournalFull-clause-made : goal.returns-in-JournalFull-clause-made
returns-in-JournalFull-clause-made g c =
    let mid = c.widen.new.self in
    let new = c.go_further-went.new.m in
    let holds = g.F.Files.holds c.args.files.now in
    let i = stores g.F.Files g.D.SwapDev c.args.files.now c.args.swap.now in
    let j = stores g.F.Files g.D.SwapDev c.go_further-went.new.files c.go_further-went.new.swap in
    full_made c.args.m.now mid new c.args.mark c.args.lines.now c.args.taken c.args.counted holds i j
    (widened_by c.args.m.now mid c.params.result.now c.params.ensures c.widen.ensures.step) c.always.ensures.within
    (subst (λ (x : Stop). StopsFrom (GoesAt mid c.args.mark c.args.lines.now c.args.taken c.args.counted holds i) mid new j x) c.in-JournalFull.is c.in-Err.ensures.stops)
    (subst (λ (x : Stop). KeptAtStop mid new x) c.in-JournalFull.is c.in-Err.ensures.kept)

pub returns-in-JournalFull-clause-goes_on : goal.returns-in-JournalFull-clause-goes_on
returns-in-JournalFull-clause-goes_on g c =
    let mid = c.widen.new.self in
    let new = c.go_further-went.new.m in
    let holds = g.F.Files.holds c.args.files.now in
    let i = stores g.F.Files g.D.SwapDev c.args.files.now c.args.swap.now in
    let j = stores g.F.Files g.D.SwapDev c.go_further-went.new.files c.go_further-went.new.swap in
    full_ready c.args.m.now mid new c.args.mark c.args.lines.now c.args.taken c.args.counted holds i j
    (widened_by c.args.m.now mid c.params.result.now c.params.ensures c.widen.ensures.step) c.always.ensures.within
    (subst (λ (x : Stop). StopsFrom (GoesAt mid c.args.mark c.args.lines.now c.args.taken c.args.counted holds i) mid new j x) c.in-JournalFull.is c.in-Err.ensures.stops)
    c.requires.full c.widen.ensures.goes_on c.always.ensures.running

pub returns-in_default : goal.returns-in_default
returns-in_default g c =
    let mid = c.widen.new.self in
    let new = c.go_further-went.new.m in
    let holds = g.F.Files.holds c.args.files.now in
    let i = stores g.F.Files g.D.SwapDev c.args.files.now c.args.swap.now in
    let j = stores g.F.Files g.D.SwapDev c.go_further-went.new.files c.go_further-went.new.swap in
    record {
      made = tt;
      stops =
          other_stops c.args.m.now mid new c.args.mark c.args.lines.now c.args.taken c.args.counted holds i j (widened_by c.args.m.now mid c.params.result.now c.params.ensures c.widen.ensures.step)
          c.always.ensures.within c.in-Err.stop c.in_default.not-JournalFull c.in-Err.ensures.stops;
      params = tt;
      images = tt;
      goes_on = tt;
      outside = c.in-Err.ensures.outside;
    }
