use Rattle.io_edge.specs.WithFiles.{stores}
use Rattle.std.proofs.Common.{◌≡◌, Ok, Err, Result, sym, ap, ◌∙◌, subst}
use Rattle.std.specs.Prelude.{IfErr}
use Rattle.vm_facts.specs.declared.stop.Stop.{Stop}
use Rattle.vm_facts.specs.declared.stop.Stop.TheVariants as stops
use Rattle.vm_core.specs.Leading.{IsTold, StartStops}
use Rattle.vm_core.specs.Sizes.{KeptAtStop}
use Rattle.vm_core.specs.FirstProcesses.{HasStarted}
use Rattle.vm_core.specs.declared.first_processes.Started.{Started}
use Rattle.vm_core.specs.declared.first_processes.Started.TheVariants as starteds
use Rattle.vm_core.specs.Starting.{StopsStartingRun}
use Rattle.vm_core.proofs.Starts.{stops_starting}
use Rattle.film_core.specs.Films.{Filming}
use Rattle.film_core.proofs.Begins.{told_of, started, stopped}
use Rattle.film_core.proofs.film.Film.start.Goals as goal
use Rattle.film_core.proofs.film.Film.start.Goals.{in-JournalFull, in_default}

-- It stands before the first entry.

pub returns-in-Ok-begun-clause-begins : goal.returns-in-Ok-begun-clause-begins
returns-in-Ok-begun-clause-begins g c = λ done A image asked told.
    let now : Filming = c.args.self.now in
    let new : Filming =
    record { machine = c.start-started.new.m; lines = c.self.inside.lines; mark = c.self.inside.mark; counted = c.self.inside.counted; over = c.none_comes-self-inside.result } in
    let holds = g.F.Files.holds c.args.files.now in
    let ok : c.start-started.result ≡ Ok starteds.Ok = c.in-Ok.is ∙ ap (λ (s : Started). let r : Result Started Stop = Ok s in r) c.in-Ok-begun.is in
    let on : HasStarted c.self.inside.machine c.start-started.new.m = c.start-started.ensures.goes_on ok in
    let files : IsTold A c.self.inside.machine c.args.first.now holds image =
    subst (λ (f : Filming). IsTold A f.machine c.args.first.now holds image) (sym c.self.view_is) (told_of A now c.args.first.now c.args.lines.now holds image asked) in
    started A now new c.args.first.now c.args.lines.now holds image (stores g.F.Files g.D.SwapDev c.start-started.new.files c.start-started.new.swap) asked c.requires.few c.requires.unbegun
    (on.params ∙ ap (λ (f : Filming). f.machine.params) c.self.view_is) (on.images ∙ ap (λ (f : Filming). f.machine.images) c.self.view_is) c.always.ensures.within
    (ap (λ (f : Filming). f.lines) c.self.view_is) (ap (λ (f : Filming). f.mark) c.self.view_is) (ap (λ (f : Filming). f.counted) c.self.view_is)
    on.ready (c.start-started.ensures.leads A image files told ok) c.requires.some c.none_comes-self-inside.ensures

pub returns-after-stop-clause-begins : goal.returns-after-stop-clause-begins
returns-after-stop-clause-begins g c = λ done A image asked told. elim c.match-stop.branch [
  | in-JournalFull w ↦
      let now : Filming = c.args.self.now in
      let new : Filming =
      record { machine = c.start-started.new.m; lines = c.self.inside.lines; mark = c.self.inside.mark; counted = c.self.inside.counted; over = c.self.inside.over } in
      let holds = g.F.Files.holds c.args.files.now in
      let j = stores g.F.Files g.D.SwapDev c.start-started.new.files c.start-started.new.swap in
      let full : c.in-Err.stop ≡ stops.JournalFull = w.in-JournalFull.is in
      let kept : KeptAtStop c.self.inside.machine c.start-started.new.m c.in-Err.stop = c.in-Err.ensures.kept in
      let files : IsTold A c.self.inside.machine c.args.first.now holds image =
      subst (λ (f : Filming). IsTold A f.machine c.args.first.now holds image) (sym c.self.view_is) (told_of A now c.args.first.now c.args.lines.now holds image asked) in
      stopped A now new c.args.first.now c.args.lines.now holds image j asked c.requires.few c.requires.unbegun
      (kept.sizes.params ∙ ap (λ (f : Filming). f.machine.params) c.self.view_is) (kept.sizes.images ∙ ap (λ (f : Filming). f.machine.images) c.self.view_is) c.always.ensures.within
      (ap (λ (f : Filming). f.lines) c.self.view_is) (ap (λ (f : Filming). f.mark) c.self.view_is) (ap (λ (f : Filming). f.counted) c.self.view_is)
      (subst (λ (stop : Stop). StartStops A c.start-started.new.m image stop j) full (c.in-Err.ensures.stops A image files told))
      (ap (λ (f : Filming). f.over) c.self.view_is ∙ c.requires.unbegun.over) c.always.ensures.running
  | in_default w ↦ let e : Err c.in-Err.stop ≡ Ok starteds.Ok = sym w.result-is ∙ done in absurd cc
]

-- The run stops for another cause.

pub returns-after-stop-clause-stops : goal.returns-after-stop-clause-stops
returns-after-stop-clause-stops g c = λ A image files told.
    let holds = g.F.Files.holds c.args.files.now in
    let i = stores g.F.Files g.D.SwapDev c.args.files.now c.args.swap.now in
    let j = stores g.F.Files g.D.SwapDev c.start-started.new.files c.start-started.new.swap in
    let inside : IsTold A c.self.inside.machine c.args.first.now holds image = subst (λ (f : Filming). IsTold A f.machine c.args.first.now holds image) (sym c.self.view_is) files in
    let why : StopsStartingRun A c.start-started.new.m image c.in-Err.stop j =
    stops_starting (Err c.in-Err.stop) c.self.inside.machine c.start-started.new.m c.args.first.now holds i j c.requires.few c.in-Err.ensures.stops A image inside told in
    elim c.match-stop.branch [
      | in-JournalFull w ↦ subst (λ (r : Result Started Stop). IfErr r (λ stop. StopsStartingRun A c.start-started.new.m image stop j)) (sym w.result-is) tt
      | in_default w ↦ subst (λ (r : Result Started Stop). IfErr r (λ stop. StopsStartingRun A c.start-started.new.m image stop j)) (sym w.result-is) why
    ]
