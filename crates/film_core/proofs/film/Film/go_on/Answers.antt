use Rattle.io_edge.specs.WithFiles.{stores}
use Rattle.std.proofs.Common.{◌≡◌, false, sym, ap, ◌∙◌, subst}
use Rattle.vm_facts.specs.declared.stop.Stop.TheVariants as stops
use Rattle.machine_state.specs.Machine.{Standing}
use Rattle.vm_core.proofs.Noting.{stops_on}
use Rattle.vm_core.specs.Stepped.{StopsFrom}
use Rattle.film_core.specs.Films.{Filming, IsFilming, FilmGoes, one_wider, FilmsAt}
use Rattle.film_core.proofs.Entered.{starved_film, film_stops, film_fits, film_goes, film_machine}
use Rattle.film_core.proofs.film.Film.go_on.Goals as goal

pub returns-then-not-has_few_moves-clause-stops : goal.returns-then-not-has_few_moves-clause-stops
returns-then-not-has_few_moves-clause-stops g c = starved_film c.args.self.now c.args.lines.now (g.F.Files.holds c.args.files.now) (stores g.F.Files g.D.SwapDev c.args.files.now c.args.swap.now)

pub returns-in_err-self-inside-clause-stops : goal.returns-in_err-self-inside-clause-stops
returns-in_err-self-inside-clause-stops g c =
    let f : Filming = record { machine = c.self.inside.machine; lines = c.self.inside.lines; mark = c.self.inside.mark; counted = c.self.inside.counted; over = c.self.inside.over } in
    let new : Filming = record { machine = c.one_entry.new.m; lines = c.self.inside.lines; mark = c.self.inside.mark; counted = c.self.inside.counted; over = c.self.inside.over } in
    let holds = g.F.Files.holds c.args.files.now in
    let i = stores g.F.Files g.D.SwapDev c.args.files.now c.args.swap.now in
    let j = stores g.F.Files g.D.SwapDev c.one_entry.new.files c.one_entry.new.swap in
    let stop = c.in_err-self-inside.field-0.0 in
    let on : f.over ≡ false = ap (λ (x : Filming). x.over) c.self.view_is ∙ c.requires.more in
    stops_on c.from_residual.result stop
    (λ s. (s ≡ stops.JournalFull → ⊥) × StopsFrom (FilmsAt c.args.self.now c.args.lines.now holds i) c.args.self.now.machine new.machine j s)
    c.from_residual.ensures.1
    (subst (λ (x : Filming). (stop ≡ stops.JournalFull → ⊥) × StopsFrom (FilmsAt x c.args.lines.now holds i) x.machine new.machine j stop)
    c.self.view_is
    (film_stops f new c.args.lines.now holds i j stop on c.in_err-self-inside.ensures.stops))

pub catch_up-requires-clause-few : goal.catch_up-requires-clause-few
catch_up-requires-clause-few g c =
    let f : Filming = record { machine = c.self.inside.machine; lines = c.self.inside.lines; mark = c.self.inside.mark; counted = c.self.inside.counted; over = c.self.inside.over } in
    let holds = g.F.Files.holds c.args.files.now in
    let i = stores g.F.Files g.D.SwapDev c.args.files.now c.args.swap.now in
    let j = stores g.F.Files g.D.SwapDev c.one_entry.new.files c.one_entry.new.swap in
    let on : f.over ≡ false = ap (λ (x : Filming). x.over) c.self.view_is ∙ c.requires.more in
    film_fits f c.one_entry.new.m c.in_ok-self-inside.field-0 c.args.lines.now holds i j on (subst (λ (x : Filming). IsFilming x c.args.lines.now holds i) (sym c.self.view_is) c.requires.filming)
    c.in_ok-self-inside.ensures.made

pub returns-clause-goes : goal.returns-clause-goes
returns-clause-goes g c =
    let f : Filming = record { machine = c.self.inside.machine; lines = c.self.inside.lines; mark = c.self.inside.mark; counted = c.self.inside.counted; over = c.self.inside.over } in
    let holds = g.F.Files.holds c.args.files.now in
    let i = stores g.F.Files g.D.SwapDev c.args.files.now c.args.swap.now in
    let j = stores g.F.Files g.D.SwapDev c.one_entry.new.files c.one_entry.new.swap in
    let on : f.over ≡ false = ap (λ (x : Filming). x.over) c.self.view_is ∙ c.requires.more in
    subst (λ (x : Filming). FilmGoes x c.catch_up.new.self c.args.lines.now holds i j) c.self.view_is
    (film_goes f c.catch_up.new.self c.one_entry.new.m c.in_ok-self-inside.field-0 c.args.lines.now holds i j on c.requires.moves c.in_ok-self-inside.ensures.goes_on
    c.in_ok-self-inside.ensures.made c.catch_up.ensures)

pub returns-clause-params : goal.returns-clause-params
returns-clause-params g c =
    let f : Filming = record { machine = c.self.inside.machine; lines = c.self.inside.lines; mark = c.self.inside.mark; counted = c.self.inside.counted; over = c.self.inside.over } in
    let holds = g.F.Files.holds c.args.files.now in
    let i = stores g.F.Files g.D.SwapDev c.args.files.now c.args.swap.now in
    let j = stores g.F.Files g.D.SwapDev c.one_entry.new.files c.one_entry.new.swap in
    let on : f.over ≡ false = ap (λ (x : Filming). x.over) c.self.view_is ∙ c.requires.more in
    ap (λ (m : Standing). m.params) (film_machine f c.catch_up.new.self c.one_entry.new.m c.in_ok-self-inside.field-0 c.args.lines.now holds i j on
    (subst (λ (x : Filming). IsFilming x c.args.lines.now holds i) (sym c.self.view_is) c.requires.filming) c.in_ok-self-inside.ensures.made c.catch_up.ensures)
    ∙ c.in_ok-self-inside.ensures.params ∙ ap (λ (x : Filming). one_wider x.machine.params) c.self.view_is

pub returns-clause-images : goal.returns-clause-images
returns-clause-images g c =
    let f : Filming = record { machine = c.self.inside.machine; lines = c.self.inside.lines; mark = c.self.inside.mark; counted = c.self.inside.counted; over = c.self.inside.over } in
    let holds = g.F.Files.holds c.args.files.now in
    let i = stores g.F.Files g.D.SwapDev c.args.files.now c.args.swap.now in
    let j = stores g.F.Files g.D.SwapDev c.one_entry.new.files c.one_entry.new.swap in
    let on : f.over ≡ false = ap (λ (x : Filming). x.over) c.self.view_is ∙ c.requires.more in
    ap (λ (m : Standing). m.images) (film_machine f c.catch_up.new.self c.one_entry.new.m c.in_ok-self-inside.field-0 c.args.lines.now holds i j on
    (subst (λ (x : Filming). IsFilming x c.args.lines.now holds i) (sym c.self.view_is) c.requires.filming) c.in_ok-self-inside.ensures.made c.catch_up.ensures)
    ∙ c.in_ok-self-inside.ensures.images ∙ ap (λ (x : Filming). x.machine.images) c.self.view_is
