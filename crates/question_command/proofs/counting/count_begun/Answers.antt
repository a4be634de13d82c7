use Rattle.io_edge.specs.WithFiles.{stores}
use Rattle.std.proofs.Common.{List, sym, subst}
use Rattle.run_stats.specs.declared.look.Look.{Look}
use Rattle.run_stats.specs.declared.noting.Note.{Note}
use Rattle.question_command.specs.Counted.{Counted}
use Rattle.question_command.proofs.counting.count_begun.Goals as goal

pub look_at_film-first-requires : goal.look_at_film-first-requires
look_at_film-first-requires g c = record { running = c.requires.filming.at.ready.running }

pub returns-in-Ok : goal.returns-in-Ok
returns-in-Ok g c = λ A image are many begun.
    let film = c.count_on.new.film in
    let holds = g.F.Files.holds c.count_on.new.files in
    let i = stores g.F.Files g.D.SwapDev c.count_on.new.files c.count_on.new.swap in
    c.table_of.ensures A holds i are many
    (subst (λ (xs : List Note). Counted A film holds i c.look_at_film-first.result xs) (sym c.as_slice.ensures.value)
    (subst (λ (x : Look). Counted A film holds i x c.in-Ok.notes.items) (sym c.look_at_film-first.ensures) (c.in-Ok.ensures.counted A image are begun)))
