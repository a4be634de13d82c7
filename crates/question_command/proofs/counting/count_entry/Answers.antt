use Rattle.std.proofs.Common.{ap}
use Rattle.vm_facts.specs.declared.params.Params.{Params}
use Rattle.io_edge.specs.WithFiles.{stores}
use Rattle.machine_state.proofs.Backing.{backed_by}
use Rattle.question_command.proofs.Steps.{filming_on, longer_by_one}
use Rattle.question_command.proofs.Noting.{counted_more}
use Rattle.reference_commands.proofs.Runs.{on_ok_always, on_ok_so}
use Rattle.question_command.proofs.counting.count_entry.Goals as goal

pub look_at_film-before-requires : goal.look_at_film-before-requires
look_at_film-before-requires g c = record { running = c.requires.filming.at.ready.running }

pub note_last-requires : goal.note_last-requires
note_last-requires g c =
    let was = c.requires.filming in
    record { running = (c.in-Ok.ensures.goes was.inputs was.state was.image was.are was.at).at.ready.running }

pub returns-in-Ok-clause-filming : goal.returns-in-Ok-clause-filming
returns-in-Ok-clause-filming g c =
    on_ok_always c.note_last.result _
    (filming_on c.args.film.now c.go_on.new.self c.args.lines.now (g.F.Files.holds c.args.files.now) (g.F.Files.holds c.go_on.new.files) (stores g.F.Files g.D.SwapDev c.args.files.now c.args.swap.now)
    (stores g.F.Files g.D.SwapDev c.go_on.new.files c.go_on.new.swap)
    c.go_on.ensures.outside.files.holds c.requires.filming c.in-Ok.ensures.goes)

pub returns-in-Ok-clause-counts : goal.returns-in-Ok-clause-counts
returns-in-Ok-clause-counts g c =
    on_ok_so c.note_last.result _ _
    (λ put A first are counted. counted_more A c.args.film.now c.go_on.new.self c.args.lines.now (g.F.Files.holds c.args.files.now) (g.F.Files.holds c.go_on.new.files)
    (stores g.F.Files g.D.SwapDev c.args.files.now c.args.swap.now)
    (stores g.F.Files g.D.SwapDev c.go_on.new.files c.go_on.new.swap) first c.look_at_film-before.result c.args.notes.now.items c.note_last.new.notes.items
    c.go_on.ensures.outside.files.holds are c.in-Ok.ensures.goes
    c.look_at_film-before.ensures put counted)
    c.note_last.ensures

pub returns-in-Ok-clause-longer : goal.returns-in-Ok-clause-longer
returns-in-Ok-clause-longer g c =
    on_ok_always c.note_last.result _
    (longer_by_one c.args.film.now c.go_on.new.self c.args.lines.now (g.F.Files.holds c.args.files.now) (stores g.F.Files g.D.SwapDev c.args.files.now c.args.swap.now)
    (stores g.F.Files g.D.SwapDev c.go_on.new.files c.go_on.new.swap) c.requires.filming c.in-Ok.ensures.goes)

pub returns-in-Ok-clause-backed : goal.returns-in-Ok-clause-backed
returns-in-Ok-clause-backed g c =
    on_ok_always c.note_last.result _
    (backed_by c.args.film.now.machine c.go_on.new.self.machine (g.F.Files.holds c.args.files.now) _ _ _
    (ap (λ (p : Params). p.swap_blocks) c.in-Ok.ensures.params) c.in-Ok.ensures.images
    c.go_on.ensures.outside.files.holds c.go_on.ensures.outside.swap.blocks c.requires.backed)
