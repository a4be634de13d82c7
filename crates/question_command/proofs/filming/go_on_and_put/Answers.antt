use Rattle.std.proofs.Common.{ap}
use Rattle.vm_facts.specs.declared.params.Params.{Params}
use Rattle.io_edge.specs.WithFiles.{stores}
use Rattle.machine_state.proofs.Backing.{backed_by}
use Rattle.question_command.proofs.Steps.{filming_on, filmed_on, longer_by_one}
use Rattle.reference_commands.proofs.Runs.{on_ok_always, on_ok_so}
use Rattle.question_command.proofs.filming.go_on_and_put.Goals as goal

pub put_step_if-requires-clause-running : goal.put_step_if-requires-clause-running
put_step_if-requires-clause-running g c =
    let was = c.requires.filming in
    (c.in-Ok.ensures.goes was.inputs was.state was.image was.are was.at).at.ready.running

pub returns-in-Ok-clause-filming : goal.returns-in-Ok-clause-filming
returns-in-Ok-clause-filming g c =
    on_ok_always c.put_step_if.result _
    (filming_on c.args.film.now c.go_on.new.self c.args.lines.now (g.F.Files.holds c.args.files.now) (g.F.Files.holds c.go_on.new.files) (stores g.F.Files g.D.SwapDev c.args.files.now c.args.swap.now)
    (stores g.F.Files g.D.SwapDev c.go_on.new.files c.go_on.new.swap)
    c.go_on.ensures.outside.files.holds c.requires.filming c.in-Ok.ensures.goes)

pub returns-in-Ok-clause-goes : goal.returns-in-Ok-clause-goes
returns-in-Ok-clause-goes g c =
    on_ok_so c.put_step_if.result _ _
    (λ put A are filmed. filmed_on A c.args.steps c.args.film.now c.go_on.new.self c.args.lines.now (g.F.Files.holds c.args.files.now) (g.F.Files.holds c.go_on.new.files)
    (stores g.F.Files g.D.SwapDev c.args.files.now c.args.swap.now)
    (stores g.F.Files g.D.SwapDev c.go_on.new.files c.go_on.new.swap) c.args.text.now.items c.put_step_if.new.text.items c.go_on.ensures.outside.files.holds are c.in-Ok.ensures.goes filmed put)
    c.put_step_if.ensures

pub returns-in-Ok-clause-longer : goal.returns-in-Ok-clause-longer
returns-in-Ok-clause-longer g c =
    on_ok_always c.put_step_if.result _
    (longer_by_one c.args.film.now c.go_on.new.self c.args.lines.now (g.F.Files.holds c.args.files.now) (stores g.F.Files g.D.SwapDev c.args.files.now c.args.swap.now)
    (stores g.F.Files g.D.SwapDev c.go_on.new.files c.go_on.new.swap) c.requires.filming c.in-Ok.ensures.goes)

pub returns-in-Ok-clause-backed : goal.returns-in-Ok-clause-backed
returns-in-Ok-clause-backed g c =
    on_ok_always c.put_step_if.result _
    (backed_by c.args.film.now.machine c.go_on.new.self.machine (g.F.Files.holds c.args.files.now) _ _ _
    (ap (λ (p : Params). p.swap_blocks) c.in-Ok.ensures.params) c.in-Ok.ensures.images
    c.go_on.ensures.outside.files.holds c.go_on.ensures.outside.swap.blocks c.requires.backed)
