use Rattle.std.proofs.Common.{ap}
use Rattle.vm_facts.specs.declared.params.Params.{Params}
use Rattle.io_edge.specs.WithFiles.{stores}
use Rattle.machine_state.proofs.Backing.{backed_by}
use Rattle.question_command.proofs.Steps.{filming_on, state_on, longer_by_one}
use Rattle.question_command.proofs.ending.go_on_once.Goals as goal

pub returns-in-Ok-clause-filming : goal.returns-in-Ok-clause-filming
returns-in-Ok-clause-filming g c =
    filming_on c.args.film.now c.go_on.new.self c.args.lines.now (g.F.Files.holds c.args.files.now) (g.F.Files.holds c.go_on.new.files) (stores g.F.Files g.D.SwapDev c.args.files.now c.args.swap.now)
    (stores g.F.Files g.D.SwapDev c.go_on.new.files c.go_on.new.swap)
    c.go_on.ensures.outside.files.holds c.requires.filming c.in-Ok.ensures.goes

pub returns-in-Ok-clause-goes : goal.returns-in-Ok-clause-goes
returns-in-Ok-clause-goes g c = λ A are was.
    state_on A c.args.film.now c.go_on.new.self c.args.lines.now (g.F.Files.holds c.args.files.now) (g.F.Files.holds c.go_on.new.files)
    (stores g.F.Files g.D.SwapDev c.args.files.now c.args.swap.now) (stores g.F.Files g.D.SwapDev c.go_on.new.files c.go_on.new.swap) c.go_on.ensures.outside.files.holds are c.in-Ok.ensures.goes was

pub returns-in-Ok-clause-longer : goal.returns-in-Ok-clause-longer
returns-in-Ok-clause-longer g c =
    longer_by_one c.args.film.now c.go_on.new.self c.args.lines.now (g.F.Files.holds c.args.files.now) (stores g.F.Files g.D.SwapDev c.args.files.now c.args.swap.now)
    (stores g.F.Files g.D.SwapDev c.go_on.new.files c.go_on.new.swap) c.requires.filming c.in-Ok.ensures.goes

pub returns-in-Ok-clause-backed : goal.returns-in-Ok-clause-backed
returns-in-Ok-clause-backed g c =
    backed_by c.args.film.now.machine c.go_on.new.self.machine (g.F.Files.holds c.args.files.now) _ _ _
    (ap (λ (p : Params). p.swap_blocks) c.in-Ok.ensures.params) c.in-Ok.ensures.images
    c.go_on.ensures.outside.files.holds c.go_on.ensures.outside.swap.blocks c.requires.backed
