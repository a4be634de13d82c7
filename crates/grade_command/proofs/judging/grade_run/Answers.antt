use Rattle.io_edge.specs.WithFiles.{stores}
use Rattle.std.proofs.Common.{rules, ◌≡◌, Ok, arith}
use Rattle.machine_state.proofs.Backing.{backed_on}
use Rattle.film_core.specs.Started.TheVariants as starteds
use Rattle.film_core.proofs.Ending.{are_among}
use Rattle.question_command.proofs.Steps.{begun_over, filming_begun, none_so_far}
use Rattle.grade_command.proofs.judging.grade_run.Goals as goal

pub start-requires-clause-numbers : goal.start-requires-clause-numbers
start-requires-clause-numbers g c = are_among c.args.film.now.machine.images c.args.first.now c.requires.numbers

pub grade_begun-requires-clause-filming : goal.grade_begun-requires-clause-filming
grade_begun-requires-clause-filming g c =
    let begun : c.start.result ≡ Ok starteds.Ok = search rules in
    filming_begun c.args.film.now c.start.new.self c.args.first.now c.args.lines.now (g.F.Files.holds c.args.files.now) (g.F.Files.holds c.start.new.files)
    (stores g.F.Files g.D.SwapDev c.args.files.now c.args.swap.now)
    (stores g.F.Files g.D.SwapDev c.start.new.files c.start.new.swap)
    c.start.ensures.outside.files.holds c.requires.frames c.requires.inputs (c.start.ensures.begins begun)

pub grade_begun-requires-clause-first : goal.grade_begun-requires-clause-first
grade_begun-requires-clause-first g c =
    let begun : c.start.result ≡ Ok starteds.Ok = search rules in
    none_so_far c.args.film.now c.start.new.self c.args.first.now c.args.lines.now (g.F.Files.holds c.args.files.now)
    (stores g.F.Files g.D.SwapDev c.args.files.now c.args.swap.now) (stores g.F.Files g.D.SwapDev c.start.new.files c.start.new.swap)
    c.requires.inputs (c.start.ensures.begins begun)

pub grade_begun-requires-clause-backed : goal.grade_begun-requires-clause-backed
grade_begun-requires-clause-backed g c =
    let begun : c.start.result ≡ Ok starteds.Ok = search rules in
    backed_on c.args.film.now.machine c.start.new.self.machine (g.F.Files.holds c.args.files.now) _ _ _ (c.start.ensures.params begun) (c.start.ensures.images begun)
    c.start.ensures.outside.files.holds c.start.ensures.outside.swap.blocks (record { area = c.requires.area; files = c.requires.files })

pub returns-in-Ok-Ok : goal.returns-in-Ok-Ok
returns-in-Ok-Ok g c = λ A image asked told.
    let begun : c.start.result ≡ Ok starteds.Ok = search rules in
    c.grade_begun.ensures A image (let many = asked.frames in let least = c.requires.frames in omega (arith, many, least)) asked.lines_are
    (begun_over A c.start.new.self (g.F.Files.holds c.args.files.now) (g.F.Files.holds c.start.new.files)
    (stores g.F.Files g.D.SwapDev c.start.new.files c.start.new.swap) image c.start.ensures.outside.files.holds
    (c.start.ensures.begins begun A image asked told))

pub returns-in-Ok-NoSpace : goal.returns-in-Ok-NoSpace
returns-in-Ok-NoSpace g c = λ A image asked told.
    let none : c.start.result ≡ Ok (starteds.NoSpace c.in-Ok-NoSpace.pid) = search rules in
    c.start.ensures.space A c.in-Ok-NoSpace.pid (record { named = asked.named; first = asked.first; frames = asked.frames; blocks = asked.blocks }) none
