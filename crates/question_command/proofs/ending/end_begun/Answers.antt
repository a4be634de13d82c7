use Rattle.io_edge.specs.WithFiles.{stores}
use Rattle.question_command.proofs.ending.end_begun.Goals as goal

pub returns-in-Ok : goal.returns-in-Ok
returns-in-Ok g c = λ A image are begun.
    c.end_of.ensures A (g.F.Files.holds c.go_to_end.new.files) (stores g.F.Files g.D.SwapDev c.go_to_end.new.files c.go_to_end.new.swap) are (c.in-Ok.ensures.there A image are begun)
