use Rattle.std.proofs.Common.{arith, ◌+◌}
use Rattle.aout_image.proofs.Images.{fills_page}
use Rattle.aout_image.proofs.Image.file_span.Goals as goal

pub returns-clause-fills : goal.returns-clause-fills
returns-clause-fills c =
    fills_page c.args.self.now c.args.text c.args.v (c.offset.result + c.min-before.result) c.min.result c.requires.has_page
    (grind (arith, c.from.ensures, c.min-before.ensures)) (grind (arith, c.from.ensures, c.min-before.ensures, c.min.ensures))
