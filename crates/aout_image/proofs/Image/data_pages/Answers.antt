use Rattle.std.proofs.Common.{false, sym, subst}
use Rattle.aout_image.specs.Image.{HasPages}
use Rattle.aout_image.proofs.Images.{has_pages}
use Rattle.aout_image.proofs.Image.data_pages.Goals as goal

pub returns-clause-segment : goal.returns-clause-segment
returns-clause-segment c = subst (HasPages c.args.self.now false) (sym c.data_page_count.ensures) (has_pages c.args.self.now false)
