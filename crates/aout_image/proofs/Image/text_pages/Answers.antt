use Rattle.std.proofs.Common.{true, sym, subst}
use Rattle.aout_image.specs.Image.{HasPages}
use Rattle.aout_image.proofs.Images.{has_pages}
use Rattle.aout_image.proofs.Image.text_pages.Goals as goal

pub returns-clause-segment : goal.returns-clause-segment
returns-clause-segment c = subst (HasPages c.args.self.now true) (sym c.text_page_count.ensures.value) (has_pages c.args.self.now true)
