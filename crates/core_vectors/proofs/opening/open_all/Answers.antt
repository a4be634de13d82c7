use Rattle.core_vectors.proofs.Images.{one_more}
use Rattle.core_vectors.proofs.opening.open_all.Goals as goal

pub loop-name-preserved : goal.loop-name-preserved
loop-name-preserved g c =
    one_more c.loop-name.images.items c.push.new.self.items c.in_ok-image.image (g.F.Files.holds c.loop-name.files) (g.F.Files.holds c.open.new.files)
    c.in-Ok.ensures.items c.open.ensures.holds c.loop-name.invariant c.in_ok-image.ensures.fit
