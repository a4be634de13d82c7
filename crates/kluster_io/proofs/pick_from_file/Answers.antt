use Rattle.kluster_io.proofs.Picks.{named, text_from_file}
use Rattle.kluster_io.proofs.pick_from_file.Goals as goal

pub returns-in-Text : goal.returns-in-Text
returns-in-Text c = λ p h.
    text_from_file p c.args.page c.in-Text.image c.in-Text.v c.args.spare c.min.result c.up.result c.in-Text.is c.min.ensures
    (c.up.ensures p (record { page = named c.args.space.now c.args.page c.requires.of_space; space = h; front = tt }))
