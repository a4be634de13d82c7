use Rattle.std.proofs.Common.{rules}
use Rattle.core_vectors.proofs.Starting.{may_start}
use Rattle.core_vectors.proofs.running.run_over.Goals as goal

pub run_through-requires : goal.run_through-requires
run_through-requires g c =
    let core = c.in_ok-core in
    may_start core.core c.args.images.items c.args.setup.now.params c.args.setup.now.first.items (g.F.Files.holds c.args.files.now) (g.D.SwapDev.blocks c.args.swap.now)
    core.ensures.fresh core.ensures.machine c.requires (search rules) (search rules) (search rules) (search rules)
