use Rattle.std.proofs.Common.{subst}
use Rattle.page_model.specs.Conditions.{IsShared}
use Rattle.move_judge.proofs.Homes.{no_sharer}
use Rattle.move_judge.proofs.filling.home_of.Goals as goal

pub unreachable-requires : goal.unreachable-requires
unreachable-requires c =
    let p = c.args.m.now.kernel.place in
    let spaces = c.requires.running.numbered.spaces_differ in
    no_sharer p c.in-Text.image c.in-Text.v spaces (subst (IsShared p) c.in-Text.is c.requires.shared) c.in-None.ensures
