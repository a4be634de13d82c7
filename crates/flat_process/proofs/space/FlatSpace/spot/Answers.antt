use Rattle.std.proofs.Common.{◌≡◌, subst, sym, rules}
use Rattle.flat_state.specs.Space.{address_in}
use Rattle.flat_state.proofs.SpaceLaws.{IsPaged, spot_within}
use Rattle.flat_process.proofs.space.FlatSpace.spot.Goals as goal

pub returns-clause-within : goal.returns-clause-within
returns-clause-within c =
    let paged : IsPaged c.args.self.now = subst IsPaged c.self.view_is c.self.invariant.paged in
    let is : c.locate.result ≡ address_in c.args.self.now c.args.address = search rules in
    spot_within c.args.self.now c.args.address c.locate.result paged (sym is)
