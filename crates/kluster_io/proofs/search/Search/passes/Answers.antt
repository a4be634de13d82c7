use Rattle.std.proofs.Common.{◌≡◌, None, sym, ap, ◌∙◌}
use Rattle.space_map.specs.Space.{place_in}
use Rattle.flat_state.specs.PageNames.{beside}
use Rattle.kluster_io.proofs.Absent.{none_joins}
use Rattle.kluster_io.proofs.search.Search.passes.Goals as goal

pub returns-in-None-clause-joins : goal.returns-in-None-clause-joins
returns-in-None-clause-joins c = λ p h.
    let e : place_in c.args.self.now.space.now (beside c.args.self.now.page c.args.v) ≡ None =
    ap (place_in c.args.self.now.space.now) (sym c.beside.ensures) ∙ sym c.in-None.ensures in
    none_joins p c.args.self.now.core.now c.args.self.now.space.now c.args.self.now.kin c.args.self.now.page c.args.v h.space h.page e
