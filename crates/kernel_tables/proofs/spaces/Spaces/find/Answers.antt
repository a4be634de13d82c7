use Rattle.std.proofs.Common.{Some, List, refl, sym, ap, ◌∙◌, subst}
use Rattle.space_map.specs.Space.{Places}
use Rattle.page_model.specs.Pages.{numbered}
use Rattle.kernel_tables.specs.Rising.{StandsAt}
use Rattle.kernel_tables.proofs.Rising.{found_none, found_here}
use Rattle.kernel_tables.proofs.spaces.Spaces.find.Goals as goal

pub returns-in_err-index : goal.returns-in_err-index
returns-in_err-index c = rw (c.from_residual.ensures, found_none _ _ c.in_err-index.ensures.absent) refl

pub returns : goal.returns
returns c =
    let at = subst (λ (ss : List Places). StandsAt ss c.args.sid c.in_ok-index.index) (sym c.self.view_is) c.in_ok-index.ensures.found in
    ap (λ (s : Places). Some s) c.index.ensures
    ∙ sym (found_here c.self.inside.maps.items c.args.sid c.in_ok-index.index c.index.result.now c.self.invariant at.number)
    ∙ ap (λ (ss : List Places). numbered (λ (s : Places). s.sid) c.args.sid ss) c.self.view_is
