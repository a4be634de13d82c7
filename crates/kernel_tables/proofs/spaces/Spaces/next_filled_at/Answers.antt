use Rattle.std.proofs.Common.{◌≡◌, List, get_or, slice_get, sym, ap, ◌∙◌, subst}
use Rattle.flat_state.specs.PageNames.{beside}
use Rattle.vax_pte.specs.Words.{was_filled}
use Rattle.space_map.specs.Space.{Places, segment_in}
use Rattle.space_map.proofs.NextPlace.{next_alike}
use Rattle.kernel_tables.specs.Rising.{sids_of, AreRising}
use Rattle.kernel_tables.specs.Shown.{entry_in}
use Rattle.kernel_tables.proofs.HomePages.{home_entry}
use Rattle.kernel_tables.proofs.spaces.Spaces.next_filled_at.Goals as goal

pub returns : goal.returns
returns c =
    let ss : List Places = c.args.self.now in
    let s : Places = c.index.result.now in
    let rising : AreRising (sids_of ss) = subst (λ (xs : List Places). AreRising (sids_of xs)) c.self.view_is c.self.invariant in
    let here : get_or ss c.args.index s ≡ s = ap (λ (xs : List Places). get_or xs c.args.index s) (sym c.self.view_is) ∙ sym c.index.ensures in
    next_alike was_filled (slice_get (segment_in s c.args.page)) (λ v. entry_in ss (beside c.args.page v)) c.args.from c.args.to c.next_filled.result
    (λ v. home_entry ss c.args.index c.args.page s rising c.requires v ∙ ap (λ (x : Places). slice_get (segment_in x c.args.page) v) here)
    c.next_filled.ensures
