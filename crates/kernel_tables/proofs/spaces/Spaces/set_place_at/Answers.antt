use Rattle.std.proofs.Common.{◌≡◌, ◌∙◌, List, map, set, sym, ap, subst}
use Rattle.space_map.specs.Space.{Places}
use Rattle.kernel_tables.specs.Rising.{sids_of, AreRising, StandsAt}
use Rattle.kernel_tables.specs.Shown.{placed}
use Rattle.kernel_tables.proofs.Rising.{placed_sids, of_space, here_places}
use Rattle.kernel_tables.proofs.spaces.Spaces.set_place_at.Goals as goal

pub invariant_of-self : goal.invariant_of-self
invariant_of-self c =
    let maps : List Places = c.self.inside.maps.items in
    let at = subst (λ (ss : List Places). StandsAt ss c.requires.named.sid c.args.index) (sym c.self.view_is) c.requires.named.stands in
    let placed_all : set maps c.args.index c.set_place.new.space ≡ map (placed c.args.page c.args.place) maps =
    ap (set maps c.args.index) (c.set_place.ensures ∙ ap (placed c.args.page c.args.place) c.index_mut.ensures.value)
    ∙ here_places c.args.page c.requires.named.sid (of_space c.args.page c.requires.named.sid c.requires.named.named) maps c.args.index c.index_mut.result.now c.args.place
    c.self.invariant at.number in
    subst (λ (ss : List Places). AreRising (sids_of ss)) (sym placed_all) (subst AreRising (sym (placed_sids maps c.args.page c.args.place)) c.self.invariant)

pub returns : goal.returns
returns c =
    let maps : List Places = c.self.inside.maps.items in
    let at = subst (λ (ss : List Places). StandsAt ss c.requires.named.sid c.args.index) (sym c.self.view_is) c.requires.named.stands in
    ap (set maps c.args.index) (c.set_place.ensures ∙ ap (placed c.args.page c.args.place) c.index_mut.ensures.value)
    ∙ here_places c.args.page c.requires.named.sid (of_space c.args.page c.requires.named.sid c.requires.named.named) maps c.args.index c.index_mut.result.now c.args.place c.self.invariant at.number
    ∙ ap (map (placed c.args.page c.args.place)) c.self.view_is
