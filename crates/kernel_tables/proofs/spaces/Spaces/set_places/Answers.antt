use Rattle.std.proofs.Common.{◌≡◌, ◌∙◌, List, map, set, sym, ap, subst}
use Rattle.space_map.specs.Space.{Places}
use Rattle.kernel_tables.specs.Rising.{sids_of, AreRising, StandsAt}
use Rattle.kernel_tables.specs.Shown.{placed}
use Rattle.kernel_tables.proofs.Rising.{placed_sids, of_space, here_places, absent_places}
use Rattle.kernel_tables.proofs.spaces.Spaces.set_places.Goals as goal

pub invariant_of-self : goal.invariant_of-self
invariant_of-self c =
    subst (λ (ss : List Places). AreRising (sids_of ss)) (sym c.set_each.ensures)
    (subst AreRising (sym (placed_sids c.self.inside.maps.items c.args.page c.args.place)) c.self.invariant)

pub invariant_of-self-in-Some-index_of : goal.invariant_of-self-in-Some-index_of
invariant_of-self-in-Some-index_of c =
    let maps : List Places = c.self.inside.maps.items in
    let at = subst (λ (ss : List Places). StandsAt ss c.in-Some.sid c.in-Some-index_of.index) (sym c.self.view_is) c.in-Some-index_of.ensures.found in
    let here =
    here_places c.args.page c.in-Some.sid (of_space c.args.page c.in-Some.sid (sym c.in-Some.ensures)) maps c.in-Some-index_of.index c.index_mut.result.now c.args.place c.self.invariant at.number in
    let placed_all : set maps c.in-Some-index_of.index c.set_place.new.space ≡ map (placed c.args.page c.args.place) maps =
    ap (set maps c.in-Some-index_of.index) (c.set_place.ensures ∙ ap (placed c.args.page c.args.place) c.index_mut.ensures.value) ∙ here in
    subst (λ (ss : List Places). AreRising (sids_of ss)) (sym placed_all) (subst AreRising (sym (placed_sids maps c.args.page c.args.place)) c.self.invariant)

pub returns-in-Some-index_of : goal.returns-in-Some-index_of
returns-in-Some-index_of c =
    let maps : List Places = c.self.inside.maps.items in
    let at = subst (λ (ss : List Places). StandsAt ss c.in-Some.sid c.in-Some-index_of.index) (sym c.self.view_is) c.in-Some-index_of.ensures.found in
    let here =
    here_places c.args.page c.in-Some.sid (of_space c.args.page c.in-Some.sid (sym c.in-Some.ensures)) maps c.in-Some-index_of.index c.index_mut.result.now c.args.place c.self.invariant at.number in
    let placed_all : set maps c.in-Some-index_of.index c.set_place.new.space ≡ map (placed c.args.page c.args.place) maps =
    ap (set maps c.in-Some-index_of.index) (c.set_place.ensures ∙ ap (placed c.args.page c.args.place) c.index_mut.ensures.value) ∙ here in
    placed_all ∙ ap (map (placed c.args.page c.args.place)) c.self.view_is

pub returns-in_default : goal.returns-in_default
returns-in_default c =
    sym (absent_places c.args.page c.in-Some.sid (of_space c.args.page c.in-Some.sid (sym c.in-Some.ensures)) c.args.self.now c.args.place c.in_default.ensures.absent)
