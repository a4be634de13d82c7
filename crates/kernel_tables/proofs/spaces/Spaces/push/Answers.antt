use Rattle.std.proofs.Common.{List, sym, subst}
use Rattle.space_map.specs.Space.{Places}
use Rattle.kernel_tables.specs.Rising.{sids_of, AreRising}
use Rattle.kernel_tables.proofs.AddedNumbers.{spaces_rise, few_spaces}
use Rattle.kernel_tables.proofs.spaces.Spaces.push.Goals as goal

pub invariant_of-self-2 : goal.invariant_of-self-2
invariant_of-self-2 c =
    let is = c.in_ok-push.ensures.items in
    subst (λ (ss : List Places). AreRising (sids_of ss)) (sym is)
    (spaces_rise c.self.inside.maps.items c.args.space c.self.invariant
    (subst (λ (ss : List Places). Rattle.flat_state.specs.Numbers.AllBelow c.args.space.sid (sids_of ss)) (sym c.self.view_is) c.requires.above))

pub returns-clause-few : goal.returns-clause-few
returns-clause-few c =
    few_spaces c.args.self.now c.args.space.sid (subst (λ (ss : List Places). AreRising (sids_of ss)) c.self.view_is c.self.invariant) c.requires.above
