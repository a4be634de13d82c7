use Rattle.std.proofs.Common.{◌≡◌, List, IfSome, IfNone, sym, ◌∙◌, subst}
use Rattle.space_map.specs.Space.{Places}
use Rattle.flat_state.specs.Numbers.{IsAbsent}
use Rattle.kernel_tables.specs.Rising.{sids_of, AreRising, StandsAt}
use Rattle.kernel_tables.proofs.spaces.Spaces.index_of.Goals as goal

pub index_among-requires : goal.index_among-requires
index_among-requires c = subst (λ (ss : List Places). AreRising (sids_of ss)) (sym c.as_slice-maps.ensures.value) c.self.invariant

pub returns-then-stands_there : goal.returns-then-stands_there
returns-then-stands_there c =
    let same : c.as_slice-maps.result.now ≡ c.args.self.now = c.as_slice-maps.ensures.value ∙ c.self.view_is in
    record {
      found = subst (λ (ss : List Places). StandsAt ss c.args.sid c.likely_index-likely.result) same (c.stands_there.ensures c.if-stands_there.true);
      absent = tt;
    }

pub returns : goal.returns
returns c =
    let same : c.as_slice-maps.result.now ≡ c.args.self.now = c.as_slice-maps.ensures.value ∙ c.self.view_is in
    record {
      found = subst (λ (ss : List Places). IfSome c.index_among.result (StandsAt ss c.args.sid)) same c.index_among.ensures.found;
      absent = subst (λ (ss : List Places). IfNone c.index_among.result (IsAbsent c.args.sid (sids_of ss))) same c.index_among.ensures.absent;
    }
