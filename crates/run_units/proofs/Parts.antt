-- A part of next units is next units itself.
use Rattle.std.proofs.Common.{List, [], ◌∷◌, ◌++◌, refl, sym, subst}
use Rattle.vm_facts.specs.declared.entry.Entry.{Entry}
use Rattle.flat_state.specs.Flat.{Inputs}
use Rattle.run_model.specs.State.{State}
use Rattle.run_model.specs.After.{after, state_after}
use Rattle.run_model.specs.Lawful.{Follows}
use Rattle.economy_laws.proofs.Lawful.{follows_state}
use Rattle.run_units.specs.Economy.{IsPart}

-- the first of them, and those after
pub both_follow : (A : Inputs) (us vs : List Entry) (s t : State) → Follows A s (us ++ vs) t
    → Follows A s us (state_after A s us) × Follows A (state_after A s us) vs t
unfolding state_after
both_follow A [] vs s t f = (refl, f)
both_follow A (u ∷ us) vs s t f = let more = both_follow A us vs (after A s u) t f.1 in ((f.0, more.0), more.1)

-- a part, and the units before it
pub record PartFollows (A : Inputs) (s at : State) (part : List Entry) : Type 0 where
  pub before : List Entry
  pub first : Follows A s before at
  pub then : Follows A at part (state_after A at part)

pub part_follows : (A : Inputs) (s t at : State) (us part : List Entry) → Follows A s us t → IsPart A s us at part → PartFollows A s at part
part_follows A s t at us part f p =
    let both = both_follow A (p.before ++ part) p.behind s t (subst (λ (xs : List Entry). Follows A s xs t) p.whole f) in
    let parts = both_follow A p.before part s (state_after A s (p.before ++ part)) both.0 in
    subst (λ (x : State). PartFollows A s x part) (sym p.state) (record {
      before = p.before;
      first = parts.0;
      then = subst (Follows A (state_after A s p.before) part) (sym (follows_state A part (state_after A s p.before) (state_after A s (p.before ++ part)) parts.1)) parts.1;
    })
