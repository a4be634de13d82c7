-- Journals of one run.
use Rattle.std.proofs.Common.{◌≡◌, ◌<◌, ◌≤◌, List, [], ◌∷◌, length, Some, None, sym, ◌∙◌, subst, arith}
use Rattle.std.proofs.lemmas.List.{append-nil}
use Rattle.std.proofs.lemmas.Option.{same_Some}
use Rattle.vm_facts.specs.declared.entry.Entry.{Entry}
use Rattle.flat_state.specs.Flat.{Inputs}
use Rattle.flat_state.specs.Journal.{append, appended}
use Rattle.page_model.specs.Holdings.{Holdings}
use Rattle.run_model.specs.State.{State, start}
use Rattle.run_model.specs.After.{after}
use Rattle.run_model.specs.Next.{next_unit}
use Rattle.run_model.specs.Lawful.{Follows, Reaches}
use Rattle.run_laws.proofs.LongerJournals.{Behind, goes_behind, unit_long, units_long, behind_longer}
use Rattle.owner_lines.specs.First.{HasWholeEntries, ComeFirst}

-- Two ways on from one state.

same_unit : (A : Inputs) (s : State) (u v : Entry) → next_unit A s ≡ Some u → next_unit A s ≡ Some v → u ≡ v
same_unit A s u v e f = same_Some u v (sym e ∙ f)

-- How two journals of one run stand to each other, where the first one's last entry is complete: the other goes on behind it; or it
-- is the same, at the same state; or the first goes on from the other's state by a unit, and is no shorter after it.
data Apart (A : Inputs) (journal more : List Entry) (s t : State) : Type 0 where
  behind : Behind journal more → Apart A journal more s t
  same : more ≡ journal → s ≡ t → Apart A journal more s t
  before : (u : Entry) → next_unit A t ≡ Some u → length (append more u) ≤ length journal → Apart A journal more s t

apart : (A : Inputs) (us vs : List Entry) (r s t : State) (k journal : List Entry) → Follows A r us s → Follows A r vs t → appended k us ≡ journal
    → HasWholeEntries A journal s → Apart A journal (appended k vs) s t
apart A [] [] r s t k journal f g e whole = same e (sym f ∙ g)
apart A [] (v ∷ vs) r s t k journal f g e whole =
    let next : next_unit A s ≡ Some v = subst (λ (x : State). next_unit A x ≡ Some v) f g.0 in
    let long : length k < length (append k v) = subst (λ (js : List Entry). length js < length (append js v)) (sym e) (whole v next) in
    behind (subst (λ (js : List Entry). Behind js (appended (append k v) vs)) e (goes_behind k v vs long))
apart A (u ∷ us) [] r s t k journal f g e whole =
    before u (subst (λ (x : State). next_unit A x ≡ Some u) g f.0)
    (subst (λ (js : List Entry). length (append k u) ≤ length js) e (units_long us (append k u)))
apart A (u ∷ us) (v ∷ vs) r s t k journal f g e whole =
    let one : u ≡ v = same_unit A r u v f.0 g.0 in
    let on : Follows A (after A r u) vs t = subst (λ (w : Entry). Follows A (after A r w) vs t) (sym one) g.1 in
    subst (λ (w : Entry). Apart A journal (appended (append k w) vs) s t) one (apart A us vs (after A r u) s t (append k u) journal f.1 on e whole)

-- Of journals that reach states.

reach_apart : (A : Inputs) (journal more : List Entry) (s t : State) → Reaches A journal s → Reaches A more t → HasWholeEntries A journal s
    → Apart A journal more s t
reach_apart A journal more s t a b whole =
    let one : a.holdings ≡ b.holdings = let f = a.found in let g = b.found in cc in
    let follows : Follows A (start A a.holdings) b.units t = subst (λ (hs : Holdings). Follows A (start A hs) b.units t) (sym one) b.follows in
    subst (λ (js : List Entry). Apart A journal js s t) b.joined
    (apart A a.units b.units (start A a.holdings) s t [] journal a.follows follows a.joined whole)

come_first : (journal more : List Entry) → Behind journal more → ComeFirst journal more
come_first journal more (x, rest, e) = (x ∷ rest, e)

same_first : (journal more : List Entry) → more ≡ journal → ComeFirst journal more
same_first journal more e = ([], e ∙ sym (append-nil journal))

module _ (A : Inputs) (journal more : List Entry) (s t : State) where
  pub first_of_longer : Reaches A journal s → Reaches A more t → HasWholeEntries A journal s → length journal < length more → ComeFirst journal more
  first_of_longer a b whole long = elim (reach_apart A journal more s t a b whole) [
    | behind h ↦ come_first journal more h
    | same h at ↦ same_first journal more h
    | before u next short ↦ absurd (let grown = unit_long more u in omega (arith, long, short, grown))
  ]

  pub first_of_finished : Reaches A journal s → Reaches A more t → HasWholeEntries A journal s → next_unit A t ≡ None → ComeFirst journal more
  first_of_finished a b whole none = elim (reach_apart A journal more s t a b whole) [
    | behind h ↦ come_first journal more h
    | same h at ↦ same_first journal more h
    | before u next short ↦ absurd (let no : Some u ≡ None = sym next ∙ none in cc)
  ]

  pub one_of_length : Reaches A journal s → Reaches A more t → HasWholeEntries A journal s → HasWholeEntries A more t → length journal ≡ length more
      → (journal ≡ more) × (s ≡ t)
  one_of_length a b whole entire equal = elim (reach_apart A journal more s t a b whole) [
    | behind h ↦ absurd (let long = behind_longer journal more h in omega (arith, long, equal))
    | same h at ↦ (sym h, at)
    | before u next short ↦ absurd (let grown = entire u next in omega (arith, grown, short, equal))
  ]
