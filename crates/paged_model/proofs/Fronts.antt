-- The first lines of a paged run.
use Rattle.std.proofs.Common.{◌≡◌, ℕ, ◌+◌, List, [], ◌∷◌, ◌++◌, length, None, refl, sym, ap, ◌∙◌, subst, arith}
use Rattle.vm_facts.specs.declared.entry.Entry.{Entry}
use Rattle.flat_state.specs.Flat.{Inputs}
use Rattle.flat_state.specs.Journal.{units_with, units_of}
use Rattle.flat_state.proofs.Joins.{units-append}
use Rattle.run_model.specs.State.{State, start}
use Rattle.paged_model.specs.Runs.{paged_after, paged_state, unit_reason, units_reason, line_reason, line_after, misstep_from, IsPagedRun}
use Rattle.paged_model.proofs.Reasoned.{or_none, none_or, good_line, line_good}

pub front_good : (A : Inputs) (s : State) (n : ℕ) (es fs : List Entry) → misstep_from A s n (es ++ fs) ≡ None → misstep_from A s n es ≡ None
unfolding misstep_from
front_good A s n [] fs h = refl
front_good A s n (e ∷ es) fs h =
    let g = good_line n (line_reason A s e) (misstep_from A (line_after A s e) (n + 1) (es ++ fs)) h in
    line_good n (line_reason A s e) (misstep_from A (line_after A s e) (n + 1) es) g.0 ∙ front_good A (line_after A s e) (n + 1) es fs g.1

pub front_run : (A : Inputs) (es fs : List Entry) → IsPagedRun A (es ++ fs) → IsPagedRun A es
front_run A es fs r = record { holdings = r.holdings; found = r.found; good = front_good A (start A r.holdings) 1 es fs r.good }

pub states_append : (A : Inputs) (s : State) (us vs : List Entry) → paged_state A s (us ++ vs) ≡ paged_state A (paged_state A s us) vs
unfolding paged_state
states_append A s [] vs = refl
states_append A s (u ∷ us) vs = states_append A (paged_after A s u) us vs

-- the units of a line and of those after it
pub line_units : (A : Inputs) (s : State) (e : Entry) (es : List Entry) → paged_state A s (units_of (e ∷ es)) ≡ paged_state A (line_after A s e) (units_of es)
line_units A s e es = ap (paged_state A s) (units-append (e ∷ []) es) ∙ states_append A s (units_with e []) (units_of es)

pub front_on : (A : Inputs) (s : State) (n : ℕ) (es fs : List Entry) → misstep_from A s n es ≡ None
    → misstep_from A s n (es ++ fs) ≡ misstep_from A (paged_state A s (units_of es)) (n + length es) fs
unfolding misstep_from paged_state
front_on A s n [] fs h = ap (λ (k : ℕ). misstep_from A s k fs) (let k : n ≡ n + 0 = omega arith in k)
front_on A s n (e ∷ es) fs h =
    let g = good_line n (line_reason A s e) (misstep_from A (line_after A s e) (n + 1) es) h in
    line_good n (line_reason A s e) (misstep_from A (line_after A s e) (n + 1) (es ++ fs)) g.0 ∙ front_on A (line_after A s e) (n + 1) es fs g.1
    ∙ ap (λ (k : ℕ). misstep_from A (paged_state A (line_after A s e) (units_of es)) k fs) (let k : n + 1 + length es ≡ n + length (e ∷ es) = omega arith in k)
    ∙ ap (λ (t : State). misstep_from A t (n + length (e ∷ es)) fs) (sym (line_units A s e es))

-- Units one after another.

pub units_on : (A : Inputs) (s : State) (us vs : List Entry) → units_reason A s us ≡ None → units_reason A (paged_state A s us) vs ≡ None
    → units_reason A s (us ++ vs) ≡ None
unfolding units_reason paged_state
units_on A s [] vs h g = g
units_on A s (u ∷ us) vs h g =
    let o = or_none (unit_reason A s u) (units_reason A (paged_after A s u) us) h in
    none_or (unit_reason A s u) (units_reason A (paged_after A s u) (us ++ vs)) o.0 (units_on A (paged_after A s u) us vs o.1 g)

pub front_units : (A : Inputs) (s : State) (n : ℕ) (es : List Entry) → misstep_from A s n es ≡ None → units_reason A s (units_of es) ≡ None
unfolding misstep_from units_reason
front_units A s n [] h = refl
front_units A s n (e ∷ es) h =
    let g = good_line n (line_reason A s e) (misstep_from A (line_after A s e) (n + 1) es) h in
    subst (λ (us : List Entry). units_reason A s us ≡ None) (sym (units-append (e ∷ []) es))
    (units_on A s (units_with e []) (units_of es) g.0 (front_units A (line_after A s e) (n + 1) es g.1))
