-- Traces of entries alone, and the first lines of a trace.
use Rattle.std.proofs.Common.{◌≡◌, ◌↔◌, ℕ, ◌+◌, List, [], ◌∷◌, ◌++◌, map, length, None, refl, sym, ap, ◌∙◌, arith}
use Rattle.vm_facts.specs.declared.entry.Entry.{Entry}
use Rattle.flat_state.specs.Flat.{Inputs}
use Rattle.flat_state.specs.Journal.{units_of}
use Rattle.run_model.specs.State.{State, start}
use Rattle.paged_model.specs.declared.line.Line.{Line}
use Rattle.paged_model.specs.declared.line.Line.TheVariants as lines
use Rattle.paged_model.specs.Runs.{paged_state, line_reason, line_after, misstep_or, misstep_from, IsPagedRun}
use Rattle.paged_model.specs.Traces.{trace_line_reason, trace_line_after, trace_state, trace_misstep, IsPagedTrace}
use Rattle.paged_model.proofs.Reasoned.{good_line, line_good}
use Rattle.paged_model.proofs.Fronts.{line_units}

-- Entries alone.

pub entries_state : (A : Inputs) (s : State) (es : List Entry) → trace_state A s (map lines.RunLine es) ≡ paged_state A s (units_of es)
unfolding trace_state paged_state
entries_state A s [] = refl
entries_state A s (e ∷ es) = entries_state A (line_after A s e) es ∙ sym (line_units A s e es)

pub entries_misstep : (A : Inputs) (s : State) (n : ℕ) (es : List Entry) → trace_misstep A s n (map lines.RunLine es) ≡ misstep_from A s n es
unfolding trace_misstep misstep_from
entries_misstep A s n [] = refl
entries_misstep A s n (e ∷ es) = ap (misstep_or n (line_reason A s e)) (entries_misstep A (line_after A s e) (n + 1) es)

pub entries_run : (A : Inputs) (es : List Entry) → IsPagedTrace A (map lines.RunLine es) ↔ IsPagedRun A es
entries_run A es = (
  λ t. record { holdings = t.holdings; found = t.found; good = sym (entries_misstep A (start A t.holdings) 1 es) ∙ t.good },
  λ r. record { holdings = r.holdings; found = r.found; good = entries_misstep A (start A r.holdings) 1 es ∙ r.good },
)

-- The first lines.

pub trace_front : (A : Inputs) (s : State) (n : ℕ) (ls ms : List Line) → trace_misstep A s n (ls ++ ms) ≡ None → trace_misstep A s n ls ≡ None
unfolding trace_misstep
trace_front A s n [] ms h = refl
trace_front A s n (l ∷ ls) ms h =
    let g = good_line n (trace_line_reason A s l) (trace_misstep A (trace_line_after A s l) (n + 1) (ls ++ ms)) h in
    line_good n (trace_line_reason A s l) (trace_misstep A (trace_line_after A s l) (n + 1) ls) g.0
    ∙ trace_front A (trace_line_after A s l) (n + 1) ls ms g.1

pub trace_on : (A : Inputs) (s : State) (n : ℕ) (ls ms : List Line) → trace_misstep A s n ls ≡ None
    → trace_misstep A s n (ls ++ ms) ≡ trace_misstep A (trace_state A s ls) (n + length ls) ms
unfolding trace_misstep trace_state
trace_on A s n [] ms h = ap (λ (k : ℕ). trace_misstep A s k ms) (let k : n ≡ n + 0 = omega arith in k)
trace_on A s n (l ∷ ls) ms h =
    let g = good_line n (trace_line_reason A s l) (trace_misstep A (trace_line_after A s l) (n + 1) ls) h in
    line_good n (trace_line_reason A s l) (trace_misstep A (trace_line_after A s l) (n + 1) (ls ++ ms)) g.0
    ∙ trace_on A (trace_line_after A s l) (n + 1) ls ms g.1
    ∙ ap (λ (k : ℕ). trace_misstep A (trace_state A (trace_line_after A s l) ls) k ms) (let k : n + 1 + length ls ≡ n + length (l ∷ ls) = omega arith in k)

pub trace_states : (A : Inputs) (s : State) (ls ms : List Line) → trace_state A s (ls ++ ms) ≡ trace_state A (trace_state A s ls) ms
unfolding trace_state
trace_states A s [] ms = refl
trace_states A s (l ∷ ls) ms = trace_states A (trace_line_after A s l) ls ms

pub front_trace : (A : Inputs) (ls ms : List Line) → IsPagedTrace A (ls ++ ms) → IsPagedTrace A ls
front_trace A ls ms t = record { holdings = t.holdings; found = t.found; good = trace_front A (start A t.holdings) 1 ls ms t.good }
