-- Traces with lines that are parts of a move.
use Rattle.std.proofs.Common.{◌≡◌, ℕ, ◌+◌, ◌≤◌, List, [], ◌∷◌, Option, Some, None, refl, ap, ◌∙◌, arith}
use Rattle.vm_facts.specs.declared.entry.Entry.{Entry}
use Rattle.swap_book.specs.Holdings.{Holdings}
use Rattle.flat_state.specs.Flat.{Inputs}
use Rattle.flat_state.specs.Journal.{units_with, units_of, instructions_of, AllUnits}
use Rattle.flat_state.proofs.Joins.{units-append}
use Rattle.kernel_model.specs.Sound.{Sound}
use Rattle.kernel_model.specs.Start.{ImagesFit}
use Rattle.flat_model.specs.Run.{Point, flat_units, flat_run}
use Rattle.flat_model.proofs.Folds.{units_more}
use Rattle.run_model.specs.State.{State, start}
use Rattle.run_model.specs.Act.{LastSays}
use Rattle.run_model.proofs.Acting.{next_says}
use Rattle.run_model.proofs.After.{count_of_units}
use Rattle.run_laws.specs.Standing.{machine_of}
use Rattle.run_laws.specs.Running.{CanRun}
use Rattle.run_laws.proofs.Wholes.{start_run}
use Rattle.paged_model.specs.declared.line.Line.{Line}
use Rattle.paged_model.specs.declared.line.Line.TheVariants as lines
use Rattle.paged_model.specs.Runs.{paged_after, paged_state, unit_reason, units_reason, line_reason, line_after}
use Rattle.paged_model.specs.Traces.{trace_line_reason, trace_line_after, entries_in, trace_state, trace_misstep, first_trace_misstep, IsPagedTrace}
use Rattle.paged_model.proofs.Reasoned.{or_none, good_line}
use Rattle.paged_laws.specs.Led.{PlacedAt, OwnedAt}
use Rattle.paged_laws.specs.Paged.{Steady, IsPaged}
use Rattle.paged_laws.proofs.Acted.{next_or, units_flat, few_units, units_count}
use Rattle.paged_laws.proofs.AllUnits.{units_are}
use Rattle.paged_laws.proofs.Awaiting.{unit_paged}
use Rattle.paged_laws.proofs.PartSteps.{part_paged}
use Rattle.paged_laws.proofs.Steady.{run_steady}

-- What stands.

units_paged : (A : Inputs) (s : State) (us : List Entry) → ImagesFit A.images → AllUnits us → IsPaged A s → units_reason A s us ≡ None
    → IsPaged A (paged_state A s us)
unfolding units_reason paged_state
units_paged A s [] images k x h = x
units_paged A s (u ∷ us) images k x h =
    let o = or_none (unit_reason A s u) (units_reason A (paged_after A s u) us) h in
    units_paged A (paged_after A s u) us images k.1 (unit_paged A s u images k.0 x o.0) o.1

pub line_paged : (A : Inputs) (s : State) (l : Line) → ImagesFit A.images → IsPaged A s → trace_line_reason A s l ≡ None
    → IsPaged A (trace_line_after A s l)
line_paged A s (lines.RunLine e) images x h = units_paged A s (units_with e []) images (units_are (e ∷ [])) x h
line_paged A s (lines.Part y) images x h = part_paged A s y x h

trace_paged : (A : Inputs) (s : State) (n : ℕ) (ls : List Line) → ImagesFit A.images → IsPaged A s → trace_misstep A s n ls ≡ None
    → IsPaged A (trace_state A s ls)
unfolding trace_misstep trace_state
trace_paged A s n [] images x h = x
trace_paged A s n (l ∷ ls) images x h =
    let g = good_line n (trace_line_reason A s l) (trace_misstep A (trace_line_after A s l) (n + 1) ls) h in
    trace_paged A (trace_line_after A s l) (n + 1) ls images (line_paged A s l images x g.0) g.1

module _ (A : Inputs) (hs : Holdings) (ls : List Line) where
  front_paged : CanRun A hs → first_trace_misstep A hs ls ≡ None → IsPaged A (trace_state A (start A hs) ls)
  front_paged c e =
      trace_paged A (start A hs) 1 ls c.images (record { steady = run_steady A (start A hs) (start_run A hs c); awaits = tt }) e

  pub trace_placed : CanRun A hs → first_trace_misstep A hs ls ≡ None → PlacedAt A (trace_state A (start A hs) ls)
  trace_placed c e =
      let x : IsPaged A (trace_state A (start A hs) ls) = front_paged c e in
      let s : Steady A (trace_state A (start A hs) ls) = x.steady in
      s.placed

  pub trace_owned : CanRun A hs → first_trace_misstep A hs ls ≡ None → OwnedAt A (trace_state A (start A hs) ls)
  trace_owned c e =
      let s : State = trace_state A (start A hs) ls in
      let p : PlacedAt A s = trace_placed c e in
      let so : Sound A.swap_blocks (machine_of s.point.flat s.place s.holdings) = p.sound in
      so.owner

-- What programs see.

units_say : (A : Inputs) (s : State) (us : List Entry) → LastSays A s.point.flat s.point.last → units_reason A s us ≡ None
    → LastSays A (paged_state A s us).point.flat (paged_state A s us).point.last
unfolding units_reason paged_state
units_say A s [] says h = says
units_say A s (u ∷ us) says h =
    let o = or_none (unit_reason A s u) (units_reason A (paged_after A s u) us) h in
    units_say A (paged_after A s u) us (next_says A s u says (next_or A s u o.0)) o.1

lines_flat : (A : Inputs) (s : State) (n : ℕ) (ls : List Line) → LastSays A s.point.flat s.point.last → trace_misstep A s n ls ≡ None
    → flat_units A (Some s.point) (units_of (entries_in ls)) ≡ Some (trace_state A s ls).point
unfolding trace_misstep trace_state flat_units
lines_flat A s n [] says h = refl
lines_flat A s n (lines.RunLine e ∷ ls) says h =
    let us : List Entry = units_with e [] in
    let next : State = line_after A s e in
    let g = good_line n (line_reason A s e) (trace_misstep A next (n + 1) ls) h in
    ap (flat_units A (Some s.point)) (units-append (e ∷ []) (entries_in ls))
    ∙ units_more A (Some s.point) us (units_of (entries_in ls))
    ∙ ap (λ (o : Option Point). flat_units A o (units_of (entries_in ls))) (units_flat A s us says g.0)
    ∙ lines_flat A next (n + 1) ls (units_say A s us says g.0) g.1
lines_flat A s n (lines.Part y ∷ ls) says h =
    let next : State = trace_line_after A s (lines.Part y) in
    let g = good_line n (trace_line_reason A s (lines.Part y)) (trace_misstep A next (n + 1) ls) h in
    lines_flat A next (n + 1) ls says g.1

pub trace_flat : (A : Inputs) (ls : List Line) → IsPagedTrace A ls → (point : Point) × (flat_run A (entries_in ls) ≡ Some point)
trace_flat A ls t = ((trace_state A (start A t.holdings) ls).point, lines_flat A (start A t.holdings) 1 ls tt t.good)

-- Counts.

lines_few : (A : Inputs) (s : State) (n : ℕ) (ls : List Line) → trace_misstep A s n ls ≡ None → s.count ≤ A.limit
    → (trace_state A s ls).count ≤ A.limit
unfolding trace_misstep trace_state
lines_few A s n [] h l = l
lines_few A s n (lines.RunLine e ∷ ls) h l =
    let next : State = line_after A s e in
    let g = good_line n (line_reason A s e) (trace_misstep A next (n + 1) ls) h in
    lines_few A next (n + 1) ls g.1 (few_units A s (units_with e []) g.0 l)
lines_few A s n (lines.Part y ∷ ls) h l =
    let next : State = trace_line_after A s (lines.Part y) in
    let g = good_line n (trace_line_reason A s (lines.Part y)) (trace_misstep A next (n + 1) ls) h in
    lines_few A next (n + 1) ls g.1 l

lines_count : (A : Inputs) (s : State) (ls : List Line) → (trace_state A s ls).count ≡ s.count + instructions_of (entries_in ls)
unfolding trace_state
lines_count A s [] = omega arith
lines_count A s (lines.RunLine e ∷ ls) =
    let a = units_count A s (units_with e []) in
    let b = lines_count A (line_after A s e) ls in
    let c = count_of_units (e ∷ []) in
    omega (arith, a, b, c)
lines_count A s (lines.Part y ∷ ls) = lines_count A (trace_line_after A s (lines.Part y)) ls

pub trace_few : (A : Inputs) (ls : List Line) → IsPagedTrace A ls → instructions_of (entries_in ls) ≤ A.limit
trace_few A ls t =
    let l : (trace_state A (start A t.holdings) ls).count ≤ A.limit = lines_few A (start A t.holdings) 1 ls t.good (omega arith) in
    let c = lines_count A (start A t.holdings) ls in
    omega (arith, l, c)
