-- A run as a memory: before each unit its usable pages, and those that the unit touches.
use Rattle.std.proofs.Common.{◌≡◌, ℕ, zero, suc, ◌+◌, ◌≤◌, true, List, [], ◌∷◌, ◌++◌, length, map, Option, Some, refl, sym, ap, ◌∙◌, subst, arith}
use Rattle.std.proofs.lemmas.List.{map-append}
use Rattle.std.proofs.lemmas.Bool.{false≢true}
use Rattle.vm_facts.specs.declared.page.Page.{Page}
use Rattle.vm_facts.specs.declared.entry.Entry.{Entry}
use Rattle.vm_facts.specs.declared.entry.Entry.TheVariants as entries
use Rattle.flat_state.specs.Flat.{Inputs}
use Rattle.flat_state.specs.Journal.{repeated, units_with, units_of}
use Rattle.flat_state.proofs.Joins.{appended_units}
use Rattle.flat_model.specs.Run.{Point, process_of_entry, flat_entry}
use Rattle.flat_model.specs.Touched.{touched}
use Rattle.kernel_model.specs.Start.{ImagesFit}
use Rattle.run_model.specs.State.{State, start}
use Rattle.run_model.specs.After.{after, AllFlat}
use Rattle.run_model.specs.Next.{next_unit}
use Rattle.run_model.specs.Lawful.{Follows, IsLawful}
use Rattle.run_model.proofs.FlatRuns.{run_flat}
use Rattle.run_laws.specs.Running.{IsRun, ReadyToStep}
use Rattle.run_laws.specs.Standing.{Placed}
use Rattle.run_laws.proofs.Units.{owns}
use Rattle.run_laws.proofs.Lawful.{all_units}
use Rattle.run_laws.proofs.Wholes.{unit_run, start_run, unit_ready, reached_lawful}
use Rattle.economy_laws.specs.Stretch.{copies, copies_of}
use Rattle.replay_check.specs.Verdicts.{touched_by_unit, references_from, references_of}
use Rattle.page_opt.specs.Plans.{has, plan_faults}
use Rattle.page_opt.specs.Cache.{IsCache}
use Rattle.fault_laws.specs.Memory.{Moment, used_in, lacking, brought, IsMemory, HasPlan}
use Rattle.fault_laws.proofs.Demand.{memory_planned}
use Rattle.fault_laws.specs.Faults.{own_fault, own_faults, RunsHavePlans, RunsFaultEnough}
use Rattle.fault_laws.proofs.Gains.{reads_of}
use Rattle.fault_laws.proofs.Units.{unit_gain}
use Rattle.fault_laws.proofs.Usable.{usable, usable_cache, pages_usable, usable_none, gain_lacks}

-- the numbers of the pages that a unit touches, where it counts an instruction, while these pages are usable
abbrev moment_of : Inputs → (Page → ℕ) → State → Entry → Moment
moment_of A number s u = record { pages = usable number s.place; used = map number (touched_by_unit A s.point u) }

abbrev moments_of : Inputs → (Page → ℕ) → State → List Entry → List Moment
moments_of A number s [] = []
moments_of A number s (u ∷ us) = moment_of A number s u ∷ moments_of A number (after A s u) us

module _ (A : Inputs) (number : Page → ℕ) where
  -- What is used are the references.
  used_are : (us : List Entry) (s : State) → AllFlat A s us → used_in (moments_of A number s us) ≡ map number (references_from A (Some s.point) us)
  unfolding references_from
  used_are [] s f = refl
  used_are (u ∷ us) s f =
      ap (λ (ns : List ℕ). map number (touched_by_unit A s.point u) ++ ns)
      (used_are us (after A s u) f.1 ∙ ap (λ (o : Option Point). map number (references_from A o us)) (sym f.0))
      ∙ sym (map-append number (touched_by_unit A s.point u) (references_from A (flat_entry A s.point u) us))

  -- Each is usable.

  touched_usable : (s : State) (u : Entry) (pid x : ℕ) → IsRun A s → next_unit A s ≡ Some u → process_of_entry u ≡ Some pid
      → has x (map number (touched A s.point.flat pid)) ≡ true → has x (usable number s.place) ≡ true
  touched_usable s u pid x r n e h =
      let y : ReadyToStep A s pid = unit_ready A s u pid n e in
      pages_usable number s.place (touched A s.point.flat pid) x (owns A s r.placed) y.pages h

  used_usable : (s : State) (u : Entry) (x : ℕ) → IsRun A s → next_unit A s ≡ Some u
      → has x (map number (touched_by_unit A s.point u)) ≡ true → has x (usable number s.place) ≡ true
  unfolding has
  used_usable s (entries.Ran pid n) x r h = touched_usable s (entries.Ran pid n) pid x r h refl
  used_usable s (entries.Call pid n c r0 r1) x r h = touched_usable s (entries.Call pid n c r0 r1) pid x r h refl
  used_usable s (entries.Ended pid n) x r h = touched_usable s (entries.Ended pid n) pid x r h refl
  used_usable s _ x r h = λ k. absurd (false≢true k)

  usable_few : (n : ℕ) (s : State) → A.frames ≤ n → IsRun A s → IsCache n (usable number s.place)
  usable_few n s l r =
      let st : Placed A s.point.flat s.place s.holdings = r.placed in
      let frames = st.frames in
      let c : IsCache (length s.place.holds) (usable number s.place) = usable_cache number s.place in
      record { once = c.once; small = let m = c.small in omega arith }

  moments_memory : (n : ℕ) (us : List Entry) (s t : State) → ImagesFit A.images → A.frames ≤ n → IsRun A s → Follows A s us t
      → IsMemory n (moments_of A number s us)
  moments_memory n [] s t images l r f = tt
  moments_memory n (u ∷ us) s t images l r f = (
    record { held = usable_few n s l r; there = λ x. used_usable s u x r f.0 },
    moments_memory n us (after A s u) t images l (unit_run A s u images r f.0) f.1,
  )

  -- What is brought is faults and copies.
  brought_few : (us : List Entry) (s t : State) (before : List ℕ) → ImagesFit A.images → IsRun A s → Follows A s us t
      → brought before (moments_of A number s us) ≤ lacking before (usable number s.place) + (own_faults us + copies_of us) + reads_of s.place.transfers
  brought_few [] s t before images r f = omega arith
  brought_few (u ∷ us) s t before images r f =
      let rest = brought_few us (after A s u) t (usable number s.place) images (unit_run A s u images r f.0) f.1 in
      let one = gain_lacks number s.place (after A s u).place (own_fault u + copies u) (owns A s r.placed) (unit_gain A s u r) in
      omega arith

-- Units and journals have the same faults and copies.

repeated_none : (u : Entry) (n : ℕ) (us : List Entry) → own_fault u + copies u ≡ 0
    → own_faults (repeated u n us) + copies_of (repeated u n us) ≡ own_faults us + copies_of us
repeated_none u zero us h = refl
repeated_none u (suc n) us h = let k = repeated_none u n us h in omega arith

with_same : (e : Entry) (us : List Entry) → own_faults (units_with e us) + copies_of (units_with e us) ≡ own_fault e + copies e + (own_faults us + copies_of us)
with_same (entries.Ran pid n) us = let k = repeated_none (entries.Ran pid 1) n us refl in omega arith
with_same (entries.Hands n) us = let k = repeated_none (entries.Hands 1) n us refl in omega arith
with_same _ us = omega arith

units_same : (journal : List Entry) → own_faults (units_of journal) + copies_of (units_of journal) ≡ own_faults journal + copies_of journal
units_same [] = refl
units_same (e ∷ journal) = let h = with_same e (units_of journal) in let k = units_same journal in omega arith

-- The laws.

pub run_planned : RunsHavePlans
run_planned A hs journal s number n can r l =
    let k : HasPlan (used_in ms) n (brought [] ms) = memory_planned n ms (moments_memory A number n us first s can.images l runs r.follows) in
    let few = k.few in
    let b = brought_few A number us first s [] can.images runs r.follows in
    let e = ap (λ (ns : List ℕ). lacking [] ns) (usable_none number first.place A.frames) in
    let c = units_same journal in
    let i = ap (λ (x : List Entry). own_faults x + copies_of x) units in
    record {
      victims = k.victims;
      faults = k.faults;
      plan = subst (λ (refs : List ℕ). plan_faults refs n k.victims ≡ Some k.faults) used k.plan;
      few = omega arith;
    }
  where
    us : List Entry
    us = r.units

    first : State
    first = start A r.holdings

    ms : List Moment
    ms = moments_of A number first us

    runs : IsRun A first
    runs = start_run A r.holdings (record { images = can.images; first = can.first; frames = can.frames; pieces = r.found })

    units : units_of journal ≡ us
    units = ap units_of (sym r.joined) ∙ appended_units [] us (all_units A us first s r.follows)

    flat : AllFlat A first us
    flat = let l : IsLawful A journal s = reached_lawful A hs journal s can r in
        subst (λ (x : List Entry). AllFlat A first x) units (run_flat A r.holdings journal s.point l.flat)

    used : used_in ms ≡ map number (references_of A journal)
    used = used_are A number us first flat ∙ ap (λ (x : List Entry). map number (references_from A (Some first.point) x)) (sym units)

pub run_enough : RunsFaultEnough
run_enough A hs journal s number n least can r enough none =
    let k : HasPlan (map number (references_of A journal)) n (own_faults journal + copies_of journal) = run_planned A hs journal s number n can r enough in
    let l = none k.victims k.faults k.plan in
    let f = k.few in
    omega arith
