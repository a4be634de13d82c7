-- Stretches among next units are short, few turns in a row count nothing, and writes are worth it.
use Rattle.std.proofs.Common.{◌≡◌, inl, inr, ℕ, ◌≤◌, nat_lt, Bool, true, false, List, [], ◌∷◌, ◌++◌, length, Some, refl, sym, subst, arith}
use Rattle.std.proofs.lemmas.Bool.Decides.{nat_tests}
use Rattle.vm_facts.specs.declared.page.Page.{Page}
use Rattle.vm_facts.specs.declared.entry.Entry.{Entry}
use Rattle.vm_facts.specs.declared.entry.Entry.TheVariants as entries
use Rattle.vm_facts.proofs.Tests.{cases_le}
use Rattle.flat_state.specs.Flat.{Inputs, process_of}
use Rattle.page_laws.proofs.Moves.Units.{unit_is}
use Rattle.page_laws.proofs.Swapper.PuttingOut.{unit_case}
use Rattle.page_model.specs.Place.{space_of_process}
use Rattle.kernel_model.specs.Start.{ImagesFit}
use Rattle.run_model.specs.State.{State}
use Rattle.run_model.specs.Wanted.{locked}
use Rattle.run_model.specs.After.{after, state_after}
use Rattle.run_model.specs.Next.{when, line_or_turn, next_mark}
use Rattle.run_model.specs.Kinds.{Kind, Fills, Brings, Copies, ServesWanted, Acts, ProcessComes, Interrupts, HandsMove, ProcessGoes, Notes, Begins}
use Rattle.run_model.specs.Lawful.{Follows}
use Rattle.run_model.proofs.NextUnits.{kind_of}
use Rattle.economy_laws.specs.RunLawsRunning.{IsRun}
use Rattle.economy_laws.proofs.Flows.{Acted, Settles, Refuses, Steps, acted, steps_own}
use Rattle.economy_laws.proofs.Plain.{IsPaging, serve_paging, zero_paging, copy_paging, move_paging}
use Rattle.economy_laws.proofs.Wholes.{unit_run, units_run}
use Rattle.economy_laws.specs.Stretch.{turns, turns_of, NoneCounts}
use Rattle.economy_laws.specs.Worth.{renews, Happens}
use Rattle.economy_laws.proofs.Opening.{few_touched, stretch_entries, whole_stretch}
use Rattle.economy_laws.proofs.Sleeping.{sleep_stops}
use Rattle.economy_laws.proofs.Growing.{all_grown}
use Rattle.economy_laws.proofs.Growth.{growth_touches}
use Rattle.economy_laws.proofs.Idle.{count_most, few_turns, many_behind, many_on}
use Rattle.economy_laws.proofs.Writes.{writes_worth}
use Rattle.run_units.specs.Economy.{IsPart, IsStretch, IsShort, Stores, Economy}
use Rattle.run_units.proofs.Parts.{both_follow, PartFollows, part_follows}

-- Turns.

-- before all lines are taken no turn comes
turn_marked : (A : Inputs) (s : State) (p : ℕ) → next_mark A s ≡ Some (entries.Turn p) → length A.lines ≤ s.lines
turn_marked A s p h = go (nat_lt s.count A.limit) (nat_lt s.lines (length A.lines)) refl h
  where
    go : (a b : Bool) → nat_lt s.lines (length A.lines) ≡ b → when a (line_or_turn s b) ≡ Some (entries.Turn p) → length A.lines ≤ s.lines
    go false b e k = absurd cc
    go true true e k = absurd cc
    go true false e k = grind (arith, nat_tests)

turn_lines : (A : Inputs) (s : State) (p : ℕ) → Kind A s (entries.Turn p) → length A.lines ≤ s.lines
turn_lines A s p (Fills q ds e i) = absurd (subst IsPaging (sym i) (zero_paging s.place q))
turn_lines A s p (Brings q parent ds e i) = absurd (subst IsPaging (sym (unit_is s.place parent true (entries.Turn p) i).1) (serve_paging s.place parent))
turn_lines A s p (Copies q parent ds e k i) = absurd (subst IsPaging (sym i) (copy_paging s.place q))
turn_lines A s p (ServesWanted pid now q r w i) = absurd (subst IsPaging (sym (unit_is s.place q now (entries.Turn p) i).1) (serve_paging s.place q))
turn_lines A s p (Acts pid now r w a) = by (acted A s pid (entries.Turn p) a)
  where
    by : Acted A s pid (entries.Turn p) → length A.lines ≤ s.lines
    by (Settles i) = absurd cc
    by (Refuses i) = absurd cc
    by (Steps f g i) = absurd (let z = steps_own A s.point pid (entries.Turn p) i in cc)
turn_lines A s p (ProcessComes pid e c i) = absurd cc
turn_lines A s p (Interrupts e k i) = absurd cc
turn_lines A s p (HandsMove count e k l w i) = absurd (subst IsPaging (sym i) (move_paging s.place (locked A s)))
turn_lines A s p (ProcessGoes pid e k i) = absurd (unit_case (λ (x : Entry). entries.Turn p ≡ x → ⊥) s.place pid (space_of_process (process_of s.point.flat pid))
    (λ t ts h z. absurd cc) (λ v a h k z. absurd cc) (λ a h z. absurd cc) i)
turn_lines A s p (Notes e k i) = absurd cc
turn_lines A s p (Begins e k i) = turn_marked A s p i

turns_none : (u : Entry) → ((p : ℕ) → u ≡ entries.Turn p → ⊥) → turns u ≡ 0
turns_none (entries.Turn p) n = absurd (n p refl)
turns_none _ n = refl

few_idle : (A : Inputs) (us : List Entry) (s t : State) → ImagesFit A.images → IsRun A s → length s.point.flat.processes ≤ 64 → Follows A s us t
    → NoneCounts us → turns_of us ≤ 64
few_idle A [] s t images r l f n = omega arith
few_idle A (u ∷ us) s t images r l f n = elim (cases_le (length A.lines) s.lines) [
  | inl e ↦ (let few = few_turns A s t (u ∷ us) images r e f n in let most = count_most s.point.flat.processes in omega arith)
  | inr e ↦
      (let more = few_idle A us (after A s u) t images (unit_run A s u images r f.0) (many_behind A s u r l f.0) f.1 n.1 in
      let none = turns_none u (λ p i. let x = turn_lines A s p (subst (Kind A s) i (kind_of A s u f.0)) in absurd (omega (arith, x, e))) in
      omega (arith, more, none))
]

-- Economy.

module _ (A : Inputs) (s t : State) (us : List Entry) (images : ImagesFit A.images) (r : IsRun A s) (f : Follows A s us t) where
  part_short : (at : State) (u : Entry) (stretch : List Entry) → IsPart A s us at (u ∷ stretch) → IsStretch A at u stretch → IsShort u stretch
  part_short at u stretch p h =
      let x : PartFollows A s at (u ∷ stretch) = part_follows A s t at us (u ∷ stretch) f p in
      let run = units_run A x.before s at images r x.first in
      let behind = state_after A at (u ∷ stretch) in
      record {
        adds = λ journal. let few = stretch_entries A at behind u stretch journal h.pid images (few_touched A) (all_grown A (growth_touches A)) (sleep_stops A) run x.then h.begins h.closing h.none in
            omega (arith, few);
        takes = (whole_stretch A at behind u stretch h.pid images (few_touched A) (all_grown A (growth_touches A)) (sleep_stops A) run x.then h.begins h.closing h.none).1;
      }

  part_idle : length s.point.flat.processes ≤ 64 → (at : State) (part : List Entry) → IsPart A s us at part → NoneCounts part → turns_of part ≤ 64
  part_idle l at part p n =
      let x : PartFollows A s at part = part_follows A s t at us part f p in
      few_idle A part at (state_after A at part) images (units_run A x.before s at images r x.first) (many_on A x.before s at images r l x.first) x.then n

  part_worth : (at : State) (u w : Entry) (between : List Entry) (q : Page) → IsPart A s us at (u ∷ between ++ w ∷ []) → Stores at u q → Stores (state_after A (after A at u) between) w q
      → Happens (λ B x e. renews B x e q) A (after A at u) between
  part_worth at u w between q p a b =
      let x : PartFollows A s at (u ∷ between ++ w ∷ []) = part_follows A s t at us (u ∷ between ++ w ∷ []) f p in
      let y = both_follow A between (w ∷ []) (after A at u) (state_after A at (u ∷ between ++ w ∷ [])) x.then.1 in
      writes_worth A at (state_after A (after A at u) between) u w between q images (units_run A x.before s at images r x.first) (x.then.0, y.0) y.1.0 a b

  pub units_economical : length s.point.flat.processes ≤ 64 → Economy A s us
  units_economical l = record { short = part_short; idle = part_idle l; writes = part_worth }
