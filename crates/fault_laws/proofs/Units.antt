-- Which page comes to be valid by a unit of a run.
use Rattle.std.proofs.Common.{◌≡◌, ℕ, ◌+◌, List, Option, Some, None, refl, sym, subst}
use Rattle.vm_facts.specs.declared.page.Page.{Page}
use Rattle.vm_facts.specs.declared.entry.Entry.{Entry}
use Rattle.vm_facts.specs.declared.entry.Entry.TheVariants as entries
use Rattle.flat_state.specs.Flat.{Inputs}
use Rattle.flat_model.specs.Run.{process_of_entry, step_at}
use Rattle.page_model.specs.Placement.{Placement}
use Rattle.page_model.specs.Moves.{touch_all}
use Rattle.page_model.specs.Place.{changing_in, facts_of}
use Rattle.run_model.specs.State.{State}
use Rattle.run_model.specs.After.{place_at, place_behind, after}
use Rattle.run_model.specs.Snapshot.{pages_written}
use Rattle.run_model.specs.Wanted.{locked}
use Rattle.run_laws.specs.Running.{IsRun}
use Rattle.run_laws.proofs.Units.{plain_place}
use Rattle.economy_laws.proofs.Lost.{touched_new}
use Rattle.economy_laws.specs.Stretch.{copies}
use Rattle.fault_laws.specs.Faults.{own_fault}
use Rattle.fault_laws.proofs.Gains.{Gain, keeps_self, keeps_both, keeps_gain, touch_all_keeps}
use Rattle.fault_laws.proofs.Entries.{entry_gain}
use Rattle.fault_laws.proofs.Changes.{change_keeps}

-- a process writes pages that are valid, and its change makes none so
stepped_gain : (A : Inputs) (s : State) (e : Entry) (pid : ℕ) → IsRun A s → Gain s.place (place_behind A s pid (step_at A s.point pid) e) 0
stepped_gain A s e pid r =
    let qs : List Page = pages_written s.point.flat pid (step_at A s.point pid) in
    let p : Placement = touch_all s.place qs in
    keeps_gain s.place (place_behind A s pid (step_at A s.point pid) e)
    (keeps_both s.place p (place_behind A s pid (step_at A s.point pid) e) (touch_all_keeps qs s.place)
    (change_keeps (changing_in (facts_of A.images) s.point.flat pid (place_at s e)) p
    (step_at A s.point pid).change
    (touched_new A s qs r)))

flat_gain : (A : Inputs) (s : State) (u : Entry) (pid : ℕ) → IsRun A s → process_of_entry u ≡ Some pid
    → Gain s.place (after A s u).place (own_fault u + copies u)
unfolding after
flat_gain A s (entries.Ran p n) pid r e = stepped_gain A s (entries.Ran p n) p r
flat_gain A s (entries.Grew p n) pid r e = stepped_gain A s (entries.Grew p n) p r
flat_gain A s (entries.Call p n b r0 r1) pid r e = stepped_gain A s (entries.Call p n b r0 r1) p r
flat_gain A s (entries.Sleeps p) pid r e = stepped_gain A s (entries.Sleeps p) p r
flat_gain A s (entries.Ended p n) pid r e = stepped_gain A s (entries.Ended p n) p r
flat_gain A s (entries.Out p bytes) pid r e = keeps_gain s.place s.place (keeps_self s.place)
flat_gain A s (entries.Refused p) pid r e = keeps_gain s.place s.place (keeps_self s.place)
flat_gain A s _ pid r e = absurd cc

pub unit_gain : (A : Inputs) (s : State) (u : Entry) → IsRun A s → Gain s.place (after A s u).place (own_fault u + copies u)
unit_gain A s u r = go (process_of_entry u) refl
  where
    go : (o : Option ℕ) → process_of_entry u ≡ o → Gain s.place (after A s u).place (own_fault u + copies u)
    go None n = subst (λ (p : Placement). Gain s.place p (own_fault u + copies u)) (sym (plain_place A s u n)) (entry_gain (locked A s) (place_at s u) s.place u)
    go (Some pid) n = flat_gain A s u pid r n
