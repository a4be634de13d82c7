-- Where a step is begun its process goes on, after each unit that may come.
use Rattle.std.proofs.Common.{◌≡◌, ℕ, ◌+◌, ◌<◌, nat_lt, ◌&&◌, Bool, true, false, [], Option, Some, None, refl, sym, ap, ◌∙◌, subst, arith}
use Rattle.std.proofs.lemmas.Bool.{and_parts}
use Rattle.std.proofs.lemmas.Bool.Decides.{nat_tests}
use Rattle.vm_facts.specs.declared.entry.Entry.{Entry}
use Rattle.vm_facts.specs.declared.entry.Entry.TheVariants as entries
use Rattle.flat_state.specs.Flat.{Inputs, can_step}
use Rattle.flat_state.specs.Journal.{IsUnit}
use Rattle.page_model.specs.Placement.{Placement}
use Rattle.page_model.specs.Swapper.{is_out}
use Rattle.kernel_model.specs.Start.{ImagesFit}
use Rattle.flat_model.specs.Run.{Point, due_at, process_of_entry}
use Rattle.run_model.specs.declared.mark.Mark.{Mark}
use Rattle.run_model.specs.declared.mark.Mark.TheVariants as marks
use Rattle.run_model.specs.State.{State}
use Rattle.run_model.specs.Snapshot.{touched_of}
use Rattle.run_model.specs.Wanted.{running, AllValid, locked}
use Rattle.run_model.specs.After.{after}
use Rattle.run_model.specs.Next.{goes_on, turn_instructions}
use Rattle.run_model.specs.Kinds.{GoesOn, ProcessRuns}
use Rattle.run_model.proofs.After.{after_count}
use Rattle.run_model.proofs.Wanting.{wanted_none, all_unwanted}
use Rattle.run_laws.specs.Flowing.{Awaits, WaitsBy}
use Rattle.run_laws.specs.Running.{IsRun}
use Rattle.run_laws.proofs.Execs.{execs_fit}
use Rattle.run_laws.proofs.Flows.{on_steps, on_running, plain_point, done_awaits}
use Rattle.run_laws.proofs.Running.{run_on}
use Rattle.run_laws.proofs.Units.{owns}
use Rattle.paged_model.specs.Moves.{zero_reason, copy_reason, get_reason, reclaim_reason, hand_reason}
use Rattle.paged_model.specs.Leaving.{put_reason, out_reason, in_reason}
use Rattle.paged_model.specs.Steps.{begun, step_reason, event_reason, turn_reason, owners_reason}
use Rattle.paged_model.specs.Runs.{paged_after, unit_reason}
use Rattle.paged_model.proofs.Reasoned.{or_none}
use Rattle.paged_laws.specs.Paged.{Steady, under_dispatch, BegunAwaits, IsPaged}
use Rattle.paged_laws.proofs.Acted.{Steps, steps}
use Rattle.paged_laws.proofs.Virtual.{both, next_so}
use Rattle.paged_laws.proofs.Steady.{same_point, same_place, run_so, unit_steady}

-- A process that is waited for, at another state.

on_below : (A : Inputs) (s : State) (m : Mark) (pid : ℕ) (now : Bool) → GoesOn A s m pid now → nat_lt s.count A.limit ≡ true
on_below A s (marks.Dispatch p count since) pid false g =
    (and_parts (nat_lt s.count A.limit) (nat_lt s.count (since + count)) (and_parts (can_step s.point.flat pid) (nat_lt s.count A.limit && nat_lt s.count (since + count)) g.1).1).0
on_below A s (marks.Turn p since) pid true g =
    (and_parts (nat_lt s.count A.limit) (nat_lt s.count (since + turn_instructions))
    (and_parts (can_step s.point.flat pid) (nat_lt s.count A.limit && nat_lt s.count (since + turn_instructions)) g.1).1).0
on_below A s _ pid now g = absurd g

-- it is waited for at each state with these pages, this point and this count, under a dispatch of one instruction
pub awaits_moved : (A : Inputs) (t r : State) (p : ℕ) → r.place ≡ t.place → r.point ≡ t.point → r.count ≡ t.count → r.mark ≡ marks.Dispatch p 1 r.count
    → Awaits A t p → Awaits A r p
awaits_moved A t r p place point count mark a =
    let x : ProcessRuns A t p a.now = a.runs in
    let can : can_step r.point.flat p ≡ true = ap (λ (q : Point). can_step q.flat p) point ∙ on_steps A t t.mark p a.now x.on in
    let below : nat_lt r.count A.limit ≡ true = ap (λ (n : ℕ). nat_lt n A.limit) count ∙ on_below A t t.mark p a.now x.on in
    let more : nat_lt r.count (r.count + 1) ≡ true = (let l : r.count < r.count + 1 = omega arith in grind (arith, nat_tests)) in
    let clear : r.place.due ≡ [] = ap (λ (q : Placement). q.due) place ∙ x.clear in
    let valid : AllValid t.place (touched_of A t.point.flat (Some p)) =
    subst (λ (o : Option ℕ). AllValid t.place (touched_of A t.point.flat o)) (on_running A t t.mark p a.now x.on) (wanted_none A t x.clear a.unwanted) in
    let there : AllValid r.place (touched_of A r.point.flat (Some p)) =
    subst (λ (q : Placement). AllValid q (touched_of A r.point.flat (Some p))) (sym place)
    (subst (λ (q : Point). AllValid t.place (touched_of A q.flat (Some p))) (sym point) valid) in
    let goes : goes_on A r p (r.count + 1) ≡ true =
    both (can_step r.point.flat p) (nat_lt r.count A.limit && nat_lt r.count (r.count + 1)) can (both (nat_lt r.count A.limit) (nat_lt r.count (r.count + 1)) below more) in
    record {
      now = false;
      runs = record {
        clear = clear;
        on = subst (λ (m : Mark). GoesOn A r m p false) (sym mark) (refl, goes);
        resident = ap (λ (q : Placement). is_out q p) place ∙ x.resident;
      };
      unwanted = all_unwanted A r clear (subst (λ (m : Mark). AllValid r.place (touched_of A r.point.flat (running m))) (sym mark) there);
      left = subst (λ (q : Point). due_at A q p ≡ [] → ⊥) (sym point) a.left;
    }

-- After a unit of a process.

process_awaits : (A : Inputs) (s : State) (pid : ℕ) (u : Entry) → ImagesFit A.images → Steady A s → step_reason A s pid u ≡ None
    → process_of_entry u ≡ Some pid → BegunAwaits A (paged_after A s u) (paged_after A s u).point.last
process_awaits A s pid u images st e own =
    let so : Steps A s pid u = steps A s pid u e in
    let v : State = under_dispatch s pid in
    let m : Mark = marks.Dispatch pid 1 s.count in
    let r : IsRun A (after A v u) = run_on A v u images (execs_fit A) (run_so A s pid u st e own) (next_so A s pid u so) in
    let point : (after A v u).point ≡ (after A s u).point = same_point A s m u pid own in
    subst (BegunAwaits A (paged_after A s u)) (ap (λ (q : Point). q.last) point) (go (after A v u).point.last r.flows.waits)
  where
    one : (p : ℕ) → Awaits A (after A (under_dispatch s pid) u) p → Awaits A (under_dispatch (paged_after A s u) p) p
    one p a = awaits_moved A (after A (under_dispatch s pid) u) (under_dispatch (paged_after A s u) p) p (sym (same_place A s (marks.Dispatch pid 1 s.count) u pid own))
        (sym (same_point A s (marks.Dispatch pid 1 s.count) u pid own)) (after_count A s u ∙ sym (after_count A (under_dispatch s pid) u)) refl a

    go : (o : Option Entry) → WaitsBy A (after A (under_dispatch s pid) u) o → BegunAwaits A (paged_after A s u) o
    go (Some (entries.Refused p)) w = one p w
    go (Some (entries.Out p bytes)) w = one p w
    go _ w = tt

-- After the end of a transfer.

done_place : (A : Inputs) (s : State) (p : ℕ) → (after A (under_dispatch s p) entries.Done).place ≡ (after A s entries.Done).place
unfolding after
done_place A s p = refl

done_point : (A : Inputs) (s : State) (p : ℕ) → (after A (under_dispatch s p) entries.Done).point ≡ (after A s entries.Done).point
unfolding after
done_point A s p = refl

done_begun : (A : Inputs) (s : State) → Steady A s → (o : Option Entry) → BegunAwaits A s o → BegunAwaits A (paged_after A s entries.Done) o
done_begun A s st o w = go o w
  where
    one : (p : ℕ) → Awaits A (under_dispatch s p) p → Awaits A (under_dispatch (paged_after A s entries.Done) p) p
    one p a =
        awaits_moved A (after A (under_dispatch s p) entries.Done) (under_dispatch (paged_after A s entries.Done) p) p (sym (done_place A s p)) (sym (done_point A s p))
        (after_count A s entries.Done ∙ sym (after_count A (under_dispatch s p) entries.Done)) refl
        (done_awaits A (under_dispatch s p) p (owns A s st.placed) a)

    go : (o : Option Entry) → BegunAwaits A s o → BegunAwaits A (paged_after A s entries.Done) o
    go (Some (entries.Refused p)) w = one p w
    go (Some (entries.Out p bytes)) w = one p w
    go _ w = tt

-- Where none is begun nobody is waited for.

pub none_begun : (A : Inputs) (t : State) (o : Option Entry) → begun o ≡ None → BegunAwaits A t o
none_begun A t (Some (entries.Refused p)) e = absurd cc
none_begun A t (Some (entries.Out p bytes)) e = absurd cc
none_begun A t _ e = tt

plain_begun : (A : Inputs) (s : State) (u : Entry) → process_of_entry u ≡ None → begun s.point.last ≡ None
    → BegunAwaits A (paged_after A s u) (paged_after A s u).point.last
plain_begun A s u n e =
    subst (λ (q : Point). BegunAwaits A (paged_after A s u) q.last) (sym (plain_point A s u n)) (none_begun A (paged_after A s u) s.point.last e)

-- So it is after each unit that may come.

unit_awaits : (A : Inputs) (s : State) (u : Entry) → ImagesFit A.images → IsPaged A s → unit_reason A s u ≡ None
    → BegunAwaits A (paged_after A s u) (paged_after A s u).point.last
unfolding unit_reason
unit_awaits A s (entries.Ran p n) images x h = process_awaits A s p (entries.Ran p n) images x.steady h refl
unit_awaits A s (entries.Out p bytes) images x h = process_awaits A s p (entries.Out p bytes) images x.steady h refl
unit_awaits A s (entries.Grew p n) images x h = process_awaits A s p (entries.Grew p n) images x.steady h refl
unit_awaits A s (entries.Call p n c r0 r1) images x h = process_awaits A s p (entries.Call p n c r0 r1) images x.steady h refl
unit_awaits A s (entries.Refused p) images x h = process_awaits A s p (entries.Refused p) images x.steady h refl
unit_awaits A s (entries.Sleeps p) images x h = process_awaits A s p (entries.Sleeps p) images x.steady h refl
unit_awaits A s (entries.Ended p n) images x h = process_awaits A s p (entries.Ended p n) images x.steady h refl
unit_awaits A s entries.Done images x h =
    subst (λ (q : Point). BegunAwaits A (paged_after A s entries.Done) q.last) (sym (plain_point A s entries.Done refl)) (done_begun A s x.steady s.point.last x.awaits)
unit_awaits A s (entries.Event line) images x h = plain_begun A s (entries.Event line) refl (or_none (begun s.point.last) (event_reason s line) h).0
unit_awaits A s (entries.Turn pid) images x h = plain_begun A s (entries.Turn pid) refl (or_none (begun s.point.last) (turn_reason A s pid) h).0
unit_awaits A s (entries.Zero q) images x h = plain_begun A s (entries.Zero q) refl (or_none (begun s.point.last) (zero_reason s.place q) h).0
unit_awaits A s (entries.Get q lo n) images x h = plain_begun A s (entries.Get q lo n) refl (or_none (begun s.point.last) (get_reason s.place q lo n) h).0
unit_awaits A s (entries.Copy q) images x h = plain_begun A s (entries.Copy q) refl (or_none (begun s.point.last) (copy_reason s.place q) h).0
unit_awaits A s (entries.Reclaim q) images x h = plain_begun A s (entries.Reclaim q) refl (or_none (begun s.point.last) (reclaim_reason s.place q) h).0
unit_awaits A s (entries.Hands n) images x h = plain_begun A s (entries.Hands n) refl (or_none (begun s.point.last) (hand_reason s.place (locked A s)) h).0
unit_awaits A s (entries.Put q n) images x h = plain_begun A s (entries.Put q n) refl (or_none (begun s.point.last) (put_reason s.point.flat s.place q n) h).0
unit_awaits A s (entries.SwapOut pid) images x h = plain_begun A s (entries.SwapOut pid) refl (or_none (begun s.point.last) (out_reason s.point.flat s.place pid) h).0
unit_awaits A s (entries.SwapIn pid) images x h = plain_begun A s (entries.SwapIn pid) refl (or_none (begun s.point.last) (in_reason s.point.flat s.place pid) h).0
unit_awaits A s (entries.Owners f u m k) images x h = plain_begun A s (entries.Owners f u m k) refl (or_none (begun s.point.last) (owners_reason s (entries.Owners f u m k)) h).0

pub unit_paged : (A : Inputs) (s : State) (u : Entry) → ImagesFit A.images → IsUnit u → IsPaged A s → unit_reason A s u ≡ None → IsPaged A (paged_after A s u)
unit_paged A s u images k x h =
    let t : Steady A (after A s u) = unit_steady A s u images k x.steady h in
    record {
      steady = record { placed = t.placed; numbers = t.numbers; lenders = t.lenders; texts = t.texts; sized = t.sized; says = t.says };
      awaits = unit_awaits A s u images x h;
    }
