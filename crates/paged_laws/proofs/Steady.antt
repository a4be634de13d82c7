-- What stands at each state of a paged run.
use Rattle.std.proofs.Common.{◌≡◌, inl, inr, ℕ, ◌==◌, Bool, true, false, List, [], ◌∷◌, Option, Some, None, refl, sym, ap, ◌∙◌, subst}
use Rattle.std.proofs.lemmas.Bool.{eqb-true}
use Rattle.vm_facts.specs.declared.entry.Entry.{Entry}
use Rattle.vm_facts.specs.declared.entry.Entry.TheVariants as entries
use Rattle.swap_book.specs.Holdings.{Holdings}
use Rattle.flat_state.specs.Flat.{FlatState, Inputs, can_step}
use Rattle.flat_state.specs.Numbers.{IsNumbered}
use Rattle.flat_state.specs.Lenders.{LendsStand}
use Rattle.flat_state.specs.Journal.{IsUnit, AllUnits}
use Rattle.page_model.specs.Placement.{Placement}
use Rattle.kernel_model.specs.Start.{ImagesFit}
use Rattle.run_laws.specs.Whole.{AllSized}
use Rattle.flat_model.specs.Run.{Point, due_at, process_of_entry, may_follow, ComesAt, first_if, entry_of_step}
use Rattle.flat_model.proofs.Coming.{Came, came}
use Rattle.run_model.specs.declared.mark.Mark.{Mark}
use Rattle.run_model.specs.declared.mark.Mark.TheVariants as marks
use Rattle.run_model.specs.State.{State}
use Rattle.run_model.specs.Wanted.{locked}
use Rattle.run_model.specs.After.{after, place_at}
use Rattle.run_model.specs.Act.{act}
use Rattle.run_model.proofs.Acting.{next_flat, next_says}
use Rattle.run_laws.specs.Standing.{Placed, TextsHeld}
use Rattle.run_laws.specs.Flowing.{Awaits, WaitsBy}
use Rattle.run_laws.specs.Running.{IsRun}
use Rattle.run_laws.proofs.Flows.{Acted, Settles, Refuses, Steps as StepsOn, acted, plain_point}
use Rattle.run_laws.proofs.Units.{Good, good_stands, sixteen}
use Rattle.run_laws.proofs.Running.{run_on}
use Rattle.run_laws.proofs.Execs.{execs_fit}
use Rattle.paged_model.specs.declared.reason.Reason.TheVariants as reasons
use Rattle.paged_model.specs.Moves.{zero_reason, copy_reason, get_reason, reclaim_reason, hand_reason}
use Rattle.paged_model.specs.Leaving.{put_reason, out_reason}
use Rattle.paged_model.specs.Runs.{paged_after, paged_state, unit_reason, units_reason}
use Rattle.paged_model.specs.Steps.{begun, other_begun, step_reason}
use Rattle.paged_model.proofs.Reasoned.{or_none, unless_none}
use Rattle.paged_laws.specs.Paged.{Steady, under_dispatch}
use Rattle.paged_laws.proofs.Acted.{Steps, steps, act_is, is_next}
use Rattle.paged_laws.proofs.Virtual.{runs_so, wants_none, next_so}
use Rattle.paged_laws.proofs.Permitted.{Permitted, zero_permitted, copy_permitted, get_permitted, reclaim_permitted, hand_permitted, put_permitted, done_permitted, out_permitted}

-- a state of a run by the policy is steady
pub run_steady : (A : Inputs) (s : State) → IsRun A s → Steady A s
run_steady A s r = record { placed = r.placed; numbers = r.numbers; lenders = r.lenders; texts = r.texts; sized = r.sized; says = r.flows.says }

-- A process.

not_done : (pid : ℕ) (u : Entry) → process_of_entry u ≡ Some pid → u ≡ entries.Done → ⊥
not_done pid u p e = let x : process_of_entry entries.Done ≡ Some pid = ap process_of_entry (sym e) ∙ p in absurd cc

-- an entry of its step is left
entry_left : (A : Inputs) (point : Point) (pid : ℕ) (u : Entry) → entry_of_step A point pid ≡ Some u → due_at A point pid ≡ [] → ⊥
entry_left A point pid u e d = go (can_step point.flat pid) (sym (ap (first_if (can_step point.flat pid)) d) ∙ e)
  where
    go : (b : Bool) → first_if b [] ≡ Some u → ⊥
    go true x = absurd cc
    go false x = absurd cc

-- what is left of a step that its first entry began
left_of : (A : Inputs) (s : State) (pid : ℕ) (u : Entry) → act A s pid ≡ Some u → process_of_entry u ≡ Some pid
    → (may_follow s.point.last (entries.Refused pid) ≡ true → ⊥) → may_follow s.point.last u ≡ true → due_at A s.point pid ≡ [] → ⊥
left_of A s pid u a p deny may = go (acted A s pid u a)
  where
    go : Acted A s pid u → due_at A s.point pid ≡ [] → ⊥
    go (Settles e) d = not_done pid u p e
    go (Refuses e) d = deny (subst (λ (x : Entry). may_follow s.point.last x ≡ true) e may)
    go (StepsOn f g e) d = entry_left A s.point pid u e d

own_refused : (p pid : ℕ) → other_begun (Some (entries.Refused p)) pid ≡ None → p ≡ pid
own_refused p pid z = eqb-true p pid (unless_none (p == pid) (reasons.Begun p) z)

own_out : (p pid : ℕ) (bytes : List ℕ) → other_begun (Some (entries.Out p bytes)) pid ≡ None → p ≡ pid
own_out p pid bytes z = eqb-true p pid (unless_none (p == pid) (reasons.Begun p) z)

never_refused : (p pid : ℕ) → may_follow (Some (entries.Refused p)) (entries.Refused pid) ≡ true → ⊥
never_refused p pid f = absurd cc

never_out : (p pid : ℕ) (bytes : List ℕ) → may_follow (Some (entries.Out p bytes)) (entries.Refused pid) ≡ true → ⊥
never_out p pid bytes f = absurd cc

module _ (A : Inputs) (s : State) (m : Mark) where
  -- a unit leaves the same under each mark
  pub same_point : (u : Entry) (pid : ℕ) → process_of_entry u ≡ Some pid → (after A (record s { mark = m }) u).point ≡ (after A s u).point
  unfolding after
  same_point (entries.Ran p n) pid e = refl
  same_point (entries.Out p bytes) pid e = refl
  same_point (entries.Grew p n) pid e = refl
  same_point (entries.Call p n c r0 r1) pid e = refl
  same_point (entries.Refused p) pid e = refl
  same_point (entries.Sleeps p) pid e = refl
  same_point (entries.Ended p n) pid e = refl
  same_point _ pid e = absurd cc

  pub same_place : (u : Entry) (pid : ℕ) → process_of_entry u ≡ Some pid → (after A (record s { mark = m }) u).place ≡ (after A s u).place
  unfolding after
  same_place (entries.Ran p n) pid e = refl
  same_place (entries.Out p bytes) pid e = refl
  same_place (entries.Grew p n) pid e = refl
  same_place (entries.Call p n c r0 r1) pid e = refl
  same_place (entries.Refused p) pid e = refl
  same_place (entries.Sleeps p) pid e = refl
  same_place (entries.Ended p n) pid e = refl
  same_place _ pid e = absurd cc

  pub same_holdings : (u : Entry) (pid : ℕ) → process_of_entry u ≡ Some pid → (after A (record s { mark = m }) u).holdings ≡ (after A s u).holdings
  unfolding after
  same_holdings (entries.Ran p n) pid e = refl
  same_holdings (entries.Out p bytes) pid e = refl
  same_holdings (entries.Grew p n) pid e = refl
  same_holdings (entries.Call p n c r0 r1) pid e = refl
  same_holdings (entries.Refused p) pid e = refl
  same_holdings (entries.Sleeps p) pid e = refl
  same_holdings (entries.Ended p n) pid e = refl
  same_holdings _ pid e = absurd cc

module _ (A : Inputs) (s : State) (pid : ℕ) (u : Entry) (st : Steady A s) (e : step_reason A s pid u ≡ None) (own : process_of_entry u ≡ Some pid) where
  so : Steps A s pid u
  so = steps A s pid u e

  -- it follows the last flat entry
  follows : may_follow s.point.last u ≡ true
  follows =
      let c : Came A s.point (after A s u).point pid u = came A s.point (after A s u).point pid u own (next_flat A s u st.says (is_next A s pid u e)) in
      let k : ComesAt A s.point pid u = c.comes in
      k.follows

  awaits_so : (may_follow s.point.last (entries.Refused pid) ≡ true → ⊥) → Awaits A (under_dispatch s pid) pid
  awaits_so deny = record {
    now = false;
    runs = runs_so A s pid u so;
    unwanted = wants_none A s pid u so;
    left = left_of A s pid u (act_is pid u (act A s pid) so.does) own deny follows;
  }

  waits_so : (o : Option Entry) → s.point.last ≡ o → WaitsBy A (under_dispatch s pid) o
  waits_so (Some (entries.Refused p)) i =
      let same : p ≡ pid = own_refused p pid (subst (λ (o : Option Entry). other_begun o pid ≡ None) i so.own) in
      subst (λ (n : ℕ). Awaits A (under_dispatch s pid) n) (sym same)
      (awaits_so (λ f. never_refused p pid (subst (λ (o : Option Entry). may_follow o (entries.Refused pid) ≡ true) i f)))
  waits_so (Some (entries.Out p bytes)) i =
      let same : p ≡ pid = own_out p pid bytes (subst (λ (o : Option Entry). other_begun o pid ≡ None) i so.own) in
      subst (λ (n : ℕ). Awaits A (under_dispatch s pid) n) (sym same)
      (awaits_so (λ f. never_out p pid bytes (subst (λ (o : Option Entry). may_follow o (entries.Refused pid) ≡ true) i f)))
  waits_so _ i = tt

  pub run_so : IsRun A (under_dispatch s pid)
  run_so = record {
    placed = st.placed;
    numbers = st.numbers;
    lenders = st.lenders;
    texts = st.texts;
    sized = st.sized;
    flows = record { says = st.says; waits = waits_so s.point.last refl };
    mark = tt;
  }

  pub process_steady : ImagesFit A.images → Steady A (after A s u)
  process_steady images =
      let r : IsRun A (after A (under_dispatch s pid) u) = run_on A (under_dispatch s pid) u images (execs_fit A) run_so (next_so A s pid u so) in
      let m = marks.Dispatch pid 1 s.count in
      let point : (after A (under_dispatch s pid) u).point ≡ (after A s u).point = same_point A s m u pid own in
      let flat : (after A (under_dispatch s pid) u).point.flat ≡ (after A s u).point.flat = ap (λ (x : Point). x.flat) point in
      record {
        placed = subst (λ (h : Holdings). Placed A (after A s u).point.flat (after A s u).place h) (same_holdings A s m u pid own)
            (subst (λ (p : Placement). Placed A (after A s u).point.flat p (after A (under_dispatch s pid) u).holdings) (same_place A s m u pid own)
            (subst (λ (f : FlatState). Placed A f (after A (under_dispatch s pid) u).place (after A (under_dispatch s pid) u).holdings) flat r.placed));
        numbers = subst IsNumbered flat r.numbers;
        lenders = subst LendsStand flat r.lenders;
        texts = subst (TextsHeld A.images) flat r.texts;
        sized = subst (λ (f : FlatState). AllSized f.processes) flat r.sized;
        says = next_says A s u st.says (inr (is_next A s pid u e));
      }

-- The others.

plain_steady : (A : Inputs) (s : State) (u : Entry) → Steady A s → process_of_entry u ≡ None
    → Permitted s.point.flat (locked A s) (place_at s u) s.place u → Steady A (after A s u)
plain_steady A s u st none p =
    let g : Good A s u = record { plain = none; allowed = p.allowed; few = p.few; leaves = p.leaves } in
    let flat : (after A s u).point.flat ≡ s.point.flat = ap (λ (x : Point). x.flat) (plain_point A s u none) in
    record {
      placed = good_stands A s u g st.placed;
      numbers = subst IsNumbered (sym flat) st.numbers;
      lenders = subst LendsStand (sym flat) st.lenders;
      texts = subst (TextsHeld A.images) (sym flat) st.texts;
      sized = subst (λ (f : FlatState). AllSized f.processes) (sym flat) st.sized;
      says = next_says A s u st.says (inl none);
    }

pub unit_steady : (A : Inputs) (s : State) (u : Entry) → ImagesFit A.images → IsUnit u → Steady A s → unit_reason A s u ≡ None → Steady A (after A s u)
unfolding unit_reason
unit_steady A s (entries.Ran p n) images k st h = process_steady A s p (entries.Ran p n) st h refl images
unit_steady A s (entries.Out p bytes) images k st h = process_steady A s p (entries.Out p bytes) st h refl images
unit_steady A s (entries.Grew p n) images k st h = process_steady A s p (entries.Grew p n) st h refl images
unit_steady A s (entries.Call p n c r0 r1) images k st h = process_steady A s p (entries.Call p n c r0 r1) st h refl images
unit_steady A s (entries.Refused p) images k st h = process_steady A s p (entries.Refused p) st h refl images
unit_steady A s (entries.Sleeps p) images k st h = process_steady A s p (entries.Sleeps p) st h refl images
unit_steady A s (entries.Ended p n) images k st h = process_steady A s p (entries.Ended p n) st h refl images
unit_steady A s (entries.Event line) images k st h = plain_steady A s (entries.Event line) st refl (record {
  allowed = record { can = tt; shared = tt; begins = tt; leaves = tt; finds = tt };
  few = sixteen A s st.placed;
  leaves = λ n l. absurd l;
})
unit_steady A s (entries.Turn pid) images k st h = plain_steady A s (entries.Turn pid) st refl (record {
  allowed = record { can = tt; shared = tt; begins = tt; leaves = tt; finds = tt };
  few = sixteen A s st.placed;
  leaves = λ n l. absurd l;
})
unit_steady A s (entries.Owners f u m o) images k st h = plain_steady A s (entries.Owners f u m o) st refl (record {
  allowed = record { can = tt; shared = tt; begins = tt; leaves = tt; finds = tt };
  few = sixteen A s st.placed;
  leaves = λ n l. absurd l;
})
unit_steady A s (entries.SwapIn pid) images k st h = plain_steady A s (entries.SwapIn pid) st refl (record {
  allowed = record { can = tt; shared = tt; begins = tt; leaves = tt; finds = tt };
  few = sixteen A s st.placed;
  leaves = λ n l. absurd l;
})
unit_steady A s (entries.Zero q) images k st h =
    let p : Placed A s.point.flat s.place s.holdings = st.placed in
    plain_steady A s (entries.Zero q) st refl
    (zero_permitted s.point.flat (locked A s) (place_at s (entries.Zero q)) s.place q p.once (sixteen A s p) (or_none (begun s.point.last) (zero_reason s.place q) h).1)
unit_steady A s (entries.Copy q) images k st h =
    let p : Placed A s.point.flat s.place s.holdings = st.placed in
    plain_steady A s (entries.Copy q) st refl
    (copy_permitted s.point.flat (locked A s) (place_at s (entries.Copy q)) s.place q p.dues p.once (sixteen A s p)
    (or_none (begun s.point.last) (copy_reason s.place q) h).1)
unit_steady A s (entries.Get q lo n) images k st h =
    let p : Placed A s.point.flat s.place s.holdings = st.placed in
    plain_steady A s (entries.Get q lo n) st refl
    (get_permitted s.point.flat (locked A s) (place_at s (entries.Get q lo n)) s.place q lo n p.dues (or_none (begun s.point.last) (get_reason s.place q lo n) h).1)
unit_steady A s (entries.Reclaim q) images k st h =
    plain_steady A s (entries.Reclaim q) st refl
    (reclaim_permitted s.point.flat (locked A s) (place_at s (entries.Reclaim q)) s.place q (sixteen A s st.placed)
    (or_none (begun s.point.last) (reclaim_reason s.place q) h).1)
unit_steady A s (entries.Hands n) images k st h =
    let a = or_none (begun s.point.last) (hand_reason s.place (locked A s)) h in
    subst (λ (m : ℕ). Steady A (after A s (entries.Hands m))) (sym k)
    (plain_steady A s (entries.Hands 1) st refl (hand_permitted s.point.flat (locked A s) (place_at s (entries.Hands 1)) s.place (sixteen A s st.placed) a.1))
unit_steady A s (entries.Put q n) images k st h =
    plain_steady A s (entries.Put q n) st refl
    (put_permitted s.point.flat (locked A s) (place_at s (entries.Put q n)) s.place q n (sixteen A s st.placed)
    (or_none (begun s.point.last) (put_reason s.point.flat s.place q n) h).1)
unit_steady A s entries.Done images k st h =
    plain_steady A s entries.Done st refl (done_permitted s.point.flat (locked A s) (place_at s entries.Done) s.place (sixteen A s st.placed) h)
unit_steady A s (entries.SwapOut pid) images k st h =
    plain_steady A s (entries.SwapOut pid) st refl
    (out_permitted s.point.flat (locked A s) (place_at s (entries.SwapOut pid)) s.place pid (sixteen A s st.placed)
    (or_none (begun s.point.last) (out_reason s.point.flat s.place pid) h).1)

pub units_steady : (A : Inputs) (s : State) (us : List Entry) → ImagesFit A.images → AllUnits us → Steady A s → units_reason A s us ≡ None
    → Steady A (paged_state A s us)
unfolding units_reason paged_state
units_steady A s [] images k st h = st
units_steady A s (u ∷ us) images k st h =
    let o = or_none (unit_reason A s u) (units_reason A (paged_after A s u) us) h in
    let t : Steady A (after A s u) = unit_steady A s u images k.0 st o.0 in
    units_steady A (paged_after A s u) us images k.1
    (record { placed = t.placed; numbers = t.numbers; lenders = t.lenders; texts = t.texts; sized = t.sized; says = t.says }) o.1
