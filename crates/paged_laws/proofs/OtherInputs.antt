-- A paged run goes by no line of a schedule, and by the limit only so far that as many instructions may be counted.
use Rattle.std.proofs.Common.{◌≡◌, ℕ, ◌+◌, ◌≤◌, max, nat_le, Bool, true, false, not, ◌&&◌, List, [], ◌∷◌, Option, Some, None, Result, Ok, Err, refl, sym, ap, ap₂, ◌∙◌, subst, arith}
use Rattle.std.proofs.lemmas.Bool.Decides.{nat_tests}
use Rattle.vm_facts.specs.declared.page.Page.{Page}
use Rattle.vm_facts.specs.declared.event.Event.{Event}
use Rattle.vm_facts.specs.declared.entry.Entry.{Entry}
use Rattle.vm_facts.specs.declared.entry.Entry.TheVariants as entries
use Rattle.swap_book.specs.Holdings.{Holdings}
use Rattle.swap_book.specs.Placing.{Wanted, fits, place_all}
use Rattle.flat_state.specs.Flat.{Holding, Holds, Lends, Zombie, Process, FlatState, Inputs, process_of, can_step}
use Rattle.flat_state.specs.Journal.{counted, units_of}
use Rattle.page_model.specs.Place.{place_entry}
use Rattle.page_model.specs.Swapper.{is_out}
use Rattle.flat_model.specs.Step.{Step, flat_step}
use Rattle.flat_model.specs.Run.{is_refused, step_at}
use Rattle.flat_model.specs.Touched.{touched}
use Rattle.flat_model.specs.Asked.{asks_by, asks, held_in, held_if, held_step, held_entry, contains, first_then, first_wanted, first_held}
use Rattle.run_model.specs.Snapshot.{touched_of, passed_over}
use Rattle.run_model.specs.State.{State, start}
use Rattle.run_model.specs.Wanted.{running, first_absent, locked}
use Rattle.run_model.specs.After.{place_at, after}
use Rattle.run_model.specs.Act.{must_refuse, must_settle, act_by, act_if, act}
use Rattle.paged_model.specs.declared.reason.Reason.{Reason}
use Rattle.paged_model.specs.declared.reason.Reason.TheVariants as reasons
use Rattle.paged_model.specs.Reasons.{unless, or_reason}
use Rattle.paged_model.specs.Moves.{due_first, hand_reason}
use Rattle.paged_model.specs.Steps.{begun, other_begun, stuck_if, stuck, away_by, page_away, other_act, step_reason}
use Rattle.paged_model.specs.Runs.{paged_after, unit_reason, units_reason, IsPagedRun}
use Rattle.paged_model.proofs.Reasoned.{or_none, none_or, unless_none, none_unless}
use Rattle.paged_model.proofs.Fronts.{front_units}
use Rattle.paged_laws.specs.Led.{with_others}
use Rattle.paged_laws.proofs.PolicyRuns.{lines_none}

module _ (A : Inputs) (ls : List Event) (l : ℕ) where
  -- What processes do.

  touched_alike : (F : FlatState) (pid : ℕ) → touched (with_others A ls l) F pid ≡ touched A F pid
  unfolding touched
  touched_alike F pid = refl

  asks_alike : (F : FlatState) (pid : ℕ) → asks (with_others A ls l) F pid ≡ asks A F pid
  unfolding asks flat_step
  asks_alike F pid = go (can_step F pid)
    where
      go : (b : Bool) → asks_by b (with_others A ls l) F pid ≡ asks_by b A F pid
      go true = refl
      go false = refl

  refuse_alike : (s : State) (pid : ℕ) → must_refuse (with_others A ls l) s pid ≡ must_refuse A s pid
  refuse_alike s pid = ap (λ (ws : List Wanted). not (is_refused s.point.last pid) && not (fits A.swap_blocks s.holdings ws)) (asks_alike s.point.flat pid)

  settle_alike : (s : State) (pid : ℕ) → must_settle (with_others A ls l) s pid ≡ must_settle A s pid
  unfolding flat_step
  settle_alike s pid = refl

  by_alike : (s : State) (pid : ℕ) (a b : Bool) → act_by (with_others A ls l) s pid a b ≡ act_by A s pid a b
  unfolding flat_step
  by_alike s pid true b = refl
  by_alike s pid false true = refl
  by_alike s pid false false = refl

  act_alike : (s : State) (pid : ℕ) → act (with_others A ls l) s pid ≡ act A s pid
  unfolding act
  act_alike s pid = go (can_step s.point.flat pid)
    where
      go : (b : Bool) → act_if b (with_others A ls l) s pid ≡ act_if b A s pid
      go true = ap₂ (act_by (with_others A ls l) s pid) (refuse_alike s pid) (settle_alike s pid) ∙ by_alike s pid (must_refuse A s pid) (must_settle A s pid)
      go false = refl

  held_alike : (F : FlatState) (pid : ℕ) (step : Step) (hs : Holdings) → held_step (with_others A ls l) F pid step hs ≡ held_step A F pid step hs
  unfolding held_step
  held_alike F pid step hs = go (process_of F pid)
    where
      by : (h : Holding) → held_in (with_others A ls l) F pid step hs h ≡ held_in A F pid step hs h
      by (Holds s) = refl
      by (Lends sid child) = refl
      by (Zombie status) = refl

      go : (o : Option Process) → held_if (with_others A ls l) F pid step hs o ≡ held_if A F pid step hs o
      go None = refl
      go (Some p) = by p.holding

  entry_alike : (s : State) (u : Entry) → held_entry (with_others A ls l) s.point u s.holdings ≡ held_entry A s.point u s.holdings
  unfolding flat_step
  entry_alike s (entries.Grew p pages) = held_alike s.point.flat p (step_at A s.point p) s.holdings
  entry_alike s (entries.Call p n c x y) = held_alike s.point.flat p (step_at A s.point p) s.holdings
  entry_alike s (entries.Ended p status) = held_alike s.point.flat p (step_at A s.point p) s.holdings
  entry_alike s _ = refl

  -- What the hands pass over.

  running_alike : (F : FlatState) (o : Option ℕ) → touched_of (with_others A ls l) F o ≡ touched_of A F o
  running_alike F None = refl
  running_alike F (Some pid) = touched_alike F pid

  locked_alike : (s : State) → locked (with_others A ls l) s ≡ locked A s
  locked_alike s = ap (λ (qs : List Page). passed_over s.place qs s.place.due) (running_alike s.point.flat (running s.mark))

  -- A unit.

  after_alike : (s : State) (u : Entry) → paged_after (with_others A ls l) s u ≡ paged_after A s u
  unfolding after flat_step
  after_alike s (entries.Grew p pages) = ap (λ (hs : Holdings). record (paged_after A s (entries.Grew p pages)) { holdings = hs }) (entry_alike s (entries.Grew p pages))
  after_alike s (entries.Call p n c x y) = ap (λ (hs : Holdings). record (paged_after A s (entries.Call p n c x y)) { holdings = hs }) (entry_alike s (entries.Call p n c x y))
  after_alike s (entries.Ended p status) = ap (λ (hs : Holdings). record (paged_after A s (entries.Ended p status)) { holdings = hs }) (entry_alike s (entries.Ended p status))
  after_alike s (entries.Hands n) =
      ap (λ (qs : List Page). record (paged_after A s (entries.Hands n)) { place = place_entry qs (place_at s (entries.Hands n)) s.place (entries.Hands n) }) (locked_alike s)
  after_alike s _ = refl

  stuck_alike : (s : State) (pid : ℕ) → stuck (with_others A ls l) s pid ≡ stuck A s pid
  stuck_alike s pid = go (process_of s.point.flat pid)
    where
      go : (o : Option Process) → stuck_if (with_others A ls l) s pid o ≡ stuck_if A s pid o
      go None = refl
      go (Some q) = refl

  -- what is asked of an entry of a process, but how many instructions may be counted
  abbrev asked : State → ℕ → Option Reason → Option Reason → Option Reason → Option Reason
  asked s pid a b c =
      or_reason a (or_reason (other_begun s.point.last pid) (or_reason (due_first s.place.due) (or_reason (unless (not (is_out s.place pid)) (reasons.IsOut pid)) (or_reason b c))))

  asked_alike : (s : State) (pid : ℕ) (u : Entry)
      → asked s pid (stuck (with_others A ls l) s pid) (page_away (with_others A ls l) s pid) (other_act pid u (act (with_others A ls l) s pid))
      ≡ asked s pid (stuck A s pid) (page_away A s pid) (other_act pid u (act A s pid))
  asked_alike s pid u =
      ap (λ (a : Option Reason). asked s pid a (page_away (with_others A ls l) s pid) (other_act pid u (act (with_others A ls l) s pid))) (stuck_alike s pid)
      ∙ ap (λ (qs : List Page). asked s pid (stuck A s pid) (away_by s.place (first_absent s.place qs)) (other_act pid u (act (with_others A ls l) s pid)))
      (touched_alike s.point.flat pid)
      ∙ ap (λ (o : Option Entry). asked s pid (stuck A s pid) (page_away A s pid) (other_act pid u o)) (act_alike s pid)

  step_alike : (s : State) (pid : ℕ) (u : Entry) → A.limit ≤ l → step_reason A s pid u ≡ None → step_reason (with_others A ls l) s pid u ≡ None
  step_alike s pid u low h =
      let o = or_none (unless (nat_le (s.count + max 1 (counted u)) A.limit) reasons.TooMany)
      (asked s pid (stuck A s pid) (page_away A s pid) (other_act pid u (act A s pid))) h in
      let t : nat_le (s.count + max 1 (counted u)) A.limit ≡ true = unless_none (nat_le (s.count + max 1 (counted u)) A.limit) reasons.TooMany o.0 in
      let few : s.count + max 1 (counted u) ≤ A.limit = grind (arith, nat_tests) in
      let more : s.count + max 1 (counted u) ≤ l = omega (arith, few, low) in
      none_or (unless (nat_le (s.count + max 1 (counted u)) l) reasons.TooMany)
      (asked s pid (stuck (with_others A ls l) s pid) (page_away (with_others A ls l) s pid) (other_act pid u (act (with_others A ls l) s pid)))
      (none_unless (nat_le (s.count + max 1 (counted u)) l) reasons.TooMany (grind (arith, nat_tests))) (asked_alike s pid u ∙ o.1)

  unit_alike : (s : State) (u : Entry) → A.limit ≤ l → unit_reason A s u ≡ None → unit_reason (with_others A ls l) s u ≡ None
  unfolding unit_reason
  unit_alike s (entries.Ran p n) low h = step_alike s p (entries.Ran p n) low h
  unit_alike s (entries.Out p bytes) low h = step_alike s p (entries.Out p bytes) low h
  unit_alike s (entries.Grew p n) low h = step_alike s p (entries.Grew p n) low h
  unit_alike s (entries.Call p n c x y) low h = step_alike s p (entries.Call p n c x y) low h
  unit_alike s (entries.Refused p) low h = step_alike s p (entries.Refused p) low h
  unit_alike s (entries.Sleeps p) low h = step_alike s p (entries.Sleeps p) low h
  unit_alike s (entries.Ended p n) low h = step_alike s p (entries.Ended p n) low h
  unit_alike s (entries.Turn pid) low h = ap (or_reason (begun s.point.last)) (stuck_alike s pid) ∙ h
  unit_alike s (entries.Hands n) low h = ap (λ (qs : List Page). or_reason (begun s.point.last) (hand_reason s.place qs)) (locked_alike s) ∙ h
  unit_alike s _ low h = h

  units_alike : (s : State) (us : List Entry) → A.limit ≤ l → units_reason A s us ≡ None → units_reason (with_others A ls l) s us ≡ None
  unfolding units_reason
  units_alike s [] low h = refl
  units_alike s (u ∷ us) low h =
      let o = or_none (unit_reason A s u) (units_reason A (paged_after A s u) us) h in
      none_or (unit_reason (with_others A ls l) s u) (units_reason (with_others A ls l) (paged_after (with_others A ls l) s u) us) (unit_alike s u low o.0)
      (subst (λ (t : State). units_reason (with_others A ls l) t us ≡ None) (sym (after_alike s u)) (units_alike (paged_after A s u) us low o.1))

  -- The start.

  first_alike : (earlier : List ℕ) (pid : ℕ) (numbers : List ℕ) (hs : Holdings) → first_held (with_others A ls l) earlier pid numbers hs ≡ first_held A earlier pid numbers hs
  unfolding first_held
  first_alike earlier pid [] hs = refl
  first_alike earlier pid (number ∷ more) hs =
      go (place_all A.swap_blocks hs (first_wanted A.images (contains earlier number) pid number)) (first_alike (number ∷ earlier) (pid + 1) more)
    where
      go : (r : Result Holdings ℕ) → ((now : Holdings) → first_held (with_others A ls l) (number ∷ earlier) (pid + 1) more now ≡ first_held A (number ∷ earlier) (pid + 1) more now)
          → first_then pid r (first_held (with_others A ls l) (number ∷ earlier) (pid + 1) more) ≡ first_then pid r (first_held A (number ∷ earlier) (pid + 1) more)
      go (Ok now) ih = ih now
      go (Err n) ih = refl

  pub other_run : (es : List Entry) → A.limit ≤ l → IsPagedRun A es → IsPagedRun (with_others A ls l) es
  other_run es low r = record {
    holdings = r.holdings;
    found = first_alike [] 1 A.first [] ∙ r.found;
    good = lines_none (with_others A ls l) (start A r.holdings) 1 es (units_alike (start A r.holdings) (units_of es) low (front_units A (start A r.holdings) 1 es r.good));
  }
