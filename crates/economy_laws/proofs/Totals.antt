-- All units of a run: what each costs, and what that comes to.
use Rattle.std.proofs.Common.{◌≡◌, ℕ, suc, ◌+◌, ◌-◌, ◌*◌, ◌<◌, ◌≤◌, ◌&&◌, nat_lt, not, Bool, true, false, cond, List, [], ◌∷◌, length, Option, Some, None, refl, sym, ap, ◌∙◌, subst, arith}
use Rattle.std.specs.Prelude.{drop, get_or, slice_get}
use Rattle.std.specs.List.{count_by}
use Rattle.std.proofs.lemmas.Bool.{ltb-true}
use Rattle.std.proofs.lemmas.List.{at_drop_more, length-append}
use Rattle.std.proofs.lemmas.Option.{slice_get-get_or}
use Rattle.vm_facts.specs.declared.event.Event.{Event}
use Rattle.vm_facts.specs.declared.event.Event.TheVariants as events
use Rattle.vm_facts.specs.declared.entry.Entry.{Entry}
use Rattle.vm_facts.specs.declared.entry.Entry.TheVariants as entries
use Rattle.swap_book.specs.Holdings.{Holdings}
use Rattle.flat_state.specs.Flat.{Process, NamedImage, Inputs, image_numbered, start_processes}
use Rattle.flat_state.specs.Journal.{appended, counted, instructions_of}
use Rattle.page_model.specs.Placement.{Placement, Starting, due_from}
use Rattle.page_model.specs.Swapper.{Choice, In, Out, Nothing, swap_choice}
use Rattle.kernel_model.specs.Start.{ImagesFit}
use Rattle.run_model.specs.State.{State, start, runners}
use Rattle.run_model.specs.Snapshot.{starting_as, starting}
use Rattle.run_model.specs.Wanted.{running}
use Rattle.run_model.specs.After.{interrupt_mark, swap_mark, mark_of_event, mark_of_line, after}
use Rattle.run_model.specs.Next.{when, turn_of, next_turned, last_turned, line_or_turn, next_mark, next_unit}
use Rattle.run_model.specs.Kinds.{ProcessRuns}
use Rattle.run_model.specs.Lawful.{Follows, Reaches}
use Rattle.run_laws.specs.Sized.{InputsSized, PlaceSized}
use Rattle.run_laws.specs.Running.{IsRun, CanRun, ReadyToStep}
use Rattle.run_laws.proofs.Flows.{on_running}
use Rattle.run_laws.proofs.Lawful.{next_is_unit}
use Rattle.run_laws.proofs.Settling.{IsMark}
use Rattle.run_laws.proofs.Sizing.{reached_sized, started_few}
use Rattle.run_laws.proofs.Units.{sixteen}
use Rattle.run_laws.proofs.Wholes.{start_run, unit_run, unit_ready}
use Rattle.page_laws.specs.Spans.{is_hands, adds, added}
use Rattle.page_laws.proofs.Spanning.{adds_most, units_added_false}
use Rattle.economy_laws.specs.Stretch.{begins_stretch, copies, copies_of, turns, turns_of, counts}
use Rattle.economy_laws.proofs.Finishing.Stages.{is_boundary}
use Rattle.economy_laws.proofs.Opening.{opens}
use Rattle.economy_laws.proofs.Sleeping.{Does, does}
use Rattle.run_laws.specs.Visible.{is_fork}
use Rattle.economy_laws.specs.Few.{is_sleep, is_turn, is_copy, SleepsAreFew, TurnsAreFew, CopiesAreFew, moves_asked, JournalsAreShort}
use Rattle.economy_laws.proofs.Counting.{counted_in, appended_counts, appended_instructions, sums}
use Rattle.economy_laws.proofs.Resting.{Rest, rest_running, hands_of, rest_clear}
use Rattle.economy_laws.proofs.Spending.{rest_due}
use Rattle.economy_laws.proofs.Awake.{awake_count}
use Rattle.economy_laws.proofs.SleepsCounted.{sleeps_one, forks_one, unit_count}
use Rattle.economy_laws.proofs.Turns.{summed, stops_after, stop_one, go_one, Begun, begun, Sort, Turned, Lined, Counted, Slept, Other, sort_of, counted_mark, turns_few}
use Rattle.economy_laws.proofs.Copying.{copy_dues, unit_copies, opens_few, marked_place}
use Rattle.economy_laws.proofs.Idle.{turn_mark}
use Rattle.economy_laws.proofs.Finishing.Wholes.{counts_one}

-- ---- what boundaries cost

-- behind an instruction that nobody follows: what is due
stop_cost : Inputs → State → Entry → ℕ
stop_cost A s u = cond (counts u && stops_after A s u) (17 + 8 * length (after A s u).place.due) 0

is_line : Entry → Bool
is_line (entries.Event line) = true
is_line _ = false

-- behind a line: what its mark asks for
line_cost : Inputs → State → Entry → ℕ
line_cost A s u = cond (is_line u) (9234 + 2 * hands_of (after A s u).mark) 0

-- the spaces of each state to which next units lead have no more pages than they may
abbrev StaySized : Inputs → State → Type 0
StaySized A s = (us : List Entry) (t : State) → Follows A s us t → PlaceSized t.place

sized_on : (A : Inputs) (s : State) (u : Entry) → next_unit A s ≡ Some u → StaySized A s → StaySized A (after A s u)
sized_on A s u h z us t f = z (u ∷ us) t (h, f)

total : (us : List Entry) (A : Inputs) (s t : State) (b : Bool) (n : ℕ) → ImagesFit A.images → IsRun A s → StaySized A s → Follows A s us t → Rest A s b n
    → added b us ≤ n + 8 * copies_of us + 219 * (summed go_one A s us + turns_of us) + summed stop_cost A s us + summed line_cost A s us
unfolding stop_cost line_cost is_line
total [] A s t b n images r z f rest = omega arith
total (u ∷ us) A s t b n images r z f rest =
    by (sort_of u) (λ m x. total us A (after A s u) t (is_hands u) m images r2 (sized_on A s u f.0 z) f.1 x)
  where
    r2 : IsRun A (after A s u)
    r2 = unit_run A s u images r f.0

    one : adds b u ≤ 1
    one = adds_most b u

    -- a unit that is no boundary takes of what is left
    quiet : is_boundary u ≡ false → ((m : ℕ) → Rest A (after A s u) (is_hands u) m
        → added (is_hands u) us ≤ m + 8 * copies_of us + 219 * (summed go_one A (after A s u) us + turns_of us) + summed stop_cost A (after A s u) us + summed line_cost A (after A s u) us)
        → added b (u ∷ us) ≤ n + 8 * copies_of (u ∷ us) + 219 * (summed go_one A s (u ∷ us) + turns_of (u ∷ us)) + summed stop_cost A s (u ∷ us) + summed line_cost A s (u ∷ us)
    quiet q more =
        let first = rest (u ∷ []) (after A s u) (f.0, refl) (q, tt) in
        let left : Rest A (after A s u) (is_hands u) (n + 8 * copies u - adds b u) = λ vs v g w. let k = rest (u ∷ vs) v (f.0, g) (q, w) in omega (arith, k, first) in
        let k = more (n + 8 * copies u - adds b u) left in
        omega (arith, k, first)

    by : Sort u → ((m : ℕ) → Rest A (after A s u) (is_hands u) m
        → added (is_hands u) us ≤ m + 8 * copies_of us + 219 * (summed go_one A (after A s u) us + turns_of us) + summed stop_cost A (after A s u) us + summed line_cost A (after A s u) us)
        → added b (u ∷ us) ≤ n + 8 * copies_of (u ∷ us) + 219 * (summed go_one A s (u ∷ us) + turns_of (u ∷ us)) + summed stop_cost A s (u ∷ us) + summed line_cost A s (u ∷ us)
    by (Turned p i) more =
        let mark : running (after A s u).mark ≡ Some p = ap (λ (x : Entry). running (after A s x).mark) i ∙ ap running (turn_mark A s p) in
        let k = more 218 (rest_running A (after A s u) p (is_hands u) images r2 mark (opens A s u f.0 (ap begins_stretch i))) in
        let v = ap turns i in
        omega (arith, k, v, one)
    by (Lined line i) more =
        let g : Begun A s u = begun A s u f.0 (subst IsMark (sym i) tt) in
        let due : (after A s u).place.due ≡ [] = ap (λ (x : Placement). x.due) (marked_place A s u (subst IsMark (sym i) tt)) ∙ g.clear in
        let k = more (9233 + 2 * hands_of (after A s u).mark) (rest_clear A (after A s u) (is_hands u) images r2 (sized_on A s u f.0 z [] (after A s u) refl) due) in
        let c : line_cost A s u ≡ 9234 + 2 * hands_of (after A s u).mark = ap (λ (x : Entry). cond (is_line x) (9234 + 2 * hands_of (after A s u).mark) 0) i in
        omega (arith, k, c, one)
    by (Counted c pid own e t0) more = go (stops_after A s u) refl
      where
        d : Does A s u pid
        d = does A s u pid f.0 own

        run : ProcessRuns A s pid d.now
        run = d.runs

        mark : running (after A s u).mark ≡ Some pid
        mark = ap running (counted_mark A s u c) ∙ on_running A s s.mark pid d.now run.on

        go : (x : Bool) → stops_after A s u ≡ x
            → added b (u ∷ us) ≤ n + 8 * copies_of (u ∷ us) + 219 * (summed go_one A s (u ∷ us) + turns_of (u ∷ us)) + summed stop_cost A s (u ∷ us) + summed line_cost A s (u ∷ us)
        go true x =
            let few = sixteen A (after A s u) r2.placed in
            let k = more (length (after A s u).place.transfers + 8 * length (after A s u).place.due) (rest_due A (after A s u) (is_hands u) (after A s u).place.due images r2 x refl) in
            let v : stop_cost A s u ≡ 17 + 8 * length (after A s u).place.due =
            ap (λ (y : Bool). cond (y && stops_after A s u) (17 + 8 * length (after A s u).place.due) 0) c ∙ ap (λ (y : Bool). cond y (17 + 8 * length (after A s u).place.due) 0) x in
            omega (arith, k, v, few, one)
        go false x =
            let k = more 218 (rest_running A (after A s u) pid (is_hands u) images r2 mark (opens A s u f.0 e)) in
            let v : go_one A s u ≡ 1 = ap (λ (y : Bool). cond (y && not (stops_after A s u)) 1 0) c ∙ ap (λ (y : Bool). cond (not y) 1 0) x in
            omega (arith, k, v, one)
    by (Slept q a c0 t0) more = quiet q more
    by (Other q a c0 t0) more = quiet q more

-- ---- what they come to

all_counted : (us : List Entry) (A : Inputs) (s t : State) → Follows A s us t → summed go_one A s us + summed stop_one A s us ≤ counted_in counted us
all_counted [] A s t f = omega arith
all_counted (u ∷ us) A s t f = go (counts u) (stops_after A s u) refl (all_counted us A (after A s u) t f.1)
  where
    go : (c x : Bool) → counts u ≡ c → summed go_one A (after A s u) us + summed stop_one A (after A s u) us ≤ counted_in counted us
        → cond (c && not x) 1 0 + summed go_one A (after A s u) us + (cond (c && x) 1 0 + summed stop_one A (after A s u) us) ≤ counted u + counted_in counted us
    go true true e k = let one = counts_one u (next_is_unit A s u f.0) e in omega (arith, k, one)
    go true false e k = let one = counts_one u (next_is_unit A s u f.0) e in omega (arith, k, one)
    go false x e k = omega (arith, k)

-- what is due behind instructions
all_stops : (us : List Entry) (A : Inputs) (s t : State) → ImagesFit A.images → IsRun A s → StaySized A s → Follows A s us t
    → summed stop_cost A s us ≤ 25 * summed stop_one A s us + 36864 * counted_in forks_one us
unfolding stop_cost
all_stops [] A s t images r z f = omega arith
all_stops (u ∷ us) A s t images r z f = by (sort_of u) (all_stops us A (after A s u) t images (unit_run A s u images r f.0) (sized_on A s u f.0 z) f.1)
  where
    none : counts u ≡ false → summed stop_cost A (after A s u) us ≤ 25 * summed stop_one A (after A s u) us + 36864 * counted_in forks_one us
        → summed stop_cost A s (u ∷ us) ≤ 25 * summed stop_one A s (u ∷ us) + 36864 * counted_in forks_one (u ∷ us)
    none c k =
        let v : stop_cost A s u ≡ 0 = ap (λ (y : Bool). cond (y && stops_after A s u) (17 + 8 * length (after A s u).place.due) 0) c in
        omega (arith, k, v)

    by : Sort u → summed stop_cost A (after A s u) us ≤ 25 * summed stop_one A (after A s u) us + 36864 * counted_in forks_one us
        → summed stop_cost A s (u ∷ us) ≤ 25 * summed stop_one A s (u ∷ us) + 36864 * counted_in forks_one (u ∷ us)
    by (Turned p i) k = none (ap counts i) k
    by (Lined line i) k = none (ap counts i) k
    by (Counted c pid own e t0) k =
        let ready : ReadyToStep A s pid = unit_ready A s u pid f.0 own in
        let clear = ap copy_dues ready.clear in
        let few = unit_copies A s u images r (z [] s refl) f.0 in
        let opened = opens_few (after A s u).place.due (opens A s u f.0 e) in
        go (counts u && stops_after A s u) (omega (arith, clear, few, opened)) k
      where
        go : (x : Bool) → length (after A s u).place.due ≤ 1 + 4608 * forks_one u → summed stop_cost A (after A s u) us ≤ 25 * summed stop_one A (after A s u) us + 36864 * counted_in forks_one us
            → cond x (17 + 8 * length (after A s u).place.due) 0 + summed stop_cost A (after A s u) us ≤ 25 * (cond x 1 0 + summed stop_one A (after A s u) us) + 36864 *
            (forks_one u + counted_in forks_one us)
        go true l k = omega (arith, l, k)
        go false l k = omega (arith, l, k)
    by (Slept q a c0 t0) k = none c0 k
    by (Other q a c0 t0) k = none c0 k

-- pages that are copied
all_copied : (us : List Entry) (A : Inputs) (s t : State) → ImagesFit A.images → IsRun A s → StaySized A s → Follows A s us t
    → copies_of us ≤ copy_dues s.place.due + 4608 * counted_in forks_one us
all_copied [] A s t images r z f = omega arith
all_copied (u ∷ us) A s t images r z f =
    let k = all_copied us A (after A s u) t images (unit_run A s u images r f.0) (sized_on A s u f.0 z) f.1 in
    let few = unit_copies A s u images r (z [] s refl) f.0 in
    omega (arith, k, few)

-- processes that fall asleep
all_slept : (us : List Entry) (A : Inputs) (s t : State) → ImagesFit A.images → IsRun A s → Follows A s us t
    → counted_in sleeps_one us ≤ awake_count s.point.flat.processes + counted_in forks_one us
all_slept [] A s t images r f = omega arith
all_slept (u ∷ us) A s t images r f =
    let k = all_slept us A (after A s u) t images (unit_run A s u images r f.0) f.1 in
    let few = unit_count A s u r f.0 in
    omega (arith, k, few)

-- lines
event_hands : (s : State) (event : Event) → 9234 + 2 * hands_of (mark_of_event s event) ≤ 9234 + 2 * moves_asked (event ∷ [])
event_hands s (events.Dispatch pid count) = omega arith
event_hands s events.Interrupt = go s.place.transfers
  where
    go : (ts : List Rattle.page_model.specs.Placement.Transfer) → 9234 + 2 * hands_of (interrupt_mark ts) ≤ 9234 + 0
    go [] = omega arith
    go (t ∷ ts) = omega arith
event_hands s (events.Hands count) = omega arith
event_hands s events.Swapper = go (swap_choice s.place (runners s.point.flat))
  where
    go : (c : Choice) → 9234 + 2 * hands_of (swap_mark c) ≤ 9234 + 0
    go (In pid) = omega arith
    go (Out pid) = omega arith
    go Nothing = omega arith
event_hands s events.Audit = omega arith

asked_first : (event : Event) (more : List Event) → moves_asked (event ∷ more) ≡ moves_asked (event ∷ []) + moves_asked more
asked_first (events.Hands count) more = omega arith
asked_first (events.Dispatch pid count) more = omega arith
asked_first events.Interrupt more = omega arith
asked_first events.Swapper more = omega arith
asked_first events.Audit more = omega arith

line_next : (A : Inputs) (s : State) (line : ℕ) → next_mark A s ≡ Some (entries.Event line) → s.lines < length A.lines
line_next A s line h = go (nat_lt s.count A.limit) (nat_lt s.lines (length A.lines)) refl h
  where
    turn : (o : Option ℕ) → turn_of o ≡ Some (entries.Event line) → ⊥
    turn None e = absurd cc
    turn (Some q) e = absurd cc

    go : (a b : Bool) → nat_lt s.lines (length A.lines) ≡ b → when a (line_or_turn s b) ≡ Some (entries.Event line) → s.lines < length A.lines
    go false b k e = absurd cc
    go true true k e = ltb-true s.lines (length A.lines) k
    go true false k e = absurd (turn (next_turned s.point.flat (last_turned s.mark)) e)

line_mark : (A : Inputs) (s : State) (line : ℕ) → (after A s (entries.Event line)).mark ≡ mark_of_line s (slice_get A.lines s.lines)
unfolding after
line_mark A s line = refl

line_taken : (A : Inputs) (s : State) (line : ℕ) → (after A s (entries.Event line)).lines ≡ s.lines + 1
unfolding after
line_taken A s line = refl

lines_kept : (A : Inputs) (s : State) (u : Entry) → is_line u ≡ false → (after A s u).lines ≡ s.lines
unfolding after is_line
lines_kept A s (entries.Event line) e = absurd cc
lines_kept A s _ e = refl

-- the most that these lines cost
lines_most : List Event → ℕ
lines_most lines = 9234 * length lines + 2 * moves_asked lines

all_lines : (us : List Entry) (A : Inputs) (s t : State) → Follows A s us t → summed line_cost A s us ≤ lines_most (drop s.lines A.lines)
unfolding line_cost is_line lines_most
all_lines [] A s t f = omega arith
all_lines (u ∷ us) A s t f = by (is_line u) refl (all_lines us A (after A s u) t f.1)
  where
    kept : is_line u ≡ false → summed line_cost A (after A s u) us ≤ lines_most (drop (after A s u).lines A.lines) → summed line_cost A s (u ∷ us) ≤ lines_most (drop s.lines A.lines)
    kept e k =
        let c : line_cost A s u ≡ 0 = ap (λ (x : Bool). cond x (9234 + 2 * hands_of (after A s u).mark) 0) e in
        let l = ap (λ (n : ℕ). lines_most (drop n A.lines)) (lines_kept A s u e) in
        omega (arith, k, c, l)

    taken : (line : ℕ) → u ≡ entries.Event line → summed line_cost A (after A s u) us ≤ lines_most (drop (after A s u).lines A.lines) → summed line_cost A s (u ∷ us) ≤ lines_most
        (drop s.lines A.lines)
    taken line i k =
        let g : Begun A s u = begun A s u f.0 (subst IsMark (sym i) tt) in
        let some = line_next A s line (g.next ∙ ap (λ (x : Entry). Some x) i) in
        let event : Event = get_or A.lines s.lines events.Audit in
        let mark : (after A s u).mark ≡ mark_of_event s (get_or A.lines s.lines events.Audit) =
        ap (λ (x : Entry). (after A s x).mark) i ∙ line_mark A s line ∙ ap (mark_of_line s) (slice_get-get_or A.lines s.lines events.Audit some) in
        let c : line_cost A s u ≡ 9234 + 2 * hands_of (after A s u).mark = ap (λ (x : Entry). cond (is_line x) (9234 + 2 * hands_of (after A s u).mark) 0) i in
        let h = ap hands_of mark in
        let e = event_hands s (get_or A.lines s.lines events.Audit) in
        let l = ap (λ (x : Entry). lines_most (drop (after A s x).lines A.lines)) i ∙ ap (λ (n : ℕ). lines_most (drop n A.lines)) (line_taken A s line) in
        let d = at_drop_more lines_most A.lines s.lines events.Audit some in
        let a = asked_first (get_or A.lines s.lines events.Audit) (drop (s.lines + 1) A.lines) in
        omega (arith, k, c, h, e, l, d, a)

    line_of : (x : Entry) → u ≡ x → is_line x ≡ true → summed line_cost A (after A s u) us ≤ lines_most (drop (after A s u).lines A.lines) → summed line_cost A s (u ∷ us) ≤ lines_most
        (drop s.lines A.lines)
    line_of (entries.Event line) i e k = taken line i k
    line_of _ i e k = absurd cc

    by : (x : Bool) → is_line u ≡ x → summed line_cost A (after A s u) us ≤ lines_most (drop (after A s u).lines A.lines) → summed line_cost A s (u ∷ us) ≤ lines_most (drop s.lines A.lines)
    by true e k = line_of u refl e k
    by false e k = kept e k

-- ---- the start

due_length : (n : ℕ) (xs : List Starting) → length (due_from n xs) ≡ length xs
due_length n [] = refl
due_length n (x ∷ xs) = ap suc (due_length (n + 1) xs)

due_copies : (n : ℕ) (xs : List Starting) → copy_dues (due_from n xs) ≡ 0
due_copies n [] = refl
due_copies n (x ∷ xs) = due_copies (n + 1) xs

starting_few : (images : List NamedImage) (first : List ℕ) → length (starting images first) ≤ length first
starting_few images [] = omega arith
starting_few images (number ∷ more) =
    let k = length-append (starting_as number (image_numbered images number)) (starting images more) in
    let l = starting_few images more in
    let m = one (image_numbered images number) in
    omega (arith, k, l, m)
  where
    one : (o : Option NamedImage) → length (starting_as number o) ≤ 1
    one None = omega arith
    one (Some named) = omega arith

awake_most : (qs : List Process) → awake_count qs ≤ length qs
awake_most [] = omega arith
awake_most (q ∷ qs) = go (Rattle.economy_laws.proofs.Awake.is_awake q) (awake_most qs)
  where
    go : (b : Bool) → awake_count qs ≤ length qs → cond b 1 0 + awake_count qs ≤ length (q ∷ qs)
    go true l = omega (arith, l)
    go false l = omega (arith, l)

-- ---- journals

-- what stands where next units led from the start
record Led (A : Inputs) (journal : List Entry) (s : State) : Type 0 where
  holdings : Holdings
  units : List Entry
  follows : Follows A (start A holdings) units s
  joined : appended [] units ≡ journal
  run : IsRun A (start A holdings)
  sized : InputsSized A → StaySized A (start A holdings)

led : (A : Inputs) (hs : Holdings) (journal : List Entry) (s : State) → CanRun A hs → Reaches A journal s → Led A journal s
led A hs journal s c r =
    let own : CanRun A r.holdings = record { images = c.images; first = c.first; frames = c.frames; pieces = r.found } in
    record {
      holdings = r.holdings;
      units = r.units;
      follows = r.follows;
      joined = r.joined;
      run = start_run A r.holdings own;
      sized = λ z us t f. (reached_sized A r.holdings (appended [] us) t own z (record { holdings = r.holdings; found = r.found; units = us; follows = f; joined = refl })).1;
    }

journal_counts : (test : Entry → Bool) (us journal : List Entry) → ((p n : ℕ) → test (entries.Ran p n) ≡ false) → ((n : ℕ) → test (entries.Hands n) ≡ false)
    → appended [] us ≡ journal
    → count_by test journal ≡ counted_in (λ u. cond (test u) 1 0) us
journal_counts test us journal ran hands j =
    let a = ap (count_by test) (sym j) ∙ sums (λ u. cond (test u) 1 0) (appended [] us) in
    let b = appended_counts (λ u. cond (test u) 1 0) (record { ran = λ p n. ap (λ (b : Bool). cond b 1 0) (ran p n); hands = λ n. ap (λ (b : Bool). cond b 1 0) (hands n) }) us [] in
    omega (arith, a, b)

journal_instructions : (us journal : List Entry) → appended [] us ≡ journal → instructions_of journal ≡ counted_in counted us
journal_instructions us journal j = let a = ap instructions_of (sym j) in let b = appended_instructions us [] in omega (arith, a, b)

copies_counted : (us : List Entry) → copies_of us ≡ counted_in (λ u. cond (is_copy u) 1 0) us
copies_counted [] = refl
copies_counted (u ∷ us) = let k = copies_counted us in let l = one u in omega (arith, k, l)
  where
    one : (x : Entry) → copies x ≡ cond (is_copy x) 1 0
    one (entries.Copy q) = refl
    one _ = refl

turns_counted : (us : List Entry) → turns_of us ≡ counted_in (λ u. cond (is_turn u) 1 0) us
turns_counted [] = refl
turns_counted (u ∷ us) = let k = turns_counted us in let l = one u in omega (arith, k, l)
  where
    one : (x : Entry) → turns x ≡ cond (is_turn x) 1 0
    one (entries.Turn p) = refl
    one _ = refl

pub few_sleeps : SleepsAreFew
few_sleeps A hs journal s c r =
    let l : Led A journal s = led A hs journal s c r in
    let k = all_slept l.units A (start A l.holdings) s c.images l.run l.follows in
    let a = awake_most (start_processes A.images 1 A.first) in
    let b = started_few A.images 1 A.first in
    let x = journal_counts is_sleep l.units journal (λ p n. refl) (λ n. refl) l.joined in
    let y = journal_counts is_fork l.units journal (λ p n. refl) (λ n. refl) l.joined in
    omega (arith, k, a, b, x, y)

pub turns_are_few : TurnsAreFew
turns_are_few A hs journal s c r =
    let l : Led A journal s = led A hs journal s c r in
    let k = turns_few A l.units (start A l.holdings) s c.images l.run l.follows in
    let n = all_counted l.units A (start A l.holdings) s l.follows in
    let i = journal_instructions l.units journal l.joined in
    let x = journal_counts is_sleep l.units journal (λ p n. refl) (λ n. refl) l.joined in
    let y = journal_counts is_turn l.units journal (λ p n. refl) (λ n. refl) l.joined in
    let z = turns_counted l.units in
    omega (arith, k, n, i, x, y, z)

pub copies_are_few : CopiesAreFew
copies_are_few A hs journal s c sized r =
    let l : Led A journal s = led A hs journal s c r in
    let k = all_copied l.units A (start A l.holdings) s c.images l.run (l.sized sized) l.follows in
    let d = due_copies 1 (starting A.images A.first) in
    let x = journal_counts is_copy l.units journal (λ p n. refl) (λ n. refl) l.joined in
    let y = journal_counts is_fork l.units journal (λ p n. refl) (λ n. refl) l.joined in
    let z = copies_counted l.units in
    omega (arith, k, d, x, y, z)

pub journals_short : JournalsAreShort
unfolding lines_most
journals_short A hs journal s c sized r =
    let l : Led A journal s = led A hs journal s c r in
    let st : State = start A l.holdings in
    let rest : Rest A (start A l.holdings) false (length (start A l.holdings).place.transfers + 8 * length (start A l.holdings).place.due) =
    rest_due A (start A l.holdings) false (start A l.holdings).place.due c.images l.run refl refl in
    let k = total l.units A (start A l.holdings) s false (length (start A l.holdings).place.transfers + 8 * length (start A l.holdings).place.due) c.images l.run (l.sized sized) l.follows rest in
    let j = units_added_false [] l.units in
    let w = ap length l.joined in
    let d = due_length 1 (starting A.images A.first) in
    let e = starting_few A.images A.first in
    let copied = all_copied l.units A (start A l.holdings) s c.images l.run (l.sized sized) l.follows in
    let none = due_copies 1 (starting A.images A.first) in
    let counted = all_counted l.units A (start A l.holdings) s l.follows in
    let turned = turns_few A l.units (start A l.holdings) s c.images l.run l.follows in
    let slept = all_slept l.units A (start A l.holdings) s c.images l.run l.follows in
    let a = awake_most (start_processes A.images 1 A.first) in
    let b = started_few A.images 1 A.first in
    let stops = all_stops l.units A (start A l.holdings) s c.images l.run (l.sized sized) l.follows in
    let lines = all_lines l.units A (start A l.holdings) s l.follows in
    let i = journal_instructions l.units journal l.joined in
    let y = journal_counts is_fork l.units journal (λ p n. refl) (λ n. refl) l.joined in
    omega (arith, k, j, w, d, e, copied, none, counted, turned, slept, a, b, stops, lines, i, y)
