-- A turn begins only where a process stopped: after an instruction behind which nobody goes on, or where one fell asleep.
use Rattle.std.proofs.Common.{◌≡◌, ℕ, ◌+◌, ◌<◌, ◌≤◌, ◌&&◌, nat_lt, not, Bool, true, false, cond, List, [], ◌∷◌, length, find, Option, Some, None, refl, sym, ap, ◌∙◌, subst, arith}
use Rattle.std.proofs.lemmas.Bool.Decides.{nat_tests}
use Rattle.std.proofs.lemmas.Bool.{and_parts}
use Rattle.vm_facts.specs.declared.page.Page.{Page}
use Rattle.vm_facts.specs.declared.entry.Entry.{Entry}
use Rattle.vm_facts.specs.declared.entry.Entry.TheVariants as entries
use Rattle.flat_state.specs.Flat.{Process, FlatState, Inputs, is_ready, ready_if, process_of, can_step}
use Rattle.flat_state.specs.Numbers.{AllDistinct, IsNumbered, pids_of}
use Rattle.flat_state.specs.declared.change.Change.TheVariants.{Resize}
use Rattle.flat_state.specs.Change.{apply_change, apply_writes}
use Rattle.page_model.specs.Serve.{serve_entry}
use Rattle.page_model.specs.Swapper.{is_out}
use Rattle.kernel_model.specs.Start.{ImagesFit}
use Rattle.page_laws.proofs.Moves.Units.{now_unit}
use Rattle.flat_model.specs.Instruction.{instruction_in}
use Rattle.flat_model.specs.Step.{Step, data_pages_of, pages_down_to}
use Rattle.flat_model.specs.Run.{Point, process_of_entry, is_refused, step_at, entry_of_step as next_of_step}
use Rattle.run_model.specs.declared.mark.Mark.{Mark}
use Rattle.run_model.specs.declared.mark.Mark.TheVariants as marks
use Rattle.run_model.specs.State.{State}
use Rattle.run_model.specs.Wanted.{wanted}
use Rattle.run_model.specs.After.{after}
use Rattle.run_model.specs.Act.{must_refuse, must_settle}
use Rattle.run_model.specs.Next.{when, or_else, work_by, turn_by, turn_unit, goes_on, turn_instructions, under, pid_if, next_ready, next_turned, last_turned, turn_of, line_or_turn, next_mark, next_unit}
use Rattle.run_model.specs.Kinds.{GoesOn, ProcessRuns, Kind, Fills, Brings, Copies, ServesWanted, Acts, ProcessComes, Interrupts, HandsMove, ProcessGoes, Notes, Begins}
use Rattle.run_model.specs.Lawful.{Follows}
use Rattle.run_model.proofs.After.{after_count}
use Rattle.run_model.proofs.NextUnits.{kind_of}
use Rattle.run_model.proofs.Wanting.{wanted_splits}
use Rattle.run_laws.specs.Running.{IsRun}
use Rattle.run_laws.proofs.Acts.{Stepper, stepper, Stepped, Completes, completes}
use Rattle.run_laws.proofs.Finding.{found_by_number, found_passes}
use Rattle.run_laws.proofs.Flows.{Acted, Settles, Refuses, Steps, acted, steps_own, on_steps, noted, refused_after, out_of, out_after, plain_point}
use Rattle.run_laws.proofs.Settling.{IsMark}
use Rattle.run_laws.proofs.Wholes.{unit_run}
use Rattle.economy_laws.specs.Stretch.{begins_stretch, turns, turns_of, counts}
use Rattle.economy_laws.proofs.Finishing.Stages.{is_boundary, IsLasting, mark_lasts}
use Rattle.economy_laws.proofs.Idle.{open_due, stepped_by, turn_mark}
use Rattle.economy_laws.proofs.Left.{is_closed}
use Rattle.economy_laws.proofs.Sleeping.{Does, does}
use Rattle.economy_laws.proofs.Steps.{act_some, Grows, grows_of}
use Rattle.run_laws.proofs.Forms.{step_is}
use Rattle.economy_laws.proofs.Stretching.{open_last}
use Rattle.economy_laws.specs.Few.{is_sleep}
use Rattle.economy_laws.proofs.Counting.{counted_in}
use Rattle.economy_laws.proofs.Turned.{quiet_counts}
use Rattle.economy_laws.proofs.Spending.{is_spent}
use Rattle.economy_laws.proofs.SleepsCounted.{Written, wrote, stepper_awake, resized_steps, sleeps_one}
use Rattle.run_laws.proofs.Turning.{turned_ready}

-- ---- what is counted over units

-- by each unit and the state before it
abbrev pub summed : (Inputs → State → Entry → ℕ) → Inputs → State → List Entry → ℕ
summed f A s [] = 0
summed f A s (u ∷ us) = f A s u + summed f A (after A s u) us

-- nobody goes on after this unit
abbrev pub stops_after : Inputs → State → Entry → Bool
stops_after A s u = is_spent A (after A s u) (after A s u).mark

-- 1 for an instruction behind which nobody goes on
abbrev pub stop_one : Inputs → State → Entry → ℕ
stop_one A s u = cond (counts u && stops_after A s u) 1 0

-- 1 for an instruction behind which its process goes on
abbrev pub go_one : Inputs → State → Entry → ℕ
go_one A s u = cond (counts u && not (stops_after A s u)) 1 0

-- ---- a turn begins

pub record Begun (A : Inputs) (s : State) (u : Entry) : Type 0 where
  pub clear : s.place.due ≡ []
  pub over : under A s s.mark ≡ None
  pub next : next_mark A s ≡ Some u

-- a line or a turn is the next mark
pub begun : (A : Inputs) (s : State) (u : Entry) → next_unit A s ≡ Some u → IsMark u → Begun A s u
begun A s u h m = go (kind_of A s u h)
  where
    paging : (x : Entry) → u ≡ x → Rattle.run_laws.proofs.Plain.IsPaging x → Begun A s u
    paging x i k = absurd (unmarked u (subst Rattle.run_laws.proofs.Plain.IsPaging (sym i) k) m)
      where
        unmarked : (y : Entry) → Rattle.run_laws.proofs.Plain.IsPaging y → IsMark y → ⊥
        unmarked (entries.Event line) k m = k
        unmarked (entries.Turn p) k m = k
        unmarked _ k m = m

    other : (x : Entry) → u ≡ x → (IsMark x → ⊥) → Begun A s u
    other x i k = absurd (k (subst IsMark i m))

    flat : (pid : ℕ) (y : Entry) → process_of_entry y ≡ Some pid → IsMark y → ⊥
    flat pid (entries.Event line) e m = absurd cc
    flat pid (entries.Turn p) e m = absurd cc
    flat pid _ e m = m

    acts : (pid : ℕ) → Acted A s pid u → Begun A s u
    acts pid (Settles i) = other entries.Done i (λ z. z)
    acts pid (Refuses i) = other (entries.Refused pid) i (λ z. z)
    acts pid (Steps f g i) = absurd (flat pid u (steps_own A s.point pid u i) m)

    go : Kind A s u → Begun A s u
    go (Fills q ds e i) = paging _ i (Rattle.run_laws.proofs.Plain.zero_paging s.place q)
    go (Brings q parent ds e i) = paging _ (Rattle.page_laws.proofs.Moves.Units.unit_is s.place parent true u i).1 (Rattle.run_laws.proofs.Plain.serve_paging s.place parent)
    go (Copies q parent ds e k i) = paging _ i (Rattle.run_laws.proofs.Plain.copy_paging s.place q)
    go (ServesWanted pid now q r w i) = paging _ (Rattle.page_laws.proofs.Moves.Units.unit_is s.place q now u i).1 (Rattle.run_laws.proofs.Plain.serve_paging s.place q)
    go (Acts pid now r w a) = acts pid (acted A s pid u a)
    go (ProcessComes pid e c i) = other (entries.SwapIn pid) i (λ z. z)
    go (Interrupts e k i) = other entries.Done i (λ z. z)
    go (HandsMove count e k l w i) = paging _ i (Rattle.run_laws.proofs.Plain.move_paging s.place (Rattle.run_model.specs.Wanted.locked A s))
    go (ProcessGoes pid e k i) = Rattle.page_laws.proofs.Swapper.PuttingOut.unit_case (λ (x : Entry). u ≡ x → Begun A s u) s.place pid
        (Rattle.page_model.specs.Place.space_of_process (process_of s.point.flat pid))
        (λ t ts z j. other entries.Done j (λ y. y)) (λ v a z y j. other _ j (λ x. x)) (λ a z j. other _ j (λ x. x)) i
    go (Notes e k i) = other _ i (λ z. z)
    go (Begins e k i) = record { clear = e; over = k; next = i }

less : (a b : ℕ) → nat_lt a b ≡ true → a < b
less a b e = grind (arith, nat_tests)

pub below : (a b : ℕ) → a < b → nat_lt a b ≡ true
below a b e = grind (arith, nat_tests)

turn_next : (A : Inputs) (s : State) (p : ℕ) → next_mark A s ≡ Some (entries.Turn p) → (s.count < A.limit) ×
    (next_turned s.point.flat (last_turned s.mark) ≡ Some p)
turn_next A s p h = go (nat_lt s.count A.limit) (nat_lt s.lines (length A.lines)) refl h
  where
    turn : (o : Option ℕ) → turn_of o ≡ Some (entries.Turn p) → o ≡ Some p
    turn None e = absurd cc
    turn (Some q) e = cc

    go : (a b : Bool) → nat_lt s.count A.limit ≡ a → when a (line_or_turn s b) ≡ Some (entries.Turn p) → (s.count < A.limit) × (next_turned s.point.flat (last_turned s.mark) ≡ Some p)
    go false b x e = absurd cc
    go true true x e = absurd cc
    go true false x e = (less s.count A.limit x, turn (next_turned s.point.flat (last_turned s.mark)) e)

pub all_three : (x y z : Bool) → x ≡ true → y ≡ true → z ≡ true → (x && (y && z)) ≡ true
all_three true true true a b c = refl
all_three false y z a b c = absurd cc
all_three true false z a b c = absurd cc
all_three true true false a b c = absurd cc

-- it goes on in its turn
begins_on : (A : Inputs) (s : State) (p : ℕ) → IsRun A s → next_mark A s ≡ Some (entries.Turn p) → goes_on A (after A s (entries.Turn p)) p
    (s.count + turn_instructions) ≡ true
begins_on A s p r h =
    let n = turn_next A s p h in
    let nums : IsNumbered s.point.flat = r.numbers in
    let steps = turned_ready s.point.flat (last_turned s.mark) p nums.pids n.1 in
    let same : (after A s (entries.Turn p)).count ≡ s.count = omega (arith, after_count A s (entries.Turn p)) in
    all_three (can_step (after A s (entries.Turn p)).point.flat p) (nat_lt (after A s (entries.Turn p)).count A.limit) (nat_lt (after A s (entries.Turn p)).count (s.count + 1000))
    (ap (λ (x : Point). can_step x.flat p) (plain_point A s (entries.Turn p) refl) ∙ steps)
    (below (after A s (entries.Turn p)).count A.limit (let k = n.0 in omega (arith, same, k)))
    (below (after A s (entries.Turn p)).count (s.count + 1000) (omega (arith, same)))

-- while a process goes on in its turn, no mark begins
on_under : (A : Inputs) (s : State) (pid since : ℕ) → IsRun A s → s.mark ≡ marks.Turn pid since → goes_on A s pid (since + turn_instructions) ≡ true
    → s.place.due ≡ []
    → under A s s.mark ≡ None → ⊥
on_under A s pid since r m goes d h = by (is_out s.place pid) refl (sym (ap (λ (b : Bool). when b (turn_unit A s pid)) goes) ∙ sym (ap (under A s) m) ∙ h)
  where
    runs : is_out s.place pid ≡ false → ProcessRuns A s pid true
    runs o = record { clear = d; on = subst (λ (x : Mark). GoesOn A s x pid true) (sym m) (refl, goes); resident = o }

    works : is_out s.place pid ≡ false → (w : Option Page) → wanted A s ≡ w → work_by A s pid true w ≡ None → ⊥
    works o None e k = act_some A s pid true r (runs o) k
    works o (Some q) e k = let x = wanted_splits A s q d e in absurd (let z : None ≡ Some (serve_entry s.place q) = sym k ∙ now_unit s.place q x.absent in cc)

    by : (b : Bool) → is_out s.place pid ≡ b → turn_by A s pid b ≡ None → ⊥
    by true o k = absurd cc
    by false o k = works o (wanted A s) refl k

-- ---- a process that goes on

grown_steps : (A : Inputs) (s : State) (p n : ℕ) (h : Stepped A s (entries.Grew p n)) → is_closed s.point.last ≡ false → IsRun A s
    → can_step (after A s (entries.Grew p n)).point.flat h.pid ≡ true
grown_steps A s p n h o r =
    let run : ProcessRuns A s h.pid h.now = h.runs in
    let steps = on_steps A s s.mark h.pid h.now run.on in
    let w : Stepper s.point.flat h.pid = stepper s.point.flat h.pid steps in
    let q : Process = w.process in
    let c : Completes A s.point h.pid (entries.Grew p n) = completes A s.point h.pid (entries.Grew p n) tt h.next in
    let es : (step_at A s.point h.pid).entries ≡ entries.Grew p n ∷ [] = sym (open_due s.point.last h.pid (step_at A s.point h.pid).entries o) ∙ c.due in
    let st = step_is A s.point.flat h.pid (is_refused s.point.last h.pid) w.process w.space w.here w.holds in
    let g : Grows A.images s.point.flat w.process w.space (is_refused s.point.last h.pid) (instruction_in w.space q.regs) =
    grows_of A.images s.point.flat w.process w.space (is_refused s.point.last h.pid) (instruction_in w.space q.regs) p n (sym (ap (λ (S : Step). S.entries) st) ∙ es) in
    let e : (step_at A s.point h.pid).change ≡ Resize (data_pages_of w.space) (pages_down_to g.address) = ap (λ (S : Step). S.change) (st ∙ g.step) in
    let is = stepped_by A s (entries.Grew p n) h r ∙ ap (apply_change A.images (apply_writes s.point.flat h.pid (step_at A s.point h.pid).writes) h.pid (step_at A s.point h.pid).regs) e in
    let x : Written s.point.flat (apply_writes s.point.flat h.pid (step_at A s.point h.pid).writes) h.pid = wrote s.point.flat h.pid w.space (step_at A s.point h.pid).writes
    (stepper_awake s.point.flat h.pid steps w) in
    ap (λ (F : FlatState). can_step F h.pid) is
    ∙ resized_steps A.images (apply_writes s.point.flat h.pid (step_at A s.point h.pid).writes) h.pid x.space (step_at A s.point h.pid).regs (data_pages_of w.space) (pages_down_to g.address) x.there

-- a unit of a process, by which no instruction is counted and nobody falls asleep, leaves it such that it can step
still_steps : (A : Inputs) (s : State) (u : Entry) (pid : ℕ) → IsRun A s → next_unit A s ≡ Some u → process_of_entry u ≡ Some pid → is_boundary u ≡ false
    → is_sleep u ≡ false
    → can_step s.point.flat pid ≡ true → can_step (after A s u).point.flat pid ≡ true
still_steps A s u pid r h e n a steps = by (acted A s pid u d.act)
  where
    d : Does A s u pid
    d = does A s u pid h e

    own : (p : ℕ) → Some p ≡ Some pid → p ≡ pid
    own p k = cc

    quiet : after A s u ≡ noted s u → can_step (after A s u).point.flat pid ≡ true
    quiet k = ap (λ (t : State). can_step t.point.flat pid) k ∙ steps

    step : (x : Entry) → u ≡ x → next_of_step A s.point pid ≡ Some u → must_refuse A s pid ≡ false → must_settle A s pid ≡ false → process_of_entry x ≡ Some pid → is_boundary x ≡ false
        → is_sleep x ≡ false
        → can_step (after A s u).point.flat pid ≡ true
    step (entries.Out p bytes) i k f g px cx sx = quiet (subst (λ (y : Entry). after A s y ≡ noted s y) (sym i)
        (out_after A s pid p bytes (out_of A s.point pid p bytes (k ∙ ap (λ (y : Entry). Some y) i))))
    step (entries.Refused p) i k f g px cx sx = quiet (subst (λ (y : Entry). after A s y ≡ noted s y) (sym i) (refused_after A s p))
    step (entries.Grew p m) i k f g px cx sx = subst (λ (y : Entry). can_step (after A s y).point.flat pid ≡ true) (sym i)
        (grown_steps A s p m (record { pid = pid; now = d.now; runs = d.runs; ends = tt; unrefused = f; unsettling = g; next = k ∙ ap (λ (y : Entry). Some y) i })
        (open_last A s u pid r h e (ap begins_stretch i)) r)
    step _ i k f g px cx sx = absurd cc

    by : Acted A s pid u → can_step (after A s u).point.flat pid ≡ true
    by (Settles i) = absurd (let z : None ≡ Some pid = sym (ap process_of_entry i) ∙ e in cc)
    by (Refuses i) = quiet (subst (λ (y : Entry). after A s y ≡ noted s y) (sym i) (refused_after A s pid))
    by (Steps f g i) = step u refl i f g e n a

-- ---- turns

-- a process goes on in its turn; or nothing is known
data Turning (A : Inputs) (s : State) (k : ℕ) : Type 0 where
  Free : k ≡ 0 → Turning A s k
  On : (pid since : ℕ) → k ≡ 1 → s.mark ≡ marks.Turn pid since → goes_on A s pid (since + turn_instructions) ≡ true → Turning A s k

-- units by what they do here
pub data Sort (u : Entry) : Type 0 where
  Turned : (p : ℕ) → u ≡ entries.Turn p → Sort u
  Lined : (line : ℕ) → u ≡ entries.Event line → Sort u
  Counted : counts u ≡ true → (pid : ℕ) → process_of_entry u ≡ Some pid → begins_stretch u ≡ true → turns u ≡ 0 → Sort u
  Slept : is_boundary u ≡ false → is_sleep u ≡ true → counts u ≡ false → turns u ≡ 0 → Sort u
  Other : is_boundary u ≡ false → is_sleep u ≡ false → counts u ≡ false → turns u ≡ 0 → Sort u

pub sort_of : (u : Entry) → Sort u
sort_of (entries.Event line) = Lined line refl
sort_of (entries.Turn p) = Turned p refl
sort_of (entries.Ran p n) = Counted refl p refl refl refl
sort_of (entries.Call p n c r0 r1) = Counted refl p refl refl refl
sort_of (entries.Ended p n) = Counted refl p refl refl refl
sort_of (entries.Sleeps p) = Slept refl refl refl refl
sort_of _ = Other refl refl refl refl

-- an instruction leaves the mark
pub counted_mark : (A : Inputs) (s : State) (u : Entry) → counts u ≡ true → (after A s u).mark ≡ s.mark
unfolding after
counted_mark A s (entries.Ran p n) e = refl
counted_mark A s (entries.Call p n c r0 r1) e = refl
counted_mark A s (entries.Ended p n) e = refl
counted_mark A s _ e = absurd cc

spent_turn : (A : Inputs) (s : State) (m : Mark) (pid since : ℕ) → m ≡ marks.Turn pid since → is_spent A s m ≡ not (goes_on A s pid (since + turn_instructions))
spent_turn A s m pid since e = ap (is_spent A s) e

not_false : (b : Bool) → not b ≡ false → b ≡ true
not_false true e = refl
not_false false e = absurd cc

counted_turning : (A : Inputs) (s : State) (u : Entry) (k : ℕ) → counts u ≡ true → stops_after A s u ≡ false → Turning A s k → Turning A (after A s u) k
counted_turning A s u k c n (Free e) = Free e
counted_turning A s u k c n (On pid since e m g) =
    let mark : (after A s u).mark ≡ marks.Turn pid since = counted_mark A s u c ∙ m in
    On pid since e mark (not_false (goes_on A (after A s u) pid (since + turn_instructions)) (sym (spent_turn A (after A s u) (after A s u).mark pid since mark) ∙ n))

-- a quiet unit leaves the process such that it goes on
other_turning : (A : Inputs) (s : State) (u : Entry) (k : ℕ) → IsRun A s → next_unit A s ≡ Some u → is_boundary u ≡ false → is_sleep u ≡ false → Turning A s k
    → Turning A (after A s u) k
other_turning A s u k r h n a (Free e) = Free e
other_turning A s u k r h n a (On pid since e m g) = On pid since e (mark_lasts A s u (subst IsLasting (sym m) tt) n ∙ m) (by (process_of_entry u) refl)
  where
    count : (after A s u).count ≡ s.count
    count = omega (arith, after_count A s u, quiet_counts u n)

    parts : (can_step s.point.flat pid ≡ true) × ((nat_lt s.count A.limit && nat_lt s.count (since + 1000)) ≡ true)
    parts = and_parts (can_step s.point.flat pid) (nat_lt s.count A.limit && nat_lt s.count (since + 1000)) g

    goes : can_step (after A s u).point.flat pid ≡ true → goes_on A (after A s u) pid (since + turn_instructions) ≡ true
    goes c = ap (λ (b : Bool). b && (nat_lt (after A s u).count A.limit && nat_lt (after A s u).count (since + 1000))) c
        ∙ ap (λ (x : ℕ). nat_lt x A.limit && nat_lt x (since + 1000)) count ∙ parts.1

    by : (o : Option ℕ) → process_of_entry u ≡ o → goes_on A (after A s u) pid (since + turn_instructions) ≡ true
    by None p = goes (ap (λ (x : Point). can_step x.flat pid) (plain_point A s u p) ∙ parts.0)
    by (Some q) p =
        let d : Does A s u q = does A s u q h p in
        let run : ProcessRuns A s q d.now = d.runs in
        let same : q ≡ pid = sym (Rattle.economy_laws.proofs.Closing.on_turn A s s.mark pid since q d.now m run.on).1 in
        goes (still_steps A s u pid r h (p ∙ ap (λ (x : ℕ). Some x) same) n a parts.0)

few_turns : (A : Inputs) (us : List Entry) (s t : State) (k : ℕ) → ImagesFit A.images → IsRun A s → Follows A s us t → Turning A s k
    → turns_of us + k ≤ summed stop_one A s us + counted_in sleeps_one us + 1
few_turns A [] s t k images r f (Free e) = omega (arith, e)
few_turns A [] s t k images r f (On pid since e m g) = omega (arith, e)
few_turns A (u ∷ us) s t k images r f x = by (sort_of u) x (λ j y. few_turns A us (after A s u) t j images (unit_run A s u images r f.0) f.1 y)
  where
    free : Turning A s k → k ≤ 1
    free (Free e) = omega (arith, e)
    free (On pid since e m g) = omega (arith, e)

    -- a mark begins, so nobody goes on
    marks_free : Begun A s u → Turning A s k → k ≡ 0
    marks_free b (Free e) = e
    marks_free b (On pid since e m g) = absurd (on_under A s pid since r m g b.clear b.over)

    by : Sort u → Turning A s k → ((j : ℕ) → Turning A (after A s u) j → turns_of us + j ≤ summed stop_one A (after A s u) us + counted_in sleeps_one us + 1)
        → turns_of (u ∷ us) + k ≤ summed stop_one A s (u ∷ us) + counted_in sleeps_one (u ∷ us) + 1
    by (Turned p i) y more =
        let b : Begun A s u = begun A s u f.0 (subst IsMark (sym i) tt) in
        let mark : (after A s u).mark ≡ marks.Turn p s.count = subst (λ (z : Entry). (after A s z).mark ≡ marks.Turn p s.count) (sym i) (turn_mark A s p) in
        let goes : goes_on A (after A s u) p (s.count + turn_instructions) ≡ true = subst (λ (z : Entry). goes_on A (after A s z) p (s.count + turn_instructions) ≡ true) (sym i)
        (begins_on A s p r (b.next ∙ ap (λ (z : Entry). Some z) i)) in
        let z = more 1 (On p s.count refl mark goes) in
        let w = marks_free b y in
        let v = ap turns i in
        omega (arith, z, w, v)
    by (Lined line i) y more =
        let b : Begun A s u = begun A s u f.0 (subst IsMark (sym i) tt) in
        let z = more 0 (Free refl) in
        let w = marks_free b y in
        let v = ap turns i in
        omega (arith, z, w, v)
    by (Counted c pid own b t0) y more = go (stops_after A s u) refl
      where
        go : (b : Bool) → stops_after A s u ≡ b → turns_of (u ∷ us) + k ≤ summed stop_one A s (u ∷ us) + counted_in sleeps_one (u ∷ us) + 1
        go true e =
            let one : stop_one A s u ≡ 1 = ap (λ (b : Bool). cond (b && stops_after A s u) 1 0) c ∙ ap (λ (b : Bool). cond b 1 0) e in
            let z = more 0 (Free refl) in
            let w = free y in
            omega (arith, z, w, t0, one)
        go false e = let z = more k (counted_turning A s u k c e y) in omega (arith, z, t0)
    by (Slept n a c0 t0) y more =
        let one : sleeps_one u ≡ 1 = ap (λ (b : Bool). cond b 1 0) a in
        let z = more 0 (Free refl) in
        let w = free y in
        omega (arith, z, w, t0, one)
    by (Other n a c0 t0) y more = let z = more k (other_turning A s u k r f.0 n a y) in omega (arith, z, t0)

pub turns_few : (A : Inputs) (us : List Entry) (s t : State) → ImagesFit A.images → IsRun A s → Follows A s us t
    → turns_of us ≤ summed stop_one A s us + counted_in sleeps_one us + 1
turns_few A us s t images r f = let k = few_turns A us s t 0 images r f (Free refl) in omega (arith, k)
