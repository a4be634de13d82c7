-- Each flat entry that the policy gives is an entry of the flat machine's run.
use Rattle.std.proofs.Common.{◌≡◌, ◌⊎◌, inl, inr, ℕ, ◌+◌, ◌==◌, Bool, true, false, not, ◌&&◌, ◌||◌, nat_lt, if◌then◌else◌, List, [], ◌∷◌, Option, Some, None, refl, sym, ap, ◌∙◌, subst}
use Rattle.vm_facts.specs.declared.page.Page.{Page}
use Rattle.vm_facts.specs.declared.entry.Entry.{Entry}
use Rattle.vm_facts.specs.declared.entry.Entry.TheVariants as entries
use Rattle.flat_state.specs.Flat.{Inputs, can_step}
use Rattle.page_model.specs.Pages.{is_valid}
use Rattle.flat_state.specs.PageNames.{is_among, same_page}
use Rattle.page_model.specs.Placement.{Placement, Due, state_of, Residence}
use Rattle.page_model.specs.Moves.{done}
use Rattle.page_model.specs.Conditions.{Spares}
use Rattle.page_model.specs.Serve.{serve_unit}
use Rattle.page_model.specs.Swapper.{is_out, residence_of}
use Rattle.page_model.specs.Ownership.{OwnsFrames}
use Rattle.flat_state.specs.Journal.{append}
use Rattle.page_laws.proofs.Moves.Locks.{done_spares}
use Rattle.flat_state.proofs.PageNames.{same_page_is}
use Rattle.page_laws.proofs.Moves.Stays.{Steady, done_steady}
use Rattle.kernel_laws.proofs.Machine.Shapes.{done_shaped}
use Rattle.flat_laws.specs.Others.{is_writing}
use Rattle.flat_laws.proofs.Distinct.{among_first, among_later}
use Rattle.flat_model.proofs.StepEnds.{IsStepEnd, Shape, Empty, One, Two, step_shape}
use Rattle.run_model.proofs.FlatRuns.{after_point}
use Rattle.run_model.proofs.Wanting.{wanted_none, all_unwanted}
use Rattle.run_model.specs.declared.mark.Mark.{Mark}
use Rattle.run_model.specs.declared.mark.Mark.TheVariants as marks
use Rattle.flat_model.specs.Step.{flat_step}
use Rattle.flat_model.specs.Run.{Point, is_refused, step_at, behind_first, due_at, first_if, entry_of_step as next_of_step, process_of_entry, flat_entry}
use Rattle.run_model.specs.State.{State}
use Rattle.run_model.specs.Wanted.{running, touched_next, AllValid, wanted, locked}
use Rattle.run_model.specs.Snapshot.{touched_of}
use Rattle.run_model.specs.After.{after, completed}
use Rattle.run_model.specs.Act.{must_refuse, must_settle, act_by, act_if, act, awaits, IsNext, LastSays}
use Rattle.run_model.proofs.Acting.{next_says}
use Rattle.run_model.specs.Next.{when, or_else, goes_on, turn_instructions, work, work_by, turn_by, turn_unit, under, next_mark, next_unit}
use Rattle.run_model.specs.Kinds.{GoesOn, ProcessRuns, Kind, Fills, Brings, Copies, ServesWanted, Acts, ProcessComes, Interrupts, HandsMove, ProcessGoes, Notes, Begins}
use Rattle.run_model.proofs.NextUnits.{kind_of}
use Rattle.std.proofs.lemmas.Bool.{and_parts}
use Rattle.std.proofs.lemmas.Option.{same_Some}
use Rattle.vm_facts.proofs.Tests.{eq_self}
use Rattle.run_laws.specs.Flowing.{Awaits, WaitsBy, Flows}
use Rattle.run_laws.proofs.Refusals.{HasEntry, refused_entry}

-- The unit of a process that runs.

pub on_steps : (A : Inputs) (s : State) (m : Mark) (pid : ℕ) (now : Bool) → GoesOn A s m pid now → can_step s.point.flat pid ≡ true
on_steps A s (marks.Dispatch p count since) pid false g = (and_parts (can_step s.point.flat pid) (nat_lt s.count A.limit && nat_lt s.count (since + count)) g.1).0
on_steps A s (marks.Turn p since) pid true g = (and_parts (can_step s.point.flat pid) (nat_lt s.count A.limit && nat_lt s.count (since + turn_instructions)) g.1).0
on_steps A s _ pid now g = absurd g

pub on_running : (A : Inputs) (s : State) (m : Mark) (pid : ℕ) (now : Bool) → GoesOn A s m pid now → running m ≡ Some pid
on_running A s (marks.Dispatch p count since) pid false g = ap (λ (x : ℕ). Some x) g.0
on_running A s (marks.Turn p since) pid true g = ap (λ (x : ℕ). Some x) g.0
on_running A s _ pid now g = absurd g

-- under its mark a process works
pub runs_work : (A : Inputs) (s : State) (pid : ℕ) (now : Bool) → ProcessRuns A s pid now → under A s s.mark ≡ work A s pid now
runs_work A s pid now r = go s.mark now r.on
  where
    turn : (b : Bool) → b ≡ false → turn_by A s pid b ≡ work A s pid true
    turn true e = absurd cc
    turn false e = refl

    go : (m : Mark) (now : Bool) → GoesOn A s m pid now → under A s m ≡ work A s pid now
    go (marks.Dispatch p count since) false g =
        ap (λ (x : ℕ). under A s (marks.Dispatch x count since)) g.0
        ∙ ap (λ (b : Bool). when (b && not (is_out s.place pid)) (work A s pid false)) g.1 ∙ ap (λ (b : Bool). when (not b) (work A s pid false)) r.resident
    go (marks.Turn p since) true g =
        ap (λ (x : ℕ). under A s (marks.Turn x since)) g.0 ∙ ap (λ (b : Bool). when b (turn_unit A s pid)) g.1 ∙ turn (is_out s.place pid) r.resident
    go _ now g = absurd g

-- where all its pages are valid, it acts
pub runs_next : (A : Inputs) (s : State) (pid : ℕ) (now : Bool) (u : Entry) → ProcessRuns A s pid now → wanted A s ≡ None → act A s pid ≡ Some u
    → next_unit A s ≡ Some u
unfolding next_unit
runs_next A s pid now u r w a =
    ap (λ (ds : List Due). or_else (Rattle.run_model.specs.Next.due_unit s.place ds) (or_else (under A s s.mark) (next_mark A s))) r.clear
    ∙ ap (λ (o : Option Entry). or_else o (next_mark A s)) (runs_work A s pid now r ∙ ap (work_by A s pid now) w ∙ a)

-- a process that has an entry left acts
pub acts_some : (A : Inputs) (s : State) (pid : ℕ) → can_step s.point.flat pid ≡ true → (due_at A s.point pid ≡ [] → ⊥) → (u : Entry) × (act A s pid ≡ Some u)
unfolding act
acts_some A s pid c n = can (can_step s.point.flat pid) c
  where
    first : (es : List Entry) → due_at A s.point pid ≡ es → (b : Bool) → b ≡ true → (u : Entry) × (first_if b es ≡ Some u)
    first [] e b t = absurd (n e)
    first (x ∷ xs) e true t = (x, refl)
    first (x ∷ xs) e false t = absurd cc

    by : (r t : Bool) → (u : Entry) × (act_by A s pid r t ≡ Some u)
    by true t = (entries.Refused pid, refl)
    by false true = (entries.Done, refl)
    by false false = first (due_at A s.point pid) refl (can_step s.point.flat pid) c

    can : (b : Bool) → b ≡ true → (u : Entry) × (act_if b A s pid ≡ Some u)
    can true e = by (must_refuse A s pid) (must_settle A s pid)
    can false e = absurd cc

-- after `Refused` and `Out` their process acts
pub awaits_next : (A : Inputs) (s : State) (u : Entry) (pid : ℕ) → Awaits A s pid → next_unit A s ≡ Some u → act A s pid ≡ Some u
awaits_next A s u pid a h =
    let r : ProcessRuns A s pid a.now = a.runs in
    let x = acts_some A s pid (on_steps A s s.mark pid a.now r.on) a.left in
    x.1 ∙ (sym (runs_next A s pid a.now x.0 r a.unwanted x.1) ∙ h)

-- who acts is no other than the one that the last flat entry leaves next
awaited_by : (A : Inputs) (s : State) (u : Entry) (pid : ℕ) (now : Bool) → ProcessRuns A s pid now → (o : Option Entry) → WaitsBy A s o → awaits o pid ≡ true
awaited_by A s u pid now r o w = go o w
  where
    one : (p : ℕ) → Awaits A s p → p ≡ pid
    one p a =
        let q : ProcessRuns A s p a.now = a.runs in
        let k : Some p ≡ Some pid = sym (on_running A s s.mark p a.now q.on) ∙ on_running A s s.mark pid now r.on in cc

    go : (o : Option Entry) → WaitsBy A s o → awaits o pid ≡ true
    go (Some (entries.Refused p)) w = ap (λ (x : ℕ). x == pid) (one p w) ∙ eq_self pid
    go (Some (entries.Out p bytes)) w = ap (λ (x : ℕ). x == pid) (one p w) ∙ eq_self pid
    go _ w = refl

-- No unit but one of a process that acts is a flat entry.

serve_plain : (p : Placement) (q : Page) (now : Bool) (u : Entry) → serve_unit p q now ≡ Some u → process_of_entry u ≡ None
serve_plain p q now u h = ap process_of_entry (Rattle.page_laws.proofs.Moves.Units.unit_is p q now u h).1 ∙ Rattle.run_laws.proofs.Plain.serve_flat p q

pub next_or : (A : Inputs) (s : State) (u : Entry) → WaitsBy A s s.point.last → Kind A s u → (process_of_entry u ≡ None) ⊎ IsNext A s u
next_or A s u w (Fills q due e i) = inl (ap process_of_entry i ∙ Rattle.run_laws.proofs.Plain.zero_flat s.place q)
next_or A s u w (Brings q parent due e i) = inl (serve_plain s.place parent true u i)
next_or A s u w (Copies q parent due e n i) = inl (ap process_of_entry i ∙ Rattle.run_laws.proofs.Plain.copy_flat s.place q)
next_or A s u w (ServesWanted pid now q r e i) = inl (serve_plain s.place q now u i)
next_or A s u w (Acts pid now r e i) = inr (record { pid = pid; next = i; awaited = awaited_by A s u pid now r s.point.last w })
next_or A s u w (ProcessComes pid e c i) = inl (ap process_of_entry i)
next_or A s u w (Interrupts e m i) = inl (ap process_of_entry i)
next_or A s u w (HandsMove count e m l k i) = inl (ap process_of_entry i ∙ Rattle.run_laws.proofs.Plain.move_flat s.place (locked A s))
next_or A s u w (ProcessGoes pid e m i) =
    inl (ap process_of_entry i ∙ Rattle.run_laws.proofs.Plain.put_flat s.place pid (Rattle.page_model.specs.Place.space_of_process (Rattle.flat_state.specs.Flat.process_of s.point.flat pid)))
next_or A s u w (Notes e m i) = inl (ap process_of_entry i)
next_or A s u w (Begins e n i) = inl (Rattle.run_laws.proofs.Plain.mark_flat A s u i)

-- What waits still does.

-- the process of an `Out` that comes next of a step; all of the step is due, and its reply is after it
pub record IsOut (A : Inputs) (point : Point) (pid p : ℕ) (bytes : List ℕ) : Type 0 where
  pub own : p ≡ pid
  pub reply : Entry
  pub due : due_at A point pid ≡ entries.Out pid bytes ∷ reply ∷ []

pub out_of : (A : Inputs) (point : Point) (pid p : ℕ) (bytes : List ℕ) → next_of_step A point pid ≡ Some (entries.Out p bytes) → IsOut A point pid p bytes
out_of A point pid p bytes h = due (is_writing point.last pid) refl
  where
    entries_at : List Entry
    entries_at = (step_at A point pid).entries

    first_of : (es : List Entry) → due_at A point pid ≡ es → first_if (can_step point.flat pid) es ≡ Some (entries.Out p bytes)
    first_of es e = ap (first_if (can_step point.flat pid)) (sym e) ∙ h

    no_first : (b : Bool) → first_if b [] ≡ Some (entries.Out p bytes) → ⊥
    no_first true k = absurd cc
    no_first false k = absurd cc

    one_first : (b : Bool) (e : Entry) (es : List Entry) → first_if b (e ∷ es) ≡ Some (entries.Out p bytes) → e ≡ entries.Out p bytes
    one_first true e es k = cc
    one_first false e es k = absurd cc

    whole : due_at A point pid ≡ entries_at → Shape pid entries_at → IsOut A point pid p bytes
    whole same (Empty k) = absurd (no_first (can_step point.flat pid) (first_of [] (same ∙ k)))
    whole same (One e i k) = absurd (subst (IsStepEnd pid) (one_first (can_step point.flat pid) e [] (first_of (e ∷ []) (same ∙ k))) i)
    whole same (Two others n c r0 r1 k) =
        let x : entries.Out pid others ≡ entries.Out p bytes =
        one_first (can_step point.flat pid) (entries.Out pid others) (entries.Call pid n c r0 r1 ∷ []) (first_of (entries.Out pid others ∷ entries.Call pid n c r0 r1 ∷ []) (same ∙ k)) in
        let y : others ≡ bytes = cc in
        record { own = cc; reply = entries.Call pid n c r0 r1; due = same ∙ k ∙ ap (λ (l : List ℕ). entries.Out pid l ∷ entries.Call pid n c r0 r1 ∷ []) y }

    rest : due_at A point pid ≡ behind_first entries_at → Shape pid entries_at → IsOut A point pid p bytes
    rest same (Empty k) = absurd (no_first (can_step point.flat pid) (first_of [] (same ∙ ap behind_first k)))
    rest same (One e i k) = absurd (no_first (can_step point.flat pid) (first_of [] (same ∙ ap behind_first k)))
    rest same (Two others n c r0 r1 k) = absurd (let x : entries.Call pid n c r0 r1 ≡ entries.Out p bytes =
        one_first (can_step point.flat pid) (entries.Call pid n c r0 r1) [] (first_of (entries.Call pid n c r0 r1 ∷ []) (same ∙ ap behind_first k)) in cc)

    due : (b : Bool) → is_writing point.last pid ≡ b → IsOut A point pid p bytes
    due true e = rest (written point.last e) (step_shape A point.flat pid (is_refused point.last pid))
      where
        written : (o : Option Entry) → is_writing o pid ≡ true → Rattle.flat_model.specs.Run.due o pid entries_at ≡ behind_first entries_at
        written (Some (entries.Out q l)) e = ap (λ (b : Bool). if b then behind_first entries_at else entries_at) e
        written _ e = absurd cc
    due false e = whole (plain point.last e) (step_shape A point.flat pid (is_refused point.last pid))
      where
        plain : (o : Option Entry) → is_writing o pid ≡ false → Rattle.flat_model.specs.Run.due o pid entries_at ≡ entries_at
        plain (Some (entries.Out q l)) e = ap (λ (b : Bool). if b then behind_first entries_at else entries_at) e
        plain _ e = refl

out_point : (A : Inputs) (s : State) (pid p : ℕ) (bytes : List ℕ) → IsOut A s.point pid p bytes
    → (after A s (entries.Out p bytes)).point ≡ (let x : Point = record s.point { last = Some (entries.Out p bytes) } in x)
unfolding after
out_point A s pid p bytes o =
    ap (λ (x : ℕ). Rattle.flat_model.specs.Run.point_after A s.point x) o.own ∙ ap (Rattle.flat_model.specs.Run.behind s.point (step_at A s.point pid).after) o.due
    ∙ ap (λ (x : ℕ). let y : Point = record s.point { last = Some (entries.Out x bytes) } in y) (sym o.own)

-- a state with another last flat entry, and one more unit in the journal
abbrev pub noted : State → Entry → State
noted s u = record s { point = record s.point { last = Some u }; journal = append s.journal u }

pub out_after : (A : Inputs) (s : State) (pid p : ℕ) (bytes : List ℕ) → IsOut A s.point pid p bytes
    → after A s (entries.Out p bytes) ≡ noted s (entries.Out p bytes)
unfolding after
out_after A s pid p bytes o = ap (λ (x : Point). let y : State = record s { point = x; journal = append s.journal (entries.Out p bytes) } in y) (out_point A s pid p bytes o)

pub refused_after : (A : Inputs) (s : State) (p : ℕ) → after A s (entries.Refused p) ≡ noted s (entries.Refused p)
unfolding after
refused_after A s p = refl

noted_on : (A : Inputs) (s : State) (u : Entry) (m : Mark) (pid : ℕ) (now : Bool) → GoesOn A s m pid now → GoesOn A (noted s u) m pid now
noted_on A s u (marks.Dispatch p count since) pid false g = g
noted_on A s u (marks.Turn p since) pid true g = g
noted_on A s u _ pid now g = absurd g

noted_awaits : (A : Inputs) (s : State) (u : Entry) (pid : ℕ) (now : Bool) → ProcessRuns A s pid now → wanted A s ≡ None
    → (due_at A (noted s u).point pid ≡ [] → ⊥) → Awaits A (noted s u) pid
noted_awaits A s u pid now r w n =
    let unwanted : wanted A (noted s u) ≡ None = all_unwanted A (noted s u) r.clear (wanted_none A s r.clear w) in
    record {
      now = now;
      runs = record { clear = r.clear; on = noted_on A s u s.mark pid now r.on; resident = r.resident };
      unwanted = unwanted;
      left = n;
    }

done_on : (A : Inputs) (s : State) (m : Mark) (pid : ℕ) (now : Bool) → GoesOn A s m pid now → GoesOn A (after A s entries.Done) (completed m) pid now
unfolding after
done_on A s (marks.Dispatch p count since) pid false g = g
done_on A s (marks.Turn p since) pid true g = g
done_on A s _ pid now g = absurd g

pub valid_among : (p : Placement) (ts : List Page) (q : Page) → AllValid p ts → is_among q ts ≡ true → is_valid (state_of p q) ≡ true
valid_among p [] q a e = absurd cc
valid_among p (t ∷ ts) q a e = go (valid_among p ts q a.1) (same_page q t) refl e
  where
    go : (is_among q ts ≡ true → is_valid (state_of p q) ≡ true) → (b : Bool) → same_page q t ≡ b → (b || is_among q ts) ≡ true → is_valid (state_of p q) ≡ true
    go ih true k e = ap (λ (x : Page). is_valid (state_of p x)) (same_page_is q t k) ∙ a.0
    go ih false k e = ih e

-- pages that a step spares are valid still
pub spared : (p r : Placement) (rs : List Page) → AllValid p rs → Spares p r rs → (ts : List Page)
    → ((q : Page) → is_among q ts ≡ true → is_among q rs ≡ true) → AllValid r ts
spared p r rs v s [] k = tt
spared p r rs v s (t ∷ ts) k = (s t (k t (among_first t ts)) (valid_among p rs t v (k t (among_first t ts))), spared p r rs v s ts (λ q e. k q (among_later q t ts e)))

pub done_awaits : (A : Inputs) (s : State) (pid : ℕ) → OwnsFrames s.place → Awaits A s pid → Awaits A (after A s entries.Done) pid
unfolding after
done_awaits A s pid o a =
    let r : ProcessRuns A s pid a.now = a.runs in
    let st : Steady s.place (done s.place) = done_steady s.place o in
    let v : AllValid s.place (touched_next A s) = wanted_none A s r.clear a.unwanted in
    let m : running s.mark ≡ Some pid = on_running A s s.mark pid a.now r.on in
    let n : running (completed s.mark) ≡ running s.mark = same_running s.mark in
    record {
      now = a.now;
      runs = record {
        clear = st.due ∙ r.clear;
        on = done_on A s s.mark pid a.now r.on;
        resident = ap (λ (rs : List Residence). (residence_of rs pid).out) (done_shaped s.place).residents ∙ r.resident;
      };
      unwanted = all_unwanted A (after A s entries.Done) (st.due ∙ r.clear)
          (subst (AllValid (done s.place)) (sym (ap (touched_of A s.point.flat) n))
          (spared s.place (done s.place) (touched_next A s) v (done_spares s.place (touched_next A s) o) (touched_next A s) (λ q e. e)));
      left = a.left;
    }
  where
    same_running : (m : Mark) → running (completed m) ≡ running m
    same_running marks.Over = refl
    same_running (marks.Dispatch p c n) = refl
    same_running marks.Interrupt = refl
    same_running (marks.Hands c) = refl
    same_running (marks.BringIn p) = refl
    same_running (marks.PutOut p) = refl
    same_running marks.Audit = refl
    same_running (marks.Turn p n) = refl

-- what a process does that is no flat entry is `Done`
pub act_plain : (A : Inputs) (s : State) (pid : ℕ) (u : Entry) → act A s pid ≡ Some u → process_of_entry u ≡ None → u ≡ entries.Done
unfolding act
act_plain A s pid u h n = can (can_step s.point.flat pid) h
  where
    ends : (e : Entry) → IsStepEnd pid e → process_of_entry e ≡ None → ⊥
    ends (entries.Ran p k) i z = absurd cc
    ends (entries.Grew p k) i z = absurd cc
    ends (entries.Call p k c r0 r1) i z = absurd cc
    ends (entries.Sleeps p) i z = absurd cc
    ends (entries.Ended p k) i z = absurd cc
    ends _ i z = absurd i

    is_first : (b : Bool) (e : Entry) (es : List Entry) → first_if b (e ∷ es) ≡ Some u → e ≡ u
    is_first true e es k = cc
    is_first false e es k = absurd cc

    none_first : (b : Bool) → first_if b [] ≡ Some u → ⊥
    none_first true k = absurd cc
    none_first false k = absurd cc

    of : (es : List Entry) → Shape pid es → first_if (can_step s.point.flat pid) es ≡ Some u → u ≡ entries.Done
    of es (Empty k) e = absurd (none_first (can_step s.point.flat pid) (sym (ap (first_if (can_step s.point.flat pid)) k) ∙ e))
    of es (One x i k) e = absurd (ends x i (ap process_of_entry (is_first (can_step s.point.flat pid) x [] (sym (ap (first_if (can_step s.point.flat pid)) k) ∙ e)) ∙ n))
    of es (Two bytes m c r0 r1 k) e = absurd (
        let i : entries.Out pid bytes ≡ u = is_first (can_step s.point.flat pid) (entries.Out pid bytes) (entries.Call pid m c r0 r1 ∷ []) (sym (ap (first_if (can_step s.point.flat pid)) k) ∙ e) in
        let z : Some pid ≡ None = ap process_of_entry i ∙ n in cc)

    behind_of : (es : List Entry) → Shape pid es → first_if (can_step s.point.flat pid) (behind_first es) ≡ Some u → u ≡ entries.Done
    behind_of es (Empty k) e = absurd (none_first (can_step s.point.flat pid) (sym (ap (λ (l : List Entry). first_if (can_step s.point.flat pid) (behind_first l)) k) ∙ e))
    behind_of es (One x i k) e = absurd (none_first (can_step s.point.flat pid) (sym (ap (λ (l : List Entry). first_if (can_step s.point.flat pid) (behind_first l)) k) ∙ e))
    behind_of es (Two bytes m c r0 r1 k) e = absurd (
        let i : entries.Call pid m c r0 r1 ≡ u =
        is_first (can_step s.point.flat pid) (entries.Call pid m c r0 r1) [] (sym (ap (λ (l : List Entry). first_if (can_step s.point.flat pid) (behind_first l)) k) ∙ e) in
        let z : Some pid ≡ None = ap process_of_entry i ∙ n in cc)

    step : (o : Option Entry) → first_if (can_step s.point.flat pid) (Rattle.flat_model.specs.Run.due o pid (step_at A s.point pid).entries) ≡ Some u → u ≡ entries.Done
    step (Some (entries.Out p bytes)) e = go (p == pid) e
      where
        go : (b : Bool) → first_if (can_step s.point.flat pid) (if b then behind_first (step_at A s.point pid).entries else (step_at A s.point pid).entries) ≡ Some u → u ≡ entries.Done
        go true e = behind_of (step_at A s.point pid).entries (step_shape A s.point.flat pid (is_refused s.point.last pid)) e
        go false e = of (step_at A s.point pid).entries (step_shape A s.point.flat pid (is_refused s.point.last pid)) e
    step _ e = of (step_at A s.point pid).entries (step_shape A s.point.flat pid (is_refused s.point.last pid)) e

    by : (r t : Bool) → act_by A s pid r t ≡ Some u → u ≡ entries.Done
    by true t e = absurd (let i : entries.Refused pid ≡ u = cc in let z : Some pid ≡ None = ap process_of_entry i ∙ n in cc)
    by false true e = cc
    by false false e = step s.point.last e

    can : (b : Bool) → act_if b A s pid ≡ Some u → u ≡ entries.Done
    can true e = by (must_refuse A s pid) (must_settle A s pid) e
    can false e = absurd cc

-- What a process does is `Done`, `Refused`, or the next entry of its step.

pub data Acted (A : Inputs) (s : State) (pid : ℕ) (u : Entry) : Type 0 where
  Settles : u ≡ entries.Done → Acted A s pid u
  Refuses : u ≡ entries.Refused pid → Acted A s pid u
  Steps : must_refuse A s pid ≡ false → must_settle A s pid ≡ false → next_of_step A s.point pid ≡ Some u → Acted A s pid u

pub acted : (A : Inputs) (s : State) (pid : ℕ) (u : Entry) → act A s pid ≡ Some u → Acted A s pid u
unfolding act
acted A s pid u h = can (can_step s.point.flat pid) h
  where
    by : (r t : Bool) → must_refuse A s pid ≡ r → must_settle A s pid ≡ t → act_by A s pid r t ≡ Some u → Acted A s pid u
    by true t f g e = Refuses (sym (same_Some (entries.Refused pid) u e))
    by false true f g e = Settles (sym (same_Some entries.Done u e))
    by false false f g e = Steps f g e

    can : (b : Bool) → act_if b A s pid ≡ Some u → Acted A s pid u
    can true e = by (must_refuse A s pid) (must_settle A s pid) refl refl e
    can false e = absurd cc

-- the last flat entry is then the one that came
head_last : (A : Inputs) (point : Point) (pid : ℕ) (u : Entry) → next_of_step A point pid ≡ Some u
    → (Rattle.flat_model.specs.Run.point_after A point pid).last ≡ Some u
head_last A point pid u h = go (due_at A point pid) (can_step point.flat pid) h
  where
    go : (es : List Entry) (b : Bool) → first_if b es ≡ Some u → (Rattle.flat_model.specs.Run.behind point (step_at A point pid).after es).last ≡ Some u
    go [] true k = absurd cc
    go [] false k = absurd cc
    go (e ∷ es) false k = absurd cc
    go (e ∷ []) true k = k
    go (e ∷ f ∷ es) true k = k

-- what is so of a step's next entry: it is of the process
pub steps_own : (A : Inputs) (point : Point) (pid : ℕ) (u : Entry) → next_of_step A point pid ≡ Some u → process_of_entry u ≡ Some pid
steps_own A point pid u h = step point.last h
  where
    entries_at : List Entry
    entries_at = (step_at A point pid).entries

    ends : (e : Entry) → IsStepEnd pid e → process_of_entry e ≡ Some pid
    ends (entries.Ran p k) i = ap (λ (x : ℕ). Some x) i
    ends (entries.Grew p k) i = ap (λ (x : ℕ). Some x) i
    ends (entries.Call p k c r0 r1) i = ap (λ (x : ℕ). Some x) i
    ends (entries.Sleeps p) i = ap (λ (x : ℕ). Some x) i
    ends (entries.Ended p k) i = ap (λ (x : ℕ). Some x) i
    ends _ i = absurd i

    is_first : (b : Bool) (e : Entry) (es : List Entry) → first_if b (e ∷ es) ≡ Some u → u ≡ e
    is_first true e es k = cc
    is_first false e es k = absurd cc

    none_first : (b : Bool) → first_if b [] ≡ Some u → ⊥
    none_first true k = absurd cc
    none_first false k = absurd cc

    of : (es : List Entry) → Shape pid es → first_if (can_step point.flat pid) es ≡ Some u → process_of_entry u ≡ Some pid
    of es (Empty k) e = absurd (none_first (can_step point.flat pid) (sym (ap (first_if (can_step point.flat pid)) k) ∙ e))
    of es (One x i k) e = ap process_of_entry (is_first (can_step point.flat pid) x [] (sym (ap (first_if (can_step point.flat pid)) k) ∙ e)) ∙ ends x i
    of es (Two bytes m c r0 r1 k) e =
        ap process_of_entry (is_first (can_step point.flat pid) (entries.Out pid bytes) (entries.Call pid m c r0 r1 ∷ []) (sym (ap (first_if (can_step point.flat pid)) k) ∙ e))

    behind_of : (es : List Entry) → Shape pid es → first_if (can_step point.flat pid) (behind_first es) ≡ Some u → process_of_entry u ≡ Some pid
    behind_of es (Empty k) e = absurd (none_first (can_step point.flat pid) (sym (ap (λ (l : List Entry). first_if (can_step point.flat pid) (behind_first l)) k) ∙ e))
    behind_of es (One x i k) e = absurd (none_first (can_step point.flat pid) (sym (ap (λ (l : List Entry). first_if (can_step point.flat pid) (behind_first l)) k) ∙ e))
    behind_of es (Two bytes m c r0 r1 k) e =
        ap process_of_entry (is_first (can_step point.flat pid) (entries.Call pid m c r0 r1) [] (sym (ap (λ (l : List Entry). first_if (can_step point.flat pid) (behind_first l)) k) ∙ e))

    shape : Shape pid entries_at
    shape = step_shape A point.flat pid (is_refused point.last pid)

    out : (b : Bool) → first_if (can_step point.flat pid) (if b then behind_first entries_at else entries_at) ≡ Some u → process_of_entry u ≡ Some pid
    out true e = behind_of entries_at shape e
    out false e = of entries_at shape e

    step : (o : Option Entry) → first_if (can_step point.flat pid) (Rattle.flat_model.specs.Run.due o pid entries_at) ≡ Some u → process_of_entry u ≡ Some pid
    step (Some (entries.Out p bytes)) e = out (p == pid) e
    step _ e = of entries_at shape e

-- after an entry of a step that is no `Out`, and no `Refused`, nobody is waited for
abbrev pub Ends : Entry → Type 0
Ends (entries.Refused p) = ⊥
Ends (entries.Out p bytes) = ⊥
Ends e = Unit {0}

-- it completes the step, or is an `Out`
pub steps_shape : (A : Inputs) (point : Point) (pid : ℕ) (u : Entry) → next_of_step A point pid ≡ Some u
    → Ends u ⊎ ((bytes : List ℕ) × (u ≡ entries.Out pid bytes))
steps_shape A point pid u h = step point.last h
  where
    entries_at : List Entry
    entries_at = (step_at A point pid).entries

    ends : (e : Entry) → IsStepEnd pid e → Ends e
    ends (entries.Ran p k) i = tt
    ends (entries.Grew p k) i = tt
    ends (entries.Call p k c r0 r1) i = tt
    ends (entries.Sleeps p) i = tt
    ends (entries.Ended p k) i = tt
    ends _ i = absurd i

    is_first : (b : Bool) (e : Entry) (es : List Entry) → first_if b (e ∷ es) ≡ Some u → e ≡ u
    is_first true e es k = cc
    is_first false e es k = absurd cc

    none_first : (b : Bool) → first_if b [] ≡ Some u → ⊥
    none_first true k = absurd cc
    none_first false k = absurd cc

    of : (es : List Entry) → Shape pid es → first_if (can_step point.flat pid) es ≡ Some u → Ends u ⊎ ((bytes : List ℕ) × (u ≡ entries.Out pid bytes))
    of es (Empty k) e = absurd (none_first (can_step point.flat pid) (sym (ap (first_if (can_step point.flat pid)) k) ∙ e))
    of es (One x i k) e = inl (subst Ends (is_first (can_step point.flat pid) x [] (sym (ap (first_if (can_step point.flat pid)) k) ∙ e)) (ends x i))
    of es (Two bytes m c r0 r1 k) e =
        inr (bytes, sym (is_first (can_step point.flat pid) (entries.Out pid bytes) (entries.Call pid m c r0 r1 ∷ []) (sym (ap (first_if (can_step point.flat pid)) k) ∙ e)))

    behind_of : (es : List Entry) → Shape pid es → first_if (can_step point.flat pid) (behind_first es) ≡ Some u → Ends u ⊎ ((bytes : List ℕ) × (u ≡ entries.Out pid bytes))
    behind_of es (Empty k) e = absurd (none_first (can_step point.flat pid) (sym (ap (λ (l : List Entry). first_if (can_step point.flat pid) (behind_first l)) k) ∙ e))
    behind_of es (One x i k) e = absurd (none_first (can_step point.flat pid) (sym (ap (λ (l : List Entry). first_if (can_step point.flat pid) (behind_first l)) k) ∙ e))
    behind_of es (Two bytes m c r0 r1 k) e =
        inl (subst Ends (is_first (can_step point.flat pid) (entries.Call pid m c r0 r1) [] (sym (ap (λ (l : List Entry). first_if (can_step point.flat pid) (behind_first l)) k) ∙ e)) tt)

    shape : Shape pid entries_at
    shape = step_shape A point.flat pid (is_refused point.last pid)

    out : (b : Bool) → first_if (can_step point.flat pid) (if b then behind_first entries_at else entries_at) ≡ Some u → Ends u ⊎ ((bytes : List ℕ) × (u ≡ entries.Out pid bytes))
    out true e = behind_of entries_at shape e
    out false e = of entries_at shape e

    step : (o : Option Entry) → first_if (can_step point.flat pid) (Rattle.flat_model.specs.Run.due o pid entries_at) ≡ Some u → Ends u ⊎ ((bytes : List ℕ) × (u ≡ entries.Out pid bytes))
    step (Some (entries.Out p bytes)) e = out (p == pid) e
    step _ e = of entries_at shape e

pub has_some : (es : List Entry) → HasEntry es → es ≡ [] → ⊥
has_some [] h e = h
has_some (x ∷ xs) h e = absurd cc

-- an entry of the process's step
step_waits : (A : Inputs) (s : State) (pid : ℕ) (now : Bool) (u : Entry) → ProcessRuns A s pid now → wanted A s ≡ None → next_of_step A s.point pid ≡ Some u
    → LastSays A (after A s u).point.flat (after A s u).point.last → WaitsBy A (after A s u) (after A s u).point.last
unfolding after
step_waits A s pid now (entries.Out p bytes) r w h says =
    let o : IsOut A s.point pid p bytes = out_of A s.point pid p bytes h in
    let e : after A s (entries.Out p bytes) ≡ noted s (entries.Out p bytes) = out_after A s pid p bytes o in
    subst (λ (t : State). WaitsBy A t t.point.last) (sym e)
    (noted_awaits A s (entries.Out p bytes) p now (subst (λ (x : ℕ). ProcessRuns A s x now) (sym o.own) r) w
    (left (subst (λ (t : State). LastSays A t.point.flat t.point.last) e says)))
  where
    left : LastSays A s.point.flat (Some (entries.Out p bytes)) → due_at A (noted s (entries.Out p bytes)).point p ≡ [] → ⊥
    left (behind, k) z = reply behind (flat_step A s.point.flat p false).entries k (step_shape A s.point.flat p false)
        (sym (ap (λ (b : Bool). if b then behind_first (flat_step A s.point.flat p false).entries else (flat_step A s.point.flat p false).entries) (eq_self p) ∙ ap behind_first k) ∙ z)
      where
        reply : (behind es : List Entry) → es ≡ entries.Out p bytes ∷ behind → Shape p es → behind ≡ [] → ⊥
        reply behind es k (Empty l) z = absurd (let y : [] ≡ entries.Out p bytes ∷ behind = sym l ∙ k in cc)
        reply behind es k (One e i l) z = absurd (let y : e ∷ [] ≡ entries.Out p bytes ∷ behind = sym l ∙ k in let same : e ≡ entries.Out p bytes = cc in subst (IsStepEnd p) same i)
        reply behind es k (Two others n c r0 r1 l) z = absurd (let y : entries.Out p others ∷ entries.Call p n c r0 r1 ∷ [] ≡ entries.Out p bytes ∷ behind = sym l ∙ k in
            let same : entries.Call p n c r0 r1 ∷ [] ≡ behind = cc in let no : entries.Call p n c r0 r1 ∷ [] ≡ [] = same ∙ z in cc)
step_waits A s pid now (entries.Ran p n) r w h says =
    subst (WaitsBy A (after A s (entries.Ran p n))) (sym (subst (λ (x : ℕ). (Rattle.flat_model.specs.Run.point_after A s.point x).last ≡ Some (entries.Ran p n))
    (sym (same_Some p pid (steps_own A s.point pid (entries.Ran p n) h))) (head_last A s.point pid (entries.Ran p n) h))) tt
step_waits A s pid now (entries.Grew p n) r w h says =
    subst (WaitsBy A (after A s (entries.Grew p n))) (sym (subst (λ (x : ℕ). (Rattle.flat_model.specs.Run.point_after A s.point x).last ≡ Some (entries.Grew p n))
    (sym (same_Some p pid (steps_own A s.point pid (entries.Grew p n) h))) (head_last A s.point pid (entries.Grew p n) h))) tt
step_waits A s pid now (entries.Call p n c r0 r1) r w h says =
    subst (WaitsBy A (after A s (entries.Call p n c r0 r1))) (sym (subst (λ (x : ℕ). (Rattle.flat_model.specs.Run.point_after A s.point x).last ≡ Some (entries.Call p n c r0 r1))
    (sym (same_Some p pid (steps_own A s.point pid (entries.Call p n c r0 r1) h))) (head_last A s.point pid (entries.Call p n c r0 r1) h))) tt
step_waits A s pid now (entries.Sleeps p) r w h says =
    subst (WaitsBy A (after A s (entries.Sleeps p))) (sym (subst (λ (x : ℕ). (Rattle.flat_model.specs.Run.point_after A s.point x).last ≡ Some (entries.Sleeps p))
    (sym (same_Some p pid (steps_own A s.point pid (entries.Sleeps p) h))) (head_last A s.point pid (entries.Sleeps p) h))) tt
step_waits A s pid now (entries.Ended p n) r w h says =
    subst (WaitsBy A (after A s (entries.Ended p n))) (sym (subst (λ (x : ℕ). (Rattle.flat_model.specs.Run.point_after A s.point x).last ≡ Some (entries.Ended p n))
    (sym (same_Some p pid (steps_own A s.point pid (entries.Ended p n) h))) (head_last A s.point pid (entries.Ended p n) h))) tt
step_waits A s pid now (entries.Refused p) r w h says = absurd (never (steps_shape A s.point pid (entries.Refused p) h))
  where
    never : Ends (entries.Refused p) ⊎ ((bytes : List ℕ) × (entries.Refused p ≡ entries.Out pid bytes)) → ⊥
    never (inl x) = x
    never (inr x) = let e = x.1 in absurd cc
step_waits A s pid now x r w h says = absurd (let e = steps_own A s.point pid x h in cc)

pub plain_point : (A : Inputs) (s : State) (u : Entry) → process_of_entry u ≡ None → (after A s u).point ≡ s.point
unfolding flat_entry
plain_point A s u h = after_point A s u s.point (ap (λ (o : Option ℕ). Rattle.flat_model.specs.Run.flat_entry_by A s.point o u) h)

-- a unit that is no flat entry
plain_waits : (A : Inputs) (s : State) (u : Entry) → OwnsFrames s.place → next_unit A s ≡ Some u → process_of_entry u ≡ None
    → WaitsBy A s s.point.last → WaitsBy A (after A s u) (after A s u).point.last
plain_waits A s u o h n w = subst (λ (x : Point). WaitsBy A (after A s u) x.last) (sym (plain_point A s u n)) (go s.point.last w)
  where
    one : (p : ℕ) → Awaits A s p → Awaits A (after A s u) p
    one p a = subst (λ (x : Entry). Awaits A (after A s x) p) (sym (act_plain A s p u (awaits_next A s u p a h) n)) (done_awaits A s p o a)

    go : (l : Option Entry) → WaitsBy A s l → WaitsBy A (after A s u) l
    go (Some (entries.Refused p)) w = one p w
    go (Some (entries.Out p bytes)) w = one p w
    go _ w = tt

-- what is so after each next unit
pub flows_on : (A : Inputs) (s : State) (u : Entry) → OwnsFrames s.place → Flows A s → next_unit A s ≡ Some u → Flows A (after A s u)
flows_on A s u o f h = go (kind_of A s u h)
  where
    n : (process_of_entry u ≡ None) ⊎ IsNext A s u
    n = next_or A s u f.waits (kind_of A s u h)

    says : LastSays A (after A s u).point.flat (after A s u).point.last
    says = next_says A s u f.says n

    plain : process_of_entry u ≡ None → Flows A (after A s u)
    plain k = record { says = says; waits = plain_waits A s u o h k f.waits }

    act_by_kind : (pid : ℕ) (now : Bool) → ProcessRuns A s pid now → wanted A s ≡ None → Acted A s pid u → Flows A (after A s u)
    act_by_kind pid now r w (Settles e) = plain (ap process_of_entry e)
    act_by_kind pid now r w (Refuses e) =
        let refuses : u ≡ entries.Refused pid → WaitsBy A (after A s u) (after A s u).point.last = λ e. subst (λ (x : Entry). WaitsBy A (after A s x) (after A s x).point.last) (sym e)
        (subst (λ (t : State). WaitsBy A t t.point.last) (sym (refused_after A s pid))
        (noted_awaits A s (entries.Refused pid) pid now r w
        (λ z. has_some (flat_step A s.point.flat pid true).entries
        (refused_entry A s.point.flat pid
        (subst (λ (t : State). LastSays A t.point.flat t.point.last) (refused_after A s pid) (subst (λ (x : Entry). LastSays A (after A s x).point.flat (after A s x).point.last) e says)))
        (sym (ap (λ (b : Bool). (flat_step A s.point.flat pid b).entries) (eq_self pid)) ∙ z)))) in
        record { says = says; waits = refuses e }
    act_by_kind pid now r w (Steps f g e) = record { says = says; waits = step_waits A s pid now u r w e says }

    go : Kind A s u → Flows A (after A s u)
    go (Acts pid now r w a) = act_by_kind pid now r w (acted A s pid u a)
    go (Fills q due e i) = plain (ap process_of_entry i ∙ Rattle.run_laws.proofs.Plain.zero_flat s.place q)
    go (Brings q parent due e i) = plain (serve_plain s.place parent true u i)
    go (Copies q parent due e m i) = plain (ap process_of_entry i ∙ Rattle.run_laws.proofs.Plain.copy_flat s.place q)
    go (ServesWanted pid now q r e i) = plain (serve_plain s.place q now u i)
    go (ProcessComes pid e c i) = plain (ap process_of_entry i)
    go (Interrupts e m i) = plain (ap process_of_entry i)
    go (HandsMove count e m l k i) = plain (ap process_of_entry i ∙ Rattle.run_laws.proofs.Plain.move_flat s.place (locked A s))
    go (ProcessGoes pid e m i) =
        plain (ap process_of_entry i ∙ Rattle.run_laws.proofs.Plain.put_flat s.place pid (Rattle.page_model.specs.Place.space_of_process (Rattle.flat_state.specs.Flat.process_of s.point.flat pid)))
    go (Notes e m i) = plain (ap process_of_entry i)
    go (Begins e m i) = plain (Rattle.run_laws.proofs.Plain.mark_flat A s u i)
