-- Marks under which a process runs: it comes in, its pages are served, and it acts, till it counts an instruction or waits.
use Rattle.std.proofs.Common.{◌≡◌, ℕ, zero, suc, ◌+◌, ◌<◌, ◌≤◌, Bool, true, false, List, [], ◌∷◌, length, Option, Some, None, refl, sym, ap, ◌∙◌, subst, arith}
use Rattle.std.proofs.lemmas.List.{length-append}
use Rattle.vm_facts.specs.declared.page.Page.{Page}
use Rattle.vm_facts.specs.declared.entry.Entry.{Entry}
use Rattle.vm_facts.specs.declared.entry.Entry.TheVariants as entries
use Rattle.flat_state.specs.Flat.{Inputs, can_step}
use Rattle.page_model.specs.Pages.{is_valid}
use Rattle.page_model.specs.Placement.{Placement, Residence, Due, due_of_page, state_of, IsThere}
use Rattle.page_model.specs.Moves.{done}
use Rattle.page_model.specs.Place.{moved, place_entry}
use Rattle.page_model.specs.Rank.{rank, HasRoom}
use Rattle.page_model.specs.Serve.{serve_step, serve_entry}
use Rattle.page_model.specs.Swapper.{is_out}
use Rattle.page_laws.proofs.Ends.Serving.{serve_falls}
use Rattle.page_laws.proofs.Moves.Locks.{done_spares, serve_spares}
use Rattle.page_laws.proofs.Moves.Stays.{Steady, done_steady}
use Rattle.page_laws.proofs.Moves.Units.{unit_is, now_unit}
use Rattle.page_laws.proofs.Swapper.Residences.{moved_own}
use Rattle.page_laws.proofs.Due.Entries.{serve_dues}
use Rattle.flat_model.specs.Run.{Point, process_of_entry, entry_of_step as next_of_step}
use Rattle.flat_model.specs.Touched.{touched}
use Rattle.run_model.specs.declared.mark.Mark.{Mark}
use Rattle.run_model.specs.declared.mark.Mark.TheVariants as marks
use Rattle.run_model.specs.State.{State}
use Rattle.run_model.specs.Wanted.{AllValid, running, first_absent, wanted, locked, Splits}
use Rattle.run_model.specs.Snapshot.{before_absent}
use Rattle.run_model.specs.After.{place_at, after}
use Rattle.run_model.specs.Act.{act}
use Rattle.run_model.specs.Next.{next_unit}
use Rattle.run_model.specs.Kinds.{ProcessRuns, Comes, Kind, Fills, Brings, Copies, ServesWanted, Acts, ProcessComes, Interrupts, HandsMove, ProcessGoes, Notes, Begins}
use Rattle.run_model.proofs.NextUnits.{kind_of}
use Rattle.run_model.proofs.Wanting.{split_absent, none_absent, split_first, split_before, all_present}
use Rattle.run_laws.specs.Running.{IsRun}
use Rattle.run_laws.proofs.Flows.{Acted, Settles, Refuses, Steps, acted, steps_own, on_steps, on_running, noted, refused_after, out_of, out_after, plain_point, spared}
use Rattle.run_laws.proofs.Paging.{Leaver}
use Rattle.run_laws.proofs.Plain.{paging_stays, serve_paging, serve_flat}
use Rattle.run_laws.proofs.Room.{run_few, run_room}
use Rattle.run_laws.proofs.Settling.{settles}
use Rattle.run_laws.proofs.Units.{plain_place, owns}
use Rattle.economy_laws.specs.Stretch.{TouchesMore}
use Rattle.economy_laws.specs.Finishes.{Finishes}
use Rattle.economy_laws.proofs.Growing.{all_grown}
use Rattle.economy_laws.proofs.Growth.{growth_touches}
use Rattle.economy_laws.proofs.Left.{after_served, stays_in, wanted_on, locked_on, split_there, split_longer, is_closed}
use Rattle.run_laws.proofs.LockedRoom.{before_few}
use Rattle.page_laws.proofs.Serving.{done_less}
use Rattle.economy_laws.proofs.Sleeping.{sleep_stops}
use Rattle.economy_laws.proofs.Stretching.{Slept, open_last, resident_out}
use Rattle.economy_laws.proofs.Finishing.Stages.{is_boundary, Stage, finish_on, mark_boundary, quiet_stretch, IsLasting, mark_lasts, stands}
use Rattle.economy_laws.proofs.Finishing.Dues.{due_ends}

-- a process runs that is in, and nothing is due
pub record Inside (A : Inputs) (s : State) (pid : ℕ) : Type 0 where
  pub on : running s.mark ≡ Some pid
  pub clear : s.place.due ≡ []
  pub inside : is_out s.place pid ≡ false

-- its units between two boundaries
pub data Works (A : Inputs) (s : State) (pid : ℕ) (u : Entry) : Type 0 where
  Serving : (now : Bool) (q : Page) → ProcessRuns A s pid now → wanted A s ≡ Some q → is_valid (state_of s.place q) ≡ false
      → u ≡ serve_entry s.place q → Works A s pid u
  Acting : (now : Bool) → ProcessRuns A s pid now → wanted A s ≡ None → act A s pid ≡ Some u → Works A s pid u
  Entering : is_out s.place pid ≡ true → u ≡ entries.SwapIn pid → Works A s pid u

running_lasts : (m : Mark) (pid : ℕ) → running m ≡ Some pid → IsLasting m
running_lasts (marks.Dispatch p count since) pid e = tt
running_lasts (marks.Turn p since) pid e = tt
running_lasts _ pid e = absurd cc

comes_out : (A : Inputs) (s : State) (m : Mark) (p pid : ℕ) → running m ≡ Some pid → Comes A s m p → (p ≡ pid) × (is_out s.place p ≡ true)
comes_out A s (marks.Turn t since) p pid e c = (sym c.0 ∙ (let z : t ≡ pid = cc in z), c.2)
comes_out A s (marks.BringIn t) p pid e c = absurd cc
comes_out A s _ p pid e c = absurd c

works : (A : Inputs) (s : State) (pid : ℕ) (u : Entry) → running s.mark ≡ Some pid → s.place.due ≡ [] → next_unit A s ≡ Some u → is_boundary u ≡ false
    → Works A s pid u
works A s pid u m d h n = go (kind_of A s u h)
  where
    some : (a b : ℕ) → Some a ≡ Some b → a ≡ b
    some a b e = cc

    same : (p : ℕ) (now : Bool) → ProcessRuns A s p now → p ≡ pid
    same p now r = some p pid (sym (on_running A s s.mark p now r.on) ∙ m)

    other : (x : Mark) → s.mark ≡ x → running x ≡ None → ⊥
    other x e k = absurd (let z : Some pid ≡ None = sym m ∙ ap running e ∙ k in cc)

    go : Kind A s u → Works A s pid u
    go (Fills q ds e i) = absurd (let z : [] ≡ _ ∷ ds = sym d ∙ e in cc)
    go (Brings q parent ds e i) = absurd (let z : [] ≡ _ ∷ ds = sym d ∙ e in cc)
    go (Copies q parent ds e k i) = absurd (let z : [] ≡ _ ∷ ds = sym d ∙ e in cc)
    go (ServesWanted p now q r w i) = let k = unit_is s.place q now u i in Serving now q (subst (λ (x : ℕ). ProcessRuns A s x now) (same p now r) r) w k.0 k.1
    go (Acts p now r w a) = Acting now (subst (λ (x : ℕ). ProcessRuns A s x now) (same p now r) r) w (subst (λ (x : ℕ). act A s x ≡ Some u) (same p now r) a)
    go (ProcessComes p e c i) =
        let k = comes_out A s s.mark p pid m c in
        Entering (subst (λ (x : ℕ). is_out s.place x ≡ true) k.0 k.1) (i ∙ ap (λ (x : ℕ). entries.SwapIn x) k.0)
    go (Interrupts e k i) = absurd (other marks.Interrupt k refl)
    go (HandsMove count e k l w i) = absurd (other (marks.Hands count) k refl)
    go (ProcessGoes p e k i) = absurd (other (marks.PutOut p) k refl)
    go (Notes e k i) = absurd (other marks.Audit k refl)
    go (Begins e k i) = absurd (let z : true ≡ false = sym (mark_boundary A s u i) ∙ n in cc)

still_on : (A : Inputs) (s : State) (pid : ℕ) (u : Entry) → running s.mark ≡ Some pid → is_boundary u ≡ false → running (after A s u).mark ≡ Some pid
still_on A s pid u m n = ap running (mark_lasts A s u (running_lasts s.mark pid m) n) ∙ m

-- A process that can't step.

idle_ends : (A : Inputs) (P : State → Type 0) (s : State) (pid : ℕ) → Stage A P → P s → Inside A s pid → can_step s.point.flat pid ≡ false → Finishes A s
idle_ends A P s pid g p i c = finish_on A P s g p (λ u h n p2. absurd (go u (works A s pid u i.on i.clear h n)))
  where
    runs : (now : Bool) → ProcessRuns A s pid now → ⊥
    runs now r = absurd (let z : true ≡ false = sym (on_steps A s s.mark pid now r.on) ∙ c in cc)

    go : (u : Entry) → Works A s pid u → ⊥
    go u (Serving now q r w v k) = runs now r
    go u (Acting now r w a) = runs now r
    go u (Entering o k) = absurd (let z : true ≡ false = sym o ∙ i.inside in cc)

-- A page that is wanted.

serve_ends : (n : ℕ) (A : Inputs) (P : State → Type 0) (pid : ℕ) (q : Page) (pages front : List Page) (s : State) → Stage A P
    → ((t : State) → P t → Inside A t pid → touched A t.point.flat pid ≡ pages → length front + 1 ≤ length (before_absent t.place pages) → Finishes A t)
    → P s → Inside A s pid → touched A s.point.flat pid ≡ pages → before_absent s.place pages ≡ front → wanted A s ≡ Some q
    → rank s.place front q < n → Finishes A s
serve_ends zero A P pid q pages front s g on p i ts fs w lt = absurd (omega arith)
serve_ends (suc n) A P pid q pages front s g on p i ts fs w lt = finish_on A P s g p (λ u h b p2. go (λ t. serve_ends n A P pid q pages front t g on) u b p2 (works A s pid u i.on i.clear h b))
  where
    r : IsRun A s
    r = g.run s p

    splits : Splits s.place pages front q
    splits = subst (λ (f : List Page). Splits s.place pages f q) fs (split_absent s.place pages q (ap (first_absent s.place) (sym ts) ∙ sym (wanted_on A s pid i.on i.clear) ∙ w))

    there : IsThere s.place q
    there = split_there A s pid front q r (subst (λ (x : List Page). Splits s.place x front q) (sym ts) splits)

    locks : locked A s ≡ front
    locks = locked_on A s pid i.on i.clear ∙ ap (before_absent s.place) ts ∙ fs

    room : HasRoom s.place front
    room = subst (HasRoom s.place) locks (run_room A s r g.frames)

    kept : AllValid (serve_step s.place front q) front
    kept = let x : Splits s.place pages front q = splits in spared s.place (serve_step s.place front q) front x.valid (serve_spares s.place front q (owns A s r.placed) there) front (λ y e. e)

    served : (u : Entry) → is_valid (state_of s.place q) ≡ false → u ≡ serve_entry s.place q → is_boundary u ≡ false → P (after A s u)
        → ((t : State) → P t → Inside A t pid → touched A t.point.flat pid ≡ pages → before_absent t.place pages ≡ front → wanted A t ≡ Some q → rank t.place front q < n → Finishes A t)
        → Finishes A (after A s u)
    served u nv is b p2 more = by (is_valid (state_of (serve_step s.place front q) q)) refl
      where
        plain : process_of_entry u ≡ None
        plain = ap process_of_entry is ∙ serve_flat s.place q

        pl : (after A s u).place ≡ serve_step s.place front q
        pl = after_served A s u front q locks (now_unit s.place q nv ∙ ap (λ (x : Entry). Some x) (sym is))

        due : (after A s u).place.due ≡ []
        due = ap (λ (x : Placement). x.due) pl ∙ serve_dues s.place front q (owns A s r.placed) (ap (λ (x : List Due). due_of_page x q) i.clear) ∙ i.clear

        out : (o : Bool) → is_out (after A s u).place pid ≡ o → o ≡ false
        out false e = refl
        out true e = absurd (stays_in A s u pid plain (λ x. paging_stays (serve_entry s.place q) pid (serve_paging s.place q) (subst (λ (y : Entry). Leaver y pid) is x)) i.inside e)

        here : Inside A (after A s u) pid
        here = record { on = still_on A s pid u i.on b; clear = due; inside = out (is_out (after A s u).place pid) refl }

        same : touched A (after A s u).point.flat pid ≡ pages
        same = ap (λ (x : Point). touched A x.flat pid) (plain_point A s u plain) ∙ ts

        by : (v : Bool) → is_valid (state_of (serve_step s.place front q) q) ≡ v → Finishes A (after A s u)
        by true v =
            let x : Splits s.place pages front q = splits in
            let longer = split_longer (serve_step s.place front q) pages front x.behind q x.whole kept v in
            let len = ap (λ (y : Placement). length (before_absent y pages)) pl in
            on (after A s u) p2 here same (omega arith)
        by false v =
            let x : Splits s.place pages front q = splits in
            let y : Splits (after A s u).place pages front q = record {
              behind = x.behind;
              whole = x.whole;
              valid = subst (λ (z : Placement). AllValid z front) (sym pl) kept;
              absent = subst (λ (z : Placement). is_valid (state_of z q) ≡ false) (sym pl) v;
            } in
            let wants : wanted A (after A s u) ≡ Some q =
            wanted_on A (after A s u) pid here.on here.clear ∙ ap (first_absent (after A s u).place) same ∙ split_first (after A s u).place pages front q y in
            let a = ap (λ (z : Placement). rank z front q) pl in
            let c = serve_falls s.place front q (owns A s r.placed) (stands A s r) room there nv in
            more (after A s u) p2 here same (split_before (after A s u).place pages front q y) wants (omega arith)

    some_same : (a c : Page) → Some a ≡ Some c → a ≡ c
    some_same a c e = cc

    go : ((t : State) → P t → Inside A t pid → touched A t.point.flat pid ≡ pages → before_absent t.place pages ≡ front → wanted A t ≡ Some q → rank t.place front q < n → Finishes A t)
        → (u : Entry) → is_boundary u ≡ false → P (after A s u) → Works A s pid u → Finishes A (after A s u)
    go more u b p2 (Serving now z run wz v k) =
        let e : z ≡ q = some_same z q (sym wz ∙ w) in
        served u (subst (λ (x : Page). is_valid (state_of s.place x) ≡ false) e v) (k ∙ ap (serve_entry s.place) e) b p2 more
    go more u b p2 (Acting now run wz a) = absurd (let z : None ≡ Some q = sym wz ∙ w in cc)
    go more u b p2 (Entering o k) = absurd (let z : true ≡ false = sym o ∙ i.inside in cc)

-- What a process does.

-- after a transfer that ends for its step, it acts as before
record Settled (A : Inputs) (s t : State) (pid : ℕ) : Type 0 where
  here : Inside A t pid
  none : wanted A t ≡ None
  less : length t.place.transfers < length s.place.transfers
  point : t.point ≡ s.point

settled : (A : Inputs) (s : State) (pid : ℕ) (u : Entry) → IsRun A s → Inside A s pid → wanted A s ≡ None → act A s pid ≡ Some u → u ≡ entries.Done
    → is_boundary u ≡ false → Settled A s (after A s u) pid
settled A s pid u r i w a is b =
    let pl : (after A s u).place ≡ done s.place = plain_place A s u plain ∙ ap (place_entry (locked A s) (place_at s u) s.place) is in
    let point : (after A s u).point ≡ s.point = plain_point A s u plain in
    let fewer : length (after A s u).place.transfers + 1 ≡ length s.place.transfers =
    let some = settles A s pid (a ∙ ap (λ (x : Entry). Some x) is) in
    let l = done_less s.place (λ z. absurd (let y = ap length z in omega arith)) in let t = ap (λ (x : Placement). length x.transfers) pl in omega arith in
    let due : (after A s u).place.due ≡ [] =
    let st : Steady s.place (done s.place) = done_steady s.place (owns A s r.placed) in ap (λ (x : Placement). x.due) pl ∙ st.due ∙ i.clear in
    let here : Inside A (after A s u) pid = record { on = still_on A s pid u i.on b; clear = due; inside = out (is_out (after A s u).place pid) refl } in
    let valid : AllValid s.place (touched A s.point.flat pid) = none_absent s.place (touched A s.point.flat pid) (sym (wanted_on A s pid i.on i.clear) ∙ w) in
    let none : wanted A (after A s u) ≡ None =
    let kept = spared s.place (done s.place) (touched A s.point.flat pid) valid (done_spares s.place (touched A s.point.flat pid) (owns A s r.placed)) (touched A s.point.flat pid) (λ y e. e) in
    wanted_on A (after A s u) pid (still_on A s pid u i.on b) due ∙ ap (first_absent (after A s u).place) (ap (λ (x : Point). touched A x.flat pid) point)
    ∙ ap (λ (x : Placement). first_absent x (touched A s.point.flat pid)) pl ∙ all_present (done s.place) (touched A s.point.flat pid) kept in
    record { here = here; none = none; less = omega (arith, fewer); point = point }
  where
    plain : process_of_entry u ≡ None
    plain = ap process_of_entry is

    out : (o : Bool) → is_out (after A s u).place pid ≡ o → o ≡ false
    out false e = refl
    out true e = absurd (stays_in A s u pid plain (λ x. subst (λ (y : Entry). Leaver y pid) is x) i.inside e)

-- after `Refused` and `Out` transfers end, or a boundary comes
closed_ends : (n : ℕ) (A : Inputs) (P : State → Type 0) (pid : ℕ) (s : State) → Stage A P → P s → Inside A s pid → wanted A s ≡ None
    → is_closed s.point.last ≡ true → length s.place.transfers < n → Finishes A s
closed_ends zero A P pid s g p i w c lt = absurd (omega arith)
closed_ends (suc n) A P pid s g p i w c lt = finish_on A P s g p (λ u h b p2. go (λ t. closed_ends n A P pid t g) u h b p2 (works A s pid u i.on i.clear h b))
  where
    r : IsRun A s
    r = g.run s p

    never : (u : Entry) → next_unit A s ≡ Some u → is_boundary u ≡ false → process_of_entry u ≡ Some pid → ⊥
    never u h b e = absurd (let z : true ≡ false = sym c ∙ open_last A s u pid r h e (quiet_stretch u b) in cc)

    acts : ((t : State) → P t → Inside A t pid → wanted A t ≡ None → is_closed t.point.last ≡ true → length t.place.transfers < n → Finishes A t)
        → (u : Entry) → next_unit A s ≡ Some u → is_boundary u ≡ false → P (after A s u) → act A s pid ≡ Some u → Acted A s pid u → Finishes A (after A s u)
    acts more u h b p2 a (Settles is) =
        let x : Settled A s (after A s u) pid = settled A s pid u r i w a is b in
        more (after A s u) p2 x.here x.none (ap (λ (y : Point). is_closed y.last) x.point ∙ c) (let l = x.less in omega arith)
    acts more u h b p2 a (Refuses is) = absurd (never u h b (ap process_of_entry is))
    acts more u h b p2 a (Steps f k is) = absurd (never u h b (steps_own A s.point pid u is))

    go : ((t : State) → P t → Inside A t pid → wanted A t ≡ None → is_closed t.point.last ≡ true → length t.place.transfers < n → Finishes A t)
        → (u : Entry) → next_unit A s ≡ Some u → is_boundary u ≡ false → P (after A s u) → Works A s pid u → Finishes A (after A s u)
    go more u h b p2 (Serving now q run wq v k) = absurd (let z : Some q ≡ None = sym wq ∙ w in cc)
    go more u h b p2 (Acting now run wn a) = acts more u h b p2 a (acted A s pid u a)
    go more u h b p2 (Entering o k) = absurd (let z : true ≡ false = sym o ∙ i.inside in cc)

noted_ends : (A : Inputs) (P : State → Type 0) (pid : ℕ) (s : State) (u : Entry) → Stage A P → P (after A s u) → Inside A s pid → wanted A s ≡ None
    → is_closed (Some u) ≡ true → after A s u ≡ noted s u → Finishes A (after A s u)
noted_ends A P pid s u g p2 i w c e =
    let here : Inside A (noted s u) pid = record { on = i.on; clear = i.clear; inside = i.inside } in
    let none : wanted A (noted s u) ≡ None = wanted_on A (noted s u) pid i.on i.clear ∙ sym (wanted_on A s pid i.on i.clear) ∙ w in
    closed_ends (1 + length (after A s u).place.transfers) A P pid (after A s u) g p2
    (subst (λ (t : State). Inside A t pid) (sym e) here) (subst (λ (t : State). wanted A t ≡ None) (sym e) none) (subst (λ (t : State). is_closed t.point.last ≡ true) (sym e) c) (omega arith)

-- its pages are all valid: it acts, and once it grew it touches more pages
act_ends : (n : ℕ) (A : Inputs) (P : State → Type 0) (pid most : ℕ) (s : State) → Stage A P
    → ((t : State) → P t → Inside A t pid → most + 1 ≤ length (touched A t.point.flat pid) → Finishes A t)
    → P s → Inside A s pid → wanted A s ≡ None → most ≤ length (touched A s.point.flat pid) → length s.place.transfers < n → Finishes A s
act_ends zero A P pid most s g on p i w m lt = absurd (omega arith)
act_ends (suc n) A P pid most s g on p i w m lt = finish_on A P s g p (λ u h b p2. go (λ t. act_ends n A P pid most t g on) u h b p2 (works A s pid u i.on i.clear h b))
  where
    r : IsRun A s
    r = g.run s p

    own_pid : (a c : ℕ) → Some a ≡ Some c → a ≡ c
    own_pid a c e = cc

    grown : (u : Entry) (pages : ℕ) → next_unit A s ≡ Some u → is_boundary u ≡ false → P (after A s u) → u ≡ entries.Grew pid pages → Finishes A (after A s u)
    grown u pages h b p2 is =
        let x : TouchesMore A s (after A s u) pid =
        subst (λ (y : Entry). TouchesMore A s (after A s y) pid) (sym is) (all_grown A (growth_touches A) s pid pages r (h ∙ ap (λ (y : Entry). Some y) is)) in
        let len = ap length x.touches in
        let len2 = length-append (touched A s.point.flat pid) (x.next ∷ x.more) in
        on (after A s u) p2 (record { on = still_on A s pid u i.on b; clear = x.clear; inside = x.resident i.inside }) (omega arith)

    slept : (u : Entry) → next_unit A s ≡ Some u → is_boundary u ≡ false → P (after A s u) → u ≡ entries.Sleeps pid → Finishes A (after A s u)
    slept u h b p2 is =
        let x : Slept A s (after A s u) pid = subst (λ (y : Entry). Slept A s (after A s y) pid) (sym is) (sleep_stops A s pid r (h ∙ ap (λ (y : Entry). Some y) is)) in
        idle_ends A P (after A s u) pid g p2 (record { on = still_on A s pid u i.on b; clear = x.clear; inside = x.resident i.inside }) x.idle

    stepped : (u x : Entry) → u ≡ x → next_unit A s ≡ Some u → is_boundary u ≡ false → P (after A s u) → next_of_step A s.point pid ≡ Some u → process_of_entry x ≡ Some pid → is_boundary x ≡ false
        → Finishes A (after A s u)
    stepped u (entries.Out q bytes) is h b p2 f e z = noted_ends A P pid s u g p2 i w (ap (λ (y : Entry). is_closed (Some y)) is)
        (subst (λ (y : Entry). after A s y ≡ noted s y) (sym is) (out_after A s pid q bytes (out_of A s.point pid q bytes (f ∙ ap (λ (y : Entry). Some y) is))))
    stepped u (entries.Refused q) is h b p2 f e z =
        noted_ends A P pid s u g p2 i w (ap (λ (y : Entry). is_closed (Some y)) is) (subst (λ (y : Entry). after A s y ≡ noted s y) (sym is) (refused_after A s q))
    stepped u (entries.Grew q pages) is h b p2 f e z = grown u pages h b p2 (is ∙ ap (λ (y : ℕ). entries.Grew y pages) (own_pid q pid e))
    stepped u (entries.Sleeps q) is h b p2 f e z = slept u h b p2 (is ∙ ap (λ (y : ℕ). entries.Sleeps y) (own_pid q pid e))
    stepped u _ is h b p2 f e z = absurd cc

    acts : ((t : State) → P t → Inside A t pid → wanted A t ≡ None → most ≤ length (touched A t.point.flat pid) → length t.place.transfers < n → Finishes A t)
        → (u : Entry) → next_unit A s ≡ Some u → is_boundary u ≡ false → P (after A s u) → act A s pid ≡ Some u → Acted A s pid u → Finishes A (after A s u)
    acts more u h b p2 a (Settles is) =
        let x : Settled A s (after A s u) pid = settled A s pid u r i w a is b in
        more (after A s u) p2 x.here x.none (let y = ap (λ (z : Point). length (touched A z.flat pid)) x.point in omega arith) (let l = x.less in omega arith)
    acts more u h b p2 a (Refuses is) = noted_ends A P pid s u g p2 i w (ap (λ (y : Entry). is_closed (Some y)) is) (subst (λ (y : Entry). after A s y ≡ noted s y) (sym is) (refused_after A s pid))
    acts more u h b p2 a (Steps f k is) = stepped u u refl h b p2 is (steps_own A s.point pid u is) b

    go : ((t : State) → P t → Inside A t pid → wanted A t ≡ None → most ≤ length (touched A t.point.flat pid) → length t.place.transfers < n → Finishes A t)
        → (u : Entry) → next_unit A s ≡ Some u → is_boundary u ≡ false → P (after A s u) → Works A s pid u → Finishes A (after A s u)
    go more u h b p2 (Serving now q run wq v k) = absurd (let z : Some q ≡ None = sym wq ∙ w in cc)
    go more u h b p2 (Acting now run wn a) = acts more u h b p2 a (acted A s pid u a)
    go more u h b p2 (Entering o k) = absurd (let z : true ≡ false = sym o ∙ i.inside in cc)

-- A process that is in: with each page that is served one more is valid of those touched; and with each growth it touches more.

pages_end : (y : ℕ) (A : Inputs) (P : State → Type 0) (pid most : ℕ) (s : State) → Stage A P
    → ((t : State) → P t → Inside A t pid → most + 1 ≤ length (touched A t.point.flat pid) → Finishes A t)
    → P s → Inside A s pid → most ≤ length (touched A s.point.flat pid) → 32 ≤ length (before_absent s.place (touched A s.point.flat pid)) + y → Finishes A s
pages_end zero A P pid most s g on p i m l = absurd (let a = before_few s.place (touched A s.point.flat pid) in let b = run_few A s pid (g.run s p) in omega arith)
pages_end (suc y) A P pid most s g on p i m l = go (λ t. pages_end y A P pid most t g on) (wanted A s) refl
  where
    go : ((t : State) → P t → Inside A t pid → most ≤ length (touched A t.point.flat pid) → 32 ≤ length (before_absent t.place (touched A t.point.flat pid)) + y → Finishes A t) → (o : Option Page)
        → wanted A s ≡ o → Finishes A s
    go more None w = act_ends (1 + length s.place.transfers) A P pid most s g on p i w m (omega arith)
    go more (Some q) w =
        let pages : List Page = touched A s.point.flat pid in
        let front : List Page = before_absent s.place (touched A s.point.flat pid) in
        serve_ends (1 + rank s.place (before_absent s.place (touched A s.point.flat pid)) q) A P pid q (touched A s.point.flat pid) (before_absent s.place (touched A s.point.flat pid)) s g
        (λ t pt it same longer.
        let a = ap length same in
        let c = ap (λ (z : List Page). length (before_absent t.place z)) same in
        more t pt it (omega arith) (omega arith))
        p i refl refl w (omega arith)

inside_ends : (x : ℕ) (A : Inputs) (P : State → Type 0) (pid : ℕ) (s : State) → Stage A P → P s → Inside A s pid
    → 32 ≤ length (touched A s.point.flat pid) + x → Finishes A s
inside_ends zero A P pid s g p i l = absurd (let b = run_few A s pid (g.run s p) in omega arith)
inside_ends (suc x) A P pid s g p i l = pages_end 32 A P pid (length (touched A s.point.flat pid)) s g (λ t pt it longer. inside_ends x A P pid t g pt it (omega arith)) p i (omega arith) (omega arith)

-- A process that runs.
pub process_ends : (A : Inputs) (P : State → Type 0) (s : State) → Stage A P → P s → (pid : ℕ) → running s.mark ≡ Some pid → Finishes A s
process_ends A P s g p pid m = due_ends (length s.place.due) A P s.mark s g (running_lasts s.mark pid m) (λ t pt dt mt. cleared t pt dt (ap running mt ∙ m)) p (omega arith) refl
  where
    cleared : (t : State) → P t → t.place.due ≡ [] → running t.mark ≡ Some pid → Finishes A t
    cleared t pt d on = go (is_out t.place pid) refl
      where
        enters : (u : Entry) → is_boundary u ≡ false → P (after A t u) → is_out t.place pid ≡ true → Works A t pid u → Finishes A (after A t u)
        enters u b p2 o (Serving now q r w v k) = absurd (let z : true ≡ false = sym o ∙ r.resident in cc)
        enters u b p2 o (Acting now r w a) = absurd (let z : true ≡ false = sym o ∙ r.resident in cc)
        enters u b p2 o (Entering z is) =
            let pl : (after A t u).place ≡ moved t.place pid false (place_at t u) = plain_place A t u (ap process_of_entry is) ∙ ap (place_entry (locked A t) (place_at t u) t.place) is in
            let out : is_out (after A t u).place pid ≡ false =
            ap (λ (x : Placement). is_out x pid) pl ∙ ap (λ (x : Residence). x.out) (moved_own t.place pid false (place_at t u) (resident_out t.place.residents pid o)) in
            inside_ends 32 A P pid (after A t u) g p2 (record { on = still_on A t pid u on b; clear = ap (λ (x : Placement). x.due) pl ∙ d; inside = out }) (omega arith)

        go : (o : Bool) → is_out t.place pid ≡ o → Finishes A t
        go false o = inside_ends 32 A P pid t g pt (record { on = on; clear = d; inside = o }) (omega arith)
        go true o = finish_on A P t g pt (λ u h b p2. enters u b p2 o (works A t pid u on d h b))
