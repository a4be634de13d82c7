-- What a process does leaves what stands.
use Rattle.std.proofs.Common.{◌≡◌, ℕ, Bool, true, false, not, ◌&&◌, if◌then◌else◌, List, [], ◌∷◌, Option, Some, None, Result, Ok, Err, refl, sym, ap, ◌∙◌, subst}
use Rattle.flat_state.specs.Space.{Space}
use Rattle.flat_state.specs.Flat.{Holding, Holds, Lends, Zombie, Process, FlatState, Inputs, process_of, can_step, ready_if, holds_space}
use Rattle.vm_facts.specs.declared.entry.Entry.{Entry}
use Rattle.vm_facts.specs.declared.entry.Entry.TheVariants as entries
use Rattle.swap_book.specs.Holdings.{Holdings}
use Rattle.swap_book.specs.Placing.{Wanted, place_all, fits}
use Rattle.flat_state.specs.declared.change.Change.{Change}
use Rattle.flat_state.specs.declared.change.Change.TheVariants.{Keep, Sleep}
use Rattle.flat_state.specs.Change.{apply_change, apply_writes, is_borrower}
use Rattle.page_model.specs.Placement.{Placement}
use Rattle.page_model.specs.Swapper.{is_settled}
use Rattle.kernel_model.specs.Start.{ImagesFit}
use Rattle.flat_state.specs.Numbers.{IsNumbered}
use Rattle.flat_state.specs.Lenders.{LendsStand}
use Rattle.kernel_laws.proofs.Machine.Swaps.{found_at}
use Rattle.flat_model.specs.Step.{Step, flat_step}
use Rattle.flat_model.specs.Run.{Point, is_refused, step_at, behind_first, due_at, first_if, entry_of_step as next_of_step, behind, point_after, process_of_entry}
use Rattle.flat_model.specs.Asked.{given_up, change_wanted, wanted_in, wanted_if, asks_by, asks, or_before, held_in, held_if, held_step, held_entry}
use Rattle.run_model.specs.State.{State}
use Rattle.run_model.specs.After.{place_behind, after}
use Rattle.run_model.specs.Snapshot.{pages_written}
use Rattle.run_model.specs.Act.{loses_pages, settled_in, settled_if, settled, loses_in, loses_if, step_loses, must_refuse, must_settle}
use Rattle.flat_model.proofs.StepEnds.{Shape, Empty, One, Two, step_shape}
use Rattle.flat_laws.specs.Others.{is_writing}
use Rattle.run_model.specs.Kinds.{ProcessRuns}
use Rattle.run_laws.specs.Standing.{Placed}
use Rattle.kernel_model.specs.Invariant.{EntersImage}
use Rattle.run_laws.proofs.Flows.{Ends, steps_own, on_steps}
use Rattle.flat_laws.proofs.Forms.{Suits, Formed, Form, Missed, Came, step_form}
use Rattle.run_laws.proofs.Stepping.{Making, step_placed}

-- Who can step holds a space.

pub record Stepper (F : FlatState) (pid : ℕ) : Type 0 where
  pub process : Process
  pub space : Space
  pub here : process_of F pid ≡ Some process
  pub holds : process.holding ≡ Holds space

pub stepper : (F : FlatState) (pid : ℕ) → can_step F pid ≡ true → Stepper F pid
stepper F pid c = go (process_of F pid) refl c
  where
    holding : (q : Process) → process_of F pid ≡ Some q → (b : Bool) (h : Holding) → q.holding ≡ h → (if b then false else holds_space h) ≡ true → Stepper F pid
    holding q e true h k z = absurd cc
    holding q e false (Holds s) k z = record { process = q; space = s; here = e; holds = k }
    holding q e false (Lends sid child) k z = absurd cc
    holding q e false (Zombie status) k z = absurd cc

    go : (o : Option Process) → process_of F pid ≡ o → ready_if o ≡ true → Stepper F pid
    go None e z = absurd cc
    go (Some q) e z = holding q e q.asleep q.holding refl z

-- The entry that completes a step is the last that is due, and the step's last entry suits its change.

pub record Completes (A : Inputs) (point : Point) (pid : ℕ) (u : Entry) : Type 0 where
  pub due : due_at A point pid ≡ u ∷ []
  pub suits : (change : Change) → Suits (step_at A point pid).entries change → Suits (u ∷ []) change
  pub some : (step_at A point pid).entries ≡ [] → ⊥

pub completes : (A : Inputs) (point : Point) (pid : ℕ) (u : Entry) → Ends u → next_of_step A point pid ≡ Some u → Completes A point pid u
completes A point pid u ends h = due (is_writing point.last pid) refl
  where
    es : List Entry
    es = (step_at A point pid).entries

    first_of : (xs : List Entry) → due_at A point pid ≡ xs → first_if (can_step point.flat pid) xs ≡ Some u
    first_of xs e = ap (first_if (can_step point.flat pid)) (sym e) ∙ h

    no_first : (b : Bool) → first_if b [] ≡ Some u → ⊥
    no_first true k = absurd cc
    no_first false k = absurd cc

    one_first : (b : Bool) (e : Entry) (xs : List Entry) → first_if b (e ∷ xs) ≡ Some u → e ≡ u
    one_first true e xs k = cc
    one_first false e xs k = absurd cc

    whole : due_at A point pid ≡ es → Shape pid es → Completes A point pid u
    whole same (Empty k) = absurd (no_first (can_step point.flat pid) (first_of [] (same ∙ k)))
    whole same (One e i k) =
        let x : e ≡ u = one_first (can_step point.flat pid) e [] (first_of (e ∷ []) (same ∙ k)) in
        let y : es ≡ u ∷ [] = k ∙ ap (λ (z : Entry). z ∷ []) x in
        record { due = same ∙ y; suits = λ c z. subst (λ (l : List Entry). Suits l c) y z; some = λ z. absurd (let n : [] ≡ u ∷ [] = sym z ∙ y in cc) }
    whole same (Two bytes n c r0 r1 k) =
        absurd (subst Ends
        (sym (one_first (can_step point.flat pid) (entries.Out pid bytes) (entries.Call pid n c r0 r1 ∷ []) (first_of (entries.Out pid bytes ∷ entries.Call pid n c r0 r1 ∷ []) (same ∙ k)))) ends)

    rest : due_at A point pid ≡ behind_first es → Shape pid es → Completes A point pid u
    rest same (Empty k) = absurd (no_first (can_step point.flat pid) (first_of [] (same ∙ ap behind_first k)))
    rest same (One e i k) = absurd (no_first (can_step point.flat pid) (first_of [] (same ∙ ap behind_first k)))
    rest same (Two bytes n c r0 r1 k) =
        let x : entries.Call pid n c r0 r1 ≡ u = one_first (can_step point.flat pid) (entries.Call pid n c r0 r1) [] (first_of (entries.Call pid n c r0 r1 ∷ []) (same ∙ ap behind_first k)) in
        record {
          due = same ∙ ap behind_first k ∙ ap (λ (z : Entry). z ∷ []) x;
          suits = λ d z. subst (λ (y : Entry). Suits (y ∷ []) d) x tt;
          some = λ z. absurd (let m : [] ≡ entries.Out pid bytes ∷ entries.Call pid n c r0 r1 ∷ [] = sym z ∙ k in cc);
        }

    due : (b : Bool) → is_writing point.last pid ≡ b → Completes A point pid u
    due true e = rest (written point.last e) (step_shape A point.flat pid (is_refused point.last pid))
      where
        written : (o : Option Entry) → is_writing o pid ≡ true → Rattle.flat_model.specs.Run.due o pid es ≡ behind_first es
        written (Some (entries.Out q l)) e = ap (λ (b : Bool). if b then behind_first es else es) e
        written _ e = absurd cc
    due false e = whole (plain point.last e) (step_shape A point.flat pid (is_refused point.last pid))
      where
        plain : (o : Option Entry) → is_writing o pid ≡ false → Rattle.flat_model.specs.Run.due o pid es ≡ es
        plain (Some (entries.Out q l)) e = ap (λ (b : Bool). if b then behind_first es else es) e
        plain _ e = refl

-- What an entry that completes a step does to a state.

pub record Arrives (A : Inputs) (s : State) (pid : ℕ) (u : Entry) : Type 0 where
  pub point : (after A s u).point ≡ point_after A s.point pid
  pub place : (after A s u).place ≡ place_behind A s pid (step_at A s.point pid) u
  pub holdings : (after A s u).holdings ≡ held_entry A s.point u s.holdings

pub number_of : (p pid : ℕ) → Some p ≡ Some pid → pid ≡ p
number_of p pid e = cc

pub arrives : (A : Inputs) (s : State) (pid : ℕ) (u : Entry) → Ends u → process_of_entry u ≡ Some pid → Arrives A s pid u
unfolding after
arrives A s pid (entries.Ran p n) e o = subst (λ (x : ℕ). Arrives A s x (entries.Ran p n)) (sym (number_of p pid o)) (record { point = refl; place = refl; holdings = refl })
arrives A s pid (entries.Grew p n) e o = subst (λ (x : ℕ). Arrives A s x (entries.Grew p n)) (sym (number_of p pid o)) (record { point = refl; place = refl; holdings = refl })
arrives A s pid (entries.Call p n c r0 r1) e o = subst (λ (x : ℕ). Arrives A s x (entries.Call p n c r0 r1)) (sym (number_of p pid o)) (record { point = refl; place = refl; holdings = refl })
arrives A s pid (entries.Sleeps p) e o = subst (λ (x : ℕ). Arrives A s x (entries.Sleeps p)) (sym (number_of p pid o)) (record { point = refl; place = refl; holdings = refl })
arrives A s pid (entries.Ended p n) e o = subst (λ (x : ℕ). Arrives A s x (entries.Ended p n)) (sym (number_of p pid o)) (record { point = refl; place = refl; holdings = refl })
arrives A s pid (entries.Out p bytes) e o = absurd e
arrives A s pid (entries.Refused p) e o = absurd e
arrives A s pid _ e o = absurd cc

-- Pieces.

pub ok_same : (a b : Holdings) → (let x : Result Holdings ℕ = Ok a in x) ≡ Ok b → a ≡ b
ok_same a b e = cc

pub none_found : (A : Inputs) (hs found : Holdings) (ws : List Wanted) → ws ≡ [] → place_all A.swap_blocks hs ws ≡ Ok found → hs ≡ found
unfolding place_all
none_found A hs found ws e h = ok_same hs found (ap (place_all A.swap_blocks hs) (sym e) ∙ h)

-- what is held after the entry
pub held_is : (A : Inputs) (s : State) (pid : ℕ) (u : Entry) (q : Process) (t : Space) (found : Holdings) → Ends u → process_of_entry u ≡ Some pid
    → process_of s.point.flat pid ≡ Some q
    → q.holding ≡ Holds t → Suits (u ∷ []) (step_at A s.point pid).change
    → place_all A.swap_blocks s.holdings (change_wanted A.images s.point.flat t (step_at A s.point pid).change) ≡ Ok found
    → held_entry A s.point u s.holdings ≡ given_up s.point.flat (step_at A s.point pid).after pid t (step_at A s.point pid).change found
unfolding held_step
held_is A s pid u q t found e o f h suits pieces = go u e o suits
  where
    step : Step
    step = step_at A s.point pid

    kept : (c : Change) → step.change ≡ c → change_wanted A.images s.point.flat t c ≡ [] → given_up s.point.flat step.after pid t c found ≡ found
        → s.holdings ≡ given_up s.point.flat step.after pid t step.change found
    kept c k w g = none_found A s.holdings found (change_wanted A.images s.point.flat t step.change) (ap (change_wanted A.images s.point.flat t) k ∙ w) pieces ∙ sym g
        ∙ ap (λ (x : Change). given_up s.point.flat step.after pid t x found) (sym k)

    held : held_step A s.point.flat pid step s.holdings ≡ given_up s.point.flat step.after pid t step.change found
    held = ap (held_if A s.point.flat pid step s.holdings) f ∙ ap (held_in A s.point.flat pid step s.holdings) h
        ∙ ap (λ (r : Result Holdings ℕ). given_up s.point.flat step.after pid t step.change (or_before s.holdings r)) pieces

    at : (p : ℕ) → Some p ≡ Some pid → held_step A s.point.flat p (step_at A s.point p) s.holdings ≡ given_up s.point.flat step.after pid t step.change found
    at p k = ap (λ (x : ℕ). held_step A s.point.flat x (step_at A s.point x) s.holdings) (sym (number_of p pid k)) ∙ held

    go : (u : Entry) → Ends u → process_of_entry u ≡ Some pid → Suits (u ∷ []) step.change → held_entry A s.point u s.holdings ≡ given_up s.point.flat step.after pid t step.change found
    go (entries.Ran p n) e o k = kept Keep k refl refl
    go (entries.Grew p n) e o k = at p o
    go (entries.Call p n c r0 r1) e o k = at p o
    go (entries.Sleeps p) e o k = kept Sleep k refl refl
    go (entries.Ended p n) e o k = at p o
    go (entries.Out p bytes) e o k = absurd e
    go (entries.Refused p) e o k = absurd e
    go _ e o k = absurd cc

-- the pieces of a step that isn't refused are found
pub found_pieces : (A : Inputs) (s : State) (pid : ℕ) (q : Process) (t : Space) → can_step s.point.flat pid ≡ true
    → process_of s.point.flat pid ≡ Some q → q.holding ≡ Holds t → must_refuse A s pid ≡ false
    → (is_refused s.point.last pid ≡ true → change_wanted A.images s.point.flat t (step_at A s.point pid).change ≡ [])
    → (found : Holdings) × (place_all A.swap_blocks s.holdings (change_wanted A.images s.point.flat t (step_at A s.point pid).change) ≡ Ok found)
unfolding asks place_all
found_pieces A s pid q t c f h refuse none = go (is_refused s.point.last pid) refl
  where
    change_at : Bool → Change
    change_at b = (flat_step A s.point.flat pid b).change

    asked_is : asks A s.point.flat pid ≡ change_wanted A.images s.point.flat t (change_at false)
    asked_is = ap (λ (b : Bool). asks_by b A s.point.flat pid) c ∙ ap (wanted_if A.images s.point.flat (change_at false)) f ∙ ap (wanted_in A.images s.point.flat (change_at false)) h

    fit : (b : Bool) → is_refused s.point.last pid ≡ b → b ≡ false → fits A.swap_blocks s.holdings (asks A s.point.flat pid) ≡ true
    fit b e z = double (fits A.swap_blocks s.holdings (asks A s.point.flat pid)) (sym (ap (λ (x : Bool). not x && not (fits A.swap_blocks s.holdings (asks A s.point.flat pid))) (e ∙ z)) ∙ refuse)
      where
        double : (x : Bool) → (not false && not x) ≡ false → x ≡ true
        double true z = refl
        double false z = absurd cc

    got : (r : Result Holdings ℕ) → Rattle.std.specs.Prelude.is_ok r ≡ true → (found : Holdings) × (r ≡ Ok found)
    got (Ok hs) e = (hs, refl)
    got (Err n) e = absurd cc

    go : (b : Bool) → is_refused s.point.last pid ≡ b → (found : Holdings) × (place_all A.swap_blocks s.holdings (change_wanted A.images s.point.flat t (step_at A s.point pid).change) ≡ Ok found)
    go true e = (s.holdings, ap (place_all A.swap_blocks s.holdings) (none e))
    go false e =
        let x = got (place_all A.swap_blocks s.holdings (asks A s.point.flat pid)) (fit false e refl) in
        (x.0, ap (λ (b : Bool). place_all A.swap_blocks s.holdings (change_wanted A.images s.point.flat t (change_at b))) e ∙ ap (place_all A.swap_blocks s.holdings) (sym asked_is) ∙ x.1)

pub settled_when : (A : Inputs) (s : State) (pid : ℕ) (q : Process) (t : Space) → process_of s.point.flat pid ≡ Some q → q.holding ≡ Holds t
    → must_settle A s pid ≡ false
    → loses_pages t (is_borrower s.point.flat.processes pid) (step_at A s.point pid).change ≡ true → is_settled s.place t.sid ≡ true
settled_when A s pid q t f h settle l = got (settled s.point.flat s.place pid) refl
  where
    losing : step_loses A s pid ≡ true
    losing = ap (loses_if (is_borrower s.point.flat.processes pid) (step_at A s.point pid).change) f ∙ ap (loses_in (is_borrower s.point.flat.processes pid) (step_at A s.point pid).change) h ∙ l

    is : settled s.point.flat s.place pid ≡ is_settled s.place t.sid
    is = ap (settled_if s.place) f ∙ ap (settled_in s.place) h

    got : (b : Bool) → settled s.point.flat s.place pid ≡ b → is_settled s.place t.sid ≡ true
    got true e = sym is ∙ e
    got false e = absurd (let z : true ≡ false = sym (ap (λ (x : Bool). x && not (settled s.point.flat s.place pid)) losing ∙ ap not e) ∙ settle in cc)

-- All of it.

pub record Stepped (A : Inputs) (s : State) (u : Entry) : Type 0 where
  pub pid : ℕ
  pub now : Bool
  pub runs : ProcessRuns A s pid now
  pub ends : Ends u
  pub unrefused : must_refuse A s pid ≡ false
  pub unsettling : must_settle A s pid ≡ false
  pub next : next_of_step A s.point pid ≡ Some u

-- the execve of a step finds an image, and its stack page is a page
abbrev pub ExecsFit : Inputs → Type 0
ExecsFit A = (F : FlatState) (pid : ℕ) (refused : Bool) → EntersImage A.images (flat_step A F pid refused).change

-- where the flat machine stands after it
pub stepped_flat : (A : Inputs) (s : State) (u : Entry) → (h : Stepped A s u) → (after A s u).point.flat ≡ (step_at A s.point h.pid).after
stepped_flat A s u h =
    let r : Arrives A s h.pid u = arrives A s h.pid u h.ends (steps_own A s.point h.pid u h.next) in
    let c : Completes A s.point h.pid u = completes A s.point h.pid u h.ends h.next in
    ap (λ (x : Point). x.flat) (r.point ∙ ap (behind s.point (step_at A s.point h.pid).after) c.due)

pub stepped_form : (A : Inputs) (s : State) (u : Entry) (h : Stepped A s u) (x : Stepper s.point.flat h.pid) → IsNumbered s.point.flat
    → Formed A.images s.point.flat x.process x.space (is_refused s.point.last h.pid) (step_at A s.point h.pid)
stepped_form A s u h x n = go (step_form A s.point.flat h.pid (is_refused s.point.last h.pid) x.process x.space n x.here x.holds)
  where
    c : Completes A s.point h.pid u
    c = completes A s.point h.pid u h.ends h.next

    go : Form A.images s.point.flat x.process x.space (is_refused s.point.last h.pid) (step_at A s.point h.pid)
        → Formed A.images s.point.flat x.process x.space (is_refused s.point.last h.pid) (step_at A s.point h.pid)
    go (Missed e) = absurd (c.some e)
    go (Came f) = f

pub stepped_placed : (A : Inputs) (s : State) (u : Entry) → ImagesFit A.images → ExecsFit A → IsNumbered s.point.flat → LendsStand s.point.flat
    → (h : Stepped A s u)
    → Placed A s.point.flat s.place s.holdings → Placed A (after A s u).point.flat (after A s u).place (after A s u).holdings
stepped_placed A s u images execs numbers lenders h st =
    let pid : ℕ = h.pid in
    let step : Step = step_at A s.point pid in
    let runs : ProcessRuns A s pid h.now = h.runs in
    let can : can_step s.point.flat pid ≡ true = on_steps A s s.mark pid h.now runs.on in
    let x : Stepper s.point.flat pid = stepper s.point.flat pid can in
    let own : process_of_entry u ≡ Some pid = steps_own A s.point pid u h.next in
    let r : Arrives A s pid u = arrives A s pid u h.ends own in
    let c : Completes A s.point pid u = completes A s.point pid u h.ends h.next in
    let form : Formed A.images s.point.flat x.process x.space (is_refused s.point.last pid) step = stepped_form A s u h x numbers in
    let number : x.process.pid ≡ pid = (found_at s.point.flat pid x.process x.here).0 in
    let form_after : step.after ≡ apply_change A.images (apply_writes s.point.flat pid step.writes) pid step.regs step.change =
    form.after ∙ ap (λ (n : ℕ). apply_change A.images (apply_writes s.point.flat n step.writes) n step.regs step.change) number in
    let found : (found : Holdings) × (place_all A.swap_blocks s.holdings (change_wanted A.images s.point.flat x.space step.change) ≡ Ok found) =
    found_pieces A s pid x.process x.space can x.here x.holds h.unrefused form.wants in
    let making : Making A s.point.flat s.place s.holdings found.0 pid x.process x.space step.writes step.change = record {
      images = images;
      numbers = numbers;
      lenders = lenders;
      found_process = x.here;
      holds = x.holds;
      resident = runs.resident;
      clear = runs.clear;
      may = subst (λ (n : ℕ). Rattle.flat_state.specs.Change.NamesChild (apply_writes s.point.flat n step.writes) step.change) number form.may;
      execs = execs s.point.flat pid (is_refused s.point.last pid);
      pieces = found.1;
      settles = settled_when A s pid x.process x.space x.here x.holds h.unsettling;
    } in
    let made : Placed A (apply_change A.images (apply_writes s.point.flat pid step.writes) pid step.regs step.change) (place_behind A s pid step u)
    (given_up s.point.flat (apply_change A.images (apply_writes s.point.flat pid step.writes) pid step.regs step.change) pid x.space step.change found.0) =
    step_placed A s.point.flat s.place s.holdings found.0 pid step.regs s.journal u x.process x.space step.writes (pages_written s.point.flat pid step) step.change making st in
    subst (λ (x : FlatState). Placed A x (after A s u).place (after A s u).holdings) (sym (stepped_flat A s u h))
    (subst (λ (x : Placement). Placed A step.after x (after A s u).holdings) (sym r.place)
    (subst (Placed A step.after (place_behind A s pid step u)) (sym (r.holdings ∙ held_is A s pid u x.process x.space found.0 h.ends own x.here x.holds (c.suits step.change form.suits) found.1))
    (subst (λ (y : FlatState). Placed A y (place_behind A s pid step u) (given_up s.point.flat y pid x.space step.change found.0)) (sym form_after)
    made)))
