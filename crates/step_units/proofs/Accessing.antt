-- What serving an access leads to: that of its page, or growth of the stack first.
use Rattle.std.proofs.Common.{◌≡◌, inl, inr, ℕ, ◌+◌, ◌-◌, ◌≤◌, Bool, true, false, List, [], length, Option, Some, ap, ◌∙◌, subst, arith}
use Rattle.vm_facts.specs.SwapImages.{SwapImage}
use Rattle.io_edge.specs.FileHolding.{NamedFile}
use Rattle.vm_facts.specs.declared.page.Page.{Page}
use Rattle.vm_facts.specs.declared.page.Page.TheVariants as pages
use Rattle.vm_facts.specs.declared.stop.Stop.{Stop}
use Rattle.flat_state.specs.Flat.{Process, Inputs}
use Rattle.flat_state.specs.Space.{Space}
use Rattle.flat_model.specs.Step.{pages_down_to}
use Rattle.kernel_model.specs.Kernel.{Kernel}
use Rattle.machine_state.specs.Machine.{Standing}
use Rattle.proc_calls.specs.Growth.{access_to, access_by}
use Rattle.swapper.specs.Stops.{StopsWhile}
use Rattle.proc_calls.specs.Serving.{serving_page}
use Rattle.proc_calls.specs.Touches.{TouchedAs, TouchedNow, GrownFirst, AccessComes, AccessStops}
use Rattle.proc_calls.specs.FaultFillAccessAccess.{Access}
use Rattle.proc_calls.specs.FaultFillAccessAccess.TheVariants as accesses
use Rattle.proc_calls.specs.Served.{Served}
use Rattle.proc_calls.specs.Served.TheVariants as served
use Rattle.run_model.specs.After.{after}
use Rattle.run_model.specs.State.{State}
use Rattle.run_model.specs.Wanted.{touched_next, AllValid, locked_by, locked}
use Rattle.run_model.specs.Snapshot.{before_absent}
use Rattle.run_model.proofs.Wanting.{split_before, all_before}
use Rattle.run_units.specs.Touching.{RunsInSpace, WantsPage}
use Rattle.step_units.specs.Machines.{RunsOn}
use Rattle.step_units.specs.Running.{WaitsForPage, ServeLeads}
use Rattle.step_units.specs.Stepped.{StopLeads}
use Rattle.step_units.proofs.Falling.{Falls, falls, asks_growth}
use Rattle.step_units.proofs.Growing.{growth_refused, GrownBefore, growth_before, grown_more, grown_ends, grown_stops, growth_stops}
use Rattle.step_units.proofs.Serving.{same_space, WaitsFor, PageLeads, page_leads, page_leads_now, page_stops}

-- The page of an access.

waits_for : (A : Inputs) (s : State) (m : Standing) (holds : Option (List NamedFile)) (image : SwapImage) (pid : ℕ) (now : Bool) (p : Process) (x : Space)
    (address : ℕ) (write : Bool)
    → RunsOn A s m holds image pid now p x → (w : WantsPage A s m.kernel x address write) → WaitsFor A s m holds image pid now w.before w.page
waits_for A s m holds image pid now p x address write r w = record {
  machine = r.machine;
  runs = r.running.runs;
  between = r.between;
  rest = w.rest;
  touched = w.touched;
  valid = w.valid;
}

same_access : (A : Inputs) (s : State) (m : Standing) (holds : Option (List NamedFile)) (image : SwapImage) (pid : ℕ) (now : Bool) (p : Process) (x : Space)
    (address : ℕ) (write : Bool)
    → RunsOn A s m holds image pid now p x → access_by m.kernel pid address write ≡ access_to m.kernel.place x.sid address write
same_access A s m holds image pid now p x address write r =
    ap (λ (n : ℕ). access_to m.kernel.place n address write) (same_space A s m.kernel image pid now p x r.machine.at r.running)

-- the pages that are touched before it are those that are kept
pub wants_locked : (A : Inputs) (s : State) (k : Kernel) (pid : ℕ) (now : Bool) (p : Process) (x : Space) (address : ℕ) (write : Bool) (before : List Page)
    → RunsInSpace A s pid now p x
    → ((w : WantsPage A s k x address write) × (w.before ≡ before)) → locked A s ≡ before
wants_locked A s k pid now p x address write before r w =
    ap (locked_by A s) r.runs.clear
    ∙ split_before s.place (touched_next A s) w.0.before w.0.page (record { behind = w.0.rest; whole = w.0.touched; valid = w.0.valid; absent = w.0.absent }) ∙ w.1

pub valid_locked : (A : Inputs) (s : State) (before : List Page) → s.place.due ≡ [] → touched_next A s ≡ before → AllValid s.place before → locked A s ≡ before
valid_locked A s before d e v = ap (locked_by A s) d ∙ ap (before_absent s.place) e ∙ all_before s.place before v

-- what a page leads to, as what serving leads to
served_leads : (A : Inputs) (s : State) (old new : Standing) (holds : Option (List NamedFile)) (image : SwapImage) (j : Option SwapImage) (pid : ℕ) (now : Bool)
    (p : Process) (x : Space)
    (before : List Page)
    (answer : Served) → locked A s ≡ before → PageLeads A s old.kernel image before new.kernel j answer
    → ServeLeads A s old new holds image j pid now p x answer
served_leads A s old new holds image j pid now p x before served.Valid e h =
    record { led = h.led; more = let z = ap (λ (qs : List Page). length qs) e in let m = h.more in omega (arith, z, m) }
served_leads A s old new holds image j pid now p x before (served.Asleep q) e h = h
served_leads A s old new holds image j pid now p x before served.NoFrame e h = h
served_leads A s old new holds image j pid now p x before served.NoSpace e h = absurd h
served_leads A s old new holds image j pid now p x before (served.Signal number) e h = h

-- after growth
grown_page_leads : (A : Inputs) (s : State) (old between : Standing) (holds : Option (List NamedFile)) (image : SwapImage) (pid : ℕ) (now : Bool)
    (before : List Page) (q : Page) (l : Kernel)
    (j : Option SwapImage) (answer : Served) → (b : GrownBefore A s old between holds image pid now before q)
    → PageLeads A (after A s b.entry) between.kernel image before l j answer
    → PageLeads A s old.kernel image before l j answer
grown_page_leads A s old between holds image pid now before q l j answer b h = go answer h
  where
    go : (answer : Served) → PageLeads A (after A s b.entry) between.kernel image before l j answer → PageLeads A s old.kernel image before l j answer
    go served.Valid d = grown_more A s old between holds image pid now before q l j b d
    go (served.Asleep r) d = grown_ends A s old between holds image pid now before q l j b d
    go served.NoFrame d = grown_ends A s old between holds image pid now before q l j b d
    go served.NoSpace d = absurd d
    go (served.Signal number) d = absurd d

-- A page is served so that it leads on from each machine at which it is waited for.
abbrev pub Leading : (Served → Page → Standing → Type 0) → Inputs → Standing → Option (List NamedFile) → SwapImage → Option SwapImage → ℕ → Bool
    → List Page → Type 0
Leading Touched A new holds image j pid now before =
    (s : State) (old : Standing) (q : Page) (answer : Served) → WaitsFor A s old holds image pid now before q → Touched answer q old → PageLeads A s old.kernel image before new.kernel j answer

pub access_leads : (Touched : Served → Page → Standing → Type 0) (A : Inputs) (s : State) (old new : Standing) (holds : Option (List NamedFile))
    (image : SwapImage) (j : Option SwapImage) (pid : ℕ)
    (now : Bool) (p : Process) (x : Space) (address : ℕ) (write : Bool) (before : List Page) (answer : Served)
    → Leading Touched A new holds image j pid now before
    → RunsOn A s old holds image pid now p x → WaitsForPage A s old p x address write before
    → AccessComes Touched (access_by old.kernel pid address write) answer pid old new (Some image) j
    → ServeLeads A s old new holds image j pid now p x answer
access_leads Touched A s old new holds image j pid now p x address write before answer lead r (inl w) h =
    let asked : access_by old.kernel pid address write ≡ accesses.Page w.0.page = same_access A s old holds image pid now p x address write r ∙ w.0.asks in
    let waits : WaitsFor A s old holds image pid now before w.0.page =
    subst (λ (qs : List Page). WaitsFor A s old holds image pid now qs w.0.page) w.1 (waits_for A s old holds image pid now p x address write r w.0) in
    served_leads A s old new holds image j pid now p x before answer (wants_locked A s old.kernel pid now p x address write before r.running w)
    (lead s old w.0.page answer waits (subst (λ (a : Access). AccessComes Touched a answer pid old new (Some image) j) asked h))
access_leads Touched A s old new holds image j pid now p x address write before answer lead r (inr w) h = go answer whole
  where
    n : ℕ
    n = pages_down_to address

    f : Falls A s old pid p x address
    f = falls A s old holds image pid now p x address r w.0

    all_locked : locked A s ≡ before
    all_locked = valid_locked A s before r.running.runs.clear w.2 w.3

    asked : access_by old.kernel pid address write ≡ accesses.Growth x.sid n
    asked = same_access A s old holds image pid now p x address write r ∙ asks_growth A s old holds image pid now p x address write r f

    whole : AccessComes Touched (accesses.Growth x.sid n) answer pid old new (Some image) j
    whole = subst (λ (a : Access). AccessComes Touched a answer pid old new (Some image) j) asked h

    grown : (answer : Served) → GrownFirst old pid n (Touched answer (pages.Stack x.sid (n - 1))) → PageLeads A s old.kernel image before new.kernel j answer
    grown answer g =
        let b : GrownBefore A s old g.between holds image pid now before (pages.Stack x.sid (n - 1)) =
        growth_before A s old g.between holds image pid now p x address before r f w.2 w.3 g.grown in
        grown_page_leads A s old g.between holds image pid now before (pages.Stack x.sid (n - 1)) new.kernel j answer b
        (lead (after A s b.entry) g.between (pages.Stack x.sid (n - 1)) answer b.waits g.behind)

    go : (answer : Served) → AccessComes Touched (accesses.Growth x.sid n) answer pid old new (Some image) j → ServeLeads A s old new holds image j pid now p x answer
    go served.NoSpace o = (growth_refused A s old new holds image pid now p x address r f o.refused, o.image)
    go served.Valid g = served_leads A s old new holds image j pid now p x before served.Valid all_locked (grown served.Valid g)
    go (served.Asleep q) g = served_leads A s old new holds image j pid now p x before (served.Asleep q) all_locked (grown (served.Asleep q) g)
    go served.NoFrame g = served_leads A s old new holds image j pid now p x before served.NoFrame all_locked (grown served.NoFrame g)
    go (served.Signal number) g = served_leads A s old new holds image j pid now p x before (served.Signal number) all_locked (grown (served.Signal number) g)

pub serve_made : (A : Inputs) (s : State) (old new : Standing) (holds : Option (List NamedFile)) (image : SwapImage) (j : Option SwapImage) (pid : ℕ)
    (p : Process)
    (x : Space) (address : ℕ)
    (write : Bool) (before : List Page) (answer : Served) → RunsOn A s old holds image pid false p x → WaitsForPage A s old p x address write before
    → AccessComes (λ came q from. TouchedAs came q from new holds (Some image) j) (access_by old.kernel pid address write) answer pid old new (Some image) j
    → ServeLeads A s old new holds image j pid false p x answer
serve_made A s old new holds image j pid p x address write before answer r w h =
    access_leads (λ came q from. TouchedAs came q from new holds (Some image) j) A s old new holds image j pid false p x address write before answer
    (λ t from q came u k. page_leads A t from new holds image j pid before q came u k) r w h

pub serve_now_made : (A : Inputs) (s : State) (old new : Standing) (holds : Option (List NamedFile)) (image : SwapImage) (j : Option SwapImage) (pid : ℕ)
    (p : Process) (x : Space) (address : ℕ)
    (write : Bool) (before : List Page) (answer : Served) → RunsOn A s old holds image pid true p x → WaitsForPage A s old p x address write before
    → AccessComes (λ came q from. TouchedNow before came q from new holds (Some image) j)
    (access_by old.kernel pid address write) answer pid old new (Some image) j
    → ServeLeads A s old new holds image j pid true p x answer
serve_now_made A s old new holds image j pid p x address write before answer r w h =
    access_leads (λ came q from. TouchedNow before came q from new holds (Some image) j) A s old new holds image j pid true p x address write before answer
    (λ t from q came u k. page_leads_now A t from new holds image j pid before q came u k) r w h

-- Stops.

pub access_stops : (A : Inputs) (s : State) (old new : Standing) (holds : Option (List NamedFile)) (image : SwapImage) (j : Option SwapImage) (pid : ℕ)
    (now : Bool)
    (p : Process) (x : Space)
    (address : ℕ) (write : Bool) (before kept : List Page) (stop : Stop) → (now ≡ true → kept ≡ before) → RunsOn A s old holds image pid now p x
    → WaitsForPage A s old p x address write before
    → AccessStops now kept (access_by old.kernel pid address write) pid old new holds (Some image) j stop → StopLeads A s old.kernel image stop new j
access_stops A s old new holds image j pid now p x address write before kept stop k r (inl w) h =
    let asked : access_by old.kernel pid address write ≡ accesses.Page w.0.page = same_access A s old holds image pid now p x address write r ∙ w.0.asks in
    let waits : WaitsFor A s old holds image pid now before w.0.page =
    subst (λ (qs : List Page). WaitsFor A s old holds image pid now qs w.0.page) w.1 (waits_for A s old holds image pid now p x address write r w.0) in
    page_stops A s old new holds image j pid now before kept w.0.page stop waits k
    (let page : AccessStops now kept (accesses.Page w.0.page) pid old new holds (Some image) j stop =
    subst (λ (a : Access). AccessStops now kept a pid old new holds (Some image) j stop) asked h in page.0)
access_stops A s old new holds image j pid now p x address write before kept stop k r (inr w) h = elim whole [
  | inl g ↦ growth_stops A s old new holds image j pid now p x address stop r f g.0 g.1
  | inr g ↦ grown g
]
  where
    n : ℕ
    n = pages_down_to address

    f : Falls A s old pid p x address
    f = falls A s old holds image pid now p x address r w.0

    asked : access_by old.kernel pid address write ≡ accesses.Growth x.sid n
    asked = same_access A s old holds image pid now p x address write r ∙ asks_growth A s old holds image pid now p x address write r f

    whole : AccessStops now kept (accesses.Growth x.sid n) pid old new holds (Some image) j stop
    whole = subst (λ (a : Access). AccessStops now kept a pid old new holds (Some image) j stop) asked h

    grown : GrownFirst old pid n (λ between. StopsWhile (serving_page now kept (pages.Stack x.sid (n - 1))) between new holds (Some image) j stop
        × (length new.kernel.journal ≤ length between.kernel.journal + length between.kernel.place.transfers + 5))
        → StopLeads A s old.kernel image stop new j
    grown g =
        let b : GrownBefore A s old g.between holds image pid now before (pages.Stack x.sid (n - 1)) =
        growth_before A s old g.between holds image pid now p x address before r f w.2 w.3 g.grown in
        grown_stops A s old g.between new holds image pid now before (pages.Stack x.sid (n - 1)) stop j b
        (page_stops A (after A s b.entry) g.between new holds image j pid now before kept (pages.Stack x.sid (n - 1)) stop b.waits k g.behind.0)
