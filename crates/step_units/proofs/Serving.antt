-- Serving a page that a process waits for leads on between two steps.
use Rattle.std.proofs.Common.{◌≡◌, ℕ, ◌+◌, ◌<◌, ◌≤◌, Bool, true, false, List, [], ◌∷◌, ◌++◌, length, Option, Some, None, refl, sym, ap, ◌∙◌, subst, arith}
use Rattle.vm_facts.specs.SwapImages.{SwapImage}
use Rattle.io_edge.specs.FileHolding.{NamedFile}
use Rattle.vm_facts.specs.declared.entry.Entry.{Entry}
use Rattle.vm_facts.specs.declared.page.Page.{Page}
use Rattle.vm_facts.specs.declared.page.PageState.{PageState}
use Rattle.vm_facts.specs.declared.page.PageState.TheVariants.{Unfilled, Valid, Invalid, Coming, Going, OnSwap}
use Rattle.vm_facts.specs.declared.stop.Stop.{Stop}
use Rattle.vm_facts.specs.declared.stop.Stop.TheVariants as stops
use Rattle.flat_state.specs.Flat.{Process, Inputs}
use Rattle.flat_state.specs.Space.{Space}
use Rattle.page_model.specs.Pages.{is_valid}
use Rattle.page_model.specs.Placement.{Placement, state_of, filling_of}
use Rattle.page_model.specs.Serve.{serve_unit, is_full, Serving, serving_by, unit_of_serving}
use Rattle.kernel_model.specs.Kernel.{Kernel}
use Rattle.kernel_model.specs.ChangeStep.{space_of_life, life_of_proc}
use Rattle.kernel_laws.proofs.Machine.Processes.{Stepping, stepping}
use Rattle.machine_state.specs.Sourced.{files_named}
use Rattle.machine_state.specs.Machine.{Standing}
use Rattle.swapper.specs.Made.{Ground, ground}
use Rattle.swapper.specs.Stops.{StopsAt, StopsWhile}
use Rattle.proc_calls.specs.Growth.{space_of_pid}
use Rattle.proc_calls.specs.Serving.{ServesTo, serving_page}
use Rattle.proc_calls.specs.Touches.{TouchedAs, TouchedNow}
use Rattle.proc_calls.specs.Units.{is_flying, NeedsFrame}
use Rattle.proc_calls.specs.Served.{Served as Touch}
use Rattle.proc_calls.specs.Served.TheVariants as served
use Rattle.run_model.specs.State.{State}
use Rattle.run_model.specs.Wanted.{touched_next, AllValid, locked_by, locked, Splits}
use Rattle.run_model.specs.Snapshot.{before_absent}
use Rattle.economy_laws.proofs.Left.{split_longer}
use Rattle.run_model.specs.Kinds.{ProcessRuns}
use Rattle.run_model.specs.Next.{next_unit, under, work_by}
use Rattle.run_model.proofs.Wanting.{splits_wanted}
use Rattle.run_laws.proofs.Flows.{runs_work}
use Rattle.flat_model.specs.Run.{IsBetween}
use Rattle.run_units.specs.Leads.{Leads}
use Rattle.run_units.specs.Serving.{At, IsWaiting, ServingLeads}
use Rattle.run_units.specs.Touching.{RunsInSpace}
use Rattle.run_units.proofs.Serving.{served, served_next}
use Rattle.run_units.proofs.Units.{leads_at}
use Rattle.step_units.specs.Machines.{MachineAt}
use Rattle.step_units.specs.Stepped.{StepLeads, MarkEnds, StopsBy, StopLeads}
use Rattle.page_laws.proofs.Moves.Cases.{frameless_not, serving_starved}
use Rattle.step_units.proofs.Leading.{none_spoiled}

-- The space that the machine has for a process is the one that the process holds.
pub same_space : (A : Inputs) (s : State) (k : Kernel) (image : SwapImage) (pid : ℕ) (now : Bool) (p : Process) (x : Space) → At A s k image
    → RunsInSpace A s pid now p x → space_of_pid k pid ≡ x.sid
same_space A s k image pid now p x at r =
    let i : Stepping k s.point.flat pid p x = stepping k s.point.flat pid p x at.stands.keeps.coupled.tables r.here r.holds in
    ap space_of_life (ap life_of_proc i.kept ∙ i.life)

-- A process of a machine runs between two steps, and this page of its next instruction, after valid ones, is served; in a turn the
-- hands pass over those.
pub record WaitsFor (A : Inputs) (s : State) (m : Standing) (holds : Option (List NamedFile)) (image : SwapImage) (pid : ℕ) (now : Bool) (before : List Page)
    (q : Page) : Type 0 where
  pub machine : MachineAt A s m holds image
  pub runs : ProcessRuns A s pid now
  pub between : IsBetween s.point.last
  pub rest : List Page
  pub touched : touched_next A s ≡ before ++ q ∷ rest
  pub valid : AllValid s.place before

waiting : (A : Inputs) (s : State) (m : Standing) (holds : Option (List NamedFile)) (image : SwapImage) (pid : ℕ) (now : Bool) (before kept : List Page)
    (q : Page)
    → WaitsFor A s m holds image pid now before q → (now ≡ true → kept ≡ before) → IsWaiting A (ground m holds kept) s pid now before q
waiting A s m holds image pid now before kept q w f = record {
  images = w.machine.images;
  runs = w.runs;
  rest = w.rest;
  touched = w.touched;
  valid = w.valid;
  locked = f;
}

-- what serving leads to

pub leads_on : (A : Inputs) (g : Ground) (s : State) (k l : Kernel) (image : SwapImage) (j : Option SwapImage) (pid : ℕ) (now : Bool) (before : List Page)
    (q : Page) (us : List Entry)
    → IsBetween s.point.last → ServingLeads A g s k image pid now before q us l j → StepLeads A s k image 0 l j
leads_on A g s k l image j pid now before q us b v = record {
  units = us;
  state = v.state;
  leads = v.leads;
  clear = v.waiting.runs.clear;
  between = subst (λ (x : Rattle.flat_model.specs.Run.Point). IsBetween x.last) (sym v.same.point) b;
  count = v.same.count ∙ (let z : s.count ≡ s.count + 0 = omega arith in z);
  lines = v.same.lines;
  mark = v.same.mark;
}

flying_waits : (p : Placement) (q : Page) → is_flying (state_of p q) ≡ true → (is_valid (state_of p q) ≡ false) × (serve_unit p q false ≡ None)
flying_waits p q h = go (state_of p q) refl h
  where
    go : (s : PageState) → state_of p q ≡ s → is_flying s ≡ true → (is_valid s ≡ false) × (unit_of_serving (serving_by p q s p.free (filling_of p q) (is_full p)) false ≡ None)
    go Unfilled e f = absurd cc
    go (Valid x) e f = absurd cc
    go (Invalid x) e f = absurd cc
    go (Coming x) e f = (refl, refl)
    go (Going x) e f = (refl, refl)
    go OnSwap e f = absurd cc

starved_waits : (p : Placement) (q : Page) → NeedsFrame p q → (is_valid (state_of p q) ≡ false) × (serve_unit p q false ≡ None)
starved_waits p q h =
    (frameless_not (state_of p q) h.frameless, ap (λ (x : Serving). unit_of_serving x false) (serving_starved p q h.frameless h.none))

-- where a page isn't valid and can't be served without waiting, nothing more is to come of a dispatch
pub nothing_more : (A : Inputs) (g : Ground) (s : State) (pid : ℕ) (before : List Page) (q : Page) → IsWaiting A g s pid false before q
    → is_valid (state_of s.place q) ≡ false → serve_unit s.place q false ≡ None → under A s s.mark ≡ None
nothing_more A g s pid before q w n u =
    let d : Splits s.place (touched_next A s) before q = record { behind = w.rest; whole = w.touched; valid = w.valid; absent = n } in
    runs_work A s pid false w.runs ∙ ap (work_by A s pid false) (splits_wanted A s before q w.runs.clear d) ∙ u

pub ends_mark : (A : Inputs) (g : Ground) (s : State) (k l : Kernel) (image : SwapImage) (j : Option SwapImage) (pid : ℕ) (before : List Page)
    (q : Page) (us : List Entry)
    → At A s k image → IsBetween s.point.last → ServingLeads A g s k image pid false before q us l j
    → (is_valid (state_of l.place q) ≡ false) × (serve_unit l.place q false ≡ None)
    → MarkEnds A s k image l j
unfolding leads_on
ends_mark A g s k l image j pid before q us at b v n =
    let here : l.place ≡ v.state.place =
    (leads_at A s v.state k l image v.leads.behind us at (subst (λ (o : Option SwapImage). Leads A s k image us v.state l o) v.leads.told v.leads)).stands.place in
    record {
      led = leads_on A g s k l image j pid false before q us b v;
      over = nothing_more A g v.state pid before q v.waiting (subst (λ (x : Placement). is_valid (state_of x q) ≡ false) here n.0)
          (subst (λ (x : Placement). serve_unit x q false ≡ None) here n.1);
    }

-- the page is valid then: more pages are, of those that are touched first, than these
pub record LeadsMore (A : Inputs) (s : State) (k : Kernel) (image : SwapImage) (before : List Page) (l : Kernel) (j : Option SwapImage) : Type 0 where
  pub led : StepLeads A s k image 0 l j
  pub more : length before < length (locked A led.state)

-- by its answer
abbrev pub PageLeads : Inputs → State → Kernel → SwapImage → List Page → Kernel → Option SwapImage → Touch → Type 0
PageLeads A s k image before l j served.Valid = LeadsMore A s k image before l j
PageLeads A s k image before l j (served.Asleep q) = MarkEnds A s k image l j
PageLeads A s k image before l j served.NoFrame = MarkEnds A s k image l j
PageLeads A s k image before l j served.NoSpace = ⊥
PageLeads A s k image before l j (served.Signal number) = ⊥

leads_more : (A : Inputs) (g : Ground) (s : State) (k l : Kernel) (image : SwapImage) (j : Option SwapImage) (pid : ℕ) (now : Bool) (before : List Page)
    (q : Page) (us : List Entry)
    → At A s k image → IsBetween s.point.last → ServingLeads A g s k image pid now before q us l j → is_valid (state_of l.place q) ≡ true
    → LeadsMore A s k image before l j
unfolding leads_on
leads_more A g s k l image j pid now before q us at b v h =
    let here : l.place ≡ v.state.place =
    (leads_at A s v.state k l image v.leads.behind us at (subst (λ (o : Option SwapImage). Leads A s k image us v.state l o) v.leads.told v.leads)).stands.place in
    let longer : length before + 1 ≤ length (before_absent v.state.place (touched_next A v.state)) =
    split_longer v.state.place (touched_next A v.state) before v.waiting.rest q v.waiting.touched v.waiting.valid (subst (λ (x : Placement). is_valid (state_of x q) ≡ true) here h) in
    let kept : locked A v.state ≡ before_absent v.state.place (touched_next A v.state) = ap (locked_by A v.state) v.waiting.runs.clear in
    record {
      led = leads_on A g s k l image j pid now before q us b v;
      more = let e = ap (λ (qs : List Page). length qs) kept in omega (arith, longer, e);
    }

pub served_to : (A : Inputs) (s : State) (old new : Standing) (holds : Option (List NamedFile)) (image : SwapImage) (j : Option SwapImage) (pid : ℕ)
    (now : Bool)
    (before kept : List Page) (q : Page)
    → WaitsFor A s old holds image pid now before q → (now ≡ true → kept ≡ before) → (t : ServesTo now kept q old new holds (Some image) j)
    → ServingLeads A (ground old holds kept) s old.kernel image pid now before q t.units new.kernel j
served_to A s old new holds image j pid now before kept q w f t =
    served t.units A (ground old holds kept) s old.kernel new.kernel image j pid now before q w.machine.at (waiting A s old holds image pid now before kept q w f) t.leads t.makes.made

pub page_leads : (A : Inputs) (s : State) (old new : Standing) (holds : Option (List NamedFile)) (image : SwapImage) (j : Option SwapImage) (pid : ℕ)
    (before : List Page) (q : Page) (answer : Touch)
    → WaitsFor A s old holds image pid false before q → TouchedAs answer q old new holds (Some image) j
    → PageLeads A s old.kernel image before new.kernel j answer
page_leads A s old new holds image j pid before q answer w h = go answer h
  where
    done : (t : ServesTo false [] q old new holds (Some image) j) → ServingLeads A (ground old holds []) s old.kernel image pid false before q t.units new.kernel j
    done t = served_to A s old new holds image j pid false before [] q w (λ e. absurd cc) t

    go : (answer : Touch) → TouchedAs answer q old new holds (Some image) j → PageLeads A s old.kernel image before new.kernel j answer
    go served.Valid c =
        let t = c.serves.0.serves in
        leads_more A (ground old holds []) s old.kernel new.kernel image j pid false before q t.units w.machine.at w.between (done t) c.serves.1
    go (served.Asleep r) c =
        let t = c.serves.0.serves in
        ends_mark A (ground old holds []) s old.kernel new.kernel image j pid before q t.units w.machine.at w.between (done t) (flying_waits new.kernel.place q c.serves.1.1)
    go served.NoFrame c =
        let t = c.serves.0.serves in
        ends_mark A (ground old holds []) s old.kernel new.kernel image j pid before q t.units w.machine.at w.between (done t) (starved_waits new.kernel.place q c.serves.1)
    go served.NoSpace c = absurd c.serves.1
    go (served.Signal number) c = absurd c.serves.1

pub page_leads_now : (A : Inputs) (s : State) (old new : Standing) (holds : Option (List NamedFile)) (image : SwapImage) (j : Option SwapImage) (pid : ℕ)
    (before : List Page) (q : Page) (answer : Touch)
    → WaitsFor A s old holds image pid true before q → TouchedNow before answer q old new holds (Some image) j
    → PageLeads A s old.kernel image before new.kernel j answer
page_leads_now A s old new holds image j pid before q answer w h = go answer h
  where
    go : (answer : Touch) → TouchedNow before answer q old new holds (Some image) j → PageLeads A s old.kernel image before new.kernel j answer
    go served.Valid c =
        let t = c.serves.0.serves in
        leads_more A (ground old holds before) s old.kernel new.kernel image j pid true before q t.units w.machine.at w.between
        (served_to A s old new holds image j pid true before before q w (λ e. refl) t) c.serves.1
    go (served.Asleep r) c = absurd c
    go served.NoFrame c = absurd c
    go served.NoSpace c = absurd c
    go (served.Signal number) c = absurd c

-- Stops.

-- a stop where a unit of the run comes next
pub stops_by : (A : Inputs) (t : State) (m : Standing) (behind : SwapImage) (stop : Stop) (entry : Entry) (new : Standing) (j : Option SwapImage)
    → next_unit A t ≡ Some entry
    → StopsAt entry m new (Some behind) j stop → StopsBy A t m.kernel behind stop new j
stops_by A t m behind stops.NoMemory entry new j n s = none_spoiled (files_named new.images) entry m.kernel (Some behind) j s.image
stops_by A t m behind stops.JournalFull entry new j n s = record { entry = entry; next = n; full = s.full.0; cause = s.cause; spoils = s.image }
stops_by A t m behind stops.FileFault entry new j n s = record { entry = entry; next = n; full = s.full.0; cause = s.cause; spoils = s.image }
stops_by A t m behind stops.SwapReadFault entry new j n s = record { entry = entry; next = n; full = s.full.0; cause = s.cause; spoils = s.image }
stops_by A t m behind stops.SwapWriteFault entry new j n s = record { entry = entry; next = n; full = s.full.0; cause = s.cause; spoils = s.image }

pub page_stops : (A : Inputs) (s : State) (old new : Standing) (holds : Option (List NamedFile)) (image : SwapImage) (j : Option SwapImage) (pid : ℕ)
    (now : Bool)
    (before kept : List Page) (q : Page)
    (stop : Stop) → WaitsFor A s old holds image pid now before q → (now ≡ true → kept ≡ before)
    → StopsWhile (serving_page now kept q) old new holds (Some image) j stop
    → StopLeads A s old.kernel image stop new j
page_stops A s old new holds image j pid now before kept q stop w f d =
    let g : Ground = ground old holds kept in
    let v : ServingLeads A g s old.kernel image pid now before q d.units d.at d.image =
    served d.units A g s old.kernel d.at image d.image pid now before q w.machine.at (waiting A s old holds image pid now before kept q w f) d.leads d.made in
    let led : Leads A s old.kernel image d.units v.state d.at (Some v.leads.behind) =
    subst (λ (o : Option SwapImage). Leads A s old.kernel image d.units v.state d.at o) v.leads.told v.leads in
    let here : d.at.place ≡ v.state.place = (leads_at A s v.state old.kernel d.at image v.leads.behind d.units w.machine.at led).stands.place in
    let next : next_unit A v.state ≡ Some d.entry =
    served_next A g v.state pid now before q d.entry v.waiting (subst (λ (x : Placement). serve_unit x q now ≡ Some d.entry) here d.next) in
    record {
      units = d.units;
      state = v.state;
      kernel = d.at;
      behind = v.leads.behind;
      leads = led;
      journal = d.stops.journal;
      held = d.stops.held;
      by = stops_by A v.state (record old { kernel = d.at }) v.leads.behind stop d.entry new j next
          (subst (λ (o : Option SwapImage). StopsAt d.entry (record old { kernel = d.at }) new o j stop) v.leads.told d.stops);
    }
