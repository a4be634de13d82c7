-- An access that was served is next units of the run, and an end of the process after it.
use Rattle.std.proofs.Common.{◌≡◌, inl, inr, ℕ, ◌-◌, Bool, true, false, List, [], ◌∷◌, Option, Some, Result, Ok, Err, refl, sym, ap, ◌∙◌, subst}
use Rattle.std.specs.Prelude.{IfOk, OnOk, IfErr, MatchResult}
use Rattle.vm_facts.specs.SwapImages.{SwapImage}
use Rattle.io_edge.specs.FileHolding.{NamedFile}
use Rattle.vm_facts.specs.declared.page.Page.{Page}
use Rattle.vm_facts.specs.declared.page.Page.TheVariants as page_names
use Rattle.vm_facts.specs.declared.entry.Entry.TheVariants as entries
use Rattle.vm_facts.specs.declared.params.Params.{Params}
use Rattle.vm_facts.specs.declared.stop.Stop.{Stop}
use Rattle.flat_state.specs.Space.{Space}
use Rattle.flat_state.specs.Flat.{Process, Inputs}
use Rattle.machine_state.specs.Going.{CanGoOn}
use Rattle.machine_state.specs.Machine.{Standing}
use Rattle.machine_state.specs.Files.{AreRunImages}
use Rattle.machine_state.specs.UserMemory.{CanLend}
use Rattle.step_units.specs.Growth.{access_by}
use Rattle.step_units.specs.FaultFillAccessAccess.{Access}
use Rattle.step_units.specs.FaultFillAccessAccess.TheVariants as accesses
use Rattle.step_units.specs.Touches.{TouchedAs, TouchedNow, AccessComes, AccessStops}
use Rattle.step_units.specs.Served.{Served}
use Rattle.step_units.specs.Served.TheVariants as served
use Rattle.step_units.specs.Callers.{IsCaller}
use Rattle.step_units.specs.ProcCallsLeaving.{HasEnded, StopsAlive}
use Rattle.run_model.specs.State.{State}
use Rattle.run_model.specs.Wanted.{touched_next, locked_by, locked}
use Rattle.run_model.specs.Snapshot.{before_absent}
use Rattle.run_model.proofs.Wanting.{split_before, all_before}
use Rattle.step_units.proofs.Units.{leads_at}
use Rattle.step_units.specs.Machines.{MachineAt, RunsOn}
use Rattle.step_units.specs.Stepped.{StepLeads, MarkEnds, StopLeads}
use Rattle.step_units.specs.Running.{WaitsForPage, EndsUngrown, ServeLeads}
use Rattle.step_units.proofs.Accessing.{serve_made, serve_now_made, access_stops}
use Rattle.step_units.proofs.Entering.{leads_then, stopped_short, stops_then}
use Rattle.step_units.proofs.Ending.{ended, end_stops}
use Rattle.step_units.specs.Ready.{Continues}
use Rattle.step_units.proofs.PagesContinue.{access_continues, access_now_continues}
use Rattle.proc_run.specs.declared.advancing.Advance.TheVariants as advances
use Rattle.proc_run.specs.Runs.{RunsAt, AdvancesTo}
use Rattle.proc_run.specs.Serving.{AreLocked, ServedBy, StopsServed}

-- Whatever the devices tell.

pub served_on : (r : Result Served Stop) (old new : Standing) (pid address : ℕ) (write : Bool) (holds : Option (List NamedFile))
    (i j : Option SwapImage) → IsCaller old pid
    → MatchResult r (ServedBy false old new pid address write holds i j) (StopsServed false old new pid address write holds i j) → OnOk r (Continues old new 0)
served_on (Err stop) old new pid address write holds i j c h = tt
served_on (Ok answer) old new pid address write holds i j c h = access_continues old new pid (access_by old.kernel pid address write) answer holds i j c h

pub brought_on : (r : Result Served Stop) (old new : Standing) (pid address : ℕ) (write : Bool) (holds : Option (List NamedFile))
    (i j : Option SwapImage) → IsCaller old pid
    → IfOk r (ServedBy true old new pid address write holds i j) → OnOk r (Continues old new 0)
brought_on (Err stop) old new pid address write holds i j c h = tt
brought_on (Ok answer) old new pid address write holds i j c h = access_now_continues old new pid (access_by old.kernel pid address write) answer h.pages holds i j c h.comes

-- In a run.

module _ (A : Inputs) (s : State) (old mid : Standing) (holds : Option (List NamedFile)) (i j : Option SwapImage) (image : SwapImage) (pid : ℕ) (now : Bool)
    (p : Process) (x : Space)
    (address : ℕ) (write : Bool) (before : List Page) (r : RunsAt A s old holds i image pid now p x) (w : WaitsForPage A s old p x address write before) where
  kept : locked A s ≡ before
  kept = elim w [
    | inl y ↦ (
        ap (locked_by A s) r.on.running.runs.clear
        ∙ split_before s.place (touched_next A s) y.0.before y.0.page (record { behind = y.0.rest; whole = y.0.touched; valid = y.0.valid; absent = y.0.absent }) ∙ y.1)
    | inr y ↦ ap (locked_by A s) r.on.running.runs.clear ∙ ap (before_absent s.place) y.2 ∙ all_before s.place before y.3
  ]

-- by whether it is served by waiting
pub served_leads : (now : Bool) (A : Inputs) (s : State) (old mid : Standing) (holds : Option (List NamedFile)) (i j : Option SwapImage) (image : SwapImage)
    (pid : ℕ) (p : Process) (x : Space)
    (address : ℕ) (write : Bool) (before : List Page) (answer : Served) → RunsAt A s old holds i image pid now p x
    → WaitsForPage A s old p x address write before
    → ServedBy now old mid pid address write holds i j answer → ServeLeads A s old mid holds image j pid now p x answer
served_leads true A s old mid holds i j image pid p x address write before answer r w h =
    let same = h.kept A s image p x r ∙ kept A s old mid holds i j image pid true p x address write before r w in
    serve_now_made A s old mid holds image j pid p x address write before answer r.on w
    (subst (λ (o : Option SwapImage). AccessComes (λ came q from. TouchedNow before came q from mid holds o j) (access_by old.kernel pid address write) answer pid old mid o j) r.told
    (subst (λ (qs : List Page). AccessComes (λ came q from. TouchedNow qs came q from mid holds i j) (access_by old.kernel pid address write) answer pid old mid i j) same h.comes))
served_leads false A s old mid holds i j image pid p x address write before answer r w h =
    serve_made A s old mid holds image j pid p x address write before answer r.on w (subst (λ (o : Option SwapImage). ServedBy false old mid pid address write holds o j answer) r.told h)

pub served_stops : (now : Bool) (A : Inputs) (s : State) (old new : Standing) (holds : Option (List NamedFile)) (i j : Option SwapImage) (image : SwapImage)
    (pid : ℕ) (p : Process) (x : Space)
    (address : ℕ) (write : Bool) (before : List Page) (stop : Stop) → RunsAt A s old holds i image pid now p x → WaitsForPage A s old p x address write before
    → StopsServed now old new pid address write holds i j stop → StopLeads A s old.kernel image stop new j
served_stops true A s old new holds i j image pid p x address write before stop r w h = elim h [
  | inl o ↦ subst (λ (z : Option SwapImage). StopLeads A s old.kernel image stop new z) (sym (o.2 ∙ r.told)) (stopped_short A s old new image stop o.0.stopped o.1 o.0.whole)
  | inr n ↦ (
      let same = n.1 A s image p x r ∙ kept A s old new holds i j image pid true p x address write before r w in
      access_stops A s old new holds image j pid true p x address write before before stop (λ e. refl) r.on w
      (subst (λ (o : Option SwapImage). AccessStops true before (access_by old.kernel pid address write) pid old new holds o j stop) r.told
      (subst (λ (qs : List Page). AccessStops true qs (access_by old.kernel pid address write) pid old new holds i j stop) same n.2)))
]
served_stops false A s old new holds i j image pid p x address write before stop r w h =
    access_stops A s old new holds image j pid false p x address write before [] stop (λ e. absurd cc) r.on w
    (subst (λ (o : Option SwapImage). AccessStops false [] (access_by old.kernel pid address write) pid old new holds o j stop) r.told h)

-- The process ends after the entry that says that its stack finds no place.

module _ (A : Inputs) (s : State) (old mid : Standing) (holds : Option (List NamedFile)) (told : Option SwapImage) (image : SwapImage) (pid : ℕ) (now : Bool)
    (p : Process) (x : Space)
    (on : RunsOn A s old holds image pid now p x) (params : mid.params ≡ old.params) (images : mid.images ≡ old.images) (e : EndsUngrown A s old mid holds image pid now p x)
    (t : told ≡ Some image) where
  at_refusal : MachineAt A e.state mid holds image
  at_refusal = record {
    at = leads_at A s e.state old.kernel mid.kernel image image (entries.Refused pid ∷ []) on.machine.at e.leads;
    images = subst (λ ns. AreRunImages ns holds A) (sym images) on.machine.images;
    blocks = ap (λ (y : Params). y.swap_blocks) params ∙ on.machine.blocks;
  }

  pub refused_ends : (new : Standing) (j : Option SwapImage) → HasEnded mid new pid 11 holds told j → StepLeads A s old.kernel image 1 new.kernel j
  refused_ends new j h =
      leads_then A s e.state old.kernel mid.kernel new.kernel image image j (entries.Refused pid ∷ []) 1 e.leads e.count e.lines e.mark
      (ended A e.state mid holds image pid now p x 11 at_refusal e.running e.ends new j (subst (λ (o : Option SwapImage). HasEnded mid new pid 11 holds o j) t h))

  pub refused_stops : (new : Standing) (j : Option SwapImage) (stop : Stop) → StopsAlive mid new pid holds told j stop
      → StopLeads A s old.kernel image stop new j
  refused_stops new j stop h =
      stops_then A s e.state old.kernel mid.kernel image image j (entries.Refused pid ∷ []) stop new e.leads
      (end_stops A e.state mid holds image pid now p x 11 at_refusal e.running e.ends new j stop (subst (λ (o : Option SwapImage). StopsAlive mid new pid holds o j stop) t h))

-- As the clauses of the calls say it.

-- who ends after an access is there yet, and in
abbrev IsEnd : Served → Type 0
IsEnd served.NoSpace = Unit {0}
IsEnd (served.Signal number) = Unit {0}
IsEnd _ = ⊥

access_ends : (Touched : Served → Page → Standing → Type 0) (access : Access) (answer : Served) (pid : ℕ) (old new : Standing) (i j : Option SwapImage)
    → ((q : Page) (m : Standing) (number : ℕ) → Touched (served.Signal number) q m → ⊥) → ((q : Page) (m : Standing) → Touched served.NoSpace q m → ⊥)
    → IsEnd answer → AccessComes Touched access answer pid old new i j → CanLend old.kernel pid → CanLend new.kernel pid
access_ends Touched (accesses.Page q) served.NoSpace pid old new i j f g e h c = absurd (g q old h)
access_ends Touched (accesses.Page q) (served.Signal number) pid old new i j f g e h c = absurd (f q old number h)
access_ends Touched (accesses.Page q) _ pid old new i j f g e h c = absurd e
access_ends Touched (accesses.Refused number) answer pid old new i j f g e h c = subst (λ (m : Standing). CanLend m.kernel pid) (sym h.1.machine) c
access_ends Touched (accesses.Growth sid pages) served.NoSpace pid old new i j f g e h c =
    subst (λ (m : Standing). CanLend m.kernel pid) (sym h.refused.machine) (record { sid = c.sid; holds = c.holds; there = c.there; resident = c.resident })
access_ends Touched (accesses.Growth sid pages) (served.Signal number) pid old new i j f g e h c = absurd (f (page_names.Stack sid (pages - 1)) h.between number h.behind)
access_ends Touched (accesses.Growth sid pages) _ pid old new i j f g e h c = absurd e

ends_there : (now : Bool) (old new : Standing) (pid address : ℕ) (write : Bool) (holds : Option (List NamedFile)) (i j : Option SwapImage) (answer : Served)
    → IsEnd answer
    → ServedBy now old new pid address write holds i j answer → CanLend old.kernel pid → CanLend new.kernel pid
ends_there true old new pid address write holds i j answer e h c =
    access_ends (λ came q from. TouchedNow h.pages came q from new holds i j) (access_by old.kernel pid address write) answer pid old new i j (λ q m number x. x) (λ q m x. x) e h.comes c
ends_there false old new pid address write holds i j answer e h c =
    access_ends (λ came q from. TouchedAs came q from new holds i j) (access_by old.kernel pid address write) answer pid old new i j (λ q m number x. x.serves.1) (λ q m x. x.serves.1) e h c

-- what serving leads to, where the process doesn't end
pub advances_valid : (now : Bool) (A : Inputs) (s : State) (old mid : Standing) (holds : Option (List NamedFile)) (i j : Option SwapImage) (image : SwapImage)
    (pid : ℕ) (p : Process) (x : Space)
    (address : ℕ) (write : Bool) (before : List Page) (answer : Served) → answer ≡ served.Valid → RunsAt A s old holds i image pid now p x
    → WaitsForPage A s old p x address write before
    → ServedBy now old mid pid address write holds i j answer → AdvancesTo old.kernel mid.kernel j advances.Served A s image
advances_valid now A s old mid holds i j image pid p x address write before answer e r w h =
    let m = subst (ServeLeads A s old mid holds image j pid now p x) e (served_leads now A s old mid holds i j image pid p x address write before answer r w h) in
    (m.led, m.more)

abbrev pub IsStuck : Served → Type 0
IsStuck (served.Asleep q) = Unit {0}
IsStuck served.NoFrame = Unit {0}
IsStuck _ = ⊥

pub advances_stuck : (now : Bool) (A : Inputs) (s : State) (old mid : Standing) (holds : Option (List NamedFile)) (i j : Option SwapImage) (image : SwapImage)
    (pid : ℕ) (p : Process) (x : Space)
    (address : ℕ) (write : Bool) (before : List Page) (answer : Served) → IsStuck answer → RunsAt A s old holds i image pid now p x
    → WaitsForPage A s old p x address write before
    → ServedBy now old mid pid address write holds i j answer → AdvancesTo old.kernel mid.kernel j advances.Stuck A s image
advances_stuck now A s old mid holds i j image pid p x address write before answer e r w h = go answer e (served_leads now A s old mid holds i j image pid p x address write before answer r w h)
  where
    go : (answer : Served) → IsStuck answer → ServeLeads A s old mid holds image j pid now p x answer → MarkEnds A s old.kernel image mid.kernel j
    go (served.Asleep q) e m = m
    go served.NoFrame e m = m
    go _ e m = absurd e

-- the status by which it ends
abbrev pub EndsBy : Served → ℕ → Type 0
EndsBy served.NoSpace status = status ≡ 11
EndsBy (served.Signal number) status = status ≡ number
EndsBy _ status = ⊥

-- who ends may be killed
pub ends_calls : (now : Bool) (old new : Standing) (pid address : ℕ) (write : Bool) (holds : Option (List NamedFile)) (i j : Option SwapImage)
    (answer : Served) (status : ℕ)
    → EndsBy answer status → ServedBy now old new pid address write holds i j answer → CanLend old.kernel pid → CanGoOn new
    → Continues old new 0 → IsCaller new pid
ends_calls now old new pid address write holds i j answer status e h c ready on =
    record { ready = ready; clear = on.clear; lends = ends_there now old new pid address write holds i j answer (is_end answer e) h c }
  where
    is_end : (answer : Served) → EndsBy answer status → IsEnd answer
    is_end served.NoSpace e = tt
    is_end (served.Signal number) e = tt
    is_end _ e = absurd e

pub advances_ended : (now : Bool) (A : Inputs) (s : State) (old mid new : Standing) (holds : Option (List NamedFile)) (i told j : Option SwapImage)
    (image : SwapImage) (pid : ℕ) (p : Process) (x : Space)
    (address : ℕ) (write : Bool) (before : List Page) (answer : Served) (status : ℕ) → EndsBy answer status → Continues old mid 0
    → RunsAt A s old holds i image pid now p x
    → WaitsForPage A s old p x address write before → ServedBy now old mid pid address write holds i told answer → HasEnded mid new pid status holds told j
    → StepLeads A s old.kernel image 1 new.kernel j
advances_ended now A s old mid new holds i told j image pid p x address write before answer status e c r w h d =
    go answer e (served_leads now A s old mid holds i told image pid p x address write before answer r w h)
  where
    go : (answer : Served) → EndsBy answer status → ServeLeads A s old mid holds image told pid now p x answer → StepLeads A s old.kernel image 1 new.kernel j
    go served.NoSpace e m =
        refused_ends A s old mid holds told image pid now p x r.on c.params c.images m.0 m.1 new j (subst (λ (n : ℕ). HasEnded mid new pid n holds told j) e d)
    go (served.Signal number) e m = absurd m
    go _ e m = absurd e

pub stops_ended : (now : Bool) (A : Inputs) (s : State) (old mid new : Standing) (holds : Option (List NamedFile)) (i told j : Option SwapImage)
    (image : SwapImage)
    (pid : ℕ) (p : Process) (x : Space)
    (address : ℕ) (write : Bool) (before : List Page) (answer : Served) (status : ℕ) (stop : Stop) → EndsBy answer status → Continues old mid 0
    → RunsAt A s old holds i image pid now p x
    → WaitsForPage A s old p x address write before → ServedBy now old mid pid address write holds i told answer → StopsAlive mid new pid holds told j stop
    → StopLeads A s old.kernel image stop new j
stops_ended now A s old mid new holds i told j image pid p x address write before answer status stop e c r w h d =
    go answer e (served_leads now A s old mid holds i told image pid p x address write before answer r w h)
  where
    go : (answer : Served) → EndsBy answer status → ServeLeads A s old mid holds image told pid now p x answer → StopLeads A s old.kernel image stop new j
    go served.NoSpace e m = refused_stops A s old mid holds told image pid now p x r.on c.params c.images m.0 m.1 new j stop d
    go (served.Signal number) e m = absurd m
    go _ e m = absurd e

-- A page that was brought in.

abbrev Brought : Standing → Standing → ℕ → ℕ → Bool → Option (List NamedFile) → Option SwapImage → Option SwapImage → List Page → Result Served Stop → Type 0
Brought old new pid address write holds i j pages r =
    MatchResult r (λ answer. AccessComes (λ came q from. TouchedNow pages came q from new holds i j) (access_by old.kernel pid address write) answer pid old new i j)
    (AccessStops true pages (access_by old.kernel pid address write) pid old new holds i j)

pub brought : (r : Result Served Stop) (old mid new : Standing) (pid address : ℕ) (write : Bool) (holds : Option (List NamedFile))
    (i j : Option SwapImage) (pages : List Page)
    → mid ≡ old
    → AreLocked old holds i pid pages → Brought mid new pid address write holds i j pages r → IfOk r (ServedBy true old new pid address write holds i j)
brought (Err stop) old mid new pid address write holds i j pages e k h = tt
brought (Ok answer) old mid new pid address write holds i j pages e k h = record {
  pages = pages;
  kept = k;
  comes = subst (λ (m : Standing). AccessComes (λ came q from. TouchedNow pages came q from new holds i j) (access_by m.kernel pid address write) answer pid m new i j) e h;
}

pub brought_stops : (r : Result Served Stop) (old mid new : Standing) (pid address : ℕ) (write : Bool) (holds : Option (List NamedFile))
    (i j : Option SwapImage) (pages : List Page)
    → mid ≡ old
    → AreLocked old holds i pid pages → Brought mid new pid address write holds i j pages r → IfErr r (StopsServed true old new pid address write holds i j)
brought_stops (Ok answer) old mid new pid address write holds i j pages e k h = tt
brought_stops (Err stop) old mid new pid address write holds i j pages e k h =
    inr (pages, k, subst (λ (m : Standing). AccessStops true pages (access_by m.kernel pid address write) pid m new holds i j stop) e h)
