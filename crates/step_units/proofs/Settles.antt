-- A space settles before the step of its process, or the run stops as it does.
use Rattle.std.proofs.Common.{◌≡◌, ℕ, ◌<◌, ◌≤◌, not, ◌&&◌, Bool, true, false, List, [], ◌∷◌, ◌++◌, length, replicate, Option, Some, None, Err, sym, ap, ◌∙◌, subst, arith}
use Rattle.std.specs.Prelude.{is_ok}
use Rattle.std.proofs.lemmas.List.{length-append}
use Rattle.vm_facts.specs.SwapImages.{SwapImage}
use Rattle.io_edge.specs.FileHolding.{NamedFile}
use Rattle.vm_facts.specs.declared.params.Params.{Params}
use Rattle.vm_facts.specs.declared.entry.Entry.{Entry}
use Rattle.vm_facts.specs.declared.entry.Entry.TheVariants as entries
use Rattle.vm_facts.specs.declared.stop.Stop.{Stop}
use Rattle.vm_facts.specs.declared.stop.Stop.TheVariants as stops
use Rattle.swap_book.specs.Placing.{place_all, fits}
use Rattle.flat_state.specs.Space.{Space}
use Rattle.flat_state.specs.Flat.{Process, Inputs, process_of}
use Rattle.flat_state.specs.Change.{is_borrower}
use Rattle.page_model.specs.Placement.{Placement}
use Rattle.page_model.specs.Place.{facts_of}
use Rattle.page_model.specs.Swapper.{is_settled}
use Rattle.kernel_model.specs.Kernel.{Kernel}
use Rattle.kernel_model.specs.Asks.{asked}
use Rattle.machine_state.specs.Done.{SwapAfter, StopsEnding}
use Rattle.machine_state.specs.Files.{AreRunImages}
use Rattle.machine_state.specs.Machine.{Standing}
use Rattle.machine_state.specs.Settled.{StopsSettling}
use Rattle.machine_state.specs.Sourced.{ImageNamed, files_named}
use Rattle.swapper.proofs.Stopping.{ending_left}
use Rattle.swapper.specs.Made.{ground}
use Rattle.proc_calls.specs.Leaving.{HasSettled}
use Rattle.flat_model.specs.Step.{Step}
use Rattle.flat_model.specs.Run.{Point, step_at, is_refused}
use Rattle.flat_model.specs.Asked.{asks}
use Rattle.run_model.specs.State.{State}
use Rattle.run_model.specs.Wanted.{wanted}
use Rattle.run_model.specs.Act.{loses_pages, settled_in, settled_if, must_refuse, must_settle}
use Rattle.run_model.specs.Next.{next_unit}
use Rattle.run_units.specs.Leads.{Leads}
use Rattle.run_units.specs.Serving.{SameBut, At}
use Rattle.run_units.specs.Settling.{IsLeaving, LeadsLeaving}
use Rattle.run_units.specs.Touching.{RunsInSpace}
use Rattle.run_units.proofs.Units.{leads_at}
use Rattle.run_units.proofs.Settling.{settles, settled_next}
use Rattle.step_units.specs.Machines.{MachineAt}
use Rattle.step_units.specs.Stepped.{StopsNext, StopsBy, StopLeads}
use Rattle.step_units.proofs.Begun.{fits_is, loses_is, none_unsettled}

-- Before it does.

-- a step whose pieces are found, or are refused already, and which gives up its space, or drops pages of it
pub is_leaving : (A : Inputs) (s : State) (pid : ℕ) (now : Bool) (p : Process) (x : Space) (step : Step) → RunsInSpace A s pid now p x
    → wanted A s ≡ None → must_refuse A s pid ≡ false
    → step_at A s.point pid ≡ step → loses_pages x (is_borrower s.point.flat.processes pid) step.change ≡ true → IsLeaving A s pid now x.sid
is_leaving A s pid now p x step r w f is loses = record {
  runs = r.runs;
  unwanted = w;
  fits = f;
  loses = loses_is A s pid now p x step r is ∙ loses;
  own = λ q. ap (settled_if q) r.here ∙ ap (settled_in q) r.holds;
}

pub none_refused : (A : Inputs) (s : State) (k : Kernel) (image : SwapImage) (pid : ℕ) (now : Bool) (p : Process) (x : Space) (step : Step)
    → At A s k image → RunsInSpace A s pid now p x
    → is_refused s.point.last pid ≡ false → step_at A s.point pid ≡ step
    → is_ok (place_all A.swap_blocks k.holdings (asked (facts_of A.images) k pid step.change)) ≡ true → must_refuse A s pid ≡ false
none_refused A s k image pid now p x step at r u is f =
    ap (λ (b : Bool). not b && not (fits A.swap_blocks s.holdings (asks A s.point.flat pid))) u ∙ ap not (fits_is A s k image pid now p x step at r u is ∙ f)

-- the entry that says so is there
pub refused_once : (A : Inputs) (s : State) (pid : ℕ) → is_refused s.point.last pid ≡ true → must_refuse A s pid ≡ false
refused_once A s pid u = ap (λ (b : Bool). not b && not (fits A.swap_blocks s.holdings (asks A s.point.flat pid))) u

-- It has settled: the process runs on, its step is the same, and needn't wait.
pub record IsSettled (A : Inputs) (s : State) (old between : Standing) (holds : Option (List NamedFile)) (image : SwapImage) (j : Option SwapImage) (pid : ℕ)
    (now : Bool) (p : Process) (x : Space) : Type 0 where
  pub units : List Entry
  pub state : State
  pub behind : SwapImage
  pub told : j ≡ Some behind
  pub leads : Leads A s old.kernel image units state between.kernel (Some behind)
  pub same : SameBut s state
  pub machine : MachineAt A state between holds behind
  pub running : RunsInSpace A state pid now p x
  pub unwanted : wanted A state ≡ None
  pub allowed : must_refuse A state pid ≡ false
  pub settles : must_settle A state pid ≡ false
  pub step_is : step_at A state.point pid ≡ step_at A s.point pid

module _ (A : Inputs) (s : State) (old : Standing) (holds : Option (List NamedFile)) (image : SwapImage) (pid : ℕ) (now : Bool) (p : Process) (x : Space)
    (h : MachineAt A s old holds image) (r : RunsInSpace A s pid now p x) (l : IsLeaving A s pid now x.sid) where
  pub has_settled : (between : Standing) (j : Option SwapImage) → HasSettled old between x.sid holds (Some image) j
      → IsSettled A s old between holds image j pid now p x
  has_settled between j g =
      let led : LeadsLeaving A s old.kernel image pid now x.sid (replicate g.settled.count entries.Done) between.kernel j =
      settles g.settled.count A (ground old holds []) s old.kernel between.kernel image j pid now x.sid h.at h.images l g.settled.ends in
      let t : State = led.state in
      let leads : Leads A s old.kernel image (replicate g.settled.count entries.Done) t between.kernel (Some led.leads.behind) =
      subst (λ (o : Option SwapImage). Leads A s old.kernel image (replicate g.settled.count entries.Done) t between.kernel o) led.leads.told led.leads in
      let there : At A t between.kernel led.leads.behind = leads_at A s t old.kernel between.kernel image led.leads.behind (replicate g.settled.count entries.Done) h.at leads in
      record {
        units = replicate g.settled.count entries.Done;
        state = t;
        behind = led.leads.behind;
        told = led.leads.told;
        leads = leads;
        same = led.same;
        machine = record {
          at = there;
          images = subst (λ (ns : List ImageNamed). AreRunImages ns holds A) (sym g.rest.images) h.images;
          blocks = ap (λ (y : Params). y.swap_blocks) g.rest.params ∙ h.blocks;
        };
        running = record { runs = led.leaving.runs; here = ap (λ (y : Point). process_of y.flat pid) led.same.point ∙ r.here; holds = r.holds };
        unwanted = led.leaving.unwanted;
        allowed = led.leaving.fits;
        settles = none_unsettled A t pid (led.leaving.own t.place ∙ ap (λ (y : Placement). is_settled y x.sid) (sym there.stands.place) ∙ g.settled.settled);
        step_is = ap (λ (y : Point). step_at A y pid) led.same.point;
      }

  -- the end of a transfer stops the run
  pub stops_settling : (new : Standing) (j : Option SwapImage) (stop : Stop) → StopsSettling x.sid old new holds (Some image) j stop
      → StopLeads A s old.kernel image stop new j
  stops_settling new j stop g =
      let led : LeadsLeaving A s old.kernel image pid now x.sid (replicate g.count entries.Done) g.between.kernel g.image =
      settles g.count A (ground old holds []) s old.kernel g.between.kernel image g.image pid now x.sid h.at h.images l g.ends in
      let t : State = led.state in
      let leads : Leads A s old.kernel image (replicate g.count entries.Done) t g.between.kernel (Some led.leads.behind) =
      subst (λ (o : Option SwapImage). Leads A s old.kernel image (replicate g.count entries.Done) t g.between.kernel o) led.leads.told led.leads in
      let there : At A t g.between.kernel led.leads.behind = leads_at A s t old.kernel g.between.kernel image led.leads.behind (replicate g.count entries.Done) h.at leads in
      let next : next_unit A t ≡ Some entries.Done =
      settled_next A t pid now x.sid led.leaving (ap (λ (y : Placement). is_settled y x.sid) (sym there.stands.place) ∙ g.unsettled) in
      record {
        units = replicate g.count entries.Done;
        state = t;
        kernel = g.between.kernel;
        behind = led.leads.behind;
        leads = leads;
        journal = g.stops.stopped.journal;
        held = ending_left stop g.between new g.stops.stopped g.stops.whole (λ e. (g.stops.full.0 e).1) g.stops.lost;
        by = ending A t g.between new led.leads.behind g.image j stop led.leads.told next g.stops;
      }
    where
      longer : (journal : List Entry) → length journal < length (journal ++ entries.Done ∷ [])
      longer journal = let e = length-append journal (entries.Done ∷ []) in omega (arith, e)

      by_end : (A : Inputs) (t : State) (between new : Standing) (told : SwapImage) (j : Option SwapImage) (stop : Stop) → next_unit A t ≡ Some entries.Done
          → StopsEnding between new (Some told) j stop
          → StopsNext A t between.kernel told stop new j
      by_end A t between new told j stop n e = record {
        entry = entries.Done;
        next = n;
        full = λ c. (subst (λ (y : Params). y.journal ≤ length between.kernel.journal) (sym e.stopped.params) (e.full.0 c).1, longer between.kernel.journal);
        cause = e.cause;
        spoils = subst (λ (ns : List ImageNamed). SwapAfter (Err stop) (files_named ns) between.kernel (Some told) j) (sym e.stopped.images) e.image;
      }

      ending : (A : Inputs) (t : State) (between new : Standing) (told : SwapImage) (i j : Option SwapImage) (stop : Stop) → i ≡ Some told
          → next_unit A t ≡ Some entries.Done
          → StopsEnding between new i j stop
          → StopsBy A t between.kernel told stop new j
      ending A t between new told i j stops.NoMemory k n e = e.image ∙ k
      ending A t between new told i j stop k n e = by_end A t between new told j stop n (subst (λ (o : Option SwapImage). StopsEnding between new o j stop) k e)
