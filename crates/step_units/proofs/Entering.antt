-- What a machine makes of a whole step leads to the state after it, and where it stops the step's entry is next.
use Rattle.std.proofs.Common.{◌≡◌, ◌⊎◌, inl, inr, ℕ, ◌+◌, ◌<◌, ◌≤◌, Bool, false, List, [], ◌∷◌, ◌++◌, length, Option, Some, None, Ok, refl, sym, ap, ◌∙◌, subst, arith}
use Rattle.std.proofs.lemmas.List.{length-append}
use Rattle.std.proofs.lemmas.Option.{same_Some}
use Rattle.vm_facts.specs.SwapImages.{SwapImage}
use Rattle.io_edge.specs.FileHolding.{NamedFile}
use Rattle.vm_facts.specs.declared.entry.Entry.{Entry}
use Rattle.vm_facts.specs.declared.entry.Entry.TheVariants as entries
use Rattle.vm_facts.specs.declared.stop.Stop.{Stop}
use Rattle.vm_facts.specs.declared.stop.Stop.TheVariants as stops
use Rattle.vm_facts.specs.declared.params.Params.{Params}
use Rattle.aout_image.specs.declared.Image.{Image}
use Rattle.swap_book.specs.Holdings.{Holdings}
use Rattle.swap_book.specs.Placing.{place_all}
use Rattle.flat_state.specs.Space.{Space}
use Rattle.flat_state.specs.Flat.{Process, Inputs}
use Rattle.flat_state.specs.Journal.{counted}
use Rattle.page_model.specs.Placement.{Placement}
use Rattle.page_model.specs.Place.{facts_of}
use Rattle.kernel_model.specs.Kernel.{Kernel}
use Rattle.kernel_model.specs.Asks.{asked}
use Rattle.kernel_model.specs.ChangeStep.{change_step}
use Rattle.machine_state.specs.Machine.{Standing}
use Rattle.machine_state.specs.Applying.{facts_named}
use Rattle.machine_state.specs.Conditions.{HasStopped}
use Rattle.swapper.proofs.Stopping.{held_here}
use Rattle.swapper.specs.Made.{ground}
use Rattle.swapper.specs.Stops.{LeftBy, StopsBefore}
use Rattle.flat_model.specs.Step.{Step}
use Rattle.flat_model.specs.Run.{step_at, due_at, IsBetween}
use Rattle.run_model.specs.State.{State}
use Rattle.run_model.specs.Wanted.{wanted}
use Rattle.run_model.specs.After.{after}
use Rattle.run_model.specs.Act.{act, must_settle}
use Rattle.run_model.specs.Next.{next_unit}
use Rattle.run_model.specs.Kinds.{ProcessRuns}
use Rattle.run_laws.specs.Machine.{unit_swap, Completes, EndsStep}
use Rattle.run_laws.proofs.Flows.{runs_next}
use Rattle.run_units.specs.Leads.{MadeAs, Leads}
use Rattle.run_units.specs.Serving.{At}
use Rattle.run_units.specs.Stepping.{with_holdings, PassesNone}
use Rattle.run_units.specs.Touching.{RunsInSpace}
use Rattle.run_units.proofs.Units.{none_leads, first_leads, both_lead, leads_at}
use Rattle.run_units.proofs.Stepping.{plain_made, headers_agree}
use Rattle.step_units.specs.Machines.{MachineAt, RunsOn}
use Rattle.step_units.specs.Stepped.{StepLeads, StopsNext, StopsBy, StopLeads}
use Rattle.step_units.proofs.Begun.{whole_due, begins}
use Rattle.step_units.proofs.Behind.{StepEnds, step_ends, KeepsDue, change_due}

-- One unit of a process.

-- the headers of a machine's images are those of the run's
pub headers : (A : Inputs) (s : State) (m : Standing) (holds : Option (List NamedFile)) (image : SwapImage) → MachineAt A s m holds image
    → facts_named m.images ≡ facts_of A.images
headers A s m holds image h = headers_agree A (ground m holds []) h.images

pub entry_leads : (A : Inputs) (s : State) (k l : Kernel) (image : SwapImage) (pid : ℕ) (now : Bool) (e : Entry) → ProcessRuns A s pid now → wanted A s ≡ None
    → act A s pid ≡ Some e
    → MadeAs A s k image e l (Some image) → Leads A s k image (e ∷ []) (after A s e) l (Some image)
entry_leads A s k l image pid now e r w a m =
    let t : State = after A s e in
    subst (λ (o : Option SwapImage). Leads A s k image (e ∷ []) t l o) (sym m.told)
    (first_leads A s t k l l image (Some image) (Some (unit_swap A k image e)) e [] (runs_next A s pid now e r w a) m (none_leads A t l (unit_swap A k image e)))

between_ends : (pid : ℕ) (e : Entry) → EndsStep pid e → IsBetween (Some e)
between_ends pid (entries.Refused q) c = absurd c
between_ends pid (entries.Out q bytes) c = absurd c
between_ends pid _ c = tt

module _ (A : Inputs) (s : State) (k l : Kernel) (image : SwapImage) (pid : ℕ) where
  -- the last entry of a step was made, and no page is due after it
  pub record IsComplete (e : Entry) : Type 0 where
    pub leads : Leads A s k image (e ∷ []) (after A s e) l (Some image)
    pub there : At A (after A s e) l image
    pub clear : (after A s e).place.due ≡ []
    pub between : IsBetween (after A s e).point.last
    pub ends : StepEnds A s pid e (after A s e)

  pub completes : (now : Bool) (e : Entry) → At A s k image → ProcessRuns A s pid now → wanted A s ≡ None → act A s pid ≡ Some e → EndsStep pid e
      → due_at A s.point pid ≡ e ∷ [] → MadeAs A s k image e l (Some image) → l.place.due ≡ [] → IsComplete e
  completes now e at r w a c d m clear =
      let t : State = after A s e in
      let led : Leads A s k image (e ∷ []) t l (Some image) = entry_leads A s k l image pid now e r w a m in
      let ends : StepEnds A s pid e t = step_ends A s pid e c d in
      let there : At A t l image = leads_at A s t k l image image (e ∷ []) at led in
      record {
        leads = led;
        there = there;
        clear = ap (λ (p : Placement). p.due) (sym there.stands.place) ∙ clear;
        between = subst IsBetween (sym ends.last) (between_ends pid e c);
        ends = ends;
      }

  abbrev pub complete_leads : (e : Entry) → IsComplete e → StepLeads A s k image (counted e) l (Some image)
  complete_leads e h = record {
    units = e ∷ [];
    state = after A s e;
    leads = h.leads;
    clear = h.clear;
    between = h.between;
    count = h.ends.count;
    lines = h.ends.lines;
    mark = h.ends.mark;
  }

-- Units after others.

pub leads_both : (A : Inputs) (s t r : State) (k l m : Kernel) (image mid : SwapImage) (j : Option SwapImage) (us vs : List Entry)
    → Leads A s k image us t l (Some mid) → Leads A t l mid vs r m j
    → Leads A s k image (us ++ vs) r m j
leads_both A s t r k l m image mid j us vs a b =
    both_lead A s t r k l m image (Some mid) j us vs a (λ x e. subst (λ (i : SwapImage). Leads A t l i vs r m j) (same_Some mid x e) b)

pub leads_then : (A : Inputs) (s t : State) (k l m : Kernel) (image mid : SwapImage) (j : Option SwapImage) (us : List Entry) (n : ℕ)
    → Leads A s k image us t l (Some mid)
    → t.count ≡ s.count → t.lines ≡ s.lines → t.mark ≡ s.mark → StepLeads A t l mid n m j → StepLeads A s k image n m j
leads_then A s t k l m image mid j us n a count lines mark b = record {
  units = us ++ b.units;
  state = b.state;
  leads = leads_both A s t b.state k l m image mid j us b.units a b.leads;
  clear = b.clear;
  between = b.between;
  count = b.count ∙ ap (λ (x : ℕ). x + n) count;
  lines = b.lines ∙ lines;
  mark = b.mark ∙ mark;
}

-- Whole steps.

pub ends_step : (pid : ℕ) (e : Entry) → Completes pid e → EndsStep pid e
ends_step pid (entries.Ran q n) c = absurd c
ends_step pid _ c = c

-- an entry with the change of its step, once the pieces were found, where no space passes and no page is due after it
pub entered : (A : Inputs) (s : State) (old : Standing) (l : Kernel) (holds : Option (List NamedFile)) (image : SwapImage) (pid : ℕ) (now : Bool) (p : Process)
    (x : Space) (step : Step) (e : Entry)
    (found : Holdings)
    → MachineAt A s old holds image → RunsInSpace A s pid now p x → wanted A s ≡ None → act A s pid ≡ Some e → Completes pid e → due_at A s.point pid ≡ e ∷ []
    → step_at A s.point pid ≡ step → step.writes ≡ [] → PassesNone step.change → KeepsDue step.change
    → place_all A.swap_blocks old.kernel.holdings (asked (facts_of A.images) old.kernel pid step.change) ≡ Ok found
    → l ≡ change_step (facts_named old.images) (with_holdings old.kernel found) pid step.regs e step.change
    → IsComplete A s old.kernel l image pid e
entered A s old l holds image pid now p x step e found h r w a c d i n passes dues f m =
    let k : Kernel = old.kernel in
    let facts : facts_named old.images ≡ facts_of A.images = headers A s old holds image h in
    let made : MadeAs A s k image e l (Some image) =
    plain_made A s k l image pid now p x e step found h.at r c i n passes f (m ∙ ap (λ (fs : List Image). change_step fs (with_holdings k found) pid step.regs e step.change) facts) in
    completes A s k l image pid now e h.at r.runs w a (ends_step pid e c) d made
    (ap (λ (y : Kernel). y.place.due) m ∙ change_due (facts_named old.images) (with_holdings k found) pid step.regs e step.change dues ∙ ap (λ (y : Placement). y.due) h.at.stands.place ∙ r.runs.clear)

-- the same between two steps, where no space has to settle
pub enters : (A : Inputs) (s : State) (old : Standing) (l : Kernel) (holds : Option (List NamedFile)) (image : SwapImage) (pid : ℕ) (now : Bool) (p : Process)
    (x : Space) (step : Step) (e : Entry)
    (found : Holdings)
    → RunsOn A s old holds image pid now p x → wanted A s ≡ None → must_settle A s pid ≡ false → Completes pid e
    → step_at A s.point pid ≡ step → step.entries ≡ e ∷ [] → step.writes ≡ [] → PassesNone step.change → KeepsDue step.change
    → place_all A.swap_blocks old.kernel.holdings (asked (facts_of A.images) old.kernel pid step.change) ≡ Ok found
    → l ≡ change_step (facts_named old.images) (with_holdings old.kernel found) pid step.regs e step.change
    → IsComplete A s old.kernel l image pid e
enters A s old l holds image pid now p x step e found h w t c i es n passes dues f m =
    entered A s old l holds image pid now p x step e found h.machine h.running w
    (begins A s old.kernel image pid now p x step e [] found h.machine.at h.running h.between i es f t) c
    (whole_due s.point.last pid (step_at A s.point pid).entries h.between ∙ ap (λ (z : Step). z.entries) i ∙ es) i n passes dues f m

-- Stops.

-- an entry of a process that joins no other
abbrev pub IsOwn : Entry → Type 0
IsOwn (entries.Out pid bytes) = Unit {0}
IsOwn (entries.Grew pid pages) = Unit {0}
IsOwn (entries.Call pid number carry r0 r1) = Unit {0}
IsOwn (entries.Refused pid) = Unit {0}
IsOwn (entries.Sleeps pid) = Unit {0}
IsOwn (entries.Ended pid status) = Unit {0}
IsOwn _ = ⊥

pub longer : (journal : List Entry) (e : Entry) → length journal < length (journal ++ e ∷ [])
longer journal e = let h = length-append journal (e ∷ []) in omega (arith, h)

-- where the journal is at its bound
full_next : (A : Inputs) (s : State) (k : Kernel) (image : SwapImage) (e : Entry) (new : Standing) → next_unit A s ≡ Some e → IsOwn e
    → new.params.journal ≤ length k.journal
    → StopsNext A s k image stops.JournalFull new (Some image)
full_next A s k image (entries.Out q bytes) new n o b = record { entry = entries.Out q bytes; next = n; full = λ _. (b, longer k.journal (entries.Out q bytes)); cause = inl refl; spoils = refl }
full_next A s k image (entries.Grew q pages) new n o b = record { entry = entries.Grew q pages; next = n; full = λ _. (b, longer k.journal (entries.Grew q pages)); cause = inl refl; spoils = refl }
full_next A s k image (entries.Call q number carry r0 r1) new n o b =
    record { entry = entries.Call q number carry r0 r1; next = n; full = λ _. (b, longer k.journal (entries.Call q number carry r0 r1)); cause = inl refl; spoils = refl }
full_next A s k image (entries.Refused q) new n o b = record { entry = entries.Refused q; next = n; full = λ _. (b, longer k.journal (entries.Refused q)); cause = inl refl; spoils = refl }
full_next A s k image (entries.Sleeps q) new n o b = record { entry = entries.Sleeps q; next = n; full = λ _. (b, longer k.journal (entries.Sleeps q)); cause = inl refl; spoils = refl }
full_next A s k image (entries.Ended q status) new n o b =
    record { entry = entries.Ended q status; next = n; full = λ _. (b, longer k.journal (entries.Ended q status)); cause = inl refl; spoils = refl }
full_next A s k image _ new n o b = absurd o

-- a run stops in a kernel, before an entry
pub record StopsIn (k : Kernel) (new : Standing) (stop : Stop) : Type 0 where
  pub journal : new.kernel.journal ≡ k.journal
  pub held : LeftBy stop k new
  pub cause : (stop ≡ stops.JournalFull) ⊎ (stop ≡ stops.NoMemory)
  pub full : stop ≡ stops.JournalFull → new.params.journal ≤ length k.journal

stops_in : (old new : Standing) (stop : Stop) → StopsBefore old new stop → StopsIn old.kernel new stop
stops_in old new stop h = record {
  journal = h.stopped.journal;
  held = held_here stop old new h.stopped h.whole h.cause h.full;
  cause = h.cause;
  full = λ c. subst (λ (y : Params). y.journal ≤ length old.kernel.journal) (sym h.stopped.params) (h.full c);
}

stops_by : (A : Inputs) (s : State) (k : Kernel) (new : Standing) (image : SwapImage) (e : Entry) (stop : Stop) → next_unit A s ≡ Some e → IsOwn e
    → StopsIn k new stop
    → StopsBy A s k image stop new (Some image)
stops_by A s k new image e stop n o h = go h.cause
  where
    go : (stop ≡ stops.JournalFull) ⊎ (stop ≡ stops.NoMemory) → StopsBy A s k image stop new (Some image)
    go (inl c) = subst (λ (z : Stop). StopsBy A s k image z new (Some image)) (sym c) (full_next A s k image e new n o (h.full c))
    go (inr c) = subst (λ (z : Stop). StopsBy A s k image z new (Some image)) (sym c) refl

pub stopped_in : (A : Inputs) (s : State) (k : Kernel) (new : Standing) (image : SwapImage) (pid : ℕ) (now : Bool) (e : Entry) (stop : Stop)
    → ProcessRuns A s pid now → wanted A s ≡ None → act A s pid ≡ Some e
    → IsOwn e → StopsIn k new stop → StopLeads A s k image stop new (Some image)
stopped_in A s k new image pid now e stop r w a o h = record {
  units = [];
  state = s;
  kernel = k;
  behind = image;
  leads = none_leads A s k image;
  journal = h.journal;
  held = h.held;
  by = stops_by A s k new image e stop (runs_next A s pid now e r w a) o h;
}

-- before an entry of a process the run stops where that entry is next
pub stopped_before : (A : Inputs) (s : State) (old new : Standing) (image : SwapImage) (pid : ℕ) (now : Bool) (e : Entry) (stop : Stop)
    → ProcessRuns A s pid now → wanted A s ≡ None → act A s pid ≡ Some e
    → IsOwn e → StopsBefore old new stop → StopLeads A s old.kernel image stop new (Some image)
stopped_before A s old new image pid now e stop r w a o h = stopped_in A s old.kernel new image pid now e stop r w a o (stops_in old new stop h)

-- for want of memory it stops anywhere
pub stopped_short : (A : Inputs) (s : State) (old new : Standing) (image : SwapImage) (stop : Stop) → HasStopped old new → stop ≡ stops.NoMemory
    → old.before ≡ old.kernel.holdings
    → StopLeads A s old.kernel image stop new (Some image)
stopped_short A s old new image stop h c w = record {
  units = [];
  state = s;
  kernel = old.kernel;
  behind = image;
  leads = none_leads A s old.kernel image;
  journal = h.journal;
  held = held_here stop old new h w (inr c) (λ e. absurd (let z : stops.NoMemory ≡ stops.JournalFull = sym c ∙ e in cc));
  by = subst (λ (z : Stop). StopsBy A s old.kernel image z new (Some image)) (sym c) refl;
}

-- after units
pub stops_then : (A : Inputs) (s t : State) (k l : Kernel) (image mid : SwapImage) (j : Option SwapImage) (us : List Entry) (stop : Stop) (new : Standing)
    → Leads A s k image us t l (Some mid)
    → StopLeads A t l mid stop new j → StopLeads A s k image stop new j
stops_then A s t k l image mid j us stop new a b = record {
  units = us ++ b.units;
  state = b.state;
  kernel = b.kernel;
  behind = b.behind;
  leads = leads_both A s t b.state k l b.kernel image mid (Some b.behind) us b.units a b.leads;
  journal = b.journal;
  held = b.held;
  by = b.by;
}
