-- A call whose pieces find no place: an entry says so, and then the call fails.
use Rattle.std.proofs.Common.{◌≡◌, ℕ, Bool, true, false, List, [], ◌∷◌, Option, Some, None, Result, refl, sym, ap, ◌∙◌}
use Rattle.std.specs.Prelude.{is_ok}
use Rattle.vm_facts.specs.SwapImages.{SwapImage}
use Rattle.io_edge.specs.FileHolding.{NamedFile}
use Rattle.vm_facts.specs.declared.regs.Regs.{Regs}
use Rattle.vm_facts.specs.declared.entry.Entry.{Entry}
use Rattle.vm_facts.specs.declared.entry.Entry.TheVariants as entries
use Rattle.vm_facts.specs.declared.stop.Stop.{Stop}
use Rattle.user_vax.specs.Effects.{Effect}
use Rattle.user_vax.specs.declared.refused.Refused.{Refused}
use Rattle.swap_book.specs.Placing.{place_all}
use Rattle.flat_state.specs.Space.{Space}
use Rattle.flat_state.specs.Flat.{Process, FlatState, Inputs, process_of}
use Rattle.flat_state.specs.declared.change.Change.{Change}
use Rattle.flat_state.specs.declared.change.Change.TheVariants as changes
use Rattle.page_model.specs.Place.{facts_of}
use Rattle.kernel_model.specs.Kernel.{Kernel, note_step}
use Rattle.kernel_model.specs.Asks.{asked}
use Rattle.kernel_model.specs.ChangeStep.{change_step}
use Rattle.kernel_laws.proofs.Machine.Swaps.{found_at}
use Rattle.machine_state.specs.Machine.{Standing}
use Rattle.machine_state.specs.Applying.{facts_named}
use Rattle.swapper.specs.Stops.{StopsBefore}
use Rattle.proc_calls.specs.Making.{without_pieces}
use Rattle.flat_model.specs.declared.calls.Reply.{Reply}
use Rattle.flat_model.specs.declared.calls.Reply.TheVariants.{Fails, Does}
use Rattle.flat_model.specs.declared.calls.SystemCall.{SystemCall}
use Rattle.flat_model.specs.Calls.{no_memory, or_fault, replied, refused_reply, unless_refused, wants_space}
use Rattle.flat_model.specs.Step.{Step, call_entry, replied_step}
use Rattle.flat_model.specs.Run.{step_at, due, due_at}
use Rattle.run_laws.specs.Shown.{IsCallOf}
use Rattle.run_model.specs.State.{State}
use Rattle.run_model.specs.After.{after}
use Rattle.run_model.specs.Act.{act}
use Rattle.run_model.specs.Wanted.{wanted}
use Rattle.run_units.specs.Leads.{Leads}
use Rattle.run_units.specs.Touching.{RunsInSpace, IsCalledFor}
use Rattle.run_units.proofs.Units.{leads_at}
use Rattle.run_units.proofs.Stepping.{none_asked}
use Rattle.run_units.proofs.Swapping.{note_made}
use Rattle.step_units.specs.Machines.{MachineAt, RunsOn}
use Rattle.step_units.specs.Stepped.{StepLeads, StopLeads}
use Rattle.step_units.proofs.Begun.{refuses, begins_refused, refused_due, none_lost}
use Rattle.step_units.proofs.Behind.{StepWaits, refusal_waits, running_same, wanted_same}
use Rattle.step_units.proofs.Entering.{entry_leads, complete_leads, entered, leads_then, stopped_before, stops_then}
use Rattle.step_units.proofs.Replying.{called_on, called_step, refused_step}

-- After the entry the process runs on, and waits for the same page; a step of it is refused.
pub record IsRefusal (A : Inputs) (s : State) (old : Standing) (holds : Option (List NamedFile)) (image : SwapImage) (pid : ℕ) (now : Bool) (p : Process)
    (x : Space) : Type 0 where
  pub leads : Leads A s old.kernel image (entries.Refused pid ∷ []) (after A s (entries.Refused pid)) (note_step old.kernel (entries.Refused pid)) (Some image)
  pub waits : StepWaits A s (entries.Refused pid) (after A s (entries.Refused pid))
  pub machine : MachineAt A (after A s (entries.Refused pid)) (without_pieces old pid) holds image
  pub running : RunsInSpace A (after A s (entries.Refused pid)) pid now p x
  pub unwanted : wanted A (after A s (entries.Refused pid)) ≡ None

module _ (A : Inputs) (s : State) (old : Standing) (holds : Option (List NamedFile)) (image : SwapImage) (pid : ℕ) (now : Bool) (p : Process) (x : Space) where
  -- any step whose pieces find no place
  pub refusal : (step : Step) → RunsOn A s old holds image pid now p x → wanted A s ≡ None → step_at A s.point pid ≡ step
      → is_ok (place_all A.swap_blocks old.kernel.holdings (asked (facts_of A.images) old.kernel pid step.change)) ≡ false
      → IsRefusal A s old holds image pid now p x
  refusal step h w is f =
      let k : Kernel = old.kernel in
      let u : Entry = entries.Refused pid in
      let l : Kernel = note_step k u in
      let t : State = after A s u in
      let led : Leads A s k image (u ∷ []) t l (Some image) =
      entry_leads A s k l image pid now u h.running.runs w (refuses A s k image pid now p x step h.machine.at h.running h.between is f) (note_made A s k l image u tt refl) in
      let waits : StepWaits A s u t = refusal_waits A s pid in
      record {
        leads = led;
        waits = waits;
        machine = record { at = leads_at A s t k l image image (u ∷ []) h.machine.at led; images = h.machine.images; blocks = h.machine.blocks };
        running = running_same A s t u pid now p x waits h.running;
        unwanted = wanted_same A s t u h.running.runs.clear waits ∙ w;
      }

  -- the pieces of a call
  pub call_refusal : (effect : Effect) (call : SystemCall) (r : Result Reply Refused) (regs : Regs) (change : Change) → RunsOn A s old holds image pid now p x
      → IsCallOf effect call → IsCalledFor A s p x call effect r → or_fault r ≡ Does regs change
      → is_ok (place_all A.swap_blocks old.kernel.holdings (asked (facts_of A.images) old.kernel pid change)) ≡ false
      → IsRefusal A s old holds image pid now p x
  call_refusal effect call r regs change h m c e f =
      let step : Step = replied_step A.images s.point.flat p call effect (Does regs change) in
      refusal step h c.unwanted (called_step A s pid now p x effect call r h.running h.between m c ∙ ap (replied_step A.images s.point.flat p call effect) e) f

  -- after it the step is the failure of the call
  pub failing_step : (effect : Effect) (call : SystemCall) (r : Result Reply Refused) (regs : Regs) (change : Change) → IsCallOf effect call
      → IsCalledFor A s p x call effect r → or_fault r ≡ Does regs change → wants_space change ≡ true → IsRefusal A s old holds image pid now p x
      → step_at A (after A s (entries.Refused pid)).point pid ≡ replied_step A.images s.point.flat p call effect (Fails no_memory)
  failing_step effect call r regs change m c e wants h =
      let t : State = after A s (entries.Refused pid) in
      refused_step A t pid now p x effect call r h.running h.waits.last m (called_on A s t p x effect call r h.waits.flat h.unwanted c)
      ∙ ap (λ (F : FlatState). replied_step A.images F p call effect (refused_reply true (or_fault r))) h.waits.flat
      ∙ ap (λ (y : Reply). replied_step A.images s.point.flat p call effect (refused_reply true y)) e
      ∙ ap (λ (b : Bool). replied_step A.images s.point.flat p call effect (unless_refused b (Does regs change))) wants

module _ (A : Inputs) (s : State) (old : Standing) (holds : Option (List NamedFile)) (image : SwapImage) (pid : ℕ) (now : Bool) (p : Process) (x : Space)
    (effect : Effect) (call : SystemCall)
    (r : Result Reply Refused) (regs : Regs) (change : Change) (m : IsCallOf effect call) (c : IsCalledFor A s p x call effect r) (e : or_fault r ≡ Does regs change)
    (wants : wants_space change ≡ true)
    (h : IsRefusal A s old holds image pid now p x) where
  abbrev reply : Regs
  reply = replied effect.regs true no_memory

  abbrev v : Entry
  v = call_entry pid call reply

  abbrev step : Step
  step = replied_step A.images s.point.flat p call effect (Fails no_memory)

  abbrev t : State
  t = after A s (entries.Refused pid)

  is : step_at A t.point pid ≡ step
  is = failing_step A s old holds image pid now p x effect call r regs change m c e wants h

  first : step.entries ≡ v ∷ []
  first = ap (λ (n : ℕ). call_entry n call reply ∷ []) (found_at s.point.flat pid p (ap (λ (F : FlatState). process_of F pid) (sym h.waits.flat) ∙ h.running.here)).0

  acts : act A t pid ≡ Some v
  acts = begins_refused A t pid now p x step v [] h.running h.waits.last is first (none_lost A t pid now p x step h.running is refl)

  -- the call fails
  pub refused_fails : (l : Kernel)
      → l ≡ change_step (facts_named old.images) (note_step old.kernel (entries.Refused pid)) pid (replied effect.regs true no_memory)
      (call_entry pid call (replied effect.regs true no_memory)) changes.Keep
      → StepLeads A s old.kernel image 1 l (Some image)
  refused_fails l made =
      let k : Kernel = note_step old.kernel (entries.Refused pid) in
      let d : due_at A t.point pid ≡ v ∷ [] = ap (λ (z : Step). due t.point.last pid z.entries) is ∙ ap (due t.point.last pid) first ∙ refused_due t.point.last pid (v ∷ []) h.waits.last in
      leads_then A s t old.kernel k l image image (Some image) (entries.Refused pid ∷ []) 1 h.leads h.waits.count h.waits.lines h.waits.mark
      (complete_leads A t k l image pid v
      (entered A t (without_pieces old pid) l holds image pid now p x step v old.kernel.holdings h.machine h.running h.unwanted acts refl d is c.writes tt tt (none_asked A.swap_blocks k).0 made))

  -- or the run stops before that
  pub refused_stops : (new : Standing) (stop : Stop) → StopsBefore (without_pieces old pid) new stop → StopLeads A s old.kernel image stop new (Some image)
  refused_stops new stop g =
      stops_then A s t old.kernel (note_step old.kernel (entries.Refused pid)) image image (Some image) (entries.Refused pid ∷ []) stop new h.leads
      (stopped_before A t (without_pieces old pid) new image pid now v stop h.running.runs h.unwanted acts tt g)
