-- A fork is the step of its process, and after it pages are copied.
use Rattle.std.proofs.Common.{◌≡◌, inl, inr, ℕ, ◌+◌, Bool, true, false, List, [], ◌∷◌, ◌++◌, Option, Some, refl, sym, ap, ◌∙◌, subst}
use Rattle.vm_facts.specs.SwapImages.{SwapImage}
use Rattle.io_edge.specs.FileHolding.{NamedFile}
use Rattle.vm_facts.specs.declared.regs.Regs.{Regs}
use Rattle.vm_facts.specs.declared.entry.Entry.{Entry}
use Rattle.vm_facts.specs.declared.stop.Stop.{Stop}
use Rattle.aout_image.specs.declared.Image.{Image}
use Rattle.user_vax.specs.Effects.{Effect}
use Rattle.swap_book.specs.Holdings.{Holdings}
use Rattle.flat_state.specs.Space.{Space}
use Rattle.flat_state.specs.Flat.{Process, Inputs}
use Rattle.flat_state.specs.declared.change.Change.{Change}
use Rattle.flat_state.specs.declared.change.Change.TheVariants as changes
use Rattle.page_model.specs.Placement.{Placement}
use Rattle.kernel_model.specs.Kernel.{Kernel}
use Rattle.kernel_model.specs.ChangeStep.{change_step}
use Rattle.machine_state.specs.Machine.{Standing}
use Rattle.machine_state.specs.Sourced.{ImageNamed}
use Rattle.machine_state.specs.Files.{AreRunImages}
use Rattle.flat_model.specs.declared.calls.Reply.TheVariants.{Does}
use Rattle.flat_model.specs.declared.calls.SystemCall.TheVariants as system_calls
use Rattle.flat_model.specs.Step.{Step, call_entry, replied_step}
use Rattle.flat_model.specs.Run.{Point, IsBetween}
use Rattle.proc_calls.specs.Answered.{StopsOnce}
use Rattle.proc_calls.specs.Making.{is_below_limit, finds_pieces, MakesChildBy}
use Rattle.proc_calls.specs.Copying.{CopiesAll, StopsCopying}
use Rattle.proc_calls.specs.Forking.{HasNewSpace, ForkAnswered, Forked, StopsForking}
use Rattle.run_model.specs.State.{State}
use Rattle.run_model.specs.After.{after}
use Rattle.run_units.specs.Leads.{MadeAs, Leads}
use Rattle.run_units.specs.Serving.{At}
use Rattle.run_units.specs.Stepping.{with_holdings}
use Rattle.run_units.proofs.Units.{leads_at}
use Rattle.run_units.proofs.Stepping.{plain_made}
use Rattle.step_units.specs.Machines.{RunsOn, MakesCall}
use Rattle.step_units.specs.Stepped.{StepLeads, StopLeads}
use Rattle.step_units.proofs.Behind.{StepEnds, step_ends}
use Rattle.step_units.proofs.Entering.{headers, entry_leads, leads_both, stops_then}
use Rattle.step_units.proofs.Children.{fork_asks, child_called}
use Rattle.step_units.proofs.Making.{Asking, told_regs, without_child, without_place, Found, found_child, making_stops}
use Rattle.step_units.proofs.Filling.{LeadsTo}
use Rattle.step_units.proofs.Copying.{all_copied, copying_stops}

-- the entry of the step was made, and the pages that are due then are copied
copied_behind : (A : Inputs) (s t : State) (old between new : Standing) (holds : Option (List NamedFile)) (image : SwapImage)
    (j : Option SwapImage) (us : List Entry)
    → AreRunImages between.images holds A
    → Leads A s old.kernel image us t between.kernel (Some image) → At A t between.kernel image → IsBetween t.point.last
    → t.count ≡ s.count + 1 → t.lines ≡ s.lines → t.mark ≡ s.mark → CopiesAll between.kernel.place.due between new holds (Some image) j
    → StepLeads A s old.kernel image 1 new.kernel j
copied_behind A s t old between new holds image j us images led at last count lines mark copies =
    let to : LeadsTo A t between.kernel image [] new.kernel j =
    all_copied between.kernel.place.due A t between new holds image j at images (ap (λ (q : Placement). q.due) (sym at.stands.place)) copies in
    record {
      units = us ++ to.units;
      state = to.state;
      leads = leads_both A s t to.state old.kernel between.kernel new.kernel image image j us to.units led to.leads;
      clear = to.due;
      between = subst (λ (z : Point). IsBetween z.last) (sym to.same.point) last;
      count = to.same.count ∙ count;
      lines = to.same.lines ∙ lines;
      mark = to.same.mark ∙ mark;
    }

-- the child is there, and its pages are due
record HasForked (A : Inputs) (s : State) (old between : Standing) (holds : Option (List NamedFile)) (image : SwapImage) : Type 0 where
  pub units : List Entry
  pub state : State
  pub leads : Leads A s old.kernel image units state between.kernel (Some image)
  pub at : At A state between.kernel image
  pub images : AreRunImages between.images holds A
  pub last : IsBetween state.point.last
  pub count : state.count ≡ s.count + 1
  pub lines : state.lines ≡ s.lines
  pub mark : state.mark ≡ s.mark

new_space : (A : Inputs) (s : State) (old between : Standing) (holds : Option (List NamedFile)) (image : SwapImage) (pid : ℕ) (now : Bool) (p : Process)
    (x : Space) (effect : Effect)
    → Asking A s old holds image pid now p x effect system_calls.Fork (λ child. changes.Fork child) → is_below_limit old.kernel ≡ true
    → HasNewSpace old between pid effect.regs old.kernel.next_pid → HasForked A s old between holds image
new_space A s old between holds image pid now p x effect a b h =
    let k : Kernel = old.kernel in
    let change : Change = changes.Fork k.next_pid in
    let regs : Regs = told_regs old effect in
    let e : Entry = call_entry pid system_calls.Fork regs in
    let found : Holdings = h.made.found in
    let f : Found A s old pid p effect system_calls.Fork change found = found_child A s old holds image pid now p x effect system_calls.Fork (λ n. changes.Fork n) found a b h.made.pieces in
    let step : Step = replied_step A.images s.point.flat p system_calls.Fork effect (Does regs change) in
    let made : MadeAs A s k image e between.kernel (Some image) =
    plain_made A s k between.kernel image pid now p x e step found a.runs.machine.at a.runs.running refl f.step a.called.writes tt f.pieces
    (h.made.answer.step ∙ ap (λ (fs : List Image). change_step fs (with_holdings k found) pid regs e change) (headers A s old holds image a.runs.machine)) in
    let led : Leads A s k image (e ∷ []) (after A s e) between.kernel (Some image) = entry_leads A s k between.kernel image pid now e a.runs.running.runs a.called.unwanted f.next made in
    let ends : StepEnds A s pid e (after A s e) = step_ends A s pid e refl f.due in
    record {
      units = e ∷ [];
      state = after A s e;
      leads = led;
      at = leads_at A s (after A s e) k between.kernel image image (e ∷ []) a.runs.machine.at led;
      images = subst (λ (ns : List ImageNamed). AreRunImages ns holds A) (sym (ap (λ (m : Standing). m.images) h.made.answer.rest)) a.runs.machine.images;
      last = subst IsBetween (sym ends.last) tt;
      count = ends.count;
      lines = ends.lines;
      mark = ends.mark;
    }

asking : (A : Inputs) (s : State) (old : Standing) (holds : Option (List NamedFile)) (image : SwapImage) (pid : ℕ) (now : Bool) (p : Process)
    (x : Space) (effect : Effect)
    → RunsOn A s old holds image pid now p x → MakesCall old p x effect system_calls.Fork
    → Asking A s old holds image pid now p x effect system_calls.Fork (λ child. changes.Fork child)
asking A s old holds image pid now p x effect runs makes = record {
  asks = fork_asks;
  runs = runs;
  makes = makes;
  called = child_called A s old holds image pid now p x effect system_calls.Fork (λ child. changes.Fork child) fork_asks runs makes;
}

-- the machine stands at a state after the step, where the pages that are due, if any, are copied
forked_to : (A : Inputs) (s : State) (old between : Standing) (holds : Option (List NamedFile)) (image : SwapImage) (pid : ℕ) (now : Bool) (p : Process)
    (x : Space) (effect : Effect)
    → RunsOn A s old holds image pid now p x → MakesCall old p x effect system_calls.Fork → ForkAnswered old between pid effect.regs
    → HasForked A s old between holds image
forked_to A s old between holds image pid now p x effect runs makes h = go (is_below_limit old.kernel) (finds_pieces old pid (changes.Fork old.kernel.next_pid)) refl refl h
  where
    a : Asking A s old holds image pid now p x effect system_calls.Fork (λ child. changes.Fork child)
    a = asking A s old holds image pid now p x effect runs makes

    failed : between.images ≡ old.images → StepLeads A s old.kernel image 1 between.kernel (Some image) → HasForked A s old between holds image
    failed same led = record {
      units = led.units;
      state = led.state;
      leads = led.leads;
      at = leads_at A s led.state old.kernel between.kernel image image led.units runs.machine.at led.leads;
      images = subst (λ (ns : List ImageNamed). AreRunImages ns holds A) (sym same) runs.machine.images;
      last = led.between;
      count = led.count;
      lines = led.lines;
      mark = led.mark;
    }

    go : (below finds : Bool) → is_below_limit old.kernel ≡ below → finds_pieces old pid (changes.Fork old.kernel.next_pid) ≡ finds
        → MakesChildBy below finds old between pid system_calls.Fork effect.regs (HasNewSpace old between pid effect.regs old.kernel.next_pid) → HasForked A s old between holds image
    go false finds b f y =
        failed (ap (λ (m : Standing). m.images) y.rest) (without_child A s old between holds image pid now p x effect system_calls.Fork (λ child. changes.Fork child) a b y)
    go true false b f y =
        failed (ap (λ (m : Standing). m.images) y.answer.rest) (without_place A s old between holds image pid now p x effect system_calls.Fork (λ child. changes.Fork child) a b f y)
    go true true b f y = new_space A s old between holds image pid now p x effect a b y

module _ (A : Inputs) (s : State) (old new : Standing) (holds : Option (List NamedFile)) (image : SwapImage) (behind : Option SwapImage) (pid : ℕ)
    (now : Bool) (p : Process) (x : Space) (effect : Effect) where
  pub fork_made : RunsOn A s old holds image pid now p x → MakesCall old p x effect system_calls.Fork → Forked old new pid effect.regs holds (Some image) behind
      → StepLeads A s old.kernel image 1 new.kernel behind
  fork_made runs makes h =
      let to : HasForked A s old h.between holds image = forked_to A s old h.between holds image pid now p x effect runs makes h.answer in
      copied_behind A s to.state old h.between new holds image behind to.units to.images to.leads to.at to.last to.count to.lines to.mark h.copies

  -- Stops.

  -- as a page is copied
  pub fork_stops_behind : (stop : Stop) → RunsOn A s old holds image pid now p x → MakesCall old p x effect system_calls.Fork
      → StopsOnce (λ m. ForkAnswered old m pid effect.regs) (λ m. StopsCopying m.kernel.place.due m new holds (Some image) behind stop)
      → StopLeads A s old.kernel image stop new behind
  fork_stops_behind stop runs makes h =
      let to : HasForked A s old h.reached holds image = forked_to A s old h.reached holds image pid now p x effect runs makes h.far in
      stops_then A s to.state old.kernel h.reached.kernel image image behind to.units stop new to.leads
      (copying_stops h.reached.kernel.place.due A to.state h.reached new holds image behind stop to.at to.images (ap (λ (q : Placement). q.due) (sym to.at.stands.place)) h.stops)

  pub fork_stops : (stop : Stop) → RunsOn A s old holds image pid now p x → MakesCall old p x effect system_calls.Fork
      → StopsForking old new pid effect.regs holds (Some image) behind stop → StopLeads A s old.kernel image stop new behind
  fork_stops stop runs makes (inl h) =
      subst (λ (o : Option SwapImage). StopLeads A s old.kernel image stop new o) (sym h.1)
      (making_stops A s old new holds image pid now p x effect system_calls.Fork (λ child. changes.Fork child) stop (asking A s old holds image pid now p x effect runs makes) h.0)
  fork_stops stop runs makes (inr h) = fork_stops_behind stop runs makes h
