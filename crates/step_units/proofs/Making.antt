-- A call with which a process makes another: it fails, or the pieces of the child are found.
use Rattle.std.proofs.Common.{◌≡◌, ◌⊎◌, inl, inr, ℕ, Bool, true, false, List, [], ◌∷◌, Option, Some, refl, sym, ap, ◌∙◌, subst}
use Rattle.std.specs.Prelude.{Result, Ok, Err, is_ok}
use Rattle.vm_facts.specs.SwapImages.{SwapImage}
use Rattle.io_edge.specs.FileHolding.{NamedFile}
use Rattle.vm_facts.specs.declared.regs.Regs.{Regs}
use Rattle.vm_facts.specs.declared.entry.Entry.{Entry}
use Rattle.vm_facts.specs.declared.entry.Entry.TheVariants as entries
use Rattle.vm_facts.specs.declared.stop.Stop.{Stop}
use Rattle.aout_image.specs.declared.Image.{Image}
use Rattle.user_vax.specs.Effects.{Effect}
use Rattle.user_vax.specs.declared.refused.Refused.{Refused}
use Rattle.swap_book.specs.Holdings.{Holdings}
use Rattle.swap_book.specs.Placing.{place_all}
use Rattle.flat_state.specs.Space.{Space}
use Rattle.flat_state.specs.Flat.{Process, Inputs}
use Rattle.flat_state.specs.Change.{is_borrower}
use Rattle.flat_state.specs.declared.change.Change.{Change}
use Rattle.flat_state.specs.declared.change.Change.TheVariants as changes
use Rattle.page_model.specs.Place.{facts_of}
use Rattle.kernel_model.specs.Asks.{asked}
use Rattle.kernel_laws.proofs.Machine.Swaps.{found_at}
use Rattle.machine_state.specs.Machine.{Standing}
use Rattle.machine_state.specs.Applying.{facts_named}
use Rattle.swapper.specs.Stops.{StopsBefore}
use Rattle.flat_model.specs.declared.calls.Reply.{Reply}
use Rattle.flat_model.specs.declared.calls.Reply.TheVariants.{Fails, Does}
use Rattle.flat_model.specs.declared.calls.SystemCall.{SystemCall}
use Rattle.flat_model.specs.Calls.{try_again, replied, replied_both, child_by}
use Rattle.flat_model.specs.Step.{Step, call_entry, replied_step}
use Rattle.flat_model.specs.Run.{step_at, due_at}
use Rattle.proc_calls.specs.Answered.{Answered}
use Rattle.proc_calls.specs.Making.{is_below_limit, finds_pieces, without_pieces, FindsNone, IsRefused, StopsMaking}
use Rattle.run_model.specs.State.{State}
use Rattle.run_model.specs.Act.{act}
use Rattle.run_units.specs.Touching.{IsCalledFor}
use Rattle.run_units.proofs.Stepping.{none_asked}
use Rattle.step_units.specs.Machines.{MachineAt, RunsOn, MakesCall}
use Rattle.step_units.specs.Stepped.{StepLeads, StopLeads}
use Rattle.step_units.proofs.Begun.{whole_due, begins, refuses, none_lost}
use Rattle.step_units.proofs.Entering.{headers, IsOwn, stopped_before}
use Rattle.step_units.proofs.Replying.{called_step, fails}
use Rattle.step_units.proofs.Refusing.{IsRefusal, call_refusal, refused_fails, refused_stops}
use Rattle.step_units.proofs.Children.{AsksChild, child_told}

-- A call that asks for a child, made by a process of a machine that stands at a state of a run.
pub record Asking (A : Inputs) (s : State) (old : Standing) (holds : Option (List NamedFile)) (image : SwapImage) (pid : ℕ) (now : Bool) (p : Process)
    (x : Space)
    (effect : Effect) (call : SystemCall) (change : ℕ → Change) : Type 0 where
  pub asks : AsksChild call change
  pub runs : RunsOn A s old holds image pid now p x
  pub makes : MakesCall old p x effect call
  pub called : IsCalledFor A s p x call effect (Ok (child_told old.kernel effect.regs change))

-- its change, and the registers with the child's number
abbrev pub own_change : Standing → (ℕ → Change) → Change
own_change old change = change old.kernel.next_pid

abbrev pub told_regs : Standing → Effect → Regs
told_regs old effect = replied_both effect.regs old.kernel.next_pid 0

-- what it comes to, by whether there are fewer processes than may be
abbrev child_answer : Bool → Standing → Effect → (ℕ → Change) → Result Reply Refused
child_answer below old effect change = Ok (child_by below effect.regs old.kernel.next_pid (own_change old change))

pub told_by : (A : Inputs) (s : State) (old : Standing) (p : Process) (x : Space) (effect : Effect) (call : SystemCall) (change : ℕ → Change) (below : Bool)
    → is_below_limit old.kernel ≡ below
    → IsCalledFor A s p x call effect (Ok (child_told old.kernel effect.regs change))
    → IsCalledFor A s p x call effect (Ok (child_by below effect.regs old.kernel.next_pid (own_change old change)))
told_by A s old p x effect call change below b c =
    subst (λ (z : Bool). IsCalledFor A s p x call effect (Ok (child_by z effect.regs old.kernel.next_pid (own_change old change)))) b c

module _ (A : Inputs) (s : State) (old : Standing) (holds : Option (List NamedFile)) (image : SwapImage) (pid : ℕ) where
  -- the step of the process, where there are fewer
  pub making_step : (now : Bool) (p : Process) (x : Space) (effect : Effect) (call : SystemCall) (change : ℕ → Change)
      → Asking A s old holds image pid now p x effect call change → is_below_limit old.kernel ≡ true
      → step_at A s.point pid ≡ replied_step A.images s.point.flat p call effect (Does (told_regs old effect) (own_change old change))
  making_step now p x effect call change a b =
      called_step A s pid now p x effect call (Ok (Does (told_regs old effect) (own_change old change))) a.runs.running a.runs.between a.makes.names
      (told_by A s old p x effect call change true b a.called)

  -- what it asks for, of the machine and of the run
  pub same_pieces : (change : Change)
      → MachineAt A s old holds image
      → place_all old.params.swap_blocks old.kernel.holdings (asked (facts_named old.images) old.kernel pid change)
      ≡ place_all A.swap_blocks old.kernel.holdings (asked (facts_of A.images) old.kernel pid change)
  same_pieces change h =
      ap (λ (n : ℕ). place_all n old.kernel.holdings (asked (facts_named old.images) old.kernel pid change)) h.blocks
      ∙ ap (λ (fs : List Image). place_all A.swap_blocks old.kernel.holdings (asked fs old.kernel pid change)) (headers A s old holds image h)

  none_found : (change : ℕ → Change) → MachineAt A s old holds image → finds_pieces old pid (own_change old change) ≡ false
      → is_ok (place_all A.swap_blocks old.kernel.holdings (asked (facts_of A.images) old.kernel pid (own_change old change))) ≡ false
  none_found change h f = ap (λ (o : Result Holdings ℕ). is_ok o) (sym (same_pieces (own_change old change) h)) ∙ f

  -- its pieces found no place
  pub making_refused : (now : Bool) (p : Process) (x : Space) (effect : Effect) (call : SystemCall) (change : ℕ → Change)
      → Asking A s old holds image pid now p x effect call change → is_below_limit old.kernel ≡ true → finds_pieces old pid (own_change old change) ≡ false
      → IsRefusal A s old holds image pid now p x
  making_refused now p x effect call change a b f =
      call_refusal A s old holds image pid now p x effect call (child_answer true old effect change) (told_regs old effect) (own_change old change) a.runs a.makes.names
      (told_by A s old p x effect call change true b a.called) refl (none_found change a.runs.machine f)

-- The call fails, with no child.
pub without_child : (A : Inputs) (s : State) (old new : Standing) (holds : Option (List NamedFile)) (image : SwapImage) (pid : ℕ) (now : Bool) (p : Process)
    (x : Space) (effect : Effect)
    (call : SystemCall) (change : ℕ → Change)
    → Asking A s old holds image pid now p x effect call change → is_below_limit old.kernel ≡ false
    → Answered old new pid call (replied effect.regs true try_again) changes.Keep
    → StepLeads A s old.kernel image 1 new.kernel (Some image)
without_child A s old new holds image pid now p x effect call change a b h =
    fails A s old new.kernel holds image pid now p x effect call (Ok (child_by false effect.regs old.kernel.next_pid (own_change old change))) try_again a.runs a.makes.names
    (told_by A s old p x effect call change false b a.called) refl h.step

pub without_place : (A : Inputs) (s : State) (old new : Standing) (holds : Option (List NamedFile)) (image : SwapImage) (pid : ℕ) (now : Bool) (p : Process)
    (x : Space) (effect : Effect)
    (call : SystemCall) (change : ℕ → Change)
    → Asking A s old holds image pid now p x effect call change → is_below_limit old.kernel ≡ true → finds_pieces old pid (own_change old change) ≡ false
    → IsRefused old new pid call effect.regs → StepLeads A s old.kernel image 1 new.kernel (Some image)
without_place A s old new holds image pid now p x effect call change a b f h =
    refused_fails A s old holds image pid now p x effect call (child_answer true old effect change) (told_regs old effect) (own_change old change) a.makes.names
    (told_by A s old p x effect call change true b a.called) refl (a.asks.wants old.kernel.next_pid) (making_refused A s old holds image pid now p x effect call change a b f) new.kernel h.answer.step

-- The pieces of the child were found.
pub record Found (A : Inputs) (s : State) (old : Standing) (pid : ℕ) (p : Process) (effect : Effect) (call : SystemCall) (change : Change)
    (found : Holdings) : Type 0 where
  pub step : step_at A s.point pid ≡ replied_step A.images s.point.flat p call effect (Does (told_regs old effect) change)
  pub due : due_at A s.point pid ≡ call_entry pid call (told_regs old effect) ∷ []
  pub next : act A s pid ≡ Some (call_entry pid call (told_regs old effect))
  pub pieces : place_all A.swap_blocks old.kernel.holdings (asked (facts_of A.images) old.kernel pid change) ≡ Ok found

pub found_child : (A : Inputs) (s : State) (old : Standing) (holds : Option (List NamedFile)) (image : SwapImage) (pid : ℕ) (now : Bool) (p : Process)
    (x : Space)
    (effect : Effect) (call : SystemCall)
    (change : ℕ → Change)
    (found : Holdings) → Asking A s old holds image pid now p x effect call change → is_below_limit old.kernel ≡ true
    → place_all old.params.swap_blocks old.kernel.holdings (asked (facts_named old.images) old.kernel pid (own_change old change)) ≡ Ok found
    → Found A s old pid p effect call (own_change old change) found
found_child A s old holds image pid now p x effect call change found a b h =
    let step : Step = replied_step A.images s.point.flat p call effect (Does (told_regs old effect) (own_change old change)) in
    let is : step_at A s.point pid ≡ step = making_step A s old holds image pid now p x effect call change a b in
    let e : Entry = call_entry pid call (told_regs old effect) in
    let first : step.entries ≡ e ∷ [] = ap (λ (n : ℕ). call_entry n call (told_regs old effect) ∷ []) (found_at s.point.flat pid p a.runs.running.here).0 in
    let pieces : place_all A.swap_blocks old.kernel.holdings (asked (facts_of A.images) old.kernel pid (own_change old change)) ≡ Ok found =
    sym (same_pieces A s old holds image pid (own_change old change) a.runs.machine) ∙ h in
    record {
      step = is;
      due = whole_due s.point.last pid (step_at A s.point pid).entries a.runs.between ∙ ap (λ (z : Step). z.entries) is ∙ first;
      next = begins A s old.kernel image pid now p x step e [] found a.runs.machine.at a.runs.running a.runs.between is first pieces
          (none_lost A s pid now p x step a.runs.running is (a.asks.keeps x (is_borrower s.point.flat.processes pid) old.kernel.next_pid));
      pieces = pieces;
    }

-- Stops.

-- the entry of a call that fails is next
fails_next : (A : Inputs) (s : State) (old : Standing) (holds : Option (List NamedFile)) (image : SwapImage) (pid : ℕ) (now : Bool) (p : Process) (x : Space)
    (effect : Effect) (call : SystemCall)
    (change : ℕ → Change)
    → Asking A s old holds image pid now p x effect call change → is_below_limit old.kernel ≡ false
    → act A s pid ≡ Some (call_entry pid call (replied effect.regs true try_again))
fails_next A s old holds image pid now p x effect call change a b =
    let step : Step = replied_step A.images s.point.flat p call effect (Fails try_again) in
    let is : step_at A s.point pid ≡ step =
    called_step A s pid now p x effect call (Ok (Fails try_again)) a.runs.running a.runs.between a.makes.names (told_by A s old p x effect call change false b a.called) in
    begins A s old.kernel image pid now p x step (call_entry pid call (replied effect.regs true try_again)) [] old.kernel.holdings a.runs.machine.at a.runs.running a.runs.between is
    (ap (λ (n : ℕ). call_entry n call (replied effect.regs true try_again) ∷ []) (found_at s.point.flat pid p a.runs.running.here).0) (none_asked A.swap_blocks old.kernel).0
    (none_lost A s pid now p x step a.runs.running is refl)

some_found : (r : Result Holdings ℕ) → is_ok r ≡ true → (found : Holdings) × (r ≡ Ok found)
some_found (Ok found) h = (found, refl)
some_found (Err n) h = absurd cc

-- the run stopped as it was
stops_first : (A : Inputs) (s : State) (old new : Standing) (holds : Option (List NamedFile)) (image : SwapImage) (pid : ℕ) (now : Bool) (p : Process)
    (x : Space)
    (effect : Effect) (call : SystemCall)
    (change : ℕ → Change)
    (stop : Stop) → Asking A s old holds image pid now p x effect call change → StopsBefore old new stop → StopLeads A s old.kernel image stop new (Some image)
stops_first A s old new holds image pid now p x effect call change stop a h = go (is_below_limit old.kernel) (finds_pieces old pid (own_change old change)) refl refl
  where
    before : (e : Entry) → act A s pid ≡ Some e → IsOwn e → StopLeads A s old.kernel image stop new (Some image)
    before e next own = stopped_before A s old new image pid now e stop a.runs.running.runs a.called.unwanted next own h

    go : (below finds : Bool) → is_below_limit old.kernel ≡ below → finds_pieces old pid (own_change old change) ≡ finds → StopLeads A s old.kernel image stop new (Some image)
    go false finds b f = before (call_entry pid call (replied effect.regs true try_again)) (fails_next A s old holds image pid now p x effect call change a b) tt
    go true false b f = before (entries.Refused pid)
        (refuses A s old.kernel image pid now p x (replied_step A.images s.point.flat p call effect (Does (told_regs old effect) (own_change old change))) a.runs.machine.at a.runs.running
        a.runs.between (making_step A s old holds image pid now p x effect call change a b) (none_found A s old holds image pid change a.runs.machine f)) tt
    go true true b f =
        let found = some_found (place_all old.params.swap_blocks old.kernel.holdings (asked (facts_named old.images) old.kernel pid (own_change old change))) f in
        before (call_entry pid call (told_regs old effect)) (found_child A s old holds image pid now p x effect call change found.0 a b found.1).next tt

pub making_stops : (A : Inputs) (s : State) (old new : Standing) (holds : Option (List NamedFile)) (image : SwapImage) (pid : ℕ) (now : Bool) (p : Process)
    (x : Space) (effect : Effect)
    (call : SystemCall) (change : ℕ → Change)
    (stop : Stop) → Asking A s old holds image pid now p x effect call change → StopsMaking old new pid (own_change old change) stop
    → StopLeads A s old.kernel image stop new (Some image)
making_stops A s old new holds image pid now p x effect call change stop a h = go h.far
  where
    before : (m : Standing) → h.reached ≡ m → StopsBefore m new stop
    before m e = subst (λ (z : Standing). StopsBefore z new stop) e h.stops

    go : (h.reached ≡ old) ⊎ FindsNone old h.reached pid (own_change old change) → StopLeads A s old.kernel image stop new (Some image)
    go (inl e) = stops_first A s old new holds image pid now p x effect call change stop a (before old e)
    go (inr r) =
        refused_stops A s old holds image pid now p x effect call (child_answer true old effect change) (told_regs old effect) (own_change old change) a.makes.names
        (told_by A s old p x effect call change true r.below a.called) refl (a.asks.wants old.kernel.next_pid)
        (making_refused A s old holds image pid now p x effect call change a r.below r.none) new stop
        (before (without_pieces old pid) r.refused)
