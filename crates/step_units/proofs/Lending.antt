-- A vfork is the step of its process.
use Rattle.std.proofs.Common.{◌≡◌, ℕ, Bool, true, false, List, [], Option, Some, refl, ap, ◌∙◌}
use Rattle.vm_facts.specs.SwapImages.{SwapImage}
use Rattle.io_edge.specs.FileHolding.{NamedFile}
use Rattle.vm_facts.specs.declared.regs.Regs.{Regs}
use Rattle.vm_facts.specs.declared.entry.Entry.{Entry}
use Rattle.vm_facts.specs.declared.stop.Stop.{Stop}
use Rattle.aout_image.specs.declared.Image.{Image}
use Rattle.user_vax.specs.Effects.{Effect}
use Rattle.swap_book.specs.Holdings.{Holdings}
use Rattle.flat_state.specs.Space.{Space}
use Rattle.flat_state.specs.Flat.{Process, Inputs}
use Rattle.flat_state.specs.declared.change.Change.{Change}
use Rattle.flat_state.specs.declared.change.Change.TheVariants as changes
use Rattle.page_model.specs.Placement.{Placement}
use Rattle.kernel_model.specs.Kernel.{Kernel}
use Rattle.kernel_model.specs.ChangeStep.{change_step, pass_step}
use Rattle.machine_state.specs.Machine.{Standing}
use Rattle.machine_state.specs.Applying.{facts_named}
use Rattle.flat_model.specs.declared.calls.Reply.TheVariants.{Does}
use Rattle.flat_model.specs.declared.calls.SystemCall.TheVariants as system_calls
use Rattle.flat_model.specs.Step.{Step, call_entry, replied_step}
use Rattle.proc_calls.specs.Making.{is_below_limit, finds_pieces, MakesChildBy, HasLentSpace, Vforked, StopsMaking}
use Rattle.run_model.specs.State.{State}
use Rattle.run_units.specs.Leads.{MadeAs}
use Rattle.run_units.specs.Stepping.{with_holdings}
use Rattle.run_units.proofs.Stepping.{lending_made}
use Rattle.step_units.specs.Machines.{RunsOn, MakesCall}
use Rattle.step_units.specs.Stepped.{StepLeads, StopLeads}
use Rattle.step_units.proofs.Behind.{change_due}
use Rattle.step_units.proofs.Entering.{headers, completes, complete_leads}
use Rattle.step_units.proofs.Children.{vfork_asks, child_called}
use Rattle.step_units.proofs.Making.{Asking, told_regs, without_child, without_place, Found, found_child, making_stops}

pub lent_space : (A : Inputs) (s : State) (old new : Standing) (holds : Option (List NamedFile)) (image : SwapImage) (pid : ℕ) (now : Bool) (p : Process)
    (x : Space) (effect : Effect)
    → Asking A s old holds image pid now p x effect system_calls.Vfork (λ child. changes.Lend child) → is_below_limit old.kernel ≡ true
    → HasLentSpace old new pid effect.regs old.kernel.next_pid → StepLeads A s old.kernel image 1 new.kernel (Some image)
lent_space A s old new holds image pid now p x effect a b h =
    let k : Kernel = old.kernel in
    let child : ℕ = k.next_pid in
    let change : Change = changes.Lend child in
    let regs : Regs = told_regs old effect in
    let e : Entry = call_entry pid system_calls.Vfork regs in
    let found : Holdings = h.made.found in
    let f : Found A s old pid p effect system_calls.Vfork change found = found_child A s old holds image pid now p x effect system_calls.Vfork (λ n. changes.Lend n) found a b h.made.pieces in
    let step : Step = replied_step A.images s.point.flat p system_calls.Vfork effect (Does regs change) in
    let passed : new.kernel ≡ pass_step (change_step (facts_named old.images) (with_holdings k found) pid regs e change) pid child =
    ap (λ (m : Standing). m.kernel) h.passed ∙ ap (λ (y : Kernel). pass_step y pid child) h.made.answer.step in
    let made : MadeAs A s k image e new.kernel (Some image) =
    lending_made A s k new.kernel image pid now p x e step found child a.runs.machine.at a.runs.running refl f.step a.called.writes refl f.pieces
    (passed ∙ ap (λ (fs : List Image). pass_step (change_step fs (with_holdings k found) pid regs e change) pid child) (headers A s old holds image a.runs.machine)) in
    let clear : new.kernel.place.due ≡ [] =
    ap (λ (y : Kernel). y.place.due) passed ∙ change_due (facts_named old.images) (with_holdings k found) pid regs e change tt
    ∙ ap (λ (q : Placement). q.due) a.runs.machine.at.stands.place ∙ a.runs.running.runs.clear in
    complete_leads A s k new.kernel image pid e
    (completes A s k new.kernel image pid now e a.runs.machine.at a.runs.running.runs a.called.unwanted f.next refl f.due made clear)

asking : (A : Inputs) (s : State) (old : Standing) (holds : Option (List NamedFile)) (image : SwapImage) (pid : ℕ) (now : Bool) (p : Process)
    (x : Space) (effect : Effect)
    → RunsOn A s old holds image pid now p x → MakesCall old p x effect system_calls.Vfork
    → Asking A s old holds image pid now p x effect system_calls.Vfork (λ child. changes.Lend child)
asking A s old holds image pid now p x effect runs makes = record {
  asks = vfork_asks;
  runs = runs;
  makes = makes;
  called = child_called A s old holds image pid now p x effect system_calls.Vfork (λ child. changes.Lend child) vfork_asks runs makes;
}

pub vfork_made : (A : Inputs) (s : State) (old new : Standing) (holds : Option (List NamedFile)) (image : SwapImage) (pid : ℕ) (now : Bool) (p : Process)
    (x : Space) (effect : Effect)
    → RunsOn A s old holds image pid now p x → MakesCall old p x effect system_calls.Vfork → Vforked old new pid effect.regs
    → StepLeads A s old.kernel image 1 new.kernel (Some image)
vfork_made A s old new holds image pid now p x effect runs makes h = go (is_below_limit old.kernel) (finds_pieces old pid (changes.Lend old.kernel.next_pid)) refl refl h
  where
    a : Asking A s old holds image pid now p x effect system_calls.Vfork (λ child. changes.Lend child)
    a = asking A s old holds image pid now p x effect runs makes

    go : (below finds : Bool) → is_below_limit old.kernel ≡ below → finds_pieces old pid (changes.Lend old.kernel.next_pid) ≡ finds
        → MakesChildBy below finds old new pid system_calls.Vfork effect.regs (HasLentSpace old new pid effect.regs old.kernel.next_pid) → StepLeads A s old.kernel image 1 new.kernel (Some image)
    go false finds b f y = without_child A s old new holds image pid now p x effect system_calls.Vfork (λ child. changes.Lend child) a b y
    go true false b f y = without_place A s old new holds image pid now p x effect system_calls.Vfork (λ child. changes.Lend child) a b f y
    go true true b f y = lent_space A s old new holds image pid now p x effect a b y

pub vfork_stops : (A : Inputs) (s : State) (old new : Standing) (holds : Option (List NamedFile)) (image : SwapImage) (pid : ℕ) (now : Bool) (p : Process)
    (x : Space) (effect : Effect) (stop : Stop)
    → RunsOn A s old holds image pid now p x → MakesCall old p x effect system_calls.Vfork → StopsMaking old new pid (changes.Lend old.kernel.next_pid) stop
    → StopLeads A s old.kernel image stop new (Some image)
vfork_stops A s old new holds image pid now p x effect stop runs makes h =
    making_stops A s old new holds image pid now p x effect system_calls.Vfork (λ child. changes.Lend child) stop (asking A s old holds image pid now p x effect runs makes) h
