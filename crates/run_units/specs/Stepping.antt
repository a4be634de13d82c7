-- The statements on entries of a process's step, as a machine makes them.
use Rattle.std.specs.Prelude.{◌≡◌, ℕ, Bool, true, false, List, [], ◌∷◌, Option, Some, None, Result, Ok, Err}
use Rattle.vm_facts.specs.SwapImages.{SwapImage}
use Rattle.vm_facts.specs.declared.entry.Entry.{Entry}
use Rattle.vm_facts.specs.declared.entry.Entry.TheVariants as entries
use Rattle.vm_facts.specs.declared.regs.Regs.{Regs}
use Rattle.swap_book.specs.Holdings.{Holdings}
use Rattle.swap_book.specs.Placing.{place_all}
use Rattle.flat_state.specs.Space.{Space}
use Rattle.flat_state.specs.Flat.{Process, Inputs}
use Rattle.flat_state.specs.declared.change.Change.{Change}
use Rattle.flat_state.specs.declared.change.Change.TheVariants as changes
use Rattle.page_model.specs.Place.{facts_of, data_count, stack_count}
use Rattle.kernel_model.specs.Kernel.{Kernel, Proc}
use Rattle.kernel_model.specs.ChangeStep.{ran_by, change_step, pass_step}
use Rattle.kernel_model.specs.Asks.{asked}
use Rattle.kernel_model.specs.Unit.{has_lender, lender_among, passing_change, proc_of}
use Rattle.fault_fill.specs.Applying.{facts_named}
use Rattle.fault_fill.specs.UserMemory.{writes_in}
use Rattle.fault_fill.specs.Made.{Ground}
use Rattle.user_vax.specs.Effects.{Effect}
use Rattle.user_vax.specs.declared.refused.Refused.{Refused}
use Rattle.flat_model.specs.declared.calls.Reply.{Reply}
use Rattle.flat_model.specs.declared.calls.SystemCall.{SystemCall}
use Rattle.flat_model.specs.Calls.{or_fault, refused_reply, stack_pages_of}
use Rattle.user_vax.specs.declared.refused.Refused.TheVariants.{Below}
use Rattle.flat_model.specs.Step.{Step, step_of, replied_step, data_pages_of, pages_down_to}
use Rattle.flat_model.specs.Run.{step_at, is_refused}
use Rattle.economy_laws.specs.Shown.{IsCallOf}
use Rattle.run_model.specs.State.{State}
use Rattle.run_model.specs.Wanted.{wanted}
use Rattle.run_model.specs.Act.{act}
use Rattle.run_model.specs.Next.{next_unit}
use Rattle.run_model.specs.Kinds.{ProcessRuns}
use Rattle.economy_laws.specs.Machine.{Completes}
use Rattle.run_units.specs.Leads.{HasImages, MadeAs}
use Rattle.run_units.specs.Serving.{At}
use Rattle.run_units.specs.Touching.{RunsInSpace, IsReadyFor, IsCalledFor}

-- what a process does next is the next unit of the run, once it waits for no page
abbrev pub ActIsNext : Type 0
ActIsNext =
    (A : Inputs) (s : State) (pid : ℕ) (now : Bool) (u : Entry) → ProcessRuns A s pid now → wanted A s ≡ None → act A s pid ≡ Some u → next_unit A s ≡ Some u

-- the machine with the pieces that were found
abbrev pub with_holdings : Kernel → Holdings → Kernel
with_holdings k found = record k { holdings = found }

-- An entry of a process with the change of its step, once the pieces that it takes were found, and with the space that passes, is
-- the unit of the run; the instruction wrote nothing.
abbrev pub StepIsMade : Type 0
StepIsMade =
    (A : Inputs) (s : State) (k l : Kernel) (image : SwapImage) (pid : ℕ) (now : Bool) (p : Process) (x : Space) (u : Entry) (step : Step) (found : Holdings)
    → At A s k image → RunsInSpace A s pid now p x → Completes pid u → step_at A s.point pid ≡ step → step.writes ≡ []
    → place_all A.swap_blocks k.holdings (asked (facts_of A.images) k pid step.change) ≡ Ok found
    → l ≡ passing_change (has_lender k.processes pid) (facts_of A.images) (with_holdings k found) pid step.regs u step.change
    → MadeAs A s k image u l (Some image)

-- An instruction whose bytes were written, and which was counted, is the unit of the run.
abbrev pub RanIsMade : Type 0
RanIsMade =
    (A : Inputs) (s : State) (k l : Kernel) (image : SwapImage) (pid : ℕ) (now : Bool) (p : Process) (x : Space) (step : Step)
    → At A s k image → RunsInSpace A s pid now p x → step_at A s.point pid ≡ step
    → l ≡ ran_by (writes_in k x.sid step.writes) pid step.regs (entries.Ran pid 1)
    → MadeAs A s k image (entries.Ran pid 1) l (Some image)

-- The step of a process by what its instruction comes to over the frames of the machine.
abbrev pub StepIsKnown : Type 0
StepIsKnown =
    (A : Inputs) (s : State) (pid : ℕ) (now : Bool) (p : Process) (x : Space) (r : Result Effect Refused)
    → RunsInSpace A s pid now p x → IsReadyFor A s p x r
    → step_at A s.point pid ≡ step_of A.images s.point.flat p x (is_refused s.point.last pid) r

-- The step of a process by what its call comes to over the frames of the machine.
abbrev pub CallIsKnown : Type 0
CallIsKnown =
    (A : Inputs) (s : State) (pid : ℕ) (now : Bool) (p : Process) (x : Space) (effect : Effect) (call : SystemCall) (r : Result Reply Refused)
    → RunsInSpace A s pid now p x → IsCallOf effect call → IsCalledFor A s p x call effect r
    → step_at A s.point pid ≡ replied_step A.images s.point.flat p call effect (refused_reply (is_refused s.point.last pid) (or_fault r))

-- The registers with which a process runs are those of its record.
abbrev pub RecordHasRegisters : Type 0
RecordHasRegisters =
    (A : Inputs) (s : State) (k : Kernel) (image : SwapImage) (pid : ℕ) (now : Bool) (p : Process) (x : Space) (kept : Proc)
    → At A s k image → RunsInSpace A s pid now p x → proc_of k pid ≡ Some kept → kept.regs ≡ p.regs

-- no space passes with the change
abbrev pub PassesNone : Change → Type 0
PassesNone changes.Keep = Unit {0}
PassesNone (changes.Resize data_pages stack_pages) = Unit {0}
PassesNone (changes.Fork child) = Unit {0}
PassesNone (changes.Reap child) = Unit {0}
PassesNone changes.Sleep = Unit {0}
PassesNone _ = ⊥

-- then the change is that of the machine's own call
abbrev pub PlainStepIsMade : Type 0
PlainStepIsMade =
    (A : Inputs) (s : State) (k l : Kernel) (image : SwapImage) (pid : ℕ) (now : Bool) (p : Process) (x : Space) (u : Entry) (step : Step) (found : Holdings)
    → At A s k image → RunsInSpace A s pid now p x → Completes pid u → step_at A s.point pid ≡ step → step.writes ≡ [] → PassesNone step.change
    → place_all A.swap_blocks k.holdings (asked (facts_of A.images) k pid step.change) ≡ Ok found
    → l ≡ change_step (facts_of A.images) (with_holdings k found) pid step.regs u step.change
    → MadeAs A s k image u l (Some image)

-- the process gives its space up, or gets another one
abbrev pub GivesBack : Change → Type 0
GivesBack (changes.Exec number top) = Unit {0}
GivesBack (changes.End status) = Unit {0}
GivesBack _ = ⊥

-- a space that was lent is back with its lender
abbrev pub returned : Bool → Kernel → ℕ → Kernel
returned true k pid = pass_step k pid (lender_among k.processes pid)
returned false k pid = k

-- Before a new image and an end a borrowed space went back, with no entry of its own.
abbrev pub ReturningStepIsMade : Type 0
ReturningStepIsMade =
    (A : Inputs) (s : State) (k l : Kernel) (image : SwapImage) (pid : ℕ) (now : Bool) (p : Process) (x : Space) (u : Entry) (step : Step) (found : Holdings)
    → At A s k image → RunsInSpace A s pid now p x → Completes pid u → step_at A s.point pid ≡ step → step.writes ≡ [] → GivesBack step.change
    → place_all A.swap_blocks k.holdings (asked (facts_of A.images) k pid step.change) ≡ Ok found
    → l ≡ change_step (facts_of A.images) (with_holdings (returned (has_lender k.processes pid) k pid) found) pid step.regs u step.change
    → MadeAs A s k image u l (Some image)

-- After a vfork the space passes to the child, with no entry of its own.
abbrev pub LendingStepIsMade : Type 0
LendingStepIsMade =
    (A : Inputs) (s : State) (k l : Kernel) (image : SwapImage) (pid : ℕ) (now : Bool) (p : Process) (x : Space) (u : Entry) (step : Step)
    (found : Holdings) (child : ℕ)
    → At A s k image → RunsInSpace A s pid now p x → Completes pid u → step_at A s.point pid ≡ step → step.writes ≡ [] → step.change ≡ changes.Lend child
    → place_all A.swap_blocks k.holdings (asked (facts_of A.images) k pid step.change) ≡ Ok found
    → l ≡ pass_step (change_step (facts_of A.images) (with_holdings k found) pid step.regs u (changes.Lend child)) pid child
    → MadeAs A s k image u l (Some image)

-- a change that asks for no pieces leaves those that are held
abbrev pub NoneAskedIsFound : Type 0
NoneAskedIsFound = (size : ℕ) (k : Kernel) → (place_all size k.holdings [] ≡ Ok k.holdings) × (with_holdings k k.holdings ≡ k)

-- the images of a machine have the headers of the run's
abbrev pub HeadersAgree : Type 0
HeadersAgree = (A : Inputs) (g : Ground) → HasImages g A → facts_named g.from.images ≡ facts_of A.images

-- the stack of a space grows to the page of an address
abbrev pub growth_to : Kernel → Space → ℕ → Change
growth_to k x address = changes.Resize (data_count k.place x.sid) (pages_down_to address)

-- growth counts the pages of data that the flat space has
abbrev pub GrowthCounts : Type 0
GrowthCounts =
    (A : Inputs) (s : State) (k : Kernel) (image : SwapImage) (pid : ℕ) (now : Bool) (p : Process) (x : Space)
    → At A s k image → RunsInSpace A s pid now p x → (data_count k.place x.sid ≡ data_pages_of x) × (stack_count k.place x.sid ≡ stack_pages_of x)

-- The growth of a stack, for a byte below it, is the unit of the run, once its pieces were found; its registers are the record's.
abbrev pub GrowthIsMade : Type 0
GrowthIsMade =
    (A : Inputs) (s : State) (k l : Kernel) (image : SwapImage) (pid : ℕ) (now : Bool) (p : Process) (x : Space) (address : ℕ) (kept : Proc) (found : Holdings)
    → At A s k image → RunsInSpace A s pid now p x → IsReadyFor A s p x (Err (Below address)) → is_refused s.point.last pid ≡ false → proc_of k pid ≡ Some kept
    → place_all A.swap_blocks k.holdings (asked (facts_of A.images) k pid (growth_to k x address)) ≡ Ok found
    → l ≡ change_step (facts_of A.images) (with_holdings k found) pid kept.regs (entries.Grew pid (pages_down_to address)) (growth_to k x address)
    → MadeAs A s k image (entries.Grew pid (pages_down_to address)) l (Some image)
