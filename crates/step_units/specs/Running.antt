-- The statements on instructions without a call, and on pages that they wait for.
use Rattle.std.specs.Prelude.{◌≡◌, ◌⊎◌, ℕ, ◌<◌, Bool, true, false, List, [], ◌∷◌, length, Option, Some, None, Ok, Err}
use Rattle.vm_facts.specs.SwapImages.{SwapImage}
use Rattle.vm_facts.specs.declared.page.Page.{Page}
use Rattle.vm_facts.specs.declared.entry.Entry.TheVariants as entries
use Rattle.vm_facts.specs.declared.stop.Stop.{Stop}
use Rattle.io_edge.specs.FileHolding.{NamedFile}
use Rattle.user_vax.specs.Program.{run}
use Rattle.user_vax.specs.Effects.{Effect}
use Rattle.user_vax.specs.Instruction.{instruction}
use Rattle.user_vax.specs.declared.refused.Refused.TheVariants.{Below}
use Rattle.flat_state.specs.Space.{Space}
use Rattle.flat_state.specs.Flat.{Process, Inputs}
use Rattle.kernel_model.specs.Kernel.{Kernel}
use Rattle.kernel_model.specs.ChangeStep.{ran_by}
use Rattle.machine_state.specs.Machine.{Standing}
use Rattle.machine_state.specs.UserMemory.{kernel_answers, writes_in}
use Rattle.proc_calls.specs.Served.{Served}
use Rattle.proc_calls.specs.Served.TheVariants as served
use Rattle.proc_calls.specs.Growth.{access_by}
use Rattle.proc_calls.specs.Touches.{TouchedAs, TouchedNow, AccessComes, AccessStops}
use Rattle.run_model.specs.State.{State}
use Rattle.run_model.specs.Wanted.{touched_next, AllValid, locked}
use Rattle.run_units.specs.Leads.{Leads}
use Rattle.run_units.specs.Touching.{RunsInSpace, WantsPage}
use Rattle.step_units.specs.Machines.{RunsOn}
use Rattle.step_units.specs.Stepped.{StepLeads, MarkEnds, StopLeads}
use Rattle.step_units.specs.Leaving.{EndsWith}

-- An instruction that makes no call, whose bytes were written and which was counted, is the process's step.
abbrev pub InstructionIsMade : Type 0
InstructionIsMade =
    (A : Inputs) (s : State) (m : Standing) (l : Kernel) (holds : Option (List NamedFile)) (image : SwapImage) (pid : ℕ) (now : Bool) (p : Process)
    (x : Space) (effect : Effect)
    → RunsOn A s m holds image pid now p x → run (kernel_answers m.kernel x.sid) (instruction p.regs) ≡ Ok effect → effect.call ≡ None
    → l ≡ ran_by (writes_in m.kernel x.sid effect.writes) pid effect.regs (entries.Ran pid 1) → StepLeads A s m.kernel image 1 l (Some image)

-- The instruction waits for the page of this byte, or for the growth of its stack to it; these are the pages that it touches before.
abbrev pub WaitsForPage : Inputs → State → Standing → Process → Space → ℕ → Bool → List Page → Type 0
WaitsForPage A s m p x address write before =
    ((wants : WantsPage A s m.kernel x address write) × (wants.before ≡ before))
    ⊎ ((run (kernel_answers m.kernel x.sid) (instruction p.regs) ≡ Err (Below address)) × (write ≡ false) × (touched_next A s ≡ before)
    × AllValid s.place before)

-- units lead to a state under the same mark, between two steps and with nothing due, or after the entry that says that the pieces
-- of growth find no place; that ends the process by signal 11
pub record EndsUngrown (A : Inputs) (s : State) (m new : Standing) (holds : Option (List NamedFile)) (image : SwapImage) (pid : ℕ) (now : Bool) (p : Process)
    (x : Space) : Type 0 where
  pub state : State
  pub leads : Leads A s m.kernel image (entries.Refused pid ∷ []) state new.kernel (Some image)
  pub running : RunsInSpace A state pid now p x
  pub ends : EndsWith A state pid p 11
  pub count : state.count ≡ s.count
  pub lines : state.lines ≡ s.lines
  pub mark : state.mark ≡ s.mark

-- Next units count no instruction, and lead to where more pages are valid of those that the process touches first.
pub record ServedMore (A : Inputs) (s : State) (k : Kernel) (image : SwapImage) (l : Kernel) (j : Option SwapImage) : Type 0 where
  pub led : StepLeads A s k image 0 l j
  pub more : length (locked A s) < length (locked A led.state)

-- What serving comes to in a dispatch, by its answer: the process goes on, or nothing more is to come of the mark.
abbrev pub ServeLeads : Inputs → State → Standing → Standing → Option (List NamedFile) → SwapImage → Option SwapImage → ℕ → Bool → Process → Space → Served
    → Type 0
ServeLeads A s old new holds image j pid now p x served.Valid = ServedMore A s old.kernel image new.kernel j
ServeLeads A s old new holds image j pid now p x (served.Asleep q) = MarkEnds A s old.kernel image new.kernel j
ServeLeads A s old new holds image j pid now p x served.NoFrame = MarkEnds A s old.kernel image new.kernel j
ServeLeads A s old new holds image j pid now p x served.NoSpace = EndsUngrown A s old new holds image pid now p x × (j ≡ Some image)
ServeLeads A s old new holds image j pid now p x (served.Signal number) = ⊥

-- a page is served as far as that needs no waiting
abbrev pub ServeIsMade : Type 0
ServeIsMade =
    (A : Inputs) (s : State) (old new : Standing) (holds : Option (List NamedFile)) (image : SwapImage) (j : Option SwapImage) (pid : ℕ) (p : Process)
    (x : Space)
    (address : ℕ) (write : Bool)
    (before : List Page) (answer : Served)
    → RunsOn A s old holds image pid false p x → WaitsForPage A s old p x address write before
    → AccessComes (λ came q from. TouchedAs came q from new holds (Some image) j) (access_by old.kernel pid address write) answer pid old new (Some image) j
    → ServeLeads A s old new holds image j pid false p x answer

-- where the machine stops in that, next units lead to the stop
abbrev pub ServeStops : Type 0
ServeStops =
    (A : Inputs) (s : State) (old new : Standing) (holds : Option (List NamedFile)) (image : SwapImage) (j : Option SwapImage) (pid : ℕ) (p : Process)
    (x : Space)
    (address : ℕ) (write : Bool)
    (before : List Page) (stop : Stop)
    → RunsOn A s old holds image pid false p x → WaitsForPage A s old p x address write before
    → AccessStops false [] (access_by old.kernel pid address write) pid old new holds (Some image) j stop → StopLeads A s old.kernel image stop new j

-- in a turn it is served until it is valid, by hands that pass over the pages before it
abbrev pub ServeNowIsMade : Type 0
ServeNowIsMade =
    (A : Inputs) (s : State) (old new : Standing) (holds : Option (List NamedFile)) (image : SwapImage) (j : Option SwapImage) (pid : ℕ) (p : Process)
    (x : Space)
    (address : ℕ) (write : Bool)
    (before : List Page) (answer : Served)
    → RunsOn A s old holds image pid true p x → WaitsForPage A s old p x address write before
    → AccessComes (λ came q from. TouchedNow before came q from new holds (Some image) j)
    (access_by old.kernel pid address write) answer pid old new (Some image) j
    → ServeLeads A s old new holds image j pid true p x answer

-- where the machine stops in that, next units lead to the stop
abbrev pub ServeNowStops : Type 0
ServeNowStops =
    (A : Inputs) (s : State) (old new : Standing) (holds : Option (List NamedFile)) (image : SwapImage) (j : Option SwapImage) (pid : ℕ) (p : Process)
    (x : Space)
    (address : ℕ) (write : Bool)
    (before : List Page) (stop : Stop)
    → RunsOn A s old holds image pid true p x → WaitsForPage A s old p x address write before
    → AccessStops true before (access_by old.kernel pid address write) pid old new holds (Some image) j stop → StopLeads A s old.kernel image stop new j
