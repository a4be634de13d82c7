-- To which state a call leads in a run, or where the run stops in it. The other statements end in these.
use Rattle.std.specs.Prelude.{◌≡◌, ℕ, ◌+◌, ◌<◌, ◌≤◌, false, List, [], length, Option, Some, None}
use Rattle.vm_facts.specs.SwapImages.{SwapImage}
use Rattle.vm_facts.specs.declared.entry.Entry.{Entry}
use Rattle.vm_facts.specs.declared.stop.Stop.{Stop}
use Rattle.vm_facts.specs.declared.stop.Stop.TheVariants as stops
use Rattle.flat_state.specs.Flat.{Inputs}
use Rattle.flat_state.specs.Journal.{append}
use Rattle.flat_state.specs.Space.{Space}
use Rattle.kernel_model.specs.Kernel.{Kernel}
use Rattle.machine_state.specs.Machine.{Standing}
use Rattle.machine_state.specs.Sourced.{files_named}
use Rattle.swapper.specs.Stops.{CauseBy, SpoilsBy, LeftBy}
use Rattle.proc_calls.specs.declared.replying.Called.{Called}
use Rattle.proc_calls.specs.declared.replying.Called.TheVariants as calls
use Rattle.run_model.specs.State.{State}
use Rattle.run_model.specs.Next.{under, next_unit}
use Rattle.flat_model.specs.Run.{IsBetween}
use Rattle.run_units.specs.Leads.{Leads}
use Rattle.run_units.specs.Touching.{WantsPage}

-- Next units of a run lead to a state between two steps, with nothing due, under the same mark, and with so many more
-- instructions counted.
pub record StepLeads (A : Inputs) (s : State) (k : Kernel) (image : SwapImage) (n : ℕ) (l : Kernel) (j : Option SwapImage) : Type 0 where
  pub units : List Entry
  pub state : State
  pub leads : Leads A s k image units state l j
  pub clear : state.place.due ≡ []
  pub between : IsBetween state.point.last
  pub count : state.count ≡ s.count + n
  pub lines : state.lines ≡ s.lines
  pub mark : state.mark ≡ s.mark

-- they lead to one at which nothing more is to come of the mark, and count no instruction
pub record MarkEnds (A : Inputs) (s : State) (k : Kernel) (image : SwapImage) (l : Kernel) (j : Option SwapImage) : Type 0 where
  pub led : StepLeads A s k image 0 l j
  pub over : under A led.state led.state.mark ≡ None

-- What a call of a process leads to, by what it comes to: the instruction is counted where it is complete. Where a byte that
-- the call reads misses nothing was done, and the process waits for that byte's page.
abbrev pub CallLeads : Inputs → State → Kernel → SwapImage → Space → Called → Kernel → Option SwapImage → Type 0
CallLeads A s k image x calls.Ready l j = StepLeads A s k image 1 l j
CallLeads A s k image x calls.Gone l j = StepLeads A s k image 1 l j
CallLeads A s k image x calls.Asleep l j = MarkEnds A s k image l j
CallLeads A s k image x (calls.Miss address) l j = (l ≡ k) × (j ≡ Some image) × WantsPage A s k x address false

-- Stops.

-- The run stopped where this unit comes next: at the bound of the journal only where the unit isn't joined.
pub record StopsNext (A : Inputs) (t : State) (k : Kernel) (image : SwapImage) (stop : Stop) (new : Standing) (j : Option SwapImage) : Type 0 where
  pub entry : Entry
  pub next : next_unit A t ≡ Some entry
  pub full : stop ≡ stops.JournalFull → (new.params.journal ≤ length k.journal) × (length k.journal < length (append k.journal entry))
  pub cause : CauseBy entry stop k.place.transfers
  pub spoils : SpoilsBy (files_named new.images) entry stop k (Some image) j

-- for want of memory it may stop anywhere
abbrev pub StopsBy : Inputs → State → Kernel → SwapImage → Stop → Standing → Option SwapImage → Type 0
StopsBy A t k image stops.NoMemory new j = j ≡ Some image
StopsBy A t k image stop new j = StopsNext A t k image stop new j

-- Next units lead to a state, and there the run stopped. The machine is left there by the cause.
pub record StopLeads (A : Inputs) (s : State) (k : Kernel) (image : SwapImage) (stop : Stop) (new : Standing) (j : Option SwapImage) : Type 0 where
  pub units : List Entry
  pub state : State
  pub kernel : Kernel
  pub behind : SwapImage
  pub leads : Leads A s k image units state kernel (Some behind)
  pub journal : new.kernel.journal ≡ kernel.journal
  pub held : LeftBy stop kernel new
  pub by : StopsBy A state kernel behind stop new j

-- From wherever the machine may stand.

-- At some state of a run, with this swap image, it is so.
abbrev pub AtSome : (Inputs → State → SwapImage → Type 0) → Type 0
AtSome IsAt = (A : Inputs) × (s : State) × (image : SwapImage) × IsAt A s image

-- From each state with a swap image at which the first is so, the second is.
abbrev pub LeadsFrom : (Inputs → State → SwapImage → Type 0) → (Inputs → State → SwapImage → Type 0) → Type 0
LeadsFrom IsAt Leads = (A : Inputs) (s : State) (image : SwapImage) → IsAt A s image → Leads A s image

-- The run stopped on the way from each such state: next units lead to where it stopped, and there the next one failed by the cause.
abbrev pub StopsFrom : (Inputs → State → SwapImage → Type 0) → Standing → Standing → Option SwapImage → Stop → Type 0
StopsFrom IsAt old new j stop = LeadsFrom IsAt (λ A s image. StopLeads A s old.kernel image stop new j)
