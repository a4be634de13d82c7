-- The statements on transfers that end before a space is given up or cut.
use Rattle.std.specs.Prelude.{◌≡◌, ℕ, Bool, true, false, List, replicate, Option, Some, None}
use Rattle.vm_facts.specs.SwapImages.{SwapImage}
use Rattle.vm_facts.specs.declared.entry.Entry.{Entry}
use Rattle.vm_facts.specs.declared.entry.Entry.TheVariants as entries
use Rattle.flat_state.specs.Flat.{FlatState, Inputs, can_step}
use Rattle.page_model.specs.Placement.{Placement}
use Rattle.page_model.specs.Swapper.{is_settled}
use Rattle.kernel_model.specs.Kernel.{Kernel}
use Rattle.fault_fill.specs.Settled.{EndsWhile}
use Rattle.run_model.specs.State.{State}
use Rattle.run_model.specs.Wanted.{wanted}
use Rattle.run_model.specs.Kinds.{ProcessRuns}
use Rattle.run_model.specs.Act.{settled, must_refuse, step_loses}
use Rattle.run_model.specs.Next.{next_unit}
use Rattle.fault_fill.specs.Made.{Ground}
use Rattle.run_units.specs.Leads.{HasImages, Leads}
use Rattle.run_units.specs.Serving.{SameBut, At}

-- All pages that a process touches are valid, its pieces find their places, and its step gives up this space, or drops pages
-- of it.
pub record IsLeaving (A : Inputs) (s : State) (pid : ℕ) (now : Bool) (sid : ℕ) : Type 0 where
  pub runs : ProcessRuns A s pid now
  pub unwanted : wanted A s ≡ None
  pub fits : must_refuse A s pid ≡ false
  pub loses : step_loses A s pid ≡ true
  pub own : (p : Placement) → settled s.point.flat p pid ≡ is_settled p sid

-- units are next units of the run, and the process leaves the space yet
pub record LeadsLeaving (A : Inputs) (s : State) (k : Kernel) (image : SwapImage) (pid : ℕ) (now : Bool) (sid : ℕ) (us : List Entry) (l : Kernel)
    (j : Option SwapImage) : Type 0 where
  pub state : State
  pub leads : Leads A s k image us state l j
  pub same : SameBut s state
  pub leaving : IsLeaving A state pid now sid

-- each transfer that ends while the space isn't settled is the next unit of the run
abbrev pub SettlingIsNext : Type 0
SettlingIsNext =
    (A : Inputs) (g : Ground) (s : State) (k l : Kernel) (image : SwapImage) (j : Option SwapImage) (pid : ℕ) (now : Bool) (sid n : ℕ)
    → At A s k image → HasImages g A → IsLeaving A s pid now sid → EndsWhile g.from sid n k (Some image) l j
    → LeadsLeaving A s k image pid now sid (replicate n entries.Done) l j

-- while the space isn't settled, the end of a transfer is the next unit
abbrev pub SettledNext : Type 0
SettledNext =
    (A : Inputs) (s : State) (pid : ℕ) (now : Bool) (sid : ℕ) → IsLeaving A s pid now sid → is_settled s.place sid ≡ false → next_unit A s ≡ Some entries.Done
