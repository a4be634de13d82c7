-- The statements on pages that are served for a process that runs.
use Rattle.std.specs.Prelude.{◌≡◌, ℕ, Bool, true, List, ◌++◌, ◌∷◌, Option, Some}
use Rattle.vm_facts.specs.SwapImages.{SwapImage}
use Rattle.vm_facts.specs.declared.page.Page.{Page}
use Rattle.vm_facts.specs.declared.entry.Entry.{Entry}
use Rattle.flat_state.specs.Flat.{Inputs}
use Rattle.kernel_model.specs.Kernel.{Kernel}
use Rattle.kernel_model.specs.Start.{ImagesFit}
use Rattle.page_model.specs.Serve.{serve_unit, Serves}
use Rattle.run_model.specs.State.{State}
use Rattle.run_model.specs.Wanted.{touched_next, AllValid}
use Rattle.run_model.specs.Kinds.{ProcessRuns}
use Rattle.run_model.specs.Next.{next_unit}
use Rattle.economy_laws.specs.Machine.{StandsAt}
use Rattle.economy_laws.specs.RunLawsRunning.{IsRun}
use Rattle.fault_fill.specs.Made.{Ground, Made}
use Rattle.run_units.specs.Leads.{HasImages, Leads}

-- all of a state but its pages and its journal is as before
pub record SameBut (s t : State) : Type 0 where
  pub point : t.point ≡ s.point
  pub holdings : t.holdings ≡ s.holdings
  pub count : t.count ≡ s.count
  pub lines : t.lines ≡ s.lines
  pub mark : t.mark ≡ s.mark

-- A process runs, and of the pages that its next instruction touches those before this one are valid. Where frames may be
-- forced for it, the hands pass over these.
pub record IsWaiting (A : Inputs) (g : Ground) (s : State) (pid : ℕ) (now : Bool) (before : List Page) (q : Page) : Type 0 where
  pub images : HasImages g A
  pub runs : ProcessRuns A s pid now
  pub rest : List Page
  pub touched : touched_next A s ≡ before ++ q ∷ rest
  pub valid : AllValid s.place before
  pub locked : now ≡ true → g.locked ≡ before

-- A machine stands at a state of a run.
pub record At (A : Inputs) (s : State) (k : Kernel) (image : SwapImage) : Type 0 where
  pub fit : ImagesFit A.images
  pub run : IsRun A s
  pub stands : StandsAt A s k image.bytes

-- Units that served the page are next units of the run, and lead to a state with the same but for pages and journal, at
-- which the process still waits for the page, or finds it valid.
pub record ServingLeads (A : Inputs) (g : Ground) (s : State) (k : Kernel) (image : SwapImage) (pid : ℕ) (now : Bool) (before : List Page)
    (q : Page) (us : List Entry)
    (l : Kernel) (j : Option SwapImage) : Type 0 where
  pub state : State
  pub leads : Leads A s k image us state l j
  pub same : SameBut s state
  pub waiting : IsWaiting A g state pid now before q

-- each unit of serving that was made is the next unit of the run
abbrev pub ServingIsNext : Type 0
ServingIsNext =
    (A : Inputs) (g : Ground) (s : State) (k l : Kernel) (image : SwapImage) (j : Option SwapImage) (pid : ℕ) (now : Bool) (before : List Page)
    (q : Page) (us : List Entry)
    → At A s k image → IsWaiting A g s pid now before q → Serves us k.place g.locked q now l.place → Made g us k (Some image) l j
    → ServingLeads A g s k image pid now before q us l j

-- and so is the one that serving asks for next
abbrev pub ServedNext : Type 0
ServedNext =
    (A : Inputs) (g : Ground) (s : State) (pid : ℕ) (now : Bool) (before : List Page) (q : Page) (u : Entry)
    → IsWaiting A g s pid now before q → serve_unit s.place q now ≡ Some u → next_unit A s ≡ Some u
