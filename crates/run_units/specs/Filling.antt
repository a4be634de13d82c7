-- The statements on pages that are due: each unit that fills one is the next unit.
use Rattle.std.specs.Prelude.{◌≡◌, ℕ, true, List, [], ◌∷◌, Option, Some}
use Rattle.vm_facts.specs.SwapImages.{SwapImage}
use Rattle.vm_facts.specs.declared.page.Page.{Page}
use Rattle.vm_facts.specs.declared.entry.Entry.{Entry}
use Rattle.vm_facts.specs.declared.entry.Entry.TheVariants as entries
use Rattle.flat_state.specs.Flat.{Inputs}
use Rattle.page_model.specs.Pages.{is_valid}
use Rattle.page_model.specs.Placement.{Placement, Due, Start, CopyOf, state_of}
use Rattle.page_model.specs.Serve.{force_entry, serve_unit, Forces, Serves}
use Rattle.kernel_model.specs.Kernel.{Kernel}
use Rattle.run_model.specs.State.{State}
use Rattle.run_model.specs.Next.{next_unit}
use Rattle.fault_fill.specs.Made.{Ground, Made}
use Rattle.run_units.specs.Leads.{HasImages, Leads}
use Rattle.run_units.specs.Serving.{SameBut, At}

-- What fills the page that is due first, and the pages over which the hands pass meanwhile: a new stack page is filled with
-- zeros, and the hands pass over none; a child's page is copied once its parent's is valid, and the hands pass over that.
abbrev pub FillsFirst : Placement → List Due → Entry → List Page → Type 0
FillsFirst p [] e locked = ⊥
FillsFirst p (Start q ∷ ds) e locked = (e ≡ entries.Zero q) × (locked ≡ [])
FillsFirst p (CopyOf q parent ∷ ds) e locked = (e ≡ entries.Copy q) × (locked ≡ parent ∷ []) × (is_valid (state_of p parent) ≡ true)

-- units are next units of the run, and lead to a state with the same but for pages and journal, where the same is due
pub record LeadsDue (A : Inputs) (s : State) (k : Kernel) (image : SwapImage) (us : List Entry) (l : Kernel) (j : Option SwapImage) : Type 0 where
  pub state : State
  pub leads : Leads A s k image us state l j
  pub same : SameBut s state
  pub due : state.place.due ≡ s.place.due

-- each unit that forces a frame for the page that is due first is the next unit of the run, and the same fills it then
abbrev pub ForcingIsNext : Type 0
ForcingIsNext =
    (A : Inputs) (g : Ground) (s : State) (k l : Kernel) (image : SwapImage) (j : Option SwapImage) (e : Entry) (us : List Entry)
    → At A s k image → HasImages g A → FillsFirst s.place s.place.due e g.locked → Forces us k.place g.locked l.place → Made g us k (Some image) l j
    → (led : LeadsDue A s k image us l j) × FillsFirst led.state.place led.state.place.due e g.locked

-- so is the one that forces a frame next, where none is free
abbrev pub ForcedNext : Type 0
ForcedNext =
    (A : Inputs) (s : State) (e : Entry) (locked : List Page) → FillsFirst s.place s.place.due e locked → s.place.free ≡ []
    → next_unit A s ≡ Some (force_entry s.place.transfers)

-- where a frame is free, the fill of the page that is due first is the next unit
abbrev pub FillIsNext : Type 0
FillIsNext =
    (A : Inputs) (s : State) (e : Entry) (locked : List Page) (f : ℕ) (free : List ℕ) → FillsFirst s.place s.place.due e locked → s.place.free ≡ f ∷ free
    → next_unit A s ≡ Some e

-- each unit that serves the parent's page of a child's page that is due first is the next unit of the run
abbrev pub BringingIsNext : Type 0
BringingIsNext =
    (A : Inputs) (g : Ground) (s : State) (k l : Kernel) (image : SwapImage) (j : Option SwapImage) (child parent : Page) (ds : List Due) (us : List Entry)
    → At A s k image → HasImages g A → g.locked ≡ parent ∷ [] → s.place.due ≡ CopyOf child parent ∷ ds
    → Serves us k.place g.locked parent true l.place → Made g us k (Some image) l j → LeadsDue A s k image us l j

-- so is the unit that serves it next
abbrev pub BroughtNext : Type 0
BroughtNext =
    (A : Inputs) (s : State) (child parent : Page) (ds : List Due) (u : Entry) → s.place.due ≡ CopyOf child parent ∷ ds
    → serve_unit s.place parent true ≡ Some u
    → next_unit A s ≡ Some u
