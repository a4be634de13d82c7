-- The statements on moves of the hands under a line that asks for them.
use Rattle.std.specs.Prelude.{◌≡◌, ℕ, ◌-◌, ◌<◌, true, false, List, [], Option, Some, None}
use Rattle.vm_facts.specs.SwapImages.{SwapImage}
use Rattle.vm_facts.specs.declared.entry.Entry.{Entry}
use Rattle.flat_state.specs.Flat.{Inputs}
use Rattle.page_model.specs.Hands.{wants_moves}
use Rattle.kernel_model.specs.Kernel.{Kernel}
use Rattle.page_laws.specs.Spans.{moves_of}
use Rattle.run_model.specs.declared.mark.Mark.TheVariants as marks
use Rattle.run_model.specs.State.{State}
use Rattle.run_model.specs.Next.{under, move_unit, next_unit}
use Rattle.fault_fill.specs.Made.{Ground, Made}
use Rattle.fault_fill.specs.Moved.{Moves}
use Rattle.run_units.specs.Leads.{HasImages, Leads}
use Rattle.run_units.specs.Serving.{At}

-- the last line asks for so many moves yet, and nothing is due
pub record AsksMoves (s : State) (n : ℕ) : Type 0 where
  pub mark : s.mark ≡ marks.Hands n
  pub clear : s.place.due ≡ []

-- Units are next units of the run; after them so many moves fewer are asked for, and the flat machine is where it was.
pub record LeadsMoving (A : Inputs) (s : State) (k : Kernel) (image : SwapImage) (n : ℕ) (us : List Entry) (l : Kernel) (j : Option SwapImage) : Type 0 where
  pub state : State
  pub leads : Leads A s k image us state l j
  pub asks : AsksMoves state (n - moves_of us)
  pub point : state.point ≡ s.point
  pub holdings : state.holdings ≡ s.holdings
  pub count : state.count ≡ s.count
  pub lines : state.lines ≡ s.lines

-- each move of the hands, and each transfer that ends before one, is the next unit of the run
abbrev pub MovingIsNext : Type 0
MovingIsNext =
    (A : Inputs) (g : Ground) (s : State) (k l : Kernel) (image : SwapImage) (j : Option SwapImage) (n : ℕ) (us : List Entry)
    → At A s k image → HasImages g A → g.locked ≡ [] → AsksMoves s n → Moves us n k.place l.place → Made g us k (Some image) l j
    → LeadsMoving A s k image n us l j

-- so is the one that comes next, while some move is left and fewer than a quarter of the frames are free
abbrev pub MoveNext : Type 0
MoveNext = (A : Inputs) (s : State) (n : ℕ) → AsksMoves s n → 0 < n → wants_moves s.place ≡ true → next_unit A s ≡ Some (move_unit s.place [])

-- where none is left or wanted, the line is over
abbrev pub MovesEnd : Type 0
MovesEnd = (A : Inputs) (s : State) (n : ℕ) → AsksMoves s n → (0 < n → wants_moves s.place ≡ false) → under A s s.mark ≡ None
