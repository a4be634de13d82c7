-- The few kinds of which the next unit may be, so that proofs can go by cases.
use Rattle.std.specs.Prelude.{◌≡◌, ℕ, ◌+◌, ◌<◌, Bool, true, false, List, [], ◌∷◌, Some, None}
use Rattle.vm_facts.specs.declared.page.Page.{Page}
use Rattle.vm_facts.specs.declared.entry.Entry.{Entry}
use Rattle.vm_facts.specs.declared.entry.Entry.TheVariants as entries
use Rattle.flat_state.specs.Flat.{Inputs, process_of}
use Rattle.kernel_model.specs.Placement.{Due, Start, CopyOf}
use Rattle.kernel_model.specs.Place.{space_of_process}
use Rattle.kernel_model.specs.Hands.{wants_moves}
use Rattle.kernel_model.specs.Serve.{serve_unit}
use Rattle.kernel_model.specs.Swapper.{is_out, put_out_unit}
use Rattle.run_model.specs.declared.mark.Mark.{Mark}
use Rattle.run_model.specs.declared.mark.Mark.TheVariants as marks
use Rattle.run_model.specs.State.{State}
use Rattle.run_model.specs.Wanted.{wanted, locked}
use Rattle.run_model.specs.Act.{act}
use Rattle.run_model.specs.Next.{fill_unit, goes_on, turn_instructions, move_unit, owners_entry, under, next_mark}

-- a process goes on under a mark: in a dispatch, where it is in, pages are served without waiting; in a turn with it
abbrev pub GoesOn : Inputs → State → Mark → ℕ → Bool → Type 0
GoesOn A s (marks.Dispatch p count since) pid false = (p ≡ pid) × (goes_on A s pid (since + count) ≡ true)
GoesOn A s (marks.Turn p since) pid true = (p ≡ pid) × (goes_on A s pid (since + turn_instructions) ≡ true)
GoesOn A s mark pid now = ⊥

-- nothing is due, and a process that is in goes on under the last mark
pub record ProcessRuns (A : Inputs) (s : State) (pid : ℕ) (now : Bool) : Type 0 where
  pub clear : s.place.due ≡ []
  pub on : GoesOn A s s.mark pid now
  pub resident : is_out s.place pid ≡ false

-- who comes in: the one whom the swapper brings in, or the one whose turn it is
abbrev pub Comes : Inputs → State → Mark → ℕ → Type 0
Comes A s (marks.BringIn p) pid = p ≡ pid
Comes A s (marks.Turn p since) pid = (p ≡ pid) × (goes_on A s pid (since + turn_instructions) ≡ true) × (is_out s.place pid ≡ true)
Comes A s mark pid = ⊥

-- what kind of unit comes next: what is due first, then what the last mark asks, and where that is over the next mark
pub data Kind (A : Inputs) (s : State) (u : Entry) : Type 0 where
  -- a new stack page that is due is filled, or a frame is forced for it
  Fills : (q : Page) (due : List Due) → s.place.due ≡ Start q ∷ due → u ≡ fill_unit s.place (entries.Zero q) → Kind A s u
  -- the parent's page of a child's page that is due is served
  Brings : (q parent : Page) (due : List Due) → s.place.due ≡ CopyOf q parent ∷ due → serve_unit s.place parent true ≡ Some u → Kind A s u
  -- it is there, and is copied, or a frame is forced for the child's
  Copies : (q parent : Page) (due : List Due) → s.place.due ≡ CopyOf q parent ∷ due → serve_unit s.place parent true ≡ None
      → u ≡ fill_unit s.place (entries.Copy q) → Kind A s u
  -- the page that a process wants is served
  ServesWanted : (pid : ℕ) (now : Bool) (q : Page) → ProcessRuns A s pid now → wanted A s ≡ Some q → serve_unit s.place q now ≡ Some u → Kind A s u
  -- a process all of whose touched pages are valid acts
  Acts : (pid : ℕ) (now : Bool) → ProcessRuns A s pid now → wanted A s ≡ None → act A s pid ≡ Some u → Kind A s u
  ProcessComes : (pid : ℕ) → s.place.due ≡ [] → Comes A s s.mark pid → u ≡ entries.SwapIn pid → Kind A s u
  Interrupts : s.place.due ≡ [] → s.mark ≡ marks.Interrupt → u ≡ entries.Done → Kind A s u
  HandsMove : (count : ℕ) → s.place.due ≡ [] → s.mark ≡ marks.Hands count → 0 < count → wants_moves s.place ≡ true
      → u ≡ move_unit s.place (locked A s) → Kind A s u
  ProcessGoes : (pid : ℕ) → s.place.due ≡ [] → s.mark ≡ marks.PutOut pid
      → u ≡ put_out_unit s.place pid (space_of_process (process_of s.point.flat pid)) → Kind A s u
  Notes : s.place.due ≡ [] → s.mark ≡ marks.Audit → u ≡ owners_entry s → Kind A s u
  -- the last mark is over: the next line, or a turn
  Begins : s.place.due ≡ [] → under A s s.mark ≡ None → next_mark A s ≡ Some u → Kind A s u
