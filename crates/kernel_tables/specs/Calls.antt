-- What copies, writes and moves of the hands ask of a machine before they are called.
use Rattle.std.specs.Prelude.{◌≡◌, ℕ, ◌<◌, ◌≤◌, Bool, true, false, List, [], ◌∷◌, length, Option, Some, None}
use Rattle.vm_facts.specs.declared.page.Page.{Page}
use Rattle.vm_facts.specs.declared.page.PageState.TheVariants.{Unfilled, Valid}
use Rattle.vm_facts.specs.declared.entry.Entry.{Entry}
use Rattle.vm_facts.specs.declared.entry.Entry.TheVariants as entries
use Rattle.flat_state.specs.PageNames.{number_of, pages_from}
use Rattle.page_model.specs.Pages.{numbered}
use Rattle.page_model.specs.Placement.{Placement, Due, Start, CopyOf, due_page, state_of, is_dirty, IsThere}
use Rattle.page_model.specs.PageBytes.{IsWritable}
use Rattle.page_model.specs.Conditions.{EachPage, HasSeat}
use Rattle.page_model.specs.Runs.{Run}
use Rattle.page_model.specs.Hands.{hand_run, wants_moves}
use Rattle.page_model.specs.Place.{pages_of_space}
use Rattle.page_model.specs.Swapper.{is_out, is_settled, first_seated}
use Rattle.kernel_model.specs.Kernel.{Life, HoldsSpace, Kernel, Proc}
use Rattle.kernel_model.specs.Asks.{HasSpace}
use Rattle.kernel_model.specs.ChangeStep.{life_of_proc}

-- the page that is due first
abbrev pub first_due : List Due → Option Page
first_due [] = None
first_due (d ∷ ds) = Some (due_page d)

-- the parent's page, where the page that is due is to be copied from it
abbrev pub due_parent : Due → Option Page
due_parent (Start q) = None
due_parent (CopyOf q parent) = Some parent

-- a page that is due, and its parent's where it is to be copied from that
abbrev pub due_and_parent : Due → Page × Option Page
due_and_parent d = (due_page d, due_parent d)

-- a child's page that is due first, whose parent's page is valid, and a frame for it
pub record CanCopy (p : Placement) (child parent : Page) : Type 0 where
  pub writable : IsWritable child
  pub there : IsThere p child
  pub unfilled : state_of p child ≡ Unfilled
  pub others : List Due
  pub first : p.due ≡ CopyOf child parent ∷ others
  pub frame : ℕ
  pub valid : state_of p parent ≡ Valid frame
  pub free : 0 < length p.free

-- all dirty, and a transfer for them; or one clean page
abbrev pub AreAlike : Placement → Page → ℕ → Bool → Type 0
AreAlike p q n true = EachPage (λ r. is_dirty p r ≡ true) (pages_from q (number_of q) n) × (length p.transfers < 16)
AreAlike p q n false = n ≡ 1

-- pages of data or stack in frames off the free list, 1 to 16
pub record CanPush (p : Placement) (q : Page) (n : ℕ) : Type 0 where
  pub clear : p.due ≡ []
  pub writable : IsWritable q
  pub some : 0 < n
  pub most : n ≤ 16
  pub seats : EachPage (HasSeat p) (pages_from q (number_of q) n)
  pub alike : AreAlike p q n (is_dirty p q)

-- the run of the write that a move begins, of no pages where it begins none
abbrev pub IsRunOf : Option (Page × Run) → ℕ → ℕ → Type 0
IsRunOf None lo n = n ≡ 0
IsRunOf (Some w) lo n = (lo ≡ w.1.lo) × (n ≡ w.1.n)

-- fewer than a quarter of the frames are free, and there is room for the write that the move begins
pub record CanMove (p : Placement) (locked : List Page) (lo n : ℕ) : Type 0 where
  pub wants : wants_moves p ≡ true
  pub run : IsRunOf (hand_run p locked) lo n
  pub room : 0 < n → length p.transfers < 16

-- an entry that changes nothing
abbrev pub IsNote : Entry → Type 0
IsNote (entries.Event line) = Unit {0}
IsNote (entries.Turn pid) = Unit {0}
IsNote (entries.Refused pid) = Unit {0}
IsNote (entries.Owners free used moving held) = Unit {0}
IsNote _ = ⊥

-- what the process with this number has
abbrev pub life_in : Kernel → ℕ → Life
life_in k pid = life_of_proc (numbered (λ (p : Proc). p.pid) pid k.processes)

-- a process that is in, in a space that is there and settled, none of whose pages is in a frame off the free list
pub record CanGoOut (k : Kernel) (pid : ℕ) : Type 0 where
  pub clear : k.place.due ≡ []
  pub sid : ℕ
  pub holds : life_in k pid ≡ HoldsSpace sid
  pub there : HasSpace k.place sid
  pub resident : is_out k.place pid ≡ false
  pub settled : is_settled k.place sid ≡ true
  pub empty : first_seated k.place (pages_of_space k.place sid) ≡ None

-- a process that is out
pub record CanComeIn (k : Kernel) (pid : ℕ) : Type 0 where
  pub clear : k.place.due ≡ []
  pub out : is_out k.place pid ≡ true
