-- What each unit of a run finds, and the full invariant behind `Running`.
use Rattle.std.specs.Prelude.{◌≡◌, ℕ, ◌<◌, Bool, true, false, List, [], ◌∷◌, length, map, replicate, Some}
use Rattle.flat_state.specs.Space.{Space}
use Rattle.flat_state.specs.Flat.{Holding, Holds, Lends, Zombie, Process, FlatState, NamedImage, Inputs, process_of, image_numbered}
use Rattle.vm_facts.specs.declared.page.PageState.TheVariants.{Unfilled, Invalid}
use Rattle.vm_facts.specs.declared.entry.Entry.{Entry}
use Rattle.vm_facts.specs.declared.entry.Entry.TheVariants as entries
use Rattle.swap_book.specs.Holdings.{Holdings}
use Rattle.flat_state.specs.declared.change.Change.{Change}
use Rattle.flat_state.specs.declared.change.Change.TheVariants.{Exec, End}
use Rattle.page_model.specs.Pages.{Zeros}
use Rattle.page_model.specs.Placement.{Placement, Due, due_page, state_of, filling_of}
use Rattle.page_model.specs.Swapper.{is_out}
use Rattle.page_model.specs.Conditions.{CanPlace, CanBegin, EntryShared, HaveParts}
use Rattle.page_model.specs.Dues.{DueStand, NotDue, LeavesDue}
use Rattle.kernel_model.specs.Kernel.{Kernel}
use Rattle.kernel_model.specs.Coupled.{SameTables}
use Rattle.kernel_model.specs.Sound.{Sound}
use Rattle.kernel_model.specs.Start.{kept_of}
use Rattle.kernel_model.specs.Numbers.{Numbered}
use Rattle.kernel_model.specs.Stands.{Stands, holds_some}
use Rattle.run_model.specs.declared.mark.Mark.{Mark}
use Rattle.run_model.specs.declared.mark.Mark.TheVariants as marks
use Rattle.run_model.specs.State.{State}

-- What a unit asks of the placement.

-- a fill finds a free frame and a page to fill, a reclaim an invalid page, and `Done` a transfer
abbrev pub Finds : Placement → Entry → Type 0
Finds p (entries.Zero q) = (0 < length p.free) × (state_of p q ≡ Unfilled) × (filling_of p q ≡ Zeros)
Finds p (entries.Copy q) = (0 < length p.free) × (state_of p q ≡ Unfilled)
Finds p (entries.Reclaim q) = (f : ℕ) × (state_of p q ≡ Invalid f)
Finds p entries.Done = 0 < length p.transfers
Finds p _ = Unit {0}

-- A paging entry that may be made: the pages that it moves are there and have no frame, or one off the free list, and
-- those that take a frame are shared; a fill finds a free frame, a reclaim an invalid page, and `Done` a transfer; a
-- transfer that begins has a page; and no page is filled but one that is due first, or none.
pub record IsAllowed (p : Placement) (e : Entry) : Type 0 where
  pub can : CanPlace p e
  pub shared : EntryShared p e
  pub begins : CanBegin p e
  pub leaves : LeavesDue p e
  pub finds : Finds p e

-- What stands.

-- a machine with the tables of a flat state, and no bytes
abbrev pub machine_of : FlatState → Placement → Holdings → Kernel
machine_of flat p hs = record {
  place = p;
  holdings = hs;
  processes = map kept_of flat.processes;
  next_pid = flat.next_pid;
  next_sid = flat.next_sid;
  starts = [];
  frames = replicate (length p.holds) [];
  journal = [];
  stopped = false;
}

-- no page is due twice
abbrev pub EachOnce : List Due → Type 0
EachOnce [] = Unit {0}
EachOnce (d ∷ ds) = NotDue ds (due_page d) × EachOnce ds

-- Of a flat state, a placement and holdings: each frame and each block has one owner or is free, at most 16 transfers are
-- in flight, each with a page, and the hands are a quarter apart; the spaces are those of the flat state, with its sizes;
-- no two numbers are one; what is due waits to be filled; and who is out holds a space.
pub record Placed (A : Inputs) (flat : FlatState) (p : Placement) (hs : Holdings) : Type 0 where
  pub sound : Sound A.swap_blocks (machine_of flat p hs)
  pub numbered : Numbered (machine_of flat p hs)
  pub tables : SameTables (machine_of flat p hs) flat
  pub stands : Stands A.images (machine_of flat p hs) flat
  pub dues : DueStand p
  pub once : EachOnce p.due
  pub parts : HaveParts p.transfers
  pub frames : length p.holds ≡ A.frames

-- Nothing is due under a mark that asks for other units; a transfer that is to complete is in flight, and who is to go
-- out, or come in, holds a space, and is in, or out.
abbrev pub MarkStands : State → Mark → Type 0
MarkStands s marks.Over = Unit {0}
MarkStands s (marks.Dispatch pid count since) = Unit {0}
MarkStands s marks.Interrupt = (s.place.due ≡ []) × (0 < length s.place.transfers)
MarkStands s (marks.Hands count) = s.place.due ≡ []
MarkStands s (marks.BringIn pid) = (s.place.due ≡ []) × (holds_some (process_of s.point.flat pid) ≡ true) × (is_out s.place pid ≡ true)
MarkStands s (marks.PutOut pid) = (s.place.due ≡ []) × (holds_some (process_of s.point.flat pid) ≡ true) × (is_out s.place pid ≡ false)
MarkStands s marks.Audit = s.place.due ≡ []
MarkStands s (marks.Turn pid since) = Unit {0}

-- The texts of spaces.

-- something is so of each process
abbrev pub EachProcess : (Process → Type 0) → List Process → Type 0
EachProcess P [] = Unit {0}
EachProcess P (q ∷ qs) = P q × EachProcess P qs

-- the text of a space is its image's
pub record IsText (images : List NamedImage) (s : Space) : Type 0 where
  pub named : NamedImage
  pub image : image_numbered images s.image ≡ Some named
  pub same : s.text_bytes ≡ named.image.text

-- the text of a space that is held is its image's
abbrev pub HasText : List NamedImage → Holding → Type 0
HasText images (Holds s) = IsText images s
HasText images (Lends sid child) = Unit {0}
HasText images (Zombie status) = Unit {0}

-- the text of each space that a process holds is its image's
abbrev pub TextsHeld : List NamedImage → FlatState → Type 0
TextsHeld images flat = EachProcess (λ q. HasText images q.holding) flat.processes

-- What is so of a change.

-- a borrower neither enters an image nor ends
abbrev pub Own : Bool → Change → Type 0
Own true (Exec number top) = ⊥
Own true (End status) = ⊥
Own borrowed _ = Unit {0}
