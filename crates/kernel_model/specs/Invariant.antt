-- All that is so of a kernel between two units, and what each unit asks.
use Rattle.std.specs.Prelude.{◌≡◌, ℕ, ◌*◌, ◌<◌, ◌≤◌, true, false, List, [], ◌∷◌, length, Option, Some, Ok}
use Rattle.vm_facts.specs.Answers.{ByteWrite}
use Rattle.vm_facts.specs.declared.page.Page.{Page}
use Rattle.vm_facts.specs.declared.page.PageState.TheVariants.{Unfilled, Valid}
use Rattle.page_model.specs.Holdings.{Holdings}
use Rattle.page_model.specs.Placing.{Wanted, place_all}
use Rattle.page_model.specs.Space.{Space, address_in}
use Rattle.page_model.specs.Flat.{Holds, Process, FlatState, NamedImage, Inputs, process_of, image_numbered, start_state}
use Rattle.page_model.specs.Numbers.{IsNumbered}
use Rattle.page_model.specs.Lenders.{LendsStand}
use Rattle.page_model.specs.Writes.{IsByteOf}
use Rattle.page_model.specs.PageNames.{pages_from, number_of}
use Rattle.page_model.specs.FlatStateChange.{NamesChild}
use Rattle.page_model.specs.Change.{Change}
use Rattle.page_model.specs.Change.TheVariants.{Exec}
use Rattle.page_model.specs.Pages.{Zeros}
use Rattle.page_model.specs.Placement.{Placement, Due, CopyOf, Starting, IsThere, due_of_page, state_of, filling_of}
use Rattle.page_model.specs.Hands.{hand_move}
use Rattle.page_model.specs.Place.{due_after, put_step, facts_of}
use Rattle.page_model.specs.Reading.{source_for}
use Rattle.page_model.specs.Swapper.{is_out}
use Rattle.page_model.specs.Conditions.{EachPage, CanEnter, HasSeat, IsShared, HaveParts}
use Rattle.page_model.specs.Dues.{DueStand, NotDue}
use Rattle.page_model.specs.PageBytes.{ReadsFrom}
use Rattle.kernel_model.specs.Kernel.{Kernel}
use Rattle.kernel_model.specs.UPage.{AreRegs}
use Rattle.kernel_model.specs.Coupled.{Coupled, AreRead, beside_kernel}
use Rattle.kernel_model.specs.Sound.{Sound}
use Rattle.kernel_model.specs.Stands.{Stands}
use Rattle.kernel_model.specs.Numbers.{Numbered, ReadySpace}
use Rattle.kernel_model.specs.Asks.{asked, first_found}
use Rattle.kernel_model.specs.Start.{AreStarting, ImagesFit, start_kernel}
use Rattle.kernel_model.specs.Unit.{KernelUnit, ZeroUnit, CopyUnit, GetUnit, ReclaimUnit, HandsUnit, PutUnit, DoneUnit, WriteUnit, NoteUnit, RanUnit, FindUnit, ChangeUnit, OutUnit, InUnit, KernelState, has_lender, kernel_after}

-- some pieces were found, one after another, that lead from these holdings to those
pub record WereFound (size : ℕ) (before now : Holdings) : Type 0 where
  pub pieces : List Wanted
  pub placed : place_all size before pieces ≡ Ok now

-- Each frame and each block has one owner, at most 16 transfers are in flight, each with a page, and the hands are in
-- place; no two numbers are one; what is due waits to be filled; and the machine and the swap image stand for the flat
-- state, in which no two numbers are one and each space that was lent is with its borrower. The pieces that wait were
-- found beside the holdings.
pub record Invariant (size : ℕ) (images : List NamedImage) (m : KernelState) : Type 0 where
  pub sound : Sound size m.kernel
  pub numbered : Numbered m.kernel
  pub coupled : Coupled m.kernel images m.image m.flat
  pub stands : Stands images m.kernel m.flat
  pub dues : DueStand m.kernel.place
  pub parts : HaveParts m.kernel.place.transfers
  pub numbers : IsNumbered m.flat
  pub lenders : LendsStand m.flat
  pub room : 512 * size ≤ length m.image
  pub found : WereFound size m.kernel.holdings m.found

-- What units ask.

-- a process has a space, and is in
pub record Acts (k : Kernel) (flat : FlatState) (pid : ℕ) (q : Process) (s : Space) : Type 0 where
  pub here : process_of flat pid ≡ Some q
  pub holds : q.holding ≡ Holds s
  pub resident : is_out k.place pid ≡ false

-- no parent's page is due for it
abbrev pub IsNoCopy : Option Due → Type 0
IsNoCopy (Some (CopyOf q parent)) = ⊥
IsNoCopy _ = Unit {0}

-- its parent's page is valid
abbrev pub IsCopied : Placement → Option Due → Type 0
IsCopied p (Some (CopyOf q parent)) = (f : ℕ) × (state_of p parent ≡ Valid f)
IsCopied p _ = ⊥

-- a page that was never filled, with zeros as yet, and a free frame; no parent's page is due for it, and it is due no
-- second time
pub record MayZero (p : Placement) (q : Page) : Type 0 where
  pub there : IsThere p q
  pub unfilled : state_of p q ≡ Unfilled
  pub zeros : filling_of p q ≡ Zeros
  pub own : IsNoCopy (due_of_page p.due q)
  pub once : NotDue (due_after p.due q) q
  pub some : 0 < length p.free

-- a page for which a valid page of its parent is due, and a free frame
pub record MayCopy (p : Placement) (q : Page) : Type 0 where
  pub parent : IsCopied p (due_of_page p.due q)
  pub once : NotDue (due_after p.due q) q
  pub some : 0 < length p.free

-- pages with no frame, all of which are read from where the first is read from, a free frame, and room for a transfer
pub record MayGet (p : Placement) (q : Page) (lo n : ℕ) : Type 0 where
  pub enter : EachPage (CanEnter p) (pages_from q lo n)
  pub reads : EachPage (ReadsFrom p (source_for (state_of p q)) q) (pages_from q lo n)
  pub fresh : EachPage (NotDue p.due) (pages_from q lo n)
  pub shared : IsShared p q
  pub pages : 0 < n
  pub some : 0 < length p.free
  pub few : length p.transfers < 16

-- pages in frames off the free list; and where a write begins, there is room for it
pub record MayPut (p : Placement) (q : Page) (n : ℕ) : Type 0 where
  pub first : HasSeat p q
  pub seats : EachPage (HasSeat p) (pages_from q (number_of q) n)
  pub pages : 0 < n
  pub few : length (Placement.transfers (put_step p q (pages_from q (number_of q) n))) ≤ 16

-- no page is due, and a process that is in writes a byte of its space, which is this one of this valid page
pub record MayWriteByte (k : Kernel) (flat : FlatState) (pid : ℕ) (w : ByteWrite) (v : Page) (f at : ℕ) : Type 0 where
  pub process : Process
  pub space : Space
  pub acts : Acts k flat pid process space
  pub clear : k.place.due ≡ []
  pub byte : IsByteOf space (address_in space w.address) v at
  pub valid : state_of k.place v ≡ Valid f

-- the process has a space, and is in
pub record MayRun (k : Kernel) (flat : FlatState) (pid : ℕ) : Type 0 where
  pub process : Process
  pub space : Space
  pub acts : Acts k flat pid process space

-- and its registers are longwords
pub record MayLeave (k : Kernel) (flat : FlatState) (pid : ℕ) : Type 0 where
  pub process : Process
  pub space : Space
  pub acts : Acts k flat pid process space
  pub regs : AreRegs process.regs

-- a process that is out, whose registers are longwords
pub record MayReturn (k : Kernel) (flat : FlatState) (pid : ℕ) : Type 0 where
  pub process : Process
  pub here : process_of flat pid ≡ Some process
  pub out : is_out k.place pid ≡ true
  pub regs : AreRegs process.regs

-- an image that is entered is there, and its stack page is a page
abbrev pub EntersImage : List NamedImage → Change → Type 0
EntersImage images (Exec number top) = (named : NamedImage) × (image_numbered images number ≡ Some named) × (length top ≡ 1024)
EntersImage images _ = Unit {0}

-- no page is due, and a process that is in makes a change that names a child as it must, and an image that is there; its
-- space is settled where it goes or loses pages; and the pieces that the change asks for were found
pub record MayComplete (size : ℕ) (images : List NamedImage) (m : KernelState) (pid : ℕ) (change : Change) : Type 0 where
  pub process : Process
  pub space : Space
  pub acts : Acts m.kernel m.flat pid process space
  pub clear : m.kernel.place.due ≡ []
  pub child : NamesChild m.flat change
  pub enters : EntersImage images change
  pub ready : ReadySpace m.kernel.place space.sid (has_lender m.kernel.processes pid) change
  pub pieces : place_all size m.kernel.holdings (asked (facts_of images) m.kernel pid change) ≡ Ok m.found

-- what a unit asks of the kernel before it; noting an entry asks nothing
abbrev pub May : ℕ → List NamedImage → KernelState → KernelUnit → Type 0
May size images m (ZeroUnit q) = MayZero m.kernel.place q
May size images m (CopyUnit q) = MayCopy m.kernel.place q
May size images m (GetUnit q lo n) = MayGet m.kernel.place q lo n
May size images m (ReclaimUnit q) = IsShared m.kernel.place q
May size images m (HandsUnit locked) = length (Placement.transfers (hand_move m.kernel.place locked)) ≤ 16
May size images m (PutUnit q n) = MayPut m.kernel.place q n
May size images m (DoneUnit read) = AreRead (beside_kernel m.kernel images m.image m.flat) m.kernel.place.transfers read
May size images m (WriteUnit pid w q f at) = MayWriteByte m.kernel m.flat pid w q f at
May size images m (NoteUnit e) = Unit {0}
May size images m (RanUnit pid regs e) = MayRun m.kernel m.flat pid
May size images m (FindUnit found) = WereFound size m.kernel.holdings found
May size images m (ChangeUnit pid regs e change) = MayComplete size images m pid change
May size images m (OutUnit pid) = MayLeave m.kernel m.flat pid
May size images m (InUnit pid) = MayReturn m.kernel m.flat pid

-- each of these units, one after another
abbrev pub MayAll : ℕ → List NamedImage → KernelState → List KernelUnit → Type 0
MayAll size images m [] = Unit {0}
MayAll size images m (u ∷ us) = May size images m u × MayAll size images (kernel_after images m u) us

-- all is so that is between two units, and the pieces that wait are those that a change of the process asks for
pub record Waits (size : ℕ) (images : List NamedImage) (m : KernelState) (pid : ℕ) (change : Change) : Type 0 where
  pub invariant : Invariant size images m
  pub pieces : place_all size m.kernel.holdings (asked (facts_of images) m.kernel pid change) ≡ Ok m.found

-- The start.

-- the kernel at the start of a run, with these holdings, bytes in the frames and swap image
abbrev pub started : Inputs → List Starting → Holdings → List (List ℕ) → List ℕ → KernelState
started A first hs frames image = record { kernel = start_kernel A first hs frames; found = hs; image = image; flat = start_state A }

-- Each first process starts in the image of its number, and each image is as long as its pages; there is a frame, and
-- bytes for each; the swap image is long enough; and the first processes' pieces find their places one after another.
pub record CanStart (A : Inputs) (first : List Starting) (hs : Holdings) (frames : List (List ℕ)) (image : List ℕ) : Type 0 where
  pub images : ImagesFit A.images
  pub starting : AreStarting A.images A.first first
  pub some : 0 < A.frames
  pub tokens : length frames ≡ A.frames
  pub room : 512 * A.swap_blocks ≤ length image
  pub pieces : first_found A.swap_blocks (facts_of A.images) first A.frames ≡ Ok hs
