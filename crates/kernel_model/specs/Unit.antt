-- The steps of the kernel one by one: what each does to the machine, to the swap image, to the pieces that wait, and to
-- the flat state.
use Rattle.std.specs.Prelude.{ℕ, ◌==◌, Bool, true, false, ◌||◌, cond, List, [], ◌∷◌, length, Option, Some, None}
use Rattle.vm_facts.specs.Answers.{ByteWrite}
use Rattle.vm_facts.specs.declared.page.Page.{Page}
use Rattle.vm_facts.specs.declared.page.Page.TheVariants.{Data, Stack}
use Rattle.vm_facts.specs.declared.regs.Regs.{Regs}
use Rattle.vm_facts.specs.declared.entry.Entry.{Entry}
use Rattle.vm_facts.specs.declared.entry.Entry.TheVariants as entries
use Rattle.page_model.specs.Owner.TheVariants as owners
use Rattle.page_model.specs.Holdings.{Holdings, block_in}
use Rattle.page_model.specs.Flat.{FlatState, NamedImage}
use Rattle.page_model.specs.FlatStateChange.{apply_change, apply_writes}
use Rattle.page_model.specs.Change.{Change}
use Rattle.page_model.specs.Change.TheVariants.{Keep, Lend, Exec, End}
use Rattle.page_model.specs.Pages.{numbered}
use Rattle.page_model.specs.Placement.{slots_of}
use Rattle.page_model.specs.Stored.{stored_at, store_at}
use Rattle.kernel_model.specs.Kernel.{Kernel, Proc, Life, New, HoldsSpace, LendsSpace, Ended, zero_step, copy_step, get_step, reclaim_step, hand_step, push_step, done_step, write_step, note_step, out_step, in_step, image_after}
use Rattle.kernel_model.specs.UPage.{u_page, regs_in}
use Rattle.kernel_model.specs.ChangeStep.{change_step, ran_by, pass_step, space_of_life}
use Rattle.page_model.specs.Place.{facts_of}
use Rattle.page_model.specs.Image.{Image}

-- Spaces that are lent.

-- a process lent its space to this one
abbrev pub lends_life : ℕ → Life → Bool
lends_life pid New = false
lends_life pid (HoldsSpace sid) = false
lends_life pid (LendsSpace sid child) = child == pid
lends_life pid (Ended status) = false

-- the first process that lent a space to this one
abbrev pub lender_among : List Proc → ℕ → ℕ
lender_among [] pid = 0
lender_among (p ∷ ps) pid = cond (lends_life pid p.life) p.pid (lender_among ps pid)

-- some process lent a space to this one
abbrev pub has_lender : List Proc → ℕ → Bool
has_lender [] pid = false
has_lender (p ∷ ps) pid = lends_life pid p.life || has_lender ps pid

-- A change with the passes of a space that belong to it.

-- who borrowed its space gives it back before a new image and before its end
abbrev pub passed_before : Bool → Kernel → ℕ → Change → Kernel
passed_before true k pid (Exec image top) = pass_step k pid (lender_among k.processes pid)
passed_before true k pid (End status) = pass_step k pid (lender_among k.processes pid)
passed_before _ k pid change = k

-- who lends its space passes it to the child after the change
abbrev pub passed_after : Kernel → ℕ → Change → Kernel
passed_after k pid (Lend child) = pass_step k pid child
passed_after k pid _ = k

-- an entry of a process with its change, between the passes that belong to it, by whether the process borrowed its space
abbrev pub passing_change : Bool → List Image → Kernel → ℕ → Regs → Entry → Change → Kernel
passing_change borrowed images k pid regs e change =
    passed_after (change_step images (passed_before borrowed k pid change) pid regs e change) pid change

-- U pages.

-- the u page of a process
abbrev pub u_bytes : Kernel → Option Proc → List ℕ
u_bytes k None = []
u_bytes k (Some p) = u_page p.regs (length (slots_of k.place (Data (space_of_life p.life) 0))) (length (slots_of k.place (Stack (space_of_life p.life) 0)))

-- the process of this number, if there is one
abbrev pub proc_of : Kernel → ℕ → Option Proc
proc_of k pid = numbered (λ (p : Proc). p.pid) pid k.processes

-- Units.

-- What the kernel does at once.
pub data KernelUnit : Type 0 where
  -- a page is filled with zeros, or with what is kept for it
  ZeroUnit : Page → KernelUnit
  -- a page is filled with its parent's bytes
  CopyUnit : Page → KernelUnit
  -- a read begins of a page with its run: the number of the run's first page, and how many pages it has
  GetUnit : Page → ℕ → ℕ → KernelUnit
  -- a page is taken back that is on the free list
  ReclaimUnit : Page → KernelUnit
  -- the hands move once, with these pages locked
  HandsUnit : List Page → KernelUnit
  -- a write begins of so many pages from this one on, or the frame of a clean page is freed
  PutUnit : Page → ℕ → KernelUnit
  -- the oldest transfer is complete, of a read with these bytes of each page
  DoneUnit : List (List ℕ) → KernelUnit
  -- a process writes a byte: into this page's frame, at this place in it
  WriteUnit : ℕ → ByteWrite → Page → ℕ → ℕ → KernelUnit
  -- an entry is noted
  NoteUnit : Entry → KernelUnit
  -- an instruction of a process ends, with these registers
  RanUnit : ℕ → Regs → Entry → KernelUnit
  -- pieces of swap are found, with which the holdings are these
  FindUnit : Holdings → KernelUnit
  -- a process's step ends with its change, which takes the pieces that were found
  ChangeUnit : ℕ → Regs → Entry → Change → KernelUnit
  -- a process is put out
  OutUnit : ℕ → KernelUnit
  -- a process is brought in
  InUnit : ℕ → KernelUnit

-- the unit of a paging entry, with the pages that are locked and what is read for the oldest transfer; the hands move
-- once, and an entry of a process is noted alone
abbrev pub unit_for : List Page → List (List ℕ) → Entry → KernelUnit
unit_for locked read (entries.Zero q) = ZeroUnit q
unit_for locked read (entries.Copy q) = CopyUnit q
unit_for locked read (entries.Get q lo n) = GetUnit q lo n
unit_for locked read (entries.Reclaim q) = ReclaimUnit q
unit_for locked read (entries.Hands n) = HandsUnit locked
unit_for locked read (entries.Put q n) = PutUnit q n
unit_for locked read entries.Done = DoneUnit read
unit_for locked read (entries.SwapOut pid) = OutUnit pid
unit_for locked read (entries.SwapIn pid) = InUnit pid
unit_for locked read e = NoteUnit e

-- The kernel between two units. Its holdings are those of its spaces and processes; pieces that were found for a change
-- to come wait beside them, and stand in `found`, which is the holdings where none wait.
pub record KernelState : Type 0 where
  pub kernel : Kernel
  -- the holdings with the pieces that were found
  pub found : Holdings
  -- the swap image
  pub image : List ℕ
  -- what it stands for
  pub flat : FlatState

-- a change takes the pieces that were found
abbrev pub with_found : KernelState → Kernel
with_found m = record (m.kernel) { holdings = m.found }

-- the machine after a unit
abbrev pub kernel_step : List Image → KernelState → KernelUnit → Kernel
kernel_step images m (ZeroUnit q) = zero_step m.kernel q
kernel_step images m (CopyUnit q) = copy_step m.kernel q
kernel_step images m (GetUnit q lo n) = get_step m.kernel q lo n
kernel_step images m (ReclaimUnit q) = reclaim_step m.kernel q
kernel_step images m (HandsUnit locked) = hand_step m.kernel locked
kernel_step images m (PutUnit q n) = push_step m.kernel q n
kernel_step images m (DoneUnit read) = done_step m.kernel read
kernel_step images m (WriteUnit pid w q f at) = write_step m.kernel q f at w.byte
kernel_step images m (NoteUnit e) = note_step m.kernel e
kernel_step images m (RanUnit pid regs e) = ran_by m.kernel pid regs e
kernel_step images m (FindUnit found) = m.kernel
kernel_step images m (ChangeUnit pid regs e change) = passing_change (has_lender m.kernel.processes pid) images (with_found m) pid regs e change
kernel_step images m (OutUnit pid) = out_step m.kernel pid
kernel_step images m (InUnit pid) = in_step m.kernel pid (regs_in (stored_at m.image (block_in m.kernel.holdings (owners.U pid) 0)))

-- after a change no pieces wait
abbrev pub found_after : List Image → KernelState → KernelUnit → Holdings
found_after images m (FindUnit found) = found
found_after images m (ChangeUnit pid regs e change) = let k : Kernel = kernel_step images m (ChangeUnit pid regs e change) in k.holdings
found_after images m u = m.found

-- the end of a write fills the blocks of its pages, and who goes out its u page's
abbrev pub swap_after : KernelState → KernelUnit → List ℕ
swap_after m (DoneUnit read) = image_after m.kernel m.image
swap_after m (OutUnit pid) = store_at m.image (block_in m.kernel.holdings (owners.U pid) 0) (u_bytes m.kernel (proc_of m.kernel pid))
swap_after m u = m.image

-- the flat state changes by what processes do, and by nothing else
abbrev pub flat_after : List NamedImage → FlatState → KernelUnit → FlatState
flat_after images flat (WriteUnit pid w q f at) = apply_writes flat pid (w ∷ [])
flat_after images flat (RanUnit pid regs e) = apply_change images flat pid regs Keep
flat_after images flat (ChangeUnit pid regs e change) = apply_change images flat pid regs change
flat_after images flat u = flat

-- the kernel after a unit: the machine, the pieces that were found, the swap image and the flat state
abbrev pub kernel_after : List NamedImage → KernelState → KernelUnit → KernelState
kernel_after images m u =
    record { kernel = kernel_step (facts_of images) m u; found = found_after (facts_of images) m u; image = swap_after m u; flat = flat_after images m.flat u }

-- the kernel after these units, one after another
abbrev pub states_after : List NamedImage → KernelState → List KernelUnit → KernelState
states_after images m [] = m
states_after images m (u ∷ us) = states_after images (kernel_after images m u) us
