-- What each unit of a run makes of the whole machine with its bytes and of the swap image, and what stands of it then.
use Rattle.std.specs.Prelude.{◌≡◌, ℕ, ◌*◌, ◌%◌, ◌≤◌, true, List, [], ◌∷◌, length, Option, Some, None}
use Rattle.vm_facts.specs.Answers.{ByteWrite}
use Rattle.vm_facts.specs.SwapImages.{SwapImage, with_requests}
use Rattle.flat_state.specs.Space.{Space, address_in}
use Rattle.flat_state.specs.Flat.{Holding, Holds, Lends, Zombie, Process, FlatState, Inputs, process_of}
use Rattle.vm_facts.specs.declared.page.Page.{Page}
use Rattle.vm_facts.specs.declared.entry.Entry.{Entry}
use Rattle.vm_facts.specs.declared.entry.Entry.TheVariants as entries
use Rattle.swap_book.specs.declared.Owner.TheVariants as owners
use Rattle.swap_book.specs.Holdings.{block_in}
use Rattle.swap_book.specs.Placing.{Wanted}
use Rattle.flat_state.specs.declared.spot.Spot.{Spot}
use Rattle.flat_state.specs.declared.spot.Spot.TheVariants as spots
use Rattle.page_model.specs.Placement.{Placement, state_of}
use Rattle.page_model.specs.Place.{facts_of}
use Rattle.flat_state.specs.Change.{is_borrower}
use Rattle.page_model.specs.Swapper.{is_out}
use Rattle.kernel_model.specs.Kernel.{Kernel, Proc, plain_step, zero_step, copy_step, get_step, reclaim_step, push_step, done_step, note_step, out_step, in_step, image_after, write_by_state}
use Rattle.kernel_model.specs.Sound.{Sound}
use Rattle.kernel_model.specs.Coupled.{Coupled, AreRead, beside_kernel}
use Rattle.kernel_model.specs.UPage.{AreRegs, regs_in}
use Rattle.page_model.specs.Stored.{stored_at, store_at}
use Rattle.kernel_model.specs.ChangeStep.{ran_by}
use Rattle.kernel_model.specs.Requests.{image_files, unit_asks}
use Rattle.kernel_model.specs.Unit.{passing_change, u_bytes, proc_of}
use Rattle.kernel_model.specs.Numbers.{Numbered}
use Rattle.kernel_model.specs.Stands.{Stands}
use Rattle.flat_model.specs.Touched.{page_tested}
use Rattle.flat_model.specs.Run.{step_at}
use Rattle.flat_model.specs.Asked.{with_pieces, wanted_if}
use Rattle.run_model.specs.State.{State}
use Rattle.run_model.specs.Wanted.{locked}
use Rattle.run_model.specs.After.{after}
use Rattle.run_model.specs.Next.{next_unit}
use Rattle.kernel_model.specs.Start.{ImagesFit}
use Rattle.run_laws.specs.Running.{IsRun}

-- Bytes that a process writes.

-- the place of a byte in its page
abbrev pub place_in : Spot → ℕ
place_in (spots.Text i) = i % 1024
place_in (spots.Data i) = i % 1024
place_in (spots.Stack i) = i % 1024
place_in spots.Below = 0
place_in spots.Outside = 0

-- a byte goes into the frame of a page, if it has a page
abbrev pub frame_written : Kernel → Option Page → ℕ → ℕ → Kernel
frame_written k None at byte = k
frame_written k (Some q) at byte = write_by_state k q (state_of k.place q) at byte

-- a byte goes into the frame of its page
abbrev pub write_byte : Kernel → Space → ByteWrite → Kernel
write_byte k s w = frame_written k (page_tested s (address_in s w.address)) (place_in (address_in s w.address)) w.byte

-- these bytes go into the frames of a space's pages, one after another
abbrev pub write_bytes : Kernel → Space → List ByteWrite → Kernel
write_bytes k s [] = k
write_bytes k s (w ∷ ws) = write_bytes (write_byte k s w) s ws

-- the bytes of a process with this holding: without a space it writes none
abbrev pub write_held : Kernel → Holding → List ByteWrite → Kernel
write_held k (Holds s) ws = write_bytes k s ws
write_held k (Lends sid child) ws = k
write_held k (Zombie status) ws = k

-- the bytes of a process, if there is one
abbrev pub process_written : Kernel → Option Process → List ByteWrite → Kernel
process_written k None ws = k
process_written k (Some q) ws = write_held k q.holding ws

-- Changes.

-- pieces find their places
abbrev pub takes_step : Inputs → Kernel → List Wanted → Kernel
takes_step A k ws = record k { holdings = with_pieces A ws k.holdings }

-- the bytes of a process's step, as its frames have them
abbrev pub written_step : Inputs → State → Kernel → ℕ → Kernel
written_step A s k pid = process_written k (process_of s.point.flat pid) (step_at A s.point pid).writes

-- and with the pieces that it takes
abbrev pub taken_step : Inputs → State → Kernel → ℕ → Kernel
taken_step A s k pid = takes_step A (written_step A s k pid) (wanted_if A.images s.point.flat (step_at A s.point pid).change (process_of s.point.flat pid))

-- the whole step
abbrev pub process_step : Inputs → State → Kernel → ℕ → Entry → Kernel
process_step A s k pid e =
    passing_change (is_borrower s.point.flat.processes pid) (facts_of A.images) (taken_step A s k pid) pid (step_at A s.point pid).regs e
    (step_at A s.point pid).change

-- a step without a change: its bytes are written, its registers left, and `Ran` is noted
abbrev pub ran_step : Inputs → State → Kernel → ℕ → ℕ → Kernel
ran_step A s k pid n = ran_by (written_step A s k pid) pid (step_at A s.point pid).regs (entries.Ran pid n)

-- Units.

-- the machine after a unit, with what was read for the oldest transfer
abbrev pub unit_step : Inputs → State → Kernel → List ℕ → List (List ℕ) → Entry → Kernel
unit_step A s k image read (entries.Zero q) = zero_step k q
unit_step A s k image read (entries.Copy q) = copy_step k q
unit_step A s k image read (entries.Get q lo n) = get_step k q lo n
unit_step A s k image read (entries.Reclaim q) = reclaim_step k q
unit_step A s k image read (entries.Hands n) = plain_step k (locked A s) (entries.Hands n)
unit_step A s k image read (entries.Put q n) = push_step k q n
unit_step A s k image read entries.Done = done_step k read
unit_step A s k image read (entries.SwapOut pid) = out_step k pid
unit_step A s k image read (entries.SwapIn pid) = in_step k pid (regs_in (stored_at image (block_in k.holdings (owners.U pid) 0)))
unit_step A s k image read (entries.Ran pid n) = ran_step A s k pid n
unit_step A s k image read (entries.Grew pid pages) = process_step A s k pid (entries.Grew pid pages)
unit_step A s k image read (entries.Call pid number carry r0 r1) = process_step A s k pid (entries.Call pid number carry r0 r1)
unit_step A s k image read (entries.Sleeps pid) = process_step A s k pid (entries.Sleeps pid)
unit_step A s k image read (entries.Ended pid status) = process_step A s k pid (entries.Ended pid status)
unit_step A s k image read e = note_step k e

-- the swap image after it
abbrev pub unit_image : Kernel → List ℕ → Entry → List ℕ
unit_image k image entries.Done = image_after k image
unit_image k image (entries.SwapOut pid) = store_at image (block_in k.holdings (owners.U pid) 0) (u_bytes k (proc_of k pid))
unit_image k image e = image

-- the same of the swap device as it is told, with the files beside it: the unit's requests were made
abbrev pub unit_swap : Inputs → Kernel → SwapImage → Entry → SwapImage
unit_swap A k image u = with_requests (unit_asks (image_files A) k.place k.holdings u) (record image { bytes = unit_image k image.bytes u })

-- what a unit is given: at `Done` what was read is what stands where the transfer reads; and who goes out has sixteen
-- registers of longwords
abbrev pub IsGiven : Inputs → State → Kernel → List ℕ → List (List ℕ) → Entry → Type 0
IsGiven A s k image read entries.Done = AreRead (beside_kernel k A.images image s.point.flat) k.place.transfers read
IsGiven A s k image read (entries.SwapOut pid) = (p : Proc) → proc_of k pid ≡ Some p → AreRegs p.regs
IsGiven A s k image read e = Unit {0}

-- What stands.

-- who is out has registers that its u page gives back
abbrev pub OutRegs : Placement → FlatState → Type 0
OutRegs p flat = (pid : ℕ) (q : Process) → is_out p pid ≡ true → process_of flat pid ≡ Some q → AreRegs q.regs

-- a machine and a swap image stand for a flat state
pub record Keeps (A : Inputs) (flat : FlatState) (k : Kernel) (image : List ℕ) : Type 0 where
  pub sound : Sound A.swap_blocks k
  pub numbered : Numbered k
  pub coupled : Coupled k A.images image flat
  pub stands : Stands A.images k flat
  pub room : 512 * A.swap_blocks ≤ length image
  pub out_regs : OutRegs k.place flat

-- A machine and a swap image stand at a state of a run: they have its placement, its holdings and its journal, and
-- stand for its flat state.
pub record StandsAt (A : Inputs) (s : State) (k : Kernel) (image : List ℕ) : Type 0 where
  pub place : k.place ≡ s.place
  pub holdings : k.holdings ≡ s.holdings
  pub journal : k.journal ≡ s.journal
  pub keeps : Keeps A s.point.flat k image

-- Runs.

-- these next units lead from a state, a machine and a swap image to others
abbrev pub Makes : Inputs → State → Kernel → List ℕ → List Entry → State → Kernel → List ℕ → Type 0
Makes A s k image [] t l behind = (s ≡ t) × (k ≡ l) × (image ≡ behind)
Makes A s k image (u ∷ us) t l behind =
    (next_unit A s ≡ Some u)
    × ((read : List (List ℕ)) × IsGiven A s k image read u × Makes A (after A s u) (unit_step A s k image read u) (unit_image k image u) us t l behind)

-- the same with the swap device as it is told
abbrev pub MakesSwap : Inputs → State → Kernel → SwapImage → List Entry → State → Kernel → SwapImage → Type 0
MakesSwap A s k image [] t l behind = (s ≡ t) × (k ≡ l) × (image ≡ behind)
MakesSwap A s k image (u ∷ us) t l behind =
    (next_unit A s ≡ Some u)
    × ((read : List (List ℕ)) × IsGiven A s k image.bytes read u
    × MakesSwap A (after A s u) (unit_step A s k image.bytes read u) (unit_swap A k image u) us t l behind)

-- Kinds of units.

-- an entry that changes nothing but the journal
abbrev pub IsJournalEntry : Entry → Type 0
IsJournalEntry (entries.Event line) = Unit {0}
IsJournalEntry (entries.Turn pid) = Unit {0}
IsJournalEntry (entries.Out pid bytes) = Unit {0}
IsJournalEntry (entries.Refused pid) = Unit {0}
IsJournalEntry (entries.Owners free used moving held) = Unit {0}
IsJournalEntry _ = ⊥

-- an entry that completes a process's step with a change
abbrev pub Completes : ℕ → Entry → Type 0
Completes pid (entries.Grew p pages) = p ≡ pid
Completes pid (entries.Call p number carry r0 r1) = p ≡ pid
Completes pid (entries.Sleeps p) = p ≡ pid
Completes pid (entries.Ended p status) = p ≡ pid
Completes pid _ = ⊥

-- A next unit at a state at which a machine and a swap image stand.
pub record Next (A : Inputs) (s : State) (k : Kernel) (image : List ℕ) (u : Entry) : Type 0 where
  pub images : ImagesFit A.images
  pub run : IsRun A s
  pub at : StandsAt A s k image
  pub next : next_unit A s ≡ Some u

-- an entry that completes a process's step, with or without a change
abbrev pub EndsStep : ℕ → Entry → Type 0
EndsStep pid (entries.Ran p n) = p ≡ pid
EndsStep pid u = Completes pid u
