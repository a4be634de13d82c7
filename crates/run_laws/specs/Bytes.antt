-- A machine with its bytes stands at the start, after a unit, and in the middle of a step.
use Rattle.std.specs.Prelude.{◌≡◌, ℕ, ◌*◌, ◌≤◌, List, length, Some}
use Rattle.vm_facts.specs.declared.entry.Entry.{Entry}
use Rattle.vm_facts.specs.declared.entry.Entry.TheVariants as entries
use Rattle.swap_book.specs.declared.Owner.TheVariants as owners
use Rattle.swap_book.specs.Holdings.{Holdings, block_in}
use Rattle.flat_state.specs.Flat.{Inputs}
use Rattle.flat_model.specs.Run.{step_at}
use Rattle.kernel_model.specs.Kernel.{Kernel, Proc, done_step, out_step, in_step, image_after}
use Rattle.kernel_model.specs.UPage.{AreRegs, regs_in}
use Rattle.kernel_model.specs.Coupled.{AreRead, beside_kernel, Coupled}
use Rattle.page_model.specs.Stored.{stored_at, store_at}
use Rattle.kernel_model.specs.Start.{start_kernel}
use Rattle.run_model.specs.State.{State, start}
use Rattle.run_model.specs.Snapshot.{starting}
use Rattle.run_model.specs.After.{after}
use Rattle.run_laws.specs.Running.{CanRun}
use Rattle.flat_state.specs.Change.{apply_writes}
use Rattle.kernel_model.specs.Unit.{proc_of, u_bytes}
use Rattle.run_laws.specs.Machine.{written_step, taken_step, EndsStep, unit_step, unit_image, IsGiven, StandsAt, Next}

-- a machine at the start, whatever its frames hold and whatever is in the swap image
abbrev pub StartStands : Type 0
StartStands = (A : Inputs) (hs : Holdings) (frames : List (List ℕ)) (image : List ℕ)
    → CanRun A hs → length frames ≡ A.frames → 512 * A.swap_blocks ≤ length image
    → StandsAt A (start A hs) (start_kernel A (starting A.images A.first) hs frames) image

-- a machine after a next unit
abbrev pub UnitStands : Type 0
UnitStands = (A : Inputs) (s : State) (k : Kernel) (image : List ℕ) (read : List (List ℕ)) (u : Entry)
    → Next A s k image u → IsGiven A s k image read u
    → StandsAt A (after A s u) (unit_step A s k image read u) (unit_image k image u)

-- the end of a transfer, with what was read
abbrev pub DoneStands : Type 0
DoneStands = (A : Inputs) (s : State) (k : Kernel) (image : List ℕ) (read : List (List ℕ))
    → Next A s k image entries.Done → AreRead (beside_kernel k A.images image s.point.flat) k.place.transfers read
    → StandsAt A (after A s entries.Done) (done_step k read) (image_after k image)

-- a process that goes out leaves its registers in its u page
abbrev pub LeavingFillsUPage : Type 0
LeavingFillsUPage = (A : Inputs) (s : State) (k : Kernel) (image : List ℕ) (pid : ℕ) (p : Proc)
    → Next A s k image (entries.SwapOut pid) → proc_of k pid ≡ Some p → AreRegs p.regs
    → StandsAt A (after A s (entries.SwapOut pid)) (out_step k pid) (store_at image (block_in k.holdings (owners.U pid) 0) (u_bytes k (Some p)))

-- a process that comes in takes its registers from its u page
abbrev pub ComingReadsUPage : Type 0
ComingReadsUPage = (A : Inputs) (s : State) (k : Kernel) (image : List ℕ) (pid : ℕ)
    → Next A s k image (entries.SwapIn pid)
    → StandsAt A (after A s (entries.SwapIn pid)) (in_step k pid (regs_in (stored_at image (block_in k.holdings (owners.U pid) 0)))) image

-- in the middle of a step, with the bytes that it writes, before its pieces are found
abbrev pub WrittenIsCoupled : Type 0
WrittenIsCoupled = (A : Inputs) (s : State) (k : Kernel) (image : List ℕ) (pid : ℕ) (u : Entry)
    → Next A s k image u → EndsStep pid u
    → Coupled (written_step A s k pid) A.images image (apply_writes s.point.flat pid (step_at A s.point pid).writes)

-- and once they are found
abbrev pub TakenIsCoupled : Type 0
TakenIsCoupled = (A : Inputs) (s : State) (k : Kernel) (image : List ℕ) (pid : ℕ) (u : Entry)
    → Next A s k image u → EndsStep pid u
    → Coupled (taken_step A s k pid) A.images image (apply_writes s.point.flat pid (step_at A s.point pid).writes)
