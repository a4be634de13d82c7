-- What a break comes to: more pages, fewer, or an error; and where it stops.
use Rattle.std.specs.Prelude.{◌≡◌, ◌⊎◌, ℕ, ◌-◌, ◌<◌, ◌≤◌, nat_le, false, List, Option, Result, Ok, Err, is_ok}
use Rattle.vm_facts.specs.SwapImages.{SwapImage}
use Rattle.vm_facts.specs.declared.regs.Regs.{Regs}
use Rattle.vm_facts.specs.declared.stop.Stop.{Stop}
use Rattle.io_edge.specs.FileHolding.{NamedFile}
use Rattle.aout_image.specs.Image.{pages_for}
use Rattle.user_vax.specs.declared.refused.Refused.{Refused}
use Rattle.swap_book.specs.Holdings.{Holdings}
use Rattle.swap_book.specs.Placing.{place_all}
use Rattle.flat_state.specs.declared.change.Change.{Change}
use Rattle.flat_state.specs.declared.change.Change.TheVariants.{Resize}
use Rattle.flat_model.specs.Calls.{data_limit, no_memory, break_by}
use Rattle.flat_model.specs.declared.calls.Reply.{Reply}
use Rattle.flat_model.specs.declared.calls.Reply.TheVariants.{Fails}
use Rattle.flat_model.specs.declared.calls.SystemCall.TheVariants.{Break}
use Rattle.page_model.specs.Place.{data_count, stack_count}
use Rattle.kernel_model.specs.Kernel.{Kernel}
use Rattle.kernel_model.specs.Asks.{asked}
use Rattle.machine_state.specs.Machine.{Standing}
use Rattle.machine_state.specs.Applying.{facts_named}
use Rattle.machine_state.specs.Settled.{StopsSettling}
use Rattle.machine_state.specs.UserMemory.{text_len}
use Rattle.fault_fill.specs.Stops.{StopsBefore}
use Rattle.fault_fill.specs.Growth.{space_of_pid, with_pieces}
use Rattle.proc_calls.specs.Answered.{Replied, Comes, StopsOnce}
use Rattle.proc_calls.specs.Leaving.{HasSettled}
use Rattle.proc_calls.specs.Making.{without_pieces}
use Rattle.proc_calls.specs.declared.replying.Called.{Called}

-- The sizes.

-- the pages of the data of a process
abbrev pub process_data_pages : Kernel → ℕ → ℕ
process_data_pages k pid = data_count k.place (space_of_pid k pid)

-- the pages of the stack of a process
abbrev pub process_stack_pages : Kernel → ℕ → ℕ
process_stack_pages k pid = stack_count k.place (space_of_pid k pid)

-- the pages of data that end at an address; none where the address is below the data
abbrev pub pages_to : Kernel → ℕ → ℕ → ℕ
pages_to k pid address = pages_for (address - text_len k.place (space_of_pid k pid))

-- The reply.

-- the data gets so many pages, and the stack keeps its own
abbrev pub data_sized : Kernel → ℕ → ℕ → Change
data_sized k pid pages = Resize pages (process_stack_pages k pid)

-- what break replies where the pieces are found
abbrev pub break_at : Kernel → ℕ → Regs → ℕ → Reply
break_at k pid regs pages = break_by (nat_le pages data_limit) regs pages (process_stack_pages k pid)

-- by what the argument reads as
abbrev pub break_read : Kernel → ℕ → Regs → Result ℕ Refused → Result Reply Refused
break_read k pid regs (Ok address) = Ok (break_at k pid regs (pages_to k pid address))
break_read k pid regs (Err refused) = Err refused

-- the holdings once the pieces for that are found, or the length of the first piece that finds no place
abbrev pub pieces_found : Standing → ℕ → ℕ → Result Holdings ℕ
pieces_found m pid pages = place_all m.params.swap_blocks m.kernel.holdings (asked (facts_named m.images) m.kernel pid (data_sized m.kernel pid pages))

-- What becomes of the machine.

-- as many pages as before, or more than data may have: only the reply
pub record SameData (old new : Standing) (pid : ℕ) (regs : Regs) (pages : ℕ) (called : Called) : Type 0 where
  pub which : (pages ≡ process_data_pages old.kernel pid) ⊎ (data_limit < pages)
  pub replied : Replied old new pid Break regs (break_at old.kernel pid regs pages) called

-- more pages, whose pieces were found before the reply
pub record GrownData (old new : Standing) (pid : ℕ) (regs : Regs) (pages : ℕ) (called : Called) : Type 0 where
  pub more : process_data_pages old.kernel pid < pages
  pub few : pages ≤ data_limit
  pub found : Holdings
  pub finds : pieces_found old pid pages ≡ Ok found
  pub replied : Replied (with_pieces old found) new pid Break regs (break_at old.kernel pid regs pages) called

-- more pages, whose pieces find no place: that is an entry, and then the call fails
pub record NoPieces (old new : Standing) (pid : ℕ) (regs : Regs) (pages : ℕ) (called : Called) : Type 0 where
  pub more : process_data_pages old.kernel pid < pages
  pub few : pages ≤ data_limit
  pub none : is_ok (pieces_found old pid pages) ≡ false
  pub replied : Replied (without_pieces old pid) new pid Break regs (Fails no_memory) called

-- fewer pages: transfers end until the space is settled, before the reply
pub record CutData (old new : Standing) (pid : ℕ) (regs : Regs) (pages : ℕ) (holds : Option (List NamedFile)) (before after : Option SwapImage)
    (called : Called)
    : Type 0 where
  pub fewer : pages < process_data_pages old.kernel pid
  pub between : Standing
  pub settled : HasSettled old between (space_of_pid old.kernel pid) holds before after
  pub replied : Replied between new pid Break regs (break_at old.kernel pid regs pages) called

-- with no call of a device
abbrev pub Grows : Standing → Standing → ℕ → Regs → ℕ → Called → Type 0
Grows old new pid regs pages called = GrownData old new pid regs pages called ⊎ NoPieces old new pid regs pages called

-- with no call of a device: the same size, a size that data may not have, or growth
abbrev pub Plain : Standing → Standing → ℕ → Regs → ℕ → Called → Type 0
Plain old new pid regs pages called = SameData old new pid regs pages called ⊎ Grows old new pid regs pages called

-- the data gets so many pages
abbrev pub MovesEnd : Standing → Standing → ℕ → Regs → ℕ → Option (List NamedFile) → Option SwapImage → Option SwapImage → Called → Type 0
MovesEnd old new pid regs pages holds before after called =
    (Plain old new pid regs pages called × (after ≡ before)) ⊎ CutData old new pid regs pages holds before after called

-- by what the argument reads as
abbrev pub BreakComes : Standing → Standing → ℕ → Regs → Result ℕ Refused → Option (List NamedFile) → Option SwapImage → Option SwapImage → Called → Type 0
BreakComes old new pid regs (Ok address) holds before after called = MovesEnd old new pid regs (pages_to old.kernel pid address) holds before after called
BreakComes old new pid regs (Err refused) holds before after called = Comes old new pid Break regs (Err refused) called × (after ≡ before)

-- Where the run stops.

-- with no call of a device: as it was, or, with more pages, after the entry that says that their pieces find no place
abbrev pub StopsPlain : Standing → Standing → ℕ → ℕ → Stop → Type 0
StopsPlain old new pid pages stop =
    StopsBefore old new stop
    ⊎ ((process_data_pages old.kernel pid < pages) × (pages ≤ data_limit) × (is_ok (pieces_found old pid pages) ≡ false)
    × StopsBefore (without_pieces old pid) new stop)

-- A break stops with no call of a device, or, with fewer pages, as the space settles, or once it has, with the swap image as it
-- was there.
abbrev pub StopsBreaking : Standing → Standing → ℕ → ℕ → Option (List NamedFile) → Option SwapImage → Option SwapImage → Stop → Type 0
StopsBreaking old new pid pages holds before after stop =
    (StopsPlain old new pid pages stop × (after ≡ before))
    ⊎ ((pages < process_data_pages old.kernel pid)
    × (StopsSettling (space_of_pid old.kernel pid) old new holds before after stop
    ⊎ StopsOnce (λ m. HasSettled old m (space_of_pid old.kernel pid) holds before after) (λ m. StopsBefore m new stop)))
