-- Processes that go out and come in, through the swap device.
use Rattle.std.specs.Prelude.{◌≡◌, ℕ, Bool, List, length, Option, Some, None, Result, Err}
use Rattle.flat_state.specs.Flat.{FlatState, NamedImage}
use Rattle.vm_facts.specs.SwapImages.{SwapImage}
use Rattle.vm_facts.specs.declared.regs.Regs.{Regs}
use Rattle.vm_facts.specs.declared.stop.Stop.{Stop}
use Rattle.vm_facts.specs.declared.stop.Stop.TheVariants as stops
use Rattle.page_model.specs.Owner.TheVariants as owners
use Rattle.page_model.specs.Holdings.{block_in}
use Rattle.space_map.specs.Space.{Places}
use Rattle.proc_table.specs.declared.process.Proc.{Proc as Record}
use Rattle.proc_table.specs.declared.process.Life.{Life as RecordLife}
use Rattle.proc_table.specs.declared.process.Life.TheVariants as lives
use Rattle.proc_table.specs.Records.{find, Changes, IsProcTable}
use Rattle.page_model.specs.Pages.{numbered}
use Rattle.page_model.specs.Stored.{stored_at}
use Rattle.kernel_model.specs.Kernel.{Kernel, in_step}
use Rattle.kernel_model.specs.SwapRequests.{read_at, write_at}
use Rattle.kernel_model.specs.UPage.{u_page, regs_in, AreRegs}
use Rattle.kernel_model.specs.Unit.{u_bytes, proc_of}
use Rattle.kernel_model.specs.Invariant.{MayReturn}
use Rattle.kernel_tables.specs.declared.tables.Tables.{Tables}
use Rattle.kernel_tables.specs.Done.{StandsTold}

-- the first of the two blocks of a process's u page
abbrev pub u_block : Kernel → ℕ → Option ℕ
u_block k pid = block_in k.holdings (owners.U pid) 0

-- where the swap image is told, the registers are those of the u page
abbrev pub AreStored : Kernel → ℕ → Option SwapImage → Regs → Type 0
AreStored k pid None regs = Unit {0}
AreStored k pid (Some image) regs = regs ≡ regs_in (stored_at image.bytes (u_block k pid))

-- the process is in, with registers that were read
pub record IsIn (old new : Kernel) (pid : ℕ) (image : Option SwapImage) : Type 0 where
  pub regs : Regs
  pub stored : AreStored old pid image regs
  pub step : new ≡ in_step old pid regs

-- the swap image, where it is told, once the u page of a process was written
abbrev pub WritesU : Kernel → ℕ → Option SwapImage → Option SwapImage → Type 0
WritesU k pid None after = after ≡ None
WritesU k pid (Some image) after = after ≡ Some (write_at image (u_block k pid) (u_bytes k (proc_of k pid)))

-- once it was asked for, by a read
abbrev pub AsksU : Kernel → ℕ → Option SwapImage → Option SwapImage → Type 0
AsksU k pid None after = after ≡ None
AsksU k pid (Some image) after = after ≡ Some (read_at image (u_block k pid))

-- any bytes are in the blocks of the u page, once its write failed
abbrev pub SpoilsU : Kernel → ℕ → Option SwapImage → Option SwapImage → Type 0
SpoilsU k pid None after = after ≡ None
SpoilsU k pid (Some image) after = (bytes : List ℕ) × (length bytes ≡ 1024) × (after ≡ Some (write_at image (u_block k pid) bytes))

-- The swap image after a call that stopped: only a write that failed changes a byte, and where no call failed nothing was asked.
abbrev pub SwapBehind : {A : Type 0} → Result A Stop → Kernel → ℕ → Option SwapImage → Option SwapImage → Type 0
SwapBehind (Err stops.SwapReadFault) k pid before after = AsksU k pid before after
SwapBehind (Err stops.SwapWriteFault) k pid before after = SpoilsU k pid before after
SwapBehind _ k pid before after = after ≡ before

-- a call that stops for want of room calls no device
abbrev pub CallsNone : {A D : Type 0} → Result A Stop → D → D → Type 0
CallsNone (Err stops.JournalFull) old new = new ≡ old
CallsNone (Err stops.NoMemory) old new = new ≡ old
CallsNone _ old new = Unit {0}

-- whatever the images, the machine still stands for the flat states that it stood for; a told swap image stays told
abbrev pub KeepsOut : Kernel → Kernel → Option SwapImage → Option SwapImage → Type 0
KeepsOut old new before after = (images : List NamedImage) (flat : FlatState) → StandsTold old images before flat → StandsTold new images after flat

-- so it does of each flat state in which the process's registers are longwords
abbrev pub KeepsIn : Kernel → Kernel → ℕ → Option SwapImage → Option SwapImage → Type 0
KeepsIn old new pid before after =
    (images : List NamedImage) (flat : FlatState) → MayReturn old flat pid → StandsTold old images before flat → StandsTold new images after flat

-- The tables.

-- a process that has not ended
abbrev pub Lasts : RecordLife → Type 0
Lasts lives.New = Unit {0}
Lasts (lives.Holds sid) = Unit {0}
Lasts (lives.Lends sid child) = Unit {0}
Lasts (lives.Zombie status) = ⊥

-- a process has other registers, and is out or in since another place in the journal
pub record MovedRecord (old new : List Record) (pid : ℕ) (regs : Regs) (out : Bool) (since : ℕ) : Type 0 where
  pub was : Record
  pub found : find pid old ≡ Some was
  pub changes : Changes old new pid (Some (record was { regs = regs; out = out; since = since }))
  pub before : IsProcTable old
  pub after : IsProcTable new

-- the u page of a process that holds a space
pub record IsUPage (t : Tables) (pid : ℕ) (bytes : List ℕ) : Type 0 where
  pub process : Record
  pub found : find pid t.processes ≡ Some process
  pub sid : ℕ
  pub holds : process.state ≡ lives.Holds sid
  pub space : Places
  pub there : numbered (λ (s : Places). s.sid) sid t.spaces ≡ Some space
  pub page : bytes ≡ u_page process.regs (length space.data) (length space.stack)
  pub regs : AreRegs process.regs
