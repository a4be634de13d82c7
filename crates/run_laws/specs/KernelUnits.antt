-- The kernel's units of which a unit of a run is made.
use Rattle.std.specs.Prelude.{ℕ, List, [], ◌∷◌, ◌++◌, Option, Some, None}
use Rattle.vm_facts.specs.Answers.{ByteWrite}
use Rattle.vm_facts.specs.declared.page.Page.{Page}
use Rattle.vm_facts.specs.declared.page.PageState.{PageState}
use Rattle.vm_facts.specs.declared.page.PageState.TheVariants.{Valid}
use Rattle.vm_facts.specs.declared.entry.Entry.{Entry}
use Rattle.vm_facts.specs.declared.entry.Entry.TheVariants as entries
use Rattle.flat_state.specs.Space.{Space, address_in}
use Rattle.flat_state.specs.Flat.{Holding, Holds, Lends, Zombie, Process, Inputs, process_of}
use Rattle.page_model.specs.Placement.{state_of}
use Rattle.kernel_model.specs.Kernel.{Kernel}
use Rattle.kernel_model.specs.Unit.{KernelUnit, WriteUnit, RanUnit, FindUnit, ChangeUnit, KernelState, unit_for}
use Rattle.flat_model.specs.Touched.{page_tested}
use Rattle.flat_model.specs.Run.{step_at}
use Rattle.flat_model.specs.Asked.{with_pieces, wanted_if}
use Rattle.run_model.specs.State.{State}
use Rattle.run_model.specs.Wanted.{locked}
use Rattle.run_laws.specs.Machine.{place_in, write_byte, written_step}

-- a machine and a swap image at a state of a run, where no pieces wait
abbrev pub resting : State → Kernel → List ℕ → KernelState
resting s k image = record { kernel = k; found = k.holdings; image = image; flat = s.point.flat }

-- a byte goes into the frame of its page
abbrev pub write_unit : ℕ → ByteWrite → Page → ℕ → PageState → List KernelUnit
write_unit pid w q at (Valid f) = WriteUnit pid w q f at ∷ []
write_unit pid w q at _ = []

-- the units of a byte that is written: one where it has a page and that is valid, else none
abbrev pub byte_units : ℕ → Kernel → ByteWrite → ℕ → Option Page → List KernelUnit
byte_units pid k w at None = []
byte_units pid k w at (Some q) = write_unit pid w q at (state_of k.place q)

-- the units of bytes that are written to a space, one after another
abbrev pub write_units : ℕ → Kernel → Space → List ByteWrite → List KernelUnit
write_units pid k s [] = []
write_units pid k s (w ∷ ws) =
    byte_units pid k w (place_in (address_in s w.address)) (page_tested s (address_in s w.address)) ++ write_units pid (write_byte k s w) s ws

-- the units of bytes that are written by who has this holding: none without a space
abbrev pub held_units : ℕ → Kernel → List ByteWrite → Holding → List KernelUnit
held_units pid k ws (Holds s) = write_units pid k s ws
held_units pid k ws (Lends sid child) = []
held_units pid k ws (Zombie status) = []

-- the units of bytes that a process writes, if there is one
abbrev pub process_units : ℕ → Kernel → List ByteWrite → Option Process → List KernelUnit
process_units pid k ws None = []
process_units pid k ws (Some q) = held_units pid k ws q.holding

-- the bytes of a process's step, one after another
abbrev pub written_units : Inputs → State → Kernel → ℕ → List KernelUnit
written_units A s k pid = process_units pid k (step_at A s.point pid).writes (process_of s.point.flat pid)

-- and then its pieces are found, and its change is made
abbrev pub step_units : Inputs → State → Kernel → ℕ → Entry → List KernelUnit
step_units A s k pid e =
    written_units A s k pid
    ++ FindUnit (with_pieces A (wanted_if A.images s.point.flat (step_at A s.point pid).change (process_of s.point.flat pid))
    (Kernel.holdings (written_step A s k pid)))
    ∷ ChangeUnit pid (step_at A s.point pid).regs e (step_at A s.point pid).change ∷ []

-- the kernel's units of a unit of a run, with what was read for the oldest transfer
abbrev pub units_behind : Inputs → State → Kernel → List (List ℕ) → Entry → List KernelUnit
units_behind A s k read (entries.Ran pid n) = written_units A s k pid ++ RanUnit pid (step_at A s.point pid).regs (entries.Ran pid n) ∷ []
units_behind A s k read (entries.Grew pid pages) = step_units A s k pid (entries.Grew pid pages)
units_behind A s k read (entries.Call pid number carry r0 r1) = step_units A s k pid (entries.Call pid number carry r0 r1)
units_behind A s k read (entries.Sleeps pid) = step_units A s k pid (entries.Sleeps pid)
units_behind A s k read (entries.Ended pid status) = step_units A s k pid (entries.Ended pid status)
units_behind A s k read u = unit_for (locked A s) read u ∷ []
