-- Statements on processes and their changes: registers of who is out, pieces that are asked for, lenders.
use Rattle.std.specs.Prelude.{◌≡◌, ℕ, true, List, [], ◌∷◌, Some, map}
use Rattle.vm_facts.specs.Answers.{ByteWrite}
use Rattle.vm_facts.specs.declared.entry.Entry.{Entry}
use Rattle.vm_facts.specs.declared.regs.Regs.{Regs}
use Rattle.aout_image.specs.declared.Image.{Image}
use Rattle.flat_state.specs.Space.{Space}
use Rattle.flat_state.specs.Flat.{FlatState, NamedImage, process_of, Holds, Process}
use Rattle.flat_state.specs.Numbers.{IsNumbered}
use Rattle.flat_state.specs.Lenders.{IsLender, LendsStand}
use Rattle.flat_state.specs.Change.{apply_writes, is_borrower}
use Rattle.flat_state.specs.declared.change.Change.{Change as AnyChange}
use Rattle.page_model.specs.Swapper.{is_out}
use Rattle.kernel_model.specs.Kernel.{Kernel, with_regs}
use Rattle.kernel_model.specs.Coupled.{SameTables, Coupled}
use Rattle.kernel_model.specs.ChangeStep.{change_step}
use Rattle.kernel_model.specs.Taken.{AsksFor, MayReap, MayChange}
use Rattle.kernel_model.specs.Asks.{asked, WantsThese}
use Rattle.kernel_model.specs.Numbers.{TakesNext, SettlesFor, ReadyFor}

-- whatever the record has of one who is out, the machine stands for the same flat state
abbrev pub RegistersOutAreFree : Type 0
RegistersOutAreFree = (k : Kernel) (images : List NamedImage) (image : List ℕ) (flat : FlatState) (pid : ℕ)
    (regs : Regs)
    → is_out k.place pid ≡ true → Coupled k images image flat
    → Coupled (record k { processes = map (with_regs pid regs) k.processes }) images image flat

-- the pieces that a change asks for are what each owner needs beyond what it holds
abbrev pub ChangeAsksForPieces : Type 0
ChangeAsksForPieces = (images : List Image) (k : Kernel) (pid : ℕ) (regs : Regs) (e : Entry) (change : AnyChange)
    → MayChange images k pid change → WantsThese k pid change
    → AsksFor k (change_step images k pid regs e change) (asked images k pid change)

-- a process that holds a space in the flat state is ready for its change
abbrev pub FlatProcessIsReady : Type 0
FlatProcessIsReady = (k : Kernel) (flat : FlatState) (pid : ℕ) (q : Process) (s : Space) (change : AnyChange)
    → SameTables k flat → process_of flat pid ≡ Some q → q.holding ≡ Holds s → TakesNext k change
    → MayReap k.processes change → SettlesFor k.place s.sid change → ReadyFor k pid change

-- a process that borrowed its space has a lender
abbrev pub BorrowerHasLender : Type 0
BorrowerHasLender = (flat : FlatState) (pid : ℕ) (q : Process) (s : Space)
    → process_of flat pid ≡ Some q → q.holding ≡ Holds s → is_borrower flat.processes pid ≡ true → IsNumbered flat
    → LendsStand flat → (m : Process) × IsLender flat pid s.sid m

-- bytes that a process writes are written one after another
abbrev pub WritesFollow : Type 0
WritesFollow = (flat : FlatState) (pid : ℕ) (w : ByteWrite) (ws : List ByteWrite) (q : Process) (s : Space)
    → process_of flat pid ≡ Some q → q.holding ≡ Holds s
    → apply_writes flat pid (w ∷ ws) ≡ apply_writes (apply_writes flat pid (w ∷ [])) pid ws
