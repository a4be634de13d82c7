-- Statements that units which serve a page, or force a frame, may be made whenever they are asked for.
use Rattle.std.specs.Prelude.{◌≡◌, ℕ, Bool, ◌<◌, List, length, Some}
use Rattle.vm_facts.specs.declared.page.Page.{Page}
use Rattle.vm_facts.specs.declared.entry.Entry.{Entry}
use Rattle.flat_state.specs.Flat.{NamedImage}
use Rattle.page_model.specs.Placement.{IsThere, state_of}
use Rattle.page_model.specs.Runs.{run_in}
use Rattle.page_model.specs.Reading.{source_for}
use Rattle.page_model.specs.Serve.{force_entry, serve_unit}
use Rattle.page_model.specs.Conditions.{CanEnter, IsShared}
use Rattle.page_model.specs.Dues.{NotDue}
use Rattle.page_model.specs.PageBytes.{ReadsFrom}
use Rattle.kernel_model.specs.Coupled.{AreRead, beside_kernel}
use Rattle.kernel_model.specs.Unit.{KernelState, unit_for}
use Rattle.kernel_model.specs.Invariant.{Invariant, May, MayGet}

-- each unit that serves a page that is there, shared if it is text, and not due
abbrev pub ServingMayBeMade : Type 0
ServingMayBeMade = (size : ℕ) (images : List NamedImage) (m : KernelState) (locked : List Page) (read : List (List ℕ))
    (q : Page) (now : Bool) (e : Entry)
    → Invariant size images m → IsThere m.kernel.place q → IsShared m.kernel.place q → NotDue m.kernel.place.due q
    → AreRead (beside_kernel m.kernel images m.image m.flat) m.kernel.place.transfers read
    → serve_unit m.kernel.place q now ≡ Some e → May size images m (unit_for locked read e)

-- each unit that forces a frame
abbrev pub ForcingMayBeMade : Type 0
ForcingMayBeMade = (size : ℕ) (images : List NamedImage) (m : KernelState) (locked : List Page) (read : List (List ℕ))
    → AreRead (beside_kernel m.kernel images m.image m.flat) m.kernel.place.transfers read
    → May size images m (unit_for locked read (force_entry m.kernel.place.transfers))

-- a read of a page with its run, where a frame is free and fewer than 16 transfers are in flight
abbrev pub ReadMayBeMade : Type 0
ReadMayBeMade = (size : ℕ) (images : List NamedImage) (m : KernelState) (q : Page)
    → Invariant size images m → CanEnter m.kernel.place q
    → ReadsFrom m.kernel.place (source_for (state_of m.kernel.place q)) q q → NotDue m.kernel.place.due q
    → IsShared m.kernel.place q → 0 < length m.kernel.place.free → length m.kernel.place.transfers < 16
    → MayGet m.kernel.place q (run_in m.kernel.place q).lo (run_in m.kernel.place q).n
