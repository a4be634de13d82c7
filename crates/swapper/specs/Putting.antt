-- The units by which a process is put out, in their order, and where that stops.
use Rattle.std.specs.Prelude.{◌≡◌, ℕ, ◌<◌, ◌&&◌, true, false, List, [], ◌∷◌, ◌++◌, length, Option, Some, None}
use Rattle.vm_facts.specs.SwapImages.{SwapImage}
use Rattle.vm_facts.specs.declared.page.Page.{Page}
use Rattle.vm_facts.specs.declared.page.Page.TheVariants.{Data, Stack, Text}
use Rattle.vm_facts.specs.declared.entry.Entry.{Entry}
use Rattle.vm_facts.specs.declared.entry.Entry.TheVariants as entries
use Rattle.io_edge.specs.FileHolding.{NamedFile}
use Rattle.core_map.specs.Frames.{Frames}
use Rattle.space_map.specs.Space.{Places}
use Rattle.page_model.specs.Placement.{Placement, is_dirty}
use Rattle.page_model.specs.Serve.{is_full}
use Rattle.page_model.specs.Place.{pages_of_space}
use Rattle.page_model.specs.Swapper.{is_out, is_settled, first_seated, put_out_unit}
use Rattle.page_model.specs.PuttingOut.{PutsOut}
use Rattle.flat_state.specs.Flat.{cleared}
use Rattle.kernel_model.specs.Kernel.{Kernel, HoldsSpace, Proc, out_step}
use Rattle.kernel_model.specs.Unit.{proc_of}
use Rattle.kernel_model.specs.Asks.{HasSpace}
use Rattle.table_view.specs.Views.{ShowsSpace}
use Rattle.machine_state.specs.Showing.{ShowsCore}
use Rattle.machine_state.specs.Machine.{Standing}
use Rattle.machine_state.specs.Settled.{IsSameBeside}
use Rattle.machine_state.specs.Calls.{life_in}
use Rattle.machine_state.specs.Swapping.{WritesU}
use Rattle.paging_units.specs.Made.{Made, ground}
use Rattle.paging_units.specs.Stops.{Work}
use Rattle.swapper.specs.declared.putting_out.Step.{Step}
use Rattle.swapper.specs.declared.putting_out.Step.TheVariants as steps

-- The entries are those of this space, which show the placement by any core map that does.
pub record HasView (p : Placement) (sid : ℕ) (s : Places) : Type 0 where
  pub named : s.sid ≡ sid
  pub shows : (core : Frames) → ShowsCore p core → ShowsSpace p core s

-- the page is one of the data or of the stack of this space
abbrev pub IsOfSegment : ℕ → Page → Type 0
IsOfSegment sid (Data s v) = s ≡ sid
IsOfSegment sid (Stack s v) = s ≡ sid
IsOfSegment sid (Text image v) = ⊥

-- the unit for a page that is to leave its frame: a transfer ends first, where the page is dirty and all are in flight
abbrev pub IsStepFor : Placement → Page → Step → Type 0
IsStepFor p q steps.Wait = (is_dirty p q && is_full p) ≡ true
IsStepFor p q (steps.Put r) = (r ≡ q) × ((is_dirty p q && is_full p) ≡ false)

-- the unit that comes next, before the last: a transfer that is in flight ends, or a page leaves its frame
abbrev pub IsStep : Placement → ℕ → Step → Type 0
IsStep p sid steps.Wait = (0 < length p.transfers) × ((pid : ℕ) → put_out_unit p pid sid ≡ entries.Done)
IsStep p sid (steps.Put q) = (is_settled p sid ≡ true) × (first_seated p (pages_of_space p sid) ≡ Some q) × ((is_dirty p q && is_full p) ≡ false)

-- the unit that comes next; none where only the last is left
abbrev pub IsNext : Placement → ℕ → Option Step → Type 0
IsNext p sid None = (is_settled p sid ≡ true) × (first_seated p (pages_of_space p sid) ≡ None)
IsNext p sid (Some step) = IsStep p sid step

-- the process holds this space, which is there
pub record HoldsThere (k : Kernel) (pid sid : ℕ) : Type 0 where
  pub holds : life_in k pid ≡ HoldsSpace sid
  pub there : HasSpace k.place sid

-- The call makes these units, and then the process goes out: its u page is written, and its record keeps no registers. Each
-- is the unit that puts it out. The files and the swap images, where they are told, are those before and after the call.
pub record PutOut (pid sid : ℕ) (old new : Standing) (holds : Option (List NamedFile)) (i j : Option SwapImage) : Type 0 where
  pub units : List Entry
  pub at : Kernel
  pub image : Option SwapImage
  pub made : Made (ground old holds []) units old.kernel i at image
  pub step : new.kernel ≡ out_step at pid
  pub bare : (p : Proc) → proc_of at pid ≡ Some p → proc_of new.kernel pid ≡ Some (record p { regs = cleared })
  pub wrote : WritesU at pid image j
  pub puts : PutsOut (units ++ entries.SwapOut pid ∷ []) (length old.kernel.journal) old.kernel.place pid sid new.kernel.place
  pub out : is_out new.kernel.place pid ≡ true
  pub beside : IsSameBeside old new

-- these units put the process out, from the one kernel on, and it isn't out yet in the kernel to which they lead
pub record StillPutting (pid sid : ℕ) (k : Kernel) (us : List Entry) (l : Kernel) : Type 0 where
  pub puts : PutsOut us (length k.journal) k.place pid sid l.place
  pub still : is_out l.place pid ≡ false

-- the work of putting the process out
abbrev pub putting_out : ℕ → ℕ → Work
putting_out pid sid = record { locked = []; Unfinished = StillPutting pid sid; next = λ p. Some (put_out_unit p pid sid) }
