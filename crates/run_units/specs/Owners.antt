-- Who owns frames and blocks at a state, and when space may be refused.
use Rattle.std.specs.Prelude.{◌≡◌, ℕ, Bool, true, false, Option, Some, None}
use Rattle.vm_facts.specs.declared.entry.Entry.{Entry}
use Rattle.vm_facts.specs.declared.entry.Entry.TheVariants as entries
use Rattle.swap_book.specs.Placing.{fits}
use Rattle.flat_state.specs.Flat.{Holding, Holds, Lends, Zombie, Process, FlatState, Inputs, process_of}
use Rattle.page_model.specs.Ownership.{OneOwner}
use Rattle.kernel_model.specs.Coupled.{AllFit}
use Rattle.flat_model.specs.Run.{is_refused, process_of_entry}
use Rattle.flat_model.specs.Asked.{asks}
use Rattle.run_model.specs.Snapshot.{Snapshot}

-- Owners.

-- a process with this holding is no zombie
abbrev pub living_with : Holding → Bool
living_with (Holds s) = true
living_with (Lends sid child) = true
living_with (Zombie status) = false

-- the same of a process that may not be there
abbrev pub living_if : Option Process → Bool
living_if None = false
living_if (Some q) = living_with q.holding

-- the process is there, and no zombie
abbrev pub is_living : FlatState → ℕ → Bool
is_living flat pid = living_if (process_of flat pid)

-- Each frame and each block of swap has one owner or is free: a page, or a transfer, has a frame; a space, a text that spaces
-- share, and a process that lives have their blocks, among them those of each page that needs them. The spaces are those of
-- the flat state, with as many pages.
pub record IsOwned (A : Inputs) (x : Snapshot) : Type 0 where
  pub owners : OneOwner A.swap_blocks (is_living x.point.flat) x.place x.holdings
  pub spaces : AllFit x.point.flat x.place

-- Refusals.

-- the pieces of swap that the process's next instruction asks for find their places
abbrev pub finds_places : Inputs → Snapshot → ℕ → Bool
finds_places A x pid = fits A.swap_blocks x.holdings (asks A x.point.flat pid)

-- `Refused` stands where they don't; and they do where any other entry of the process stands, before which it doesn't
abbrev pub RefusesRightly : Inputs → Snapshot → Entry → Type 0
RefusesRightly A x (entries.Refused pid) = finds_places A x pid ≡ false
RefusesRightly A x u = (pid : ℕ) → process_of_entry u ≡ Some pid → is_refused x.point.last pid ≡ false → finds_places A x pid ≡ true
