-- What must be so of processes beside the bytes, for a machine to stand for a flat state.
use Rattle.std.specs.Prelude.{◌≡◌, ℕ, Bool, true, false, List, Option, Some, None}
use Rattle.page_model.specs.Flat.{Process, FlatState, NamedImage, process_of, holds_space}
use Rattle.page_model.specs.Placement.{Placement}
use Rattle.page_model.specs.Swapper.{is_out}
use Rattle.kernel_model.specs.Kernel.{Kernel}
use Rattle.kernel_model.specs.Sound.{KeepsStarts, TextFits}

-- the process is there, and holds a space
abbrev pub holds_some : Option Process → Bool
holds_some None = false
holds_some (Some q) = holds_space q.holding

-- each process that is out is there, and holds a space
abbrev pub OutHold : Placement → FlatState → Type 0
OutHold p flat = (pid : ℕ) → is_out p pid ≡ true → holds_some (process_of flat pid) ≡ true

-- what the coupling of a machine asks beside it
pub record Stands (images : List NamedImage) (k : Kernel) (flat : FlatState) : Type 0 where
  pub starts : KeepsStarts k
  pub texts : TextFits images k.place
  pub out : OutHold k.place flat
