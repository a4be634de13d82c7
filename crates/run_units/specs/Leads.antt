-- What it means that a machine's units are next units of a run. All laws of this crate end in it.
use Rattle.std.specs.Prelude.{◌≡◌, ℕ, ◌↔◌, List, Option, Some}
use Rattle.vm_facts.specs.SwapImages.{SwapImage}
use Rattle.vm_facts.specs.declared.entry.Entry.{Entry}
use Rattle.vm_facts.specs.declared.entry.Entry.TheVariants as entries
use Rattle.flat_state.specs.Flat.{Inputs}
use Rattle.kernel_model.specs.Kernel.{Kernel}
use Rattle.fault_fill.specs.Files.{AreRunImages}
use Rattle.run_model.specs.State.{State}
use Rattle.run_model.specs.Wanted.{locked}
use Rattle.economy_laws.specs.Machine.{unit_step, unit_swap, IsGiven, MakesSwap}
use Rattle.fault_fill.specs.Made.{Ground}

-- the files, where they are told, hold the images of the run
abbrev pub HasImages : Ground → Inputs → Type 0
HasImages g A = AreRunImages g.from.images g.from.files A

-- a move of the hands passes over the pages that the run keeps; other units pass over none
abbrev pub KeepsLocked : Ground → Inputs → State → Entry → Type 0
KeepsLocked g A s (entries.Hands n) = g.locked ≡ locked A s
KeepsLocked g A s _ = Unit {0}

-- A kernel and a swap image, which is told, are what a unit of the run makes of others, with what it is given.
pub record MadeAs (A : Inputs) (s : State) (k : Kernel) (image : SwapImage) (u : Entry) (l : Kernel) (j : Option SwapImage) : Type 0 where
  pub read : List (List ℕ)
  pub given : IsGiven A s k image.bytes read u
  pub made : l ≡ unit_step A s k image.bytes read u
  pub told : j ≡ Some (unit_swap A k image u)

-- Next units of the run lead from a state, with a kernel and a swap image, to another; the swap image is told then too.
pub record Leads (A : Inputs) (s : State) (k : Kernel) (image : SwapImage) (us : List Entry) (t : State) (l : Kernel) (j : Option SwapImage) : Type 0 where
  pub behind : SwapImage
  pub told : j ≡ Some behind
  pub makes : MakesSwap A s k image us t l behind
