-- Longwords of one page that are written downwards by one call, as a stack is pushed.
use Rattle.std.specs.Prelude.{◌≡◌, ℕ, ◌+◌, ◌*◌, ◌≤◌, List, [], ◌∷◌, length}
use Rattle.std.specs.Int.{w32, to_le_bytes}
use Rattle.vm_facts.specs.declared.page.Page.{Page}
use Rattle.vm_facts.specs.declared.page.PageState.TheVariants.{Valid}
use Rattle.page_model.specs.Placement.{state_of}
use Rattle.page_model.specs.Ownership.{OwnsFrames}
use Rattle.kernel_model.specs.Kernel.{Kernel}
use Rattle.table_steps.specs.Machine.{Standing}
use Rattle.table_steps.specs.UserMemory.{write_run, AreWhole}

-- longwords are written in the frame of a page, each just below the one before, the last of them at a place
abbrev pub write_down : Kernel → Page → ℕ → ℕ → List ℕ → Kernel
write_down k q f at [] = k
write_down k q f at (longword ∷ longwords) = write_down (write_run k q f (at + 4 * length longwords) (to_le_bytes w32 longword)) q f at longwords

-- so longwords of a valid page were written in its frame, in frames each of which has one owner
pub record WroteDown (old new : Standing) (q : Page) (at : ℕ) (longwords : List ℕ) : Type 0 where
  pub frame : ℕ
  pub valid : state_of old.kernel.place q ≡ Valid frame
  pub within : at + 4 * length longwords ≤ 1024
  pub machine : new ≡ record old { kernel = write_down old.kernel q frame at longwords }
  pub owner : OwnsFrames old.kernel.place
  pub whole : AreWhole old.kernel
