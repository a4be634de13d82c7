-- What a fork comes to: an entry, and then its copies; and where it stops.
use Rattle.std.specs.Prelude.{◌≡◌, ◌⊎◌, ℕ, ◌*◌, List, [], ◌∷◌, Option}
use Rattle.vm_facts.specs.SwapImages.{SwapImage}
use Rattle.vm_facts.specs.declared.regs.Regs.{Regs}
use Rattle.vm_facts.specs.declared.stop.Stop.{Stop}
use Rattle.io_edge.specs.FileHolding.{NamedFile}
use Rattle.swap_book.specs.declared.Owner.TheVariants as owners
use Rattle.flat_state.specs.declared.change.Change.TheVariants as changes
use Rattle.flat_model.specs.declared.calls.SystemCall.TheVariants.{Fork}
use Rattle.page_model.specs.Place.{data_count, stack_count, fork_space}
use Rattle.kernel_model.specs.Kernel.{Kernel}
use Rattle.machine_state.specs.Want.{Want}
use Rattle.machine_state.specs.Machine.{Standing}
use Rattle.fault_fill.specs.Growth.{space_of_pid}
use Rattle.proc_calls.specs.Answered.{StopsOnce}
use Rattle.proc_calls.specs.Copying.{AreCopiesFrom, CopiesAll, StopsCopying}
use Rattle.proc_calls.specs.Making.{HasChild, MakesChild, StopsMaking}

-- what a child wants that copies this space: pieces for its data, its stack and its u page
abbrev pub fork_wants : Kernel → ℕ → List Want
fork_wants k parent =
    record { owner = owners.Data k.next_sid; blocks = 2 * data_count k.place parent }
    ∷ record { owner = owners.Stack k.next_sid; blocks = 2 * stack_count k.place parent }
    ∷ record { owner = owners.U k.next_pid; blocks = 2 } ∷ []

-- The child is there, with a space of its own. Its pages that the parent has filled are due for copies, by the rule of
-- `fork_space`: data first, rising, each from the page of its name in the parent's space.
pub record HasNewSpace (old new : Standing) (pid : ℕ) (regs : Regs) (child : ℕ) : Type 0 where
  pub made : HasChild old new pid Fork regs child (changes.Fork child)
  pub due : let forked = fork_space old.kernel.place (space_of_pid old.kernel pid) old.kernel.next_sid in new.kernel.place.due ≡ forked.due
  pub copies : AreCopiesFrom (space_of_pid old.kernel pid) new.kernel.place.due

-- a fork before its copies
abbrev pub ForkAnswered : Standing → Standing → ℕ → Regs → Type 0
ForkAnswered old new pid regs = MakesChild old new pid Fork regs (changes.Fork old.kernel.next_pid) (HasNewSpace old new pid regs old.kernel.next_pid)

-- the call answers, and then all pages that are due are copied: none where there is no child
pub record Forked (old new : Standing) (pid : ℕ) (regs : Regs) (holds : Option (List NamedFile)) (before after : Option SwapImage) : Type 0 where
  pub between : Standing
  pub answer : ForkAnswered old between pid regs
  pub copies : CopiesAll between.kernel.place.due between new holds before after

-- The run stops where the call would answer, before any device is called, or once it has answered, as a page is copied.
abbrev pub StopsForking : Standing → Standing → ℕ → Regs → Option (List NamedFile) → Option SwapImage → Option SwapImage → Stop → Type 0
StopsForking old new pid regs holds before after stop =
    (StopsMaking old new pid (changes.Fork old.kernel.next_pid) stop × (after ≡ before))
    ⊎ StopsOnce (λ m. ForkAnswered old m pid regs) (λ m. StopsCopying m.kernel.place.due m new holds before after stop)
