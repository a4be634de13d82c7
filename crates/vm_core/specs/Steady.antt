-- That a machine stays fit for the next call through each line.
use Rattle.std.specs.Prelude.{◌≡◌, ℕ, ◌+◌, ◌≤◌}
use Rattle.vm_facts.specs.declared.event.Event.{Event}
use Rattle.vm_facts.specs.declared.event.Event.TheVariants as events
use Rattle.flat_state.specs.Journal.{instructions_of}
use Rattle.machine_state.specs.Machine.{Standing}
use Rattle.proc_run.specs.Runs.{IsSteady}

-- A call leaves a steady machine, with the sizes and images of before, and counts so many instructions more.
pub record StaysSteady (old new : Standing) (n : ℕ) : Type 0 where
  pub steady : IsSteady new
  pub params : new.params ≡ old.params
  pub images : new.images ≡ old.images
  pub counted : instructions_of new.kernel.journal ≡ instructions_of old.kernel.journal + n

-- a line asks for no more than a million moves of the hands
abbrev pub HasFewMoves : Event → Type 0
HasFewMoves (events.Hands count) = count ≤ 1000000
HasFewMoves _ = Unit {0}
