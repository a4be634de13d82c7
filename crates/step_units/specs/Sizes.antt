-- What stays of a machine at every call, where it stops too: sizes, images, bound.
use Rattle.std.specs.Prelude.{◌≡◌, ◌≤◌, length}
use Rattle.vm_facts.specs.declared.stop.Stop.{Stop}
use Rattle.vm_facts.specs.declared.stop.Stop.TheVariants as stops
use Rattle.machine_state.specs.Machine.{Standing}

-- the machine's sizes and images are those of before
pub record SameSizes (old new : Standing) : Type 0 where
  pub params : new.params ≡ old.params
  pub images : new.images ≡ old.images

-- They are so where the run stops, too, and a journal is full only where it is at its bound.
pub record KeptAtStop (old new : Standing) (stop : Stop) : Type 0 where
  pub sizes : SameSizes old new
  pub full : stop ≡ stops.JournalFull → new.params.journal ≤ length new.kernel.journal
