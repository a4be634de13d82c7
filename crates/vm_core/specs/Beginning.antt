-- How first processes begin, until all do or one finds no pieces.
use Rattle.std.specs.Prelude.{◌≡◌, ◌⊎◌, ℕ, List, [], ◌∷◌}
use Rattle.machine_state.specs.Machine.{Standing}
use Rattle.machine_state.specs.Beginning.{StartedFirst, FindsNoPlace}
use Rattle.vm_core.specs.declared.first_processes.Started.{Started}
use Rattle.vm_core.specs.declared.first_processes.Started.TheVariants as starteds

-- a process begins in each of these images
abbrev pub BeginsAll : List ℕ → Standing → Standing → Type 0
BeginsAll [] old new = new ≡ old
BeginsAll (n ∷ ns) old new = (next : Standing) × StartedFirst old next n × BeginsAll ns next new

-- the machine has this number for the next process, and its pieces find no place
pub record LacksPlace (m : Standing) (image pid : ℕ) : Type 0 where
  pub number : pid ≡ m.kernel.next_pid
  pub pieces : FindsNoPlace m image

-- in the first images of these processes begin, until the pieces of one of this number find no place
abbrev pub BeginsUntil : ℕ → List ℕ → Standing → Standing → Type 0
BeginsUntil pid [] old new = ⊥
BeginsUntil pid (n ∷ ns) old new = ((new ≡ old) × LacksPlace old n pid) ⊎ ((next : Standing) × StartedFirst old next n × BeginsUntil pid ns next new)

-- by the code's answer: processes began in all these images, or until one's pieces found no place
abbrev pub Begins : Started → List ℕ → Standing → Standing → Type 0
Begins starteds.Ok ns old new = BeginsAll ns old new
Begins (starteds.NoSpace pid) ns old new = BeginsUntil pid ns old new
