-- A machine by its private fields: what callers see of them, and what holds of each machine.
use Rattle.std.specs.Prelude.{◌≡◌, ℕ, ◌<◌, ◌≤◌, false, [], length, Option, Some, None, Vec}
use Rattle.std.specs.Vec.{vec_capacity, vec_len}
use Rattle.vm_facts.specs.declared.entry.Entry.{Entry}
use Rattle.table_steps.specs.Joined.{instructions_in, last_says}
use Rattle.machine_state.specs.declared.machine.Machine.TheInside.{Inside}
use Rattle.machine_state.specs.Holders.{HoldersStand}
use Rattle.table_steps.specs.Machine.{Standing, Stands, images_of, before_of, kernel_by}

-- a machine as its callers see it: its kernel, its sizes and images, and what stands ready for an entry to come
abbrev pub standing_of : Inside → Standing
standing_of m = record {
  kernel = kernel_by m.tables m.journal.items m.stopped;
  params = m.tables.params;
  images = images_of m.tables;
  before = before_of m.tables;
  room = m.room;
}

-- where the journal has room for one more instruction of a process, the instruction joins the last entry, or it has room
-- for an entry
abbrev pub HasRoom : {A : Type 0} → Option ℕ → Vec Entry A → ℕ → Type 0
HasRoom None journal limit = Unit {0}
HasRoom (Some pid) journal limit =
    last_says (instructions_in pid) journal.items ≡ None → (length journal.items < limit) × (vec_len journal < vec_capacity journal)

-- what holds of a machine that hasn't stopped
pub record RunsNow (m : Inside) : Type 0 where
  pub stands : Stands m.tables m.journal.items m.stopped
  -- who holds a space, whatever the journal says
  pub holders : HoldersStand (kernel_by m.tables [] false)
  -- no transfer failed
  pub none_lost : m.lost ≡ None
  pub room : HasRoom m.room m.journal m.tables.params.journal

-- what holds of each machine, also of one that has stopped
pub record RunsInside (m : Inside) : Type 0 where
  pub within : length m.journal.items ≤ m.tables.params.journal
  pub running : m.stopped ≡ false → RunsNow m
