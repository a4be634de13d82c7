-- Which process has a turn. `next_turned` of run_model says the same of a flat state, whose processes are the kernel's where
-- `SameTables` of kernel_model holds.
use Rattle.std.specs.Prelude.{◌≡◌, ℕ, ◌<◌, nat_lt, ◌&&◌, not, Bool, true, false, List, find, Option, Some, None}
use Rattle.kernel_model.specs.Kernel.{Life, New, HoldsSpace, LendsSpace, Ended, Proc, Kernel}
use Rattle.kernel_model.specs.Unit.{proc_of}
use Rattle.page_model.specs.Swapper.{is_out}
use Rattle.run_model.specs.Next.{or_else}
use Rattle.proc_table.specs.declared.process.Proc.{Proc as Record}
use Rattle.proc_table.specs.Records.{find as find_record}
use Rattle.machine_state.specs.Machine.{proc_shown}

-- what a process has is a space in which it can run
abbrev pub is_space_holder : Life → Bool
is_space_holder New = false
is_space_holder (HoldsSpace sid) = true
is_space_holder (LendsSpace sid child) = false
is_space_holder (Ended status) = false

-- it holds a space and doesn't sleep
abbrev pub can_run : Proc → Bool
can_run p = is_space_holder p.life && not p.asleep

-- the number of a process, if there is one
abbrev pub pid_of_record : Option Proc → Option ℕ
pid_of_record None = None
pid_of_record (Some p) = Some p.pid

-- the first process above this one that can step: the processes stand by rising pid
abbrev pub next_runner : Kernel → ℕ → Option ℕ
next_runner k above = pid_of_record (find (λ p. can_run p && nat_lt above p.pid) k.processes)

-- the process of the next turn: the lowest above the last turn's that can step, or else the lowest that can step
abbrev pub turn_after : Kernel → ℕ → Option ℕ
turn_after k last = or_else (next_runner k last) (next_runner k 0)

-- The process that runs.

-- a process that is there, and can step
abbrev pub steps_by : Option Proc → Bool
steps_by None = false
steps_by (Some p) = can_run p

-- the process is there, can step, and is in
abbrev pub may_run : Kernel → ℕ → Bool
may_run k pid = steps_by (proc_of k pid) && not (is_out k.place pid)

-- By the records.

-- none of the records with these numbers can step
abbrev pub NoneReady : (ℕ → Type 0) → List Record → Type 0
NoneReady P ps = (n : ℕ) (p : Record) → P n → find_record n ps ≡ Some p → can_run (proc_shown p) ≡ false

-- the record of this number is there, and its process can step
pub record IsReadyRecord (ps : List Record) (n : ℕ) : Type 0 where
  pub there : Record
  pub found : find_record n ps ≡ Some there
  pub ready : can_run (proc_shown there) ≡ true

-- the lowest number above this one whose record can step, or none
abbrev pub FoundReady : List Record → ℕ → Option ℕ → Type 0
FoundReady ps above None = NoneReady (λ n. above < n) ps
FoundReady ps above (Some n) = IsReadyRecord ps n × (above < n) × NoneReady (λ m. (above < m) × (m < n)) ps
