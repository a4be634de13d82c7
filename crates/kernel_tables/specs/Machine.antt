-- The kernel for which tables stand: processes, residents, frames and journal, each read from its table.
use Rattle.std.specs.Prelude.{◌≡◌, ℕ, ◌-◌, ◌≤◌, Bool, List, [], length, map, take, filter_map, string_bytes, Option, Some, None, Ok}
use Rattle.std.specs.List.{range_with_len}
use Rattle.vm_facts.specs.declared.entry.Entry.{Entry}
use Rattle.vm_facts.specs.declared.params.Params.{Params}
use Rattle.proc_table.specs.declared.process.Proc.{Proc as Record}
use Rattle.proc_table.specs.declared.process.Life.{Life as RecordLife}
use Rattle.proc_table.specs.declared.process.Life.TheVariants as lives
use Rattle.proc_table.specs.Records.{find}
use Rattle.page_model.specs.Holdings.{Holdings}
use Rattle.page_model.specs.Placing.{Wanted, place_all}
use Rattle.page_model.specs.Placement.{Residence, image_of}
use Rattle.kernel_model.specs.Kernel.{Life, New, HoldsSpace, LendsSpace, Ended, Proc, Kernel}
use Rattle.kernel_model.specs.Sound.{Sound}
use Rattle.page_model.specs.Dues.{DueStand}
use Rattle.kernel_model.specs.Numbers.{Numbered}
use Rattle.kernel_tables.specs.declared.named.Named.{Named}
use Rattle.kernel_tables.specs.declared.tables.Tables.{Tables}
use Rattle.kernel_tables.specs.View.{Lists, transfer_shown, flown, starts_of, placement_of, frames_of}
use Rattle.kernel_tables.specs.Tied.{Tied}
use Rattle.kernel_tables.specs.Alike.{AreRecords}
use Rattle.kernel_tables.specs.Sourced.{ImageNamed, AreNames, AreSourced}

-- Processes, by rising pid.

-- what a process has, by its record
abbrev pub life_shown : RecordLife → Life
life_shown lives.New = New
life_shown (lives.Holds sid) = HoldsSpace sid
life_shown (lives.Lends sid child) = LendsSpace sid child
life_shown (lives.Zombie status) = Ended status

-- the process that a record stands for
abbrev pub proc_shown : Record → Proc
proc_shown p = record { pid = p.pid; parent = p.parent; regs = p.regs; life = life_shown p.state; asleep = p.asleep }

-- whether the process of a record is in or out, and since when; a zombie is neither
abbrev pub residence_by : Record → RecordLife → Option Residence
residence_by p (lives.Zombie status) = None
residence_by p life = Some (let r : Residence = record { pid = p.pid; out = p.out; since = p.since } in r)

-- the process that a record stands for, if there is a record
abbrev pub proc_of_record : Option Record → Option Proc
proc_of_record None = None
proc_of_record (Some p) = Some (proc_shown p)

-- whether the process of a record is in or out, if there is a record
abbrev pub residence_shown : Option Record → Option Residence
residence_shown None = None
residence_shown (Some p) = residence_by p p.state

-- the processes that have records, of all numbers below the next one
abbrev pub processes_of : List Record → ℕ → List Proc
processes_of ps next = filter_map (λ pid. proc_of_record (find pid ps)) (range_with_len 1 (next - 1))

-- who of these is in or out, and since when
abbrev pub residents_of : List Record → ℕ → List Residence
residents_of ps next = filter_map (λ pid. residence_shown (find pid ps)) (range_with_len 1 (next - 1))

-- The tables.

-- what the tables hold, as lists
abbrev pub lists_of : Tables → Lists
lists_of t = record {
  slots = t.core.slots;
  free = t.core.free;
  transfers = map transfer_shown t.ring;
  flown = flown t.ring;
  spaces = t.spaces;
  texts = t.texts;
  facts = map (λ (n : Named). n.facts) t.images.items;
  fills = t.fills.items;
  residents = residents_of t.processes t.next_pid;
  front = t.front;
  back = t.back;
}

-- the kernel that the tables stand for, with this journal, and stopped or not
abbrev pub kernel_by : Tables → List Entry → Bool → Kernel
kernel_by t journal stopped = record {
  place = placement_of (lists_of t);
  holdings = t.book.holdings;
  processes = processes_of t.processes t.next_pid;
  next_pid = t.next_pid;
  next_sid = t.next_sid;
  starts = starts_of t.fills.items;
  frames = frames_of (lists_of t);
  journal = journal;
  stopped = stopped;
}

-- an image of the tables, by its name, its file and its facts
abbrev pub image_shown : Named → ImageNamed
image_shown n = record { name = string_bytes n.name; file = n.file; facts = n.facts }

-- the images of the tables, by number from 1 on
abbrev pub images_of : Tables → List ImageNamed
images_of t = map image_shown t.images.items

-- the holdings before the pieces that were found last
abbrev pub before_of : Tables → Holdings
before_of t = take (length t.book.holdings - t.found) t.book.holdings

-- The value of a machine.
pub record Standing : Type 0 where
  pub kernel : Kernel
  pub params : Params
  pub images : List ImageNamed
  -- the holdings before the pieces that were found for an entry that comes yet
  pub before : Holdings
  -- the process for which the journal has room for one more instruction
  pub room : Option ℕ

-- What holds of a kernel that runs: each frame and each block has one owner, spaces and processes have numbers of
-- their own, what is due stands, and the tables are tied.
pub record KernelRuns (k : Kernel) (t : Lists) (size : ℕ) : Type 0 where
  pub sound : Sound size k
  pub numbered : Numbered k
  pub due : DueStand k.place
  pub tied : Tied t

-- pieces found their places after those that were held before
pub record WereFound (size : ℕ) (before now : Holdings) : Type 0 where
  pub pieces : List Wanted
  pub found : place_all size before pieces ≡ Ok now

-- the image of each space
abbrev pub image_at : Tables → ℕ → ℕ
image_at t sid = image_of (placement_of (lists_of t)) sid

-- What holds of a machine that runs. It is sound with the holdings before the last pieces were found.
pub record Stands (t : Tables) (journal : List Entry) (stopped : Bool) : Type 0 where
  pub runs : KernelRuns (record (kernel_by t journal stopped) { holdings = before_of t }) (lists_of t) t.book.size
  pub ring : AreSourced (images_of t) (image_at t) (before_of t) t.book.size t.ring
  pub within : length journal ≤ t.params.journal
  pub book : t.book.size ≡ t.params.swap_blocks
  pub found : WereFound t.book.size (before_of t) t.book.holdings
  pub records : AreRecords t.processes t.next_pid
  pub named : AreNames (images_of t)
  -- with no entry yet, the next space has the number of the next process
  pub numbers : journal ≡ [] → t.next_sid ≡ t.next_pid
