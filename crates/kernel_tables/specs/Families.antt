-- The records of processes that end, and of those between which a space passes.
use Rattle.std.specs.Prelude.{◌≡◌, ◌≢◌, ℕ, ◌==◌, Bool, true, false, not, filter, Option, Some, None}
use Rattle.proc_table.specs.declared.process.Proc.{Proc as Record}
use Rattle.proc_table.specs.declared.process.Life.{Life as RecordLife}
use Rattle.proc_table.specs.declared.process.Life.TheVariants as lives
use Rattle.proc_table.specs.Records.{find, IsProcTable}
use Rattle.kernel_tables.specs.declared.tables.Tables.{Tables}
use Rattle.page_model.specs.Placement.{Residence}
use Rattle.kernel_model.specs.ChangeStep.{left_procs}
use Rattle.kernel_tables.specs.Alike.{lends_to}
use Rattle.kernel_tables.specs.Machine.{proc_shown}
use Rattle.kernel_tables.specs.Changing.{HasProcesses, processes_in, residents_in}

-- What is left of a record whose parent may have ended: nothing of a zombie child, and a child with no parent.

-- what is left of a child, by what it has: nothing of a zombie
abbrev pub left_life : Record → RecordLife → Option Record
left_life p (lives.Zombie status) = None
left_life p life = Some (record p { parent = 0 })

-- what is left of a record, by whether it is a child of the process that ends
abbrev pub left_by : Bool → Record → Option Record
left_by true p = left_life p p.state
left_by false p = Some p

-- what is left of a record, if there is one, where the process of this number ends
abbrev pub left_in : ℕ → Option Record → Option Record
left_in parent None = None
left_in parent (Some p) = left_by (p.parent == parent) p

-- the zombie children of a process that ends are gone, and its other children have no parent
pub record LeftChildren (t u : Tables) (pid : ℕ) : Type 0 where
  pub left : (n : ℕ) → find n u.processes ≡ left_in pid (find n t.processes)
  pub sound : IsProcTable u.processes
  pub rest : u ≡ record t { processes = u.processes }

-- a record that neither lends nor borrows
pub record IsAlone (p : Record) : Type 0 where
  pub lends : (n : ℕ) → lends_to n p ≡ false
  pub borrows : p.borrowed ≡ false

-- a process that has ended, and no child, is a zombie, or gone where it has no parent
abbrev pub IsBuried : Tables → Tables → Record → ℕ → Type 0
IsBuried t u p status =
    HasProcesses t u t.next_pid (left_procs (p.parent == 0) (processes_in t) (proc_shown p) status)
    (filter (λ (r : Residence). not (r.pid == p.pid)) (residents_in t))

-- two processes have other records
pub record HasPassed (t u : Tables) (from to : ℕ) (giver taker : Record) : Type 0 where
  pub gives : find from u.processes ≡ Some giver
  pub takes : find to u.processes ≡ Some taker
  pub others : (n : ℕ) → n ≢ from → n ≢ to → find n u.processes ≡ find n t.processes
  pub sound : IsProcTable u.processes
  pub rest : u ≡ record t { processes = u.processes }
