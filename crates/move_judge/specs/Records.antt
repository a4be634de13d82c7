-- Which record of a machine's processes is that of a process.
use Rattle.std.specs.Prelude.{◌≡◌, ℕ, List, Option}
use Rattle.proc_table.specs.declared.process.Proc.{Proc as Record}
use Rattle.proc_table.specs.Records.{find}
use Rattle.kernel_model.specs.Kernel.{Kernel}
use Rattle.machine_state.specs.Alike.{AreRecords}
use Rattle.machine_state.specs.Lives.{AreMarked}
use Rattle.machine_state.specs.Machine.{processes_of, residents_of}

-- of the records of all processes, which are the kernel's, the process has this one, or none
pub record IsRecord (k : Kernel) (pid : ℕ) (o : Option Record) : Type 0 where
  pub table : List Record
  pub processes : k.processes ≡ processes_of table k.next_pid
  pub residents : k.place.residents ≡ residents_of table k.next_pid
  pub records : AreRecords table k.next_pid
  pub marked : AreMarked k.processes table
  pub found : find pid table ≡ o
