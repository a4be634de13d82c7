-- What the records of processes say of who has a space and who lends one.
use Rattle.std.specs.Prelude.{◌≡◌, ℕ, List, Option, Some, None}
use Rattle.proc_table.specs.declared.process.Proc.{Proc as Record}
use Rattle.proc_table.specs.declared.process.Life.{Life as RecordLife}
use Rattle.proc_table.specs.declared.process.Life.TheVariants as lives
use Rattle.proc_table.specs.Records.{find}
use Rattle.kernel_model.specs.Kernel.{Proc as Process}
use Rattle.kernel_model.specs.Unit.{has_lender}

-- the space in which a process runs, by its life
abbrev pub space_by : RecordLife → Option ℕ
space_by lives.New = None
space_by (lives.Holds sid) = Some sid
space_by (lives.Lends sid child) = None
space_by (lives.Zombie status) = None

-- the space in which the process of a record runs, if there is a record
abbrev pub space_of_record : Option Record → Option ℕ
space_of_record None = None
space_of_record (Some p) = space_by p.state

-- each record is marked by whether some process lends a space to its own
abbrev pub AreMarked : List Process → List Record → Type 0
AreMarked processes ps = (pid : ℕ) (p : Record) → find pid ps ≡ Some p → p.borrowed ≡ has_lender processes pid
