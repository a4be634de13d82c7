-- Which process holds a space by the records, and whether it may go out.
use Rattle.std.specs.Prelude.{◌≡◌, ℕ, ◌<◌, ◌==◌, Bool, true, false, not, List, Option, Some, None}
use Rattle.proc_table.specs.declared.process.Proc.{Proc as Record}
use Rattle.proc_table.specs.declared.process.Life.{Life as RecordLife}
use Rattle.proc_table.specs.declared.process.Life.TheVariants as lives
use Rattle.kernel_model.specs.Kernel.{Kernel}
use Rattle.paged_model.specs.declared.reason.Reason.{Reason}
use Rattle.paged_model.specs.declared.reason.Reason.TheVariants as reasons
use Rattle.paged_model.specs.Reasons.{unless, or_reason}
use Rattle.proc_table.specs.Records.{find}
use Rattle.move_judge.specs.Records.{IsRecord}

-- what a process has is the space of this number
abbrev pub has_by : ℕ → RecordLife → Bool
has_by sid lives.New = false
has_by sid (lives.Holds held) = held == sid
has_by sid (lives.Lends lent child) = false
has_by sid (lives.Zombie status) = false

-- the process of a record has the space of this number
abbrev pub has_space : ℕ → Record → Bool
has_space sid p = has_by sid p.state

-- none of the records with these numbers has it
abbrev pub NoneHas : (ℕ → Type 0) → List Record → ℕ → Type 0
NoneHas P ps sid = (n : ℕ) (p : Record) → P n → find n ps ≡ Some p → has_space sid p ≡ false

-- the record of some number is this one, and has it
pub record Has (ps : List Record) (sid : ℕ) (p : Record) : Type 0 where
  pub number : ℕ
  pub found : find number ps ≡ Some p
  pub has : has_space sid p ≡ true

-- the record that has it, or none
abbrev pub FoundHolder : List Record → ℕ → Option Record → Type 0
FoundHolder ps sid None = NoneHas (λ n. 0 < n) ps sid
FoundHolder ps sid (Some p) = Has ps sid p

-- the process of a record may go out, in a space that it holds: it is in, and didn't borrow the space
abbrev pub record_stays : Record → Option Reason
record_stays p = or_reason (unless (not p.borrowed) (reasons.Borrowed p.pid)) (unless (not p.out) (reasons.IsOut p.pid))

-- The record is the one of the process with this number, which holds the space.
pub record HoldsRecord (k : Kernel) (pid sid : ℕ) (p : Record) : Type 0 where
  pub known : IsRecord k pid (Some p)
  pub holds : p.state ≡ lives.Holds sid
