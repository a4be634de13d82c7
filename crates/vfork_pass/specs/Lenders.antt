-- Who lends a space to a process, by the records of the process table.
use Rattle.std.specs.Prelude.{◌≡◌, ℕ, ◌<◌, Bool, true, false, List, Option, Some, None}
use Rattle.proc_table.specs.declared.process.Proc.{Proc as Record}
use Rattle.proc_table.specs.Records.{find}
use Rattle.machine_state.specs.Alike.{lends_to}

-- whether a record says that its process lends a space to this one
abbrev pub lends_in : ℕ → Option Record → Bool
lends_in borrower None = false
lends_in borrower (Some p) = lends_to borrower p

-- the process is there, and lends a space to the borrower
abbrev pub IsLender : List Record → ℕ → ℕ → Type 0
IsLender ps borrower pid = (0 < pid) × (lends_in borrower (find pid ps) ≡ true)
