-- That who is seen to hold a space and to be in may make a call.
use Rattle.std.specs.Prelude.{◌≡◌, ℕ, false, List, [], Some}
use Rattle.proc_table.specs.declared.process.Proc.{Proc as Record}
use Rattle.proc_table.specs.declared.process.Life.TheVariants.{Holds}
use Rattle.proc_table.specs.Records.{find}
use Rattle.machine_state.specs.Alike.{AreRecords}
use Rattle.machine_state.specs.Going.{CanGoOn}
use Rattle.machine_state.specs.Machine.{Standing, processes_of, residents_of}
use Rattle.proc_calls.specs.Callers.{IsCaller}

-- a process whose record says that it holds a space and isn't out may make a call
abbrev pub CallerIsSeen : Type 0
CallerIsSeen =
    (m : Standing) (ps : List Record) (p : Record) (pid sid : ℕ) → CanGoOn m → m.kernel.place.due ≡ []
    → m.kernel.processes ≡ processes_of ps m.kernel.next_pid → m.kernel.place.residents ≡ residents_of ps m.kernel.next_pid → AreRecords ps m.kernel.next_pid
    → find pid ps ≡ Some p → p.state ≡ Holds sid → p.out ≡ false → IsCaller m pid
