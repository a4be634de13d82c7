-- What stays of a process after a step of another one: its space, byte for byte.
use Rattle.std.specs.Prelude.{◌≡◌, ℕ, ◌==◌, Bool, true, false, Option, Some}
use Rattle.flat_state.specs.Space.{Space}
use Rattle.flat_state.specs.Flat.{Holds, Process, FlatState, process_of}
use Rattle.vm_facts.specs.declared.entry.Entry.{Entry}
use Rattle.vm_facts.specs.declared.entry.Entry.TheVariants.{Out, Refused}

-- the process is there, and holds this space, byte for byte
pub record HoldsStill (F : FlatState) (pid : ℕ) (s : Space) : Type 0 where
  pub process : Process
  pub here : process_of F pid ≡ Some process
  pub holds : process.holding ≡ Holds s

-- the entry says that pieces found no place
abbrev pub is_refusal : Entry → Bool
is_refusal (Refused pid) = true
is_refusal _ = false

-- bytes of this process are out, and its reply is to come
abbrev pub is_writing : Option Entry → ℕ → Bool
is_writing (Some (Out p bytes)) pid = p == pid
is_writing _ pid = false
