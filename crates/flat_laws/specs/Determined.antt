-- That the next entry of a process is determined by the flat state and by what was refused.
use Rattle.std.specs.Prelude.{◌≡◌, ℕ, false, Some}
use Rattle.flat_state.specs.Flat.{Inputs}
use Rattle.vm_facts.specs.declared.entry.Entry.{Entry}
use Rattle.flat_model.specs.Run.{Point, is_refused, entry_of_step, process_of_entry, flat_entry}
use Rattle.flat_laws.specs.Others.{is_refusal, is_writing}

-- the flat state, a refusal and bytes that are out determine the next entry of a process
abbrev pub NextEntryIsDetermined : Type 0
NextEntryIsDetermined = (A : Inputs) (point other : Point) (pid : ℕ)
    → other.flat ≡ point.flat → is_refused other.last pid ≡ is_refused point.last pid
    → is_writing other.last pid ≡ is_writing point.last pid → entry_of_step A other pid ≡ entry_of_step A point pid

-- two entries of a process that may come next, neither a refusal, are one
abbrev pub NextEntriesAreOne : Type 0
NextEntriesAreOne = (A : Inputs) (point p q : Point) (pid : ℕ) (e f : Entry)
    → process_of_entry e ≡ Some pid → process_of_entry f ≡ Some pid → is_refusal e ≡ false → is_refusal f ≡ false
    → flat_entry A point e ≡ Some p → flat_entry A point f ≡ Some q → e ≡ f
