-- What is seen of a run from outside, and runs of one process.
use Rattle.std.specs.Prelude.{◌≡◌, ℕ, ◌==◌, ◌||◌, Bool, true, false, List, [], ◌∷◌, ◌++◌, filter, is_some, Some}
use Rattle.vm_facts.specs.declared.entry.Entry.{Entry}
use Rattle.vm_facts.specs.declared.entry.Entry.TheVariants.{Out, Call, Ended}
use Rattle.flat_state.specs.Flat.{Inputs}
use Rattle.flat_state.specs.Journal.{units_of}
use Rattle.flat_model.specs.Run.{Point, process_of_entry, flat_run}
use Rattle.flat_laws.specs.Others.{is_refusal}

-- bytes that were written, the reply of a system call, or an end with its status
abbrev pub is_visible : Entry → Bool
is_visible (Out p bytes) = true
is_visible (Call p number carry r0 r1) = true
is_visible (Ended p status) = true
is_visible _ = false

-- what is seen of a journal: outputs, replies and ends, in order
abbrev pub visible_of : List Entry → List Entry
visible_of journal = filter is_visible journal

-- a process ended
abbrev pub is_end : Entry → Bool
is_end (Ended p status) = true
is_end _ = false

-- an end is among these
abbrev pub has_end : List Entry → Bool
has_end [] = false
has_end (e ∷ es) = is_end e || has_end es

-- the entry is of a process, and not of paging or the schedule
abbrev pub is_act : Entry → Bool
is_act e = is_some (process_of_entry e)

-- what processes did in a journal, one instruction after another
abbrev pub acts_of : List Entry → List Entry
acts_of journal = filter is_act (units_of journal)

-- a call of fork or vfork, by its number, which answered with its carry clear
abbrev pub is_fork_reply : ℕ → Bool → Bool
is_fork_reply number true = false
is_fork_reply number false = number == 2 || number == 66

-- the reply of a fork or a vfork by which a child came: its carry is clear
abbrev pub is_fork : Entry → Bool
is_fork (Call p number carry r0 r1) = is_fork_reply number carry
is_fork _ = false

-- no entry passes the test
abbrev pub HasNo : (Entry → Bool) → List Entry → Type 0
HasNo test [] = Unit {0}
HasNo test (e ∷ es) = (test e ≡ false) × HasNo test es

-- A run of one process: one image is started, no child comes, and no request of swap space is refused. It may go on.
pub record IsSingle (A : Inputs) (journal : List Entry) (point : Point) : Type 0 where
  pub image : ℕ
  pub first : A.first ≡ image ∷ []
  pub runs : flat_run A journal ≡ Some point
  pub childless : HasNo is_fork journal
  pub served : HasNo is_refusal journal

-- the first list is the beginning of the second
abbrev pub Begins : List Entry → List Entry → Type 0
Begins xs ys = (rest : List Entry) × (xs ++ rest ≡ ys)
