-- What is claimed of every run: first whatever the policy is by which pages come and go, and then by the written one.
use Rattle.std.specs.Prelude.{◌≡◌, ◌⊎◌, ◌<◌, ◌≤◌, ℕ, false, List, [], ◌∷◌, length, Some, Ok}
use Rattle.vm_facts.specs.declared.entry.Entry.{Entry}
use Rattle.swap_book.specs.Holdings.{Holdings}
use Rattle.flat_state.specs.Flat.{Inputs, can_step}
use Rattle.flat_state.specs.Journal.{append, appended, units_of, instructions_of}
use Rattle.flat_model.specs.Run.{flat_run}
use Rattle.flat_model.specs.Asked.{start_held}
use Rattle.run_model.specs.Snapshot.{Snapshot, start_snapshot, snapshot_after}
use Rattle.run_model.specs.State.{State}
use Rattle.run_model.specs.Next.{next_unit}
use Rattle.run_model.specs.Lawful.{IsLawful, IsFinished}
use Rattle.economy_laws.specs.Turns.{ComesInTurn}
use Rattle.proc_run.specs.Owners.{IsOwned, RefusesRightly}

-- Before each of these units and after the last one each frame and each block of swap has one owner or is free; and a unit says that
-- pieces of swap found no place exactly where they find none.
abbrev pub KeepsOwners : Inputs → Snapshot → List Entry → Type 0
KeepsOwners A x [] = IsOwned A x
KeepsOwners A x (u ∷ us) = IsOwned A x × RefusesRightly A x u × KeepsOwners A (snapshot_after A x u) us

-- Each of these units comes in its turn: lines, turns and notes in their order, and an entry of a process where it steps in memory.
abbrev pub KeepsTurns : Inputs → Snapshot → List Entry → Type 0
KeepsTurns A x [] = Unit {0}
KeepsTurns A x (u ∷ us) = ComesInTurn A x u × KeepsTurns A (snapshot_after A x u) us

-- the snapshot after these units
unfoldable pub snapshot_behind : Inputs → Snapshot → List Entry → Snapshot
snapshot_behind A x [] = x
snapshot_behind A x (u ∷ us) = snapshot_behind A (snapshot_after A x u) us

-- the snapshot at which a journal ends, of a run that starts with these holdings
abbrev pub last_snapshot : Inputs → Holdings → List Entry → Snapshot
last_snapshot A holdings journal = snapshot_behind A (start_snapshot A holdings) (units_of journal)

-- The headline. The first processes' pieces of swap found their places. The journal is a run of a machine in which each process has
-- flat memory of its own, lent only during vfork, and nothing is paged. Before each of its units and after the last one every frame
-- and every block of swap has one owner or is free, and space is refused exactly where no extent of swap fits. Each unit comes in its
-- turn, and who steps has all pages of the step in frames that no transfer has. No more instructions are counted than may run.
pub record Headline (A : Inputs) (journal : List Entry) : Type 0 where
  pub holdings : Holdings
  pub found : start_held A ≡ Ok holdings
  pub joined : appended [] (units_of journal) ≡ journal
  pub flat : flat_run A journal ≡ Some (last_snapshot A holdings journal).point
  pub owned : KeepsOwners A (start_snapshot A holdings) (units_of journal)
  pub turns : KeepsTurns A (start_snapshot A holdings) (units_of journal)
  pub within : instructions_of journal ≤ A.limit

-- the headline holds of a journal that the written policy makes: each of its units is the next one by it, up to this state
pub record HeadlineByPolicy (A : Inputs) (journal : List Entry) : Type 0 where
  pub headline : Headline A journal
  pub state : State
  pub lawful : IsLawful A journal state

-- A journal that ends at this snapshot is over: as many instructions are counted as may run, or all lines are taken and no process
-- can step; and nothing is due.
abbrev pub RunIsOver : Inputs → List Entry → Snapshot → Type 0
RunIsOver A journal x =
    ((instructions_of journal ≡ A.limit) ⊎ ((length A.lines ≤ x.lines) × ((pid : ℕ) → 0 < pid → can_step x.point.flat pid ≡ false)))
    × (x.place.due ≡ [])

-- the headline holds of a journal that is over, and it is the finished one of the written policy, which has one
pub record HeadlineOver (A : Inputs) (journal : List Entry) : Type 0 where
  pub headline : Headline A journal
  pub over : RunIsOver A journal (last_snapshot A headline.holdings journal)
  pub state : State
  pub finished : IsFinished A journal state

-- the headline holds of a journal that the written policy makes, whose next unit has no room: it isn't joined to the last entry
pub record HeadlineFull (A : Inputs) (journal : List Entry) : Type 0 where
  pub made : HeadlineByPolicy A journal
  pub unit : Entry
  pub next : next_unit A made.state ≡ Some unit
  pub longer : length journal < length (append journal unit)
