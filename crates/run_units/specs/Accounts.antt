-- The account of a run: what is so at each of its units, as one definition.
use Rattle.std.specs.Prelude.{◌≡◌, ◌≢◌, ◌⊎◌, ℕ, List, [], ◌∷◌, Some, None}
use Rattle.vm_facts.specs.declared.page.Page.{Page}
use Rattle.vm_facts.specs.declared.entry.Entry.{Entry}
use Rattle.vm_facts.specs.declared.entry.Entry.TheVariants as entries
use Rattle.flat_state.specs.Flat.{Inputs}
use Rattle.page_model.specs.Pages.{frame_of}
use Rattle.page_model.specs.Placement.{Placement, state_of}
use Rattle.page_model.specs.Runs.{run_in}
use Rattle.page_laws.specs.Leaving.{IsDirtyIn, IsUnwritten, StaysOrWritten}
use Rattle.flat_model.specs.Run.{process_of_entry}
use Rattle.run_model.specs.State.{State}
use Rattle.run_model.specs.After.{snapshot_of, after}
use Rattle.economy_laws.specs.RunLawsRunning.{ReadyToStep}
use Rattle.economy_laws.specs.Turns.{ComesInTurn}
use Rattle.economy_laws.specs.Called.{IsWanted, IsStartDue, IsCopyDue, IsParentOfDue, IsSmallRead}
use Rattle.economy_laws.specs.Lost.{IsLost}
use Rattle.economy_laws.specs.Cleaned.{IsCleaned}
use Rattle.run_units.specs.Owners.{IsOwned, RefusesRightly}

-- so of each of these units, at the state before it
abbrev pub AtEach : (Inputs → State → Entry → Type 0) → Inputs → State → List Entry → Type 0
AtEach P A s [] = Unit {0}
AtEach P A s (u ∷ us) = P A s u × AtEach P A (after A s u) us

-- Pages that come.

-- the run of pages that is read with a page, which is small
pub record IsRunRead (p : Placement) (q : Page) (lo n : ℕ) : Type 0 where
  pub first : lo ≡ (run_in p q).lo
  pub many : n ≡ (run_in p q).n
  pub small : IsSmallRead p q lo n

-- A page comes only where it is called for: it is wanted by the process that runs, or due, or the parent's of a page that is due
-- for a copy.
abbrev pub IsCalledFor : Inputs → State → Entry → Type 0
IsCalledFor A s (entries.Zero q) = IsWanted A s q ⊎ IsStartDue s.place q
IsCalledFor A s (entries.Get q lo n) = (IsWanted A s q ⊎ IsParentOfDue s.place q) × IsRunRead s.place q lo n
IsCalledFor A s (entries.Reclaim q) = IsWanted A s q ⊎ IsParentOfDue s.place q
IsCalledFor A s (entries.Copy q) = IsCopyDue s.place q
IsCalledFor A s u = Unit {0}

-- The account.

-- What is so of a unit, at the state before it: after it each frame and block has one owner or is free; where it is an entry of a
-- process, that can step, is in, and has all pages that its instruction touches; it comes in its turn, and who steps does so in memory;
-- space is refused where there is none; pages come
-- as they are called for; a page that lost its frame did so for a reason; a dirty page is so still, or was written or given up;
-- and what must be written, text among it, stays off the free list till its write has ended, but for units of processes.
pub record IsAccounted (A : Inputs) (s : State) (u : Entry) : Type 0 where
  pub owned : IsOwned A (snapshot_of (after A s u))
  pub ready : (pid : ℕ) → process_of_entry u ≡ Some pid → ReadyToStep A s pid
  pub turn : ComesInTurn A (snapshot_of s) u
  pub refusal : RefusesRightly A (snapshot_of s) u
  pub called : IsCalledFor A s u
  pub leaves : (q : Page) (f : ℕ) → frame_of (state_of s.place q) ≡ Some f → frame_of (state_of (after A s u).place q) ≢ Some f
      → IsLost A s u q f
  pub written : (q : Page) (f : ℕ) → IsDirtyIn s.place q f → IsDirtyIn (after A s u).place q f ⊎ IsCleaned A s u q f
  pub held : (q : Page) (f : ℕ) → process_of_entry u ≡ None → IsUnwritten s.place q f → StaysOrWritten s.place u (after A s u).place q f

-- units of a run from this state on
pub record Account (A : Inputs) (s : State) (us : List Entry) : Type 0 where
  pub owned : IsOwned A (snapshot_of s)
  pub each : AtEach IsAccounted A s us
