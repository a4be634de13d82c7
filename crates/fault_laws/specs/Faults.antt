-- The faults of a run, and the least that any replacement has.
use Rattle.std.specs.Prelude.{◌≡◌, ℕ, ◌+◌, ◌<◌, ◌≤◌, List, [], ◌∷◌, map}
use Rattle.vm_facts.specs.declared.page.Page.{Page}
use Rattle.vm_facts.specs.declared.entry.Entry.{Entry}
use Rattle.vm_facts.specs.declared.entry.Entry.TheVariants as entries
use Rattle.swap_book.specs.Holdings.{Holdings}
use Rattle.flat_state.specs.Flat.{Inputs}
use Rattle.run_model.specs.State.{State}
use Rattle.run_model.specs.Lawful.{Reaches}
use Rattle.run_laws.specs.Running.{CanRun}
use Rattle.economy_laws.specs.Stretch.{copies_of}
use Rattle.replay_check.specs.Verdicts.{references_of}
use Rattle.fault_laws.specs.Memory.{HasPlan, NoneFewer}

-- how many faults an entry is: one where a page that is asked for is filled with zeros, read or reclaimed
abbrev pub own_fault : Entry → ℕ
own_fault (entries.Zero q) = 1
own_fault (entries.Get q lo n) = 1
own_fault (entries.Reclaim q) = 1
own_fault _ = 0

-- how many faults these entries are
abbrev pub own_faults : List Entry → ℕ
own_faults [] = 0
own_faults (e ∷ es) = own_fault e + own_faults es

-- For as many frames as a run has, or more, its references have a plan with at most as many faults as it has faults and copies,
-- however pages are numbered.
abbrev pub RunsHavePlans : Type 0
RunsHavePlans = (A : Inputs) (hs : Holdings) (journal : List Entry) (s : State) (number : Page → ℕ) (n : ℕ)
    → CanRun A hs → Reaches A journal s → A.frames ≤ n
    → HasPlan (map number (references_of A journal)) n (own_faults journal + copies_of journal)

-- So these are at least as many as the least faults of a plan.
abbrev pub RunsFaultEnough : Type 0
RunsFaultEnough = (A : Inputs) (hs : Holdings) (journal : List Entry) (s : State) (number : Page → ℕ) (n least : ℕ)
    → CanRun A hs → Reaches A journal s → A.frames ≤ n → NoneFewer (map number (references_of A journal)) n least
    → least ≤ own_faults journal + copies_of journal

-- each page has a number of its own
abbrev pub IsNumbering : (Page → ℕ) → Type 0
IsNumbering number = (p q : Page) → number p ≡ number q → p ≡ q

-- A run with fewer faults than the least of any replacement with as many frames.
pub record IsBelowLeast (A : Inputs) : Type 0 where
  pub holdings : Holdings
  pub can : CanRun A holdings
  pub journal : List Entry
  pub state : State
  pub reaches : Reaches A journal state
  pub least : ℕ
  pub none_fewer : (number : Page → ℕ) → IsNumbering number → NoneFewer (map number (references_of A journal)) A.frames least
  pub below : own_faults journal < least

-- There is such a run, so the copies have to be counted.
abbrev pub CopiesCount : Type 0
CopiesCount = (A : Inputs) × IsBelowLeast A
