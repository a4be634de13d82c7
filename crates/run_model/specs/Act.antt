-- What the running process does next, once the pages that it touches are valid: step, refusal, or settling first.
use Rattle.std.specs.Prelude.{◌≡◌, ◌⊎◌, ℕ, ◌==◌, Bool, true, false, not, ◌&&◌, ◌||◌, nat_lt, List, [], ◌∷◌, Option, Some, None}
use Rattle.flat_state.specs.Space.{Space}
use Rattle.flat_state.specs.Flat.{Holding, Holds, Lends, Zombie, Process, FlatState, Inputs, process_of, can_step}
use Rattle.vm_facts.specs.declared.entry.Entry.{Entry}
use Rattle.vm_facts.specs.declared.entry.Entry.TheVariants as entries
use Rattle.swap_book.specs.Placing.{fits}
use Rattle.flat_state.specs.declared.change.Change.{Change}
use Rattle.flat_state.specs.declared.change.Change.TheVariants as changes
use Rattle.kernel_model.specs.Placement.{Placement}
use Rattle.flat_state.specs.Change.{is_borrower}
use Rattle.kernel_model.specs.Swapper.{is_settled}
use Rattle.flat_model.specs.Calls.{stack_pages_of}
use Rattle.flat_model.specs.Step.{flat_step, data_pages_of}
use Rattle.flat_model.specs.Run.{step_at, is_refused, process_of_entry, entry_of_step as next_of_step}
use Rattle.flat_model.specs.Asked.{asks}
use Rattle.run_model.specs.State.{State}
use Rattle.run_model.specs.After.{after}

-- what the process asks for finds no place, and the journal doesn't say so yet
abbrev pub must_refuse : Inputs → State → ℕ → Bool
must_refuse A s pid = not (is_refused s.point.last pid) && not (fits A.swap_blocks s.holdings (asks A s.point.flat pid))

-- a change gives up its process's space, which it borrowed or not, or drops pages of it
abbrev pub loses_pages : Space → Bool → Change → Bool
loses_pages s borrowed (changes.Resize data_pages stack_pages) =
    nat_lt data_pages (data_pages_of s) || nat_lt stack_pages (stack_pages_of s)
loses_pages s borrowed (changes.Exec image top) = not borrowed
loses_pages s borrowed (changes.End status) = not borrowed
loses_pages s borrowed _ = false

-- no transfer names a page of the space that the process holds, nor of its text where nobody shares that
abbrev pub settled_in : Placement → Holding → Bool
settled_in p (Holds s) = is_settled p s.sid
settled_in p (Lends sid child) = true
settled_in p (Zombie status) = true

-- the same of a process that may not be there: then there is nothing to settle
abbrev pub settled_if : Placement → Option Process → Bool
settled_if p None = true
settled_if p (Some q) = settled_in p q.holding

-- no transfer names a page of the space that this process holds, nor of its text where no other space shares that
abbrev pub settled : FlatState → Placement → ℕ → Bool
settled F p pid = settled_if p (process_of F pid)

-- a change gives up or cuts the space of this holding; a lender and a zombie have none to lose
abbrev pub loses_in : Bool → Change → Holding → Bool
loses_in borrowed change (Holds s) = loses_pages s borrowed change
loses_in borrowed change (Lends sid child) = false
loses_in borrowed change (Zombie status) = false

-- the same of a process that may not be there: then no pages are lost
abbrev pub loses_if : Bool → Change → Option Process → Bool
loses_if borrowed change None = false
loses_if borrowed change (Some q) = loses_in borrowed change q.holding

-- the process's step gives up its space or drops pages of it
abbrev pub step_loses : Inputs → State → ℕ → Bool
step_loses A s pid =
    loses_if (is_borrower s.point.flat.processes pid) (step_at A s.point pid).change (process_of s.point.flat pid)

-- such a step waits till no transfer has a page of the space
abbrev pub must_settle : Inputs → State → ℕ → Bool
must_settle A s pid = step_loses A s pid && not (settled s.point.flat s.place pid)

-- by whether its pieces are refused, and whether its space has to settle
abbrev pub act_by : Inputs → State → ℕ → Bool → Bool → Option Entry
act_by A s pid true settling = Some (entries.Refused pid)
act_by A s pid false true = Some entries.Done
act_by A s pid false false = next_of_step A s.point pid

-- the next unit of a process, by whether it can step
abbrev pub act_if : Bool → Inputs → State → ℕ → Option Entry
act_if true A s pid = act_by A s pid (must_refuse A s pid) (must_settle A s pid)
act_if false A s pid = None

-- The next unit of a process, all of whose touched pages are valid: `Refused`, where what it asks for finds no place;
-- `Done`, where its step waits for transfers of its space; otherwise the next entry of its step. None where it can't
-- step.
unfoldable pub act : Inputs → State → ℕ → Option Entry
act A s pid = act_if (can_step s.point.flat pid) A s pid

-- Runs of units.

-- the last flat entry leaves what is next to this process: it isn't another one's `Refused` or `Out`
abbrev pub awaits : Option Entry → ℕ → Bool
awaits (Some (entries.Refused p)) pid = p == pid
awaits (Some (entries.Out p bytes)) pid = p == pid
awaits _ pid = true

-- a process does this next
pub record IsNext (A : Inputs) (s : State) (u : Entry) : Type 0 where
  pub pid : ℕ
  pub next : act A s pid ≡ Some u
  pub awaited : awaits s.point.last pid ≡ true

-- each of these units is no flat entry, or what a process does next
abbrev pub AllNext : Inputs → State → List Entry → Type 0
AllNext A s [] = Unit {0}
AllNext A s (u ∷ us) = ((process_of_entry u ≡ None) ⊎ IsNext A s u) × AllNext A (after A s u) us

-- the last flat entry is so of the flat state: who is refused asks for pieces, and what was written begins a step
abbrev pub LastSays : Inputs → FlatState → Option Entry → Type 0
LastSays A F (Some (entries.Refused p)) = asks A F p ≡ [] → ⊥
LastSays A F (Some (entries.Out p bytes)) = (behind : List Entry) × ((flat_step A F p false).entries ≡ entries.Out p bytes ∷ behind)
LastSays A F _ = Unit {0}
