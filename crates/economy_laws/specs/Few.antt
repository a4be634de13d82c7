-- How many entries a journal has at most, by the instructions and children that it counts.
use Rattle.std.specs.Prelude.{ℕ, ◌+◌, ◌*◌, ◌≤◌, Bool, true, false, List, [], ◌∷◌, length}
use Rattle.std.specs.List.{count_by}
use Rattle.vm_facts.specs.declared.event.Event.{Event}
use Rattle.vm_facts.specs.declared.event.Event.TheVariants as events
use Rattle.vm_facts.specs.declared.entry.Entry.{Entry}
use Rattle.vm_facts.specs.declared.entry.Entry.TheVariants as entries
use Rattle.swap_book.specs.Holdings.{Holdings}
use Rattle.flat_state.specs.Flat.{Inputs}
use Rattle.flat_state.specs.Journal.{instructions_of}
use Rattle.run_model.specs.State.{State}
use Rattle.run_model.specs.Lawful.{Reaches}
use Rattle.run_laws.specs.Sized.{InputsSized}
use Rattle.run_laws.specs.Running.{CanRun}
use Rattle.run_laws.specs.Visible.{is_fork}

-- a process falls asleep
abbrev pub is_sleep : Entry → Bool
is_sleep (entries.Sleeps pid) = true
is_sleep _ = false

-- a turn of the closing phase begins
abbrev pub is_turn : Entry → Bool
is_turn (entries.Turn pid) = true
is_turn _ = false

-- a page of a child is copied
abbrev pub is_copy : Entry → Bool
is_copy (entries.Copy q) = true
is_copy _ = false

-- a process that falls asleep began with the run, or as a child
abbrev pub SleepsAreFew : Type 0
SleepsAreFew = (A : Inputs) (hs : Holdings) (journal : List Entry) (s : State) → CanRun A hs → Reaches A journal s
    → count_by is_sleep journal ≤ length A.first + count_by is_fork journal

-- a turn is the first, or begins after an instruction, or where a process fell asleep
abbrev pub TurnsAreFew : Type 0
TurnsAreFew = (A : Inputs) (hs : Holdings) (journal : List Entry) (s : State) → CanRun A hs → Reaches A journal s
    → count_by is_turn journal ≤ instructions_of journal + count_by is_sleep journal + 1

-- for each child at most 4,608 pages are copied, as many as a space has
abbrev pub CopiesAreFew : Type 0
CopiesAreFew = (A : Inputs) (hs : Holdings) (journal : List Entry) (s : State) → CanRun A hs → InputsSized A → Reaches A journal s
    → count_by is_copy journal ≤ 4608 * count_by is_fork journal

-- how many moves of the hands these lines of a schedule ask for
abbrev pub moves_asked : List Event → ℕ
moves_asked [] = 0
moves_asked (events.Hands count ∷ more) = count + moves_asked more
moves_asked (event ∷ more) = moves_asked more

-- The most entries: 244 for each instruction and 73,947 for each child; 227 for each first process; 9,234 for each line of the
-- schedule, and 2 for each move of the hands that it asks for; and 219.
abbrev pub most_entries : Inputs → (instructions children : ℕ) → ℕ
most_entries A instructions children =
    244 * instructions + 73947 * children + 227 * length A.first + (9234 * length A.lines + 2 * moves_asked A.lines) + 219

-- a journal has at most so many entries, by its instructions, its children and the inputs
abbrev pub JournalsAreShort : Type 0
JournalsAreShort = (A : Inputs) (hs : Holdings) (journal : List Entry) (s : State) → CanRun A hs → InputsSized A → Reaches A journal s
    → length journal ≤ most_entries A (instructions_of journal) (count_by is_fork journal)
