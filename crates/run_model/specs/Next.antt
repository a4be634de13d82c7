-- The written policy: which unit comes next of all.
use Rattle.std.specs.Prelude.{ℕ, ◌+◌, ◌-◌, Bool, true, false, not, ◌&&◌, nat_lt, List, [], ◌∷◌, find, length, Option, Some, None}
use Rattle.flat_state.specs.Flat.{Process, FlatState, Inputs, process_of, can_step, is_ready}
use Rattle.std.specs.Option.{is_some}
use Rattle.vm_facts.specs.declared.page.Page.{Page}
use Rattle.vm_facts.specs.declared.entry.Entry.{Entry}
use Rattle.vm_facts.specs.declared.entry.Entry.TheVariants as entries
use Rattle.swap_book.specs.Holdings.{Holdings}
use Rattle.kernel_model.specs.Placement.{Placement, Due, Start, CopyOf, parts_of}
use Rattle.kernel_model.specs.Place.{space_of_process}
use Rattle.kernel_model.specs.Hands.{hand_run, wants_moves}
use Rattle.kernel_model.specs.Serve.{force_entry, is_full, serve_unit}
use Rattle.kernel_model.specs.Swapper.{is_out, put_out_unit}
use Rattle.run_model.specs.declared.mark.Mark.{Mark}
use Rattle.run_model.specs.declared.mark.Mark.TheVariants as marks
use Rattle.run_model.specs.State.{State}
use Rattle.run_model.specs.Wanted.{wanted, locked}
use Rattle.run_model.specs.Act.{act}

-- this one where the condition holds, else none
abbrev pub when : {A : Type 0} → Bool → Option A → Option A
when true o = o
when false o = None

-- the first one, or where there is none the other
abbrev pub or_else : {A : Type 0} → Option A → Option A → Option A
or_else (Some x) other = Some x
or_else None other = other

-- Fills that are due.

-- this fill where one of these frames is free, else the entry of forcing a frame
abbrev pub fill_by : Placement → Entry → List ℕ → Entry
fill_by p e [] = force_entry p.transfers
fill_by p e (f ∷ fs) = e

-- this fill, and before it a frame is forced where none is free
abbrev pub fill_unit : Placement → Entry → Entry
fill_unit p e = fill_by p e p.free

-- the unit that serves the parent's page; where there is none, the copy, and before it a frame is forced where none is free
abbrev pub copy_unit_by : Placement → Page → Option Entry → Entry
copy_unit_by p q (Some e) = e
copy_unit_by p q None = fill_unit p (entries.Copy q)

-- the unit of what is due first: a new stack page is filled; a child's page is copied, once its parent's is valid
abbrev pub due_unit : Placement → List Due → Option Entry
due_unit p [] = None
due_unit p (Start q ∷ due) = Some (fill_unit p (entries.Zero q))
due_unit p (CopyOf q parent ∷ due) = Some (copy_unit_by p q (serve_unit p parent true))

-- A process that runs.

-- it can step, and neither all instructions of the run nor those up to this count are counted
abbrev pub goes_on : Inputs → State → ℕ → ℕ → Bool
goes_on A s pid until = can_step s.point.flat pid && (nat_lt s.count A.limit && nat_lt s.count until)

-- the next unit of a process that runs, by the page that is wanted, if any
abbrev pub work_by : Inputs → State → ℕ → Bool → Option Page → Option Entry
work_by A s pid now None = act A s pid
work_by A s pid now (Some q) = serve_unit s.place q now

-- the wanted page is served, or, where none is wanted, the process acts
abbrev pub work : Inputs → State → ℕ → Bool → Option Entry
work A s pid now = work_by A s pid now (wanted A s)

-- the unit of a turn, by whether the process is out
abbrev pub turn_by : Inputs → State → ℕ → Bool → Option Entry
turn_by A s pid true = Some (entries.SwapIn pid)
turn_by A s pid false = work A s pid true

-- in a turn a process that is out comes in first, and its pages are served now
abbrev pub turn_unit : Inputs → State → ℕ → Option Entry
turn_unit A s pid = turn_by A s pid (is_out s.place pid)

-- the instructions of one turn
abbrev pub turn_instructions : ℕ
turn_instructions = 1000

-- Moves of the hands.

-- the next move would begin a write
abbrev pub begins_write : Placement → List Page → Bool
begins_write p pages = is_some (hand_run p pages)

-- a move of the hands, by whether the oldest transfer has to end before it
abbrev pub move_by : Bool → Entry
move_by true = entries.Done
move_by false = entries.Hands 1

-- a move; before it the oldest transfer ends, where the move would begin a write and there is no room for that
abbrev pub move_unit : Placement → List Page → Entry
move_unit p pages = move_by (begins_write p pages && is_full p)

-- Numbers of frames and blocks.

-- how many blocks of swap are held in all
abbrev pub blocks_held : Holdings → ℕ
blocks_held [] = 0
blocks_held (h ∷ hs) = h.length + blocks_held hs

-- the frames that are free, in use off the free list, and in transfers, and the blocks that are held
abbrev pub owners_of : Placement → Holdings → Entry
owners_of p hs =
    entries.Owners (length p.free) (length p.holds - (length p.free + length (parts_of p.transfers))) (length (parts_of p.transfers))
    (blocks_held hs)

-- the entry of an audit, with the numbers as they are at this state
abbrev pub owners_entry : State → Entry
owners_entry s = owners_of s.place s.holdings

-- The last mark.

-- what is still to come of a mark; none where it is over
abbrev pub under : Inputs → State → Mark → Option Entry
under A s marks.Over = None
under A s (marks.Dispatch pid count since) = when (goes_on A s pid (since + count) && not (is_out s.place pid)) (work A s pid false)
under A s marks.Interrupt = Some entries.Done
under A s (marks.Hands count) = when (nat_lt 0 count && wants_moves s.place) (Some (move_unit s.place (locked A s)))
under A s (marks.BringIn pid) = Some (entries.SwapIn pid)
under A s (marks.PutOut pid) = Some (put_out_unit s.place pid (space_of_process (process_of s.point.flat pid)))
under A s marks.Audit = Some (owners_entry s)
under A s (marks.Turn pid since) = when (goes_on A s pid (since + turn_instructions)) (turn_unit A s pid)

-- The next mark.

-- the process of the last turn; before the first there is none
abbrev pub last_turned : Mark → ℕ
last_turned (marks.Turn pid since) = pid
last_turned _ = 0

-- the number of a process, if there is one
abbrev pub pid_if : Option Process → Option ℕ
pid_if None = None
pid_if (Some q) = Some q.pid

-- the first process above this one that can step
abbrev pub next_ready : FlatState → ℕ → Option ℕ
next_ready F above = pid_if (find (λ q. is_ready q && nat_lt above q.pid) F.processes)

-- the process of the next turn: the lowest above the last turn's that can step, or else the lowest that can step
abbrev pub next_turned : FlatState → ℕ → Option ℕ
next_turned F last = or_else (next_ready F last) (next_ready F 0)

-- a turn of this process; none where there is no process
abbrev pub turn_of : Option ℕ → Option Entry
turn_of None = None
turn_of (Some pid) = Some (entries.Turn pid)

-- the next line of the schedule, or a turn after the last one
abbrev pub line_or_turn : State → Bool → Option Entry
line_or_turn s true = Some (entries.Event (s.lines + 1))
line_or_turn s false = turn_of (next_turned s.point.flat (last_turned s.mark))

-- the next mark; none where as many instructions ran as may, or no process can step after the last line
abbrev pub next_mark : Inputs → State → Option Entry
next_mark A s = when (nat_lt s.count A.limit) (line_or_turn s (nat_lt s.lines (length A.lines)))

-- The next unit, or none: what is due, then what is still to come of the last mark, then the next mark.
unfoldable pub next_unit : Inputs → State → Option Entry
next_unit A s = or_else (due_unit s.place s.place.due) (or_else (under A s s.mark) (next_mark A s))
