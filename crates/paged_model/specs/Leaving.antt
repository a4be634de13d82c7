-- The lines by which processes go out and come in: `P`, `O` and `I`.
use Rattle.std.specs.Prelude.{ℕ, ◌==◌, Bool, true, false, not, find, Option, Some, None}
use Rattle.vm_facts.specs.declared.page.Page.{Page}
use Rattle.vm_facts.specs.declared.page.Page.TheVariants.{Data, Stack, Text}
use Rattle.vm_facts.specs.declared.page.PageState.{PageState}
use Rattle.vm_facts.specs.declared.page.PageState.TheVariants.{Invalid}
use Rattle.flat_state.specs.Flat.{Holding, Holds, Lends, Zombie, Process, FlatState, process_of}
use Rattle.flat_state.specs.Change.{is_borrower}
use Rattle.flat_state.specs.PageNames.{number_of, pages_from}
use Rattle.page_model.specs.Placement.{Placement, state_of, is_dirty}
use Rattle.page_model.specs.Runs.{is_seated}
use Rattle.page_model.specs.Place.{pages_of_space}
use Rattle.page_model.specs.Swapper.{is_out, is_settled, first_seated}
use Rattle.paged_model.specs.declared.reason.Reason.{Reason}
use Rattle.paged_model.specs.declared.reason.Reason.TheVariants as reasons
use Rattle.paged_model.specs.Reasons.{unless, or_reason}
use Rattle.paged_model.specs.Moves.{is_there, if_there, due_first, wrong_length, each_page, apart, no_room}

-- Who may go out.

-- a process that is in, in a space that it didn't borrow
abbrev pub may_not_go : FlatState → Placement → ℕ → Option Reason
may_not_go F p pid = or_reason (unless (not (is_borrower F.processes pid)) (reasons.Borrowed pid)) (unless (not (is_out p pid)) (reasons.IsOut pid))

-- what a process has is the space of this number
abbrev pub holds_it : ℕ → Holding → Bool
holds_it sid (Holds s) = s.sid == sid
holds_it sid (Lends lent child) = false
holds_it sid (Zombie status) = false

-- by who holds the space of this number: that process may go out
abbrev pub holder_by : FlatState → Placement → ℕ → Option Process → Option Reason
holder_by F p sid None = Some (reasons.NoHolder sid)
holder_by F p sid (Some q) = may_not_go F p q.pid

-- the process that holds the space of this number may go out
abbrev pub holder_stays : FlatState → Placement → ℕ → Option Reason
holder_stays F p sid = holder_by F p sid (find (λ q. holds_it sid q.holding) F.processes)

-- the page is of a space whose process may go out
abbrev pub owner_stays : FlatState → Placement → Page → Option Reason
owner_stays F p (Data sid v) = holder_stays F p sid
owner_stays F p (Stack sid v) = holder_stays F p sid
owner_stays F p (Text image v) = Some (reasons.OfText (Text image v))

-- `P`.

-- by the state of a page with no frame off the free list: its frame is free, or it has none
abbrev pub unseated_by : Page → PageState → Option Reason
unseated_by q (Invalid f) = Some (reasons.FrameIsFree q)
unseated_by q s = Some (reasons.InState q s)

-- by whether the page is in a frame off the free list
abbrev pub unseated_if : Placement → Page → Bool → Option Reason
unseated_if p q true = None
unseated_if p q false = unseated_by q (state_of p q)

-- the page isn't in a frame off the free list
abbrev pub unseated : Placement → Page → Option Reason
unseated p q = unseated_if p q (is_seated p q)

-- one page that is written with this one: there, in a frame off the free list, dirty and near
abbrev pub put_along : Placement → Page → Page → Option Reason
put_along p q w = if_there (is_there p w) w (or_reason (unseated p w) (or_reason (unless (is_dirty p w) (reasons.IsClean w)) (apart q w)))

-- by whether the page is dirty: then the write of the run begins, with room for it; a clean page is freed alone
abbrev pub put_reason_by : Placement → Page → ℕ → Bool → Option Reason
put_reason_by p q n true = or_reason (each_page (put_along p q) (pages_from q (number_of q) n)) (no_room p)
put_reason_by p q n false = unless (n == 1) (reasons.IsClean q)

-- Pages of a process that goes out: nothing is due, the process may go out, and the pages are in frames off the free list, all dirty, or one
-- that is clean.
abbrev pub put_reason : FlatState → Placement → Page → ℕ → Option Reason
put_reason F p q n =
    or_reason (due_first p.due)
    (or_reason (owner_stays F p q) (if_there (is_there p q) q (or_reason (wrong_length n) (or_reason (unseated p q) (put_reason_by p q n (is_dirty p q))))))

-- `O`.

-- by the first page of a space that is still in a frame off the free list
abbrev pub still_seated : Placement → Option Page → Option Reason
still_seated p None = None
still_seated p (Some q) = Some (reasons.InState q (state_of p q))

-- the process of this space goes out: it may, no transfer has a page of the space, and none is in a frame off the free list
abbrev pub space_stays : FlatState → Placement → ℕ → ℕ → Option Reason
space_stays F p pid sid =
    or_reason (may_not_go F p pid)
    (or_reason (unless (is_settled p sid) reasons.Unsettled) (still_seated p (first_seated p (pages_of_space p sid))))

-- by what the process has: a space
abbrev pub out_by : FlatState → Placement → ℕ → Holding → Option Reason
out_by F p pid (Holds s) = space_stays F p pid s.sid
out_by F p pid (Lends sid child) = Some (reasons.HoldsNone pid)
out_by F p pid (Zombie status) = Some (reasons.HoldsNone pid)

-- by whether the process is there
abbrev pub out_if : FlatState → Placement → ℕ → Option Process → Option Reason
out_if F p pid None = Some (reasons.NoProcess pid)
out_if F p pid (Some q) = out_by F p pid q.holding

-- A process goes out: nothing is due, and its space may go.
abbrev pub out_reason : FlatState → Placement → ℕ → Option Reason
out_reason F p pid = or_reason (due_first p.due) (out_if F p pid (process_of F pid))

-- `I`.

-- by whether the process is there: it is out
abbrev pub in_if : Placement → ℕ → Option Process → Option Reason
in_if p pid None = Some (reasons.NoProcess pid)
in_if p pid (Some q) = unless (is_out p pid) (reasons.IsIn pid)

-- A process comes in: nothing is due, and it is out.
abbrev pub in_reason : FlatState → Placement → ℕ → Option Reason
in_reason F p pid = or_reason (due_first p.due) (in_if p pid (process_of F pid))
