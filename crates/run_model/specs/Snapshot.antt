-- What a run is without the marks of its policy: where all pages are, who holds which blocks, and which process runs.
use Rattle.std.specs.Prelude.{ℕ, ◌+◌, Bool, true, false, List, [], ◌∷◌, ◌++◌, filter_map, slice_get, length, Option, Some, None}
use Rattle.vm_facts.specs.Answers.{ByteWrite}
use Rattle.vm_facts.specs.declared.page.Page.{Page}
use Rattle.vm_facts.specs.declared.event.Event.{Event}
use Rattle.vm_facts.specs.declared.event.Event.TheVariants as events
use Rattle.vm_facts.specs.declared.entry.Entry.{Entry}
use Rattle.vm_facts.specs.declared.entry.Entry.TheVariants as entries
use Rattle.swap_book.specs.Holdings.{Holdings}
use Rattle.flat_state.specs.Flat.{Holding, Holds, Lends, Zombie, Process, FlatState, NamedImage, Inputs, image_numbered, process_of}
use Rattle.flat_state.specs.Space.{address_in}
use Rattle.flat_state.specs.Journal.{append}
use Rattle.kernel_model.specs.Pages.{is_valid}
use Rattle.kernel_model.specs.Placement.{Placement, Due, Start, CopyOf, Starting, start_placement, state_of}
use Rattle.kernel_model.specs.Place.{place_entry, place_step, facts_of}
use Rattle.flat_model.specs.Step.{Step}
use Rattle.flat_model.specs.Run.{Point, start_point, step_at, point_after}
use Rattle.flat_model.specs.Touched.{page_tested, touched}
use Rattle.flat_model.specs.Asked.{held_entry}

-- what pages and owners go by, at the start of a run or after a unit
pub record Snapshot : Type 0 where
  -- the flat machine's state, with the last flat entry
  pub point : Point
  pub place : Placement
  pub holdings : Holdings
  -- how many lines of the schedule were taken
  pub lines : ℕ
  -- the process that runs under the last line or turn, if one does
  pub running : Option ℕ
  -- joined; its length is the place at which a process comes in or goes out
  pub journal : List Entry

-- The start.

-- a process that starts in the image of this number; none where there is no such image
abbrev pub starting_as : ℕ → Option NamedImage → List Starting
starting_as number None = []
starting_as number (Some named) = record { image = number; facts = named.image.facts } ∷ []

-- the images in which the first processes start
abbrev pub starting : List NamedImage → List ℕ → List Starting
starting images [] = []
starting images (number ∷ more) = starting_as number (image_numbered images number) ++ starting images more

-- a run at its start, with the holdings of the first processes
abbrev pub start_snapshot : Inputs → Holdings → Snapshot
start_snapshot A hs = record {
  point = start_point A;
  place = start_placement (facts_of A.images) (starting A.images A.first) A.frames;
  holdings = hs;
  lines = 0;
  running = None;
  journal = [];
}

-- Pages that the hands pass over.

-- the pages that the next instruction of this process touches, in order; none without a process
abbrev pub touched_of : Inputs → FlatState → Option ℕ → List Page
touched_of A F None = []
touched_of A F (Some pid) = touched A F pid

-- this page and then the others where it is valid, else none
abbrev pub present_by : Bool → Page → List Page → List Page
present_by true q qs = q ∷ qs
present_by false q qs = []

-- those of these pages before the first that isn't valid
abbrev pub before_absent : Placement → List Page → List Page
before_absent p [] = []
before_absent p (q ∷ qs) = present_by (is_valid (state_of p q)) q (before_absent p qs)

-- the pages that the hands pass over, by the touched ones and the fills that are due
abbrev pub passed_over : Placement → List Page → List Due → List Page
passed_over p pages [] = before_absent p pages
passed_over p pages (Start q ∷ due) = []
passed_over p pages (CopyOf child parent ∷ due) = parent ∷ []

-- Pages that a step writes.

-- the page of each of these bytes, in order, in the space that is held; none of a lender or a zombie
abbrev pub written_in : Holding → List ByteWrite → List Page
written_in (Holds s) writes = filter_map (λ (w : ByteWrite). page_tested s (address_in s w.address)) writes
written_in (Lends sid child) writes = []
written_in (Zombie status) writes = []

-- the same of a process that may not be there: then there are none
abbrev pub written_by : Option Process → List ByteWrite → List Page
written_by None writes = []
written_by (Some q) writes = written_in q.holding writes

-- the page of each byte that a process's step writes, in order
abbrev pub pages_written : FlatState → ℕ → Step → List Page
pages_written F pid step = written_by (process_of F pid) step.writes

-- Units.

-- the process that a line of the schedule dispatches; without one none runs
abbrev pub dispatched_by : Option Event → Option ℕ
dispatched_by (Some (events.Dispatch pid count)) = Some pid
dispatched_by _ = None

-- the step of a process is complete with this entry
abbrev pub stepped : Inputs → Snapshot → ℕ → Entry → Snapshot
stepped A x pid e = record x {
  point = point_after A x.point pid;
  place = place_step (facts_of A.images) x.point.flat pid (length (append x.journal e)) (pages_written x.point.flat pid (step_at A x.point pid))
      (step_at A x.point pid).change x.place;
  holdings = held_entry A x.point e x.holdings;
}

-- A paging entry. The hands pass over the touched pages before the first that isn't valid; while a child's page is due, over the
-- parent's, and while a stack page is due, over none.
abbrev pub paged : Inputs → Snapshot → Entry → Snapshot
paged A x e = record x {
  place = place_entry (passed_over x.place (touched_of A x.point.flat x.running) x.place.due) (length (append x.journal e)) x.place e;
}

-- what a unit does, but for the journal
abbrev pub behind_unit : Inputs → Snapshot → Entry → Snapshot
behind_unit A x (entries.Event line) = record x { lines = x.lines + 1; running = dispatched_by (slice_get A.lines x.lines) }
behind_unit A x (entries.Turn pid) = record x { running = Some pid }
behind_unit A x (entries.Ran pid n) = stepped A x pid (entries.Ran pid n)
behind_unit A x (entries.Out pid bytes) = record x { point = point_after A x.point pid }
behind_unit A x (entries.Grew pid pages) = stepped A x pid (entries.Grew pid pages)
behind_unit A x (entries.Call pid number carry r0 r1) = stepped A x pid (entries.Call pid number carry r0 r1)
behind_unit A x (entries.Refused pid) = record x { point = record x.point { last = Some (entries.Refused pid) } }
behind_unit A x (entries.Sleeps pid) = stepped A x pid (entries.Sleeps pid)
behind_unit A x (entries.Ended pid status) = stepped A x pid (entries.Ended pid status)
behind_unit A x (entries.Owners free used moving held) = x
behind_unit A x e = paged A x e

-- what is so after a unit
abbrev pub snapshot_after : Inputs → Snapshot → Entry → Snapshot
snapshot_after A x e = record (behind_unit A x e) { journal = append x.journal e }
