-- The state of a whole run: the flat machine, where all pages are, who holds which blocks, and the last mark.
use Rattle.std.specs.Prelude.{ℕ, List, [], filter_map, Option, Some, None}
use Rattle.flat_state.specs.Flat.{Holding, Holds, Lends, Zombie, Process, FlatState, Inputs}
use Rattle.vm_facts.specs.declared.entry.Entry.{Entry}
use Rattle.swap_book.specs.Holdings.{Holdings}
use Rattle.kernel_model.specs.Placement.{Placement}
use Rattle.flat_state.specs.Change.{is_borrower}
use Rattle.kernel_model.specs.Swapper.{Runner}
use Rattle.run_model.specs.declared.mark.Mark.{Mark}
use Rattle.run_model.specs.declared.mark.Mark.TheVariants as marks
use Rattle.flat_model.specs.Run.{Point}
use Rattle.run_model.specs.Snapshot.{start_snapshot}

-- the state of a run, at its start or after a unit
pub record State : Type 0 where
  -- the flat machine's state, with the last flat entry
  pub point : Point
  pub place : Placement
  pub holdings : Holdings
  -- how many instructions were counted
  pub count : ℕ
  -- how many lines of the schedule were taken
  pub lines : ℕ
  pub mark : Mark
  -- joined; its length is the place at which a process comes in or goes out
  pub journal : List Entry

-- The start.

-- a run at its start, with the holdings of the first processes
abbrev pub start : Inputs → Holdings → State
start A hs = record {
  point = (start_snapshot A hs).point;
  place = (start_snapshot A hs).place;
  holdings = hs;
  count = 0;
  lines = 0;
  mark = marks.Over;
  journal = [];
}

-- What the swapper asks of the processes.

-- a process as the swapper sees it, by what it holds; none where it holds no space
abbrev pub runner_by : FlatState → Process → Holding → Option Runner
runner_by F q (Holds s) = Some (record { pid = q.pid; sid = s.sid; borrowed = is_borrower F.processes q.pid; asleep = q.asleep })
runner_by F q (Lends sid child) = None
runner_by F q (Zombie status) = None

-- the processes that hold a space, by rising pid
abbrev pub runners : FlatState → List Runner
runners F = filter_map (λ q. runner_by F q q.holding) F.processes
