-- What is looked at of a run's state: who runs, what the frames have, the blocks held, and the transfers in flight.
use Rattle.std.specs.Prelude.{ℕ, ◌-◌, List, [], ◌∷◌, length, slice_get, Option, Some, None}
use Rattle.std.specs.List.{sum_by}
use Rattle.vm_facts.specs.declared.page.Page.{Page}
use Rattle.vm_facts.specs.declared.page.PageState.{PageState}
use Rattle.vm_facts.specs.declared.page.PageState.TheVariants.{Valid}
use Rattle.swap_book.specs.Holdings.{Holdings}
use Rattle.page_model.specs.Frames.{count_up}
use Rattle.page_model.specs.Placement.{FromSwap, FromFile, Errand, Writes, Reads, Part, Transfer, Placement, state_of, page_of, parts_of}
use Rattle.run_model.specs.declared.mark.Mark.{Mark}
use Rattle.run_model.specs.declared.mark.Mark.TheVariants as marks
use Rattle.run_model.specs.State.{State}
use Rattle.run_model.specs.Next.{blocks_held}
use Rattle.process_counts.specs.Counts.{page_owner}
use Rattle.run_stats.specs.declared.look.Flight.{Flight}
use Rattle.run_stats.specs.declared.look.Flight.TheVariants as flights
use Rattle.run_stats.specs.declared.look.Look.{Look}

-- 1 for a page that is valid
abbrev pub valid_one : PageState → ℕ
valid_one (Valid f) = 1
valid_one _ = 0

-- 1 where a frame holds a page that is valid
abbrev pub valid_of : Placement → Option Page → ℕ
valid_of p None = 0
valid_of p (Some q) = valid_one (state_of p q)

-- 1 for a frame whose page is valid
abbrev pub valid_frame : Placement → ℕ → ℕ
valid_frame p f = valid_of p (page_of p f)

-- how many frames have a page that is valid
abbrev pub valid_frames : Placement → ℕ
valid_frames p = sum_by (valid_frame p) (count_up 1 (length p.holds))

-- a transfer by where its pages go: how many they are, and of those that are written whose the first one is
abbrev pub flight_by : Errand → List Part → Flight
flight_by Writes [] = flights.Empty
flight_by Writes (x ∷ xs) = flights.ToSwap (page_owner x.page) (length (x ∷ xs))
flight_by (Reads FromSwap demanded) xs = flights.OfSwap (length xs)
flight_by (Reads FromFile demanded) xs = flights.OfFile (length xs)

-- the same of a transfer, if there is one
abbrev pub flight_of : Option Transfer → Flight
flight_of None = flights.Empty
flight_of (Some t) = flight_by t.errand t.parts

-- the transfer that began last
abbrev pub newest_of : List Transfer → Option Transfer
newest_of ts = slice_get ts (length ts - 1)

-- the number of the process that runs under a mark; 0 where none does
abbrev pub runner_of : Mark → ℕ
runner_of (marks.Dispatch pid count since) = pid
runner_of (marks.Turn pid since) = pid
runner_of _ = 0

-- what is looked at, by the last mark, the placement and the holdings
abbrev pub look_of : Mark → Placement → Holdings → Look
look_of mark p hs = record {
  runner = runner_of mark;
  valid = valid_frames p;
  free = length p.free;
  moving = length (parts_of p.transfers);
  held = blocks_held hs;
  oldest = flight_of (slice_get p.transfers 0);
  newest = flight_of (newest_of p.transfers);
}

-- what is looked at of a state
abbrev pub look_at : State → Look
look_at s = look_of s.mark s.place s.holdings
