-- The tables of a tally, and of which notes it is the tally.
use Rattle.std.specs.Prelude.{◌≡◌, ℕ, ◌*◌, ◌^◌, ◌≤◌, List, length}
use Rattle.process_counts.specs.declared.amounts.Owner.{Owner}
use Rattle.process_counts.specs.declared.amounts.Owner.TheVariants.{Space, Image}
use Rattle.process_counts.specs.Tables.{count_at}
use Rattle.run_stats.specs.declared.look.Look.{Look}
use Rattle.run_stats.specs.declared.noting.Note.{Note}
use Rattle.run_stats.specs.declared.heads.PagingHead.{PagingHead}
use Rattle.run_stats.specs.declared.heads.PagingHead.TheVariants.{ZeroFills, FileReads, FilePages, SwapReads, SwapPages, Reclaims, Copies}
use Rattle.run_stats.specs.declared.heads.RunHead.{RunHead}
use Rattle.run_stats.specs.declared.heads.RunHead.TheVariants.{HandMoves, MadeInvalid, FreedClean, HandWrites, ReclaimedBetween, FileTransfers, SwapTransfersIn, SwapTransfersOut, SwapRequests}
use Rattle.run_stats.specs.declared.heads.Head.{Head}
use Rattle.run_stats.specs.declared.heads.Head.TheVariants.{OfRunner, WrittenOf, OfRun}
use Rattle.run_stats.specs.declared.sums.PagingSums.{PagingSums}
use Rattle.run_stats.specs.declared.sums.WrittenSums.{WrittenSums}
use Rattle.run_stats.specs.declared.sums.RunSums.{RunSums}
use Rattle.run_stats.specs.declared.sums.Tally.{Tally}
use Rattle.run_stats.specs.Amounts.{sum_of, most_held, least_free}

-- the table of a head of the pages that come
abbrev pub paging_table : PagingHead → PagingSums → List ℕ
paging_table ZeroFills sums = sums.zero_fills.items
paging_table FileReads sums = sums.file_reads.items
paging_table FilePages sums = sums.file_pages.items
paging_table SwapReads sums = sums.swap_reads.items
paging_table SwapPages sums = sums.swap_pages.items
paging_table Reclaims sums = sums.reclaims.items
paging_table Copies sums = sums.copies.items

-- what came while the process of this number ran
abbrev pub paging_sum : PagingSums → ℕ → PagingHead → ℕ
paging_sum sums pid head = count_at (paging_table head sums) pid

-- the pages of an owner that were written
abbrev pub written_sum : WrittenSums → Owner → ℕ
written_sum sums (Space sid) = count_at sums.spaces.items sid
written_sum sums (Image image) = count_at sums.images.items image

-- the sum under a head of the whole run
abbrev pub run_sum : RunSums → RunHead → ℕ
run_sum sums HandMoves = sums.hand_moves
run_sum sums MadeInvalid = sums.made_invalid
run_sum sums FreedClean = sums.freed_clean
run_sum sums HandWrites = sums.hand_writes
run_sum sums ReclaimedBetween = sums.reclaimed_between
run_sum sums FileTransfers = sums.file_transfers
run_sum sums SwapTransfersIn = sums.swap_transfers_in
run_sum sums SwapTransfersOut = sums.swap_transfers_out
run_sum sums SwapRequests = sums.swap_requests

-- the sum under any head
abbrev pub sum_in : Tally → Head → ℕ
sum_in t (OfRunner pid head) = paging_sum t.paging pid head
sum_in t (WrittenOf owner) = written_sum t.written owner
sum_in t (OfRun head) = run_sum t.run head

-- it is the tally of these notes, where this was looked at before the first
pub record Tallies (t : Tally) (first : Look) (notes : List Note) : Type 0 where
  pub sums : (head : Head) → sum_in t head ≡ sum_of head notes
  pub small : (head : Head) → sum_in t head ≤ 2 ^ 64 * length notes
  pub most : t.most_held ≡ most_held first.held notes
  pub least : t.least_free ≡ least_free first.free notes
