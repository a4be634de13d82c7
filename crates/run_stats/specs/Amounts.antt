-- What an entry adds under each head, by what is noted of it.
use Rattle.std.specs.Prelude.{ℕ, ◌-◌, ◌==◌, Bool, false, nat_lt, if◌then◌else◌, List, [], ◌∷◌}
use Rattle.std.specs.List.{sum_by}
use Rattle.process_counts.specs.declared.amounts.Owner.{Owner}
use Rattle.process_counts.specs.declared.amounts.Owner.TheVariants.{Space, Image}
use Rattle.run_stats.specs.declared.look.Look.{Look}
use Rattle.run_stats.specs.declared.look.Flight.{Flight}
use Rattle.run_stats.specs.declared.look.Flight.TheVariants.{OfFile, OfSwap, ToSwap}
use Rattle.run_stats.specs.declared.noting.What.{What}
use Rattle.run_stats.specs.declared.noting.What.TheVariants.{Filled, Begun, Copied, Reclaimed, Moved, Ended, Swapped}
use Rattle.run_stats.specs.declared.noting.Note.{Note}
use Rattle.run_stats.specs.declared.heads.PagingHead.{PagingHead}
use Rattle.run_stats.specs.declared.heads.PagingHead.TheVariants.{ZeroFills, FileReads, FilePages, SwapReads, SwapPages, Reclaims, Copies}
use Rattle.run_stats.specs.declared.heads.RunHead.{RunHead}
use Rattle.run_stats.specs.declared.heads.RunHead.TheVariants.{HandMoves, MadeInvalid, FreedClean, HandWrites, ReclaimedBetween, FileTransfers, SwapTransfersIn, SwapTransfersOut, SwapRequests}
use Rattle.run_stats.specs.declared.heads.Head.{Head}
use Rattle.run_stats.specs.declared.heads.Head.TheVariants.{OfRunner, WrittenOf, OfRun}

-- Pages that come.

-- a page is filled with zeros
abbrev pub filled_with_zeros : What → ℕ
filled_with_zeros Filled = 1
filled_with_zeros _ = 0

-- a child's page is filled from its parent's
abbrev pub copied_from_parent : What → ℕ
copied_from_parent Copied = 1
copied_from_parent _ = 0

-- a page is found in the frame that still holds it
abbrev pub reclaimed : What → ℕ
reclaimed Reclaimed = 1
reclaimed _ = 0

-- a read begins: the transfer that began last reads from a file, or from swap
abbrev pub file_read : What → Flight → ℕ
file_read (Begun n) (OfFile pages) = 1
file_read _ _ = 0

-- the pages of a read that begins from a file
abbrev pub file_pages : What → Flight → ℕ
file_pages (Begun n) (OfFile pages) = n
file_pages _ _ = 0

-- a read begins from swap
abbrev pub swap_read : What → Flight → ℕ
swap_read (Begun n) (OfSwap pages) = 1
swap_read _ _ = 0

-- the pages of a read that begins from swap
abbrev pub swap_pages : What → Flight → ℕ
swap_pages (Begun n) (OfSwap pages) = n
swap_pages _ _ = 0

-- The hands.

-- the moves of the hands
abbrev pub hand_moves : What → ℕ
hand_moves (Moved count) = count
hand_moves _ = 0

-- the hands move: pages that were valid aren't any more
abbrev pub made_invalid : What → Look → Look → ℕ
made_invalid (Moved count) before after = before.valid - after.valid
made_invalid _ before after = 0

-- the hands move: more frames are free
abbrev pub freed_clean : What → Look → Look → ℕ
freed_clean (Moved count) before after = after.free - before.free
freed_clean _ before after = 0

-- the hands move: more frames are in transfers, which are written
abbrev pub hand_writes : What → Look → Look → ℕ
hand_writes (Moved count) before after = after.moving - before.moving
hand_writes _ before after = 0

-- a page is found in a frame that isn't free, between the hands: as many frames are free as before
abbrev pub reclaimed_between : What → Look → Look → ℕ
reclaimed_between Reclaimed before after = if before.free == after.free then 1 else 0
reclaimed_between _ before after = 0

-- The devices.

-- the transfer that ends has read from a file, read from swap, or written to it
abbrev pub file_transfer : What → Flight → ℕ
file_transfer Ended (OfFile pages) = 1
file_transfer _ _ = 0

-- the transfer that ends has read from swap
abbrev pub swap_transfer_in : What → Flight → ℕ
swap_transfer_in Ended (OfSwap pages) = 1
swap_transfer_in _ _ = 0

-- the transfer that ends has written to swap
abbrev pub swap_transfer_out : What → Flight → ℕ
swap_transfer_out Ended (ToSwap owner pages) = 1
swap_transfer_out _ _ = 0

-- the pages that are read from swap, or written to it: those of the transfer that ends, or the u page of a process that goes out or comes in
abbrev pub swap_requests : What → Flight → ℕ
swap_requests Ended (OfSwap pages) = pages
swap_requests Ended (ToSwap owner pages) = pages
swap_requests Swapped oldest = 1
swap_requests _ _ = 0

-- both are one space, or one image
abbrev pub is_same_owner : Owner → Owner → Bool
is_same_owner (Space a) (Space b) = a == b
is_same_owner (Image a) (Image b) = a == b
is_same_owner _ _ = false

-- the pages of an owner that the transfer which ends has written
abbrev pub pages_written : Owner → What → Flight → ℕ
pages_written owner Ended (ToSwap other pages) = if is_same_owner other owner then pages else 0
pages_written owner _ _ = 0

-- Heads.

-- what an entry adds under a head of the pages that come
abbrev pub paging_amount : PagingHead → Note → ℕ
paging_amount ZeroFills x = filled_with_zeros x.what
paging_amount FileReads x = file_read x.what x.after.newest
paging_amount FilePages x = file_pages x.what x.after.newest
paging_amount SwapReads x = swap_read x.what x.after.newest
paging_amount SwapPages x = swap_pages x.what x.after.newest
paging_amount Reclaims x = reclaimed x.what
paging_amount Copies x = copied_from_parent x.what

-- what an entry adds under a head of the whole run
abbrev pub run_amount : RunHead → Note → ℕ
run_amount HandMoves x = hand_moves x.what
run_amount MadeInvalid x = made_invalid x.what x.before x.after
run_amount FreedClean x = freed_clean x.what x.before x.after
run_amount HandWrites x = hand_writes x.what x.before x.after
run_amount ReclaimedBetween x = reclaimed_between x.what x.before x.after
run_amount FileTransfers x = file_transfer x.what x.before.oldest
run_amount SwapTransfersIn x = swap_transfer_in x.what x.before.oldest
run_amount SwapTransfersOut x = swap_transfer_out x.what x.before.oldest
run_amount SwapRequests x = swap_requests x.what x.before.oldest

-- what an entry adds under a head: of the process that runs, of an owner's pages, or of the run
abbrev pub head_amount : Head → Note → ℕ
head_amount (OfRunner pid head) x = if x.after.runner == pid then paging_amount head x else 0
head_amount (WrittenOf owner) x = pages_written owner x.what x.before.oldest
head_amount (OfRun head) x = run_amount head x

-- what all entries add under it
abbrev pub sum_of : Head → List Note → ℕ
sum_of head xs = sum_by (head_amount head) xs

-- Extremes.

-- the larger of two numbers
abbrev pub larger : ℕ → ℕ → ℕ
larger a b = if nat_lt a b then b else a

-- the smaller of two numbers
abbrev pub smaller : ℕ → ℕ → ℕ
smaller a b = if nat_lt b a then b else a

-- the most blocks that are held after an entry, or so many before the first
abbrev pub most_held : ℕ → List Note → ℕ
most_held first [] = first
most_held first (x ∷ xs) = most_held (larger first x.after.held) xs

-- the fewest frames that are free after an entry, or so many before the first
abbrev pub least_free : ℕ → List Note → ℕ
least_free first [] = first
least_free first (x ∷ xs) = least_free (smaller first x.after.free) xs
