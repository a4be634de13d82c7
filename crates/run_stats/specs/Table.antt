-- The table of a run's counts: its processes, its spaces, its images, and the whole.
use Rattle.std.specs.Prelude.{ℕ, zero, suc, List, [], ◌++◌, codes}
use Rattle.std.specs.List.{flat_map}
use Rattle.vm_facts.specs.declared.entry.Entry.{Entry}
use Rattle.process_counts.specs.declared.amounts.Owner.TheVariants.{Space, Image}
use Rattle.process_counts.specs.declared.amounts.ProcessHead.{ProcessHead}
use Rattle.process_counts.specs.Counts.{total}
use Rattle.run_stats.specs.declared.look.Look.{Look}
use Rattle.run_stats.specs.declared.noting.Note.{Note}
use Rattle.run_stats.specs.declared.heads.PagingHead.{PagingHead}
use Rattle.run_stats.specs.declared.heads.PagingHead.TheVariants.{ZeroFills}
use Rattle.run_stats.specs.declared.heads.RunHead.{RunHead}
use Rattle.run_stats.specs.declared.heads.Head.{Head}
use Rattle.run_stats.specs.declared.heads.Head.TheVariants.{OfRunner, WrittenOf, OfRun}
use Rattle.run_stats.specs.Amounts.{sum_of, most_held, least_free}
use Rattle.run_stats.specs.Rows.{plain_row, row, ended_row, process_words, process_heads, paging_words, paging_heads, run_words, run_heads}

-- what a process did, by its count under each head
abbrev pub process_row : (ℕ → ProcessHead → ℕ) → ℕ → ProcessHead → List ℕ
process_row deeds pid head = row (codes "process ") pid (process_words head) (deeds pid head)

-- the pages that came while it ran, by the sum under each head
abbrev pub paging_row : (Head → ℕ) → ℕ → PagingHead → List ℕ
paging_row sums pid head = row (codes "process ") pid (paging_words head) (sums (OfRunner pid head))

-- all rows of a process, and how it ended
abbrev pub process_rows : (ℕ → ProcessHead → ℕ) → (Head → ℕ) → List Entry → ℕ → List ℕ
process_rows deeds sums journal pid =
    flat_map (process_row deeds pid) process_heads ++ flat_map (paging_row sums pid) paging_heads ++ flat_map (ended_row pid) journal

-- the pages of a space that were written to swap
abbrev pub space_row : (Head → ℕ) → ℕ → List ℕ
space_row sums sid = row (codes "space ") sid (codes " pages-written ") (sums (WrittenOf (Space sid)))

-- the pages of an image's text that were written to swap
abbrev pub image_row : (Head → ℕ) → ℕ → List ℕ
image_row sums image = row (codes "image ") image (codes " pages-written ") (sums (WrittenOf (Image image)))

-- what the hands and the devices did
abbrev pub run_row : (Head → ℕ) → RunHead → List ℕ
run_row sums head = plain_row (run_words head) (sums (OfRun head))

-- the pages that are filled before a process runs, the most blocks that are held, and the fewest frames that are free
abbrev pub last_rows : (Head → ℕ) → ℕ → ℕ → List ℕ
last_rows sums most least =
    plain_row (codes "start zero-fills ") (sums (OfRunner 0 ZeroFills))
    ++ plain_row (codes "swap most-held ") most
    ++ plain_row (codes "frames least-free ") least

-- a line for each number from 1 on
unfoldable pub lines_to : (ℕ → List ℕ) → ℕ → List ℕ
lines_to line zero = []
lines_to line (suc n) = lines_to line n ++ line (suc n)

-- The table of so many processes, spaces and images, by what is counted under each head, by the journal, and by the extremes.
unfoldable pub table_by : (ℕ → ProcessHead → ℕ) → (Head → ℕ) → List Entry → ℕ → ℕ → ℕ → ℕ → ℕ → List ℕ
table_by deeds sums journal most least processes spaces images =
    lines_to (process_rows deeds sums journal) processes
    ++ lines_to (space_row sums) spaces
    ++ lines_to (image_row sums) images
    ++ flat_map (run_row sums) run_heads
    ++ last_rows sums most least

-- The table of a run with so many processes, spaces and images, by its journal, by what is looked at before its first entry, and by what
-- is noted of each.
unfoldable pub stats_text : List Entry → Look → List Note → ℕ → ℕ → ℕ → List ℕ
stats_text journal start notes processes spaces images =
    table_by (λ pid head. total pid head journal) (λ head. sum_of head notes) journal (most_held start.held notes) (least_free start.free notes)
    processes spaces images
