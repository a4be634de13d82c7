-- The rows of the table: words, and a count.
use Rattle.std.specs.Prelude.{ℕ, ◌==◌, if◌then◌else◌, List, [], ◌∷◌, ◌++◌, codes, decimal}
use Rattle.vm_facts.specs.declared.entry.Entry.{Entry}
use Rattle.vm_facts.specs.declared.entry.Entry.TheVariants.{Ended}
use Rattle.process_counts.specs.declared.amounts.ProcessHead.{ProcessHead}
use Rattle.process_counts.specs.declared.amounts.ProcessHead.TheVariants.{Instructions, BytesOut, Calls, Growths, Refusals, Waits, TimesOut, TimesIn}
use Rattle.run_stats.specs.declared.heads.PagingHead.{PagingHead}
use Rattle.run_stats.specs.declared.heads.PagingHead.TheVariants.{ZeroFills, FileReads, FilePages, SwapReads, SwapPages, Reclaims, Copies}
use Rattle.run_stats.specs.declared.heads.RunHead.{RunHead}
use Rattle.run_stats.specs.declared.heads.RunHead.TheVariants.{HandMoves, MadeInvalid, FreedClean, HandWrites, ReclaimedBetween, FileTransfers, SwapTransfersIn, SwapTransfersOut, SwapRequests}

-- words and a count
abbrev pub plain_row : List ℕ → ℕ → List ℕ
plain_row words count = words ++ decimal count ++ codes "\n"

-- whose count it is, the head, and the count
abbrev pub row : List ℕ → ℕ → List ℕ → ℕ → List ℕ
row kind number head count = kind ++ decimal number ++ plain_row head count

-- how a process ended, where this entry says it
abbrev pub ended_row : ℕ → Entry → List ℕ
ended_row pid (Ended p status) = if p == pid then row (codes "process ") pid (codes " ended ") status else []
ended_row pid _ = []

-- Heads.

-- the words of a head of what a process did
abbrev pub process_words : ProcessHead → List ℕ
process_words Instructions = codes " instructions "
process_words BytesOut = codes " bytes-written "
process_words Calls = codes " calls "
process_words Growths = codes " growths "
process_words Refusals = codes " refusals "
process_words Waits = codes " waits "
process_words TimesOut = codes " put-out "
process_words TimesIn = codes " brought-in "

-- the heads of what a process did, in the order of their rows
unfoldable pub process_heads : List ProcessHead
process_heads = Instructions ∷ BytesOut ∷ Calls ∷ Growths ∷ Refusals ∷ Waits ∷ TimesOut ∷ TimesIn ∷ []

-- the words of a head of the pages that come
abbrev pub paging_words : PagingHead → List ℕ
paging_words ZeroFills = codes " zero-fills "
paging_words FileReads = codes " file-reads "
paging_words FilePages = codes " file-pages "
paging_words SwapReads = codes " swap-reads "
paging_words SwapPages = codes " swap-pages "
paging_words Reclaims = codes " reclaims "
paging_words Copies = codes " copies "

-- the heads of the pages that come, in the order of their rows
unfoldable pub paging_heads : List PagingHead
paging_heads = ZeroFills ∷ FileReads ∷ FilePages ∷ SwapReads ∷ SwapPages ∷ Reclaims ∷ Copies ∷ []

-- the words of a head of the whole run
abbrev pub run_words : RunHead → List ℕ
run_words HandMoves = codes "hands moves "
run_words MadeInvalid = codes "hands made-invalid "
run_words FreedClean = codes "hands freed-clean "
run_words HandWrites = codes "hands pages-written "
run_words ReclaimedBetween = codes "hands reclaimed-between "
run_words FileTransfers = codes "devices file-reads "
run_words SwapTransfersIn = codes "devices swap-reads "
run_words SwapTransfersOut = codes "devices swap-writes "
run_words SwapRequests = codes "devices swap-requests "

-- the heads of the whole run, in the order of their rows
unfoldable pub run_heads : List RunHead
run_heads =
    HandMoves ∷ MadeInvalid ∷ FreedClean ∷ HandWrites ∷ ReclaimedBetween ∷ FileTransfers ∷ SwapTransfersIn ∷ SwapTransfersOut
    ∷ SwapRequests ∷ []
