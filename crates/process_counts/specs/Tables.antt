-- Counts by number, and what processes did by their numbers.
use Rattle.std.specs.Prelude.{ℕ, ◌==◌, if◌then◌else◌, List, slice_index_or}
use Rattle.process_counts.specs.declared.amounts.ProcessHead.{ProcessHead}
use Rattle.process_counts.specs.declared.amounts.ProcessHead.TheVariants.{Instructions, BytesOut, Calls, Growths, Refusals, Waits, TimesOut, TimesIn}
use Rattle.process_counts.specs.declared.deeds.Deeds.{Deeds}

-- the count at a number; 0 behind the table's end
abbrev pub count_at : List ℕ → ℕ → ℕ
count_at counts k = slice_index_or counts k 0

-- what is added at a number k, where so much is added at one
abbrev pub added_at : ℕ → ℕ → ℕ → ℕ
added_at one amount k = if one == k then amount else 0

-- the table of a head
abbrev pub table_of : ProcessHead → Deeds → List ℕ
table_of Instructions deeds = deeds.instructions.items
table_of BytesOut deeds = deeds.bytes_out.items
table_of Calls deeds = deeds.calls.items
table_of Growths deeds = deeds.growths.items
table_of Refusals deeds = deeds.refusals.items
table_of Waits deeds = deeds.waits.items
table_of TimesOut deeds = deeds.times_out.items
table_of TimesIn deeds = deeds.times_in.items

-- what the process of a number did, under a head
abbrev pub deed_of : Deeds → ℕ → ProcessHead → ℕ
deed_of deeds pid head = count_at (table_of head deeds) pid
