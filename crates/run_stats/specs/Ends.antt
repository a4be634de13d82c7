-- How often a process ended in a journal, and with which status.
use Rattle.std.specs.Prelude.{◌≡◌, ℕ, ◌==◌, if◌then◌else◌, List, [], slice_index_or, codes}
use Rattle.std.specs.List.{flat_map}
use Rattle.vm_facts.specs.declared.entry.Entry.{Entry}
use Rattle.vm_facts.specs.declared.entry.Entry.TheVariants as entries
use Rattle.run_stats.specs.declared.ends.Ending.{Ending}
use Rattle.run_stats.specs.declared.ends.Ending.TheVariants.{Never, Once, Often}
use Rattle.run_stats.specs.Rows.{row, ended_row}

-- how often a process ended that ends now with a status
abbrev pub once_more : Ending → ℕ → Ending
once_more Never status = Once status
once_more _ status = Often

-- how often the process of this number ended, one entry further
abbrev pub ending_after : ℕ → Ending → Entry → Ending
ending_after pid so_far (entries.Ended p status) = if p == pid then once_more so_far status else so_far
ending_after pid so_far _ = so_far

-- the ending of the process of this number; behind a table's end no process has ended
abbrev pub ending_at : List Ending → ℕ → Ending
ending_at endings pid = slice_index_or endings pid Never

-- this is how often the process of this number ended in a journal
abbrev pub IsEnding : ℕ → Ending → List Entry → Type 0
IsEnding pid Never journal = flat_map (ended_row pid) journal ≡ []
IsEnding pid (Once status) journal = flat_map (ended_row pid) journal ≡ row (codes "process ") pid (codes " ended ") status
IsEnding pid Often journal = Unit
