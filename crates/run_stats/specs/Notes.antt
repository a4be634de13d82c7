-- What is noted of an entry: its kind, and what is looked at before it and after it.
use Rattle.vm_facts.specs.declared.entry.Entry.{Entry}
use Rattle.vm_facts.specs.declared.entry.Entry.TheVariants as entries
use Rattle.run_model.specs.State.{State}
use Rattle.run_stats.specs.declared.look.Look.{Look}
use Rattle.run_stats.specs.declared.noting.What.{What}
use Rattle.run_stats.specs.declared.noting.What.TheVariants.{Filled, Begun, Copied, Reclaimed, Moved, Ended, Swapped, Other}
use Rattle.run_stats.specs.declared.noting.Note.{Note}
use Rattle.run_stats.specs.Looks.{look_at}

-- the kind of an entry
abbrev pub what_of : Entry → What
what_of (entries.Zero page) = Filled
what_of (entries.Get page lo n) = Begun n
what_of (entries.Copy page) = Copied
what_of (entries.Reclaim page) = Reclaimed
what_of (entries.Hands count) = Moved count
what_of entries.Done = Ended
what_of (entries.SwapOut pid) = Swapped
what_of (entries.SwapIn pid) = Swapped
what_of _ = Other

-- what is noted, by what is looked at before and after
abbrev pub note_by : Look → Entry → Look → Note
note_by before e after = record { what = what_of e; before = before; after = after }

-- what is noted of an entry that leads from one state to another
abbrev pub note_of : State → Entry → State → Note
note_of s e t = note_by (look_at s) e (look_at t)
