-- The mark, the lines and the count behind an entry, told by that entry alone.
use Rattle.std.specs.Prelude.{ℕ, List, [], ◌∷◌, Option, Some, None}
use Rattle.vm_facts.specs.declared.entry.Entry.{Entry}
use Rattle.vm_facts.specs.declared.entry.Entry.TheVariants as entries
use Rattle.vm_facts.specs.declared.event.Event.{Event}
use Rattle.vm_facts.specs.declared.event.Event.TheVariants as events
use Rattle.kernel_model.specs.Kernel.{Kernel}
use Rattle.page_model.specs.Swapper.{swap_choice}
use Rattle.run_model.specs.declared.mark.Mark.{Mark}
use Rattle.run_model.specs.declared.mark.Mark.TheVariants as marks
use Rattle.run_model.specs.After.{interrupt_mark, swap_mark, completed, moved_on, brought_in, put_out, audited}
use Rattle.vm_core.specs.Runners.{runners_of}

-- the mark of a line, where so many instructions are counted, as a machine has it
abbrev pub marked_by : Kernel → ℕ → Event → Mark
marked_by k count (events.Dispatch pid n) = marks.Dispatch pid n count
marked_by k count events.Interrupt = interrupt_mark k.place.transfers
marked_by k count (events.Hands n) = marks.Hands n
marked_by k count events.Swapper = swap_mark (swap_choice k.place (runners_of k))
marked_by k count events.Audit = marks.Audit

-- of a line that may not be there; then it is over at once
abbrev pub marked_if : Kernel → ℕ → Option Event → Mark
marked_if k count None = marks.Over
marked_if k count (Some e) = marked_by k count e

-- what is still to come of a mark behind an entry, which may begin another: a line's asks for this event
abbrev pub mark_behind : Kernel → ℕ → Option Event → Mark → Entry → Mark
mark_behind k count e mark (entries.Event line) = marked_if k count e
mark_behind k count e mark (entries.Turn pid) = marks.Turn pid count
mark_behind k count e mark (entries.Hands n) = moved_on n mark
mark_behind k count e mark entries.Done = completed mark
mark_behind k count e mark (entries.SwapIn pid) = brought_in mark
mark_behind k count e mark (entries.SwapOut pid) = put_out mark
mark_behind k count e mark (entries.Owners free used moving held) = audited mark
mark_behind k count e mark _ = mark

-- how many lines are taken behind it
abbrev pub lines_behind : ℕ → Entry → ℕ
lines_behind lines (entries.Event line) = line
lines_behind lines _ = lines

-- the last of these entries, if there is one
abbrev pub last_entry : List Entry → Option Entry
last_entry [] = None
last_entry (e ∷ []) = Some e
last_entry (e ∷ f ∷ es) = last_entry (f ∷ es)
