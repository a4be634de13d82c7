-- What going on by one entry means: a full journal, the next units, and one entry more.
use Rattle.std.specs.Prelude.{◌≡◌, ◌↔◌, ◌+◌, ◌<◌, ℕ, suc, Bool, true, List, length, slice_get, Option, Some, None}
use Rattle.vm_facts.specs.SwapImages.{SwapImage}
use Rattle.vm_facts.specs.declared.entry.Entry.{Entry}
use Rattle.vm_facts.specs.declared.event.Event.{Event}
use Rattle.vm_facts.specs.declared.stop.Stop.TheVariants as stops
use Rattle.io_edge.specs.FileHolding.{NamedFile}
use Rattle.flat_state.specs.Flat.{Inputs}
use Rattle.flat_state.specs.Journal.{append, counted}
use Rattle.machine_state.specs.Machine.{Standing}
use Rattle.run_model.specs.declared.mark.Mark.{Mark}
use Rattle.run_model.specs.State.{State}
use Rattle.run_model.specs.Next.{next_unit}
use Rattle.vm_core.specs.Leads.{Leads}
use Rattle.vm_core.specs.Cores.{StandsIn}
use Rattle.film_core.specs.Films.{Filming}
use Rattle.film_core.specs.Marks.{mark_behind, lines_behind}
use Rattle.film_core.specs.Ways.{GoesAt}

-- The machine stands at a state of a run whose journal is full and complete, and that has a next unit.
pub record FullAt (m : Standing) (mark : Mark) (lines : List Event) (taken counted : ℕ) (holds : Option (List NamedFile)) (i : Option SwapImage)
    (A : Inputs) (s : State) (image : SwapImage) : Type 0 where
  pub going : GoesAt m mark lines taken counted holds i A s image
  pub complete : (u : Entry) → next_unit A s ≡ Some u → length m.kernel.journal < length (append m.kernel.journal u)
  pub bound : m.params.journal ≡ length m.kernel.journal
  pub more : next_unit A s ≡ None → ⊥

-- Next units lead to a state at which the machine stands with one entry more, and its journal is full and complete again; and it is
-- said whether the run is over there.
pub record EntryMade (old new : Standing) (ended : Bool) (holds : Option (List NamedFile)) (j : Option SwapImage) (A : Inputs) (s : State)
    (image : SwapImage) : Type 0 where
  pub units : List Entry
  pub state : State
  pub behind : SwapImage
  pub leads : Leads A s old.kernel image units state new.kernel j
  pub stands : StandsIn A state new holds j behind state.count
  pub complete : (u : Entry) → next_unit A state ≡ Some u → length new.kernel.journal < length (append new.kernel.journal u)
  pub bound : new.params.journal ≡ length new.kernel.journal
  pub longer : length new.kernel.journal ≡ suc (length old.kernel.journal)
  pub over : (ended ≡ true) ↔ (next_unit A state ≡ None)

-- a film that knows what is behind its last entry
abbrev pub caught_up : Filming → List Event → Entry → Filming
caught_up f lines e = record f {
  lines = lines_behind f.lines e;
  mark = mark_behind f.machine.kernel (f.counted + counted e) (slice_get lines f.lines) f.mark e;
  counted = f.counted + counted e;
}
