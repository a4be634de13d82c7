-- A run told entry by entry, each with what was noted of it.
use Rattle.std.specs.Prelude.{◌≡◌, List, [], ◌∷◌, ◌++◌}
use Rattle.vm_facts.specs.declared.entry.Entry.{Entry}
use Rattle.flat_state.specs.Flat.{Inputs}
use Rattle.run_model.specs.State.{State}
use Rattle.run_model.specs.Lawful.{Follows}
use Rattle.run_stats.specs.declared.noting.Note.{Note}
use Rattle.run_stats.specs.Notes.{note_of}

-- Next units lead from one state to another, whose journal has one entry more; this is noted of that entry.
pub record IsNoted (A : Inputs) (s : State) (x : Note) (t : State) : Type 0 where
  pub units : List Entry
  pub follows : Follows A s units t
  pub entry : Entry
  pub more : t.journal ≡ s.journal ++ entry ∷ []
  pub note : x ≡ note_of s entry t

-- from one state to another, these are the notes of all entries, in order
abbrev pub AreNoted : Inputs → State → List Note → State → Type 0
AreNoted A s [] t = s ≡ t
AreNoted A s (x ∷ xs) t = (mid : State) × IsNoted A s x mid × AreNoted A mid xs t
