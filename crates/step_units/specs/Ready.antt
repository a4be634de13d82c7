-- What each call leaves of a machine for the next one, whatever the devices gave.
use Rattle.std.specs.Prelude.{◌≡◌, ℕ, ◌+◌, ◌≤◌, List, [], ◌∷◌, ◌++◌, length}
use Rattle.vm_facts.specs.declared.entry.Entry.{Entry}
use Rattle.vm_facts.specs.declared.entry.Entry.TheVariants as entries
use Rattle.flat_state.specs.Journal.{instructions_of}
use Rattle.page_model.specs.Placement.{Due}
use Rattle.machine_state.specs.Machine.{Standing}
use Rattle.swapper.specs.LastMoves.{last_moves}

-- A call left the machine so: its sizes and images are those of before, it has as many frames, and so many more instructions
-- are counted.
pub record CountsOn (old new : Standing) (n : ℕ) : Type 0 where
  pub params : new.params ≡ old.params
  pub images : new.images ≡ old.images
  pub frames : length new.kernel.place.holds ≡ length old.kernel.place.holds
  pub counted : instructions_of new.kernel.journal ≡ instructions_of old.kernel.journal + n

-- A machine that a call left goes on: nothing is due, its sizes and images are those of before, it has as many frames, its last
-- entry counts no more moves of the hands than before, or none, and so many more instructions are counted.
pub record Continues (old new : Standing) (n : ℕ) : Type 0 where
  pub params : new.params ≡ old.params
  pub images : new.images ≡ old.images
  pub clear : new.kernel.place.due ≡ []
  pub frames : length new.kernel.place.holds ≡ length old.kernel.place.holds
  pub low : last_moves new.kernel.journal ≤ last_moves old.kernel.journal
  pub counted : instructions_of new.kernel.journal ≡ instructions_of old.kernel.journal + n

-- it goes on, but that these pages are due
pub record RunsDue (old new : Standing) (n : ℕ) (ds : List Due) : Type 0 where
  pub on : CountsOn old new n
  pub due : new.kernel.place.due ≡ ds
  pub low : last_moves new.kernel.journal ≤ last_moves old.kernel.journal

-- it goes on, but that the last entry counts so many more moves of the hands at most
pub record RunsMoved (old new : Standing) (moves : ℕ) : Type 0 where
  pub on : CountsOn old new 0
  pub clear : new.kernel.place.due ≡ []
  pub most : last_moves new.kernel.journal ≤ last_moves old.kernel.journal + moves

-- A machine goes on as it is.
abbrev pub SelfContinues : Type 0
SelfContinues = (m : Standing) → m.kernel.place.due ≡ [] → Continues m m 0

-- one that went on twice goes on by both together
abbrev pub BothContinue : Type 0
BothContinue = (a b c : Standing) (m n : ℕ) → Continues a b m → Continues b c n → Continues a c (m + n)

-- A last entry counts no more instructions than the whole journal.
abbrev pub LastCountsFew : Type 0
LastCountsFew = (journal before : List Entry) (pid count : ℕ) → journal ≡ before ++ entries.Ran pid count ∷ [] → count ≤ instructions_of journal
