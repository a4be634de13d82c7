-- The last entry of the journal, where a further unit of its kind joins it.
use Rattle.std.specs.Prelude.{ℕ, ◌==◌, ◌<◌, ◌≤◌, cond, List, [], ◌∷◌, length, Option, Some, None}
use Rattle.vm_facts.specs.declared.entry.Entry.{Entry}
use Rattle.vm_facts.specs.declared.entry.Entry.TheVariants as entries
use Rattle.flat_state.specs.Journal.{append}

-- how many moves of the hands an entry counts, where it counts such
abbrev pub moves_in : Entry → Option ℕ
moves_in (entries.Hands count) = Some count
moves_in _ = None

-- how many instructions of a process an entry counts, where it counts such
abbrev pub instructions_in : ℕ → Entry → Option ℕ
instructions_in pid (entries.Ran other count) = cond (other == pid) (Some count) None
instructions_in pid _ = None

-- what the last entry says
abbrev pub last_says : (Entry → Option ℕ) → List Entry → Option ℕ
last_says says [] = None
last_says says (e ∷ []) = says e
last_says says (e ∷ f ∷ journal) = last_says says (f ∷ journal)

-- the journal has as many entries as it may have, and this unit would be one more
abbrev pub IsFullFor : List Entry → ℕ → Entry → Type 0
IsFullFor journal limit unit = (limit ≤ length journal) × (length journal < length (append journal unit))
