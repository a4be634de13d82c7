-- How many entries units add to a journal, and of which kind.
use Rattle.std.specs.Prelude.{ℕ, ◌+◌, Bool, true, false, List, [], ◌∷◌}
use Rattle.vm_facts.specs.declared.entry.Entry.{Entry}
use Rattle.vm_facts.specs.declared.entry.Entry.TheVariants as entries

-- moves of the hands
abbrev pub is_hands : Entry → Bool
is_hands (entries.Hands n) = true
is_hands _ = false

-- the journal's last entry is moves of the hands
abbrev pub ends_moving : List Entry → Bool
ends_moving [] = false
ends_moving (e ∷ []) = is_hands e
ends_moving (e ∷ f ∷ journal) = ends_moving (f ∷ journal)

-- a unit adds an entry, but for a move of the hands after another
abbrev pub adds : Bool → Entry → ℕ
adds true (entries.Hands n) = 0
adds moved e = 1

-- how many entries these units add, after moves of the hands or not
abbrev pub added : Bool → List Entry → ℕ
added moved [] = 0
added moved (u ∷ us) = adds moved u + added (is_hands u) us

-- how many of these take frames for a page that is wanted: fills with zeros, and reads
abbrev pub takes : Entry → ℕ
takes (entries.Zero q) = 1
takes (entries.Get q lo n) = 1
takes _ = 0

-- how many of these units take frames for a page that is wanted: fills with zeros, and reads
abbrev pub takings : List Entry → ℕ
takings [] = 0
takings (u ∷ us) = takes u + takings us

-- how many moves the hands make
abbrev pub moves : Entry → ℕ
moves (entries.Hands n) = n
moves _ = 0

-- how many moves the hands make in these units
abbrev pub moves_of : List Entry → ℕ
moves_of [] = 0
moves_of (u ∷ us) = moves u + moves_of us
