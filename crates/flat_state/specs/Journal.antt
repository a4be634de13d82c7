-- Units, and the journal that they make: neighbouring `Ran` of one process are joined, and neighbouring `Hands`.
use Rattle.std.specs.Prelude.{◌≡◌, ℕ, zero, suc, ◌+◌, ◌==◌, Bool, true, false, List, [], ◌∷◌, ◌++◌}
use Rattle.vm_facts.specs.declared.entry.Entry.{Entry}
use Rattle.vm_facts.specs.declared.entry.Entry.TheVariants.{Ran, Call, Ended, Hands}

-- a last `Ran` and so many more instructions, of the same process or not
abbrev pub join_by : Bool → ℕ → ℕ → ℕ → ℕ → List Entry
join_by true p m q n = Ran p (m + n) ∷ []
join_by false p m q n = Ran p m ∷ Ran q n ∷ []

-- a last entry and one that joins a last one of its kind
abbrev pub join : Entry → Entry → List Entry
join (Ran p m) (Ran q n) = join_by (p == q) p m q n
join (Hands m) (Hands n) = Hands (m + n) ∷ []
join e u = e ∷ u ∷ []

-- a journal that begins with this entry, and one more unit, joined to the last entry where the two join
abbrev pub append_after : Entry → List Entry → Entry → List Entry
append_after e [] u = join e u
append_after e (f ∷ journal) u = e ∷ append_after f journal u

-- a journal and one more unit, joined to the last entry where the two join
abbrev pub append_joined : List Entry → Entry → List Entry
append_joined [] u = u ∷ []
append_joined (e ∷ journal) u = append_after e journal u

-- a journal and one more unit
abbrev pub append : List Entry → Entry → List Entry
append journal (Ran q n) = append_joined journal (Ran q n)
append journal (Hands n) = append_joined journal (Hands n)
append journal e = journal ++ e ∷ []

-- a journal and further units, in order
abbrev pub appended : List Entry → List Entry → List Entry
appended journal [] = journal
appended journal (u ∷ us) = appended (append journal u) us

-- so many times one unit, and then these
abbrev pub repeated : Entry → ℕ → List Entry → List Entry
repeated u zero us = us
repeated u (suc n) us = u ∷ repeated u n us

-- the units of one entry, and then these
abbrev pub units_with : Entry → List Entry → List Entry
units_with (Ran p n) us = repeated (Ran p 1) n us
units_with (Hands n) us = repeated (Hands 1) n us
units_with e us = e ∷ us

-- the units of a journal, in order: each entry, or so many times one instruction or one move of the hands
abbrev pub units_of : List Entry → List Entry
units_of [] = []
units_of (e ∷ journal) = units_with e (units_of journal)

-- how many instructions an entry counts
abbrev pub counted : Entry → ℕ
counted (Ran p n) = n
counted (Call p number carry r0 r1) = 1
counted (Ended p status) = 1
counted e = 0

-- how many instructions a journal counts
abbrev pub instructions_of : List Entry → ℕ
instructions_of [] = 0
instructions_of (e ∷ journal) = counted e + instructions_of journal

-- an entry that is never joined
abbrev pub IsPlain : Entry → Type 0
IsPlain (Ran p n) = ⊥
IsPlain (Hands n) = ⊥
IsPlain e = Unit {0}

-- one entry, or one count of a `Ran` or of `Hands`
abbrev pub IsUnit : Entry → Type 0
IsUnit (Ran p n) = n ≡ 1
IsUnit (Hands n) = n ≡ 1
IsUnit e = Unit {0}

-- each of these entries is a unit
abbrev pub AllUnits : List Entry → Type 0
AllUnits [] = Unit {0}
AllUnits (u ∷ us) = IsUnit u × AllUnits us
