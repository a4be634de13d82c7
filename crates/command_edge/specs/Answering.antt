-- What an answer about a file says of the files' counts of faults.
use Rattle.std.specs.Prelude.{◌≡◌, ◌⊎◌, ℕ, Result, Ok, Err, IsTrue, is_ok}
use Rattle.io_edge.specs.Count.{Rose}
use Rattle.command_edge.specs.declared.answers.Unread.{Unread}
use Rattle.command_edge.specs.declared.answers.Unread.TheVariants.{Absent, NotImage, FileFault, NoMemory}

-- an answer is what is told, unless a file failed or memory was refused
abbrev pub Answers : {A B : Type 0} → (A → B) → Result B Unread → Result A Unread → Type 0
Answers view told (Ok x) = told ≡ Ok (view x)
Answers view told (Err Absent) = told ≡ Err Absent
Answers view told (Err (NotImage reason)) = told ≡ Err (NotImage reason)
Answers view told (Err FileFault) = Unit {0}
Answers view told (Err NoMemory) = Unit {0}

-- a file failed, or memory was refused
abbrev pub IsFailure : Unread → Type 0
IsFailure Absent = ⊥
IsFailure (NotImage reason) = ⊥
IsFailure FileFault = Unit {0}
IsFailure NoMemory = Unit {0}

-- an error that doesn't judge the file
abbrev pub IsOfAnyFile : Unread → Type 0
IsOfAnyFile Absent = Unit {0}
IsOfAnyFile (NotImage reason) = ⊥
IsOfAnyFile FileFault = Unit {0}
IsOfAnyFile NoMemory = Unit {0}

-- an error of a file that was found
abbrev pub IsOfFoundFile : Unread → Type 0
IsOfFoundFile Absent = ⊥
IsOfFoundFile (NotImage reason) = Unit {0}
IsOfFoundFile FileFault = Unit {0}
IsOfFoundFile NoMemory = Unit {0}

-- a count of faults over a call: it rises where a file failed, and else stays
abbrev pub CountsFault : {A : Type 0} → Result A Unread → ℕ → ℕ → Type 0
CountsFault (Ok x) old new = new ≡ old
CountsFault (Err Absent) old new = new ≡ old
CountsFault (Err (NotImage reason)) old new = new ≡ old
CountsFault (Err FileFault) old new = Rose old new
CountsFault (Err NoMemory) old new = new ≡ old

-- no file failed
abbrev pub BothStay : ℕ → ℕ → ℕ → ℕ → Type 0
BothStay open_old open_new page_old page_new = (open_new ≡ open_old) × (page_new ≡ page_old)

-- a file failed on the way to its first bytes
abbrev pub OpenRose : ℕ → ℕ → ℕ → ℕ → Type 0
OpenRose open_old open_new page_old page_new = Rose open_old open_new × (page_new ≡ page_old)

-- a file failed after its first bytes
abbrev pub PageRose : ℕ → ℕ → ℕ → ℕ → Type 0
PageRose open_old open_new page_old page_new = (open_new ≡ open_old) × Rose page_old page_new

-- a file failed, before its first bytes or after them
abbrev pub OneRose : ℕ → ℕ → ℕ → ℕ → Type 0
OneRose open_old open_new page_old page_new =
    OpenRose open_old open_new page_old page_new ⊎ PageRose open_old open_new page_old page_new

-- both counts of faults over a call: one rises where a file failed, and else both stay
abbrev pub CountsFaults : {A : Type 0} → Result A Unread → ℕ → ℕ → ℕ → ℕ → Type 0
CountsFaults (Ok x) open_old open_new page_old page_new = BothStay open_old open_new page_old page_new
CountsFaults (Err Absent) open_old open_new page_old page_new = BothStay open_old open_new page_old page_new
CountsFaults (Err (NotImage reason)) open_old open_new page_old page_new = BothStay open_old open_new page_old page_new
CountsFaults (Err FileFault) open_old open_new page_old page_new = OneRose open_old open_new page_old page_new
CountsFaults (Err NoMemory) open_old open_new page_old page_new = BothStay open_old open_new page_old page_new

-- Where a file failed after its first bytes, these are as they have to be.
abbrev pub FailsInOrder : {A B : Type 0} → Result B Unread → Result A Unread → ℕ → ℕ → ℕ → ℕ → Type 0
FailsInOrder told (Ok x) open_old open_new page_old page_new = Unit {0}
FailsInOrder told (Err Absent) open_old open_new page_old page_new = Unit {0}
FailsInOrder told (Err (NotImage reason)) open_old open_new page_old page_new = Unit {0}
FailsInOrder told (Err FileFault) open_old open_new page_old page_new =
    OpenRose open_old open_new page_old page_new ⊎ (PageRose open_old open_new page_old page_new × IsTrue (is_ok told))
FailsInOrder told (Err NoMemory) open_old open_new page_old page_new = Unit {0}
