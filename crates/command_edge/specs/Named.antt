-- What a command reads by names: the first that isn't read decides.
use Rattle.std.specs.Prelude.{◌≡◌, ℕ, List, ◌∷◌, Result, Ok, Err}
use Rattle.command_edge.specs.declared.answers.Unread.{Unread}
use Rattle.command_edge.specs.declared.answers.Unread.TheVariants as unreads
use Rattle.command_edge.specs.declared.fault.Fault.{Fault}
use Rattle.command_edge.specs.declared.fault.Fault.TheVariants.{Absent, NotImage, FileFault, NoMemory}

-- a name, and why its file isn't read
abbrev pub Why : Type 0
Why = List ℕ × Unread

-- what is read by a name, before what is read by others
abbrev pub before : {A : Type 0} → Result A Why → Result (List A) Why → Result (List A) Why
before (Ok x) (Ok xs) = Ok (x ∷ xs)
before (Ok x) (Err why) = Err why
before (Err why) xs = Err why

-- an answer is what is told, unless a file failed or memory was refused
abbrev pub AnswersNamed : {A B : Type 0} → (A → B) → Result B Why → Result A Fault → Type 0
AnswersNamed view told (Ok x) = told ≡ Ok (view x)
AnswersNamed view told (Err (Absent name)) = told ≡ Err (name.now, unreads.Absent)
AnswersNamed view told (Err (NotImage name reason)) = told ≡ Err (name.now, unreads.NotImage reason)
AnswersNamed view told (Err FileFault) = Unit {0}
AnswersNamed view told (Err NoMemory) = Unit {0}
AnswersNamed view told (Err _) = ⊥
