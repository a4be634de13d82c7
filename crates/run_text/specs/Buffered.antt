-- What a sink was given where bytes wait in a buffer before it.
use Rattle.std.specs.Prelude.{◌≡◌, ℕ, List, [], ◌++◌, Option, Result, Ok, Err}
use Rattle.io_edge.specs.Written.{Appends, AppendsSome}

-- the bytes that waited and these went on, in order: some to the sink, the rest waits
pub record Passes (written : Option (List ℕ)) (waiting bytes : List ℕ) (written' : Option (List ℕ)) (waiting' : List ℕ) : Type 0 where
  pub moved : List ℕ
  pub appended : Appends written moved written'
  pub kept : moved ++ waiting' ≡ waiting ++ bytes

-- the sink failed: it has a prefix of the bytes that waited and of these, and nothing waits
pub record Fails (written : Option (List ℕ)) (waiting bytes : List ℕ) (written' : Option (List ℕ)) (waiting' : List ℕ) : Type 0 where
  pub some : AppendsSome written (waiting ++ bytes) written'
  pub none_waits : waiting' ≡ []

-- bytes were put: all of them passed, or the sink failed
abbrev pub Puts : {T E : Type 0} → Result T E → Option (List ℕ) → List ℕ → List ℕ → Option (List ℕ) → List ℕ → Type 0
Puts (Ok x) written waiting bytes written' waiting' = Passes written waiting bytes written' waiting'
Puts (Err e) written waiting bytes written' waiting' = Fails written waiting bytes written' waiting'
