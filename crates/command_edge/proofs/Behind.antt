-- What was read by names so far, and what is left.
use Rattle.std.proofs.Common.{List, ◌++◌, Result, Ok, Err}
use Rattle.command_edge.specs.Named.{Why}

-- what was read, and what is left to be read
abbrev pub behind : {A : Type 0} → List A → Result (List A) Why → Result (List A) Why
behind items (Ok more) = Ok (items ++ more)
behind items (Err why) = Err why
