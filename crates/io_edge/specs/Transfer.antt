-- Counts of faults over a call that answers a `Result`, and what a read of a range asks.
use Rattle.std.specs.Prelude.{◌≡◌, ℕ, zero, suc, List, [], ◌∷◌, Result, Ok, Err}
use Rattle.io_edge.specs.FileRequests.{FileRequest, FileRead}
use Rattle.io_edge.specs.Count.{Rose}

-- the count rises where the call failed, and in no other call
abbrev pub CountsErr : {T E : Type 0} → Result T E → ℕ → ℕ → Type 0
CountsErr (Ok x) old new = new ≡ old
CountsErr (Err e) old new = Rose old new

-- what a read of so many bytes asks: nothing where there are none
abbrev pub range_asked : (id offset count : ℕ) → List FileRequest
range_asked id offset zero = []
range_asked id offset (suc count) = FileRead id offset (suc count) ∷ []
