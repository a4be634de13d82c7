-- What a token comes to once its bytes were lent: the last bytes that were written.
use Rattle.std.specs.Prelude.{ℕ, List}
use Rattle.std.specs.Borrow.{Lends, MutBor, Fml, Array, u8}
use Rattle.frame_state.specs.Frame.{Frame}
use Rattle.frame_state.specs.contracts.Resident.{the_row as resident_row}
use Rattle.frame_state.specs.contracts.Filling.{the_row as filling_row}

-- the frame with other bytes
abbrev pub with_bytes : Frame → List ℕ → Frame
with_bytes frame bytes = record frame { bytes = bytes }

-- the token ends with the last bytes written through the reference
abbrev pub LendsResidentBytes : MutBor Frame → MutBor (List ℕ) → Fml
LendsResidentBytes token bytes =
    Lends resident_row (Array u8 1024) token bytes (λ last. with_bytes token.now last)

-- so does the token of a frame that is being filled
abbrev pub LendsFillingBytes : MutBor Frame → MutBor (List ℕ) → Fml
LendsFillingBytes token bytes =
    Lends filling_row (Array u8 1024) token bytes (λ last. with_bytes token.now last)
