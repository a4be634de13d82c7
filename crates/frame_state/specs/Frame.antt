-- A frame as contracts see it: its number and its bytes, whatever the state of its token.
use Rattle.std.specs.Prelude.{ℕ, List, replicate}

-- a page frame: its number, and the 1,024 bytes that it holds
pub record Frame : Type 0 where
  pub number : ℕ
  pub bytes : List ℕ

-- a frame of zeros
abbrev pub zero_frame : ℕ → Frame
zero_frame number = record { number = number; bytes = replicate 1024 0 }
