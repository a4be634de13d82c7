-- A first run: one image that writes "hi" and exits, an empty schedule, 64 frames, 256 blocks of swap, at most 100 instructions.
use Rattle.std.specs.Prelude.{◌≡◌, ℕ, List, [], ◌∷◌, ◌++◌, replicate, codes, Option, Some}
use Rattle.io_edge.specs.FileHolding.{NamedFile}

-- the words of the command line
abbrev pub first_words : List (List ℕ)
first_words = codes "run" ∷ codes "64" ∷ codes "256" ∷ codes "100" ∷ codes "s" ∷ codes "hi" ∷ []

-- the header of the image: magic number 0413, 1,024 bytes of text, no data, the entry at 0; it fills 1,024 bytes of the file
abbrev pub hi_header : List ℕ
hi_header = (11 ∷ 1 ∷ 0 ∷ 0 ∷ 0 ∷ 4 ∷ []) ++ replicate 1018 0

-- the text: MOVAL *$0x20,AP; CHMK $4 (write); MOVAL *$0x30,AP; CHMK $1 (exit); then their arguments, and "hi"
abbrev pub hi_code : List ℕ
hi_code =
    0 ∷ 0 ∷ 222 ∷ 159 ∷ 32 ∷ 0 ∷ 0 ∷ 0 ∷ 92 ∷ 188 ∷ 4 ∷ 222 ∷ 159 ∷ 48 ∷ 0 ∷ 0 ∷ 0 ∷ 92 ∷ 188 ∷ 1 ∷ 0 ∷ 0 ∷ 0 ∷ 0 ∷ 0 ∷ 0 ∷ 0 ∷ 0 ∷ 0 ∷ 0 ∷ 0 ∷ 0
    ∷ 3 ∷ 0 ∷ 0 ∷ 0 ∷ 1 ∷ 0 ∷ 0 ∷ 0 ∷ 56 ∷ 0 ∷ 0 ∷ 0 ∷ 2 ∷ 0 ∷ 0 ∷ 0 ∷ 1 ∷ 0 ∷ 0 ∷ 0 ∷ 0 ∷ 0 ∷ 0 ∷ 0 ∷ 104 ∷ 105 ∷ []

-- the two files: an empty schedule, and the image
abbrev pub first_files : List NamedFile
first_files =
    record { name = codes "s"; bytes = [] }
    ∷ record { name = codes "hi"; bytes = hi_header ++ hi_code ++ replicate 966 0 }
    ∷ []

-- a turn of process 1, an instruction, the output "hi", the reply of write, another instruction, and the end
abbrev pub six_lines : List ℕ
six_lines = codes "t 1\nr 1 1\no 1 6869\nc 1 4 0 2 0\nr 1 1\nx 1 0\n"

-- it wrote just these six lines; or the output failed, or memory was wanted
pub data IsFirstRun (status : ℕ) (written : Option (List ℕ)) : Type 0 where
  WritesSixLines : status ≡ 0 → written ≡ Some six_lines → IsFirstRun status written
  OutputFails : status ≡ 8 → IsFirstRun status written
  WantsMemory : status ≡ 9 → IsFirstRun status written
