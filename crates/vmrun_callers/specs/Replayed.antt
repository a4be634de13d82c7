-- How the replay of a run's own text ends.
use Rattle.std.specs.Prelude.{◌≡◌, ◌<◌, ℕ, Bool, List, [], ◌∷◌, length, codes, Option, Some}
use Rattle.run_text.specs.Lines.{lines_in}
use Rattle.command_edge.specs.Ending.{fault_line}
use Rattle.command_edge.specs.declared.fault.Fault.TheVariants as faults
use Rattle.command_words.specs.Asked.{Asked, Run}
use Rattle.command_words.specs.declared.command.Numbers.{Numbers}
use Rattle.replay_command.specs.Reading.{transcript_bytes}
use Rattle.replay_command.specs.Command.{run_line}

-- the words of a replay of this transcript over the images of a run that is asked for; over none where none is
abbrev pub replay_words : List ℕ → Option Asked → List (List ℕ)
replay_words transcript (Some (Run traced numbers schedule images)) = codes "replay" ∷ transcript ∷ images
replay_words transcript asked = codes "replay" ∷ transcript ∷ []

-- How the replay of a text ends that is a run's: it is judged to be a run of the flat machine, of as many entries as it has lines;
-- unless it is longer than a transcript may be, there was no memory, or the output of the replay failed.
pub data IsReplayed (text : List ℕ) (status : ℕ) (written : Option (List ℕ)) : Type 0 where
  FlatRun : status ≡ 0 → written ≡ Some (run_line (length (lines_in text))) → IsReplayed text status written
  TooLong : status ≡ 16 → transcript_bytes < length text → written ≡ Some (fault_line faults.TooLong) → IsReplayed text status written
  NoMemory : status ≡ 9 → written ≡ Some (fault_line faults.NoMemory) → IsReplayed text status written
  OutputFailed : status ≡ 8 → IsReplayed text status written

-- What a finished run wrote is replayed: where the words ask for a run, and its status is 0.
abbrev pub RunIsReplayed : Option Asked → ℕ → Option (List ℕ) → ℕ → Option (List ℕ) → Type 0
RunIsReplayed asked status written replay_status replayed =
    (traced : Bool) (numbers : Numbers) (schedule : List ℕ) (images : List (List ℕ)) → asked ≡ Some (Run traced numbers schedule images) → status ≡ 0
    → (text : List ℕ) × (written ≡ Some text) × IsReplayed text replay_status replayed
