-- Which calls failed, by the status with which a run ended.
use Rattle.std.specs.Prelude.{◌≡◌, ◌⊎◌, ◌<◌, ℕ}
use Rattle.io_edge.specs.Count.{Rose}
use Rattle.command_edge.specs.Command.{OneFailed}
use Rattle.question_command.specs.Seen.{Seen, NoneFailed}
use Rattle.question_command.specs.RunCommandEnds.{NoneFaulted, ReadFailedAlone, WriteFailedAlone}

-- one call of a file failed, and none of a swap device
pub record FileFailedAlone (seen : Seen) : Type 0 where
  pub file : OneFailed seen.faults
  pub reads : NoneFailed seen.reads
  pub writes : NoneFailed seen.writes

-- of files and swap devices one call failed at most
pub data FailedOnce (seen : Seen) : Type 0 where
  NoCall : NoneFaulted seen → FailedOnce seen
  FileCall : FileFailedAlone seen → FailedOnce seen
  ReadCall : (device : ℕ) → ReadFailedAlone device seen → FailedOnce seen
  WriteCall : (device : ℕ) → WriteFailedAlone device seen → FailedOnce seen

-- At status 5 one call of a file failed, at 6 one read of a swap device, at 7 one write of one, and no other call. At 8 one of the output
-- failed, after one of these at most. At any other status none failed.
pub record FailsByStatus (seen : Seen) (status : ℕ) : Type 0 where
  pub none : (status < 5) ⊎ (8 < status) → NoneFaulted seen
  pub file : status ≡ 5 → FileFailedAlone seen
  pub read : status ≡ 6 → (device : ℕ) × ReadFailedAlone device seen
  pub write : status ≡ 7 → (device : ℕ) × WriteFailedAlone device seen
  pub output : status ≡ 8 → Rose seen.sink_faults_before seen.sink_faults_after × FailedOnce seen
  pub output_left : (status ≡ 8 → ⊥) → seen.sink_faults_after ≡ seen.sink_faults_before
