-- What a command leaves outside, whether or not anything is told.
use Rattle.std.specs.Prelude.{◌≡◌, ℕ, ◌==◌, ◌||◌, Bool, true}
use Rattle.io_edge.specs.Calls.{KeepsFiles, KeepsSwap}
use Rattle.io_edge.specs.Striping.{zero_needs, one_needs, pair_blocks, KeepsBeyond}
use Rattle.io_edge.specs.Written.{Extends}
use Rattle.io_edge.specs.declared.files.Files.{Ghosts as FilesGhosts}
use Rattle.io_edge.specs.declared.swap_dev.SwapDev.{Ghosts as SwapGhosts}
use Rattle.io_edge.specs.declared.sink.Sink.{Ghosts as SinkGhosts}

-- Each device has as many blocks as before, and holds what it held beyond those that the pair of them needs; calls alone lead from its
-- earlier state to the later one.
pub record KeepsDevices {D E : Type 0} (d : SwapGhosts D) (e : SwapGhosts E) (zero_old zero_new : D) (one_old one_new : E) : Type 0 where
  pub zero : KeepsSwap d zero_old zero_new
  pub one : KeepsSwap e one_old one_new
  pub zero_beyond : KeepsBeyond (zero_needs (pair_blocks (d.blocks zero_old) (e.blocks one_old))) (d.image zero_old) (d.image zero_new)
  pub one_beyond : KeepsBeyond (one_needs (pair_blocks (d.blocks zero_old) (e.blocks one_old))) (e.image one_old) (e.image one_new)

-- what was written stays, and more may follow it; calls alone lead from the output's earlier state to the later one
pub record KeepsOutput {S : Type 0} (s : SinkGhosts S) (sink_old sink_new : S) : Type 0 where
  pub leads : s.leads sink_old sink_new
  pub written : Extends (s.written sink_old) (s.written sink_new)

-- the files hold what they held, and the devices and the output are left so
pub record KeepsOutside {F D E S : Type 0} (f : FilesGhosts F) (d : SwapGhosts D) (e : SwapGhosts E) (s : SinkGhosts S)
    (files_old files_new : F) (zero_old zero_new : D) (one_old one_new : E) (sink_old sink_new : S) : Type 0 where
  pub files : KeepsFiles f files_old files_new
  pub devices : KeepsDevices d e zero_old zero_new one_old one_new
  pub output : KeepsOutput s sink_old sink_new

-- A status of a run that ended before its first entry, by what was found or is there: no file, no image, a bad schedule, no swap for a
-- first process, a device that is too short.
abbrev pub is_early : ℕ → Bool
is_early status = status == 2 || (status == 3 || (status == 4 || (status == 11 || status == 12)))

-- this is so at such a status
abbrev pub Early : ℕ → Type 0 → Type 0
Early status so = is_early status ≡ true → so
