-- What calls leave as it was, over a bound `F: Files`, `D: SwapDev` or `S: Sink`.
use Rattle.std.specs.Prelude.{◌≡◌, ℕ, List}
use Rattle.io_edge.specs.Count.{Counts, OnDone, OnFailed}
use Rattle.io_edge.specs.SwapImage.{bytes_told}
use Rattle.io_edge.specs.Written.{Appends, AppendsSome}
use Rattle.io_edge.specs.declared.Moved.{Moved}
use Rattle.io_edge.specs.declared.files.Files.{Ghosts as FilesGhosts}
use Rattle.io_edge.specs.declared.swap_dev.SwapDev.{Ghosts as SwapGhosts}
use Rattle.io_edge.specs.declared.sink.Sink.{Ghosts as SinkGhosts}

-- files over any calls
pub record KeepsFiles {F : Type 0} (g : FilesGhosts F) (old new : F) : Type 0 where
  pub leads : g.leads old new
  pub holds : g.holds new ≡ g.holds old

-- files over reads that begin after their first byte
pub record ReadsPages {F : Type 0} (g : FilesGhosts F) (old new : F) : Type 0 where
  pub leads : g.leads old new
  pub holds : g.holds new ≡ g.holds old
  pub open_faults : g.open_faults new ≡ g.open_faults old

-- a swap device over any calls
pub record KeepsSwap {D : Type 0} (g : SwapGhosts D) (old new : D) : Type 0 where
  pub leads : g.leads old new
  pub blocks : g.blocks new ≡ g.blocks old

-- a swap device over reads
pub record ReadsSwap {D : Type 0} (g : SwapGhosts D) (old new : D) : Type 0 where
  pub leads : g.leads old new
  pub blocks : g.blocks new ≡ g.blocks old
  pub bytes : bytes_told (g.image new) ≡ bytes_told (g.image old)
  pub write_faults : g.write_faults new ≡ g.write_faults old

-- a swap device over writes
pub record WritesSwap {D : Type 0} (g : SwapGhosts D) (old new : D) : Type 0 where
  pub leads : g.leads old new
  pub blocks : g.blocks new ≡ g.blocks old
  pub read_faults : g.read_faults new ≡ g.read_faults old

-- a sink over calls by which these bytes are to be appended: all of them were, or a prefix of them was
-- and the count of faults rose
pub record PutsBytes {S : Type 0} (g : SinkGhosts S) (bytes : List ℕ) (moved : Moved) (old new : S) : Type 0 where
  pub leads : g.leads old new
  pub done : OnDone moved (Appends (g.written old) bytes (g.written new))
  pub failed : OnFailed moved (AppendsSome (g.written old) bytes (g.written new))
  pub faults : Counts moved (g.faults old) (g.faults new)
