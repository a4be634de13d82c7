-- A process that goes out or comes in asks swap alone, and the files beside it nothing.
use Rattle.std.proofs.Common.{ℕ, Option, Some, None, Result, Ok, Err}
use Rattle.std.specs.Prelude.{IfOk}
use Rattle.vm_facts.specs.SwapImages.{SwapImage}
use Rattle.vm_facts.specs.declared.stop.NoMemory.{NoMemory}
use Rattle.io_edge.specs.FileRequests.{FileNotes}
use Rattle.io_edge.specs.WithFiles.{with_files}
use Rattle.machine_state.specs.Machine.{Standing}
use Rattle.machine_state.proofs.Besides.{wrote_beside, in_beside, asks_beside}
use Rattle.paged_model.specs.declared.reason.Reason.{Reason}
use Rattle.step_judge.specs.Leaving.{WentOut, CameIn, JudgedOut, JudgedIn}

module _ (old new : Standing) (pid : ℕ) (i j : Option SwapImage) (notes : FileNotes) where
  pub out_beside : (r : Result (Option Reason) NoMemory) → IfOk r (JudgedOut pid i j old new)
      → IfOk r (JudgedOut pid (with_files notes i) (with_files notes j) old new)
  out_beside (Err x) h = tt
  out_beside (Ok (Some reason)) h = h
  out_beside (Ok None) h = let went : WentOut pid i j old new = h in record {
    step = went.step;
    wrote = wrote_beside old.kernel pid i j notes went.wrote;
    beside = went.beside;
  }

  pub came_beside : (r : Result (Option Reason) NoMemory) → IfOk r (JudgedIn pid i j old new)
      → IfOk r (JudgedIn pid (with_files notes i) (with_files notes j) old new)
  came_beside (Err x) h = tt
  came_beside (Ok (Some reason)) h = h
  came_beside (Ok None) h = let came : CameIn pid i j old new = h in record {
    step = in_beside old.kernel new.kernel pid i notes came.step;
    asked = asks_beside old.kernel pid i j notes came.asked;
    beside = came.beside;
  }
