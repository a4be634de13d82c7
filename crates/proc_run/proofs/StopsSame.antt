-- Where a process stops the run, the machine has its sizes and its images still, and a journal is full only at its bound.
use Rattle.std.proofs.Common.{inl, inr, ℕ, Bool, true, false, [], List, Option, ap}
use Rattle.std.specs.Prelude.{Result, Ok, Err, IfErr}
use Rattle.vm_facts.specs.SwapImages.{SwapImage}
use Rattle.io_edge.specs.FileHolding.{NamedFile}
use Rattle.vm_facts.specs.declared.regs.Regs.{Regs}
use Rattle.vm_facts.specs.declared.stop.Stop.{Stop}
use Rattle.user_vax.specs.Program.{run}
use Rattle.flat_state.specs.declared.change.Change.TheVariants.{Lend}
use Rattle.flat_model.specs.Calls.{argument, exit_reply, write_reply, execve_reply}
use Rattle.flat_model.specs.declared.calls.SystemCall.{SystemCall}
use Rattle.flat_model.specs.declared.calls.SystemCall.TheVariants as system_calls
use Rattle.machine_state.specs.Machine.{Standing}
use Rattle.step_units.specs.Growth.{access_by}
use Rattle.step_units.specs.Ready.{Continues}
use Rattle.step_units.specs.Sizes.{SameSizes, KeptAtStop}
use Rattle.step_units.proofs.StopsKeep.{kept_through, before_same, access_same, exit_same, making_same, forking_same, exec_same, break_same, written_same}
use Rattle.proc_run.specs.Calls.{own_answers, CallStops}
use Rattle.proc_run.specs.Serving.{StopsServed}
use Rattle.proc_run.proofs.Attempts.{RoomOnly}
use Rattle.proc_run.proofs.Known.{known, are_known}

pub call_same : (call : SystemCall) (old new : Standing) (pid : ℕ) (regs : Regs) (holds : Option (List NamedFile)) (i j : Option SwapImage) (stop : Stop)
    → CallStops call old new pid regs holds i j stop → KeptAtStop old new stop
call_same system_calls.Exit old new pid regs holds i j stop h = exit_same old new pid (run (own_answers old pid) (exit_reply regs)) holds i j stop h
call_same system_calls.Fork old new pid regs holds i j stop h = forking_same old new pid regs holds i j stop h
call_same system_calls.Write old new pid regs holds i j stop h = written_same old new pid (run (own_answers old pid) (write_reply regs)) i stop h.0
call_same system_calls.Break old new pid regs holds i j stop h = break_same old new pid (run (own_answers old pid) (argument regs 1)) holds i j stop h
call_same system_calls.Getpid old new pid regs holds i j stop h = before_same old new stop h.0
call_same system_calls.Execve old new pid regs holds i j stop h =
    exec_same old new pid (run (own_answers old pid) (execve_reply (known old.images) regs)) holds i j stop (h (known old.images) (are_known old.images))
call_same system_calls.Vfork old new pid regs holds i j stop h = making_same old new pid (Lend old.kernel.next_pid) stop h.0
call_same system_calls.Wait old new pid regs holds i j stop h = before_same old new stop h.0

pub served_same : (now : Bool) (old new : Standing) (pid address : ℕ) (write : Bool) (holds : Option (List NamedFile)) (i j : Option SwapImage) (stop : Stop)
    → StopsServed now old new pid address write holds i j stop → KeptAtStop old new stop
served_same true old new pid address write holds i j stop h = elim h [
  | inl x ↦ before_same old new stop x.0
  | inr x ↦ access_same true x.0 (access_by old.kernel pid address write) pid old new holds i j stop x.2
]
served_same false old new pid address write holds i j stop h = access_same false [] (access_by old.kernel pid address write) pid old new holds i j stop h

-- after a call that left the machine going on, or after room that was made
pub continued_same : (old mid new : Standing) (n : ℕ) (stop : Stop) → Continues old mid n → KeptAtStop mid new stop → KeptAtStop old new stop
continued_same old mid new n stop c k = kept_through old mid new stop (record { params = c.params; images = c.images }) k

room_same : (old mid : Standing) → RoomOnly old mid → SameSizes old mid
room_same old mid o = record { params = ap (λ (m : Standing). m.params) o.only; images = ap (λ (m : Standing). m.images) o.only }

pub later_same : (old mid new : Standing) (stop : Stop) → RoomOnly old mid → KeptAtStop mid new stop → KeptAtStop old new stop
later_same old mid new stop o k = kept_through old mid new stop (room_same old mid o) k

pub later_kept : {T : Type 0} (r : Result T Stop) (old mid new : Standing) → RoomOnly old mid → IfErr r (KeptAtStop mid new) → IfErr r (KeptAtStop old new)
later_kept (Ok x) old mid new o k = tt
later_kept (Err stop) old mid new o k = later_same old mid new stop o k
