-- A call whose read misses a byte leaves the machine as it was.
use Rattle.std.proofs.Common.{◌≡◌, inl, inr, ℕ, List, Option, Result, Ok, Err}
use Rattle.vm_facts.specs.SwapImages.{SwapImage}
use Rattle.io_edge.specs.FileHolding.{NamedFile}
use Rattle.vm_facts.specs.declared.regs.Regs.{Regs}
use Rattle.user_vax.specs.Program.{run}
use Rattle.user_vax.specs.declared.refused.Refused.{Refused}
use Rattle.user_vax.specs.declared.refused.Refused.TheVariants.{Miss, Below, Signal}
use Rattle.flat_state.specs.Flat.{NamedImage}
use Rattle.flat_state.specs.declared.change.Change.TheVariants.{Keep, Resize, Fork, Lend, Reap, Exec, Sleep, End}
use Rattle.flat_model.specs.Calls.{no_memory, replied_both, argument, exit_reply, write_reply, execve_reply}
use Rattle.flat_model.specs.declared.calls.Reply.{Reply}
use Rattle.flat_model.specs.declared.calls.Reply.TheVariants.{Fails, Does, Writes, Waits, Exits}
use Rattle.flat_model.specs.declared.calls.SystemCall.{SystemCall}
use Rattle.flat_model.specs.declared.calls.SystemCall.TheVariants as system_calls
use Rattle.machine_state.specs.Machine.{Standing}
use Rattle.step_units.specs.Called.TheVariants as calls
use Rattle.step_units.specs.Answered.{Replied, Comes}
use Rattle.step_units.specs.Callers.{parent_of}
use Rattle.step_units.specs.Growth.{with_pieces}
use Rattle.step_units.specs.ProcCallsLeaving.{ExitComes}
use Rattle.step_units.specs.ProcCallsMaking.{without_pieces}
use Rattle.step_units.specs.Reading.{AreNamed}
use Rattle.step_units.specs.ProcCallsSizing.{BreakComes, MovesEnd, break_at, pages_to}
use Rattle.step_units.specs.Starting.{ExecComes}
use Rattle.step_units.specs.Waiting.{wait_answer}
use Rattle.proc_run.specs.Calls.{own_answers, CallComes}

-- Only a call whose read misses answers so.

replied : (old new : Standing) (pid : ℕ) (regs : Regs) (address : ℕ) (call : SystemCall) (reply : Reply)
    → Replied old new pid call regs reply (calls.Miss address) → ⊥
replied old new pid regs address call (Fails error) h = let e = h.0 in absurd cc
replied old new pid regs address call (Does after change) h = let e = h.0 in absurd cc
replied old new pid regs address call (Writes bytes) h = let e = h.0 in absurd cc
replied old new pid regs address call Waits h = let e = h.0 in absurd cc
replied old new pid regs address call (Exits status) h = absurd h

module _ (old new : Standing) (pid : ℕ) (regs : Regs) (address : ℕ) where
  comes : (call : SystemCall) (r : Result Reply Refused) → Comes old new pid call regs r (calls.Miss address) → new ≡ old
  comes call (Ok reply) h = absurd (replied old new pid regs address call reply h)
  comes call (Err (Miss a write)) h = h.1
  comes call (Err (Below a)) h = absurd (replied old new pid regs address call (Fails 14) h)
  comes call (Err (Signal number)) h = absurd (replied old new pid regs address call (Fails 14) h)

  module _ (holds : Option (List NamedFile)) (i j : Option SwapImage) where
    exit_missed : (r : Result Reply Refused) → ExitComes old new pid regs r holds i j (calls.Miss address) → new ≡ old
    exit_missed (Ok (Exits status)) h = let e = h.0 in absurd cc
    exit_missed (Ok _) h = absurd h
    exit_missed (Err refused) h = comes system_calls.Exit (Err refused) h.0

    exec_missed : (r : Result Reply Refused) → ExecComes old new pid regs r holds i j (calls.Miss address) → new ≡ old
    exec_missed (Ok (Does after (Exec image top))) h = let e = h.0 in absurd cc
    exec_missed (Ok (Does after Keep)) h = comes system_calls.Execve (Ok (Does after Keep)) h.0
    exec_missed (Ok (Does after (Resize a b))) h = comes system_calls.Execve (Ok (Does after (Resize a b))) h.0
    exec_missed (Ok (Does after (Fork child))) h = comes system_calls.Execve (Ok (Does after (Fork child))) h.0
    exec_missed (Ok (Does after (Lend child))) h = comes system_calls.Execve (Ok (Does after (Lend child))) h.0
    exec_missed (Ok (Does after (Reap child))) h = comes system_calls.Execve (Ok (Does after (Reap child))) h.0
    exec_missed (Ok (Does after Sleep)) h = comes system_calls.Execve (Ok (Does after Sleep)) h.0
    exec_missed (Ok (Does after (End status))) h = comes system_calls.Execve (Ok (Does after (End status))) h.0
    exec_missed (Ok (Fails error)) h = comes system_calls.Execve (Ok (Fails error)) h.0
    exec_missed (Ok (Writes bytes)) h = comes system_calls.Execve (Ok (Writes bytes)) h.0
    exec_missed (Ok Waits) h = comes system_calls.Execve (Ok Waits) h.0
    exec_missed (Ok (Exits status)) h = comes system_calls.Execve (Ok (Exits status)) h.0
    exec_missed (Err refused) h = comes system_calls.Execve (Err refused) h.0

    moves : (pages : ℕ) → MovesEnd old new pid regs pages holds i j (calls.Miss address) → ⊥
    moves pages h = elim h [
      | inl w ↦ elim w.0 [
        | inl y ↦ replied old new pid regs address system_calls.Break (break_at old.kernel pid regs pages) y.replied
        | inr z ↦ elim z [
          | inl y ↦ replied (with_pieces old y.found) new pid regs address system_calls.Break (break_at old.kernel pid regs pages) y.replied
          | inr y ↦ replied (without_pieces old pid) new pid regs address system_calls.Break (Fails no_memory) y.replied
        ]
      ]
      | inr y ↦ replied y.between new pid regs address system_calls.Break (break_at old.kernel pid regs pages) y.replied
    ]

    break_missed : (r : Result ℕ Refused) → BreakComes old new pid regs r holds i j (calls.Miss address) → new ≡ old
    break_missed (Ok to) h = absurd (moves (pages_to old.kernel pid to) h)
    break_missed (Err refused) h = comes system_calls.Break (Err refused) h.0

    pub call_missed : (known : List NamedImage) → AreNamed known old.images → (call : SystemCall)
        → CallComes call old new pid regs holds i j (calls.Miss address) → new ≡ old
    call_missed known named system_calls.Exit h = exit_missed (run (own_answers old pid) (exit_reply regs)) h
    call_missed known named system_calls.Fork h = let e = h.0 in absurd cc
    call_missed known named system_calls.Write h = comes system_calls.Write (run (own_answers old pid) (write_reply regs)) h.0
    call_missed known named system_calls.Break h = break_missed (run (own_answers old pid) (argument regs 1)) h
    call_missed known named system_calls.Getpid h = absurd (replied old new pid regs address system_calls.Getpid (Does (replied_both regs pid (parent_of old.kernel pid)) Keep) h.0)
    call_missed known named system_calls.Execve h = exec_missed (run (own_answers old pid) (execve_reply known regs)) (h known named)
    call_missed known named system_calls.Vfork h = let e = h.0 in absurd cc
    call_missed known named system_calls.Wait h = absurd (replied old new pid regs address system_calls.Wait (wait_answer old.kernel pid regs) h.0)
