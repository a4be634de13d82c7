-- A machine goes on after a call, whichever it is.
use Rattle.std.proofs.Common.{◌≡◌, ℕ, List, Option, sym, subst}
use Rattle.vm_facts.specs.SwapImages.{SwapImage}
use Rattle.io_edge.specs.FileHolding.{NamedFile}
use Rattle.vm_facts.specs.declared.regs.Regs.{Regs}
use Rattle.user_vax.specs.Program.{run}
use Rattle.flat_state.specs.Flat.{NamedImage}
use Rattle.flat_state.specs.declared.change.Change.TheVariants.{Keep}
use Rattle.flat_model.specs.Calls.{replied_both, argument, exit_reply}
use Rattle.flat_model.specs.declared.calls.Reply.TheVariants.{Does}
use Rattle.flat_model.specs.declared.calls.SystemCall.{SystemCall}
use Rattle.flat_model.specs.declared.calls.SystemCall.TheVariants as system_calls
use Rattle.machine_state.specs.Machine.{Standing}
use Rattle.step_units.specs.Called.{Called}
use Rattle.step_units.specs.Called.TheVariants as calls
use Rattle.step_units.specs.Callers.{IsCaller, parent_of}
use Rattle.step_units.specs.Reading.{AreNamed}
use Rattle.step_units.specs.Ready.{Continues}
use Rattle.step_units.specs.Calls.{called_count}
use Rattle.step_units.proofs.CallsContinue.{reply_continues, write_continues, wait_continues, vfork_continues, exit_continues, break_continues}
use Rattle.step_units.proofs.SpacesContinue.{fork_continues, exec_continues}
use Rattle.proc_run.specs.Calls.{own_answers, CallComes}

module _ (old new : Standing) (pid : ℕ) (regs : Regs) (holds : Option (List NamedFile)) (i j : Option SwapImage) (caller : IsCaller old pid) where
  counted : (called : Called) → called ≡ calls.Ready → Continues old new 1 → Continues old new (called_count called)
  counted called e h = subst (λ (c : Called). Continues old new (called_count c)) (sym e) h

  pub calls_go_on : (known : List NamedImage) → AreNamed known old.images → (call : SystemCall) (called : Called)
      → CallComes call old new pid regs holds i j called → Continues old new (called_count called)
  calls_go_on known named system_calls.Exit called h = exit_continues old new pid regs (run (own_answers old pid) (exit_reply regs)) holds i j called caller h
  calls_go_on known named system_calls.Fork called h = counted called h.0 (fork_continues old new pid regs holds i j caller h.1.forked h.1.on)
  calls_go_on known named system_calls.Write called h = write_continues old new pid regs (own_answers old pid) called caller h.0
  calls_go_on known named system_calls.Break called h = break_continues old new pid regs (run (own_answers old pid) (argument regs 1)) holds i j called caller h
  calls_go_on known named system_calls.Getpid called h =
      reply_continues old new pid system_calls.Getpid regs (Does (replied_both regs pid (parent_of old.kernel pid)) Keep) called caller tt h.0
  calls_go_on known named system_calls.Execve called h = exec_continues old new pid regs known (own_answers old pid) holds i j called caller (h known named)
  calls_go_on known named system_calls.Vfork called h = counted called h.0 (vfork_continues old new pid regs caller h.1)
  calls_go_on known named system_calls.Wait called h = wait_continues old new pid regs called caller h.0
