-- A call, whichever it is, is the process's step.
use Rattle.std.proofs.Common.{◌≡◌, ℕ, Bool, List, Option, Some, sym, ap, subst}
use Rattle.vm_facts.specs.SwapImages.{SwapImage}
use Rattle.io_edge.specs.FileHolding.{NamedFile}
use Rattle.vm_facts.specs.Answers.{Answers}
use Rattle.vm_facts.specs.declared.stop.Stop.{Stop}
use Rattle.user_vax.specs.Program.{run}
use Rattle.user_vax.specs.Effects.{Effect}
use Rattle.flat_state.specs.Space.{Space}
use Rattle.flat_state.specs.Flat.{Process, Inputs}
use Rattle.flat_model.specs.Calls.{argument, exit_reply, write_reply, execve_reply}
use Rattle.flat_model.specs.declared.calls.SystemCall.{SystemCall}
use Rattle.flat_model.specs.declared.calls.SystemCall.TheVariants as system_calls
use Rattle.machine_state.specs.Machine.{Standing}
use Rattle.machine_state.specs.UserMemory.{kernel_answers}
use Rattle.step_units.specs.Called.{Called}
use Rattle.step_units.specs.Called.TheVariants as calls
use Rattle.step_units.specs.Answered.{Comes, StopsReading}
use Rattle.step_units.specs.ProcCallsLeaving.{ExitComes, StopsAlive}
use Rattle.step_units.specs.Reading.{AreNamed}
use Rattle.step_units.specs.ProcCallsSizing.{BreakComes, StopsBreaking, pages_to}
use Rattle.step_units.specs.Starting.{ExecComes, StopsExec}
use Rattle.step_units.specs.Writing.{StopsOut, reply_bytes}
use Rattle.run_model.specs.State.{State}
use Rattle.step_units.specs.Machines.{RunsOn, MakesCall}
use Rattle.step_units.specs.Stepped.{CallLeads, StopLeads}
use Rattle.step_units.proofs.Serving.{same_space}
use Rattle.step_units.proofs.PlainCalls.{wait_made, getpid_made, write_made, refused_made, plain_stops, refused_stops, write_stops}
use Rattle.step_units.proofs.Breaking.{break_made, break_stops}
use Rattle.step_units.proofs.Lending.{vfork_made, vfork_stops}
use Rattle.step_units.proofs.Forking.{fork_made, fork_stops}
use Rattle.step_units.proofs.Ending.{exit_made, exit_stops}
use Rattle.step_units.proofs.Executing.{exec_made, exec_stops}
use Rattle.proc_run.specs.Calls.{own_answers, CallComes, CallStops}

module _ (A : Inputs) (s : State) (old new : Standing) (holds : Option (List NamedFile)) (image : SwapImage) (pid : ℕ) (now : Bool) (p : Process) (x : Space) (effect : Effect)
    (on : RunsOn A s old holds image pid now p x) (named : AreNamed A.images old.images) where
  -- the process reads its own space
  own : own_answers old pid ≡ kernel_answers old.kernel x.sid
  own = ap (kernel_answers old.kernel) (same_space A s old.kernel image pid now p x on.machine.at on.running)

  told : (call : SystemCall) (j : Option SwapImage) (called : Called) → j ≡ Some image → CallLeads A s old.kernel image x called new.kernel (Some image)
      → CallLeads A s old.kernel image x called new.kernel j
  told call j called e h = subst (λ (i : Option SwapImage). CallLeads A s old.kernel image x called new.kernel i) (sym e) h

  stop_told : (stop : Stop) (j : Option SwapImage) → j ≡ Some image → StopLeads A s old.kernel image stop new (Some image) → StopLeads A s old.kernel image stop new j
  stop_told stop j e h = subst (λ (i : Option SwapImage). StopLeads A s old.kernel image stop new i) (sym e) h

  -- one that has its reply
  ready : (called : Called) (j : Option SwapImage) → called ≡ calls.Ready → CallLeads A s old.kernel image x calls.Ready new.kernel j → CallLeads A s old.kernel image x called new.kernel j
  ready called j e h = subst (λ (c : Called). CallLeads A s old.kernel image x c new.kernel j) (sym e) h

  pub call_leads : (call : SystemCall) (j : Option SwapImage) (called : Called) → MakesCall old p x effect call
      → CallComes call old new pid effect.regs holds (Some image) j called
      → CallLeads A s old.kernel image x called new.kernel j
  call_leads system_calls.Exit j called m h =
      exit_made A s old new holds image j pid now p x effect on m called refused_made
      (subst (λ (a : Answers). ExitComes old new pid effect.regs (run a (exit_reply effect.regs)) holds (Some image) j called) own h)
  call_leads system_calls.Fork j called m h = ready called j h.0 (fork_made A s old new holds image j pid now p x effect on m h.1.forked)
  call_leads system_calls.Write j called m h =
      told system_calls.Write j called h.1 (write_made A s old new holds image pid now p x effect called on m
      (subst (λ (a : Answers). Comes old new pid system_calls.Write effect.regs (run a (write_reply effect.regs)) called) own h.0))
  call_leads system_calls.Break j called m h =
      break_made A s old new holds image j pid now p x effect called on m
      (subst (λ (a : Answers). BreakComes old new pid effect.regs (run a (argument effect.regs 1)) holds (Some image) j called) own h)
  call_leads system_calls.Getpid j called m h = told system_calls.Getpid j called h.1 (getpid_made A s old new holds image pid now p x effect called on m h.0)
  call_leads system_calls.Execve j called m h =
      exec_made A s old holds image pid now p x effect on m new j called refused_made
      (subst (λ (a : Answers). ExecComes old new pid effect.regs (run a (execve_reply A.images effect.regs)) holds (Some image) j called) own (h A.images named))
  call_leads system_calls.Vfork j called m h = ready called j h.0 (told system_calls.Vfork j calls.Ready h.2 (vfork_made A s old new holds image pid now p x effect on m h.1))
  call_leads system_calls.Wait j called m h = told system_calls.Wait j called h.1 (wait_made A s old new holds image pid now p x effect called on m h.0)

  pub call_stops : (call : SystemCall) (j : Option SwapImage) (stop : Stop) → MakesCall old p x effect call
      → CallStops call old new pid effect.regs holds (Some image) j stop
      → StopLeads A s old.kernel image stop new j
  call_stops system_calls.Exit j stop m h =
      exit_stops A s old new holds image j pid now p x effect on m stop refused_stops
      (subst (λ (a : Answers). StopsReading (run a (exit_reply effect.regs)) (λ reply. StopsAlive old new pid holds) old new (Some image) j stop) own h)
  call_stops system_calls.Fork j stop m h = fork_stops A s old new holds image j pid now p x effect stop on m h
  call_stops system_calls.Write j stop m h =
      stop_told stop j h.1 (write_stops A s old new holds image pid now p x effect stop on m
      (subst (λ (a : Answers). StopsReading (run a (write_reply effect.regs)) (λ reply before after. StopsOut old new pid (reply_bytes reply)) old new (Some image) (Some image) stop) own h.0))
  call_stops system_calls.Break j stop m h =
      break_stops A s old new holds image j pid now p x effect stop on m
      (subst (λ (a : Answers). StopsReading (run a (argument effect.regs 1)) (λ address. StopsBreaking old new pid (pages_to old.kernel pid address) holds) old new (Some image) j stop) own h)
  call_stops system_calls.Getpid j stop m h = stop_told stop j h.1 (plain_stops A s old new holds image pid now p x effect system_calls.Getpid stop on m tt h.0)
  call_stops system_calls.Execve j stop m h =
      exec_stops A s old holds image pid now p x effect on m new j stop refused_stops
      (subst (λ (a : Answers). StopsReading (run a (execve_reply A.images effect.regs)) (λ reply. StopsExec old new pid reply holds) old new (Some image) j stop) own (h A.images named))
  call_stops system_calls.Vfork j stop m h = stop_told stop j h.1 (vfork_stops A s old new holds image pid now p x effect stop on m h.0)
  call_stops system_calls.Wait j stop m h = stop_told stop j h.1 (plain_stops A s old new holds image pid now p x effect system_calls.Wait stop on m tt h.0)
