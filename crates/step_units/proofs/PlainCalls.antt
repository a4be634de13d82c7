-- Waits, questions for the number, writes, and calls whose reads were refused.
use Rattle.std.proofs.Common.{◌≡◌, ◌⊎◌, inl, inr, ℕ, Bool, false, List, [], ◌∷◌, length, Option, Some, None, Result, Ok, Err, refl, sym, ap, ap₂, ◌∙◌, subst}
use Rattle.vm_facts.specs.SwapImages.{SwapImage}
use Rattle.io_edge.specs.FileHolding.{NamedFile}
use Rattle.vm_facts.specs.Answers.{Answers}
use Rattle.vm_facts.specs.declared.regs.Regs.{Regs}
use Rattle.vm_facts.specs.declared.entry.Entry.{Entry}
use Rattle.vm_facts.specs.declared.entry.Entry.TheVariants as entries
use Rattle.vm_facts.specs.declared.stop.Stop.{Stop}
use Rattle.user_vax.specs.Program.{run}
use Rattle.user_vax.specs.Effects.{Effect}
use Rattle.user_vax.specs.declared.refused.Refused.{Refused}
use Rattle.flat_state.specs.Space.{Space}
use Rattle.flat_state.specs.Flat.{Process, FlatState, NamedImage, Inputs}
use Rattle.flat_state.specs.declared.change.Change.TheVariants as changes
use Rattle.kernel_model.specs.Kernel.{Proc}
use Rattle.machine_state.specs.Machine.{Standing}
use Rattle.machine_state.specs.UserMemory.{kernel_answers}
use Rattle.swapper.specs.Stops.{StopsBefore}
use Rattle.flat_model.specs.declared.calls.Reply.{Reply}
use Rattle.flat_model.specs.declared.calls.Reply.TheVariants.{Fails, Does, Writes, Waits, Exits}
use Rattle.flat_model.specs.declared.calls.SystemCall.{SystemCall}
use Rattle.flat_model.specs.declared.calls.SystemCall.TheVariants as system_calls
use Rattle.flat_model.specs.Calls.{reply_of, replied, replied_both, write_reply, wait_reply as flat_wait}
use Rattle.flat_model.specs.Step.{call_entry, reply_asked, replied_step}
use Rattle.proc_calls.specs.Answered.{GoneOut, StopsReading}
use Rattle.proc_calls.specs.Callers.{parent_of}
use Rattle.proc_calls.specs.Waiting.{wait_by_records, wait_answer}
use Rattle.proc_calls.specs.Writing.{IsWriteReply, StopsOut, reply_bytes}
use Rattle.proc_calls.proofs.Writes.{may_write}
use Rattle.run_laws.specs.Shown.{IsCallOf}
use Rattle.run_model.specs.State.{State}
use Rattle.run_model.specs.After.{after}
use Rattle.run_units.specs.Touching.{IsCalledFor}
use Rattle.run_units.proofs.Calling.{calls_write_none}
use Rattle.step_units.specs.Machines.{RunsOn, MakesCall}
use Rattle.step_units.specs.Plain.{WaitIsMade, GetpidIsMade, WriteIsMade, RefusedIsMade, PlainCallStops, RefusedCallStops, WriteStops}
use Rattle.step_units.specs.Stepped.{StopLeads}
use Rattle.step_units.proofs.Tables.{IsKept, is_kept, parent_is, wait_is}
use Rattle.step_units.proofs.Entering.{stopped_before, stops_then}
use Rattle.step_units.proofs.Replying.{asked_here, ready}
use Rattle.step_units.proofs.Output.{IsOutput, outputs}
use Rattle.step_units.proofs.Quiet.{IsQuiet, IsQuietRead, comes_made, stops_quiet, stops_reading}

-- What the calls ask.

pub asked_plainly : (A : Inputs) (s : State) (old : Standing) (holds : Option (List NamedFile)) (image : SwapImage) (pid : ℕ) (now : Bool) (p : Process)
    (x : Space) (effect : Effect) (call : SystemCall)
    → RunsOn A s old holds image pid now p x → MakesCall old p x effect call
    → run (kernel_answers old.kernel x.sid) (reply_asked A.images s.point.flat p x call effect)
    ≡ run (kernel_answers old.kernel x.sid) (reply_of A.images s.point.flat p x call effect.regs)
asked_plainly A s old holds image pid now p x effect call h m =
    ap (run (kernel_answers old.kernel x.sid))
    (asked_here A s pid p x call effect h.running.here h.running.holds (calls_write_none (kernel_answers old.kernel x.sid) p.regs effect m.names.number m.made m.names.is_number))

module _ (images : List NamedImage) (F : FlatState) (p : Process) (x : Space) (regs : Regs) (memory : Answers) where
  waits_run : run memory (reply_of images F p x system_calls.Wait regs) ≡ Ok (flat_wait F p.pid regs)
  unfolding reply_of
  waits_run = refl

  numbers_run : run memory (reply_of images F p x system_calls.Getpid regs) ≡ Ok (Does (replied_both regs p.pid p.parent) changes.Keep)
  unfolding reply_of
  numbers_run = refl

  writes_run : run memory (reply_of images F p x system_calls.Write regs) ≡ run memory (write_reply regs)
  unfolding reply_of
  writes_run = refl

module _ (A : Inputs) (s : State) (old : Standing) (holds : Option (List NamedFile)) (image : SwapImage) (pid : ℕ) (now : Bool) (p : Process) (x : Space)
    (effect : Effect) where
  wait_asked : RunsOn A s old holds image pid now p x → MakesCall old p x effect system_calls.Wait
      → run (kernel_answers old.kernel x.sid) (reply_asked A.images s.point.flat p x system_calls.Wait effect) ≡ Ok (wait_answer old.kernel pid effect.regs)
  wait_asked h m =
      let kept : IsKept old.kernel pid p x = is_kept A s old.kernel image pid now p x h.machine.at h.running in
      asked_plainly A s old holds image pid now p x effect system_calls.Wait h m ∙ waits_run A.images s.point.flat p x effect.regs (kernel_answers old.kernel x.sid)
      ∙ ap (λ (z : Reply). let r : Result Reply Refused = Ok z in r)
      (ap (λ (n : ℕ). flat_wait s.point.flat n effect.regs) kept.number ∙ sym (wait_is old.kernel s.point.flat pid effect.regs h.machine.at.stands.keeps.coupled.tables))

  number_asked : RunsOn A s old holds image pid now p x → MakesCall old p x effect system_calls.Getpid
      → run (kernel_answers old.kernel x.sid) (reply_asked A.images s.point.flat p x system_calls.Getpid effect)
      ≡ Ok (Does (replied_both effect.regs pid (parent_of old.kernel pid)) changes.Keep)
  number_asked h m =
      let kept : IsKept old.kernel pid p x = is_kept A s old.kernel image pid now p x h.machine.at h.running in
      asked_plainly A s old holds image pid now p x effect system_calls.Getpid h m ∙ numbers_run A.images s.point.flat p x effect.regs (kernel_answers old.kernel x.sid)
      ∙ ap₂ (λ (n parent : ℕ). let r : Result Reply Refused = Ok (Does (replied_both effect.regs n parent) changes.Keep) in r) kept.number (sym (parent_is old.kernel pid p x kept))

  write_asked : RunsOn A s old holds image pid now p x → MakesCall old p x effect system_calls.Write
      → run (kernel_answers old.kernel x.sid) (reply_asked A.images s.point.flat p x system_calls.Write effect)
      ≡ run (kernel_answers old.kernel x.sid) (write_reply effect.regs)
  write_asked h m =
      asked_plainly A s old holds image pid now p x effect system_calls.Write h m ∙ writes_run A.images s.point.flat p x effect.regs (kernel_answers old.kernel x.sid)

quiet_wait : (child ended : Option Proc) (regs : Regs) → IsQuiet (wait_by_records child ended regs)
quiet_wait None ended regs = tt
quiet_wait (Some child) None regs = tt
quiet_wait (Some child) (Some z) regs = tt

quiet_write : (r : Result Reply Refused) → IsWriteReply r → IsQuietRead r
quiet_write (Ok (Fails error)) h = tt
quiet_write (Ok (Does regs change)) h = absurd h
quiet_write (Ok (Writes bytes)) h = tt
quiet_write (Ok Waits) h = absurd h
quiet_write (Ok (Exits status)) h = absurd h
quiet_write (Err refused) h = tt

-- What they come to.

pub wait_made : WaitIsMade
wait_made A s old new holds image pid now p x effect called h m g =
    comes_made A s old new holds image pid now p x effect system_calls.Wait (Ok (wait_answer old.kernel pid effect.regs)) called h m
    (wait_asked A s old holds image pid now p x effect h m) (quiet_wait _ _ effect.regs) g

pub getpid_made : GetpidIsMade
getpid_made A s old new holds image pid now p x effect called h m g =
    comes_made A s old new holds image pid now p x effect system_calls.Getpid (Ok (Does (replied_both effect.regs pid (parent_of old.kernel pid)) changes.Keep)) called h m
    (number_asked A s old holds image pid now p x effect h m) tt g

pub write_made : WriteIsMade
write_made A s old new holds image pid now p x effect called h m g =
    let memory : Answers = kernel_answers old.kernel x.sid in
    comes_made A s old new holds image pid now p x effect system_calls.Write (run memory (write_reply effect.regs)) called h m
    (write_asked A s old holds image pid now p x effect h m) (quiet_write (run memory (write_reply effect.regs)) (may_write memory effect.regs (run memory (write_reply effect.regs)) refl)) g

pub refused_made : RefusedIsMade
refused_made A s old new holds image pid now p x effect call refused called h m e g =
    comes_made A s old new holds image pid now p x effect call (Err refused) called h m e tt g

-- Where the run stops.

pub plain_stops : PlainCallStops
plain_stops A s old new holds image pid now p x effect system_calls.Wait stop h m a g =
    let r : Result Reply Refused = Ok (wait_answer old.kernel pid effect.regs) in
    stops_quiet A s old new holds image pid now p x effect system_calls.Wait r stop h m.names
    (ready A s old holds image pid now p x effect system_calls.Wait r h m (wait_asked A s old holds image pid now p x effect h m) tt) (quiet_wait _ _ effect.regs) g
plain_stops A s old new holds image pid now p x effect system_calls.Getpid stop h m a g =
    let r : Result Reply Refused = Ok (Does (replied_both effect.regs pid (parent_of old.kernel pid)) changes.Keep) in
    stops_quiet A s old new holds image pid now p x effect system_calls.Getpid r stop h m.names
    (ready A s old holds image pid now p x effect system_calls.Getpid r h m (number_asked A s old holds image pid now p x effect h m) tt) tt g
plain_stops A s old new holds image pid now p x effect _ stop h m a g = absurd a

pub refused_stops : RefusedCallStops
refused_stops = stops_reading

-- a write stops before the bytes that go out, or after them
stops_writing : (A : Inputs) (s : State) (old new : Standing) (holds : Option (List NamedFile)) (image : SwapImage) (pid : ℕ) (now : Bool) (p : Process)
    (x : Space) (effect : Effect)
    (reply : Reply) (stop : Stop)
    → RunsOn A s old holds image pid now p x → IsCallOf effect system_calls.Write → IsCalledFor A s p x system_calls.Write effect (Ok reply) → IsQuiet reply
    → StopsOut old new pid (reply_bytes reply) stop → StopLeads A s old.kernel image stop new (Some image)
stops_writing A s old new holds image pid now p x effect reply stop h m c q g = go reply refl g.far
  where
    first : g.reached ≡ old → StopLeads A s old.kernel image stop new (Some image)
    first e = stops_quiet A s old new holds image pid now p x effect system_calls.Write (Ok reply) stop h m c q (subst (λ (n : Standing). StopsBefore n new stop) e g.stops)

    go : (y : Reply) → reply ≡ y → (g.reached ≡ old) ⊎ GoneOut old g.reached pid (reply_bytes y) → StopLeads A s old.kernel image stop new (Some image)
    go y e (inl same) = first same
    go (Fails error) e (inr out) = first out
    go (Does regs change) e (inr out) = first out
    go (Writes []) e (inr out) = first out
    go (Writes (byte ∷ bytes)) e (inr out) =
        let regs : Regs = replied effect.regs false (length (byte ∷ bytes)) in
        let u : Entry = entries.Out pid (byte ∷ bytes) in
        let v : Entry = call_entry pid system_calls.Write regs in
        let o : IsOutput A s old g.reached holds image pid now p x u v (replied_step A.images s.point.flat p system_calls.Write effect (Writes (byte ∷ bytes))) =
        outputs A s old g.reached holds image pid now p x effect system_calls.Write (Ok reply) byte bytes h m c e out in
        stops_then A s (after A s u) old.kernel g.reached.kernel image image (Some image) (u ∷ []) stop new o.leads
        (stopped_before A (after A s u) g.reached new image pid now v stop o.running.runs o.unwanted o.acts tt g.stops)
    go Waits e (inr out) = first out
    go (Exits status) e (inr out) = first out

pub write_stops : WriteStops
write_stops A s old new holds image pid now p x effect stop h m g =
    let memory : Answers = kernel_answers old.kernel x.sid in
    go (run memory (write_reply effect.regs)) (write_asked A s old holds image pid now p x effect h m)
    (quiet_write (run memory (write_reply effect.regs)) (may_write memory effect.regs (run memory (write_reply effect.regs)) refl)) g
  where
    go : (r : Result Reply Refused) → run (kernel_answers old.kernel x.sid) (reply_asked A.images s.point.flat p x system_calls.Write effect) ≡ r → IsQuietRead r
        → StopsReading r (λ reply before after. StopsOut old new pid (reply_bytes reply)) old new (Some image) (Some image) stop
        → StopLeads A s old.kernel image stop new (Some image)
    go (Ok reply) e q y =
        stops_writing A s old new holds image pid now p x effect reply stop h m.names (ready A s old holds image pid now p x effect system_calls.Write (Ok reply) h m e tt) q y
    go (Err refused) e q y = stops_reading A s old new holds image pid now p x effect system_calls.Write refused stop h m e y.0
