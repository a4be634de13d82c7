-- Calls that ask for no pieces and give up no space.
use Rattle.std.proofs.Common.{◌≡◌, ℕ, Bool, false, List, [], ◌∷◌, Option, Some, Result, Ok, Err, refl, sym, ap, subst}
use Rattle.vm_facts.specs.SwapImages.{SwapImage}
use Rattle.io_edge.specs.FileHolding.{NamedFile}
use Rattle.vm_facts.specs.declared.entry.Entry.{Entry}
use Rattle.vm_facts.specs.declared.stop.Stop.{Stop}
use Rattle.user_vax.specs.Program.{run}
use Rattle.user_vax.specs.Effects.{Effect}
use Rattle.user_vax.specs.declared.refused.Refused.{Refused}
use Rattle.user_vax.specs.declared.refused.Refused.TheVariants.{Miss, Below, Signal}
use Rattle.swap_book.specs.Placing.{place_all}
use Rattle.flat_state.specs.Space.{Space}
use Rattle.flat_state.specs.Flat.{Process, Inputs}
use Rattle.flat_state.specs.Change.{is_borrower}
use Rattle.flat_state.specs.declared.change.Change.TheVariants as changes
use Rattle.page_model.specs.Place.{facts_of}
use Rattle.kernel_model.specs.Kernel.{Kernel}
use Rattle.kernel_model.specs.Asks.{asked}
use Rattle.machine_state.specs.Machine.{Standing}
use Rattle.machine_state.specs.UserMemory.{kernel_answers}
use Rattle.swapper.specs.Stops.{StopsBefore}
use Rattle.flat_model.specs.declared.calls.Reply.{Reply}
use Rattle.flat_model.specs.declared.calls.Reply.TheVariants.{Fails, Does, Writes, Waits, Exits}
use Rattle.flat_model.specs.declared.calls.SystemCall.{SystemCall}
use Rattle.flat_model.specs.Calls.{bad_address, or_fault, replied}
use Rattle.flat_model.specs.Step.{Step, reply_asked, replied_step}
use Rattle.flat_model.specs.Run.{step_at}
use Rattle.proc_calls.specs.declared.replying.Called.{Called}
use Rattle.proc_calls.specs.Answered.{Answered, Replied, Comes, StopsRefused}
use Rattle.run_laws.specs.Shown.{IsCallOf}
use Rattle.run_model.specs.State.{State}
use Rattle.run_model.specs.Act.{loses_pages}
use Rattle.run_units.specs.Touching.{IsCalledFor, WantsPage}
use Rattle.run_units.proofs.Instructing.{call_wanted}
use Rattle.run_units.proofs.Stepping.{none_asked}
use Rattle.step_units.specs.Machines.{RunsOn, MakesCall}
use Rattle.step_units.specs.Stepped.{CallLeads, StopLeads}
use Rattle.step_units.proofs.Begun.{begins, none_lost}
use Rattle.step_units.proofs.Entering.{IsOwn, stopped_before, stopped_short}
use Rattle.step_units.proofs.Reading.{call_reads, missed_read}
use Rattle.step_units.proofs.Replying.{ready, called_step, answers, fails}
use Rattle.step_units.proofs.Sleeping.{sleeps}
use Rattle.step_units.proofs.Output.{writes_out}

-- an error, an answer that changes nothing or reaps a child, bytes that go out, or a sleep
abbrev pub IsQuiet : Reply → Type 0
IsQuiet (Fails error) = Unit {0}
IsQuiet (Does after changes.Keep) = Unit {0}
IsQuiet (Does after (changes.Reap child)) = Unit {0}
IsQuiet (Does after change) = ⊥
IsQuiet (Writes bytes) = Unit {0}
IsQuiet Waits = Unit {0}
IsQuiet (Exits status) = ⊥

abbrev pub IsQuietRead : Result Reply Refused → Type 0
IsQuietRead (Ok reply) = IsQuiet reply
IsQuietRead (Err refused) = Unit {0}

-- What such a call comes to is the step.

module _ (A : Inputs) (s : State) (old new : Standing) (holds : Option (List NamedFile)) (image : SwapImage) (pid : ℕ) (now : Bool) (p : Process) (x : Space)
    (effect : Effect) (call : SystemCall) where
  pub quiet_made : (r : Result Reply Refused) (reply : Reply) (called : Called)
      → RunsOn A s old holds image pid now p x → IsCallOf effect call → IsCalledFor A s p x call effect r → or_fault r ≡ reply → IsQuiet reply
      → Replied old new pid call effect.regs reply called → CallLeads A s old.kernel image x called new.kernel (Some image)
  quiet_made r (Fails error) called h m c e q g =
      subst (λ (z : Called). CallLeads A s old.kernel image x z new.kernel (Some image)) (sym g.0) (fails A s old new.kernel holds image pid now p x effect call r error h m c e g.1.step)
  quiet_made r (Does after changes.Keep) called h m c e q g =
      subst (λ (z : Called). CallLeads A s old.kernel image x z new.kernel (Some image)) (sym g.0)
      (answers A s old new.kernel holds image pid now p x effect call r after changes.Keep old.kernel.holdings h m c (ap (replied_step A.images s.point.flat p call effect) e) tt tt refl
      (none_asked A.swap_blocks old.kernel).0 g.1.step)
  quiet_made r (Does after (changes.Reap child)) called h m c e q g =
      subst (λ (z : Called). CallLeads A s old.kernel image x z new.kernel (Some image)) (sym g.0)
      (answers A s old new.kernel holds image pid now p x effect call r after (changes.Reap child) old.kernel.holdings h m c (ap (replied_step A.images s.point.flat p call effect) e) tt tt refl
      (none_asked A.swap_blocks old.kernel).0 g.1.step)
  quiet_made r (Does after change) called h m c e q g = absurd q
  quiet_made r (Writes []) called h m c e q g =
      let answer : Answered old new pid call (replied effect.regs false 0) changes.Keep =
      subst (λ (n : Standing). Answered n new pid call (replied effect.regs false 0) changes.Keep) g.1.out g.1.answer in
      subst (λ (z : Called). CallLeads A s old.kernel image x z new.kernel (Some image)) (sym g.0)
      (answers A s old new.kernel holds image pid now p x effect call r (replied effect.regs false 0) changes.Keep old.kernel.holdings h m c
      (ap (replied_step A.images s.point.flat p call effect) e) tt tt refl (none_asked A.swap_blocks old.kernel).0 answer.step)
  quiet_made r (Writes (byte ∷ bytes)) called h m c e q g =
      subst (λ (z : Called). CallLeads A s old.kernel image x z new.kernel (Some image)) (sym g.0) (writes_out A s old new holds image pid now p x effect call r byte bytes h m c e g.1)
  quiet_made r Waits called h m c e q g =
      subst (λ (z : Called). CallLeads A s old.kernel image x z new.kernel (Some image)) (sym g.0) (sleeps A s old new.kernel holds image pid now p x effect call r h m c e g.1.step)
  quiet_made r (Exits status) called h m c e q g = absurd q

  -- where a byte misses nothing was done, and the process waits for its page
  missed : (address : ℕ) (write : Bool) (called : Called) → RunsOn A s old holds image pid now p x → MakesCall old p x effect call
      → run (kernel_answers old.kernel x.sid) (reply_asked A.images s.point.flat p x call effect) ≡ Err (Miss address write)
      → Comes old new pid call effect.regs (Err (Miss address write)) called → CallLeads A s old.kernel image x called new.kernel (Some image)
  missed address write called h m e g =
      let reads : write ≡ false =
      missed_read (kernel_answers old.kernel x.sid) (reply_asked A.images s.point.flat p x call effect) address write (call_reads A.images _ _ _ call effect.regs) e in
      let wants : WantsPage A s old.kernel x address write = call_wanted A s old.kernel image pid now p x effect call address write h.machine.at h.running m.made m.names e in
      subst (λ (z : Called). CallLeads A s old.kernel image x z new.kernel (Some image)) (sym g.0)
      (ap (λ (n : Standing). n.kernel) g.1, refl, subst (WantsPage A s old.kernel x address) reads wants)

  pub comes_made : (r : Result Reply Refused) (called : Called) → RunsOn A s old holds image pid now p x → MakesCall old p x effect call
      → run (kernel_answers old.kernel x.sid) (reply_asked A.images s.point.flat p x call effect) ≡ r → IsQuietRead r
      → Comes old new pid call effect.regs r called → CallLeads A s old.kernel image x called new.kernel (Some image)
  comes_made (Ok reply) called h m e q g =
      quiet_made (Ok reply) reply called h m.names (ready A s old holds image pid now p x effect call (Ok reply) h m e tt) refl q g
  comes_made (Err (Miss address write)) called h m e q g = missed address write called h m e g
  comes_made (Err (Below address)) called h m e q g =
      quiet_made (Err (Below address)) (Fails bad_address) called h m.names
      (ready A s old holds image pid now p x effect call (Err (Below address)) h m e tt) refl tt g
  comes_made (Err (Signal number)) called h m e q g =
      quiet_made (Err (Signal number)) (Fails bad_address) called h m.names
      (ready A s old holds image pid now p x effect call (Err (Signal number)) h m e tt) refl tt g

-- Where the run stops before the step's first entry.

-- the first entry of such a step, which asks for no pieces and gives up no space
pub record FirstEntry (A : Inputs) (s : State) (k : Kernel) (pid : ℕ) (x : Space) (step : Step) : Type 0 where
  pub entry : Entry
  pub rest : List Entry
  pub first : step.entries ≡ entry ∷ rest
  pub own : IsOwn entry
  pub found : place_all A.swap_blocks k.holdings (asked (facts_of A.images) k pid step.change) ≡ Ok k.holdings
  pub loses : loses_pages x (is_borrower s.point.flat.processes pid) step.change ≡ false

pub first_entry : (A : Inputs) (s : State) (k : Kernel) (pid : ℕ) (p : Process) (x : Space) (effect : Effect) (call : SystemCall) (reply : Reply)
    → IsQuiet reply
    → FirstEntry A s k pid x (replied_step A.images s.point.flat p call effect reply)
first_entry A s k pid p x effect call (Fails error) q = record { entry = _; rest = []; first = refl; own = tt; found = (none_asked A.swap_blocks k).0; loses = refl }
first_entry A s k pid p x effect call (Does after changes.Keep) q = record { entry = _; rest = []; first = refl; own = tt; found = (none_asked A.swap_blocks k).0; loses = refl }
first_entry A s k pid p x effect call (Does after (changes.Reap child)) q = record { entry = _; rest = []; first = refl; own = tt; found = (none_asked A.swap_blocks k).0; loses = refl }
first_entry A s k pid p x effect call (Does after change) q = absurd q
first_entry A s k pid p x effect call (Writes []) q = record { entry = _; rest = []; first = refl; own = tt; found = (none_asked A.swap_blocks k).0; loses = refl }
first_entry A s k pid p x effect call (Writes (byte ∷ bytes)) q = record { entry = _; rest = _; first = refl; own = tt; found = (none_asked A.swap_blocks k).0; loses = refl }
first_entry A s k pid p x effect call Waits q = record { entry = _; rest = []; first = refl; own = tt; found = (none_asked A.swap_blocks k).0; loses = refl }
first_entry A s k pid p x effect call (Exits status) q = absurd q

pub stops_quiet : (A : Inputs) (s : State) (old new : Standing) (holds : Option (List NamedFile)) (image : SwapImage) (pid : ℕ) (now : Bool) (p : Process)
    (x : Space) (effect : Effect)
    (call : SystemCall)
    (r : Result Reply Refused) (stop : Stop)
    → RunsOn A s old holds image pid now p x → IsCallOf effect call → IsCalledFor A s p x call effect r → IsQuiet (or_fault r)
    → StopsBefore old new stop → StopLeads A s old.kernel image stop new (Some image)
stops_quiet A s old new holds image pid now p x effect call r stop h m c q g =
    let step : Step = replied_step A.images s.point.flat p call effect (or_fault r) in
    let is : step_at A s.point pid ≡ step = called_step A s pid now p x effect call r h.running h.between m c in
    let f : FirstEntry A s old.kernel pid x step = first_entry A s old.kernel pid p x effect call (or_fault r) q in
    stopped_before A s old new image pid now f.entry stop h.running.runs c.unwanted
    (begins A s old.kernel image pid now p x step f.entry f.rest old.kernel.holdings h.machine.at h.running h.between is f.first f.found (none_lost A s pid now p x step h.running is f.loses)) f.own g

-- a call whose read was refused
pub stops_reading : (A : Inputs) (s : State) (old new : Standing) (holds : Option (List NamedFile)) (image : SwapImage) (pid : ℕ) (now : Bool) (p : Process)
    (x : Space) (effect : Effect)
    (call : SystemCall)
    (refused : Refused) (stop : Stop)
    → RunsOn A s old holds image pid now p x → MakesCall old p x effect call
    → run (kernel_answers old.kernel x.sid) (reply_asked A.images s.point.flat p x call effect) ≡ Err refused
    → StopsRefused old new refused stop → StopLeads A s old.kernel image stop new (Some image)
stops_reading A s old new holds image pid now p x effect call (Miss address write) stop h m e g = stopped_short A s old new image stop g.0.stopped g.1 g.0.whole
stops_reading A s old new holds image pid now p x effect call (Below address) stop h m e g =
    stops_quiet A s old new holds image pid now p x effect call (Err (Below address)) stop h m.names (ready A s old holds image pid now p x effect call (Err (Below address)) h m e tt) tt g
stops_reading A s old new holds image pid now p x effect call (Signal number) stop h m e g =
    stops_quiet A s old new holds image pid now p x effect call (Err (Signal number)) stop h m.names (ready A s old holds image pid now p x effect call (Err (Signal number)) h m e tt) tt g
