-- The end of a process, and its exit, are its step.
use Rattle.std.proofs.Common.{◌≡◌, inl, inr, ℕ, Bool, true, false, List, [], ◌∷◌, Option, Some, Result, Ok, Err, refl, sym, ap, ◌∙◌, subst, ◌%◌, ◌*◌}
use Rattle.std.specs.Prelude.{is_ok}
use Rattle.vm_facts.specs.SwapImages.{SwapImage}
use Rattle.io_edge.specs.FileHolding.{NamedFile}
use Rattle.vm_facts.specs.declared.entry.Entry.{Entry}
use Rattle.vm_facts.specs.declared.entry.Entry.TheVariants as entries
use Rattle.vm_facts.specs.declared.regs.Regs.{Regs}
use Rattle.vm_facts.specs.declared.stop.Stop.{Stop}
use Rattle.aout_image.specs.declared.Image.{Image}
use Rattle.swap_book.specs.Holdings.{Holdings}
use Rattle.flat_state.specs.Space.{Space}
use Rattle.flat_state.specs.Flat.{Process, Inputs, FlatState, NamedImage}
use Rattle.flat_state.specs.declared.change.Change.TheVariants.{End}
use Rattle.flat_model.specs.Run.{step_at}
use Rattle.flat_model.specs.Step.{Step, ended_step, reply_asked}
use Rattle.page_model.specs.Placement.{Placement}
use Rattle.page_model.specs.Place.{facts_of}
use Rattle.kernel_model.specs.Kernel.{Kernel}
use Rattle.kernel_model.specs.ChangeStep.{change_step}
use Rattle.kernel_model.specs.Unit.{has_lender}
use Rattle.machine_state.specs.Applying.{facts_named}
use Rattle.machine_state.specs.Machine.{Standing}
use Rattle.proc_calls.specs.Answered.{Entered, StopsOnce, StopsReading}
use Rattle.proc_calls.specs.Callers.{regs_of}
use Rattle.proc_calls.specs.Leaving.{HasLeft, HasEnded, StopsAlive, IsExit, ExitComes}
use Rattle.run_model.specs.State.{State}
use Rattle.run_model.specs.Act.{must_refuse}
use Rattle.run_units.specs.Leads.{MadeAs}
use Rattle.run_units.specs.Serving.{At}
use Rattle.run_units.specs.Stepping.{GivesBack, returned, with_holdings}
use Rattle.run_units.specs.Touching.{RunsInSpace, IsCalledFor}
use Rattle.run_units.proofs.Stepping.{none_asked}
use Rattle.vm_facts.specs.Answers.{Answers, ByteWrite}
use Rattle.user_vax.specs.Program.{Gives, run}
use Rattle.user_vax.specs.Effects.{Effect}
use Rattle.user_vax.specs.declared.refused.Refused.{Refused}
use Rattle.flat_model.specs.declared.calls.Reply.{Reply}
use Rattle.flat_model.specs.declared.calls.Reply.TheVariants.{Fails, Does, Writes, Waits, Exits}
use Rattle.flat_model.specs.declared.calls.SystemCall.TheVariants as system_calls
use Rattle.flat_model.specs.Calls.{argument, reply_of, exit_reply}
use Rattle.machine_state.specs.UserMemory.{kernel_answers}
use Rattle.swapper.specs.Stops.{StopsBefore}
use Rattle.proc_calls.specs.declared.replying.Called.{Called}
use Rattle.run_laws.proofs.Computations.{AllGives, gives_any, run_gives}
use Rattle.run_units.proofs.Acting.{between_refused}
use Rattle.step_units.specs.Machines.{MachineAt, RunsOn, MakesCall}
use Rattle.step_units.specs.Stepped.{StepLeads, StopLeads, CallLeads}
use Rattle.step_units.specs.Leaving.{EndsWith}
use Rattle.step_units.proofs.Begun.{is_refused_by}
use Rattle.step_units.proofs.Settles.{none_refused, refused_once}
use Rattle.step_units.proofs.Behind.{change_due}
use Rattle.step_units.proofs.Entering.{headers, completes, complete_leads, leads_then}
use Rattle.step_units.proofs.Tables.{IsKept, is_kept, regs_is}
use Rattle.step_units.proofs.Leaving.{GivesUp, Left, has_left, stops_leaving, left_at, due_left, left_acts, left_stops, left_made}
use Rattle.step_units.specs.Plain.{RefusedIsMade, RefusedCallStops}
use Rattle.step_units.proofs.Replying.{ready, called_step}

pub returned_holdings : (b : Bool) (k : Kernel) (pid : ℕ) → (returned b k pid).holdings ≡ k.holdings
returned_holdings true k pid = refl
returned_holdings false k pid = refl

returned_place : (b : Bool) (k : Kernel) (pid : ℕ) → (returned b k pid).place ≡ k.place
returned_place true k pid = refl
returned_place false k pid = refl

module _ (A : Inputs) (s : State) (old : Standing) (holds : Option (List NamedFile)) (image : SwapImage) (pid : ℕ) (now : Bool) (p : Process) (x : Space)
    (status : ℕ)
    (m : MachineAt A s old holds image) (r : RunsInSpace A s pid now p x) (ends : EndsWith A s pid p status) where
  abbrev step : Step
  step = ended_step A.images s.point.flat p [] status

  kept : IsKept old.kernel pid p x
  kept = is_kept A s old.kernel image pid now p x m.at r

  first : (step_at A s.point pid).entries ≡ entries.Ended pid status ∷ []
  first = ap (λ (z : Step). z.entries) ends.step ∙ ap (λ (n : ℕ). entries.Ended n status ∷ []) kept.number

  goes : must_refuse A s pid ≡ false
  goes = elim ends.begins [
    | inl b ↦ none_refused A s old.kernel image pid now p x step m.at r (between_refused s.point.last pid b) ends.step (ap is_ok (none_asked A.swap_blocks old.kernel).0)
    | inr e ↦ refused_once A s pid (is_refused_by s.point.last pid e)
  ]

  gives : GivesUp A s pid now p x
  gives = record { running = r; unwanted = ends.unwanted; fits = goes; gives = subst (λ (z : Step). GivesBack z.change) (sym ends.step) tt }

  pub ended : (new : Standing) (j : Option SwapImage) → HasEnded old new pid status holds (Some image) j → StepLeads A s old.kernel image 1 new.kernel j
  ended new j h =
      let between : Standing = h.between in
      let l : Left A s old between image pid now p x j = has_left A s old holds image pid now p x m gives between j h.left in
      let u : Entry = entries.Ended pid status in
      let bytes : SwapImage = l.behind in
      let e : Entered between new pid (regs_of old.kernel pid) u (End status) = h.ended in
      let at : At A l.state l.kernel bytes = left_at A s old between image pid now p x j l m.at in
      let made : new.kernel ≡ change_step (facts_of A.images) (with_holdings between.kernel between.kernel.holdings) pid p.regs u (End status) =
      e.step ∙ ap (λ (facts : List Image). change_step facts between.kernel pid (regs_of old.kernel pid) u (End status)) (ap facts_named l.images ∙ headers A s old holds image m)
      ∙ ap (λ (regs : Regs). change_step (facts_of A.images) between.kernel pid regs u (End status)) (regs_is old.kernel pid p x kept) in
      let found : between.kernel.holdings ≡ l.kernel.holdings = ap (λ (k : Kernel). k.holdings) l.back ∙ returned_holdings (has_lender l.kernel.processes pid) l.kernel pid in
      let place : between.kernel.place ≡ l.kernel.place = ap (λ (k : Kernel). k.place) l.back ∙ returned_place (has_lender l.kernel.processes pid) l.kernel pid in
      let one : MadeAs A l.state l.kernel bytes u new.kernel (Some bytes) =
      left_made A s old between image pid now p x j l new.kernel u step between.kernel.holdings m.at refl ends.step refl tt
      ((none_asked A.swap_blocks l.kernel).0 ∙ ap (λ (hs : Holdings). Ok hs) (sym found)) made in
      let clear : new.kernel.place.due ≡ [] =
      ap (λ (k : Kernel). k.place.due) made ∙ change_due (facts_of A.images) (with_holdings between.kernel between.kernel.holdings) pid p.regs u (End status) tt
      ∙ ap (λ (q : Placement). q.due) (place ∙ at.stands.place) ∙ l.gives.running.runs.clear in
      let led : StepLeads A l.state l.kernel bytes 1 new.kernel (Some bytes) =
      complete_leads A l.state l.kernel new.kernel bytes pid u
      (completes A l.state l.kernel new.kernel bytes pid now u at l.gives.running.runs l.gives.unwanted (left_acts A s old between image pid now p x j l u ends.begins first) refl
      (due_left A s old between image pid now p x j l u ends.begins first) one clear) in
      subst (λ (o : Option SwapImage). StepLeads A s old.kernel image 1 new.kernel o) (sym l.told)
      (leads_then A s l.state old.kernel l.kernel new.kernel image bytes (Some bytes) l.units 1 l.leads l.same.count l.same.lines l.same.mark led)

  pub end_stops : (new : Standing) (j : Option SwapImage) (stop : Stop) → StopsAlive old new pid holds (Some image) j stop
      → StopLeads A s old.kernel image stop new j
  end_stops new j stop h = elim h [
    | inl y ↦ stops_leaving A s old holds image pid now p x m gives (entries.Ended pid status) new j stop ends.begins first tt y
    | inr y ↦ once y
  ]
    where
      once : StopsOnce (λ z. HasLeft old z pid holds (Some image) j) (λ z. StopsBefore z new stop) → StopLeads A s old.kernel image stop new j
      once y =
          let l : Left A s old y.reached image pid now p x j = has_left A s old holds image pid now p x m gives y.reached j y.far in
          left_stops A s old y.reached image pid now p x j l (entries.Ended pid status) new stop ends.begins first tt y.stops

exit_gives : (regs : Regs) → AllGives IsExit (exit_reply regs)
unfolding exit_reply
exit_gives regs = gives_any IsExit (argument regs 1) (λ code. Gives (Exits (code % 256 * 256))) (λ code. tt)

-- what an exit asks of the memory
exit_asked : (images : List NamedImage) (F : FlatState) (p : Process) (x : Space) (effect : Effect)
    → reply_asked images F p x system_calls.Exit effect ≡ exit_reply effect.regs
unfolding reply_of
exit_asked images F p x effect = refl

module _ (A : Inputs) (s : State) (old new : Standing) (holds : Option (List NamedFile)) (image : SwapImage) (behind : Option SwapImage) (pid : ℕ)
    (now : Bool) (p : Process) (x : Space) (effect : Effect)
    (on : RunsOn A s old holds image pid now p x) (makes : MakesCall old p x effect system_calls.Exit) where
  abbrev memory : Answers
  memory = kernel_answers old.kernel x.sid

  asked_is : run memory (reply_asked A.images s.point.flat p x system_calls.Exit effect) ≡ run memory (exit_reply effect.regs)
  asked_is = ap (run memory) (exit_asked A.images s.point.flat p x effect)

  exits : (status : ℕ) → run memory (exit_reply effect.regs) ≡ Ok (Exits status) → EndsWith A s pid p status
  exits status e =
      let r : Result Reply Refused = Ok (Exits status) in
      let c : IsCalledFor A s p x system_calls.Exit effect r = ready A s old holds image pid now p x effect system_calls.Exit r on makes (asked_is ∙ e) tt in
      record {
        unwanted = c.unwanted;
        step =
            called_step A s pid now p x effect system_calls.Exit r on.running on.between makes.names c
            ∙ ap (λ (ws : List ByteWrite). ended_step A.images s.point.flat p ws status) c.writes;
        begins = inl on.between;
      }

  pub exit_made : (called : Called) → RefusedIsMade → ExitComes old new pid effect.regs (run memory (exit_reply effect.regs)) holds (Some image) behind called
      → CallLeads A s old.kernel image x called new.kernel behind
  exit_made called refusal h = go (run memory (exit_reply effect.regs)) refl h
    where
      go : (r : Result Reply Refused) → run memory (exit_reply effect.regs) ≡ r → ExitComes old new pid effect.regs r holds (Some image) behind called
          → CallLeads A s old.kernel image x called new.kernel behind
      go (Ok (Exits status)) e c =
          subst (λ (d : Called). CallLeads A s old.kernel image x d new.kernel behind) (sym c.0)
          (ended A s old holds image pid now p x status on.machine on.running (exits status e) new behind c.1)
      go (Ok (Fails error)) e c = absurd c
      go (Ok (Does after change)) e c = absurd c
      go (Ok (Writes out)) e c = absurd c
      go (Ok Waits) e c = absurd c
      go (Err refused) e c =
          subst (λ (o : Option SwapImage). CallLeads A s old.kernel image x called new.kernel o) (sym c.1)
          (refusal A s old new holds image pid now p x effect system_calls.Exit refused called on makes (asked_is ∙ e) c.0)

  pub exit_stops : (stop : Stop) → RefusedCallStops
      → StopsReading (run memory (exit_reply effect.regs)) (λ reply. StopsAlive old new pid holds) old new (Some image) behind stop
      → StopLeads A s old.kernel image stop new behind
  exit_stops stop refusal h = go (run memory (exit_reply effect.regs)) refl h
    where
      ends : (reply : Reply) → IsExit reply → run memory (exit_reply effect.regs) ≡ Ok reply → StopsAlive old new pid holds (Some image) behind stop → StopLeads A s old.kernel image stop new behind
      ends (Exits status) i e c = end_stops A s old holds image pid now p x status on.machine on.running (exits status e) new behind stop c
      ends (Fails error) i e c = absurd i
      ends (Does after change) i e c = absurd i
      ends (Writes out) i e c = absurd i
      ends Waits i e c = absurd i

      go : (r : Result Reply Refused) → run memory (exit_reply effect.regs) ≡ r
          → StopsReading r (λ reply. StopsAlive old new pid holds) old new (Some image) behind stop → StopLeads A s old.kernel image stop new behind
      go (Ok reply) e c = ends reply (run_gives IsExit memory (exit_reply effect.regs) reply (exit_gives effect.regs) e) e c
      go (Err refused) e c =
          subst (λ (o : Option SwapImage). StopLeads A s old.kernel image stop new o) (sym c.1)
          (refusal A s old new holds image pid now p x effect system_calls.Exit refused stop on makes (asked_is ∙ e) c.0)
