-- The rest of a step, by what the instruction of its process came to over the frames.
use Rattle.std.proofs.Common.{◌≡◌, ◌⊎◌, inl, inr, ℕ, ℤ, ◌+◌, not, ◌&&◌, Bool, true, List, length, Option, Some, None, Result, Ok, Err, refl, sym, ap, ap₂, ◌∙◌, subst, arith}
use Rattle.std.specs.Prelude.{IfErr, OnOk}
use Rattle.std.proofs.lemmas.Option.{same_Some}
use Rattle.vm_facts.specs.SwapImages.{SwapImage}
use Rattle.io_edge.specs.FileHolding.{NamedFile}
use Rattle.vm_facts.specs.declared.entry.Entry.{Entry}
use Rattle.vm_facts.specs.declared.entry.Entry.TheVariants as entries
use Rattle.vm_facts.specs.declared.regs.Regs.{Regs}
use Rattle.vm_facts.specs.declared.stop.Stop.{Stop}
use Rattle.user_vax.specs.Program.{run}
use Rattle.user_vax.specs.Effects.{Effect}
use Rattle.user_vax.specs.Instruction.{instruction, answer_of, answer_of_call}
use Rattle.user_vax.specs.declared.refused.Refused.{Refused}
use Rattle.user_vax.specs.declared.refused.Refused.TheVariants.{Below}
use Rattle.user_vax.specs.declared.stepped.Stepped.{Stepped}
use Rattle.user_vax.specs.declared.stepped.Stepped.TheVariants as steps
use Rattle.flat_state.specs.Flat.{Process, Inputs}
use Rattle.flat_state.specs.Journal.{instructions_of}
use Rattle.flat_state.specs.Space.{Space}
use Rattle.flat_state.specs.declared.change.Change.TheVariants.{Keep}
use Rattle.flat_model.specs.Calls.{call_of, replied}
use Rattle.flat_model.specs.declared.calls.Reply.TheVariants.{Does}
use Rattle.flat_model.specs.declared.calls.SystemCall.{SystemCall}
use Rattle.machine_state.specs.Going.{CanGoOn}
use Rattle.machine_state.specs.Machine.{Standing}
use Rattle.machine_state.specs.UserMemory.{CanLend, kernel_answers}
use Rattle.step_units.specs.Stops.{StopsBefore}
use Rattle.step_units.specs.Answered.{Answered}
use Rattle.step_units.specs.Called.TheVariants as calls
use Rattle.step_units.specs.Callers.{regs_of}
use Rattle.step_units.specs.ProcCallsLeaving.{HasEnded, StopsAlive}
use Rattle.step_units.specs.Ready.{Continues}
use Rattle.step_units.proofs.CallsContinue.{reply_continues, end_continues}
use Rattle.run_model.specs.State.{State}
use Rattle.economy_laws.proofs.Flows.{on_steps}
use Rattle.step_units.specs.Touching.{RunsInSpace}
use Rattle.step_units.specs.Serving.{At}
use Rattle.step_units.specs.Rests.{ReplyRests, EndRests}
use Rattle.step_units.specs.Stepped.{StepLeads, StopLeads, AtSome, LeadsFrom, StopsFrom}
use Rattle.step_units.proofs.Ending.{ended, end_stops}
use Rattle.step_units.proofs.Resting.{sent_rests, refused_rests, rest_made, rest_stops}
use Rattle.step_units.proofs.Serving.{same_space}
use Rattle.step_units.proofs.Tables.{regs_is, is_kept}
use Rattle.proc_run.specs.declared.finishing.Begun.{Begun}
use Rattle.proc_run.specs.declared.finishing.Begun.TheVariants as begun
use Rattle.proc_run.specs.Calls.{own_answers, MadeCall}
use Rattle.proc_run.specs.Choosing.{may_run}
use Rattle.proc_run.specs.Rests.{begun_by, pid_of, carry_of, r0_of, SentFew, BegunAt}
use Rattle.proc_run.specs.Running.{CountsTo}
use Rattle.proc_run.specs.Runs.{IsSteady}
use Rattle.proc_run.proofs.Attempts.{fell}
use Rattle.proc_run.proofs.Made.{caller_of}
use Rattle.proc_run.proofs.Marks.{can_steps, out_same}
use Rattle.proc_run.proofs.SoFar.{steady_on}

-- What is left, by how the step is begun.

abbrev Rests : Inputs → State → Standing → Begun → ℕ → Type 0
Rests A s m b pid = SentFew b × (ReplyRests A s m pid (carry_of b) (r0_of b) ⊎ EndRests A s m pid)

module _ (A : Inputs) (s : State) (m : Standing) (b : Begun) (holds : Option (List NamedFile)) (i : Option SwapImage) (image : SwapImage) (pid : ℕ) (is : pid ≡ pid_of b)
    (h : BegunAt m b holds i A s image) where
  rests : Rests A s m b pid
  rests = subst (Rests A s m b) (sym is) (go s.point.last refl h.begun)
    where
      go : (o : Option Entry) → s.point.last ≡ o → begun_by o ≡ Some b → Rests A s m b (pid_of b)
      go (Some (entries.Out n bytes)) l e =
          let r = sent_rests A s m holds image n bytes h.machine l in
          subst (λ (c : Begun). Rests A s m c (pid_of c)) (same_Some (begun.Sent n (length bytes)) b e) (r.1, inl r.0)
      go (Some (entries.Refused n)) l e =
          subst (λ (c : Begun). Rests A s m c (pid_of c)) (same_Some (begun.Refused n) b e) (tt, refused_rests A s m holds image n h.machine l)
      go None l e = absurd cc
      go (Some _) l e = absurd cc

  runs_so : (now : Bool) (p : Process) (x : Space) → RunsInSpace A s pid now p x → may_run m.kernel pid ≡ true
  runs_so now p x r =
      ap₂ (λ (a c : Bool). a && not c) (sym (can_steps A s m.kernel image pid 0 h.machine.at) ∙ on_steps A s s.mark pid now r.runs.on)
      (out_same A s m.kernel image pid 0 h.machine.at ∙ r.runs.resident)

  rest_runs : may_run m.kernel pid ≡ true
  rest_runs = elim rests.1 [
    | inl r ↦ runs_so r.now r.process r.space r.running
    | inr r ↦ runs_so r.now r.process r.space r.running
  ]

module _ (m : Standing) (b : Begun) (holds : Option (List NamedFile)) (i : Option SwapImage) (pid : ℕ) (is : pid ≡ pid_of b) (h : AtSome (BegunAt m b holds i)) where
  pub begun_runs : may_run m.kernel pid ≡ true
  begun_runs = rest_runs h.0 h.1 m b holds i h.2 pid is h.3

  pub begun_short : SentFew b
  begun_short = (rests h.0 h.1 m b holds i h.2 pid is h.3).0

-- The instruction of the process, with the registers of its record.

module _ (m : Standing) (b : Begun) (holds : Option (List NamedFile)) (i : Option SwapImage) (pid : ℕ) (is : pid ≡ pid_of b) (before : Regs) (same : before ≡ regs_of m.kernel pid) where
  abbrev tried : Result Effect Refused
  tried = run (own_answers m pid) (instruction before)

  own : (A : Inputs) (s : State) (image : SwapImage) (now : Bool) (p : Process) (x : Space) → At A s m.kernel image → RunsInSpace A s pid now p x
      → tried ≡ run (kernel_answers m.kernel x.sid) (instruction p.regs)
  own A s image now p x at r =
      ap (λ (n : ℕ). run (kernel_answers m.kernel n) (instruction before)) (same_space A s m.kernel image pid now p x at r)
      ∙ ap (λ (g : Regs). run (kernel_answers m.kernel x.sid) (instruction g)) (same ∙ regs_is m.kernel pid p x (is_kept A s m.kernel image pid now p x at r))

  module _ (A : Inputs) (s : State) (image : SwapImage) (h : BegunAt m b holds i A s image) where
    replies : (r : ReplyRests A s m pid (carry_of b) (r0_of b)) → tried ≡ Ok r.effect
    replies r = own A s image r.now r.process r.space h.machine.at r.running ∙ r.makes.made

    below : (r : EndRests A s m pid) → tried ≡ Err (Below r.address)
    below r = own A s image r.now r.process r.space h.machine.at r.running ∙ r.below

    -- it came to a call, or fell below the stack
    comes : ((number : ℤ) × (call : SystemCall) × (answer_of tried ≡ steps.Call number) × (call_of number ≡ Some call)) ⊎ ((address : ℕ) × (answer_of tried ≡ steps.Below address))
    comes = elim (rests A s m b holds i image pid is h).1 [
      | inl r ↦ inl (r.makes.names.number, r.call, ap answer_of (replies r) ∙ ap answer_of_call r.makes.names.is_number, r.makes.names.names)
      | inr r ↦ inr (r.address, ap answer_of (below r))
    ]

    -- A call that was made is the one that replies.
    module _ (number : ℤ) (after : Regs) (call : SystemCall) (made : MadeCall m pid before number after) (names : call_of number ≡ Some call) where
      same_effect : (r : ReplyRests A s m pid (carry_of b) (r0_of b)) → r.effect ≡ made.effect
      same_effect r = let e : Ok r.effect ≡ Ok made.effect = sym (replies r) ∙ made.made in cc

      same_call : (r : ReplyRests A s m pid (carry_of b) (r0_of b)) → call ≡ r.call
      same_call r =
          let e : Some number ≡ Some r.makes.names.number = sym made.number_is ∙ ap (λ (y : Effect). y.call) (sym (same_effect r)) ∙ r.makes.names.is_number in
          let n : number ≡ r.makes.names.number = cc in
          same_Some call r.call (sym names ∙ ap call_of n ∙ r.makes.names.names)

      never_below : (r : EndRests A s m pid) → ⊥
      never_below r = let e : Ok made.effect ≡ Err (Below r.address) = sym made.made ∙ below r in absurd cc

      answer_leads : (new : Standing) → Answered m new pid call (replied after (carry_of b) (r0_of b)) Keep → StepLeads A s m.kernel image 1 new.kernel i
      answer_leads new a = subst (λ (o : Option SwapImage). StepLeads A s m.kernel image 1 new.kernel o) (sym h.told) (elim (rests A s m b holds i image pid is h).1 [
        | inl r ↦ rest_made A s m new holds image pid (carry_of b) (r0_of b) h.machine r
            (subst (λ (c : SystemCall). Answered m new pid c (replied r.effect.regs (carry_of b) (r0_of b)) Keep) (same_call r)
            (subst (λ (g : Regs). Answered m new pid call (replied g (carry_of b) (r0_of b)) Keep) (sym made.left ∙ ap (λ (y : Effect). y.regs) (sym (same_effect r))) a))
        | inr r ↦ absurd (never_below r)
      ])

      answer_halts : (new : Standing) (stop : Stop) → StopsBefore m new stop → StopLeads A s m.kernel image stop new i
      answer_halts new stop a = subst (λ (o : Option SwapImage). StopLeads A s m.kernel image stop new o) (sym h.told) (elim (rests A s m b holds i image pid is h).1 [
        | inl r ↦ rest_stops A s m new image pid (carry_of b) (r0_of b) stop r a
        | inr r ↦ absurd (never_below r)
      ])

    -- A process that fell below its stack ends.
    module _ (address : ℕ) (down : tried ≡ Err (Below address)) (new : Standing) (j : Option SwapImage) where
      never_replies : (r : ReplyRests A s m pid (carry_of b) (r0_of b)) → ⊥
      never_replies r = let e : Ok r.effect ≡ Err (Below address) = sym (replies r) ∙ down in absurd cc

      end_leads : HasEnded m new pid 11 holds i j → StepLeads A s m.kernel image 1 new.kernel j
      end_leads e = elim (rests A s m b holds i image pid is h).1 [
        | inl r ↦ absurd (never_replies r)
        | inr r ↦ ended A s m holds image pid r.now r.process r.space 11 h.machine r.running r.ends new j (subst (λ (o : Option SwapImage). HasEnded m new pid 11 holds o j) h.told e)
      ]

      end_halts : (stop : Stop) → StopsAlive m new pid holds i j stop → StopLeads A s m.kernel image stop new j
      end_halts stop e = elim (rests A s m b holds i image pid is h).1 [
        | inl r ↦ absurd (never_replies r)
        | inr r ↦ end_stops A s m holds image pid r.now r.process r.space 11 h.machine r.running r.ends new j stop (subst (λ (o : Option SwapImage). StopsAlive m new pid holds o j stop) h.told e)
      ]

  -- It came to nothing else.
  module _ (h : AtSome (BegunAt m b holds i)) where
    pub never_unnamed : (number : ℤ) → answer_of tried ≡ steps.Call number → call_of number ≡ None → ⊥
    never_unnamed number e none = elim (comes h.0 h.1 h.2 h.3) [
      | inl x ↦
          let same : steps.Call x.0 ≡ steps.Call number = sym x.2 ∙ e in
          let n : x.0 ≡ number = cc in
          let z : Some x.1 ≡ None = sym x.3 ∙ ap call_of n ∙ none in absurd cc
      | inr x ↦ let z : steps.Below x.0 ≡ steps.Call number = sym x.1 ∙ e in absurd cc
    ]

    pub never_else : (y : Stepped) → y ≡ answer_of tried
        → (y ≡ steps.Done) ⊎ (((address : ℕ) × (write : Bool) × (y ≡ steps.Miss address write)) ⊎ ((number : ℕ) × (y ≡ steps.Signal number))) → ⊥
    never_else y e other = elim (comes h.0 h.1 h.2 h.3) [
      | inl x ↦ calls x.0 (e ∙ x.2) other
      | inr x ↦ falls x.0 (e ∙ x.1) other
    ]
      where
        calls : (number : ℤ) → y ≡ steps.Call number → (y ≡ steps.Done) ⊎ (((address : ℕ) × (write : Bool) × (y ≡ steps.Miss address write)) ⊎ ((number : ℕ) × (y ≡ steps.Signal number))) → ⊥
        calls number k (inl z) = let w : steps.Call number ≡ steps.Done = sym k ∙ z in absurd cc
        calls number k (inr (inl z)) = let w : steps.Call number ≡ steps.Miss z.0 z.1 = sym k ∙ z.2 in absurd cc
        calls number k (inr (inr z)) = let w : steps.Call number ≡ steps.Signal z.0 = sym k ∙ z.1 in absurd cc

        falls : (address : ℕ) → y ≡ steps.Below address → (y ≡ steps.Done) ⊎ (((address : ℕ) × (write : Bool) × (y ≡ steps.Miss address write)) ⊎ ((number : ℕ) × (y ≡ steps.Signal number))) → ⊥
        falls address k (inl z) = let w : steps.Below address ≡ steps.Done = sym k ∙ z in absurd cc
        falls address k (inr (inl z)) = let w : steps.Below address ≡ steps.Miss z.0 z.1 = sym k ∙ z.2 in absurd cc
        falls address k (inr (inr z)) = let w : steps.Below address ≡ steps.Signal z.0 = sym k ∙ z.1 in absurd cc

-- The attempt left the machine as it was.

module _ (old mid new : Standing) (f : mid ≡ old) (b : Begun) (holds : Option (List NamedFile)) (i : Option SwapImage) (pid : ℕ) (is : pid ≡ pid_of b) (before : Regs)
    (same : before ≡ regs_of old.kernel pid) where
  module _ (number : ℤ) (after : Regs) (call : SystemCall) (made : MadeCall old pid before number after) (names : call_of number ≡ Some call) where
    pub answer_finishes : Answered mid new pid call (replied after (carry_of b) (r0_of b)) Keep → LeadsFrom (BegunAt old b holds i) (λ A s image. StepLeads A s old.kernel image 1 new.kernel i)
    answer_finishes a A s image h =
        answer_leads old b holds i pid is before same A s image h number after call made names new
        (subst (λ (m : Standing). Answered m new pid call (replied after (carry_of b) (r0_of b)) Keep) f a)

    pub answer_stops : (stop : Stop) → StopsBefore mid new stop → StopsFrom (BegunAt old b holds i) old new i stop
    answer_stops stop a A s image h =
        answer_halts old b holds i pid is before same A s image h number after call made names new stop (subst (λ (m : Standing). StopsBefore m new stop) f a)

  module _ (address : ℕ) (down : answer_of (run (own_answers old pid) (instruction before)) ≡ steps.Below address) (j : Option SwapImage) where
    pub end_finishes : (r : Result (Unit {0}) Stop) → OnOk r (HasEnded mid new pid 11 holds i j)
        → OnOk r (LeadsFrom (BegunAt old b holds i) (λ A s image. StepLeads A s old.kernel image 1 new.kernel j))
    end_finishes (Err stop) e = tt
    end_finishes (Ok x) e = λ A s image h.
        end_leads old b holds i pid is before same A s image h address (fell (run (own_answers old pid) (instruction before)) address down) new j
        (subst (λ (m : Standing). HasEnded m new pid 11 holds i j) f e)

    pub end_stopped : (r : Result (Unit {0}) Stop) → IfErr r (StopsAlive mid new pid holds i j) → IfErr r (StopsFrom (BegunAt old b holds i) old new j)
    end_stopped (Ok x) e = tt
    end_stopped (Err stop) e = λ A s image h.
        end_halts old b holds i pid is before same A s image h address (fell (run (own_answers old pid) (instruction before)) address down) new j stop
        (subst (λ (m : Standing). StopsAlive m new pid holds i j stop) f e)

-- The machine goes on.

counts_on : (old new : Standing) → IsSteady old → Continues old new 1 → CanGoOn new
    → CountsTo old new (instructions_of old.kernel.journal) (instructions_of old.kernel.journal + 1)
counts_on old new steady c ready =
    record { steady = steady_on old new 1 steady c ready; params = c.params; images = c.images; counts = c.counted; more = omega arith }

module _ (old mid new : Standing) (f : mid ≡ old) (pid : ℕ) (steady : IsSteady old) (lends : CanLend old.kernel pid) where
  pub answer_counts : (call : SystemCall) (regs : Regs) → Answered mid new pid call regs Keep → CanGoOn new
      → CountsTo old new (instructions_of old.kernel.journal) (instructions_of old.kernel.journal + 1)
  answer_counts call regs a =
      counts_on old new steady
      (reply_continues old new pid call regs (Does regs Keep) calls.Ready (caller_of old pid steady lends) tt
      (refl, subst (λ (m : Standing). Answered m new pid call regs Keep) f a))

  pub end_counts : (holds : Option (List NamedFile)) (i j : Option SwapImage) (r : Result (Unit {0}) Stop) → OnOk r (HasEnded mid new pid 11 holds i j) → OnOk r (CanGoOn new)
      → OnOk r (CountsTo old new (instructions_of old.kernel.journal) (instructions_of old.kernel.journal + 1))
  end_counts holds i j (Err stop) e ready = tt
  end_counts holds i j (Ok x) e ready =
      counts_on old new steady
      (end_continues old new pid 11 holds i j (caller_of old pid steady lends) (subst (λ (m : Standing). HasEnded m new pid 11 holds i j) f e)) ready
