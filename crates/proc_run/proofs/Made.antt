-- What the call of an instruction comes to, and what follows where a byte that it reads misses.
use Rattle.std.proofs.Common.{◌≡◌, ◌⊎◌, inl, inr, ℕ, ℤ, Bool, false, List, Option, Some, Result, Ok, Err, refl, sym, ap, ◌∙◌, subst}
use Rattle.std.specs.Prelude.{IfOk, IfErr}
use Rattle.vm_facts.specs.SwapImages.{SwapImage}
use Rattle.io_edge.specs.FileHolding.{NamedFile}
use Rattle.vm_facts.specs.declared.regs.Regs.{Regs}
use Rattle.vm_facts.specs.declared.stop.Stop.{Stop}
use Rattle.user_vax.specs.Instruction.{writes_of}
use Rattle.flat_state.specs.Space.{Space}
use Rattle.flat_state.specs.Flat.{Process, Inputs}
use Rattle.flat_model.specs.Calls.{call_of}
use Rattle.flat_model.specs.declared.calls.SystemCall.{SystemCall}
use Rattle.machine_state.specs.Machine.{Standing}
use Rattle.machine_state.specs.UserMemory.{CanLend}
use Rattle.step_units.specs.Called.{Called}
use Rattle.step_units.specs.Called.TheVariants as calls
use Rattle.step_units.specs.Callers.{IsCaller, regs_of}
use Rattle.run_model.specs.State.{State}
use Rattle.step_units.specs.Stepped.{CallLeads, LeadsFrom, StopsFrom}
use Rattle.step_units.specs.Ready.{Continues}
use Rattle.step_units.specs.Calls.{called_count}
use Rattle.proc_run.specs.Missed.{WritesNothing}
use Rattle.step_units.proofs.Calling.{calls_write_none}
use Rattle.proc_run.specs.declared.advancing.Advance.{Advance}
use Rattle.proc_run.specs.declared.advancing.Advance.TheVariants as advances
use Rattle.proc_run.specs.Calls.{own_answers, CallComes, CallStops, MadeCall}
use Rattle.proc_run.specs.Runs.{IsSteady, RunsAt, HasRunner, WaitsAt, AdvancesTo}
use Rattle.proc_run.proofs.Known.{known, are_known}
use Rattle.proc_run.proofs.CallSteps.{call_leads, call_stops}
use Rattle.proc_run.proofs.CallsGoOn.{calls_go_on}
use Rattle.proc_run.proofs.CallsMissed.{call_missed}
use Rattle.proc_run.proofs.Steps.{makes_call}

pub caller_of : (m : Standing) (pid : ℕ) → IsSteady m → CanLend m.kernel pid → IsCaller m pid
caller_of m pid h l = record { ready = h.ready; clear = h.clear; lends = l }

-- a call that a byte misses changed nothing
pub unchanged : (call : SystemCall) (old new : Standing) (pid : ℕ) (after : Regs) (holds : Option (List NamedFile)) (i j : Option SwapImage) (called : Called)
    (address : ℕ) → called ≡ calls.Miss address → CallComes call old new pid after holds i j called → new ≡ old
unchanged call old new pid after holds i j called address is given =
    call_missed old new pid after address holds i j (known old.images) (are_known old.images) call
    (subst (λ (d : Called). CallComes call old new pid after holds i j d) is given)

-- and its instruction wrote nothing
pub made_quiet : (m : Standing) (pid : ℕ) (before : Regs) (number : ℤ) (after : Regs) → MadeCall m pid before number after → WritesNothing m.kernel pid before
made_quiet m pid before number after c = ap writes_of c.made ∙ calls_write_none (own_answers m pid) before c.effect number c.made c.number_is

module _ (old new : Standing) (pid : ℕ) (before : Regs) (number : ℤ) (after : Regs) (call : SystemCall) (holds : Option (List NamedFile)) (i j : Option SwapImage) (now : Bool)
    (steady : IsSteady old) (lends : CanLend old.kernel pid) (same : before ≡ regs_of old.kernel pid) (made : MadeCall old pid before number after) (names : call_of number ≡ Some call) where
  pub goes_on : (called : Called) → CallComes call old new pid after holds i j called → Continues old new (called_count called)
  goes_on called h = calls_go_on old new pid after holds i j (caller_of old pid steady lends) (known old.images) (are_known old.images) call called h

  pub leads : (called : Called) → CallComes call old new pid after holds i j called
      → (A : Inputs) (s : State) (image : SwapImage) (p : Process) (x : Space) → RunsAt A s old holds i image pid now p x → CallLeads A s old.kernel image x called new.kernel j
  leads called h A s image p x r =
      call_leads A s old new holds image pid now p x made.effect r.on r.named call j called (makes_call A s old holds i image pid now p x before r same number after call made names)
      (subst (λ (g : Regs). CallComes call old new pid g holds (Some image) j called) (sym made.left)
      (subst (λ (o : Option SwapImage). CallComes call old new pid after holds o j called) r.told h))

  pub ready_advances : (called : Called) → (called ≡ calls.Ready) ⊎ (called ≡ calls.Gone) → CallComes call old new pid after holds i j called
      → LeadsFrom (HasRunner old holds i pid now) (AdvancesTo old.kernel new.kernel j advances.Counted)
  ready_advances called w h A s image (p, x, r) = elim w [
    | inl e ↦ subst (λ (d : Called). CallLeads A s old.kernel image x d new.kernel j) e (leads called h A s image p x r)
    | inr e ↦ subst (λ (d : Called). CallLeads A s old.kernel image x d new.kernel j) e (leads called h A s image p x r)
  ]

  pub ready_goes_on : (called : Called) → (called ≡ calls.Ready) ⊎ (called ≡ calls.Gone) → CallComes call old new pid after holds i j called
      → Continues old new 1
  ready_goes_on called w h = elim w [
    | inl e ↦ subst (λ (d : Called). Continues old new (called_count d)) e (goes_on called h)
    | inr e ↦ subst (λ (d : Called). Continues old new (called_count d)) e (goes_on called h)
  ]

  pub asleep_advances : (called : Called) → called ≡ calls.Asleep → CallComes call old new pid after holds i j called
      → LeadsFrom (HasRunner old holds i pid now) (AdvancesTo old.kernel new.kernel j advances.Stuck)
  asleep_advances called e h A s image (p, x, r) = subst (λ (d : Called). CallLeads A s old.kernel image x d new.kernel j) e (leads called h A s image p x r)

  pub asleep_goes_on : (called : Called) → called ≡ calls.Asleep → CallComes call old new pid after holds i j called → Continues old new 0
  asleep_goes_on called e h = subst (λ (d : Called). Continues old new (called_count d)) e (goes_on called h)

  pub stopped : (stop : Stop) → CallStops call old new pid after holds i j stop → StopsFrom (HasRunner old holds i pid now) old new j stop
  stopped stop h A s image (p, x, r) =
      call_stops A s old new holds image pid now p x made.effect r.on r.named call j stop (makes_call A s old holds i image pid now p x before r same number after call made names)
      (subst (λ (g : Regs). CallStops call old new pid g holds (Some image) j stop) (sym made.left)
      (subst (λ (o : Option SwapImage). CallStops call old new pid after holds o j stop) r.told h))

  -- A byte that it reads misses.

  module _ (address : ℕ) (called : Called) (is : called ≡ calls.Miss address) (given : CallComes call old new pid after holds i j called) where
    comes : CallComes call old new pid after holds i j (calls.Miss address)
    comes = subst (λ (d : Called). CallComes call old new pid after holds i j d) is given

    module _ (last : Standing) (later : Option (List NamedFile)) (k : Option SwapImage) (files : later ≡ holds) where
      pub missed_advances : (o : Result Advance Stop) → IfOk o (λ advance. LeadsFrom (WaitsAt new later j pid now address false) (AdvancesTo new.kernel last.kernel k advance))
          → IfOk o (λ advance. LeadsFrom (HasRunner old holds i pid now) (AdvancesTo old.kernel last.kernel k advance))
      missed_advances (Err stop) h = tt
      missed_advances (Ok advance) h = λ A s image n.
          let l = leads (calls.Miss address) comes A s image n.0 n.1 n.2 in
          let w = subst (λ (m : Standing). LeadsFrom (WaitsAt m later j pid now address false) (AdvancesTo m.kernel last.kernel k advance))
          (unchanged call old new pid after holds i j called address is given) h in
          let w2 = subst (λ (o : Option (List NamedFile)). LeadsFrom (WaitsAt old o j pid now address false) (AdvancesTo old.kernel last.kernel k advance)) files w in
          w2 A s image (n.0, n.1, l.2.before, (record { on = n.2.on; named = n.2.named; told = l.1 }), inl (l.2, refl))

      pub missed_stops : (o : Result Advance Stop) → IfErr o (StopsFrom (WaitsAt new later j pid now address false) new last k)
          → IfErr o (StopsFrom (HasRunner old holds i pid now) old last k)
      missed_stops (Ok advance) h = tt
      missed_stops (Err stop) h = λ A s image n.
          let l = leads (calls.Miss address) comes A s image n.0 n.1 n.2 in
          let w = subst (λ (m : Standing). StopsFrom (WaitsAt m later j pid now address false) m last k stop) (unchanged call old new pid after holds i j called address is given) h in
          let w2 = subst (λ (o : Option (List NamedFile)). StopsFrom (WaitsAt old o j pid now address false) old last k stop) files w in
          w2 A s image (n.0, n.1, l.2.before, (record { on = n.2.on; named = n.2.named; told = l.1 }), inl (l.2, refl))
