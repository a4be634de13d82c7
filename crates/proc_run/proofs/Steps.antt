-- What an attempt at an instruction leads to in a run.
use Rattle.std.proofs.Common.{◌≡◌, ◌⊎◌, inl, inr, ℕ, ℤ, ◌<◌, ◌≤◌, Bool, false, List, [], ◌∷◌, length, Option, Some, None, Result, Ok, Err, refl, sym, ap, ◌∙◌, subst}
use Rattle.vm_facts.specs.SwapImages.{SwapImage}
use Rattle.io_edge.specs.FileHolding.{NamedFile}
use Rattle.vm_facts.specs.declared.entry.Entry.{Entry}
use Rattle.vm_facts.specs.declared.entry.Entry.TheVariants as entries
use Rattle.vm_facts.specs.declared.page.Page.{Page}
use Rattle.vm_facts.specs.declared.params.Params.{Params}
use Rattle.vm_facts.specs.declared.regs.Regs.{Regs}
use Rattle.vm_facts.specs.declared.stop.Stop.{Stop}
use Rattle.vm_facts.specs.declared.stop.Stop.TheVariants as stops
use Rattle.user_vax.specs.Program.{run}
use Rattle.user_vax.specs.Effects.{Effect}
use Rattle.user_vax.specs.Instruction.{instruction}
use Rattle.user_vax.specs.declared.refused.Refused.{Refused}
use Rattle.user_vax.specs.declared.refused.Refused.TheVariants.{Miss, Below, Signal}
use Rattle.flat_state.specs.Journal.{append}
use Rattle.flat_state.specs.Space.{Space}
use Rattle.flat_state.specs.Flat.{Process, Inputs}
use Rattle.flat_state.specs.declared.change.Change.TheVariants as changes
use Rattle.flat_model.specs.Calls.{call_of}
use Rattle.flat_model.specs.Step.{Step, step_with, step_behind}
use Rattle.flat_model.specs.Run.{step_at, is_refused}
use Rattle.flat_model.specs.declared.calls.SystemCall.{SystemCall}
use Rattle.kernel_model.specs.Kernel.{Kernel}
use Rattle.kernel_model.specs.ChangeStep.{ran_by}
use Rattle.kernel_laws.proofs.Machine.Swaps.{found_at}
use Rattle.machine_state.specs.Machine.{Standing}
use Rattle.machine_state.specs.Conditions.{HasStopped}
use Rattle.machine_state.specs.UserMemory.{kernel_answers, writes_in}
use Rattle.step_units.specs.Stops.{LeftBy}
use Rattle.step_units.specs.Callers.{regs_of}
use Rattle.step_units.specs.ProcCallsLeaving.{HasEnded, StopsAlive}
use Rattle.step_units.specs.Growth.{space_of_pid}
use Rattle.run_model.specs.Act.{act}
use Rattle.run_model.specs.State.{State}
use Rattle.run_model.specs.Wanted.{wanted, touched_next}
use Rattle.run_model.proofs.Wanting.{wanted_none}
use Rattle.economy_laws.proofs.Flows.{runs_next}
use Rattle.step_units.specs.Leads.{MadeAs}
use Rattle.step_units.specs.Touching.{MakesNone, IsWhole, IsReadyFor}
use Rattle.step_units.proofs.Instructing.{hit_ready, miss_wanted}
use Rattle.step_units.proofs.Stepping.{step_known, ran_made, none_asked}
use Rattle.step_units.proofs.Units.{none_leads}
use Rattle.step_units.specs.Machines.{MakesCall}
use Rattle.step_units.specs.Running.{WaitsForPage}
use Rattle.step_units.specs.Stepped.{StepLeads, StopLeads, StopsBy}
use Rattle.step_units.proofs.Begun.{begins, none_lost}
use Rattle.step_units.proofs.Ending.{ended, end_stops}
use Rattle.step_units.proofs.Ran.{instruction_made}
use Rattle.step_units.proofs.Serving.{same_space}
use Rattle.step_units.proofs.Signals.{signal_ends, no_call_ends}
use Rattle.step_units.proofs.Tables.{regs_is, is_kept}
use Rattle.proc_run.specs.Calls.{own_answers, MadeCall}
use Rattle.proc_run.specs.Runs.{RunsAt}

module _ (A : Inputs) (s : State) (m : Standing) (holds : Option (List NamedFile)) (i : Option SwapImage) (image : SwapImage) (pid : ℕ) (now : Bool) (p : Process) (x : Space) (before : Regs)
    (r : RunsAt A s m holds i image pid now p x) (same : before ≡ regs_of m.kernel pid) where
  space : space_of_pid m.kernel pid ≡ x.sid
  space = same_space A s m.kernel image pid now p x r.on.machine.at r.on.running

  regs : before ≡ p.regs
  regs = same ∙ regs_is m.kernel pid p x (is_kept A s m.kernel image pid now p x r.on.machine.at r.on.running)

  -- the instruction is that of the flat process, over what its space answers
  pub own : run (own_answers m pid) (instruction before) ≡ run (kernel_answers m.kernel x.sid) (instruction p.regs)
  own = ap (λ (n : ℕ). run (kernel_answers m.kernel n) (instruction before)) space ∙ ap (λ (g : Regs). run (kernel_answers m.kernel x.sid) (instruction g)) regs

  told : (n : ℕ) (l : Kernel) → StepLeads A s m.kernel image n l (Some image) → StepLeads A s m.kernel image n l i
  told n l h = subst (λ (o : Option SwapImage). StepLeads A s m.kernel image n l o) (sym r.told) h

  stop_told : (stop : Stop) (new : Standing) → StopLeads A s m.kernel image stop new (Some image) → StopLeads A s m.kernel image stop new i
  stop_told stop new h = subst (λ (o : Option SwapImage). StopLeads A s m.kernel image stop new o) (sym r.told) h

  -- Pages that it waits for.

  pub waits_missed : (address : ℕ) (write : Bool) → run (own_answers m pid) (instruction before) ≡ Err (Miss address write)
      → (qs : List Page) × WaitsForPage A s m p x address write qs
  waits_missed address write e =
      let w = miss_wanted A s m.kernel image pid now p x address write r.on.machine.at r.on.running (sym own ∙ e) in
      (w.before, inl (w, refl))

  ready : (y : Result Effect Refused) → run (own_answers m pid) (instruction before) ≡ y → IsWhole y → IsReadyFor A s p x y
  ready y e w = subst (IsReadyFor A s p x) (sym own ∙ e) (hit_ready A s m.kernel image pid now p x r.on.machine.at r.on.running (subst IsWhole (sym (sym own ∙ e)) w))

  pub waits_below : (address : ℕ) → run (own_answers m pid) (instruction before) ≡ Err (Below address) → (qs : List Page) × WaitsForPage A s m p x address false qs
  waits_below address e =
      (touched_next A s, inr (sym own ∙ e, refl, refl, wanted_none A s r.on.running.runs.clear (ready (Err (Below address)) e tt).unwanted))

  -- Ends.

  pub signal_led : (new : Standing) (j : Option SwapImage) (number : ℕ) → run (own_answers m pid) (instruction before) ≡ Err (Signal number)
      → HasEnded m new pid number holds i j
      → StepLeads A s m.kernel image 1 new.kernel j
  signal_led new j number e h =
      ended A s m holds image pid now p x number r.on.machine r.on.running (signal_ends A s m holds image pid now p x number r.on (sym own ∙ e)) new j
      (subst (λ (o : Option SwapImage). HasEnded m new pid number holds o j) r.told h)

  pub signal_stops : (new : Standing) (j : Option SwapImage) (number : ℕ) (stop : Stop)
      → run (own_answers m pid) (instruction before) ≡ Err (Signal number) → StopsAlive m new pid holds i j stop
      → StopLeads A s m.kernel image stop new j
  signal_stops new j number stop e h =
      end_stops A s m holds image pid now p x number r.on.machine r.on.running (signal_ends A s m holds image pid now p x number r.on (sym own ∙ e)) new j stop
      (subst (λ (o : Option SwapImage). StopsAlive m new pid holds o j stop) r.told h)

  pub no_call_led : (new : Standing) (j : Option SwapImage) (number : ℤ) (after : Regs) → MadeCall m pid before number after → call_of number ≡ None
      → HasEnded m new pid 12 holds i j
      → StepLeads A s m.kernel image 1 new.kernel j
  no_call_led new j number after c none h =
      ended A s m holds image pid now p x 12 r.on.machine r.on.running (no_call_ends A s m holds image pid now p x c.effect number r.on (sym own ∙ c.made) c.number_is none) new j
      (subst (λ (o : Option SwapImage). HasEnded m new pid 12 holds o j) r.told h)

  pub no_call_stops : (new : Standing) (j : Option SwapImage) (number : ℤ) (after : Regs) (stop : Stop) → MadeCall m pid before number after
      → call_of number ≡ None
      → StopsAlive m new pid holds i j stop → StopLeads A s m.kernel image stop new j
  no_call_stops new j number after stop c none h =
      end_stops A s m holds image pid now p x 12 r.on.machine r.on.running (no_call_ends A s m holds image pid now p x c.effect number r.on (sym own ∙ c.made) c.number_is none) new j stop
      (subst (λ (o : Option SwapImage). StopsAlive m new pid holds o j stop) r.told h)

  -- Calls.

  pub makes_call : (number : ℤ) (after : Regs) (call : SystemCall) (c : MadeCall m pid before number after) → call_of number ≡ Some call
      → MakesCall m p x c.effect call
  makes_call number after call c e = record { made = sym own ∙ c.made; names = record { number = number; is_number = c.number_is; names = e } }

  -- Instructions that are complete.

  pub instruction_led : (l : Kernel) (effect : Effect) → run (own_answers m pid) (instruction before) ≡ Ok effect → effect.call ≡ None
      → l ≡ ran_by (writes_in m.kernel (space_of_pid m.kernel pid) effect.writes) pid effect.regs (entries.Ran pid 1) → StepLeads A s m.kernel image 1 l i
  instruction_led l effect e none h =
      told 1 l
      (instruction_made A s m l holds image pid now p x effect r.on (sym own ∙ e) none
      (h ∙ ap (λ (n : ℕ). ran_by (writes_in m.kernel n effect.writes) pid effect.regs (entries.Ran pid 1)) space))

  -- its entry is the next unit
  next : (effect : Effect) → run (own_answers m pid) (instruction before) ≡ Ok effect → effect.call ≡ None → (wanted A s ≡ None) × (act A s pid ≡ Some (entries.Ran pid 1))
  next effect e none =
      let y : IsReadyFor A s p x (Ok effect) = ready (Ok effect) e (subst (λ (o : Option ℤ). MakesNone o) (sym none) tt) in
      let refused : Bool = is_refused s.point.last pid in
      let step : Step = step_with A.images s.point.flat p (entries.Ran p.pid 1 ∷ []) effect.writes effect.regs changes.Keep in
      let is : step_at A s.point pid ≡ step =
      step_known A s pid now p x (Ok effect) r.on.running y ∙ ap (step_behind A.images s.point.flat p x refused effect) none in
      let first : step.entries ≡ entries.Ran pid 1 ∷ [] = ap (λ (n : ℕ). entries.Ran n 1 ∷ []) (found_at s.point.flat pid p r.on.running.here).0 in (
        y.unwanted,
        begins A s m.kernel image pid now p x step (entries.Ran pid 1) [] m.kernel.holdings r.on.machine.at r.on.running r.on.between is first (none_asked A.swap_blocks m.kernel).0
            (none_lost A s pid now p x step r.on.running is refl),
      )

  -- and it is the unit of that entry
  pub instruction_is : (l : Kernel) (effect : Effect) → run (own_answers m pid) (instruction before) ≡ Ok effect → effect.call ≡ None
      → l ≡ ran_by (writes_in m.kernel (space_of_pid m.kernel pid) effect.writes) pid effect.regs (entries.Ran pid 1)
      → (wanted A s ≡ None) × (act A s pid ≡ Some (entries.Ran pid 1)) × MadeAs A s m.kernel image (entries.Ran pid 1) l (Some image)
  instruction_is l effect e none h =
      let y : IsReadyFor A s p x (Ok effect) = ready (Ok effect) e (subst (λ (o : Option ℤ). MakesNone o) (sym none) tt) in
      let step : Step = step_with A.images s.point.flat p (entries.Ran p.pid 1 ∷ []) effect.writes effect.regs changes.Keep in
      let is : step_at A s.point pid ≡ step =
      step_known A s pid now p x (Ok effect) r.on.running y ∙ ap (step_behind A.images s.point.flat p x (is_refused s.point.last pid) effect) none in
      let n = next effect e none in (
        n.0,
        n.1,
        ran_made A s m.kernel l image pid now p x step r.on.machine.at r.on.running is
            (h ∙ ap (λ (k : ℕ). ran_by (writes_in m.kernel k effect.writes) pid effect.regs (entries.Ran pid 1)) space),
      )

  -- where the journal has no room for it the run stops there
  pub instruction_stops : (mid new : Standing) (stop : Stop) (effect : Effect) → run (own_answers m pid) (instruction before) ≡ Ok effect → effect.call ≡ None
      → mid.kernel.journal ≡ m.kernel.journal → HasStopped mid new → LeftBy stop m.kernel new → (stop ≡ stops.JournalFull) ⊎ (stop ≡ stops.NoMemory)
      → (stop ≡ stops.JournalFull → (mid.params.journal ≤ length mid.kernel.journal) × (length mid.kernel.journal < length (append mid.kernel.journal (entries.Ran pid 1))))
      → StopLeads A s m.kernel image stop new i
  instruction_stops mid new stop effect e none journal h held cause full = record {
    units = [];
    state = s;
    kernel = m.kernel;
    behind = image;
    leads = none_leads A s m.kernel image;
    journal = h.journal ∙ journal;
    held = held;
    by = elim cause [
      | inl c ↦ subst (λ (z : Stop). StopsBy A s m.kernel image z new i) (sym c) (record {
        entry = entries.Ran pid 1;
        next = let n = next effect e none in runs_next A s pid now (entries.Ran pid 1) r.on.running.runs n.0 n.1;
        full = λ z.
            let f = full c in
            let at : new.params.journal ≤ length mid.kernel.journal = subst (λ (y : Params). y.journal ≤ length mid.kernel.journal) (sym h.params) f.0 in
            subst (λ (es : List Entry). (new.params.journal ≤ length es) × (length es < length (append es (entries.Ran pid 1)))) journal (at, f.1);
        cause = inl refl;
        spoils = r.told;
      })
      | inr c ↦ subst (λ (z : Stop). StopsBy A s m.kernel image z new i) (sym c) r.told
    ];
  }

  pub room_stops : (new : Standing) (stop : Stop) → HasStopped m new → stop ≡ stops.NoMemory → m.before ≡ m.kernel.holdings → StopLeads A s m.kernel image stop new i
  room_stops new stop h c w = stop_told stop new (Rattle.step_units.proofs.Entering.stopped_short A s m new image stop h c w)
