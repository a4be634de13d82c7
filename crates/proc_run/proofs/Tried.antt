-- What follows of an attempt at an instruction, by what it came to.
use Rattle.std.proofs.Common.{◌≡◌, ◌⊎◌, inl, inr, ℕ, ◌<◌, ◌≤◌, Bool, false, List, [], length, Option, None, Result, Ok, Err, refl, sym, ap, ◌∙◌, subst}
use Rattle.std.specs.Prelude.{IfOk, IfErr}
use Rattle.vm_facts.specs.SwapImages.{SwapImage}
use Rattle.io_edge.specs.FileHolding.{NamedFile}
use Rattle.vm_facts.specs.Answers.{ByteWrite}
use Rattle.vm_facts.specs.declared.entry.Entry.TheVariants.{Ran}
use Rattle.vm_facts.specs.declared.page.Page.{Page}
use Rattle.vm_facts.specs.declared.regs.Regs.{Regs}
use Rattle.vm_facts.specs.declared.stop.Stop.{Stop}
use Rattle.vm_facts.specs.declared.stop.Stop.TheVariants as stops
use Rattle.user_vax.specs.Program.{run}
use Rattle.user_vax.specs.Effects.{Effect}
use Rattle.user_vax.specs.Instruction.{instruction, answer_of, registers_after, writes_of}
use Rattle.user_vax.specs.declared.refused.Refused.{Refused}
use Rattle.user_vax.specs.declared.stepped.Stepped.TheVariants as steps
use Rattle.user_step.proofs.Trying.{missed}
use Rattle.flat_state.specs.Journal.{append}
use Rattle.flat_state.specs.Space.{Space}
use Rattle.flat_state.specs.Flat.{Process, Inputs}
use Rattle.kernel_model.specs.ChangeStep.{ran_by}
use Rattle.kernel_model.specs.Kernel.{Kernel}
use Rattle.machine_state.specs.Conditions.{HasStopped}
use Rattle.machine_state.specs.Going.{CanGoOn}
use Rattle.machine_state.specs.Machine.{Standing}
use Rattle.machine_state.specs.UserMemory.{CanLend, Wrote, writes_in}
use Rattle.step_units.proofs.PagingUnitsStopping.{held_here}
use Rattle.step_units.specs.Callers.{regs_of}
use Rattle.step_units.specs.ProcCallsLeaving.{HasEnded, StopsAlive}
use Rattle.run_model.specs.State.{State}
use Rattle.step_units.specs.Running.{WaitsForPage}
use Rattle.step_units.specs.Stepped.{StopLeads, LeadsFrom, StopsFrom}
use Rattle.step_units.specs.Ready.{Continues}
use Rattle.step_units.proofs.Running.{continues_from}
use Rattle.step_units.proofs.Entries.{room_continues, writes_continue, ran_continues}
use Rattle.step_units.specs.Growth.{space_of_pid}
use Rattle.proc_run.specs.declared.advancing.Advance.{Advance}
use Rattle.proc_run.specs.declared.advancing.Advance.TheVariants as advances
use Rattle.proc_run.specs.Calls.{own_answers}
use Rattle.proc_run.specs.Runs.{RunsAt, AdvancesTo, counts, HasRunner, WaitsAt}
use Rattle.proc_run.proofs.Attempts.{did_all, fell, signalled, RoomOnly, room_answers, room_regs, room_runs, room_goes_on}
use Rattle.proc_run.proofs.Steps.{waits_missed, waits_below, signal_led, signal_stops, instruction_led, instruction_stops}
use Rattle.proc_run.proofs.Written.{writes_same, wrote_lends}

-- What a later call leads to is what the attempt leads to.

module _ (old at last : Standing) (pid : ℕ) (now : Bool) (holds : Option (List NamedFile)) (i j : Option SwapImage) (o : RoomOnly old at) where
  kernel_same : at.kernel ≡ old.kernel
  kernel_same = ap (λ (m : Standing). m.kernel) o.only

  pub room_advances : (advance : Advance) → LeadsFrom (HasRunner at holds i pid now) (AdvancesTo at.kernel last.kernel j advance)
      → LeadsFrom (HasRunner old holds i pid now) (AdvancesTo old.kernel last.kernel j advance)
  room_advances advance h A s image (p, x, r) =
      subst (λ (k : Kernel). AdvancesTo k last.kernel j advance A s image) kernel_same (h A s image (p, x, room_runs A s old at holds i image pid now p x o r))

  pub room_stops : (stop : Stop) → StopsFrom (HasRunner at holds i pid now) at last j stop → StopsFrom (HasRunner old holds i pid now) old last j stop
  room_stops stop h A s image (p, x, r) =
      subst (λ (k : Kernel). StopLeads A s k image stop last j) kernel_same (h A s image (p, x, room_runs A s old at holds i image pid now p x o r))

  pub later_advances : (result : Result Advance Stop) → IfOk result (λ advance. LeadsFrom (HasRunner at holds i pid now) (AdvancesTo at.kernel last.kernel j advance))
      → IfOk result (λ advance. LeadsFrom (HasRunner old holds i pid now) (AdvancesTo old.kernel last.kernel j advance))
  later_advances (Err stop) h = tt
  later_advances (Ok advance) h = room_advances advance h

  pub later_stops : (result : Result Advance Stop) → IfErr result (StopsFrom (HasRunner at holds i pid now) at last j)
      → IfErr result (StopsFrom (HasRunner old holds i pid now) old last j)
  later_stops (Ok advance) h = tt
  later_stops (Err stop) h = room_stops stop h

  pub later_goes_on : (result : Result Advance Stop) → old.kernel.place.due ≡ [] → IfOk result (λ advance. Continues at last (counts advance))
      → IfOk result (λ advance. Continues old last (counts advance))
  later_goes_on (Err stop) clear h = tt
  later_goes_on (Ok advance) clear h = room_goes_on old at last (counts advance) o clear h

-- Where it is complete.

module _ (old mid new : Standing) (pid : ℕ) (before : Regs) (o : RoomOnly old mid) (w : Wrote mid (space_of_pid mid.kernel pid) (writes_of (run (own_answers mid pid) (instruction before))) new) where
  abbrev ws : List ByteWrite
  ws = writes_of (run (own_answers mid pid) (instruction before))

  -- what it came to, in the machine before it
  was : (r : Result Effect Refused) → run (own_answers mid pid) (instruction before) ≡ r → run (own_answers old pid) (instruction before) ≡ r
  was r e = sym (room_answers old mid pid before o) ∙ e

  pub journal_same : new.kernel.journal ≡ old.kernel.journal
  journal_same = ap (λ (m : Standing). m.kernel.journal) w.machine ∙ (writes_same ws mid.kernel (space_of_pid mid.kernel pid)).journal ∙ ap (λ (m : Standing). m.kernel.journal) o.only

  pub lends_still : CanGoOn new → CanLend mid.kernel pid → CanLend new.kernel pid
  lends_still = wrote_lends mid new pid (space_of_pid mid.kernel pid) ws w.machine

  module _ (clear : old.kernel.place.due ≡ []) (a : answer_of (run (own_answers mid pid) (instruction before)) ≡ steps.Done) (last : Standing) (after : Regs)
      (e : after ≡ registers_after before (run (own_answers mid pid) (instruction before))) (step : last.kernel ≡ ran_by new.kernel pid after (Ran pid 1)) where
    pub ran_goes_on : last ≡ record new { kernel = last.kernel; room = None } → Continues old last 1
    ran_goes_on rest =
        let made : Continues old mid 0 = room_continues old mid o.made clear o.only in
        let written : Continues mid new 0 = writes_continue mid new (space_of_pid mid.kernel pid) ws made.clear w.machine in
        continues_from old mid last 1 made
        (continues_from mid new last 1 written
        (ran_continues new last pid after written.clear
        (rest ∙ ap (λ (k : Kernel). let m : Standing = record new { kernel = k; room = None } in m) step)))

    pub ran_advances : (now : Bool) (holds : Option (List NamedFile)) (i : Option SwapImage) → before ≡ regs_of old.kernel pid
        → LeadsFrom (HasRunner old holds i pid now) (AdvancesTo old.kernel last.kernel i advances.Counted)
    ran_advances now holds i same A s image (p, x, r) =
        let d = did_all (run (own_answers mid pid) (instruction before)) a in
        let room : mid.kernel ≡ old.kernel = ap (λ (m : Standing). m.kernel) o.only in
        instruction_led A s old holds i image pid now p x before r same last.kernel d.0 (was (Ok d.0) d.1) d.2
        (step ∙ ap (λ (g : Regs). ran_by new.kernel pid g (Ran pid 1)) (e ∙ ap (registers_after before) d.1)
        ∙ ap (λ (m : Standing). ran_by m.kernel pid d.0.regs (Ran pid 1)) w.machine
        ∙ ap (λ (y : Result Effect Refused). ran_by (writes_in mid.kernel (space_of_pid mid.kernel pid) (writes_of y)) pid d.0.regs (Ran pid 1)) d.1
        ∙ ap (λ (k : Kernel). ran_by (writes_in k (space_of_pid k pid) d.0.writes) pid d.0.regs (Ran pid 1)) room)

-- Where it isn't, by what it came to in a machine that is as it was but for the room.

module _ (old at last : Standing) (pid : ℕ) (now : Bool) (holds : Option (List NamedFile)) (i j : Option SwapImage) (o : RoomOnly old at) (before : Regs) (same : before ≡ regs_of old.kernel pid) where
  -- it waits for a byte
  abbrev Misses : ℕ → Bool → Type 0
  Misses address write =
      (answer_of (run (own_answers at pid) (instruction before)) ≡ steps.Miss address write)
      ⊎ ((answer_of (run (own_answers at pid) (instruction before)) ≡ steps.Below address) × (write ≡ false))

  module _ (address : ℕ) (write : Bool) (e : Misses address write) (A : Inputs) (s : State) (image : SwapImage) (p : Process) (x : Space) (r : RunsAt A s at holds i image pid now p x) where
    waits : (qs : List Page) × WaitsForPage A s at p x address write qs
    waits = let here = room_regs old at pid before o same in elim e [
      | inl m ↦ waits_missed A s at holds i image pid now p x before r here address write (missed (run (own_answers at pid) (instruction before)) address write m)
      | inr b ↦ subst (λ (w : Bool). (qs : List Page) × WaitsForPage A s at p x address w qs) (sym b.1)
          (waits_below A s at holds i image pid now p x before r here address (fell (run (own_answers at pid) (instruction before)) address b.0))
    ]

  pub served_advances : (address : ℕ) (write : Bool) → Misses address write → (result : Result Advance Stop)
      → IfOk result (λ advance. LeadsFrom (WaitsAt at holds i pid now address write) (AdvancesTo at.kernel last.kernel j advance))
      → IfOk result (λ advance. LeadsFrom (HasRunner old holds i pid now) (AdvancesTo old.kernel last.kernel j advance))
  served_advances address write e (Err stop) h = tt
  served_advances address write e (Ok advance) h =
      room_advances old at last pid now holds i j o advance (λ A s image n. let y = waits address write e A s image n.0 n.1 n.2 in h A s image (n.0, n.1, y.0, n.2, y.1))

  pub served_stops : (address : ℕ) (write : Bool) → Misses address write → (result : Result Advance Stop)
      → IfErr result (StopsFrom (WaitsAt at holds i pid now address write) at last j) → IfErr result (StopsFrom (HasRunner old holds i pid now) old last j)
  served_stops address write e (Ok advance) h = tt
  served_stops address write e (Err stop) h =
      room_stops old at last pid now holds i j o stop (λ A s image n. let y = waits address write e A s image n.0 n.1 n.2 in h A s image (n.0, n.1, y.0, n.2, y.1))

  -- it is a signal
  pub signal_advances : (number : ℕ) → answer_of (run (own_answers at pid) (instruction before)) ≡ steps.Signal number → HasEnded at last pid number holds i j
      → LeadsFrom (HasRunner old holds i pid now) (AdvancesTo old.kernel last.kernel j advances.Counted)
  signal_advances number e h =
      room_advances old at last pid now holds i j o advances.Counted
      (λ A s image n. signal_led A s at holds i image pid now n.0 n.1 before n.2 (room_regs old at pid before o same) last j number
      (signalled (run (own_answers at pid) (instruction before)) number e) h)

  pub signal_halts : (number : ℕ) → answer_of (run (own_answers at pid) (instruction before)) ≡ steps.Signal number → (stop : Stop)
      → StopsAlive at last pid holds i j stop → StopsFrom (HasRunner old holds i pid now) old last j stop
  signal_halts number e stop h =
      room_stops old at last pid now holds i j o stop
      (λ A s image n. signal_stops A s at holds i image pid now n.0 n.1 before n.2 (room_regs old at pid before o same) last j number stop
      (signalled (run (own_answers at pid) (instruction before)) number e) h)

-- Where the run stops for want of room.

pub asked_stops : (old last : Standing) (pid : ℕ) (before : Regs) (stop : Stop) (now : Bool) (holds : Option (List NamedFile)) (i : Option SwapImage)
    → before ≡ regs_of old.kernel pid → HasStopped old last
    → old.before ≡ old.kernel.holdings → (stop ≡ stops.JournalFull) ⊎ (stop ≡ stops.NoMemory)
    → (stop ≡ stops.JournalFull → (old.params.journal ≤ length old.kernel.journal)
    × (length old.kernel.journal < length (append old.kernel.journal (Ran pid 1))))
    → (stop ≡ stops.JournalFull → answer_of (run (own_answers old pid) (instruction before)) ≡ steps.Done)
    → StopsFrom (HasRunner old holds i pid now) old last i stop
asked_stops old last pid before stop now holds i same h whole cause full done A s image (p, x, r) = elim cause [
  | inl c ↦
      let d = did_all (run (own_answers old pid) (instruction before)) (done c) in
      instruction_stops A s old holds i image pid now p x before r same old last stop d.0 d.1 d.2 refl h (held_here stop old last h whole (inl c) (λ e. (full e).0)) (inl c) full
  | inr c ↦ Rattle.proc_run.proofs.Steps.room_stops A s old holds i image pid now p x before r same last stop h c whole
]
