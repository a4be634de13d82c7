-- What is told of a line of a process, from each state at which the machine may stand.
use Rattle.std.proofs.Common.{◌≡◌, ◌≢◌, ℕ, ◌<◌, ◌≤◌, Bool, true, false, not, ◌&&◌, List, length, Option, Some, None, Result, Ok, Err, refl, sym, ap, ◌∙◌, subst, arith}
use Rattle.std.specs.Prelude.{IfOk}
use Rattle.vm_facts.specs.SwapImages.{SwapImage}
use Rattle.vm_facts.specs.declared.entry.Entry.{Entry}
use Rattle.vm_facts.specs.declared.entry.Entry.TheVariants as entries
use Rattle.vm_facts.specs.declared.page.Page.{Page}
use Rattle.vm_facts.specs.declared.regs.Regs.{Regs}
use Rattle.vm_facts.specs.declared.stop.NoMemory.{NoMemory}
use Rattle.io_edge.specs.FileHolding.{NamedFile}
use Rattle.user_vax.specs.Program.{run}
use Rattle.user_vax.specs.Instruction.{instruction, answer_of, registers_after, writes_of}
use Rattle.user_vax.specs.Effects.{Effect}
use Rattle.user_vax.specs.declared.refused.Refused.{Refused}
use Rattle.user_vax.specs.declared.stepped.Stepped.{Stepped}
use Rattle.user_vax.specs.declared.stepped.Stepped.TheVariants as steps
use Rattle.flat_state.specs.Flat.{Process, Inputs}
use Rattle.flat_state.specs.Journal.{IsUnit}
use Rattle.flat_state.specs.Space.{Space}
use Rattle.flat_model.specs.Run.{process_of_entry, IsBetween}
use Rattle.page_model.specs.Placement.{Placement, state_of}
use Rattle.page_model.specs.Swapper.{is_out}
use Rattle.kernel_model.specs.ChangeStep.{ran_by}
use Rattle.kernel_model.specs.Kernel.{Kernel}
use Rattle.kernel_model.specs.Unit.{proc_of}
use Rattle.machine_state.specs.Going.{CanGoOn}
use Rattle.machine_state.specs.Machine.{Standing}
use Rattle.machine_state.specs.UserMemory.{CanLend, Wrote, writes_in}
use Rattle.proc_run.specs.Callers.{regs_of}
use Rattle.proc_run.specs.Growth.{space_of_pid}
use Rattle.proc_run.specs.LastMoves.{last_moves}
use Rattle.run_model.specs.declared.mark.Mark.TheVariants as marks
use Rattle.run_model.specs.State.{State}
use Rattle.run_model.specs.Act.{act}
use Rattle.run_model.specs.Wanted.{wanted}
use Rattle.run_laws.specs.Standing.{Placed}
use Rattle.proc_run.specs.Leads.{MadeAs}
use Rattle.proc_run.specs.RunUnitsTouching.{RunsInSpace}
use Rattle.proc_run.specs.Touching.{RunsWith}
use Rattle.proc_run.specs.Stepped.{AtSome, LeadsFrom}
use Rattle.proc_run.proofs.Tables.{regs_is, is_kept}
use Rattle.paged_model.specs.declared.reason.Reason.{Reason}
use Rattle.paged_model.specs.declared.reason.Reason.TheVariants as reasons
use Rattle.paged_model.specs.Reasons.{unless, or_reason}
use Rattle.paged_model.specs.Steps.{away_by, is_same, other_act}
use Rattle.paged_laws.specs.Paged.{Steady, under_dispatch, IsPaged}
use Rattle.paged_laws.proofs.PolicySteps.{act_self}
use Rattle.paged_laws.proofs.Virtual.{act_same}
use Rattle.proc_run.specs.declared.finishing.Begun.{Begun}
use Rattle.proc_run.specs.Calls.{own_answers}
use Rattle.proc_run.specs.Choosing.{steps_by, may_run}
use Rattle.proc_run.specs.Runs.{IsSteady, RunsAt}
use Rattle.proc_run.specs.Stretch.{Leaves}
use Rattle.proc_run.proofs.Attempts.{did_all, RoomOnly, room_answers, room_kernel}
use Rattle.proc_run.proofs.BegunTold.{none_between}
use Rattle.proc_run.proofs.Marks.{steps_same}
use Rattle.proc_run.proofs.SoFar.{lends_there}
use Rattle.proc_run.proofs.Steps.{own, instruction_is}
use Rattle.step_judge.specs.At.{JudgedAt, SoonAt, ReadyAt, ActsAt}
use Rattle.step_judge.specs.Told.{is_ran, first_reasons, left_reason, in_reason, ActTold, LeftTold, InTold, StepTold, GoesOnWith}
use Rattle.step_judge.proofs.Dispatched.{at_then, machine_then, runner, resident, away_then, begun_wants}
use Rattle.step_judge.proofs.Rans.{never_alone, never_begun}
use Rattle.step_judge.proofs.Readying.{tables, whole, soon}

-- What a machine that stands at such a state is.

module _ (m : Standing) (n : ℕ) (b : Option Begun) (holds : Option (List NamedFile)) (i : Option SwapImage) (pid : ℕ) where
  pub steady_of : AtSome (ReadyAt m n b holds i pid) → CanGoOn m → last_moves m.kernel.journal ≤ 1000000 → IsSteady m
  steady_of (A, s, image, r) ready low =
      let soon_at : SoonAt m n b holds i pid A s image = r.soon in
      let at : JudgedAt m n b holds i A s image = soon_at.at in
      let paged : IsPaged A s = at.paged in
      let steady : Steady A s = paged.steady in
      let placed : Placed A s.point.flat s.place s.holdings = steady.placed in
      record {
        ready = ready;
        clear = ap (λ (p : Placement). p.due) at.stands.place ∙ soon_at.clear;
        frames = subst (λ (p : Placement). 64 ≤ length p.holds) (sym at.stands.place) (let f = placed.frames in let e = at.enough in omega (arith, f, e));
        low = low;
      }

  pub lends_of : AtSome (ReadyAt m n b holds i pid) → CanGoOn m → last_moves m.kernel.journal ≤ 1000000 → CanLend m.kernel pid
  lends_of (A, s, image, r) ready low = lends_there m pid (steady_of (A, s, image, r) ready low) r.runs

  -- few instructions are counted
  pub few_of : AtSome (ReadyAt m n b holds i pid) → n < 1000000
  few_of (A, s, image, r) =
      let soon_at : SoonAt m n b holds i pid A s image = r.soon in
      let at : JudgedAt m n b holds i A s image = soon_at.at in
      let c = at.count in let f = soon_at.few in let l = at.limit in omega (arith, c, f, l)

  pub ready_of : AtSome (ActsAt m n b holds i pid) → AtSome (ReadyAt m n b holds i pid)
  ready_of (A, s, image, x) = (A, s, image, x.ready)

-- A machine that is as it was, but for room for an instruction.

module _ (old new : Standing) (o : RoomOnly old new) (n : ℕ) (b : Option Begun) (holds : Option (List NamedFile)) (i : Option SwapImage) (pid : ℕ) where
  judged_room : (A : Inputs) (s : State) (image : SwapImage) → JudgedAt old n b holds i A s image → JudgedAt new n b holds i A s image
  judged_room A s image at = room_kernel (λ m. JudgedAt m n b holds i A s image) old new o (record {
    fit = at.fit;
    paged = at.paged;
    stands = at.stands;
    images = at.images;
    named = at.named;
    blocks = at.blocks;
    told = at.told;
    count = at.count;
    begun = at.begun;
    limit = at.limit;
    enough = at.enough;
  })

  ready_room : (A : Inputs) (s : State) (image : SwapImage) → ReadyAt old n b holds i pid A s image → ReadyAt new n b holds i pid A s image
  ready_room A s image r =
      let x : SoonAt old n b holds i pid A s image = r.soon in
      record {
        soon = record { at = judged_room A s image x.at; few = x.few; steps = x.steps; own = x.own; clear = x.clear };
        runs = room_kernel (λ m. may_run m.kernel pid ≡ true) old new o r.runs;
      }

  pub some_room : AtSome (ReadyAt old n b holds i pid) → AtSome (ReadyAt new n b holds i pid)
  some_room (A, s, image, r) = (A, s, image, ready_room A s image r)

  pub told_room : (u : Entry) (l : Kernel) (j : Option SwapImage) (r : Result (Option Reason) NoMemory)
      → IfOk r (λ reason. LeadsFrom (ReadyAt new n b holds i pid) (LeftTold reason u pid new.kernel l j))
      → IfOk r (λ reason. LeadsFrom (ReadyAt old n b holds i pid) (LeftTold reason u pid old.kernel l j))
  told_room u l j (Err e) h = tt
  told_room u l j (Ok reason) h = λ A s image r.
      subst (λ (k : Kernel). LeftTold reason u pid k l j A s image) (ap (λ (m : Standing). m.kernel) o.only) (h A s image (ready_room A s image r))

  goes_room : (last : Standing) → GoesOnWith new last → GoesOnWith old last
  goes_room last g = record {
    ready = g.ready;
    params = g.params ∙ ap (λ (m : Standing). m.params) o.only;
    images = g.images ∙ ap (λ (m : Standing). m.images) o.only;
  }

  pub on_room : (last : Standing) (r : Result (Option Reason) NoMemory) → IfOk r (λ reason. reason ≡ None → GoesOnWith new last)
      → IfOk r (λ reason. reason ≡ None → GoesOnWith old last)
  on_room last (Err e) h = tt
  on_room last (Ok reason) h = λ none. goes_room last (h none)

-- an attempt that wasn't carried out leaves the machine as it was
pub left_same : (s : Stepped) (old new : Standing) → s ≢ steps.Done → Leaves s old new → new ≡ old
left_same steps.Done old new d h = absurd (d refl)
left_same (steps.Call number) old new d h = h
left_same (steps.Miss address write) old new d h = h
left_same (steps.Below address) old new d h = h
left_same (steps.Signal number) old new d h = h

pub other_still : (s : Stepped) (mid new : Standing) (pid : ℕ) (regs : Regs) → s ≡ answer_of (run (own_answers mid pid) (instruction regs)) → s ≢ steps.Done
    → new ≡ mid → answer_of (run (own_answers new pid) (instruction regs)) ≢ steps.Done
other_still s mid new pid regs a not_done same d = not_done (a ∙ sym (ap (λ (y : Standing). answer_of (run (own_answers y pid) (instruction regs))) same) ∙ d)

-- one that was carried out leaves what the instruction leaves, with its entry
pub ran_through : (old mid new : Standing) (pid : ℕ) (regs after : Regs) (l : Kernel) → RoomOnly old mid
    → Wrote mid (space_of_pid mid.kernel pid) (writes_of (run (own_answers mid pid) (instruction regs))) new
    → after ≡ registers_after regs (run (own_answers mid pid) (instruction regs)) → l ≡ ran_by new.kernel pid after (entries.Ran pid 1)
    → l ≡ ran_by (writes_in old.kernel (space_of_pid old.kernel pid) (writes_of (run (own_answers old pid) (instruction regs)))) pid
    (registers_after regs (run (own_answers old pid) (instruction regs))) (entries.Ran pid 1)
ran_through old mid new pid regs after l o w e step =
    step ∙ ap (λ (g : Regs). ran_by new.kernel pid g (entries.Ran pid 1)) e
    ∙ ap (λ (y : Standing). ran_by y.kernel pid (registers_after regs (run (own_answers mid pid) (instruction regs))) (entries.Ran pid 1)) w.machine
    ∙ ap (λ (y : Standing). ran_by (writes_in y.kernel (space_of_pid y.kernel pid) (writes_of (run (own_answers y pid) (instruction regs)))) pid
    (registers_after regs (run (own_answers y pid) (instruction regs))) (entries.Ran pid 1)) o.only

pub did_done : (s : Stepped) (old mid : Standing) (pid : ℕ) (regs : Regs) → RoomOnly old mid → s ≡ answer_of (run (own_answers mid pid) (instruction regs))
    → s ≡ steps.Done
    → answer_of (run (own_answers old pid) (instruction regs)) ≡ steps.Done
did_done s old mid pid regs o a d = sym (ap answer_of (room_answers old mid pid regs o)) ∙ sym a ∙ d

-- Of a process that is ready.

module _ (m : Standing) (n : ℕ) (b : Option Begun) (holds : Option (List NamedFile)) (i : Option SwapImage) (pid : ℕ) (A : Inputs) (s : State) (image : SwapImage)
    (r : ReadyAt m n b holds i pid A s image) where
  abbrev v : State
  v = under_dispatch s pid

  abbrev p : Process
  p = (runner m n b holds i pid A s image r).0

  abbrev x : Space
  x = (runner m n b holds i pid A s image r).1

  running : RunsInSpace A v pid false p x
  running = (runner m n b holds i pid A s image r).2

  here : JudgedAt m n b holds i A s image
  here = let y : SoonAt m n b holds i pid A s image = r.soon in y.at

  -- it runs with the registers that the machine has of it
  pub runs_with : (regs : Regs) → regs ≡ regs_of m.kernel pid → RunsWith A (under_dispatch s pid) false m pid regs
  runs_with regs e = record {
    image = image;
    process = p;
    space = x;
    named = here.named;
    at = at_then m n b holds i pid A s image r;
    running = running;
    has = sym (e ∙ regs_is m.kernel pid p x (is_kept A v m.kernel image pid false p x (at_then m n b holds i pid A s image r) running));
  }

  -- by the first of its pages that is away
  left_by : (u : Entry) (o : Option Page) → wanted A v ≡ o → left_reason A s pid u ≡ or_reason (away_by s.place o) (other_act pid u (act A s pid))
  left_by u o e = ap (λ (y : Option Reason). or_reason y (other_act pid u (act A s pid))) (sym (away_then m n b holds i pid A s image r) ∙ ap (away_by s.place) e)

  pub some_away : (u : Entry) (q : Page) → wanted A (under_dispatch s pid) ≡ Some q → Some (reasons.InState q (state_of m.kernel.place q)) ≡ left_reason A s pid u
  some_away u q e = ap (λ (y : Placement). Some (reasons.InState q (state_of y q))) here.stands.place ∙ sym (left_by u (Some q) e)

  pub none_away : (u : Entry) → wanted A (under_dispatch s pid) ≡ None → other_act pid u (act A s pid) ≡ left_reason A s pid u
  none_away u e = sym (left_by u None e)

  -- by where it is
  pub in_place : (u : Entry) → left_reason A s pid u ≡ in_reason A s pid u
  in_place u = ap (λ (y : Bool). or_reason (unless (not y) (reasons.IsOut pid)) (left_reason A s pid u)) (sym (resident m n b holds i pid A s image r))

  -- where a step of it is begun
  pub acts_begun : (c : Begun) → b ≡ Some c → ActsAt m n b holds i pid A s image
  acts_begun c e =
      let y : SoonAt m n b holds i pid A s image = r.soon in
      let paged : IsPaged A s = here.paged in
      let steady : Steady A s = paged.steady in
      record { ready = r; unwanted = begun_wants m n b holds i pid A s image r c e; other = never_begun A s pid c steady.says (here.begun ∙ e) y.own }

  -- Where none is.

  module _ (none : b ≡ None) (regs : Regs) (e : regs ≡ regs_of m.kernel pid) where
    between : IsBetween s.point.last
    between = none_between s.point.last (here.begun ∙ none)

    runs_at : RunsAt A v m holds i image pid false p x
    runs_at = record {
      on = record { machine = machine_then m n b holds i pid A s image r; running = running; between = between };
      named = here.named;
      told = here.told;
    }

    pub acts_anew : wanted A (under_dispatch s pid) ≡ None → answer_of (run (own_answers m pid) (instruction regs)) ≢ steps.Done → ActsAt m n b holds i pid A s image
    acts_anew unwanted other = record {
      ready = r;
      unwanted = unwanted;
      other = λ q k z.
          never_alone A v m.kernel image pid false p x (at_then m n b holds i pid A s image r) running unwanted between
          (λ d. other (ap answer_of (own A v m holds i image pid false p x regs runs_at e) ∙ d)) q k (act_same A s (marks.Dispatch pid 1 s.count) pid ∙ z);
    }

    -- where it is carried out it is what the process does, and its unit
    pub ran_acts : (l : Kernel) → answer_of (run (own_answers m pid) (instruction regs)) ≡ steps.Done
        → l ≡ ran_by (writes_in m.kernel (space_of_pid m.kernel pid) (writes_of (run (own_answers m pid) (instruction regs)))) pid
        (registers_after regs (run (own_answers m pid) (instruction regs))) (entries.Ran pid 1)
        → (wanted A (under_dispatch s pid) ≡ None) × (act A s pid ≡ Some (entries.Ran pid 1)) × MadeAs A s m.kernel image (entries.Ran pid 1) l (Some image)
    ran_acts l done is =
        let d = did_all (run (own_answers m pid) (instruction regs)) done in
        let h = instruction_is A v m holds i image pid false p x regs runs_at e l d.0 d.1 d.2
        (is ∙ ap (λ (y : Result Effect Refused). ran_by (writes_in m.kernel (space_of_pid m.kernel pid) (writes_of y)) pid (registers_after regs y) (entries.Ran pid 1)) d.1) in
        let made : MadeAs A v m.kernel image (entries.Ran pid 1) l (Some image) = h.2 in (
          h.0,
          sym (act_same A s (marks.Dispatch pid 1 s.count) pid) ∙ h.1,
          record { read = made.read; given = tt; made = made.made; told = made.told },
        )

-- From wherever the machine may stand.

module _ (m : Standing) (n : ℕ) (holds : Option (List NamedFile)) (i : Option SwapImage) (pid : ℕ) (regs : Regs) (e : regs ≡ regs_of m.kernel pid) where
  -- a page is away
  pub page_told : (new : Standing) (o : Option Page) (q : Page) (reason : Reason) (u : Entry) (l : Kernel) (j : Option SwapImage) → new ≡ m
      → ((A : Inputs) (s : State) (now : Bool) → RunsWith A s now m pid regs → o ≡ wanted A s) → o ≡ Some q
      → reason ≡ reasons.InState q (state_of new.kernel.place q)
      → LeadsFrom (ReadyAt m n None holds i pid) (LeftTold (Some reason) u pid m.kernel l j)
  page_told new o q reason u l j same found is tells A s image r = record {
    exact =
        ap (λ (y : Reason). Some y) (tells ∙ ap (λ (y : Standing). reasons.InState q (state_of y.kernel.place q)) same)
        ∙ some_away m n None holds i pid A s image r u q (sym (found A (under_dispatch s pid) false (runs_with m n None holds i pid A s image r regs e)) ∙ is);
    made = λ none. absurd cc;
  }

  -- none is
  acts_found : (o : Option Page) → ((A : Inputs) (s : State) (now : Bool) → RunsWith A s now m pid regs → o ≡ wanted A s) → o ≡ None
      → answer_of (run (own_answers m pid) (instruction regs)) ≢ steps.Done
      → LeadsFrom (ReadyAt m n None holds i pid) (ActsAt m n None holds i pid)
  acts_found o found is other A s image r =
      acts_anew m n None holds i pid A s image r refl regs e (sym (found A (under_dispatch s pid) false (runs_with m n None holds i pid A s image r regs e)) ∙ is) other

  pub some_acts : (new : Standing) (o : Option Page) → new ≡ m → ((A : Inputs) (s : State) (now : Bool) → RunsWith A s now m pid regs → o ≡ wanted A s) → o ≡ None
      → answer_of (run (own_answers m pid) (instruction regs)) ≢ steps.Done
      → AtSome (ReadyAt m n None holds i pid) → AtSome (ActsAt new n None holds i pid)
  some_acts new o same found is other (A, s, image, r) =
      (A, s, image, subst (λ (y : Standing). ActsAt y n None holds i pid A s image) (sym same) (acts_found o found is other A s image r))

  pub act_left : (new : Standing) (o : Option Page) (u : Entry) (l : Kernel) (j : Option SwapImage) (t : Result (Option Reason) NoMemory) → new ≡ m
      → ((A : Inputs) (s : State) (now : Bool) → RunsWith A s now m pid regs → o ≡ wanted A s) → o ≡ None
      → answer_of (run (own_answers m pid) (instruction regs)) ≢ steps.Done
      → IfOk t (λ reason. LeadsFrom (ActsAt new n None holds i pid) (ActTold reason u pid new.kernel l j))
      → IfOk t (λ reason. LeadsFrom (ReadyAt m n None holds i pid) (LeftTold reason u pid m.kernel l j))
  act_left new o u l j (Err x) same found is other h = tt
  act_left new o u l j (Ok reason) same found is other h = λ A s image r.
      let a : ActsAt m n None holds i pid A s image = acts_found o found is other A s image r in
      let f = subst (λ (y : Standing). LeadsFrom (ActsAt y n None holds i pid) (ActTold reason u pid y.kernel l j)) same h in
      let t : ActTold reason u pid m.kernel l j A s image = f A s image a in
      record { exact = t.exact ∙ none_away m n None holds i pid A s image r u a.unwanted; made = t.made }

  -- the instruction is carried out, and is the line
  pub ran_told : (u : Entry) (l : Kernel) → u ≡ entries.Ran pid 1 → answer_of (run (own_answers m pid) (instruction regs)) ≡ steps.Done
      → l ≡ ran_by (writes_in m.kernel (space_of_pid m.kernel pid) (writes_of (run (own_answers m pid) (instruction regs)))) pid
      (registers_after regs (run (own_answers m pid) (instruction regs))) (entries.Ran pid 1)
      → LeadsFrom (ReadyAt m n None holds i pid) (LeftTold None u pid m.kernel l i)
  ran_told u l mine done is A s image r =
      let here : JudgedAt m n None holds i A s image = (let y : SoonAt m n None holds i pid A s image = r.soon in y.at) in
      let h = ran_acts m n None holds i pid A s image r refl regs e l done is in
      subst (λ (w : Entry). LeftTold None w pid m.kernel l i A s image) (sym mine) (record {
        exact =
            sym (ap (other_act pid (entries.Ran pid 1)) h.1 ∙ act_self (entries.Ran pid 1) pid refl)
            ∙ none_away m n None holds i pid A s image r (entries.Ran pid 1) h.0;
        made = λ none. subst (λ (o : Option SwapImage). MadeAs A s m.kernel image (entries.Ran pid 1) l o) (sym here.told) h.2;
      })

  -- or the line is another
  other_line : (u : Entry) → is_ran u ≡ false → unless (is_same (entries.Ran pid 1) u) (reasons.Comes (entries.Ran pid 1)) ≡ Some (reasons.Comes (entries.Ran pid 1))
  other_line (entries.Ran p k) z = absurd cc
  other_line _ z = refl

  pub comes_told : (u : Entry) (l : Kernel) (j : Option SwapImage) → is_ran u ≡ false → answer_of (run (own_answers m pid) (instruction regs)) ≡ steps.Done
      → LeadsFrom (ReadyAt m n None holds i pid) (LeftTold (Some (reasons.Comes (entries.Ran pid 1))) u pid m.kernel l j)
  comes_told u left j not_one done A s image r =
      let l : Kernel =
      ran_by (writes_in m.kernel (space_of_pid m.kernel pid) (writes_of (run (own_answers m pid) (instruction regs)))) pid
      (registers_after regs (run (own_answers m pid) (instruction regs))) (entries.Ran pid 1) in
      let h = ran_acts m n None holds i pid A s image r refl regs e l done refl in
      record {
        exact = sym (ap (other_act pid u) h.1 ∙ other_line u not_one) ∙ none_away m n None holds i pid A s image r u h.0;
        made = λ none. absurd cc;
      }

-- the line of an instruction alone
pub ran_line : (u : Entry) (pid : ℕ) → is_ran u ≡ true → process_of_entry u ≡ Some pid → IsUnit u → u ≡ entries.Ran pid 1
ran_line (entries.Ran p k) pid z e one =
    let same : p ≡ pid = cc in ap (λ (y : ℕ). entries.Ran y k) same ∙ ap (entries.Ran pid) one
ran_line _ pid z e one = absurd cc

-- Where a step is begun.

module _ (m : Standing) (n : ℕ) (c : Begun) (holds : Option (List NamedFile)) (i : Option SwapImage) (pid : ℕ) where
  pub some_begun : AtSome (ReadyAt m n (Some c) holds i pid) → AtSome (ActsAt m n (Some c) holds i pid)
  some_begun (A, s, image, r) = (A, s, image, acts_begun m n (Some c) holds i pid A s image r c refl)

  pub begun_left : (u : Entry) (l : Kernel) (j : Option SwapImage) (t : Result (Option Reason) NoMemory)
      → IfOk t (λ reason. LeadsFrom (ActsAt m n (Some c) holds i pid) (ActTold reason u pid m.kernel l j))
      → IfOk t (λ reason. LeadsFrom (ReadyAt m n (Some c) holds i pid) (LeftTold reason u pid m.kernel l j))
  begun_left u l j (Err x) h = tt
  begun_left u l j (Ok reason) h = λ A s image r.
      let a : ActsAt m n (Some c) holds i pid A s image = acts_begun m n (Some c) holds i pid A s image r c refl in
      let t : ActTold reason u pid m.kernel l j A s image = h A s image a in
      record { exact = t.exact ∙ none_away m n (Some c) holds i pid A s image r u a.unwanted; made = t.made }

-- By where it is.

module _ (m : Standing) (n : ℕ) (b : Option Begun) (holds : Option (List NamedFile)) (i : Option SwapImage) (pid : ℕ) where
  pub some_in : may_run m.kernel pid ≡ true → AtSome (SoonAt m n b holds i pid) → AtSome (ReadyAt m n b holds i pid)
  some_in runs (A, s, image, y) = (A, s, image, record { soon = y; runs = runs })

  pub in_told : (u : Entry) (l : Kernel) (j : Option SwapImage) (t : Result (Option Reason) NoMemory) → may_run m.kernel pid ≡ true
      → IfOk t (λ reason. LeadsFrom (ReadyAt m n b holds i pid) (LeftTold reason u pid m.kernel l j))
      → IfOk t (λ reason. LeadsFrom (SoonAt m n b holds i pid) (InTold reason u pid m.kernel l j))
  in_told u l j (Err x) runs h = tt
  in_told u l j (Ok reason) runs h = λ A s image y.
      let r : ReadyAt m n b holds i pid A s image = record { soon = y; runs = runs } in
      let t : LeftTold reason u pid m.kernel l j A s image = h A s image r in
      record { exact = t.exact ∙ in_place m n b holds i pid A s image r u; made = t.made }

  is_true : (x : Bool) → (true && not x) ≡ false → x ≡ true
  is_true true z = refl
  is_true false z = absurd cc

  pub out_told : (u : Entry) (l : Kernel) (j : Option SwapImage) → may_run m.kernel pid ≡ false
      → LeadsFrom (SoonAt m n b holds i pid) (InTold (Some (reasons.IsOut pid)) u pid m.kernel l j)
  out_told u l j runs A s image y =
      let at : JudgedAt m n b holds i A s image = y.at in
      let steps_on : steps_by (proc_of m.kernel pid) ≡ true = sym (steps_same m.kernel s.point.flat pid (tables m n b holds i A s image at pid)) ∙ y.steps in
      let out : is_out m.kernel.place pid ≡ true = is_true (is_out m.kernel.place pid) (sym (ap (λ (a : Bool). a && not (is_out m.kernel.place pid)) steps_on) ∙ runs) in
      let there : is_out s.place pid ≡ true = sym (ap (λ (q : Placement). is_out q pid) at.stands.place) ∙ out in
      record {
        exact = ap (λ (a : Bool). or_reason (unless (not a) (reasons.IsOut pid)) (left_reason A s pid u)) (sym there);
        made = λ none. absurd cc;
      }

  -- By what comes first.

  pub first_told_of : (u : Entry) (l : Kernel) (j : Option SwapImage) (reason : Reason) → IsUnit u
      → ((A : Inputs) (s : State) (image : SwapImage) → JudgedAt m n b holds i A s image → Some reason ≡ first_reasons A s n b m.kernel.place.due pid)
      → LeadsFrom (JudgedAt m n b holds i) (StepTold (Some reason) u pid m.kernel l j)
  first_told_of u l j reason unit h A s image at = record {
    exact = ap (λ (o : Option Reason). or_reason o (in_reason A s pid u)) (h A s image at) ∙ whole m n b holds i A s image at pid u unit;
    made = λ none. absurd cc;
  }

  pub some_soon : ((A : Inputs) (s : State) (image : SwapImage) → JudgedAt m n b holds i A s image → None ≡ first_reasons A s n b m.kernel.place.due pid)
      → AtSome (JudgedAt m n b holds i) → AtSome (SoonAt m n b holds i pid)
  some_soon h (A, s, image, at) = (A, s, image, soon m n b holds i A s image at pid (sym (h A s image at)))

  pub step_told : (u : Entry) (l : Kernel) (j : Option SwapImage) (t : Result (Option Reason) NoMemory) → IsUnit u
      → ((A : Inputs) (s : State) (image : SwapImage) → JudgedAt m n b holds i A s image → None ≡ first_reasons A s n b m.kernel.place.due pid)
      → IfOk t (λ reason. LeadsFrom (SoonAt m n b holds i pid) (InTold reason u pid m.kernel l j))
      → IfOk t (λ reason. LeadsFrom (JudgedAt m n b holds i) (StepTold reason u pid m.kernel l j))
  step_told u l j (Err x) unit h f = tt
  step_told u l j (Ok reason) unit h f = λ A s image at.
      let none : first_reasons A s n b m.kernel.place.due pid ≡ None = sym (h A s image at) in
      let t : InTold reason u pid m.kernel l j A s image = f A s image (soon m n b holds i A s image at pid none) in
      record {
        exact =
            t.exact ∙ sym (ap (λ (o : Option Reason). or_reason o (in_reason A s pid u)) none) ∙ whole m n b holds i A s image at pid u unit;
        made = t.made;
      }
