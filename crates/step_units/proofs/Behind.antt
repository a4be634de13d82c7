-- The state after an entry of a process.
use Rattle.std.proofs.Common.{◌≡◌, ℕ, ◌+◌, ◌-◌, ◌&&◌, nat_lt, Bool, true, false, List, [], ◌∷◌, ◌++◌, Option, Some, None, refl, sym, ap, ◌∙◌, subst}
use Rattle.vm_facts.specs.declared.regs.Regs.{Regs}
use Rattle.vm_facts.specs.declared.entry.Entry.{Entry}
use Rattle.vm_facts.specs.declared.entry.Entry.TheVariants as entries
use Rattle.aout_image.specs.declared.Image.{Image}
use Rattle.flat_state.specs.Space.{Space}
use Rattle.flat_state.specs.Flat.{Process, FlatState, Inputs, process_of, can_step}
use Rattle.flat_state.specs.Journal.{counted}
use Rattle.flat_state.specs.declared.change.Change.{Change}
use Rattle.flat_state.specs.declared.change.Change.TheVariants as changes
use Rattle.page_model.specs.Pages.{numbered}
use Rattle.page_model.specs.Placement.{Placement}
use Rattle.page_model.specs.Swapper.{is_out}
use Rattle.page_model.specs.Place.{Changing, data_from, stack_from, data_count, stack_count, place_change}
use Rattle.page_laws.proofs.Bytes.Changes.{drop_all_rest}
use Rattle.page_laws.proofs.Due.Changes.{unless_due}
use Rattle.kernel_model.specs.Kernel.{Kernel, Proc}
use Rattle.kernel_model.specs.ChangeStep.{changing_of, change_if, change_step}
use Rattle.flat_model.specs.Run.{step_at, due_at, behind, point_after}
use Rattle.run_model.specs.declared.mark.Mark.{Mark}
use Rattle.run_model.specs.declared.mark.Mark.TheVariants as marks
use Rattle.run_model.specs.State.{State}
use Rattle.run_model.specs.Wanted.{wanted, wanted_by, running, first_absent}
use Rattle.run_model.specs.Snapshot.{touched_of}
use Rattle.run_model.specs.After.{after}
use Rattle.run_model.specs.Next.{goes_on, turn_instructions}
use Rattle.run_model.specs.Kinds.{GoesOn, ProcessRuns}
use Rattle.run_model.proofs.After.{after_count}
use Rattle.run_laws.specs.Machine.{EndsStep}
use Rattle.run_units.specs.Touching.{RunsInSpace}

-- The end of a step.

-- after the last entry of a process's step
pub record StepEnds (A : Inputs) (s : State) (pid : ℕ) (e : Entry) (t : State) : Type 0 where
  pub count : t.count ≡ s.count + counted e
  pub lines : t.lines ≡ s.lines
  pub mark : t.mark ≡ s.mark
  pub last : t.point.last ≡ Some e
  pub flat : t.point.flat ≡ (step_at A s.point pid).after

last_is : (A : Inputs) (s : State) (q pid : ℕ) (e : Entry) → q ≡ pid → due_at A s.point pid ≡ e ∷ [] → (point_after A s.point q).last ≡ Some e
last_is A s q pid e c d = ap (λ (n : ℕ). (point_after A s.point n).last) c ∙ ap (λ (es : List Entry). (behind s.point (step_at A s.point pid).after es).last) d

flat_is : (A : Inputs) (s : State) (q pid : ℕ) (e : Entry) → q ≡ pid → due_at A s.point pid ≡ e ∷ []
    → (point_after A s.point q).flat ≡ (step_at A s.point pid).after
flat_is A s q pid e c d = ap (λ (n : ℕ). (point_after A s.point n).flat) c ∙ ap (λ (es : List Entry). (behind s.point (step_at A s.point pid).after es).flat) d

pub step_ends : (A : Inputs) (s : State) (pid : ℕ) (e : Entry) → EndsStep pid e → due_at A s.point pid ≡ e ∷ [] → StepEnds A s pid e (after A s e)
unfolding after
step_ends A s pid (entries.Ran q n) c d =
    record { count = after_count A s (entries.Ran q n); lines = refl; mark = refl; last = last_is A s q pid (entries.Ran q n) c d; flat = flat_is A s q pid (entries.Ran q n) c d }
step_ends A s pid (entries.Grew q n) c d =
    record { count = after_count A s (entries.Grew q n); lines = refl; mark = refl; last = last_is A s q pid (entries.Grew q n) c d; flat = flat_is A s q pid (entries.Grew q n) c d }
step_ends A s pid (entries.Call q n b r0 r1) c d =
    record {
      count = after_count A s (entries.Call q n b r0 r1);
      lines = refl;
      mark = refl;
      last = last_is A s q pid (entries.Call q n b r0 r1) c d;
      flat = flat_is A s q pid (entries.Call q n b r0 r1) c d;
    }
step_ends A s pid (entries.Sleeps q) c d =
    record { count = after_count A s (entries.Sleeps q); lines = refl; mark = refl; last = last_is A s q pid (entries.Sleeps q) c d; flat = flat_is A s q pid (entries.Sleeps q) c d }
step_ends A s pid (entries.Ended q n) c d =
    record { count = after_count A s (entries.Ended q n); lines = refl; mark = refl; last = last_is A s q pid (entries.Ended q n) c d; flat = flat_is A s q pid (entries.Ended q n) c d }
step_ends A s pid _ c d = absurd c

-- Within a step.

-- after an entry that begins a step, or says that its pieces found no place, the process runs on
pub record StepWaits (A : Inputs) (s : State) (e : Entry) (t : State) : Type 0 where
  pub count : t.count ≡ s.count
  pub lines : t.lines ≡ s.lines
  pub mark : t.mark ≡ s.mark
  pub place : t.place ≡ s.place
  pub holdings : t.holdings ≡ s.holdings
  pub flat : t.point.flat ≡ s.point.flat
  pub last : t.point.last ≡ Some e

pub refusal_waits : (A : Inputs) (s : State) (pid : ℕ) → StepWaits A s (entries.Refused pid) (after A s (entries.Refused pid))
unfolding after
refusal_waits A s pid = record { count = refl; lines = refl; mark = refl; place = refl; holdings = refl; flat = refl; last = refl }

pub output_waits : (A : Inputs) (s : State) (pid : ℕ) (bytes : List ℕ) (o e : Entry) (es : List Entry) → due_at A s.point pid ≡ o ∷ e ∷ es
    → o ≡ entries.Out pid bytes
    → StepWaits A s (entries.Out pid bytes) (after A s (entries.Out pid bytes))
unfolding after
output_waits A s pid bytes o e es d w = record {
  count = refl;
  lines = refl;
  mark = refl;
  place = refl;
  holdings = refl;
  flat = ap (λ (xs : List Entry). (behind s.point (step_at A s.point pid).after xs).flat) d;
  last = ap (λ (xs : List Entry). (behind s.point (step_at A s.point pid).after xs).last) d ∙ ap (λ (x : Entry). Some x) w;
}

same_goes : (A : Inputs) (s t : State) (pid until : ℕ) → t.point.flat ≡ s.point.flat → t.count ≡ s.count → goes_on A t pid until ≡ goes_on A s pid until
same_goes A s t pid until f c =
    ap (λ (F : FlatState). can_step F pid && (nat_lt t.count A.limit && nat_lt t.count until)) f
    ∙ ap (λ (n : ℕ). can_step s.point.flat pid && (nat_lt n A.limit && nat_lt n until)) c

same_on : (A : Inputs) (s t : State) (m : Mark) (pid : ℕ) (now : Bool) → t.point.flat ≡ s.point.flat → t.count ≡ s.count → GoesOn A s m pid now
    → GoesOn A t m pid now
same_on A s t (marks.Dispatch q n since) pid false f c g = (g.0, same_goes A s t pid (since + n) f c ∙ g.1)
same_on A s t (marks.Turn q since) pid true f c g = (g.0, same_goes A s t pid (since + turn_instructions) f c ∙ g.1)
same_on A s t _ pid now f c g = absurd g

pub runs_same : (A : Inputs) (s t : State) (e : Entry) (pid : ℕ) (now : Bool) → StepWaits A s e t → ProcessRuns A s pid now → ProcessRuns A t pid now
runs_same A s t e pid now w r = record {
  clear = ap (λ (p : Placement). p.due) w.place ∙ r.clear;
  on = subst (λ (m : Mark). GoesOn A t m pid now) (sym w.mark) (same_on A s t s.mark pid now w.flat w.count r.on);
  resident = ap (λ (p : Placement). is_out p pid) w.place ∙ r.resident;
}

pub running_same : (A : Inputs) (s t : State) (e : Entry) (pid : ℕ) (now : Bool) (p : Process) (x : Space) → StepWaits A s e t
    → RunsInSpace A s pid now p x → RunsInSpace A t pid now p x
running_same A s t e pid now p x w r =
    record { runs = runs_same A s t e pid now w r.runs; here = ap (λ (F : FlatState). process_of F pid) w.flat ∙ r.here; holds = r.holds }

-- it wants the same page
wanted_clear : (A : Inputs) (s : State) → s.place.due ≡ [] → wanted A s ≡ first_absent s.place (touched_of A s.point.flat (running s.mark))
wanted_clear A s c = ap (wanted_by A s) c

pub wanted_same : (A : Inputs) (s t : State) (e : Entry) → s.place.due ≡ [] → StepWaits A s e t → wanted A t ≡ wanted A s
wanted_same A s t e c w =
    wanted_clear A t (ap (λ (p : Placement). p.due) w.place ∙ c)
    ∙ ap (λ (p : Placement). first_absent p (touched_of A t.point.flat (running t.mark))) w.place
    ∙ ap (λ (F : FlatState). first_absent s.place (touched_of A F (running t.mark))) w.flat
    ∙ ap (λ (m : Mark). first_absent s.place (touched_of A s.point.flat (running m))) w.mark ∙ sym (wanted_clear A s c)

-- Pages that are due.

-- a change behind which the same pages are due
abbrev pub KeepsDue : Change → Type 0
KeepsDue (changes.Fork child) = ⊥
KeepsDue (changes.Exec number top) = ⊥
KeepsDue _ = Unit {0}

pub place_due : (c : Changing) (p : Placement) (change : Change) → KeepsDue change
    → (place_change c p change).due ≡ p.due
place_due c p changes.Keep h = refl
place_due c p (changes.Resize d n) h =
    (drop_all_rest (data_from c.sid d (data_count p c.sid - d) ++ stack_from c.sid n (stack_count p c.sid - n)) p).1
place_due c p (changes.Fork child) h = absurd h
place_due c p (changes.Lend child) h = refl
place_due c p (changes.Exec number top) h = absurd h
place_due c p (changes.Reap child) h = refl
place_due c p changes.Sleep h = refl
place_due c p (changes.End status) h = unless_due c.borrowed p c.sid

pub change_due : (images : List Image) (k : Kernel) (pid : ℕ) (regs : Regs) (e : Entry) (change : Change) → KeepsDue change
    → (change_step images k pid regs e change).place.due ≡ k.place.due
change_due images k pid regs e change h = go (numbered (λ (p : Proc). p.pid) pid k.processes)
  where
    go : (o : Option Proc) → (change_if images k regs e change o).place.due ≡ k.place.due
    go None = refl
    go (Some p) =
        place_due (changing_of images k p e) k.place change h
