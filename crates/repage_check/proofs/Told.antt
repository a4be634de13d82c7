-- What a call told of a unit, from wherever the machine may stand.
use Rattle.std.proofs.Common.{◌≡◌, ℕ, true, List, Option, Some, None, Result, Ok, Err, refl, sym, ap, ◌∙◌, subst}
use Rattle.std.specs.Prelude.{IfOk}
use Rattle.vm_facts.specs.SwapImages.{SwapImage}
use Rattle.vm_facts.specs.declared.entry.Entry.{Entry}
use Rattle.vm_facts.specs.declared.entry.Entry.TheVariants as entries
use Rattle.vm_facts.specs.declared.page.Page.{Page}
use Rattle.vm_facts.specs.declared.stop.NoMemory.{NoMemory}
use Rattle.vm_facts.specs.declared.stop.Stop.{Stop}
use Rattle.io_edge.specs.FileHolding.{NamedFile}
use Rattle.flat_state.specs.Flat.{FlatState, Inputs}
use Rattle.flat_state.specs.Journal.{instructions_of, IsUnit}
use Rattle.flat_model.specs.Run.{process_of_entry}
use Rattle.kernel_model.specs.Coupled.{SameTables}
use Rattle.kernel_model.specs.Kernel.{Proc, note_step}
use Rattle.kernel_model.specs.Stands.{OutHold}
use Rattle.kernel_model.specs.UPage.{AreRegs}
use Rattle.kernel_model.specs.Unit.{proc_of}
use Rattle.machine_state.specs.Machine.{Standing}
use Rattle.run_model.specs.State.{State}
use Rattle.run_model.specs.Wanted.{locked}
use Rattle.step_judge.specs.StepUnitsRests.{is_done}
use Rattle.step_judge.specs.Stepped.{AtSome, LeadsFrom}
use Rattle.paged_model.specs.declared.reason.Reason.{Reason}
use Rattle.paged_model.specs.Moves.{hand_reason, done_reason}
use Rattle.paged_model.specs.Leaving.{out_reason, in_reason}
use Rattle.step_judge.specs.Begun.{Begun}
use Rattle.step_judge.specs.Judged.{Judged, JudgedThrough}
use Rattle.step_judge.specs.Over.{JudgedOver}
use Rattle.step_judge.specs.Leaving.{JudgedOut, JudgedIn}
use Rattle.step_judge.specs.At.{JudgedAt}
use Rattle.step_judge.specs.Told.{StepTold, GoesOnWith}
use Rattle.repage_check.specs.declared.past.Past.{Past}
use Rattle.repage_check.specs.Past.{PastAt}
use Rattle.repage_check.specs.Units.{IsMarkNote, IsFill, IsOthers, IsUnmoved, note_reason, fill_reason, begun_reason, IsTableOf, UnitTold}
use Rattle.repage_check.proofs.Judgings.{begun_told, note_told, fill_told, end_told, out_told, in_told, move_told, step_told}

-- Kinds.

pub none_begun : (b : Option Begun) → begun_reason b ≡ None → b ≡ None
none_begun None e = refl
none_begun (Some b) e = absurd cc

pub is_end : (u : Entry) → is_done u ≡ true → u ≡ entries.Done
is_end entries.Done e = refl
is_end _ e = absurd cc

-- a unit of no process, but a move of the hands
pub others : (u : Entry) → IsUnmoved u → process_of_entry u ≡ None → IsOthers u
others (entries.Hands n) k e = absurd k
others (entries.Event line) k e = refl
others (entries.Turn pid) k e = refl
others (entries.Owners f v m h) k e = refl
others (entries.SwapOut pid) k e = refl
others (entries.SwapIn pid) k e = refl
others (entries.Zero q) k e = refl
others (entries.Get q lo n) k e = refl
others (entries.Copy q) k e = refl
others (entries.Reclaim q) k e = refl
others (entries.Put q n) k e = refl
others entries.Done k e = refl
others (entries.Ran p n) k e = absurd cc
others (entries.Out p bytes) k e = absurd cc
others (entries.Grew p n) k e = absurd cc
others (entries.Call p n c r0 r1) k e = absurd cc
others (entries.Refused p) k e = absurd cc
others (entries.Sleeps p) k e = absurd cc
others (entries.Ended p n) k e = absurd cc

-- one that is none of the other kinds takes or leaves frames
pub fills : (u : Entry) → IsOthers u → ((line : ℕ) → u ≡ entries.Event line → ⊥) → ((pid : ℕ) → u ≡ entries.Turn pid → ⊥)
    → ((f v m h : ℕ) → u ≡ entries.Owners f v m h → ⊥) → (u ≡ entries.Done → ⊥) → ((pid : ℕ) → u ≡ entries.SwapOut pid → ⊥)
    → ((pid : ℕ) → u ≡ entries.SwapIn pid → ⊥) → IsFill u
fills (entries.Zero q) k e t o d out in_ = tt
fills (entries.Get q lo n) k e t o d out in_ = tt
fills (entries.Copy q) k e t o d out in_ = tt
fills (entries.Reclaim q) k e t o d out in_ = tt
fills (entries.Put q n) k e t o d out in_ = tt
fills (entries.Event line) k e t o d out in_ = absurd (e line refl)
fills (entries.Turn pid) k e t o d out in_ = absurd (t pid refl)
fills (entries.Owners f v m h) k e t o d out in_ = absurd (o f v m h refl)
fills entries.Done k e t o d out in_ = absurd (d refl)
fills (entries.SwapOut pid) k e t o d out in_ = absurd (out pid refl)
fills (entries.SwapIn pid) k e t o d out in_ = absurd (in_ pid refl)
fills (entries.Hands n) k e t o d out in_ = absurd k
fills (entries.Ran p n) k e t o d out in_ = absurd cc
fills (entries.Out p bytes) k e t o d out in_ = absurd cc
fills (entries.Grew p n) k e t o d out in_ = absurd cc
fills (entries.Call p n c r0 r1) k e t o d out in_ = absurd cc
fills (entries.Refused p) k e t o d out in_ = absurd cc
fills (entries.Sleeps p) k e t o d out in_ = absurd cc
fills (entries.Ended p n) k e t o d out in_ = absurd cc

-- Where the machine stands.

module _ (p : Past) (m : Standing) (holds : Option (List NamedFile)) (i : Option SwapImage) where
  pub some_judged : AtSome (PastAt p m holds i) → AtSome (JudgedAt m p.counted p.begun holds i)
  some_judged (A, s, image, at) = (A, s, image, at.judged)

  -- the journal counts as many instructions as are counted
  pub some_counted : AtSome (PastAt p m holds i) → instructions_of m.kernel.journal ≡ p.counted
  some_counted (A, s, image, at) =
      let x : JudgedAt m p.counted p.begun holds i A s image = at.judged in ap instructions_of x.stands.journal ∙ at.counts ∙ x.count

-- What was told.

module _ (p : Past) (old new : Standing) (holds : Option (List NamedFile)) (i j : Option SwapImage) where
  pub begun_call : (reason : Reason) (u : Entry) → begun_reason p.begun ≡ Some reason → IsOthers u → (u ≡ entries.Done → ⊥)
      → LeadsFrom (PastAt p old holds i) (UnitTold (Some reason) u p old new holds j)
  begun_call reason u b k d A s image at = begun_told p old new holds i j A s image at reason u b k d

  pub note_call : (r : Result (Option Reason) NoMemory) (u : Entry) → p.begun ≡ None → IsMarkNote u → j ≡ i
      → IfOk r (λ reason. (A : Inputs) (s : State) → IsTableOf old.kernel p s → reason ≡ note_reason A s u)
      → IfOk r (λ reason. reason ≡ None → new.kernel ≡ note_step old.kernel u) → IfOk r (λ reason. reason ≡ None → GoesOnWith old new)
      → IfOk r (λ reason. LeadsFrom (PastAt p old holds i) (UnitTold reason u p old new holds j))
  note_call (Err x) u clear note same e made on = tt
  note_call (Ok reason) u clear note same e made on = λ A s image at. note_told p old new holds i j A s image at reason u clear note same e made on

  pub fill_call : (r : Result (Option Reason) NoMemory) (u : Entry) → p.begun ≡ None → IsFill u → j ≡ i
      → ((F : FlatState) → SameTables old.kernel F → IfOk r (λ reason. reason ≡ fill_reason F old.kernel.place u))
      → IfOk r (Judged u old new) → IfOk r (λ reason. reason ≡ None → GoesOnWith old new)
      → IfOk r (λ reason. LeadsFrom (PastAt p old holds i) (UnitTold reason u p old new holds j))
  fill_call (Err x) u clear fill same e made on = tt
  fill_call (Ok reason) u clear fill same e made on = λ A s image at. fill_told p old new holds i j A s image at reason u clear fill same e made on

  pub end_call : (r : Result (Option Reason) NoMemory) (u : Entry) → u ≡ entries.Done
      → IfOk r (λ reason. reason ≡ done_reason old.kernel.place.transfers)
      → IfOk r (JudgedThrough entries.Done holds i j old new) → IfOk r (λ reason. reason ≡ None → GoesOnWith old new)
      → IfOk r (λ reason. LeadsFrom (PastAt p old holds i) (UnitTold reason u p old new holds j))
  end_call (Err x) u is e made on = tt
  end_call (Ok reason) u is e made on = λ A s image at.
      subst (λ (w : Entry). UnitTold reason w p old new holds j A s image) (sym is) (end_told p old new holds i j A s image at reason e made on)

  pub out_call : (r : Result (Option Reason) NoMemory) (u : Entry) (pid : ℕ) → u ≡ entries.SwapOut pid → p.begun ≡ None
      → ((F : FlatState) → SameTables old.kernel F → IfOk r (λ reason. reason ≡ out_reason F old.kernel.place pid))
      → IfOk r (JudgedOut pid i j old new) → ((q : Proc) → proc_of old.kernel pid ≡ Some q → AreRegs q.regs)
      → IfOk r (λ reason. reason ≡ None → GoesOnWith old new)
      → IfOk r (λ reason. LeadsFrom (PastAt p old holds i) (UnitTold reason u p old new holds j))
  out_call (Err x) u pid is clear e made regs on = tt
  out_call (Ok reason) u pid is clear e made regs on = λ A s image at.
      subst (λ (w : Entry). UnitTold reason w p old new holds j A s image) (sym is) (out_told p old new holds i j A s image at reason pid clear e made regs on)

  pub in_call : (r : Result (Option Reason) NoMemory) (u : Entry) (pid : ℕ) → u ≡ entries.SwapIn pid → p.begun ≡ None
      → ((F : FlatState) → SameTables old.kernel F → OutHold old.kernel.place F → IfOk r (λ reason. reason ≡ in_reason F old.kernel.place pid))
      → IfOk r (JudgedIn pid i j old new) → IfOk r (λ reason. reason ≡ None → GoesOnWith old new)
      → IfOk r (λ reason. LeadsFrom (PastAt p old holds i) (UnitTold reason u p old new holds j))
  in_call (Err x) u pid is clear e made on = tt
  in_call (Ok reason) u pid is clear e made on = λ A s image at.
      subst (λ (w : Entry). UnitTold reason w p old new holds j A s image) (sym is) (in_told p old new holds i j A s image at reason pid clear e made on)

  pub step_call : (r : Result (Option Reason) NoMemory) (u : Entry) (pid : ℕ) → IsUnit u → process_of_entry u ≡ Some pid
      → IfOk r (λ reason. LeadsFrom (JudgedAt old p.counted p.begun holds i) (StepTold reason u pid old.kernel new.kernel j))
      → IfOk r (λ reason. reason ≡ None → GoesOnWith old new)
      → IfOk r (λ reason. LeadsFrom (PastAt p old holds i) (UnitTold reason u p old new holds j))
  step_call (Err x) u pid unit own told on = tt
  step_call (Ok reason) u pid unit own told on = λ A s image at.
      step_told p old new holds i j A s image at reason u pid unit own (told A s image at.judged) on

-- of a move of the hands
module _ (p : Past) (old new : Standing) (holds : Option (List NamedFile)) (i : Option SwapImage) (A : Inputs) (s : State) (image : SwapImage)
    (at : PastAt p old holds i A s image) where
  pub move_call : (r : Result (Option Reason) NoMemory) (pages : List Page) → p.begun ≡ None → pages ≡ locked A s
      → IfOk r (λ reason. reason ≡ hand_reason old.kernel.place pages)
      → IfOk r (JudgedOver pages (entries.Hands 1) old new) → IfOk r (λ reason. reason ≡ None → GoesOnWith old new)
      → IfOk r (λ reason. UnitTold reason (entries.Hands 1) p old new holds i A s image)
  move_call (Err x) pages clear same e made on = tt
  move_call (Ok reason) pages clear same e made on = move_told p old new holds i i A s image at reason pages clear same refl e made on

-- What was judged, or want of memory.

-- what is so of all that is judged is so of it
pub or_told : (P : Option Reason → Type 0) (r : Result (Option Reason) NoMemory) (judged : Result (Option Reason) Stop)
    → IfOk r (λ reason. judged ≡ Ok reason) → IfOk judged P → IfOk r P
or_told P (Err x) judged e h = tt
or_told P (Ok reason) judged e h = subst (λ (y : Result (Option Reason) Stop). IfOk y P) e h
