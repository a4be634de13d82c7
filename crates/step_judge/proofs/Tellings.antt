-- What the last entry of a journal tells of a line of a process.
use Rattle.std.proofs.Common.{◌≡◌, ℕ, ◌-◌, true, false, List, length, slice_get, Option, Some, None, Result, Ok, Err, refl, sym, ap, ◌∙◌, subst}
use Rattle.std.specs.Prelude.{IfOk}
use Rattle.std.proofs.lemmas.Option.{same_Some}
use Rattle.vm_facts.specs.SwapImages.{SwapImage}
use Rattle.vm_facts.specs.declared.entry.Entry.{Entry}
use Rattle.vm_facts.specs.declared.entry.Entry.TheVariants as entries
use Rattle.vm_facts.specs.declared.stop.NoMemory.{NoMemory}
use Rattle.flat_state.specs.Flat.{Inputs}
use Rattle.kernel_model.specs.Kernel.{Kernel}
use Rattle.run_model.specs.State.{State}
use Rattle.proc_run.specs.Leads.{MadeAs}
use Rattle.proc_run.specs.StepUnitsRests.{is_done}
use Rattle.proc_run.specs.Stepped.{LeadsFrom}
use Rattle.paged_model.specs.declared.reason.Reason.{Reason}
use Rattle.paged_model.specs.declared.reason.Reason.TheVariants as reasons
use Rattle.paged_model.specs.Reasons.{unless}
use Rattle.paged_model.specs.Steps.{is_same, other_act}
use Rattle.paged_laws.proofs.Acted.{act_is}
use Rattle.step_judge.specs.Told.{ActTold, ActMade}

-- By whether it is the end of a transfer.

pub done_told : (pid : ℕ) (u e : Entry) → is_done e ≡ true → Some reasons.Unsettled ≡ other_act pid u (Some e)
done_told pid u entries.Done z = refl
done_told pid u _ z = absurd cc

pub other_told : (pid : ℕ) (u e : Entry) → is_done e ≡ false → unless (is_same e u) (reasons.Comes e) ≡ other_act pid u (Some e)
other_told pid u entries.Done z = absurd cc
other_told pid u _ z = refl

-- From wherever the machine may stand.

module _ (IsAt : Inputs → State → SwapImage → Type 0) (u : Entry) (pid : ℕ) (k l : Kernel) (j : Option SwapImage) where
  pub last_told : (journal : List Entry) (r : Result (Option Reason) NoMemory) → journal ≡ l.journal
      → ((made : Entry) → slice_get journal (length journal - 1) ≡ Some made → IfOk r (λ reason. reason ≡ other_act pid u (Some made)))
      → LeadsFrom IsAt (ActMade k l j pid) → IfOk r (λ reason. LeadsFrom IsAt (ActTold reason u pid k l j))
  last_told journal (Err e) same h f = tt
  last_told journal (Ok reason) same h f = λ A s image there.
      let d : ActMade k l j pid A s image = f A s image there in
      let e : reason ≡ other_act pid u (Some d.entry) =
      h d.entry (subst (λ (es : List Entry). slice_get es (length es - 1) ≡ Some d.entry) (sym same) d.last) in
      record {
        exact = e ∙ ap (other_act pid u) (sym d.acts);
        made = λ none. subst (λ (w : Entry). MadeAs A s k image w l j) (same_Some d.entry u (act_is pid u (Some d.entry) (sym e ∙ none))) d.made;
      }

-- what is so where something is told is so where nothing is
pub on_told : (P : Type 0) (r : Result (Option Reason) NoMemory) → P → IfOk r (λ reason. reason ≡ None → P)
on_told P (Err e) p = tt
on_told P (Ok reason) p = λ e. p
