-- Each process has a number of its own, and so has each space, below the next ones.
use Rattle.std.proofs.Common.{◌≡◌, ℕ, Bool, true, false, List, [], Option, Some, None, Result, Ok, Err, ℤ, refl, sym, ap, ◌∙◌, subst}
use Rattle.kernel_laws.proofs.Stands.Starts.{start_numbered}
use Rattle.vm_facts.specs.Answers.{ByteWrite}
use Rattle.flat_state.specs.Space.{Space, answers_of, puts}
use Rattle.flat_state.specs.Flat.{Holding, Holds, Lends, Zombie, Process, FlatState, NamedImage, Inputs, process_of}
use Rattle.vm_facts.specs.declared.entry.Entry.{Entry}
use Rattle.vm_facts.specs.declared.regs.Regs.{Regs}
use Rattle.user_vax.specs.Effects.{Effect}
use Rattle.user_vax.specs.declared.refused.Refused.{Refused as Refusal}
use Rattle.user_vax.specs.declared.refused.Refused.TheVariants.{Miss, Below, Signal}
use Rattle.flat_state.specs.Change.{changed_by, changed_if, apply_change, apply_writes, wrote_by, wrote_if, NamesChild}
use Rattle.flat_state.specs.Numbers.{AllDistinct, IsNumbered}
use Rattle.kernel_laws.proofs.Flat.Numbers.{writes_numbered, changes_numbered}
use Rattle.flat_state.specs.declared.change.Change.{Change}
use Rattle.flat_state.specs.declared.change.Change.TheVariants.{Keep, Sleep, End}
use Rattle.flat_model.specs.declared.calls.Reply.{Reply}
use Rattle.flat_model.specs.declared.calls.Reply.TheVariants as replies
use Rattle.flat_model.specs.declared.calls.SystemCall.{SystemCall}
use Rattle.flat_model.specs.Calls.{call_of}
use Rattle.flat_model.specs.Instruction.{instruction_in}
use Rattle.flat_model.specs.Step.{step_of, step_behind, called_step, replied_step, step_holding, step_if, flat_step, written_process, reply_behind}
use Rattle.flat_model.specs.Run.{Point, flat_run}
use Rattle.flat_model.proofs.Coming.{run_keeps}
use Rattle.flat_laws.proofs.Finding.{pids}
use Rattle.flat_laws.proofs.Replies.{ReplyFits, reply_fits}
use Rattle.flat_laws.proofs.Others.{pids_written}

applied : (images : List NamedImage) (F : FlatState) (of : ℕ) (regs : Regs) (change : Change)
    → apply_change images F of regs change ≡ changed_if images F regs change (process_of F of)
unfolding apply_change
applied images F of regs change = refl

change_kept : (images : List NamedImage) (F : FlatState) (of : ℕ) (regs : Regs) (change : Change) → NamesChild F change → IsNumbered F
    → IsNumbered (apply_change images F of regs change)
change_kept images F of regs change fits h = go (process_of F of) refl
  where
    is : (o : Option Process) → process_of F of ≡ o → apply_change images F of regs change ≡ changed_if images F regs change o
    is o here = applied images F of regs change ∙ ap (changed_if images F regs change) here

    by : (p : Process) → process_of F of ≡ Some p → (held : Holding) → p.holding ≡ held → IsNumbered (apply_change images F of regs change)
    by p here (Holds t) holds = changes_numbered images F of regs change p t here holds fits h
    by p here (Lends sid child) holds = subst (λ (G : FlatState). IsNumbered G) (sym (is (Some p) here ∙ ap (changed_by images F (record p { regs = regs }) change) holds)) h
    by p here (Zombie status) holds = subst (λ (G : FlatState). IsNumbered G) (sym (is (Some p) here ∙ ap (changed_by images F (record p { regs = regs }) change) holds)) h

    go : (o : Option Process) → process_of F of ≡ o → IsNumbered (apply_change images F of regs change)
    go None here = subst (λ (G : FlatState). IsNumbered G) (sym (is None here)) h
    go (Some p) here = by p here p.holding refl

wrote : (F : FlatState) (of : ℕ) (ws : List ByteWrite) → apply_writes F of ws ≡ wrote_if F ws (process_of F of)
unfolding apply_writes
wrote F of ws = refl

writes_kept : (F : FlatState) (of : ℕ) (ws : List ByteWrite) → IsNumbered F → IsNumbered (apply_writes F of ws)
writes_kept F of ws h = go (process_of F of) refl
  where
    is : (o : Option Process) → process_of F of ≡ o → apply_writes F of ws ≡ wrote_if F ws o
    is o here = wrote F of ws ∙ ap (wrote_if F ws) here

    by : (p : Process) → process_of F of ≡ Some p → (held : Holding) → p.holding ≡ held → IsNumbered (apply_writes F of ws)
    by p here (Holds t) holds = writes_numbered F of ws p t here holds h
    by p here (Lends sid child) holds = subst (λ (G : FlatState). IsNumbered G) (sym (is (Some p) here ∙ ap (wrote_by F p ws) holds)) h
    by p here (Zombie status) holds = subst (λ (G : FlatState). IsNumbered G) (sym (is (Some p) here ∙ ap (wrote_by F p ws) holds)) h

    go : (o : Option Process) → process_of F of ≡ o → IsNumbered (apply_writes F of ws)
    go None here = subst (λ (G : FlatState). IsNumbered G) (sym (is None here)) h
    go (Some p) here = by p here p.holding refl

-- Steps.

module _ (images : List NamedImage) (F : FlatState) (p : Process) where
  after_kept : (ws : List ByteWrite) (regs : Regs) (change : Change) → NamesChild (apply_writes F p.pid ws) change → IsNumbered F
      → IsNumbered (apply_change images (apply_writes F p.pid ws) p.pid regs change)
  after_kept ws regs change fits h = change_kept images (apply_writes F p.pid ws) p.pid regs change fits (writes_kept F p.pid ws h)

  replied_kept : (call : SystemCall) (effect : Effect) (reply : Reply) → ReplyFits (apply_writes F p.pid effect.writes) reply → IsNumbered F
      → IsNumbered (replied_step images F p call effect reply).after
  replied_kept call effect (replies.Does regs change) fits h = after_kept effect.writes regs change fits h
  replied_kept call effect replies.Waits fits h = after_kept effect.writes p.regs Sleep tt h
  replied_kept call effect (replies.Exits status) fits h = after_kept effect.writes p.regs (End status) tt h
  replied_kept call effect _ fits h = after_kept effect.writes _ Keep tt h

  called_kept : (t : Space) (refused : Bool) (effect : Effect) (call : Option SystemCall)
      → IsNumbered F → IsNumbered (called_step images F p t refused effect call).after
  called_kept t refused effect None h = after_kept effect.writes p.regs (End 12) tt h
  called_kept t refused effect (Some call) h =
      replied_kept call effect (reply_behind images F p t refused call effect)
      (reply_fits images (apply_writes F p.pid effect.writes) (answers_of (puts t effect.writes)) (written_process p t effect.writes) (puts t effect.writes) call effect.regs refused
      (subst (λ (ns : List ℕ). AllDistinct ns) (sym (pids_written F p.pid effect.writes)) h.pids))
      h

  behind_kept : (t : Space) (refused : Bool) (effect : Effect) (number : Option ℤ)
      → IsNumbered F → IsNumbered (step_behind images F p t refused effect number).after
  behind_kept t refused effect None h = after_kept effect.writes effect.regs Keep tt h
  behind_kept t refused effect (Some number) h = called_kept t refused effect (call_of number) h

  of_kept : (t : Space) (refused : Bool) (result : Result Effect Refusal) → IsNumbered F → IsNumbered (step_of images F p t refused result).after
  of_kept t refused (Ok effect) h = behind_kept t refused effect effect.call h
  of_kept t refused (Err (Miss a w)) h = h
  of_kept t true (Err (Below a)) h = after_kept [] p.regs (End 11) tt h
  of_kept t false (Err (Below a)) h = after_kept [] p.regs _ tt h
  of_kept t refused (Err (Signal n)) h = after_kept [] p.regs (End n) tt h

pub step_numbered : (A : Inputs) (F : FlatState) (of : ℕ) (refused : Bool) → IsNumbered F → IsNumbered (flat_step A F of refused).after
unfolding flat_step
step_numbered A F of refused h = go (process_of F of)
  where
    by : (p : Process) (held : Holding) → IsNumbered (step_holding A.images F p refused held).after
    by p (Holds t) = of_kept A.images F p t refused (instruction_in t p.regs) h
    by p (Lends sid child) = h
    by p (Zombie status) = h

    go : (o : Option Process) → IsNumbered (step_if A.images F refused o).after
    go None = h
    go (Some p) = by p p.holding

-- The start.

-- Runs.

pub run_numbered : (A : Inputs) (journal : List Entry) (point : Point) → flat_run A journal ≡ Some point → IsNumbered point.flat
run_numbered A journal point h = run_keeps IsNumbered A journal point (λ F pid refused k. step_numbered A F pid refused k) (start_numbered A) h
