-- The step of a process by what its call replies.
use Rattle.std.proofs.Common.{◌≡◌, ℕ, Bool, true, false, List, [], ◌∷◌, Option, Some, None, Result, Ok, refl, sym, ap, ◌∙◌, subst}
use Rattle.vm_facts.specs.SwapImages.{SwapImage}
use Rattle.io_edge.specs.FileHolding.{NamedFile}
use Rattle.vm_facts.specs.Answers.{ByteWrite}
use Rattle.vm_facts.specs.declared.regs.Regs.{Regs}
use Rattle.vm_facts.specs.declared.entry.Entry.{Entry}
use Rattle.vm_facts.specs.declared.entry.Entry.TheVariants as entries
use Rattle.user_vax.specs.Program.{run}
use Rattle.user_vax.specs.Effects.{Effect}
use Rattle.user_vax.specs.declared.refused.Refused.{Refused}
use Rattle.swap_book.specs.Holdings.{Holdings}
use Rattle.swap_book.specs.Placing.{place_all}
use Rattle.flat_state.specs.Space.{Space, answers_of, puts}
use Rattle.flat_state.specs.Flat.{Holding, Holds, Process, FlatState, Inputs, process_of}
use Rattle.flat_state.specs.Change.{apply_writes, is_borrower}
use Rattle.flat_state.specs.declared.change.Change.{Change}
use Rattle.flat_state.specs.declared.change.Change.TheVariants as changes
use Rattle.page_model.specs.Place.{facts_of}
use Rattle.kernel_model.specs.Kernel.{Kernel}
use Rattle.kernel_model.specs.Asks.{asked}
use Rattle.kernel_model.specs.ChangeStep.{change_step}
use Rattle.kernel_laws.proofs.Machine.Swaps.{found_at}
use Rattle.machine_state.specs.Machine.{Standing}
use Rattle.machine_state.specs.Applying.{facts_named}
use Rattle.machine_state.specs.UserMemory.{kernel_answers}
use Rattle.flat_model.specs.declared.calls.Reply.{Reply}
use Rattle.flat_model.specs.declared.calls.Reply.TheVariants.{Fails, Does}
use Rattle.flat_model.specs.declared.calls.SystemCall.{SystemCall}
use Rattle.flat_model.specs.Calls.{reply_of, or_fault, refused_reply, replied}
use Rattle.flat_model.specs.Step.{Step, call_entry, reply_asked, replied_step, written_process}
use Rattle.flat_model.specs.Run.{step_at, IsBetween}
use Rattle.run_laws.specs.Shown.{IsCallOf}
use Rattle.run_model.specs.State.{State}
use Rattle.run_model.specs.Act.{loses_pages, must_settle}
use Rattle.run_model.specs.Wanted.{wanted}
use Rattle.run_laws.proofs.Written.{no_writes}
use Rattle.run_units.specs.Stepping.{with_holdings, PassesNone}
use Rattle.run_units.specs.Touching.{RunsInSpace, IsAnswered, IsCalledFor}
use Rattle.run_units.proofs.Instructing.{call_ready}
use Rattle.run_units.proofs.Stepping.{call_known, none_asked}
use Rattle.run_units.proofs.Acting.{between_refused}
use Rattle.step_units.specs.Machines.{RunsOn, MakesCall}
use Rattle.step_units.specs.Stepped.{StepLeads}
use Rattle.step_units.proofs.Begun.{is_refused_by, none_lost}
use Rattle.step_units.proofs.Behind.{KeepsDue}
use Rattle.step_units.proofs.Entering.{complete_leads, enters}

-- What a call asks.

process_self : (p : Process) (x : Space) → p.holding ≡ Holds x → written_process p x [] ≡ p
process_self p x h = ap (λ (y : Holding). let q : Process = record p { holding = y } in q) (sym h)

-- where the instruction wrote nothing, the call asks of the memory as it was
pub asked_here : (A : Inputs) (s : State) (pid : ℕ) (p : Process) (x : Space) (call : SystemCall) (effect : Effect)
    → process_of s.point.flat pid ≡ Some p → p.holding ≡ Holds x
    → effect.writes ≡ [] → reply_asked A.images s.point.flat p x call effect ≡ reply_of A.images s.point.flat p x call effect.regs
asked_here A s pid p x call effect here holds w =
    let F : FlatState = s.point.flat in
    let own : process_of F p.pid ≡ Some p = ap (process_of F) (found_at F pid p here).0 ∙ here in
    ap (λ (ws : List ByteWrite). reply_of A.images (apply_writes F p.pid ws) (written_process p x ws) (puts x ws) call effect.regs) w
    ∙ ap (λ (G : FlatState). reply_of A.images G (written_process p x []) x call effect.regs) (no_writes F p.pid p x own holds)
    ∙ ap (λ (q : Process). reply_of A.images F q x call effect.regs) (process_self p x holds)

-- a call whose reads miss no byte waits for no page
pub ready : (A : Inputs) (s : State) (old : Standing) (holds : Option (List NamedFile)) (image : SwapImage) (pid : ℕ) (now : Bool) (p : Process) (x : Space)
    (effect : Effect) (call : SystemCall)
    (r : Result Reply Refused)
    → RunsOn A s old holds image pid now p x → MakesCall old p x effect call
    → run (kernel_answers old.kernel x.sid) (reply_asked A.images s.point.flat p x call effect) ≡ r → IsAnswered r → IsCalledFor A s p x call effect r
ready A s old holds image pid now p x effect call r h m e a =
    subst (IsCalledFor A s p x call effect) e
    (call_ready A s old.kernel image pid now p x effect call h.machine.at h.running m.made m.names (subst IsAnswered (sym e) a))

-- the same is so at a state with the same flat machine
pub called_on : (A : Inputs) (s t : State) (p : Process) (x : Space) (effect : Effect) (call : SystemCall) (r : Result Reply Refused)
    → t.point.flat ≡ s.point.flat → wanted A t ≡ None
    → IsCalledFor A s p x call effect r → IsCalledFor A t p x call effect r
called_on A s t p x effect call r f w h = record {
  unwanted = w;
  same = h.same;
  writes = h.writes;
  replies = ap (λ (F : FlatState). run (answers_of x) (reply_asked A.images F p x call effect)) f ∙ h.replies;
}

-- the step of the process between two steps, by what its call comes to
pub called_step : (A : Inputs) (s : State) (pid : ℕ) (now : Bool) (p : Process) (x : Space) (effect : Effect) (call : SystemCall) (r : Result Reply Refused)
    → RunsInSpace A s pid now p x → IsBetween s.point.last → IsCallOf effect call → IsCalledFor A s p x call effect r
    → step_at A s.point pid ≡ replied_step A.images s.point.flat p call effect (or_fault r)
called_step A s pid now p x effect call r i b m h =
    call_known A s pid now p x effect call r i m h
    ∙ ap (λ (z : Bool). replied_step A.images s.point.flat p call effect (refused_reply z (or_fault r))) (between_refused s.point.last pid b)

-- after the entry that says that its pieces found no place
pub refused_step : (A : Inputs) (s : State) (pid : ℕ) (now : Bool) (p : Process) (x : Space) (effect : Effect) (call : SystemCall) (r : Result Reply Refused)
    → RunsInSpace A s pid now p x → s.point.last ≡ Some (entries.Refused pid) → IsCallOf effect call → IsCalledFor A s p x call effect r
    → step_at A s.point pid ≡ replied_step A.images s.point.flat p call effect (refused_reply true (or_fault r))
refused_step A s pid now p x effect call r i l m h =
    call_known A s pid now p x effect call r i m h
    ∙ ap (λ (z : Bool). replied_step A.images s.point.flat p call effect (refused_reply z (or_fault r))) (is_refused_by s.point.last pid l)

-- Answers.

module _ (A : Inputs) (s : State) (old : Standing) (l : Kernel) (holds : Option (List NamedFile)) (image : SwapImage) (pid : ℕ) (now : Bool) (p : Process)
    (x : Space) (effect : Effect) (call : SystemCall) (r : Result Reply Refused) where
  -- A call that answers, and makes a change with which no space passes and behind which no page is due, is the step, where no space
  -- has to settle.
  pub answers_settled : (after : Regs) (change : Change) (found : Holdings) → RunsOn A s old holds image pid now p x → IsCallOf effect call
      → IsCalledFor A s p x call effect r
      → replied_step A.images s.point.flat p call effect (or_fault r) ≡ replied_step A.images s.point.flat p call effect (Does after change) → PassesNone change
      → KeepsDue change → must_settle A s pid ≡ false → place_all A.swap_blocks old.kernel.holdings (asked (facts_of A.images) old.kernel pid change) ≡ Ok found
      → l ≡ change_step (facts_named old.images) (with_holdings old.kernel found) pid after (call_entry pid call after) change
      → StepLeads A s old.kernel image 1 l (Some image)
  answers_settled after change found h m c e passes dues settles f made =
      let step : Step = replied_step A.images s.point.flat p call effect (Does after change) in
      let is : step_at A s.point pid ≡ step = called_step A s pid now p x effect call r h.running h.between m c ∙ e in
      let u : Entry = call_entry pid call after in
      complete_leads A s old.kernel l image pid u
      (enters A s old l holds image pid now p x step u found h c.unwanted settles refl is
      (ap (λ (n : ℕ). call_entry n call after ∷ []) (found_at s.point.flat pid p h.running.here).0) c.writes passes dues f made)

  -- the same where the step gives up no space and drops no page
  pub answers : (after : Regs) (change : Change) (found : Holdings)
      → RunsOn A s old holds image pid now p x → IsCallOf effect call → IsCalledFor A s p x call effect r
      → replied_step A.images s.point.flat p call effect (or_fault r) ≡ replied_step A.images s.point.flat p call effect (Does after change)
      → PassesNone change → KeepsDue change → loses_pages x (is_borrower s.point.flat.processes pid) change ≡ false
      → place_all A.swap_blocks old.kernel.holdings (asked (facts_of A.images) old.kernel pid change) ≡ Ok found
      → l ≡ change_step (facts_named old.images) (with_holdings old.kernel found) pid after (call_entry pid call after) change
      → StepLeads A s old.kernel image 1 l (Some image)
  answers after change found h m c e passes dues loses f made =
      answers_settled after change found h m c e passes dues
      (none_lost A s pid now p x (replied_step A.images s.point.flat p call effect (Does after change)) h.running (called_step A s pid now p x effect call r h.running h.between m c ∙ e) loses) f made

  -- a call that fails
  pub fails : (error : ℕ)
      → RunsOn A s old holds image pid now p x → IsCallOf effect call → IsCalledFor A s p x call effect r → or_fault r ≡ Fails error
      → l ≡ change_step (facts_named old.images) old.kernel pid (replied effect.regs true error)
      (call_entry pid call (replied effect.regs true error)) changes.Keep
      → StepLeads A s old.kernel image 1 l (Some image)
  fails error h m c e made =
      answers (replied effect.regs true error) changes.Keep old.kernel.holdings h m c
      (ap (replied_step A.images s.point.flat p call effect) e) tt tt refl (none_asked A.swap_blocks old.kernel).0 made
