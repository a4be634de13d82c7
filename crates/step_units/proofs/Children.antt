-- What a call comes to with which a process makes another.
use Rattle.std.proofs.Common.{◌≡◌, ℕ, nat_lt, Bool, true, false, List, [], Option, refl, sym, ap, ◌∙◌}
use Rattle.std.specs.Prelude.{Result, Ok}
use Rattle.vm_facts.specs.SwapImages.{SwapImage}
use Rattle.io_edge.specs.FileHolding.{NamedFile}
use Rattle.vm_facts.specs.Answers.{Answers}
use Rattle.vm_facts.specs.declared.regs.Regs.{Regs}
use Rattle.user_vax.specs.Program.{Gives, run}
use Rattle.user_vax.specs.Effects.{Effect}
use Rattle.user_vax.specs.declared.refused.Refused.{Refused}
use Rattle.flat_state.specs.Space.{Space}
use Rattle.flat_state.specs.Flat.{Process, FlatState, NamedImage, Inputs}
use Rattle.flat_state.specs.declared.change.Change.{Change}
use Rattle.flat_state.specs.declared.change.Change.TheVariants as changes
use Rattle.flat_model.specs.Calls.{process_limit, child_by, child_reply, reply_of, wants_space}
use Rattle.flat_model.specs.declared.calls.Reply.{Reply}
use Rattle.flat_model.specs.declared.calls.SystemCall.{SystemCall}
use Rattle.flat_model.specs.declared.calls.SystemCall.TheVariants as system_calls
use Rattle.flat_model.specs.Step.{reply_asked}
use Rattle.kernel_model.specs.Kernel.{Kernel}
use Rattle.kernel_model.specs.Coupled.{SameTables}
use Rattle.machine_state.specs.Machine.{Standing}
use Rattle.machine_state.specs.UserMemory.{kernel_answers}
use Rattle.proc_calls.specs.Making.{is_below_limit}
use Rattle.run_model.specs.State.{State}
use Rattle.run_model.specs.Act.{loses_pages}
use Rattle.run_units.specs.Touching.{IsCalledFor}
use Rattle.run_units.proofs.Calling.{calls_write_none}
use Rattle.step_units.specs.Machines.{RunsOn, MakesCall}
use Rattle.step_units.proofs.Tables.{as_many}
use Rattle.step_units.proofs.Replying.{asked_here, ready}

-- a call that asks for a child, with this change by the child's number
pub record AsksChild (call : SystemCall) (change : ℕ → Change) : Type 0 where
  pub replies : (images : List NamedImage) (F : FlatState) (p : Process) (x : Space) (regs : Regs)
      → reply_of images F p x call regs ≡ Gives (child_reply F regs (change F.next_pid))
  pub wants : (child : ℕ) → wants_space (change child) ≡ true
  pub keeps : (x : Space) (borrowed : Bool) (child : ℕ) → loses_pages x borrowed (change child) ≡ false

pub fork_asks : AsksChild system_calls.Fork (λ child. changes.Fork child)
unfolding reply_of
fork_asks = record { replies = λ images F p x regs. refl; wants = λ child. refl; keeps = λ x borrowed child. refl }

pub vfork_asks : AsksChild system_calls.Vfork (λ child. changes.Lend child)
unfolding reply_of
vfork_asks = record { replies = λ images F p x regs. refl; wants = λ child. refl; keeps = λ x borrowed child. refl }

-- the reply, by what the kernel says
abbrev pub child_told : Kernel → Regs → (ℕ → Change) → Reply
child_told k regs change = child_by (is_below_limit k) regs k.next_pid (change k.next_pid)

reply_told : (k : Kernel) (F : FlatState) (regs : Regs) (change : ℕ → Change) → SameTables k F
    → child_reply F regs (change F.next_pid) ≡ child_told k regs change
reply_told k F regs change t =
    ap (λ (n : ℕ). child_by (nat_lt n process_limit) regs F.next_pid (change F.next_pid)) (sym (as_many k F t))
    ∙ ap (λ (n : ℕ). child_by (is_below_limit k) regs n (change n)) (sym t.next_pid)

-- the process waits for no page, and its call comes to that
pub child_called : (A : Inputs) (s : State) (old : Standing) (holds : Option (List NamedFile)) (image : SwapImage) (pid : ℕ) (now : Bool) (p : Process)
    (x : Space)
    (effect : Effect) (call : SystemCall)
    (change : ℕ → Change)
    → AsksChild call change → RunsOn A s old holds image pid now p x → MakesCall old p x effect call
    → IsCalledFor A s p x call effect (Ok (child_told old.kernel effect.regs change))
child_called A s old holds image pid now p x effect call change asks h m =
    let F : FlatState = s.point.flat in
    let memory : Answers = kernel_answers old.kernel x.sid in
    let quiet : effect.writes ≡ [] = calls_write_none memory p.regs effect m.names.number m.made m.names.is_number in
    let is : run memory (reply_asked A.images F p x call effect) ≡ Ok (child_told old.kernel effect.regs change) =
    ap (run memory) (asked_here A s pid p x call effect h.running.here h.running.holds quiet) ∙ ap (run memory) (asks.replies A.images F p x effect.regs)
    ∙ ap (λ (z : Reply). let o : Result Reply Refused = Ok z in o) (reply_told old.kernel F effect.regs change h.machine.at.stands.keeps.coupled.tables) in
    ready A s old holds image pid now p x effect call (Ok (child_told old.kernel effect.regs change)) h m is tt
