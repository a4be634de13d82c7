-- A step, from what its instruction came to.
use Rattle.std.proofs.Common.{◌≡◌, ℕ, Bool, false, List, [], ◌∷◌, length, Option, Some, None, Result, Ok, Err, ℤ, refl, sym, ap, ◌∙◌}
use Rattle.vm_facts.specs.Answers.{ByteWrite}
use Rattle.vm_facts.specs.declared.entry.Entry.TheVariants.{Ran}
use Rattle.flat_state.specs.Space.{Space, answers_of, puts}
use Rattle.flat_state.specs.Flat.{Process, FlatState, NamedImage, Inputs, process_of}
use Rattle.vm_facts.specs.declared.regs.Regs.{Regs}
use Rattle.user_vax.specs.Program.{run}
use Rattle.user_vax.specs.Effects.{Effect}
use Rattle.user_vax.specs.Instruction.{answer_of, answer_of_call, registers_after, writes_of, instruction}
use Rattle.user_vax.specs.declared.refused.Refused.{Refused}
use Rattle.user_vax.specs.declared.refused.Refused.TheVariants as refusals
use Rattle.user_vax.specs.declared.stepped.Stepped.{Stepped}
use Rattle.user_vax.specs.declared.stepped.Stepped.TheVariants as steps
use Rattle.flat_model.specs.Instruction.{instruction_in}
use Rattle.flat_state.specs.Change.{apply_writes, apply_change, wrote_by, wrote_if, with_process}
use Rattle.flat_state.specs.declared.change.Change.TheVariants.{Keep}
use Rattle.flat_model.specs.declared.calls.Reply.{Reply}
use Rattle.flat_model.specs.declared.calls.Reply.TheVariants.{Writes}
use Rattle.flat_model.specs.declared.calls.SystemCall.{SystemCall}
use Rattle.flat_model.specs.Calls.{call_of, replied, or_fault, refused_reply, reply_of}
use Rattle.flat_model.specs.Step.{flat_step, step_if, step_holding, step_of, step_behind, step_with, called_step, replied_step, written_process}
use Rattle.flat_machine.specs.declared.deed.Did.TheVariants as deeds
use Rattle.flat_machine.specs.declared.deed.Deed.{Deed}
use Rattle.flat_machine.specs.Machine.{step_by, space_at, process_at, IsPlace, IsBehind}
use Rattle.flat_process.proofs.Hits.{space_hits}
use Rattle.flat_machine.proofs.Lists.{process_found}
use Rattle.flat_machine.proofs.Changing.{held, at_kept}

pub reply_same : (images : List NamedImage) (call : SystemCall) (G H : FlatState) (p q : Process) (s t : Space) (regs more : Regs) → G ≡ H → p ≡ q
    → s ≡ t → regs ≡ more
    → or_fault (run (answers_of s) (reply_of images G p s call regs)) ≡ or_fault (run (answers_of t) (reply_of images H q t call more))
reply_same images call G H p q s t regs more states processes spaces registers =
    ap (λ (x : FlatState). or_fault (run (answers_of s) (reply_of images x p s call regs))) states
    ∙ ap (λ (x : Process). or_fault (run (answers_of s) (reply_of images H x s call regs))) processes
    ∙ ap (λ (x : Space). or_fault (run (answers_of x) (reply_of images H q x call regs))) spaces
    ∙ ap (λ (x : Regs). or_fault (run (answers_of t) (reply_of images H q t call x))) registers

-- a step ends in the reply of its call
pub by_call : (images : List NamedImage) (F : FlatState) (p : Process) (s : Space) (refused : Bool) (r : Result Effect Refused) (number : ℤ) (call : SystemCall)
    (deed : Deed) (reply : Reply)
    → answer_of r ≡ steps.Call number → call_of number ≡ Some call
    → reply ≡ refused_reply refused (or_fault (run (answers_of (puts s (writes_of r)))
    (reply_of images (apply_writes F p.pid (writes_of r)) (written_process p s (writes_of r)) (puts s (writes_of r)) call (registers_after p.regs r))))
    → ((effect : Effect) → r ≡ Ok effect → step_by images F p effect.writes deed ≡ replied_step images F p call effect reply)
    → step_by images F p (writes_of r) deed ≡ step_of images F p s refused r
by_call images F p s refused (Ok effect) number call deed reply e one is does = go effect.call e
  where
    go : (o : Option ℤ) → answer_of_call o ≡ steps.Call number → step_by images F p effect.writes deed ≡ step_behind images F p s refused effect o
    go None k = absurd cc
    go (Some other) k =
        let same : other ≡ number = cc in
        let found : call_of other ≡ Some call = ap call_of same ∙ one in
        does effect refl ∙ ap (replied_step images F p call effect) is ∙ sym (ap (called_step images F p s refused effect) found)
by_call images F p s refused (Err (refusals.Miss address write)) number call deed reply e one is does = absurd cc
by_call images F p s refused (Err (refusals.Below address)) number call deed reply e one is does = absurd cc
by_call images F p s refused (Err (refusals.Signal other)) number call deed reply e one is does = absurd cc

pub instruction_hits : (s : Space) (regs : Regs) (address : ℕ) (write : Bool) → instruction_in s regs ≡ Err (refusals.Miss address write) → ⊥
instruction_hits s regs address write e = space_hits s (instruction regs) address write e

pub by_wrote : (images : List NamedImage) (F : FlatState) (p : Process) (call : SystemCall) (effect : Effect) (reply : Reply) (bytes : List ℕ) (after : Regs)
    → reply ≡ Writes bytes → after ≡ replied effect.regs false (length bytes)
    → step_by images F p effect.writes (record { did = deeds.Wrote call bytes after; regs = after; change = Keep }) ≡ replied_step images F p call effect reply
by_wrote images F p call effect reply bytes after is e =
    ap (λ (regs : Regs). step_by images F p effect.writes (record { did = deeds.Wrote call bytes regs; regs = regs; change = Keep })) e
    ∙ sym (ap (replied_step images F p call effect) is)

-- An instruction of the process at a place.

wrote_at : (F : FlatState) (place : ℕ) (writes : List ByteWrite) → IsPlace F place
    → apply_writes F (process_at F place).pid writes ≡ with_process F (written_process (process_at F place) (space_at F place) writes)
unfolding apply_writes
wrote_at F place writes at =
    ap (wrote_if F writes) (process_found F place at) ∙ ap (wrote_by F (process_at F place) writes) (held (process_at F place).holding at.holds)

pub behind_at : (F G : FlatState) (place : ℕ) (stepped : Stepped) (regs : Regs) → IsPlace F place
    → G ≡ with_process F (written_process (process_at F place) (space_at F place) (writes_of (instruction_in (space_at F place) (process_at F place).regs)))
    → stepped ≡ answer_of (instruction_in (space_at F place) (process_at F place).regs)
    → regs ≡ registers_after (process_at F place).regs (instruction_in (space_at F place) (process_at F place).regs)
    → IsBehind F (process_at F place) (space_at F place) (instruction_in (space_at F place) (process_at F place).regs) G place stepped regs
behind_at F G place stepped regs at is answer registers =
    let r = instruction_in (space_at F place) (process_at F place).regs in
    record {
      state = is ∙ sym (wrote_at F place (writes_of r) at);
      process = ap (λ (H : FlatState). process_at H place) is ∙ at_kept F place (written_process (process_at F place) (space_at F place) (writes_of r)) at refl;
      answer = answer;
      registers = registers;
      hits = instruction_hits (space_at F place) (process_at F place).regs;
    }

pub flat_at : (A : Inputs) (images : List NamedImage) (F : FlatState) (place : ℕ) (refused : Bool) → IsPlace F place → A.images ≡ images
    → flat_step A F (process_at F place).pid refused
    ≡ step_of images F (process_at F place) (space_at F place) refused (instruction_in (space_at F place) (process_at F place).regs)
unfolding flat_step
flat_at A images F place refused at same =
    ap (λ (is : List NamedImage). step_if is F refused (process_of F (process_at F place).pid)) same
    ∙ ap (step_if images F refused) (process_found F place at)
    ∙ ap (step_holding images F (process_at F place) refused) (held (process_at F place).holding at.holds)

-- the deed of the process at a place makes its step
pub step_made : (A : Inputs) (images : List NamedImage) (F : FlatState) (place : ℕ) (refused : Bool) (deed : Deed) → IsPlace F place → A.images ≡ images
    → step_by images F (process_at F place) (writes_of (instruction_in (space_at F place) (process_at F place).regs)) deed
    ≡ step_of images F (process_at F place) (space_at F place) refused (instruction_in (space_at F place) (process_at F place).regs)
    → step_by images F (process_at F place) (writes_of (instruction_in (space_at F place) (process_at F place).regs)) deed
    ≡ flat_step A F (process_at F place).pid refused
step_made A images F place refused deed at same is = is ∙ sym (flat_at A images F place refused at same)

-- the change of a deed leaves what its step does
pub step_left : (images : List NamedImage) (F G : FlatState) (p : Process) (s : Space) (r : Result Effect Refused) (place : ℕ) (stepped : Stepped)
    (regs : Regs) (deed : Deed)
    → IsBehind F p s r G place stepped regs
    → apply_change images G (process_at G place).pid deed.regs deed.change ≡ (step_by images F p (writes_of r) deed).after
step_left images F G p s r place stepped regs deed behind =
    ap (λ (q : Process). apply_change images G q.pid deed.regs deed.change) behind.process
    ∙ ap (λ (H : FlatState). apply_change images H p.pid deed.regs deed.change) behind.state

-- an instruction that was carried out, and makes no call, is the step
pub done_made : (images : List NamedImage) (F G : FlatState) (p : Process) (s : Space) (refused : Bool) (r : Result Effect Refused)
    (place : ℕ) (stepped : Stepped) (regs : Regs)
    → stepped ≡ steps.Done → IsBehind F p s r G place stepped regs
    → step_by images F p (writes_of r) (record { did = deeds.Ran; regs = regs; change = Keep }) ≡ step_of images F p s refused r
done_made images F G p s refused (Ok effect) place stepped regs is behind = go effect.call (sym behind.answer ∙ is)
  where
    go : (o : Option ℤ) → answer_of_call o ≡ steps.Done
        → step_by images F p effect.writes (record { did = deeds.Ran; regs = regs; change = Keep }) ≡ step_behind images F p s refused effect o
    go None k = ap (λ (x : Regs). step_with images F p (Ran p.pid 1 ∷ []) effect.writes x Keep) behind.registers
    go (Some number) k = absurd cc
done_made images F G p s refused (Err (refusals.Miss address write)) place stepped regs is behind = absurd (behind.hits address write refl)
done_made images F G p s refused (Err (refusals.Below address)) place stepped regs is behind = let a = behind.answer in absurd cc
done_made images F G p s refused (Err (refusals.Signal number)) place stepped regs is behind = let a = behind.answer in absurd cc
