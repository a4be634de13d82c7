-- A wait that finds no child that has ended: the process sleeps, and nothing more is to come of its mark.
use Rattle.std.proofs.Common.{◌≡◌, ℕ, ◌+◌, ◌&&◌, not, nat_lt, Bool, true, false, List, [], ◌∷◌, Option, Some, None, Result, refl, sym, ap, ◌∙◌, subst}
use Rattle.vm_facts.specs.SwapImages.{SwapImage}
use Rattle.io_edge.specs.FileHolding.{NamedFile}
use Rattle.vm_facts.specs.Answers.{ByteWrite}
use Rattle.vm_facts.specs.declared.regs.Regs.{Regs}
use Rattle.vm_facts.specs.declared.entry.Entry.{Entry}
use Rattle.vm_facts.specs.declared.entry.Entry.TheVariants as entries
use Rattle.user_vax.specs.Effects.{Effect}
use Rattle.user_vax.specs.declared.refused.Refused.{Refused}
use Rattle.flat_state.specs.Space.{Space}
use Rattle.flat_state.specs.Flat.{Holds, Process, FlatState, Inputs, process_of, can_step, ready_if}
use Rattle.flat_state.specs.Change.{with_process, apply_writes, apply_change}
use Rattle.flat_state.specs.declared.change.Change.TheVariants as changes
use Rattle.kernel_model.specs.Kernel.{Kernel}
use Rattle.kernel_model.specs.ChangeStep.{change_step}
use Rattle.kernel_laws.proofs.Machine.Swaps.{applied, found_at}
use Rattle.run_laws.proofs.Finding.{found_after}
use Rattle.machine_state.specs.Machine.{Standing}
use Rattle.machine_state.specs.Applying.{facts_named}
use Rattle.proc_calls.specs.Callers.{regs_of}
use Rattle.flat_model.specs.declared.calls.Reply.{Reply}
use Rattle.flat_model.specs.declared.calls.Reply.TheVariants.{Waits}
use Rattle.flat_model.specs.declared.calls.SystemCall.{SystemCall}
use Rattle.flat_model.specs.Calls.{or_fault}
use Rattle.flat_model.specs.Step.{Step, replied_step}
use Rattle.flat_model.specs.Run.{step_at}
use Rattle.page_model.specs.Swapper.{is_out}
use Rattle.run_model.specs.declared.mark.Mark.{Mark}
use Rattle.run_model.specs.declared.mark.Mark.TheVariants as marks
use Rattle.run_laws.specs.Shown.{IsCallOf}
use Rattle.run_model.specs.State.{State}
use Rattle.run_model.specs.After.{after}
use Rattle.run_model.specs.Next.{when, turn_instructions, turn_unit, work, under}
use Rattle.run_model.specs.Kinds.{GoesOn}
use Rattle.run_laws.proofs.Written.{no_writes}
use Rattle.run_units.specs.Touching.{IsCalledFor}
use Rattle.run_units.proofs.Stepping.{none_asked}
use Rattle.step_units.specs.Machines.{RunsOn}
use Rattle.step_units.specs.Stepped.{MarkEnds}
use Rattle.step_units.proofs.Begun.{none_lost}
use Rattle.step_units.proofs.Tables.{is_kept, regs_is}
use Rattle.step_units.proofs.Entering.{IsComplete, complete_leads, enters}
use Rattle.step_units.proofs.Replying.{called_step}

-- where the process can't step, nothing more is to come of a mark under which it ran
over_by : (A : Inputs) (s t : State) (m : Mark) (pid : ℕ) (now : Bool) → GoesOn A s m pid now → can_step t.point.flat pid ≡ false → under A t m ≡ None
over_by A s t (marks.Dispatch q count since) pid false g c =
    ap (λ (n : ℕ). under A t (marks.Dispatch n count since)) g.0
    ∙ ap (λ (b : Bool). when ((b && (nat_lt t.count A.limit && nat_lt t.count (since + count))) && not (is_out t.place pid)) (work A t pid false)) c
over_by A s t (marks.Turn q since) pid true g c =
    ap (λ (n : ℕ). under A t (marks.Turn n since)) g.0
    ∙ ap (λ (b : Bool). when (b && (nat_lt t.count A.limit && nat_lt t.count (since + turn_instructions))) (turn_unit A t pid)) c
over_by A s t _ pid now g c = absurd g

pub mark_over : (A : Inputs) (s t : State) (pid : ℕ) (now : Bool) → GoesOn A s s.mark pid now → t.mark ≡ s.mark → can_step t.point.flat pid ≡ false
    → under A t t.mark ≡ None
mark_over A s t pid now g m c = subst (λ (x : Mark). under A t x ≡ None) (sym m) (over_by A s t s.mark pid now g c)

-- who fell asleep can't step
asleep : (A : Inputs) (F : FlatState) (pid : ℕ) (p : Process) (x : Space) (effect : Effect) → process_of F pid ≡ Some p → p.holding ≡ Holds x
    → effect.writes ≡ []
    → can_step (apply_change A.images (apply_writes F p.pid effect.writes) p.pid p.regs changes.Sleep) pid ≡ false
asleep A F pid p x effect here holds w =
    let number : p.pid ≡ pid = (found_at F pid p here).0 in
    let own : process_of F p.pid ≡ Some p = ap (process_of F) number ∙ here in
    let q : Process = record p { asleep = true } in
    let slept : apply_change A.images (apply_writes F p.pid effect.writes) p.pid p.regs changes.Sleep ≡ with_process F q =
    ap (λ (ws : List ByteWrite). apply_change A.images (apply_writes F p.pid ws) p.pid p.regs changes.Sleep) w
    ∙ ap (λ (G : FlatState). apply_change A.images G p.pid p.regs changes.Sleep) (no_writes F p.pid p x own holds)
    ∙ applied A.images F p.pid p.regs changes.Sleep p x own holds in
    ap (λ (G : FlatState). can_step G pid) slept ∙ ap ready_if (found_after F pid p q here number)

pub sleeps : (A : Inputs) (s : State) (old : Standing) (l : Kernel) (holds : Option (List NamedFile)) (image : SwapImage) (pid : ℕ) (now : Bool) (p : Process)
    (x : Space) (effect : Effect)
    (call : SystemCall)
    (r : Result Reply Refused)
    → RunsOn A s old holds image pid now p x → IsCallOf effect call → IsCalledFor A s p x call effect r → or_fault r ≡ Waits
    → l ≡ change_step (facts_named old.images) old.kernel pid (regs_of old.kernel pid) (entries.Sleeps pid) changes.Sleep
    → MarkEnds A s old.kernel image l (Some image)
sleeps A s old l holds image pid now p x effect call r h m c e made =
    let F : FlatState = s.point.flat in
    let step : Step = replied_step A.images F p call effect Waits in
    let is : step_at A s.point pid ≡ step = called_step A s pid now p x effect call r h.running h.between m c ∙ ap (replied_step A.images F p call effect) e in
    let u : Entry = entries.Sleeps pid in
    let regs : regs_of old.kernel pid ≡ p.regs = regs_is old.kernel pid p x (is_kept A s old.kernel image pid now p x h.machine.at h.running) in
    let whole : IsComplete A s old.kernel l image pid u =
    enters A s old l holds image pid now p x step u old.kernel.holdings h c.unwanted (none_lost A s pid now p x step h.running is refl) refl is
    (ap (λ (n : ℕ). entries.Sleeps n ∷ []) (found_at F pid p h.running.here).0) c.writes tt tt (none_asked A.swap_blocks old.kernel).0
    (made ∙ ap (λ (g : Regs). change_step (facts_named old.images) old.kernel pid g u changes.Sleep) regs) in
    let flat : (after A s u).point.flat ≡ step.after = whole.ends.flat ∙ ap (λ (z : Step). z.after) is in
    record {
      led = complete_leads A s old.kernel l image pid u whole;
      over = mark_over A s (after A s u) pid now h.running.runs.on whole.ends.mark
          (ap (λ (G : FlatState). can_step G pid) flat ∙ asleep A F pid p x effect h.running.here h.running.holds c.writes);
    }
