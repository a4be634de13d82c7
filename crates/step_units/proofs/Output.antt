-- A write: its bytes go out, and then the call answers.
use Rattle.std.proofs.Common.{◌≡◌, ℕ, ◌==◌, Bool, true, false, cond, List, [], ◌∷◌, map, length, Option, Some, None, Result, refl, sym, ap, ◌∙◌, subst}
use Rattle.std.proofs.lemmas.Bool.{ne_eqb}
use Rattle.std.proofs.lemmas.Option.{same_Some}
use Rattle.vm_facts.specs.SwapImages.{SwapImage}
use Rattle.io_edge.specs.FileHolding.{NamedFile}
use Rattle.vm_facts.specs.declared.regs.Regs.{Regs}
use Rattle.vm_facts.specs.declared.entry.Entry.{Entry}
use Rattle.vm_facts.specs.declared.entry.Entry.TheVariants as entries
use Rattle.aout_image.specs.declared.Image.{Image}
use Rattle.user_vax.specs.Effects.{Effect}
use Rattle.user_vax.specs.declared.refused.Refused.{Refused}
use Rattle.flat_state.specs.Space.{Space}
use Rattle.flat_state.specs.Flat.{Process, FlatState, Inputs}
use Rattle.flat_state.specs.Journal.{append}
use Rattle.flat_state.specs.Numbers.{IsAbsent, AllDistinct}
use Rattle.flat_state.specs.declared.change.Change.TheVariants as changes
use Rattle.page_model.specs.Pages.{numbered}
use Rattle.kernel_model.specs.Kernel.{Kernel, Proc, note_step}
use Rattle.kernel_model.specs.ChangeStep.{with_proc, change_if, change_step}
use Rattle.kernel_model.specs.Coupled.{Outline}
use Rattle.kernel_laws.proofs.Machine.Swaps.{found_at}
use Rattle.machine_state.specs.Machine.{Standing}
use Rattle.machine_state.specs.Files.{AreRunImages}
use Rattle.machine_state.specs.Sourced.{ImageNamed}
use Rattle.machine_state.specs.Applying.{facts_named}
use Rattle.proc_calls.specs.Callers.{regs_of, regs_by}
use Rattle.proc_calls.specs.Answered.{Entered, Written}
use Rattle.flat_model.specs.declared.calls.Reply.{Reply}
use Rattle.flat_model.specs.declared.calls.Reply.TheVariants.{Writes}
use Rattle.flat_model.specs.declared.calls.SystemCall.{SystemCall}
use Rattle.flat_model.specs.Calls.{or_fault, replied}
use Rattle.flat_model.specs.Step.{Step, flat_step, call_entry, replied_step}
use Rattle.flat_model.specs.Run.{step_at, is_refused, due, due_at}
use Rattle.run_laws.specs.Shown.{IsCallOf}
use Rattle.run_model.specs.State.{State}
use Rattle.run_model.specs.Wanted.{wanted}
use Rattle.run_model.specs.After.{after}
use Rattle.run_model.specs.Act.{act}
use Rattle.run_units.specs.Leads.{Leads}
use Rattle.run_units.specs.Serving.{At}
use Rattle.run_units.specs.Touching.{RunsInSpace, IsCalledFor}
use Rattle.run_units.proofs.Units.{leads_at}
use Rattle.run_units.proofs.Stepping.{none_asked}
use Rattle.run_units.proofs.Swapping.{note_made}
use Rattle.run_units.proofs.Acting.{between_refused}
use Rattle.step_units.specs.Machines.{MachineAt, RunsOn}
use Rattle.step_units.specs.Stepped.{StepLeads}
use Rattle.step_units.proofs.Begun.{whole_due, begins, out_due, out_unrefused, goes_on_behind, none_lost}
use Rattle.step_units.proofs.Behind.{StepWaits, output_waits, running_same, wanted_same}
use Rattle.step_units.proofs.Entering.{entry_leads, complete_leads, entered, leads_then}
use Rattle.step_units.proofs.Tables.{IsKept, is_kept}
use Rattle.step_units.proofs.Replying.{called_step}

-- An entry that keeps the record as it is.

absent_with : (ks : List Proc) (p : Proc) → IsAbsent p.pid (map (λ (q : Proc). q.pid) ks) → with_proc ks p ≡ ks
absent_with [] p a = refl
absent_with (x ∷ ks) p a = ap (λ (b : Bool). cond b p x ∷ with_proc ks p) (ne_eqb x.pid p.pid a.0) ∙ ap (λ (l : List Proc). x ∷ l) (absent_with ks p a.1)

with_self : (ks : List Proc) (p : Proc) → AllDistinct (map (λ (q : Proc). q.pid) ks) → numbered (λ (q : Proc). q.pid) p.pid ks ≡ Some p → with_proc ks p ≡ ks
with_self [] p d e = refl
with_self (x ∷ ks) p d e = go (with_self ks p d.1) (x.pid == p.pid) refl e
  where
    go : (numbered (λ (q : Proc). q.pid) p.pid ks ≡ Some p → with_proc ks p ≡ ks) → (b : Bool) → (x.pid == p.pid) ≡ b
        → cond (x.pid == p.pid) (Some x) (numbered (λ (q : Proc). q.pid) p.pid ks) ≡ Some p → with_proc (x ∷ ks) p ≡ x ∷ ks
    go more true t k =
        let same : x ≡ p = same_Some x p (ap (λ (c : Bool). cond c (Some x) (numbered (λ (q : Proc). q.pid) p.pid ks)) (sym t) ∙ k) in
        ap (λ (c : Bool). cond c p x ∷ with_proc ks p) t
        ∙ ap (λ (l : List Proc). p ∷ l) (absent_with ks p (subst (λ (n : ℕ). IsAbsent n (map (λ (q : Proc). q.pid) ks)) (ap (λ (q : Proc). q.pid) same) d.0)) ∙ ap (λ (q : Proc). q ∷ ks) (sym same)
    go more false f k =
        ap (λ (c : Bool). cond c p x ∷ with_proc ks p) f
        ∙ ap (λ (l : List Proc). x ∷ l) (more (ap (λ (c : Bool). cond c (Some x) (numbered (λ (q : Proc). q.pid) p.pid ks)) (sym f) ∙ k))

-- it is one that goes into the journal alone
pub noted : (images : List Image) (k : Kernel) (pid : ℕ) (p : Process) (x : Space) (e : Entry) → AllDistinct (map (λ (q : Proc). q.pid) k.processes)
    → IsKept k pid p x
    → change_step images k pid (regs_of k pid) e changes.Keep ≡ note_step k e
noted images k pid p x e d h =
    let number : h.proc.pid ≡ pid = ap (λ (o : Outline). o.pid) h.outline ∙ h.number in
    ap (λ (o : Option Proc). change_if images k (regs_by o) e changes.Keep o) h.there
    ∙ ap (λ (ps : List Proc). let l : Kernel = record k { processes = ps; journal = append k.journal e } in l)
    (with_self k.processes h.proc d (ap (λ (n : ℕ). numbered (λ (q : Proc). q.pid) n k.processes) number ∙ h.there))

-- The bytes went out, and the call's own entry comes.

pub record IsOutput (A : Inputs) (s : State) (old between : Standing) (holds : Option (List NamedFile)) (image : SwapImage) (pid : ℕ) (now : Bool) (p : Process)
    (x : Space) (u c : Entry) (step : Step) : Type 0 where
  pub leads : Leads A s old.kernel image (u ∷ []) (after A s u) between.kernel (Some image)
  pub waits : StepWaits A s u (after A s u)
  pub machine : MachineAt A (after A s u) between holds image
  pub running : RunsInSpace A (after A s u) pid now p x
  pub unwanted : wanted A (after A s u) ≡ None
  pub step_is : step_at A (after A s u).point pid ≡ step
  pub acts : act A (after A s u) pid ≡ Some c
  pub left : due_at A (after A s u).point pid ≡ c ∷ []

pub outputs : (A : Inputs) (s : State) (old between : Standing) (holds : Option (List NamedFile)) (image : SwapImage) (pid : ℕ) (now : Bool) (p : Process)
    (x : Space) (effect : Effect)
    (call : SystemCall)
    (r : Result Reply Refused) (byte : ℕ) (bytes : List ℕ)
    → RunsOn A s old holds image pid now p x → IsCallOf effect call → IsCalledFor A s p x call effect r → or_fault r ≡ Writes (byte ∷ bytes)
    → Entered old between pid (regs_of old.kernel pid) (entries.Out pid (byte ∷ bytes)) changes.Keep
    → IsOutput A s old between holds image pid now p x (entries.Out pid (byte ∷ bytes))
    (call_entry pid call (replied effect.regs false (length (byte ∷ bytes))))
    (replied_step A.images s.point.flat p call effect (Writes (byte ∷ bytes)))
outputs A s old between holds image pid now p x effect call r byte bytes h m c e out =
    let F : FlatState = s.point.flat in
    let k : Kernel = old.kernel in
    let l : Kernel = between.kernel in
    let out_bytes : List ℕ = byte ∷ bytes in
    let regs : Regs = replied effect.regs false (length out_bytes) in
    let step : Step = replied_step A.images F p call effect (Writes out_bytes) in
    let is : step_at A s.point pid ≡ step = called_step A s pid now p x effect call r h.running h.between m c ∙ ap (replied_step A.images F p call effect) e in
    let u : Entry = entries.Out pid out_bytes in
    let v : Entry = call_entry pid call regs in
    let t : State = after A s u in
    let first : step.entries ≡ u ∷ v ∷ [] = ap (λ (n : ℕ). entries.Out n out_bytes ∷ call_entry n call regs ∷ []) (found_at F pid p h.running.here).0 in
    let acts : act A s pid ≡ Some u =
    begins A s k image pid now p x step u (v ∷ []) k.holdings h.machine.at h.running h.between is first (none_asked A.swap_blocks k).0 (none_lost A s pid now p x step h.running is refl) in
    let kept : IsKept k pid p x = is_kept A s k image pid now p x h.machine.at h.running in
    let note : l ≡ note_step k u = out.step ∙ noted (facts_named old.images) k pid p x u h.machine.at.stands.keeps.numbered.pids_differ kept in
    let led : Leads A s k image (u ∷ []) t l (Some image) = entry_leads A s k l image pid now u h.running.runs c.unwanted acts (note_made A s k l image u tt note) in
    let d : due_at A s.point pid ≡ u ∷ v ∷ [] = whole_due s.point.last pid (step_at A s.point pid).entries h.between ∙ ap (λ (z : Step). z.entries) is ∙ first in
    let w : StepWaits A s u t = output_waits A s pid out_bytes u v [] d refl in
    let there : At A t l image = leads_at A s t k l image image (u ∷ []) h.machine.at led in
    let running : RunsInSpace A t pid now p x = running_same A s t u pid now p x w h.running in
    let step_is : step_at A t.point pid ≡ step =
    ap (λ (G : FlatState). flat_step A G pid (is_refused t.point.last pid)) w.flat
    ∙ ap (flat_step A F pid) (out_unrefused t.point.last pid out_bytes w.last ∙ sym (between_refused s.point.last pid h.between)) ∙ is in
    record {
      leads = led;
      waits = w;
      machine = record {
        at = there;
        images = subst (λ (ns : List ImageNamed). AreRunImages ns holds A) (sym (ap (λ (n : Standing). n.images) out.rest)) h.machine.images;
        blocks = ap (λ (n : Standing). n.params.swap_blocks) out.rest ∙ h.machine.blocks;
      };
      running = running;
      unwanted = wanted_same A s t u h.running.runs.clear w ∙ c.unwanted;
      step_is = step_is;
      acts = goes_on_behind A t l image pid now p x step out_bytes u v [] l.holdings there running w.last step_is first (none_asked A.swap_blocks l).0
          (none_lost A t pid now p x step running step_is refl);
      left = ap (λ (z : Step). due t.point.last pid z.entries) step_is ∙ ap (due t.point.last pid) first ∙ out_due t.point.last pid out_bytes u (v ∷ []) w.last;
    }

pub writes_out : (A : Inputs) (s : State) (old new : Standing) (holds : Option (List NamedFile)) (image : SwapImage) (pid : ℕ) (now : Bool) (p : Process)
    (x : Space) (effect : Effect) (call : SystemCall)
    (r : Result Reply Refused) (byte : ℕ) (bytes : List ℕ)
    → RunsOn A s old holds image pid now p x → IsCallOf effect call → IsCalledFor A s p x call effect r → or_fault r ≡ Writes (byte ∷ bytes)
    → Written old new pid call (byte ∷ bytes) (replied effect.regs false (length (byte ∷ bytes)))
    → StepLeads A s old.kernel image 1 new.kernel (Some image)
writes_out A s old new holds image pid now p x effect call r byte bytes h m c e wrote =
    let between : Standing = wrote.between in
    let out_bytes : List ℕ = byte ∷ bytes in
    let regs : Regs = replied effect.regs false (length out_bytes) in
    let step : Step = replied_step A.images s.point.flat p call effect (Writes out_bytes) in
    let u : Entry = entries.Out pid out_bytes in
    let v : Entry = call_entry pid call regs in
    let t : State = after A s u in
    let o : IsOutput A s old between holds image pid now p x u v step = outputs A s old between holds image pid now p x effect call r byte bytes h m c e wrote.out in
    let rest : StepLeads A t between.kernel image 1 new.kernel (Some image) =
    complete_leads A t between.kernel new.kernel image pid v
    (entered A t between new.kernel holds image pid now p x step v between.kernel.holdings o.machine o.running o.unwanted o.acts refl o.left o.step_is c.writes tt tt
    (none_asked A.swap_blocks between.kernel).0 wrote.answer.step) in
    leads_then A s t old.kernel between.kernel new.kernel image image (Some image) (u ∷ []) 1 o.leads o.waits.count o.waits.lines o.waits.mark rest
