-- An instruction that makes no call is the step of its process.
use Rattle.std.proofs.Common.{◌≡◌, ℕ, ◌/◌, ◌%◌, Bool, List, [], ◌∷◌, Option, Some, Ok, ℤ, refl, sym, ap, ◌∙◌, subst}
use Rattle.vm_facts.specs.Answers.{Answers, ByteWrite}
use Rattle.vm_facts.specs.declared.entry.Entry.{Entry}
use Rattle.vm_facts.specs.declared.entry.Entry.TheVariants as entries
use Rattle.vm_facts.specs.declared.page.Page.{Page}
use Rattle.vm_facts.specs.declared.page.Page.TheVariants as pages
use Rattle.vm_facts.specs.declared.page.PageState.{PageState}
use Rattle.vm_facts.specs.declared.page.PageState.TheVariants.{Valid}
use Rattle.user_vax.specs.Program.{run}
use Rattle.user_vax.specs.Instruction.{instruction}
use Rattle.flat_state.specs.declared.spot.Spot.{Spot}
use Rattle.flat_state.specs.declared.spot.Spot.TheVariants as spots
use Rattle.flat_state.specs.declared.change.Change.TheVariants as changes
use Rattle.page_model.specs.Placement.{Placement, state_of}
use Rattle.page_laws.proofs.Bytes.Others.{touch_steady}
use Rattle.kernel_model.specs.Kernel.{Kernel, write_by_state}
use Rattle.kernel_laws.proofs.Machine.Swaps.{found_at}
use Rattle.machine_state.specs.UserMemory.{kernel_answers, spot_in, write_spot, write_in, writes_in}
use Rattle.flat_model.specs.Step.{Step, step_with, step_behind}
use Rattle.flat_model.specs.Run.{step_at, is_refused}
use Rattle.run_model.specs.Act.{act}
use Rattle.run_units.specs.Touching.{MakesNone, IsWhole, IsReadyFor}
use Rattle.run_units.proofs.Instructing.{hit_ready}
use Rattle.run_units.proofs.Stepping.{step_known, ran_made, none_asked}
use Rattle.step_units.specs.Running.{InstructionIsMade}
use Rattle.step_units.proofs.Begun.{whole_due, begins, none_lost}
use Rattle.step_units.proofs.Entering.{completes, complete_leads}

-- Writes leave what is due.

state_due : (k : Kernel) (q : Page) (s : PageState) (at byte : ℕ) → (write_by_state k q s at byte).place.due ≡ k.place.due
state_due k q (Valid f) at byte = (touch_steady k.place q).due
state_due k q _ at byte = refl

spot_due : (k : Kernel) (sid : ℕ) (spot : Spot) (byte : ℕ) → (write_spot k sid spot byte).place.due ≡ k.place.due
spot_due k sid (spots.Text i) byte = refl
spot_due k sid (spots.Data i) byte = state_due k (pages.Data sid (i / 1024)) (state_of k.place (pages.Data sid (i / 1024))) (i % 1024) byte
spot_due k sid (spots.Stack i) byte = state_due k (pages.Stack sid (i / 1024)) (state_of k.place (pages.Stack sid (i / 1024))) (i % 1024) byte
spot_due k sid spots.Below byte = refl
spot_due k sid spots.Outside byte = refl

writes_due : (ws : List ByteWrite) (k : Kernel) (sid : ℕ) → (writes_in k sid ws).place.due ≡ k.place.due
writes_due [] k sid = refl
writes_due (w ∷ ws) k sid = writes_due ws (write_in k sid w) sid ∙ spot_due k sid (spot_in k.place sid w.address) w.byte

-- The instruction.

pub instruction_made : InstructionIsMade
instruction_made A s m l holds image pid now p x effect h e none made =
    let k : Kernel = m.kernel in
    let memory : Answers = kernel_answers k x.sid in
    let whole : IsWhole (run memory (instruction p.regs)) =
    subst IsWhole (sym e) (subst (λ (o : Option ℤ). MakesNone o) (sym none) tt) in
    let ready : IsReadyFor A s p x (Ok effect) =
    subst (IsReadyFor A s p x) e (hit_ready A s k image pid now p x h.machine.at h.running whole) in
    let refused : Bool = is_refused s.point.last pid in
    let step : Step = step_with A.images s.point.flat p (entries.Ran p.pid 1 ∷ []) effect.writes effect.regs changes.Keep in
    let is : step_at A s.point pid ≡ step =
    step_known A s pid now p x (Ok effect) h.running ready ∙ ap (step_behind A.images s.point.flat p x refused effect) none in
    let u : Entry = entries.Ran pid 1 in
    let first : step.entries ≡ u ∷ [] = ap (λ (n : ℕ). entries.Ran n 1 ∷ []) (found_at s.point.flat pid p h.running.here).0 in
    let acts : act A s pid ≡ Some u =
    begins A s k image pid now p x step u [] k.holdings h.machine.at h.running h.between is first (none_asked A.swap_blocks k).0 (none_lost A s pid now p x step h.running is refl) in
    complete_leads A s k l image pid u
    (completes A s k l image pid now u h.machine.at h.running.runs ready.unwanted acts refl
    (whole_due s.point.last pid (step_at A s.point pid).entries h.between ∙ ap (λ (z : Step). z.entries) is ∙ first)
    (ran_made A s k l image pid now p x step h.machine.at h.running is made)
    (ap (λ (y : Kernel). y.place.due) made ∙ writes_due effect.writes k x.sid ∙ ap (λ (y : Placement). y.due) h.machine.at.stands.place ∙ h.running.runs.clear))
