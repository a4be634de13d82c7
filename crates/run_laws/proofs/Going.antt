-- No unit stops a machine.
use Rattle.std.proofs.Common.{◌≡◌, ℕ, Bool, true, false, List, [], ◌∷◌, Option, Some, None, refl, ◌∙◌}
use Rattle.vm_facts.specs.Answers.{ByteWrite}
use Rattle.flat_state.specs.Space.{Space, address_in}
use Rattle.flat_state.specs.Flat.{Holding, Holds, Lends, Zombie, Process, NamedImage, Inputs, process_of}
use Rattle.vm_facts.specs.declared.page.Page.{Page}
use Rattle.vm_facts.specs.declared.page.PageState.{PageState}
use Rattle.vm_facts.specs.declared.page.PageState.TheVariants.{Unfilled, Valid, Invalid, Coming, Going, OnSwap}
use Rattle.vm_facts.specs.declared.regs.Regs.{Regs}
use Rattle.vm_facts.specs.declared.entry.Entry.{Entry}
use Rattle.vm_facts.specs.declared.entry.Entry.TheVariants as entries
use Rattle.flat_state.specs.declared.change.Change.{Change}
use Rattle.flat_state.specs.declared.change.Change.TheVariants.{Keep, Exec, End}
use Rattle.page_model.specs.Pages.{numbered}
use Rattle.page_model.specs.Placement.{state_of}
use Rattle.page_model.specs.Place.{facts_of}
use Rattle.flat_state.specs.Change.{is_borrower}
use Rattle.kernel_model.specs.Kernel.{Kernel, Proc, write_by_state}
use Rattle.kernel_model.specs.ChangeStep.{change_if, change_step, pass_step}
use Rattle.flat_model.specs.Touched.{page_tested}
use Rattle.flat_model.specs.Run.{step_at}
use Rattle.run_model.specs.State.{State}
use Rattle.kernel_model.specs.Unit.{lender_among, passing_change}
use Rattle.run_laws.specs.Machine.{place_in, frame_written, write_byte, write_bytes, write_held, process_written, written_step, taken_step, process_step, unit_step}

page_goes : (k : Kernel) (o : Option Page) (at byte : ℕ) → (frame_written k o at byte).stopped ≡ k.stopped
page_goes k None at byte = refl
page_goes k (Some q) at byte = go (state_of k.place q)
  where
    go : (s : PageState) → (write_by_state k q s at byte).stopped ≡ k.stopped
    go (Valid f) = refl
    go Unfilled = refl
    go (Invalid f) = refl
    go (Coming f) = refl
    go (Going f) = refl
    go OnSwap = refl

bytes_go : (ws : List ByteWrite) (k : Kernel) (s : Space) → (write_bytes k s ws).stopped ≡ k.stopped
bytes_go [] k s = refl
bytes_go (w ∷ ws) k s = bytes_go ws (write_byte k s w) s ∙ page_goes k (page_tested s (address_in s w.address)) (place_in (address_in s w.address)) w.byte

by_goes : (k : Kernel) (o : Option Process) (ws : List ByteWrite) → (process_written k o ws).stopped ≡ k.stopped
by_goes k None ws = refl
by_goes k (Some q) ws = go q.holding
  where
    go : (h : Holding) → (write_held k h ws).stopped ≡ k.stopped
    go (Holds s) = bytes_go ws k s
    go (Lends sid child) = refl
    go (Zombie status) = refl

flat_goes : (images : List NamedImage) (k : Kernel) (pid : ℕ) (regs : Regs) (e : Entry) (change : Change)
    → (change_step (facts_of images) k pid regs e change).stopped ≡ k.stopped
flat_goes images k pid regs e change = go (numbered (λ (p : Proc). p.pid) pid k.processes)
  where
    go : (o : Option Proc) → (change_if (facts_of images) k regs e change o).stopped ≡ k.stopped
    go None = refl
    go (Some p) = refl

keeps_goes : (images : List NamedImage) (k : Kernel) (pid : ℕ) (regs : Regs) (e : Entry) (change : Change)
    → (passing_change false (facts_of images) k pid regs e change).stopped ≡ k.stopped
keeps_goes images k pid regs e Keep = flat_goes images k pid regs e Keep
keeps_goes images k pid regs e x = flat_goes images k pid regs e x

back_goes : (images : List NamedImage) (k : Kernel) (pid : ℕ) (regs : Regs) (e : Entry) (change : Change)
    → (passing_change true (facts_of images) k pid regs e change).stopped ≡ k.stopped
back_goes images k pid regs e (Exec image top) = flat_goes images (pass_step k pid (lender_among k.processes pid)) pid regs e (Exec image top)
back_goes images k pid regs e (End status) = flat_goes images (pass_step k pid (lender_among k.processes pid)) pid regs e (End status)
back_goes images k pid regs e x = flat_goes images k pid regs e x

step_goes : (A : Inputs) (s : State) (k : Kernel) (pid : ℕ) (e : Entry) → (process_step A s k pid e).stopped ≡ k.stopped
step_goes A s k pid e = go (is_borrower s.point.flat.processes pid) ∙ by_goes k (process_of s.point.flat pid) (step_at A s.point pid).writes
  where
    go : (b : Bool) → (passing_change b (facts_of A.images) (taken_step A s k pid) pid (step_at A s.point pid).regs e (step_at A s.point pid).change).stopped ≡ (written_step A s k pid).stopped
    go true = back_goes A.images (taken_step A s k pid) pid (step_at A s.point pid).regs e (step_at A s.point pid).change
    go false = keeps_goes A.images (taken_step A s k pid) pid (step_at A s.point pid).regs e (step_at A s.point pid).change

pub unit_goes : (A : Inputs) (s : State) (k : Kernel) (image : List ℕ) (read : List (List ℕ)) (u : Entry) → (unit_step A s k image read u).stopped ≡ k.stopped
unit_goes A s k image read (entries.Ran pid n) = by_goes k (process_of s.point.flat pid) (step_at A s.point pid).writes
unit_goes A s k image read (entries.Grew pid n) = step_goes A s k pid (entries.Grew pid n)
unit_goes A s k image read (entries.Call pid n c r0 r1) = step_goes A s k pid (entries.Call pid n c r0 r1)
unit_goes A s k image read (entries.Sleeps pid) = step_goes A s k pid (entries.Sleeps pid)
unit_goes A s k image read (entries.Ended pid n) = step_goes A s k pid (entries.Ended pid n)
unit_goes A s k image read _ = refl
