-- The new stack page of an image: what its fill asks of the machine, after the entry by which the image starts.
use Rattle.std.proofs.Common.{◌≡◌, ℕ, ◌<◌, ◌≤◌, true, List, [], ◌∷◌, length, Option, Some, None, refl, sym, ap, ◌∙◌, subst}
use Rattle.vm_facts.specs.SwapImages.{SwapImage}
use Rattle.io_edge.specs.FileHolding.{NamedFile}
use Rattle.vm_facts.specs.declared.page.Page.TheVariants.{Stack}
use Rattle.vm_facts.specs.declared.regs.Regs.{Regs}
use Rattle.vm_facts.specs.declared.entry.Entry.{Entry}
use Rattle.aout_image.specs.declared.Image.{Image}
use Rattle.flat_state.specs.Journal.{append}
use Rattle.flat_state.specs.declared.change.Change.TheVariants.{Exec}
use Rattle.flat_model.specs.Step.{call_entry}
use Rattle.flat_model.specs.declared.calls.SystemCall.TheVariants.{Execve}
use Rattle.page_model.specs.Placement.{Placement, Start}
use Rattle.page_model.specs.Place.{enter_image, place_change, facts_numbered}
use Rattle.page_model.specs.Rank.{HasRoom}
use Rattle.page_laws.proofs.Due.Changes.{unless_due}
use Rattle.page_laws.proofs.Ends.Hands.{room_still}
use Rattle.kernel_model.specs.Kernel.{Proc, Kernel}
use Rattle.kernel_model.specs.Sound.{lives_in}
use Rattle.kernel_model.specs.ChangeStep.{changing_of, change_by, change_if}
use Rattle.machine_state.proofs.KernelLawsSoundChanges.{Unhanded, change_unhanded}
use Rattle.machine_state.specs.Machine.{Standing}
use Rattle.machine_state.specs.Sourced.{ImageNamed}
use Rattle.machine_state.specs.Applying.{CanApply, facts_named}
use Rattle.fault_fill.specs.LastMoves.{last_moves}
use Rattle.fault_fill.proofs.LastMoves.{last_of}
use Rattle.kernel_model.specs.Unit.{proc_of}
use Rattle.machine_state.proofs.HoldingSteps.{facts_there}
use Rattle.proc_calls.specs.Answered.{Answered}
use Rattle.proc_calls.specs.Filling.{IsStartFirst}
use Rattle.proc_calls.specs.Starting.{image_found, LeavesFor}
use Rattle.proc_calls.proofs.Starts.{is_ready}

-- The header of an image that the machine has.

-- The kernel after the entry: the new page alone is due, and there are as many frames.

pub record HasNewStack (k l : Kernel) (e : Entry) : Type 0 where
  pub due : l.place.due ≡ Start (Stack k.next_sid 0) ∷ []
  pub frames : length l.place.holds ≡ length k.place.holds
  pub journal : l.journal ≡ append k.journal e

entered_due : (p : Placement) (next image : ℕ) (o : Option Image) (facts : Image) → o ≡ Some facts
    → (enter_image p next image o).due ≡ Start (Stack next 0) ∷ []
entered_due p next image o facts e = ap (λ (x : Option Image). (enter_image p next image x).due) e

image_by : (images : List Image) (k : Kernel) (p : Proc) (e : Entry) (image : ℕ) (top : List ℕ) (facts : Image) → facts_numbered images image ≡ Some facts
    → HasNewStack k (change_by images k p e (Exec image top)) e
image_by images k p e image top facts h =
    let who = changing_of images k p e in
    let u : Unhanded k.place (place_change who k.place (Exec image top)) = change_unhanded who k.place (Exec image top) in
    record {
      due = unless_due who.borrowed (enter_image k.place k.next_sid image (facts_numbered images image)) who.sid ∙ entered_due k.place k.next_sid image (facts_numbered images image) facts h;
      frames = u.hands.frames;
      journal = refl;
    }

image_if : (images : List Image) (k : Kernel) (regs : Regs) (e : Entry) (image : ℕ) (top : List ℕ) (facts : Image) (o : Option Proc)
    → facts_numbered images image ≡ Some facts
    → lives_in o ≡ true → HasNewStack k (change_if images k regs e (Exec image top) o) e
image_if images k regs e image top facts None h alive = absurd cc
image_if images k regs e image top facts (Some p) h alive = image_by images k (record p { regs = regs }) e image top facts h

-- From the machine before the call.

pub record IsStarted (old new : Standing) : Type 0 where
  pub params : new.params ≡ old.params
  pub images : new.images ≡ old.images
  pub due : new.kernel.place.due ≡ Start (Stack old.kernel.next_sid 0) ∷ []
  pub frames : length new.kernel.place.holds ≡ length old.kernel.place.holds
  pub last : last_moves new.kernel.journal ≡ 0

pub is_started : (old asked new : Standing) (pid image : ℕ) (regs : Regs) (top : List ℕ) (holds : Option (List NamedFile)) (before after : Option SwapImage)
    → 0 < image → image ≤ length old.images → LeavesFor (image_found image) old asked pid holds before after
    → CanApply asked pid (call_entry pid Execve regs) (Exec image top) → Answered asked new pid Execve regs (Exec image top) → IsStarted old new
is_started old asked new pid image regs top holds before after above within left can answer =
    let r = is_ready old left.between pid holds before after left.left in
    let e : Entry = call_entry pid Execve regs in
    let images : asked.images ≡ old.images = ap (λ (s : Standing). s.images) left.step ∙ r.images in
    let header = facts_there asked.images image above (subst (λ (ns : List ImageNamed). image ≤ length ns) (sym images) within) in
    let b : HasNewStack asked.kernel new.kernel e =
    subst (λ (l : Kernel). HasNewStack asked.kernel l e) (sym answer.step)
    (image_if (facts_named asked.images) asked.kernel regs e image top header.0 (proc_of asked.kernel pid) header.1 can.ready.alive) in
    record {
      params = ap (λ (s : Standing). s.params) answer.rest ∙ ap (λ (s : Standing). s.params) left.step ∙ r.params;
      images = ap (λ (s : Standing). s.images) answer.rest ∙ images;
      due = b.due ∙ ap (λ (n : ℕ). Start (Stack n 0) ∷ []) (ap (λ (s : Standing). s.kernel.next_sid) left.step ∙ r.kernel.number);
      frames = b.frames ∙ ap (λ (s : Standing). length s.kernel.place.holds) left.step ∙ r.kernel.frames;
      last = ap last_moves b.journal ∙ last_of asked.kernel.journal e;
    }

pub start_first : (old new : Standing) → IsStarted old new → IsStartFirst new.kernel.place (Stack old.kernel.next_sid 0)
start_first old new s = record { others = []; first = s.due }

pub room_behind : (old new : Standing) → IsStarted old new → HasRoom old.kernel.place [] → HasRoom new.kernel.place []
room_behind old new s h = room_still old.kernel.place new.kernel.place [] s.frames h
