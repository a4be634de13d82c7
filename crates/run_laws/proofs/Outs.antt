-- Who is out stays so with its registers, whatever another process does.
use Rattle.std.proofs.Common.{◌≡◌, ◌≢◌, inl, inr, ℕ, true, false, List, Option, Some, None, refl, sym, ap, ◌∙◌, subst}
use Rattle.std.proofs.lemmas.Bool.{cases_eq}
use Rattle.vm_facts.specs.Answers.{ByteWrite}
use Rattle.flat_state.specs.Space.{Space}
use Rattle.flat_state.specs.Flat.{Holding, Holds, Lends, Zombie, Process, FlatState, NamedImage, image_numbered, process_of}
use Rattle.vm_facts.specs.declared.regs.Regs.{Regs}
use Rattle.flat_state.specs.declared.change.Change.{Change}
use Rattle.flat_state.specs.declared.change.Change.TheVariants.{Resize, Fork, Lend, Exec, End}
use Rattle.flat_state.specs.Change.{apply_change, apply_writes, NamesChild}
use Rattle.page_model.specs.Placement.{Placement, Residence}
use Rattle.page_model.specs.Place.{Changing, place_change, enter_image, give_up_unless, facts_numbered}
use Rattle.page_model.specs.Moves.{drop_all}
use Rattle.page_model.specs.Swapper.{is_out, residence_of}
use Rattle.kernel_model.specs.UPage.{AreRegs}
use Rattle.kernel_model.specs.Stands.{OutHold, holds_some}
use Rattle.page_laws.proofs.Ownership.Changes.{dropped_pages}
use Rattle.kernel_laws.proofs.Machine.Shapes.{Shaped, drop_all_shaped}
use Rattle.kernel_laws.proofs.Machine.Forks.{out_begun}
use Rattle.kernel_laws.proofs.Machine.Gone.{Gone, gone_unless}
use Rattle.kernel_laws.proofs.Machine.Ends.{out_ended, out_gone}
use Rattle.run_laws.specs.Machine.{OutRegs}
use Rattle.run_laws.proofs.Registered.{FoundRegs, writes_stay, change_stays}
use Rattle.aout_image.specs.declared.Image.{Image}

entered_residents : (p : Placement) (next image : ℕ) (o : Option Image) → (enter_image p next image o).residents ≡ p.residents
entered_residents p next image None = refl
entered_residents p next image (Some facts) = refl

-- nobody goes out by a change of a process
pub change_out : (c : Changing) (p : Placement) (change : Change) (n : ℕ)
    → is_out (place_change c p change) n ≡ true → is_out p n ≡ true
change_out c p (Resize d s) n e =
    let sh : Shaped p (drop_all p (dropped_pages p c.sid d s)) = drop_all_shaped (dropped_pages p c.sid d s) p in ap (λ (rs : List Residence). (residence_of rs n).out) (sym sh.residents) ∙ e
change_out c p (Fork child) n e = sym (out_begun p.residents child c.at n) ∙ e
change_out c p (Lend child) n e = sym (out_begun p.residents child c.at n) ∙ e
change_out c p (Exec image top) n e =
    let p1 : Placement = enter_image p c.next_sid image (facts_numbered c.images image) in
    let g : Gone p1 (give_up_unless c.borrowed p1 c.sid) c.borrowed c.sid = gone_unless c.borrowed p1 c.sid in
    ap (λ (rs : List Residence). (residence_of rs n).out) (sym (g.residents ∙ entered_residents p c.next_sid image (facts_numbered c.images image))) ∙ e
change_out c p (End status) n e =
    let g : Gone p (give_up_unless c.borrowed p c.sid) c.borrowed c.sid = gone_unless c.borrowed p c.sid in
    elim (cases_eq n c.pid) [
      | inl i ↦ absurd (let z : false ≡ true = sym (out_gone (give_up_unless c.borrowed p c.sid).residents c.pid) ∙ ap (is_out (place_change c p (End status))) (sym i) ∙ e in cc)
      | inr d ↦ ap (λ (rs : List Residence). (residence_of rs n).out) (sym g.residents) ∙ sym (out_ended (give_up_unless c.borrowed p c.sid).residents c.pid n d) ∙ e
    ]
change_out c p _ n e = e

-- who is out holds a space
pub out_holder : (p : Placement) (flat : FlatState) (n : ℕ) → OutHold p flat → is_out p n ≡ true
    → (x : Process) × (t : Space) × (process_of flat n ≡ Some x) × (x.holding ≡ Holds t)
out_holder p flat n o e = go (process_of flat n) refl (o n e)
  where
    holding : (x : Process) → process_of flat n ≡ Some x → (h : Holding) → x.holding ≡ h → Rattle.flat_state.specs.Flat.holds_space h ≡ true
        → (x : Process) × (t : Space) × (process_of flat n ≡ Some x) × (x.holding ≡ Holds t)
    holding x f (Holds t) h z = (x, t, f, h)
    holding x f (Lends sid child) h z = absurd cc
    holding x f (Zombie status) h z = absurd cc

    go : (q : Option Process) → process_of flat n ≡ q → holds_some q ≡ true → (x : Process) × (t : Space) × (process_of flat n ≡ Some x) × (x.holding ≡ Holds t)
    go None f z = absurd cc
    go (Some x) f z = holding x f x.holding refl z

-- their registers stay
pub regs_stay : (images : List NamedImage) (flat : FlatState) (p r : Placement) (pid : ℕ) (ws : List ByteWrite) (regs : Regs) (change : Change)
    → is_out p pid ≡ false → OutHold p flat
    → NamesChild (apply_writes flat pid ws) change → ((n : ℕ) → is_out r n ≡ true → is_out p n ≡ true) → OutRegs p flat
    → OutRegs r (apply_change images (apply_writes flat pid ws) pid regs change)
regs_stay images flat p r pid ws regs change inside o may was old n a e f =
    let x = out_holder p flat n o (was n e) in
    let other : pid ≢ n = λ i. (let z : true ≡ false = sym (was n e) ∙ ap (is_out p) (sym i) ∙ inside in cc) in
    let y : FoundRegs (apply_change images (apply_writes flat pid ws) pid regs change).processes n x.1 x.0.regs =
    change_stays images (apply_writes flat pid ws) pid regs change n x.1 x.0.regs may other
    (writes_stay flat pid ws n x.1 x.0.regs other (record { process = x.0; here = x.2; holds = x.3; regs = refl })) in
    let same : y.process ≡ a = Rattle.std.proofs.lemmas.Option.same_Some y.process a (sym y.here ∙ f) in
    subst AreRegs (sym y.regs ∙ ap (λ (q : Process). q.regs) same) (old n x.0 (was n e) x.2)
