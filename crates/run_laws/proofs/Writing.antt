-- Bytes that a process writes, and the pages that they touch, leave what stands.
use Rattle.std.proofs.Common.{◌≡◌, inl, inr, ℕ, ◌*◌, true, List, [], ◌∷◌, length, map, Option, Some, None, refl, sym, ap, ◌∙◌, subst}
use Rattle.std.proofs.lemmas.Bool.{cases_eq}
use Rattle.std.proofs.lemmas.List.{length-set}
use Rattle.vm_facts.specs.Answers.{ByteWrite}
use Rattle.flat_state.specs.Space.{Space, address_in, put_at, put_in_space, puts}
use Rattle.flat_state.specs.Flat.{Holding, Holds, Lends, Zombie, Process, FlatState, Inputs, process_of, holds_space, spaces_of}
use Rattle.vm_facts.specs.declared.page.Page.{Page}
use Rattle.vm_facts.specs.declared.page.Page.TheVariants as pages
use Rattle.swap_book.specs.Holdings.{Holdings}
use Rattle.flat_state.specs.declared.spot.Spot.{Spot}
use Rattle.flat_state.specs.declared.spot.Spot.TheVariants.{Text, Data, Stack, Below, Outside}
use Rattle.flat_state.specs.Change.{replaced, with_process, wrote_by, wrote_if, apply_writes}
use Rattle.page_model.specs.Pages.{numbered}
use Rattle.page_model.specs.Placement.{Placement, Residence, space_number}
use Rattle.page_model.specs.Moves.{touch, touch_all}
use Rattle.page_model.specs.Swapper.{residence_of}
use Rattle.page_model.specs.Conditions.{HaveParts}
use Rattle.kernel_model.specs.Kernel.{Kernel, write_step}
use Rattle.kernel_model.specs.Coupled.{Fits, AllFit, Outline, outline_of, SameTables}
use Rattle.flat_state.specs.Numbers.{IsNumbered}
use Rattle.kernel_model.specs.Stands.{Stands, OutHold, holds_some}
use Rattle.kernel_laws.proofs.Sound.Steps.{write_sound, touch_transfers}
use Rattle.page_laws.proofs.Moves.Stays.{Steady}
use Rattle.page_laws.proofs.Bytes.Others.{touch_steady}
use Rattle.kernel_laws.proofs.Sound.NumbersApart.{write_numbered}
use Rattle.page_laws.proofs.Due.Changes.{touch_due}
use Rattle.page_laws.proofs.Lists.Pages.{numbered_hit, numbered_miss}
use Rattle.std.proofs.lemmas.Option.{same_Some}
use Rattle.kernel_laws.proofs.Flat.Lists.{pid_of, sid_of, held, found_is, HeldAt, held_at, held_own, held_other, held_now}
use Rattle.kernel_laws.proofs.Machine.Shapes.{Shaped, sizes_kept, fit_shaped, touch_shaped}
use Rattle.kernel_laws.proofs.Machine.Swaps.{found_self, replaced_outlines}
use Rattle.kernel_laws.proofs.Machine.Tables.{tables_of, fit_bytes}
use Rattle.run_laws.specs.Standing.{machine_of, EachOnce, Placed}
use Rattle.run_laws.proofs.Bridge.{from_machine}

-- One touched page.

pub touch_placed : (A : Inputs) (flat : FlatState) (p : Placement) (hs : Holdings) (v : Page) → Placed A flat p hs → Placed A flat (touch p v) hs
touch_placed A flat p hs v s =
    let k : Kernel = machine_of flat p hs in
    let sh : Shaped p (touch p v) = touch_shaped p v in
    let t : Steady p (touch p v) = touch_steady p v in
    let tb : SameTables k flat = s.tables in
    let st : Stands A.images k flat = s.stands in
    let l : Kernel = write_step k v 0 0 0 in
    from_machine A flat (write_step k v 0 0 0) (write_sound A.swap_blocks k v 0 0 0 s.sound) (write_numbered k v 0 0 0 s.numbered)
    (tables_of (write_step k v 0 0 0) flat tb.processes refl refl (λ sid. fit_shaped p (touch p v) (numbered sid_of sid (spaces_of flat)) sid sh (tb.spaces sid)))
    (record {
      starts = λ q e. refl;
      texts = λ i. st.texts i ∙ ap (λ (m : ℕ). 1024 * m) (sym (sizes_kept p (touch p v) sh (pages.Text i 0)));
      out = λ pid e. st.out pid (ap (λ (rs : List Residence). (residence_of rs pid).out) (sym sh.residents) ∙ e);
    })
    (touch_due p v s.dues) (subst EachOnce (sym t.due) s.once) (subst HaveParts (sym (touch_transfers p v)) s.parts) (ap length t.holds ∙ s.frames)

pub touch_all_placed : (A : Inputs) (flat : FlatState) (qs : List Page) (p : Placement) (hs : Holdings) → Placed A flat p hs → Placed A flat (touch_all p qs) hs
touch_all_placed A flat [] p hs s = s
touch_all_placed A flat (q ∷ qs) p hs s = touch_all_placed A flat qs (touch p q) hs (touch_placed A flat p hs q s)

-- A space with other bytes.

pub record SameSpace (s t : Space) : Type 0 where
  pub sid : t.sid ≡ s.sid
  pub image : t.image ≡ s.image
  pub text : t.text_bytes ≡ s.text_bytes
  pub data_size : length t.data_bytes ≡ length s.data_bytes
  pub stack_size : length t.stack_bytes ≡ length s.stack_bytes

put_same : (s : Space) (w : ByteWrite) → SameSpace s (put_in_space s w)
put_same s w = go (address_in s w.address)
  where
    go : (spot : Spot) → SameSpace s (put_at s spot w.byte)
    go (Text i) = record { sid = refl; image = refl; text = refl; data_size = refl; stack_size = refl }
    go (Data i) = record { sid = refl; image = refl; text = refl; data_size = length-set s.data_bytes i w.byte; stack_size = refl }
    go (Stack i) = record { sid = refl; image = refl; text = refl; data_size = refl; stack_size = length-set s.stack_bytes i w.byte }
    go Below = record { sid = refl; image = refl; text = refl; data_size = refl; stack_size = refl }
    go Outside = record { sid = refl; image = refl; text = refl; data_size = refl; stack_size = refl }

pub puts_same : (ws : List ByteWrite) (s : Space) → SameSpace s (puts s ws)
puts_same [] s = record { sid = refl; image = refl; text = refl; data_size = refl; stack_size = refl }
puts_same (w ∷ ws) s =
    let a : SameSpace s (put_in_space s w) = put_same s w in
    let b : SameSpace (put_in_space s w) (puts (put_in_space s w) ws) = puts_same ws (put_in_space s w) in
    record { sid = b.sid ∙ a.sid; image = b.image ∙ a.image; text = b.text ∙ a.text; data_size = b.data_size ∙ a.data_size; stack_size = b.stack_size ∙ a.stack_size }

-- a process whose space has other bytes
pub space_tables : (k : Kernel) (flat : FlatState) (q : Process) (s z : Space) → IsNumbered flat → numbered pid_of q.pid flat.processes ≡ Some q
    → q.holding ≡ Holds s → SameSpace s z → SameTables k flat
    → SameTables k (with_process flat (record q { holding = Holds z }))
space_tables k flat q s z nums f h same t =
    let fp : Process = record q { holding = Holds z } in
    let outline : outline_of fp ≡ outline_of q =
    ap (λ (n : ℕ). let o : Outline = record { pid = q.pid; parent = q.parent; life = Rattle.kernel_model.specs.Kernel.HoldsSpace n; asleep = q.asleep } in o) same.sid
    ∙ ap (λ (x : Holding). let o : Outline = record { pid = q.pid; parent = q.parent; life = Rattle.kernel_model.specs.Kernel.life_of x; asleep = q.asleep } in o) (sym h) in
    let here : HeldAt flat.processes fp s = held_at flat.processes q fp s f h nums.sids in
    let fits : AllFit (with_process flat fp) k.place = λ n. elim (cases_eq n s.sid) [
      | inl i ↦ subst (λ (m : ℕ). Fits (numbered sid_of m (held (replaced flat.processes fp))) (numbered space_number m k.place.spaces)) (sym i)
          (subst (λ (o : Option Space). Fits o (numbered space_number s.sid k.place.spaces)) (sym (held_now flat.processes fp s here ∙ numbered_hit sid_of s.sid z [] same.sid))
          (fit_bytes s z (numbered space_number s.sid k.place.spaces) same.image same.data_size same.stack_size
          (subst (λ (o : Option Space). Fits o (numbered space_number s.sid k.place.spaces)) (held_own flat.processes fp s here) (t.spaces s.sid))))
      | inr d ↦ subst (λ (o : Option Space). Fits o (numbered space_number n k.place.spaces))
          (sym (held_other flat.processes fp s n here d (numbered_miss sid_of n z [] (λ i. d (sym (sym same.sid ∙ i)))))) (t.spaces n)
    ] in
    tables_of k (with_process flat fp) (t.processes ∙ sym (replaced_outlines flat.processes q fp f outline)) t.next_pid t.next_sid fits

-- who is out still holds a space
out_same_holders : (p : Placement) (flat after : FlatState) → map outline_of after.processes ≡ map outline_of flat.processes → OutHold p flat → OutHold p after
out_same_holders p flat after e o n h = holders (process_of flat n) (process_of after n) (o n h)
    (ap (Rattle.kernel_laws.proofs.Flat.Numbered.image_by outline_of) (found_is flat.processes n) ∙ sym (numbers flat.processes) ∙ ap (numbered (λ (x : Outline). x.pid) n) (sym e)
    ∙ numbers after.processes ∙ ap (Rattle.kernel_laws.proofs.Flat.Numbered.image_by outline_of) (sym (found_is after.processes n)))
  where
    numbers : (ps : List Process) → numbered (λ (x : Outline). x.pid) n (map outline_of ps) ≡ Rattle.kernel_laws.proofs.Flat.Numbered.image_by outline_of (numbered pid_of n ps)
    numbers ps = Rattle.kernel_laws.proofs.Flat.Numbered.numbered_image outline_of pid_of (λ (x : Outline). x.pid) (λ x. refl) n ps

    holding : (a b : Holding) → Rattle.kernel_model.specs.Kernel.life_of a ≡ Rattle.kernel_model.specs.Kernel.life_of b → holds_space a ≡ true → holds_space b ≡ true
    holding (Holds s) (Holds t) k z = refl
    holding (Holds s) (Lends t c) k z = absurd cc
    holding (Holds s) (Zombie t) k z = absurd cc
    holding (Lends s c) b k z = absurd cc
    holding (Zombie s) b k z = absurd cc

    holders : (a b : Option Process) → holds_some a ≡ true
        → Rattle.kernel_laws.proofs.Flat.Numbered.image_by outline_of a ≡ Rattle.kernel_laws.proofs.Flat.Numbered.image_by outline_of b → holds_some b ≡ true
    holders None b z k = absurd cc
    holders (Some x) None z k = absurd cc
    holders (Some x) (Some y) z k = holding x.holding y.holding (ap (λ (o : Outline). o.life) (same_Some (outline_of x) (outline_of y) k)) z

pub writes_placed : (A : Inputs) (flat : FlatState) (p : Placement) (hs : Holdings) (pid : ℕ) (ws : List ByteWrite) (q : Process) (s : Space)
    → IsNumbered flat → process_of flat pid ≡ Some q
    → q.holding ≡ Holds s → Placed A flat p hs → Placed A (apply_writes flat pid ws) p hs
unfolding apply_writes
writes_placed A flat p hs pid ws q s nums f h st =
    subst (λ (o : Option Process). Placed A (wrote_if flat ws o) p hs) (sym f)
    (subst (λ (x : Holding). Placed A (wrote_by flat q ws x) p hs) (sym h)
    (let k : Kernel = machine_of flat p hs in
    let same : SameSpace s (puts s ws) = puts_same ws s in
    let t : SameTables k (with_process flat (record q { holding = Holds (puts s ws) })) = space_tables k flat q s (puts s ws) nums (found_self flat pid q f) h same st.tables in
    let b : SameTables k flat = st.tables in
    let sd : Stands A.images k flat = st.stands in
    from_machine A (with_process flat (record q { holding = Holds (puts s ws) })) k st.sound st.numbered t
    (record { starts = λ x e. refl; texts = sd.texts; out = out_same_holders p flat (with_process flat (record q { holding = Holds (puts s ws) })) (sym t.processes ∙ b.processes) sd.out })
    st.dues st.once st.parts st.frames))
