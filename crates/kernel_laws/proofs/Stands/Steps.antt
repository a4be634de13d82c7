-- What the coupling asks beside it stands after each step of the whole machine.
use Rattle.std.proofs.Common.{◌≡◌, inl, inr, ℕ, zero, suc, ◌*◌, ◌||◌, Bool, true, false, cond, not, List, [], ◌∷◌, length, Some, refl, sym, ap, ◌∙◌}
use Rattle.std.proofs.lemmas.Bool.{cases_eq}
use Rattle.page_laws.proofs.Moves.Puts.{rest_by_puts, reclaim_kept}
use Rattle.page_laws.proofs.Due.Entries.{get_due_list}
use Rattle.flat_state.specs.Space.{Space}
use Rattle.flat_state.specs.Flat.{Holds, Process, FlatState, NamedImage, process_of, holds_space}
use Rattle.vm_facts.specs.declared.page.Page.{Page}
use Rattle.vm_facts.specs.declared.page.Page.TheVariants.{Text}
use Rattle.vm_facts.specs.declared.regs.Regs.{Regs}
use Rattle.vm_facts.specs.declared.entry.Entry.{Entry}
use Rattle.vm_facts.specs.declared.entry.Entry.TheVariants as entries
use Rattle.flat_state.specs.Journal.{append}
use Rattle.flat_state.specs.PageNames.{number_of, pages_from, same_page}
use Rattle.page_model.specs.Placement.{Placement, Residence, Due, CopyOf, due_of_page}
use Rattle.page_model.specs.Moves.{reclaim, done}
use Rattle.page_model.specs.Hands.{hand_move, hand_moves}
use Rattle.page_model.specs.Place.{filled, put_step}
use Rattle.page_model.specs.Reading.{read_errand}
use Rattle.page_model.specs.Swapper.{is_out, residence_of}
use Rattle.page_model.specs.Ownership.{OneOwner}
use Rattle.kernel_model.specs.Stands.{holds_some, Stands}
use Rattle.kernel_model.specs.Kernel.{Kernel, StartBytes, starts_after, note_step, get_step, reclaim_step, hand_step, push_step, done_step, zero_step, copy_step, out_step, in_step}
use Rattle.kernel_model.specs.Sound.{is_start, has_start, Sound, lives}
use Rattle.page_laws.proofs.Lists.Pages.{page_cases}
use Rattle.page_laws.proofs.Moves.Stays.{Steady, Stays, move_stays, done_steady}
use Rattle.page_laws.proofs.Bytes.Others.{put_steady}
use Rattle.page_laws.proofs.Bytes.Pages.{due_other}
use Rattle.kernel_laws.proofs.Machine.Shapes.{Shaped, shaped_self, sizes_kept, filled_shaped, get_run_shaped, reclaim_shaped, put_step_shaped, moves_shaped, done_shaped}
use Rattle.kernel_laws.proofs.Machine.Swaps.{out_other, out_same}

-- Steps that leave what is due, who is out and what is kept.

-- what is kept and due stays, and so do the texts and who is out
pub stands_still : (images : List NamedImage) (k l : Kernel) (flat : FlatState) → l.starts ≡ k.starts → l.place.due ≡ k.place.due
    → Shaped k.place l.place → Stands images k flat → Stands images l flat
stands_still images k l flat ss ds sh s = record {
  starts = λ q e. ap (λ (x : List StartBytes). has_start x q) ss ∙ s.starts q (ap (λ (x : List Due). is_start (due_of_page x q)) (sym ds) ∙ e);
  texts = λ i. s.texts i ∙ ap (λ (n : ℕ). 1024 * n) (sym (sizes_kept k.place l.place sh (Text i 0)));
  out = λ pid e. s.out pid (ap (λ (rs : List Residence). (residence_of rs pid).out) (sym sh.residents) ∙ e);
}

pub reclaim_due : (p : Placement) (v : Page) → (reclaim p v).due ≡ p.due
reclaim_due p v = (reclaim_kept rest_by_puts p v).due

pub moves_due : (n : ℕ) (p : Placement) (locked : List Page) → (hand_moves p locked n).due ≡ p.due
moves_due zero p locked = refl
moves_due (suc n) p locked = let s : Stays p (hand_move p locked) = move_stays p locked in moves_due n (hand_move p locked) locked ∙ s.due

module _ (images : List NamedImage) (k : Kernel) (flat : FlatState) where
  pub note_stands : (e : Entry) → Stands images k flat → Stands images (note_step k e) flat
  note_stands e s = stands_still images k (note_step k e) flat refl refl (shaped_self k.place) s

  pub get_stands : (q : Page) (lo n : ℕ) → Stands images k flat → Stands images (get_step k q lo n) flat
  get_stands q lo n s = stands_still images k (get_step k q lo n) flat refl (get_due_list k.place (read_errand k.place q) (pages_from q lo n))
      (get_run_shaped k.place (read_errand k.place q) (pages_from q lo n)) s

  pub reclaim_stands : (q : Page) → Stands images k flat → Stands images (reclaim_step k q) flat
  reclaim_stands q s = stands_still images k (reclaim_step k q) flat refl (reclaim_due k.place q) (reclaim_shaped k.place q) s

  pub hand_stands : (locked : List Page) → Stands images k flat → Stands images (hand_step k locked) flat
  hand_stands locked s = stands_still images k (hand_step k locked) flat refl (moves_due 1 k.place locked) (moves_shaped 1 k.place locked) s

  pub push_stands : (q : Page) (n : ℕ) → Stands images k flat → Stands images (push_step k q n) flat
  push_stands q n s = let t : Steady k.place (put_step k.place q (pages_from q (number_of q) n)) = put_steady k.place q (pages_from q (number_of q) n) in
      stands_still images k (push_step k q n) flat refl t.due (put_step_shaped k.place q (pages_from q (number_of q) n)) s

pub done_stands : (size : ℕ) (images : List NamedImage) (k : Kernel) (flat : FlatState) (read : List (List ℕ)) → Sound size k → Stands images k flat
    → Stands images (done_step k read) flat
done_stands size images k flat read so s =
    let o : OneOwner size (lives k.processes) k.place k.holdings = so.owner in
    let t : Steady k.place (done k.place) = done_steady k.place o.frames in
    stands_still images k (done_step k read) flat refl t.due (done_shaped k.place) s

-- Fills.

after_start : (ss : List StartBytes) (v w : Page) → has_start ss w ≡ false → has_start (starts_after ss v) w ≡ false
after_start [] v w e = refl
after_start (s ∷ ss) v w e = go (same_page s.page v) (same_page s.page w) e (after_start ss v w)
  where
    go : (b c : Bool) → (c || has_start ss w) ≡ false → (has_start ss w ≡ false → has_start (starts_after ss v) w ≡ false)
        → has_start (cond (not b) (s ∷ starts_after ss v) (starts_after ss v)) w ≡ false
    go b true h ih = absurd cc
    go true false h ih = ih h
    go false false h ih = head (same_page s.page w) refl (ih h)
      where
        head : (d : Bool) → same_page s.page w ≡ d → has_start (starts_after ss v) w ≡ false → (same_page s.page w || has_start (starts_after ss v) w) ≡ false
        head true i y = absurd (let j : (same_page s.page w || has_start ss w) ≡ true = ap (λ (x : Bool). x || has_start ss w) i in let z : true ≡ false = sym j ∙ e in cc)
        head false i y = ap (λ (x : Bool). x || has_start (starts_after ss v) w) i ∙ y

after_gone : (ss : List StartBytes) (v : Page) → has_start (starts_after ss v) v ≡ false
after_gone [] v = refl
after_gone (s ∷ ss) v = go (same_page s.page v) refl (after_gone ss v)
  where
    go : (b : Bool) → same_page s.page v ≡ b → has_start (starts_after ss v) v ≡ false → has_start (cond (not b) (s ∷ starts_after ss v) (starts_after ss v)) v ≡ false
    go true e ih = ih
    go false e ih = ap (λ (x : Bool). x || has_start (starts_after ss v) v) e ∙ ih

pub zero_stands : (images : List NamedImage) (k : Kernel) (flat : FlatState) (q : Page) → Stands images k flat → Stands images (zero_step k q) flat
zero_stands images k flat q s = record {
  starts = λ w e. elim (page_cases w q) [
    | inl i ↦ ap (has_start (starts_after k.starts q)) i ∙ after_gone k.starts q
    | inr n ↦ after_start k.starts q w (s.starts w (ap is_start (sym (due_other k.place.due q w n)) ∙ e))
  ];
  texts = λ i. s.texts i ∙ ap (λ (n : ℕ). 1024 * n) (sym (sizes_kept k.place (filled k.place q) (filled_shaped k.place q) (Text i 0)));
  out = λ pid e. s.out pid (let sh : Shaped k.place (filled k.place q) = filled_shaped k.place q in ap (λ (rs : List Residence). (residence_of rs pid).out) (sym sh.residents) ∙ e);
}

-- a page that is copied has nothing that is kept for it
pub copy_stands : (images : List NamedImage) (k : Kernel) (flat : FlatState) (q r parent : Page) → due_of_page k.place.due q ≡ Some (CopyOf r parent)
    → Stands images k flat → Stands images (copy_step k q) flat
copy_stands images k flat q r parent d s = record {
  starts = λ w e. elim (page_cases w q) [
    | inl i ↦ s.starts w (ap (λ (x : Page). is_start (due_of_page k.place.due x)) i ∙ ap is_start d)
    | inr n ↦ s.starts w (ap is_start (sym (due_other k.place.due q w n)) ∙ e)
  ];
  texts = λ i. s.texts i ∙ ap (λ (n : ℕ). 1024 * n) (sym (sizes_kept k.place (filled k.place q) (filled_shaped k.place q) (Text i 0)));
  out = λ pid e. s.out pid (let sh : Shaped k.place (filled k.place q) = filled_shaped k.place q in ap (λ (rs : List Residence). (residence_of rs pid).out) (sym sh.residents) ∙ e);
}

-- Processes that go out and come in.

pub out_stands : (images : List NamedImage) (k : Kernel) (flat : FlatState) (pid : ℕ) (q : Process) (s : Space) → process_of flat pid ≡ Some q
    → q.holding ≡ Holds s → Stands images k flat → Stands images (out_step k pid) flat
out_stands images k flat pid q s f h st = record {
  starts = st.starts;
  texts = st.texts;
  out = λ n e. elim (cases_eq n pid) [
    | inl i ↦ ap (λ (m : ℕ). holds_some (process_of flat m)) i ∙ ap holds_some f ∙ ap holds_space h
    | inr d ↦ st.out n (sym (out_other k.place.residents pid n true (length (append k.journal (entries.SwapOut pid))) d) ∙ e)
  ];
}

pub in_stands : (images : List NamedImage) (k : Kernel) (flat : FlatState) (pid : ℕ) (regs : Regs) → Stands images k flat
    → Stands images (in_step k pid regs) flat
in_stands images k flat pid regs st = record {
  starts = st.starts;
  texts = st.texts;
  out = λ n e. elim (cases_eq n pid) [
    | inl i ↦ absurd (let z : is_out (in_step k pid regs).place pid ≡ false = elim (out_same k.place.residents pid false (length (append k.journal (entries.SwapIn pid)))) [
      | inl y ↦ y
      | inr y ↦ y.0
    ] in
        let w : false ≡ true = sym z ∙ ap (is_out (in_step k pid regs).place) (sym i) ∙ e in cc)
    | inr d ↦ st.out n (sym (out_other k.place.residents pid n false (length (append k.journal (entries.SwapIn pid))) d) ∙ e)
  ];
}
