-- Spaces that come, and texts that nobody shares any more, keep the flat memory.
use Rattle.std.proofs.Common.{◌≡◌, ◌≢◌, ◌⊎◌, inl, inr, ℕ, zero, suc, ◌+◌, ◌<◌, Bool, true, false, cond, List, [], ◌∷◌, ◌++◌, length, get_or, map, Option, Some, None, refl, sym, ap, ◌∙◌, subst, arith}
use Rattle.std.proofs.lemmas.Bool.{cases_eq}
use Rattle.vm_facts.specs.declared.page.Page.{Page}
use Rattle.vm_facts.specs.declared.page.Page.TheVariants.{Data, Stack, Text}
use Rattle.vm_facts.specs.declared.page.PageState.{PageState}
use Rattle.vm_facts.specs.declared.page.PageState.TheVariants.{Unfilled, Valid, Invalid, Coming, Going, OnSwap}
use Rattle.aout_image.specs.declared.Image.{Image}
use Rattle.aout_image.specs.Image.{image_data_pages}
use Rattle.page_model.specs.Pages.{Slot, Filling, Zeros, OfImage, no_slot, SpacePages, data_in, stack_in, frame_of, is_dirty_by}
use Rattle.page_model.specs.PageNames.{number_of, same_page}
use Rattle.vm_facts.specs.Lists.{times}
use Rattle.page_model.specs.Placement.{Placement, Due, Start, CopyOf, due_page, slots_of, slot_of, state_of, filling_of, is_dirty, due_of_page, image_of, sharers, IsThere, unfilled, unfilled_data, data_filling, new_pages, put}
use Rattle.page_model.specs.Moves.{turn, leave_by, leave_page, leave_all, listed, listed_of}
use Rattle.page_model.specs.Place.{child_slot, child_slot_by, copy_due, copies_from, fork_space, enter_space, leave_text, leave_text_by, pages_of_text}
use Rattle.page_model.specs.Conditions.{EachPage, IsNew}
use Rattle.page_model.specs.Ownership.{OwnsFrames}
use Rattle.page_model.specs.PageBytes.{Bytes, bytes_in, IsInFrame, KeepsUnfilled, KeepsBy, Keeps, CouplesPages, SameBytes, Copies, FillsBy}
use Rattle.page_laws.proofs.Lists.Pages.{page_cases, put_state, put_mark, put_other, put_length}
use Rattle.page_model.proofs.PageNames.{same_page_is, same_page_self}
use Rattle.page_laws.proofs.Moves.Steps.{page_in}
use Rattle.page_laws.proofs.Ownership.Pages.{retire_turns}
use Rattle.page_laws.proofs.Lists.Runs.{pages_from_each}
use Rattle.page_laws.proofs.Ownership.Spaces.{remark_turns, leave_page_owner}
use Rattle.page_laws.proofs.Ownership.Changes.{added_other, added_same}
use Rattle.page_laws.proofs.Bytes.Couples.{Unmoved}
use Rattle.page_laws.proofs.Bytes.Pages.{beside_still, turn_coupled, marked, keeps_at, seated_keeps}
use Rattle.page_laws.proofs.Bytes.Changes.{still_unmoved, changed_coupled, due_none}

-- Text that nobody shares.

forgotten_coupled : (p : Placement) (image n : ℕ) (b : Bytes) → CouplesPages p b → CouplesPages (put p (Text image n) Unfilled false) b
forgotten_coupled p image n b k =
    let one : (w : Page) → IsThere (put p (Text image n) Unfilled false) w → (IsThere p w × Unmoved p (put p (Text image n) Unfilled false) b b w)
    ⊎ Keeps (put p (Text image n) Unfilled false) b w = λ w there.
    let was : IsThere p w = (let h = put_length p (Text image n) Unfilled false w in omega arith) in
    elim (page_cases w (Text image n)) [
      | inl e ↦ inr (subst (Keeps (put p (Text image n) Unfilled false) b) (sym e)
          (subst (KeepsBy (put p (Text image n) Unfilled false) b (Text image n)) (sym (put_state p (Text image n) Unfilled false (subst (IsThere p) e was)))
          (subst (λ (d : Option Due). KeepsUnfilled b (Text image n) d OfImage) (sym (k.text_due image n)) (k.text image n), put_mark p (Text image n) Unfilled false (subst (IsThere p) e was))))
      | inr d ↦ inl (
        was,
        record {
          slot = put_other p (Text image n) Unfilled false w d;
          due = refl;
          frames = λ g h. (refl, refl);
          swap = refl;
          file = refl;
          start = refl;
          memory = refl;
          copied = inl (λ x. refl);
        },
      )
    ] in
    changed_coupled p (put p (Text image n) Unfilled false) b b k one k.text k.text_due

leave_page_coupled : (p : Placement) (image n : ℕ) (b : Bytes) → OwnsFrames p → CouplesPages p b → CouplesPages (leave_page p (Text image n)) b
leave_page_coupled p image n b o k = go (state_of p (Text image n)) (listed p (Text image n)) refl refl
  where
    unsaved : (f : ℕ) → bytes_in b f ≡ b.memory (Text image n) → IsInFrame b (is_dirty_by (Text image n) false) f (Text image n)
    unsaved f h = record { here = h; there = λ e. absurd cc }

    seat : (f : ℕ) → (state_of p (Text image n) ≡ Valid f) ⊎ ((state_of p (Text image n) ≡ Invalid f) × (times f p.free ≡ 0)) → frame_of (state_of p (Text image n)) ≡ Some f
        → CouplesPages (turn p (Text image n) (Invalid f) false (p.free ++ f ∷ []) p.transfers) b
    seat f s e = turn_coupled p (Text image n) f (Invalid f) false (p.free ++ f ∷ []) p.transfers b b o (retire_turns p (Text image n) f false o (record { state = s }) refl)
        (beside_still p (turn p (Text image n) (Invalid f) false (p.free ++ f ∷ []) p.transfers) (Text image n) f b refl (λ g x. refl)) k
        (marked p (Text image n) f (Invalid f) false (p.free ++ f ∷ []) p.transfers b (page_in p (Text image n) f e)
        (unsaved f (let i : IsInFrame b (is_dirty p (Text image n)) f (Text image n) = seated_keeps p b (Text image n) f k (record { state = s }) in i.here)))

    go : (s : PageState) (m : ℕ) → state_of p (Text image n) ≡ s → listed p (Text image n) ≡ m → CouplesPages (leave_by p (Text image n) s m) b
    go (Valid f) m e h = seat f (inl e) (ap frame_of e)
    go (Invalid f) zero e h = seat f (inr (e, ap (λ (s : PageState). listed_of p (frame_of s)) (sym e) ∙ h)) (ap frame_of e)
    go (Invalid f) (suc m) e h = turn_coupled p (Text image n) f (Invalid f) false p.free p.transfers b b o (remark_turns p (Text image n) f m o e)
        (beside_still p (turn p (Text image n) (Invalid f) false p.free p.transfers) (Text image n) f b refl (λ g x. refl)) k
        (marked p (Text image n) f (Invalid f) false p.free p.transfers b (page_in p (Text image n) f (ap frame_of e))
        (unsaved f (let i : IsInFrame b (is_dirty p (Text image n)) f (Text image n) = keeps_at p b (Text image n) (Invalid f) k (page_in p (Text image n) f (ap frame_of e)) e in i.here)))
    go OnSwap m e h = forgotten_coupled p image n b k
    go Unfilled m e h = forgotten_coupled p image n b k
    go (Coming f) m e h = k
    go (Going f) m e h = k

-- a page of this text
abbrev pub IsOfText : ℕ → Page → Type 0
IsOfText image q = (n : ℕ) × (q ≡ Text image n)

leave_all_coupled : (qs : List Page) (p : Placement) (image : ℕ) (b : Bytes) → OwnsFrames p → EachPage (IsOfText image) qs → CouplesPages p b
    → CouplesPages (leave_all p qs) b
leave_all_coupled [] p image b o t k = k
leave_all_coupled (v ∷ qs) p image b o t k = leave_all_coupled qs (leave_page p v) image b (leave_page_owner p v o) t.1
    (subst (λ (x : Page). CouplesPages (leave_page p x) b) (sym t.0.1) (leave_page_coupled p image t.0.0 b o k))

pub leave_text_coupled : (p : Placement) (image : ℕ) (b : Bytes) → OwnsFrames p → CouplesPages p b → CouplesPages (leave_text p image) b
leave_text_coupled p image b o k = go (sharers p image)
  where
    go : (n : ℕ) → CouplesPages (leave_text_by p image n) b
    go zero = leave_all_coupled (pages_of_text p image) p image b o (pages_from_each (IsOfText image) (Text image 0) 0 (length (slots_of p (Text image 0))) (λ w l m. (w, refl))) k
    go (suc n) = k

-- A new space.

-- what is known of a page once a space was added
pub added_coupled : (p : Placement) (x : SpacePages) (due : List Due) (b c : Bytes) → CouplesPages p b → IsNew p x.sid → p.due ≡ []
    → ((w : Page) → IsThere p w → SameBytes b c w × (due_of_page due w ≡ None))
    → ((v : ℕ) → v < length x.data_pages → Keeps (record p { spaces = p.spaces ++ x ∷ []; due = due }) c (Data x.sid v))
    → ((v : ℕ) → v < length x.stack_pages → Keeps (record p { spaces = p.spaces ++ x ∷ []; due = due }) c (Stack x.sid v))
    → ((image v : ℕ) → c.file (Text image v) ≡ c.memory (Text image v)) → ((image v : ℕ) → due_of_page due (Text image v) ≡ None)
    → CouplesPages (record p { spaces = p.spaces ++ x ∷ []; due = due }) c
added_coupled p x due b c k new none old datas stacks text tdue = changed_coupled p q b c k one text tdue
  where
    q : Placement
    q = record p { spaces = p.spaces ++ x ∷ []; due = due }

    still : (w : Page) → slots_of q w ≡ slots_of p w → IsThere q w → IsThere p w × Unmoved p q b c w
    still w e there =
        let was : IsThere p w = (let h = ap length e in omega arith) in
        let s = old w was in
        (was, still_unmoved p q b c w (ap (λ (xs : List Slot). get_or xs (number_of w) no_slot) e) refl s.1 (due_none p.due w none) s.0)

    one : (w : Page) → IsThere q w → (IsThere p w × Unmoved p q b c w) ⊎ Keeps q c w
    one (Data t v) there = elim (cases_eq t x.sid) [
      | inl e ↦ inr (subst (λ (a : ℕ). Keeps q c (Data a v)) (sym e) (datas v
          (subst (λ (o : Option SpacePages). v < length (data_in o)) (added_same x.sid p.spaces x refl new) (subst (λ (a : ℕ). IsThere q (Data a v)) e there))))
      | inr n ↦ inl (still (Data t v) (ap data_in (added_other t p.spaces x (λ h. n (sym h)))) there)
    ]
    one (Stack t v) there = elim (cases_eq t x.sid) [
      | inl e ↦ inr (subst (λ (a : ℕ). Keeps q c (Stack a v)) (sym e) (stacks v
          (subst (λ (o : Option SpacePages). v < length (stack_in o)) (added_same x.sid p.spaces x refl new) (subst (λ (a : ℕ). IsThere q (Stack a v)) e there))))
      | inr n ↦ inl (still (Stack t v) (ap stack_in (added_other t p.spaces x (λ h. n (sym h)))) there)
    ]
    one (Text i v) there = inl (still (Text i v) refl there)

-- What is due of a child's pages.

due_skip : (ds es : List Due) (q : Page) → due_of_page ds q ≡ None → due_of_page (ds ++ es) q ≡ due_of_page es q
due_skip [] es q e = refl
due_skip (d ∷ ds) es q e = go (same_page (due_page d) q) e (due_skip ds es q)
  where
    go : (b : Bool) → cond b (Some d) (due_of_page ds q) ≡ None → (due_of_page ds q ≡ None → due_of_page (ds ++ es) q ≡ due_of_page es q)
        → cond b (Some d) (due_of_page (ds ++ es) q) ≡ due_of_page es q
    go true h k = absurd (let z : Some d ≡ None = h in cc)
    go false h k = k h

-- different numbers of one segment are different pages
abbrev pub Numbers : (ℕ → Page) → Type 0
Numbers make = (a b : ℕ) → make a ≡ make b → a ≡ b

pub apart_page : (q r : Page) → q ≢ r → same_page q r ≡ false
apart_page q r n = go (same_page q r) refl
  where
    go : (b : Bool) → same_page q r ≡ b → b ≡ false
    go true e = absurd (n (same_page_is q r e))
    go false e = refl

copies_later : (child parent : ℕ → Page) → Numbers child → (v w : ℕ) (xs : List Slot) → w < v → due_of_page (copies_from child parent v xs) (child w) ≡ None
copies_later child parent num v w [] l = refl
copies_later child parent num v w (x ∷ xs) l = go x.state (copies_later child parent num (v + 1) w xs (omega arith))
  where
    one : same_page (child v) (child w) ≡ false
    one = apart_page (child v) (child w) (λ e. absurd (let h = num v w e in omega arith))

    go : (s : PageState) → due_of_page (copies_from child parent (v + 1) xs) (child w) ≡ None → due_of_page (copy_due (child v) (parent v) s ++ copies_from child parent (v + 1) xs) (child w) ≡ None
    go Unfilled ih = ih
    go (Valid f) ih = ap (λ (b : Bool). cond b (Some (CopyOf (child v) (parent v))) (due_of_page (copies_from child parent (v + 1) xs) (child w))) one ∙ ih
    go (Invalid f) ih = ap (λ (b : Bool). cond b (Some (CopyOf (child v) (parent v))) (due_of_page (copies_from child parent (v + 1) xs) (child w))) one ∙ ih
    go (Coming f) ih = ap (λ (b : Bool). cond b (Some (CopyOf (child v) (parent v))) (due_of_page (copies_from child parent (v + 1) xs) (child w))) one ∙ ih
    go (Going f) ih = ap (λ (b : Bool). cond b (Some (CopyOf (child v) (parent v))) (due_of_page (copies_from child parent (v + 1) xs) (child w))) one ∙ ih
    go OnSwap ih = ap (λ (b : Bool). cond b (Some (CopyOf (child v) (parent v))) (due_of_page (copies_from child parent (v + 1) xs) (child w))) one ∙ ih

-- a page of the parent that was never filled isn't copied; each other is
abbrev pub DueOf : Page → Page → PageState → Option Due
DueOf child parent Unfilled = None
DueOf child parent _ = Some (CopyOf child parent)

copies_here : (child parent : ℕ → Page) (s : PageState) (v : ℕ) (rest : List Due) → due_of_page rest (child v) ≡ None
    → due_of_page (copy_due (child v) (parent v) s ++ rest) (child v) ≡ DueOf (child v) (parent v) s
copies_here child parent Unfilled v rest e = e
copies_here child parent _ v rest e = ap (λ (b : Bool). cond b (Some (CopyOf (child v) (parent v))) (due_of_page rest (child v))) (same_page_self (child v))

copies_skip : (child parent : ℕ → Page) → Numbers child → (s : PageState) (v w : ℕ) (rest : List Due) → w ≢ v
    → due_of_page (copy_due (child v) (parent v) s ++ rest) (child w) ≡ due_of_page rest (child w)
copies_skip child parent num s v w rest n = go s
  where
    one : same_page (child v) (child w) ≡ false
    one = apart_page (child v) (child w) (λ e. n (sym (num v w e)))

    go : (s : PageState) → due_of_page (copy_due (child v) (parent v) s ++ rest) (child w) ≡ due_of_page rest (child w)
    go Unfilled = refl
    go (Valid f) = ap (λ (b : Bool). cond b (Some (CopyOf (child v) (parent v))) (due_of_page rest (child w))) one
    go (Invalid f) = ap (λ (b : Bool). cond b (Some (CopyOf (child v) (parent v))) (due_of_page rest (child w))) one
    go (Coming f) = ap (λ (b : Bool). cond b (Some (CopyOf (child v) (parent v))) (due_of_page rest (child w))) one
    go (Going f) = ap (λ (b : Bool). cond b (Some (CopyOf (child v) (parent v))) (due_of_page rest (child w))) one
    go OnSwap = ap (λ (b : Bool). cond b (Some (CopyOf (child v) (parent v))) (due_of_page rest (child w))) one

pub copies_at : (child parent : ℕ → Page) → Numbers child → (xs : List Slot) (v i : ℕ) → i < length xs
    → due_of_page (copies_from child parent v xs) (child (v + i)) ≡ DueOf (child (v + i)) (parent (v + i)) (get_or xs i no_slot).state
copies_at child parent num [] v i l = absurd (omega arith)
copies_at child parent num (x ∷ xs) v zero l = let e : v + 0 ≡ v = omega arith in
    subst (λ (w : ℕ). due_of_page (copies_from child parent v (x ∷ xs)) (child w) ≡ DueOf (child w) (parent w) x.state) (sym e)
    (copies_here child parent x.state v (copies_from child parent (v + 1) xs) (copies_later child parent num (v + 1) v xs (omega arith)))
copies_at child parent num (x ∷ xs) v (suc i) l = let e : (v + 1) + i ≡ v + suc i = omega arith in
    copies_skip child parent num x.state v (v + suc i) (copies_from child parent (v + 1) xs) (λ h. absurd (omega arith))
    ∙ subst (λ (w : ℕ). due_of_page (copies_from child parent (v + 1) xs) (child w) ≡ DueOf (child w) (parent w) (get_or xs i no_slot).state) e (copies_at child parent num xs (v + 1) i (omega arith))

copies_start : (child parent : ℕ → Page) → Numbers child → (xs : List Slot) (i : ℕ) → i < length xs
    → due_of_page (copies_from child parent 0 xs) (child i) ≡ DueOf (child i) (parent i) (get_or xs i no_slot).state
copies_start child parent num xs i l = let e : 0 + i ≡ i = omega arith in
    subst (λ (w : ℕ). due_of_page (copies_from child parent 0 xs) (child w) ≡ DueOf (child w) (parent w) (get_or xs i no_slot).state) e (copies_at child parent num xs 0 i l)

-- copies name no page of another kind
copies_apart : (child parent : ℕ → Page) (q : Page) → ((v : ℕ) → child v ≢ q) → (v : ℕ) (xs : List Slot) → due_of_page (copies_from child parent v xs) q ≡ None
copies_apart child parent q n v [] = refl
copies_apart child parent q n v (x ∷ xs) = go x.state (copies_apart child parent q n (v + 1) xs)
  where
    one : same_page (child v) q ≡ false
    one = apart_page (child v) q (n v)

    go : (s : PageState) → due_of_page (copies_from child parent (v + 1) xs) q ≡ None → due_of_page (copy_due (child v) (parent v) s ++ copies_from child parent (v + 1) xs) q ≡ None
    go Unfilled ih = ih
    go (Valid f) ih = ap (λ (b : Bool). cond b (Some (CopyOf (child v) (parent v))) (due_of_page (copies_from child parent (v + 1) xs) q)) one ∙ ih
    go (Invalid f) ih = ap (λ (b : Bool). cond b (Some (CopyOf (child v) (parent v))) (due_of_page (copies_from child parent (v + 1) xs) q)) one ∙ ih
    go (Coming f) ih = ap (λ (b : Bool). cond b (Some (CopyOf (child v) (parent v))) (due_of_page (copies_from child parent (v + 1) xs) q)) one ∙ ih
    go (Going f) ih = ap (λ (b : Bool). cond b (Some (CopyOf (child v) (parent v))) (due_of_page (copies_from child parent (v + 1) xs) q)) one ∙ ih
    go OnSwap ih = ap (λ (b : Bool). cond b (Some (CopyOf (child v) (parent v))) (due_of_page (copies_from child parent (v + 1) xs) q)) one ∙ ih

pub due_both : (ds es : List Due) (q : Page) → due_of_page ds q ≡ None → due_of_page es q ≡ None → due_of_page (ds ++ es) q ≡ None
due_both ds es q a b = due_skip ds es q a ∙ b

pub due_first : (ds es : List Due) (q : Page) → due_of_page es q ≡ None → due_of_page (ds ++ es) q ≡ due_of_page ds q
due_first [] es q e = e
due_first (d ∷ ds) es q e = ap (λ (o : Option Due). cond (same_page (due_page d) q) (Some d) o) (due_first ds es q e)

-- Fork.

pub map_at : (xs : List Slot) (v : ℕ) → v < length xs → get_or (map child_slot xs) v no_slot ≡ child_slot (get_or xs v no_slot)
map_at [] v l = absurd (omega arith)
map_at (x ∷ xs) zero l = refl
map_at (x ∷ xs) (suc v) l = map_at xs v (omega arith)

pub map_length : (xs : List Slot) → length (map child_slot xs) ≡ length xs
map_length [] = refl
map_length (x ∷ xs) = ap suc (map_length xs)

child_unfilled : (b c : Bytes) (child parent : Page) (x : Filling) → Copies b c child parent → KeepsUnfilled b parent None x → KeepsUnfilled c child None x
child_unfilled b c child parent Zeros e k = k ∙ sym e.memory
child_unfilled b c child parent OfImage e k = e.file ∙ k ∙ sym e.memory

child_keeps : (b c : Bytes) (child parent : Page) (x : Slot) (s : PageState) → Copies b c child parent → c.memory parent ≡ b.memory parent
    → (s ≡ Unfilled → KeepsUnfilled b parent None x.filling)
    → KeepsUnfilled c child (DueOf child parent s) (child_slot_by x s).filling
child_keeps b c child parent x Unfilled e m k = child_unfilled b c child parent x.filling e (k refl)
child_keeps b c child parent x _ e m k = m ∙ sym e.memory

child_state : (x : Slot) (s : PageState) → (child_slot_by x s).state ≡ Unfilled
child_state x Unfilled = refl
child_state x _ = refl

data_numbers : (sid : ℕ) → Numbers (Data sid)
data_numbers sid a b e = ap number_of e

stack_numbers : (sid : ℕ) → Numbers (Stack sid)
stack_numbers sid a b e = ap number_of e

not_new : (p : Placement) (sid : ℕ) (w : Page) → IsNew p sid → IsThere p w → ((v : ℕ) → Data sid v ≢ w) × ((v : ℕ) → Stack sid v ≢ w)
not_new p sid w n there = (
  (λ v e. absurd (let h : v < length (slots_of p (Data sid v)) = subst (IsThere p) (sym e) there in let k = ap (λ (o : Option SpacePages). length (data_in o)) n in omega arith)),
  (λ v e. absurd (let h : v < length (slots_of p (Stack sid v)) = subst (IsThere p) (sym e) there in let k = ap (λ (o : Option SpacePages). length (stack_in o)) n in omega arith)),
)

pub fork_coupled : (p : Placement) (parent child : ℕ) (b c : Bytes) → CouplesPages p b → IsNew p child → p.due ≡ []
    → ((w : Page) → IsThere p w → SameBytes b c w)
    → ((v : ℕ) → Copies b c (Data child v) (Data parent v)) → ((v : ℕ) → Copies b c (Stack child v) (Stack parent v))
    → ((image v : ℕ) → c.file (Text image v) ≡ c.memory (Text image v)) → CouplesPages (fork_space p parent child) c
fork_coupled p parent child b c k new none same datas stacks text =
    let q : Placement = fork_space p parent child in
    let x : SpacePages =
    record { sid = child; image = image_of p parent; data_pages = map child_slot (slots_of p (Data parent 0)); stack_pages = map child_slot (slots_of p (Stack parent 0)) } in
    let ds : List Due = copies_from (Data child) (Data parent) 0 (slots_of p (Data parent 0)) in
    let ss : List Due = copies_from (Stack child) (Stack parent) 0 (slots_of p (Stack parent 0)) in
    let data_keeps : (v : ℕ) → v < length x.data_pages → Keeps q c (Data child v) = λ v l.
    let within : v < length (slots_of p (Data parent 0)) = (let h = map_length (slots_of p (Data parent 0)) in omega arith) in
    let slot : slot_of q (Data child v) ≡ child_slot (slot_of p (Data parent v)) =
    ap (λ (o : Option SpacePages). get_or (data_in o) v no_slot) (added_same child p.spaces x refl new) ∙ map_at (slots_of p (Data parent 0)) v within in
    let due : due_of_page q.due (Data child v) ≡ DueOf (Data child v) (Data parent v) (state_of p (Data parent v)) =
    due_first ds ss (Data child v) (copies_apart (Stack child) (Stack parent) (Data child v) (λ n e. absurd cc) 0 (slots_of p (Stack parent 0)))
    ∙ copies_start (Data child) (Data parent) (data_numbers child) (slots_of p (Data parent 0)) v within in
    subst (KeepsBy q c (Data child v)) (sym (ap (λ (y : Slot). y.state) slot ∙ child_state (slot_of p (Data parent v)) (state_of p (Data parent v)))) (
      subst (λ (o : Option Due). KeepsUnfilled c (Data child v) o (filling_of q (Data child v))) (sym due)
          (subst (KeepsUnfilled c (Data child v) (DueOf (Data child v) (Data parent v) (state_of p (Data parent v)))) (sym (ap (λ (y : Slot). y.filling) slot))
          (child_keeps b c (Data child v) (Data parent v) (slot_of p (Data parent v)) (state_of p (Data parent v)) (datas v)
          (let z : SameBytes b c (Data parent v) = same (Data parent v) within in z.memory)
          (λ e. let y : KeepsUnfilled b (Data parent v) (due_of_page p.due (Data parent v)) (filling_of p (Data parent v)) × Unit {0} = keeps_at p b (Data parent v) Unfilled k within e in
          subst (λ (o : Option Due). KeepsUnfilled b (Data parent v) o (filling_of p (Data parent v))) (due_none p.due (Data parent v) none) y.0))),
      tt,
    ) in
    let stack_keeps : (v : ℕ) → v < length x.stack_pages → Keeps q c (Stack child v) = λ v l.
    let within : v < length (slots_of p (Stack parent 0)) = (let h = map_length (slots_of p (Stack parent 0)) in omega arith) in
    let slot : slot_of q (Stack child v) ≡ child_slot (slot_of p (Stack parent v)) =
    ap (λ (o : Option SpacePages). get_or (stack_in o) v no_slot) (added_same child p.spaces x refl new) ∙ map_at (slots_of p (Stack parent 0)) v within in
    let due : due_of_page q.due (Stack child v) ≡ DueOf (Stack child v) (Stack parent v) (state_of p (Stack parent v)) =
    due_skip ds ss (Stack child v) (copies_apart (Data child) (Data parent) (Stack child v) (λ n e. absurd cc) 0 (slots_of p (Data parent 0)))
    ∙ copies_start (Stack child) (Stack parent) (stack_numbers child) (slots_of p (Stack parent 0)) v within in
    subst (KeepsBy q c (Stack child v)) (sym (ap (λ (y : Slot). y.state) slot ∙ child_state (slot_of p (Stack parent v)) (state_of p (Stack parent v)))) (
      subst (λ (o : Option Due). KeepsUnfilled c (Stack child v) o (filling_of q (Stack child v))) (sym due)
          (subst (KeepsUnfilled c (Stack child v) (DueOf (Stack child v) (Stack parent v) (state_of p (Stack parent v)))) (sym (ap (λ (y : Slot). y.filling) slot))
          (child_keeps b c (Stack child v) (Stack parent v) (slot_of p (Stack parent v)) (state_of p (Stack parent v)) (stacks v)
          (let z : SameBytes b c (Stack parent v) = same (Stack parent v) within in z.memory)
          (λ e. let y : KeepsUnfilled b (Stack parent v) (due_of_page p.due (Stack parent v)) (filling_of p (Stack parent v)) × Unit {0} = keeps_at p b (Stack parent v) Unfilled k within e in
          subst (λ (o : Option Due). KeepsUnfilled b (Stack parent v) o (filling_of p (Stack parent v))) (due_none p.due (Stack parent v) none) y.0))),
      tt,
    ) in
    added_coupled p x (q.due) b c k new none
    (λ w there. let n = not_new p child w new there in
    (same w there, due_both ds ss w (copies_apart (Data child) (Data parent) w n.0 0 (slots_of p (Data parent 0))) (copies_apart (Stack child) (Stack parent) w n.1 0 (slots_of p (Stack parent 0)))))
    data_keeps stack_keeps text
    (λ i v. due_both ds ss (Text i v) (copies_apart (Data child) (Data parent) (Text i v) (λ n e. absurd cc) 0 (slots_of p (Data parent 0)))
    (copies_apart (Stack child) (Stack parent) (Text i v) (λ n e. absurd cc) 0 (slots_of p (Stack parent 0))))

-- A new image.

fills_keeps : (c : Bytes) (q : Page) (x : Filling) → FillsBy c q x → KeepsUnfilled c q None x
fills_keeps c q Zeros k = k
fills_keeps c q OfImage k = k

pub unfilled_at : (facts : Image) (lo n v : ℕ) → v < n → get_or (unfilled_data facts lo n) v no_slot ≡ unfilled (data_filling facts (lo + v))
unfilled_at facts lo zero v l = absurd (omega arith)
unfilled_at facts lo (suc n) zero l = ap (λ (w : ℕ). unfilled (data_filling facts w)) (let e : lo ≡ lo + 0 = omega arith in e)
unfilled_at facts lo (suc n) (suc v) l = unfilled_at facts (lo + 1) n v (omega arith) ∙ ap (λ (w : ℕ). unfilled (data_filling facts w)) (let e : (lo + 1) + v ≡ lo + suc v = omega arith in e)

pub unfilled_length : (facts : Image) (lo n : ℕ) → length (unfilled_data facts lo n) ≡ n
unfilled_length facts lo zero = refl
unfilled_length facts lo (suc n) = ap suc (unfilled_length facts (lo + 1) n)

start_other : (sid : ℕ) (q : Page) → Stack sid 0 ≢ q → due_of_page (Start (Stack sid 0) ∷ []) q ≡ None
start_other sid q n = ap (λ (b : Bool). cond b (Some (Start (Stack sid 0))) None) (apart_page (Stack sid 0) q n)

pub enter_coupled : (p : Placement) (sid image : ℕ) (facts : Image) (b c : Bytes) → CouplesPages p b → IsNew p sid → p.due ≡ []
    → ((w : Page) → IsThere p w → SameBytes b c w)
    → ((v : ℕ) → v < image_data_pages facts → FillsBy c (Data sid v) (data_filling facts v)) → c.start (Stack sid 0) ≡ c.memory (Stack sid 0)
    → ((i v : ℕ) → c.file (Text i v) ≡ c.memory (Text i v)) → CouplesPages (enter_space p sid image facts) c
enter_coupled p sid image facts b c k new none same datas start text =
    let data_keeps : (v : ℕ) → v < length (new_pages sid image facts).data_pages → Keeps q c (Data sid v) = λ v l.
    let within : v < image_data_pages facts = (let h = unfilled_length facts 0 (image_data_pages facts) in omega arith) in
    let zero_plus : 0 + v ≡ v = omega arith in
    let slot : slot_of q (Data sid v) ≡ unfilled (data_filling facts v) = ap (λ (o : Option SpacePages). get_or (data_in o) v no_slot) (added_same sid p.spaces (new_pages sid image facts) refl new)
    ∙ unfilled_at facts 0 (image_data_pages facts) v within ∙ ap (λ (w : ℕ). unfilled (data_filling facts w)) zero_plus in
    subst (KeepsBy q c (Data sid v)) (sym (ap (λ (y : Slot). y.state) slot)) (
      subst (λ (o : Option Due). KeepsUnfilled c (Data sid v) o (filling_of q (Data sid v))) (sym (start_other sid (Data sid v) (λ e. absurd cc)))
          (subst (KeepsUnfilled c (Data sid v) None) (sym (ap (λ (y : Slot). y.filling) slot)) (fills_keeps c (Data sid v) (data_filling facts v) (datas v within))),
      tt,
    ) in
    added_coupled p (new_pages sid image facts) (Start (Stack sid 0) ∷ []) b c k new none
    (λ w there. let n = not_new p sid w new there in (same w there, start_other sid w (n.1 0)))
    data_keeps stack_keeps text (λ i v. start_other sid (Text i v) (λ e. absurd cc))
  where
    q : Placement
    q = enter_space p sid image facts

    stack_slot : (v : ℕ) → v < 1 → slot_of q (Stack sid v) ≡ unfilled Zeros
    stack_slot zero l = ap (λ (o : Option SpacePages). get_or (stack_in o) 0 no_slot) (added_same sid p.spaces (new_pages sid image facts) refl new)
    stack_slot (suc v) l = absurd (omega arith)

    stack_keeps : (v : ℕ) → v < length (new_pages sid image facts).stack_pages → Keeps q c (Stack sid v)
    stack_keeps zero l = subst (KeepsBy q c (Stack sid 0)) (sym (ap (λ (y : Slot). y.state) (stack_slot 0 l))) (
      subst (λ (o : Option Due).
          KeepsUnfilled c (Stack sid 0) o (filling_of q (Stack sid 0))) (sym (ap (λ (y : Bool). cond y (Some (Start (Stack sid 0))) None) (same_page_self (Stack sid 0)))) start,
      tt,
    )
    stack_keeps (suc v) l = absurd (omega arith)
