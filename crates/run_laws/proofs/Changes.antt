-- A change of a process leaves what stands.
use Rattle.std.proofs.Common.{◌≡◌, ℕ, zero, suc, ◌+◌, ◌*◌, ◌<◌, ◌≤◌, ◌==◌, ◌&&◌, Bool, true, false, cond, List, [], ◌∷◌, ◌++◌, length, map, Option, Some, None, refl, sym, ap, ap₂, ◌∙◌, subst, arith}
use Rattle.std.proofs.Math.Bool.{and-false}
use Rattle.flat_state.specs.Space.{Space}
use Rattle.flat_state.specs.Flat.{FlatState}
use Rattle.vm_facts.specs.declared.page.Page.{Page}
use Rattle.vm_facts.specs.declared.page.Page.TheVariants as pages
use Rattle.vm_facts.specs.declared.page.PageState.{PageState}
use Rattle.vm_facts.specs.declared.page.PageState.TheVariants.{Unfilled, Valid, Invalid, Coming, Going, OnSwap}
use Rattle.swap_dmap.specs.Chunks.{pieces}
use Rattle.swap_book.specs.declared.Owner.{Owner}
use Rattle.swap_book.specs.declared.Owner.TheVariants as owners
use Rattle.swap_book.specs.declared.Held.{Held}
use Rattle.swap_book.specs.Owners.{same_owner}
use Rattle.swap_book.specs.Holdings.{Holdings, kept}
use Rattle.swap_book.specs.Placing.{Wanted, place_all}
use Rattle.flat_state.specs.declared.change.Change.{Change}
use Rattle.flat_state.specs.declared.change.Change.TheVariants.{Resize, Fork, Exec, End}
use Rattle.flat_state.specs.Change.{is_borrower}
use Rattle.page_model.specs.Pages.{Slot}
use Rattle.flat_state.specs.PageNames.{same_page}
use Rattle.page_model.specs.Placement.{Placement, Due, CopyOf, due_page, due_of_page, image_of, sharers, slots_of}
use Rattle.page_model.specs.Place.{Changing, place_change, copy_due, copies_from, give_up_unless, facts_numbered}
use Rattle.page_model.specs.Dues.{NotDue}
use Rattle.kernel_model.specs.ChangeStep.{holdings_after, given_back_unless, text_given_back}
use Rattle.flat_model.specs.Asked.{is_shared, without_text, without_own, given_up, without_owner}
use Rattle.run_laws.specs.Standing.{EachOnce}
use Rattle.aout_image.specs.declared.Image.{Image}

-- What goes back.

-- all pieces of two owners go, in either order
kept_twice : (a b : Owner) (hs : Holdings) → kept a 0 (kept b 0 hs) ≡ kept b 0 (kept a 0 hs)
unfolding kept
kept_twice a b [] = refl
kept_twice a b (h ∷ hs) = go (same_owner h.owner a) (same_owner h.owner b) refl refl (kept_twice a b hs)
  where
    go : (x y : Bool) → same_owner h.owner a ≡ x → same_owner h.owner b ≡ y → kept a 0 (kept b 0 hs) ≡ kept b 0 (kept a 0 hs)
        → kept a 0 (cond y (kept b 0 hs) (h ∷ kept b 0 hs)) ≡ kept b 0 (cond x (kept a 0 hs) (h ∷ kept a 0 hs))
    go true true e f ih = ih
    go true false e f ih = ap (λ (z : Bool). cond z (kept a 0 (kept b 0 hs)) (h ∷ kept a 0 (kept b 0 hs))) e ∙ ih
    go false true e f ih = ih ∙ sym (ap (λ (z : Bool). cond z (kept b 0 (kept a 0 hs)) (h ∷ kept b 0 (kept a 0 hs))) f)
    go false false e f ih = ap (λ (z : Bool). cond z (kept a 0 (kept b 0 hs)) (h ∷ kept a 0 (kept b 0 hs))) e ∙ ap (λ (l : List Held). h ∷ l) ih
        ∙ sym (ap (λ (z : Bool). cond z (kept b 0 (kept a 0 hs)) (h ∷ kept b 0 (kept a 0 hs))) f)

text_back : (shared : Bool) (left image : ℕ) (hs : Holdings) → (left ≡ 0 → shared ≡ false) → ((m : ℕ) → left ≡ suc m → shared ≡ true)
    → without_text shared image hs ≡ text_given_back left hs image
text_back shared zero image hs a b = ap (λ (x : Bool). without_text x image hs) (a refl)
text_back shared (suc m) image hs a b = ap (λ (x : Bool). without_text x image hs) (b m refl)

-- what a space gives back, by the flat state and by the placement
own_back : (borrowed : Bool) (after : FlatState) (s : Space) (hs : Holdings) (image left : ℕ) → s.image ≡ image
    → (borrowed ≡ false → (left ≡ 0 → is_shared after s.image ≡ false) × ((m : ℕ) → left ≡ suc m → is_shared after s.image ≡ true))
    → without_own borrowed after s hs ≡ given_back_unless borrowed hs s.sid image left
own_back true after s hs image left i h = refl
own_back false after s hs image left i h =
    text_back (is_shared after s.image) left s.image (without_owner (owners.Stack s.sid) (without_owner (owners.Data s.sid) hs)) (h refl).0 (h refl).1
    ∙ ap (text_given_back left (kept (owners.Stack s.sid) 0 (kept (owners.Data s.sid) 0 hs))) i

u_back : (borrowed : Bool) (hs : Holdings) (sid image left pid : ℕ)
    → given_back_unless borrowed (kept (owners.U pid) 0 hs) sid image left ≡ kept (owners.U pid) 0 (given_back_unless borrowed hs sid image left)
u_back true hs sid image left pid = refl
u_back false hs sid image left pid = text left
  where
    both : kept (owners.Stack sid) 0 (kept (owners.Data sid) 0 (kept (owners.U pid) 0 hs)) ≡ kept (owners.U pid) 0 (kept (owners.Stack sid) 0 (kept (owners.Data sid) 0 hs))
    both = ap (kept (owners.Stack sid) 0) (kept_twice (owners.Data sid) (owners.U pid) hs) ∙ kept_twice (owners.Stack sid) (owners.U pid) (kept (owners.Data sid) 0 hs)

    text : (n : ℕ) → text_given_back n (kept (owners.Stack sid) 0 (kept (owners.Data sid) 0 (kept (owners.U pid) 0 hs))) image
        ≡ kept (owners.U pid) 0 (text_given_back n (kept (owners.Stack sid) 0 (kept (owners.Data sid) 0 hs)) image)
    text zero = ap (kept (owners.Text image) 0) both ∙ kept_twice (owners.Text image) (owners.U pid) (kept (owners.Stack sid) 0 (kept (owners.Data sid) 0 hs))
    text (suc n) = both

map_count : {A : Type 0} {B : Type 0} (f : A → B) (xs : List A) → length (map f xs) ≡ length xs
map_count f [] = refl
map_count f (x ∷ xs) = ap suc (map_count f xs)

pub given_same : (flat after : FlatState) (pid : ℕ) (s : Space) (change : Change) (c : Changing) (hs : Holdings) (p q : Placement) (borrowed : Bool)
    → is_borrower flat.processes pid ≡ borrowed → image_of p s.sid ≡ s.image
    → (borrowed ≡ false → (sharers q (image_of p s.sid) ≡ 0 → is_shared after s.image ≡ false)
    × ((m : ℕ) → sharers q (image_of p s.sid) ≡ suc m → is_shared after s.image ≡ true))
    → given_up flat after pid s change hs ≡ holdings_after (record c { pid = pid; sid = s.sid; borrowed = borrowed }) hs p q change
given_same flat after pid s (Resize d t) c hs p q borrowed b i h =
    ap₂ (λ (m n : ℕ). kept (owners.Stack s.sid) m (kept (owners.Data s.sid) n hs)) (map_count (Rattle.swap_book.specs.Placing.one (owners.Stack s.sid)) (pieces (2 * t)))
    (map_count (Rattle.swap_book.specs.Placing.one (owners.Data s.sid)) (pieces (2 * d)))
given_same flat after pid s (Exec image top) c hs p q borrowed b i h =
    ap (λ (x : Bool). without_own x after s hs) b ∙ own_back borrowed after s hs (image_of p s.sid) (sharers q (image_of p s.sid)) (sym i) h
given_same flat after pid s (End status) c hs p q borrowed b i h =
    ap (λ (x : Bool). without_own x after s (kept (owners.U pid) 0 hs)) b
    ∙ own_back borrowed after s (kept (owners.U pid) 0 hs) (image_of p s.sid) (sharers q (image_of p s.sid)) (sym i) h ∙ u_back borrowed hs s.sid (image_of p s.sid) (sharers q (image_of p s.sid)) pid
given_same flat after pid s _ c hs p q borrowed b i h = refl

-- No page is due twice.

absent_copies : (child parent : ℕ → Page) (r : Page) (v : ℕ) (xs : List Slot) → ((w : ℕ) → v ≤ w → same_page (child w) r ≡ false)
    → NotDue (copies_from child parent v xs) r
absent_copies child parent r v [] h = refl
absent_copies child parent r v (x ∷ xs) h = go x.state (absent_copies child parent r (v + 1) xs (λ w l. h w (omega arith)))
  where
    skip : NotDue (copies_from child parent (v + 1) xs) r → cond (same_page (child v) r) (Some (CopyOf (child v) (parent v))) (due_of_page (copies_from child parent (v + 1) xs) r) ≡ None
    skip ih = ap (λ (b : Bool). cond b (Some (CopyOf (child v) (parent v))) (due_of_page (copies_from child parent (v + 1) xs) r)) (h v (omega arith)) ∙ ih

    go : (t : PageState) → NotDue (copies_from child parent (v + 1) xs) r → due_of_page (copy_due (child v) (parent v) t ++ copies_from child parent (v + 1) xs) r ≡ None
    go Unfilled ih = ih
    go (Valid f) ih = skip ih
    go (Invalid f) ih = skip ih
    go (Coming f) ih = skip ih
    go (Going f) ih = skip ih
    go OnSwap ih = skip ih

later_apart : (v w : ℕ) → v < w → (w == v) ≡ false
later_apart v w l = Rattle.std.proofs.lemmas.Bool.ne_eqb w v (λ e. absurd (omega arith))

append_absent : (xs ys : List Due) (r : Page) → NotDue xs r → NotDue ys r → NotDue (xs ++ ys) r
append_absent [] ys r a b = b
append_absent (d ∷ xs) ys r a b = go (same_page (due_page d) r) a (append_absent xs ys r)
  where
    go : (c : Bool) → cond c (Some d) (due_of_page xs r) ≡ None → (NotDue xs r → NotDue ys r → NotDue (xs ++ ys) r) → cond c (Some d) (due_of_page (xs ++ ys) r) ≡ None
    go true a ih = absurd cc
    go false a ih = ih a b

append_once : (xs ys : List Due) → EachOnce xs → EachOnce ys → ((d : Page) → (due_of_page xs d ≡ None → ⊥) → NotDue ys d) → EachOnce (xs ++ ys)
append_once [] ys a b h = b
append_once (d ∷ xs) ys a b h = (
  append_absent xs ys (due_page d) a.0 (h (due_page d) (λ e. absurd (let z : Some d ≡ None = sym (Rattle.run_laws.proofs.Allowed.first_due d xs) ∙ e in cc))),
  append_once xs ys a.1 b (λ r n. h r (λ e. n (later r e))),
)
  where
    later : (r : Page) → due_of_page (d ∷ xs) r ≡ None → due_of_page xs r ≡ None
    later r e = go (same_page (due_page d) r) e
      where
        go : (c : Bool) → cond c (Some d) (due_of_page xs r) ≡ None → due_of_page xs r ≡ None
        go true e = absurd cc
        go false e = e

copies_once : (child parent : ℕ → Page) (v : ℕ) (xs : List Slot) → ((u w : ℕ) → u < w → same_page (child w) (child u) ≡ false)
    → EachOnce (copies_from child parent v xs)
copies_once child parent v [] h = tt
copies_once child parent v (x ∷ xs) h = go x.state (copies_once child parent (v + 1) xs h) (absent_copies child parent (child v) (v + 1) xs (λ w l. h v w (omega arith)))
  where
    go : (t : PageState) → EachOnce (copies_from child parent (v + 1) xs) → NotDue (copies_from child parent (v + 1) xs) (child v)
        → EachOnce (copy_due (child v) (parent v) t ++ copies_from child parent (v + 1) xs)
    go Unfilled ih n = ih
    go (Valid f) ih n = (n, ih)
    go (Invalid f) ih n = (n, ih)
    go (Coming f) ih n = (n, ih)
    go (Going f) ih n = (n, ih)
    go OnSwap ih n = (n, ih)

stack_absent : (child parent : ℕ) (xs ys : List Slot) (r : Page) → (due_of_page (copies_from (pages.Data child) (pages.Data parent) 0 xs) r ≡ None → ⊥)
    → NotDue (copies_from (pages.Stack child) (pages.Stack parent) 0 ys) r
stack_absent child parent xs ys (pages.Stack sid n) h = absurd (h (absent_copies (pages.Data child) (pages.Data parent) (pages.Stack sid n) 0 xs (λ w l. refl)))
stack_absent child parent xs ys x h = absent_copies (pages.Stack child) (pages.Stack parent) x 0 ys (λ w l. refl)

none_once : (p : Placement) → p.due ≡ [] → EachOnce p.due
none_once p e = subst EachOnce (sym e) tt

pub change_once : (c : Changing) (p : Placement) (change : Change) → p.due ≡ []
    → EachOnce (place_change c p change).due
change_once c p (Resize d s) e = none_once (place_change c p (Resize d s))
    ((Rattle.page_laws.proofs.Bytes.Changes.drop_all_rest (Rattle.page_laws.proofs.Ownership.Changes.dropped_pages p c.sid d s) p).1 ∙ e)
change_once c p (Fork child) e =
    append_once (copies_from (pages.Data c.next_sid) (pages.Data c.sid) 0 (slots_of p (pages.Data c.sid 0)))
    (copies_from (pages.Stack c.next_sid) (pages.Stack c.sid) 0 (slots_of p (pages.Stack c.sid 0)))
    (copies_once (pages.Data c.next_sid) (pages.Data c.sid) 0 (slots_of p (pages.Data c.sid 0))
    (λ u w l. ap (λ (b : Bool). (c.next_sid == c.next_sid) && b) (later_apart u w l) ∙ and-false (c.next_sid == c.next_sid)))
    (copies_once (pages.Stack c.next_sid) (pages.Stack c.sid) 0 (slots_of p (pages.Stack c.sid 0))
    (λ u w l. ap (λ (b : Bool). (c.next_sid == c.next_sid) && b) (later_apart u w l) ∙ and-false (c.next_sid == c.next_sid)))
    (stack_absent c.next_sid c.sid (slots_of p (pages.Data c.sid 0)) (slots_of p (pages.Stack c.sid 0)))
change_once c p (Exec image top) e = go (facts_numbered c.images image)
  where
    go : (o : Option Image) → EachOnce (give_up_unless c.borrowed (Rattle.page_model.specs.Place.enter_image p c.next_sid image o) c.sid).due
    go None = subst EachOnce (sym (Rattle.kernel_laws.proofs.Machine.Gone.gone_unless c.borrowed p c.sid).due) (none_once p e)
    go (Some facts) = subst EachOnce (sym (Rattle.kernel_laws.proofs.Machine.Gone.gone_unless c.borrowed (Rattle.page_model.specs.Place.enter_space p c.next_sid image facts) c.sid).due) (refl, tt)
change_once c p (End status) e = subst EachOnce (sym (Rattle.kernel_laws.proofs.Machine.Gone.gone_unless c.borrowed p c.sid).due) (none_once p e)
change_once c p _ e = none_once p e
