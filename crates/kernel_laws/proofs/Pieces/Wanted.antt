-- The pieces that a change wants are the further ones that its owners need after it.
use Rattle.std.proofs.Common.{◌≡◌, ◌≢◌, inl, inr, ℕ, zero, suc, ◌+◌, ◌*◌, ◌<◌, ◌≤◌, ◌==◌, Bool, true, false, not, ◌&&◌, cond, List, [], ◌∷◌, ◌++◌, length, drop, map, filter, Option, Some, None, refl, sym, ap, ap₂, ◌∙◌, subst, arith}
use Rattle.std.proofs.lemmas.Bool.{cases_eq, eqb-true, eq-eqb, ne_eqb}
use Rattle.std.proofs.lemmas.List.{append-nil}
use Rattle.vm_facts.specs.declared.page.Page.{Page}
use Rattle.vm_facts.specs.declared.page.Page.TheVariants.{Data, Stack, Text}
use Rattle.vm_facts.specs.declared.page.PageState.{PageState}
use Rattle.vm_facts.specs.declared.page.PageState.TheVariants.{Unfilled}
use Rattle.vm_facts.specs.declared.regs.Regs.{Regs}
use Rattle.vm_facts.specs.declared.entry.Entry.{Entry}
use Rattle.aout_image.specs.Image.{image_data_pages}
use Rattle.swap_book.specs.Chunks.{pieces, text_pieces}
use Rattle.swap_book.proofs.PieceLaws.{pieces_none}
use Rattle.swap_book.specs.declared.Owner.{Owner}
use Rattle.swap_book.specs.declared.Owner.TheVariants as owners
use Rattle.swap_book.specs.Owners.{same_owner, u_pieces}
use Rattle.swap_book.specs.Placing.{Wanted, wanted}
use Rattle.swap_book.proofs.OwnerLaws.{same_owner_itself}
use Rattle.flat_state.specs.declared.change.Change.{Change}
use Rattle.flat_state.specs.declared.change.Change.TheVariants.{Keep, Resize, Fork, Lend, Exec, Reap, Sleep, End}
use Rattle.page_model.specs.Pages.{Slot, SpacePages, numbered, changed, data_in, stack_in, with_data, with_stack, frame_of}
use Rattle.page_model.specs.Placement.{Placement, Due, space_number, slots_of, state_of, put, sharers, sharers_in, image_of, image_in, new_pages}
use Rattle.page_model.specs.Moves.{drop_at, drop_page, drop_all}
use Rattle.page_model.specs.Place.{Changing, data_count, stack_count, child_slot, resize, fork_space, enter_space, enter_image, give_up, give_up_unless, place_change, facts_numbered}
use Rattle.page_model.specs.Conditions.{IsNew, CanChange}
use Rattle.page_model.specs.Ownership.{text_pieces_while, u_blocks}
use Rattle.kernel_model.specs.Kernel.{Kernel, Proc, Life, New, HoldsSpace}
use Rattle.kernel_model.specs.Sound.{has_life, lives, lives_in}
use Rattle.kernel_model.specs.ChangeStep.{changing_of, with_proc, without_proc, child_proc, is_ended, orphaned_procs, left_procs, procs_after, space_of_life, life_of_proc, gave_back, change_by, change_if, change_step}
use Rattle.kernel_model.specs.Taken.{wanted_lengths, AsksFor, MayChange}
use Rattle.kernel_model.specs.Asks.{further, text_asked, image_asked, change_asks, HasSpace, IsUnused, OneEach, MayAsk, asked, WantsThese}
use Rattle.page_laws.proofs.Lists.Pages.{mapped, changed_same}
use Rattle.page_laws.proofs.Ownership.Changes.{dropped_pages, added_other, added_same, cut}
use Rattle.page_laws.proofs.Blocks.Changes.{rest_of, sharers-append}
use Rattle.page_laws.proofs.Bytes.Changes.{length_sized}
use Rattle.page_laws.proofs.Bytes.Spaces.{map_length, unfilled_length}
use Rattle.kernel_laws.proofs.Pieces.GivenBack.{pieces_mono, drop_past, Resizes}
use Rattle.kernel_laws.proofs.Pieces.Sizes.{resize_sizes, change_texts, give_up_rest, gone_data, gone_stack}
use Rattle.page_laws.proofs.Due.Changes.{give_up_length}
use Rattle.kernel_laws.proofs.Sound.Steps.{proc_number}
use Rattle.kernel_laws.proofs.Sound.Changes.{find, map_lives, with_number, without_dead, woken_lives, left_dead}
use Rattle.aout_image.specs.declared.Image.{Image}

-- Lengths among what is wanted.

pub lengths_both : (owner : Owner) (vs ws : List Wanted) → wanted_lengths owner (vs ++ ws) ≡ wanted_lengths owner vs ++ wanted_lengths owner ws
lengths_both owner [] ws = refl
lengths_both owner (v ∷ vs) ws = go (same_owner v.owner owner) (lengths_both owner vs ws)
  where
    go : (b : Bool) → wanted_lengths owner (vs ++ ws) ≡ wanted_lengths owner vs ++ wanted_lengths owner ws
        → cond b (v.length ∷ wanted_lengths owner (vs ++ ws)) (wanted_lengths owner (vs ++ ws)) ≡ cond b (v.length ∷ wanted_lengths owner vs) (wanted_lengths owner vs) ++ wanted_lengths owner ws
    go true ih = ap (λ (ns : List ℕ). v.length ∷ ns) ih
    go false ih = ih

pub lengths_own : (owner : Owner) (ns : List ℕ) → wanted_lengths owner (wanted owner ns) ≡ ns
lengths_own owner [] = refl
lengths_own owner (n ∷ ns) =
    ap (λ (b : Bool). cond b (n ∷ wanted_lengths owner (wanted owner ns)) (wanted_lengths owner (wanted owner ns))) (same_owner_itself owner) ∙ ap (λ (ms : List ℕ). n ∷ ms) (lengths_own owner ns)

pub lengths_other : (owner other : Owner) (ns : List ℕ) → same_owner owner other ≡ false → wanted_lengths other (wanted owner ns) ≡ []
lengths_other owner other [] d = refl
lengths_other owner other (n ∷ ns) d = ap (λ (b : Bool). cond b (n ∷ wanted_lengths other (wanted owner ns)) (wanted_lengths other (wanted owner ns))) d ∙ lengths_other owner other ns d

pub nothing_with : (xs ys : List ℕ) → xs ≡ [] → ys ≡ [] → xs ++ ys ≡ []
nothing_with xs ys a b = ap₂ (λ (x y : List ℕ). x ++ y) a b

-- What is needed further.

none_further : (a b : ℕ) → b ≤ a → [] ≡ drop (length (pieces (2 * a))) (pieces (2 * b))
none_further a b l = sym (drop_past (length (pieces (2 * a))) (pieces (2 * b)) (pieces_mono (2 * b) (2 * a) (omega arith)))

whole : (xs : List ℕ) → drop 0 xs ≡ xs
whole [] = refl
whole (x ∷ xs) = refl

all_further : (a b : ℕ) → a ≡ 0 → pieces (2 * b) ≡ drop (length (pieces (2 * a))) (pieces (2 * b))
all_further a b e = sym (ap (λ (n : ℕ). drop (length (pieces (2 * n))) (pieces (2 * b))) e ∙ ap (λ (xs : List ℕ). drop (length xs) (pieces (2 * b))) pieces_none ∙ whole (pieces (2 * b)))

none_text : (a b n m : ℕ) → (0 < b → 0 < a) → m ≡ n → [] ≡ drop (length (text_pieces_while a n)) (text_pieces_while b m)
none_text a zero n m h e = sym (drop_past (length (text_pieces_while a n)) [] (omega arith))
none_text zero (suc b) n m h e = absurd (let l = h (omega arith) in omega arith)
none_text (suc a) (suc b) n m h e = sym (ap (λ (k : ℕ). drop (length (text_pieces n)) (text_pieces k)) e ∙ drop_past (length (text_pieces n)) (text_pieces n) (omega arith))

pub none_u : (a b : Bool) → (b ≡ true → a ≡ true) → [] ≡ drop (length (u_pieces (u_blocks a))) (u_pieces (u_blocks b))
none_u true true h = refl
none_u true false h = refl
none_u false false h = refl
none_u false true h = absurd (let z : false ≡ true = h refl in cc)

pub new_u : (a b : Bool) → a ≡ false → b ≡ true → u_pieces 2 ≡ drop (length (u_pieces (u_blocks a))) (u_pieces (u_blocks b))
new_u true b x y = absurd cc
new_u false true x y = refl
new_u false false x y = absurd cc

-- Nobody comes to life.

map_back : (f : Proc → Proc) (ps : List Proc) (n : ℕ) → ((q : Proc) → (f q).pid ≡ q.pid)
    → ((q : Proc) → q.pid ≡ n → has_life (f q).life ≡ true → has_life q.life ≡ true) → lives (map f ps) n ≡ true → lives ps n ≡ true
map_back f [] n k h e = e
map_back f (q ∷ qs) n k h e = go (q.pid == n) refl (sym (ap (λ (m : ℕ). lives_in (cond (m == n) (Some (f q)) (find n (map f qs)))) (k q)) ∙ e) (map_back f qs n k h)
  where
    go : (b : Bool) → (q.pid == n) ≡ b → lives_in (cond b (Some (f q)) (find n (map f qs))) ≡ true → (lives (map f qs) n ≡ true → lives qs n ≡ true) → lives_in (cond b (Some q) (find n qs)) ≡ true
    go true x l ih = h q (eqb-true q.pid n x) l
    go false x l ih = ih l

filter_back : (test : Proc → Bool) (ps : List Proc) (n : ℕ) → ((q : Proc) → q.pid ≡ n → test q ≡ true) → lives (filter test ps) n ≡ true → lives ps n ≡ true
filter_back test [] n h e = e
filter_back test (q ∷ qs) n h e = go (test q) (q.pid == n) refl refl e (filter_back test qs n h)
  where
    go : (b c : Bool) → test q ≡ b → (q.pid == n) ≡ c → lives (cond b (q ∷ filter test qs) (filter test qs)) n ≡ true → (lives (filter test qs) n ≡ true → lives qs n ≡ true)
        → lives_in (cond c (Some q) (find n qs)) ≡ true
    go true true x y l ih = sym (ap (λ (b : Bool). lives_in (cond b (Some q) (find n (filter test qs)))) y) ∙ l
    go true false x y l ih = ih (sym (ap (λ (b : Bool). lives_in (cond b (Some q) (find n (filter test qs)))) y) ∙ l)
    go false true x y l ih = absurd (let z : true ≡ false = sym (h q (eqb-true q.pid n y)) ∙ x in cc)
    go false false x y l ih = ih l

-- where no two have one number, those that are left are as they were
unused_filter : (test : Proc → Bool) (ps : List Proc) (n : ℕ) → IsUnused ps n → IsUnused (filter test ps) n
unused_filter test [] n e = e
unused_filter test (q ∷ qs) n e = go (test q) (q.pid == n) refl e (unused_filter test qs n)
  where
    go : (b c : Bool) → (q.pid == n) ≡ c → cond c (Some q) (find n qs) ≡ None → (IsUnused qs n → IsUnused (filter test qs) n) → IsUnused (cond b (q ∷ filter test qs) (filter test qs)) n
    go b true x k ih = absurd cc
    go true false x k ih = ap (λ (b : Bool). cond b (Some q) (find n (filter test qs))) x ∙ ih k
    go false false x k ih = ih k

kept_back : (test : Proc → Bool) (ps : List Proc) (n : ℕ) → OneEach ps → lives (filter test ps) n ≡ true → lives ps n ≡ true
kept_back test [] n o e = e
kept_back test (q ∷ qs) n o e = go (test q) (q.pid == n) refl e (kept_back test qs n o.1)
  where
    go : (b c : Bool) → (q.pid == n) ≡ c → lives (cond b (q ∷ filter test qs) (filter test qs)) n ≡ true → (lives (filter test qs) n ≡ true → lives qs n ≡ true)
        → lives_in (cond c (Some q) (find n qs)) ≡ true
    go true true y l ih = sym (ap (λ (b : Bool). lives_in (cond b (Some q) (find n (filter test qs)))) y) ∙ l
    go true false y l ih = ih (sym (ap (λ (b : Bool). lives_in (cond b (Some q) (find n (filter test qs)))) y) ∙ l)
    go false true y l ih = absurd (
        let u : IsUnused (filter test qs) n = unused_filter test qs n (subst (λ (m : ℕ). IsUnused qs m) (eqb-true q.pid n y) o.0) in
        let z : true ≡ false = sym l ∙ ap lives_in u in cc)
    go false false y l ih = ih l

with_back_other : (p : Proc) (ps : List Proc) (n : ℕ) → n ≢ p.pid → lives (with_proc ps p) n ≡ true → lives ps n ≡ true
with_back_other p ps n d e = map_back (λ (q : Proc). cond (q.pid == p.pid) p q) ps n (with_number p) (λ q i l. go q i (q.pid == p.pid) refl l) e
  where
    go : (q : Proc) → q.pid ≡ n → (b : Bool) → (q.pid == p.pid) ≡ b → has_life (cond b p q).life ≡ true → has_life q.life ≡ true
    go q i true x l = absurd (d (sym i ∙ eqb-true q.pid p.pid x))
    go q i false x l = l

with_back : (p : Proc) (ps : List Proc) (n : ℕ) → lives ps p.pid ≡ true → lives (with_proc ps p) n ≡ true → lives ps n ≡ true
with_back p ps n a e = elim (cases_eq n p.pid) [
  | inl h ↦ ap (lives ps) h ∙ a
  | inr d ↦ with_back_other p ps n d e
]

pub append_back : (ps : List Proc) (c : Proc) (n : ℕ) → n ≢ c.pid → lives (ps ++ c ∷ []) n ≡ true → lives ps n ≡ true
append_back [] c n d e = absurd (let z : true ≡ false = sym e ∙ ap (λ (b : Bool). lives_in (cond b (Some c) None)) (ne_eqb c.pid n (λ k. d (sym k))) in cc)
append_back (q ∷ qs) c n d e = go (q.pid == n) e (append_back qs c n d)
  where
    go : (b : Bool) → lives_in (cond b (Some q) (find n (qs ++ c ∷ []))) ≡ true → (lives (qs ++ c ∷ []) n ≡ true → lives qs n ≡ true) → lives_in (cond b (Some q) (find n qs)) ≡ true
    go true l ih = l
    go false l ih = ih l

without_back : (ps : List Proc) (c n : ℕ) → lives (without_proc ps c) n ≡ true → lives ps n ≡ true
without_back ps c n e = elim (cases_eq n c) [
  | inl h ↦ absurd (let z : true ≡ false = sym e ∙ ap (lives (without_proc ps c)) h ∙ without_dead ps c in cc)
  | inr d ↦ filter_back (λ (q : Proc). not (q.pid == c)) ps n (λ q i. ap not (ne_eqb q.pid c (λ k. d (sym i ∙ k)))) e
]

orphan_back : (ps : List Proc) (pid n : ℕ) → OneEach ps → lives (orphaned_procs ps pid) n ≡ true → lives ps n ≡ true
orphan_back ps pid n o e = kept_back (λ (q : Proc). not ((q.parent == pid) && is_ended q.life)) ps n o
    (sym (map_lives (λ (q : Proc). record q { parent = cond (q.parent == pid) 0 q.parent }) (filter (λ (q : Proc). not ((q.parent == pid) && is_ended q.life)) ps) n (λ q. refl) (λ q. refl)) ∙ e)

left_back : (gone : Bool) (ps : List Proc) (p : Proc) (status n : ℕ) → lives (left_procs gone ps p status) n ≡ true → lives ps n ≡ true
left_back true ps p status n e = without_back ps p.pid n e
left_back false ps p status n e = elim (cases_eq n p.pid) [
  | inl h ↦ absurd (let z : true ≡ false = sym e ∙ ap (lives (left_procs false ps p status)) h ∙ left_dead false ps p status in cc)
  | inr d ↦ with_back_other (record p { life = Rattle.kernel_model.specs.Kernel.Ended status }) ps n d
      (sym (woken_lives (with_proc ps record p { life = Rattle.kernel_model.specs.Kernel.Ended status }) p.parent n) ∙ e)
]

-- but for a child
abbrev pub IsChild : Change → ℕ → Type 0
IsChild (Fork child) n = n ≡ child
IsChild (Lend child) n = n ≡ child
IsChild change n = ⊥

pub after_back : (ps : List Proc) (x : Proc) (next n : ℕ) (change : Change) → lives ps x.pid ≡ true
    → ((status : ℕ) → change ≡ End status → OneEach ps) → (IsChild change n → ⊥)
    → lives (procs_after ps x next change) n ≡ true → lives ps n ≡ true
after_back ps x next n (Fork child) a m c e = with_back x ps n a (append_back (with_proc ps x) (child_proc x child (HoldsSpace next)) n c e)
after_back ps x next n (Lend child) a m c e = with_back x ps n a (append_back (with_proc ps x) (child_proc x child New) n c e)
after_back ps x next n (Exec image top) a m c e = with_back (record x { life = HoldsSpace next }) ps n a e
after_back ps x next n (Reap child) a m c e = elim (cases_eq n x.pid) [
  | inl h ↦ ap (lives ps) h ∙ a
  | inr d ↦ without_back ps child n (with_back_other x (without_proc ps child) n d e)
]
after_back ps x next n Sleep a m c e = with_back (record x { asleep = true }) ps n a e
after_back ps x next n (End status) a m c e = orphan_back ps x.pid n (m status refl) (left_back (x.parent == 0) (orphaned_procs ps x.pid) x status n e)
after_back ps x next n _ a m c e = with_back x ps n a e

-- a child with an unused number lives
unused_with : (ps : List Proc) (p : Proc) (n : ℕ) → IsUnused ps n → IsUnused (with_proc ps p) n
unused_with [] p n e = e
unused_with (q ∷ qs) p n e = ap (λ (m : ℕ). cond (m == n) (Some (cond (q.pid == p.pid) p q)) (find n (with_proc qs p))) (with_number p q) ∙ go (q.pid == n) e (unused_with qs p n)
  where
    go : (b : Bool) → cond b (Some q) (find n qs) ≡ None → (IsUnused qs n → IsUnused (with_proc qs p) n) → cond b (Some (cond (q.pid == p.pid) p q)) (find n (with_proc qs p)) ≡ None
    go true k ih = absurd cc
    go false k ih = ih k

pub last_lives : (ps : List Proc) (c : Proc) → IsUnused ps c.pid → has_life c.life ≡ true → lives (ps ++ c ∷ []) c.pid ≡ true
last_lives [] c u h = ap (λ (b : Bool). lives_in (cond b (Some c) None)) (eq-eqb c.pid c.pid refl) ∙ h
last_lives (q ∷ qs) c u h = go (q.pid == c.pid) u (λ k. last_lives qs c k h)
  where
    go : (b : Bool) → cond b (Some q) (find c.pid qs) ≡ None → (IsUnused qs c.pid → lives (qs ++ c ∷ []) c.pid ≡ true) → lives_in (cond b (Some q) (find c.pid (qs ++ c ∷ []))) ≡ true
    go true k ih = absurd cc
    go false k ih = ih k

-- Spaces that are there.

absent_changed : (sid t : ℕ) (change : SpacePages → SpacePages) → ((s : SpacePages) → space_number (change s) ≡ space_number s) → (ss : List SpacePages)
    → numbered space_number sid (changed space_number t change ss) ≡ None → numbered space_number sid ss ≡ None
absent_changed sid t change k [] e = refl
absent_changed sid t change k (s ∷ ss) e = go (space_number s == t) (space_number s == sid) refl e (absent_changed sid t change k ss)
  where
    go : (b c : Bool) → (space_number s == sid) ≡ c → numbered space_number sid (cond b (change s ∷ ss) (s ∷ changed space_number t change ss)) ≡ None
        → (numbered space_number sid (changed space_number t change ss) ≡ None → numbered space_number sid ss ≡ None) → cond c (Some s) (numbered space_number sid ss) ≡ None
    go true c x h ih =
        hit c (sym (ap (λ (n : ℕ). cond (n == sid) (Some (change s)) (numbered space_number sid ss)) (k s) ∙ ap (λ (b : Bool). cond b (Some (change s)) (numbered space_number sid ss)) x) ∙ h)
      where
        hit : (c : Bool) → cond c (Some (change s)) (numbered space_number sid ss) ≡ None → cond c (Some s) (numbered space_number sid ss) ≡ None
        hit true z = absurd cc
        hit false z = z
    go false c x h ih = miss c (sym (ap (λ (b : Bool). cond b (Some s) (numbered space_number sid (changed space_number t change ss))) x) ∙ h)
      where
        miss : (c : Bool) → cond c (Some s) (numbered space_number sid (changed space_number t change ss)) ≡ None → cond c (Some s) (numbered space_number sid ss) ≡ None
        miss true z = absurd cc
        miss false z = ih z

absent_put : (p : Placement) (v : Page) (s : PageState) (m : Bool) (sid : ℕ) → numbered space_number sid (put p v s m).spaces ≡ None
    → numbered space_number sid p.spaces ≡ None
absent_put p (Data t v) s m sid e = absent_changed sid t (with_data v s m) (λ x. refl) p.spaces e
absent_put p (Stack t v) s m sid e = absent_changed sid t (with_stack v s m) (λ x. refl) p.spaces e
absent_put p (Text t v) s m sid e = e

absent_drop : (p : Placement) (v : Page) (sid : ℕ) → numbered space_number sid (drop_page p v).spaces ≡ None → numbered space_number sid p.spaces ≡ None
absent_drop p v sid = go (frame_of (state_of p v))
  where
    go : (h : Option ℕ) → numbered space_number sid (drop_at p v h).spaces ≡ None → numbered space_number sid p.spaces ≡ None
    go None e = absent_put p v Unfilled false sid e
    go (Some f) e = absent_put p v Unfilled false sid e

absent_drop_all : (qs : List Page) (p : Placement) (sid : ℕ) → numbered space_number sid (drop_all p qs).spaces ≡ None
    → numbered space_number sid p.spaces ≡ None
absent_drop_all [] p sid e = e
absent_drop_all (v ∷ qs) p sid e = absent_drop p v sid (absent_drop_all qs (drop_page p v) sid e)

cut_there : (d s : ℕ) (o : Option SpacePages) → o ≢ None → (length (data_in (mapped (cut d s) o)) ≡ d) × (length (stack_in (mapped (cut d s) o)) ≡ s)
cut_there d s None n = absurd (n refl)
cut_there d s (Some x) n = (length_sized d x.data_pages, length_sized s x.stack_pages)

resized_there : (p : Placement) (sid d s : ℕ) → HasSpace p sid → (data_count (resize p sid d s) sid ≡ d) × (stack_count (resize p sid d s) sid ≡ s)
resized_there p sid d s h =
    let r : Placement = drop_all p (dropped_pages p sid d s) in
    let c = cut_there d s (numbered space_number sid r.spaces) (λ e. h (absent_drop_all (dropped_pages p sid d s) p sid e)) in
    let e = changed_same space_number sid (cut d s) (λ x. refl) r.spaces in
    (ap (λ (o : Option SpacePages). length (data_in o)) e ∙ c.0, ap (λ (o : Option SpacePages). length (stack_in o)) e ∙ c.1)

has_sharer : (sid : ℕ) (ss : List SpacePages) → numbered space_number sid ss ≢ None → 0 < sharers_in (image_in (numbered space_number sid ss)) ss
has_sharer sid [] n = absurd (n refl)
has_sharer sid (s ∷ ss) n = go (s.sid == sid) n (has_sharer sid ss)
  where
    counted : (b : Bool) (n : ℕ) → b ≡ true → 0 < cond b 1 0 + n
    counted true n e = omega arith
    counted false n e = absurd cc

    more : (b : Bool) (n : ℕ) → 0 < n → 0 < cond b 1 0 + n
    more true n l = omega arith
    more false n l = omega arith

    go : (b : Bool) → (cond b (Some s) (numbered space_number sid ss) ≢ None) → ((numbered space_number sid ss ≢ None) → 0 < sharers_in (image_in (numbered space_number sid ss)) ss)
        → 0 < cond (s.image == image_in (cond b (Some s) (numbered space_number sid ss))) 1 0 + sharers_in (image_in (cond b (Some s) (numbered space_number sid ss))) ss
    go true k ih = counted (s.image == s.image) (sharers_in s.image ss) (eq-eqb s.image s.image refl)
    go false k ih = more (s.image == image_in (numbered space_number sid ss)) (sharers_in (image_in (numbered space_number sid ss)) ss) (ih k)

-- By owners: what isn't asked isn't needed.

record AtMost (p q : Placement) : Type 0 where
  pub of_data : (t : ℕ) → data_count q t ≤ data_count p t
  pub of_stack : (t : ℕ) → stack_count q t ≤ stack_count p t
  pub texts : (i : ℕ) → length (slots_of q (Text i 0)) ≡ length (slots_of p (Text i 0))
  pub sharing : (i : ℕ) → 0 < sharers q i → 0 < sharers p i

abbrev Living : Kernel → Kernel → Type 0
Living k next = (n : ℕ) → lives next.processes n ≡ true → lives k.processes n ≡ true

nothing_asked : (k next : Kernel) → AtMost k.place next.place → Living k next → AsksFor k next []
nothing_asked k next a l (owners.Data t) = none_further (data_count k.place t) (data_count next.place t) (a.of_data t)
nothing_asked k next a l (owners.Stack t) = none_further (stack_count k.place t) (stack_count next.place t) (a.of_stack t)
nothing_asked k next a l (owners.U n) = none_u (lives k.processes n) (lives next.processes n) (l n)
nothing_asked k next a l (owners.Text i) =
    none_text (sharers k.place i) (sharers next.place i) (2 * length (slots_of k.place (Text i 0))) (2 * length (slots_of next.place (Text i 0))) (a.sharing i) (ap (λ (n : ℕ). 2 * n) (a.texts i))

-- Growth and break.
resize_asks : (k next : Kernel) (sid d s : ℕ) → HasSpace k.place sid → next.place ≡ resize k.place sid d s → Living k next
    → AsksFor k next (change_asks [] k.place sid 0 (Resize d s))
resize_asks k next sid d s h e l = by
  where
    p : Placement
    p = k.place

    q : Placement
    q = next.place

    g : Resizes sid d s p q
    g = subst (Resizes sid d s p) (sym e) (resize_sizes p sid d s)

    now : (data_count q sid ≡ d) × (stack_count q sid ≡ s)
    now = subst (λ (r : Placement). (data_count r sid ≡ d) × (stack_count r sid ≡ s)) (sym e) (resized_there p sid d s h)

    parts : (owner : Owner) → wanted_lengths owner (change_asks [] p sid 0 (Resize d s))
        ≡ wanted_lengths owner (further (owners.Data sid) (data_count p sid) d) ++ wanted_lengths owner (further (owners.Stack sid) (stack_count p sid) s)
    parts owner = lengths_both owner (further (owners.Data sid) (data_count p sid) d) (further (owners.Stack sid) (stack_count p sid) s)

    more : ℕ → ℕ → List ℕ
    more a b = drop (length (pieces (2 * a))) (pieces (2 * b))

    by : AsksFor k next (change_asks [] p sid 0 (Resize d s))
    by (owners.Data t) = parts (owners.Data t)
        ∙ ap (λ (xs : List ℕ). wanted_lengths (owners.Data t) (further (owners.Data sid) (data_count p sid) d) ++ xs)
        (lengths_other (owners.Stack sid) (owners.Data t) (more (stack_count p sid) s) refl)
        ∙ append-nil (wanted_lengths (owners.Data t) (further (owners.Data sid) (data_count p sid) d)) ∙ elim (cases_eq t sid) [
          | inl i ↦ subst (λ (x : ℕ). wanted_lengths (owners.Data x) (further (owners.Data sid) (data_count p sid) d) ≡ more (data_count p x) (data_count q x)) (sym i)
              (lengths_own (owners.Data sid) (more (data_count p sid) d) ∙ ap (λ (n : ℕ). more (data_count p sid) n) (sym now.0))
          | inr n ↦ lengths_other (owners.Data sid) (owners.Data t) (more (data_count p sid) d) (ne_eqb sid t (λ i. n (sym i)))
              ∙ none_further (data_count p t) (data_count q t) (let m = g.of_data t n in omega arith)
        ]
    by (owners.Stack t) = parts (owners.Stack t)
        ∙ ap (λ (xs : List ℕ). xs ++ wanted_lengths (owners.Stack t) (further (owners.Stack sid) (stack_count p sid) s))
        (lengths_other (owners.Data sid) (owners.Stack t) (more (data_count p sid) d) refl)
        ∙ elim (cases_eq t sid) [
          | inl i ↦ subst (λ (x : ℕ). wanted_lengths (owners.Stack x) (further (owners.Stack sid) (stack_count p sid) s) ≡ more (stack_count p x) (stack_count q x)) (sym i)
              (lengths_own (owners.Stack sid) (more (stack_count p sid) s) ∙ ap (λ (n : ℕ). more (stack_count p sid) n) (sym now.1))
          | inr n ↦ lengths_other (owners.Stack sid) (owners.Stack t) (more (stack_count p sid) s) (ne_eqb sid t (λ i. n (sym i)))
              ∙ none_further (stack_count p t) (stack_count q t) (let m = g.of_stack t n in omega arith)
        ]
    by (owners.U n) =
        parts (owners.U n)
        ∙ nothing_with (wanted_lengths (owners.U n) (further (owners.Data sid) (data_count p sid) d)) (wanted_lengths (owners.U n) (further (owners.Stack sid) (stack_count p sid) s))
        (lengths_other (owners.Data sid) (owners.U n) (more (data_count p sid) d) refl) (lengths_other (owners.Stack sid) (owners.U n) (more (stack_count p sid) s) refl)
        ∙ none_u (lives k.processes n) (lives next.processes n) (l n)
    by (owners.Text i) = parts (owners.Text i)
        ∙ nothing_with (wanted_lengths (owners.Text i) (further (owners.Data sid) (data_count p sid) d)) (wanted_lengths (owners.Text i) (further (owners.Stack sid) (stack_count p sid) s))
        (lengths_other (owners.Data sid) (owners.Text i) (more (data_count p sid) d) refl) (lengths_other (owners.Stack sid) (owners.Text i) (more (stack_count p sid) s) refl)
        ∙ none_text (sharers p i) (sharers q i) (2 * length (slots_of p (Text i 0))) (2 * length (slots_of q (Text i 0))) (λ m. let z = g.sharing i in omega arith) (ap (λ (n : ℕ). 2 * n) (g.texts i))

-- A child's pages.

sharers_added : (p : Placement) (x : SpacePages) (due : List Due) (i : ℕ) → (x.image ≡ i → 0 < sharers p i)
    → 0 < sharers (record p { spaces = p.spaces ++ x ∷ []; due = due }) i → 0 < sharers p i
sharers_added p x due i h l = go (x.image == i) refl (let e = sharers-append i p.spaces (x ∷ []) in omega arith)
  where
    go : (b : Bool) → (x.image == i) ≡ b → 0 < sharers p i + (cond b 1 0 + 0) → 0 < sharers p i
    go true e m = h (eqb-true x.image i e)
    go false e m = omega arith

fork_asks : (k next : Kernel) (sid child_sid child : ℕ) → IsNew k.place child_sid → HasSpace k.place sid
    → next.place.spaces ≡ (fork_space k.place sid child_sid).spaces → next.place.texts ≡ k.place.texts
    → lives k.processes child ≡ false → lives next.processes child ≡ true → ((n : ℕ) → n ≢ child → lives next.processes n ≡ true → lives k.processes n ≡ true)
    → AsksFor k next (change_asks [] k.place sid child_sid (Fork child))
fork_asks k next sid child_sid child new h e t dead live l = by
  where
    p : Placement
    p = k.place

    x : SpacePages
    x = record {
      sid = child_sid;
      image = image_of p sid;
      data_pages = map child_slot (slots_of p (Data sid 0));
      stack_pages = map child_slot (slots_of p (Stack sid 0));
    }

    d : List ℕ
    d = pieces (2 * data_count p sid)

    s : List ℕ
    s = pieces (2 * stack_count p sid)

    parts : (owner : Owner) → wanted_lengths owner (change_asks [] p sid child_sid (Fork child))
        ≡ wanted_lengths owner (wanted (owners.Data child_sid) d) ++ (wanted_lengths owner (wanted (owners.Stack child_sid) s) ++ wanted_lengths owner (wanted (owners.U child) (u_pieces 2)))
    parts owner = lengths_both owner (wanted (owners.Data child_sid) d) (wanted (owners.Stack child_sid) s ++ wanted (owners.U child) (u_pieces 2))
        ∙ ap (λ (xs : List ℕ). wanted_lengths owner (wanted (owners.Data child_sid) d) ++ xs) (lengths_both owner (wanted (owners.Stack child_sid) s) (wanted (owners.U child) (u_pieces 2)))

    data_of : (n : ℕ) → data_count next.place n ≡ length (data_in (numbered space_number n (p.spaces ++ x ∷ [])))
    data_of n = ap (λ (ss : List SpacePages). length (data_in (numbered space_number n ss))) e

    stack_of : (n : ℕ) → stack_count next.place n ≡ length (stack_in (numbered space_number n (p.spaces ++ x ∷ [])))
    stack_of n = ap (λ (ss : List SpacePages). length (stack_in (numbered space_number n ss))) e

    child_data : data_count next.place child_sid ≡ data_count p sid
    child_data = data_of child_sid ∙ ap (λ (o : Option SpacePages). length (data_in o)) (added_same child_sid p.spaces x refl new) ∙ map_length (slots_of p (Data sid 0))

    child_stack : stack_count next.place child_sid ≡ stack_count p sid
    child_stack = stack_of child_sid ∙ ap (λ (o : Option SpacePages). length (stack_in o)) (added_same child_sid p.spaces x refl new) ∙ map_length (slots_of p (Stack sid 0))

    other_data : (n : ℕ) → n ≢ child_sid → data_count next.place n ≡ data_count p n
    other_data n m = data_of n ∙ ap (λ (o : Option SpacePages). length (data_in o)) (added_other n p.spaces x (λ i. m (sym i)))

    other_stack : (n : ℕ) → n ≢ child_sid → stack_count next.place n ≡ stack_count p n
    other_stack n m = stack_of n ∙ ap (λ (o : Option SpacePages). length (stack_in o)) (added_other n p.spaces x (λ i. m (sym i)))

    texts : (i : ℕ) → length (slots_of next.place (Text i 0)) ≡ length (slots_of p (Text i 0))
    texts i = ap (λ (ts : List Rattle.page_model.specs.Pages.TextPages). length (Rattle.page_model.specs.Pages.text_in (numbered Rattle.page_model.specs.Placement.image_number i ts))) t

    shared : (i : ℕ) → 0 < sharers next.place i → 0 < sharers p i
    shared i m = sharers_added p x p.due i (λ (j : image_of p sid ≡ i). subst (λ (n : ℕ). 0 < sharers p n) j (has_sharer sid p.spaces h)) (subst (λ (ss : List SpacePages). 0 < sharers_in i ss) e m)

    none_in : (owner : Owner) → same_owner (owners.Data child_sid) owner ≡ false → same_owner (owners.Stack child_sid) owner ≡ false → same_owner (owners.U child) owner ≡ false
        → wanted_lengths owner (change_asks [] p sid child_sid (Fork child)) ≡ []
    none_in owner a b c = parts owner
        ∙ nothing_with (wanted_lengths owner (wanted (owners.Data child_sid) d))
        (wanted_lengths owner (wanted (owners.Stack child_sid) s) ++ wanted_lengths owner (wanted (owners.U child) (u_pieces 2)))
        (lengths_other (owners.Data child_sid) owner d a)
        (nothing_with (wanted_lengths owner (wanted (owners.Stack child_sid) s)) (wanted_lengths owner (wanted (owners.U child) (u_pieces 2))) (lengths_other (owners.Stack child_sid) owner s b)
        (lengths_other (owners.U child) owner (u_pieces 2) c))

    data_in_list : wanted_lengths (owners.Data child_sid) (change_asks [] p sid child_sid (Fork child)) ≡ d
    data_in_list = parts (owners.Data child_sid) ∙ ap₂ (λ (xs ys : List ℕ). xs ++ ys) (lengths_own (owners.Data child_sid) d)
        (nothing_with (wanted_lengths (owners.Data child_sid) (wanted (owners.Stack child_sid) s)) (wanted_lengths (owners.Data child_sid) (wanted (owners.U child) (u_pieces 2)))
        (lengths_other (owners.Stack child_sid) (owners.Data child_sid) s refl) (lengths_other (owners.U child) (owners.Data child_sid) (u_pieces 2) refl)) ∙ append-nil d

    stack_in_list : wanted_lengths (owners.Stack child_sid) (change_asks [] p sid child_sid (Fork child)) ≡ s
    stack_in_list = parts (owners.Stack child_sid) ∙ ap₂ (λ (xs ys : List ℕ). xs ++ ys) (lengths_other (owners.Data child_sid) (owners.Stack child_sid) d refl)
        (ap₂ (λ (xs ys : List ℕ). xs ++ ys) (lengths_own (owners.Stack child_sid) s) (lengths_other (owners.U child) (owners.Stack child_sid) (u_pieces 2) refl)) ∙ append-nil s

    u_in_list : wanted_lengths (owners.U child) (change_asks [] p sid child_sid (Fork child)) ≡ u_pieces 2
    u_in_list = parts (owners.U child) ∙ ap₂ (λ (xs ys : List ℕ). xs ++ ys) (lengths_other (owners.Data child_sid) (owners.U child) d refl)
        (ap₂ (λ (xs ys : List ℕ). xs ++ ys) (lengths_other (owners.Stack child_sid) (owners.U child) s refl) (lengths_own (owners.U child) (u_pieces 2)))

    by : AsksFor k next (change_asks [] p sid child_sid (Fork child))
    by (owners.Data n) = elim (cases_eq n child_sid) [
      | inl i ↦ subst (λ (y : ℕ). wanted_lengths (owners.Data y) (change_asks [] p sid child_sid (Fork child)) ≡ drop (length (pieces (2 * data_count p y))) (pieces (2 * data_count next.place y)))
          (sym i)
          (data_in_list ∙ ap (λ (m : ℕ). pieces (2 * m)) (sym child_data)
          ∙ all_further (data_count p child_sid) (data_count next.place child_sid) (ap (λ (o : Option SpacePages). length (data_in o)) new))
      | inr m ↦ none_in (owners.Data n) (ne_eqb child_sid n (λ i. m (sym i))) refl refl ∙ none_further (data_count p n) (data_count next.place n) (let a = other_data n m in omega arith)
    ]
    by (owners.Stack n) = elim (cases_eq n child_sid) [
      | inl i ↦ subst (λ (y : ℕ). wanted_lengths (owners.Stack y) (change_asks [] p sid child_sid (Fork child)) ≡ drop (length (pieces (2 * stack_count p y))) (pieces (2 * stack_count next.place y)))
          (sym i)
          (stack_in_list ∙ ap (λ (m : ℕ). pieces (2 * m)) (sym child_stack)
          ∙ all_further (stack_count p child_sid) (stack_count next.place child_sid) (ap (λ (o : Option SpacePages). length (stack_in o)) new))
      | inr m ↦ none_in (owners.Stack n) refl (ne_eqb child_sid n (λ i. m (sym i))) refl ∙ none_further (stack_count p n) (stack_count next.place n) (let a = other_stack n m in omega arith)
    ]
    by (owners.U n) = elim (cases_eq n child) [
      | inl i ↦ subst (λ (y : ℕ). wanted_lengths (owners.U y) (change_asks [] p sid child_sid (Fork child))
          ≡ drop (length (u_pieces (u_blocks (lives k.processes y)))) (u_pieces (u_blocks (lives next.processes y)))) (sym i)
          (u_in_list ∙ new_u (lives k.processes child) (lives next.processes child) dead live)
      | inr m ↦ none_in (owners.U n) refl refl (ne_eqb child n (λ i. m (sym i))) ∙ none_u (lives k.processes n) (lives next.processes n) (l n m)
    ]
    by (owners.Text i) = none_in (owners.Text i) refl refl refl
        ∙ none_text (sharers p i) (sharers next.place i) (2 * length (slots_of p (Text i 0))) (2 * length (slots_of next.place (Text i 0))) (shared i) (ap (λ (n : ℕ). 2 * n) (texts i))

-- vfork wants the child's u page alone.
lend_asks : (k next : Kernel) (sid next_sid child : ℕ) → AtMost k.place next.place → lives k.processes child ≡ false
    → lives next.processes child ≡ true → ((n : ℕ) → n ≢ child → lives next.processes n ≡ true → lives k.processes n ≡ true)
    → AsksFor k next (change_asks [] k.place sid next_sid (Lend child))
lend_asks k next sid next_sid child a dead live l (owners.Data t) =
    lengths_other (owners.U child) (owners.Data t) (u_pieces 2) refl ∙ none_further (data_count k.place t) (data_count next.place t) (a.of_data t)
lend_asks k next sid next_sid child a dead live l (owners.Stack t) =
    lengths_other (owners.U child) (owners.Stack t) (u_pieces 2) refl ∙ none_further (stack_count k.place t) (stack_count next.place t) (a.of_stack t)
lend_asks k next sid next_sid child a dead live l (owners.U n) = elim (cases_eq n child) [
  | inl i ↦ subst (λ (y : ℕ). wanted_lengths (owners.U y) (wanted (owners.U child) (u_pieces 2))
      ≡ drop (length (u_pieces (u_blocks (lives k.processes y)))) (u_pieces (u_blocks (lives next.processes y)))) (sym i)
      (lengths_own (owners.U child) (u_pieces 2) ∙ new_u (lives k.processes child) (lives next.processes child) dead live)
  | inr m ↦ lengths_other (owners.U child) (owners.U n) (u_pieces 2) (ne_eqb child n (λ i. m (sym i))) ∙ none_u (lives k.processes n) (lives next.processes n) (l n m)
]
lend_asks k next sid next_sid child a dead live l (owners.Text i) = lengths_other (owners.U child) (owners.Text i) (u_pieces 2) refl
    ∙ none_text (sharers k.place i) (sharers next.place i) (2 * length (slots_of k.place (Text i 0))) (2 * length (slots_of next.place (Text i 0))) (a.sharing i) (ap (λ (n : ℕ). 2 * n) (a.texts i))

-- A new image.

unless_data : (borrowed : Bool) (r : Placement) (sid t : ℕ) → data_count (give_up_unless borrowed r sid) t ≤ data_count r t
unless_data true r sid t = omega arith
unless_data false r sid t = elim (cases_eq t sid) [
  | inl e ↦ (let z = ap (λ (n : ℕ). length (slots_of (give_up r sid) (Data n 0))) e ∙ gone_data r sid in omega arith)
  | inr n ↦ (let z = give_up_length r sid (Data t 0) tt n in omega arith)
]

unless_stack : (borrowed : Bool) (r : Placement) (sid t : ℕ) → stack_count (give_up_unless borrowed r sid) t ≤ stack_count r t
unless_stack true r sid t = omega arith
unless_stack false r sid t = elim (cases_eq t sid) [
  | inl e ↦ (let z = ap (λ (n : ℕ). length (slots_of (give_up r sid) (Stack n 0))) e ∙ gone_stack r sid in omega arith)
  | inr n ↦ (let z = give_up_length r sid (Stack t 0) tt n in omega arith)
]

unless_data_same : (borrowed : Bool) (r : Placement) (sid t : ℕ) → (borrowed ≡ false → t ≢ sid) → data_count (give_up_unless borrowed r sid) t ≡ data_count r t
unless_data_same true r sid t n = refl
unless_data_same false r sid t n = give_up_length r sid (Data t 0) tt (n refl)

unless_stack_same : (borrowed : Bool) (r : Placement) (sid t : ℕ) → (borrowed ≡ false → t ≢ sid)
    → stack_count (give_up_unless borrowed r sid) t ≡ stack_count r t
unless_stack_same true r sid t n = refl
unless_stack_same false r sid t n = give_up_length r sid (Stack t 0) tt (n refl)

rest_le : (sid j : ℕ) (ss : List SpacePages) → sharers_in j (rest_of sid ss) ≤ sharers_in j ss
rest_le sid j [] = omega arith
rest_le sid j (s ∷ ss) = go (s.sid == sid) (rest_le sid j ss)
  where
    go : (b : Bool) → sharers_in j (rest_of sid ss) ≤ sharers_in j ss → sharers_in j (cond (not b) (s ∷ rest_of sid ss) (rest_of sid ss)) ≤ sharers_in j (s ∷ ss)
    go true l = omega arith
    go false l = omega arith

unless_sharers : (borrowed : Bool) (r : Placement) (sid j : ℕ) → sharers (give_up_unless borrowed r sid) j ≤ sharers r j
unless_sharers true r sid j = omega arith
unless_sharers false r sid j = let e = give_up_rest r sid j in let l = rest_le sid j r.spaces in omega arith

-- a new space of another number stays
last_stays : (sid : ℕ) (ss : List SpacePages) (x : SpacePages) → x.sid ≢ sid → 0 < sharers_in x.image (rest_of sid (ss ++ x ∷ []))
last_stays sid [] x n = go (x.sid == sid) (x.image == x.image) (ne_eqb x.sid sid n) (eq-eqb x.image x.image refl)
  where
    go : (b c : Bool) → b ≡ false → c ≡ true → 0 < sharers_in x.image (cond (not b) (x ∷ []) [])
    go true c e h = absurd cc
    go false c e h = counted (x.image == x.image) (eq-eqb x.image x.image refl)
      where
        counted : (b : Bool) → b ≡ true → 0 < cond b 1 0 + 0
        counted true e = omega arith
        counted false e = absurd cc
last_stays sid (s ∷ ss) x n = go (s.sid == sid) (last_stays sid ss x n)
  where
    go : (b : Bool) → 0 < sharers_in x.image (rest_of sid (ss ++ x ∷ [])) → 0 < sharers_in x.image (cond (not b) (s ∷ rest_of sid (ss ++ x ∷ [])) (rest_of sid (ss ++ x ∷ [])))
    go true l = l
    go false l = omega arith

entered_shared : (borrowed : Bool) (p : Placement) (x : SpacePages) (due : List Due) (sid : ℕ) → (borrowed ≡ false → x.sid ≢ sid)
    → 0 < sharers (give_up_unless borrowed (record p { spaces = p.spaces ++ x ∷ []; due = due }) sid) x.image
entered_shared true p x due sid n = let e = sharers-append x.image p.spaces (x ∷ []) in counted (x.image == x.image) (sharers p x.image) (eq-eqb x.image x.image refl) e
  where
    counted : (b : Bool) (m : ℕ) → b ≡ true → sharers_in x.image (p.spaces ++ x ∷ []) ≡ m + (cond b 1 0 + 0) → 0 < sharers_in x.image (p.spaces ++ x ∷ [])
    counted true m e h = omega arith
    counted false m e h = absurd cc
entered_shared false p x due sid n = let e = give_up_rest (record p { spaces = p.spaces ++ x ∷ []; due = due }) sid x.image in let l = last_stays sid p.spaces x (n refl) in omega arith

pub text_none : (n image blocks : ℕ) (owner : Owner) → same_owner (owners.Text image) owner ≡ false → wanted_lengths owner (text_asked n image blocks) ≡ []
text_none zero image blocks owner d = lengths_other (owners.Text image) owner (text_pieces blocks) d
text_none (suc n) image blocks owner d = refl

text_own : (n b image blocks m : ℕ) → 0 < b → m ≡ blocks
    → wanted_lengths (owners.Text image) (text_asked n image blocks) ≡ drop (length (text_pieces_while n blocks)) (text_pieces_while b m)
text_own zero zero image blocks m l e = absurd (omega arith)
text_own zero (suc b) image blocks m l e = lengths_own (owners.Text image) (text_pieces blocks) ∙ ap text_pieces (sym e) ∙ sym (whole (text_pieces m))
text_own (suc n) b image blocks m l e = none_text (suc n) b blocks m (λ h. omega arith) e

pub exec_asks : (k next : Kernel) (image ns sid : ℕ) (borrowed : Bool) (facts : Image) → IsNew k.place ns → (borrowed ≡ false → ns ≢ sid)
    → next.place ≡ give_up_unless borrowed (enter_space k.place ns image facts) sid
    → ((i : ℕ) → length (slots_of next.place (Text i 0)) ≡ length (slots_of k.place (Text i 0))) → Living k next
    → AsksFor k next (image_asked k.place ns image (Some facts))
exec_asks k next image ns sid borrowed facts new apart e texts l = by
  where
    p : Placement
    p = k.place

    x : SpacePages
    x = new_pages ns image facts

    r : Placement
    r = enter_space p ns image facts

    blocks : ℕ
    blocks = 2 * length (slots_of p (Text image 0))

    t : List Wanted
    t = text_asked (sharers p image) image blocks

    d : List ℕ
    d = pieces (2 * image_data_pages facts)

    s : List ℕ
    s = pieces 2

    all : List Wanted
    all = image_asked p ns image (Some facts)

    parts : (owner : Owner) → wanted_lengths owner all ≡ wanted_lengths owner t ++ (wanted_lengths owner (wanted (owners.Data ns) d) ++ wanted_lengths owner (wanted (owners.Stack ns) s))
    parts owner = lengths_both owner t (wanted (owners.Data ns) d ++ wanted (owners.Stack ns) s)
        ∙ ap (λ (xs : List ℕ). wanted_lengths owner t ++ xs) (lengths_both owner (wanted (owners.Data ns) d) (wanted (owners.Stack ns) s))

    none_in : (owner : Owner) → same_owner (owners.Text image) owner ≡ false → same_owner (owners.Data ns) owner ≡ false → same_owner (owners.Stack ns) owner ≡ false → wanted_lengths owner all ≡ []
    none_in owner a b c = parts owner
        ∙ nothing_with (wanted_lengths owner t) (wanted_lengths owner (wanted (owners.Data ns) d) ++ wanted_lengths owner (wanted (owners.Stack ns) s))
        (text_none (sharers p image) image blocks owner a)
        (nothing_with (wanted_lengths owner (wanted (owners.Data ns) d)) (wanted_lengths owner (wanted (owners.Stack ns) s)) (lengths_other (owners.Data ns) owner d b)
        (lengths_other (owners.Stack ns) owner s c))

    data_list : wanted_lengths (owners.Data ns) all ≡ d
    data_list = parts (owners.Data ns) ∙ ap₂ (λ (xs ys : List ℕ). xs ++ ys) (text_none (sharers p image) image blocks (owners.Data ns) refl)
        (ap₂ (λ (xs ys : List ℕ). xs ++ ys) (lengths_own (owners.Data ns) d) (lengths_other (owners.Stack ns) (owners.Data ns) s refl)) ∙ append-nil d

    stack_list : wanted_lengths (owners.Stack ns) all ≡ s
    stack_list = parts (owners.Stack ns) ∙ ap₂ (λ (xs ys : List ℕ). xs ++ ys) (text_none (sharers p image) image blocks (owners.Stack ns) refl)
        (ap₂ (λ (xs ys : List ℕ). xs ++ ys) (lengths_other (owners.Data ns) (owners.Stack ns) d refl) (lengths_own (owners.Stack ns) s))

    text_list : wanted_lengths (owners.Text image) all ≡ wanted_lengths (owners.Text image) t
    text_list = parts (owners.Text image) ∙ ap (λ (xs : List ℕ). wanted_lengths (owners.Text image) t ++ xs)
        (nothing_with (wanted_lengths (owners.Text image) (wanted (owners.Data ns) d)) (wanted_lengths (owners.Text image) (wanted (owners.Stack ns) s))
        (lengths_other (owners.Data ns) (owners.Text image) d refl) (lengths_other (owners.Stack ns) (owners.Text image) s refl))
        ∙ append-nil (wanted_lengths (owners.Text image) t)

    new_data : data_count next.place ns ≡ image_data_pages facts
    new_data = ap (λ (q : Placement). data_count q ns) e ∙ unless_data_same borrowed r sid ns apart ∙ ap (λ (o : Option SpacePages). length (data_in o)) (added_same ns p.spaces x refl new)
        ∙ unfilled_length facts 0 (image_data_pages facts)

    new_stack : stack_count next.place ns ≡ 1
    new_stack = ap (λ (q : Placement). stack_count q ns) e ∙ unless_stack_same borrowed r sid ns apart ∙ ap (λ (o : Option SpacePages). length (stack_in o)) (added_same ns p.spaces x refl new)

    other_data : (n : ℕ) → n ≢ ns → data_count next.place n ≤ data_count p n
    other_data n m =
        let a = ap (λ (q : Placement). data_count q n) e in
        let b = unless_data borrowed r sid n in
        let c : data_count r n ≡ data_count p n = ap (λ (o : Option SpacePages). length (data_in o)) (added_other n p.spaces x (λ i. m (sym i))) in
        omega arith

    other_stack : (n : ℕ) → n ≢ ns → stack_count next.place n ≤ stack_count p n
    other_stack n m =
        let a = ap (λ (q : Placement). stack_count q n) e in
        let b = unless_stack borrowed r sid n in
        let c : stack_count r n ≡ stack_count p n = ap (λ (o : Option SpacePages). length (stack_in o)) (added_other n p.spaces x (λ i. m (sym i))) in
        omega arith

    other_shared : (i : ℕ) → i ≢ image → 0 < sharers next.place i → 0 < sharers p i
    other_shared i m h =
        let a = ap (λ (q : Placement). sharers q i) e in
        let b = unless_sharers borrowed r sid i in
        sharers_added p x r.due i (λ j. absurd (m (sym j))) (let c : 0 < sharers r i = omega arith in c)

    by : AsksFor k next all
    by (owners.Data n) = elim (cases_eq n ns) [
      | inl i ↦ subst (λ (y : ℕ). wanted_lengths (owners.Data y) all ≡ drop (length (pieces (2 * data_count p y))) (pieces (2 * data_count next.place y))) (sym i)
          (data_list ∙ ap (λ (m : ℕ). pieces (2 * m)) (sym new_data) ∙ all_further (data_count p ns) (data_count next.place ns) (ap (λ (o : Option SpacePages). length (data_in o)) new))
      | inr m ↦ none_in (owners.Data n) refl (ne_eqb ns n (λ i. m (sym i))) refl ∙ none_further (data_count p n) (data_count next.place n) (other_data n m)
    ]
    by (owners.Stack n) = elim (cases_eq n ns) [
      | inl i ↦ subst (λ (y : ℕ). wanted_lengths (owners.Stack y) all ≡ drop (length (pieces (2 * stack_count p y))) (pieces (2 * stack_count next.place y))) (sym i)
          (stack_list ∙ ap (λ (m : ℕ). pieces (2 * m)) (sym new_stack) ∙ all_further (stack_count p ns) (stack_count next.place ns) (ap (λ (o : Option SpacePages). length (stack_in o)) new))
      | inr m ↦ none_in (owners.Stack n) refl refl (ne_eqb ns n (λ i. m (sym i))) ∙ none_further (stack_count p n) (stack_count next.place n) (other_stack n m)
    ]
    by (owners.U n) = none_in (owners.U n) refl refl refl ∙ none_u (lives k.processes n) (lives next.processes n) (l n)
    by (owners.Text i) = elim (cases_eq i image) [
      | inl j ↦ subst (λ (y : ℕ). wanted_lengths (owners.Text y) all
          ≡ drop (length (text_pieces_while (sharers p y) (2 * length (slots_of p (Text y 0))))) (text_pieces_while (sharers next.place y) (2 * length (slots_of next.place (Text y 0))))) (sym j)
          (text_list ∙ text_own (sharers p image) (sharers next.place image) image blocks (2 * length (slots_of next.place (Text image 0)))
          (subst (λ (q : Placement). 0 < sharers q image) (sym e) (entered_shared borrowed p x r.due sid apart)) (ap (λ (n : ℕ). 2 * n) (texts image)))
      | inr m ↦ none_in (owners.Text i) (ne_eqb image i (λ j. m (sym j))) refl refl
          ∙ none_text (sharers p i) (sharers next.place i) (2 * length (slots_of p (Text i 0))) (2 * length (slots_of next.place (Text i 0))) (other_shared i m) (ap (λ (n : ℕ). 2 * n) (texts i))
    ]

-- All changes.

most_self : (p : Placement) → AtMost p p
most_self p = record { of_data = λ t. omega arith; of_stack = λ t. omega arith; texts = λ i. refl; sharing = λ i l. l }

change_asked : (images : List Image) (k : Kernel) (x : Proc) (e : Entry) (change : Change) → lives k.processes x.pid ≡ true
    → CanChange k.place (space_of_life x.life) (gave_back x.life) k.next_sid change
    → MayAsk k.place k.processes (space_of_life x.life) (gave_back x.life) k.next_sid change
    → AsksFor k (change_by images k x e change) (change_asks images k.place (space_of_life x.life) k.next_sid change)
change_asked images k x e change a c m = go change c m
  where
    sid : ℕ
    sid = space_of_life x.life

    borrowed : Bool
    borrowed = gave_back x.life

    who : Changing
    who = changing_of images k x e

    back : (change : Change) → MayAsk k.place k.processes sid borrowed k.next_sid change → (n : ℕ) → (IsChild change n → ⊥) → lives (procs_after k.processes x k.next_sid change) n ≡ true
        → lives k.processes n ≡ true
    back change m n h l = after_back k.processes x k.next_sid n change a (λ status i. subst (MayAsk k.place k.processes sid borrowed k.next_sid) i m) h l

    living : (change : Change) → MayAsk k.place k.processes sid borrowed k.next_sid change → ((n : ℕ) → IsChild change n → ⊥) → Living k (change_by images k x e change)
    living change m h n l = back change m n (h n) l

    texts : (change : Change) (i : ℕ) → length (slots_of (place_change who k.place change) (Text i 0)) ≡ length (slots_of k.place (Text i 0))
    texts change i = change_texts who k.place change i

    unless_most : AtMost k.place (place_change who k.place (End 0))
    unless_most = record {
      of_data = unless_data borrowed k.place sid;
      of_stack = unless_stack borrowed k.place sid;
      texts = texts (End 0);
      sharing = λ i l. (let h = unless_sharers borrowed k.place sid i in let j : 0 < sharers (give_up_unless borrowed k.place sid) i = l in omega arith);
    }

    lent_most : (child : ℕ) → AtMost k.place (place_change who k.place (Lend child))
    lent_most child = let s : AtMost k.place k.place = most_self k.place in record { of_data = s.of_data; of_stack = s.of_stack; texts = s.texts; sharing = s.sharing }

    dead : (child : ℕ) → IsUnused k.processes child → lives k.processes child ≡ false
    dead child u = ap lives_in u

    born : (child : ℕ) (life : Life) → IsUnused k.processes child → has_life life ≡ true → lives (with_proc k.processes x ++ child_proc x child life ∷ []) child ≡ true
    born child life u h = last_lives (with_proc k.processes x) (child_proc x child life) (unused_with k.processes x child u) h

    image : (number : ℕ) (top : List ℕ) (o : Option Image) → facts_numbered images number ≡ o → IsNew k.place k.next_sid → (borrowed ≡ false → k.next_sid ≢ sid)
        → AsksFor k (change_by images k x e (Exec number top)) (image_asked k.place k.next_sid number o)
    image number top None f new apart = nothing_asked k (change_by images k x e (Exec number top))
        (subst (AtMost k.place) (sym (ap (λ (o : Option Image). give_up_unless borrowed (enter_image k.place k.next_sid number o) sid) f)) (record {
          of_data = unless_data borrowed k.place sid;
          of_stack = unless_stack borrowed k.place sid;
          texts = unless_most.texts;
          sharing = λ i l. (let h = unless_sharers borrowed k.place sid i in omega arith);
        })) (living (Exec number top) apart (λ n h. h))
    image number top (Some facts) f new apart = exec_asks k (change_by images k x e (Exec number top)) number k.next_sid sid borrowed facts new apart
        (ap (λ (o : Option Image). give_up_unless borrowed (enter_image k.place k.next_sid number o) sid) f) (texts (Exec number top)) (living (Exec number top) apart (λ n h. h))

    go : (change : Change) → CanChange k.place sid borrowed k.next_sid change → MayAsk k.place k.processes sid borrowed k.next_sid change
        → AsksFor k (change_by images k x e change) (change_asks images k.place sid k.next_sid change)
    go Keep c m = nothing_asked k (change_by images k x e Keep) (most_self k.place) (living Keep m (λ n h. h))
    go (Resize d s) c m = resize_asks k (change_by images k x e (Resize d s)) sid d s m refl (living (Resize d s) m (λ n h. h))
    go (Fork child) c m =
        fork_asks k (change_by images k x e (Fork child)) sid k.next_sid child c m.0 refl refl (dead child m.1) (born child (HoldsSpace k.next_sid) m.1 refl) (λ n h l. back (Fork child) m n h l)
    go (Lend child) c m = lend_asks k (change_by images k x e (Lend child)) sid k.next_sid child (lent_most child) (dead child m) (born child New m refl) (λ n h l. back (Lend child) m n h l)
    go (Exec number top) c m = image number top (facts_numbered images number) refl c.0 m
    go (Reap child) c m = nothing_asked k (change_by images k x e (Reap child)) (most_self k.place) (living (Reap child) m (λ n h. h))
    go Sleep c m = nothing_asked k (change_by images k x e Sleep) (most_self k.place) (living Sleep m (λ n h. h))
    go (End status) c m = nothing_asked k (change_by images k x e (End status))
        (record { of_data = unless_most.of_data; of_stack = unless_most.of_stack; texts = unless_most.texts; sharing = unless_most.sharing }) (living (End status) m (λ n h. h))

-- The pieces that are asked for are those that a change takes.
pub asked_for : (images : List Image) (k : Kernel) (pid : ℕ) (regs : Regs) (e : Entry) (change : Change) → MayChange images k pid change
    → WantsThese k pid change
    → AsksFor k (change_step images k pid regs e change) (asked images k pid change)
asked_for images k pid regs e change c w = go (find pid k.processes) refl c.can w.may
  where
    go : (o : Option Proc) → find pid k.processes ≡ o → CanChange k.place (space_of_life (life_of_proc o)) (gave_back (life_of_proc o)) k.next_sid change
        → MayAsk k.place k.processes (space_of_life (life_of_proc o)) (gave_back (life_of_proc o)) k.next_sid change
        → AsksFor k (change_if images k regs e change o) (change_asks images k.place (space_of_life (life_of_proc o)) k.next_sid change)
    go None f d m = absurd (let z : true ≡ false = sym w.alive ∙ ap lives_in f in cc)
    go (Some p) f d m = change_asked images k (record p { regs = regs }) e change (ap (lives k.processes) (proc_number k.processes pid p f) ∙ w.alive) d m
