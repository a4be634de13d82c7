-- How many pages spaces and texts have, and how many spaces share an image, from one placement to the next.
use Rattle.std.proofs.Common.{◌≡◌, ◌≢◌, ◌⊎◌, inl, inr, ℕ, zero, suc, ◌<◌, ◌≤◌, ◌==◌, Bool, true, false, not, cond, List, [], ◌∷◌, ◌++◌, length, map, Option, Some, None, refl, sym, ap, ◌∙◌, subst, arith}
use Rattle.std.proofs.lemmas.Bool.{cases_eq}
use Rattle.vm_facts.specs.declared.page.Page.TheVariants.{Data, Stack, Text}
use Rattle.swap_book.specs.Holdings.{Holdings}
use Rattle.flat_state.specs.declared.change.Change.{Change}
use Rattle.flat_state.specs.declared.change.Change.TheVariants.{Resize, Fork, Lend, Exec, End}
use Rattle.page_model.specs.Pages.{SpacePages, numbered, changed, data_in, stack_in}
use Rattle.page_model.specs.Placement.{Placement, Due, space_number, slots_of, sharers, sharers_in, image_of, image_in, new_pages}
use Rattle.page_model.specs.Moves.{drop_all}
use Rattle.page_model.specs.Place.{Changing, resize, child_slot, fork_space, enter_space, enter_image, remove_space, pages_of_space, pages_of_text, leave_text, leave_text_by, give_up, give_up_unless, place_change, facts_numbered}
use Rattle.page_model.specs.Conditions.{IsNew, CanChange, HasImage, CanForget, MayForget}
use Rattle.kernel_model.specs.ChangeStep.{holdings_after, given_back_unless}
use Rattle.page_laws.proofs.Lists.Pages.{mapped, changed_same, changed_other, sharers_changed}
use Rattle.page_laws.proofs.Ownership.Spaces.{drop_all_length}
use Rattle.page_laws.proofs.Ownership.Changes.{dropped_pages, added_other, removed_other, removed_same, cut}
use Rattle.page_laws.proofs.Blocks.Changes.{leave_text_length, leave_all_sharers, removed_sharers, drop_all_sharers, rest_of, rest_drop_all, sharers-append}
use Rattle.page_laws.proofs.Bytes.Changes.{length_sized}
use Rattle.kernel_laws.proofs.Pieces.GivenBack.{Fits, FitsBoth, Grows, Loses, Resizes, grows_fits, loses_fits, resizes_fits, less_u}
use Rattle.aout_image.specs.declared.Image.{Image}

-- Growth and break.

data_now : (d s : ℕ) (o : Option SpacePages)
    → (length (data_in (mapped (cut d s) o)) ≡ d) ⊎ ((length (data_in (mapped (cut d s) o)) ≡ 0) × (length (data_in o) ≡ 0))
data_now d s None = inr (refl, refl)
data_now d s (Some x) = inl (length_sized d x.data_pages)

stack_now : (d s : ℕ) (o : Option SpacePages)
    → (length (stack_in (mapped (cut d s) o)) ≡ s) ⊎ ((length (stack_in (mapped (cut d s) o)) ≡ 0) × (length (stack_in o) ≡ 0))
stack_now d s None = inr (refl, refl)
stack_now d s (Some x) = inl (length_sized s x.stack_pages)

pub resize_sizes : (p : Placement) (sid d s : ℕ) → Resizes sid d s p (resize p sid d s)
resize_sizes p sid d s =
    let r : Placement = drop_all p (dropped_pages p sid d s) in
    let same : numbered space_number sid (changed space_number sid (cut d s) r.spaces) ≡ mapped (cut d s) (numbered space_number sid r.spaces) =
    changed_same space_number sid (cut d s) (λ x. refl) r.spaces in
    let other : (t : ℕ) → t ≢ sid → numbered space_number t (changed space_number sid (cut d s) r.spaces) ≡ numbered space_number t r.spaces = λ t n.
    changed_other space_number sid t (cut d s) (λ x. refl) n r.spaces in
    record {
      data_now = elim (data_now d s (numbered space_number sid r.spaces)) [
        | inl e ↦ inl (ap (λ (o : Option SpacePages). length (data_in o)) same ∙ e)
        | inr z ↦ inr (ap (λ (o : Option SpacePages). length (data_in o)) same ∙ z.0, sym (drop_all_length (dropped_pages p sid d s) p (Data sid 0)) ∙ z.1)
      ];
      stack_now = elim (stack_now d s (numbered space_number sid r.spaces)) [
        | inl e ↦ inl (ap (λ (o : Option SpacePages). length (stack_in o)) same ∙ e)
        | inr z ↦ inr (ap (λ (o : Option SpacePages). length (stack_in o)) same ∙ z.0, sym (drop_all_length (dropped_pages p sid d s) p (Stack sid 0)) ∙ z.1)
      ];
      of_data = λ t n. ap (λ (o : Option SpacePages). length (data_in o)) (other t n) ∙ drop_all_length (dropped_pages p sid d s) p (Data t 0);
      of_stack = λ t n. ap (λ (o : Option SpacePages). length (stack_in o)) (other t n) ∙ drop_all_length (dropped_pages p sid d s) p (Stack t 0);
      texts = λ i. drop_all_length (dropped_pages p sid d s) p (Text i 0);
      sharing = λ i. sharers_changed sid i (cut d s) (λ x. refl) r.spaces ∙ drop_all_sharers (dropped_pages p sid d s) p i;
    }

-- Spaces that stay or come.

pub grows_self : (p : Placement) → Grows p p
grows_self p = record { of_data = λ t. omega arith; of_stack = λ t. omega arith; texts = λ i. refl; sharing = λ i l. l }

pub first_or_none : (t : ℕ) (ss : List SpacePages) (x : SpacePages)
    → (numbered space_number t (ss ++ x ∷ []) ≡ numbered space_number t ss) ⊎ (numbered space_number t ss ≡ None)
first_or_none t [] x = inr refl
first_or_none t (s ∷ ss) x = go (space_number s == t) (first_or_none t ss x)
  where
    go : (b : Bool) → (numbered space_number t (ss ++ x ∷ []) ≡ numbered space_number t ss) ⊎ (numbered space_number t ss ≡ None)
        → (cond b (Some s) (numbered space_number t (ss ++ x ∷ [])) ≡ cond b (Some s) (numbered space_number t ss)) ⊎ (cond b (Some s) (numbered space_number t ss) ≡ None)
    go true h = inl refl
    go false h = h

grown_size : (size : Option SpacePages → ℕ) (t : ℕ) (ss : List SpacePages) (x : SpacePages) → size None ≡ 0
    → size (numbered space_number t ss) ≤ size (numbered space_number t (ss ++ x ∷ []))
grown_size size t ss x z = elim (first_or_none t ss x) [
  | inl e ↦ (let h = ap size e in omega arith)
  | inr e ↦ (let h = ap size e in omega arith)
]

pub add_grows : (p : Placement) (x : SpacePages) (due : List Due) → Grows p (record p { spaces = p.spaces ++ x ∷ []; due = due })
add_grows p x due = record {
  of_data = λ t. grown_size (λ o. length (data_in o)) t p.spaces x refl;
  of_stack = λ t. grown_size (λ o. length (stack_in o)) t p.spaces x refl;
  texts = λ i. refl;
  sharing = λ i l. let e = sharers-append i p.spaces (x ∷ []) in omega arith;
}

pub fork_grows : (p : Placement) (parent child : ℕ) → Grows p (fork_space p parent child)
fork_grows p parent child =
    let g = add_grows p (record {
      sid = child;
      image = image_of p parent;
      data_pages = map child_slot (slots_of p (Data parent 0));
      stack_pages = map child_slot (slots_of p (Stack parent 0));
    }) (fork_space p parent child).due in
    record { of_data = g.of_data; of_stack = g.of_stack; texts = g.texts; sharing = g.sharing }

pub enter_grows : (p : Placement) (sid image : ℕ) (facts : Option Image) → Grows p (enter_image p sid image facts)
enter_grows p sid image None = grows_self p
enter_grows p sid image (Some facts) = add_grows p (new_pages sid image facts) (enter_space p sid image facts).due

-- A space that goes.

pub leave_text_sharers : (p : Placement) (image j : ℕ) → sharers (leave_text p image) j ≡ sharers p j
leave_text_sharers p image j = go (sharers p image)
  where
    go : (n : ℕ) → sharers (leave_text_by p image n) j ≡ sharers p j
    go zero = leave_all_sharers (pages_of_text p image) p j
    go (suc n) = refl

pub give_up_rest : (p : Placement) (sid j : ℕ) → sharers (give_up p sid) j ≡ sharers_in j (rest_of sid p.spaces)
give_up_rest p sid j = leave_text_sharers (remove_space (drop_all p (pages_of_space p sid)) sid) (image_of p sid) j ∙ rest_drop_all (pages_of_space p sid) p sid j

-- nothing is left of a space that goes
pub gone_data : (p : Placement) (sid : ℕ) → length (slots_of (give_up p sid) (Data sid 0)) ≡ 0
gone_data p sid = let d : Placement =
    drop_all p (pages_of_space p sid) in leave_text_length (remove_space d sid) (image_of p sid) (Data sid 0) ∙ ap (λ (o : Option SpacePages). length (data_in o)) (removed_same sid d.spaces)

pub gone_stack : (p : Placement) (sid : ℕ) → length (slots_of (give_up p sid) (Stack sid 0)) ≡ 0
gone_stack p sid = let d : Placement =
    drop_all p (pages_of_space p sid) in leave_text_length (remove_space d sid) (image_of p sid) (Stack sid 0) ∙ ap (λ (o : Option SpacePages). length (stack_in o)) (removed_same sid d.spaces)

-- a space of a grown placement goes
gone_loses : (p q : Placement) (sid image : ℕ) → Grows p q → ((j : ℕ) → j ≢ image → 0 < sharers p j → 0 < sharers (give_up q sid) j)
    → Loses sid image p (give_up q sid)
gone_loses p q sid image g h =
    let d : Placement = drop_all q (pages_of_space q sid) in
    let r : Placement = remove_space d sid in
    record {
      data_gone = gone_data q sid;
      stack_gone = gone_stack q sid;
      of_data = λ t n.
          let a = leave_text_length r (image_of q sid) (Data t 0) in
          let b : length (slots_of r (Data t 0)) ≡ length (slots_of d (Data t 0)) = ap (λ (o : Option SpacePages). length (data_in o)) (removed_other sid t d.spaces n) in
          let c = drop_all_length (pages_of_space q sid) q (Data t 0) in
          let k = g.of_data t in
          omega arith;
      of_stack = λ t n.
          let a = leave_text_length r (image_of q sid) (Stack t 0) in
          let b : length (slots_of r (Stack t 0)) ≡ length (slots_of d (Stack t 0)) = ap (λ (o : Option SpacePages). length (stack_in o)) (removed_other sid t d.spaces n) in
          let c = drop_all_length (pages_of_space q sid) q (Stack t 0) in
          let k = g.of_stack t in
          omega arith;
      texts = λ i. leave_text_length r (image_of q sid) (Text i 0) ∙ drop_all_length (pages_of_space q sid) q (Text i 0) ∙ g.texts i;
      sharing = h;
    }

given_sharers : (p q : Placement) (sid image : ℕ) → Grows p q → HasImage sid image q.spaces → (j : ℕ) → j ≢ image → 0 < sharers p j
    → 0 < sharers (give_up q sid) j
given_sharers p q sid image g h j n l = let e = give_up_rest q sid j ∙ removed_sharers sid image j q.spaces h n in let k = g.sharing j l in omega arith

pub give_up_loses : (p : Placement) (sid : ℕ) → CanForget p sid → Loses sid (image_of p sid) p (give_up p sid)
give_up_loses p sid c = gone_loses p p sid (image_of p sid) (grows_self p) (given_sharers p p sid (image_of p sid) (grows_self p) c.image)

-- spaces of other numbers stay
others_rest : (sid j : ℕ) (ss rs : List SpacePages) → numbered space_number sid ss ≡ None → sharers_in j ss ≤ sharers_in j (rest_of sid (ss ++ rs))
others_rest sid j [] rs e = omega arith
others_rest sid j (s ∷ ss) rs e = go (s.sid == sid) e (others_rest sid j ss rs)
  where
    go : (b : Bool) → cond b (Some s) (numbered space_number sid ss) ≡ None → (numbered space_number sid ss ≡ None → sharers_in j ss ≤ sharers_in j (rest_of sid (ss ++ rs)))
        → sharers_in j (s ∷ ss) ≤ sharers_in j (cond (not b) (s ∷ rest_of sid (ss ++ rs)) (rest_of sid (ss ++ rs)))
    go true k ih = absurd cc
    go false k ih = let h = ih k in omega arith

pub exec_loses : (p : Placement) (next image sid : ℕ) (facts : Option Image) → IsNew p next → CanForget (enter_image p next image facts) sid
    → Loses sid (image_of p sid) p (give_up (enter_image p next image facts) sid)
exec_loses p next image sid None new c = give_up_loses p sid c
exec_loses p next image sid (Some facts) new c =
    let x : SpacePages = new_pages next image facts in
    let q : Placement = enter_space p next image facts in
    let grows : Grows p q = add_grows p x q.due in
    gone_loses p q sid (image_of p sid) grows (elim (cases_eq sid next) [
      | inl e ↦ λ j n l.
          let h = give_up_rest q sid j in
          let k = others_rest sid j p.spaces (x ∷ []) (subst (IsNew p) (sym e) new) in
          omega arith
      | inr n ↦ given_sharers p q sid (image_of p sid) grows
          (subst (λ (i : ℕ). HasImage sid i q.spaces) (ap image_in (added_other sid p.spaces x (λ k. n (sym k)))) c.image)
    ])

-- The holdings after a change are those that the placement after it asks for.

unless_fits : (borrowed : Bool) (p r : Placement) (sid : ℕ) (hs : Holdings) → (borrowed ≡ true → Grows p (give_up_unless borrowed r sid))
    → (borrowed ≡ false → Loses sid (image_of p sid) p (give_up_unless borrowed r sid))
    → FitsBoth p (give_up_unless borrowed r sid) hs
    → Fits (give_up_unless borrowed r sid) (given_back_unless borrowed hs sid (image_of p sid) (sharers (give_up_unless borrowed r sid) (image_of p sid)))
unless_fits true p r sid hs g l f = grows_fits p r hs (g refl) f
unless_fits false p r sid hs g l f = loses_fits sid (image_of p sid) p (give_up r sid) hs (l refl) f

exec_grows : (borrowed : Bool) (p r : Placement) (sid : ℕ) → Grows p r → borrowed ≡ true → Grows p (give_up_unless borrowed r sid)
exec_grows true p r sid g e = g
exec_grows false p r sid g e = absurd cc

exec_lost : (borrowed : Bool) (p : Placement) (next image sid : ℕ) (facts : Option Image) → IsNew p next
    → (borrowed ≡ false → CanForget (enter_image p next image facts) sid) → borrowed ≡ false
    → Loses sid (image_of p sid) p (give_up_unless borrowed (enter_image p next image facts) sid)
exec_lost true p next image sid facts new c e = absurd cc
exec_lost false p next image sid facts new c e = exec_loses p next image sid facts new (c refl)

end_lost : (borrowed : Bool) (p : Placement) (sid : ℕ) → (borrowed ≡ false → CanForget p sid) → borrowed ≡ false
    → Loses sid (image_of p sid) p (give_up_unless borrowed p sid)
end_lost true p sid c e = absurd cc
end_lost false p sid c e = give_up_loses p sid (c refl)

pub change_fits : (who : Changing) (p : Placement) (change : Change) (hs : Holdings)
    → CanChange p who.sid who.borrowed who.next_sid change → MayForget who.images p who.sid who.borrowed who.next_sid change
    → FitsBoth p (place_change who p change) hs
    → Fits (place_change who p change)
    (holdings_after who hs p (place_change who p change) change)
change_fits who p (Resize d s) hs c m f = resizes_fits who.sid d s p (resize p who.sid d s) hs (resize_sizes p who.sid d s) f
change_fits who p (Fork child) hs c m f =
    let g = fork_grows p who.sid who.next_sid in
    grows_fits p (place_change who p (Fork child)) hs (record { of_data = g.of_data; of_stack = g.of_stack; texts = g.texts; sharing = g.sharing }) f
change_fits who p (Lend child) hs c m f =
    let g = grows_self p in
    grows_fits p (place_change who p (Lend child)) hs (record { of_data = g.of_data; of_stack = g.of_stack; texts = g.texts; sharing = g.sharing }) f
change_fits who p (Exec image top) hs c m f = unless_fits who.borrowed p (enter_image p who.next_sid image (facts_numbered who.images image)) who.sid hs
    (exec_grows who.borrowed p (enter_image p who.next_sid image (facts_numbered who.images image)) who.sid (enter_grows p who.next_sid image (facts_numbered who.images image)))
    (exec_lost who.borrowed p who.next_sid image who.sid (facts_numbered who.images image) c.0 m) f
change_fits who p (End status) hs c m f =
    let r : Placement = give_up_unless who.borrowed p who.sid in
    let k = unless_fits who.borrowed p p who.sid hs (exec_grows who.borrowed p p who.sid (grows_self p)) (end_lost who.borrowed p who.sid m)
    (record { of_data = f.of_data; of_stack = f.of_stack; of_text = f.of_text }) in
    let u = less_u r (given_back_unless who.borrowed hs who.sid (image_of p who.sid) (sharers r (image_of p who.sid))) who.pid k in
    record { of_data = u.of_data; of_stack = u.of_stack; of_text = u.of_text }
change_fits who p _ hs c m f = grows_fits p p hs (grows_self p) f

-- no change makes a text longer or shorter
pub unless_texts : (borrowed : Bool) (p : Placement) (sid i : ℕ) → length (slots_of (give_up_unless borrowed p sid) (Text i 0)) ≡ length (slots_of p (Text i 0))
unless_texts true p sid i = refl
unless_texts false p sid i = leave_text_length (remove_space (drop_all p (pages_of_space p sid)) sid) (image_of p sid) (Text i 0) ∙ drop_all_length (pages_of_space p sid) p (Text i 0)

enter_texts : (p : Placement) (sid image : ℕ) (facts : Option Image) (i : ℕ)
    → length (slots_of (enter_image p sid image facts) (Text i 0)) ≡ length (slots_of p (Text i 0))
enter_texts p sid image None i = refl
enter_texts p sid image (Some facts) i = refl

pub change_texts : (c : Changing) (p : Placement) (change : Change) (i : ℕ)
    → length (slots_of (place_change c p change) (Text i 0)) ≡ length (slots_of p (Text i 0))
change_texts c p (Resize d s) i = drop_all_length (dropped_pages p c.sid d s) p (Text i 0)
change_texts c p (Exec image top) i =
    unless_texts c.borrowed (enter_image p c.next_sid image (facts_numbered c.images image)) c.sid i ∙ enter_texts p c.next_sid image (facts_numbered c.images image) i
change_texts c p (End status) i = unless_texts c.borrowed p c.sid i
change_texts c p _ i = refl
