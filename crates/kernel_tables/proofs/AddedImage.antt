-- A space in which an image starts.
use Rattle.std.proofs.Common.{◌≡◌, ℕ, zero, suc, ◌+◌, ◌-◌, ◌*◌, ◌<◌, ◌≤◌, nat_lt, Bool, true, false, cond}
use Rattle.std.proofs.Common.{List, [], ◌∷◌, ◌++◌, length, map, get_or, replicate, Option, Some, None, slice_get, refl, sym, ap, ◌∙◌, subst, arith}
use Rattle.std.specs.Prelude.{if◌then◌else◌}
use Rattle.std.specs.List.{range_with_len}
use Rattle.std.proofs.lemmas.List.{map-append}
use Rattle.std.proofs.lemmas.List.FromFn.{length-map-range_with_len}
use Rattle.std.proofs.lemmas.Option.{same_Some}
use Rattle.std.proofs.lemmas.Bool.{ne_eqb, eq-eqb}
use Rattle.vm_facts.specs.declared.page.Page.{Page}
use Rattle.vm_facts.specs.declared.page.Page.TheVariants.{Stack}
use Rattle.vax_pte.specs.declared.Place.{Place}
use Rattle.vax_pte.specs.declared.Place.TheVariants as places
use Rattle.aout_image.specs.declared.Image.{Image}
use Rattle.aout_image.specs.Image.{IsSound, text_pages_of, image_data_pages, given_of}
use Rattle.core_map.specs.declared.slot.Slot.{Slot as Token}
use Rattle.space_map.specs.Space.{Places, first_place, first_places}
use Rattle.text_table.specs.Texts.{IsTextTable}
use Rattle.flat_state.specs.Numbers.{AllBelow}
use Rattle.flat_state.specs.PageNames.{same_page}
use Rattle.page_model.specs.Pages.{Slot, SpacePages, Zeros, OfImage, stack_in}
use Rattle.page_model.specs.Placement.{Due, due_page, due_of_page, data_filling, unfilled, unfilled_data, new_pages, slots_of}
use Rattle.page_model.specs.Place.{facts_numbered}
use Rattle.page_model.specs.Conditions.{EachPage, AllApart}
use Rattle.page_model.specs.Dues.{DueStand}
use Rattle.kernel_model.specs.Kernel.{StartBytes}
use Rattle.flat_state.proofs.PageNames.{same_page_self}
use Rattle.kernel_tables.specs.declared.fill.DueFill.{DueFill}
use Rattle.kernel_tables.specs.declared.fill.DueFill.TheVariants as fills
use Rattle.kernel_tables.specs.declared.named.Named.{Named}
use Rattle.kernel_tables.specs.declared.tables.Tables.{Tables}
use Rattle.kernel_tables.specs.New.{AreSound}
use Rattle.kernel_tables.specs.Rising.{sids_of}
use Rattle.kernel_tables.specs.Alike.{facts_in}
use Rattle.kernel_tables.specs.Due.{AreWhole, DueOnce}
use Rattle.kernel_tables.specs.Shown.{slot_shown, space_shown}
use Rattle.kernel_tables.specs.View.{Lists, placement_of, frames_of, due_shown, starts_of}
use Rattle.kernel_tables.specs.Sourced.{named_at}
use Rattle.kernel_tables.specs.Machine.{lists_of, image_shown}
use Rattle.kernel_tables.specs.Known.{Known}
use Rattle.kernel_tables.specs.Added.{with_text_places, entered_texts, with_space, IsFresh, IsNewSpace}
use Rattle.kernel_tables.specs.Changing.{EnteredImage}
use Rattle.kernel_tables.proofs.AddedPlace.{at_range, range_below, place_added}
use Rattle.kernel_tables.proofs.AddedTied.{is_new, added_known}
use Rattle.kernel_tables.proofs.AddedTables.{added_lists}

-- Images by number.

pub numbered_in : (n p : ℕ) (images : List Image) (facts : Image) → slice_get images p ≡ Some facts → facts_in n (n + p) images ≡ Some facts
numbered_in n p [] facts e = absurd cc
numbered_in n zero (x ∷ images) facts e = ap (λ (b : Bool). cond b (Some x) (facts_in (n + 1) (n + 0) images)) (eq-eqb n (n + 0) (omega arith)) ∙ e
numbered_in n (suc p) (x ∷ images) facts e =
    ap (λ (b : Bool). cond b (Some x) (facts_in (n + 1) (n + suc p) images)) (ne_eqb n (n + suc p) (λ k. absurd (omega arith)))
    ∙ ap (λ (m : ℕ). facts_in (n + 1) m images) (let z : n + suc p ≡ (n + 1) + p = omega arith in z)
    ∙ numbered_in (n + 1) p images facts e

pub facts_by_number : (image : ℕ) (images : List Image) (facts : Image) → facts_numbered images image ≡ Some facts → facts_in 1 image images ≡ Some facts
facts_by_number zero images facts e = absurd cc
facts_by_number (suc place) images facts e = ap (λ (m : ℕ). facts_in 1 m images) (let z : suc place ≡ 1 + place = omega arith in z) ∙ numbered_in 1 place images facts e

pub sound_at : (images : List Image) (place : ℕ) (facts : Image) → AreSound images → slice_get images place ≡ Some facts → IsSound facts
sound_at [] place facts h e = absurd cc
sound_at (x ∷ images) zero facts h e = subst IsSound (same_Some x facts e) h.0
sound_at (x ∷ images) (suc place) facts h e = sound_at images place facts h.1 e

pub sound_number : (images : List Image) (image : ℕ) (facts : Image) → AreSound images → facts_numbered images image ≡ Some facts → IsSound facts
sound_number images zero facts h e = absurd cc
sound_number images (suc place) facts h e = sound_at images place facts h e

read_at : {A : Type 0} (f : Named → A) (xs : List Named) (i : ℕ) (x : Named) → i < length xs → x ≡ get_or xs i x → slice_get (map f xs) i ≡ Some (f x)
read_at f [] i x l e = absurd (omega arith)
read_at f (y ∷ xs) zero x l e = ap (λ (n : Named). Some (f n)) (sym e)
read_at f (y ∷ xs) (suc i) x l e = read_at f xs i x (omega arith) e

-- the image that the table of images has at its place
pub named_here : (images : List Named) (image : ℕ) (n : Named) → 1 ≤ image → image ≤ length images → n ≡ get_or images (image - 1) n
    → facts_numbered (map (λ (x : Named). x.facts) images) image ≡ Some n.facts
named_here images zero n l m e = absurd (omega arith)
named_here images (suc place) n l m e =
    read_at (λ (x : Named). x.facts) images place n (omega arith) (e ∙ ap (λ (k : ℕ). get_or images k n) (let z : suc place - 1 ≡ place = omega arith in z))

pub shown_here : (images : List Named) (image : ℕ) (n : Named) → 1 ≤ image → image ≤ length images → n ≡ get_or images (image - 1) n
    → named_at (map image_shown images) image ≡ Some (image_shown n)
shown_here images zero n l m e = absurd (omega arith)
shown_here images (suc place) n l m e =
    read_at image_shown images place n (omega arith) (e ∙ ap (λ (k : ℕ). get_or images k n) (let z : suc place - 1 ≡ place = omega arith in z))

-- The new space, with its data and one page of stack.

abbrev pub image_space : ℕ → ℕ → Image → Places
image_space sid image facts = record {
  sid = sid;
  image = image;
  facts = facts;
  text = first_places facts true (text_pages_of facts);
  «data» = first_places facts false (image_data_pages facts);
  stack = replicate 1 places.Zero;
}

fresh_slot : (slots : List Token) (v : ℕ) (b : Bool) → slot_shown slots (if b then places.Image v else places.Zero) ≡ unfilled (cond b OfImage Zeros)
fresh_slot slots v true = refl
fresh_slot slots v false = refl

fresh_pages : (slots : List Token) (facts : Image) (a n : ℕ)
    → map (slot_shown slots) (map (first_place facts false) (range_with_len a n)) ≡ unfilled_data facts a n
fresh_pages slots facts a zero = refl
fresh_pages slots facts a (suc n) =
    ap (λ (x : Slot). x ∷ map (slot_shown slots) (map (first_place facts false) (range_with_len (a + 1) n))) (fresh_slot slots a _)
    ∙ ap (λ (xs : List Slot). unfilled (data_filling facts a) ∷ xs) (fresh_pages slots facts (a + 1) n)

pub image_shown_new : (slots : List Token) (sid image : ℕ) (facts : Image) → space_shown slots (image_space sid image facts) ≡ new_pages sid image facts
image_shown_new slots sid image facts =
    ap (λ (xs : List Slot). record { sid = sid; image = image; data_pages = xs; stack_pages = unfilled Zeros ∷ [] }) (fresh_pages slots facts 0 (image_data_pages facts))

fresh_by : (pages v : ℕ) (b : Bool) → v < pages → IsFresh pages v (if b then places.Image v else places.Zero)
fresh_by pages v true l = (refl, l)
fresh_by pages v false l = tt

fresh_at : (facts : Image) (v : ℕ) (x : Place) → slice_get (first_places facts false (image_data_pages facts)) v ≡ Some x → IsFresh (image_data_pages facts) v x
fresh_at facts v x e =
    subst (IsFresh (image_data_pages facts) v)
    (ap (first_place facts false) (let z : v ≡ 0 + v = omega arith in z) ∙ sym (at_range (first_place facts false) 0 (image_data_pages facts) v x e))
    (fresh_by (image_data_pages facts) v (nat_lt (1024 * v) (given_of false facts)) (range_below (first_place facts false) 0 (image_data_pages facts) v x e))

zero_at : (v : ℕ) (x : Place) → slice_get (replicate 1 places.Zero) v ≡ Some x → x ≡ places.Zero
zero_at zero x e = sym (same_Some places.Zero x e)
zero_at (suc v) x e = absurd cc

pub image_is_new : (t : Lists) (sid image : ℕ) (facts : Image) → AllBelow sid (sids_of t.spaces) → facts_in 1 image t.facts ≡ Some facts
    → IsSound facts → IsNewSpace t (image_space sid image facts)
image_is_new t sid image facts above is sound = record {
  above = above;
  facts_are = is;
  few = (let l = length-map-range_with_len (first_place facts false) 0 (image_data_pages facts) in let f = sound.data_fits in (omega arith, omega arith));
  fresh_data = fresh_at facts;
  fresh_stack = zero_at;
}

-- What is due.

whole_last : (ds : List DueFill) (q : Page) (top : List ℕ) → AreWhole ds → length top ≡ 1024 → AreWhole (ds ++ fills.Start q top ∷ [])
whole_last [] q top h e = (e, tt)
whole_last (d ∷ ds) q top h e = (h.0, whole_last ds q top h.1 e)

apart_each : (q r : Page) (qs : List Page) → EachPage (λ p. p ≡ q → ⊥) qs → (r ≡ q → ⊥) → EachPage (λ p. p ≡ q → ⊥) (qs ++ r ∷ [])
apart_each q r [] h n = (n, tt)
apart_each q r (p ∷ qs) h n = (h.0, apart_each q r qs h.1 n)

apart_last : (qs : List Page) (r : Page) → AllApart qs → EachPage (λ q. r ≡ q → ⊥) qs → AllApart (qs ++ r ∷ [])
apart_last [] r h n = (tt, tt)
apart_last (q ∷ qs) r h n = (apart_each q r qs h.0 n.0, apart_last qs r h.1 n.1)

due_last : (ds : List DueFill) (d : DueFill) → map due_page (map due_shown (ds ++ d ∷ [])) ≡ map due_page (map due_shown ds) ++ due_page (due_shown d) ∷ []
due_last [] d = refl
due_last (x ∷ ds) d = ap (λ (qs : List Page). due_page (due_shown x) ∷ qs) (due_last ds d)

none_due : (ds : List Due) (q : Page) → due_of_page ds q ≡ None → EachPage (λ r. q ≡ r → ⊥) (map due_page ds)
none_due [] q e = tt
none_due (d ∷ ds) q e = go (same_page (due_page d) q) refl e (none_due ds q)
  where
    go : (b : Bool) → same_page (due_page d) q ≡ b → cond b (Some d) (due_of_page ds q) ≡ None → (due_of_page ds q ≡ None → EachPage (λ r. q ≡ r → ⊥) (map due_page ds))
        → EachPage (λ r. q ≡ r → ⊥) (map due_page (d ∷ ds))
    go true k f later = absurd cc
    go false k f later =
        ((λ same. let yes : same_page (due_page d) q ≡ true = ap (same_page (due_page d)) same ∙ same_page_self (due_page d) in absurd (let z : true ≡ false = sym yes ∙ k in cc)), later f)

-- no page of a space that isn't there is due
pub stack_not_due : (t : Lists) (sid : ℕ) → AllBelow sid (sids_of t.spaces) → DueStand (placement_of t) → due_of_page (placement_of t).due (Stack sid 0) ≡ None
stack_not_due t sid below due = go (due_of_page (placement_of t).due (Stack sid 0)) refl
  where
    none : length (slots_of (placement_of t) (Stack sid 0)) ≡ 0
    none = ap (λ (o : Option SpacePages). length (stack_in o)) (is_new t.slots t.spaces sid below)

    go : (o : Option Due) → due_of_page (placement_of t).due (Stack sid 0) ≡ o → o ≡ None
    go None e = refl
    go (Some d) e = absurd (let there : 0 < length (slots_of (placement_of t) (Stack sid 0)) = (due (Stack sid 0) d e).there in omega (arith, there, none))

starts_last : (ds : List DueFill) (q : Page) (top : List ℕ) → starts_of (ds ++ fills.Start q top ∷ []) ≡ starts_of ds ++ record { page = q; bytes = top } ∷ []
starts_last [] q top = refl
starts_last (fills.Start r bytes ∷ ds) q top = ap (λ (ss : List StartBytes). record { page = r; bytes = bytes } ∷ ss) (starts_last ds q top)
starts_last (fills.Copy child parent ∷ ds) q top = starts_last ds q top

-- The whole.

pub record Entering (t u : Tables) (image : ℕ) (facts : Image) (top : List ℕ) : Type 0 where
  pub known : Known (lists_of t)
  pub below : AllBelow t.next_sid (sids_of t.spaces)
  pub due : DueStand (placement_of (lists_of t))
  pub is : facts_numbered (lists_of t).facts image ≡ Some facts
  pub whole : length top ≡ 1024
  pub spaces : u.spaces ≡ t.spaces ++ with_text_places (lists_of t) (image_space t.next_sid image facts) ∷ []
  pub table : IsTextTable t.texts
  pub texts : u.texts ≡ entered_texts t.texts image
  pub fills : u.fills.items ≡ t.fills.items ++ fills.Start (Stack t.next_sid 0) top ∷ []
  pub number : u.next_sid ≡ t.next_sid + 1
  pub rest : u ≡ record t { spaces = u.spaces; texts = u.texts; fills = u.fills; next_sid = u.next_sid }

pub entered_image : (t u : Tables) (image : ℕ) (facts : Image) (top : List ℕ) → Entering t u image facts top → EnteredImage t u image facts top
entered_image t u image facts top e =
    let s : Places = image_space t.next_sid image facts in
    let l : Lists = lists_of t in
    let ds : List DueFill = t.fills.items ++ fills.Start (Stack t.next_sid 0) top ∷ [] in
    let sound : IsSound facts = sound_number l.facts image facts e.known.tied.sound e.is in
    let new : IsNewSpace l s = image_is_new l t.next_sid image facts e.below (facts_by_number image l.facts facts e.is) sound in
    let once : DueOnce ds =
    subst AllApart (sym (due_last t.fills.items (fills.Start (Stack t.next_sid 0) top)))
    (apart_last (map due_page (map due_shown t.fills.items)) (Stack t.next_sid 0) e.known.tied.once
    (none_due (map due_shown t.fills.items) (Stack t.next_sid 0) (stack_not_due l t.next_sid e.below e.due))) in
    let lists : lists_of u ≡ with_space l s ds = added_lists t u s ds e.spaces e.texts e.fills e.rest in
    record {
      shows = record {
        place =
            ap placement_of lists ∙ place_added l s ds
            ∙ ap (λ (x : SpacePages). record (placement_of l) { spaces = (placement_of l).spaces ++ x ∷ []; due = map due_shown ds }) (image_shown_new l.slots t.next_sid image facts)
            ∙ ap (λ (xs : List Due). record (placement_of l) { spaces = (placement_of l).spaces ++ new_pages t.next_sid image facts ∷ []; due = xs })
            (map-append due_shown t.fills.items (fills.Start (Stack t.next_sid 0) top ∷ []));
        frames = ap frames_of lists;
        known = subst Known (sym lists) (added_known l s ds e.known e.table new (whole_last t.fills.items (Stack t.next_sid 0) top e.known.tied.whole e.whole) once);
      };
      starts = ap starts_of e.fills ∙ starts_last t.fills.items (Stack t.next_sid 0) top;
      number = e.number;
      rest = e.rest;
    }
