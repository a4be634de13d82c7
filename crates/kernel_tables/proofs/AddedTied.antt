-- A space that comes: what is known of the tables is known yet once it is there.
use Rattle.std.proofs.Common.{◌≡◌, ◌≢◌, inl, inr, ℕ, zero, suc, ◌+◌, ◌-◌, ◌<◌, ◌≤◌, ◌==◌, Bool, false, not, cond}
use Rattle.std.proofs.Common.{List, [], ◌∷◌, ◌++◌, length, map, Option, Some, None, IsSome, slice_get, refl, sym, ap, ◌∙◌, subst, arith}
use Rattle.std.specs.Prelude.{slice_index_or, slice_set}
use Rattle.std.specs.List.{range_with_len}
use Rattle.std.proofs.lemmas.Bool.{cases_eq, ne_eqb, eq-eqb}
use Rattle.std.proofs.lemmas.List.{map-append}
use Rattle.std.proofs.lemmas.Option.{same_Some}
use Rattle.vm_facts.specs.declared.page.Page.{Page}
use Rattle.vm_facts.specs.declared.page.Page.TheVariants.{Data, Stack, Text}
use Rattle.vax_pte.specs.declared.Place.{Place}
use Rattle.vax_pte.specs.declared.Place.TheVariants as places
use Rattle.aout_image.specs.declared.Image.{Image}
use Rattle.aout_image.specs.Image.{text_pages_of, image_data_pages}
use Rattle.core_map.specs.declared.slot.Slot.{Slot as Token}
use Rattle.space_map.specs.Space.{Places, place_in}
use Rattle.text_table.specs.Texts.{IsTextTable, text_numbered, entered, unused_text, Text as SharedText}
use Rattle.flat_state.specs.Numbers.{IsAbsent, AllDistinct, AllBelow}
use Rattle.page_model.specs.Pages.{Slot, SpacePages}
use Rattle.page_model.specs.Placement.{Placement, Due, sharers, sharers_in}
use Rattle.page_model.specs.Ownership.{OwnsFrames, TextAside}
use Rattle.kernel_laws.proofs.PageLawsOwnershipChanges.{AllBlank, add_owner}
use Rattle.kernel_laws.proofs.PageLawsBlocksChanges.{sharers-append, add_aside}
use Rattle.kernel_tables.specs.declared.fill.DueFill.{DueFill}
use Rattle.kernel_tables.specs.Rising.{sids_of}
use Rattle.kernel_tables.specs.Shown.{or_else, entry_in, changed_named, slot_shown, space_shown}
use Rattle.kernel_tables.specs.Found.{cached_by, frame_holding}
use Rattle.kernel_tables.specs.View.{Lists, text_place, text_place_by, pages_in, placement_of, due_shown}
use Rattle.kernel_tables.specs.Alike.{EachSpace, IsLikeFirst, AreAlike, IsFilledAt, IsFilled, facts_in, HasFewPages}
use Rattle.kernel_tables.specs.Due.{AreWhole, DueOnce}
use Rattle.kernel_tables.specs.Steps.{dirty_shown}
use Rattle.kernel_tables.specs.Tied.{Tied}
use Rattle.kernel_tables.specs.Known.{Known}
use Rattle.kernel_tables.specs.Added.{with_text_places, entered_texts, with_space, IsFresh, IsNewSpace}
use Rattle.kernel_tables.proofs.Entries.{data_hit, data_miss, stack_hit, stack_miss, text_hit}
use Rattle.kernel_tables.proofs.Shows.{pages_hit, pages_miss}
use Rattle.kernel_tables.proofs.AddedPlace.{entry_last, text_added, saved_still, added_place, place_added}

-- Each space, with one more.

pub each_last : (P : Places → Type 0) (ss : List Places) (s : Places) → EachSpace P ss → P s → EachSpace P (ss ++ s ∷ [])
each_last P [] s h x = (x, tt)
each_last P (r ∷ ss) s h x = (h.0, each_last P ss s h.1 x)

pub each_as : (P Q : Places → Type 0) (ss : List Places) → ((r : Places) → P r → Q r) → EachSpace P ss → EachSpace Q ss
each_as P Q [] f h = tt
each_as P Q (r ∷ ss) f h = (f r h.0, each_as P Q ss f h.1)

-- Text has the same entries in all spaces that share it.

like_before : (ss : List Places) (s r : Places) → IsLikeFirst ss r → IsLikeFirst (ss ++ s ∷ []) r
like_before ss s r h i v x e = entry_last ss s (Text i v) ∙ ap (λ (o : Option Place). or_else o (place_in s (Text i v))) (h i v x e)

like_new : (slots : List Token) (q : Page) (v : ℕ) (o n : Option Place) (x : Place) → n ≡ Some x → x ≡ text_place_by o slots q v → or_else o n ≡ Some x
like_new slots q v (Some y) n x e is = ap (λ (z : Place). Some z) (sym is)
like_new slots q v None n x e is = e

added_alike : (t : Lists) (s : Places) → AreAlike t.spaces → AreAlike (t.spaces ++ with_text_places t s ∷ [])
added_alike t s h =
    let n : Places = with_text_places t s in
    each_last (IsLikeFirst (t.spaces ++ n ∷ [])) t.spaces n
    (each_as (IsLikeFirst t.spaces) (IsLikeFirst (t.spaces ++ n ∷ [])) t.spaces (like_before t.spaces n) h)
    (λ i v x e. entry_last t.spaces n (Text i v) ∙ like_new t.slots (Text i v) v (entry_in t.spaces (Text i v)) (place_in n (Text i v)) x e (text_added t s i v x e))

-- Entries fill pages from the image.

entry_of_text : (ss : List Places) (q : Page) (x : Place) → entry_in ss q ≡ Some x
    → EachSpace (λ s. (w : ℕ) → place_in s q ≡ Some (places.Image w) → IsFilledAt s q w) ss → (w : ℕ) → x ≡ places.Image w → (s : Places) × IsFilledAt s q w
entry_of_text [] q x e h w is = absurd cc
entry_of_text (s ∷ ss) q x e h w is = go (place_in s q) refl (λ f. entry_of_text ss q x f h.1 w is)
  where
    go : (o : Option Place) → place_in s q ≡ o → (entry_in ss q ≡ Some x → (r : Places) × IsFilledAt r q w) → (r : Places) × IsFilledAt r q w
    go (Some y) k later =
        let same : or_else (place_in s q) (entry_in ss q) ≡ Some y = ap (λ (p : Option Place). or_else p (entry_in ss q)) k in
        (s, h.0 w (k ∙ ap (λ (p : Place). Some p) (same_Some y x (sym same ∙ e) ∙ is)))
    go None k later = later (sym (ap (λ (p : Option Place). or_else p (entry_in ss q)) k) ∙ e)

cached_filled : (o : Option ℕ) (v w : ℕ) → cached_by o v ≡ places.Image w → w ≡ v
cached_filled None v w e = cc
cached_filled (Some f) v w e = absurd cc

pub text_filled : (t : Lists) (i v w : ℕ) → EachSpace (IsFilled t.facts) t.spaces → text_place t.spaces t.slots (Text i v) v ≡ places.Image w → w ≡ v
text_filled t i v w h e = go (entry_in t.spaces (Text i v)) refl e
  where
    go : (o : Option Place) → entry_in t.spaces (Text i v) ≡ o → text_place_by o t.slots (Text i v) v ≡ places.Image w → w ≡ v
    go (Some x) k is =
        (entry_of_text t.spaces (Text i v) x k
        (each_as (IsFilled t.facts) (λ s. (n : ℕ) → place_in s (Text i v) ≡ Some (places.Image n) → IsFilledAt s (Text i v) n) t.spaces (λ r g. g.entries (Text i v)) h) w is).1
    go None k is = cached_filled (frame_holding t.slots (Text i v)) v w is

fresh_image : (pages v w : ℕ) (x : Place) → x ≡ places.Image w → IsFresh pages v x → (w ≡ v) × (v < pages)
fresh_image pages v w x e h = subst (IsFresh pages v) e h

added_entries : (t : Lists) (s : Places) → EachSpace (IsFilled t.facts) t.spaces → IsNewSpace t s
    → (q : Page) (w : ℕ) → place_in (with_text_places t s) q ≡ Some (places.Image w) → IsFilledAt (with_text_places t s) q w
added_entries t s h new (Data n v) w e = elim (cases_eq n s.sid) [
  | inl is ↦ fresh_image (image_data_pages s.facts) v w (places.Image w) refl (new.fresh_data v (places.Image w) (sym (data_hit (with_text_places t s) n v is) ∙ e))
  | inr miss ↦ absurd (let k = sym (data_miss (with_text_places t s) n v miss) ∙ e in cc)
]
added_entries t s h new (Stack n v) w e = elim (cases_eq n s.sid) [
  | inl is ↦ absurd (let k = new.fresh_stack v (places.Image w) (sym (stack_hit (with_text_places t s) n v is) ∙ e) in cc)
  | inr miss ↦ absurd (let k = sym (stack_miss (with_text_places t s) n v miss) ∙ e in cc)
]
added_entries t s h new (Text i v) w e = text_filled t i v w h (sym (text_added t s i v (places.Image w) e))

-- How many share a text.

abbrev added : Bool → ℕ
added b = cond b 1 0

pub added_sharers : (t : Lists) (s : Places) (fills : List DueFill) (i : ℕ)
    → sharers (placement_of (with_space t s fills)) i ≡ sharers (placement_of t) i + added (s.image == i)
added_sharers t s fills i =
    ap (sharers_in i) (map-append (space_shown t.slots) t.spaces (with_text_places t s ∷ []))
    ∙ sharers-append i (map (space_shown t.slots) t.spaces) (space_shown t.slots s ∷ [])
    ∙ (let z : added (s.image == i) + 0 ≡ added (s.image == i) = omega arith in ap (λ (n : ℕ). sharers_in i (map (space_shown t.slots) t.spaces) + n) z)

set_at : (ts : List SharedText) (n : ℕ) (x : SharedText) → n < length ts → slice_index_or (slice_set ts n x) n unused_text ≡ x
set_at [] n x l = absurd (omega arith)
set_at (y ∷ ts) zero x l = refl
set_at (y ∷ ts) (suc n) x l = set_at ts n x (omega arith)

set_beside : (ts : List SharedText) (n m : ℕ) (x : SharedText) → m ≢ n → slice_index_or (slice_set ts n x) m unused_text ≡ slice_index_or ts m unused_text
set_beside [] n m x d = refl
set_beside (y ∷ ts) zero zero x d = absurd (d refl)
set_beside (y ∷ ts) zero (suc m) x d = refl
set_beside (y ∷ ts) (suc n) zero x d = refl
set_beside (y ∷ ts) (suc n) (suc m) x d = set_beside ts n m x (λ e. d (ap suc e))

-- the image of a space is one of the run's
pub facts_number : (n image : ℕ) (more : List Image) (facts : Image) → facts_in n image more ≡ Some facts → (n ≤ image) × (image < n + length more)
facts_number n image [] facts e = absurd cc
facts_number n image (x ∷ more) facts e = elim (cases_eq n image) [
  | inl is ↦ (omega (arith, is), omega (arith, is))
  | inr miss ↦
      let r = facts_number (n + 1) image more facts (sym (ap (λ (c : Bool). cond c (Some x) (facts_in (n + 1) image more)) (ne_eqb n image miss)) ∙ e) in
      (omega (arith, r.0), omega (arith, r.1))
]

pub image_range : (t : Lists) (image : ℕ) (facts : Image) → Tied t → facts_in 1 image t.facts ≡ Some facts → (1 ≤ image) × (image ≤ 16)
image_range t image facts tied e = let r = facts_number 1 image t.facts facts e in let m = tied.few_images in (r.0, omega (arith, r.1))

added_counted : (t : Lists) (s : Places) (fills : List DueFill) → Tied t → IsTextTable t.texts → IsNewSpace t s → (i : ℕ) → 1 ≤ i → i ≤ 16
    → (text_numbered (entered_texts t.texts s.image) i).sharers ≡ sharers (placement_of (with_space t s fills)) i
added_counted t s fills tied table new i l m =
    let range = image_range t s.image s.facts tied new.facts_are in
    elim (cases_eq s.image i) [
      | inl e ↦
          let is = ap (λ (n : ℕ). (text_numbered (entered_texts t.texts s.image) n).sharers) (sym e) in
          let size = table.images in
          let at = ap (λ (x : SharedText). x.sharers) (set_at t.texts (s.image - 1) (entered (text_numbered t.texts s.image)) (omega (arith, range.0, range.1))) in
          let was = tied.counted s.image range.0 range.1 in
          let more = added_sharers t s fills i in
          let one : added (s.image == i) ≡ 1 = ap added (eq-eqb s.image i e) in
          let same = ap (sharers (placement_of t)) e in
          omega (arith, is, at, was, more, one, same)
      | inr d ↦
          let at = ap (λ (x : SharedText). x.sharers)
          (set_beside t.texts (s.image - 1) (i - 1) (entered (text_numbered t.texts s.image)) (λ k. d (let f = range.0 in omega arith))) in
          let was = tied.counted i l m in
          let more = added_sharers t s fills i in
          let none : added (s.image == i) ≡ 0 = ap added (ne_eqb s.image i d) in
          omega (arith, at, was, more, none)
    ]

-- Each page of a shared text has an entry.

pub facts_pages : (n image : ℕ) (more : List Image) (facts : Image) → facts_in n image more ≡ Some facts → pages_in n image more ≡ text_pages_of facts
facts_pages n image [] facts e = absurd cc
facts_pages n image (x ∷ more) facts e = elim (cases_eq n image) [
  | inl is ↦
      pages_hit n image x more is
      ∙ ap text_pages_of (same_Some x facts (sym (ap (λ (c : Bool). cond c (Some x) (facts_in (n + 1) image more)) (eq-eqb n image is)) ∙ e))
  | inr miss ↦
      pages_miss n image x more miss
      ∙ facts_pages (n + 1) image more facts (sym (ap (λ (c : Bool). cond c (Some x) (facts_in (n + 1) image more)) (ne_eqb n image miss)) ∙ e)
]

some_else : (a b : Option Place) → IsSome b → IsSome (or_else a b)
some_else (Some x) b h = refl
some_else None b h = h

some_first : (a b : Option Place) → IsSome a → IsSome (or_else a b)
some_first (Some x) b h = refl
some_first None b h = absurd cc

some_at : {A : Type 0} (f : ℕ → A) (a n v : ℕ) → v < n → IsSome (slice_get (map f (range_with_len a n)) v)
some_at f a zero v l = absurd (omega arith)
some_at f a (suc n) zero l = refl
some_at f a (suc n) (suc v) l = some_at f (a + 1) n v (omega arith)

added_shared : (t : Lists) (s : Places) (fills : List DueFill) → Tied t → IsNewSpace t s → (i v : ℕ)
    → 0 < sharers (placement_of (with_space t s fills)) i → v < pages_in 1 i t.facts → IsSome (entry_in (t.spaces ++ with_text_places t s ∷ []) (Text i v))
added_shared t s fills tied new i v l m =
    let n : Places = with_text_places t s in
    subst (λ (o : Option Place). IsSome o) (sym (entry_last t.spaces n (Text i v))) (elim (cases_eq i s.image) [
      | inl e ↦
          let pages : pages_in 1 i t.facts ≡ text_pages_of s.facts = ap (λ (k : ℕ). pages_in 1 k t.facts) e ∙ facts_pages 1 s.image t.facts s.facts new.facts_are in
          some_else (entry_in t.spaces (Text i v)) (place_in n (Text i v))
          (subst (λ (o : Option Place). IsSome o) (sym (text_hit n i v e))
          (some_at (λ k. text_place t.spaces t.slots (Text s.image k) k) 0 (text_pages_of s.facts) v (omega (arith, pages))))
      | inr d ↦
          let more = added_sharers t s fills i in
          let none : added (s.image == i) ≡ 0 = ap added (ne_eqb s.image i (λ e. d (sym e))) in
          some_first (entry_in t.spaces (Text i v)) (place_in n (Text i v)) (tied.shared i v (omega (arith, more, none)) m)
    ])

-- The marks of frames.

fresh_changed : (pages v : ℕ) (x : Place) → IsFresh pages v x → changed_named (Some x) ≡ false
fresh_changed pages v places.Swap h = absurd h
fresh_changed pages v (places.Frame f valid changed) h = absurd h
fresh_changed pages v _ h = refl

changed_still : (o n : Option Place) → changed_named n ≡ false → changed_named (or_else o n) ≡ changed_named o
changed_still (Some x) n e = refl
changed_still None n e = e

new_changed : (t : Lists) (s : Places) → IsNewSpace t s → (n v : ℕ) → changed_named (place_in (with_text_places t s) (Data n v)) ≡ false
new_changed t s new n v = elim (cases_eq n s.sid) [
  | inl is ↦ ap changed_named (data_hit (with_text_places t s) n v is) ∙ go (slice_get s.data v) refl
  | inr miss ↦ ap changed_named (data_miss (with_text_places t s) n v miss)
]
  where
    go : (o : Option Place) → slice_get s.data v ≡ o → changed_named o ≡ false
    go None e = refl
    go (Some x) e = fresh_changed (image_data_pages s.facts) v x (new.fresh_data v x e)

new_unchanged : (t : Lists) (s : Places) → IsNewSpace t s → (n v : ℕ) → changed_named (place_in (with_text_places t s) (Stack n v)) ≡ false
new_unchanged t s new n v = elim (cases_eq n s.sid) [
  | inl is ↦ ap changed_named (stack_hit (with_text_places t s) n v is) ∙ go (slice_get s.stack v) refl
  | inr miss ↦ ap changed_named (stack_miss (with_text_places t s) n v miss)
]
  where
    go : (o : Option Place) → slice_get s.stack v ≡ o → changed_named o ≡ false
    go None e = refl
    go (Some x) e = ap (λ (y : Place). changed_named (Some y)) (new.fresh_stack v x e)

pub dirty_still : (t : Lists) (s : Places) → IsNewSpace t s → (q : Page)
    → dirty_shown (t.spaces ++ with_text_places t s ∷ []) (entered_texts t.texts s.image) q ≡ dirty_shown t.spaces t.texts q
dirty_still t s new (Data n v) =
    ap changed_named (entry_last t.spaces (with_text_places t s) (Data n v))
    ∙ changed_still (entry_in t.spaces (Data n v)) (place_in (with_text_places t s) (Data n v)) (new_changed t s new n v)
dirty_still t s new (Stack n v) =
    ap changed_named (entry_last t.spaces (with_text_places t s) (Stack n v))
    ∙ changed_still (entry_in t.spaces (Stack n v)) (place_in (with_text_places t s) (Stack n v)) (new_unchanged t s new n v)
dirty_still t s new (Text i v) = ap not (saved_still t.texts s.image i v)

-- The whole tie.

pub added_tied : (t : Lists) (s : Places) (fills : List DueFill) → Tied t → IsTextTable t.texts → IsNewSpace t s → AreWhole fills → DueOnce fills
    → Tied (with_space t s fills)
added_tied t s fills tied table new whole once =
    let n : Places = with_text_places t s in
    record {
      few_frames = tied.few_frames;
      few_images = tied.few_images;
      sound = tied.sound;
      small_texts = tied.small_texts;
      few_pages = each_last HasFewPages t.spaces n tied.few_pages new.few;
      shared = added_shared t s fills tied new;
      alike = added_alike t s tied.alike;
      filled = each_last (IsFilled t.facts) t.spaces n tied.filled (record { facts_are = new.facts_are; entries = added_entries t s tied.filled new });
      counted = added_counted t s fills tied table new;
      marked = λ f token q mark e. tied.marked f token q mark e ∙ sym (dirty_still t s new q);
      whole = whole;
      once = once;
    }

-- Frames.

fresh_blank : (slots : List Token) (pages v : ℕ) (x : Place) → IsFresh pages v x
    → (let y : Slot = slot_shown slots x in (y.state ≡ Rattle.vm_facts.specs.declared.page.PageState.TheVariants.Unfilled) × (y.mark ≡ false))
fresh_blank slots pages v places.Swap h = absurd h
fresh_blank slots pages v (places.Frame f valid changed) h = absurd h
fresh_blank slots pages v _ h = (refl, refl)

all_fresh : (slots : List Token) (pages : ℕ) (n : ℕ) (xs : List Place) → ((v : ℕ) (x : Place) → slice_get xs v ≡ Some x → IsFresh pages (n + v) x)
    → AllBlank (map (slot_shown slots) xs)
all_fresh slots pages n [] h = tt
all_fresh slots pages n (x ∷ xs) h = (
  fresh_blank slots pages (n + 0) x (h 0 x refl),
  all_fresh slots pages (n + 1) xs (λ v y e. subst (λ (k : ℕ). IsFresh pages k y) (let z : n + suc v ≡ (n + 1) + v = omega arith in z) (h (suc v) y e)),
)

zeros_blank : (slots : List Token) (xs : List Place) → ((v : ℕ) (x : Place) → slice_get xs v ≡ Some x → x ≡ places.Zero) → AllBlank (map (slot_shown slots) xs)
zeros_blank slots xs h = all_fresh slots 0 0 xs (λ v x e. subst (IsFresh 0 (0 + v)) (sym (h v x e)) tt)

pub new_data_blank : (t : Lists) (s : Places) → IsNewSpace t s → AllBlank (map (slot_shown t.slots) s.data)
new_data_blank t s new =
    all_fresh t.slots (image_data_pages s.facts) 0 s.data
    (λ v x e. subst (λ (k : ℕ). IsFresh (image_data_pages s.facts) k x) (let z : v ≡ 0 + v = omega arith in z) (new.fresh_data v x e))

pub new_stack_blank : (t : Lists) (s : Places) → IsNewSpace t s → AllBlank (map (slot_shown t.slots) s.stack)
new_stack_blank t s new = zeros_blank t.slots s.stack new.fresh_stack

-- Numbers.

absent_last : (m n : ℕ) (ns : List ℕ) → IsAbsent m ns → n ≢ m → IsAbsent m (ns ++ n ∷ [])
absent_last m n [] h d = (d, tt)
absent_last m n (k ∷ ns) h d = (h.0, absent_last m n ns h.1 d)

pub distinct_last : (ns : List ℕ) (n : ℕ) → AllDistinct ns → AllBelow n ns → AllDistinct (ns ++ n ∷ [])
distinct_last [] n d b = (tt, tt)
distinct_last (m ∷ ns) n d b = (absent_last m n ns d.0 (λ e. absurd (let l = b.0 in omega (arith, e))), distinct_last ns n d.1 b.1)

pub sids_last : (ss : List Places) (s : Places) → sids_of (ss ++ s ∷ []) ≡ sids_of ss ++ s.sid ∷ []
sids_last ss s = map-append (λ (r : Places). r.sid) ss (s ∷ [])

-- no space has a number above all
pub is_new : (slots : List Token) (ss : List Places) (sid : ℕ) → AllBelow sid (sids_of ss)
    → Rattle.page_model.specs.Pages.numbered Rattle.page_model.specs.Placement.space_number sid (map (space_shown slots) ss) ≡ None
is_new slots [] sid h = refl
is_new slots (r ∷ ss) sid h =
    ap (λ (b : Bool). cond b (Some (space_shown slots r)) (Rattle.page_model.specs.Pages.numbered Rattle.page_model.specs.Placement.space_number sid (map (space_shown slots) ss)))
    (ne_eqb r.sid sid (λ e. absurd (let l = h.0 in omega (arith, e))))
    ∙ is_new slots ss sid h.1

-- The whole.

pub added_known : (t : Lists) (s : Places) (fills : List DueFill) → Known t → IsTextTable t.texts → IsNewSpace t s → AreWhole fills → DueOnce fills
    → Known (with_space t s fills)
added_known t s fills known table new whole once =
    let p : Placement = placement_of t in
    let due : List Due = map due_shown fills in
    let place : placement_of (with_space t s fills) ≡ added_place t s fills = place_added t s fills in
    let x : SpacePages = space_shown t.slots s in
    record {
      core = known.core;
      owns = subst OwnsFrames (sym place) (add_owner p x due known.owns (is_new t.slots t.spaces s.sid new.above) (new_data_blank t s new) (new_stack_blank t s new));
      aside = subst TextAside (sym place) (add_aside p x due known.aside);
      tied = added_tied t s fills known.tied table new whole once;
      differ = subst AllDistinct (sym (sids_last t.spaces (with_text_places t s))) (distinct_last (sids_of t.spaces) s.sid known.differ new.above);
      numbers = known.numbers;
    }
