-- The pages of a new space's text are put where they are known to be, one after another.
use Rattle.std.proofs.Common.{◌≡◌, ℕ, zero, suc, ◌+◌, ◌<◌, ◌≤◌, Bool, true, false, List, [], ◌∷◌, ◌++◌, length, map, drop}
use Rattle.std.proofs.Common.{Option, Some, IsSome, slice_get, refl, sym, ap, ◌∙◌, subst, arith}
use Rattle.std.specs.Prelude.{slice_set}
use Rattle.std.specs.List.{range_with_len}
use Rattle.vm_facts.specs.declared.page.Page.TheVariants.{Text}
use Rattle.vax_pte.specs.declared.Place.{Place}
use Rattle.vax_pte.specs.declared.Place.TheVariants as places
use Rattle.vax_pte.specs.Words.{IsInRange}
use Rattle.aout_image.specs.declared.Image.{Image}
use Rattle.aout_image.specs.Image.{text_pages_of}
use Rattle.core_map.specs.Slots.{slot_at}
use Rattle.space_map.specs.Space.{Places, place_in, with_place}
use Rattle.core_map.specs.declared.slot.Slot.{Slot as Token}
use Rattle.page_model.specs.Pages.{Slot, frame_of}
use Rattle.page_model.specs.Placement.{state_of}
use Rattle.kernel_laws.proofs.PageLawsMovesSteps.{frame_in}
use Rattle.table_view.specs.Shown.{is_away, idle_state, state_shown}
use Rattle.kernel_tables.specs.View.{Lists, text_place, pages_in, placement_of}
use Rattle.kernel_tables.specs.Alike.{facts_in}
use Rattle.kernel_tables.specs.Known.{Known}
use Rattle.kernel_tables.proofs.Entries.{text_hit}
use Rattle.kernel_tables.proofs.Held.{holds_length}
use Rattle.kernel_tables.proofs.Shows.{text_at}
use Rattle.kernel_tables.proofs.AddedTied.{facts_pages, text_filled}

-- the first of a list by their numbers, and the rest as they were
abbrev pub so_far : {A : Type 0} → (ℕ → A) → List A → ℕ → List A
so_far f xs n = map f (range_with_len 0 n) ++ drop n xs

set_from : {A : Type 0} (f : ℕ → A) (xs : List A) (a n : ℕ) → n < length xs
    → slice_set (map f (range_with_len a n) ++ drop n xs) n (f (a + n)) ≡ map f (range_with_len a (suc n)) ++ drop (suc n) xs
set_from f [] a n l = absurd (omega arith)
set_from f (x ∷ xs) a zero l = ap (λ (k : ℕ). f k ∷ xs) (let z : a + 0 ≡ a = omega arith in z)
set_from {A = A} f (x ∷ xs) a (suc n) l =
    ap (λ (ys : List A). f a ∷ ys)
    (ap (λ (k : ℕ). slice_set (map f (range_with_len (a + 1) n) ++ drop n xs) n (f k)) (let z : a + suc n ≡ (a + 1) + n = omega arith in z)
    ∙ set_from f xs (a + 1) n (omega arith))

pub set_next : {A : Type 0} (f : ℕ → A) (xs : List A) (n : ℕ) → n < length xs → slice_set (so_far f xs n) n (f n) ≡ so_far f xs (n + 1)
set_next f xs n l =
    ap (λ (k : ℕ). slice_set (so_far f xs n) n (f k)) (let z : n ≡ 0 + n = omega arith in z)
    ∙ set_from f xs 0 n l
    ∙ ap (so_far f xs) (let z : suc n ≡ n + 1 = omega arith in z)

some_from : {A : Type 0} (f : ℕ → A) (xs : List A) (a n : ℕ) → n < length xs → IsSome (slice_get (map f (range_with_len a n) ++ drop n xs) n)
some_from f [] a n l = absurd (omega arith)
some_from f (x ∷ xs) a zero l = refl
some_from f (x ∷ xs) a (suc n) l = some_from f xs (a + 1) n (omega arith)

pub some_next : {A : Type 0} (f : ℕ → A) (xs : List A) (n : ℕ) → n < length xs → IsSome (slice_get (so_far f xs n) n)
some_next f xs n l = some_from f xs 0 n l

-- a page of a new space's text, of which those before it have their places
pub some_placed : (s n : Places) (f : ℕ → Place) (image v : ℕ) → n ≡ record s { text = so_far f s.text v } → image ≡ s.image → v < length s.text
    → IsSome (place_in n (Text image v))
some_placed s n f image v e same l =
    let i : image ≡ n.image = same ∙ sym (ap (λ (r : Places). r.image) e) in
    subst (λ (o : Option Place). IsSome o) (sym (text_hit n image v i))
    (subst (λ (xs : List Place). IsSome (slice_get xs v)) (sym (ap (λ (r : Places). r.text) e)) (some_next f s.text v l))

-- and once it has its own
pub next_placed : (s n m : Places) (f : ℕ → Place) (image v : ℕ) (x : Place) → n ≡ record s { text = so_far f s.text v } → m ≡ with_place n (Text image v) x
    → x ≡ f v → v < length s.text → m ≡ record s { text = so_far f s.text (v + 1) }
next_placed s n m f image v x e set is l =
    set
    ∙ ap (λ (r : Places). record r { text = slice_set r.text v x }) e
    ∙ ap (λ (y : Place). record s { text = slice_set (so_far f s.text v) v y }) is
    ∙ ap (λ (xs : List Place). record s { text = xs }) (set_next f s.text v l)

-- The place of a page of text is one that an entry can say.

pub frame_shown : (slots : List Token) (f : ℕ) (valid changed : Bool) → frame_of (state_shown slots (places.Frame f valid changed)) ≡ Some f
frame_shown slots f true changed = refl
frame_shown slots f false changed = go (is_away (slot_at slots f)) changed
  where
    go : (a c : Bool) → frame_of (idle_state f a c) ≡ Some f
    go false c = refl
    go true true = refl
    go true false = refl

pub text_in_range : (t : Lists) (image v : ℕ) (facts : Image) → Known t → facts_in 1 image t.facts ≡ Some facts → v < text_pages_of facts
    → IsInRange (text_place t.spaces t.slots (Text image v) v)
text_in_range t image v facts known e l = go (text_place t.spaces t.slots (Text image v) v) refl
  where
    pages : pages_in 1 image t.facts ≡ text_pages_of facts
    pages = facts_pages 1 image t.facts facts e

    shown : state_of (placement_of t) (Text image v) ≡ state_shown t.slots (text_place t.spaces t.slots (Text image v) v)
    shown = ap (λ (x : Slot). x.state) (text_at t image v (omega (arith, pages)))

    go : (x : Place) → text_place t.spaces t.slots (Text image v) v ≡ x → IsInRange x
    go places.Zero k = tt
    go (places.Image w) k =
        let same = text_filled t image v w known.tied.filled k in
        let small = known.tied.small_texts image in
        let m : w < 2048 = omega (arith, same, small, pages) in
        omega arith
    go places.Swap k = tt
    go (places.Frame f valid changed) k =
        let named : frame_of (state_of (placement_of t) (Text image v)) ≡ Some f =
        ap frame_of (shown ∙ ap (state_shown t.slots) k) ∙ frame_shown t.slots f valid changed in
        let r = frame_in (placement_of t) (Text image v) f (known.owns.names (Text image v) f named) in
        let n = holds_length t in
        let few = known.tied.few_frames in
        let above : 1 ≤ f = omega (arith, r.0) in
        let below : f < 4098 = omega (arith, r.1, n, few) in
        (above, omega arith)
