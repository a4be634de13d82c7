-- A space has other sizes: of the placement, that is `cut_space`.
use Rattle.std.proofs.Common.{◌≡◌, ◌≢◌, inl, inr, ℕ, zero, suc, ◌+◌, ◌-◌, ◌<◌, ◌≤◌, List, [], ◌∷◌, ◌++◌, length, map, take, Option, Some, None, IsSome, slice_get, option_map, refl, sym, ap, ◌∙◌, subst, arith}
use Rattle.std.specs.Prelude.{replicate}
use Rattle.std.specs.List.{range_with_len}
use Rattle.std.proofs.lemmas.Bool.{cases_eq}
use Rattle.std.proofs.lemmas.Bool.Decides.{nat_tests}
use Rattle.vm_facts.specs.declared.page.Page.{Page}
use Rattle.vm_facts.specs.declared.page.Page.TheVariants.{Data, Stack, Text}
use Rattle.flat_state.specs.Numbers.{IsAbsent, AllDistinct}
use Rattle.flat_state.specs.PageNames.{pages_from}
use Rattle.vax_pte.specs.declared.Place.{Place}
use Rattle.vax_pte.specs.declared.Place.TheVariants as places
use Rattle.aout_image.specs.declared.Image.{Image}
use Rattle.aout_image.specs.Image.{text_pages_of}
use Rattle.core_map.specs.declared.slot.Slot.{Slot as Token}
use Rattle.core_map.specs.Slots.{slot_at, slot_page as token_page}
use Rattle.space_map.specs.Space.{Places, resized, place_in}
use Rattle.text_table.specs.Texts.{is_saved, text_numbered}
use Rattle.page_model.specs.Pages.{Slot, Zeros, SpacePages, TextPages, numbered, changed, data_in, stack_in, frame_of}
use Rattle.page_model.specs.Placement.{Placement, space_number, state_of, IsThere, image_in, sharers, sharers_in, unfilled}
use Rattle.page_model.specs.Moves.{drop_all}
use Rattle.page_model.specs.Place.{data_from, stack_from, sized, cut_space, data_count, stack_count, resize}
use Rattle.page_model.specs.Conditions.{EachPage, AtRest, LosesPages, IsSettled}
use Rattle.page_model.specs.Ownership.{OwnsFrames, TextAside}
use Rattle.page_laws.proofs.Lists.Local.{none_some}
use Rattle.page_laws.proofs.Moves.Steps.{page_in}
use Rattle.page_laws.proofs.Lists.Pages.{mapped, changed_same, changed_other, sharers_changed}
use Rattle.page_laws.proofs.Lists.Runs.{each_page_imp, each_page_append, pages_from_each}
use Rattle.page_laws.proofs.Ownership.Spaces.{drop_all_length}
use Rattle.page_laws.proofs.Ownership.Changes.{cut, dropped_pages, resize_owner}
use Rattle.page_laws.proofs.Blocks.Changes.{resize_aside}
use Rattle.kernel_model.specs.Asks.{HasSpace}
use Rattle.kernel_tables.specs.declared.tables.Tables.{Tables}
use Rattle.kernel_tables.specs.Shown.{slot_shown, text_shown, space_shown, or_else, entry_in, changed_named}
use Rattle.kernel_tables.specs.Alike.{EachSpace, IsLikeFirst, IsFilledAt, IsFilled, HasFewPages}
use Rattle.kernel_tables.specs.Marked.{AreMarked}
use Rattle.kernel_tables.specs.Rising.{sids_of, StandsAt}
use Rattle.kernel_tables.specs.Sizes.{with_sizes, with_sizes_at}
use Rattle.kernel_tables.specs.Steps.{dirty_shown}
use Rattle.kernel_tables.specs.View.{Lists, text_place_by, text_slot, text_slots, texts_of, placement_of, frames_of}
use Rattle.kernel_tables.specs.Known.{Known}
use Rattle.kernel_tables.specs.Tied.{Tied}
use Rattle.kernel_tables.specs.Machine.{lists_of, image_at}
use Rattle.kernel_tables.specs.Changing.{Shows, Dropped}
use Rattle.kernel_tables.proofs.Entries.{data_hit, data_miss, stack_hit, stack_miss}
use Rattle.kernel_tables.proofs.Same.{absent}
use Rattle.kernel_tables.proofs.Shows.{sids_shown, hit, miss, length_map}
use Rattle.kernel_tables.proofs.Held.{placement_ext}
use Rattle.kernel_tables.proofs.Arrives.{data_there, stack_there}
use Rattle.kernel_tables.proofs.Evicts.{frames_same}
use Rattle.kernel_tables.proofs.Knows.{held_named}
use Rattle.kernel_tables.proofs.Rising.{or_none, IsOfSpace, data_of_space, stack_of_space, absent_entry}
use Rattle.table_steps.proofs.Forgets.{all_dropped_rests, dropped_more}
use Rattle.kernel_tables.proofs.ResizedMaps.{sizes_sids}
use Rattle.table_steps.proofs.GivenUp.{sids_length}
use Rattle.table_steps.proofs.WholeSpace.{dropped_numbers, absent_at}
use Rattle.table_steps.proofs.Settles.{or_zero}

-- A segment.

abbrev resized_by : ℕ → List Place → List Place
resized_by zero xs = []
resized_by (suc n) [] = places.Zero ∷ resized_by n []
resized_by (suc n) (x ∷ xs) = x ∷ resized_by n xs

zeros_by : (n : ℕ) → replicate n places.Zero ≡ resized_by n []
zeros_by zero = refl
zeros_by (suc n) = ap (λ (xs : List Place). places.Zero ∷ xs) (zeros_by n)

none_more : (n : ℕ) → 0 - n ≡ 0
none_more n = omega arith

all_more : (n : ℕ) → n - 0 ≡ n
all_more n = omega arith

one_less : (n m : ℕ) → suc n - suc m ≡ n - m
one_less n m = omega arith

resized_is : (n : ℕ) (xs : List Place) → resized xs n ≡ resized_by n xs
resized_is zero [] = refl
resized_is zero (x ∷ xs) = ap (λ (m : ℕ). replicate m places.Zero) (none_more (length (x ∷ xs)))
resized_is (suc n) [] = ap (λ (m : ℕ). replicate m places.Zero) (all_more (suc n)) ∙ zeros_by (suc n)
resized_is (suc n) (x ∷ xs) = ap (λ (m : ℕ). x ∷ take n xs ++ replicate m places.Zero) (one_less n (length xs)) ∙ ap (λ (ys : List Place). x ∷ ys) (resized_is n xs)

by_shown : (slots : List Token) (n : ℕ) (xs : List Place) → map (slot_shown slots) (resized_by n xs) ≡ sized n (map (slot_shown slots) xs)
by_shown slots zero xs = refl
by_shown slots (suc n) [] = ap (λ (ys : List Slot). unfilled Zeros ∷ ys) (by_shown slots n [])
by_shown slots (suc n) (x ∷ xs) = ap (λ (ys : List Slot). slot_shown slots x ∷ ys) (by_shown slots n xs)

sized_shown : (slots : List Token) (n : ℕ) (xs : List Place) → map (slot_shown slots) (resized xs n) ≡ sized n (map (slot_shown slots) xs)
sized_shown slots n xs = ap (map (slot_shown slots)) (resized_is n xs) ∙ by_shown slots n xs

by_length : (n : ℕ) (xs : List Place) → length (resized_by n xs) ≡ n
by_length zero xs = refl
by_length (suc n) [] = ap suc (by_length n [])
by_length (suc n) (x ∷ xs) = ap suc (by_length n xs)

sized_length : (n : ℕ) (xs : List Place) → length (resized xs n) ≡ n
sized_length n xs = ap length (resized_is n xs) ∙ by_length n xs

-- a page that is still there is as it was, but for pages of zeros that came
by_changed : (n v : ℕ) (xs : List Place) → IsSome (slice_get (resized_by n xs) v)
    → changed_named (slice_get (resized_by n xs) v) ≡ changed_named (slice_get xs v)
by_changed zero v xs h = absurd cc
by_changed (suc n) zero [] h = refl
by_changed (suc n) (suc v) [] h = by_changed n v [] h
by_changed (suc n) zero (x ∷ xs) h = refl
by_changed (suc n) (suc v) (x ∷ xs) h = by_changed n v xs h

sized_changed : (n v : ℕ) (xs : List Place) → IsSome (slice_get (resized xs n) v) → changed_named (slice_get (resized xs n) v) ≡ changed_named (slice_get xs v)
sized_changed n v xs h = ap (λ (ys : List Place). changed_named (slice_get ys v)) (resized_is n xs) ∙ by_changed n v xs (subst (λ (ys : List Place). IsSome (slice_get ys v)) (resized_is n xs) h)

by_image : (n v w : ℕ) (xs : List Place) → slice_get (resized_by n xs) v ≡ Some (places.Image w) → slice_get xs v ≡ Some (places.Image w)
by_image zero v w xs e = absurd cc
by_image (suc n) zero w [] e = absurd cc
by_image (suc n) (suc v) w [] e = by_image n v w [] e
by_image (suc n) zero w (x ∷ xs) e = e
by_image (suc n) (suc v) w (x ∷ xs) e = by_image n v w xs e

sized_image : (n v w : ℕ) (xs : List Place) → slice_get (resized xs n) v ≡ Some (places.Image w) → slice_get xs v ≡ Some (places.Image w)
sized_image n v w xs e = by_image n v w xs (sym (ap (λ (ys : List Place). slice_get ys v) (resized_is n xs)) ∙ e)

changed_hit : (n : ℕ) (change : SpacePages → SpacePages) (x : SpacePages) (xs : List SpacePages) → x.sid ≡ n
    → changed space_number n change (x ∷ xs) ≡ change x ∷ xs
changed_hit n change x xs e = grind (arith, nat_tests)

changed_miss : (n : ℕ) (change : SpacePages → SpacePages) (x : SpacePages) (xs : List SpacePages) → x.sid ≢ n
    → changed space_number n change (x ∷ xs) ≡ x ∷ changed space_number n change xs
changed_miss n change x xs e = grind (arith, nat_tests)

sizes_shown : (slots : List Token) (d s : ℕ) (x : Places) → space_shown slots (with_sizes d s x) ≡ cut d s (space_shown slots x)
sizes_shown slots d s x =
    ap (λ (ys : List Slot). let z : SpacePages = record { sid = x.sid; image = x.image; data_pages = ys; stack_pages = map (slot_shown slots) (resized x.stack s) } in z) (sized_shown slots d x.data)
    ∙ ap (λ (ys : List Slot). let z : SpacePages = record { sid = x.sid; image = x.image; data_pages = sized d (map (slot_shown slots) x.data); stack_pages = ys } in z) (sized_shown slots s x.stack)

spaces_cut : (slots : List Token) (ss : List Places) (i sid d s : ℕ) → AllDistinct (sids_of ss) → slice_get (sids_of ss) i ≡ Some sid
    → map (space_shown slots) (with_sizes_at ss i d s) ≡ changed space_number sid (cut d s) (map (space_shown slots) ss)
spaces_cut slots [] i sid d s h e = absurd cc
spaces_cut slots (x ∷ xs) zero sid d s h e =
    let same : x.sid ≡ sid = cc in
    ap (λ (y : SpacePages). y ∷ map (space_shown slots) xs) (sizes_shown slots d s x) ∙ sym (changed_hit sid (cut d s) (space_shown slots x) (map (space_shown slots) xs) same)
spaces_cut slots (x ∷ xs) (suc i) sid d s h e =
    ap (λ (ys : List SpacePages). space_shown slots x ∷ ys) (spaces_cut slots xs i sid d s h.1 e)
    ∙ sym (changed_miss sid (cut d s) (space_shown slots x) (map (space_shown slots) xs) (absent_at x.sid sid i (sids_of xs) h.0 e))

-- text stays where it is
text_stays : (ss : List Places) (i d s image v : ℕ) → entry_in (with_sizes_at ss i d s) (Text image v) ≡ entry_in ss (Text image v)
text_stays [] i d s image v = refl
text_stays (x ∷ xs) zero d s image v = refl
text_stays (x ∷ xs) (suc i) d s image v = ap (or_else (place_in x (Text image v))) (text_stays xs i d s image v)

sizes_like : (all more : List Places) → ((image v : ℕ) → entry_in more (Text image v) ≡ entry_in all (Text image v)) → (ss : List Places) (i d s : ℕ)
    → EachSpace (IsLikeFirst all) ss → EachSpace (IsLikeFirst more) (with_sizes_at ss i d s)
sizes_like all more same ss i d s h = go ss i h
  where
    one : (x : Places) → IsLikeFirst all x → IsLikeFirst more x
    one x k image v y e = same image v ∙ k image v y e

    each : (rs : List Places) → EachSpace (IsLikeFirst all) rs → EachSpace (IsLikeFirst more) rs
    each [] k = tt
    each (x ∷ xs) k = (one x k.0, each xs k.1)

    go : (rs : List Places) (j : ℕ) → EachSpace (IsLikeFirst all) rs → EachSpace (IsLikeFirst more) (with_sizes_at rs j d s)
    go [] j k = tt
    go (x ∷ xs) zero k = (λ image v y e. same image v ∙ k.0 image v y e, each xs k.1)
    go (x ∷ xs) (suc j) k = (one x k.0, go xs j k.1)

sizes_filled_one : (facts : List Image) (d s : ℕ) (x : Places) → IsFilled facts x → IsFilled facts (with_sizes d s x)
sizes_filled_one facts d s x h = record { facts_are = h.facts_are; entries = entries }
  where
    entries : (q : Page) (w : ℕ) → place_in (with_sizes d s x) q ≡ Some (places.Image w) → IsFilledAt (with_sizes d s x) q w
    entries (Data n v) w e = elim (cases_eq n x.sid) [
      | inl i ↦ h.entries (Data n v) w (data_hit x n v i ∙ sized_image d v w x.data (sym (data_hit (with_sizes d s x) n v i) ∙ e))
      | inr k ↦ none_some (places.Image w) (sym (data_miss (with_sizes d s x) n v k) ∙ e)
    ]
    entries (Stack n v) w e = elim (cases_eq n x.sid) [
      | inl i ↦ h.entries (Stack n v) w (stack_hit x n v i ∙ sized_image s v w x.stack (sym (stack_hit (with_sizes d s x) n v i) ∙ e))
      | inr k ↦ none_some (places.Image w) (sym (stack_miss (with_sizes d s x) n v k) ∙ e)
    ]
    entries (Text n v) w e = h.entries (Text n v) w e

sizes_filled : (facts : List Image) (ss : List Places) (i d s : ℕ) → EachSpace (IsFilled facts) ss → EachSpace (IsFilled facts) (with_sizes_at ss i d s)
sizes_filled facts [] i d s h = tt
sizes_filled facts (x ∷ xs) zero d s h = (sizes_filled_one facts d s x h.0, h.1)
sizes_filled facts (x ∷ xs) (suc i) d s h = (h.0, sizes_filled facts xs i d s h.1)

sizes_few : (ss : List Places) (i d s : ℕ) → d ≤ 4096 → s ≤ 512 → EachSpace HasFewPages ss → EachSpace HasFewPages (with_sizes_at ss i d s)
sizes_few [] i d s a b h = tt
sizes_few (x ∷ xs) zero d s a b h =
    let k = sized_length d x.data in
    let l = sized_length s x.stack in
    ((omega arith, omega arith), h.1)
sizes_few (x ∷ xs) (suc i) d s a b h = (h.0, sizes_few xs i d s a b h.1)

-- Marks.

or_changed : (a b : Option Place) (o : Option Place) → (IsSome a → changed_named a ≡ changed_named b) → IsSome (or_else o a)
    → changed_named (or_else o a) ≡ changed_named (or_else o b)
or_changed a b None k h = k h
or_changed a b (Some x) k h = refl

first_changed : (q : Page) (sid : ℕ) → IsOfSpace q sid → (a b : Option Place) (xs : List Places) → IsAbsent sid (sids_of xs)
    → (IsSome a → changed_named a ≡ changed_named b)
    → IsSome (or_else a (entry_in xs q)) → changed_named (or_else a (entry_in xs q)) ≡ changed_named (or_else b (entry_in xs q))
first_changed q sid of a b xs h k some =
    let gone : entry_in xs q ≡ None = absent_entry q sid of xs h in
    let left = ap (or_else a) gone ∙ or_none a in
    let right = ap (or_else b) gone ∙ or_none b in
    ap changed_named left ∙ k (subst IsSome left some) ∙ ap changed_named (sym right)

sizes_dirty : (ss : List Places) (i d s : ℕ) (q : Page) → AllDistinct (sids_of ss) → IsSome (entry_in (with_sizes_at ss i d s) q)
    → changed_named (entry_in (with_sizes_at ss i d s) q) ≡ changed_named (entry_in ss q)
sizes_dirty [] i d s q h some = refl
sizes_dirty (x ∷ xs) (suc i) d s q h some = or_changed (entry_in (with_sizes_at xs i d s) q) (entry_in xs q) (place_in x q) (sizes_dirty xs i d s q h.1) some
sizes_dirty (x ∷ xs) zero d s (Text n v) h some = refl
sizes_dirty (x ∷ xs) zero d s (Data n v) h some = elim (cases_eq n x.sid) [
  | inl e ↦
      let y : Places = with_sizes d s x in
      first_changed (Data n v) n (data_of_space n v) (place_in y (Data n v)) (place_in x (Data n v)) xs (subst (λ (m : ℕ). IsAbsent m (sids_of xs)) (sym e) h.0)
      (λ k. ap changed_named (data_hit y n v e) ∙ sized_changed d v x.data (subst IsSome (data_hit y n v e) k) ∙ ap changed_named (sym (data_hit x n v e))) some
  | inr k ↦ ap (λ (o : Option Place). changed_named (or_else o (entry_in xs (Data n v)))) (data_miss (with_sizes d s x) n v k ∙ sym (data_miss x n v k))
]
sizes_dirty (x ∷ xs) zero d s (Stack n v) h some = elim (cases_eq n x.sid) [
  | inl e ↦
      let y : Places = with_sizes d s x in
      first_changed (Stack n v) n (stack_of_space n v) (place_in y (Stack n v)) (place_in x (Stack n v)) xs (subst (λ (m : ℕ). IsAbsent m (sids_of xs)) (sym e) h.0)
      (λ k. ap changed_named (stack_hit y n v e) ∙ sized_changed s v x.stack (subst IsSome (stack_hit y n v e) k) ∙ ap changed_named (sym (stack_hit x n v e))) some
  | inr k ↦ ap (λ (o : Option Place). changed_named (or_else o (entry_in xs (Stack n v)))) (stack_miss (with_sizes d s x) n v k ∙ sym (stack_miss x n v k))
]

-- The whole.

abbrev pub cut_lists : Lists → ℕ → ℕ → ℕ → Lists
cut_lists t i d s = record t { spaces = with_sizes_at t.spaces i d s }

text_slot_stays : (t : Lists) (i d s image v : ℕ) → text_slot (cut_lists t i d s) image v ≡ text_slot t image v
text_slot_stays t i d s image v =
    ap (λ (o : Option Place). text_shown t.slots (is_saved (text_numbered t.texts image) v) (text_place_by o t.slots (Text image v) v)) (text_stays t.spaces i d s image v)

texts_stay : (t : Lists) (i d s n : ℕ) (facts : List Image) → texts_of (cut_lists t i d s) n facts ≡ texts_of t n facts
texts_stay t i d s n [] = refl
texts_stay t i d s n (x ∷ more) =
    ap (λ (ys : List Slot). (let z : TextPages = record { image = n; text_pages = ys } in z) ∷ texts_of (cut_lists t i d s) (n + 1) more)
    (frames_same (text_slot t n) (text_slot (cut_lists t i d s) n) (range_with_len 0 (text_pages_of x)) (λ v. text_slot_stays t i d s n v))
    ∙ ap (λ (ys : List TextPages). (let z : TextPages = record { image = n; text_pages = text_slots t n (text_pages_of x) } in z) ∷ ys) (texts_stay t i d s (n + 1) more)

cut_is : (t : Lists) (i sid d s : ℕ) → AllDistinct (sids_of t.spaces) → slice_get (sids_of t.spaces) i ≡ Some sid
    → placement_of (cut_lists t i d s) ≡ cut_space (placement_of t) sid d s
cut_is t i sid d s h e =
    placement_ext (placement_of (cut_lists t i d s)) (cut_space (placement_of t) sid d s) (spaces_cut t.slots t.spaces i sid d s h e) (texts_stay t i d s 1 t.facts) refl refl refl refl refl refl refl

cut_sharers : (t : Lists) (i sid d s image : ℕ) → AllDistinct (sids_of t.spaces) → slice_get (sids_of t.spaces) i ≡ Some sid
    → sharers (placement_of (cut_lists t i d s)) image ≡ sharers (placement_of t) image
cut_sharers t i sid d s image h e = ap (sharers_in image) (spaces_cut t.slots t.spaces i sid d s h e) ∙ sharers_changed sid image (cut d s) (λ x. refl) (map (space_shown t.slots) t.spaces)

-- a page in a frame still has its entry
still_entered : (t : Lists) (i d s f : ℕ) (q : Page) → Known t → OwnsFrames (placement_of (cut_lists t i d s)) → token_page (slot_at t.slots f) ≡ Some q
    → frame_of (state_of (placement_of (cut_lists t i d s)) q) ≡ Some f
still_entered t i d s f q k o e = o.named f q (k.owns.names q f (held_named t f q k e))

cut_marked : (t : Lists) (i d s : ℕ) → Known t → OwnsFrames (placement_of (cut_lists t i d s)) → AreMarked t.slots (with_sizes_at t.spaces i d s) t.texts
cut_marked t i d s k o f token q mark e =
    k.tied.marked f token q mark e ∙ sym (same q (page_in (placement_of (cut_lists t i d s)) q f (still_entered t i d s f q k o (ap token_page e))))
  where
    same : (r : Page) → IsThere (placement_of (cut_lists t i d s)) r → dirty_shown (with_sizes_at t.spaces i d s) t.texts r ≡ dirty_shown t.spaces t.texts r
    same (Data n v) th = sizes_dirty t.spaces i d s (Data n v) k.differ (data_there t.slots (with_sizes_at t.spaces i d s) n v th)
    same (Stack n v) th = sizes_dirty t.spaces i d s (Stack n v) k.differ (stack_there t.slots (with_sizes_at t.spaces i d s) n v th)
    same (Text n v) th = refl

cut_tied : (t : Lists) (i sid d s : ℕ) → Known t → slice_get (sids_of t.spaces) i ≡ Some sid → d ≤ 4096 → s ≤ 512
    → OwnsFrames (placement_of (cut_lists t i d s))
    → Tied (cut_lists t i d s)
cut_tied t i sid d s k e a b o = record {
  few_frames = k.tied.few_frames;
  few_images = k.tied.few_images;
  few_pages = sizes_few t.spaces i d s a b k.tied.few_pages;
  sound = k.tied.sound;
  small_texts = k.tied.small_texts;
  shared = λ image v l m. subst IsSome (sym (text_stays t.spaces i d s image v)) (k.tied.shared image v (subst (λ (n : ℕ). 0 < n) (cut_sharers t i sid d s image k.differ e) l) m);
  alike = sizes_like t.spaces (with_sizes_at t.spaces i d s) (text_stays t.spaces i d s) t.spaces i d s k.tied.alike;
  filled = sizes_filled t.facts t.spaces i d s k.tied.filled;
  counted = λ image l m. k.tied.counted image l m ∙ sym (cut_sharers t i sid d s image k.differ e);
  marked = cut_marked t i d s k o;
  whole = k.tied.whole;
  once = k.tied.once;
}

cut_known : (t : Lists) (i sid d s : ℕ) → Known t → slice_get (sids_of t.spaces) i ≡ Some sid → d ≤ 4096 → s ≤ 512
    → OwnsFrames (cut_space (placement_of t) sid d s)
    → TextAside (cut_space (placement_of t) sid d s) → Known (cut_lists t i d s)
cut_known t i sid d s k e a b o x =
    let is = cut_is t i sid d s k.differ e in
    let owns : OwnsFrames (placement_of (cut_lists t i d s)) = subst OwnsFrames (sym is) o in
    record {
      core = k.core;
      owns = owns;
      aside = subst TextAside (sym is) x;
      tied = cut_tied t i sid d s k e a b owns;
      differ = subst AllDistinct (sym (sizes_sids t.spaces i d s)) k.differ;
      numbers = k.numbers;
    }

-- the image of each space stays
cut_image : (n sid d s : ℕ) (xs : List SpacePages)
    → image_in (numbered space_number n (changed space_number sid (cut d s) xs)) ≡ image_in (numbered space_number n xs)
cut_image n sid d s xs = elim (cases_eq n sid) [
  | inl e ↦ subst (λ (m : ℕ). image_in (numbered space_number m (changed space_number sid (cut d s) xs)) ≡ image_in (numbered space_number m xs)) (sym e)
      (ap image_in (changed_same space_number sid (cut d s) (λ x. refl) xs) ∙ go (numbered space_number sid xs))
  | inr k ↦ ap image_in (changed_other space_number sid n (cut d s) (λ x. refl) k xs)
]
  where
    go : (o : Option SpacePages) → image_in (mapped (cut d s) o) ≡ image_in o
    go None = refl
    go (Some x) = refl

-- The call.

pub dropped_stands : (t u : Tables) (qs : List Page) (sid index : ℕ) → Dropped t u qs → StandsAt t.spaces sid index → StandsAt u.spaces sid index
dropped_stands t u qs sid index d h =
    let e = dropped_numbers t u qs d in
    let a = h.in_range in
    let b = ap length e in
    let c = sids_length u.spaces in
    let k = sids_length t.spaces in
    record { in_range = omega arith; number = ap (λ (ns : List ℕ). slice_get ns index) e ∙ h.number }

counted : (slots : List Token) (ss : List Places) (i sid a b : ℕ) → AllDistinct (sids_of ss) → slice_get (sids_of ss) i ≡ Some sid
    → Some a ≡ option_map (λ (s : Places). length s.data) (slice_get ss i) → Some b ≡ option_map (λ (s : Places). length s.stack) (slice_get ss i)
    → (a ≡ length (data_in (numbered space_number sid (map (space_shown slots) ss))))
    × (b ≡ length (stack_in (numbered space_number sid (map (space_shown slots) ss))))
counted slots [] i sid a b h e k l = absurd cc
counted slots (s ∷ ss) zero sid a b h e k l =
    let same : s.sid ≡ sid = cc in
    let found = hit sid (space_shown slots s) (map (space_shown slots) ss) same in (
      ap or_zero k ∙ sym (length_map (slot_shown slots) s.data) ∙ sym (ap (λ (o : Option SpacePages). length (data_in o)) found),
      ap or_zero l ∙ sym (length_map (slot_shown slots) s.stack) ∙ sym (ap (λ (o : Option SpacePages). length (stack_in o)) found),
    )
counted slots (s ∷ ss) (suc i) sid a b h e k l =
    let past = miss sid (space_shown slots s) (map (space_shown slots) ss) (absent_at s.sid sid i (sids_of ss) h.0 e) in
    let rest = counted slots ss i sid a b h.1 e k l in
    (rest.0 ∙ sym (ap (λ (o : Option SpacePages). length (data_in o)) past), rest.1 ∙ sym (ap (λ (o : Option SpacePages). length (stack_in o)) past))

-- what is known where a space takes other sizes
pub record Sizing (t : Tables) (index sid d s data_pages stack_pages : ℕ) : Type 0 where
  pub known : Known (lists_of t)
  pub stands : StandsAt t.spaces sid index
  pub data_has : Some data_pages ≡ option_map (λ (x : Places). length x.data) (slice_get t.spaces index)
  pub stack_has : Some stack_pages ≡ option_map (λ (x : Places). length x.stack) (slice_get t.spaces index)
  pub settled : LosesPages (placement_of (lists_of t)) sid d s → IsSettled (placement_of (lists_of t)) sid

sizing_counts : (t : Tables) (index sid d s a b : ℕ) → Sizing t index sid d s a b
    → (a ≡ data_count (placement_of (lists_of t)) sid) × (b ≡ stack_count (placement_of (lists_of t)) sid)
sizing_counts t index sid d s a b z = counted t.core.slots t.spaces index sid a b z.known.differ z.stands.number z.data_has z.stack_has

beside_data : (sid v w lo n : ℕ) → pages_from (Data sid v) lo n ≡ pages_from (Data sid w) lo n
beside_data sid v w lo zero = refl
beside_data sid v w lo (suc n) = ap (λ (qs : List Page). Data sid lo ∷ qs) (beside_data sid v w (lo + 1) n)

beside_stack : (sid v w lo n : ℕ) → pages_from (Stack sid v) lo n ≡ pages_from (Stack sid w) lo n
beside_stack sid v w lo zero = refl
beside_stack sid v w lo (suc n) = ap (λ (qs : List Page). Stack sid lo ∷ qs) (beside_stack sid v w (lo + 1) n)

module _ (t : Tables) (index sid d s a b : ℕ) where
  pub data_go : Sizing t index sid d s a b → EachPage (IsThere (placement_of (lists_of t))) (pages_from (Data sid 0) d (a - d))
  data_go z = let e = (sizing_counts t index sid d s a b z).0 in pages_from_each (IsThere (placement_of (lists_of t))) (Data sid 0) d (a - d) (λ w l m. omega arith)

  pub data_rest : Sizing t index sid d s a b → EachPage (λ q. AtRest (state_of (placement_of (lists_of t)) q)) (pages_from (Data sid 0) d (a - d))
  data_rest z =
      let e = (sizing_counts t index sid d s a b z).0 in
      pages_from_each (λ q. AtRest (state_of (placement_of (lists_of t)) q)) (Data sid 0) d (a - d) (λ w l m. (z.settled (inl (omega arith))).data_rests w)

  stack_rest : Sizing t index sid d s a b → EachPage (λ q. AtRest (state_of (placement_of (lists_of t)) q)) (pages_from (Stack sid 0) s (b - s))
  stack_rest z =
      let e = (sizing_counts t index sid d s a b z).1 in
      pages_from_each (λ q. AtRest (state_of (placement_of (lists_of t)) q)) (Stack sid 0) s (b - s) (λ w l m. (z.settled (inr (omega arith))).stack_rests w)

-- the pages of the stack, where others were dropped
pub stack_go : (t u : Tables) (index sid d s a b : ℕ) (qs : List Page) → Sizing t index sid d s a b → Dropped t u qs
    → EachPage (IsThere (placement_of (lists_of u))) (pages_from (Stack sid 0) s (b - s))
stack_go t u index sid d s a b qs z h =
    let p : Placement = placement_of (lists_of t) in
    let e = (sizing_counts t index sid d s a b z).1 in
    subst (λ (x : Placement). EachPage (IsThere x) (pages_from (Stack sid 0) s (b - s))) (sym h.shows.place)
    (pages_from_each (IsThere (drop_all p qs)) (Stack sid 0) s (b - s) (λ w l m. let k = drop_all_length qs p (Stack sid w) in omega arith))

pub stack_still : (t u : Tables) (index sid d s a b : ℕ) (qs : List Page) → Sizing t index sid d s a b → Dropped t u qs
    → EachPage (λ q. AtRest (state_of (placement_of (lists_of u)) q)) (pages_from (Stack sid 0) s (b - s))
stack_still t u index sid d s a b qs z h =
    let p : Placement = placement_of (lists_of t) in
    subst (λ (x : Placement). EachPage (λ q. AtRest (state_of x q)) (pages_from (Stack sid 0) s (b - s))) (sym h.shows.place)
    (each_page_imp (λ q. AtRest (state_of p q)) (λ q. AtRest (state_of (drop_all p qs) q)) (pages_from (Stack sid 0) s (b - s)) (stack_rest t index sid d s a b z) (λ q r. all_dropped_rests p qs q r))

pub both_dropped : (t u v : Tables) (index sid d s a b : ℕ) → Sizing t index sid d s a b → Dropped t u (pages_from (Data sid 0) d (a - d))
    → Dropped u v (pages_from (Stack sid 0) s (b - s))
    → Dropped t v (dropped_pages (placement_of (lists_of t)) sid d s)
both_dropped t u v index sid d s a b z h k =
    let e = sizing_counts t index sid d s a b z in
    subst (Dropped t v)
    (ap (λ (n : ℕ). pages_from (Data sid 0) d (n - d) ++ pages_from (Stack sid 0) s (b - s)) e.0
    ∙ ap (λ (n : ℕ). pages_from (Data sid 0) d (data_count (placement_of (lists_of t)) sid - d) ++ pages_from (Stack sid 0) s (n - s)) e.1
    ∙ ap (λ (qs : List Page). qs ++ pages_from (Stack sid 0) s (stack_count (placement_of (lists_of t)) sid - s)) (beside_data sid 0 d d (data_count (placement_of (lists_of t)) sid - d))
    ∙ ap (λ (qs : List Page). data_from sid d (data_count (placement_of (lists_of t)) sid - d) ++ qs) (beside_stack sid 0 s s (stack_count (placement_of (lists_of t)) sid - s)))
    (dropped_more t u v (pages_from (Data sid 0) d (a - d)) (pages_from (Stack sid 0) s (b - s)) h k)

all_rest : (t : Tables) (index sid d s a b : ℕ) → Sizing t index sid d s a b
    → EachPage (λ q. AtRest (state_of (placement_of (lists_of t)) q)) (dropped_pages (placement_of (lists_of t)) sid d s)
all_rest t index sid d s a b z =
    let p : Placement = placement_of (lists_of t) in
    each_page_append (λ q. AtRest (state_of p q)) (data_from sid d (data_count p sid - d)) (stack_from sid s (stack_count p sid - s))
    (pages_from_each (λ q. AtRest (state_of p q)) (Data sid d) d (data_count p sid - d) (λ w l m. (z.settled (inl (omega arith))).data_rests w))
    (pages_from_each (λ q. AtRest (state_of p q)) (Stack sid s) s (stack_count p sid - s) (λ w l m. (z.settled (inr (omega arith))).stack_rests w))

pub sized_shows : (t v w : Tables) (index sid d s a b : ℕ) → Sizing t index sid d s a b
    → Dropped t v (dropped_pages (placement_of (lists_of t)) sid d s) → d ≤ 4096 → s ≤ 512
    → lists_of w ≡ cut_lists (lists_of v) index d s
    → Shows t w (resize (placement_of (lists_of t)) sid d s)
sized_shows t v w index sid d s a b z h l m is =
    let p : Placement = placement_of (lists_of t) in
    let at : slice_get (sids_of v.spaces) index ≡ Some sid = (dropped_stands t v (dropped_pages p sid d s) sid index h z.stands).number in
    let cut_it : cut_space (placement_of (lists_of v)) sid d s ≡ resize p sid d s = ap (λ (x : Placement). cut_space x sid d s) h.shows.place in
    record {
      place = ap placement_of is ∙ cut_is (lists_of v) index sid d s h.shows.known.differ at ∙ cut_it;
      frames = ap frames_of is ∙ h.shows.frames;
      known = subst Known (sym is) (cut_known (lists_of v) index sid d s h.shows.known at l m
          (subst OwnsFrames (sym cut_it) (resize_owner p sid d s z.known.owns (all_rest t index sid d s a b z)))
          (subst TextAside (sym cut_it) (resize_aside p sid d s z.known.aside)));
    }

pub sized_images : (t v w : Tables) (index sid d s : ℕ) → Dropped t v (dropped_pages (placement_of (lists_of t)) sid d s) → StandsAt t.spaces sid index
    → lists_of w ≡ cut_lists (lists_of v) index d s → (other : ℕ) → image_at w other ≡ image_at t other
sized_images t v w index sid d s h z is other =
    let at : slice_get (sids_of v.spaces) index ≡ Some sid = (dropped_stands t v (dropped_pages (placement_of (lists_of t)) sid d s) sid index h z).number in
    ap (λ (p : Placement). image_in (numbered space_number other p.spaces)) (ap placement_of is ∙ cut_is (lists_of v) index sid d s h.shows.known.differ at)
    ∙ cut_image other sid d s (placement_of (lists_of v)).spaces
    ∙ h.images other

-- a space that is there has a place among all
pub no_space : (t : Lists) (sid : ℕ) → HasSpace (placement_of t) sid → IsAbsent sid (sids_of t.spaces) → ⊥
no_space t sid h a = h (absent sid (map (space_shown t.slots) t.spaces) (subst (IsAbsent sid) (sym (sids_shown t.slots t.spaces)) a))
