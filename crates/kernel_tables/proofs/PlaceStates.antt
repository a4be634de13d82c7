-- What the place of a page says of its state.
use Rattle.std.proofs.Common.{◌≡◌, ◌≢◌, inl, inr, ℕ, zero, suc, ◌+◌, ◌<◌, ◌≤◌, Bool, true, false, cond, ltb, IsSome, List, [], ◌∷◌, length, map, get_or, slice_get, option_map, Option, Some, None, refl, sym, ap, ◌∙◌, subst, arith}
use Rattle.std.proofs.lemmas.Bool.{cases_eq, ltb-true}
use Rattle.std.proofs.lemmas.Bool.Decides.{nat_tests}
use Rattle.vm_facts.specs.declared.page.Page.{Page}
use Rattle.vm_facts.specs.declared.page.Page.TheVariants.{Data, Stack, Text}
use Rattle.vm_facts.specs.declared.page.PageState.{PageState}
use Rattle.vm_facts.specs.declared.page.PageState.TheVariants.{Unfilled}
use Rattle.vax_pte.specs.declared.Place.{Place}
use Rattle.vax_pte.specs.declared.Place.TheVariants as places
use Rattle.aout_image.specs.Image.{text_pages_of, IsSound as IsSoundImage}
use Rattle.core_map.specs.declared.slot.Slot.{Slot as Token}
use Rattle.core_map.specs.Slots.{slot_at, slot_page as token_page}
use Rattle.core_map.specs.Frames.{IsSoundMap}
use Rattle.space_map.specs.Space.{Places}
use Rattle.page_model.specs.Pages.{Slot, Zeros, OfImage, SpacePages, numbered, data_in, stack_in}
use Rattle.page_model.specs.Placement.{IsThere, space_number, state_of, filling_of}
use Rattle.flat_state.proofs.PageNames.{same_page_is, same_page_self}
use Rattle.kernel_tables.specs.declared.named.Named.{Named}
use Rattle.kernel_tables.specs.Found.{holds_it, found_from, cached_place, cached_by}
use Rattle.kernel_tables.specs.Shown.{filling_shown, slot_shown, space_shown, entry_in}
use Rattle.table_view.specs.Shown.{idle_state, is_away, state_shown}
use Rattle.kernel_tables.specs.View.{Lists, pages_in, text_place, placement_of}
use Rattle.kernel_tables.specs.Rising.{sids_of, AreRising}
use Rattle.kernel_tables.specs.PlaceOf.{text_if, place_of, is_blank, is_zero_place, names_zeros}
use Rattle.kernel_tables.specs.New.{AreSound}
use Rattle.kernel_tables.specs.Known.{Known}
use Rattle.kernel_tables.proofs.Entries.{data_hit, stack_hit}
use Rattle.kernel_tables.proofs.Shows.{pages_hit, pages_miss, slot_or, data_shown, stack_shown, text_at, text_within, texts_shown, text_length, length_map}
use Rattle.kernel_tables.proofs.Arrives.{data_there, stack_there}
use Rattle.kernel_tables.proofs.Finds.{holding_none}
use Rattle.kernel_tables.proofs.Rising.{found_entry, lost_entry, data_of_space, stack_of_space}
use Rattle.kernel_tables.proofs.UserFrames.{numbered_shown, get_below}

-- what is so of a place that is found
pub record TellsState (t : Lists) (q : Page) (o : Option Place) : Type 0 where
  pub there : IsSome o → IsThere (placement_of t) q
  pub found : IsThere (placement_of t) q → IsSome o
  pub state : (x : Place) → o ≡ Some x → state_of (placement_of t) q ≡ state_shown t.slots x

number_found : (ss : List Places) (n : ℕ) (s : Places) → numbered (λ (s : Places). s.sid) n ss ≡ Some s → n ≡ s.sid
number_found [] n s e = absurd cc
number_found (x ∷ xs) n s e = elim (cases_eq x.sid n) [
  | inl h ↦ let same : x ≡ s =
      (let k : numbered (λ (s : Places). s.sid) n (x ∷ xs) ≡ Some x = grind (arith, nat_tests) in let j : Some x ≡ Some s = sym k ∙ e in cc) in sym h ∙ ap (λ (y : Places). y.sid) same
  | inr d ↦ number_found xs n s (let k : numbered (λ (s : Places). s.sid) n (x ∷ xs) ≡ numbered (λ (s : Places). s.sid) n xs = grind (arith, nat_tests) in sym k ∙ e)
]

none_there : IsSome (let o : Option Place = None in o) → ⊥
none_there e = cc

some_place : (o : Option Place) → IsSome o → (x : Place) × (o ≡ Some x)
some_place None e = absurd cc
some_place (Some x) e = (x, refl)

data_within : (t : Lists) (n v : ℕ) → AreRising (sids_of t.spaces) → IsSome (entry_in t.spaces (Data n v)) → IsThere (placement_of t) (Data n v)
data_within t n v rising h = go (numbered (λ (s : Places). s.sid) n t.spaces) refl
  where
    go : (o : Option Places) → numbered (λ (s : Places). s.sid) n t.spaces ≡ o → v < length (data_in (numbered space_number n (map (space_shown t.slots) t.spaces)))
    go None e = absurd (none_there (subst (λ (o : Option Place). IsSome o) (lost_entry (Data n v) n (data_of_space n v) t.spaces e) h))
    go (Some s) e =
        let x = some_place (entry_in t.spaces (Data n v)) h in
        let at : slice_get s.data v ≡ Some x.0 = sym (data_hit s n v (number_found t.spaces n s e)) ∙ sym (found_entry (Data n v) n (data_of_space n v) t.spaces s rising e) ∙ x.1 in
        let l = get_below s.data v x.0 at in
        let size : length (data_in (numbered space_number n (map (space_shown t.slots) t.spaces))) ≡ length s.data =
        ap (λ (p : Option SpacePages). length (data_in p)) (numbered_shown t.slots t.spaces n ∙ ap (option_map (space_shown t.slots)) e) ∙ length_map (slot_shown t.slots) s.data in
        omega arith

stack_within : (t : Lists) (n v : ℕ) → AreRising (sids_of t.spaces) → IsSome (entry_in t.spaces (Stack n v)) → IsThere (placement_of t) (Stack n v)
stack_within t n v rising h = go (numbered (λ (s : Places). s.sid) n t.spaces) refl
  where
    go : (o : Option Places) → numbered (λ (s : Places). s.sid) n t.spaces ≡ o → v < length (stack_in (numbered space_number n (map (space_shown t.slots) t.spaces)))
    go None e = absurd (none_there (subst (λ (o : Option Place). IsSome o) (lost_entry (Stack n v) n (stack_of_space n v) t.spaces e) h))
    go (Some s) e =
        let x = some_place (entry_in t.spaces (Stack n v)) h in
        let at : slice_get s.stack v ≡ Some x.0 = sym (stack_hit s n v (number_found t.spaces n s e)) ∙ sym (found_entry (Stack n v) n (stack_of_space n v) t.spaces s rising e) ∙ x.1 in
        let l = get_below s.stack v x.0 at in
        let size : length (stack_in (numbered space_number n (map (space_shown t.slots) t.spaces))) ≡ length s.stack =
        ap (λ (p : Option SpacePages). length (stack_in p)) (numbered_shown t.slots t.spaces n ∙ ap (option_map (space_shown t.slots)) e) ∙ length_map (slot_shown t.slots) s.stack in
        omega arith

text_tells : (t : Lists) (image v : ℕ) (b : Bool) → ltb v (pages_in 1 image t.facts) ≡ b
    → TellsState t (Text image v) (text_if b (text_place t.spaces t.slots (Text image v) v))
text_tells t image v true e =
    let l : v < pages_in 1 image t.facts = ltb-true v (pages_in 1 image t.facts) e in
    record {
      there = λ h. (let size : length (Rattle.page_model.specs.Placement.slots_of (placement_of t) (Text image v)) ≡ pages_in 1 image t.facts =
          ap length (texts_shown t 1 image t.facts) ∙ text_length t image (pages_in 1 image t.facts) in omega arith);
      found = λ h. refl;
      state = λ x k. (let same : text_place t.spaces t.slots (Text image v) v ≡ x = cc in ap (λ (s : Slot). s.state) (text_at t image v l) ∙ ap (state_shown t.slots) same);
    }
text_tells t image v false e = record {
  there = λ h. absurd cc;
  found = λ h. absurd (let l = text_within t image v h in grind (arith, nat_tests));
  state = λ x k. absurd cc;
}

pub place_tells : (t : Lists) (q : Page) → Known t → AreRising (sids_of t.spaces) → TellsState t q (place_of t q)
place_tells t (Data n v) k rising = record {
  there = data_within t n v rising;
  found = data_there t.slots t.spaces n v;
  state = λ x e. ap (λ (s : Slot). s.state) (data_shown t.slots t.spaces n v k.differ) ∙ ap (λ (o : Option Place). (slot_or (slot_shown t.slots) o).state) e;
}
place_tells t (Stack n v) k rising = record {
  there = stack_within t n v rising;
  found = stack_there t.slots t.spaces n v;
  state = λ x e. ap (λ (s : Slot). s.state) (stack_shown t.slots t.spaces n v k.differ) ∙ ap (λ (o : Option Place). (slot_or (slot_shown t.slots) o).state) e;
}
place_tells t (Text image v) k rising = text_tells t image v (ltb v (pages_in 1 image t.facts)) refl

-- The frame that still holds a page.

holds_self : (q : Page) → holds_it (Some q) q ≡ true
holds_self q = same_page_self q

held_first : (n : ℕ) (ss : List Token) (f : ℕ) (q : Page) → token_page (slot_at ss f) ≡ Some q
    → ((g h : ℕ) → token_page (slot_at ss g) ≡ Some q → token_page (slot_at ss h) ≡ Some q → g ≡ h) → found_from n ss q ≡ Some (n + f)
held_first n [] f q e one = absurd cc
held_first n (s ∷ ss) zero q e one = ap (λ (o : Option Page). cond (holds_it o q) (Some n) (found_from (n + 1) ss q)) e ∙ ap (λ (b : Bool). cond b (Some n) (found_from (n + 1) ss q)) (holds_self q)
    ∙ ap (λ (m : ℕ). Some m) (omega arith)
held_first n (s ∷ ss) (suc f) q e one = go (holds_it (token_page s) q) refl (held_first (n + 1) ss f q e (λ g h a b. (let j = one (suc g) (suc h) a b in omega arith)))
  where
    held_is : (o : Option Page) → holds_it o q ≡ true → o ≡ Some q
    held_is None h = absurd cc
    held_is (Some r) h = ap (λ (x : Page). Some x) (same_page_is r q h)

    go : (b : Bool) → holds_it (token_page s) q ≡ b → found_from (n + 1) ss q ≡ Some (n + 1 + f) → cond b (Some n) (found_from (n + 1) ss q) ≡ Some (n + suc f)
    go true h more = absurd (let j = one 0 (suc f) (held_is (token_page s) h) e in omega arith)
    go false h more = more ∙ ap (λ (m : ℕ). Some m) (omega arith)

pub cached_found : (free : List ℕ) (ss : List Token) (f : ℕ) (q : Page) (v : ℕ) → IsSoundMap free ss → token_page (slot_at ss f) ≡ Some q
    → cached_place ss q v ≡ places.Frame f false false
cached_found free ss f q v s e =
    let same : 0 + f ≡ f = omega arith in
    ap (λ (o : Option ℕ). cached_by o v) (held_first 0 ss f q e (λ g h a b. s.unique g h q a b) ∙ ap (λ (n : ℕ). Some n) same)

pub cached_none : (ss : List Token) (q : Page) (v : ℕ) → ((f : ℕ) → token_page (slot_at ss f) ≢ Some q) → cached_place ss q v ≡ places.Image v
cached_none ss q v h = ap (λ (o : Option ℕ). cached_by o v) (holding_none ss q h)

-- How many pages the text of an image has.

pub pages_zero : (k : ℕ) (ns : List Named) → 1 ≤ k → pages_in k 0 (map (λ (n : Named). n.facts) ns) ≡ 0
pages_zero k [] l = refl
pages_zero k (n ∷ ns) l = pages_miss k 0 n.facts (map (λ (n : Named). n.facts) ns) (λ e. absurd (omega arith)) ∙ pages_zero (k + 1) ns (omega arith)

pub pages_item : (k i : ℕ) (ns : List Named) (n : Named) → slice_get ns i ≡ Some n
    → pages_in k (k + i) (map (λ (n : Named). n.facts) ns) ≡ text_pages_of n.facts
pages_item k i [] n e = absurd cc
pages_item k zero (m ∷ ms) n e = let same : m ≡ n = cc in pages_hit k (k + 0) m.facts (map (λ (n : Named). n.facts) ms) (omega arith) ∙ ap (λ (x : Named). text_pages_of x.facts) same
pages_item k (suc i) (m ∷ ms) n e =
    pages_miss k (k + suc i) m.facts (map (λ (n : Named). n.facts) ms) (λ h. absurd (omega arith))
    ∙ ap (λ (j : ℕ). pages_in (k + 1) j (map (λ (n : Named). n.facts) ms)) (omega arith) ∙ pages_item (k + 1) i ms n e

pub pages_past : (k i : ℕ) (ns : List Named) → slice_get ns i ≡ None → pages_in k (k + i) (map (λ (n : Named). n.facts) ns) ≡ 0
pages_past k i [] e = refl
pages_past k zero (m ∷ ms) e = absurd cc
pages_past k (suc i) (m ∷ ms) e =
    pages_miss k (k + suc i) m.facts (map (λ (n : Named). n.facts) ms) (λ h. absurd (omega arith))
    ∙ ap (λ (j : ℕ). pages_in (k + 1) j (map (λ (n : Named). n.facts) ms)) (omega arith) ∙ pages_past (k + 1) i ms e

pub sound_item : (ns : List Named) (i : ℕ) (n : Named) → AreSound (map (λ (n : Named). n.facts) ns) → slice_get ns i ≡ Some n → IsSoundImage n.facts
sound_item [] i n s e = absurd cc
sound_item (m ∷ ms) zero n s e = let same : m ≡ n = cc in subst (λ (x : Named). IsSoundImage x.facts) same s.0
sound_item (m ∷ ms) (suc i) n s e = sound_item ms i n s.1 e

pub got : (ns : List Named) (i : ℕ) (d : Named) → i < length ns → slice_get ns i ≡ Some (get_or ns i d)
got [] i d l = absurd (omega arith)
got (n ∷ ns) zero d l = refl
got (n ∷ ns) (suc i) d l = got ns i d (omega arith)

pub got_none : (ns : List Named) (i : ℕ) → length ns ≤ i → slice_get ns i ≡ None
got_none [] i l = refl
got_none (n ∷ ns) zero l = absurd (omega arith)
got_none (n ∷ ns) (suc i) l = got_none ns i (omega arith)

-- A place that is found, or none.

pub tells_none : (t : Lists) (q : Page) (o : Option Place) → TellsState t q o → o ≡ None → IsThere (placement_of t) q → ⊥
tells_none t q o h e there = none_there (subst (λ (p : Option Place). IsSome p) e (h.found there))

pub tells_some : (t : Lists) (q : Page) (o : Option Place) (x : Place) → TellsState t q o → o ≡ Some x → IsThere (placement_of t) q
tells_some t q o x h e = h.there (subst (λ (p : Option Place). IsSome p) (sym e) refl)

pub none_some : (o : Option PageState) → o ≡ None → IsSome o → ⊥
none_some None e h = cc
none_some (Some s) e h = cc

-- What has to be filled with zeros.

blank_filled : (s : PageState) → is_blank s OfImage ≡ false
blank_filled Unfilled = refl
blank_filled _ = refl

blank_idle : (f : ℕ) (away changed : Bool) → is_blank (idle_state f away changed) Zeros ≡ false
blank_idle f false changed = refl
blank_idle f true true = refl
blank_idle f true false = refl

blank_shown : (slots : List Token) (x : Place) → is_blank (state_shown slots x) (filling_shown x) ≡ is_zero_place (Some x)
blank_shown slots (places.Frame f false changed) = blank_idle f (is_away (slot_at slots f)) changed
blank_shown slots _ = refl

blank_entry : (slots : List Token) (o : Option Place) → IsSome o
    → is_blank (Slot.state (slot_or (slot_shown slots) o)) (Slot.filling (slot_or (slot_shown slots) o)) ≡ is_zero_place o
blank_entry slots None e = absurd cc
blank_entry slots (Some x) e = blank_shown slots x

pub blank_is : (t : Lists) (q : Page) → Known t → IsThere (placement_of t) q
    → is_blank (state_of (placement_of t) q) (filling_of (placement_of t) q) ≡ names_zeros q (entry_in t.spaces q)
blank_is t (Data n v) k there =
    ap (λ (s : Slot). is_blank s.state s.filling) (data_shown t.slots t.spaces n v k.differ)
    ∙ blank_entry t.slots (entry_in t.spaces (Data n v)) (data_there t.slots t.spaces n v there)
blank_is t (Stack n v) k there =
    ap (λ (s : Slot). is_blank s.state s.filling) (stack_shown t.slots t.spaces n v k.differ)
    ∙ blank_entry t.slots (entry_in t.spaces (Stack n v)) (stack_there t.slots t.spaces n v there)
blank_is t (Text image v) k there = blank_filled (state_of (placement_of t) (Text image v))
