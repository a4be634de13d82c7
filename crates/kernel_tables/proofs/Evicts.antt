-- The first free frame is taken from the page that it held.
use Rattle.std.proofs.Common.{◌≡◌, ◌≢◌, inl, inr, ℕ, zero, suc, ◌+◌, ◌-◌, ◌<◌, Bool, true, false, List, [], ◌∷◌, length, map, set, Option, Some, None, IsSome, refl, sym, ap, ◌∙◌, subst, arith}
use Rattle.std.specs.List.{range_with_len}
use Rattle.std.proofs.lemmas.Bool.{cases_eq}
use Rattle.std.proofs.lemmas.List.{length-set, get_or-set_same, get_or-set_other}
use Rattle.vm_facts.specs.declared.page.Page.{Page}
use Rattle.vm_facts.specs.declared.page.Page.TheVariants.{Data, Stack, Text}
use Rattle.vm_facts.specs.declared.page.PageState.TheVariants.{Unfilled, Invalid, OnSwap}
use Rattle.vax_pte.specs.declared.Place.{Place}
use Rattle.vax_pte.specs.declared.Place.TheVariants as places
use Rattle.frame_state.specs.Frame.{Frame}
use Rattle.core_map.specs.declared.slot.Slot.{Slot as Token}
use Rattle.core_map.specs.declared.slot.Slot.TheVariants as tokens
use Rattle.core_map.specs.Slots.{slot_at, slot_page as token_page}
use Rattle.space_map.specs.Space.{Places}
use Rattle.text_table.specs.Texts.{is_saved, text_numbered}
use Rattle.page_model.specs.Frames.{set_frame}
use Rattle.vm_facts.specs.Lists.{times}
use Rattle.page_model.specs.Pages.{Slot, Zeros, no_slot, frame_of, left_state, filling_behind}
use Rattle.page_model.specs.Placement.{slot_of, state_of, mark_of, page_of, IsThere, parts_of, flying, put, sharers}
use Rattle.page_model.specs.Moves.{evict_at, evict}
use Rattle.page_model.specs.Ownership.{OwnsFrames, TextAside, IsListed, seated}
use Rattle.flat_state.specs.Numbers.{AllDistinct}
use Rattle.vm_facts.proofs.Lists.{times_head}
use Rattle.std.proofs.lemmas.Option.{same_Some}
use Rattle.kernel_laws.proofs.PageLawsMovesSteps.{page_in}
use Rattle.kernel_tables.specs.Shown.{slot_shown, text_shown, entry_in, placed}
use Rattle.kernel_tables.specs.Found.{cached_by, frame_holding}
use Rattle.kernel_tables.specs.View.{Lists, Flown, flown_number, pages_in, text_place_by, text_place, text_slot, flown_at, page_by, page_held, placement_of}
use Rattle.kernel_tables.specs.Known.{Known}
use Rattle.kernel_tables.specs.Rising.{sids_of}
use Rattle.kernel_tables.specs.Steps.{left_text, left_place, taken_frame}
use Rattle.kernel_tables.proofs.Entries.{entry_same, entry_other, entry_none, placed_heads}
use Rattle.kernel_tables.proofs.Shows.{slot_or, data_shown, stack_shown, Moved, Here, SameLists, segments_are, segments_stay, frames_set, text_at, text_within, head_sids}
use Rattle.kernel_tables.proofs.Finds.{holding_set, holding_none}
use Rattle.kernel_tables.proofs.Held.{held_at, above_zero, below_length, not_flown, placement_ext}

-- The head of the free list.
pub record Head (t : Lists) (f : ℕ) (token : Frame) (page : Option Page) (rest : List ℕ) : Type 0 where
  pub free : t.free ≡ f ∷ rest
  pub was : slot_at t.slots f ≡ tokens.Free token page

not_away : (t : Lists) (f : ℕ) (token : Frame) (page : Option Page) → slot_at t.slots f ≡ tokens.Free token page → slot_at t.slots f ≢ tokens.Away
not_away t f token page e n = absurd (let k = sym e ∙ n in cc)

pub head_above : (t : Lists) (f : ℕ) (token : Frame) (page : Option Page) → Known t → slot_at t.slots f ≡ tokens.Free token page → 0 < f
head_above t f token page k e = above_zero t.free t.slots f k.core (not_away t f token page e)

-- a frame that holds a page
pub held_above : (t : Lists) (f : ℕ) (q : Page) → Known t → token_page (slot_at t.slots f) ≡ Some q → 0 < f
held_above t f q k e = above_zero t.free t.slots f k.core (λ n. absurd (let z = sym (ap token_page n) ∙ e in cc))

module _ (t : Lists) (f : ℕ) (token : Frame) (page : Option Page) where
  pub head_below : slot_at t.slots f ≡ tokens.Free token page → f < length t.slots
  head_below e = below_length t.slots f (not_away t f token page e)

  pub head_page : Known t → slot_at t.slots f ≡ tokens.Free token page → page_of (placement_of t) f ≡ page
  head_page k e = held_at t f (head_above t f token page k e) (head_below e) ∙ ap (λ (x : Token). page_by x (flown_at t.flown f)) e

  pub head_listed : (rest : List ℕ) → Head t f token page rest → 0 < times f t.free
  head_listed rest h = subst (λ (fs : List ℕ). 0 < times f fs) (sym h.free) (let k = times_head f rest in omega arith)

  -- a free frame is in no transfer
  pub head_grounded : (rest : List ℕ) → Known t → Head t f token page rest → flown_at t.flown f ≡ None
  head_grounded rest k h =
      let l = head_listed rest h in
      let o : times f (placement_of t).free + times f (flying (parts_of (placement_of t).transfers)) + seated (placement_of t) f ≡ 1 = k.owns.once f (k.owns.frames f l) in
      not_flown t.flown f (sym (ap (times f) k.numbers) ∙ omega arith)

-- a page that is there has an entry
entry_of : (slots : List Token) (o : Option Place) (f : ℕ) → (slot_or (slot_shown slots) o).state ≡ Invalid f → (x : Place) × (o ≡ Some x)
entry_of slots None f e = absurd cc
entry_of slots (Some x) f e = (x, refl)

-- The frame's page, where it has one.
moved_some : (t : Lists) (f : ℕ) (token : Frame) (e : Page) (rest : List ℕ) → Known t → Head t f token (Some e) rest
    → Moved t (taken_frame t f (Some e) rest) (λ w. w ≢ e) f
moved_some t f token e rest k h = record {
  differ = k.differ;
  slots = λ g n. get_or-set_other t.slots f g tokens.Away tokens.Away n;
  heads = placed_heads t.spaces e (left_place t.texts e);
  entries = λ w n. entry_other t.spaces e w (left_place t.texts e) n;
  apart = λ w n m. n (same_Some w e (sym (k.owns.names w f m) ∙ head_page t f token (Some e) k h.was));
  cached = λ i v n. holding_set t.slots f tokens.Away (Text i v) (λ m. n (same_Some (Text i v) e (sym m ∙ ap token_page h.was))) (λ m. absurd cc);
  saved = λ i v n l. refl;
  facts = refl;
}

moved_none : (t : Lists) (f : ℕ) (token : Frame) (rest : List ℕ) → Known t → Head t f token None rest → Moved t (taken_frame t f None rest) (λ w. Unit {0}) f
moved_none t f token rest k h = record {
  differ = k.differ;
  slots = λ g n. get_or-set_other t.slots f g tokens.Away tokens.Away n;
  heads = refl;
  entries = λ w n. refl;
  apart = λ w n m. absurd (let z = sym (head_page t f token None k h.was) ∙ k.owns.names w f m in cc);
  cached = λ i v n. holding_set t.slots f tokens.Away (Text i v) (λ m. absurd (let z = sym (ap token_page h.was) ∙ m in cc)) (λ m. absurd cc);
  saved = λ i v n l. refl;
  facts = refl;
}

-- what is left of it
here_some : (t : Lists) (f : ℕ) (token : Frame) (e : Page) (rest : List ℕ) → Known t → Head t f token (Some e) rest
    → Here t (taken_frame t f (Some e) rest) e (left_state e (mark_of (placement_of t) e)) (mark_of (placement_of t) e)
here_some t f token e rest k h =
    let page : page_of (placement_of t) f ≡ Some e = head_page t f token (Some e) k h.was in
    let named : IsListed (placement_of t) f e = k.owns.listed f e (head_listed t f token (Some e) rest h) page in
    let there : IsThere (placement_of t) e = page_in (placement_of t) e f (ap frame_of named.state) in
    record { there = there; slot = left e named.state named.clean there (ap token_page h.was) }
  where
    swapped : (i v : ℕ) (c : Bool)
        → text_shown (set t.slots f tokens.Away) c (left_text c v) ≡ record { state = left_state (Text i v) c; mark = c; filling = filling_behind (left_state (Text i v) c) Zeros }
    swapped i v true = refl
    swapped i v false = refl

    unshared : (n : ℕ) → (0 < n → ⊥) → n ≡ 0
    unshared zero z = refl
    unshared (suc n) z = absurd (z (omega arith))

    left_of : (i v : ℕ) (b : Bool) → is_saved (text_numbered t.texts i) v ≡ b → (o : Option Place) → entry_in t.spaces (Text i v) ≡ o
        → (sharers (placement_of t) i ≡ 0 → is_saved (text_numbered t.texts i) v ≡ false) → (0 < sharers (placement_of t) i → IsSome (entry_in t.spaces (Text i v)))
        → token_page (slot_at t.slots f) ≡ Some (Text i v)
        → text_shown (set t.slots f tokens.Away) (is_saved (text_numbered t.texts i) v)
        (text_place (map (placed (Text i v) (left_text (is_saved (text_numbered t.texts i) v) v)) t.spaces) (set t.slots f tokens.Away) (Text i v) v)
        ≡ record {
          state = left_state (Text i v) (is_saved (text_numbered t.texts i) v);
          mark = is_saved (text_numbered t.texts i) v;
          filling = filling_behind (left_state (Text i v) (is_saved (text_numbered t.texts i) v)) Zeros;
        }
    left_of i v b eb (Some x) eo z sh pg =
        ap (λ (y : Option Place). text_shown (set t.slots f tokens.Away) (is_saved (text_numbered t.texts i) v) (text_place_by y (set t.slots f tokens.Away) (Text i v) v))
        (entry_same t.spaces (Text i v) (left_text (is_saved (text_numbered t.texts i) v) v) x eo)
        ∙ swapped i v (is_saved (text_numbered t.texts i) v)
    left_of i v b eb None eo z sh pg =
        let none : sharers (placement_of t) i ≡ 0 = unshared (sharers (placement_of t) i) (λ l. absurd (let y = subst IsSome eo (sh l) in cc)) in
        let clean : is_saved (text_numbered t.texts i) v ≡ false = z none in
        let spaces : map (placed (Text i v) (left_text (is_saved (text_numbered t.texts i) v) v)) t.spaces ≡ t.spaces =
        entry_none t.spaces (Text i v) (left_text (is_saved (text_numbered t.texts i) v) v) eo in
        let gone : frame_holding (set t.slots f tokens.Away) (Text i v) ≡ None = holding_none (set t.slots f tokens.Away) (Text i v) (λ g. elim (cases_eq g f) [
          | inl eq ↦ λ m. absurd (let y = sym (ap (λ (n : ℕ). token_page (slot_at (set t.slots f tokens.Away) n)) eq
              ∙ ap token_page (get_or-set_same t.slots f tokens.Away tokens.Away (head_below t f token (Some e) h.was))) ∙ m in cc)
          | inr n ↦ λ m. n (sym (k.core.unique f g (Text i v) pg (sym (ap token_page (get_or-set_other t.slots f g tokens.Away tokens.Away n)) ∙ m)))
        ]) in
        ap (λ (ss : List Places). text_shown (set t.slots f tokens.Away) (is_saved (text_numbered t.texts i) v) (text_place ss (set t.slots f tokens.Away) (Text i v) v)) spaces
        ∙ ap (λ (y : Option Place). text_shown (set t.slots f tokens.Away) (is_saved (text_numbered t.texts i) v) (text_place_by y (set t.slots f tokens.Away) (Text i v) v)) eo
        ∙ ap (λ (y : Option ℕ). text_shown (set t.slots f tokens.Away) (is_saved (text_numbered t.texts i) v) (cached_by y v)) gone
        ∙ ap (λ (c : Bool). let y : Slot = record { state = Unfilled; mark = c; filling = Zeros } in y) clean
        ∙ sym (ap (λ (c : Bool). let y : Slot = record { state = left_state (Text i v) c; mark = c; filling = filling_behind (left_state (Text i v) c) Zeros } in y) clean)

    left : (q : Page) → state_of (placement_of t) q ≡ Invalid f → Rattle.page_model.specs.Ownership.is_marked_dirty q (mark_of (placement_of t) q) ≡ false → IsThere (placement_of t) q
        → token_page (slot_at t.slots f) ≡ Some q
        → slot_of (placement_of (taken_frame t f (Some q) rest)) q ≡ record {
          state = left_state q (mark_of (placement_of t) q);
          mark = mark_of (placement_of t) q;
          filling = filling_behind (left_state q (mark_of (placement_of t) q)) (slot_of (placement_of t) q).filling;
        }
    left (Data n v) s c th pg =
        let u : Lists = taken_frame t f (Some (Data n v)) rest in
        let was = data_shown t.slots t.spaces n v k.differ in
        let x = entry_of t.slots (entry_in t.spaces (Data n v)) f (sym (ap (λ (y : Slot). y.state) was) ∙ s) in
        let differ : AllDistinct (sids_of u.spaces) = subst AllDistinct (sym (head_sids u.spaces t.spaces (placed_heads t.spaces (Data n v) places.Swap))) k.differ in
        data_shown u.slots u.spaces n v differ
        ∙ ap (slot_or (slot_shown u.slots)) (entry_same t.spaces (Data n v) places.Swap x.0 x.1)
        ∙ ap (λ (b : Bool). let z : Slot = record { state = OnSwap; mark = b; filling = Zeros } in z) (sym c)
    left (Stack n v) s c th pg =
        let u : Lists = taken_frame t f (Some (Stack n v)) rest in
        let was = stack_shown t.slots t.spaces n v k.differ in
        let x = entry_of t.slots (entry_in t.spaces (Stack n v)) f (sym (ap (λ (y : Slot). y.state) was) ∙ s) in
        let differ : AllDistinct (sids_of u.spaces) = subst AllDistinct (sym (head_sids u.spaces t.spaces (placed_heads t.spaces (Stack n v) places.Swap))) k.differ in
        stack_shown u.slots u.spaces n v differ
        ∙ ap (slot_or (slot_shown u.slots)) (entry_same t.spaces (Stack n v) places.Swap x.0 x.1)
        ∙ ap (λ (b : Bool). let z : Slot = record { state = OnSwap; mark = b; filling = Zeros } in z) (sym c)
    left (Text i v) s c th pg =
        let u : Lists = taken_frame t f (Some (Text i v)) rest in
        let l : v < pages_in 1 i t.facts = text_within t i v th in
        let was : slot_of (placement_of t) (Text i v) ≡ text_slot t i v = text_at t i v l in
        let mark : is_saved (text_numbered t.texts i) v ≡ mark_of (placement_of t) (Text i v) = sym (ap (λ (y : Slot). y.mark) was) in
        let filling : Zeros ≡ (slot_of (placement_of t) (Text i v)).filling = sym (ap (λ (y : Slot). y.filling) was) in
        text_at u i v l
        ∙ left_of i v (is_saved (text_numbered t.texts i) v) refl (entry_in t.spaces (Text i v)) refl
        (λ z. let a = k.aside i v z in mark ∙ a.unsaved)
        (λ z. k.tied.shared i v z l) pg
        ∙ ap (λ (b : Bool). let z : Slot = record { state = left_state (Text i v) b; mark = b; filling = filling_behind (left_state (Text i v) b) Zeros } in z) mark
        ∙ ap (λ (y : Rattle.page_model.specs.Pages.Filling). let z : Slot = record {
          state = left_state (Text i v) (mark_of (placement_of t) (Text i v));
          mark = mark_of (placement_of t) (Text i v);
          filling = filling_behind (left_state (Text i v) (mark_of (placement_of t) (Text i v))) y;
        } in z) filling

pub frames_same : {A : Type 0} (g h : ℕ → A) (ns : List ℕ) → ((k : ℕ) → h k ≡ g k) → map h ns ≡ map g ns
frames_same g h [] s = refl
frames_same g h (n ∷ ns) s = ap (λ z. z ∷ map h ns) (s n) ∙ ap (λ zs. g n ∷ zs) (frames_same g h ns s)

-- the pages of all other frames
pub other_held : (t : Lists) (f : ℕ) (x : Token) (slots : List Token) → slots ≡ set t.slots f x → (g : ℕ) → g ≢ f
    → page_by (slot_at slots g) (flown_at t.flown g) ≡ page_held t g
other_held t f x slots e g n =
    ap (λ (ss : List Token). page_by (slot_at ss g) (flown_at t.flown g)) e ∙ ap (λ (y : Token). page_by y (flown_at t.flown g)) (get_or-set_other t.slots f g x tokens.Away n)

-- Taking the head of the free list evicts its page.
pub evict_is : (t : Lists) (f : ℕ) (token : Frame) (page : Option Page) (rest : List ℕ) → Known t → Head t f token page rest
    → placement_of (taken_frame t f page rest) ≡ record (evict (placement_of t) f) { free = rest }
evict_is t f token page rest k h = by page h ∙ sym (ap (λ (o : Option Page). record (evict_at (placement_of t) f o) { free = rest }) (head_page t f token page k h.was))
  where
    count : length (set t.slots f tokens.Away) - 1 ≡ length t.slots - 1
    count = ap (λ (n : ℕ). n - 1) (length-set t.slots f tokens.Away)

    away : page_by (slot_at (set t.slots f tokens.Away) f) (flown_at t.flown f) ≡ None
    away = ap (λ (y : Token). page_by y (flown_at t.flown f)) (get_or-set_same t.slots f tokens.Away tokens.Away (head_below t f token page h.was))
        ∙ ap Rattle.kernel_tables.specs.View.page_flown (head_grounded t f token page rest k h)

    by : (o : Option Page) → Head t f token o rest → placement_of (taken_frame t f o rest) ≡ record (evict_at (placement_of t) f o) { free = rest }
    by None h0 =
        let s : SameLists (taken_frame t f None rest) (placement_of t) = segments_stay t (taken_frame t f None rest) f (moved_none t f token rest k h0) in
        let held : (g : ℕ) → page_held (taken_frame t f None rest) g ≡ page_held t g = λ g. elim (cases_eq g f) [
          | inl e ↦ subst (λ (n : ℕ). page_held (taken_frame t f None rest) n ≡ page_held t n) (sym e) (away ∙ sym (ap (λ (y : Token). page_by y (flown_at t.flown f)) h0.was))
          | inr n ↦ other_held t f tokens.Away (set t.slots f tokens.Away) refl g n
        ] in
        placement_ext (placement_of (taken_frame t f None rest)) (record (placement_of t) { free = rest }) s.spaces s.texts
        (ap (λ (n : ℕ). map (page_held (taken_frame t f None rest)) (range_with_len 1 n)) count
        ∙ frames_same (page_held t) (page_held (taken_frame t f None rest)) (range_with_len 1 (length t.slots - 1)) held)
        refl refl refl refl refl refl
    by (Some e) h0 =
        let u : Lists = taken_frame t f (Some e) rest in
        let s : SameLists u (put (placement_of t) e (left_state e (mark_of (placement_of t) e)) (mark_of (placement_of t) e)) =
        segments_are t u e f (left_state e (mark_of (placement_of t) e)) (mark_of (placement_of t) e) (moved_some t f token e rest k h0) (here_some t f token e rest k h0) in
        placement_ext (placement_of u) (record (evict_at (placement_of t) f (Some e)) { free = rest }) s.spaces s.texts
        (ap (λ (n : ℕ). map (page_held u) (range_with_len 1 n)) count
        ∙ frames_set None (page_held t) (page_held u) (length t.slots - 1) f (λ g n. other_held t f tokens.Away (set t.slots f tokens.Away) refl g n)
        ∙ ap (set_frame (placement_of t).holds f) away)
        refl refl refl refl refl refl
