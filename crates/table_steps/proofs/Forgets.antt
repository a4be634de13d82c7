-- A page of data or stack is forgotten: of the placement, that is `drop_page`.
use Rattle.std.proofs.Common.{◌≡◌, ◌≢◌, inl, inr, ℕ, suc, ◌+◌, ◌-◌, ◌<◌, ◌≤◌, Bool, true, false, List, [], ◌∷◌, ◌++◌, length, map, set, Option, Some, None, IsSome, refl, sym, ap, ◌∙◌, subst, arith}
use Rattle.std.specs.List.{range_with_len}
use Rattle.std.proofs.lemmas.Bool.{cases_eq}
use Rattle.std.proofs.lemmas.List.{length-set, get_or-set_same, get_or-set_other}
use Rattle.std.proofs.lemmas.Option.{same_Some}
use Rattle.vm_facts.specs.declared.page.Page.{Page}
use Rattle.vm_facts.specs.declared.page.Page.TheVariants.{Data, Stack, Text}
use Rattle.vm_facts.specs.declared.page.PageState.TheVariants.{Unfilled}
use Rattle.vm_facts.specs.Lists.{without}
use Rattle.vax_pte.specs.declared.Place.{Place}
use Rattle.vax_pte.specs.declared.Place.TheVariants as places
use Rattle.frame_state.specs.Frame.{Frame}
use Rattle.core_map.specs.declared.slot.Slot.{Slot as Token}
use Rattle.core_map.specs.declared.slot.Slot.TheVariants as tokens
use Rattle.core_map.specs.Slots.{slot_at, token_of, slot_page as token_page}
use Rattle.core_map.specs.Frames.{Frames, IsSoundMap}
use Rattle.space_map.specs.Space.{Places}
use Rattle.page_model.specs.Frames.{set_frame}
use Rattle.page_model.specs.Pages.{Slot, Filling, Zeros, frame_of}
use Rattle.page_model.specs.Placement.{Placement, Transfer, slot_of, state_of, IsThere, parts_of, flying, put}
use Rattle.page_model.specs.PageBytes.{IsWritable}
use Rattle.page_model.specs.Moves.{drop_at, drop_page, drop_all}
use Rattle.flat_state.specs.PageNames.{beside, pages_from}
use Rattle.page_model.specs.Conditions.{AtRest, EachPage}
use Rattle.page_model.specs.Ownership.{OwnsFrames, TextAside}
use Rattle.flat_state.specs.Numbers.{AllDistinct}
use Rattle.page_laws.proofs.Lists.Local.{none_some}
use Rattle.page_laws.proofs.Ownership.Spaces.{drop_other, drop_page_owner, drop_all_length, drop_rest}
use Rattle.page_laws.proofs.Ownership.Changes.{each_at}
use Rattle.page_laws.proofs.Blocks.Changes.{text_still, drop_all_frees, drop_all_sharers}
use Rattle.kernel_laws.proofs.Kept.Pages.{writable_shared}
use Rattle.kernel_tables.specs.declared.tables.Tables.{Tables}
use Rattle.kernel_tables.specs.Shown.{filling_shown, entry_in, placed}
use Rattle.kernel_tables.specs.TableViewShown.{is_away, idle_state, state_shown}
use Rattle.kernel_tables.specs.View.{Lists, Flown, flown_number, flown_at, page_by, bytes_by, page_held, bytes_held, placement_of, frames_of}
use Rattle.kernel_tables.specs.Known.{Known}
use Rattle.kernel_tables.specs.Tied.{Tied}
use Rattle.kernel_tables.specs.Machine.{lists_of}
use Rattle.table_steps.specs.Forgotten.{ForgotPage}
use Rattle.kernel_tables.specs.Changing.{Dropped}
use Rattle.kernel_tables.proofs.Entries.{head_of, placed_heads}
use Rattle.kernel_tables.proofs.Likes.{FitsPage, placed_alike, placed_filled}
use Rattle.kernel_tables.proofs.Shows.{Moved, SameLists, segments_are, frames_set, head_sids}
use Rattle.kernel_tables.proofs.Finds.{holding_set}
use Rattle.kernel_tables.proofs.Held.{below_length, placement_ext}
use Rattle.kernel_tables.proofs.Arrives.{page_shown, Arrives, arrives_moved, arrived}
use Rattle.kernel_tables.proofs.Evicts.{frames_same}
use Rattle.kernel_tables.proofs.Kept.{Ties, tied_still, still_there}
use Rattle.kernel_tables.proofs.Comes.{shared_entry}
use Rattle.kernel_tables.proofs.Marks.{marks_placed, alone_in, set_resident}
use Rattle.kernel_tables.proofs.Knows.{held_named, texts_here, holds_not_away}
use Rattle.table_steps.proofs.Residing.{entry_shown, seat_resides}
use Rattle.table_steps.proofs.Reclaims.{held_is}
use Rattle.kernel_tables.proofs.Stills.{images_heads}
use Rattle.kernel_tables.proofs.AddedTexts.{frame_shown}
use Rattle.table_steps.proofs.LeftPages.{pages_more}

abbrev forgotten : Lists → Page → ℕ → Frame → Lists
forgotten t q f token = record t { slots = set t.slots f (tokens.Free token None); free = f ∷ without f t.free; spaces = map (placed q places.Zero) t.spaces }

abbrev blanked : Lists → Page → Lists
blanked t q = record t { spaces = map (placed q places.Zero) t.spaces }

-- What is known of the page.

zero_fits : (q : Page) → FitsPage q places.Zero
zero_fits q w e = absurd cc

zero_shown : (t : Lists) (q : Page) → IsWritable q → page_shown t q places.Zero ≡ record { state = Unfilled; mark = false; filling = Zeros }
zero_shown t (Text i v) w = absurd w
zero_shown t _ w = refl

shown_state : (t : Lists) (q : Page) (x : Place) → IsWritable q → (page_shown t q x).state ≡ state_shown t.slots x
shown_state t (Text i v) x w = absurd w
shown_state t _ x w = refl

shown_filling : (t : Lists) (q : Page) (x : Place) → IsWritable q → (page_shown t q x).filling ≡ filling_shown x
shown_filling t (Text i v) x w = absurd w
shown_filling t _ x w = refl

-- what is asked of a page that is forgotten
pub record MayForgetPage (t : Lists) (q : Page) : Type 0 where
  pub known : Known t
  pub writable : IsWritable q
  pub there : IsThere (placement_of t) q
  pub rests : AtRest (state_of (placement_of t) q)

has_entry : (t : Lists) (q : Page) → MayForgetPage t q → IsSome (entry_in t.spaces q)
has_entry t q m = shared_entry t q m.known.tied (writable_shared (placement_of t) q m.writable) m.there

page_is : (t : Lists) (q : Page) (x : Place) → MayForgetPage t q → entry_in t.spaces q ≡ Some x → slot_of (placement_of t) q ≡ page_shown t q x
page_is t q x m e = entry_shown t q x m.known.differ m.there e

-- no page is in frame 0
no_frame_zero : (p : Placement) (w : Page) → OwnsFrames p → frame_of (state_of p w) ≢ Some 0
no_frame_zero p w o e = none_some w (o.names w 0 e)

-- A page in a frame.

module _ (t : Lists) (q : Page) (f : ℕ) (valid changed : Bool) where
  in_frame : MayForgetPage t q → entry_in t.spaces q ≡ Some (places.Frame f valid changed) → frame_of (state_of (placement_of t) q) ≡ Some f
  in_frame m e =
      let x : Place = places.Frame f valid changed in
      ap (λ (s : Slot). frame_of s.state) (page_is t q x m e) ∙ ap frame_of (shown_state t q x m.writable) ∙ frame_shown t.slots f valid changed

  -- the frame has it
  held_here : MayForgetPage t q → entry_in t.spaces q ≡ Some (places.Frame f valid changed) → token_page (slot_at t.slots f) ≡ Some q
  held_here m e =
      go valid (ap (λ (s : Slot). s.state) (page_is t q (places.Frame f valid changed) m e) ∙ shown_state t q (places.Frame f valid changed) m.writable)
    where
      idle : (a c : Bool) → is_away (slot_at t.slots f) ≡ a → state_of (placement_of t) q ≡ idle_state f a c → token_page (slot_at t.slots f) ≡ Some q
      idle false c a h = held_is t q f m.known h a
      idle true true a h = absurd (subst AtRest h m.rests)
      idle true false a h = absurd (subst AtRest h m.rests)

      go : (v : Bool) → state_of (placement_of t) q ≡ state_shown t.slots (places.Frame f v changed) → token_page (slot_at t.slots f) ≡ Some q
      go true h = let r = seat_resides t q f m.known (record { state = inl h }) in ap token_page r.slot
      go false h = idle (is_away (slot_at t.slots f)) changed refl h

  pub entry_held : MayForgetPage t q → entry_in t.spaces q ≡ Some (places.Frame f valid changed) → slot_at t.slots f ≢ tokens.Away
  entry_held m e = holds_not_away (slot_at t.slots f) q (held_here m e)

token_bytes : (s : Token) (q : Page) (o : Option Flown) → token_page s ≡ Some q → (token_of s).bytes ≡ bytes_by s o
token_bytes tokens.Away q o e = none_some q e
token_bytes _ q o e = refl

forget_arrives : (t : Lists) (q : Page) (f : ℕ) (token : Frame) → MayForgetPage t q → frame_of (state_of (placement_of t) q) ≡ Some f
    → token_page (slot_at t.slots f) ≡ Some q
    → Arrives t (forgotten t q f token) q f places.Zero
forget_arrives t q f token m named held = record {
  differ = m.known.differ;
  apart = λ w x e. x (same_Some w q (sym (m.known.owns.names w f e) ∙ m.known.owns.names q f named));
  slots = λ g d. get_or-set_other t.slots f g (tokens.Free token None) tokens.Away d;
  cached = λ i v d. holding_set t.slots f (tokens.Free token None) (Text i v) (λ e. d (same_Some (Text i v) q (sym e ∙ held))) (λ e. none_some (Text i v) e);
  spaces = refl;
  saved = λ i v d l. refl;
  facts = refl;
  there = m.there;
  entry = has_entry t q m;
}

-- a page that was in a frame, or on swap, is filled with zeros
no_filling : (t : Lists) (q : Page) (x : Place) → MayForgetPage t q → entry_in t.spaces q ≡ Some x → filling_shown x ≡ Zeros
    → page_shown t q places.Zero ≡ record { state = Unfilled; mark = false; filling = (slot_of (placement_of t) q).filling }
no_filling t q x m e z =
    zero_shown t q m.writable
    ∙ ap (λ (y : Filling). let w : Slot = record { state = Unfilled; mark = false; filling = y } in w) (sym (ap (λ (s : Slot). s.filling) (page_is t q x m e) ∙ shown_filling t q x m.writable ∙ z))

zero_anywhere : (t n : Lists) (q : Page) → IsWritable q → page_shown n q places.Zero ≡ page_shown t q places.Zero
zero_anywhere t n q w = zero_shown n q w ∙ sym (zero_shown t q w)

forget_is : (t : Lists) (q : Page) (f : ℕ) (valid changed : Bool) (token : Frame) → MayForgetPage t q
    → entry_in t.spaces q ≡ Some (places.Frame f valid changed)
    → placement_of (forgotten t q f token) ≡ drop_page (placement_of t) q
forget_is t q f valid changed token m e =
    let p : Placement = placement_of t in
    let n : Lists = forgotten t q f token in
    let named = in_frame t q f valid changed m e in
    let held = held_here t q f valid changed m e in
    let below = below_length t.slots f (holds_not_away (slot_at t.slots f) q held) in
    let a = forget_arrives t q f token m named held in
    let b : SameLists n (put p q Unfilled false) = segments_are t n q f Unfilled false (arrives_moved t n q f places.Zero a)
    (record { there = m.there; slot = arrived t n q f places.Zero a ∙ zero_anywhere t n q m.writable ∙ no_filling t q (places.Frame f valid changed) m e refl }) in
    placement_ext (placement_of n) (drop_at p q (Some f)) b.spaces b.texts
    (ap (λ (k : ℕ). map (page_held n) (range_with_len 1 (k - 1))) (length-set t.slots f (tokens.Free token None))
    ∙ frames_set None (page_held t) (page_held n) (length t.slots - 1) f
    (λ g d. ap (λ (y : Token). page_by y (flown_at t.flown g)) (get_or-set_other t.slots f g (tokens.Free token None) tokens.Away d))
    ∙ ap (set_frame p.holds f) (ap (λ (y : Token). page_by y (flown_at t.flown f)) (get_or-set_same t.slots f (tokens.Free token None) tokens.Away below)))
    refl refl refl refl refl refl
    ∙ sym (ap (drop_at p q) named)

forget_frames : (t : Lists) (q : Page) (f : ℕ) (valid changed : Bool) → MayForgetPage t q → entry_in t.spaces q ≡ Some (places.Frame f valid changed)
    → frames_of (forgotten t q f (token_of (slot_at t.slots f))) ≡ frames_of t
forget_frames t q f valid changed m e =
    let x : Token = tokens.Free (token_of (slot_at t.slots f)) None in
    let n : Lists = forgotten t q f (token_of (slot_at t.slots f)) in
    let held = held_here t q f valid changed m e in
    let below = below_length t.slots f (holds_not_away (slot_at t.slots f) q held) in
    ap (λ (k : ℕ). map (bytes_held n) (range_with_len 1 (k - 1))) (length-set t.slots f x)
    ∙ frames_same (bytes_held t) (bytes_held n) (range_with_len 1 (length t.slots - 1)) (λ g. elim (cases_eq g f) [
      | inl h ↦ subst (λ (k : ℕ). bytes_held n k ≡ bytes_held t k) (sym h)
          (ap (λ (y : Token). bytes_by y (flown_at t.flown f)) (get_or-set_same t.slots f x tokens.Away below) ∙ token_bytes (slot_at t.slots f) q (flown_at t.flown f) held)
      | inr d ↦ ap (λ (y : Token). bytes_by y (flown_at t.flown g)) (get_or-set_other t.slots f g x tokens.Away d)
    ])

forget_ties : (t : Lists) (q : Page) (f : ℕ) (valid changed : Bool) (token : Frame) → MayForgetPage t q
    → entry_in t.spaces q ≡ Some (places.Frame f valid changed)
    → Ties t (forgotten t q f token)
forget_ties t q f valid changed token m e =
    let x : Token = tokens.Free token None in
    record {
      slots = length-set t.slots f x;
      facts = refl;
      heads = placed_heads t.spaces q places.Zero;
      entries = λ r h. still_there t.spaces q r places.Zero h;
      alike = λ h. placed_alike t.spaces q places.Zero h;
      filled = λ h. placed_filled t.facts t.spaces q places.Zero (zero_fits q) h;
      counts = λ i. refl;
      marked = λ k. marks_placed t (forgotten t q f token) q f places.Zero (texts_here t m.known) (λ g d. get_or-set_other t.slots f g x tokens.Away d) refl (λ i v d l. refl)
          (alone_in t q f m.known (in_frame t q f valid changed m e)) (λ a r mark h. absurd (let y = set_resident t.slots f x a r mark h in cc)) k;
      whole = λ h. h;
      once = λ h. h;
    }

-- A page on swap.

blank_is : (t : Lists) (q : Page) → MayForgetPage t q → entry_in t.spaces q ≡ Some places.Swap → placement_of (blanked t q) ≡ drop_page (placement_of t) q
blank_is t q m e =
    let p : Placement = placement_of t in
    let n : Lists = blanked t q in
    let named : frame_of (state_of p q) ≡ None = ap (λ (s : Slot). frame_of s.state) (page_is t q places.Swap m e) ∙ ap frame_of (shown_state t q places.Swap m.writable) in
    let a : Arrives t n q 0 places.Zero = record {
      differ = m.known.differ;
      apart = λ w x h. no_frame_zero p w m.known.owns h;
      slots = λ g d. refl;
      cached = λ i v d. refl;
      spaces = refl;
      saved = λ i v d l. refl;
      facts = refl;
      there = m.there;
      entry = has_entry t q m;
    } in
    let b : SameLists n (put p q Unfilled false) = segments_are t n q 0 Unfilled false (arrives_moved t n q 0 places.Zero a)
    (record { there = m.there; slot = arrived t n q 0 places.Zero a ∙ zero_anywhere t n q m.writable ∙ no_filling t q places.Swap m e refl }) in
    placement_ext (placement_of n) (drop_at p q None) b.spaces b.texts refl refl refl refl refl refl refl
    ∙ sym (ap (drop_at p q) named)

blank_ties : (t : Lists) (q : Page) → MayForgetPage t q → entry_in t.spaces q ≡ Some places.Swap → Ties t (blanked t q)
blank_ties t q m e =
    let named : frame_of (state_of (placement_of t) q) ≡ None = ap (λ (s : Slot). frame_of s.state) (page_is t q places.Swap m e) ∙ ap frame_of (shown_state t q places.Swap m.writable) in
    record {
      slots = refl;
      facts = refl;
      heads = placed_heads t.spaces q places.Zero;
      entries = λ r h. still_there t.spaces q r places.Zero h;
      alike = λ h. placed_alike t.spaces q places.Zero h;
      filled = λ h. placed_filled t.facts t.spaces q places.Zero (zero_fits q) h;
      counts = λ i. refl;
      marked = λ k. marks_placed t (blanked t q) q 0 places.Zero (texts_here t m.known) (λ g d. refl) refl (λ i v d l. refl)
          (λ g h. none_some g (sym named ∙ held_named t g q m.known h)) (λ a r mark h. absurd (let y = sym m.known.core.none ∙ h in cc)) k;
      whole = λ h. h;
      once = λ h. h;
    }

-- A page that wasn't filled yet stays so.

abbrev pub IsUnfilledEntry : Place → Type 0
IsUnfilledEntry places.Swap = ⊥
IsUnfilledEntry (places.Frame f valid changed) = ⊥
IsUnfilledEntry _ = Unit {0}

unfilled_shown : (t : Lists) (q : Page) (x : Place) → IsWritable q → IsUnfilledEntry x
    → page_shown t q x ≡ record { state = Unfilled; mark = false; filling = (page_shown t q x).filling }
unfilled_shown t (Data n v) places.Zero w h = refl
unfilled_shown t (Data n v) (places.Image k) w h = refl
unfilled_shown t (Data n v) places.Swap w h = absurd h
unfilled_shown t (Data n v) (places.Frame f valid changed) w h = absurd h
unfilled_shown t (Stack n v) places.Zero w h = refl
unfilled_shown t (Stack n v) (places.Image k) w h = refl
unfilled_shown t (Stack n v) places.Swap w h = absurd h
unfilled_shown t (Stack n v) (places.Frame f valid changed) w h = absurd h
unfilled_shown t (Text i v) x w h = absurd w

unfilled_is : (t : Lists) (q : Page) (x : Place) → MayForgetPage t q → entry_in t.spaces q ≡ Some x → IsUnfilledEntry x
    → placement_of t ≡ drop_page (placement_of t) q
unfilled_is t q x m e h =
    let p : Placement = placement_of t in
    let shown = page_is t q x m e in
    let blank : slot_of p q ≡ record { state = Unfilled; mark = false; filling = (slot_of p q).filling } =
    shown ∙ unfilled_shown t q x m.writable h ∙ ap (λ (s : Slot). let w : Slot = record { state = Unfilled; mark = false; filling = s.filling } in w) (sym shown) in
    let moved : Moved t t (λ w. w ≢ q) 0 = record {
      differ = m.known.differ;
      slots = λ g d. refl;
      heads = refl;
      entries = λ w d. refl;
      apart = λ w d k. no_frame_zero p w m.known.owns k;
      cached = λ i v d. refl;
      saved = λ i v d l. refl;
      facts = refl;
    } in
    let b : SameLists t (put p q Unfilled false) = segments_are t t q 0 Unfilled false moved (record { there = m.there; slot = blank }) in
    placement_ext p (drop_at p q None) b.spaces b.texts refl refl refl refl refl refl refl
    ∙ sym (ap (drop_at p q) (ap (λ (s : Slot). frame_of s.state) blank))

-- What is known of the tables then.

forgets : (t u : Tables) (q : Page) (n : Lists) → MayForgetPage (lists_of t) q → lists_of u ≡ n → placement_of n ≡ drop_page (placement_of (lists_of t)) q
    → frames_of n ≡ frames_of (lists_of t) → Ties (lists_of t) n
    → IsSoundMap u.core.free u.core.slots → n.transfers ≡ (lists_of t).transfers → n.flown ≡ (lists_of t).flown
    → u ≡ record t { core = u.core; spaces = u.spaces } → Dropped t u (q ∷ [])
forgets t u q n m is place frames ties core ts fs rest =
    let was : Lists = lists_of t in
    let p : Placement = placement_of was in
    let heads : map head_of u.spaces ≡ map head_of t.spaces = ap (λ (l : Lists). map head_of l.spaces) is ∙ ties.heads in
    let placed_it : placement_of (lists_of u) ≡ drop_page p q = ap placement_of is ∙ place in
    record {
      shows = record {
        place = placed_it;
        frames = ap frames_of is ∙ frames;
        known = record {
          core = core;
          owns = subst OwnsFrames (sym placed_it) (drop_page_owner p q m.known.owns m.rests);
          aside = subst TextAside (sym placed_it) (text_still p (drop_page p q) (λ i v. drop_other p q (Text i v) (no_text i v q m.writable))
              (drop_all_frees (q ∷ []) p) (λ i z. sym (drop_all_sharers (q ∷ []) p i) ∙ z) m.known.aside);
          tied = subst Tied (sym is) (tied_still was n ties m.known.tied);
          differ = subst AllDistinct (sym (head_sids u.spaces t.spaces heads)) m.known.differ;
          numbers = subst (λ (l : Lists). flying (parts_of l.transfers) ≡ map flown_number l.flown) (sym is)
              (ap (λ (x : List Transfer). flying (parts_of x)) ts ∙ m.known.numbers ∙ ap (map flown_number) (sym fs));
        };
      };
      images = images_heads t u heads;
      rest = rest;
    }
  where
    no_text : (i v : ℕ) (r : Page) → IsWritable r → Text i v ≢ r
    no_text i v (Data n k) w e = absurd cc
    no_text i v (Stack n k) w e = absurd cc
    no_text i v (Text n k) w e = w

forgotten_lists : (t u : Tables) (q : Page) (f : ℕ) → ForgotPage t u q f → lists_of u ≡ forgotten (lists_of t) q f (token_of (slot_at t.core.slots f))
forgotten_lists t u q f d =
    let token : Frame = token_of (slot_at t.core.slots f) in
    ap lists_of d.rest
    ∙ ap (λ (ss : List Token). record (lists_of t) { slots = ss; free = u.core.free; spaces = u.spaces }) d.slots
    ∙ ap (λ (fs : List ℕ). record (lists_of t) { slots = set t.core.slots f (tokens.Free token None); free = fs; spaces = u.spaces }) d.free
    ∙ ap (λ (ss : List Places). record (forgotten (lists_of t) q f token) { spaces = ss }) d.spaces

pub forgets_framed : (t u : Tables) (q : Page) (f : ℕ) (valid changed : Bool) → MayForgetPage (lists_of t) q
    → entry_in t.spaces q ≡ Some (places.Frame f valid changed)
    → ForgotPage t u q f → Dropped t u (q ∷ [])
forgets_framed t u q f valid changed m e d =
    let l : Lists = lists_of t in
    let token : Frame = token_of (slot_at t.core.slots f) in
    forgets t u q (forgotten l q f token) m (forgotten_lists t u q f d) (forget_is l q f valid changed token m e) (forget_frames l q f valid changed m e)
    (forget_ties l q f valid changed token m e) d.sound refl refl d.rest

pub forgets_swapped : (t u : Tables) (q : Page) → MayForgetPage (lists_of t) q → entry_in t.spaces q ≡ Some places.Swap
    → u ≡ record t { spaces = map (placed q places.Zero) t.spaces } → Dropped t u (q ∷ [])
forgets_swapped t u q m e is =
    let l : Lists = lists_of t in
    let core = ap (λ (x : Tables). x.core) is in
    forgets t u q (blanked l q) m (ap lists_of is) (blank_is l q m e) refl (blank_ties l q m e) (subst (λ (c : Frames). IsSoundMap c.free c.slots) (sym core) m.known.core) refl refl
    (is ∙ ap (λ (c : Frames). record t { core = c; spaces = map (placed q places.Zero) t.spaces }) (sym core)
    ∙ ap (λ (ss : List Places). record t { core = u.core; spaces = ss }) (sym (ap (λ (x : Tables). x.spaces) is)))

pub no_entry : (t : Tables) (q : Page) → MayForgetPage (lists_of t) q → entry_in t.spaces q ≡ None → Dropped t t (q ∷ [])
no_entry t q m e = absurd (let h = subst IsSome e (has_entry (lists_of t) q m) in cc)

pub forgets_nothing : (t : Tables) (q : Page) (x : Place) → MayForgetPage (lists_of t) q → entry_in t.spaces q ≡ Some x → IsUnfilledEntry x
    → Dropped t t (q ∷ [])
forgets_nothing t q x m e h =
    let l : Lists = lists_of t in
    forgets t t q l m refl (unfilled_is l q x m e h) refl (record {
      slots = refl;
      facts = refl;
      heads = refl;
      entries = λ r k. k;
      alike = λ k. k;
      filled = λ k. k;
      counts = λ i. refl;
      marked = λ k. k;
      whole = λ k. k;
      once = λ k. k;
    }) m.known.core refl refl refl

-- Several pages, one after another.

rest_forgets : (t u w : Tables) → u ≡ record t { core = u.core; spaces = u.spaces } → w ≡ record u { core = w.core; spaces = w.spaces }
    → w ≡ record t { core = w.core; spaces = w.spaces }
rest_forgets t u w a b = b ∙ ap (λ (z : Tables). record z { core = w.core; spaces = w.spaces }) a

drop_all-append : (p : Placement) (qs rs : List Page) → drop_all p (qs ++ rs) ≡ drop_all (drop_all p qs) rs
drop_all-append p [] rs = refl
drop_all-append p (q ∷ qs) rs = drop_all-append (drop_page p q) qs rs

pub dropped_more : (t u w : Tables) (qs rs : List Page) → Dropped t u qs → Dropped u w rs → Dropped t w (qs ++ rs)
dropped_more t u w qs rs a b = record {
  shows = record {
    place = b.shows.place ∙ ap (λ (p : Placement). drop_all p rs) a.shows.place ∙ sym (drop_all-append (placement_of (lists_of t)) qs rs);
    frames = b.shows.frames ∙ a.shows.frames;
    known = b.shows.known;
  };
  images = λ sid. b.images sid ∙ a.images sid;
  rest = rest_forgets t u w a.rest b.rest;
}

pub all_dropped_rests : (p : Placement) (qs : List Page) (w : Page) → AtRest (state_of p w) → AtRest (state_of (drop_all p qs) w)
all_dropped_rests p [] w r = r
all_dropped_rests p (q ∷ qs) w r = all_dropped_rests (drop_page p q) qs w (drop_rest p q w r)

-- a page that may be forgotten still may where others were
pub still_may : (t u : Tables) (qs : List Page) (w : Page) → Dropped t u qs → IsWritable w → IsThere (placement_of (lists_of t)) w
    → AtRest (state_of (placement_of (lists_of t)) w)
    → MayForgetPage (lists_of u) w
still_may t u qs w d k th r =
    let p : Placement = placement_of (lists_of t) in
    record {
      known = d.shows.known;
      writable = k;
      there = subst (λ (x : Placement). IsThere x w) (sym d.shows.place) (let h = drop_all_length qs p w in omega arith);
      rests = subst (λ (x : Placement). AtRest (state_of x w)) (sym d.shows.place) (all_dropped_rests p qs w r);
    }

writable_beside : (q : Page) (v : ℕ) → IsWritable q → IsWritable (beside q v)
writable_beside (Text i k) v w = absurd w
writable_beside _ v w = tt

-- the next page of a segment
pub next_may : (t u : Tables) (q : Page) (from to v : ℕ) → Dropped t u (pages_from q from (v - from)) → from ≤ v → v < to → IsWritable q
    → EachPage (IsThere (placement_of (lists_of t))) (pages_from q from (to - from))
    → EachPage (λ r. AtRest (state_of (placement_of (lists_of t)) r)) (pages_from q from (to - from))
    → MayForgetPage (lists_of u) (beside q v)
next_may t u q from to v d l m w th r =
    still_may t u (pages_from q from (v - from)) (beside q v) d (writable_beside q v w)
    (each_at (IsThere (placement_of (lists_of t))) q from (to - from) v th l (omega arith))
    (each_at (λ x. AtRest (state_of (placement_of (lists_of t)) x)) q from (to - from) v r l (omega arith))

pub next_dropped : (t u w : Tables) (q : Page) (from v : ℕ) → from ≤ v → Dropped t u (pages_from q from (v - from)) → Dropped u w (beside q v ∷ [])
    → Dropped t w (pages_from q from (v + 1 - from))
next_dropped t u w q from v l a b =
    let k : from + (v - from) ≡ v = omega arith in
    let n : suc (v - from) ≡ v + 1 - from = omega arith in
    subst (λ (m : ℕ). Dropped t w (pages_from q from m)) n
    (subst (Dropped t w) (ap (λ (x : ℕ). pages_from q from (v - from) ++ beside q x ∷ []) (sym k) ∙ sym (pages_more q from (v - from)))
    (dropped_more t u w (pages_from q from (v - from)) (beside q v ∷ []) a b))
