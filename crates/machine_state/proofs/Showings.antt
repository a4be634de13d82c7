-- The core map and the entries of a space show the placement.
use Rattle.std.proofs.Common.{◌≡◌, ◌≢◌, ◌⊎◌, inl, inr, ℕ, ◌<◌, ◌≤◌, Bool, true, false, ltb, IsSome, length, slice_get, option_map, Option, Some, None, refl, sym, ap, ◌∙◌, subst, arith}
use Rattle.std.proofs.lemmas.Bool.Decides.{nat_tests}
use Rattle.std.proofs.lemmas.Option.{same_Some}
use Rattle.vm_facts.specs.declared.page.Page.{Page}
use Rattle.vm_facts.specs.declared.page.Page.TheVariants.{Data, Stack, Text}
use Rattle.vm_facts.specs.declared.page.PageState.TheVariants.{Valid}
use Rattle.vm_facts.specs.Lists.{times}
use Rattle.vax_pte.specs.declared.Place.{Place}
use Rattle.vax_pte.specs.declared.Place.TheVariants as places
use Rattle.aout_image.specs.Image.{text_pages_of}
use Rattle.frame_state.specs.Frame.{Frame}
use Rattle.core_map.specs.declared.slot.Slot.{Slot as Token}
use Rattle.core_map.specs.declared.slot.Slot.TheVariants as tokens
use Rattle.core_map.specs.Slots.{slot_at, listings}
use Rattle.core_map.specs.Frames.{Frames}
use Rattle.table_steps.specs.Space.{Places, place_in}
use Rattle.page_model.specs.Pages.{frame_of, numbered}
use Rattle.page_model.specs.Placement.{IsFrame, state_of, page_of, is_dirty, parts_of, flying, space_number, image_in, image_of}
use Rattle.page_model.specs.Ownership.{seated_of}
use Rattle.table_steps.proofs.PageLawsMovesSteps.{frame_in}
use Rattle.table_steps.proofs.PageLawsOwnershipPages.{seated_alone}
use Rattle.kernel_model.specs.Asks.{HasSpace}
use Rattle.table_steps.specs.TableViewShown.{is_away, idle_state, state_shown, MarkShown, ShowsMark}
use Rattle.table_steps.specs.Views.{IsNamedBy, ShowsPage, ShowsSpace}
use Rattle.table_steps.specs.KernelTablesShown.{entry_in, space_shown}
use Rattle.table_steps.specs.View.{Lists, pages_in, text_place, text_place_by, page_by, page_flown, flown_at, placement_of}
use Rattle.table_steps.specs.Known.{Known}
use Rattle.table_steps.specs.Alike.{IsLikeFirst, IsFilled}
use Rattle.table_steps.specs.Rising.{sids_of, AreRising}
use Rattle.table_steps.specs.PlaceOf.{text_if, place_of}
use Rattle.machine_state.specs.Showing.{ShowsCore}
use Rattle.table_steps.proofs.Held.{held_at, above_zero, below_length, not_flown, holds_length}
use Rattle.machine_state.proofs.Dirty.{dirty_is}
use Rattle.table_steps.proofs.Residing.{Resides, resides, resides_seat}
use Rattle.table_steps.proofs.Rising.{found_entry, data_of_space, stack_of_space, found_here}
use Rattle.table_steps.proofs.PlaceStates.{TellsState, place_tells}
use Rattle.table_steps.proofs.KernelTablesEntries.{text_hit}
use Rattle.table_steps.proofs.UserFrames.{numbered_shown, at_each, at_sid, facts_pages, get_past, get_within, get_spaces}

none_moves : (n : ℕ) → n ≡ 0 → false ≡ ltb 0 n
none_moves n e = grind (arith, nat_tests)

some_moves : (n : ℕ) → 0 < n → true ≡ ltb 0 n
some_moves n l = grind (arith, nat_tests)

zero_or : (n : ℕ) → (n ≡ 0) ⊎ (0 < n)
zero_or n = grind arith

away_is : (t : Lists) (f : ℕ) → Known t → IsFrame (placement_of t) f → (s : Token) → slot_at t.slots f ≡ s
    → is_away s ≡ ltb 0 (times f (flying (parts_of t.transfers)))
away_is t f k w (tokens.Free token page) e =
    none_moves (times f (flying (parts_of t.transfers))) (let l = k.core.listed f ∙ ap listings e in let o = k.owns.once f w in omega arith)
away_is t f k w (tokens.Resident token q mark) e =
    none_moves (times f (flying (parts_of t.transfers))) (seated_alone (placement_of t) q f k.owns (resides_seat t q f (resides t q f token mark k e))).1
away_is t f k w tokens.Away e = elim (zero_or (times f (flying (parts_of t.transfers)))) [
  | inl z ↦
      let l = k.core.listed f ∙ ap listings e in
      let none : flown_at t.flown f ≡ None = not_flown t.flown f (sym (ap (times f) k.numbers) ∙ z) in
      let page : page_of (placement_of t) f ≡ None =
      held_at t f w.0 (let a = w.1 in let b = holds_length t in let c = w.0 in omega arith) ∙ ap (λ (s : Token). page_by s (flown_at t.flown f)) e ∙ ap page_flown none in
      let o = k.owns.once f w in
      let unseated = ap (seated_of (placement_of t) f) page in
      absurd (omega arith)
  | inr l ↦ some_moves (times f (flying (parts_of t.transfers))) l
]

-- a free frame has its page in the placement too
free_page : (t : Lists) → Known t → (f : ℕ) (token : Frame) (page : Option Page) → slot_at t.slots f ≡ tokens.Free token page
    → page_of (placement_of t) f ≡ page
free_page t k f token page e =
    let there : slot_at t.slots f ≢ tokens.Away = λ away. let clash : tokens.Free token page ≡ tokens.Away = sym e ∙ away in absurd cc in
    held_at t f (above_zero t.free t.slots f k.core there) (below_length t.slots f there) ∙ ap (λ (s : Token). page_by s (flown_at t.flown f)) e

pub core_shows : (t : Lists) → Known t → ShowsCore (placement_of t) (record { free = t.free; slots = t.slots })
core_shows t k = record {
  frames = (let l = holds_length t in let some = k.core.has_none in omega arith);
  free = refl;
  listed = k.core.listed;
  still = free_page t k;
  away = λ f w. away_is t f k w (slot_at t.slots f) refl;
  kept = λ f token q mark e.
      let r : Resides t q f = resides t q f token mark k e in
      (k.owns.names q f r.named, k.tied.marked f token q mark e ∙ dirty_is t q k.differ r.there);
}

-- A page with an entry, by any core map that shows the placement.
module _ (t : Lists) (core : Frames) (k : Known t) (shows : ShowsCore (placement_of t) core) where
  named_in : (q : Page) (f : ℕ) → frame_of (state_of (placement_of t) q) ≡ Some f → IsFrame (placement_of t) f
  named_in q f e = frame_in (placement_of t) q f (k.owns.names q f e)

  idle_named : (f : ℕ) (away changed : Bool) → frame_of (idle_state f away changed) ≡ Some f
  idle_named f false changed = refl
  idle_named f true true = refl
  idle_named f true false = refl

  state_same : (q : Page) (x : Place) → state_of (placement_of t) q ≡ state_shown t.slots x → state_of (placement_of t) q ≡ state_shown core.slots x
  state_same q places.Zero e = e
  state_same q (places.Image v) e = e
  state_same q places.Swap e = e
  state_same q (places.Frame f true c) e = e
  state_same q (places.Frame f false c) e =
      let w : IsFrame (placement_of t) f = named_in q f (ap frame_of e ∙ idle_named f (is_away (slot_at t.slots f)) c) in
      e ∙ ap (λ (b : Bool). idle_state f b c) (away_is t f k w (slot_at t.slots f) refl ∙ sym (shows.away f w))

  mark_by : (q : Page) (f : ℕ) (c : Bool) → state_of (placement_of t) q ≡ Valid f → (s : Token) → slot_at core.slots f ≡ s → MarkShown s true (is_dirty (placement_of t) q)
  mark_by q f c e (tokens.Free token page) h =
      let a = (seated_alone (placement_of t) q f k.owns (record { state = inl e })).0 in
      let l = shows.listed f ∙ ap listings h in
      let same = ap (times f) shows.free in
      absurd (omega arith)
  mark_by q f c e (tokens.Resident token page mark) h =
      let x = shows.kept f token page mark h in
      x.1 ∙ ap (is_dirty (placement_of t)) (same_Some page q (sym x.0 ∙ k.owns.names q f (ap frame_of e)))
  mark_by q f c e tokens.Away h =
      let a = (seated_alone (placement_of t) q f k.owns (record { state = inl e })).1 in
      absurd (let x : true ≡ false = sym (ap is_away h) ∙ shows.away f (named_in q f (ap frame_of e)) ∙ sym (none_moves (times f (flying (parts_of t.transfers))) a) in cc)

  idle_by : (q : Page) (f : ℕ) (c : Bool) → frame_of (state_of (placement_of t) q) ≡ Some f → (s : Token) → slot_at core.slots f ≡ s → MarkShown s false (is_dirty (placement_of t) q)
  idle_by q f c e (tokens.Free token page) h = refl
  idle_by q f c e (tokens.Resident token page mark) h =
      let x = shows.kept f token page mark h in
      x.1 ∙ ap (is_dirty (placement_of t)) (same_Some page q (sym x.0 ∙ k.owns.names q f e))
  idle_by q f c e tokens.Away h = refl

  marked : (q : Page) (x : Place) → state_of (placement_of t) q ≡ state_shown t.slots x → ShowsMark core.slots x (is_dirty (placement_of t) q)
  marked q places.Zero e = tt
  marked q (places.Image v) e = tt
  marked q places.Swap e = tt
  marked q (places.Frame f true c) e = mark_by q f c e (slot_at core.slots f) refl
  marked q (places.Frame f false c) e = idle_by q f c (ap frame_of e ∙ idle_named f (is_away (slot_at t.slots f)) c) (slot_at core.slots f) refl

  page_shows : (q : Page) (o : Option Place) → TellsState t q (place_of t q) → place_of t q ≡ o → ShowsPage (placement_of t) core.slots q o
  page_shows q None tells e = λ there. absurd (let x = subst (λ (o : Option Place). IsSome o) e (tells.found there) in cc)
  page_shows q (Some x) tells e = (tells.there (subst (λ (o : Option Place). IsSome o) (sym e) refl), state_same q x (tells.state x e), marked q x (tells.state x e))

below_or_past : (v n : ℕ) → (v < n) ⊎ (n ≤ v)
below_or_past v n = grind arith

-- A space, whose entries of text are as many as its image's pages.
module _ (t : Lists) (i : ℕ) (s : Places) (k : Known t) (rising : AreRising (sids_of t.spaces)) (at : slice_get t.spaces i ≡ Some s) (whole : length s.text ≡ text_pages_of s.facts) where
  found : numbered (λ (x : Places). x.sid) s.sid t.spaces ≡ Some s
  found = found_here t.spaces s.sid i s rising (at_sid t.spaces i s at) ∙ ap (λ (x : Places). Some x) (get_spaces t.spaces i s s at)

  pages : pages_in 1 s.image t.facts ≡ length s.text
  pages = facts_pages 1 s.image t.facts s.facts (at_each (IsFilled t.facts) t.spaces i s k.tied.filled at).facts_are ∙ sym whole

  text_same : (v : ℕ) → (v < length s.text) ⊎ (length s.text ≤ v) → place_of t (Text s.image v) ≡ place_in s (Text s.image v)
  text_same v (inl l) =
      let x = get_within s.text v l in
      let entry : place_in s (Text s.image v) ≡ Some x.0 = text_hit s s.image v refl ∙ x.1 in
      let first : entry_in t.spaces (Text s.image v) ≡ Some x.0 = at_each (IsLikeFirst t.spaces) t.spaces i s k.tied.alike at s.image v x.0 entry in
      let e = pages in
      let b : ltb v (pages_in 1 s.image t.facts) ≡ true = grind (arith, nat_tests) in
      ap (λ (c : Bool). text_if c (text_place t.spaces t.slots (Text s.image v) v)) b ∙ ap (λ (o : Option Place). Some (text_place_by o t.slots (Text s.image v) v)) first ∙ sym entry
  text_same v (inr l) =
      let e = pages in
      let b : ltb v (pages_in 1 s.image t.facts) ≡ false = grind (arith, nat_tests) in
      ap (λ (c : Bool). text_if c (text_place t.spaces t.slots (Text s.image v) v)) b ∙ sym (text_hit s s.image v refl ∙ get_past s.text v l)

  place_same : (q : Page) → IsNamedBy s q → place_of t q ≡ place_in s q
  place_same (Data n v) e = subst (λ (m : ℕ). entry_in t.spaces (Data m v) ≡ place_in s (Data m v)) (sym e) (found_entry (Data s.sid v) s.sid (data_of_space s.sid v) t.spaces s rising found)
  place_same (Stack n v) e = subst (λ (m : ℕ). entry_in t.spaces (Stack m v) ≡ place_in s (Stack m v)) (sym e) (found_entry (Stack s.sid v) s.sid (stack_of_space s.sid v) t.spaces s rising found)
  place_same (Text image v) e = subst (λ (m : ℕ). place_of t (Text m v) ≡ place_in s (Text m v)) (sym e) (text_same v (below_or_past v (length s.text)))

  pub space_shows : (core : Frames) → ShowsCore (placement_of t) core → ShowsSpace (placement_of t) core s
  space_shows core shows = record {
    free = shows.free;
    pages = λ q e. page_shows t core k shows q (place_in s q) (place_tells t q k rising) (place_same q e);
  }

pub space_number_is : (t : Lists) (i : ℕ) (s : Places) → slice_get t.spaces i ≡ Some s → (sid : ℕ) → slice_get (sids_of t.spaces) i ≡ Some sid → s.sid ≡ sid
space_number_is t i s at sid e = same_Some s.sid sid (sym (at_sid t.spaces i s at) ∙ e)

pub space_there : (t : Lists) (i : ℕ) (s : Places) → slice_get t.spaces i ≡ Some s → AreRising (sids_of t.spaces) → (sid : ℕ) → s.sid ≡ sid
    → HasSpace (placement_of t) sid
space_there t i s at rising sid e h =
    let found : numbered (λ (x : Places). x.sid) s.sid t.spaces ≡ Some s = found_here t.spaces s.sid i s rising (at_sid t.spaces i s at) ∙ ap (λ (x : Places). Some x) (get_spaces t.spaces i s s at) in
    let shown : numbered space_number s.sid (placement_of t).spaces ≡ Some (space_shown t.slots s) = numbered_shown t.slots t.spaces s.sid ∙ ap (option_map (space_shown t.slots)) found in
    absurd (let x : Some (space_shown t.slots s) ≡ None = sym shown ∙ ap (λ (n : ℕ). numbered space_number n (placement_of t).spaces) e ∙ h in cc)

pub space_image : (t : Lists) (i : ℕ) (s : Places) → slice_get t.spaces i ≡ Some s → AreRising (sids_of t.spaces) → (sid : ℕ) → s.sid ≡ sid
    → s.image ≡ image_of (placement_of t) sid
space_image t i s at rising sid e =
    let found : numbered (λ (x : Places). x.sid) s.sid t.spaces ≡ Some s = found_here t.spaces s.sid i s rising (at_sid t.spaces i s at) ∙ ap (λ (x : Places). Some x) (get_spaces t.spaces i s s at) in
    let shown : numbered space_number s.sid (placement_of t).spaces ≡ Some (space_shown t.slots s) = numbered_shown t.slots t.spaces s.sid ∙ ap (option_map (space_shown t.slots)) found in
    sym (ap (image_of (placement_of t)) (sym e) ∙ ap image_in shown)
