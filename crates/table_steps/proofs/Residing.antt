-- A page in a frame off the free list: its frame's token, and its entry.
use Rattle.std.proofs.Common.{◌≡◌, inl, inr, ℕ, ◌+◌, ◌<◌, ◌≤◌, Bool, true, false, List, length, Option, Some, None, refl, sym, ap, ◌∙◌, subst, arith}
use Rattle.std.proofs.lemmas.Bool.{cases_eq}
use Rattle.vm_facts.specs.declared.page.Page.{Page}
use Rattle.vm_facts.specs.declared.page.Page.TheVariants.{Data, Stack, Text}
use Rattle.vm_facts.specs.declared.page.PageState.TheVariants.{Valid, Invalid}
use Rattle.vax_pte.specs.declared.Place.{Place}
use Rattle.vax_pte.specs.declared.Place.TheVariants as places
use Rattle.frame_state.specs.Frame.{Frame}
use Rattle.core_map.specs.declared.slot.Slot.{Slot as Token}
use Rattle.core_map.specs.declared.slot.Slot.TheVariants as tokens
use Rattle.core_map.specs.Slots.{slot_at, slot_page as token_page, listings, slot_number}
use Rattle.text_table.specs.Texts.{is_saved, text_numbered}
use Rattle.vm_facts.specs.Lists.{times}
use Rattle.page_model.specs.Pages.{Slot, frame_of}
use Rattle.page_model.specs.Placement.{Placement, slot_of, state_of, page_of, IsThere, sharers, parts_of, flying}
use Rattle.page_model.specs.Conditions.{IsShared, IsSeated}
use Rattle.page_model.specs.Ownership.{IsAside}
use Rattle.flat_state.specs.Numbers.{AllDistinct}
use Rattle.page_laws.proofs.Lists.Local.{none_some}
use Rattle.std.proofs.lemmas.Option.{same_Some}
use Rattle.page_laws.proofs.Moves.Steps.{page_in, frame_in}
use Rattle.page_laws.proofs.Ownership.Pages.{seated_alone, seated_frame}
use Rattle.kernel_laws.proofs.Machine.Done.{some_of}
use Rattle.kernel_tables.specs.Shown.{slot_shown, text_shown, entry_in}
use Rattle.kernel_tables.specs.TableViewShown.{is_away, idle_state, state_shown}
use Rattle.kernel_tables.specs.View.{Lists, text_place_by, flown_at, page_by, page_flown, page_held, placement_of}
use Rattle.kernel_tables.specs.Known.{Known}
use Rattle.kernel_tables.specs.Rising.{sids_of}
use Rattle.kernel_tables.proofs.Shows.{slot_or, data_shown, stack_shown, text_at, text_within, idle_frame}
use Rattle.kernel_tables.proofs.Held.{held_at, holds_length, not_flown, above_zero, below_length}
use Rattle.kernel_tables.proofs.Arrives.{page_shown}
use Rattle.kernel_tables.proofs.Knows.{held_named}
use Rattle.kernel_tables.proofs.Comes.{shared_entry}

-- What an entry shows of its page.

pub entry_shown : (t : Lists) (q : Page) (x : Place) → AllDistinct (sids_of t.spaces) → IsThere (placement_of t) q → entry_in t.spaces q ≡ Some x
    → slot_of (placement_of t) q ≡ page_shown t q x
entry_shown t (Data n v) x d th e = data_shown t.slots t.spaces n v d ∙ ap (slot_or (slot_shown t.slots)) e
entry_shown t (Stack n v) x d th e = stack_shown t.slots t.spaces n v d ∙ ap (slot_or (slot_shown t.slots)) e
entry_shown t (Text i v) x d th e = text_at t i v (text_within t i v th) ∙ ap (λ (o : Option Place). text_shown t.slots (is_saved (text_numbered t.texts i) v) (text_place_by o t.slots (Text i v) v)) e

pub shown_state : (t : Lists) (q : Page) (x : Place) → (page_shown t q x).state ≡ state_shown t.slots x
shown_state t (Data n v) x = refl
shown_state t _ x = refl

-- an entry whose state names a frame names it
frame_entry : (slots : List Token) (x : Place) (f : ℕ) → frame_of (state_shown slots x) ≡ Some f
    → (valid : Bool) × (changed : Bool) × (x ≡ places.Frame f valid changed)
frame_entry slots (places.Frame g true c) f e = (true, c, ap (λ (n : ℕ). places.Frame n true c) (same_Some g f e))
frame_entry slots (places.Frame g false c) f e = (false, c, ap (λ (n : ℕ). places.Frame n false c) (same_Some g f (sym (idle_frame g (is_away (slot_at slots g)) c) ∙ e)))
frame_entry slots _ f e = none_some f e

-- The whole.

pub record Resides (t : Lists) (q : Page) (f : ℕ) : Type 0 where
  pub token : Frame
  pub dirty : Bool
  pub slot : slot_at t.slots f ≡ tokens.Resident token q dirty
  pub number : token.number ≡ f
  pub above : 0 < f
  pub below : f < length t.slots
  pub unlisted : times f t.free ≡ 0
  pub shared : IsShared (placement_of t) q
  pub named : frame_of (state_of (placement_of t) q) ≡ Some f
  pub there : IsThere (placement_of t) q
  pub valid : Bool
  pub changed : Bool
  pub entry : entry_in t.spaces q ≡ Some (places.Frame f valid changed)
  pub shown : slot_of (placement_of t) q ≡ page_shown t q (places.Frame f valid changed)

resident_shared : (t : Lists) (q : Page) (f : ℕ) → Known t → times f t.free ≡ 0 → frame_of (state_of (placement_of t) q) ≡ Some f → IsShared (placement_of t) q
resident_shared t (Text i v) f k z e = elim (cases_eq (sharers (placement_of t) i) 0) [
  | inl h ↦
      let a : IsAside (placement_of t) (Text i v) = k.aside i v h in
      elim a.rests [
        | inl u ↦ none_some f (sym (ap frame_of u) ∙ e)
        | inr u ↦ let same : u.0 ≡ f = same_Some u.0 f (sym (ap frame_of u.1) ∙ e) in
            absurd (let l : 0 < times f t.free = subst (λ (g : ℕ). 0 < times g t.free) same u.2 in omega arith)
      ]
  | inr n ↦ omega arith
]
resident_shared t _ f k z e = tt

pub resides : (t : Lists) (q : Page) (f : ℕ) (token : Frame) (dirty : Bool) → Known t → slot_at t.slots f ≡ tokens.Resident token q dirty → Resides t q f
resides t q f token dirty k h =
    let p : Placement = placement_of t in
    let off : times f t.free ≡ 0 = k.core.listed f ∙ ap listings h in
    let e : frame_of (state_of p q) ≡ Some f = held_named t f q k (ap token_page h) in
    let sh : IsShared p q = resident_shared t q f k off e in
    let th : IsThere p q = page_in p q f e in
    let found = some_of (entry_in t.spaces q) (shared_entry t q k.tied sh th) in
    let was : slot_of p q ≡ page_shown t q found.0 = entry_shown t q found.0 k.differ th found.1 in
    let is = frame_entry t.slots found.0 f (sym (ap frame_of (ap (λ (s : Slot). s.state) was ∙ shown_state t q found.0)) ∙ e) in
    let on : (slot_at t.slots f ≡ tokens.Away) → ⊥ = λ n. let x : tokens.Resident token q dirty ≡ tokens.Away = sym h ∙ n in cc in
    record {
      token = token;
      dirty = dirty;
      slot = h;
      number = sym (ap (λ (s : Token). slot_number s f) h) ∙ k.core.numbered f;
      above = above_zero t.free t.slots f k.core on;
      below = below_length t.slots f on;
      unlisted = off;
      shared = sh;
      named = e;
      there = th;
      valid = is.0;
      changed = is.1;
      entry = found.1 ∙ ap (λ (x : Place). Some x) is.2;
      shown = was ∙ ap (page_shown t q) is.2;
    }

pub seat_resides : (t : Lists) (q : Page) (f : ℕ) → Known t → IsSeated (placement_of t) q f → Resides t q f
seat_resides t q f k s = go (slot_at t.slots f) refl
  where
    p : Placement
    p = placement_of t

    holds : page_of p f ≡ Some q
    holds = k.owns.names q f (seated_frame p q f s)

    within : (0 < f) × (f ≤ length p.holds)
    within = frame_in p q f holds

    held : page_held t f ≡ Some q
    held = sym (held_at t f within.0 (let a = within.1 in let b = holds_length t in let c = within.0 in omega arith)) ∙ holds

    alone : (times f t.free ≡ 0) × (times f (flying (parts_of t.transfers)) ≡ 0)
    alone = seated_alone p q f k.owns s

    grounded : flown_at t.flown f ≡ None
    grounded = not_flown t.flown f (sym (ap (times f) k.numbers) ∙ alone.1)

    go : (x : Token) → slot_at t.slots f ≡ x → Resides t q f
    go (tokens.Free token page) h = absurd (let a = k.core.listed f ∙ ap listings h in let o = alone.0 in omega arith)
    go tokens.Away h = none_some q (sym (ap (λ (y : Token). page_by y (flown_at t.flown f)) h ∙ ap page_flown grounded) ∙ held)
    go (tokens.Resident token page dirty) h =
        let same : page ≡ q = same_Some page q (sym (ap (λ (y : Token). page_by y (flown_at t.flown f)) h) ∙ held) in
        resides t q f token dirty k (h ∙ ap (λ (r : Page). tokens.Resident token r dirty) same)

-- and the other way round
state_by : (slots : List Token) (f : ℕ) (token : Frame) (q : Page) (dirty valid changed : Bool) → slot_at slots f ≡ tokens.Resident token q dirty
    → state_shown slots (places.Frame f valid changed) ≡ Rattle.std.proofs.Common.cond valid (Valid f) (Invalid f)
state_by slots f token q dirty true changed h = refl
state_by slots f token q dirty false changed h = ap (λ (s : Token). idle_state f (is_away s) changed) h

pub resides_state : (t : Lists) (q : Page) (f : ℕ) (r : Resides t q f)
    → state_of (placement_of t) q ≡ Rattle.std.proofs.Common.cond r.valid (Valid f) (Invalid f)
resides_state t q f r = ap (λ (s : Slot). s.state) r.shown ∙ shown_state t q (places.Frame f r.valid r.changed) ∙ state_by t.slots f r.token q r.dirty r.valid r.changed r.slot

pub resides_seat : (t : Lists) (q : Page) (f : ℕ) (r : Resides t q f) → IsSeated (placement_of t) q f
resides_seat t q f r = go r.valid (resides_state t q f r)
  where
    go : (v : Bool) → state_of (placement_of t) q ≡ Rattle.std.proofs.Common.cond v (Valid f) (Invalid f) → IsSeated (placement_of t) q f
    go true e = record { state = inl e }
    go false e = record { state = inr (e, r.unlisted) }
