-- Pages in flight, and the tokens of their frames.
use Rattle.std.proofs.Common.{◌≡◌, ◌≢◌, inl, inr, ℕ, ◌<◌, Bool, true, false, List, length, Option, Some, refl, sym, ap, ◌∙◌, subst, arith}
use Rattle.std.proofs.lemmas.Bool.{cases_eq}
use Rattle.vm_facts.specs.declared.page.Page.{Page}
use Rattle.vm_facts.specs.declared.page.Page.TheVariants.{Data, Stack, Text}
use Rattle.vm_facts.specs.declared.page.PageState.TheVariants.{Unfilled, Invalid, Coming, Going}
use Rattle.vax_pte.specs.declared.Place.{Place}
use Rattle.vax_pte.specs.declared.Place.TheVariants as places
use Rattle.core_map.specs.declared.slot.Slot.{Slot as Token}
use Rattle.core_map.specs.declared.slot.Slot.TheVariants as tokens
use Rattle.core_map.specs.Slots.{slot_at, slot_page as token_page}
use Rattle.page_model.specs.Pages.{Slot, frame_of}
use Rattle.page_model.specs.Placement.{Placement, Errand, Writes, Reads, state_of, IsThere, moving_state, sharers}
use Rattle.page_model.specs.Conditions.{IsShared}
use Rattle.page_model.specs.Ownership.{TextAside, IsAside}
use Rattle.page_laws.proofs.Lists.Local.{none_some}
use Rattle.std.proofs.lemmas.Option.{same_Some}
use Rattle.page_laws.proofs.Moves.Steps.{page_in, frame_in, frame_of_moving}
use Rattle.kernel_tables.specs.Shown.{slot_shown, text_shown, entry_in}
use Rattle.kernel_tables.specs.TableViewShown.{is_away, idle_state, state_shown}
use Rattle.kernel_tables.specs.View.{Lists, text_place_by, placement_of}
use Rattle.kernel_tables.specs.Known.{Known}
use Rattle.text_table.specs.Texts.{is_saved, text_numbered}
use Rattle.kernel_laws.proofs.Machine.Done.{some_of}
use Rattle.kernel_tables.proofs.Shows.{slot_or, data_shown, stack_shown, text_at, text_within}
use Rattle.kernel_tables.proofs.Held.{holds_length}
use Rattle.kernel_tables.proofs.Knows.{held_named}
use Rattle.kernel_tables.proofs.Comes.{shared_entry}

-- of text that nobody shares no page is in flight
pub moving_shared : (p : Placement) (q : Page) (e : Errand) (f : ℕ) → TextAside p → state_of p q ≡ moving_state e f → IsShared p q
moving_shared p (Text i v) e f a h = elim (cases_eq (sharers p i) 0) [
  | inl z ↦ absurd (go e (a i v z) h)
  | inr n ↦ omega arith
]
  where
    go : (e : Errand) → IsAside p (Text i v) → state_of p (Text i v) ≡ moving_state e f → ⊥
    go Writes k m = elim k.rests [
      | inl u ↦ let x : Unfilled ≡ Going f = sym u ∙ m in cc
      | inr u ↦ let x : Invalid u.0 ≡ Going f = sym u.1 ∙ m in cc
    ]
    go (Reads source demanded) k m = elim k.rests [
      | inl u ↦ let x : Unfilled ≡ Coming f = sym u ∙ m in cc
      | inr u ↦ let x : Invalid u.0 ≡ Coming f = sym u.1 ∙ m in cc
    ]
moving_shared p _ e f a h = tt

away_named : (slots : List Token) (x : Place) (e : Errand) (f : ℕ) → state_shown slots x ≡ moving_state e f → is_away (slot_at slots f) ≡ true
away_named slots places.Zero Writes f h = absurd cc
away_named slots places.Zero (Reads s d) f h = absurd cc
away_named slots (places.Image v) Writes f h = absurd cc
away_named slots (places.Image v) (Reads s d) f h = absurd cc
away_named slots places.Swap Writes f h = absurd cc
away_named slots places.Swap (Reads s d) f h = absurd cc
away_named slots (places.Frame g true c) Writes f h = absurd cc
away_named slots (places.Frame g true c) (Reads s d) f h = absurd cc
away_named slots (places.Frame g false c) e f h = go (is_away (slot_at slots g)) c e refl h
  where
    go : (a d : Bool) (e : Errand) → is_away (slot_at slots g) ≡ a → idle_state g a d ≡ moving_state e f → is_away (slot_at slots f) ≡ true
    go false d Writes k m = absurd cc
    go false d (Reads s r) k m = absurd cc
    go true true Writes k m = let same : g ≡ f = cc in subst (λ (n : ℕ). is_away (slot_at slots n) ≡ true) same k
    go true true (Reads s r) k m = absurd cc
    go true false Writes k m = absurd cc
    go true false (Reads s r) k m = let same : g ≡ f = cc in subst (λ (n : ℕ). is_away (slot_at slots n) ≡ true) same k

away_is : (s : Token) → is_away s ≡ true → s ≡ tokens.Away
away_is tokens.Away e = refl
away_is _ e = absurd cc

pub record InFlight (t : Lists) (q : Page) (f : ℕ) : Type 0 where
  pub away : slot_at t.slots f ≡ tokens.Away
  pub above : 0 < f
  pub below : f < length t.slots
  pub shared : IsShared (placement_of t) q
  pub there : IsThere (placement_of t) q
  pub frame : frame_of (state_of (placement_of t) q) ≡ Some f
  pub nowhere : (g : ℕ) → token_page (slot_at t.slots g) ≢ Some q

pub in_flight : (t : Lists) (q : Page) (e : Errand) (f : ℕ) → Known t → state_of (placement_of t) q ≡ moving_state e f → InFlight t q f
in_flight t q e f k h =
    let sh : IsShared (placement_of t) q = moving_shared (placement_of t) q e f k.aside h in
    let named : frame_of (state_of (placement_of t) q) ≡ Some f = ap frame_of h ∙ frame_of_moving e f in
    let there : IsThere (placement_of t) q = page_in (placement_of t) q f named in
    let entry = some_of (entry_in t.spaces q) (shared_entry t q k.tied sh there) in
    let away : slot_at t.slots f ≡ tokens.Away = away_is (slot_at t.slots f) (go q h there entry.0 entry.1) in
    let frame = frame_in (placement_of t) q f (k.owns.names q f named) in
    let a = frame.0 in
    let b = frame.1 in
    let c = holds_length t in
    record {
      away = away;
      above = a;
      below = omega arith;
      shared = sh;
      there = there;
      frame = named;
      nowhere = λ g m. let same : g ≡ f = same_Some g f (sym (held_named t g q k m) ∙ named) in
          none_some q (sym (ap token_page (ap (slot_at t.slots) same ∙ away)) ∙ m);
    }
  where
    go : (r : Page) → state_of (placement_of t) r ≡ moving_state e f → IsThere (placement_of t) r → (x : Place) → entry_in t.spaces r ≡ Some x → is_away (slot_at t.slots f) ≡ true
    go (Data n v) m th x i = away_named t.slots x e f (sym (ap (λ (y : Slot). y.state) (data_shown t.slots t.spaces n v k.differ ∙ ap (slot_or (slot_shown t.slots)) i)) ∙ m)
    go (Stack n v) m th x i = away_named t.slots x e f (sym (ap (λ (y : Slot). y.state) (stack_shown t.slots t.spaces n v k.differ ∙ ap (slot_or (slot_shown t.slots)) i)) ∙ m)
    go (Text a v) m th x i = away_named t.slots x e f (sym
        (ap (λ (y : Slot). y.state)
        (text_at t a v (text_within t a v th) ∙ ap (λ (o : Option Place). text_shown t.slots (is_saved (text_numbered t.texts a) v) (text_place_by o t.slots (Text a v) v)) i))
        ∙ m)
