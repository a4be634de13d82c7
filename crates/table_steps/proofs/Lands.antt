-- A page of the oldest transfer lands.
use Rattle.std.proofs.Common.{◌≡◌, ◌≢◌, inl, inr, ℕ, ◌-◌, ◌<◌, ◌≤◌, Bool, List, ◌∷◌, length, map, Option, Some, refl, sym, ap, ◌∙◌, subst}
use Rattle.std.specs.List.{range_with_len}
use Rattle.std.proofs.lemmas.Bool.{cases_eq}
use Rattle.std.proofs.lemmas.List.{length-set, get_or-set_same, get_or-set_other}
use Rattle.vm_facts.specs.declared.page.Page.{Page}
use Rattle.vm_facts.specs.declared.page.Page.TheVariants.{Text}
use Rattle.vm_facts.specs.declared.page.PageState.{PageState}
use Rattle.vax_pte.specs.declared.Place.{Place}
use Rattle.frame_state.specs.Frame.{Frame}
use Rattle.core_map.specs.declared.slot.Slot.{Slot as Token}
use Rattle.core_map.specs.declared.slot.Slot.TheVariants as tokens
use Rattle.core_map.specs.Slots.{slot_at, slot_page as token_page}
use Rattle.text_table.specs.Texts.{is_saved, text_numbered, Text as SharedText}
use Rattle.page_model.specs.Pages.{Slot, Filling, Zeros, frame_of, filling_behind}
use Rattle.page_model.specs.Placement.{Placement, Transfer, slot_of, state_of, page_of, IsThere, put}
use Rattle.page_model.specs.Moves.{turn}
use Rattle.page_model.specs.Conditions.{IsShared}
use Rattle.page_laws.proofs.Lists.Local.{none_some}
use Rattle.std.proofs.lemmas.Option.{same_Some}
use Rattle.page_laws.proofs.Moves.Steps.{page_in}
use Rattle.kernel_tables.specs.View.{Lists, Flown, flown_at, page_by, bytes_by, page_held, bytes_held, placement_of, frames_of}
use Rattle.kernel_tables.specs.Known.{Known}
use Rattle.kernel_tables.specs.Steps.{landed}
use Rattle.kernel_tables.proofs.Likes.{FitsPage}
use Rattle.kernel_tables.proofs.Shows.{SameLists, segments_are}
use Rattle.kernel_tables.proofs.Finds.{holding_set}
use Rattle.kernel_tables.proofs.Held.{placement_ext, flown_miss, flown_hit}
use Rattle.kernel_tables.proofs.Arrives.{page_shown, Arrives, arrives_moved, arrived}
use Rattle.kernel_tables.proofs.Evicts.{frames_same}
use Rattle.kernel_tables.proofs.Comes.{shared_entry}
use Rattle.kernel_tables.proofs.Marks.{placed_mark}
use Rattle.kernel_tables.proofs.Knows.{page_is_held}

-- What is known of the page: its token is the first in flight, and comes into the map with the page and its bytes.
pub record Landing (t : Lists) (q : Page) (f : ℕ) (token : Frame) (rest : List Flown) (x : Token) (place : Place) (texts : List SharedText) (s : PageState)
    (m : Bool) : Type 0 where
  pub known : Known t
  pub shared : IsShared (placement_of t) q
  pub frame : frame_of (state_of (placement_of t) q) ≡ Some f
  pub away : slot_at t.slots f ≡ tokens.Away
  pub below : f < length t.slots
  pub number : token.number ≡ f
  pub first : t.flown ≡ record { page = q; token = token } ∷ rest
  pub holds : token_page x ≡ Some q
  pub bytes : (o : Option Flown) → bytes_by x o ≡ token.bytes
  pub saved : (image v : ℕ) → Text image v ≢ q → 1 ≤ image → is_saved (text_numbered texts image) v ≡ is_saved (text_numbered t.texts image) v
  pub counts : (image : ℕ) → (text_numbered texts image).sharers ≡ (text_numbered t.texts image).sharers
  pub marks : (a : Frame) (r : Page) (mark : Bool) → x ≡ tokens.Resident a r mark → (r ≡ q) × (mark ≡ placed_mark texts place q)
  pub fits : FitsPage q place
  pub filling : (y : Filling) → filling_behind s y ≡ Zeros
  pub shows : (free : List ℕ) (ts : List Transfer)
      → page_shown (landed t q f x place free texts ts rest) q place ≡ record { state = s; mark = m; filling = Zeros }

pub land_is : (t : Lists) (q : Page) (f : ℕ) (token : Frame) (rest : List Flown) (x : Token) (place : Place) (texts : List SharedText) (s : PageState)
    (m : Bool) (free : List ℕ) (ts : List Transfer)
    → Landing t q f token rest x place texts s m
    → placement_of (landed t q f x place free texts ts rest) ≡ turn (placement_of t) q s m free ts
land_is t q f token rest x place texts s m free ts l =
    let p : Placement = placement_of t in
    let n : Lists = landed t q f x place free texts ts rest in
    let y : Flown = record { page = q; token = token } in
    let holds : page_of p f ≡ Some q = l.known.owns.names q f l.frame in
    let there : IsThere p q = page_in p q f l.frame in
    let a : Arrives t n q f place = record {
      differ = l.known.differ;
      apart = λ w d e. d (same_Some w q (sym (l.known.owns.names w f e) ∙ holds));
      slots = λ g d. get_or-set_other t.slots f g x tokens.Away d;
      cached = λ i v d. holding_set t.slots f x (Text i v) (λ e. none_some (Text i v) (sym (ap token_page l.away) ∙ e)) (λ e. d (same_Some (Text i v) q (sym e ∙ l.holds)));
      spaces = refl;
      saved = l.saved;
      facts = refl;
      there = there;
      entry = shared_entry t q l.known.tied l.shared there;
    } in
    let b : SameLists n (put p q s m) = segments_are t n q f s m (arrives_moved t n q f place a)
    (record {
      there = there;
      slot = arrived t n q f place a ∙ l.shows free ts ∙ ap (λ (z : Filling). let w : Slot = record { state = s; mark = m; filling = z } in w) (sym (l.filling (slot_of p q).filling));
    }) in
    placement_ext (placement_of n) (turn p q s m free ts) b.spaces b.texts
    (ap (λ (k : ℕ). map (page_held n) (range_with_len 1 (k - 1))) (length-set t.slots f x)
    ∙ frames_same (page_held t) (page_held n) (range_with_len 1 (length t.slots - 1)) (λ g. elim (cases_eq g f) [
      | inl h ↦ subst (λ (k : ℕ). page_held n k ≡ page_held t k) (sym h)
          (ap (λ (z : Token). page_by z (flown_at rest f)) (get_or-set_same t.slots f x tokens.Away l.below) ∙ page_is_held x q (flown_at rest f) l.holds
          ∙ sym (ap (λ (z : Token). page_by z (flown_at t.flown f)) l.away
          ∙ ap Rattle.kernel_tables.specs.View.page_flown (ap (λ (fs : List Flown). flown_at fs f) l.first ∙ flown_hit y rest f l.number)))
      | inr d ↦ ap (λ (z : Token). page_by z (flown_at rest g)) (get_or-set_other t.slots f g x tokens.Away d)
          ∙ ap (page_by (slot_at t.slots g)) (sym (ap (λ (fs : List Flown). flown_at fs g) l.first ∙ flown_miss y rest g (λ e. d (sym e ∙ l.number))))
    ]))
    refl refl refl refl refl refl

-- The bytes of the frames stay.
pub land_frames : (t : Lists) (q : Page) (f : ℕ) (token : Frame) (rest : List Flown) (x : Token) (place : Place) (texts : List SharedText) (s : PageState)
    (m : Bool) (free : List ℕ) (ts : List Transfer)
    → Landing t q f token rest x place texts s m
    → frames_of (landed t q f x place free texts ts rest) ≡ frames_of t
land_frames t q f token rest x place texts s m free ts l =
    let n : Lists = landed t q f x place free texts ts rest in
    let y : Flown = record { page = q; token = token } in
    ap (λ (k : ℕ). map (bytes_held n) (range_with_len 1 (k - 1))) (length-set t.slots f x)
    ∙ frames_same (bytes_held t) (bytes_held n) (range_with_len 1 (length t.slots - 1)) (λ g. elim (cases_eq g f) [
      | inl h ↦ subst (λ (k : ℕ). bytes_held n k ≡ bytes_held t k) (sym h)
          (ap (λ (z : Token). bytes_by z (flown_at rest f)) (get_or-set_same t.slots f x tokens.Away l.below) ∙ l.bytes (flown_at rest f)
          ∙ sym (ap (λ (z : Token). bytes_by z (flown_at t.flown f)) l.away
          ∙ ap Rattle.kernel_tables.specs.View.bytes_flown (ap (λ (fs : List Flown). flown_at fs f) l.first ∙ flown_hit y rest f l.number)))
      | inr d ↦ ap (λ (z : Token). bytes_by z (flown_at rest g)) (get_or-set_other t.slots f g x tokens.Away d)
          ∙ ap (bytes_by (slot_at t.slots g)) (sym (ap (λ (fs : List Flown). flown_at fs g) l.first ∙ flown_miss y rest g (λ e. d (sym e ∙ l.number))))
    ])
