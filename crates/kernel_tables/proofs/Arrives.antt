-- A page takes its place with one frame.
use Rattle.std.proofs.Common.{◌≡◌, ◌≢◌, inl, inr, ℕ, zero, suc, ◌<◌, ◌≤◌, List, [], ◌∷◌, length, map, Option, Some, IsSome, slice_get, refl, sym, ap, ◌∙◌, subst, arith}
use Rattle.std.proofs.lemmas.Bool.{cases_eq}
use Rattle.vm_facts.specs.declared.page.Page.{Page}
use Rattle.vm_facts.specs.declared.page.Page.TheVariants.{Data, Stack, Text}
use Rattle.vax_pte.specs.declared.Place.{Place}
use Rattle.core_map.specs.declared.slot.Slot.{Slot as Token}
use Rattle.core_map.specs.Slots.{slot_at}
use Rattle.space_map.specs.Space.{Places}
use Rattle.text_table.specs.Texts.{is_saved, text_numbered}
use Rattle.page_model.specs.Pages.{Slot, SpacePages, numbered, data_in, stack_in, frame_of}
use Rattle.page_model.specs.Placement.{space_number, slot_of, state_of, IsThere}
use Rattle.flat_state.specs.Numbers.{AllDistinct}
use Rattle.kernel_tables.specs.Shown.{slot_shown, text_shown, space_shown, or_else, entry_in, placed}
use Rattle.kernel_tables.specs.Found.{frame_holding}
use Rattle.kernel_tables.specs.Rising.{sids_of}
use Rattle.kernel_tables.specs.View.{Lists, pages_in, text_place_by, placement_of}
use Rattle.kernel_tables.proofs.Entries.{data_hit, data_miss, stack_hit, stack_miss, entry_same, entry_other, placed_heads}
use Rattle.kernel_tables.proofs.Shows.{slot_or, data_shown, stack_shown, hit, miss, length_map, Moved, text_at, text_within, head_sids}
use Rattle.kernel_laws.proofs.Machine.Done.{some_of}

-- what a place shows of a page
abbrev pub page_shown : Lists → Page → Place → Slot
page_shown t (Text i v) place = text_shown t.slots (is_saved (text_numbered t.texts i) v) place
page_shown t _ place = slot_shown t.slots place

-- the page, and beside it at most the frame's token, is all that changes
pub record Arrives (t u : Lists) (q : Page) (f : ℕ) (place : Place) : Type 0 where
  pub differ : AllDistinct (sids_of t.spaces)
  pub apart : (w : Page) → w ≢ q → frame_of (state_of (placement_of t) w) ≢ Some f
  pub slots : (g : ℕ) → g ≢ f → slot_at u.slots g ≡ slot_at t.slots g
  pub cached : (image v : ℕ) → Text image v ≢ q → frame_holding u.slots (Text image v) ≡ frame_holding t.slots (Text image v)
  pub spaces : u.spaces ≡ map (placed q place) t.spaces
  pub saved : (image v : ℕ) → Text image v ≢ q → 1 ≤ image → is_saved (text_numbered u.texts image) v ≡ is_saved (text_numbered t.texts image) v
  pub facts : u.facts ≡ t.facts
  pub there : IsThere (placement_of t) q
  pub entry : IsSome (entry_in t.spaces q)

pub arrives_moved : (t u : Lists) (q : Page) (f : ℕ) (place : Place) → Arrives t u q f place → Moved t u (λ w. w ≢ q) f
arrives_moved t u q f place a = record {
  differ = a.differ;
  slots = a.slots;
  heads = subst (λ (ss : List Places). map Rattle.kernel_tables.proofs.Entries.head_of ss ≡ map Rattle.kernel_tables.proofs.Entries.head_of t.spaces) (sym a.spaces) (placed_heads t.spaces q place);
  entries = λ w n. ap (λ (ss : List Places). entry_in ss w) a.spaces ∙ entry_other t.spaces q w place n;
  apart = a.apart;
  cached = a.cached;
  saved = a.saved;
  facts = a.facts;
}

pub arrived : (t u : Lists) (q : Page) (f : ℕ) (place : Place) → Arrives t u q f place → slot_of (placement_of u) q ≡ page_shown u q place
arrived t u q f place a = go q a.there (some_of (entry_in t.spaces q) a.entry).0 (some_of (entry_in t.spaces q) a.entry).1 a.spaces
  where
    differ : AllDistinct (sids_of u.spaces)
    differ = subst AllDistinct (sym (head_sids u.spaces t.spaces (arrives_moved t u q f place a).heads)) a.differ

    go : (r : Page) → IsThere (placement_of t) r → (was : Place) → entry_in t.spaces r ≡ Some was → u.spaces ≡ map (placed r place) t.spaces → slot_of (placement_of u) r ≡ page_shown u r place
    go (Data n v) th was e s =
        data_shown u.slots u.spaces n v differ ∙ ap (slot_or (slot_shown u.slots)) (ap (λ (ss : List Places). entry_in ss (Data n v)) s ∙ entry_same t.spaces (Data n v) place was e)
    go (Stack n v) th was e s =
        stack_shown u.slots u.spaces n v differ ∙ ap (slot_or (slot_shown u.slots)) (ap (λ (ss : List Places). entry_in ss (Stack n v)) s ∙ entry_same t.spaces (Stack n v) place was e)
    go (Text i v) th was e s =
        text_at u i v (subst (λ (fs : List Rattle.aout_image.specs.declared.Image.Image). v < pages_in 1 i fs) (sym a.facts) (text_within t i v th))
        ∙ ap (λ (o : Option Place). text_shown u.slots (is_saved (text_numbered u.texts i) v) (text_place_by o u.slots (Text i v) v))
        (ap (λ (ss : List Places). entry_in ss (Text i v)) s ∙ entry_same t.spaces (Text i v) place was e)

-- a data or stack page that is there has an entry
pub get_within : {A : Type 0} (xs : List A) (v : ℕ) → v < length xs → (x : A) × (slice_get xs v ≡ Some x)
get_within [] v l = absurd (omega arith)
get_within (x ∷ xs) zero l = (x, refl)
get_within (x ∷ xs) (suc v) l = get_within xs v (omega arith)

pub data_there : (slots : List Token) (ss : List Places) (n v : ℕ) → v < length (data_in (numbered space_number n (map (space_shown slots) ss)))
    → IsSome (entry_in ss (Data n v))
data_there slots [] n v l = absurd (omega arith)
data_there slots (s ∷ ss) n v l = elim (cases_eq s.sid n) [
  | inl e ↦
      let k : v < length s.data =
      let a = ap (λ (o : Option SpacePages). length (data_in o)) (hit n (space_shown slots s) (map (space_shown slots) ss) e) ∙ length_map (slot_shown slots) s.data in omega arith in
      let x = get_within s.data v k in
      subst IsSome (sym (ap (λ (o : Option Place). or_else o (entry_in ss (Data n v))) (data_hit s n v (sym e) ∙ x.1))) refl
  | inr d ↦
      let k : v < length (data_in (numbered space_number n (map (space_shown slots) ss))) =
      let a = ap (λ (o : Option SpacePages). length (data_in o)) (miss n (space_shown slots s) (map (space_shown slots) ss) d) in omega arith in
      subst IsSome (sym (ap (λ (o : Option Place). or_else o (entry_in ss (Data n v))) (data_miss s n v (λ e. d (sym e))))) (data_there slots ss n v k)
]

pub stack_there : (slots : List Token) (ss : List Places) (n v : ℕ) → v < length (stack_in (numbered space_number n (map (space_shown slots) ss)))
    → IsSome (entry_in ss (Stack n v))
stack_there slots [] n v l = absurd (omega arith)
stack_there slots (s ∷ ss) n v l = elim (cases_eq s.sid n) [
  | inl e ↦
      let k : v < length s.stack =
      let a = ap (λ (o : Option SpacePages). length (stack_in o)) (hit n (space_shown slots s) (map (space_shown slots) ss) e) ∙ length_map (slot_shown slots) s.stack in omega arith in
      let x = get_within s.stack v k in
      subst IsSome (sym (ap (λ (o : Option Place). or_else o (entry_in ss (Stack n v))) (stack_hit s n v (sym e) ∙ x.1))) refl
  | inr d ↦
      let k : v < length (stack_in (numbered space_number n (map (space_shown slots) ss))) =
      let a = ap (λ (o : Option SpacePages). length (stack_in o)) (miss n (space_shown slots s) (map (space_shown slots) ss) d) in omega arith in
      subst IsSome (sym (ap (λ (o : Option Place). or_else o (entry_in ss (Stack n v))) (stack_miss s n v (λ e. d (sym e))))) (stack_there slots ss n v k)
]
