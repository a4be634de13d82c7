-- A page takes the first free frame, and is usable.
use Rattle.std.proofs.Common.{◌≡◌, ◌≢◌, ℕ, ◌-◌, ◌<◌, Bool, true, List, [], ◌∷◌, length, map, Option, Some, None, IsSome, refl, sym, ap, ◌∙◌, subst, arith}
use Rattle.std.specs.List.{range_with_len}
use Rattle.std.proofs.lemmas.List.{length-set, get_or-set_same, get_or-set_other}
use Rattle.vm_facts.specs.declared.page.Page.{Page}
use Rattle.vm_facts.specs.declared.page.Page.TheVariants.{Data, Stack, Text}
use Rattle.vm_facts.specs.declared.page.PageState.TheVariants.{Valid}
use Rattle.vax_pte.specs.declared.Place.TheVariants as places
use Rattle.frame_state.specs.Frame.{Frame}
use Rattle.core_map.specs.declared.slot.Slot.{Slot as Token}
use Rattle.core_map.specs.declared.slot.Slot.TheVariants as tokens
use Rattle.core_map.specs.Slots.{slot_at, slot_page as token_page}
use Rattle.page_model.specs.Frames.{set_frame}
use Rattle.vm_facts.specs.Lists.{times, without}
use Rattle.page_model.specs.Pages.{Slot, frame_of, filling_behind}
use Rattle.page_model.specs.Placement.{Placement, slot_of, state_of, page_of, IsThere, put}
use Rattle.page_model.specs.Moves.{evict, enter, fill, fill_at}
use Rattle.page_model.specs.Ownership.{OwnsFrames}
use Rattle.page_model.specs.PageBytes.{IsWritable}
use Rattle.flat_state.specs.Numbers.{AllDistinct}
use Rattle.kernel_laws.proofs.Frames.{without_head}
use Rattle.kernel_laws.proofs.Local.{none_some}
use Rattle.std.proofs.lemmas.Option.{same_Some}
use Rattle.kernel_laws.proofs.PageLawsMovesSteps.{EvictRest, evict_rest, evict_owner, evict_page}
use Rattle.kernel_tables.specs.Shown.{entry_in}
use Rattle.kernel_tables.specs.View.{Lists, flown_at, page_by, bytes_by, page_held, bytes_held, placement_of, frames_of}
use Rattle.kernel_tables.specs.Steps.{evicted, taken_frame, seated_in}
use Rattle.kernel_tables.proofs.Entries.{placed_heads}
use Rattle.kernel_tables.proofs.Shows.{SameLists, segments_are, frames_set, head_sids}
use Rattle.kernel_tables.proofs.Finds.{holding_set}
use Rattle.kernel_tables.proofs.Held.{placement_ext}
use Rattle.kernel_tables.proofs.Arrives.{page_shown, Arrives, arrives_moved, arrived, data_there, stack_there}
use Rattle.kernel_tables.specs.Known.{Known}
use Rattle.kernel_tables.specs.Rising.{sids_of}
use Rattle.kernel_tables.proofs.Evicts.{Head, evict_is, head_below, head_listed, other_held}

-- the tables once the first free frame was taken
pub record Took (t u : Lists) (f : ℕ) : Type 0 where
  pub place : placement_of u ≡ record (evict (placement_of t) f) { free = u.free }
  pub free : t.free ≡ f ∷ u.free
  pub away : slot_at u.slots f ≡ tokens.Away
  pub below : f < length u.slots
  pub differ : AllDistinct (sids_of u.spaces)
  pub owns : OwnsFrames (evict (placement_of t) f)
  pub once : times f t.free ≡ 1

evicted_sids : (t : Lists) (page : Option Page) → sids_of (evicted t.texts page t.spaces) ≡ sids_of t.spaces
evicted_sids t None = refl
evicted_sids t (Some e) = head_sids (evicted t.texts (Some e) t.spaces) t.spaces (placed_heads t.spaces e (Rattle.kernel_tables.specs.Steps.left_place t.texts e))

pub took_is : (t : Lists) (f : ℕ) (token : Frame) (page : Option Page) (rest : List ℕ) → Known t → Head t f token page rest
    → Took t (taken_frame t f page rest) f
took_is t f token page rest k h = record {
  place = evict_is t f token page rest k h;
  free = h.free;
  away = get_or-set_same t.slots f tokens.Away tokens.Away (head_below t f token page h.was);
  below = let l = head_below t f token page h.was in omega (arith, length-set t.slots f tokens.Away);
  differ = subst AllDistinct (sym (evicted_sids t page)) k.differ;
  owns = evict_owner (placement_of t) f k.owns (head_listed t f token page rest h);
  once =
      let l = head_listed t f token page rest h in
      let o = k.owns.once f (k.owns.frames f l) in
      omega arith;
}

-- nobody names the frame
pub took_apart : (t u : Lists) (f : ℕ) → Took t u f → (w : Page) → frame_of (state_of (placement_of u) w) ≢ Some f
took_apart t u f k w e =
    let named : page_of (evict (placement_of t) f) f ≡ Some w = k.owns.names w f (sym (ap (λ (p : Placement). frame_of (state_of p w)) k.place) ∙ e) in
    none_some w (sym (evict_page (placement_of t) f) ∙ named)

pub took_there : (t u : Lists) (f : ℕ) (q : Page) → Took t u f → IsThere (placement_of t) q → IsThere (placement_of u) q
took_there t u f q k there =
    let r : EvictRest (placement_of t) (evict (placement_of t) f) = evict_rest (placement_of t) f in
    subst (λ (p : Placement). IsThere p q) (sym k.place) (let s = r.sizes q in omega arith)

pub entry_there : (u : Lists) (q : Page) → IsWritable q → IsThere (placement_of u) q → IsSome (entry_in u.spaces q)
entry_there u (Data n v) w there = data_there u.slots u.spaces n v there
entry_there u (Stack n v) w there = stack_there u.slots u.spaces n v there
entry_there u (Text i v) w there = absurd w

seat_arrives : (t u : Lists) (token : Frame) (q : Page) (dirty : Bool) → Took t u token.number → IsWritable q → IsThere (placement_of t) q
    → Arrives u (seated_in u token q dirty) q token.number (places.Frame token.number true dirty)
seat_arrives t u token q dirty k w there = record {
  differ = k.differ;
  apart = λ r n. took_apart t u token.number k r;
  slots = λ g n. get_or-set_other u.slots token.number g (tokens.Resident token q dirty) tokens.Away n;
  cached = λ i v n. holding_set u.slots token.number (tokens.Resident token q dirty) (Text i v) (λ m. none_some (Text i v) (sym (ap token_page k.away) ∙ m)) (λ m. n (sym (same_Some q (Text i v) m)));
  spaces = refl;
  saved = λ i v n l. refl;
  facts = refl;
  there = took_there t u token.number q k there;
  entry = entry_there u q w (took_there t u token.number q k there);
}

seat_shown : (u : Lists) (q : Page) (f : ℕ) (dirty : Bool) → IsWritable q
    → page_shown u q (places.Frame f true dirty) ≡ record { state = Valid f; mark = dirty; filling = Rattle.page_model.specs.Pages.Zeros }
seat_shown u (Text i v) f dirty w = absurd w
seat_shown u _ f dirty w = refl

-- The page is in the frame: that is `enter`.
pub seat_is : (t u : Lists) (token : Frame) (q : Page) (dirty : Bool) → Took t u token.number → IsWritable q → IsThere (placement_of t) q
    → placement_of (seated_in u token q dirty)
    ≡ enter (evict (placement_of t) token.number) q token.number (Valid token.number) dirty (placement_of u).transfers
seat_is t u token q dirty k w there =
    let f : ℕ = token.number in
    let n : Lists = seated_in u token q dirty in
    let a : Arrives u n q f (places.Frame f true dirty) = seat_arrives t u token q dirty k w there in
    let s : SameLists n (put (placement_of u) q (Valid f) dirty) =
    segments_are u n q f (Valid f) dirty (arrives_moved u n q f (places.Frame f true dirty) a)
    (record { there = a.there; slot = arrived u n q f (places.Frame f true dirty) a ∙ seat_shown n q f dirty w }) in
    let count : length n.slots - 1 ≡ length u.slots - 1 = ap (λ (m : ℕ). m - 1) (length-set u.slots f (tokens.Resident token q dirty)) in
    let here : page_held n f ≡ Some q = ap (λ (y : Token). page_by y (flown_at u.flown f)) (get_or-set_same u.slots f (tokens.Resident token q dirty) tokens.Away k.below) in
    let r : EvictRest (placement_of t) (evict (placement_of t) f) = evict_rest (placement_of t) f in
    placement_ext (placement_of n) (enter (evict (placement_of t) f) q f (Valid f) dirty (placement_of u).transfers)
    (s.spaces ∙ ap (λ (p : Placement). (put p q (Valid f) dirty).spaces) k.place)
    (s.texts ∙ ap (λ (p : Placement). (put p q (Valid f) dirty).texts) k.place)
    (ap (λ (m : ℕ). map (page_held n) (range_with_len 1 m)) count
    ∙ frames_set None (page_held u) (page_held n) (length u.slots - 1) f (λ g d. other_held u f (tokens.Resident token q dirty) n.slots refl g d)
    ∙ ap (set_frame (placement_of u).holds f) here
    ∙ ap (λ (p : Placement). set_frame p.holds f (Some q)) k.place)
    (sym (ap (without f) (r.free ∙ k.free) ∙ without_head f u.free (sym (ap (times f) k.free) ∙ k.once)))
    refl
    (ap (λ (p : Placement). p.front) k.place)
    (ap (λ (p : Placement). p.back) k.place)
    (ap (λ (p : Placement). p.residents) k.place)
    (ap (λ (p : Placement). p.due) k.place)

-- The bytes of the frames.
pub seat_frames : (t u : Lists) (token : Frame) (q : Page) (dirty : Bool) → Took t u token.number
    → ((g : ℕ) → g ≢ token.number → bytes_held u g ≡ bytes_held t g) → length u.slots ≡ length t.slots
    → frames_of (seated_in u token q dirty) ≡ set_frame (frames_of t) token.number token.bytes
seat_frames t u token q dirty k same count =
    let f : ℕ = token.number in
    let n : Lists = seated_in u token q dirty in
    let counts : length n.slots - 1 ≡ length t.slots - 1 = ap (λ (m : ℕ). m - 1) (length-set u.slots f (tokens.Resident token q dirty) ∙ count) in
    let here : bytes_held n f ≡ token.bytes = ap (λ (y : Token). bytes_by y (flown_at u.flown f)) (get_or-set_same u.slots f (tokens.Resident token q dirty) tokens.Away k.below) in
    ap (λ (m : ℕ). map (bytes_held n) (range_with_len 1 m)) counts
    ∙ frames_set [] (bytes_held t) (bytes_held n) (length t.slots - 1) f
    (λ g d. ap (λ (y : Token). bytes_by y (flown_at u.flown g)) (get_or-set_other u.slots f g (tokens.Resident token q dirty) tokens.Away d) ∙ same g d)
    ∙ ap (set_frame (frames_of t) f) here

pub fill_is : (t u : Lists) (token : Frame) (q : Page) → Took t u token.number → IsWritable q → IsThere (placement_of t) q → u.transfers ≡ t.transfers
    → placement_of (seated_in u token q true) ≡ fill (placement_of t) q
fill_is t u token q k w there e =
    seat_is t u token q true k w there
    ∙ ap (λ (ts : List Rattle.page_model.specs.Placement.Transfer). enter (evict (placement_of t) token.number) q token.number (Valid token.number) true ts) e
    ∙ sym (ap (fill_at (placement_of t) q) k.free)
