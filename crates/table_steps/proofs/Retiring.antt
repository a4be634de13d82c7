-- The frame of a clean page goes to the tail of the free list.
use Rattle.std.proofs.Common.{◌≡◌, ◌≢◌, inl, inr, ℕ, Bool, true, false, cond, List, [], ◌∷◌, ◌++◌, map, set, Some, refl, sym, ap, ◌∙◌, subst, set-set}
use Rattle.std.proofs.lemmas.Bool.{cases_eq}
use Rattle.std.proofs.lemmas.List.{length-set, get_or-set_same, get_or-set_other}
use Rattle.vm_facts.specs.declared.page.Page.{Page}
use Rattle.vm_facts.specs.declared.page.Page.TheVariants.{Text}
use Rattle.vm_facts.specs.declared.page.PageState.TheVariants.{Valid, Invalid}
use Rattle.vax_pte.specs.declared.Place.TheVariants as places
use Rattle.frame_state.specs.Frame.{Frame}
use Rattle.core_map.specs.declared.slot.Slot.{Slot as Token}
use Rattle.core_map.specs.declared.slot.Slot.TheVariants as tokens
use Rattle.core_map.specs.Slots.{slot_at, token_of, slot_page as token_page}
use Rattle.space_map.specs.Space.{Places}
use Rattle.page_model.specs.Placement.{Placement, state_of, mark_of}
use Rattle.page_model.specs.Moves.{turn, retire, retire_to}
use Rattle.page_model.specs.Ownership.{is_marked_dirty}
use Rattle.std.proofs.lemmas.Option.{same_Some}
use Rattle.kernel_tables.specs.declared.tables.Tables.{Tables}
use Rattle.kernel_tables.specs.Shown.{placed}
use Rattle.kernel_tables.specs.TableViewShown.{is_away}
use Rattle.kernel_tables.specs.View.{Lists, flown_at, page_by, bytes_by, page_held, bytes_held, placement_of, frames_of}
use Rattle.kernel_tables.specs.Known.{Known}
use Rattle.kernel_tables.specs.Machine.{lists_of}
use Rattle.core_map.specs.Frames.{Frames}
use Rattle.kernel_tables.specs.Moves.{RestedPage}
use Rattle.kernel_tables.specs.Launches.{RetiredPage, MovedOn}
use Rattle.kernel_tables.proofs.Finds.{holding_set}
use Rattle.kernel_tables.proofs.Likes.{frame_fits}
use Rattle.table_steps.proofs.Landings.{rested_shown, text_mark}
use Rattle.kernel_tables.proofs.Stills.{images_heads}
use Rattle.table_steps.proofs.Residing.{Resides, resides_state}
use Rattle.table_steps.proofs.Turning.{Turning, turn_is, turn_frames, turn_heads, turn_tied}

abbrev pub retired : Lists → Page → ℕ → Frame → Lists
retired t q f token = record t { slots = set t.slots f (tokens.Free token (Some q)); free = t.free ++ f ∷ []; spaces = map (placed q (places.Frame f false false)) t.spaces }

pub retiring : (t : Lists) (q : Page) (f : ℕ) → Known t → (r : Resides t q f) → is_marked_dirty q (mark_of (placement_of t) q) ≡ false
    → Turning t (retired t q f r.token) q f (places.Frame f false false) (Invalid f) (mark_of (placement_of t) q)
retiring t q f k r clean =
    let x : Token = tokens.Free r.token (Some q) in
    let n : Lists = retired t q f r.token in
    let here : slot_at n.slots f ≡ x = get_or-set_same t.slots f x tokens.Away r.below in
    let other : (g : ℕ) → g ≢ f → slot_at n.slots g ≡ slot_at t.slots g = λ g d. get_or-set_other t.slots f g x tokens.Away d in
    record {
      known = k;
      shared = r.shared;
      named = r.named;
      others = other;
      count = length-set t.slots f x;
      cached = λ i v d. holding_set t.slots f x (Text i v) (λ e. d (same_Some (Text i v) q (sym e ∙ ap token_page r.slot))) (λ e. d (sym (same_Some q (Text i v) e)));
      held = λ g. elim (cases_eq g f) [
        | inl e ↦ subst (λ (m : ℕ). page_held n m ≡ page_held t m) (sym e) (ap (λ (y : Token). page_by y (flown_at t.flown f)) here ∙ sym (ap (λ (y : Token). page_by y (flown_at t.flown f)) r.slot))
        | inr d ↦ ap (λ (y : Token). page_by y (flown_at t.flown g)) (other g d)
      ];
      bytes = λ g. elim (cases_eq g f) [
        | inl e ↦ subst (λ (m : ℕ). bytes_held n m ≡ bytes_held t m) (sym e)
            (ap (λ (y : Token). bytes_by y (flown_at t.flown f)) here ∙ sym (ap (λ (y : Token). bytes_by y (flown_at t.flown f)) r.slot))
        | inr d ↦ ap (λ (y : Token). bytes_by y (flown_at t.flown g)) (other g d)
      ];
      spaces = refl;
      texts = refl;
      facts = refl;
      fills = refl;
      residents = refl;
      front = refl;
      back = refl;
      shows = rested_shown n q f (mark_of (placement_of t) q) (ap is_away here) clean (text_mark t q r.there);
      filling = λ y. refl;
      marks = λ m a r mark h. absurd (let y = sym here ∙ h in cc);
      fits = frame_fits q f false false;
    }

retire_as : (p : Placement) (q : Page) (f : ℕ) (v : Bool) → state_of p q ≡ cond v (Valid f) (Invalid f)
    → retire p q ≡ turn p q (Invalid f) (mark_of p q) (p.free ++ f ∷ []) p.transfers
retire_as p q f true e = ap (retire_to p q) e
retire_as p q f false e = ap (retire_to p q) e

pub retire_is : (t : Lists) (q : Page) (f : ℕ) → Known t → (r : Resides t q f) → is_marked_dirty q (mark_of (placement_of t) q) ≡ false
    → placement_of (retired t q f r.token) ≡ retire (placement_of t) q
retire_is t q f k r clean =
    turn_is t (retired t q f r.token) q f (places.Frame f false false) (Invalid f) (mark_of (placement_of t) q) (retiring t q f k r clean)
    ∙ sym (retire_as (placement_of t) q f r.valid (resides_state t q f r))

pub retired_lists : (t u : Tables) (q : Page) (f : ℕ) (r : Resides (lists_of t) q f) → RetiredPage t u q f → lists_of u ≡ retired (lists_of t) q f r.token
retired_lists t u q f r m =
    ap lists_of m.rest
    ∙ ap (λ (ss : List Token). record (lists_of t) { slots = ss; free = u.core.free; spaces = u.spaces }) (m.slots ∙ ap (λ (s : Token). set t.core.slots f (tokens.Free (token_of s) (Some q))) r.slot)
    ∙ ap (λ (fs : List ℕ). record (lists_of t) { slots = set t.core.slots f (tokens.Free r.token (Some q)); free = fs; spaces = u.spaces }) m.free
    ∙ ap (λ (ss : List Places). record (retired (lists_of t) q f r.token) { spaces = ss }) m.spaces

pub retire_moves : (t u : Tables) (q : Page) (f : ℕ) → Known (lists_of t) → Resides (lists_of t) q f
    → is_marked_dirty q (mark_of (placement_of (lists_of t)) q) ≡ false → RetiredPage t u q f
    → MovedOn t u (retire (placement_of (lists_of t)) q)
retire_moves t u q f k r clean m =
    let rest_wide : (t u : Tables) → u ≡ record t { core = u.core; spaces = u.spaces }
    → record t { core = u.core; spaces = u.spaces } ≡ record t { core = u.core; spaces = u.spaces; ring = u.ring; front = u.front; back = u.back } = λ t u e.
    ap (λ r. record t { core = u.core; spaces = u.spaces; ring = r }) (sym (ap (λ (x : Tables). x.ring) e))
    ∙ ap (λ (n : ℕ). record t { core = u.core; spaces = u.spaces; ring = u.ring; front = n }) (sym (ap (λ (x : Tables). x.front) e))
    ∙ ap (λ (n : ℕ). record t { core = u.core; spaces = u.spaces; ring = u.ring; front = u.front; back = n }) (sym (ap (λ (x : Tables). x.back) e)) in
    let l : Lists = lists_of t in
    let n : Lists = retired l q f r.token in
    let is : lists_of u ≡ n = retired_lists t u q f r m in
    let d = retiring l q f k r clean in
    let mark = mark_of (placement_of l) q in
    record {
      place = ap placement_of is ∙ retire_is l q f k r clean;
      frames = ap frames_of is ∙ turn_frames l n q f (places.Frame f false false) (Invalid f) mark d;
      tied = subst Rattle.kernel_tables.specs.Tied.Tied (sym is) (turn_tied l n q f (places.Frame f false false) (Invalid f) mark d);
      images = images_heads t u (ap (λ (x : Lists). map Rattle.kernel_tables.proofs.Entries.head_of x.spaces) is ∙ turn_heads l n q f (places.Frame f false false) (Invalid f) mark d);
      ring = inl (ap (λ (x : Tables). x.ring) m.rest);
      rest = m.rest ∙ rest_wide t u m.rest;
    }

-- From a frame that was lifted.
pub retired_by : (t u : Tables) (core : Frames) (token given : Frame) (q : Page) (f g : ℕ) → g ≡ f → token ≡ token_of (slot_at t.core.slots g)
    → token.number ≡ g → core.free ≡ t.core.free
    → core.slots ≡ set t.core.slots g tokens.Away → given ≡ token
    → RestedPage (record t { core = core }) u given q → RetiredPage t u q f
retired_by t u core token given q f g e is number free slots same m =
    let n : given.number ≡ f = ap (λ (x : Frame). x.number) same ∙ number ∙ e in
    record {
      free = m.free ∙ ap (λ (fs : List ℕ). fs ++ given.number ∷ []) free ∙ ap (λ (k : ℕ). t.core.free ++ k ∷ []) n;
      slots = m.slots
          ∙ ap (λ (ss : List Token). set ss given.number (tokens.Free given (Some q))) slots
          ∙ ap (λ (k : ℕ). set (set t.core.slots g tokens.Away) k (tokens.Free given (Some q))) n
          ∙ ap (λ (k : ℕ). set (set t.core.slots k tokens.Away) f (tokens.Free given (Some q))) e
          ∙ set-set t.core.slots f tokens.Away (tokens.Free given (Some q))
          ∙ ap (λ (x : Frame). set t.core.slots f (tokens.Free x (Some q))) (same ∙ is ∙ ap (λ (k : ℕ). token_of (slot_at t.core.slots k)) e);
      spaces = m.spaces ∙ ap (λ (k : ℕ). map (placed q (places.Frame k false false)) t.spaces) n;
      rest = m.rest;
    }
