-- A user write of one byte.
use Rattle.std.proofs.Common.{◌≡◌, inl, inr, ℕ, ◌+◌, ◌-◌, ◌<◌, ◌≤◌, Bool, true, List, [], length, map, set, Some, None, refl, sym, ap, ◌∙◌, subst, arith}
use Rattle.std.specs.List.{range_with_len}
use Rattle.std.proofs.lemmas.Bool.{cases_eq}
use Rattle.std.proofs.lemmas.List.{length-set, get_or-set_same, get_or-set_other}
use Rattle.vm_facts.specs.declared.page.Page.{Page}
use Rattle.vm_facts.specs.declared.page.Page.TheVariants.{Text}
use Rattle.vm_facts.specs.declared.page.PageState.{PageState}
use Rattle.vm_facts.specs.declared.page.PageState.TheVariants.{Valid}
use Rattle.vax_pte.specs.declared.Place.{Place}
use Rattle.vax_pte.specs.declared.Place.TheVariants as places
use Rattle.frame_state.specs.Frame.{Frame}
use Rattle.core_map.specs.declared.slot.Slot.{Slot as Token}
use Rattle.core_map.specs.declared.slot.Slot.TheVariants as tokens
use Rattle.core_map.specs.Slots.{slot_at, slot_page as token_page, listings}
use Rattle.page_model.specs.Frames.{set_frame, at_frame}
use Rattle.vm_facts.specs.Lists.{times}
use Rattle.page_model.specs.Pages.{Zeros, frame_of}
use Rattle.page_model.specs.Placement.{Placement, state_of, page_of, IsThere, parts_of, flying, put}
use Rattle.page_model.specs.Moves.{touch, touch_to, turn}
use Rattle.page_model.specs.Ownership.{seats}
use Rattle.page_model.specs.PageBytes.{IsWritable}
use Rattle.kernel_laws.proofs.Local.{none_some}
use Rattle.std.proofs.lemmas.Option.{same_Some}
use Rattle.kernel_laws.proofs.PageLawsMovesSteps.{page_in, once_at}
use Rattle.kernel_tables.specs.Shown.{placed}
use Rattle.kernel_tables.specs.View.{Lists, Flown, flown_number, flown_at, page_by, bytes_by, page_held, bytes_held, placement_of, frames_of}
use Rattle.kernel_tables.specs.Known.{Known}
use Rattle.kernel_tables.proofs.Shows.{SameLists, segments_are, frames_set}
use Rattle.kernel_tables.proofs.Finds.{holding_set}
use Rattle.kernel_tables.proofs.Held.{held_at, bytes_at, below_length, not_flown, placement_ext}
use Rattle.kernel_tables.proofs.Arrives.{page_shown, Arrives, arrives_moved, arrived}
use Rattle.kernel_tables.proofs.Evicts.{frames_same}
use Rattle.kernel_tables.proofs.Fills.{entry_there}

-- The token of a valid page is resident.
pub record InFrame (t : Lists) (q : Page) (f : ℕ) : Type 0 where
  pub token : Frame
  pub dirty : Bool
  pub resident : slot_at t.slots f ≡ tokens.Resident token q dirty
  pub above : 0 < f
  pub below : f < length t.slots

pub in_frame : (t : Lists) (q : Page) (f : ℕ) → Known t → state_of (placement_of t) q ≡ Valid f → InFrame t q f
in_frame t q f k e = go (slot_at t.slots f) refl
  where
    holds : page_of (placement_of t) f ≡ Some q
    holds = k.owns.names q f (ap frame_of e)

    once : times f t.free + times f (flying (parts_of t.transfers)) + 1 ≡ 1
    once = subst (λ (s : PageState). times f t.free + times f (flying (parts_of t.transfers)) + seats (times f t.free) s ≡ 1) e (once_at (placement_of t) q f k.owns (ap frame_of e))

    there : (0 < f) × (f ≤ length (placement_of t).holds)
    there = Rattle.kernel_laws.proofs.PageLawsMovesSteps.frame_in (placement_of t) q f holds

    below : f < length t.slots
    below = let a = there.1 in let b = Rattle.kernel_tables.proofs.Held.holds_length t in let c = there.0 in omega arith

    held : page_held t f ≡ Some q
    held = sym (held_at t f there.0 below) ∙ holds

    grounded : flown_at t.flown f ≡ None
    grounded = not_flown t.flown f (sym (ap (times f) k.numbers) ∙ (let o = once in omega arith))

    go : (s : Token) → slot_at t.slots f ≡ s → InFrame t q f
    go (tokens.Free token page) h = absurd (let a = k.core.listed f ∙ ap listings h in let o = once in omega arith)
    go tokens.Away h = none_some q (sym (ap (λ (s : Token). page_by s (flown_at t.flown f)) h ∙ ap Rattle.kernel_tables.specs.View.page_flown grounded) ∙ held)
    go (tokens.Resident token page dirty) h =
        let same : page ≡ q = same_Some page q (sym (ap (λ (s : Token). page_by s (flown_at t.flown f)) h) ∙ held) in
        record { token = token; dirty = dirty; resident = h ∙ ap (λ (r : Page). tokens.Resident token r dirty) same; above = there.0; below = below }

-- The lists after the write.
abbrev pub written : Lists → Page → ℕ → Token → Lists
written t q f s = record t { slots = set t.slots f s; spaces = map (placed q (places.Frame f true true)) t.spaces }

write_shown : (t : Lists) (q : Page) (f : ℕ) → IsWritable q
    → page_shown t q (places.Frame f true true) ≡ record { state = Valid f; mark = true; filling = Zeros }
write_shown t (Text i v) f w = absurd w
write_shown t _ f w = refl

touch_is : (p : Placement) (q : Page) (f : ℕ) → IsWritable q → touch_to p q (Valid f) ≡ turn p q (Valid f) true p.free p.transfers
touch_is p (Text i v) f w = absurd w
touch_is p _ f w = refl

pub write_place : (t : Lists) (q : Page) (f : ℕ) (token : Frame) → Known t → IsWritable q → (e : state_of (placement_of t) q ≡ Valid f)
    → InFrame t q f → placement_of (written t q f (tokens.Resident token q true)) ≡ touch (placement_of t) q
write_place t q f token k w e i =
    let p : Placement = placement_of t in
    let s : Token = tokens.Resident token q true in
    let n : Lists = written t q f s in
    let place : Place = places.Frame f true true in
    let holds : page_of p f ≡ Some q = k.owns.names q f (ap frame_of e) in
    let there : IsThere p q = page_in p q f (ap frame_of e) in
    let a : Arrives t n q f place = record {
      differ = k.differ;
      apart = λ r d m. d (same_Some r q (sym (k.owns.names r f m) ∙ holds));
      slots = λ g d. get_or-set_other t.slots f g s tokens.Away d;
      cached = λ x v d. holding_set t.slots f s (Text x v) (λ m. d (same_Some (Text x v) q (sym m ∙ ap token_page i.resident))) (λ m. d (sym (same_Some q (Text x v) m)));
      spaces = refl;
      saved = λ x v d l. refl;
      facts = refl;
      there = there;
      entry = entry_there t q w there;
    } in
    let l : SameLists n (put p q (Valid f) true) =
    segments_are t n q f (Valid f) true (arrives_moved t n q f place a) (record { there = there; slot = arrived t n q f place a ∙ write_shown n q f w }) in
    placement_ext (placement_of n) (turn p q (Valid f) true p.free p.transfers) l.spaces l.texts
    (ap (λ (m : ℕ). map (page_held n) (range_with_len 1 (m - 1))) (length-set t.slots f s)
    ∙ frames_same (page_held t) (page_held n) (range_with_len 1 (length t.slots - 1)) (λ g. elim (cases_eq g f) [
      | inl h ↦ subst (λ (m : ℕ). page_held n m ≡ page_held t m) (sym h)
          (ap (λ (y : Token). page_by y (flown_at t.flown f)) (get_or-set_same t.slots f s tokens.Away i.below) ∙ sym (ap (λ (y : Token). page_by y (flown_at t.flown f)) i.resident))
      | inr d ↦ ap (λ (y : Token). page_by y (flown_at t.flown g)) (get_or-set_other t.slots f g s tokens.Away d)
    ]))
    refl refl refl refl refl refl
    ∙ sym (ap (touch_to p q) e ∙ touch_is p q f w)

pub write_frames : (t : Lists) (q : Page) (f at byte : ℕ) (i : InFrame t q f)
    → frames_of (written t q f (tokens.Resident (record i.token { bytes = set i.token.bytes at byte }) q true))
    ≡ set_frame (frames_of t) f (set (at_frame (frames_of t) f []) at byte)
write_frames t q f at byte i =
    let s : Token = tokens.Resident (record i.token { bytes = set i.token.bytes at byte }) q true in
    let n : Lists = written t q f s in
    let was : at_frame (frames_of t) f [] ≡ i.token.bytes = bytes_at t f i.above i.below ∙ ap (λ (y : Token). bytes_by y (flown_at t.flown f)) i.resident in
    ap (λ (m : ℕ). map (bytes_held n) (range_with_len 1 (m - 1))) (length-set t.slots f s)
    ∙ frames_set [] (bytes_held t) (bytes_held n) (length t.slots - 1) f (λ g d. ap (λ (y : Token). bytes_by y (flown_at t.flown g)) (get_or-set_other t.slots f g s tokens.Away d))
    ∙ ap (set_frame (frames_of t) f) (ap (λ (y : Token). bytes_by y (flown_at t.flown f)) (get_or-set_same t.slots f s tokens.Away i.below) ∙ sym (ap (λ (bs : List ℕ). set bs at byte) was))
