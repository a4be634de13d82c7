-- A page takes the first free frame, into which it is read.
use Rattle.std.proofs.Common.{◌≡◌, inl, inr, ℕ, ◌-◌, Bool, false, List, [], ◌∷◌, ◌++◌, length, map, set, Option, Some, None, IsSome, refl, sym, ap, ◌∙◌, subst, arith}
use Rattle.std.specs.List.{range_with_len}
use Rattle.std.proofs.lemmas.List.{length-set, get_or-set_other, map-append}
use Rattle.vm_facts.specs.declared.page.Page.{Page}
use Rattle.vm_facts.specs.declared.page.Page.TheVariants.{Data, Stack, Text}
use Rattle.vm_facts.specs.declared.page.PageState.TheVariants.{Coming}
use Rattle.vax_pte.specs.declared.Place.TheVariants as places
use Rattle.frame_state.specs.Frame.{Frame}
use Rattle.core_map.specs.declared.slot.Slot.{Slot as Token}
use Rattle.core_map.specs.declared.slot.Slot.TheVariants as tokens
use Rattle.core_map.specs.Slots.{slot_at}
use Rattle.core_map.specs.Frames.{IsSoundMap}
use Rattle.text_table.specs.Texts.{is_saved, text_numbered}
use Rattle.page_model.specs.Frames.{set_frame}
use Rattle.vm_facts.specs.Lists.{times, without}
use Rattle.page_model.specs.Pages.{Slot, Zeros, frame_of}
use Rattle.page_model.specs.Placement.{Placement, Transfer, Part, Errand, Reads, Source, state_of, mark_of, IsThere, parts_of, flying, flying, moving, put}
use Rattle.page_model.specs.Moves.{evict, enter}
use Rattle.page_model.specs.Steps.{get_one, get_at, join_last}
use Rattle.page_model.specs.Conditions.{CanEnter, IsShared}
use Rattle.flat_state.specs.Numbers.{AllDistinct}
use Rattle.kernel_laws.proofs.Frames.{flying-append, without_head}
use Rattle.kernel_laws.proofs.PageLawsOwnershipPages.{get_owner}
use Rattle.kernel_laws.proofs.Parts.{IsOpen, parts_join}
use Rattle.kernel_laws.proofs.PageLawsMovesSteps.{EvictRest, evict_rest, frameless_clean}
use Rattle.kernel_laws.proofs.PageLawsBlocksSteps.{get_aside}
use Rattle.kernel_tables.specs.Shown.{entry_in}
use Rattle.table_view.specs.Shown.{is_away, idle_state}
use Rattle.kernel_tables.specs.View.{Lists, Flown, flown_number, flown_at, page_by, page_held, placement_of, frames_of, bytes_held, bytes_by}
use Rattle.kernel_tables.specs.Tied.{Tied}
use Rattle.kernel_tables.specs.Known.{Known}
use Rattle.kernel_tables.specs.Steps.{evicted, taken_frame, coming}
use Rattle.kernel_tables.proofs.Entries.{placed_heads}
use Rattle.kernel_tables.proofs.Shows.{SameLists, segments_are, frames_set, text_at, text_within, head_sids}
use Rattle.kernel_tables.proofs.Held.{placement_ext, flown_more, flown_last}
use Rattle.kernel_tables.proofs.Arrives.{page_shown, Arrives, arrives_moved, arrived, data_there, stack_there}
use Rattle.kernel_tables.proofs.Evicts.{Head}
use Rattle.kernel_tables.proofs.Fills.{Took, took_is, took_apart, took_there}
use Rattle.kernel_tables.proofs.Likes.{placed_alike, evicted_alike, placed_filled, evicted_filled, frame_fits}
use Rattle.kernel_tables.proofs.Kept.{Ties, tied_still, still_there, evicted_there, evicted_heads}
use Rattle.kernel_tables.proofs.Marks.{marks_entered, set_resident}
use Rattle.core_map.specs.Slots.{slot_page as token_page}

-- a page of a space, or of text that a space shares, has an entry
pub shared_entry : (t : Lists) (q : Page) → Tied t → IsShared (placement_of t) q → IsThere (placement_of t) q → IsSome (entry_in t.spaces q)
shared_entry t (Data n v) k s there = data_there t.slots t.spaces n v there
shared_entry t (Stack n v) k s there = stack_there t.slots t.spaces n v there
shared_entry t (Text i v) k s there = k.shared i v s (text_within t i v there)

come_arrives : (t : Lists) (page : Option Page) (rest : List ℕ) (token : Frame) (q : Page) (ts : List Transfer) → Known t
    → Took t (taken_frame t token.number page rest) token.number → IsShared (placement_of t) q → IsThere (placement_of t) q
    → Arrives (taken_frame t token.number page rest) (coming (taken_frame t token.number page rest) token q ts) q token.number (places.Frame token.number false false)
come_arrives t page rest token q ts known k sh there = record {
  differ = k.differ;
  apart = λ r n. took_apart t (taken_frame t token.number page rest) token.number k r;
  slots = λ g n. refl;
  cached = λ i v n. refl;
  spaces = refl;
  saved = λ i v n l. refl;
  facts = refl;
  there = took_there t (taken_frame t token.number page rest) token.number q k there;
  entry = evicted_there t.texts page t.spaces q (shared_entry t q known.tied sh there);
}

-- the mark of a page with no frame stays: no data or stack page is dirty, and text is saved or not as before
come_shown : (t n : Lists) (q : Page) (f : ℕ) → Known t → n.texts ≡ t.texts → slot_at n.slots f ≡ tokens.Away → IsThere (placement_of t) q
    → frame_of (state_of (placement_of t) q) ≡ None
    → page_shown n q (places.Frame f false false) ≡ record { state = Coming f; mark = mark_of (placement_of t) q; filling = Zeros }
come_shown t n (Text i v) f k e a there fr =
    ap (λ (s : Token). let z : Slot = record { state = idle_state f (is_away s) false; mark = is_saved (text_numbered n.texts i) v; filling = Zeros } in z) a
    ∙ ap (λ (b : Bool). let z : Slot = record { state = Coming f; mark = b; filling = Zeros } in z)
    (ap (λ (x : List Rattle.text_table.specs.Texts.Text). is_saved (text_numbered x i) v) e ∙ sym (ap (λ (y : Slot). y.mark) (text_at t i v (text_within t i v there))))
come_shown t n x f k e a there fr =
    ap (λ (s : Token). let z : Slot = record { state = idle_state f (is_away s) false; mark = false; filling = Zeros } in z) a
    ∙ ap (λ (b : Bool). let z : Slot = record { state = Coming f; mark = b; filling = Zeros } in z) (sym (frameless_clean (placement_of t) x k.owns fr))

pub come_is : (t : Lists) (page : Option Page) (rest : List ℕ) (token was : Frame) (q : Page) (e : Errand) → Known t
    → Head t token.number was page rest → IsShared (placement_of t) q → CanEnter (placement_of t) q
    → placement_of (coming (taken_frame t token.number page rest) token q (join_last t.transfers e (record { page = q; frame = token.number })))
    ≡ get_one (placement_of t) e q
come_is t page rest token was q e known h sh can =
    let f : ℕ = token.number in
    let p : Placement = placement_of t in
    let u : Lists = taken_frame t f page rest in
    let ts : List Transfer = join_last t.transfers e (record { page = q; frame = f }) in
    let n : Lists = coming u token q ts in
    let k : Took t u f = took_is t f was page rest known h in
    let a : Arrives u n q f (places.Frame f false false) = come_arrives t page rest token q ts known k sh can.there in
    let s : SameLists n (put (placement_of u) q (Coming f) (mark_of p q)) =
    segments_are u n q f (Coming f) (mark_of p q) (arrives_moved u n q f (places.Frame f false false) a)
    (record { there = a.there; slot = arrived u n q f (places.Frame f false false) a ∙ come_shown t n q f known refl k.away can.there can.frameless }) in
    let absent : times f (map flown_number t.flown) ≡ 0 =
    let l = known.owns.once f (known.owns.frames f (let o = k.once in omega arith)) in
    let o = k.once in
    sym (ap (times f) known.numbers) ∙ omega arith in
    let here : page_held n f ≡ Some q =
    ap (λ (y : Token). page_by y (flown_at (t.flown ++ record { page = q; token = token } ∷ []) f)) k.away
    ∙ ap Rattle.kernel_tables.specs.View.page_flown (flown_last t.flown (record { page = q; token = token }) absent) in
    let r : EvictRest p (evict p f) = evict_rest p f in
    placement_ext (placement_of n) (enter (evict p f) q f (Coming f) (mark_of p q) ts)
    (s.spaces ∙ ap (λ (x : Placement). (put x q (Coming f) (mark_of p q)).spaces) k.place)
    (s.texts ∙ ap (λ (x : Placement). (put x q (Coming f) (mark_of p q)).texts) k.place)
    (frames_set None (page_held u) (page_held n) (length u.slots - 1) f
    (λ g d. ap (λ (o : Option Flown). page_by (slot_at u.slots g) o) (flown_more t.flown (record { page = q; token = token }) g d))
    ∙ ap (set_frame (placement_of u).holds f) here
    ∙ ap (λ (x : Placement). set_frame x.holds f (Some q)) k.place)
    (sym (ap (without f) (r.free ∙ k.free) ∙ without_head f u.free (sym (ap (times f) k.free) ∙ k.once)))
    refl
    (ap (λ (x : Placement). x.front) k.place)
    (ap (λ (x : Placement). x.back) k.place)
    (ap (λ (x : Placement). x.residents) k.place)
    (ap (λ (x : Placement). x.due) k.place)
    ∙ sym (ap (get_at p e q) h.free)

-- The bytes of the frames stay: those of the frame go with its token.
pub come_frames : (t : Lists) (page : Option Page) (rest : List ℕ) (token : Frame) (q : Page) (ts : List Transfer) → Known t
    → Head t token.number token page rest
    → frames_of (coming (taken_frame t token.number page rest) token q ts) ≡ frames_of t
come_frames t page rest token q ts known h =
    let f : ℕ = token.number in
    let u : Lists = taken_frame t f page rest in
    let n : Lists = coming u token q ts in
    let k : Took t u f = took_is t f token page rest known h in
    let absent : times f (map flown_number t.flown) ≡ 0 =
    let l = known.owns.once f (known.owns.frames f (let o = k.once in omega arith)) in
    let o = k.once in
    sym (ap (times f) known.numbers) ∙ omega arith in
    let same : (g : ℕ) → bytes_held n g ≡ bytes_held t g = λ g. elim (Rattle.std.proofs.lemmas.Bool.cases_eq g f) [
      | inl e ↦ subst (λ (m : ℕ). bytes_held n m ≡ bytes_held t m) (sym e)
          (ap (λ (y : Token). bytes_by y (flown_at (t.flown ++ record { page = q; token = token } ∷ []) f)) k.away
          ∙ ap Rattle.kernel_tables.specs.View.bytes_flown (flown_last t.flown (record { page = q; token = token }) absent)
          ∙ sym (ap (λ (y : Token). bytes_by y (flown_at t.flown f)) h.was))
      | inr d ↦ ap (λ (o : Option Flown). bytes_by (slot_at u.slots g) o) (flown_more t.flown (record { page = q; token = token }) g d)
          ∙ ap (λ (y : Token). bytes_by y (flown_at t.flown g)) (get_or-set_other t.slots f g tokens.Away tokens.Away d)
    ] in
    ap (λ (m : ℕ). map (bytes_held n) (range_with_len 1 m)) (ap (λ (m : ℕ). m - 1) (length-set t.slots f tokens.Away))
    ∙ Rattle.kernel_tables.proofs.Evicts.frames_same (bytes_held t) (bytes_held n) (range_with_len 1 (length t.slots - 1)) same

come_ties : (t : Lists) (page : Option Page) (rest : List ℕ) (token : Frame) (q : Page) (ts : List Transfer) → Known t
    → token_page (slot_at t.slots token.number) ≡ page → frame_of (state_of (placement_of t) q) ≡ None
    → Ties t (coming (taken_frame t token.number page rest) token q ts)
come_ties t page rest token q ts k e none = record {
  slots = length-set t.slots token.number tokens.Away;
  facts = refl;
  heads = placed_heads (evicted t.texts page t.spaces) q (places.Frame token.number false false) ∙ evicted_heads t.texts page t.spaces;
  entries = λ r x. still_there (evicted t.texts page t.spaces) q r (places.Frame token.number false false) (evicted_there t.texts page t.spaces r x);
  alike = λ h. placed_alike (evicted t.texts page t.spaces) q (places.Frame token.number false false) (evicted_alike t.texts page t.spaces h);
  filled =
      λ h. placed_filled t.facts (evicted t.texts page t.spaces) q (places.Frame token.number false false) (frame_fits q token.number false false) (evicted_filled t.facts t.texts page t.spaces h);
  counts = λ i. refl;
  marked = marks_entered t token.number token.number page rest q (places.Frame token.number false false) (coming (taken_frame t token.number page rest) token q ts) k e none (λ h d. refl) refl refl
      (λ a r mark h. absurd (let x = set_resident t.slots token.number tokens.Away a r mark h in cc));
  whole = λ x. x;
  once = λ x. x;
}

pub come_known : (t : Lists) (page : Option Page) (rest : List ℕ) (token was : Frame) (q demanded : Page) (source : Source) → Known t
    → Head t token.number was page rest → IsShared (placement_of t) q → CanEnter (placement_of t) q
    → IsOpen t.transfers (Reads source demanded) → IsSoundMap rest (set t.slots token.number tokens.Away)
    → Known (coming (taken_frame t token.number page rest) token q (join_last t.transfers (Reads source demanded) (record { page = q; frame = token.number })))
come_known t page rest token was q demanded source known h sh can latest core =
    let e : Errand = Reads source demanded in
    let x : Part = record { page = q; frame = token.number } in
    let n : Lists = coming (taken_frame t token.number page rest) token q (join_last t.transfers e x) in
    let is : placement_of n ≡ get_one (placement_of t) e q = come_is t page rest token was q e known h sh can in
    record {
      core = core;
      owns = subst Rattle.page_model.specs.Ownership.OwnsFrames (sym is) (get_owner (placement_of t) source demanded q known.owns can latest);
      aside = subst Rattle.page_model.specs.Ownership.TextAside (sym is) (get_aside (placement_of t) source demanded q known.owns can latest known.aside sh);
      tied = tied_still t n (come_ties t page rest token q (join_last t.transfers e x) known (ap token_page h.was) can.frameless) known.tied;
      differ = subst AllDistinct (sym (head_sids n.spaces t.spaces (come_ties t page rest token q (join_last t.transfers e x) known (ap token_page h.was) can.frameless).heads)) known.differ;
      numbers = ap flying (parts_join t.transfers e x latest) ∙ flying-append (parts_of t.transfers) (moving e x ∷ [])
          ∙ ap (λ (ns : List ℕ). ns ++ token.number ∷ []) known.numbers ∙ sym (map-append flown_number t.flown (record { page = q; token = token } ∷ []));
    }
