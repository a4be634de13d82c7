-- The frames of a space's own pages.
use Rattle.std.proofs.Common.{◌≡◌, inl, inr, ◌⊎◌, ℕ, zero, suc, ◌+◌, ◌*◌, ◌^◌, ◌<◌, ◌≤◌, ◌==◌, Bool, true, false, cond, IsTrue, List, [], ◌∷◌, length, map, get_or, Option, Some, None, slice_get, option_map, refl, sym, ap, ◌∙◌, subst, arith}
use Rattle.std.specs.Prelude.{IfSome}
use Rattle.std.proofs.lemmas.List.{get_or_past}
use Rattle.vm_facts.specs.declared.page.Page.{Page}
use Rattle.vm_facts.specs.declared.page.Page.TheVariants.{Data, Stack, Text}
use Rattle.vm_facts.specs.declared.page.PageState.{PageState}
use Rattle.vm_facts.specs.declared.page.PageState.TheVariants.{Valid}
use Rattle.vm_facts.specs.declared.entry.Entry.{Entry}
use Rattle.vax_pte.specs.declared.Place.{Place}
use Rattle.vax_pte.specs.declared.Place.TheVariants as places
use Rattle.aout_image.specs.declared.Image.{Image}
use Rattle.aout_image.specs.Image.{text_pages_of}
use Rattle.core_map.specs.declared.slot.Slot.{Slot as Token}
use Rattle.core_map.specs.Slots.{slot_at, is_resident, token_of, IsWhole}
use Rattle.core_map.specs.Frames.{IsSoundMap}
use Rattle.space_map.specs.Space.{Places, place_in, entry_frame}
use Rattle.flat_state.specs.Numbers.{IsAbsent, AllDistinct}
use Rattle.page_model.specs.Pages.{Slot, SpacePages, numbered, no_slot, data_in, stack_in}
use Rattle.page_model.specs.Placement.{Placement, space_number, image_of, image_in, state_of, slots_of, slot_of}
use Rattle.page_model.specs.PageBytes.{IsWritable}
use Rattle.kernel_model.specs.Kernel.{Kernel}
use Rattle.kernel_tables.specs.declared.tables.Tables.{Tables}
use Rattle.kernel_tables.specs.Shown.{slot_shown, space_shown, entry_in}
use Rattle.table_view.specs.Shown.{is_away, idle_state, state_shown}
use Rattle.kernel_tables.specs.View.{Lists, pages_in, text_place_by, placement_of, frames_of, bytes_by, flown_at}
use Rattle.kernel_tables.specs.Rising.{sids_of, AreRising, IsHome}
use Rattle.kernel_tables.specs.Alike.{EachSpace, IsLikeFirst, IsFilled, facts_in}
use Rattle.kernel_tables.specs.Known.{Known}
use Rattle.kernel_tables.specs.Machine.{Stands, lists_of, kernel_by}
use Rattle.kernel_tables.specs.UserMemory.{bytes_of, text_len, data_len, stack_len, IsLaidOut, HasLengths, valid_frame, NamesFrames, IsOwnPage, IsHeld}
use Rattle.kernel_tables.proofs.Entries.{data_hit, stack_hit, text_hit}
use Rattle.kernel_tables.proofs.Shows.{slot_or, data_shown, stack_shown, texts_shown, text_length, text_at, text_within, sids_shown, length_map}
use Rattle.kernel_tables.proofs.Rising.{found_none, found_here, found_entry, data_of_space, stack_of_space}
use Rattle.kernel_tables.proofs.Held.{bytes_at, flown_numbers}
use Rattle.kernel_tables.proofs.Touches.{in_frame}
use Rattle.kernel_tables.proofs.Marks.{within}

pub known_by : (t : Tables) (j : List Entry) (b : Bool) → IsSoundMap t.core.free t.core.slots → Stands t j b → Known (lists_of t)
known_by t j b c s = record {
  core = c;
  owns = s.runs.sound.owner.frames;
  aside = s.runs.sound.owner.aside;
  tied = s.runs.tied;
  differ = subst AllDistinct (sids_shown t.core.slots t.spaces) s.runs.numbered.spaces_differ;
  numbers = flown_numbers t.ring;
}

-- The frame that an entry names, where its page is valid.

idle_frame : (f : ℕ) (a c : Bool) → valid_frame (idle_state f a c) ≡ None
idle_frame f false c = refl
idle_frame f true true = refl
idle_frame f true false = refl

place_frame : (slots : List Token) (x : Place) → valid_frame (state_shown slots x) ≡ entry_frame (Some x)
place_frame slots (places.Frame f false c) = idle_frame f (is_away (slot_at slots f)) c
place_frame slots _ = refl

slot_frame : (slots : List Token) (o : Option Place) → valid_frame (slot_or (slot_shown slots) o).state ≡ entry_frame o
slot_frame slots None = refl
slot_frame slots (Some x) = place_frame slots x

-- The space that stands at a place.

pub get_spaces : (ss : List Places) (i : ℕ) (d s : Places) → slice_get ss i ≡ Some s → get_or ss i d ≡ s
get_spaces [] i d s e = absurd cc
get_spaces (x ∷ xs) zero d s e = cc
get_spaces (x ∷ xs) (suc i) d s e = get_spaces xs i d s e

pub at_sid : (ss : List Places) (i : ℕ) (s : Places) → slice_get ss i ≡ Some s → slice_get (sids_of ss) i ≡ Some s.sid
at_sid [] i s e = absurd cc
at_sid (x ∷ xs) zero s e = let same : x ≡ s = cc in ap (λ (y : Places). Some y.sid) same
at_sid (x ∷ xs) (suc i) s e = at_sid xs i s e

at_image : (slots : List Token) (ss : List Places) (i : ℕ) (s : Places) → slice_get ss i ≡ Some s
    → slice_get (map (λ (x : SpacePages). x.image) (map (space_shown slots) ss)) i ≡ Some s.image
at_image slots [] i s e = absurd cc
at_image slots (x ∷ xs) zero s e = let same : x ≡ s = cc in ap (λ (y : Places). Some y.image) same
at_image slots (x ∷ xs) (suc i) s e = at_image slots xs i s e

pub at_each : (P : Places → Type 0) (ss : List Places) (i : ℕ) (s : Places) → EachSpace P ss → slice_get ss i ≡ Some s → P s
at_each P [] i s h e = absurd cc
at_each P (x ∷ xs) zero s h e = let same : x ≡ s = cc in subst P same h.0
at_each P (x ∷ xs) (suc i) s h e = at_each P xs i s h.1 e

pub facts_pages : (n image : ℕ) (facts : List Image) (x : Image) → facts_in n image facts ≡ Some x → pages_in n image facts ≡ text_pages_of x
facts_pages n image [] x e = absurd cc
facts_pages n image (f ∷ fs) x e = go (n == image) (λ k. facts_pages (n + 1) image fs x k) e
  where
    go : (b : Bool) → (facts_in (n + 1) image fs ≡ Some x → pages_in (n + 1) image fs ≡ text_pages_of x) → cond b (Some f) (facts_in (n + 1) image fs) ≡ Some x
        → cond b (text_pages_of f) (pages_in (n + 1) image fs) ≡ text_pages_of x
    go true more k = let same : f ≡ x = cc in ap text_pages_of same
    go false more k = more k

some_number : (n m : ℕ) → Some n ≡ Some m → n ≡ m
some_number n m e = cc

pub get_past : (xs : List Place) (v : ℕ) → length xs ≤ v → slice_get xs v ≡ None
get_past [] v l = refl
get_past (x ∷ xs) zero l = absurd (omega arith)
get_past (x ∷ xs) (suc v) l = get_past xs v (omega arith)

pub get_within : (xs : List Place) (v : ℕ) → v < length xs → (x : Place) × (slice_get xs v ≡ Some x)
get_within [] v l = absurd (omega arith)
get_within (x ∷ xs) zero l = (x, refl)
get_within (x ∷ xs) (suc v) l = get_within xs v (omega arith)

pub numbered_shown : (slots : List Token) (ss : List Places) (sid : ℕ)
    → numbered space_number sid (map (space_shown slots) ss) ≡ option_map (space_shown slots) (numbered (λ (s : Places). s.sid) sid ss)
numbered_shown slots [] sid = refl
numbered_shown slots (s ∷ ss) sid = go (s.sid == sid) (numbered_shown slots ss sid)
  where
    go : (b : Bool) → numbered space_number sid (map (space_shown slots) ss) ≡ option_map (space_shown slots) (numbered (λ (s : Places). s.sid) sid ss)
        → cond b (Some (space_shown slots s)) (numbered space_number sid (map (space_shown slots) ss)) ≡ option_map (space_shown slots) (cond b (Some s) (numbered (λ (s : Places). s.sid) sid ss))
    go true e = refl
    go false e = e

module _ (t : Lists) (i : ℕ) (s : Places) (k : Known t) (rising : AreRising (sids_of t.spaces)) (at : slice_get t.spaces i ≡ Some s) where
  own_number : (n : ℕ) → slice_get (map space_number (placement_of t).spaces) i ≡ Some n → n ≡ s.sid
  own_number n e = some_number n s.sid (sym e ∙ ap (λ (ns : List ℕ). slice_get ns i) (sids_shown t.slots t.spaces) ∙ at_sid t.spaces i s at)

  found : numbered (λ (x : Places). x.sid) s.sid t.spaces ≡ Some s
  found = found_here t.spaces s.sid i s rising (at_sid t.spaces i s at) ∙ ap (λ (x : Places). Some x) (get_spaces t.spaces i s s at)

  gone : (image v : ℕ) → (v < length (slots_of (placement_of t) (Text image v))) ⊎ (length (slots_of (placement_of t) (Text image v)) ≤ v) → (v < length (slots_of (placement_of t) (Text image v)) → ⊥)
      → slot_of (placement_of t) (Text image v) ≡ no_slot
  gone image v (inl l) n = absurd (n l)
  gone image v (inr q) n = get_or_past (slots_of (placement_of t) (Text image v)) v no_slot q

  text_frame : (image v : ℕ) → image ≡ s.image → length s.text ≡ text_pages_of s.facts → entry_frame (place_in s (Text image v)) ≡ valid_frame (state_of (placement_of t) (Text image v))
  text_frame image v same whole = elim (within v (length s.text)) [
    | inl l ↦
        let x = get_within s.text v l in
        let entry : place_in s (Text image v) ≡ Some x.0 = text_hit s image v same ∙ x.1 in
        let first : entry_in t.spaces (Text image v) ≡ Some x.0 = at_each (IsLikeFirst t.spaces) t.spaces i s k.tied.alike at image v x.0 entry in
        let pages : pages_in 1 image t.facts ≡ length s.text =
        ap (λ (n : ℕ). pages_in 1 n t.facts) same ∙ facts_pages 1 s.image t.facts s.facts (at_each (IsFilled t.facts) t.spaces i s k.tied.filled at).facts_are ∙ sym whole in
        ap entry_frame entry ∙ sym (place_frame t.slots x.0)
        ∙ sym (ap (λ (y : Slot). valid_frame y.state) (text_at t image v (omega arith)) ∙ ap (λ (o : Option Place). valid_frame (state_shown t.slots (text_place_by o t.slots (Text image v) v))) first)
    | inr p ↦
        let pages : pages_in 1 image t.facts ≡ length s.text =
        ap (λ (n : ℕ). pages_in 1 n t.facts) same ∙ facts_pages 1 s.image t.facts s.facts (at_each (IsFilled t.facts) t.spaces i s k.tied.filled at).facts_are ∙ sym whole in
        ap entry_frame (text_hit s image v same ∙ get_past s.text v p)
        ∙ sym (ap (λ (y : Slot). valid_frame y.state)
        (gone image v (within v (length (slots_of (placement_of t) (Text image v)))) (λ l. absurd (let w : v < pages_in 1 image t.facts = text_within t image v l in omega arith))))
  ]

  data_frame : (v : ℕ) → entry_frame (slice_get s.data v) ≡ valid_frame (state_of (placement_of t) (Data s.sid v))
  data_frame v =
      let entry : entry_in t.spaces (Data s.sid v) ≡ place_in s (Data s.sid v) = found_entry (Data s.sid v) s.sid (data_of_space s.sid v) t.spaces s rising found in
      ap entry_frame (sym (entry ∙ data_hit s s.sid v refl)) ∙ sym (slot_frame t.slots (entry_in t.spaces (Data s.sid v)))
      ∙ sym (ap (λ (y : Slot). valid_frame y.state) (data_shown t.slots t.spaces s.sid v k.differ))

  stack_frame : (v : ℕ) → entry_frame (slice_get s.stack v) ≡ valid_frame (state_of (placement_of t) (Stack s.sid v))
  stack_frame v =
      let entry : entry_in t.spaces (Stack s.sid v) ≡ place_in s (Stack s.sid v) = found_entry (Stack s.sid v) s.sid (stack_of_space s.sid v) t.spaces s rising found in
      ap entry_frame (sym (entry ∙ stack_hit s s.sid v refl)) ∙ sym (slot_frame t.slots (entry_in t.spaces (Stack s.sid v)))
      ∙ sym (ap (λ (y : Slot). valid_frame y.state) (stack_shown t.slots t.spaces s.sid v k.differ))

  shown : numbered space_number s.sid (placement_of t).spaces ≡ Some (space_shown t.slots s)
  shown = numbered_shown t.slots t.spaces s.sid ∙ ap (option_map (space_shown t.slots)) found

  image_shown : image_of (placement_of t) s.sid ≡ s.image
  image_shown = ap image_in shown

  pub names_frames : (sid : ℕ) → length s.text ≡ text_pages_of s.facts → slice_get (map space_number (placement_of t).spaces) i ≡ Some sid
      → NamesFrames (placement_of t) sid s
  names_frames sid whole number =
      let image : ℕ = image_of (placement_of t) s.sid in
      subst (λ (n : ℕ). NamesFrames (placement_of t) n s) (sym (own_number sid number))
      (record {
        text = λ v. ap entry_frame (sym (text_hit s image v image_shown)) ∙ text_frame image v image_shown whole;
        «data» = data_frame;
        stack = stack_frame;
      })

  text_shown : text_len (placement_of t) s.sid ≡ 1024 * text_pages_of s.facts
  text_shown =
      ap (λ (n : ℕ). bytes_of (placement_of t) (Text n 0)) image_shown
      ∙ ap (λ (xs : List Slot). 1024 * length xs) (texts_shown t 1 s.image t.facts)
      ∙ ap (λ (n : ℕ). 1024 * n) (text_length t s.image (pages_in 1 s.image t.facts) ∙ facts_pages 1 s.image t.facts s.facts (at_each (IsFilled t.facts) t.spaces i s k.tied.filled at).facts_are)

  pub laid_out : (x : Kernel) (sid image : ℕ) (a b c : ℕ) → x.place ≡ placement_of t → x.stopped ≡ false → slice_get (sids_of t.spaces) i ≡ Some sid
      → image ≡ s.image → a ≡ 1024 * text_pages_of s.facts → b ≡ 1024 * length s.data → c ≡ 1024 * length s.stack
      → a + b < 2 ^ 24 → c ≤ 0x80000 → IsLaidOut x i sid image a b c
  laid_out x sid image a b c place running number same text data_size stack_size low high =
      let own : sid ≡ s.sid = some_number sid s.sid (sym number ∙ at_sid t.spaces i s at) in
      record {
        running = running;
        number = ap (λ (p : Placement). slice_get (map space_number p.spaces) i) place ∙ ap (λ (ns : List ℕ). slice_get ns i) (sids_shown t.slots t.spaces) ∙ number;
        shares = ap (λ (p : Placement). slice_get (map (λ (y : SpacePages). y.image) p.spaces) i) place ∙ at_image t.slots t.spaces i s at ∙ ap (λ (n : ℕ). Some n) (sym same);
        image_is = same ∙ sym (ap (λ (p : Placement). image_of p sid) place ∙ ap (image_of (placement_of t)) own ∙ image_shown);
        text_is = text ∙ sym (ap (λ (p : Placement). text_len p sid) place ∙ ap (text_len (placement_of t)) own ∙ text_shown);
        data_is = data_size ∙ sym (ap (λ (p : Placement). data_len p sid) place ∙ ap (data_len (placement_of t)) own ∙ ap (λ (o : Option SpacePages). 1024 * length (data_in o)) shown
            ∙ ap (λ (n : ℕ). 1024 * n) (length_map (slot_shown t.slots) s.data));
        stack_is = stack_size ∙ sym (ap (λ (p : Placement). stack_len p sid) place ∙ ap (stack_len (placement_of t)) own ∙ ap (λ (o : Option SpacePages). 1024 * length (stack_in o)) shown
            ∙ ap (λ (n : ℕ). 1024 * n) (length_map (slot_shown t.slots) s.stack));
        low = low;
        high = high;
      }

-- a page has an index below the number of spaces
pub get_below : {A : Type 0} (xs : List A) (i : ℕ) (x : A) → slice_get xs i ≡ Some x → i < length xs
get_below [] i x e = absurd cc
get_below (y ∷ ys) zero x e = omega arith
get_below (y ∷ ys) (suc i) x e = let h = get_below ys i x e in omega arith

-- each number is that of a space
pub number_below : (p : Placement) (i sid : ℕ) → slice_get (map space_number p.spaces) i ≡ Some sid → i < length p.spaces
number_below p i sid e = let h = get_below (map space_number p.spaces) i sid e in let l = length_map space_number p.spaces in omega arith

pub space_below : (t : Lists) (i : ℕ) → i < length (placement_of t).spaces → i < length t.spaces
space_below t i h = let l = length_map (space_shown t.slots) t.spaces in omega arith

pub own_home : (t : Lists) (i : ℕ) (q : Page) → IsWritable q → IsOwnPage (placement_of t) i q → IsHome t.spaces i q
own_home t i (Data n v) w own = record {
  sid = n;
  named = refl;
  stands = record { in_range = space_below t i (number_below (placement_of t) i n own); number = ap (λ (ns : List ℕ). slice_get ns i) (sym (sids_shown t.slots t.spaces)) ∙ own };
}
own_home t i (Stack n v) w own = record {
  sid = n;
  named = refl;
  stands = record { in_range = space_below t i (number_below (placement_of t) i n own); number = ap (λ (ns : List ℕ). slice_get ns i) (sym (sids_shown t.slots t.spaces)) ∙ own };
}
own_home t i (Text n v) w own = absurd w

-- Bytes.

held_by : (p : Placement) (q : Page) (s : PageState) → state_of p q ≡ s → IfSome (valid_frame s) (IsHeld p)
held_by p q (Valid f) e = record { page = q; valid = e }
held_by p q _ e = tt

-- the frame of a valid page is held
pub held_frame : (p : Placement) (q : Page) (frame : Option ℕ) → frame ≡ valid_frame (state_of p q) → IfSome frame (IsHeld p)
held_frame p q frame e = subst (λ (o : Option ℕ). IfSome o (IsHeld p)) (sym e) (held_by p q (state_of p q) refl)

pub held_resident : (t : Lists) (f : ℕ) → Known t → IsHeld (placement_of t) f → IsTrue (is_resident (slot_at t.slots f))
held_resident t f k h = let i = in_frame t h.page f k h.valid in subst (λ (s : Token). IsTrue (is_resident s)) (sym i.resident) refl

pub held_bytes : (t : Lists) (f : ℕ) → Known t → IsHeld (placement_of t) f
    → (token_of (slot_at t.slots f)).bytes ≡ Rattle.page_model.specs.Frames.at_frame (frames_of t) f []
held_bytes t f k h =
    let i = in_frame t h.page f k h.valid in
    ap (λ (s : Token). (token_of s).bytes) i.resident ∙ sym (bytes_at t f i.above i.below ∙ ap (λ (s : Token). bytes_by s (flown_at t.flown f)) i.resident)

pub held_whole : (t : Lists) → Known t → (q : Page) (f : ℕ) → state_of (placement_of t) q ≡ Valid f
    → length (Rattle.page_model.specs.Frames.at_frame (frames_of t) f []) ≡ 1024
held_whole t k q f e =
    let i = in_frame t q f k e in
    sym (ap length (held_bytes t f k (record { page = q; valid = e }))) ∙ ap (λ (s : Token). length (token_of s).bytes) i.resident ∙ subst IsWhole i.resident (k.core.whole f)

-- the layout of a space, by the number of the space that stands there
pub layout_shown : (t : Tables) (j : List Entry) (b : Bool) (index sid image a c d : ℕ) → Known (lists_of t) → b ≡ false
    → slice_get (sids_of t.spaces) index ≡ Some sid → HasLengths t.spaces index image a c d
    → IsLaidOut (kernel_by t j b) index sid image a c d
layout_shown t j b index sid image a c d k running number h =
    laid_out (lists_of t) index h.space k h.rising h.at (kernel_by t j b) sid image a c d refl running number h.image_is h.text_is h.data_is h.stack_is h.low h.high

-- a space that the kernel has stands among all
pub stands_there : (slots : List Token) (ss : List Places) (sid : ℕ) → IsAbsent sid (sids_of ss) → numbered space_number sid (map (space_shown slots) ss) ≡ None
stands_there slots ss sid h = numbered_shown slots ss sid ∙ ap (option_map (space_shown slots)) (found_none ss sid h)
