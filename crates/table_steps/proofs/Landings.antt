-- The pages of a transfer that was completed land, one after another.
use Rattle.std.proofs.Common.{◌≡◌, ◌≢◌, inl, inr, ℕ, zero, suc, ◌+◌, ◌-◌, ◌<◌, ◌≤◌, ◌^◌, Bool, true, false, List, [], ◌∷◌, ◌++◌, length, map, take, drop, set, get_or, Some, refl, sym, ap, ◌∙◌, subst, arith}
use Rattle.std.proofs.lemmas.Bool.{cases_eq}
use Rattle.std.proofs.lemmas.List.{length-set, get_or-set_same, get_or-set_other}
use Rattle.vm_facts.specs.declared.page.Page.{Page}
use Rattle.vm_facts.specs.declared.page.Page.TheVariants.{Data, Text}
use Rattle.vm_facts.specs.declared.page.PageState.{PageState}
use Rattle.vm_facts.specs.declared.page.PageState.TheVariants.{Valid, Invalid}
use Rattle.vax_pte.specs.declared.Place.{Place}
use Rattle.vax_pte.specs.declared.Place.TheVariants as places
use Rattle.frame_state.specs.Frame.{Frame}
use Rattle.core_map.specs.declared.slot.Slot.{Slot as Token}
use Rattle.core_map.specs.declared.slot.Slot.TheVariants as tokens
use Rattle.core_map.specs.Slots.{slot_at}
use Rattle.core_map.specs.Frames.{IsSoundMap, IsAway, HoldsNot}
use Rattle.kernel_tables.proofs.Knows.{text_low}
use Rattle.space_map.specs.Space.{Places}
use Rattle.text_table.specs.Texts.{IsTextTable, is_saved, text_numbered, marked, unused_text, Text as SharedText}
use Rattle.transfer_ring.specs.declared.transfer.Inbound.{Inbound}
use Rattle.transfer_ring.specs.declared.transfer.Outbound.{Outbound}
use Rattle.page_model.specs.Pages.{Slot, Zeros, written_mark}
use Rattle.flat_state.specs.PageNames.{same_page}
use Rattle.page_model.specs.Placement.{Placement, Transfer, Part, Errand, Writes, Reads, mark_of, parts_of, flying, IsThere}
use Rattle.page_model.specs.Moves.{turn, land_all, arrived_mark}
use Rattle.page_model.specs.Steps.{land_then, land_read_then, land_all_then}
use Rattle.page_model.specs.Ownership.{OwnsFrames, is_marked_dirty}
use Rattle.flat_state.specs.Numbers.{AllDistinct}
use Rattle.page_laws.proofs.Ownership.Runs.{Landing as LandingPart, land_owner, landing_state, coming_clean, written_clean}
use Rattle.page_laws.proofs.Blocks.Steps.{land_aside}
use Rattle.page_laws.proofs.Moves.InSteps.{land_steps}
use Rattle.kernel_tables.specs.declared.tables.Tables.{Tables}
use Rattle.kernel_tables.specs.Shown.{placed}
use Rattle.kernel_tables.specs.TableViewShown.{is_away, idle_state}
use Rattle.kernel_tables.specs.View.{Lists, Flown, flown_number, in_part, out_part, inbound_flown, outbound_flown, transfer_shown, flown, placement_of, frames_of}
use Rattle.kernel_tables.specs.Tied.{Tied}
use Rattle.kernel_tables.specs.Known.{Known}
use Rattle.kernel_tables.specs.Steps.{landed, saved_texts, arrives_dirty, source_by}
use Rattle.kernel_tables.specs.Machine.{lists_of, image_at}
use Rattle.kernel_tables.specs.Moves.{SeatedPage, RestedPage, LandedIn, LandedOut, LandedAll, closing, closing_in, closing_out}
use Rattle.kernel_tables.proofs.Entries.{head_of, placed_heads}
use Rattle.kernel_tables.proofs.Shows.{text_at, text_within, head_sids}
use Rattle.kernel_tables.proofs.Arrives.{page_shown}
use Rattle.kernel_tables.proofs.Likes.{placed_alike, placed_filled, frame_fits}
use Rattle.kernel_tables.proofs.Kept.{Ties, tied_still, still_there}
use Rattle.table_steps.proofs.Flights.{InFlight, in_flight}
use Rattle.table_steps.proofs.Lands.{Landing, land_is, land_frames}
use Rattle.kernel_tables.proofs.Stills.{images_heads}
use Rattle.kernel_tables.proofs.Marks.{placed_mark, marks_placed, marks_here, alone_in, set_resident, resident_page, resident_mark}
use Rattle.kernel_tables.proofs.Knows.{texts_here}
use Rattle.kernel_tables.proofs.Comes.{shared_entry}
use Rattle.page_laws.proofs.Moves.Steps.{page_in}

-- Text that was written is saved.

pub save_marked : (ts : List SharedText) (i v : ℕ) → IsTextTable ts → (1 ≤ i) × (i ≤ 16) × (v < 2048)
    → is_saved (text_numbered (saved_texts ts (Text i v)) i) v ≡ true
save_marked ts i v t l =
    let a = t.images in
    let b = t.pages i in
    let low = l.0 in
    let high = l.1 in
    let within = l.2 in
    ap (λ (x : SharedText). is_saved x v) (get_or-set_same ts (i - 1) (marked (text_numbered ts i) v true) unused_text (omega arith))
    ∙ get_or-set_same (text_numbered ts i).saved v true false (omega arith)

pub save_others : (ts : List SharedText) (q : Page) (j w : ℕ) → ((i v : ℕ) → q ≡ Text i v → IsTextTable ts)
    → ((i v : ℕ) → q ≡ Text i v → (1 ≤ i) × (i ≤ 16) × (v < 2048)) → 1 ≤ j → Text j w ≢ q
    → is_saved (text_numbered (saved_texts ts q) j) w ≡ is_saved (text_numbered ts j) w
save_others ts (Text i v) j w t l m d = elim (cases_eq j i) [
  | inl e ↦
      let other : w ≢ v = λ h. d (ap (λ (x : ℕ). Text x w) e ∙ ap (λ (x : ℕ). Text i x) h) in
      let table : IsTextTable ts = t i v refl in
      let a = table.images in
      let low = (l i v refl).0 in
      let high = (l i v refl).1 in
      subst (λ (x : ℕ). is_saved (text_numbered (saved_texts ts (Text i v)) x) w ≡ is_saved (text_numbered ts x) w) (sym e)
      (ap (λ (x : SharedText). is_saved x w) (get_or-set_same ts (i - 1) (marked (text_numbered ts i) v true) unused_text (omega arith))
      ∙ get_or-set_other (text_numbered ts i).saved v w true false other)
  | inr n ↦
      let low = (l i v refl).0 in
      ap (λ (x : SharedText). is_saved x w) (get_or-set_other ts (i - 1) (j - 1) (marked (text_numbered ts i) v true) unused_text (λ h. n (omega arith)))
]
save_others ts _ j w t l m d = refl

pub save_counts : (ts : List SharedText) (q : Page) → ((i v : ℕ) → q ≡ Text i v → (1 ≤ i) × (i ≤ 16) × (v < 2048)) → (j : ℕ)
    → (text_numbered (saved_texts ts q) j).sharers ≡ (text_numbered ts j).sharers
save_counts ts (Text i v) l j =
    let within : (a b : ℕ) → Rattle.std.proofs.Common.◌⊎◌ (a < b) (b ≤ a) = λ a b. grind arith in
    elim (cases_eq (j - 1) (i - 1)) [
      | inl e ↦ elim (within (i - 1) (length ts)) [
        | inl m ↦ subst (λ (x : ℕ). (get_or (set ts (i - 1) (marked (text_numbered ts i) v true)) x unused_text).sharers ≡ (get_or ts x unused_text).sharers) (sym e)
            (ap (λ (x : SharedText). x.sharers) (get_or-set_same ts (i - 1) (marked (text_numbered ts i) v true) unused_text m))
        | inr m ↦ ap (λ (xs : List SharedText). (get_or xs (j - 1) unused_text).sharers) (set_past ts (i - 1) (marked (text_numbered ts i) v true) m)
      ]
      | inr n ↦ ap (λ (x : SharedText). x.sharers) (get_or-set_other ts (i - 1) (j - 1) (marked (text_numbered ts i) v true) unused_text n)
    ]
  where
    set_past : (xs : List SharedText) (k : ℕ) (x : SharedText) → length xs ≤ k → set xs k x ≡ xs
    set_past [] k x h = refl
    set_past (y ∷ ys) zero x h = absurd (omega arith)
    set_past (y ∷ ys) (suc k) x h = ap (λ (zs : List SharedText). y ∷ zs) (set_past ys k x (omega arith))
save_counts ts _ l j = refl

-- What a page that landed shows.

valid_shown : (n : Lists) (q : Page) (f : ℕ) (b m : Bool) → is_marked_dirty q m ≡ false → ((i v : ℕ) → q ≡ Text i v → m ≡ is_saved (text_numbered n.texts i) v)
    → page_shown n q (places.Frame f true (arrives_dirty n.texts q b)) ≡ record { state = Valid f; mark = arrived_mark (source_by b) q m; filling = Zeros }
valid_shown n (Text i v) f true m c t = ap (λ (x : Bool). let z : Slot = record { state = Valid f; mark = x; filling = Zeros } in z) (sym (t i v refl))
valid_shown n _ f true m c t = refl
valid_shown n (Text i v) f false m c t = ap (λ (x : Bool). let z : Slot = record { state = Valid f; mark = x; filling = Zeros } in z) (sym (t i v refl))
valid_shown n _ f false m c t = ap (λ (x : Bool). let z : Slot = record { state = Valid f; mark = x; filling = Zeros } in z) (sym c)

pub rested_shown : (n : Lists) (q : Page) (f : ℕ) (m : Bool) → is_away (slot_at n.slots f) ≡ false → is_marked_dirty q m ≡ false
    → ((i v : ℕ) → q ≡ Text i v → m ≡ is_saved (text_numbered n.texts i) v)
    → page_shown n q (places.Frame f false false) ≡ record { state = Invalid f; mark = m; filling = Zeros }
rested_shown n (Text i v) f m a c t =
    ap (λ (x : Bool). let z : Slot = record { state = idle_state f x false; mark = is_saved (text_numbered n.texts i) v; filling = Zeros } in z) a
    ∙ ap (λ (x : Bool). let z : Slot = record { state = Invalid f; mark = x; filling = Zeros } in z) (sym (t i v refl))
rested_shown n _ f m a c t =
    ap (λ (x : Bool). let z : Slot = record { state = idle_state f x false; mark = false; filling = Zeros } in z) a
    ∙ ap (λ (x : Bool). let z : Slot = record { state = Invalid f; mark = x; filling = Zeros } in z) (sym c)

seat_mark : (ts : List SharedText) (f : ℕ) (b : Bool) (q : Page) → arrives_dirty ts q b ≡ placed_mark ts (places.Frame f true (arrives_dirty ts q b)) q
seat_mark ts f b (Data n v) = refl
seat_mark ts f b _ = refl

-- One page.

pub record Landed (t u : Tables) (e : Errand) (x : Part) (xs : List Part) (y : Flown) (fs : List Flown) : Type 0 where
  pub place : placement_of (closing u e xs fs)
      ≡ land_then (placement_of (closing t e (x ∷ xs) (y ∷ fs))) e x (record { errand = e; parts = xs } ∷ map transfer_shown t.ring)
  pub frames : frames_of (closing u e xs fs) ≡ frames_of (closing t e (x ∷ xs) (y ∷ fs))
  pub known : Known (closing u e xs fs)
  pub images : (sid : ℕ) → image_at u sid ≡ image_at t sid
  pub rest : u ≡ record t { core = u.core; spaces = u.spaces; texts = u.texts }

rest_texts : (t u : Tables) → u ≡ record t { core = u.core; spaces = u.spaces } → u ≡ record t { core = u.core; spaces = u.spaces; texts = u.texts }
rest_texts t u e = e ∙ ap (λ (x : List SharedText). record t { core = u.core; spaces = u.spaces; texts = x }) (sym (ap (λ (z : Tables). z.texts) e))

landed_by : (t u : Tables) (e : Errand) (xs : List Part) (q : Page) (token : Frame) (fs : List Flown) (x : Token) (place : Place) (texts : List SharedText)
    (free : List ℕ) (s : PageState) (m : Bool)
    → Landing (closing t e (record { page = q; frame = token.number } ∷ xs) (record { page = q; token = token } ∷ fs)) q token.number token
    (fs ++ flown t.ring) x place texts s m
    → closing u e xs fs ≡ landed (closing t e (record { page = q; frame = token.number } ∷ xs) (record { page = q; token = token } ∷ fs)) q token.number x place
    free texts (record { errand = e; parts = xs } ∷ map transfer_shown t.ring) (fs ++ flown t.ring)
    → turn (placement_of (closing t e (record { page = q; frame = token.number } ∷ xs) (record { page = q; token = token } ∷ fs))) q s m free
    (record { errand = e; parts = xs } ∷ map transfer_shown t.ring)
    ≡ land_then (placement_of (closing t e (record { page = q; frame = token.number } ∷ xs) (record { page = q; token = token } ∷ fs))) e
    (record { page = q; frame = token.number }) (record { errand = e; parts = xs } ∷ map transfer_shown t.ring)
    → IsSoundMap u.core.free u.core.slots → u ≡ record t { core = u.core; spaces = u.spaces; texts = u.texts } → map head_of u.spaces ≡ map head_of t.spaces
    → Landed t u e (record { page = q; frame = token.number }) xs (record { page = q; token = token }) fs
landed_by t u e xs q token fs x place texts free s m l is turns core rest heads =
    let f : ℕ = token.number in
    let part : Part = record { page = q; frame = f } in
    let y : Flown = record { page = q; token = token } in
    let was : Lists = closing t e (part ∷ xs) (y ∷ fs) in
    let ts : List Transfer = record { errand = e; parts = xs } ∷ map transfer_shown t.ring in
    let n : Lists = landed was q f x place free texts ts (fs ++ flown t.ring) in
    let placed_it : placement_of (closing u e xs fs) ≡ land_then (placement_of was) e part ts = ap placement_of is ∙ land_is was q f token (fs ++ flown t.ring) x place texts s m free ts l ∙ turns in
    let p : LandingPart (placement_of was) e part ts = record { parts = refl } in
    let ties : Ties was n = record {
      slots = length-set t.core.slots f x;
      facts = refl;
      heads = placed_heads t.spaces q place;
      entries = λ r h. still_there t.spaces q r place h;
      alike = λ h. placed_alike t.spaces q place h;
      filled = λ h. placed_filled was.facts t.spaces q place l.fits h;
      counts = l.counts;
      marked = marks_placed was n q f place (texts_here was l.known) (λ g d. get_or-set_other t.core.slots f g x tokens.Away d) refl l.saved (alone_in was q f l.known l.frame)
          (λ a r mark h. let y = l.marks a r mark (set_resident t.core.slots f x a r mark h) in
          marks_here t.spaces texts place q r mark (shared_entry was q l.known.tied l.shared (page_in (placement_of was) q f l.frame)) y.0 y.1);
      whole = λ h. h;
      once = λ h. h;
    } in
    record {
      place = placed_it;
      frames = ap frames_of is ∙ land_frames was q f token (fs ++ flown t.ring) x place texts s m free ts l;
      known = record {
        core = core;
        owns = subst OwnsFrames (sym placed_it) (land_owner (placement_of was) e part ts l.known.owns p);
        aside = subst Rattle.page_model.specs.Ownership.TextAside (sym placed_it) (land_aside (placement_of was) e part ts l.known.owns p l.known.aside);
        tied = subst Tied (sym is) (tied_still was n ties l.known.tied);
        differ = subst (λ (z : Lists). AllDistinct (Rattle.kernel_tables.specs.Rising.sids_of z.spaces)) (sym is) (subst AllDistinct (sym (head_sids n.spaces was.spaces ties.heads)) l.known.differ);
        numbers = subst (λ (z : Lists). flying (parts_of z.transfers) ≡ map flown_number z.flown) (sym is) (ap (drop 1) l.known.numbers);
      };
      images = images_heads t u heads;
      rest = rest;
    }

-- what is known of the first page of the transfer
first_flight : (t : Tables) (e : Errand) (xs : List Part) (q : Page) (token : Frame) (fs : List Flown)
    → Known (closing t e (record { page = q; frame = token.number } ∷ xs) (record { page = q; token = token } ∷ fs))
    → InFlight (closing t e (record { page = q; frame = token.number } ∷ xs) (record { page = q; token = token } ∷ fs)) q token.number
first_flight t e xs q token fs k =
    in_flight (closing t e (record { page = q; frame = token.number } ∷ xs) (record { page = q; token = token } ∷ fs)) q e token.number k
    (landing_state (placement_of (closing t e (record { page = q; frame = token.number } ∷ xs) (record { page = q; token = token } ∷ fs))) e (record { page = q; frame = token.number })
    (record { errand = e; parts = xs } ∷ map transfer_shown t.ring) k.owns (record { parts = refl }))

pub text_mark : (t : Lists) (q : Page) → IsThere (placement_of t) q → (i v : ℕ) → q ≡ Text i v
    → mark_of (placement_of t) q ≡ is_saved (text_numbered t.texts i) v
text_mark t q there i v e =
    subst (λ (r : Page). IsThere (placement_of t) r → mark_of (placement_of t) r ≡ is_saved (text_numbered t.texts i) v) (sym e)
    (λ h. ap (λ (s : Slot). s.mark) (text_at t i v (text_within t i v h))) there

pub seat_lands : (t u : Tables) (b : Bool) (demanded : Page) (xs : List Part) (q : Page) (token : Frame) (fs : List Flown) → same_page q demanded ≡ true
    → Known (closing t (Reads (source_by b) demanded) (record { page = q; frame = token.number } ∷ xs) (record { page = q; token = token } ∷ fs))
    → SeatedPage t u token q (arrives_dirty t.texts q b) → IsSoundMap u.core.free u.core.slots
    → Landed t u (Reads (source_by b) demanded) (record { page = q; frame = token.number }) xs (record { page = q; token = token }) fs
seat_lands t u b demanded xs q token fs same k s core =
    let e : Errand = Reads (source_by b) demanded in
    let f : ℕ = token.number in
    let was : Lists = closing t e (record { page = q; frame = f } ∷ xs) (record { page = q; token = token } ∷ fs) in
    let p : Placement = placement_of was in
    let ts : List Transfer = record { errand = e; parts = xs } ∷ map transfer_shown t.ring in
    let g : InFlight was q f = first_flight t e xs q token fs k in
    let d : Bool = arrives_dirty t.texts q b in
    let m : Bool = arrived_mark (source_by b) q (mark_of p q) in
    let clean : is_marked_dirty q (mark_of p q) ≡ false = coming_clean p q f k.owns (landing_state p e (record { page = q; frame = f }) ts k.owns (record { parts = refl })) in
    landed_by t u e xs q token fs (tokens.Resident token q d) (places.Frame f true d) t.texts t.core.free (Valid f) m
    (record {
      known = k;
      shared = g.shared;
      frame = g.frame;
      away = g.away;
      below = g.below;
      number = refl;
      first = refl;
      holds = refl;
      bytes = λ o. refl;
      saved = λ i v n l. refl;
      counts = λ i. refl;
      marks = λ a r mark h. (resident_page token a q r d mark h, resident_mark token a q r d mark h ∙ seat_mark t.texts f b q);
      fits = frame_fits q f _ _;
      filling = λ y. refl;
      shows = λ free rest. valid_shown (landed was q f (tokens.Resident token q d) (places.Frame f true d) free t.texts rest (fs ++ flown t.ring)) q f b (mark_of p q) clean (text_mark was q g.there);
    })
    (ap (λ (z : Tables). closing z e xs fs) s.rest
    ∙ ap (λ (z : List Token). record (closing t e xs fs) { slots = z; free = u.core.free; spaces = u.spaces }) s.slots
    ∙ ap (λ (z : List ℕ). record (closing t e xs fs) { slots = set t.core.slots f (tokens.Resident token q d); free = z; spaces = u.spaces }) s.free
    ∙ ap (λ (z : List Places). record (closing t e xs fs) { slots = set t.core.slots f (tokens.Resident token q d); spaces = z }) s.spaces)
    (sym (ap (land_read_then p (source_by b) (record { page = q; frame = f }) ts) same))
    core (rest_texts t u s.rest) (ap (map head_of) s.spaces ∙ placed_heads t.spaces q (places.Frame f true d))

pub rest_lands : (t u : Tables) (b : Bool) (demanded : Page) (xs : List Part) (q : Page) (token : Frame) (fs : List Flown) → same_page q demanded ≡ false
    → Known (closing t (Reads (source_by b) demanded) (record { page = q; frame = token.number } ∷ xs) (record { page = q; token = token } ∷ fs))
    → RestedPage t u token q → IsSoundMap u.core.free u.core.slots
    → Landed t u (Reads (source_by b) demanded) (record { page = q; frame = token.number }) xs (record { page = q; token = token }) fs
rest_lands t u b demanded xs q token fs same k s core =
    let e : Errand = Reads (source_by b) demanded in
    let f : ℕ = token.number in
    let was : Lists = closing t e (record { page = q; frame = f } ∷ xs) (record { page = q; token = token } ∷ fs) in
    let p : Placement = placement_of was in
    let ts : List Transfer = record { errand = e; parts = xs } ∷ map transfer_shown t.ring in
    let g : InFlight was q f = first_flight t e xs q token fs k in
    let x : Token = tokens.Free token (Some q) in
    let clean : is_marked_dirty q (mark_of p q) ≡ false = coming_clean p q f k.owns (landing_state p e (record { page = q; frame = f }) ts k.owns (record { parts = refl })) in
    landed_by t u e xs q token fs x (places.Frame f false false) t.texts (t.core.free ++ f ∷ []) (Invalid f) (mark_of p q)
    (record {
      known = k;
      shared = g.shared;
      frame = g.frame;
      away = g.away;
      below = g.below;
      number = refl;
      first = refl;
      holds = refl;
      bytes = λ o. refl;
      saved = λ i v n l. refl;
      counts = λ i. refl;
      marks = λ a r mark h. absurd cc;
      fits = frame_fits q f _ _;
      filling = λ y. refl;
      shows = λ free rest. rested_shown (landed was q f x (places.Frame f false false) free t.texts rest (fs ++ flown t.ring)) q f (mark_of p q)
          (ap is_away (get_or-set_same t.core.slots f x tokens.Away g.below)) clean (text_mark was q g.there);
    })
    (ap (λ (z : Tables). closing z e xs fs) s.rest
    ∙ ap (λ (z : List Token). record (closing t e xs fs) { slots = z; free = u.core.free; spaces = u.spaces }) s.slots
    ∙ ap (λ (z : List ℕ). record (closing t e xs fs) { slots = set t.core.slots f x; free = z; spaces = u.spaces }) s.free
    ∙ ap (λ (z : List Places). record (closing t e xs fs) { slots = set t.core.slots f x; free = t.core.free ++ f ∷ []; spaces = z }) s.spaces)
    (sym (ap (land_read_then p (source_by b) (record { page = q; frame = f }) ts) same))
    core (rest_texts t u s.rest) (ap (map head_of) s.spaces ∙ placed_heads t.spaces q (places.Frame f false false))

pub read_lands : (t u : Tables) (b : Bool) (demanded : Page) (xs : List Part) (q : Page) (token : Frame) (fs : List Flown)
    → Known (closing t (Reads (source_by b) demanded) (record { page = q; frame = token.number } ∷ xs) (record { page = q; token = token } ∷ fs))
    → LandedIn (same_page q demanded) t u token q (arrives_dirty t.texts q b) → IsSoundMap u.core.free u.core.slots
    → Landed t u (Reads (source_by b) demanded) (record { page = q; frame = token.number }) xs (record { page = q; token = token }) fs
read_lands t u b demanded xs q token fs k l core = go (same_page q demanded) refl l
  where
    go : (c : Bool) → same_page q demanded ≡ c → LandedIn c t u token q (arrives_dirty t.texts q b)
        → Landed t u (Reads (source_by b) demanded) (record { page = q; frame = token.number }) xs (record { page = q; token = token }) fs
    go true e h = seat_lands t u b demanded xs q token fs e k h core
    go false e h = rest_lands t u b demanded xs q token fs e k h core

pub write_lands : (t u : Tables) (xs : List Part) (q : Page) (token : Frame) (fs : List Flown) → ((i v : ℕ) → q ≡ Text i v → (1 ≤ i) × (i ≤ 16) × (v < 2048))
    → Known (closing t Writes (record { page = q; frame = token.number } ∷ xs) (record { page = q; token = token } ∷ fs)) → LandedOut t u token q
    → IsSoundMap u.core.free u.core.slots
    → Landed t u Writes (record { page = q; frame = token.number }) xs (record { page = q; token = token }) fs
write_lands t u xs q token fs low k s core =
    let f : ℕ = token.number in
    let was : Lists = closing t Writes (record { page = q; frame = f } ∷ xs) (record { page = q; token = token } ∷ fs) in
    let g : InFlight was q f = first_flight t Writes xs q token fs k in
    let x : Token = tokens.Free token (Some q) in
    let texts : List SharedText = saved_texts t.texts q in
    landed_by t u Writes xs q token fs x (places.Frame f false false) texts (t.core.free ++ f ∷ []) (Invalid f) (written_mark q)
    (record {
      known = k;
      shared = g.shared;
      frame = g.frame;
      away = g.away;
      below = g.below;
      number = refl;
      first = refl;
      holds = refl;
      bytes = λ o. refl;
      saved = λ i v n l. save_others t.texts q i v s.table low l n;
      counts = save_counts t.texts q low;
      marks = λ a r mark h. absurd cc;
      fits = frame_fits q f false false;
      filling = λ y. refl;
      shows = λ free rest. rested_shown (landed was q f x (places.Frame f false false) free texts rest (fs ++ flown t.ring)) q f (written_mark q)
          (ap is_away (get_or-set_same t.core.slots f x tokens.Away g.below)) (written_clean q)
          (λ i v e. subst (λ (r : Page). written_mark r ≡ is_saved (text_numbered (saved_texts t.texts r) i) v) (sym e) (sym (save_marked t.texts i v (s.table i v e) (low i v e))));
    })
    (ap (λ (z : Tables). closing z Writes xs fs) s.rest
    ∙ ap (λ (z : List Token). record (closing t Writes xs fs) { slots = z; free = u.core.free; spaces = u.spaces; texts = u.texts }) s.slots
    ∙ ap (λ (z : List ℕ). record (closing t Writes xs fs) { slots = set t.core.slots f x; free = z; spaces = u.spaces; texts = u.texts }) s.free
    ∙ ap (λ (z : List Places). record (closing t Writes xs fs) { slots = set t.core.slots f x; free = t.core.free ++ f ∷ []; spaces = z; texts = u.texts }) s.spaces
    ∙ ap (λ (z : List SharedText). record (closing t Writes xs fs) {
      slots = set t.core.slots f x;
      free = t.core.free ++ f ∷ [];
      spaces = map (placed q (places.Frame f false false)) t.spaces;
      texts = z;
    }) s.texts)
    refl
    core s.rest (ap (map head_of) s.spaces ∙ placed_heads t.spaces q (places.Frame f false false))

-- The end of it all.

-- The first of the parts that are left.
pub first_taken : {A : Type 0} (xs rest : List A) (x : A) → 0 < length xs → x ≡ get_or xs 0 x → rest ≡ take 0 xs ++ drop 1 xs → xs ≡ x ∷ rest
first_taken [] rest x l e r = absurd (omega arith)
first_taken (y ∷ ys) rest x l e r = ap (λ z. z ∷ ys) (sym e) ∙ ap (λ zs. x ∷ zs) (sym r)

-- What is asked of the first page.
pub record MayLand (t : Tables) (q : Page) (f : ℕ) : Type 0 where
  pub away : IsAway t.core f
  pub not_held : HoldsNot t.core q
  pub small : f < 2 ^ 21
  pub texts : (image v : ℕ) → q ≡ Text image v → (1 ≤ image) × (image ≤ 16) × (v < 2048)

may_land : (t : Tables) (e : Errand) (xs : List Part) (q : Page) (token : Frame) (fs : List Flown)
    → Known (closing t e (record { page = q; frame = token.number } ∷ xs) (record { page = q; token = token } ∷ fs)) → MayLand t q token.number
may_land t e xs q token fs k =
    let was : Lists = closing t e (record { page = q; frame = token.number } ∷ xs) (record { page = q; token = token } ∷ fs) in
    let g : InFlight was q token.number = first_flight t e xs q token fs k in
    let a = g.below in
    let b = k.tied.few_frames in
    record {
      away = record { above_zero = g.above; below = g.below; away = g.away };
      not_held = g.nowhere;
      small = omega arith;
      texts = λ i v h. text_low was i v k (subst (IsThere (placement_of was)) h g.there);
    }

pub may_read : (t : Tables) (b : Bool) (demanded : Page) (xs rest : List Inbound) (x : Inbound) → xs ≡ x ∷ rest → Known (closing_in t b demanded xs)
    → MayLand t x.page x.token.number
may_read t b demanded xs rest x e k =
    may_land t (Reads (source_by b) demanded) (map in_part rest) x.page x.token (map inbound_flown rest) (subst (λ (ys : List Inbound). Known (closing_in t b demanded ys)) e k)

pub may_write : (t : Tables) (xs rest : List Outbound) (x : Outbound) → xs ≡ x ∷ rest → Known (closing_out t xs) → MayLand t x.page x.token.number
may_write t xs rest x e k = may_land t Writes (map out_part rest) x.page x.token (map outbound_flown rest) (subst (λ (ys : List Outbound). Known (closing_out t ys)) e k)

-- The loops.

pub reads_step : (t u : Tables) (b : Bool) (demanded : Page) (xs rest : List Inbound) (x : Inbound) → xs ≡ x ∷ rest → Known (closing_in t b demanded xs)
    → LandedIn (same_page x.page demanded) t u x.token x.page (arrives_dirty t.texts x.page b) → IsSoundMap u.core.free u.core.slots
    → Landed t u (Reads (source_by b) demanded) (in_part x) (map in_part rest) (inbound_flown x) (map inbound_flown rest)
reads_step t u b demanded xs rest x e k l core =
    read_lands t u b demanded (map in_part rest) x.page x.token (map inbound_flown rest) (subst (λ (ys : List Inbound). Known (closing_in t b demanded ys)) e k) l core

pub writes_step : (t u : Tables) (xs rest : List Outbound) (x : Outbound) → xs ≡ x ∷ rest → Known (closing_out t xs) → LandedOut t u x.token x.page
    → IsSoundMap u.core.free u.core.slots
    → Landed t u Writes (out_part x) (map out_part rest) (outbound_flown x) (map outbound_flown rest)
writes_step t u xs rest x e k l core =
    write_lands t u (map out_part rest) x.page x.token (map outbound_flown rest) (may_write t xs rest x e k).texts (subst (λ (ys : List Outbound). Known (closing_out t ys)) e k) l core

pub lands_place : (t u w : Tables) (e : Errand) (x : Part) (xs : List Part) (y : Flown) (fs : List Flown) → Landed t u e x xs y fs
    → placement_of (lists_of w) ≡ land_all (record (placement_of (closing u e xs fs)) { transfers = map transfer_shown u.ring }) e xs
    → placement_of (lists_of w) ≡ land_all (record (placement_of (closing t e (x ∷ xs) (y ∷ fs))) { transfers = map transfer_shown t.ring }) e (x ∷ xs)
lands_place t u w e x xs y fs l h =
    h ∙ sym (land_steps xs (placement_of (closing u e xs fs)) e (map transfer_shown u.ring))
    ∙ ap (λ (p : Placement). land_all_then p e xs (map transfer_shown u.ring)) l.place
    ∙ ap (λ (z : Tables). land_all_then (land_then (placement_of (closing t e (x ∷ xs) (y ∷ fs))) e x (record { errand = e; parts = xs } ∷ map transfer_shown t.ring)) e xs (map transfer_shown z.ring))
    l.rest
    ∙ land_steps (x ∷ xs) (placement_of (closing t e (x ∷ xs) (y ∷ fs))) e (map transfer_shown t.ring)

pub lands_all : (t u w : Tables) (e : Errand) (x : Part) (xs : List Part) (y : Flown) (fs : List Flown) → Landed t u e x xs y fs
    → LandedAll u w (closing u e xs fs) → LandedAll t w (closing t e (x ∷ xs) (y ∷ fs))
lands_all t u w e x xs y fs l a = record {
  frames = a.frames ∙ l.frames;
  tied = a.tied;
  images = λ sid. a.images sid ∙ l.images sid;
  rest = a.rest ∙ ap (λ (z : Tables). record z { core = w.core; spaces = w.spaces; texts = w.texts }) l.rest;
}
