-- Pages leave their frames for a write that begins.
use Rattle.std.proofs.Common.{◌≡◌, ◌≢◌, inl, inr, ℕ, suc, ◌+◌, Bool, true, false, cond, List, [], ◌∷◌, ◌++◌, map, set, Some, refl, sym, ap, ◌∙◌, subst, append_assoc, append-nil}
use Rattle.std.proofs.lemmas.Bool.{cases_eq}
use Rattle.std.proofs.lemmas.List.{length-set, get_or-set_same, get_or-set_other, map-append}
use Rattle.vm_facts.specs.declared.page.Page.{Page}
use Rattle.vm_facts.specs.declared.page.Page.TheVariants.{Text}
use Rattle.vm_facts.specs.declared.page.PageState.TheVariants.{Valid, Invalid, Going}
use Rattle.vax_pte.specs.declared.Place.TheVariants as places
use Rattle.frame_state.specs.Frame.{Frame}
use Rattle.core_map.specs.declared.slot.Slot.{Slot as Token}
use Rattle.core_map.specs.declared.slot.Slot.TheVariants as tokens
use Rattle.core_map.specs.Slots.{slot_at, token_of, slot_page as token_page}
use Rattle.core_map.specs.Frames.{IsSoundMap}
use Rattle.space_map.specs.Space.{Places}
use Rattle.swap_book.specs.Holdings.{Holdings}
use Rattle.text_table.specs.Texts.{is_saved, text_numbered}
use Rattle.transfer_ring.specs.declared.transfer.Outbound.{Outbound}
use Rattle.transfer_ring.specs.Sound.{outbound_pages}
use Rattle.flat_state.specs.PageNames.{beside, pages_from}
use Rattle.flat_state.specs.Numbers.{AllDistinct}
use Rattle.vm_facts.specs.Lists.{times}
use Rattle.page_model.specs.Pages.{Slot, Zeros, is_dirty_by}
use Rattle.page_model.specs.Placement.{Placement, Transfer, Part, Writes, slot_of, state_of, mark_of, is_dirty, IsThere, moving, parts_of, flying}
use Rattle.page_model.specs.Moves.{turn}
use Rattle.page_model.specs.Steps.{begin, join_last, launch, launch_to}
use Rattle.page_model.specs.Conditions.{EachPage, HasSeat, IsSeated}
use Rattle.page_model.specs.Ownership.{OwnsFrames, TextAside, block_of}
use Rattle.std.proofs.lemmas.Option.{same_Some}
use Rattle.page_laws.proofs.Lists.Frames.{flying-append}
use Rattle.page_laws.proofs.Lists.Pages.{put_other}
use Rattle.page_laws.proofs.Lists.Parts.{IsOpen, parts_join, parts_begin}
use Rattle.page_laws.proofs.Lists.Runs.{each_page_imp, each_page_both, pages_from_apart}
use Rattle.page_laws.proofs.Ownership.Pages.{launch_turns, launch_owner, seated_alone}
use Rattle.page_laws.proofs.Ownership.Runs.{begin_owner, launch_still}
use Rattle.page_laws.proofs.Blocks.Aside.{turn_aside}
use Rattle.kernel_tables.specs.declared.tables.Tables.{Tables}
use Rattle.kernel_tables.specs.Shown.{entry_in, frame_named, placed}
use Rattle.kernel_tables.specs.TableViewShown.{is_away, idle_state}
use Rattle.kernel_tables.specs.View.{Lists, Flown, flown_number, out_part, outbound_flown, transfer_shown, flown, flown_at, page_by, page_flown, bytes_by, bytes_flown, page_held, bytes_held, placement_of, frames_of}
use Rattle.kernel_tables.specs.Known.{Known}
use Rattle.kernel_tables.specs.Machine.{lists_of, image_at}
use Rattle.kernel_tables.specs.Launches.{LaunchedPage, launching, HaveOwnBlocks, MayLaunch}
use Rattle.kernel_tables.proofs.Entries.{head_of}
use Rattle.kernel_tables.proofs.Shows.{text_at, text_within, head_sids}
use Rattle.kernel_tables.proofs.Finds.{holding_set}
use Rattle.kernel_tables.proofs.Held.{flown_more, flown_last}
use Rattle.kernel_tables.proofs.Arrives.{page_shown}
use Rattle.kernel_tables.proofs.Likes.{frame_fits}
use Rattle.table_steps.proofs.Opens.{open_last, join_snoc}
use Rattle.kernel_tables.proofs.Stills.{images_heads}
use Rattle.table_steps.proofs.Residing.{Resides, seat_resides, resides_state, resides_seat}
use Rattle.table_steps.proofs.Turning.{Turning, turn_is, turn_frames, turn_heads, turn_tied}
use Rattle.page_laws.proofs.Blocks.Steps.{seat_busy}

-- One page.

abbrev pub launched : Lists → Page → ℕ → Frame → List Transfer → Lists
launched t q f token ts = record t {
  slots = set t.slots f tokens.Away;
  spaces = map (placed q (places.Frame f false true)) t.spaces;
  transfers = ts;
  flown = t.flown ++ record { page = q; token = token } ∷ [];
}

-- a dirty page stays dirty, and text is saved or not as before
going_shown : (t n : Lists) (q : Page) (f : ℕ) → n.texts ≡ t.texts → slot_at n.slots f ≡ tokens.Away → IsThere (placement_of t) q
    → is_dirty (placement_of t) q ≡ true
    → page_shown n q (places.Frame f false true) ≡ record { state = Going f; mark = mark_of (placement_of t) q; filling = Zeros }
going_shown t n (Text i v) f e a there d =
    ap (λ (s : Token). let z : Slot = record { state = idle_state f (is_away s) true; mark = is_saved (text_numbered n.texts i) v; filling = Zeros } in z) a
    ∙ ap (λ (b : Bool). let z : Slot = record { state = Going f; mark = b; filling = Zeros } in z)
    (ap (λ (x : List Rattle.text_table.specs.Texts.Text). is_saved (text_numbered x i) v) e ∙ sym (ap (λ (y : Slot). y.mark) (text_at t i v (text_within t i v there))))
going_shown t n _ f e a there d =
    ap (λ (s : Token). let z : Slot = record { state = idle_state f (is_away s) true; mark = true; filling = Zeros } in z) a
    ∙ ap (λ (b : Bool). let z : Slot = record { state = Going f; mark = b; filling = Zeros } in z) (sym d)

pub launches : (t : Lists) (q : Page) (f : ℕ) (ts : List Transfer) → Known t → (r : Resides t q f) → is_dirty (placement_of t) q ≡ true
    → Turning t (launched t q f r.token ts) q f (places.Frame f false true) (Going f) (mark_of (placement_of t) q)
launches t q f ts k r dirty =
    let n : Lists = launched t q f r.token ts in
    let x : Flown = record { page = q; token = r.token } in
    let here : slot_at n.slots f ≡ tokens.Away = get_or-set_same t.slots f tokens.Away tokens.Away r.below in
    let other : (g : ℕ) → g ≢ f → slot_at n.slots g ≡ slot_at t.slots g = λ g d. get_or-set_other t.slots f g tokens.Away tokens.Away d in
    let alone : times f (map flown_number t.flown) ≡ 0 = sym (ap (times f) k.numbers) ∙ (seated_alone (placement_of t) q f k.owns (resides_seat t q f r)).1 in
    let last : flown_at n.flown f ≡ Some x =
    subst (λ (g : ℕ). flown_at n.flown g ≡ Some x) r.number (flown_last t.flown x (subst (λ (g : ℕ). times g (map flown_number t.flown) ≡ 0) (sym r.number) alone)) in
    let more : (g : ℕ) → g ≢ f → flown_at n.flown g ≡ flown_at t.flown g = λ g d. flown_more t.flown x g (λ e. d (e ∙ r.number)) in
    record {
      known = k;
      shared = r.shared;
      named = r.named;
      others = other;
      count = length-set t.slots f tokens.Away;
      cached = λ i v d. holding_set t.slots f tokens.Away (Text i v) (λ e. d (same_Some (Text i v) q (sym e ∙ ap token_page r.slot))) (λ e. Rattle.page_laws.proofs.Lists.Local.none_some (Text i v) e);
      held = λ g. elim (cases_eq g f) [
        | inl e ↦ subst (λ (m : ℕ). page_held n m ≡ page_held t m) (sym e)
            (ap (λ (y : Token). page_by y (flown_at n.flown f)) here ∙ ap page_flown last ∙ sym (ap (λ (y : Token). page_by y (flown_at t.flown f)) r.slot))
        | inr d ↦ ap (λ (y : Token). page_by y (flown_at n.flown g)) (other g d) ∙ ap (page_by (slot_at t.slots g)) (more g d)
      ];
      bytes = λ g. elim (cases_eq g f) [
        | inl e ↦ subst (λ (m : ℕ). bytes_held n m ≡ bytes_held t m) (sym e)
            (ap (λ (y : Token). bytes_by y (flown_at n.flown f)) here ∙ ap bytes_flown last ∙ sym (ap (λ (y : Token). bytes_by y (flown_at t.flown f)) r.slot))
        | inr d ↦ ap (λ (y : Token). bytes_by y (flown_at n.flown g)) (other g d) ∙ ap (bytes_by (slot_at t.slots g)) (more g d)
      ];
      spaces = refl;
      texts = refl;
      facts = refl;
      fills = refl;
      residents = refl;
      front = refl;
      back = refl;
      shows = going_shown t n q f refl here r.there dirty;
      marks = λ m a r mark h. absurd (let y = sym here ∙ h in cc);
      filling = λ y. refl;
      fits = frame_fits q f false true;
    }

launch_as : (p : Placement) (q : Page) (f : ℕ) (v : Bool) → state_of p q ≡ cond v (Valid f) (Invalid f)
    → launch p q ≡ turn p q (Going f) (mark_of p q) p.free (join_last p.transfers Writes (record { page = q; frame = f }))
launch_as p q f true e = ap (launch_to p q) e
launch_as p q f false e = ap (launch_to p q) e

pub launch_is : (t : Lists) (q : Page) (f : ℕ) → Known t → (r : Resides t q f) → is_dirty (placement_of t) q ≡ true
    → placement_of (launched t q f r.token (join_last t.transfers Writes (record { page = q; frame = f }))) ≡ launch (placement_of t) q
launch_is t q f k r dirty =
    let ts : List Transfer = join_last t.transfers Writes (record { page = q; frame = f }) in
    turn_is t (launched t q f r.token ts) q f (places.Frame f false true) (Going f) (mark_of (placement_of t) q) (launches t q f ts k r dirty)
    ∙ sym (launch_as (placement_of t) q f r.valid (resides_state t q f r))

pub launch_known : (t : Lists) (q : Page) (f : ℕ) → Known t → (r : Resides t q f) → is_dirty (placement_of t) q ≡ true → IsOpen t.transfers Writes
    → IsSoundMap t.free (set t.slots f tokens.Away)
    → Known (launched t q f r.token (join_last t.transfers Writes (record { page = q; frame = f })))
launch_known t q f k r dirty latest core =
    let p : Placement = placement_of t in
    let x : Part = record { page = q; frame = f } in
    let ts : List Transfer = join_last t.transfers Writes x in
    let n : Lists = launched t q f r.token ts in
    let d = launches t q f ts k r dirty in
    let seat : IsSeated p q f = resides_seat t q f r in
    let is : placement_of n ≡ turn p q (Going f) (mark_of p q) p.free ts = turn_is t n q f (places.Frame f false true) (Going f) (mark_of p q) d in
    let owned : placement_of n ≡ launch p q = launch_is t q f k r dirty in
    record {
      core = core;
      owns = subst OwnsFrames (sym owned) (launch_owner p q f k.owns seat latest);
      aside = subst TextAside (sym is) (turn_aside p q f (Going f) (mark_of p q) p.free ts k.owns (launch_turns p q f k.owns seat latest) k.aside (seat_busy p q f seat));
      tied = turn_tied t n q f (places.Frame f false true) (Going f) (mark_of p q) d;
      differ = subst AllDistinct (sym (head_sids n.spaces t.spaces (turn_heads t n q f (places.Frame f false true) (Going f) (mark_of p q) d))) k.differ;
      numbers = ap flying (parts_join t.transfers Writes x latest) ∙ flying-append (parts_of t.transfers) (moving Writes x ∷ [])
          ∙ ap (λ (ns : List ℕ). ns ++ f ∷ []) k.numbers ∙ ap (λ (m : ℕ). map flown_number t.flown ++ m ∷ []) (sym r.number)
          ∙ sym (map-append flown_number t.flown (record { page = q; token = r.token } ∷ []));
    }

-- The rest of the run.

launch_dirty : (p : Placement) (q w : Page) (f : ℕ) (v : Bool) → state_of p q ≡ cond v (Valid f) (Invalid f) → w ≢ q → is_dirty p w ≡ true
    → is_dirty (launch p q) w ≡ true
launch_dirty p q w f v e n d =
    let same : slot_of (launch p q) w ≡ slot_of p w =
    ap (λ (x : Placement). slot_of x w) (launch_as p q f v e) ∙ put_other p q (Going f) (mark_of p q) w n in
    ap (λ (s : Slot). is_dirty_by w s.mark) same ∙ d

-- the lists with one page more
abbrev pub next_launch : Tables → List Outbound → Page → ℕ → Frame → Lists
next_launch t xs q f token = launched (launching t xs) q f token (join_last (launching t xs).transfers Writes (record { page = q; frame = f }))

part_is : (x : Outbound) (q : Page) (f : ℕ) → x.page ≡ q → x.token.number ≡ f → out_part x ≡ record { page = q; frame = f }
part_is x q f a b = ap (λ (r : Page). let y : Part = record { page = r; frame = x.token.number } in y) a ∙ ap (λ (n : ℕ). let y : Part = record { page = q; frame = n } in y) b

flown_is : (x : Outbound) (q : Page) (token : Frame) → x.page ≡ q → x.token ≡ token → outbound_flown x ≡ record { page = q; token = token }
flown_is x q token a b = ap (λ (r : Page). let y : Flown = record { page = r; token = x.token } in y) a ∙ ap (λ (n : Frame). let y : Flown = record { page = q; token = n } in y) b

pub launching_step : (t u : Tables) (xs : List Outbound) (q : Page) (f : ℕ) (x : Outbound) (r : Resides (launching t xs) q f) → LaunchedPage t u q f x
    → launching u (xs ++ x ∷ []) ≡ next_launch t xs q f r.token
launching_step t u xs q f x r b =
    let e : x.token ≡ r.token = b.token ∙ ap token_of r.slot in
    let part : Part = record { page = q; frame = f } in
    let y : Flown = record { page = q; token = r.token } in
    ap (λ (z : Tables). launching z (xs ++ x ∷ [])) b.rest
    ∙ ap (λ (ss : List Token). record (launching t (xs ++ x ∷ [])) { slots = ss; free = u.core.free; spaces = u.spaces }) b.slots
    ∙ ap (λ (fs : List ℕ). record (launching t (xs ++ x ∷ [])) { slots = set t.core.slots f tokens.Away; free = fs; spaces = u.spaces }) b.free
    ∙ ap (λ (ss : List Places). record (launching t (xs ++ x ∷ [])) { slots = set t.core.slots f tokens.Away; spaces = ss }) b.spaces
    ∙ ap (λ (ts : List Transfer). record (next_launch t xs q f r.token) { transfers = ts; flown = flown t.ring ++ map outbound_flown (xs ++ x ∷ []) })
    (ap (λ (ps : List Part). map transfer_shown t.ring ++ record { errand = Writes; parts = ps } ∷ [])
    (map-append out_part xs (x ∷ []) ∙ ap (λ (z : Part). map out_part xs ++ z ∷ []) (part_is x q f b.page b.number))
    ∙ sym (join_snoc (map transfer_shown t.ring) Writes (map out_part xs) part))
    ∙ ap (λ (fs : List Flown). record (next_launch t xs q f r.token) { flown = fs })
    (ap (λ (fs : List Flown). flown t.ring ++ fs) (map-append outbound_flown xs (x ∷ []) ∙ ap (λ (z : Flown). map outbound_flown xs ++ z ∷ []) (flown_is x q r.token b.page e))
    ∙ sym (append_assoc (flown t.ring) (map outbound_flown xs) (y ∷ [])))

-- What one page more gives, where a run of these pages may be written.
pub record Launched (t u : Tables) (xs : List Outbound) (q : Page) (x : Outbound) (lo m : ℕ) : Type 0 where
  pub place : placement_of (launching u (xs ++ x ∷ [])) ≡ launch (placement_of (launching t xs)) (beside q lo)
  pub frames : frames_of (launching u (xs ++ x ∷ [])) ≡ frames_of (launching t xs)
  pub may : MayLaunch (launching u (xs ++ x ∷ [])) q (lo + 1) m
  pub images : (sid : ℕ) → image_at u sid ≡ image_at t sid

pub launched_by : (t u : Tables) (xs : List Outbound) (q : Page) (f : ℕ) (x : Outbound) (lo m : ℕ) → MayLaunch (launching t xs) q lo (suc m)
    → (r : Resides (launching t xs) (beside q lo) f)
    → LaunchedPage t u (beside q lo) f x → IsSoundMap u.core.free u.core.slots → Launched t u xs q x lo m
launched_by t u xs q f x lo m may r b core =
    let l : Lists = launching t xs in
    let p : Placement = placement_of l in
    let v : Page = beside q lo in
    let ts : List Transfer = join_last l.transfers Writes (record { page = v; frame = f }) in
    let n : Lists = launched l v f r.token ts in
    let step : launching u (xs ++ x ∷ []) ≡ n = launching_step t u xs v f x r b in
    let latest : IsOpen l.transfers Writes = open_last (map transfer_shown t.ring) Writes (map out_part xs) in
    let place : placement_of (launching u (xs ++ x ∷ [])) ≡ launch p v = ap placement_of step ∙ launch_is l v f may.known r may.dirty.0 in
    let d = launches l v f ts may.known r may.dirty.0 in
    let heads : map head_of n.spaces ≡ map head_of l.spaces = turn_heads l n v f (places.Frame f false true) (Going f) (mark_of p v) d in
    let sound : IsSoundMap t.core.free (set t.core.slots f tokens.Away) =
    subst (λ (ss : List Token). IsSoundMap t.core.free ss) b.slots (subst (λ (fs : List ℕ). IsSoundMap fs u.core.slots) b.free core) in
    record {
      place = place;
      frames = ap frames_of step ∙ turn_frames l n v f (places.Frame f false true) (Going f) (mark_of p v) d;
      may = record {
        known = subst Known (sym step) (launch_known l v f may.known r may.dirty.0 latest sound);
        seats = subst (λ (z : Placement). EachPage (HasSeat z) (pages_from q (lo + 1) m)) (sym place)
            (each_page_both (HasSeat p) (λ w. w ≢ v) (HasSeat (launch p v)) (pages_from q (lo + 1) m) may.seats.1 (pages_from_apart q lo (suc m)).0
            (λ w h apart. launch_still p v w may.seats.0 apart h));
        dirty = subst (λ (z : Placement). EachPage (λ w. is_dirty z w ≡ true) (pages_from q (lo + 1) m)) (sym place)
            (each_page_both (λ w. is_dirty p w ≡ true) (λ w. w ≢ v) (λ w. is_dirty (launch p v) w ≡ true) (pages_from q (lo + 1) m) may.dirty.1 (pages_from_apart q lo (suc m)).0
            (λ w h apart. launch_dirty p v w f r.valid (resides_state l v f r) apart h));
      };
      images = images_heads t u (ap (λ (z : Lists). map head_of z.spaces) step ∙ heads);
    }

-- The beginning of it all.
pub begun_place : (t : Tables) → placement_of (launching t []) ≡ begin (placement_of (lists_of t)) Writes
begun_place t =
    ap (λ (fs : List Flown). placement_of (record (lists_of t) { transfers = map transfer_shown t.ring ++ record { errand = Writes; parts = [] } ∷ []; flown = fs })) (append-nil (flown t.ring))

pub begun_frames : (t : Tables) → frames_of (launching t []) ≡ frames_of (lists_of t)
begun_frames t =
    ap (λ (fs : List Flown). frames_of (record (lists_of t) { transfers = map transfer_shown t.ring ++ record { errand = Writes; parts = [] } ∷ []; flown = fs })) (append-nil (flown t.ring))

begun_known : (t : Tables) → Known (lists_of t) → Known (launching t [])
begun_known t k = record {
  core = k.core;
  owns = subst OwnsFrames (sym (begun_place t)) (begin_owner (placement_of (lists_of t)) Writes k.owns);
  aside = λ i n z. let a = k.aside i n z in record { unsaved = a.unsaved; rests = a.rests };
  tied = record {
    few_frames = k.tied.few_frames;
    few_images = k.tied.few_images;
    few_pages = k.tied.few_pages;
    sound = k.tied.sound;
    small_texts = k.tied.small_texts;
    shared = k.tied.shared;
    alike = k.tied.alike;
    filled = k.tied.filled;
    counted = k.tied.counted;
    marked = k.tied.marked;
    whole = k.tied.whole;
    once = k.tied.once;
  };
  differ = k.differ;
  numbers = ap flying (parts_begin (map transfer_shown t.ring) Writes) ∙ k.numbers ∙ ap (map flown_number) (sym (append-nil (flown t.ring)));
}

pub may_begin : (t : Tables) (q : Page) (lo n : ℕ) → MayLaunch (lists_of t) q lo n → MayLaunch (launching t []) q lo n
may_begin t q lo n may = record {
  known = begun_known t may.known;
  seats = subst (λ (z : Placement). EachPage (HasSeat z) (pages_from q lo n)) (sym (begun_place t))
      (each_page_imp (HasSeat (placement_of (lists_of t))) (HasSeat (begin (placement_of (lists_of t)) Writes)) (pages_from q lo n) may.seats (λ w h. record {
        frame = h.frame;
        seat = record { state = let k : IsSeated (placement_of (lists_of t)) w h.frame = h.seat in k.state };
      }));
  dirty = subst (λ (z : Placement). EachPage (λ w. is_dirty z w ≡ true) (pages_from q lo n)) (sym (begun_place t))
      (each_page_imp (λ w. is_dirty (placement_of (lists_of t)) w ≡ true) (λ w. is_dirty (begin (placement_of (lists_of t)) Writes) w ≡ true) (pages_from q lo n) may.dirty (λ w h. h));
}

-- The parts.
pub out_pages_snoc : (xs : List Outbound) (x : Outbound) → outbound_pages (xs ++ x ∷ []) ≡ outbound_pages xs ++ x.page ∷ []
out_pages_snoc [] x = refl
out_pages_snoc (y ∷ ys) x = ap (λ (qs : List Page). y.page ∷ qs) (out_pages_snoc ys x)

pub blocks_snoc : (hs : Holdings) (xs : List Outbound) (x : Outbound) → HaveOwnBlocks hs xs → block_of hs x.page ≡ Some x.block
    → HaveOwnBlocks hs (xs ++ x ∷ [])
blocks_snoc hs [] x h o = (o, tt)
blocks_snoc hs (y ∷ ys) x h o = (h.0, blocks_snoc hs ys x h.1 o)

-- The first page of a run that is written.

pub named_resides : (t : Lists) (q : Page) (f : ℕ) → Resides t q f → Resides t q (frame_named (entry_in t.spaces q))
named_resides t q f r = subst (Resides t q) (sym (ap frame_named r.entry)) r

pub first_resides : (t : Tables) (xs : List Outbound) (q v : Page) (lo n m : ℕ) → n ≡ suc m → v ≡ beside q lo → MayLaunch (launching t xs) q lo n
    → Resides (launching t xs) v (frame_named (entry_in t.spaces v))
first_resides t xs q v lo n m e is may =
    let all : EachPage (HasSeat (placement_of (launching t xs))) (pages_from q lo (suc m)) = subst (λ (k : ℕ). EachPage (HasSeat (placement_of (launching t xs))) (pages_from q lo k)) e may.seats in
    let seat : HasSeat (placement_of (launching t xs)) v = subst (HasSeat (placement_of (launching t xs))) (sym is) all.0 in
    named_resides (launching t xs) v seat.frame (seat_resides (launching t xs) v seat.frame may.known seat.seat)

pub launched_first : (t u : Tables) (xs : List Outbound) (q v : Page) (x : Outbound) (lo n m : ℕ) → n ≡ suc m → v ≡ beside q lo
    → MayLaunch (launching t xs) q lo n
    → LaunchedPage t u v (frame_named (entry_in t.spaces v)) x → IsSoundMap u.core.free u.core.slots → Launched t u xs q x lo m
launched_first t u xs q v x lo n m e is may b core =
    launched_by t u xs q (frame_named (entry_in t.spaces (beside q lo))) x lo m (subst (MayLaunch (launching t xs) q lo) e may)
    (first_resides t xs q (beside q lo) lo n m e refl may)
    (subst (λ (w : Page). LaunchedPage t u w (frame_named (entry_in t.spaces w)) x) is b) core
