-- A read that begins, page by page.
use Rattle.std.proofs.Common.{◌≡◌, ◌≢◌, Bool, ℕ, suc, ◌+◌, ◌≤◌, List, [], ◌∷◌, ◌++◌, length, map, set, refl, sym, ap, ◌∙◌, subst, arith, append_assoc, append-nil}
use Rattle.std.proofs.lemmas.List.{map-append}
use Rattle.vm_facts.specs.declared.page.Page.{Page}
use Rattle.core_map.specs.declared.slot.Slot.{Slot as Token}
use Rattle.core_map.specs.declared.slot.Slot.TheVariants as tokens
use Rattle.core_map.specs.Slots.{slot_at, slot_page as token_page}
use Rattle.core_map.specs.Frames.{IsSoundMap}
use Rattle.space_map.specs.Space.{Places}
use Rattle.transfer_ring.specs.declared.transfer.Inbound.{Inbound}
use Rattle.flat_state.specs.PageNames.{pages_from, beside}
use Rattle.page_model.specs.Placement.{Placement, Transfer, Part, Errand, Source, Reads, flying}
use Rattle.page_model.specs.Steps.{begin, join_last, get_one}
use Rattle.page_model.specs.Conditions.{EachPage, CanEnter, IsShared}
use Rattle.page_laws.proofs.Lists.Parts.{IsOpen, parts_begin}
use Rattle.page_laws.proofs.Ownership.Runs.{begin_owner, get_enters_still}
use Rattle.page_laws.proofs.Lists.Runs.{each_page_both, each_page_imp}
use Rattle.page_laws.proofs.Blocks.Steps.{get_sharers, shared_as}
use Rattle.kernel_tables.specs.declared.tables.Tables.{Tables}
use Rattle.kernel_tables.specs.View.{Lists, Flown, flown_number, in_part, inbound_flown, transfer_shown, flown, placement_of, frames_of}
use Rattle.kernel_tables.specs.Known.{Known, MayBring}
use Rattle.kernel_tables.specs.Steps.{taken_frame, coming}
use Rattle.kernel_tables.specs.Machine.{lists_of}
use Rattle.transfer_ring.specs.Sound.{inbound_pages}
use Rattle.kernel_tables.specs.Moves.{BroughtPage, opened}
use Rattle.kernel_tables.proofs.Evicts.{Head}
use Rattle.kernel_tables.proofs.Comes.{come_is, come_frames, come_known}

pub join_snoc : (ts : List Transfer) (e : Errand) (ps : List Part) (x : Part)
    → join_last (ts ++ record { errand = e; parts = ps } ∷ []) e x ≡ ts ++ record { errand = e; parts = ps ++ x ∷ [] } ∷ []
join_snoc [] e ps x = refl
join_snoc (t ∷ []) e ps x = refl
join_snoc (t ∷ u ∷ us) e ps x = ap (λ (l : List Transfer). t ∷ l) (join_snoc (u ∷ us) e ps x)

pub open_last : (ts : List Transfer) (e : Errand) (ps : List Part) → IsOpen (ts ++ record { errand = e; parts = ps } ∷ []) e
open_last [] e ps = refl
open_last (t ∷ []) e ps = refl
open_last (t ∷ u ∷ us) e ps = open_last (u ∷ us) e ps

-- one page more
abbrev pub next_lists : Tables → Tables → List Inbound → Source → Page → Inbound → Lists
next_lists t u xs s q x = coming (taken_frame (opened t xs s q) x.token.number (token_page (slot_at t.core.slots x.token.number)) u.core.free) x.token x.page
    (join_last (opened t xs s q).transfers (Reads s q) (record { page = x.page; frame = x.token.number }))

pub opened_step : (t u : Tables) (xs : List Inbound) (s : Source) (q : Page) (b : Bool) (x : Inbound) → BroughtPage t u x.page b x
    → opened u (xs ++ x ∷ []) s q ≡ next_lists t u xs s q x
opened_step t u xs s q c x b =
    let e : Errand = Reads s q in
    let y : Flown = record { page = x.page; token = x.token } in
    ap (λ (z : Tables). opened z (xs ++ x ∷ []) s q) b.rest
    ∙ ap (λ (ss : List Token). record (opened t (xs ++ x ∷ []) s q) { slots = ss; free = u.core.free; spaces = u.spaces }) b.slots
    ∙ ap (λ (ss : List Places). record (opened t (xs ++ x ∷ []) s q) { slots = set t.core.slots x.token.number tokens.Away; free = u.core.free; spaces = ss }) b.spaces
    ∙ ap (λ (ts : List Transfer). record (next_lists t u xs s q x) { transfers = ts; flown = flown t.ring ++ map inbound_flown (xs ++ x ∷ []) })
    (ap (λ (ps : List Part). map transfer_shown t.ring ++ record { errand = e; parts = ps } ∷ []) (map-append in_part xs (x ∷ []))
    ∙ sym (join_snoc (map transfer_shown t.ring) e (map in_part xs) (in_part x)))
    ∙ ap (λ (fs : List Flown). record (next_lists t u xs s q x) { flown = fs })
    (ap (λ (fs : List Flown). flown t.ring ++ fs) (map-append inbound_flown xs (x ∷ [])) ∙ sym (append_assoc (flown t.ring) (map inbound_flown xs) (y ∷ [])))

pub brought_head : (t u : Tables) (xs : List Inbound) (s : Source) (q : Page) (b : Bool) (x : Inbound) → BroughtPage t u x.page b x
    → Head (opened t xs s q) x.token.number x.token (token_page (slot_at t.core.slots x.token.number)) u.core.free
brought_head t u xs s q c x b = record { free = b.free; was = b.was }

-- What one page more gives, where a run of these pages may take frames.
pub record Brings (t u : Tables) (xs : List Inbound) (s : Source) (q : Page) (x : Inbound) (lo m : ℕ) : Type 0 where
  pub place : placement_of (opened u (xs ++ x ∷ []) s q) ≡ get_one (placement_of (opened t xs s q)) (Reads s q) (beside q lo)
  pub frames : frames_of (opened u (xs ++ x ∷ []) s q) ≡ frames_of (opened t xs s q)
  pub may : MayBring (opened u (xs ++ x ∷ []) s q) q (lo + 1) m

pub brings : (t u : Tables) (xs : List Inbound) (s : Source) (q : Page) (b : Bool) (x : Inbound) (lo m : ℕ) → x.page ≡ beside q lo
    → BroughtPage t u x.page b x → IsSoundMap u.core.free u.core.slots
    → MayBring (opened t xs s q) q lo (suc m) → Brings t u xs s q x lo m
brings t u xs s q c x lo m is b core may =
    let l : Lists = opened t xs s q in
    let e : Errand = Reads s q in
    let h = brought_head t u xs s q c x b in
    let can : CanEnter (placement_of l) x.page = subst (CanEnter (placement_of l)) (sym is) may.enter.0 in
    let sh : IsShared (placement_of l) x.page = subst (IsShared (placement_of l)) (sym is) may.shared.0 in
    let step = opened_step t u xs s q c x b in
    let latest : IsOpen l.transfers e = open_last (map transfer_shown t.ring) e (map in_part xs) in
    let sound : IsSoundMap u.core.free (set t.core.slots x.token.number tokens.Away) = subst (IsSoundMap u.core.free) b.slots core in
    let place : placement_of (opened u (xs ++ x ∷ []) s q) ≡ get_one (placement_of l) e (beside q lo) =
    ap placement_of step ∙ come_is l (token_page (slot_at t.core.slots x.token.number)) u.core.free x.token x.token x.page e may.known h sh can ∙ ap (get_one (placement_of l) e) is in
    record {
      place = place;
      frames = ap frames_of step
          ∙ come_frames l (token_page (slot_at t.core.slots x.token.number)) u.core.free x.token x.page (join_last l.transfers e (record { page = x.page; frame = x.token.number })) may.known h;
      may = record {
        known = subst Known (sym step) (come_known l (token_page (slot_at t.core.slots x.token.number)) u.core.free x.token x.token x.page q s may.known h sh can latest sound);
        enter = subst (λ (p : Placement). EachPage (CanEnter p) (pages_from q (lo + 1) m)) (sym place)
            (each_page_both (CanEnter (placement_of l)) (λ r. r ≢ beside q lo) (CanEnter (get_one (placement_of l) e (beside q lo))) (pages_from q (lo + 1) m) may.enter.1 may.apart.0
            (λ w c n. get_enters_still (placement_of l) e (beside q lo) w may.known.owns n c));
        apart = may.apart.1;
        shared = subst (λ (p : Placement). EachPage (IsShared p) (pages_from q (lo + 1) m)) (sym place)
            (each_page_imp (IsShared (placement_of l)) (IsShared (get_one (placement_of l) e (beside q lo))) (pages_from q (lo + 1) m) may.shared.1
            (λ w y. shared_as (placement_of l) (get_one (placement_of l) e (beside q lo)) w (get_sharers (placement_of l) e (beside q lo)) y));
        frames = subst (λ (fs : List ℕ). m ≤ length fs) (sym (ap (λ (y : Lists). y.free) step)) (let k = subst (λ (fs : List ℕ). suc m ≤ length fs) b.free may.frames in omega arith);
      };
    }

-- The beginning of it all.
pub opened_place : (t : Tables) (s : Source) (q : Page) → placement_of (opened t [] s q) ≡ begin (placement_of (lists_of t)) (Reads s q)
opened_place t s q =
    ap (λ (fs : List Flown). placement_of (record (lists_of t) { transfers = map transfer_shown t.ring ++ record { errand = Reads s q; parts = [] } ∷ []; flown = fs })) (append-nil (flown t.ring))

pub opened_frames : (t : Tables) (s : Source) (q : Page) → frames_of (opened t [] s q) ≡ frames_of (lists_of t)
opened_frames t s q =
    ap (λ (fs : List Flown). frames_of (record (lists_of t) { transfers = map transfer_shown t.ring ++ record { errand = Reads s q; parts = [] } ∷ []; flown = fs })) (append-nil (flown t.ring))

pub opened_known : (t : Tables) (s : Source) (q : Page) → Known (lists_of t) → Known (opened t [] s q)
opened_known t s q k = record {
  core = k.core;
  owns = subst Rattle.page_model.specs.Ownership.OwnsFrames (sym (opened_place t s q)) (begin_owner (placement_of (lists_of t)) (Reads s q) k.owns);
  aside = λ i n z. let a = k.aside i n z in record { unsaved = a.unsaved; rests = a.rests };
  tied = record {
    few_frames = k.tied.few_frames;
    few_images = k.tied.few_images;
    few_pages = k.tied.few_pages;
    sound = k.tied.sound;
    small_texts = k.tied.small_texts;
    shared = k.tied.shared;
    alike = k.tied.alike;
    filled = k.tied.filled;
    counted = k.tied.counted;
    marked = k.tied.marked;
    whole = k.tied.whole;
    once = k.tied.once;
  };
  differ = k.differ;
  numbers = ap flying (parts_begin (map transfer_shown t.ring) (Reads s q)) ∙ k.numbers ∙ ap (map flown_number) (sym (append-nil (flown t.ring)));
}

-- The parts.
pub pages_snoc : (xs : List Inbound) (x : Inbound) → inbound_pages (xs ++ x ∷ []) ≡ inbound_pages xs ++ x.page ∷ []
pages_snoc [] x = refl
pages_snoc (y ∷ ys) x = ap (λ (qs : List Page). y.page ∷ qs) (pages_snoc ys x)
