-- Each paging entry keeps all of ownership: frames, blocks, and text that nobody shares.
use Rattle.std.proofs.Common.{◌≡◌, ◌≢◌, inl, inr, ℕ, zero, suc, ◌<◌, Bool, true, false, List, [], ◌∷◌, ◌++◌, length, Option, Some, None, refl, sym, ap, ◌∙◌, subst}
use Rattle.vm_facts.specs.declared.page.Page.{Page}
use Rattle.vm_facts.specs.declared.page.Page.TheVariants.{Data, Stack, Text}
use Rattle.vm_facts.specs.declared.page.PageState.{PageState}
use Rattle.vm_facts.specs.declared.page.PageState.TheVariants.{Unfilled, Valid, Invalid, Coming, Going, OnSwap}
use Rattle.vm_facts.specs.declared.entry.Entry.{Entry}
use Rattle.vm_facts.specs.declared.entry.Entry.TheVariants as entries
use Rattle.page_model.specs.Holdings.{Holdings}
use Rattle.page_model.specs.Pages.{written_mark, SpacePages, TextPages, numbered, data_in, stack_in, text_in}
use Rattle.page_model.specs.PageNames.{is_among, same_page, number_of, beside, pages_from}
use Rattle.vm_facts.specs.Lists.{without}
use Rattle.page_model.specs.Placement.{Placement, Transfer, Part, Errand, Writes, Reads, Source, slots_of, state_of, mark_of, is_dirty, page_of, parts_of, sharers, put, space_number, image_number, sharers_in}
use Rattle.page_model.specs.Moves.{evict, turn, fill_at, get_run, launch_run, done, arrived_mark, reclaim, reclaim_to, retire, retire_to}
use Rattle.page_model.specs.Steps.{land_then, land_read_then, land_all_then, begin, join_last, get_one, get_at, get_all, launch, launch_to, launch_all}
use Rattle.page_model.specs.Runs.{run_out, pages_of_run}
use Rattle.page_model.specs.Hands.{expire, expire_of, expire_if, expire_to, sweep, hand_move, hand_moves, advance}
use Rattle.page_model.specs.Place.{filled, put_step, put_by, place_entry, moved}
use Rattle.page_model.specs.Reading.{source_for}
use Rattle.page_model.specs.Conditions.{EachPage, AllApart, CanEnter, IsSeated, HasSeat, CanPlace, IsShared, EntryShared}
use Rattle.page_model.specs.Ownership.{OwnsFrames, OneOwner, TextAside}
use Rattle.page_laws.proofs.Moves.InSteps.{get_steps, launch_steps, done_cases}
use Rattle.page_laws.proofs.Moves.Puts.{KeptByPuts, entry_kept}
use Rattle.page_laws.proofs.Lists.Pages.{put_length, put_sharers}
use Rattle.page_laws.proofs.Lists.Parts.{IsOpen, begin_open}
use Rattle.page_laws.proofs.Lists.Frames.{some_free}
use Rattle.page_laws.proofs.Ownership.Pages.{fill_enters, get_enters, get_owner, expire_owner, reclaim_turns, expire_turns, launch_turns, launch_owner, retire_turns}
use Rattle.page_laws.proofs.Lists.Runs.{each_page_imp, each_page_both, pages_from_each, pages_from_apart, run_apart}
use Rattle.page_laws.proofs.Ownership.Runs.{begin_owner, get_enters_still, get_open_still, launch_still, launch_open_still, clean_unmarked, written_clean, coming_clean, Landing, landing_state, land_owner, land_transfers, tail_turns, valid_turns}
use Rattle.page_laws.proofs.Ownership.Hands.{run_out_seats, move_owner}
use Rattle.page_laws.proofs.Ownership.Entries.{place_entry_owner}
use Rattle.page_laws.proofs.Blocks.Aside.{IsBusy, turn_aside, enter_aside, evict_sharers, blocks_still, one_owner}
use Rattle.page_laws.proofs.Moves.Taken.{taken_seat, sweep_cases}

filled_aside : (p : Placement) (v : Page) → OwnsFrames p → CanEnter p v → TextAside p → IsShared p v → TextAside (filled p v)
filled_aside p v o c a s = λ i n z. let k = go p.free refl i n z in record { unsaved = k.unsaved; rests = k.rests }
  where
    go : (fr : List ℕ) → p.free ≡ fr → TextAside (fill_at p v fr)
    go [] e = a
    go (f ∷ rest) e = enter_aside p v f (Valid f) true p.transfers o (some_free p f rest e) (fill_enters p v f rest o c e) a s

pub get_aside : (p : Placement) (source : Source) (demanded v : Page) → OwnsFrames p → CanEnter p v → IsOpen p.transfers (Reads source demanded)
    → TextAside p → IsShared p v → TextAside (get_one p (Reads source demanded) v)
get_aside p source demanded v o c latest a s = go p.free refl
  where
    go : (fr : List ℕ) → p.free ≡ fr → TextAside (get_at p (Reads source demanded) v fr)
    go [] e = a
    go (f ∷ rest) e = enter_aside p v f (Coming f) (mark_of p v) (join_last p.transfers (Reads source demanded) (record { page = v; frame = f })) o (some_free p f rest e)
        (get_enters p (Reads source demanded) v f rest o c latest refl e) a s

pub get_sharers : (p : Placement) (e : Errand) (v : Page) (image : ℕ) → sharers (get_one p e v) image ≡ sharers p image
get_sharers p e v image = go p.free
  where
    go : (fr : List ℕ) → sharers (get_at p e v fr) image ≡ sharers p image
    go [] = refl
    go (f ∷ rest) = put_sharers (evict p f) v (Coming f) (mark_of p v) image ∙ evict_sharers p f image

pub shared_as : (p q : Placement) (v : Page) → ((image : ℕ) → sharers q image ≡ sharers p image) → IsShared p v → IsShared q v
shared_as p q (Text image n) h s = subst (λ (k : ℕ). 0 < k) (sym (h image)) s
shared_as p q _ h s = tt

get_all_aside : (qs : List Page) (p : Placement) (source : Source) (demanded : Page) → OwnsFrames p → EachPage (CanEnter p) qs → AllApart qs
    → IsOpen p.transfers (Reads source demanded) → TextAside p
    → EachPage (IsShared p) qs → TextAside (get_all p (Reads source demanded) qs)
get_all_aside [] p source demanded o c d latest a s = a
get_all_aside (v ∷ qs) p source demanded o c d latest a s =
    get_all_aside qs (get_one p (Reads source demanded) v) source demanded (get_owner p source demanded v o c.0 latest)
    (each_page_both (CanEnter p) (λ r. r ≢ v) (CanEnter (get_one p (Reads source demanded) v)) qs c.1 d.0 (λ w h n. get_enters_still p (Reads source demanded) v w o n h))
    d.1 (get_open_still p (Reads source demanded) v latest) (get_aside p source demanded v o c.0 latest a s.0)
    (each_page_imp (IsShared p) (IsShared (get_one p (Reads source demanded) v)) qs s.1 (λ w h. shared_as p (get_one p (Reads source demanded) v) w (get_sharers p (Reads source demanded) v) h))

pub get_run_aside : (p : Placement) (source : Source) (demanded : Page) (qs : List Page) → OwnsFrames p → EachPage (CanEnter p) qs → AllApart qs
    → TextAside p → EachPage (IsShared p) qs → TextAside (get_run p (Reads source demanded) qs)
get_run_aside p source demanded qs o c d a s =
    subst TextAside (get_steps p (Reads source demanded) qs) (get_all_aside qs (begin p (Reads source demanded)) source demanded (begin_owner p (Reads source demanded) o)
    (each_page_imp (CanEnter p) (CanEnter (begin p (Reads source demanded))) qs c (λ q h. record { there = h.there; frameless = h.frameless })) d (begin_open p.transfers (Reads source demanded))
    (λ i n z. let k = a i n z in record { unsaved = k.unsaved; rests = k.rests })
    (each_page_imp (IsShared p) (IsShared (begin p (Reads source demanded))) qs s (λ w h. shared_as p (begin p (Reads source demanded)) w (λ i. refl) h)))

reclaim_aside : (p : Placement) (v : Page) → OwnsFrames p → TextAside p → IsShared p v → TextAside (reclaim p v)
reclaim_aside p v o a s = go (state_of p v) refl
  where
    go : (t : PageState) → state_of p v ≡ t → TextAside (reclaim_to p v t)
    go (Invalid f) e = Rattle.page_laws.proofs.Blocks.Aside.local_aside p (turn p v (Valid f) (mark_of p v) (without f p.free) p.transfers) v f o
        (Rattle.page_laws.proofs.Moves.Steps.turn_local p v f (Valid f) (mark_of p v) (without f p.free) p.transfers o (reclaim_turns p v f o e)) (put_sharers p v (Valid f) (mark_of p v)) a
        (λ i n h z. Rattle.page_laws.proofs.Blocks.Aside.shared_not p v i n s h z)
    go Unfilled e = a
    go (Valid f) e = a
    go (Coming f) e = a
    go (Going f) e = a
    go OnSwap e = a

expire_aside : (p : Placement) (locked : List Page) → OwnsFrames p → TextAside p → TextAside (expire p locked)
expire_aside p locked o a = go (page_of p p.front)
  where
    to : (v : Page) (s : PageState) → state_of p v ≡ s → TextAside (expire_to p v s)
    to v (Valid f) e = turn_aside p v f (Invalid f) (mark_of p v) p.free p.transfers o (expire_turns p v f o e) a (subst (IsBusy p) (sym e) tt)
    to v Unfilled e = a
    to v (Invalid f) e = a
    to v (Coming f) e = a
    to v (Going f) e = a
    to v OnSwap e = a

    at : (v : Page) (x : Bool) → TextAside (expire_if p v x)
    at v true = a
    at v false = to v (state_of p v) refl

    go : (h : Option Page) → TextAside (expire_of p locked h)
    go None = a
    go (Some v) = at v (is_among v locked)

pub seat_busy : (p : Placement) (v : Page) (f : ℕ) → IsSeated p v f → IsBusy p (state_of p v)
seat_busy p v f c = elim c.state [
  | inl e ↦ subst (IsBusy p) (sym e) tt
  | inr e ↦ subst (IsBusy p) (sym e.0) e.1
]

launch_aside : (p : Placement) (v : Page) (f : ℕ) → OwnsFrames p → IsSeated p v f → IsOpen p.transfers Writes → TextAside p → TextAside (launch p v)
launch_aside p v f o c latest a = elim c.state [
  | inl e ↦ subst (λ (s : PageState). TextAside (launch_to p v s)) (sym e) there
  | inr e ↦ subst (λ (s : PageState). TextAside (launch_to p v s)) (sym e.0) there
]
  where
    there : TextAside (turn p v (Going f) (mark_of p v) p.free (join_last p.transfers Writes (record { page = v; frame = f })))
    there = turn_aside p v f (Going f) (mark_of p v) p.free (join_last p.transfers Writes (record { page = v; frame = f })) o (launch_turns p v f o c latest) a (seat_busy p v f c)

retire_aside : (p : Placement) (v : Page) (f : ℕ) → OwnsFrames p → IsSeated p v f
    → Rattle.page_model.specs.Ownership.is_marked_dirty v (mark_of p v) ≡ false → TextAside p → TextAside (retire p v)
retire_aside p v f o c clean a = elim c.state [
  | inl e ↦ subst (λ (s : PageState). TextAside (retire_to p v s)) (sym e) there
  | inr e ↦ subst (λ (s : PageState). TextAside (retire_to p v s)) (sym e.0) there
]
  where
    there : TextAside (turn p v (Invalid f) (mark_of p v) (p.free ++ f ∷ []) p.transfers)
    there = turn_aside p v f (Invalid f) (mark_of p v) (p.free ++ f ∷ []) p.transfers o (retire_turns p v f (mark_of p v) o c clean) a (seat_busy p v f c)

launch_all_aside : (qs : List Page) (p : Placement) → OwnsFrames p → EachPage (HasSeat p) qs → AllApart qs → IsOpen p.transfers Writes → TextAside p
    → TextAside (launch_all p qs)
launch_all_aside [] p o c d latest a = a
launch_all_aside (v ∷ qs) p o c d latest a =
    let h : HasSeat p v = c.0 in
    launch_all_aside qs (launch p v) (launch_owner p v h.frame o h.seat latest)
    (each_page_both (HasSeat p) (λ r. r ≢ v) (HasSeat (launch p v)) qs c.1 d.0 (λ w k n. launch_still p v w h n k)) d.1 (launch_open_still p v h latest)
    (launch_aside p v h.frame o h.seat latest a)

launch_run_aside : (p : Placement) (qs : List Page) → OwnsFrames p → EachPage (HasSeat p) qs → AllApart qs → TextAside p → TextAside (launch_run p qs)
launch_run_aside p qs o c d a =
    subst TextAside (launch_steps p qs) (launch_all_aside qs (begin p Writes) (begin_owner p Writes o)
    (each_page_imp (HasSeat p) (HasSeat (begin p Writes)) qs c (λ q h. record { frame = h.frame; seat = record { state = let k : IsSeated p q h.frame = h.seat in k.state } })) d
    (begin_open p.transfers Writes) (λ i n z. let k = a i n z in record { unsaved = k.unsaved; rests = k.rests }))

put_step_aside : (p : Placement) (v : Page) (qs : List Page) → OwnsFrames p → HasSeat p v → EachPage (HasSeat p) qs → AllApart qs → TextAside p
    → TextAside (put_step p v qs)
put_step_aside p v qs o c cs d a = go (is_dirty p v) refl
  where
    go : (x : Bool) → is_dirty p v ≡ x → TextAside (put_by p v qs x)
    go true e = launch_run_aside p qs o cs d a
    go false e = retire_aside p v c.frame o c.seat (clean_unmarked v (mark_of p v) e) a

sweep_aside : (p : Placement) (locked : List Page) → OwnsFrames p → TextAside p → TextAside (sweep p locked)
sweep_aside p locked o a = sweep_cases TextAside p locked a
    (λ q t e. launch_run_aside p (pages_of_run q (run_out p locked q)) o (run_out_seats p locked q (taken_seat p locked q o t)) (run_apart q (run_out p locked q)) a)
    (λ q t e. let h : HasSeat p q = taken_seat p locked q o t in retire_aside p q h.frame o h.seat (clean_unmarked q (mark_of p q) e) a)

pub move_aside : (p : Placement) (locked : List Page) → OwnsFrames p → TextAside p → TextAside (hand_move p locked)
move_aside p locked o a = λ i n z. let k = sweep_aside (expire p locked) locked (expire_owner p locked o) (expire_aside p locked o a) i n z in record { unsaved = k.unsaved; rests = k.rests }

moves_aside : (n : ℕ) (p : Placement) (locked : List Page) → OwnsFrames p → TextAside p → TextAside (hand_moves p locked n)
moves_aside zero p locked o a = a
moves_aside (suc n) p locked o a = moves_aside n (hand_move p locked) locked (move_owner p locked o) (move_aside p locked o a)

pub land_aside : (p : Placement) (e : Errand) (x : Part) (rest : List Transfer) → OwnsFrames p → Landing p e x rest → TextAside p
    → TextAside (land_then p e x rest)
land_aside p Writes x rest o l a = turn_aside p x.page x.frame (Invalid x.frame) (written_mark x.page) (p.free ++ x.frame ∷ []) rest o
    (tail_turns p Writes x rest (written_mark x.page) o l (written_clean x.page)) a (subst (IsBusy p) (sym (landing_state p Writes x rest o l)) tt)
land_aside p (Reads source demanded) x rest o l a = go (same_page x.page demanded)
  where
    busy : IsBusy p (state_of p x.page)
    busy = subst (IsBusy p) (sym (landing_state p (Reads source demanded) x rest o l)) tt

    go : (b : Bool) → TextAside (land_read_then p source x rest b)
    go true = turn_aside p x.page x.frame (Valid x.frame) (arrived_mark source x.page (mark_of p x.page)) p.free rest o
        (valid_turns p (Reads source demanded) x rest (arrived_mark source x.page (mark_of p x.page)) o l) a busy
    go false = turn_aside p x.page x.frame (Invalid x.frame) (mark_of p x.page) (p.free ++ x.frame ∷ []) rest o
        (tail_turns p (Reads source demanded) x rest (mark_of p x.page) o l (coming_clean p x.page x.frame o (landing_state p (Reads source demanded) x rest o l))) a busy

land_all_aside : (xs : List Part) (p : Placement) (e : Errand) (ts : List Transfer) → OwnsFrames p
    → p.transfers ≡ record { errand = e; parts = xs } ∷ ts → TextAside p → TextAside (land_all_then p e xs ts)
land_all_aside [] p e ts o h a = λ i n z. let k = a i n z in record { unsaved = k.unsaved; rests = k.rests }
land_all_aside (x ∷ xs) p e ts o h a =
    let l : Landing p e x (record { errand = e; parts = xs } ∷ ts) = record { parts = ap parts_of h } in
    land_all_aside xs (land_then p e x (record { errand = e; parts = xs } ∷ ts)) e ts (land_owner p e x (record { errand = e; parts = xs } ∷ ts) o l)
    (land_transfers p e x (record { errand = e; parts = xs } ∷ ts))
    (land_aside p e x (record { errand = e; parts = xs } ∷ ts) o l a)

pub done_aside : (p : Placement) → OwnsFrames p → TextAside p → TextAside (done p)
done_aside p o a = done_cases TextAside p a (λ t ts e. land_all_aside t.parts p t.errand ts o e a)

-- Entries.

pub beside_shared : (p : Placement) (q : Page) (w : ℕ) → IsShared p q → IsShared p (beside q w)
beside_shared p (Text image n) w s = s
beside_shared p _ w s = tt

entry_aside : (locked : List Page) (at : ℕ) (p : Placement) (e : Entry) → OwnsFrames p → CanPlace p e → EntryShared p e → TextAside p
    → TextAside (place_entry locked at p e)
entry_aside locked at p (entries.Zero q) o c s a = filled_aside p q o c a s
entry_aside locked at p (entries.Get q lo n) o c s a =
    get_run_aside p (source_for (state_of p q)) q (pages_from q lo n) o c (pages_from_apart q lo n) a (pages_from_each (IsShared p) q lo n (λ w l m. beside_shared p q w s))
entry_aside locked at p (entries.Copy q) o c s a = filled_aside p q o c a s
entry_aside locked at p (entries.Reclaim q) o c s a = reclaim_aside p q o a s
entry_aside locked at p (entries.Hands n) o c s a = moves_aside n p locked o a
entry_aside locked at p (entries.Put q n) o c s a = put_step_aside p q (pages_from q (number_of q) n) o c.0 c.1 (pages_from_apart q (number_of q) n) a
entry_aside locked at p entries.Done o c s a = done_aside p o a
entry_aside locked at p (entries.SwapOut pid) o c s a = λ i n z. let k = a i n z in record { unsaved = k.unsaved; rests = k.rests }
entry_aside locked at p (entries.SwapIn pid) o c s a = λ i n z. let k = a i n z in record { unsaved = k.unsaved; rests = k.rests }
entry_aside locked at p _ o c s a = a

-- the same spaces and texts, of the same sizes
pub record SameShape (p q : Placement) : Type 0 where
  pub sizes : (w : Page) → length (slots_of q w) ≡ length (slots_of p w)
  pub sharing : (image : ℕ) → sharers q image ≡ sharers p image

shape_both : (p q r : Placement) → SameShape p q → SameShape q r → SameShape p r
shape_both p q r s t = record { sizes = λ w. t.sizes w ∙ s.sizes w; sharing = λ i. t.sharing i ∙ s.sharing i }

put_shape : (p : Placement) (v : Page) (s : PageState) (m : Bool) → SameShape p (put p v s m)
put_shape p v s m = record { sizes = put_length p v s m; sharing = put_sharers p v s m }

still_sizes : (p q : Placement) → q.spaces ≡ p.spaces → q.texts ≡ p.texts → (w : Page) → length (slots_of q w) ≡ length (slots_of p w)
still_sizes p q a b (Data sid v) = ap (λ (ss : List SpacePages). length (data_in (numbered space_number sid ss))) a
still_sizes p q a b (Stack sid v) = ap (λ (ss : List SpacePages). length (stack_in (numbered space_number sid ss))) a
still_sizes p q a b (Text image v) = ap (λ (ts : List TextPages). length (text_in (numbered image_number image ts))) b

shape_alike : (p q : Placement) → q.spaces ≡ p.spaces → q.texts ≡ p.texts → SameShape p q
shape_alike p q a b = record { sizes = still_sizes p q a b; sharing = λ i. ap (λ (ss : List SpacePages). sharers_in i ss) a }

pub shape_by_puts : KeptByPuts SameShape
shape_by_puts = record { still = λ p q a b c. shape_alike p q a b; both = shape_both; puts = put_shape }

entry_shape : (locked : List Page) (at : ℕ) (p : Placement) (e : Entry) → SameShape p (place_entry locked at p e)
entry_shape = entry_kept shape_by_puts (λ p ds. shape_alike p (record p { due = ds }) refl refl) (λ p. shape_alike p (advance p) refl refl)
    (λ p pid out at. shape_alike p (moved p pid out at) refl refl)

-- Each paging entry keeps one owner of each frame and each block.
pub place_entry_one : (size : ℕ) (lives : ℕ → Bool) (hs : Holdings) (locked : List Page) (at : ℕ) (p : Placement) (e : Entry)
    → OneOwner size lives p hs → CanPlace p e → EntryShared p e → OneOwner size lives (place_entry locked at p e) hs
place_entry_one size lives hs locked at p e o c s =
    let k : SameShape p (place_entry locked at p e) = entry_shape locked at p e in
    one_owner size lives (place_entry locked at p e) hs (place_entry_owner locked at p e o.frames c)
    (blocks_still size lives p (place_entry locked at p e) hs k.sizes k.sharing o.blocks) (entry_aside locked at p e o.frames c s o.aside)
