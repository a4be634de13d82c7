-- Where the pages of a read come from: each has its own blocks, or a place in its image's file.
use Rattle.std.proofs.Common.{◌≡◌, ◌≢◌, inl, inr, ℕ, zero, suc, ◌+◌, ◌-◌, ◌<◌, Bool, true, false, List, [], ◌∷◌, ◌++◌, length, map, get_or, not, Option, Some, None, IsSome, slice_get, refl, sym, ap, ◌∙◌, subst, arith}
use Rattle.std.proofs.lemmas.Bool.{cases_eq}
use Rattle.std.proofs.lemmas.Bool.Decides.{nat_tests}
use Rattle.vm_facts.specs.declared.page.Page.{Page}
use Rattle.vm_facts.specs.declared.page.Page.TheVariants.{Data, Stack, Text}
use Rattle.vm_facts.specs.declared.page.PageState.{PageState}
use Rattle.vm_facts.specs.declared.page.PageState.TheVariants.{OnSwap}
use Rattle.vax_pte.specs.declared.Place.{Place}
use Rattle.vax_pte.specs.declared.Place.TheVariants as places
use Rattle.aout_image.specs.declared.Image.{Image}
use Rattle.aout_image.specs.Image.{IsSound, text_pages_of}
use Rattle.core_map.specs.declared.slot.Slot.{Slot as Token}
use Rattle.space_map.specs.Space.{Places, place_in}
use Rattle.swap_book.specs.Holdings.{Holdings}
use Rattle.swap_book.specs.Book.{Book, IsBook, IsPlace, ArePlacesApart}
use Rattle.swap_book.proofs.PlaceLaws.{places_apart_of}
use Rattle.transfer_ring.specs.declared.transfer.Inbound.{Inbound}
use Rattle.transfer_ring.specs.Sound.{IsSource, AreSources, inbound_pages}
use Rattle.page_model.specs.Pages.{Slot, OfImage}
use Rattle.page_model.specs.Placement.{Placement, Source, FromSwap, FromFile, state_of, mark_of, IsThere}
use Rattle.page_model.specs.Conditions.{EachPage, CanEnter}
use Rattle.page_model.specs.PageBytes.{ReadsFrom}
use Rattle.page_model.specs.Ownership.{owner_of, block_of, needs_blocks_by}
use Rattle.page_model.specs.Reading.{source_for}
use Rattle.flat_state.specs.PageNames.{number_of, beside, pages_from}
use Rattle.kernel_model.specs.Kernel.{Kernel}
use Rattle.kernel_model.specs.Sound.{Sound, lives}
use Rattle.flat_state.specs.Numbers.{IsAbsent, AllDistinct}
use Rattle.page_laws.proofs.Blocks.Aside.{places_found}
use Rattle.page_laws.proofs.Lists.Runs.{each_page_both}
use Rattle.kernel_tables.specs.declared.named.Named.{Named}
use Rattle.kernel_tables.specs.declared.tables.Tables.{Tables}
use Rattle.kernel_tables.specs.New.{AreSound}
use Rattle.kernel_tables.specs.Alike.{EachSpace, IsFilled, facts_in}
use Rattle.core_map.specs.Slots.{slot_at}
use Rattle.kernel_tables.specs.Found.{cached_by, frame_holding}
use Rattle.kernel_tables.specs.Known.{Known}
use Rattle.kernel_tables.specs.Rising.{sids_of}
use Rattle.kernel_tables.specs.Settled.{image_found}
use Rattle.kernel_tables.specs.Shown.{or_else, entry_in, slot_shown, is_on_swap}
use Rattle.kernel_tables.specs.TableViewShown.{state_shown, idle_state, is_away}
use Rattle.kernel_tables.specs.Sourced.{ImageNamed, named_at, IsOwnBlock, IsSourced, AreSourcedIn, IsImagePage, IsFilePage, image_by}
use Rattle.kernel_tables.specs.Steps.{source_by}
use Rattle.kernel_tables.specs.View.{Lists, pages_in, source_of, source_shown, text_place_by, placement_of}
use Rattle.kernel_tables.specs.Machine.{lists_of, images_of, image_at, image_shown}
use Rattle.kernel_tables.specs.Moves.{HasSource, AreFrom}
use Rattle.kernel_tables.proofs.Rising.{IsOfSpace, data_of_space, stack_of_space, absent_entry, or_none}
use Rattle.table_steps.proofs.Settles.{found_hit, found_miss, found_image}
use Rattle.kernel_tables.proofs.Shows.{slot_or, data_shown, stack_shown, text_at, text_within, pages_hit, pages_miss}
use Rattle.kernel_tables.proofs.Stills.{parts_still}
use Rattle.kernel_tables.proofs.AddedTied.{facts_number as facts_low}

-- The images by their numbers.

facts_hit : (k i : ℕ) (x : Image) (more : List Image) → k ≡ i → facts_in k i (x ∷ more) ≡ Some x
facts_hit k i x more e = grind (arith, nat_tests)

facts_miss : (k i : ℕ) (x : Image) (more : List Image) → k ≢ i → facts_in k i (x ∷ more) ≡ facts_in (k + 1) i more
facts_miss k i x more e = grind (arith, nat_tests)

facts_sound : (k i : ℕ) (facts : List Image) (x : Image) → AreSound facts → facts_in k i facts ≡ Some x → IsSound x
facts_sound k i [] x h e = absurd cc
facts_sound k i (y ∷ more) x h e = elim (cases_eq k i) [
  | inl s ↦ let same : y ≡ x = (let z : Some y ≡ Some x = sym (facts_hit k i y more s) ∙ e in cc) in subst IsSound same h.0
  | inr d ↦ facts_sound (k + 1) i more x h.1 (sym (facts_miss k i y more d) ∙ e)
]

pages_facts : (k i : ℕ) (facts : List Image) → 0 < pages_in k i facts → (x : Image) × (facts_in k i facts ≡ Some x) × (text_pages_of x ≡ pages_in k i facts)
pages_facts k i [] l = absurd (omega arith)
pages_facts k i (y ∷ more) l = elim (cases_eq k i) [
  | inl s ↦ (y, facts_hit k i y more s, sym (pages_hit k i y more s))
  | inr d ↦
      let h = pages_facts (k + 1) i more (subst (λ (n : ℕ). 0 < n) (pages_miss k i y more d) l) in
      (h.0, facts_miss k i y more d ∙ h.1, h.2 ∙ sym (pages_miss k i y more d))
]

place_named : (k i : ℕ) (ns : List Named) (x : Image) → facts_in k i (map (λ (n : Named). n.facts) ns) ≡ Some x
    → (n : ImageNamed) × (slice_get (map image_shown ns) (i - k) ≡ Some n) × (n.facts ≡ x)
place_named k i [] x e = absurd cc
place_named k i (m ∷ ms) x e = elim (cases_eq k i) [
  | inl s ↦
      let same : m.facts ≡ x = (let z : Some m.facts ≡ Some x = sym (facts_hit k i m.facts (map (λ (n : Named). n.facts) ms) s) ∙ e in cc) in
      let none : i - k ≡ 0 = omega arith in
      (image_shown m, ap (slice_get (map image_shown (m ∷ ms))) none, same)
  | inr d ↦
      let rest : facts_in (k + 1) i (map (λ (n : Named). n.facts) ms) ≡ Some x = sym (facts_miss k i m.facts (map (λ (n : Named). n.facts) ms) d) ∙ e in
      let low = (facts_low (k + 1) i (map (λ (n : Named). n.facts) ms) x rest).0 in
      let h = place_named (k + 1) i ms x rest in
      let more : i - k ≡ suc (i - (k + 1)) = omega arith in
      (h.0, ap (slice_get (map image_shown (m ∷ ms))) more ∙ h.1, h.2)
]

pub image_named : (i : ℕ) (ns : List Named) (x : Image) → facts_in 1 i (map (λ (n : Named). n.facts) ns) ≡ Some x
    → (n : ImageNamed) × (named_at (map image_shown ns) i ≡ Some n) × (n.facts ≡ x)
image_named i ns x e =
    let h = place_named 1 i ns x e in
    let low = (facts_low 1 i (map (λ (n : Named). n.facts) ns) x e).0 in
    let up : i ≡ suc (i - 1) = omega arith in
    (h.0, ap (named_at (map image_shown ns)) up ∙ h.1, h.2)

image_page : (ns : List Named) (i : ℕ) (x : Image) (text : Bool) (v : ℕ) → AreSound (map (λ (n : Named). n.facts) ns)
    → facts_in 1 i (map (λ (n : Named). n.facts) ns) ≡ Some x → v < Rattle.aout_image.specs.Image.pages_of text x
    → IsImagePage (named_at (map image_shown ns) i) text v
image_page ns i x text v so e l =
    let h = image_named i ns x e in
    subst (λ (o : Option ImageNamed). IsImagePage o text v) (sym h.1)
    (subst IsSound (sym h.2) (facts_sound 1 i (map (λ (n : Named). n.facts) ns) x so e), subst (λ (y : Image). v < Rattle.aout_image.specs.Image.pages_of text y) (sym h.2) l)

pub named_item : (ns : List Named) (i : ℕ) (d : Named) → 0 < i → i - 1 < length ns → named_at (map image_shown ns) i ≡ Some (image_shown (get_or ns (i - 1) d))
named_item ns zero d l r = absurd (omega arith)
named_item ns (suc i) d l r = let e : suc i - 1 ≡ i = omega arith in item ns i (omega arith) ∙ ap (λ (n : ℕ). Some (image_shown (get_or ns n d))) (sym e)
  where
    item : (ms : List Named) (j : ℕ) → j < length ms → slice_get (map image_shown ms) j ≡ Some (image_shown (get_or ms j d))
    item [] j l = absurd (omega arith)
    item (m ∷ ms) zero l = refl
    item (m ∷ ms) (suc j) l = item ms j (omega arith)

page_range : (ns : List Named) (i : ℕ) (text : Bool) (v : ℕ) → IsImagePage (named_at (map image_shown ns) i) text v → (0 < i) × (i - 1 < length ns)
page_range ns zero text v h = absurd h
page_range ns (suc i) text v h = let l = within ns i h in (omega arith, omega arith)
  where
    within : (ms : List Named) (j : ℕ) → IsImagePage (slice_get (map image_shown ms) j) text v → j < length ms
    within [] j h = absurd h
    within (m ∷ ms) zero h = omega arith
    within (m ∷ ms) (suc j) h = let l = within ms j h in omega arith

pub file_range : (ns : List Named) (f : ℕ → ℕ) (q : Page) → IsFilePage (map image_shown ns) f q → (0 < image_by f q) × (image_by f q - 1 < length ns)
file_range ns f (Data sid v) h = page_range ns (f sid) false v h
file_range ns f (Stack sid v) h = absurd h
file_range ns f (Text i v) h = page_range ns i true v h

-- The space of a page.

home : (facts : List Image) (ss : List Places) (q : Page) (n : ℕ) (x : Place) → IsOfSpace q n → AllDistinct (sids_of ss)
    → EachSpace (IsFilled facts) ss → entry_in ss q ≡ Some x
    → (s : Places) × IsFilled facts s × (place_in s q ≡ Some x) × (image_found ss n ≡ Some s.image)
home facts [] q n x of d f e = absurd cc
home facts (s ∷ ss) q n x of d f e = elim (cases_eq s.sid n) [
  | inl i ↦ (s, f.0, sym (ap (or_else (place_in s q)) (absent_entry q n of ss (subst (λ (m : ℕ). IsAbsent m (sids_of ss)) i d.0)) ∙ or_none (place_in s q)) ∙ e, found_hit s ss n i)
  | inr m ↦
      let h = home facts ss q n x of d.1 f.1 (sym (ap (λ (o : Option Place). or_else o (entry_in ss q)) (of s m)) ∙ e) in
      (h.0, h.1, h.2, found_miss s ss n m ∙ h.3)
]

-- an entry says that the page is to be filled from the image
filled_entry : (slots : List Token) (o : Option Place) → (slot_or (slot_shown slots) o).filling ≡ OfImage → (w : ℕ) × (o ≡ Some (places.Image w))
filled_entry slots None e = absurd cc
filled_entry slots (Some places.Zero) e = absurd cc
filled_entry slots (Some (places.Image w)) e = (w, refl)
filled_entry slots (Some places.Swap) e = absurd cc
filled_entry slots (Some (places.Frame f valid changed)) e = absurd cc

-- a page that is read from its file has a place there
pub file_page : (t : Tables) (demanded q : Page) → Known (lists_of t) → IsThere (placement_of (lists_of t)) q
    → ReadsFrom (placement_of (lists_of t)) FromFile demanded q → IsFilePage (images_of t) (image_at t) q
file_page t demanded (Data n v) k there r =
    let l : Lists = lists_of t in
    let w = filled_entry l.slots (entry_in l.spaces (Data n v)) (sym (ap (λ (y : Slot). y.filling) (data_shown l.slots l.spaces n v k.differ)) ∙ r.1) in
    let h = home l.facts l.spaces (Data n v) n (places.Image w.0) (data_of_space n v) k.differ k.tied.filled w.1 in
    let at = h.1.entries (Data n v) w.0 h.2 in
    subst (λ (i : ℕ). IsImagePage (named_at (images_of t) i) false v) (sym (found_image t n h.0.image h.3)) (image_page t.images.items h.0.image h.0.facts false v k.tied.sound h.1.facts_are at.1)
file_page t demanded (Stack n v) k there r =
    let l : Lists = lists_of t in
    let w = filled_entry l.slots (entry_in l.spaces (Stack n v)) (sym (ap (λ (y : Slot). y.filling) (stack_shown l.slots l.spaces n v k.differ)) ∙ r.1) in
    let h = home l.facts l.spaces (Stack n v) n (places.Image w.0) (stack_of_space n v) k.differ k.tied.filled w.1 in
    absurd (h.1.entries (Stack n v) w.0 h.2)
file_page t demanded (Text i v) k there r =
    let l : Lists = lists_of t in
    let within : v < pages_in 1 i l.facts = text_within l i v there in
    let h = pages_facts 1 i l.facts (omega arith) in
    image_page t.images.items i h.0 true v k.tied.sound h.1 (let e = h.2 in omega arith)

swap_needs : (q : Page) (m : Bool) → needs_blocks_by q OnSwap m ≡ true
swap_needs (Data i v) true = refl
swap_needs (Data i v) false = refl
swap_needs _ true = refl
swap_needs _ false = refl

-- a page that is on swap has its blocks
pub swap_block : (size : ℕ) (k : Kernel) (q : Page) → Sound size k → state_of k.place q ≡ OnSwap → IsSome (block_of k.holdings q)
swap_block size k q so e =
    places_found size (lives k.processes) k.place k.holdings q so.owner (ap (λ (s : PageState). needs_blocks_by q s (mark_of k.place q)) e ∙ swap_needs q (mark_of k.place q))

-- all pages of a run have a source of the kind that they are read from
pub run_sources : (t : Tables) (k : Kernel) (b : Bool) (demanded : Page) (qs : List Page) → Known (lists_of t) → Sound t.book.size k
    → k.place ≡ placement_of (lists_of t) → k.holdings ≡ t.book.holdings
    → EachPage (CanEnter (placement_of (lists_of t))) qs → EachPage (ReadsFrom (placement_of (lists_of t)) (source_by b) demanded) qs
    → EachPage (HasSource t b) qs
run_sources t k b demanded qs known so e h c r =
    let p : Placement = placement_of (lists_of t) in
    each_page_both (CanEnter p) (ReadsFrom p (source_by b) demanded) (HasSource t b) qs c r (λ w x y. one b w x y)
  where
    one : (d : Bool) (w : Page) → CanEnter (placement_of (lists_of t)) w → ReadsFrom (placement_of (lists_of t)) (source_by d) demanded w → HasSource t d w
    one true w x y = file_page t demanded w known x.there y
    one false w x y = subst (λ (hs : Holdings). IsSome (block_of hs w)) h (swap_block t.book.size k w so (ap (λ (z : Placement). state_of z w) e ∙ y))

-- An entry says where a page is read from that has no frame.

idle_source : (f : ℕ) (away changed : Bool) → FromFile ≡ source_for (idle_state f away changed)
idle_source f false changed = refl
idle_source f true true = refl
idle_source f true false = refl

place_source : (slots : List Token) (x : Place) → source_by (not (is_on_swap (Some x))) ≡ source_for (state_shown slots x)
place_source slots (places.Frame f false changed) = idle_source f (is_away (slot_at slots f)) changed
place_source slots _ = refl

entry_source : (slots : List Token) (o : Option Place) → source_by (not (is_on_swap o)) ≡ source_for (slot_or (slot_shown slots) o).state
entry_source slots None = refl
entry_source slots (Some x) = place_source slots x

cached_source : (slots : List Token) (o : Option ℕ) (v : ℕ) → FromFile ≡ source_for (state_shown slots (cached_by o v))
cached_source slots None v = refl
cached_source slots (Some f) v = idle_source f (is_away (slot_at slots f)) false

pub source_is : (t : Lists) (q : Page) → Known t → IsThere (placement_of t) q
    → source_by (not (is_on_swap (entry_in t.spaces q))) ≡ source_for (state_of (placement_of t) q)
source_is t (Data n v) k there = entry_source t.slots (entry_in t.spaces (Data n v)) ∙ sym (ap (λ (y : Slot). source_for y.state) (data_shown t.slots t.spaces n v k.differ))
source_is t (Stack n v) k there = entry_source t.slots (entry_in t.spaces (Stack n v)) ∙ sym (ap (λ (y : Slot). source_for y.state) (stack_shown t.slots t.spaces n v k.differ))
source_is t (Text i v) k there = go (entry_in t.spaces (Text i v)) ∙ sym (ap (λ (y : Slot). source_for y.state) (text_at t i v (text_within t i v there)))
  where
    go : (o : Option Place) → source_by (not (is_on_swap o)) ≡ source_for (state_shown t.slots (text_place_by o t.slots (Text i v) v))
    go None = cached_source t.slots (frame_holding t.slots (Text i v)) v
    go (Some x) = place_source t.slots x

-- the demanded page is read from where the first page of its run is
pub first_source : (p : Placement) (q first : Page) → ReadsFrom p (source_for (state_of p q)) q first
    → source_for (state_of p first) ≡ source_for (state_of p q)
first_source p q first r = go (source_for (state_of p q)) r
  where
    go : (s : Source) → ReadsFrom p s q first → source_for (state_of p first) ≡ s
    go FromSwap h = ap source_for h
    go FromFile h = ap source_for h.0

pub run_first : (P : Page → Type 0) (q : Page) (lo n : ℕ) → 0 < n → EachPage P (pages_from q lo n) → P (beside q lo)
run_first P q lo zero l h = absurd (omega arith)
run_first P q lo (suc n) l h = h.0

-- The parts of a read.

pub own_place : (size : ℕ) (hs : Holdings) (q : Page) (b : ℕ) → IsBook size hs → block_of hs q ≡ Some b → IsOwnBlock hs size q b
own_place size hs q b book e =
    let a : ArePlacesApart size hs = places_apart_of size hs book in
    let p : IsPlace size hs (owner_of q) b = a.own (owner_of q) (number_of q) b e in
    record { own = e; place = (p.even, p.within) }

sources_snoc : (xs : List Inbound) (x : Inbound) → AreSources xs → IsSource x.source → AreSources (xs ++ x ∷ [])
sources_snoc [] x h n = (n, tt)
sources_snoc (y ∷ ys) x h n = (h.0, sources_snoc ys x h.1 n)

sourced_snoc : (ns : List ImageNamed) (f : ℕ → ℕ) (hs : Holdings) (size : ℕ) (s : Source) (xs : List Inbound) (x : Inbound)
    → AreSourcedIn ns f hs size s xs → source_of x.source ≡ s
    → IsSourced ns f hs size x.page x.source → AreSourcedIn ns f hs size s (xs ++ x ∷ [])
sourced_snoc ns f hs size s [] x h k n = (k, n, tt)
sourced_snoc ns f hs size s (y ∷ ys) x h k n = (h.0, h.1, sourced_snoc ns f hs size s ys x h.2 k n)

pub from_snoc : (t : Tables) (b : Bool) (xs : List Inbound) (x : Inbound) → AreFrom t b xs → source_of x.source ≡ source_by b → IsSource x.source
    → IsSourced (images_of t) (image_at t) t.book.holdings t.book.size x.page x.source → AreFrom t b (xs ++ x ∷ [])
from_snoc t b xs x h k r n = record {
  ranges = sources_snoc xs x h.ranges r;
  sourced = sourced_snoc (images_of t) (image_at t) t.book.holdings t.book.size (source_by b) xs x h.sourced k n;
}

-- what a read is from stays where the images and the book do
pub record SameSources (t u : Tables) : Type 0 where
  pub images : images_of u ≡ images_of t
  pub spaces : (sid : ℕ) → image_at u sid ≡ image_at t sid
  pub book : u.book ≡ t.book

pub back_sources : (t u : Tables) → SameSources t u → SameSources u t
back_sources t u s = record { images = sym s.images; spaces = λ sid. sym (s.spaces sid); book = sym s.book }

pub from_still : (t u : Tables) (b : Bool) (xs : List Inbound) → SameSources t u → AreFrom t b xs → AreFrom u b xs
from_still t u b xs s h = record {
  ranges = h.ranges;
  sourced = subst (λ (x : Book). AreSourcedIn (images_of u) (image_at u) x.holdings x.size (source_by b) xs) (sym s.book)
      (subst (λ (ns : List ImageNamed). AreSourcedIn ns (image_at u) t.book.holdings t.book.size (source_by b) xs) (sym s.images)
      (parts_still (images_of t) (image_at t) (image_at u) t.book.holdings t.book.size (source_by b) xs s.spaces h.sourced));
}

file_still : (ns : List ImageNamed) (f g : ℕ → ℕ) (q : Page) → ((sid : ℕ) → g sid ≡ f sid) → IsFilePage ns f q → IsFilePage ns g q
file_still ns f g (Data sid v) e h = subst (λ (i : ℕ). IsImagePage (named_at ns i) false v) (sym (e sid)) h
file_still ns f g _ e h = h

pub has_still : (t u : Tables) (b : Bool) (q : Page) → SameSources t u → HasSource t b q → HasSource u b q
has_still t u true q s h = subst (λ (ns : List ImageNamed). IsFilePage ns (image_at u) q) (sym s.images) (file_still (images_of t) (image_at t) (image_at u) q s.spaces h)
has_still t u false q s h = subst (λ (x : Book). IsSome (block_of x.holdings q)) (sym s.book) h

-- a read with a page is of the kind that its parts are
pub shown_source : (ns : List ImageNamed) (f : ℕ → ℕ) (hs : Holdings) (size : ℕ) (s : Source) (xs : List Inbound) (q : Page) (lo n : ℕ) → 0 < n
    → inbound_pages xs ≡ pages_from q lo n → AreSourcedIn ns f hs size s xs → source_shown xs ≡ s
shown_source ns f hs size s xs q lo zero l e h = absurd (omega arith)
shown_source ns f hs size s [] q lo (suc n) l e h = absurd cc
shown_source ns f hs size s (x ∷ xs) q lo (suc n) l e h = h.0
