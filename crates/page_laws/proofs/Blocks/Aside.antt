-- Text that nobody shares stays aside, and each page that needs its blocks has them.
use Rattle.std.proofs.Common.{◌≡◌, ◌⊎◌, inl, inr, ℕ, zero, suc, ◌*◌, ◌<◌, ◌≤◌, Bool, true, false, List, length, Option, Some, None, IsSome, refl, sym, ap, ◌∙◌, subst, arith}
use Rattle.vm_facts.specs.declared.page.Page.{Page}
use Rattle.vm_facts.specs.declared.page.Page.TheVariants.{Data, Stack, Text}
use Rattle.vm_facts.specs.declared.page.PageState.{PageState}
use Rattle.vm_facts.specs.declared.page.PageState.TheVariants.{Unfilled, Invalid}
use Rattle.page_model.specs.Chunks.{pieces}
use Rattle.page_model.specs.Owner.TheVariants as owners
use Rattle.page_model.specs.Holdings.{Holdings}
use Rattle.page_model.specs.Book.{IsBook, ArePlacesApart}
use Rattle.page_model.proofs.PlaceLaws.{places_apart_of}
use Rattle.page_model.specs.Pages.{Slot, frame_of, left_state, written_mark}
use Rattle.page_model.specs.PageNames.{number_of}
use Rattle.vm_facts.specs.Lists.{times}
use Rattle.page_model.specs.Placement.{Placement, Transfer, slots_of, slot_of, state_of, mark_of, page_of, sharers, IsThere}
use Rattle.page_model.specs.Moves.{evict, evict_at, enter, turn}
use Rattle.page_model.specs.Conditions.{IsShared}
use Rattle.page_model.specs.Ownership.{OwnsFrames, OwnsBlocks, OneOwner, IsAside, TextAside, owner_of, block_of, text_pieces_while, needs_blocks, needs_blocks_by, HasBlocks}
use Rattle.page_laws.proofs.Lists.Pages.{page_cases, put_state, put_mark, put_sharers}
use Rattle.page_laws.proofs.Lists.Local.{Local, other_state, other_mark}
use Rattle.page_laws.proofs.Moves.Steps.{Turns, turn_local, Enters, enter_local, page_in, evict_local, evict_owner}
use Rattle.page_laws.proofs.Bytes.Couples.{frame_apart}

-- A step of one page and one frame keeps text aside, where it does so at that page.
pub local_aside : (p q : Placement) (v : Page) (f : ℕ) → OwnsFrames p → Local p q v f → ((image : ℕ) → sharers q image ≡ sharers p image) → TextAside p
    → ((image n : ℕ) → v ≡ Text image n → sharers p image ≡ 0 → IsAside q v) → TextAside q
local_aside p q v f o l sh a here image n z = elim (page_cases (Text image n) v) [
  | inl e ↦ subst (IsAside q) (sym e) (here image n (sym e) (sym (sh image) ∙ z))
  | inr d ↦
      let was : IsAside p (Text image n) = a image n (sym (sh image) ∙ z) in
      record {
        unsaved = other_mark p q v f l (Text image n) d ∙ was.unsaved;
        rests = elim was.rests [
          | inl e ↦ inl (other_state p q v f l (Text image n) d ∙ e)
          | inr e ↦ inr (e.0, other_state p q v f l (Text image n) d ∙ e.1, subst (λ (k : ℕ). 0 < k) (sym (l.other_free e.0 (frame_apart p q v f o l (Text image n) d e.0 (ap frame_of e.1)))) e.2)
        ];
      }
]

-- a page that is in use, in a transfer, or on swap isn't text that nobody shares
abbrev pub IsBusy : Placement → PageState → Type 0
IsBusy p Unfilled = ⊥
IsBusy p (Invalid f) = times f p.free ≡ 0
IsBusy p _ = Unit {0}

invalid_busy : (p : Placement) (s : PageState) (f : ℕ) → s ≡ Invalid f → IsBusy p s → times f p.free ≡ 0
invalid_busy p s f e b = subst (IsBusy p) e b

pub busy_shared : {C : Type 0} (p : Placement) (v : Page) (image n : ℕ) → TextAside p → IsBusy p (state_of p v) → v ≡ Text image n → sharers p image ≡ 0 → C
busy_shared p v image n a b e z =
    let was : IsAside p v = subst (IsAside p) (sym e) (a image n z) in
    elim was.rests [
      | inl h ↦ absurd (subst (IsBusy p) h b)
      | inr h ↦ absurd (let k = invalid_busy p (state_of p v) h.0 h.1 b in let l = h.2 in omega arith)
    ]

pub turn_aside : (p : Placement) (v : Page) (f : ℕ) (s : PageState) (m : Bool) (free : List ℕ) (ts : List Transfer) → OwnsFrames p
    → Turns p v f s m free ts → TextAside p → IsBusy p (state_of p v) → TextAside (turn p v s m free ts)
turn_aside p v f s m free ts o t a b = local_aside p (turn p v s m free ts) v f o (turn_local p v f s m free ts o t) (put_sharers p v s m) a (λ i n e z. busy_shared p v i n a b e z)

pub shared_not : {C : Type 0} (p : Placement) (v : Page) (image n : ℕ) → IsShared p v → v ≡ Text image n → sharers p image ≡ 0 → C
shared_not p v image n s e z = absurd (let k : 0 < sharers p image = subst (IsShared p) e s in omega arith)

left_unfilled : (v : Page) (m : Bool) (image n : ℕ) → v ≡ Text image n → m ≡ false → left_state v m ≡ Unfilled
left_unfilled v m image n e h = ap (λ (x : Page). left_state x m) e ∙ ap (left_state (Text image n)) h

pub evict_aside : (p : Placement) (f : ℕ) → OwnsFrames p → TextAside p → 0 < times f p.free → TextAside (evict p f)
evict_aside p f o a b = go (page_of p f) refl
  where
    go : (h : Option Page) → page_of p f ≡ h → TextAside (evict_at p f h)
    go None e = a
    go (Some v) e =
        let there = page_in p v f (o.named f v e) in
        local_aside p (evict_at p f (Some v)) v f o (evict_local p f v o e) (put_sharers p v (left_state v (mark_of p v)) (mark_of p v)) a
        (λ i n k z.
        let was : IsAside p v = subst (IsAside p) (sym k) (a i n z) in
        record {
          unsaved = put_mark p v (left_state v (mark_of p v)) (mark_of p v) there ∙ was.unsaved;
          rests = inl (put_state p v (left_state v (mark_of p v)) (mark_of p v) there ∙ left_unfilled v (mark_of p v) i n k was.unsaved);
        })

pub evict_sharers : (p : Placement) (f image : ℕ) → sharers (evict p f) image ≡ sharers p image
evict_sharers p f image = go (page_of p f)
  where
    go : (h : Option Page) → sharers (evict_at p f h) image ≡ sharers p image
    go None = refl
    go (Some v) = put_sharers p v (left_state v (mark_of p v)) (mark_of p v) image

pub enter_aside : (p : Placement) (v : Page) (f : ℕ) (s : PageState) (m : Bool) (ts : List Transfer) → OwnsFrames p → 0 < times f p.free
    → Enters (evict p f) v f s m ts → TextAside p → IsShared p v → TextAside (enter (evict p f) v f s m ts)
enter_aside p v f s m ts o b t a sh = local_aside (evict p f) (enter (evict p f) v f s m ts) v f (evict_owner p f o b) (enter_local (evict p f) v f s m ts (evict_owner p f o b) t)
    (put_sharers (evict p f) v s m) (evict_aside p f o a b)
    (λ i n e z. shared_not p v i n sh e (sym (evict_sharers p f i) ∙ z))

-- Blocks.

unshared_or : (n : ℕ) → (n ≡ 0) ⊎ ((k : ℕ) × (n ≡ suc k))
unshared_or zero = inl refl
unshared_or (suc k) = inr (k, refl)

-- a page of a space or of shared text has its blocks
pub has_blocks : (size : ℕ) (lives : ℕ → Bool) (p : Placement) (hs : Holdings) (q : Page) → OwnsBlocks size lives p hs → IsThere p q → IsShared p q
    → IsSome (block_of hs q)
has_blocks size lives p hs (Data sid v) o there sh = let a : ArePlacesApart size hs =
    places_apart_of size hs o.book in a.found (owners.Data sid) (2 * length (slots_of p (Data sid 0))) v (o.data_held sid) tt (let l : v < length (slots_of p (Data sid 0)) = there in omega arith)
has_blocks size lives p hs (Stack sid v) o there sh = let a : ArePlacesApart size hs =
    places_apart_of size hs o.book in a.found (owners.Stack sid) (2 * length (slots_of p (Stack sid 0))) v (o.stack_held sid) tt (let l : v < length (slots_of p (Stack sid 0)) = there in omega arith)
has_blocks size lives p hs (Text image v) o there sh = elim (unshared_or (sharers p image)) [
  | inl z ↦ absurd (let l : 0 < sharers p image = sh in omega arith)
  | inr e ↦ (let a : ArePlacesApart size hs = places_apart_of size hs o.book in a.found (owners.Text image) (2 * length (slots_of p (Text image 0))) v
      (o.text_held image ∙ ap (λ (n : ℕ). text_pieces_while n (2 * length (slots_of p (Text image 0)))) e.1) tt (let l : v < length (slots_of p (Text image 0)) = there in omega arith))
]

needs_there : (p : Placement) (q : Page) → needs_blocks p q ≡ true → IsThere p q
needs_there p q e =
    let le_or : (a b : ℕ) → (a < b) ⊎ (b ≤ a) = λ a b. grind arith in
    elim (le_or (number_of q) (length (slots_of p q))) [
      | inl l ↦ l
      | inr l ↦ absurd (let h : slot_of p q ≡ Rattle.page_model.specs.Pages.no_slot = Rattle.std.proofs.lemmas.List.get_or_past (slots_of p q) (number_of q) Rattle.page_model.specs.Pages.no_slot l in
          let k : needs_blocks p q ≡ false = ap (λ (x : Slot). needs_blocks_by q x.state x.mark) h ∙ never q in let j : true ≡ false = sym e ∙ k in cc)
    ]
  where
    never : (q : Page) → needs_blocks_by q Unfilled false ≡ false
    never (Data sid v) = refl
    never (Stack sid v) = refl
    never (Text image v) = refl

aside_needs : (p : Placement) (image v : ℕ) → IsAside p (Text image v) → needs_blocks p (Text image v) ≡ false
aside_needs p image v a = elim a.rests [
  | inl e ↦ ap (λ (s : PageState). needs_blocks_by (Text image v) s (mark_of p (Text image v))) e ∙ ap (needs_blocks_by (Text image v) Unfilled) a.unsaved
  | inr e ↦ ap (λ (s : PageState). needs_blocks_by (Text image v) s (mark_of p (Text image v))) e.1 ∙ ap (needs_blocks_by (Text image v) (Invalid e.0)) a.unsaved
]

needs_shared : (p : Placement) (q : Page) → TextAside p → needs_blocks p q ≡ true → IsShared p q
needs_shared p (Text image v) a e = elim (unshared_or (sharers p image)) [
  | inl z ↦ absurd (let j : true ≡ false = sym e ∙ aside_needs p image v (a image v z) in cc)
  | inr k ↦ (let h = k.1 in omega arith)
]
needs_shared p _ a e = tt

found_own : (size : ℕ) (hs : Holdings) (q : Page) → IsBook size hs → IsSome (block_of hs q) → HasBlocks size hs q
found_own size hs q book some = go (block_of hs q) refl some
  where
    apart : ArePlacesApart size hs
    apart = places_apart_of size hs book

    go : (x : Option ℕ) → block_of hs q ≡ x → IsSome x → HasBlocks size hs q
    go None e s = absurd cc
    go (Some b) e s = record { first = b; found = e; own = apart.own (owner_of q) (number_of q) b e }

module _ (size : ℕ) (lives : ℕ → Bool) (p : Placement) (hs : Holdings) where
  -- Each page on swap, in a transfer, and each saved text page, has its two blocks in its own owner's holding.
  pub needed_found : OwnsBlocks size lives p hs → TextAside p → (q : Page) → needs_blocks p q ≡ true → HasBlocks size hs q
  needed_found o a q e = found_own size hs q o.book (has_blocks size lives p hs q o (needs_there p q e) (needs_shared p q a e))

  -- The frames, the blocks and the text have their owners, and so each page has the blocks that it needs.
  pub one_owner : OwnsFrames p → OwnsBlocks size lives p hs → TextAside p → OneOwner size lives p hs
  one_owner f o a = record { frames = f; blocks = o; aside = a; places = needed_found o a }

  pub places_found : (q : Page) → OneOwner size lives p hs → needs_blocks p q ≡ true → IsSome (block_of hs q)
  places_found q o e = let b : HasBlocks size hs q = o.places q e in subst IsSome (sym b.found) refl

-- the same sizes and sharers, the same holdings
pub blocks_still : (size : ℕ) (lives : ℕ → Bool) (p q : Placement) (hs : Holdings) → ((w : Page) → length (slots_of q w) ≡ length (slots_of p w))
    → ((image : ℕ) → sharers q image ≡ sharers p image)
    → OwnsBlocks size lives p hs → OwnsBlocks size lives q hs
blocks_still size lives p q hs s sh o = record {
  book = o.book;
  data_held = λ sid. o.data_held sid ∙ ap (λ (n : ℕ). pieces (2 * n)) (sym (s (Data sid 0)));
  stack_held = λ sid. o.stack_held sid ∙ ap (λ (n : ℕ). pieces (2 * n)) (sym (s (Stack sid 0)));
  text_held = λ image. o.text_held image ∙ ap (λ (n : ℕ). text_pieces_while n (2 * length (slots_of p (Text image 0)))) (sym (sh image))
      ∙ ap (λ (n : ℕ). text_pieces_while (sharers q image) (2 * n)) (sym (s (Text image 0)));
  u_held = o.u_held;
}
