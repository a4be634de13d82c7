-- Where spaces come and go the transfers in flight stay as they were: their pages have the same blocks, and the same
-- images.
use Rattle.std.proofs.Common.{◌≡◌, ◌≢◌, inl, inr, ℕ, zero, suc, ◌*◌, ◌<◌, Bool, true, false, List, [], ◌∷◌, ◌++◌, length, map, take}
use Rattle.std.proofs.Common.{Option, Some, None, IsSome, Ok, slice_get, refl, sym, ap, ◌∙◌, subst, arith}
use Rattle.std.proofs.lemmas.Bool.{cases_eq, cases_Bool}
use Rattle.vm_facts.specs.declared.page.Page.{Page}
use Rattle.vm_facts.specs.declared.page.Page.TheVariants.{Data, Stack, Text}
use Rattle.vm_facts.specs.declared.page.PageState.{PageState}
use Rattle.vm_facts.specs.declared.page.PageState.TheVariants.{Coming, Going}
use Rattle.aout_image.specs.declared.Image.{Image}
use Rattle.swap_dmap.specs.Chunks.{pieces}
use Rattle.swap_book.specs.declared.Owner.{Owner}
use Rattle.swap_book.specs.declared.Owner.TheVariants as owners
use Rattle.swap_book.specs.declared.Held.{Held}
use Rattle.swap_book.specs.Owners.{same_owner, spot_of}
use Rattle.swap_book.specs.Holdings.{Holdings, of_owner, kept, block_at, block_in}
use Rattle.swap_book.specs.Placing.{Wanted, place_all}
use Rattle.swap_book.proofs.OwnerLaws.{same_owner_gives}
use Rattle.swap_book.proofs.KeptLaws.{of_owner-kept, of_owner-kept_other, block_in_same}
use Rattle.transfer_ring.specs.declared.transfer.Inbound.{Inbound}
use Rattle.transfer_ring.specs.declared.transfer.Outbound.{Outbound}
use Rattle.transfer_ring.specs.declared.transfer.Source.{Source as From}
use Rattle.transfer_ring.specs.declared.transfer.Source.TheVariants as froms
use Rattle.transfer_ring.specs.declared.transfer.Transfer.{Transfer as Flight}
use Rattle.transfer_ring.specs.declared.transfer.Transfer.TheVariants as flights
use Rattle.flat_state.specs.PageNames.{number_of}
use Rattle.flat_state.specs.declared.change.Change.{Change}
use Rattle.flat_state.specs.declared.change.Change.TheVariants.{Keep, Resize, Fork, Lend, Exec, Reap, Sleep, End}
use Rattle.page_model.specs.Pages.{SpacePages, numbered, frame_of}
use Rattle.page_model.specs.Placement.{Placement, Transfer, Source, Errand, Writes, Reads, Moving, moving, moving_state, parts_of}
use Rattle.page_model.specs.Placement.{space_number, image_of, image_in, state_of, mark_of, sharers, new_pages, IsThere}
use Rattle.page_model.specs.Moves.{drop_all}
use Rattle.page_model.specs.Place.{Changing, place_change, enter_image, give_up, give_up_unless, remove_space, leave_text, leave_text_by}
use Rattle.page_model.specs.Place.{pages_of_space, pages_of_text, facts_numbered}
use Rattle.page_model.specs.Ownership.{Each, IsMoving, OwnsFrames, OneOwner, owner_of, block_of, needs_blocks, needs_blocks_by}
use Rattle.table_steps.proofs.Local.{none_some}
use Rattle.table_steps.proofs.Aside.{places_found}
use Rattle.table_steps.proofs.Puts.{drop_all_kept, leave_all_kept}
use Rattle.table_steps.proofs.PageLawsMovesSteps.{page_in, frame_of_moving}
use Rattle.table_steps.proofs.PageLawsOwnershipChanges.{added_other, removed_other, removed_same}
use Rattle.kernel_model.specs.ChangeStep.{text_given_back, given_back_unless, holdings_after}
use Rattle.kernel_model.specs.Asks.{HasSpace}
use Rattle.kernel_laws.proofs.Machine.Done.{some_of}
use Rattle.kernel_laws.proofs.Machine.Breaks.{resized_image}
use Rattle.kernel_laws.proofs.Machine.Gone.{none_kept}
use Rattle.table_steps.proofs.Shapes.{Shaped, image_kept, shaped_by_puts}
use Rattle.table_steps.proofs.Takes.{still_found}
use Rattle.table_steps.specs.Sourced.{ImageNamed, IsOwnBlock, IsRangeOf, named_at, IsSourced, AreSourcedIn, AreOwnBlocks}
use Rattle.table_steps.specs.Sourced.{AreSourced}
use Rattle.table_steps.specs.View.{source_shown, in_part, out_part, transfer_shown}

-- Blocks. What is given back moves no piece that is kept.

kept_front : (gs : List Held) (n i r block : ℕ) → block_at (slice_get (take n gs) i) r ≡ Some block
    → block_at (slice_get gs i) r ≡ Some block
kept_front gs zero i r block e = none_some block e
kept_front [] (suc n) i r block e = e
kept_front (g ∷ gs) (suc n) zero r block e = e
kept_front (g ∷ gs) (suc n) (suc i) r block e = kept_front gs n i r block e

kept_block : (hs : Holdings) (owner other : Owner) (n v block : ℕ) → block_in (kept owner n hs) other v ≡ Some block
    → block_in hs other v ≡ Some block
kept_block hs owner other n v block e = elim (cases_Bool (same_owner owner other)) [
  | inl s ↦
      let same : owner ≡ other = same_owner_gives owner other s in
      let own : block_in (kept other n hs) other v ≡ Some block = subst (λ (o : Owner). block_in (kept o n hs) other v ≡ Some block) same e in
      kept_front (of_owner other hs) n (spot_of other v).0 (spot_of other v).1 block
      (sym (ap (λ (gs : List Held). block_at (slice_get gs (spot_of other v).0) (spot_of other v).1) (of_owner-kept other n hs)) ∙ own)
  | inr d ↦ sym (block_in_same hs (kept owner n hs) other v (of_owner-kept_other owner other n hs d)) ∙ e
]

unless_block : (b : Bool) (hs : Holdings) (sid image left : ℕ) (owner : Owner) (v block : ℕ)
    → block_in (given_back_unless b hs sid image left) owner v ≡ Some block → block_in hs owner v ≡ Some block
unless_block true hs sid image left owner v block e = e
unless_block false hs sid image left owner v block e =
    kept_block hs (owners.Data sid) owner 0 v block (kept_block (kept (owners.Data sid) 0 hs) (owners.Stack sid) owner 0 v block (text left e))
  where
    rest : Holdings
    rest = kept (owners.Stack sid) 0 (kept (owners.Data sid) 0 hs)

    text : (n : ℕ) → block_in (text_given_back n rest image) owner v ≡ Some block → block_in rest owner v ≡ Some block
    text zero k = kept_block rest (owners.Text image) owner 0 v block k
    text (suc n) k = k

after_block : (c : Changing) (hs : Holdings) (p q : Placement) (change : Change) (owner : Owner) (v block : ℕ)
    → block_in (holdings_after c hs p q change) owner v ≡ Some block → block_in hs owner v ≡ Some block
after_block c hs p q Keep owner v block e = e
after_block c hs p q (Resize d s) owner v block e =
    kept_block hs (owners.Data c.sid) owner (length (pieces (2 * d))) v block
    (kept_block (kept (owners.Data c.sid) (length (pieces (2 * d))) hs) (owners.Stack c.sid) owner (length (pieces (2 * s))) v block e)
after_block c hs p q (Fork child) owner v block e = e
after_block c hs p q (Lend child) owner v block e = e
after_block c hs p q (Exec image top) owner v block e = unless_block c.borrowed hs c.sid (image_of p c.sid) _ owner v block e
after_block c hs p q (Reap child) owner v block e = e
after_block c hs p q Sleep owner v block e = e
after_block c hs p q (End status) owner v block e =
    unless_block c.borrowed hs c.sid (image_of p c.sid) _ owner v block (kept_block _ (owners.U c.pid) owner 0 v block e)

-- a block that a page has after it is the one that it had
same_block : (o n : Option ℕ) (block : ℕ) → o ≡ Some block → IsSome n → ((x : ℕ) → n ≡ Some x → o ≡ Some x) → n ≡ Some block
same_block o n block e h back =
    let x = some_of n h in
    x.1 ∙ sym (back x.0 x.1) ∙ e

moving_needs : (p : Placement) (q : Page) (e : Errand) (f : ℕ) → state_of p q ≡ moving_state e f → needs_blocks p q ≡ true
moving_needs p q Writes f h = ap (λ (s : PageState). needs_blocks_by q s (mark_of p q)) h ∙ going q (mark_of p q)
  where
    going : (q : Page) (m : Bool) → needs_blocks_by q (Going f) m ≡ true
    going (Data n v) true = refl
    going (Data n v) false = refl
    going (Stack n v) true = refl
    going (Stack n v) false = refl
    going (Text n v) true = refl
    going (Text n v) false = refl
moving_needs p q (Reads s d) f h = ap (λ (s : PageState). needs_blocks_by q s (mark_of p q)) h ∙ coming q (mark_of p q)
  where
    coming : (q : Page) (m : Bool) → needs_blocks_by q (Coming f) m ≡ true
    coming (Data n v) true = refl
    coming (Data n v) false = refl
    coming (Stack n v) true = refl
    coming (Stack n v) false = refl
    coming (Text n v) true = refl
    coming (Text n v) false = refl

-- Images. A space that is there before and after a change has its image still.

-- by the space that goes
left_image : (p q : Placement) (sid n : ℕ) → Shaped (remove_space p sid) q → HasSpace q n → image_of q n ≡ image_of p n
left_image p q sid n s there = elim (cases_eq n sid) [
  | inl e ↦ absurd (there (none_kept (numbered space_number n (remove_space p sid).spaces) (numbered space_number n q.spaces) (s.spaces n)
      (ap (λ (m : ℕ). numbered space_number m (remove_space p sid).spaces) e ∙ removed_same sid p.spaces)))
  | inr d ↦ image_kept (remove_space p sid) q s n ∙ ap image_in (removed_other sid n p.spaces d)
]

text_shaped : (p : Placement) (image : ℕ) → Shaped p (leave_text p image)
text_shaped p image = go (sharers p image)
  where
    go : (n : ℕ) → Shaped p (leave_text_by p image n)
    go zero = leave_all_kept shaped_by_puts (pages_of_text p image) p
    go (suc n) = leave_all_kept shaped_by_puts [] p

give_up_image : (p : Placement) (sid n : ℕ) → HasSpace (give_up p sid) n → image_of (give_up p sid) n ≡ image_of p n
give_up_image p sid n there =
    let d : Placement = drop_all p (pages_of_space p sid) in
    left_image d (give_up p sid) sid n (text_shaped (remove_space d sid) (image_of p sid)) there
    ∙ image_kept p d (drop_all_kept shaped_by_puts (pages_of_space p sid) p) n

unless_image : (b : Bool) (p : Placement) (sid n : ℕ) → HasSpace (give_up_unless b p sid) n
    → image_of (give_up_unless b p sid) n ≡ image_of p n
unless_image true p sid n there = refl
unless_image false p sid n there = give_up_image p sid n there

enter_image_of : (p : Placement) (next image n : ℕ) (facts : Option Image) → next ≢ n
    → image_of (enter_image p next image facts) n ≡ image_of p n
enter_image_of p next image n None d = refl
enter_image_of p next image n (Some facts) d = ap image_in (added_other n p.spaces (new_pages next image facts) d)

image_stays : (c : Changing) (p : Placement) (change : Change) (n : ℕ) → c.next_sid ≢ n
    → HasSpace (place_change c p change) n
    → image_of (place_change c p change) n ≡ image_of p n
image_stays c p Keep n d there = refl
image_stays c p (Resize x y) n d there = resized_image p c.sid x y n
image_stays c p (Fork child) n d there = ap image_in (added_other n p.spaces _ d)
image_stays c p (Lend child) n d there = refl
image_stays c p (Exec image top) n d there =
    unless_image c.borrowed (enter_image p c.next_sid image (facts_numbered c.images image)) c.sid n there ∙ enter_image_of p c.next_sid image n (facts_numbered c.images image) d
image_stays c p (Reap child) n d there = refl
image_stays c p Sleep n d there = refl
image_stays c p (End status) n d there = unless_image c.borrowed p c.sid n there

-- The ring.

-- pages that are in flight before and after
record Stay (f g : ℕ → ℕ) (hs now : Holdings) (m : Moving) : Type 0 where
  pub block : (x : ℕ) → block_of hs m.page ≡ Some x → block_of now m.page ≡ Some x
  pub image : (sid v : ℕ) → m.page ≡ Data sid v → g sid ≡ f sid

own_stays : (hs now : Holdings) (size : ℕ) (q : Page) (block : ℕ) → ((x : ℕ) → block_of hs q ≡ Some x → block_of now q ≡ Some x)
    → IsOwnBlock hs size q block → IsOwnBlock now size q block
own_stays hs now size q block h o = record { own = h block o.own; place = o.place }

one_stays : (ns : List ImageNamed) (f g : ℕ → ℕ) (hs now : Holdings) (size : ℕ) (q : Page) (x : From) (e : Errand) (n : ℕ)
    → Stay f g hs now (record { errand = e; page = q; frame = n })
    → IsSourced ns f hs size q x → IsSourced ns g now size q x
one_stays ns f g hs now size q (froms.Swap block) e n s h = own_stays hs now size q block s.block h
one_stays ns f g hs now size (Data sid v) (froms.File id offset count) e n s h = subst (λ (i : ℕ). IsRangeOf (named_at ns i) false v id offset count) (sym (s.image sid v refl)) h
one_stays ns f g hs now size (Stack sid v) (froms.File id offset count) e n s h = h
one_stays ns f g hs now size (Text i v) (froms.File id offset count) e n s h = h

reads_stay : (ns : List ImageNamed) (f g : ℕ → ℕ) (hs now : Holdings) (size : ℕ) (s : Source) (e : Errand) (xs : List Inbound) (ms : List Moving)
    → Each (Stay f g hs now) (map (moving e) (map in_part xs) ++ ms)
    → AreSourcedIn ns f hs size s xs → AreSourcedIn ns g now size s xs × Each (Stay f g hs now) ms
reads_stay ns f g hs now size s e [] ms k h = (tt, k)
reads_stay ns f g hs now size s e (x ∷ xs) ms k h =
    let r = reads_stay ns f g hs now size s e xs ms k.1 h.2 in
    ((h.0, one_stays ns f g hs now size x.page x.source e x.token.number k.0 h.1, r.0), r.1)

writes_stay : (f g : ℕ → ℕ) (hs now : Holdings) (size : ℕ) (e : Errand) (xs : List Outbound) (ms : List Moving)
    → Each (Stay f g hs now) (map (moving e) (map out_part xs) ++ ms)
    → AreOwnBlocks hs size xs → AreOwnBlocks now size xs × Each (Stay f g hs now) ms
writes_stay f g hs now size e [] ms k h = (tt, k)
writes_stay f g hs now size e (x ∷ xs) ms k h =
    let r = writes_stay f g hs now size e xs ms k.1 h.1 in
    let s : Stay f g hs now (moving e (out_part x)) = k.0 in
    ((own_stays hs now size x.page x.block s.block h.0, r.0), r.1)

ring_stays : (ns : List ImageNamed) (f g : ℕ → ℕ) (hs now : Holdings) (size : ℕ) (ts : List Flight)
    → Each (Stay f g hs now) (parts_of (map transfer_shown ts)) → AreSourced ns f hs size ts → AreSourced ns g now size ts
ring_stays ns f g hs now size [] k h = tt
ring_stays ns f g hs now size (flights.Read demanded parts ∷ ts) k h =
    let r = reads_stay ns f g hs now size (source_shown parts.items) (Reads (source_shown parts.items) demanded) parts.items (parts_of (map transfer_shown ts)) k h.0 in
    (r.0, ring_stays ns f g hs now size ts r.1 h.1)
ring_stays ns f g hs now size (flights.Write parts ∷ ts) k h =
    let r = writes_stay f g hs now size Writes parts.items (parts_of (map transfer_shown ts)) k h.0 in
    (r.0, ring_stays ns f g hs now size ts r.1 h.1)

-- what is in flight before and after
pub record Behind (c : Changing) (size : ℕ) (lives : ℕ → Bool) (p : Placement) (change : Change)
    (before hs now : Holdings) : Type 0 where
  pub owns : OneOwner size lives (place_change c p change) now
  pub same : (place_change c p change).transfers ≡ p.transfers
  pub new : numbered space_number c.next_sid p.spaces ≡ None
  pub pieces : List Wanted
  pub found : place_all size before pieces ≡ Ok hs
  pub given : now ≡ holdings_after c hs p (place_change c p change) change

-- a page that is there is of a space that is there
data_space : (p : Placement) (sid v : ℕ) → IsThere p (Data sid v) → HasSpace p sid
data_space p sid v there none = absurd (let h : v < 0 = subst (λ (o : Option SpacePages). v < length (Rattle.page_model.specs.Pages.data_in o)) none there in omega arith)

each_stays : (c : Changing) (size : ℕ) (lives : ℕ → Bool) (p : Placement) (change : Change)
    (before hs now : Holdings)
    → Behind c size lives p change before hs now → (ms : List Moving) → Each (IsMoving p) ms
    → Each (IsMoving (place_change c p change)) ms
    → Each (Stay (image_of p) (image_of (place_change c p change)) before now) ms
each_stays c size lives p change before hs now z [] k l = tt
each_stays c size lives p change before hs now z (m ∷ ms) k l = (one, each_stays c size lives p change before hs now z ms k.1 l.1)
  where
    q : Placement
    q = place_change c p change

    was : IsMoving p m
    was = k.0

    is : IsMoving q m
    is = l.0

    one : Stay (image_of p) (image_of q) before now m
    one = record {
      block = λ x e.
          let first : block_of hs m.page ≡ Some x = still_found size before hs z.pieces (owner_of m.page) (number_of m.page) x z.found e in
          same_block (block_of hs m.page) (block_of now m.page) x first (places_found size lives q now m.page z.owns (moving_needs q m.page m.errand m.frame is))
          (λ y i. after_block c hs p q change (owner_of m.page) (number_of m.page) y (sym (ap (λ (g : Holdings). block_of g m.page) z.given) ∙ i));
      image = λ n v e.
          let there : IsThere p (Data n v) = subst (IsThere p) e (page_in p m.page m.frame (ap frame_of was ∙ frame_of_moving m.errand m.frame)) in
          let here : IsThere q (Data n v) = subst (IsThere q) e (page_in q m.page m.frame (ap frame_of is ∙ frame_of_moving m.errand m.frame)) in
          image_stays c p change n (λ i. data_space p n v there (ap (λ (j : ℕ). numbered space_number j p.spaces) (sym i) ∙ z.new)) (data_space q n v here);
    }

-- the transfers have their sources after a change
pub sourced_behind : (ns : List ImageNamed) (c : Changing) (size : ℕ) (lives : ℕ → Bool) (p : Placement)
    (change : Change) (before hs now : Holdings) (ts : List Flight)
    → Behind c size lives p change before hs now → p.transfers ≡ map transfer_shown ts → OwnsFrames p
    → AreSourced ns (image_of p) before size ts → AreSourced ns (image_of (place_change c p change)) now size ts
sourced_behind ns c size lives p change before hs now ts z e o s =
    let q : Placement = place_change c p change in
    let oq : OneOwner size lives q now = z.owns in
    let fq : OwnsFrames q = oq.frames in
    ring_stays ns (image_of p) (image_of q) before now size ts
    (each_stays c size lives p change before hs now z (parts_of (map transfer_shown ts))
    (subst (λ (xs : List Transfer). Each (IsMoving p) (parts_of xs)) e o.moves)
    (subst (λ (xs : List Transfer). Each (IsMoving q) (parts_of xs)) (z.same ∙ e) fq.moves))
    s
