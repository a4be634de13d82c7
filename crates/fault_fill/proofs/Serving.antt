-- What a unit of serving leaves as it was, and the numbers that fall with it.
use Rattle.std.proofs.Common.{◌≡◌, inl, inr, ℕ, ◌+◌, ◌<◌, ◌≤◌, Bool, true, false, cond, List, [], ◌∷◌, ◌++◌, length, Some, None, refl, sym, ap, ◌∙◌, subst, arith}
use Rattle.std.proofs.lemmas.Bool.Decides.{nat_tests}
use Rattle.std.proofs.lemmas.Option.{same_Some}
use Rattle.flat_state.specs.Journal.{append}
use Rattle.clock_hands.specs.LastMoves.{last_moves}
use Rattle.clock_hands.proofs.LastMoves.{last_of}
use Rattle.vm_facts.specs.declared.page.Page.{Page}
use Rattle.vm_facts.specs.declared.page.Page.TheVariants.{Data, Stack, Text}
use Rattle.vm_facts.specs.declared.page.PageState.{PageState}
use Rattle.vm_facts.specs.declared.page.PageState.TheVariants.{Unfilled, Valid, Invalid, Coming, Going, OnSwap}
use Rattle.vm_facts.specs.declared.entry.Entry.{Entry}
use Rattle.vm_facts.specs.declared.entry.Entry.TheVariants as entries
use Rattle.page_model.specs.Pages.{Slot, Filling, Zeros, OfImage, frame_of}
use Rattle.page_model.specs.Placement.{Placement, Transfer, Due, slot_of, state_of, mark_of, filling_by, filling_of, IsThere, sharers}
use Rattle.page_model.specs.Moves.{evict, fill_at, reclaim, reclaim_to, done}
use Rattle.page_model.specs.Place.{filled}
use Rattle.page_model.specs.Serve.{force, force_entry, serve_step, serve_unit, is_full, Forces, Serves, Serving, serving_by, unit_of_serving, after_serving}
use Rattle.page_model.specs.Reading.{read_step, read_entry}
use Rattle.page_model.specs.Rank.{rank, HandsStand, HasRoom}
use Rattle.page_model.specs.Conditions.{IsShared}
use Rattle.page_model.specs.Dues.{NotDue}
use Rattle.page_model.specs.Ownership.{OwnsFrames}
use Rattle.page_laws.proofs.Lists.Pages.{put_state}
use Rattle.page_laws.proofs.Blocks.Steps.{SameShape}
use Rattle.page_laws.proofs.Moves.Stays.{Steady, Stays, done_steady, force_stays}
use Rattle.page_laws.proofs.Moves.Steps.{EvictRest, evict_rest}
use Rattle.page_laws.proofs.Moves.Units.{unit_is}
use Rattle.page_laws.proofs.Ownership.Serve.{force_owner, serve_owner}
use Rattle.page_laws.proofs.Ends.Serving.{Landed, is_coming, flying_in, read_comes, serve_falls, full_some}
use Rattle.page_laws.proofs.Ends.Hands.{serve_stands}
use Rattle.page_laws.proofs.Ends.Wholes.{serve_sizes, serve_room, serve_shape}
use Rattle.page_laws.proofs.Moves.Cases.{serving_cases, read_frameless, serving_invalid, serving_starved, some_of}
use Rattle.page_laws.proofs.Due.Entries.{serve_dues}
use Rattle.page_laws.proofs.Serving.{done_lands}
use Rattle.clock_hands.proofs.Serving.{done_less}
use Rattle.clock_hands.specs.PlaceOf.{is_blank}
use Rattle.fault_fill.specs.Serving.{CanServe}
use Rattle.fault_fill.specs.Units.{is_flying}

pub serve_sharing : (p : Placement) (locked : List Page) (q : Page) → OwnsFrames p → (image : ℕ) → sharers (serve_step p locked q) image ≡ sharers p image
serve_sharing p locked q o = let s : SameShape p (serve_step p locked q) = serve_shape p locked q o in s.sharing

-- Whether the page has to be filled with zeros.

same_slot : (p r : Placement) (q : Page) → slot_of r q ≡ slot_of p q → is_blank (state_of r q) (filling_of r q) ≡ is_blank (state_of p q) (filling_of p q)
same_slot p r q e = ap (λ (x : Slot). is_blank x.state (filling_by q x.filling)) e

blank_state : (s : PageState) (x : Filling) → (s ≡ Unfilled → ⊥) → is_blank s x ≡ false
blank_state Unfilled x n = absurd (n refl)
blank_state (Valid f) x n = refl
blank_state (Invalid f) x n = refl
blank_state (Coming f) x n = refl
blank_state (Going f) x n = refl
blank_state OnSwap x n = refl

landed_filled : (s : PageState) → Landed s → s ≡ Unfilled → ⊥
landed_filled (Valid f) l e = absurd cc
landed_filled (Invalid f) l e = absurd cc
landed_filled Unfilled l e = l
landed_filled (Coming f) l e = l
landed_filled (Going f) l e = l
landed_filled OnSwap l e = l

coming_filled : (s : PageState) → is_coming s ≡ true → s ≡ Unfilled → ⊥
coming_filled (Valid f) c e = absurd cc
coming_filled (Invalid f) c e = absurd cc
coming_filled Unfilled c e = absurd cc
coming_filled (Coming f) c e = absurd cc
coming_filled (Going f) c e = absurd cc
coming_filled OnSwap c e = absurd cc

reclaimed : (p : Placement) (q : Page) (f : ℕ) → IsThere p q → state_of p q ≡ Invalid f → state_of (reclaim p q) q ≡ Valid f
reclaimed p q f there e = ap (λ (s : PageState). state_of (reclaim_to p q s) q) e ∙ put_state p q (Valid f) (mark_of p q) there

filled_state : (p : Placement) (q : Page) (f : ℕ) (fs : List ℕ) → IsThere p q → p.free ≡ f ∷ fs → state_of (filled p q) q ≡ Valid f
filled_state p q f fs there e =
    ap (λ (fr : List ℕ). state_of (fill_at p q fr) q) e
    ∙ put_state (evict p f) q (Valid f) true (let r : EvictRest p (evict p f) = evict_rest p f in let h = r.sizes q in omega arith)

-- a page that needs no zeros needs none after a unit
still_filled : (p : Placement) (locked : List Page) (q : Page) → OwnsFrames p → IsThere p q → is_blank (state_of p q) (filling_of p q) ≡ false
    → is_blank (state_of (serve_step p locked q) q) (filling_of (serve_step p locked q) q) ≡ false
still_filled p locked q o there b = serving_cases (λ x. Goal (after_serving p locked x)) p q (λ f s. b)
    (λ f s. ap (λ (x : PageState). is_blank x (filling_of (reclaim p q) q)) (reclaimed p q f there s))
    (λ f s. elim s [
      | inl e ↦ flies (Coming f) e (λ u. absurd cc)
      | inr e ↦ flies (Going f) e (λ u. absurd cc)
    ])
    (λ n l. let s : Stays p (force p locked) = force_stays p locked o in same (force p locked) (s.others q n))
    (λ f fs l s x. absurd (let k : true ≡ false = sym (ap (λ (y : PageState). is_blank y (filling_of p q)) s ∙ ap (is_blank Unfilled) x) ∙ b in cc))
    (λ f fs l r k. let s : Steady p (done p) = done_steady p o in same (done p) (s.others q (read_frameless p q r)))
    (λ f fs l r k. blank_state (state_of (read_step p q) q) (filling_of (read_step p q) q)
    (coming_filled (state_of (read_step p q) q) (read_comes p q o (record { there = there; frameless = read_frameless p q r }) (some_of p f fs l))))
  where
    Goal : Placement → Type 0
    Goal r = is_blank (state_of r q) (filling_of r q) ≡ false

    same : (r : Placement) → slot_of r q ≡ slot_of p q → Goal r
    same r e = same_slot p r q e ∙ b

    flies : (s : PageState) → state_of p q ≡ s → (s ≡ Unfilled → ⊥) → Goal (done p)
    flies s e n = elim (done_lands p q there) [
      | inl k ↦ blank_state (state_of (done p) q) (filling_of (done p) q) (λ u. n (sym e ∙ sym k ∙ u))
      | inr l ↦ blank_state (state_of (done p) q) (filling_of (done p) q) (landed_filled (state_of (done p) q) l)
    ]

-- What serving asks of its page is so again after each unit.

still_shared : (p r : Placement) (q : Page) → ((image : ℕ) → sharers r image ≡ sharers p image) → IsShared p q → IsShared r q
still_shared p r (Data sid v) e h = h
still_shared p r (Stack sid v) e h = h
still_shared p r (Text image v) e h = let a = e image in omega arith

pub still_served : (p : Placement) (locked : List Page) (q : Page) → OwnsFrames p → CanServe p q → CanServe (serve_step p locked q) q
still_served p locked q o c = record {
  there = (let a = serve_sizes p locked q o q in let b = c.there in omega arith);
  shared = still_shared p (serve_step p locked q) q (serve_sharing p locked q o) c.shared;
  fresh = subst (λ (ds : List Due). NotDue ds q) (sym dues) c.fresh;
  blank = go (is_blank (state_of p q) (filling_of p q)) refl;
}
  where
    dues : (serve_step p locked q).due ≡ p.due
    dues = serve_dues p locked q o c.fresh

    go : (b : Bool) → is_blank (state_of p q) (filling_of p q) ≡ b
        → is_blank (state_of (serve_step p locked q) q) (filling_of (serve_step p locked q) q) ≡ true → (serve_step p locked q).due ≡ []
    go true e h = dues ∙ c.blank e
    go false e h = absurd (let k : true ≡ false = sym h ∙ still_filled p locked q o c.there e in cc)

-- What is so after units of serving.
pub record Behind (p r : Placement) (locked : List Page) (q : Page) : Type 0 where
  pub can : CanServe r q
  pub room : HasRoom p locked → HasRoom r locked

pub served_behind : (us : List Entry) (p r : Placement) (locked : List Page) (q : Page) (now : Bool) → OwnsFrames p → CanServe p q
    → Serves us p locked q now r → Behind p r locked q
served_behind [] p r locked q now o c h = subst (λ (x : Placement). Behind p x locked q) h (record { can = c; room = λ k. k })
served_behind (e ∷ us) p r locked q now o c h =
    let b : Behind (serve_step p locked q) r locked q =
    served_behind us (serve_step p locked q) r locked q now (serve_owner p locked q o c.there) (still_served p locked q o c) h.1 in
    record { can = b.can; room = λ k. b.room (serve_room p locked q o k) }

-- the rank falls with each unit
pub rank_falls : (us : List Entry) (p r : Placement) (locked : List Page) (q : Page) (now : Bool) → OwnsFrames p → CanServe p q → HandsStand p
    → HasRoom p locked
    → Serves us p locked q now r → length us + rank r locked q ≤ rank p locked q
rank_falls [] p r locked q now o c s m h = let a = ap (λ (x : Placement). rank x locked q) h in omega arith
rank_falls (e ∷ us) p r locked q now o c s m h =
    let u = unit_is p q now e h.0 in
    let a = serve_falls p locked q o s m c.there u.0 in
    let b = rank_falls us (serve_step p locked q) r locked q now (serve_owner p locked q o c.there) (still_served p locked q o c) (serve_stands p locked q o s) (serve_room p locked q o m) h.1 in
    omega arith

-- Where waiting isn't allowed, this number falls.

abbrev pub near_by : PageState → ℕ → ℕ
near_by (Valid f) n = 0
near_by (Invalid f) n = 1
near_by (Coming f) n = 0
near_by (Going f) n = 0
near_by Unfilled n = 2 + n
near_by OnSwap n = 2 + n

-- how many units a page is from being valid, or from waiting
abbrev pub near : Placement → Page → ℕ
near p q = near_by (state_of p q) (length p.transfers)

coming_near : (s : PageState) (n : ℕ) → is_coming s ≡ true → near_by s n ≡ 0
coming_near (Valid f) n c = refl
coming_near (Invalid f) n c = absurd cc
coming_near (Coming f) n c = refl
coming_near (Going f) n c = refl
coming_near Unfilled n c = absurd cc
coming_near OnSwap n c = absurd cc

frameless_near : (s : PageState) (n : ℕ) → frame_of s ≡ None → near_by s n ≡ 2 + n
frameless_near Unfilled n e = refl
frameless_near OnSwap n e = refl
frameless_near (Valid f) n e = absurd cc
frameless_near (Invalid f) n e = absurd cc
frameless_near (Coming f) n e = absurd cc
frameless_near (Going f) n e = absurd cc

pub near_falls : (p : Placement) (q : Page) (e : Entry) → OwnsFrames p → IsThere p q → serve_unit p q false ≡ Some e → near (serve_step p [] q) q < near p q
near_falls p q e o there h = serving_cases (λ x. unit_of_serving x false ≡ Some e → near (after_serving p [] x) q < near p q) p q (λ f s k. absurd cc)
    (λ f s k. let a = ap (λ (x : PageState). near_by x (length (reclaim p q).transfers)) (reclaimed p q f there s) in
    let b = ap (λ (x : PageState). near_by x (length p.transfers)) s in omega arith)
    (λ f s k. absurd cc) (λ n l k. absurd cc)
    (λ f fs l s x k. let a = ap (λ (y : PageState). near_by y (length (filled p q).transfers)) (filled_state p q f fs there l) in
    let b = frameless_near (state_of p q) (length p.transfers) (ap frame_of s) in omega arith)
    (λ f fs l r b k. waits (read_frameless p q r) b)
    (λ f fs l r b k.
    let a = read_comes p q o (record { there = there; frameless = read_frameless p q r }) (some_of p f fs l) in
    let c = coming_near (state_of (read_step p q) q) (length (read_step p q).transfers) a in
    let d = frameless_near (state_of p q) (length p.transfers) (read_frameless p q r) in omega arith) h
  where
    waits : frame_of (state_of p q) ≡ None → is_full p ≡ true → near (done p) q < near p q
    waits n full =
        let s : Steady p (done p) = done_steady p o in
        let a = done_less p (λ z. (let l = full_some p full in let k = ap length z in absurd (omega arith))) in
        let b = frameless_near (state_of (done p) q) (length (done p).transfers) (s.frames q ∙ n) in
        let c = frameless_near (state_of p q) (length p.transfers) n in
        omega arith

-- Units in order.

pub serves_append : (us vs : List Entry) (p m r : Placement) (locked : List Page) (q : Page) (now : Bool)
    → Serves us p locked q now m → Serves vs m locked q now r → Serves (us ++ vs) p locked q now r
serves_append [] vs p m r locked q now a b = subst (λ (x : Placement). Serves vs x locked q now r) (sym a) b
serves_append (e ∷ us) vs p m r locked q now a b = (a.0, serves_append us vs (serve_step p locked q) m r locked q now a.1 b)

-- Which unit comes next.

pub unit_reclaims : (p : Placement) (q : Page) (now : Bool) (f : ℕ) → state_of p q ≡ Invalid f → serve_unit p q now ≡ Some (entries.Reclaim q)
unit_reclaims p q now f e = ap (λ (x : Serving). unit_of_serving x now) (serving_invalid p q f e)

pub unit_blank : (p : Placement) (q : Page) (now : Bool) → is_blank (state_of p q) (filling_of p q) ≡ true → 0 < length p.free
    → serve_unit p q now ≡ Some (entries.Zero q)
unit_blank p q now b l = go (state_of p q) (filling_of p q) p.free b l
  where
    go : (s : PageState) (x : Filling) (free : List ℕ) → is_blank s x ≡ true → 0 < length free
        → unit_of_serving (serving_by p q s free x (is_full p)) now ≡ Some (entries.Zero q)
    go Unfilled Zeros [] z m = absurd (omega arith)
    go Unfilled Zeros (f ∷ fs) z m = refl
    go Unfilled OfImage free z m = absurd cc
    go (Valid f) x free z m = absurd cc
    go (Invalid f) x free z m = absurd cc
    go (Coming f) x free z m = absurd cc
    go (Going f) x free z m = absurd cc
    go OnSwap x free z m = absurd cc

-- a page with no frame, where one is free, that needs no zeros
pub unit_reads : (p : Placement) (q : Page) (now full : Bool) → is_full p ≡ full → frame_of (state_of p q) ≡ None
    → is_blank (state_of p q) (filling_of p q) ≡ false → 0 < length p.free
    → serve_unit p q now ≡ Some (cond full entries.Done (read_entry p q))
unit_reads p q now full w n b l = ap (λ (k : Bool). unit_of_serving (serving_by p q (state_of p q) p.free (filling_of p q) k) now) w
    ∙ go (state_of p q) (filling_of p q) p.free full n b l
  where
    go : (s : PageState) (x : Filling) (free : List ℕ) (full : Bool) → frame_of s ≡ None → is_blank s x ≡ false → 0 < length free
        → unit_of_serving (serving_by p q s free x full) now ≡ Some (cond full entries.Done (read_entry p q))
    go Unfilled Zeros free full m z k = absurd cc
    go Unfilled OfImage [] full m z k = absurd (omega arith)
    go Unfilled OfImage (f ∷ fs) true m z k = refl
    go Unfilled OfImage (f ∷ fs) false m z k = refl
    go OnSwap x [] full m z k = absurd (omega arith)
    go OnSwap x (f ∷ fs) true m z k = refl
    go OnSwap x (f ∷ fs) false m z k = refl
    go (Valid f) x free full m z k = absurd cc
    go (Invalid f) x free full m z k = absurd cc
    go (Coming f) x free full m z k = absurd cc
    go (Going f) x free full m z k = absurd cc

pub unit_waits : (p : Placement) (q : Page) → is_flying (state_of p q) ≡ true → serve_unit p q true ≡ Some entries.Done
unit_waits p q e = go (state_of p q) e
  where
    go : (s : PageState) → is_flying s ≡ true → unit_of_serving (serving_by p q s p.free (filling_of p q) (is_full p)) true ≡ Some entries.Done
    go (Coming f) z = refl
    go (Going f) z = refl
    go Unfilled z = absurd cc
    go (Valid f) z = absurd cc
    go (Invalid f) z = absurd cc
    go OnSwap z = absurd cc

pub unit_forces : (p : Placement) (q : Page) → frame_of (state_of p q) ≡ None → p.free ≡ [] → (serve_unit p q true ≡ Some (force_entry p.transfers))
unit_forces p q n e = ap (λ (x : Serving). unit_of_serving x true) (serving_starved p q n e)

step_forces : (p : Placement) (locked : List Page) (q : Page) → frame_of (state_of p q) ≡ None → p.free ≡ [] → serve_step p locked q ≡ force p locked
step_forces p locked q n e = ap (after_serving p locked) (serving_starved p q n e)

-- units that force a frame serve a page that needs one
pub forces_serve : (us : List Entry) (p r : Placement) (locked : List Page) (q : Page) → OwnsFrames p → frame_of (state_of p q) ≡ None
    → Forces us p locked r → Serves us p locked q true r
forces_serve [] p r locked q o n h = h
forces_serve (e ∷ us) p r locked q o n h =
    let s : Stays p (force p locked) = force_stays p locked o in
    let step = step_forces p locked q n h.0 in (
      unit_forces p q n h.0 ∙ ap (λ (x : Entry). Some x) (sym h.1),
      subst (λ (x : Placement). Serves us x locked q true r) (sym step)
          (forces_serve us (force p locked) r locked q (force_owner p locked o) (s.frames q ∙ n) h.2),
    )

-- What the tests of the code say.

pub not_full : (p : Placement) → length p.transfers < 16 → is_full p ≡ false
not_full p l = grind (arith, nat_tests)

pub full : (p : Placement) → length p.transfers ≡ 16 → is_full p ≡ true
full p e = grind (arith, nat_tests)

pub of_image : (s : PageState) (x : Filling) → is_blank s x ≡ false → s ≡ Unfilled → x ≡ OfImage
of_image Unfilled Zeros b e = absurd cc
of_image Unfilled OfImage b e = refl
of_image (Valid f) x b e = absurd cc
of_image (Invalid f) x b e = absurd cc
of_image (Coming f) x b e = absurd cc
of_image (Going f) x b e = absurd cc
of_image OnSwap x b e = absurd cc

-- Further facts of the next unit.

-- a unit that needs no waiting is no move of the hands
pub calm_unit : (p : Placement) (q : Page) (e : Entry) (journal : List Entry) → serve_unit p q false ≡ Some e → last_moves (append journal e) ≡ 0
calm_unit p q e journal h = serving_cases (λ x. unit_of_serving x false ≡ Some e → Calm e) p q (λ f s k. absurd cc)
    (λ f s k. same (entries.Reclaim q) (last_of journal (entries.Reclaim q)) k) (λ f s k. absurd cc) (λ n l k. absurd cc)
    (λ f fs l s x k. same (entries.Zero q) (last_of journal (entries.Zero q)) k) (λ f fs l r b k. same entries.Done (last_of journal entries.Done) k)
    (λ f fs l r b k. same (read_entry p q) (last_of journal (read_entry p q)) k) h
  where
    Calm : Entry → Type 0
    Calm x = last_moves (append journal x) ≡ 0

    same : (x : Entry) → Calm x → Some x ≡ Some e → Calm e
    same x c i = subst Calm (same_Some x e i) c

-- a page in flight is in a transfer
pub flying_some : (p : Placement) (q : Page) → OwnsFrames p → is_flying (state_of p q) ≡ true → 0 < length p.transfers
flying_some p q o e = go p.transfers refl
  where
    by : (s : PageState) → state_of p q ≡ s → is_flying s ≡ true → p.transfers ≡ [] → ⊥
    by (Coming f) k x = flying_in p q f o (inl k)
    by (Going f) k x = flying_in p q f o (inr k)
    by Unfilled k x = absurd cc
    by (Valid f) k x = absurd cc
    by (Invalid f) k x = absurd cc
    by OnSwap k x = absurd cc

    go : (ts : List Transfer) → p.transfers ≡ ts → 0 < length ts
    go [] k = absurd (by (state_of p q) refl e k)
    go (t ∷ ts) k = omega arith

-- forcing takes a unit where no frame was free
pub forces_some : (us : List Entry) (p r : Placement) (locked : List Page) → Forces us p locked r → p.free ≡ [] → 0 < length r.free → 0 < length us
forces_some [] p r locked h e l = let a = ap (λ (x : Placement). length x.free) h in let b = ap length e in absurd (omega arith)
forces_some (u ∷ us) p r locked h e l = omega arith
