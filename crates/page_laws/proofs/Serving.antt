-- Serving a page adds few entries.
use Rattle.std.proofs.Common.{◌≡◌, ◌⊎◌, inl, inr, ℕ, ◌+◌, ◌<◌, ◌≤◌, Bool, true, false, List, [], ◌∷◌, ◌++◌, length, None, refl, sym, ap, ◌∙◌, subst, arith}
use Rattle.std.proofs.lemmas.List.{length-append}
use Rattle.vm_facts.specs.declared.page.Page.{Page}
use Rattle.vm_facts.specs.declared.page.PageState.{PageState}
use Rattle.vm_facts.specs.declared.page.PageState.TheVariants.{Unfilled, Valid, Invalid, Coming, Going, OnSwap}
use Rattle.vm_facts.specs.declared.entry.Entry.{Entry}
use Rattle.vm_facts.specs.declared.entry.Entry.TheVariants as entries
use Rattle.page_model.specs.Pages.{Slot, frame_of, is_valid}
use Rattle.page_model.specs.Placement.{Placement, Transfer, state_of, mark_of, IsThere}
use Rattle.page_model.specs.Moves.{evict, fill_at, reclaim, reclaim_to, done}
use Rattle.page_model.specs.Serve.{force, force_entry, is_full, Forces, Serves, Serving, AtOnce, ByWaiting, serving, entry_of_serving, after_serving}
use Rattle.page_model.specs.Reading.{read_step, read_entry}
use Rattle.page_model.specs.Rank.{HandsStand, HasRoom}
use Rattle.page_model.specs.Conditions.{CanEnter}
use Rattle.page_model.specs.Ownership.{OwnsFrames}
use Rattle.page_laws.proofs.Moves.InSteps.{done_cases}
use Rattle.page_model.specs.Place.{filled}
use Rattle.page_laws.proofs.Lists.Pages.{put_state}
use Rattle.page_laws.proofs.Moves.Steps.{EvictRest, evict_rest}
use Rattle.page_laws.proofs.Ownership.Runs.{done_owner}
use Rattle.page_laws.proofs.Ownership.Serve.{force_owner}
use Rattle.page_laws.proofs.Moves.Stays.{Steady, Stays, done_steady, force_stays}
use Rattle.page_laws.proofs.Moves.Transfers.{reclaim_count, fill_count}
use Rattle.page_laws.proofs.Ends.Serving.{Landed, land_all_lands, is_coming, read_comes, read_length, full_some, done_rest, flying_in}
use Rattle.page_laws.proofs.Ends.Wholes.{serve_sizes}
use Rattle.page_laws.proofs.Moves.Units.{unit_is}
use Rattle.page_laws.proofs.Moves.Cases.{serving_cases, serving_invalid, serving_flies, serving_starved}
use Rattle.page_laws.proofs.Lists.Local.{none_some}
use Rattle.page_laws.specs.Spans.{is_hands, added, takes, takings, moves, moves_of}
use Rattle.page_laws.proofs.Spanning.{adds_one, added_both, takings_both, moves_both}
use Rattle.page_laws.proofs.Forcing.{done_free, Short, forced_short, forced_moves}

-- How many entries serving adds, by what stays in flight; where the page is valid, by how many transfers fewer are in
-- flight than so many; and how many of the units take frames, or move the hands.
pub record Served (b : Bool) (us : List Entry) (r : Placement) (q : Page) (most down flights takers hands : ℕ) : Type 0 where
  pub few : added b us + length r.transfers ≤ most
  pub rest : is_valid (state_of r q) ≡ true → length r.transfers + down ≤ flights
  pub taken : takings us ≤ takers
  pub moves : moves_of us ≤ hands

-- the end of a list of units
none_served : (b : Bool) (p r : Placement) (q : Page) (most down flights takers hands : ℕ) → p ≡ r → length p.transfers ≤ most
    → (is_valid (state_of p q) ≡ true → length p.transfers + down ≤ flights)
    → Served b [] r q most down flights takers hands
none_served b p r q most down flights takers hands e l k = record {
  few = subst (λ (x : Placement). 0 + length x.transfers ≤ most) e (omega (arith, l));
  rest = λ v. subst (λ (x : Placement). length x.transfers + down ≤ flights) e (k (subst (λ (x : Placement). is_valid (state_of x q) ≡ true) (sym e) v));
  taken = omega arith;
  moves = omega arith;
}

-- one unit that is no move of the hands, and then others
more_served : (b : Bool) (u e : Entry) (es : List Entry) (r : Placement) (q : Page) (most down flights takers hands : ℕ) → e ≡ u → is_hands u ≡ false
    → moves u ≡ 0
    → Served false es r q most down flights takers hands → Served b (e ∷ es) r q (1 + most) down flights (takes u + takers) hands
more_served b u e es r q most down flights takers hands i n z s = subst (λ (x : Entry). Served b (x ∷ es) r q (1 + most) down flights (takes u + takers) hands) (sym i) (record {
  few = let a = adds_one b u n in let c = ap (λ (x : Bool). added x es) n in let d = s.few in omega arith;
  rest = s.rest;
  taken = let d = s.taken in omega arith;
  moves = let d = s.moves in omega arith;
})

-- looser numbers
looser : (b : Bool) (us : List Entry) (r : Placement) (q : Page) (most down flights takers hands most2 down2 flights2 takers2 hands2 : ℕ)
    → Served b us r q most down flights takers hands
    → most ≤ most2 → flights + down2 ≤ flights2 + down → takers ≤ takers2 → hands ≤ hands2 → Served b us r q most2 down2 flights2 takers2 hands2
looser b us r q most down flights takers hands most2 down2 flights2 takers2 hands2 s l m n o = record {
  few = omega (arith, s.few);
  rest = λ v. omega (arith, s.rest v);
  taken = omega (arith, s.taken);
  moves = omega (arith, s.moves);
}

-- what the head of a list of units is
served_as : (p : Placement) (locked : List Page) (q : Page) (now : Bool) (e : Entry) (es : List Entry) (r : Placement) (x : Serving) → serving p q ≡ x
    → Serves (e ∷ es) p locked q now r → (e ≡ entry_of_serving x) × Serves es (after_serving p locked x) locked q now r
served_as p locked q now e es r x k h = (
  (unit_is p q now e h.0).1 ∙ ap entry_of_serving k,
  subst (λ (y : Serving). Serves es (after_serving p locked y) locked q now r) k h.1,
)

-- A page that is valid, or still in its frame.

valid_none : (b : Bool) (us : List Entry) (p r : Placement) (locked : List Page) (q : Page) (now : Bool) → is_valid (state_of p q) ≡ true
    → Serves us p locked q now r → Served b us r q (length p.transfers) 0 (length p.transfers) 0 0
valid_none b [] p r locked q now v h = none_served b p r q (length p.transfers) 0 (length p.transfers) 0 0 h (omega arith) (λ k. omega arith)
valid_none b (e ∷ es) p r locked q now v h = absurd (let a = unit_is p q now e h.0 in let k : true ≡ false = sym v ∙ a.0 in cc)

landed_served : (b : Bool) (us : List Entry) (p r : Placement) (locked : List Page) (q : Page) (now : Bool) → IsThere p q → Landed (state_of p q)
    → Serves us p locked q now r
    → Served b us r q (length p.transfers + 1) 0 (length p.transfers) 0 0
landed_served b [] p r locked q now there l h = none_served b p r q (length p.transfers + 1) 0 (length p.transfers) 0 0 h (omega arith) (λ k. omega arith)
landed_served b (e ∷ es) p r locked q now there l h = go (state_of p q) refl l
  where
    go : (s : PageState) → state_of p q ≡ s → Landed s → Served b (e ∷ es) r q (length p.transfers + 1) 0 (length p.transfers) 0 0
    go (Valid f) k l = looser b (e ∷ es) r q (length p.transfers) 0 (length p.transfers) 0 0 (length p.transfers + 1) 0 (length p.transfers) 0 0
        (valid_none b (e ∷ es) p r locked q now (ap is_valid k) h) (omega arith) (omega arith) (omega arith) (omega arith)
    go (Invalid f) k l =
        let u : (e ≡ entries.Reclaim q) × Serves es (reclaim p q) locked q now r =
        served_as p locked q now e es r (AtOnce (entries.Reclaim q)) (serving_invalid p q f k) h in
        let v : is_valid (state_of (reclaim p q) q) ≡ true =
        subst (λ (s : PageState). is_valid (state_of (reclaim_to p q s) q) ≡ true) (sym k) (ap is_valid (put_state p q (Valid f) (mark_of p q) there)) in
        let c = reclaim_count p q in
        let s =
        more_served b (entries.Reclaim q) e es r q (length (reclaim p q).transfers) 0 (length (reclaim p q).transfers) 0 0 u.0 refl refl (valid_none false es (reclaim p q) r locked q now v u.1) in
        looser b (e ∷ es) r q (1 + length (reclaim p q).transfers) 0 (length (reclaim p q).transfers) 0 0 (length p.transfers + 1) 0 (length p.transfers) 0 0 s (omega arith) (omega arith)
        (omega arith) (omega arith)
    go Unfilled k l = absurd l
    go (Coming f) k l = absurd l
    go (Going f) k l = absurd l
    go OnSwap k l = absurd l

-- A page in flight.

abbrev pub is_flying : PageState → Bool
is_flying (Coming f) = true
is_flying (Going f) = true
is_flying _ = false

flying_not_valid : (s : PageState) → is_flying s ≡ true → is_valid s ≡ true → ⊥
flying_not_valid (Coming f) e h = absurd cc
flying_not_valid _ e h = absurd cc

-- so it is on its way in, or out
flies : (s : PageState) → is_flying s ≡ true → (f : ℕ) × ((s ≡ Coming f) ⊎ (s ≡ Going f))
flies (Coming f) e = (f, inl refl)
flies (Going f) e = (f, inr refl)
flies Unfilled e = absurd cc
flies (Valid f) e = absurd cc
flies (Invalid f) e = absurd cc
flies OnSwap e = absurd cc

pub done_less : (p : Placement) → (p.transfers ≡ [] → ⊥) → length (done p).transfers + 1 ≡ length p.transfers
done_less p n = go p.transfers refl
  where
    go : (ts : List Transfer) → p.transfers ≡ ts → length (done p).transfers + 1 ≡ length p.transfers
    go [] k = absurd (n k)
    go (t ∷ ts) k = let a = ap length (done_rest p t ts k) in let b = ap length k in omega arith

pub done_lands : (p : Placement) (q : Page) → IsThere p q → (state_of (done p) q ≡ state_of p q) ⊎ Landed (state_of (done p) q)
done_lands p q there = done_cases (λ (r : Placement). (state_of r q ≡ state_of p q) ⊎ Landed (state_of r q)) p (inl refl)
    (λ t ts e. land_all_lands t.parts p t.errand ts q (state_of p q) there (inl refl))

done_there : (p : Placement) (q : Page) → OwnsFrames p → IsThere p q → IsThere (done p) q
done_there p q o there = let s : Steady p (done p) = done_steady p o in let a = s.sizes q in omega arith

flying_served : (b : Bool) (us : List Entry) (p r : Placement) (locked : List Page) (q : Page) (now : Bool) → OwnsFrames p → IsThere p q
    → is_flying (state_of p q) ≡ true → Serves us p locked q now r
    → Served b us r q (length p.transfers + 1) 1 (length p.transfers) 0 0
flying_served b [] p r locked q now o there n h = none_served b p r q (length p.transfers + 1) 1 (length p.transfers) 0 0 h (omega arith) (λ v. absurd (flying_not_valid (state_of p q) n v))
flying_served b (e ∷ es) p r locked q now o there n h =
    let m = flies (state_of p q) n in
    let u : (e ≡ entries.Done) × Serves es (done p) locked q now r = served_as p locked q now e es r (ByWaiting entries.Done) (serving_flies p q m.0 m.1) h in
    let l = done_less p (flying_in p q m.0 o m.1) in
    elim (done_lands p q there) [
      | inl k ↦
          let s = flying_served false es (done p) r locked q now (done_owner p o) (done_there p q o there) (ap is_flying k ∙ n) u.1 in
          looser b (e ∷ es) r q (1 + (length (done p).transfers + 1)) 1 (length (done p).transfers) 0 0 (length p.transfers + 1) 1 (length p.transfers) 0 0
          (more_served b entries.Done e es r q (length (done p).transfers + 1) 1 (length (done p).transfers) 0 0 u.0 refl refl s) (omega arith) (omega arith) (omega arith) (omega arith)
      | inr k ↦
          let s = landed_served false es (done p) r locked q now (done_there p q o there) k u.1 in
          looser b (e ∷ es) r q (1 + (length (done p).transfers + 1)) 0 (length (done p).transfers) 0 0 (length p.transfers + 1) 1 (length p.transfers) 0 0
          (more_served b entries.Done e es r q (length (done p).transfers + 1) 0 (length (done p).transfers) 0 0 u.0 refl refl s) (omega arith) (omega arith) (omega arith) (omega arith)
    ]

-- A page that has no frame, while one is free.

frameless_not_valid : (s : PageState) → frame_of s ≡ None → is_valid s ≡ true → ⊥
frameless_not_valid (Valid f) e h = Rattle.page_laws.proofs.Lists.Local.none_some f (sym e)
frameless_not_valid _ e h = absurd cc

coming_flies : (s : PageState) → is_coming s ≡ true → is_flying s ≡ true
coming_flies (Coming f) e = refl
coming_flies (Going f) e = refl
coming_flies _ e = absurd cc

fill_valid : (p : Placement) (q : Page) (f : ℕ) (fs : List ℕ) → IsThere p q → p.free ≡ f ∷ fs → is_valid (state_of (filled p q) q) ≡ true
fill_valid p q f fs there e = ap (λ (fr : List ℕ). is_valid (state_of (fill_at p q fr) q)) e
    ∙ ap is_valid (put_state (evict p f) q (Valid f) true (let r : EvictRest p (evict p f) = evict_rest p f in let h = r.sizes q in omega arith))

-- what the head of a list of units is then
pub data Fed (p : Placement) (q : Page) : Type 0 where
  Filled : (f : ℕ) (fs : List ℕ) → p.free ≡ f ∷ fs → serving p q ≡ AtOnce (entries.Zero q) → Fed p q
  Waited : serving p q ≡ AtOnce entries.Done → is_full p ≡ true → Fed p q
  Read : serving p q ≡ AtOnce (read_entry p q) → Fed p q

fed : (p : Placement) (q : Page) → frame_of (state_of p q) ≡ None → 0 < length p.free → Fed p q
fed p q n l = serving_cases (λ x. serving p q ≡ x → Fed p q) p q (λ f s k. none_some f (sym n ∙ ap frame_of s)) (λ f s k. none_some f (sym n ∙ ap frame_of s))
    (λ f s k. elim s [
      | inl e ↦ none_some f (sym n ∙ ap frame_of e)
      | inr e ↦ none_some f (sym n ∙ ap frame_of e)
    ])
    (λ m e k. absurd (let z = ap length e in omega arith)) (λ f fs e s x k. Filled f fs e k) (λ f fs e r b k. Waited k b) (λ f fs e r b k. Read k) refl

fed_served : (b : Bool) (us : List Entry) (p r : Placement) (locked : List Page) (q : Page) (now : Bool) → OwnsFrames p → IsThere p q
    → frame_of (state_of p q) ≡ None → 0 < length p.free → Serves us p locked q now r
    → Served b us r q (length p.transfers + 3) 0 (length p.transfers) 1 0
fed_served b [] p r locked q now o there n l h = none_served b p r q (length p.transfers + 3) 0 (length p.transfers) 1 0 h (omega arith) (λ v. absurd (frameless_not_valid (state_of p q) n v))
fed_served b (e ∷ es) p r locked q now o there n l h =
    let st : Steady p (done p) = done_steady p o in
    let still : frame_of (state_of (done p) q) ≡ None = ap (λ (x : Slot). frame_of x.state) (st.others q n) ∙ n in
    let free : 0 < length (done p).free = omega (arith, done_free p, l) in
    go (fed p q n l) (λ s. fed_served false es (done p) r locked q now (done_owner p o) (done_there p q o there) still free s)
  where
    go : Fed p q → (Serves es (done p) locked q now r → Served false es r q (length (done p).transfers + 3) 0 (length (done p).transfers) 1 0)
        → Served b (e ∷ es) r q (length p.transfers + 3) 0 (length p.transfers) 1 0
    go (Filled f fs x s) more =
        let u : (e ≡ entries.Zero q) × Serves es (filled p q) locked q now r = served_as p locked q now e es r (AtOnce (entries.Zero q)) s h in
        let c : length (filled p q).transfers ≡ length p.transfers = fill_count p q in
        let k = valid_none false es (filled p q) r locked q now (fill_valid p q f fs there x) u.1 in
        looser b (e ∷ es) r q (1 + length (filled p q).transfers) 0 (length (filled p q).transfers) 1 0 (length p.transfers + 3) 0 (length p.transfers) 1 0
        (more_served b (entries.Zero q) e es r q (length (filled p q).transfers) 0 (length (filled p q).transfers) 0 0 u.0 refl refl k) (omega arith) (omega arith) (omega arith) (omega arith)
    go (Waited s f) more =
        let u : (e ≡ entries.Done) × Serves es (done p) locked q now r = served_as p locked q now e es r (AtOnce entries.Done) s h in
        let c = done_less p (λ z. absurd (let a = full_some p f in let b = ap length z in omega arith)) in
        looser b (e ∷ es) r q (1 + (length (done p).transfers + 3)) 0 (length (done p).transfers) 1 0 (length p.transfers + 3) 0 (length p.transfers) 1 0
        (more_served b entries.Done e es r q (length (done p).transfers + 3) 0 (length (done p).transfers) 1 0 u.0 refl refl (more u.1)) (omega arith) (omega arith) (omega arith) (omega arith)
    go (Read s) more =
        let u : (e ≡ read_entry p q) × Serves es (read_step p q) locked q now r = served_as p locked q now e es r (AtOnce (read_entry p q)) s h in
        let read_there : IsThere (read_step p q) q =
        subst (λ (y : Serving). IsThere (after_serving p locked y) q) s (let a = serve_sizes p locked q o q in omega (arith, there)) in
        let c = read_length p q in
        let enter : CanEnter p q = record { there = there; frameless = n } in
        let k = flying_served false es (read_step p q) r locked q now (Rattle.page_laws.proofs.Ownership.Serve.read_owner p q o enter) read_there
        (coming_flies (state_of (read_step p q) q) (read_comes p q o enter l)) u.1 in
        looser b (e ∷ es) r q (1 + (length (read_step p q).transfers + 1)) 1 (length (read_step p q).transfers) 1 0 (length p.transfers + 3) 0 (length p.transfers) 1 0
        (more_served b (read_entry p q) e es r q (length (read_step p q).transfers + 1) 1 (length (read_step p q).transfers) 0 0 u.0 refl refl k) (omega arith) (omega arith)
        (omega arith) (omega arith)

-- A page that has no frame: first a frame is forced.

pub record Split (us : List Entry) (p r : Placement) (locked : List Page) (q : Page) (now : Bool) : Type 0 where
  pub before : List Entry
  pub behind : List Entry
  pub middle : Placement
  pub whole : us ≡ before ++ behind
  pub forces : Forces before p locked middle
  pub owner : OwnsFrames middle
  pub there : IsThere middle q
  pub frameless : frame_of (state_of middle q) ≡ None
  pub then : ((behind ≡ []) × (middle ≡ r)) ⊎ ((0 < length middle.free) × Serves behind middle locked q now r)

split : (us : List Entry) (p r : Placement) (locked : List Page) (q : Page) (now : Bool) → OwnsFrames p → IsThere p q → frame_of (state_of p q) ≡ None
    → Serves us p locked q now r → Split us p r locked q now
split [] p r locked q now o there n h = record { before = []; behind = []; middle = p; whole = refl; forces = refl; owner = o; there = there; frameless = n; then = inl (refl, h) }
split (e ∷ es) p r locked q now o there n h =
    let st : Stays p (force p locked) = force_stays p locked o in
    let forced_there : IsThere (force p locked) q =
    let a = st.sizes q in omega (arith, there) in
    let forced_none : frame_of (state_of (force p locked) q) ≡ None = st.frames q ∙ n in
    go p.free refl (λ s. split es (force p locked) r locked q now (force_owner p locked o) forced_there forced_none s)
  where
    go : (fr : List ℕ) → p.free ≡ fr → (Serves es (force p locked) locked q now r → Split es (force p locked) r locked q now) → Split (e ∷ es) p r locked q now
    go [] k more =
        let u : (e ≡ force_entry p.transfers) × Serves es (force p locked) locked q now r =
        served_as p locked q now e es r (ByWaiting (force_entry p.transfers)) (serving_starved p q n k) h in
        let m : Split es (force p locked) r locked q now = more u.1 in
        record {
          before = e ∷ m.before;
          behind = m.behind;
          middle = m.middle;
          whole = ap (λ (x : List Entry). e ∷ x) m.whole;
          forces = (k, u.0, m.forces);
          owner = m.owner;
          there = m.there;
          frameless = m.frameless;
          then = m.then;
        }
    go (f ∷ fs) k more = record {
      before = [];
      behind = e ∷ es;
      middle = p;
      whole = refl;
      forces = refl;
      owner = o;
      there = there;
      frameless = n;
      then = inr (subst (λ (l : List ℕ). 0 < length l) (sym k) (omega arith), h);
    }

no_takings : (xs : List Entry) (a m : Placement) (locked : List Page) → Forces xs a locked m → takings xs ≡ 0
no_takings [] a m locked h = refl
no_takings (e ∷ es) a m locked h = subst (λ (x : Entry). takings (x ∷ es) ≡ 0) (sym h.1) (go a.transfers (no_takings es (force a locked) m locked h.2))
  where
    go : (ts : List Transfer) → takings es ≡ 0 → takings (force_entry ts ∷ es) ≡ 0
    go [] z = omega (arith, z)
    go (t ∷ ts) z = omega (arith, z)

frameless_served : (b : Bool) (us : List Entry) (p r : Placement) (locked : List Page) (q : Page) (now : Bool) → OwnsFrames p → IsThere p q
    → frame_of (state_of p q) ≡ None → Serves us p locked q now r
    → (hands : ℕ) → ((xs ys : List Entry) (m : Placement) → us ≡ xs ++ ys → Forces xs p locked m → moves_of xs ≤ hands)
    → Served b us r q (length p.transfers + 5) 0 (length p.transfers) 1 hands
frameless_served b us p r locked q now o there n h hands bound = by (split us p r locked q now o there n h)
  where
    by : Split us p r locked q now → Served b us r q (length p.transfers + 5) 0 (length p.transfers) 1 hands
    by s = subst (λ (x : List Entry). Served b x r q (length p.transfers + 5) 0 (length p.transfers) 1 hands) (sym s.whole) (elim s.then [
      | inl k ↦
          let f : Short b s.before s.middle (length p.transfers + 2) (length p.transfers) (length s.before) = forced_short b s.before p s.middle locked o s.forces in
          let c = added_both b s.before s.behind in let d = ap (added false) k.0 in
          let x = takings_both s.before s.behind in let y = ap takings k.0 in let z = no_takings s.before p s.middle locked s.forces in
          let v = moves_both s.before s.behind in let w = ap moves_of k.0 in let t = bound s.before s.behind s.middle s.whole s.forces in
          record {
            few = subst (λ (m : Placement). added b (s.before ++ s.behind) + length m.transfers ≤ length p.transfers + 5) k.1 (omega (arith, f.few));
            rest = λ i. absurd (frameless_not_valid (state_of s.middle q) s.frameless (subst (λ (m : Placement). is_valid (state_of m q) ≡ true) (sym k.1) i));
            taken = omega arith;
            moves = omega arith;
          }
      | inr k ↦
          let f : Short b s.before s.middle (length p.transfers + 2) (length p.transfers) (length s.before) = forced_short b s.before p s.middle locked o s.forces in
          let g = fed_served false s.behind s.middle r locked q now s.owner s.there s.frameless k.0 k.1 in
          let c = added_both b s.before s.behind in
          let x = takings_both s.before s.behind in let z = no_takings s.before p s.middle locked s.forces in
          let v = moves_both s.before s.behind in let t = bound s.before s.behind s.middle s.whole s.forces in
          record {
            few = omega (arith, f.few, g.few);
            rest = λ i. omega (arith, f.rest k.0, g.rest i);
            taken = omega (arith, g.taken);
            moves = omega (arith, g.moves);
          }
    ])

-- Serving a page, whatever its state.
served_by : (b : Bool) (us : List Entry) (p r : Placement) (locked : List Page) (q : Page) (now : Bool) → OwnsFrames p → IsThere p q
    → Serves us p locked q now r
    → (hands : ℕ) → ((xs ys : List Entry) (m : Placement) → us ≡ xs ++ ys → Forces xs p locked m → moves_of xs ≤ hands)
    → Served b us r q (length p.transfers + 5) 0 (length p.transfers) 1 hands
served_by b us p r locked q now o there h hands bound = go (state_of p q) refl
  where
    landed : Landed (state_of p q) → Served b us r q (length p.transfers + 5) 0 (length p.transfers) 1 hands
    landed l = looser b us r q (length p.transfers + 1) 0 (length p.transfers) 0 0 (length p.transfers + 5) 0 (length p.transfers) 1 hands
        (landed_served b us p r locked q now there l h) (omega arith) (omega arith) (omega arith) (omega arith)

    flying : is_flying (state_of p q) ≡ true → Served b us r q (length p.transfers + 5) 0 (length p.transfers) 1 hands
    flying l = looser b us r q (length p.transfers + 1) 1 (length p.transfers) 0 0 (length p.transfers + 5) 0 (length p.transfers) 1 hands
        (flying_served b us p r locked q now o there l h) (omega arith) (omega arith) (omega arith) (omega arith)

    go : (s : PageState) → state_of p q ≡ s → Served b us r q (length p.transfers + 5) 0 (length p.transfers) 1 hands
    go (Valid f) k = landed (subst Landed (sym k) tt)
    go (Invalid f) k = landed (subst Landed (sym k) tt)
    go (Coming f) k = flying (ap is_flying k)
    go (Going f) k = flying (ap is_flying k)
    go Unfilled k = frameless_served b us p r locked q now o there (ap frame_of k) h hands bound
    go OnSwap k = frameless_served b us p r locked q now o there (ap frame_of k) h hands bound

pub served_short : (b : Bool) (us : List Entry) (p r : Placement) (locked : List Page) (q : Page) (now : Bool) → OwnsFrames p → IsThere p q
    → Serves us p locked q now r
    → Served b us r q (length p.transfers + 5) 0 (length p.transfers) 1 (length us)
served_short b us p r locked q now o there h = served_by b us p r locked q now o there h (length us) (λ xs ys m e f.
    let k : Short b xs m (length p.transfers + 2) (length p.transfers) (length xs) = forced_short b xs p m locked o f in
    let a = k.moves in let c = ap length e in let d = length-append xs ys in omega arith)

pub served_moves : (us : List Entry) (p r : Placement) (locked : List Page) (q : Page) (now : Bool) → OwnsFrames p → HandsStand p → HasRoom p locked
    → IsThere p q → Serves us p locked q now r → moves_of us ≤ length p.holds
served_moves us p r locked q now o s m there h =
    let k : Served false us r q (length p.transfers + 5) 0 (length p.transfers) 1 (length p.holds) =
    served_by false us p r locked q now o there h (length p.holds) (λ xs ys n e f. forced_moves xs p n locked o s m f) in
    k.moves
