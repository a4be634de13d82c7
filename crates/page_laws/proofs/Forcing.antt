-- Forcing a frame adds few entries.
use Rattle.std.proofs.Common.{◌≡◌, ◌⊎◌, inl, inr, ℕ, ◌+◌, ◌/◌, ◌<◌, ◌≤◌, Bool, true, false, List, [], ◌∷◌, length, refl, sym, ap, ◌∙◌, subst, arith}
use Rattle.page_laws.proofs.Moves.InSteps.{launch_steps, land_steps, done_cases}
use Rattle.page_laws.proofs.Runs.Sweeping.{launch_all_free}
use Rattle.page_laws.proofs.Moves.HandRuns.{retire_flies}
use Rattle.vm_facts.specs.declared.page.Page.{Page}
use Rattle.vm_facts.specs.declared.entry.Entry.{Entry}
use Rattle.vm_facts.specs.declared.entry.Entry.TheVariants as entries
use Rattle.page_model.specs.Placement.{Placement, Transfer, Errand, Writes}
use Rattle.page_model.specs.Moves.{done, done_of}
use Rattle.page_model.specs.Steps.{land_all_then, begin}
use Rattle.page_model.specs.Runs.{run_out, pages_of_run}
use Rattle.page_model.specs.Hands.{expire, sweep, hand_move}
use Rattle.page_model.specs.Serve.{force, force_entry, Forces}
use Rattle.page_model.specs.Rank.{is_usable, HandsStand, HasRoom, far, far_by, far_transfers, reach}
use Rattle.page_model.specs.Ownership.{OwnsFrames}
use Rattle.page_model.specs.Place.{place_entry}
use Rattle.page_laws.proofs.Ownership.Pages.{expire_owner}
use Rattle.page_laws.proofs.Ownership.Serve.{force_owner}
use Rattle.page_laws.proofs.Moves.Stays.{expire_free, expire_transfers}
use Rattle.page_laws.proofs.Ends.Forcing.{Freed, HasWrite, sweep_frees, sweep_idles, far_bound}
use Rattle.page_laws.proofs.Ends.Serving.{land_all_free, force_falls, done_rest, write_frees}
use Rattle.page_laws.proofs.Ends.Hands.{force_stands, force_frames}
use Rattle.page_laws.proofs.Ends.Wholes.{force_room}
use Rattle.page_laws.proofs.Ownership.Hands.{move_owner}
use Rattle.page_laws.specs.Spans.{adds, added, moves_of}
use Rattle.page_laws.proofs.Spanning.{adds_one}
use Rattle.page_laws.proofs.Moves.Taken.{sweep_cases}

-- What a step leaves.

pub done_free : (p : Placement) → length p.free ≤ length (done p).free
done_free p = done_cases (λ (r : Placement). length p.free ≤ length r.free) p (omega arith) (λ t ts e. land_all_free t.parts p t.errand ts)

-- the back hand frees nothing, or begins nothing
pub sweep_either : (p : Placement) (locked : List Page) → ((sweep p locked).free ≡ p.free) ⊎ ((sweep p locked).transfers ≡ p.transfers)
sweep_either p locked = sweep_cases (λ r. (r.free ≡ p.free) ⊎ (r.transfers ≡ p.transfers)) p locked (inr refl)
    (λ q t e. inl (ap (λ (r : Placement). r.free) (sym (launch_steps p (pages_of_run q (run_out p locked q)))) ∙ launch_all_free (pages_of_run q (run_out p locked q)) (begin p Writes)))
    (λ q t e. inr (retire_flies p q))

-- What a move of the hands leaves where no frame is free and nothing in flight: a free frame; one write; or nothing new.
pub data Moved (q : Placement) : Type 0 where
  Frees : 0 < length q.free → q.transfers ≡ [] → Moved q
  Writing : q.free ≡ [] → HasWrite q.transfers → Moved q
  Idles : q.free ≡ [] → q.transfers ≡ [] → Moved q

some_or : {A : Type 0} (xs : List A) → (xs ≡ []) ⊎ (0 < length xs)
some_or [] = inl refl
some_or (x ∷ xs) = inr (omega arith)

pub moved : (p : Placement) (locked : List Page) → OwnsFrames p → p.free ≡ [] → p.transfers ≡ [] → Moved (hand_move p locked)
moved p locked o e t = go (is_usable (expire p locked) locked (expire p locked).back) refl
  where
    still : (expire p locked).free ≡ []
    still = expire_free p locked ∙ e

    none : (expire p locked).transfers ≡ []
    none = expire_transfers p locked ∙ t

    writes : (sweep (expire p locked) locked).free ≡ [] → Freed (sweep (expire p locked) locked) → Moved (hand_move p locked)
    writes z (inl n) = absurd (n z)
    writes z (inr w) = Writing z w

    lands : (sweep (expire p locked) locked).transfers ≡ [] → Freed (sweep (expire p locked) locked) → Moved (hand_move p locked)
    lands z (inl n) = elim (some_or (sweep (expire p locked) locked).free) [
      | inl k ↦ absurd (n k)
      | inr l ↦ Frees l z
    ]
    lands z (inr w) = absurd (subst HasWrite z w)

    go : (b : Bool) → is_usable (expire p locked) locked (expire p locked).back ≡ b → Moved (hand_move p locked)
    go true i =
        let a : Freed (sweep (expire p locked) locked) = sweep_frees (expire p locked) locked (expire_owner p locked o) still none i in
        elim (sweep_either (expire p locked) locked) [
          | inl k ↦ writes (k ∙ still) a
          | inr k ↦ lands (k ∙ none) a
        ]
    go false i =
        let same : sweep (expire p locked) locked ≡ expire p locked = sweep_idles (expire p locked) locked i in
        Idles (ap (λ (q : Placement). q.free) same ∙ still) (ap (λ (q : Placement). q.transfers) same ∙ none)

-- Counting.

abbrev forced_as : Placement → List Page → List Transfer → Placement
forced_as p locked ts = place_entry locked 0 p (force_entry ts)

-- where a frame is free no unit forces one
pub no_units : (us : List Entry) (p r : Placement) (locked : List Page) → 0 < length p.free → Forces us p locked r → (us ≡ []) × (p ≡ r)
no_units [] p r locked l h = (refl, h)
no_units (e ∷ es) p r locked l h = absurd (let k = ap length h.0 in omega arith)

one_write : (ts : List Transfer) → HasWrite ts → length ts ≡ 1
one_write [] h = absurd h
one_write (t ∷ ts) h = ap (λ (us : List Transfer). length (t ∷ us)) h.2

-- these units add so many entries at most, by what stays in flight; where a frame is free at the end, no more than so many
-- transfers are in flight; and the hands make no more than so many moves
pub record Short (b : Bool) (us : List Entry) (r : Placement) (most flights hands : ℕ) : Type 0 where
  pub few : added b us + length r.transfers ≤ most
  pub rest : 0 < length r.free → length r.transfers ≤ flights
  pub moves : moves_of us ≤ hands

-- the write that the back hand began ends, and a frame is free
writing : (b : Bool) (us : List Entry) (p r : Placement) (locked : List Page) → p.free ≡ [] → HasWrite p.transfers → Forces us p locked r → Short b us r 1 0 0
writing b [] p r locked fr w h = record {
  few = subst (λ (x : Placement). 0 + length x.transfers ≤ 1) h (omega (arith, one_write p.transfers w));
  rest = λ l. absurd (let k : length r.free ≡ 0 = subst (λ (x : Placement). length x.free ≡ 0) h (ap length fr) in omega arith);
  moves = omega arith;
}
writing b (e ∷ es) p r locked fr w h = go p.transfers refl w h.1 h.2
  where
    go : (ts : List Transfer) → p.transfers ≡ ts → HasWrite ts → e ≡ force_entry ts → Forces es (forced_as p locked ts) locked r → Short b (e ∷ es) r 1 0 0
    go [] k v i f = absurd v
    go (t ∷ ts) k v i f =
        let free : 0 < length (done p).free =
        subst (λ (q : Placement). 0 < length q.free) (sym (ap (done_of p) k ∙ sym (land_steps t.parts p t.errand ts)))
        (subst (λ (d : Errand). 0 < length (land_all_then p d t.parts ts).free) (sym v.0) (write_frees t.parts p ts v.1)) in
        let n : (es ≡ []) × (done p ≡ r) = no_units es (done p) r locked free f in
        let none : length r.transfers ≡ 0 = subst (λ (q : Placement). length q.transfers ≡ 0) n.1 (ap length (done_rest p t ts k ∙ v.2)) in
        subst (λ (x : Entry). Short b (x ∷ es) r 1 0 0) (sym i) (subst (λ (xs : List Entry). Short b (entries.Done ∷ xs) r 1 0 0) (sym n.0) (record {
          few = let a = adds_one b entries.Done refl in omega (arith, none);
          rest = λ l. omega (arith, none);
          moves = omega arith;
        }))

-- with nothing in flight the hands move till a frame is free, or a write begins
moving : (b : Bool) (us : List Entry) (p r : Placement) (locked : List Page) → OwnsFrames p → p.transfers ≡ [] → Forces us p locked r
    → Short b us r (adds b (entries.Hands 1) + 1) 0 (length us)
moving b [] p r locked o t h = record {
  few = subst (λ (x : Placement). 0 + length x.transfers ≤ adds b (entries.Hands 1) + 1) h (omega (arith, ap length t));
  rest = λ l. subst (λ (x : Placement). length x.transfers ≤ 0) h (omega (arith, ap length t));
  moves = omega arith;
}
moving b (e ∷ es) p r locked o t h = subst (λ (x : Entry). Short b (x ∷ es) r (adds b (entries.Hands 1) + 1) 0 (length (e ∷ es))) (sym (h.1 ∙ ap force_entry t))
    (by (moved p locked o h.0 t) (subst (λ (q : Placement). Forces es q locked r) (ap (forced_as p locked) t) h.2) (λ z f. moving true es (hand_move p locked) r locked (move_owner p locked o) z f))
  where
    by : Moved (hand_move p locked) → Forces es (hand_move p locked) locked r
        → ((hand_move p locked).transfers ≡ [] → Forces es (hand_move p locked) locked r → Short true es r (adds true (entries.Hands 1) + 1) 0 (length es))
        → Short b (entries.Hands 1 ∷ es) r (adds b (entries.Hands 1) + 1) 0 (length (e ∷ es))
    by (Frees l z) f more =
        let n : (es ≡ []) × (hand_move p locked ≡ r) = no_units es (hand_move p locked) r locked l f in
        let none : length r.transfers ≡ 0 = subst (λ (q : Placement). length q.transfers ≡ 0) n.1 (ap length z) in
        subst (λ (xs : List Entry). Short b (entries.Hands 1 ∷ xs) r (adds b (entries.Hands 1) + 1) 0 (length (e ∷ es))) (sym n.0) (record {
          few = omega (arith, none);
          rest = λ l. omega (arith, none);
          moves = omega arith;
        })
    by (Writing z w) f more = let k : Short true es r 1 0 0 = writing true es (hand_move p locked) r locked z w f in record {
      few = omega (arith, k.few);
      rest = k.rest;
      moves = omega (arith, k.moves);
    }
    by (Idles z y) f more = let k : Short true es r (adds true (entries.Hands 1) + 1) 0 (length es) = more y f in record {
      few = omega (arith, k.few);
      rest = k.rest;
      moves = omega (arith, k.moves);
    }

-- how many entries forcing adds
pub forced_short : (b : Bool) (us : List Entry) (p r : Placement) (locked : List Page) → OwnsFrames p → Forces us p locked r
    → Short b us r (length p.transfers + 2) (length p.transfers) (length us)
forced_short b [] p r locked o h = record {
  few = subst (λ (x : Placement). 0 + length x.transfers ≤ length p.transfers + 2) h (omega arith);
  rest = λ l. subst (λ (x : Placement). length x.transfers ≤ length p.transfers) h (omega arith);
  moves = omega arith;
}
forced_short b (e ∷ es) p r locked o h = go p.transfers refl h.1 h.2 (λ f. forced_short false es (done p) r locked (Rattle.page_laws.proofs.Ownership.Runs.done_owner p o) f)
  where
    go : (ts : List Transfer) → p.transfers ≡ ts → e ≡ force_entry ts → Forces es (forced_as p locked ts) locked r
        → (Forces es (done p) locked r → Short false es r (length (done p).transfers + 2) (length (done p).transfers) (length es))
        → Short b (e ∷ es) r (length p.transfers + 2) (length p.transfers) (length (e ∷ es))
    go [] k i f more = let s : Short b (e ∷ es) r (adds b (entries.Hands 1) + 1) 0 (length (e ∷ es)) = moving b (e ∷ es) p r locked o k h in record {
      few = let a = Rattle.page_laws.proofs.Spanning.adds_most b (entries.Hands 1) in let c = s.few in omega arith;
      rest = λ l. let c = s.rest l in omega arith;
      moves = s.moves;
    }
    go (t ∷ ts) k i f more = subst (λ (x : Entry). Short b (x ∷ es) r (length p.transfers + 2) (length p.transfers) (length (e ∷ es))) (sym i) (
        let s : Short false es r (length (done p).transfers + 2) (length (done p).transfers) (length es) = more f in
        let a = ap length (done_rest p t ts k) in let c = ap length k in
        record {
          few = let d = adds_one b entries.Done refl in let x = s.few in omega arith;
          rest = λ l. let x = s.rest l in omega arith;
          moves = let x = s.moves in omega arith;
        })

-- No more moves than there are frames: each brings the back hand nearer.

far_some : (p : Placement) (locked : List Page) → p.free ≡ [] → p.transfers ≡ [] → 2 ≤ far p locked
far_some p locked e t = let k : far p locked ≡ 2 + reach p locked (length p.holds) (length p.holds / 4) p.back = ap (far_by p locked) e ∙ ap (far_transfers p locked) t in omega arith

moving_moves : (us : List Entry) (p r : Placement) (locked : List Page) → OwnsFrames p → HandsStand p → HasRoom p locked → p.transfers ≡ []
    → p.free ≡ [] → Forces us p locked r → moves_of us + 1 ≤ far p locked
moving_moves [] p r locked o s m t fr h = omega (arith, far_some p locked fr t)
moving_moves (e ∷ es) p r locked o s m t fr h = subst (λ (x : Entry). moves_of (x ∷ es) + 1 ≤ far p locked) (sym (h.1 ∙ ap force_entry t))
    (by (moved p locked o fr t) (subst (λ (q : Placement). Forces es q locked r) move h.2)
    (λ z y f. moving_moves es (hand_move p locked) r locked (move_owner p locked o) (Rattle.page_laws.proofs.Ends.Forcing.move_stands p locked s)
    (subst (λ (q : Placement). HasRoom q locked) move (force_room p locked o m)) y z f))
  where
    move : force p locked ≡ hand_move p locked
    move = ap (forced_as p locked) t

    falls : far (hand_move p locked) locked < far p locked
    falls = subst (λ (q : Placement). far q locked < far p locked) move (force_falls p locked o s m fr)

    two : 2 ≤ far p locked
    two = far_some p locked fr t

    by : Moved (hand_move p locked) → Forces es (hand_move p locked) locked r
        → ((hand_move p locked).free ≡ [] → (hand_move p locked).transfers ≡ [] → Forces es (hand_move p locked) locked r → moves_of es + 1 ≤ far (hand_move p locked) locked)
        → moves_of (entries.Hands 1 ∷ es) + 1 ≤ far p locked
    by (Frees l z) f more = let n = no_units es (hand_move p locked) r locked l f in let k = ap moves_of n.0 in omega (arith, two)
    by (Writing z w) f more = let k : Short true es r 1 0 0 = writing true es (hand_move p locked) r locked z w f in let a = k.moves in omega (arith, two)
    by (Idles z y) f more = let k = more z y f in omega (arith, falls)

pub forced_moves : (us : List Entry) (p r : Placement) (locked : List Page) → OwnsFrames p → HandsStand p → HasRoom p locked → Forces us p locked r
    → moves_of us ≤ length p.holds
forced_moves [] p r locked o s m h = omega arith
forced_moves (e ∷ es) p r locked o s m h = go p.transfers refl h.1 (forced_moves es (force p locked) r locked (force_owner p locked o) (force_stands p locked o s) (force_room p locked o m) h.2)
  where
    go : (ts : List Transfer) → p.transfers ≡ ts → e ≡ force_entry ts → moves_of es ≤ length (force p locked).holds → moves_of (e ∷ es) ≤ length p.holds
    go [] k i more = let a = moving_moves (e ∷ es) p r locked o s m k h.0 h in let b = far_bound p locked o s m k in omega arith
    go (t ∷ ts) k i more = subst (λ (x : Entry). moves_of (x ∷ es) ≤ length p.holds) (sym i) (let a = force_frames p locked o in omega arith)
