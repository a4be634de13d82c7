-- Pieces find their places while all that is held lies below a height that leaves twice their room.
use Rattle.std.proofs.Common.{◌≡◌, ◌⊎◌, inl, inr, ℕ, zero, suc, ◌+◌, ◌*◌, ◌/◌, ◌%◌, ◌<◌, ◌≤◌, Bool, true, false, cond, not, ◌||◌, List, [], ◌∷◌, ◌++◌, Option, Some, None, Ok, refl, ap, ◌∙◌, arith}
use Rattle.std.proofs.lemmas.Bool.{cases_lt}
use Rattle.resource_map.specs.Room.{lowest_room}
use Rattle.resource_map.proofs.RoomLaws.{HasRoom, IsLowestRoom, lowest_room_gives}
use Rattle.swap_book.specs.declared.Owner.{Owner}
use Rattle.swap_book.specs.declared.Held.{Held}
use Rattle.swap_book.specs.Owners.{same_owner}
use Rattle.swap_book.specs.Holdings.{Holdings, is_in, is_held, fit, kept}
use Rattle.swap_book.specs.Placing.{Wanted, placed_at, and_then, place_all}
use Rattle.swap_book.proofs.HoldingLaws.{in_outside}
use Rattle.flat_state.specs.Space.{Space}
use Rattle.flat_state.specs.Flat.{FlatState}
use Rattle.flat_state.specs.declared.change.Change.{Change}
use Rattle.flat_state.specs.declared.change.Change.TheVariants.{Keep, Resize, Fork, Lend, Exec, Reap, Sleep, End}
use Rattle.flat_state.specs.Change.{is_borrower}
use Rattle.flat_model.specs.Asked.{without_text, without_space, without_own, is_shared, given_up}

-- each piece ends at this height or below
abbrev pub AllUnder : ℕ → Holdings → Type 0
AllUnder high [] = Unit {0}
AllUnder high (h ∷ hs) = (h.start + h.length ≤ high) × AllUnder high hs

-- the blocks of these pieces
abbrev pub asked : List Wanted → ℕ
asked [] = 0
asked (w ∷ ws) = w.length + asked ws

-- each piece has a block, and none is longer than a unit
abbrev pub AreWithin : List Wanted → Type 0
AreWithin [] = Unit {0}
AreWithin (w ∷ ws) = ((0 < w.length) × (w.length ≤ 1024)) × AreWithin ws

pub higher : (high more : ℕ) (hs : Holdings) → high ≤ more → AllUnder high hs → AllUnder more hs
higher high more [] le u = tt
higher high more (h ∷ hs) le u = (omega (arith, u.0), higher high more hs le u.1)

pub under_more : (high : ℕ) (hs : Holdings) (h : Held) → AllUnder high hs → h.start + h.length ≤ high → AllUnder high (hs ++ h ∷ [])
under_more high [] h u le = (le, tt)
under_more high (x ∷ hs) h u le = (u.0, under_more high hs h u.1 le)

-- nobody holds a block at the height or above
above_free : (high : ℕ) (hs : Holdings) (b : ℕ) → AllUnder high hs → high ≤ b → not (is_held hs b) ≡ true
unfolding is_held
above_free high [] b u le = refl
above_free high (h ∷ hs) b u le =
    let out : is_in h b ≡ false = in_outside h b (inr (omega (arith, u.0))) in
    ap (λ (x : Bool). not (x || is_held hs b)) out ∙ above_free high hs b u.1 le

-- where a piece has room above the height: at once, or from the next unit on
pub record RoomAbove (high size n : ℕ) (free : ℕ → Bool) : Type 0 where
  pub start : ℕ
  pub room : HasRoom free size n start
  pub near : start ≤ high + n

room_above : (high size n : ℕ) (hs : Holdings) → AllUnder high hs → 0 < n → n ≤ 1024 → high + 2 * n ≤ size → RoomAbove high size n (λ b. not (is_held hs b))
room_above high size n hs u some few fits = go (cases_lt (high % 1024 + n) 1025)
  where
    go : (high % 1024 + n < 1025) ⊎ (1025 ≤ high % 1024 + n) → RoomAbove high size n (λ b. not (is_held hs b))
    go (inl inside) = record {
      start = high;
      room = record {
        within = omega arith;
        one_unit = omega arith;
        free = λ b low top. above_free high hs b u low;
      };
      near = omega arith;
    }
    go (inr over) = record {
      start = (high / 1024 + 1) * 1024;
      room = record {
        within = omega arith;
        one_unit = omega arith;
        free = λ b low top. above_free high hs b u (omega arith);
      };
      near = omega arith;
    }

-- a piece finds its place, and then all lies below twice its length more
record Fits (high size n : ℕ) (hs : Holdings) : Type 0 where
  pub start : ℕ
  pub found : fit size hs n ≡ Some start
  pub low : start + n ≤ high + 2 * n

one_fits : (high size n : ℕ) (hs : Holdings) → AllUnder high hs → 0 < n → n ≤ 1024 → high + 2 * n ≤ size → Fits high size n hs
unfolding fit
one_fits high size n hs u some few fits = go (lowest_room (λ b. not (is_held hs b)) size n) refl (lowest_room_gives (λ b. not (is_held hs b)) size n)
  where
    r : RoomAbove high size n (λ b. not (is_held hs b))
    r = room_above high size n hs u some few fits

    near : (s : ℕ) → ((t : ℕ) → t < s → HasRoom (λ b. not (is_held hs b)) size n t → ⊥) → s ≤ r.start
    near s least = by (cases_lt r.start s)
      where
        by : (r.start < s) ⊎ (s ≤ r.start) → s ≤ r.start
        by (inl lt) = absurd (least r.start lt r.room)
        by (inr le) = le

    go : (o : Option ℕ) → lowest_room (λ b. not (is_held hs b)) size n ≡ o → IsLowestRoom (λ b. not (is_held hs b)) size n o → Fits high size n hs
    go None e none = absurd (none r.start r.room some)
    go (Some s) e is = record { start = s; found = e; low = let k = near s is.1 in let l = r.near in omega (arith, k, l) }

-- all find their places
pub record Placed (high size : ℕ) (hs : Holdings) (ws : List Wanted) : Type 0 where
  pub now : Holdings
  pub found : place_all size hs ws ≡ Ok now
  pub under : AllUnder (high + 2 * asked ws) now

pub all_fit : (high size : ℕ) (hs : Holdings) (ws : List Wanted) → AllUnder high hs → AreWithin ws → high + 2 * asked ws ≤ size → Placed high size hs ws
unfolding place_all
all_fit high size hs [] u w fits = record { now = hs; found = refl; under = higher high (high + 2 * 0) hs (omega arith) u }
all_fit high size hs (w ∷ ws) u within fits =
    let f : Fits high size w.length hs = one_fits high size w.length hs u within.0.0 within.0.1 (omega (arith, fits)) in
    let held : Held = record { owner = w.owner; start = f.start; length = w.length } in
    let more : AllUnder (high + 2 * w.length) (hs ++ held ∷ []) = under_more (high + 2 * w.length) hs held (higher high (high + 2 * w.length) hs (omega arith) u) f.low in
    let p : Placed (high + 2 * w.length) size (hs ++ held ∷ []) ws = all_fit (high + 2 * w.length) size (hs ++ held ∷ []) ws more within.1 (omega (arith, fits)) in
    record {
      now = p.now;
      found = ap (λ (o : Option ℕ). and_then (placed_at hs w o) (λ now. place_all size now ws)) f.found ∙ p.found;
      under = higher (high + 2 * w.length + 2 * asked ws) (high + 2 * (w.length + asked ws)) p.now (omega arith) p.under;
    }

-- ---- what is given back

kept_under : (high keep : ℕ) (owner : Owner) (hs : Holdings) → AllUnder high hs → AllUnder high (kept owner keep hs)
unfolding kept
kept_under high keep owner [] u = tt
kept_under high zero owner (h ∷ hs) u = go (same_owner h.owner owner) (kept_under high zero owner hs u.1)
  where
    go : (b : Bool) → AllUnder high (kept owner zero hs) → AllUnder high (cond b (kept owner zero hs) (h ∷ kept owner zero hs))
    go true later = later
    go false later = (u.0, later)
kept_under high (suc keep) owner (h ∷ hs) u = (u.0, kept_under high (cond (same_owner h.owner owner) keep (suc keep)) owner hs u.1)

text_under : (high image : ℕ) (b : Bool) (hs : Holdings) → AllUnder high hs → AllUnder high (without_text b image hs)
text_under high image true hs u = u
text_under high image false hs u = kept_under high 0 _ hs u

space_under : (high : ℕ) (after : FlatState) (s : Space) (hs : Holdings) → AllUnder high hs → AllUnder high (without_space after s hs)
space_under high after s hs u = text_under high s.image (is_shared after s.image) _ (kept_under high 0 _ _ (kept_under high 0 _ hs u))

own_under : (high : ℕ) (b : Bool) (after : FlatState) (s : Space) (hs : Holdings) → AllUnder high hs → AllUnder high (without_own b after s hs)
own_under high true after s hs u = u
own_under high false after s hs u = space_under high after s hs u

pub given_under : (high : ℕ) (F after : FlatState) (pid : ℕ) (s : Space) (change : Change) (hs : Holdings) → AllUnder high hs
    → AllUnder high (given_up F after pid s change hs)
given_under high F after pid s (Resize d t) hs u = kept_under high _ _ _ (kept_under high _ _ hs u)
given_under high F after pid s (Exec image top) hs u = own_under high (is_borrower F.processes pid) after s hs u
given_under high F after pid s (End status) hs u = own_under high (is_borrower F.processes pid) after s _ (kept_under high 0 _ hs u)
given_under high F after pid s Keep hs u = u
given_under high F after pid s (Fork child) hs u = u
given_under high F after pid s (Lend child) hs u = u
given_under high F after pid s (Reap child) hs u = u
given_under high F after pid s Sleep hs u = u
