-- The owners: when two are one, what the fronts of their pieces are, and where their pages lie.
use Rattle.std.proofs.Common.{◌≡◌, ℕ, zero, suc, ◌-◌, ◌*◌, ◌/◌, ◌%◌, ◌<◌, ◌≤◌, true, false, [], length, take, Some, refl, sym, ap, ◌∙◌, subst, arith, inl, inr}
use Rattle.std.specs.Prelude.{slice_get}
use Rattle.std.proofs.lemmas.Bool.{cases_lt, eqb-true, eq-eqb, false≢true}
use Rattle.std.proofs.lemmas.List.{take_all}
use Rattle.std.proofs.lemmas.Option.{slice_get_within, same_Some}
use Rattle.swap_dmap.specs.Chunks.{chunk, chunk_start, pieces, spot, last_piece, text_pieces, text_spot}
use Rattle.swap_dmap.proofs.ChunkLaws.{chunk_even, chunk_least}
use Rattle.swap_dmap.proofs.PieceLaws.{slice_get-pieces, take-pieces, pieces_none, spot_even, spot_within, spot_chunk, spot_same, slice_get-text_pieces_whole, slice_get-text_pieces_rest, length-text_pieces, text_pieces_whole, take-text_pieces, text_spot_same, text_spot_even}
use Rattle.swap_book.specs.declared.Owner.{Owner}
use Rattle.swap_book.specs.declared.Owner.TheVariants.{Data, Stack, U, Text}
use Rattle.swap_book.specs.Owners.{same_owner, u_pieces, pieces_of, MayHold, spot_of}

-- ---- when two are one

pub same_owner_gives : (a b : Owner) → same_owner a b ≡ true → a ≡ b
same_owner_gives (Data a) (Data b) e = ap (λ (n : ℕ). Data n) (eqb-true a b e)
same_owner_gives (Data a) (Stack b) e = absurd (false≢true e)
same_owner_gives (Data a) (U b) e = absurd (false≢true e)
same_owner_gives (Data a) (Text b) e = absurd (false≢true e)
same_owner_gives (Stack a) (Data b) e = absurd (false≢true e)
same_owner_gives (Stack a) (Stack b) e = ap (λ (n : ℕ). Stack n) (eqb-true a b e)
same_owner_gives (Stack a) (U b) e = absurd (false≢true e)
same_owner_gives (Stack a) (Text b) e = absurd (false≢true e)
same_owner_gives (U a) (Data b) e = absurd (false≢true e)
same_owner_gives (U a) (Stack b) e = absurd (false≢true e)
same_owner_gives (U a) (U b) e = ap (λ (n : ℕ). U n) (eqb-true a b e)
same_owner_gives (U a) (Text b) e = absurd (false≢true e)
same_owner_gives (Text a) (Data b) e = absurd (false≢true e)
same_owner_gives (Text a) (Stack b) e = absurd (false≢true e)
same_owner_gives (Text a) (U b) e = absurd (false≢true e)
same_owner_gives (Text a) (Text b) e = ap (λ (n : ℕ). Text n) (eqb-true a b e)

pub same_owner_itself : (a : Owner) → same_owner a a ≡ true
same_owner_itself (Data a) = eq-eqb a a refl
same_owner_itself (Stack a) = eq-eqb a a refl
same_owner_itself (U a) = eq-eqb a a refl
same_owner_itself (Text a) = eq-eqb a a refl

-- ---- pieces

-- the front of an owner's pieces is its pieces for fewer blocks
pub front_of : (owner : Owner) (blocks k : ℕ) → k ≤ length (pieces_of owner blocks) → (fewer : ℕ) × (take k (pieces_of owner blocks) ≡ pieces_of owner fewer)
unfolding last_piece
front_of (Data sid) blocks k le = (chunk_start k, take-pieces blocks k le)
front_of (Stack sid) blocks k le = (chunk_start k, take-pieces blocks k le)
front_of (U pid) zero zero le = (0, refl)
front_of (U pid) zero (suc k) le = (0, refl)
front_of (U pid) (suc b) zero le = (0, refl)
front_of (U pid) (suc b) (suc zero) le = (1, refl)
front_of (U pid) (suc b) (suc (suc k)) le = absurd (omega arith)
front_of (Text image) blocks k le = elim (cases_lt (blocks / 1024) k) [
  | inl more ↦ (blocks, take_all k (text_pieces blocks) (all more))
  | inr whole ↦ (1024 * k, take-text_pieces blocks k whole)
]
  where
    one : (n : ℕ) → length (last_piece n) ≤ 1
    one zero = omega arith
    one (suc n) = omega arith

    all : blocks / 1024 < k → length (text_pieces blocks) ≤ k
    all more = let l = length-text_pieces blocks in let o = one (blocks % 1024) in omega arith

-- a piece of whole pages
pub record IsWhole (n : ℕ) : Type 0 where
  pub some : 0 < n
  pub even : n % 2 ≡ 0

pub chunk_whole : (i : ℕ) → IsWhole (chunk i)
chunk_whole i = record { some = let l = chunk_least i in omega arith; even = chunk_even i }

-- a text is of whole pages
abbrev pub WholePages : Owner → ℕ → Type 0
WholePages (Data sid) blocks = Unit {0}
WholePages (Stack sid) blocks = Unit {0}
WholePages (U pid) blocks = Unit {0}
WholePages (Text image) blocks = blocks % 2 ≡ 0

-- each piece of an owner has whole pages, that of a text where the text has
pub pieces_whole : (owner : Owner) (blocks i n : ℕ) → WholePages owner blocks → slice_get (pieces_of owner blocks) i ≡ Some n → IsWhole n
unfolding last_piece
pieces_whole (Data sid) blocks i n even found =
    subst IsWhole (same_Some (chunk i) n (sym (slice_get-pieces blocks i (slice_get_within (pieces blocks) i n found)) ∙ found)) (chunk_whole i)
pieces_whole (Stack sid) blocks i n even found =
    subst IsWhole (same_Some (chunk i) n (sym (slice_get-pieces blocks i (slice_get_within (pieces blocks) i n found)) ∙ found)) (chunk_whole i)
pieces_whole (U pid) blocks i n even found = u_whole blocks i found
  where
    u_whole : (blocks i : ℕ) → slice_get (u_pieces blocks) i ≡ Some n → IsWhole n
    u_whole zero i found = cc
    u_whole (suc b) zero found = let e = same_Some 2 n found in record { some = omega arith; even = omega arith }
    u_whole (suc b) (suc i) found = cc
pieces_whole (Text image) blocks i n even found = elim (cases_lt i (blocks / 1024)) [
  | inl whole ↦
      let e = same_Some 1024 n (sym (slice_get-text_pieces_whole blocks i whole) ∙ found) in
      record { some = omega arith; even = omega arith }
  | inr rest ↦
      last (blocks % 1024) (i - blocks / 1024) (omega arith)
      (sym (slice_get-text_pieces_rest blocks (i - blocks / 1024)) ∙
      ap (slice_get (text_pieces blocks)) (omega arith) ∙ found)
]
  where
    last : (r k : ℕ) → r % 2 ≡ 0 → slice_get (last_piece r) k ≡ Some n → IsWhole n
    last zero k even found = cc
    last (suc r) zero even found = let e = same_Some (suc r) n found in record { some = omega arith; even = omega arith }
    last (suc r) (suc k) even found = cc

-- ---- places

pub spot_of_even : (owner : Owner) (v : ℕ) → (spot_of owner v).1 % 2 ≡ 0
spot_of_even (Data sid) v = spot_even v false
spot_of_even (Stack sid) v = spot_even v true
spot_of_even (U pid) v = refl
spot_of_even (Text image) v = text_spot_even v

pub spot_of_same : (owner : Owner) (v w : ℕ) → (spot_of owner v).0 ≡ (spot_of owner w).0 → (spot_of owner v).1 ≡ (spot_of owner w).1 → v ≡ w
spot_of_same (Data sid) v w piece block = spot_same v w false piece block
spot_of_same (Stack sid) v w piece block = spot_same v w true piece block
spot_of_same (U pid) v w piece block = piece
spot_of_same (Text image) v w piece block = text_spot_same v w piece block

-- a page that an owner's blocks are for lies in one of its pieces
pub record SpotFits (owner : Owner) (blocks v : ℕ) : Type 0 where
  pub length : ℕ
  pub piece : slice_get (pieces_of owner blocks) (spot_of owner v).0 ≡ Some length
  pub within : (spot_of owner v).1 < length

pub spot_fits : (owner : Owner) (blocks v : ℕ) → MayHold owner blocks → 2 * v < blocks → SpotFits owner blocks v
unfolding text_spot last_piece
spot_fits (Data sid) blocks v may lt = record {
  length = chunk (spot v false).0;
  piece = slice_get-pieces blocks (spot v false).0 (spot_chunk v blocks false lt);
  within = spot_within v false;
}
spot_fits (Stack sid) blocks v may lt = record {
  length = chunk (spot v true).0;
  piece = slice_get-pieces blocks (spot v true).0 (spot_chunk v blocks true lt);
  within = spot_within v true;
}
spot_fits (U pid) zero v may lt = absurd (omega arith)
spot_fits (U pid) (suc b) zero may lt = record { length = 2; piece = refl; within = omega arith }
spot_fits (U pid) (suc b) (suc v) may lt = absurd (omega arith)
spot_fits (Text image) blocks v may lt = elim (cases_lt (2 * v / 1024) (blocks / 1024)) [
  | inl whole ↦ record {
    length = 1024;
    piece = slice_get-text_pieces_whole blocks (2 * v / 1024) whole;
    within = omega arith;
  }
  | inr last ↦ record {
    length = blocks % 1024;
    piece =
        ap (slice_get (text_pieces blocks)) (omega arith) ∙
        slice_get-text_pieces_rest blocks 0 ∙
        first (blocks % 1024) (omega arith);
    within = omega arith;
  }
]
  where
    first : (n : ℕ) → 0 < n → slice_get (last_piece n) 0 ≡ Some n
    first zero some = absurd (omega arith)
    first (suc n) some = refl

pub no_pieces : (owner : Owner) → pieces_of owner 0 ≡ []
no_pieces (Data sid) = pieces_none
no_pieces (Stack sid) = pieces_none
no_pieces (U pid) = refl
no_pieces (Text image) = text_pieces_whole 0
