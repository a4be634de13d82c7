-- Pieces that are found for a request, and those that are given back.
use Rattle.std.proofs.Common.{◌≡◌, ◌≢◌, inl, inr, ◌⊎◌, ℕ, zero, suc, ◌<◌, ◌≤◌, nat_le, Bool, true, false, ◌-◌, List, [], ◌∷◌, ◌++◌, length, take, drop, map, Result, Ok, Err, refl, sym, ap, ◌∙◌, subst, arith}
use Rattle.std.specs.Prelude.{slice_index_or, is_ok, IfOk, OnOk, OnErr}
use Rattle.std.proofs.lemmas.Bool.{cases_Bool, cases_lt, cond-true, cond-false, le-leb, false≢true}
use Rattle.std.proofs.lemmas.List.{append-nil, length-map, take_all}
use Rattle.std.proofs.lemmas.List.FromFn.{length-map-range_with_len}
use Rattle.swap_dmap.specs.Chunks.{chunk, chunk_start, chunks_holding, pieces}
use Rattle.swap_dmap.proofs.ChunkLaws.{lowest_fails}
use Rattle.swap_dmap.proofs.PieceLaws.{length-pieces, pieces_at_start}
use Rattle.swap_book.specs.declared.Owner.{Owner}
use Rattle.swap_book.specs.declared.Owner.TheVariants.{Data, Stack, U, Text}
use Rattle.swap_book.specs.declared.Held.{Held}
use Rattle.swap_book.specs.Owners.{same_owner, u_pieces, pieces_of}
use Rattle.swap_book.specs.declared.Grown.TheVariants.{Ok as AllFound, NoFit}
use Rattle.swap_book.specs.Holdings.{Holdings, of_owner, lengths, kept}
use Rattle.swap_book.specs.Placing.{Wanted, wanted, more_pieces, and_then, place_all}
use Rattle.swap_book.specs.Book.{Book, CanGrow, CanShrink, with_holdings, growth_of, answer_of, grown_book}
use Rattle.swap_book.proofs.OwnerLaws.{same_owner_gives}
use Rattle.swap_book.proofs.HoldingLaws.{filter_kept, filter_left, kept_all}
use Rattle.swap_book.proofs.GrowthLaws.{wanted_as, Added, place_all-append, place_all_adds}
use Rattle.swap_book.proofs.KeptLaws.{kept_added}
use Rattle.kernel_laws.proofs.Pieces.Wanted.{lengths_own, lengths_other}
use Rattle.kernel_laws.proofs.Pieces.Found.{found_lengths}
use Rattle.kernel_laws.proofs.Pieces.GivenBack.{drop_past}
use Rattle.vm_facts.specs.declared.stop.NoMemory.{NoMemory}
use Rattle.swap_wants.specs.declared.Want.{Want}
use Rattle.swap_wants.specs.GivingBack.{MayGiveBack}
use Rattle.swap_wants.specs.Wants.{wanted_of, found_for, fits_for, IsOther, MayGrow, CanAsk, book_asked, is_kept}

-- Chunks.

pub start_below : (blocks k : ℕ) → k < length (pieces blocks) → chunk_start k < blocks
unfolding chunks_holding
start_below blocks k lt = elim (cases_lt (chunk_start k) blocks) [
  | inl below ↦ below
  | inr past ↦
      absurd (false≢true (sym (lowest_fails (λ n. nat_le blocks (chunk_start n)) blocks k (subst (λ (n : ℕ). k < n) (length-pieces blocks) lt)) ∙ le-leb blocks (chunk_start k) past))
]

pub pieces_kept : (k : ℕ) → length (pieces (chunk_start k)) ≡ k
pieces_kept k = ap (λ (ns : List ℕ). length ns) (pieces_at_start k) ∙ length-map-range_with_len chunk 0 k

-- An owner's first pieces.

other_kept : (owner : Owner) (n : ℕ) (h : Held) (hs : List Held) → same_owner h.owner owner ≡ false → kept owner n (h ∷ hs) ≡ h ∷ kept owner n hs
unfolding kept
other_kept owner zero h hs e = cond-false (same_owner h.owner owner) (kept owner zero hs) (h ∷ kept owner zero hs) e
other_kept owner (suc n) h hs e = ap (λ (k : ℕ). h ∷ kept owner k hs) (cond-false (same_owner h.owner owner) n (suc n) e)

own_kept : (owner : Owner) (n : ℕ) (h : Held) (hs : List Held) → same_owner h.owner owner ≡ true → kept owner (suc n) (h ∷ hs) ≡ h ∷ kept owner n hs
unfolding kept
own_kept owner n h hs e = ap (λ (k : ℕ). h ∷ kept owner k hs) (cond-true (same_owner h.owner owner) n (suc n) e)

kept_front : (owner : Owner) (hs gs : List Held) (ns : List ℕ) → map wanted_as gs ≡ wanted owner ns → kept owner (length (of_owner owner hs)) (hs ++ gs) ≡ hs
kept_front owner [] gs ns e = kept_added owner [] gs ns refl e
kept_front owner (h ∷ hs) gs ns e = elim (cases_Bool (same_owner h.owner owner)) [
  | inl own ↦
      ap (λ (xs : List Held). kept owner (length xs) (h ∷ (hs ++ gs))) (filter_kept (λ (g : Held). same_owner g.owner owner) h hs own)
      ∙ own_kept owner (length (of_owner owner hs)) h (hs ++ gs) own ∙ ap (λ (xs : List Held). h ∷ xs) (kept_front owner hs gs ns e)
  | inr other ↦
      ap (λ (xs : List Held). kept owner (length xs) (h ∷ (hs ++ gs))) (filter_left (λ (g : Held). same_owner g.owner owner) h hs other)
      ∙ other_kept owner (length (of_owner owner hs)) h (hs ++ gs) other ∙ ap (λ (xs : List Held). h ∷ xs) (kept_front owner hs gs ns e)
]

-- what was found for an owner is given back: the holdings are as before
pub given_back : (size : ℕ) (hs now : List Held) (owner : Owner) (blocks : ℕ) → place_all size hs (more_pieces hs owner blocks) ≡ Ok now
    → kept owner (length (of_owner owner hs)) now ≡ hs
given_back size hs now owner blocks e =
    let a : Added hs now (more_pieces hs owner blocks) = place_all_adds size hs now (more_pieces hs owner blocks) e in
    ap (kept owner (length (of_owner owner hs))) a.is ∙ kept_front owner hs a.pieces (drop (length (of_owner owner hs)) (pieces_of owner blocks)) a.wanted

-- How many pieces there are.

count_is : (owner : Owner) (hs : List Held) → length (lengths owner hs) ≡ length (of_owner owner hs)
count_is owner hs = length-map (of_owner owner hs) (λ (h : Held). h.length)

-- an owner that holds as many as it wants gets none
none_more : (size : ℕ) (hs now : List Held) (owner : Owner) (blocks : ℕ) → place_all size hs (more_pieces hs owner blocks) ≡ Ok now
    → length (pieces_of owner blocks) ≤ length (of_owner owner hs)
    → length (of_owner owner now) ≤ length (of_owner owner hs)
none_more size hs now owner blocks e l =
    let n : ℕ = length (of_owner owner hs) in
    let is : lengths owner now ≡ lengths owner hs =
    found_lengths size hs now (more_pieces hs owner blocks) owner e
    ∙ ap (λ (ns : List ℕ). lengths owner hs ++ ns) (lengths_own owner (drop n (pieces_of owner blocks)) ∙ drop_past n (pieces_of owner blocks) l) ∙ append-nil (lengths owner hs) in
    let same : length (of_owner owner now) ≡ n = sym (count_is owner now) ∙ ap (λ (ns : List ℕ). length ns) is ∙ count_is owner hs in
    omega (arith, same)

module _ (size : ℕ) (hs now : List Held) where
  u_back : (pid n : ℕ) → length (of_owner (U pid) hs) ≡ n → place_all size hs (more_pieces hs (U pid) 2) ≡ Ok now
      → MayGiveBack (U pid) 2 (length (of_owner (U pid) hs)) now
  u_back pid zero is e = inl is
  u_back pid (suc n) is e = inr (none_more size hs now (U pid) 2 e (let one : length (u_pieces 2) ≡ 1 = refl in omega (arith, is, one)))

  chunks_back : (owner : Owner) (blocks : ℕ) → pieces_of owner blocks ≡ pieces blocks → place_all size hs (more_pieces hs owner blocks) ≡ Ok now
      → (length (of_owner owner hs) < length (pieces blocks)) ⊎ (length (of_owner owner now) ≤ length (of_owner owner hs))
  chunks_back owner blocks is e = elim (cases_lt (length (of_owner owner hs)) (length (pieces blocks))) [
    | inl few ↦ inl few
    | inr all ↦ inr (none_more size hs now owner blocks e (subst (λ (ns : List ℕ). length ns ≤ length (of_owner owner hs)) (sym is) all))
  ]

  pub may_give_back : (owner : Owner) (blocks : ℕ) → CanGrow hs owner blocks
      → place_all size hs (more_pieces hs owner blocks) ≡ Ok now → MayGiveBack owner blocks (length (of_owner owner hs)) now
  may_give_back (Data sid) blocks can e = chunks_back (Data sid) blocks refl e
  may_give_back (Stack sid) blocks can e = chunks_back (Stack sid) blocks refl e
  may_give_back (U pid) blocks can e =
      u_back pid (length (of_owner (U pid) hs)) refl (subst (λ (b : ℕ). place_all size hs (more_pieces hs (U pid) b) ≡ Ok now) can e)
  may_give_back (Text image) blocks can e = inl (ap (λ (gs : List Held). length gs) can.1)

-- The other owners hold what they held.

not_same : (a b : Owner) → a ≢ b → same_owner a b ≡ false
not_same a b d = elim (cases_Bool (same_owner a b)) [
  | inl same ↦ absurd (d (same_owner_gives a b same))
  | inr other ↦ other
]

pub record Grew (size : ℕ) (hs now : List Held) (owner : Owner) (blocks : ℕ) : Type 0 where
  pub found : place_all size hs (more_pieces hs owner blocks) ≡ Ok now

other_count : (size : ℕ) (hs now : List Held) (owner other : Owner) (blocks : ℕ) → Grew size hs now owner blocks → owner ≢ other
    → length (of_owner other now) ≡ length (of_owner other hs)
other_count size hs now owner other blocks g d =
    let is : lengths other now ≡ lengths other hs =
    found_lengths size hs now (more_pieces hs owner blocks) other g.found
    ∙ ap (λ (ns : List ℕ). lengths other hs ++ ns) (lengths_other owner other (drop (length (of_owner owner hs)) (pieces_of owner blocks)) (not_same owner other d)) ∙ append-nil (lengths other hs) in
    sym (count_is other now) ∙ ap (λ (ns : List ℕ). length ns) is ∙ count_is other hs

wanted_still : (size : ℕ) (hs now : List Held) (owner : Owner) (blocks : ℕ) (ws : List Want) → Grew size hs now owner blocks → IsOther owner ws
    → wanted_of now ws ≡ wanted_of hs ws
wanted_still size hs now owner blocks [] g o = refl
wanted_still size hs now owner blocks (w ∷ ws) g o =
    ap (λ (n : ℕ). wanted w.owner (drop n (pieces_of w.owner w.blocks)) ++ wanted_of now ws) (other_count size hs now owner w.owner blocks g o.0)
    ∙ ap (λ (vs : List Wanted). more_pieces hs w.owner w.blocks ++ vs) (wanted_still size hs now owner blocks ws g o.1)

no_length : (hs : List Held) → length hs ≡ 0 → hs ≡ []
no_length [] e = refl
no_length (h ∷ hs) e = absurd cc

grow_still : (hs now : List Held) (other : Owner) (blocks : ℕ) → length (of_owner other now) ≡ length (of_owner other hs) → CanGrow hs other blocks
    → CanGrow now other blocks
grow_still hs now (Data sid) blocks e can = tt
grow_still hs now (Stack sid) blocks e can = tt
grow_still hs now (U pid) blocks e can = can
grow_still hs now (Text image) blocks e can = (can.0, no_length (of_owner (Text image) now) (e ∙ ap (λ (gs : List Held). length gs) can.1))

pub each_still : (size : ℕ) (hs now : List Held) (owner : Owner) (blocks : ℕ) (ws : List Want) → Grew size hs now owner blocks → IsOther owner ws
    → MayGrow hs ws → MayGrow now ws
each_still size hs now owner blocks [] g o may = tt
each_still size hs now owner blocks (w ∷ ws) g o may =
    (grow_still hs now w.owner w.blocks (other_count size hs now owner w.owner blocks g o.0) may.0, each_still size hs now owner blocks ws g o.1 may.1)

-- The first want, and the others after it.

pub found_behind : (size : ℕ) (hs now : List Held) (w : Want) (ws : List Want) → Grew size hs now w.owner w.blocks → IsOther w.owner ws
    → found_for size hs (w ∷ ws) ≡ found_for size now ws
found_behind size hs now w ws g o =
    place_all-append size hs (more_pieces hs w.owner w.blocks) (wanted_of hs ws)
    ∙ ap (λ (r : Result (List Held) ℕ). and_then r (λ then. place_all size then (wanted_of hs ws))) g.found
    ∙ ap (place_all size now) (sym (wanted_still size hs now w.owner w.blocks ws g o))

pub none_behind : (size : ℕ) (hs : List Held) (w : Want) (ws : List Want) (n : ℕ) → place_all size hs (more_pieces hs w.owner w.blocks) ≡ Err n
    → found_for size hs (w ∷ ws) ≡ Err n
none_behind size hs w ws n e =
    place_all-append size hs (more_pieces hs w.owner w.blocks) (wanted_of hs ws)
    ∙ ap (λ (r : Result (List Held) ℕ). and_then r (λ then. place_all size then (wanted_of hs ws))) e

-- A list of wants, as its first and the others.

pub no_wants : (size : ℕ) (hs : List Held) (ws : List Want) → length ws < 1 → found_for size hs ws ≡ Ok hs
unfolding place_all
no_wants size hs [] l = refl
no_wants size hs (w ∷ ws) l = absurd (omega arith)

others_all : (w : Want) (ws : List Want) → take (length (w ∷ ws) - 1) ws ≡ ws
others_all w ws = let n : length (w ∷ ws) - 1 ≡ length ws = omega arith in ap (λ (k : ℕ). take k ws) n ∙ take_all (length ws) ws (omega arith)

pub split_wants : (ws : List Want) (d : Want) → 1 ≤ length ws → ws ≡ slice_index_or ws 0 d ∷ take (length ws - 1) (drop 1 ws)
split_wants [] d l = absurd (omega arith)
split_wants (w ∷ ws) d l = ap (λ (xs : List Want). w ∷ xs) (sym (others_all w ws))

pub fewer_wants : (ws : List Want) → 1 ≤ length ws → length (take (length ws - 1) (drop 1 ws)) < length ws
fewer_wants [] l = absurd (omega arith)
fewer_wants (w ∷ ws) l = let t : length (take (length (w ∷ ws) - 1) ws) ≡ length ws = ap (λ (xs : List Want). length xs) (others_all w ws) in omega (arith, t)

-- What a growth answers.

pub no_fit : (r : Result Holdings ℕ) (n : ℕ) → answer_of r ≡ NoFit n → r ≡ Err n
no_fit (Ok hs) n e = absurd cc
no_fit (Err m) n e = cc

pub all_found : (r : Result Holdings ℕ) → answer_of r ≡ AllFound → (hs : Holdings) × (r ≡ Ok hs)
all_found (Ok hs) e = (hs, refl)
all_found (Err n) e = absurd cc

module _ (b now later : Book) (w : Want) (ws : List Want) (keeps : Bool) where
  -- The first want was found, and the others were asked for after it.
  pub record Behind (r : Result Bool NoMemory) : Type 0 where
    pub hs : Holdings
    pub found : growth_of b w.owner w.blocks ≡ Ok hs
    pub now_is : now ≡ grown_book b (growth_of b w.owner w.blocks)
    pub others : IsOther w.owner ws
    pub answer : IfOk r (λ fits. fits ≡ fits_for now.size now.holdings ws)
    pub book : OnOk r (later ≡ book_asked keeps now ws)
    pub err : OnErr r (later ≡ now)

  now_with : (r : Result Bool NoMemory) (g : Behind r) → now ≡ with_holdings b g.hs
  now_with r g = g.now_is ∙ ap (grown_book b) g.found

  same_found : (r : Result Bool NoMemory) → Behind r → found_for now.size now.holdings ws ≡ found_for b.size b.holdings (w ∷ ws)
  same_found r g =
      ap (λ (x : Book). found_for x.size x.holdings ws) (now_with r g) ∙ sym (found_behind b.size b.holdings g.hs w ws (record { found = g.found }) g.others)

  pub behind_answer : (r : Result Bool NoMemory) → Behind r → IfOk r (λ fits. fits ≡ fits_for b.size b.holdings (w ∷ ws))
  behind_answer (Ok fits) g = g.answer ∙ ap (λ (x : Result Holdings ℕ). is_ok x) (same_found (Ok fits) g)
  behind_answer (Err e) g = tt

found_later : (b now : Book) (hs : Holdings) (x y : Result Holdings ℕ) → now ≡ with_holdings b hs → x ≡ y → true ≡ is_ok x → grown_book now x ≡ grown_book b y
found_later b now hs (Ok gs) y e f t = ap (λ (z : Book). with_holdings z gs) e ∙ ap (grown_book b) f
found_later b now hs (Err n) y e f t = absurd cc

pub behind_kept : (b now later : Book) (w : Want) (ws : List Want) (keeps : Bool) (r : Result Bool NoMemory) → Behind b now later w ws keeps r
    → is_kept keeps r ≡ true → OnOk r (later ≡ book_asked keeps b (w ∷ ws))
behind_kept b now later w ws true (Ok true) g k =
    g.book ∙ found_later b now g.hs (found_for now.size now.holdings ws) (found_for b.size b.holdings (w ∷ ws)) (now_with b now later w ws true (Ok true) g)
    (same_found b now later w ws true (Ok true) g) g.answer
behind_kept b now later w ws true (Ok false) g k = absurd cc
behind_kept b now later w ws true (Err e) g k = tt
behind_kept b now later w ws false (Ok fits) g k = absurd cc
behind_kept b now later w ws false (Err e) g k = tt

none_found : (b : Book) (x : Result Holdings ℕ) → false ≡ is_ok x → grown_book b x ≡ b
none_found b (Ok hs) e = absurd cc
none_found b (Err n) e = refl

-- what isn't kept is as before the others were asked for
pub behind_left : (b now later : Book) (w : Want) (ws : List Want) (keeps : Bool) (r : Result Bool NoMemory) → Behind b now later w ws keeps r
    → is_kept keeps r ≡ false → later ≡ now
behind_left b now later w ws true (Ok true) g k = absurd cc
behind_left b now later w ws true (Ok false) g k = g.book ∙ none_found now (found_for now.size now.holdings ws) g.answer
behind_left b now later w ws false (Ok fits) g k = g.book
behind_left b now later w ws keeps (Err e) g k = g.err

pub behind_back : (b now later : Book) (w : Want) (ws : List Want) (keeps : Bool) (r : Result Bool NoMemory) → Behind b now later w ws keeps r
    → is_kept keeps r ≡ false
    → with_holdings later (kept w.owner (length (of_owner w.owner b.holdings)) later.holdings) ≡ b
behind_back b now later w ws keeps r g k =
    ap (λ (x : Book). with_holdings x (kept w.owner (length (of_owner w.owner b.holdings)) x.holdings)) (behind_left b now later w ws keeps r g k ∙ now_with b now later w ws keeps r g)
    ∙ ap (with_holdings b) (given_back b.size b.holdings g.hs w.owner w.blocks g.found)

pub behind_not : (b now later last : Book) (w : Want) (ws : List Want) (keeps : Bool) (r : Result Bool NoMemory) → Behind b now later w ws keeps r
    → is_kept keeps r ≡ false → last ≡ b → OnOk r (last ≡ book_asked keeps b (w ∷ ws))
behind_not b now later last w ws true (Ok true) g k e = absurd cc
behind_not b now later last w ws true (Ok false) g k e =
    e ∙ sym (none_found b (found_for b.size b.holdings (w ∷ ws)) (g.answer ∙ ap (λ (x : Result Holdings ℕ). is_ok x) (same_found b now later w ws true (Ok false) g)))
behind_not b now later last w ws false (Ok fits) g k e = e
behind_not b now later last w ws keeps (Err x) g k e = tt

pub behind_may : (b now later : Book) (w : Want) (ws : List Want) (keeps : Bool) (r : Result Bool NoMemory) → Behind b now later w ws keeps r
    → is_kept keeps r ≡ false → CanGrow b.holdings w.owner w.blocks
    → MayGiveBack w.owner w.blocks (length (of_owner w.owner b.holdings)) later.holdings
behind_may b now later w ws keeps r g k can =
    subst (λ (x : Book). MayGiveBack w.owner w.blocks (length (of_owner w.owner b.holdings)) x.holdings) (sym (behind_left b now later w ws keeps r g k ∙ now_with b now later w ws keeps r g))
    (may_give_back b.size b.holdings g.hs w.owner w.blocks can g.found)

pub behind_err : (r : Result Bool NoMemory) (last b : Book) → last ≡ b → OnErr r (last ≡ b)
behind_err (Ok fits) last b e = tt
behind_err (Err x) last b e = e

-- the others may be asked for after the first
pub can_behind : (b now : Book) (hs : Holdings) (w : Want) (ws : List Want) → growth_of b w.owner w.blocks ≡ Ok hs
    → now ≡ grown_book b (growth_of b w.owner w.blocks) → CanAsk b.holdings (w ∷ ws) → CanAsk now.holdings ws
can_behind b now hs w ws found is can =
    subst (λ (x : Book). CanAsk x.holdings ws) (sym (is ∙ ap (grown_book b) found))
    (record { differ = can.differ.1; each = each_still b.size b.holdings hs w.owner w.blocks ws (record { found = found }) can.differ.0 can.each.1 })

-- What is given back.

pub shrinks : (owner : Owner) → ((n : ℕ) × (owner ≡ Data n)) ⊎ ((n : ℕ) × (owner ≡ Stack n)) → CanShrink owner
shrinks owner (inl e) = subst CanShrink (sym e.1) tt
shrinks owner (inr e) = subst CanShrink (sym e.1) tt

pub never_shrinks : (owner : Owner) → ((n : ℕ) × (owner ≡ U n)) ⊎ ((n : ℕ) × (owner ≡ Text n)) → CanShrink owner → ⊥
never_shrinks owner (inl e) can = subst CanShrink e.1 can
never_shrinks owner (inr e) can = subst CanShrink e.1 can

pub shrunk : (owner : Owner) (keep : ℕ) → CanShrink owner → length (pieces_of owner (chunk_start keep)) ≡ keep
shrunk (Data sid) keep can = pieces_kept keep
shrunk (Stack sid) keep can = pieces_kept keep
shrunk (U pid) keep can = absurd can
shrunk (Text image) keep can = absurd can

few_chunks : (b : Book) (owner : Owner) (blocks keep : ℕ) → (keep < blocks) ⊎ (length (of_owner owner b.holdings) ≤ keep) → blocks ≤ keep
    → b ≡ with_holdings b (kept owner keep b.holdings)
few_chunks b owner blocks keep (inl l) m = absurd (omega arith)
few_chunks b owner blocks keep (inr l) m = ap (with_holdings b) (sym (kept_all owner keep b.holdings l))

pub nothing_back : (b : Book) (owner : Owner) (blocks keep : ℕ) → CanShrink owner → MayGiveBack owner blocks keep b.holdings
    → length (pieces blocks) ≤ keep → b ≡ with_holdings b (kept owner keep b.holdings)
nothing_back b (Data sid) blocks keep can may l = few_chunks b (Data sid) (length (pieces blocks)) keep may l
nothing_back b (Stack sid) blocks keep can may l = few_chunks b (Stack sid) (length (pieces blocks)) keep may l
nothing_back b (U pid) blocks keep can may l = absurd can
nothing_back b (Text image) blocks keep can may l = absurd can

whole_back : (b : Book) (owner : Owner) (keep : ℕ) → (keep ≡ 0) ⊎ (length (of_owner owner b.holdings) ≤ keep) → keep ≢ 0
    → b ≡ with_holdings b (kept owner keep b.holdings)
whole_back b owner keep (inl e) d = absurd (d e)
whole_back b owner keep (inr l) d = ap (with_holdings b) (sym (kept_all owner keep b.holdings l))

pub none_back : (b : Book) (owner : Owner) (blocks keep : ℕ) → (CanShrink owner → ⊥) → MayGiveBack owner blocks keep b.holdings → keep ≢ 0
    → b ≡ with_holdings b (kept owner keep b.holdings)
none_back b (Data sid) blocks keep not may d = absurd (not tt)
none_back b (Stack sid) blocks keep not may d = absurd (not tt)
none_back b (U pid) blocks keep not may d = whole_back b (U pid) keep may d
none_back b (Text image) blocks keep not may d = whole_back b (Text image) keep may d
