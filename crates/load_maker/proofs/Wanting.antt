-- The pieces of swap space that the steps of a load's processes ask for.
use Rattle.std.proofs.Common.{◌≡◌, ℕ, zero, suc, ◌+◌, ◌-◌, ◌*◌, ◌/◌, ◌<◌, ◌≤◌, Bool, true, false, ◌&&◌, nat_lt, nat_le, List, [], ◌∷◌, ◌++◌, length, drop, refl, sym, ap, ◌∙◌, subst, arith}
use Rattle.std.proofs.lemmas.Bool.{and_parts, leb-true, ltb-true}
use Rattle.aout_image.specs.Image.{Loaded, pages_for, text_pages_of}
use Rattle.swap_dmap.specs.Chunks.{pieces, chunk, chunk_start, lowest_below, chunks_holding, last_piece, text_pieces}
use Rattle.swap_book.specs.declared.Owner.{Owner}
use Rattle.swap_book.specs.declared.Owner.TheVariants as owners
use Rattle.swap_book.specs.Placing.{Wanted, wanted}
use Rattle.flat_state.specs.Space.{Space}
use Rattle.flat_state.specs.Flat.{FlatState, NamedImage}
use Rattle.flat_state.specs.declared.change.Change.TheVariants.{Resize, Fork, Exec}
use Rattle.flat_model.specs.Calls.{stack_pages_of}
use Rattle.flat_model.specs.Step.{data_pages_of as data_pages_in}
use Rattle.flat_model.specs.Asked.{pieces_for, further_pieces, is_shared, text_wanted, change_wanted}
use Rattle.load_maker.specs.Programs.{v_bytes}
use Rattle.load_maker.specs.Load.{one_page_image, v_bss}
use Rattle.load_maker.specs.Left.{images_for}
use Rattle.load_maker.proofs.Numbers.{all_below, below}
use Rattle.load_maker.proofs.Pieces.{AreWithin, asked}

-- ---- pieces by their lengths

all_within : List ℕ → Bool
all_within [] = true
all_within (n ∷ ns) = (nat_lt 0 n && nat_le n 1024) && all_within ns

sum_of : List ℕ → ℕ
sum_of [] = 0
sum_of (n ∷ ns) = n + sum_of ns

within_by : (owner : Owner) (ns : List ℕ) → all_within ns ≡ true → AreWithin (wanted owner ns)
unfolding all_within
within_by owner [] h = tt
within_by owner (n ∷ ns) h =
    let a = and_parts (nat_lt 0 n && nat_le n 1024) (all_within ns) h in let b = and_parts (nat_lt 0 n) (nat_le n 1024) a.0 in
    ((ltb-true 0 n b.0, leb-true n 1024 b.1), within_by owner ns a.1)

asked_by : (owner : Owner) (ns : List ℕ) → asked (wanted owner ns) ≡ sum_of ns
unfolding sum_of
asked_by owner [] = refl
asked_by owner (n ∷ ns) = ap (λ (x : ℕ). n + x) (asked_by owner ns)

drop_wanted : (owner : Owner) (k : ℕ) (ns : List ℕ) → drop k (wanted owner ns) ≡ wanted owner (drop k ns)
drop_wanted owner zero ns = refl
drop_wanted owner (suc k) [] = refl
drop_wanted owner (suc k) (n ∷ ns) = drop_wanted owner k ns

within_both : (vs ws : List Wanted) → AreWithin vs → AreWithin ws → AreWithin (vs ++ ws)
within_both [] ws a b = b
within_both (v ∷ vs) ws a b = (a.0, within_both vs ws a.1 b)

asked_both : (vs ws : List Wanted) → asked (vs ++ ws) ≡ asked vs + asked ws
asked_both [] ws = omega arith
asked_both (v ∷ vs) ws = let ih = asked_both vs ws in omega (arith, ih)

-- pieces that are within a unit each, and have at most so many blocks
pub record Asks (ws : List Wanted) (most : ℕ) : Type 0 where
  pub within : AreWithin ws
  pub few : asked ws ≤ most

both : (vs ws : List Wanted) (m n : ℕ) → Asks vs m → Asks ws n → Asks (vs ++ ws) (m + n)
both vs ws m n a b = let e = asked_both vs ws in record { within = within_both vs ws a.within b.within; few = omega (arith, e, a.few, b.few) }

by_lengths : (owner : Owner) (ns : List ℕ) (most : ℕ) → (all_within ns && nat_le (sum_of ns) most) ≡ true → Asks (wanted owner ns) most
by_lengths owner ns most h =
    let a = and_parts (all_within ns) (nat_le (sum_of ns) most) h in let e = asked_by owner ns in
    record { within = within_by owner ns a.0; few = omega (arith, e, leb-true (sum_of ns) most a.1) }

-- ---- the data of a load's programs

is_few : ℕ → List ℕ → Bool
is_few most ns = all_within ns && nat_le (sum_of ns) most

data_few : all_below (λ j. is_few 224 (pieces (2 * (40 + j)))) 25 ≡ true
unfolding all_below is_few all_within sum_of pieces chunk chunk_start lowest_below chunks_holding
data_few = refl

more_few : all_below (λ j. is_few 192 (drop 1 (pieces (2 * (40 + j))))) 25 ≡ true
unfolding all_below is_few all_within sum_of pieces chunk chunk_start lowest_below chunks_holding
more_few = refl

at_pages : (test : ℕ → Bool) (pages : ℕ) → all_below (λ j. test (40 + j)) 25 ≡ true → 40 ≤ pages → pages < 65 → test pages ≡ true
at_pages test pages all low high =
    let e : 40 + (pages - 40) ≡ pages = omega (arith, low) in
    subst (λ (x : ℕ). test x ≡ true) e (below (λ j. test (40 + j)) 25 (pages - 40) all (omega (arith, low, high)))

data_asks : (sid pages : ℕ) → 40 ≤ pages → pages < 65 → Asks (pieces_for (owners.Data sid) pages) 224
unfolding is_few
data_asks sid pages low high = by_lengths (owners.Data sid) (pieces (2 * pages)) 224 (at_pages (λ x. is_few 224 (pieces (2 * x))) pages data_few low high)

stack_asks : (sid : ℕ) → Asks (pieces_for (owners.Stack sid) 1) 32
unfolding all_within sum_of pieces chunk chunk_start lowest_below chunks_holding
stack_asks sid = by_lengths (owners.Stack sid) (pieces 2) 32 refl

u_asks : (pid : ℕ) → Asks (pieces_for (owners.U pid) 1) 2
unfolding all_within sum_of
u_asks pid = by_lengths (owners.U pid) (2 ∷ []) 2 refl

text_asks : (b : Bool) (image : Loaded) → text_pages_of image.facts ≡ 1 → Asks (text_wanted b 2 image) 2
unfolding all_within sum_of text_pieces last_piece
text_asks true image e = record { within = tt; few = omega arith }
text_asks false image e = subst (λ (n : ℕ). Asks (pieces_for (owners.Text 2) n) 2) (sym e) (by_lengths (owners.Text 2) (text_pieces 2) 2 refl)

-- ---- what each change asks for

more_asks : (sid pages : ℕ) → 40 ≤ pages → pages < 65 → Asks (further_pieces (owners.Data sid) 8 pages) 192
unfolding is_few pieces chunk chunk_start lowest_below chunks_holding
more_asks sid pages low high =
    subst (λ (ws : List Wanted). Asks ws 192) (sym (drop_wanted (owners.Data sid) 1 (pieces (2 * pages))))
    (by_lengths (owners.Data sid) (drop 1 (pieces (2 * pages))) 192 (at_pages (λ x. is_few 192 (drop 1 (pieces (2 * x)))) pages more_few low high))

no_more_asks : (sid : ℕ) → Asks (further_pieces (owners.Stack sid) 1 1) 0
unfolding pieces chunk chunk_start lowest_below chunks_holding
no_more_asks sid = record { within = tt; few = omega arith }

pub resize_asks : (images : List NamedImage) (F : FlatState) (s : Space) (pages : ℕ) → 40 ≤ pages → pages < 65 → length s.data_bytes ≡ 8192
    → length s.stack_bytes ≡ 1024
    → Asks (change_wanted images F s (Resize pages 1)) 192
resize_asks images F s pages low high size stack =
    subst (λ (n : ℕ). Asks (further_pieces (owners.Data s.sid) (n / 1024) pages ++ further_pieces (owners.Stack s.sid) (stack_pages_of s) 1) 192) (sym size)
    (subst (λ (n : ℕ). Asks (further_pieces (owners.Data s.sid) 8 pages ++ further_pieces (owners.Stack s.sid) (n / 1024) 1) 192) (sym stack)
    (both (further_pieces (owners.Data s.sid) 8 pages) (further_pieces (owners.Stack s.sid) 1 1) 192 0 (more_asks s.sid pages low high) (no_more_asks s.sid)))

pub fork_asks : (images : List NamedImage) (F : FlatState) (s : Space) (pages child : ℕ) → 40 ≤ pages → pages < 65 → length s.data_bytes ≡ 1024 * pages
    → length s.stack_bytes ≡ 1024
    → Asks (change_wanted images F s (Fork child)) 258
fork_asks images F s pages child low high size stack =
    let d : data_pages_in s ≡ pages = ap (λ (n : ℕ). n / 1024) size ∙ whole pages in
    let t : stack_pages_of s ≡ 1 = ap (λ (n : ℕ). n / 1024) stack in
    subst (λ (n : ℕ). Asks (pieces_for (owners.Data F.next_sid) n ++ pieces_for (owners.Stack F.next_sid) (stack_pages_of s) ++ pieces_for (owners.U child) 1) 258) (sym d)
    (subst (λ (n : ℕ). Asks (pieces_for (owners.Data F.next_sid) pages ++ pieces_for (owners.Stack F.next_sid) n ++ pieces_for (owners.U child) 1) 258) (sym t)
    (both (pieces_for (owners.Data F.next_sid) pages ++ pieces_for (owners.Stack F.next_sid) 1) (pieces_for (owners.U child) 1) 256 2
    (both (pieces_for (owners.Data F.next_sid) pages) (pieces_for (owners.Stack F.next_sid) 1) 224 32 (data_asks F.next_sid pages low high) (stack_asks F.next_sid)) (u_asks child)))
  where
    whole : (n : ℕ) → 1024 * n / 1024 ≡ n
    whole n = omega arith

pub exec_asks : (F : FlatState) (s : Space) (pages : ℕ) (top : List ℕ) → 40 ≤ pages → pages < 65
    → Asks (change_wanted (images_for pages) F s (Exec 2 top)) 258
exec_asks F s pages top low high =
    let v : Loaded = one_page_image (v_bytes pages) (v_bss pages) in
    both (text_wanted (is_shared F 2) 2 v ++ pieces_for (owners.Data F.next_sid) (pages_for (0 + 1024 * pages))) (pieces_for (owners.Stack F.next_sid) 1) 226 32
    (both (text_wanted (is_shared F 2) 2 v) (pieces_for (owners.Data F.next_sid) (pages_for (0 + 1024 * pages))) 2 224 (text_asks (is_shared F 2) v refl)
    (subst (λ (n : ℕ). Asks (pieces_for (owners.Data F.next_sid) n) 224) (whole pages) (data_asks F.next_sid pages low high))) (stack_asks F.next_sid)
  where
    whole : (n : ℕ) → n ≡ pages_for (0 + 1024 * n)
    whole n = omega arith
