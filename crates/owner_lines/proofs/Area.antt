-- The rows of blocks of the swap area, and what is told of each block.
use Rattle.std.proofs.Common.{◌≡◌, ℕ, suc, ◌+◌, ◌-◌, ◌<◌, ◌≤◌, Bool, true, false, ltb, cond, ◌&&◌, nat_le, nat_lt, List, [], ◌∷◌, ◌++◌, length, get_or, Option, Some, None, refl, sym, ap, ◌∙◌, subst, inl, inr, append_assoc, arith}
use Rattle.std.specs.Prelude.{codes}
use Rattle.std.specs.List.{flat_map}
use Rattle.std.proofs.lemmas.Bool.{cases_Bool, ltb-true, and_parts}
use Rattle.std.proofs.lemmas.Bool.Decides.{nat_tests}
use Rattle.std.proofs.lemmas.List.{append-nil}
use Rattle.swap_book.specs.declared.Held.{Held}
use Rattle.swap_book.proofs.HoldingLaws.{in_low, in_high, in_outside}
use Rattle.page_model.specs.Owner.{Owner}
use Rattle.page_model.specs.Holdings.{Holdings, is_in}
use Rattle.page_model.specs.Book.{IsBook, IsApart}
use Rattle.run_model.specs.Next.{blocks_held}
use Rattle.owner_lines.specs.Owners.{word_if, gap_line, swap_line, swap_lines, piece_line, placed, rising, blocks_from}
use Rattle.owner_lines.proofs.Rising.{Follow, follow_rising, Each, each_rising, each_from}
use Rattle.owner_lines.specs.Lines.{Extent, extent_text, blocks_told}
use Rattle.owner_lines.specs.Told.{Tile, told_holder, holder_of, SwapTold}

-- The rows, as the lines name them.

abbrev gap_if : Bool → ℕ → ℕ → List Extent
gap_if true b end = record { start = b; length = end - b; holder = None } ∷ []
gap_if false b end = []

abbrev gap : ℕ → ℕ → List Extent
gap b end = gap_if (ltb b end) b end

abbrev row : Held → Extent
row h = record { start = h.start; length = h.length; holder = Some h.owner }

abbrev pub extents_from : ℕ → ℕ → Holdings → List Extent
extents_from size b [] = gap b size ++ []
extents_from size b (h ∷ hs) = gap b h.start ++ row h ∷ extents_from size (h.start + h.length) hs

gap_spelled : (c : Bool) (b end : ℕ) (xs : List Extent)
    → word_if c (swap_line b (end - b) (codes " free")) ++ flat_map extent_text xs ≡ flat_map extent_text (gap_if c b end ++ xs)
gap_spelled true b end xs = refl
gap_spelled false b end xs = refl

row_spelled : (h : Held) (xs : List Extent) → flat_map extent_text (row h ∷ xs) ≡ piece_line h ++ flat_map extent_text xs
row_spelled h xs = refl

gap_then : (b end : ℕ) (xs : List Extent) → gap_line b end ++ flat_map extent_text xs ≡ flat_map extent_text (gap b end ++ xs)
gap_then b end xs = gap_spelled (ltb b end) b end xs

pub spelled : (size b : ℕ) (hs : Holdings) → blocks_from size b hs ≡ flat_map extent_text (extents_from size b hs)
spelled size b [] = sym (append-nil (gap_line b size)) ∙ gap_then b size []
spelled size b (h ∷ hs) =
    append_assoc (gap_line b h.start) (piece_line h) (blocks_from size (h.start + h.length) hs)
    ∙ ap (λ (t : List ℕ). gap_line b h.start ++ (piece_line h ++ t)) (spelled size (h.start + h.length) hs)
    ∙ ap (λ (t : List ℕ). gap_line b h.start ++ t) (sym (row_spelled h (extents_from size (h.start + h.length) hs)))
    ∙ gap_then b h.start (row h ∷ extents_from size (h.start + h.length) hs)

-- The rows follow one another.

abbrev Ends : ℕ → Held → Type 0
Ends size h = h.start + h.length ≤ size

gap_tile : (c : Bool) (b mid end : ℕ) (xs : List Extent) → ltb b mid ≡ c → b ≤ mid → Tile mid end xs → Tile b end (gap_if c b mid ++ xs)
gap_tile true b mid end xs e low t =
    let under : b < mid = ltb-true b mid e in
    let there : mid ≡ b + (mid - b) = omega (arith, under) in
    (refl, omega (arith, under), subst (λ (k : ℕ). Tile k end xs) there t)
gap_tile false b mid end xs e low t =
    let same : mid ≡ b = grind (arith, nat_tests) in
    subst (λ (k : ℕ). Tile k end xs) same t

pub tile : (size b : ℕ) (hs : Holdings) → b ≤ size → Follow b hs → Each (Ends size) hs → Tile b size (extents_from size b hs)
tile size b [] low f ends = gap_tile (ltb b size) b size size [] refl low refl
tile size b (h ∷ hs) low f ends =
    gap_tile (ltb b h.start) b h.start size (row h ∷ extents_from size (h.start + h.length) hs)
    refl f.0 (refl, f.1, tile size (h.start + h.length) hs ends.0 f.2 ends.1)

-- Each block is told with its holder.

in_test : (h : Held) (b : ℕ) → (nat_le h.start b && nat_lt b (h.start + h.length)) ≡ is_in h b
unfolding is_in
in_test h b = refl

none_below : (b c : ℕ) (hs : Holdings) → Follow b hs → c < b → holder_of c hs ≡ None
none_below b c [] f l = refl
none_below b c (h ∷ hs) f l =
    let start = f.0 in
    let some = f.1 in
    ap (λ (k : Bool). cond k (Some h.owner) (holder_of c hs)) (in_outside h c (inl (omega (arith, l, start))))
    ∙ none_below (h.start + h.length) c hs f.2 (omega (arith, l, start))

gap_told : (k : Bool) (c b mid : ℕ) (xs : List Extent) (o : Option Owner) → ltb b mid ≡ k → (c < mid → None ≡ o) → told_holder c xs ≡ o
    → told_holder c (gap_if k b mid ++ xs) ≡ o
gap_told false c b mid xs o e none rest = rest
gap_told true c b mid xs o e none rest = elim (cases_Bool (nat_le b c && nat_lt c (b + (mid - b)))) [
  | inl inside ↦
      let under : b < mid = ltb-true b mid e in
      let high : c < b + (mid - b) = ltb-true c (b + (mid - b)) (and_parts (nat_le b c) (nat_lt c (b + (mid - b))) inside).1 in
      ap (λ (k : Bool). cond k None (told_holder c xs)) inside ∙ none (omega (arith, under, high))
  | inr outside ↦ ap (λ (k : Bool). cond k None (told_holder c xs)) outside ∙ rest
]

pub told : (size b c : ℕ) (hs : Holdings) → Follow b hs → told_holder c (extents_from size b hs) ≡ holder_of c hs
told size b c [] f = gap_told (ltb b size) c b size [] None refl (λ l. refl) refl
told size b c (h ∷ hs) f =
    gap_told (ltb b h.start) c b h.start (row h ∷ extents_from size (h.start + h.length) hs) (holder_of c (h ∷ hs)) refl
    (λ l. sym (none_below h.start c (h ∷ hs) (omega arith, f.1, f.2) l))
    (ap (λ (k : Bool). cond k (Some h.owner) (told_holder c (extents_from size (h.start + h.length) hs))) (in_test h c)
    ∙ ap (λ (o : Option Owner). cond (is_in h c) (Some h.owner) o) (told size (h.start + h.length) c hs f.2))

-- The numbers of blocks.

gap_free : (k : Bool) (b mid : ℕ) (xs : List Extent) → blocks_told (gap_if k b mid ++ xs) ≡ blocks_told xs
gap_free true b mid xs = let e : 0 + blocks_told xs ≡ blocks_told xs = omega arith in e
gap_free false b mid xs = refl

pub blocks_counted : (size b : ℕ) (hs : Holdings) → blocks_told (extents_from size b hs) ≡ blocks_held hs
blocks_counted size b [] = gap_free (ltb b size) b size []
blocks_counted size b (h ∷ hs) =
    gap_free (ltb b h.start) b h.start (row h ∷ extents_from size (h.start + h.length) hs)
    ∙ ap (λ (n : ℕ). h.length + n) (blocks_counted size (h.start + h.length) hs)

-- The pieces by their first blocks are the pieces.

either_first : (x y : Bool) (a b rest : Option Owner) → (x ≡ true → y ≡ true → ⊥) → cond x a (cond y b rest) ≡ cond y b (cond x a rest)
either_first true true a b rest apart = absurd (apart refl refl)
either_first true false a b rest apart = refl
either_first false true a b rest apart = refl
either_first false false a b rest apart = refl

share_none : (c : ℕ) (g h : Held) → IsApart h g → is_in g c ≡ true → is_in h c ≡ true → ⊥
share_none c g h (inl before) i j = let x = in_low g c i in let y = in_high h c j in omega (arith, x, y, before)
share_none c g h (inr behind) i j = let x = in_high g c i in let y = in_low h c j in omega (arith, x, y, behind)

holder_placed : (c : ℕ) (h : Held) (gs : Holdings) → Each (IsApart h) gs → holder_of c (placed h gs) ≡ holder_of c (h ∷ gs)
holder_placed c h [] apart = refl
holder_placed c h (g ∷ gs) apart = elim (cases_Bool (ltb g.start h.start)) [
  | inl low ↦
      ap (λ (k : Bool). holder_of c (cond k (g ∷ placed h gs) (h ∷ g ∷ gs))) low
      ∙ ap (λ (o : Option Owner). cond (is_in g c) (Some g.owner) o) (holder_placed c h gs apart.1)
      ∙ either_first (is_in g c) (is_in h c) (Some g.owner) (Some h.owner) (holder_of c gs) (share_none c g h apart.0)
  | inr high ↦ ap (λ (k : Bool). holder_of c (cond k (g ∷ placed h gs) (h ∷ g ∷ gs))) high
]

holder_rising : (c : ℕ) (hs : Holdings) → ((i j : ℕ) (d : Held) → i < j → j < length hs → IsApart (get_or hs i d) (get_or hs j d))
    → holder_of c (rising hs) ≡ holder_of c hs
holder_rising c [] apart = refl
holder_rising c (h ∷ hs) apart =
    holder_placed c h (rising hs) (each_rising (IsApart h) hs (each_from (IsApart h) hs (λ j d l. apart 0 (suc j) d (omega arith) (omega arith))))
    ∙ ap (λ (o : Option Owner). cond (is_in h c) (Some h.owner) o) (holder_rising c hs (λ i j d l m. apart (suc i) (suc j) d (omega arith) (omega arith)))

placed_held : (h : Held) (gs : Holdings) → blocks_held (placed h gs) ≡ h.length + blocks_held gs
placed_held h [] = refl
placed_held h (g ∷ gs) = elim (cases_Bool (ltb g.start h.start)) [
  | inl low ↦
      let more = placed_held h gs in
      ap (λ (k : Bool). blocks_held (cond k (g ∷ placed h gs) (h ∷ g ∷ gs))) low
      ∙ (let e : g.length + blocks_held (placed h gs) ≡ h.length + (g.length + blocks_held gs) = omega (arith, more) in e)
  | inr high ↦ ap (λ (k : Bool). blocks_held (cond k (g ∷ placed h gs) (h ∷ g ∷ gs))) high
]

rising_held : (hs : Holdings) → blocks_held (rising hs) ≡ blocks_held hs
rising_held [] = refl
rising_held (h ∷ hs) = placed_held h (rising hs) ∙ ap (λ (n : ℕ). h.length + n) (rising_held hs)

-- All of it.

abbrev pub area : ℕ → Holdings → List Extent
area size hs = extents_from size 0 (rising hs)

pub area_spelled : (size : ℕ) (hs : Holdings) → swap_lines size hs ≡ flat_map extent_text (area size hs)
area_spelled size hs = spelled size 0 (rising hs)

pub area_told : (size : ℕ) (hs : Holdings) → IsBook size hs → SwapTold size hs (area size hs)
area_told size hs book = record {
  tiled = tile size 0 (rising hs) (omega arith) (follow_rising size hs book) (each_rising (Ends size) hs (each_from (Ends size) hs (λ i d l. (book.pieces i d l).within)));
  so = λ b. told size 0 b (rising hs) (follow_rising size hs book) ∙ holder_rising b hs book.apart;
}

pub area_counted : (size : ℕ) (hs : Holdings) → blocks_told (area size hs) ≡ blocks_held hs
area_counted size hs = blocks_counted size 0 (rising hs) ∙ rising_held hs
