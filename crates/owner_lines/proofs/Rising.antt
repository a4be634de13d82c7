-- The pieces by their first blocks, and the one that begins next from a block on.
use Rattle.std.proofs.Common.{◌≡◌, inl, inr, ℕ, suc, ◌+◌, ◌<◌, ◌≤◌, Bool, true, false, ltb, cond, List, [], ◌∷◌, ◌++◌, length, get_or, drop, Option, Some, None, refl, sym, ap, ◌∙◌, subst, arith}
use Rattle.std.proofs.lemmas.Bool.{cases_Bool}
use Rattle.std.proofs.lemmas.Bool.Decides.{nat_tests}
use Rattle.std.proofs.lemmas.List.{at_drop_more}
use Rattle.std.proofs.lemmas.Option.{same_Some}
use Rattle.swap_book.specs.declared.Held.{Held}
use Rattle.swap_book.specs.Holdings.{Holdings}
use Rattle.swap_book.specs.Book.{IsBook, IsPiece, IsApart}
use Rattle.owner_lines.specs.Owners.{placed, rising, blocks_from, gap_line, piece_line}
use Rattle.owner_lines.specs.Pieces.{nearer, nearer_from, next_from}

below : (a b : ℕ) → ltb a b ≡ true → a < b
below a b e = grind (arith, nat_tests)

above : (a b : ℕ) → ltb a b ≡ false → b ≤ a
above a b e = grind (arith, nat_tests)

is_below : (a b : ℕ) → a < b → ltb a b ≡ true
is_below a b e = grind (arith, nat_tests)

is_above : (a b : ℕ) → b ≤ a → ltb a b ≡ false
is_above a b e = grind (arith, nat_tests)

-- the first piece that doesn't begin below a block, and the pieces from that one on
abbrev pub first_from : ℕ → Holdings → Option Held
first_from b [] = None
first_from b (h ∷ hs) = cond (ltb h.start b) (first_from b hs) (Some h)

abbrev pub all_from : ℕ → Holdings → Holdings
all_from b [] = []
all_from b (h ∷ hs) = cond (ltb h.start b) (all_from b hs) (h ∷ hs)

first_placed : (b : ℕ) (h : Held) (gs : Holdings) → first_from b (placed h gs) ≡ cond (ltb h.start b) (first_from b gs) (Some (nearer h (first_from b gs)))
first_placed b h [] = refl
first_placed b h (g ∷ gs) = elim (cases_Bool (ltb g.start h.start)) [
  | inl low ↦ elim (cases_Bool (ltb g.start b)) [
    | inl under ↦
        ap (λ (c : Bool). first_from b (cond c (g ∷ placed h gs) (h ∷ g ∷ gs))) low
        ∙ ap (λ (c : Bool). cond c (first_from b (placed h gs)) (Some g)) under
        ∙ first_placed b h gs
        ∙ sym (ap (λ (c : Bool). cond (ltb h.start b) (cond c (first_from b gs) (Some g)) (Some (nearer h (cond c (first_from b gs) (Some g))))) under)
    | inr over ↦
        let far : ltb h.start b ≡ false = is_above h.start b (let x = below g.start h.start low in let y = above g.start b over in omega (arith, x, y)) in
        ap (λ (c : Bool). first_from b (cond c (g ∷ placed h gs) (h ∷ g ∷ gs))) low
        ∙ ap (λ (c : Bool). cond c (first_from b (placed h gs)) (Some g)) over
        ∙ sym (ap (λ (c : Bool). Some (cond c g h)) low)
        ∙ sym (ap (λ (c : Bool). cond (ltb h.start b) (cond c (first_from b gs) (Some g)) (Some (nearer h (cond c (first_from b gs) (Some g))))) over
        ∙ ap (λ (c : Bool). cond c (Some g) (Some (nearer h (Some g)))) far)
  ]
  | inr high ↦ elim (cases_Bool (ltb h.start b)) [
    | inl under ↦
        ap (λ (c : Bool). first_from b (cond c (g ∷ placed h gs) (h ∷ g ∷ gs))) high
        ∙ ap (λ (c : Bool). cond c (first_from b (g ∷ gs)) (Some h)) under
        ∙ sym (ap (λ (c : Bool). cond c (first_from b (g ∷ gs)) (Some (nearer h (first_from b (g ∷ gs))))) under)
    | inr over ↦
        let far : ltb g.start b ≡ false = is_above g.start b (let x = above g.start h.start high in let y = above h.start b over in omega (arith, x, y)) in
        ap (λ (c : Bool). first_from b (cond c (g ∷ placed h gs) (h ∷ g ∷ gs))) high
        ∙ ap (λ (c : Bool). cond c (first_from b (g ∷ gs)) (Some h)) over
        ∙ sym (ap (λ (c : Bool). Some (cond c g h)) high)
        ∙ sym (ap (λ (c : Bool). cond c (first_from b (g ∷ gs)) (Some (nearer h (first_from b (g ∷ gs))))) over
        ∙ ap (λ (c : Bool). Some (nearer h (cond c (first_from b gs) (Some g)))) far)
  ]
]

-- the piece that begins next is the first of those in order that doesn't begin below
pub next_is_first : (b : ℕ) (hs : Holdings) → next_from b hs ≡ first_from b (rising hs)
next_is_first b [] = refl
next_is_first b (h ∷ hs) =
    ap (λ (o : Option Held). cond (ltb h.start b) o (Some (nearer h o))) (next_is_first b hs) ∙ sym (first_placed b h (rising hs))

-- the next of the pieces from a place on
pub next_more : (b : ℕ) (hs : Holdings) (i : ℕ) (d : Held) (o : Option Held) → i < length hs → o ≡ next_from b (drop (i + 1) hs)
    → nearer_from b (get_or hs i d) o ≡ next_from b (drop i hs)
next_more b hs i d o below rest = ap (nearer_from b (get_or hs i d)) rest ∙ sym (at_drop_more (next_from b) hs i d below)

-- each piece has blocks, and begins after the end of the one before it
abbrev pub Follow : ℕ → Holdings → Type 0
Follow b [] = Unit {0}
Follow b (h ∷ hs) = (b ≤ h.start) × (0 < h.length) × Follow (h.start + h.length) hs

abbrev pub Each : (Held → Type 0) → Holdings → Type 0
Each P [] = Unit {0}
Each P (h ∷ hs) = P h × Each P hs

pub each_placed : (P : Held → Type 0) (h : Held) (gs : Holdings) → P h → Each P gs → Each P (placed h gs)
each_placed P h [] x k = (x, tt)
each_placed P h (g ∷ gs) x k = elim (cases_Bool (ltb g.start h.start)) [
  | inl low ↦ subst (λ (c : Bool). Each P (cond c (g ∷ placed h gs) (h ∷ g ∷ gs))) (sym low) (k.0, each_placed P h gs x k.1)
  | inr high ↦ subst (λ (c : Bool). Each P (cond c (g ∷ placed h gs) (h ∷ g ∷ gs))) (sym high) (x, k)
]

pub each_rising : (P : Held → Type 0) (hs : Holdings) → Each P hs → Each P (rising hs)
each_rising P [] k = tt
each_rising P (h ∷ hs) k = each_placed P h (rising hs) k.0 (each_rising P hs k.1)

follow_placed : (b : ℕ) (h : Held) (gs : Holdings) → Follow b gs → b ≤ h.start → 0 < h.length → Each (IsApart h) gs → Follow b (placed h gs)
follow_placed b h [] f l some apart = (l, some, tt)
follow_placed b h (g ∷ gs) f l some apart = elim (cases_Bool (ltb g.start h.start)) [
  | inl low ↦
      let under = below g.start h.start low in
      let behind : g.start + g.length ≤ h.start = elim (apart.0) [
        | inl x ↦ absurd (omega (arith, x, under, some))
        | inr x ↦ x
      ] in
      subst (λ (c : Bool). Follow b (cond c (g ∷ placed h gs) (h ∷ g ∷ gs))) (sym low) (f.0, f.1, follow_placed (g.start + g.length) h gs f.2 behind some apart.1)
  | inr high ↦
      let over = above g.start h.start high in
      let before : h.start + h.length ≤ g.start = elim (apart.0) [
        | inl x ↦ x
        | inr x ↦ absurd (let y = f.1 in omega (arith, x, over, y))
      ] in
      subst (λ (c : Bool). Follow b (cond c (g ∷ placed h gs) (h ∷ g ∷ gs))) (sym high) (l, some, (before, f.1, f.2))
]

pub each_from : (P : Held → Type 0) (hs : Holdings) → ((i : ℕ) (d : Held) → i < length hs → P (get_or hs i d)) → Each P hs
each_from P [] k = tt
each_from P (h ∷ hs) k = (k 0 h (omega arith), each_from P hs (λ i d l. k (suc i) d (omega arith)))

follow_by : (hs : Holdings) → ((i : ℕ) (d : Held) → i < length hs → 0 < (get_or hs i d).length)
    → ((i j : ℕ) (d : Held) → i < j → j < length hs → IsApart (get_or hs i d) (get_or hs j d)) → Follow 0 (rising hs)
follow_by [] some apart = tt
follow_by (h ∷ hs) some apart =
    follow_placed 0 h (rising hs)
    (follow_by hs (λ i d l. some (suc i) d (omega arith)) (λ i j d l m. apart (suc i) (suc j) d (omega arith) (omega arith)))
    (omega arith) (some 0 h (omega arith))
    (each_rising (IsApart h) hs (each_from (IsApart h) hs (λ j d l. apart 0 (suc j) d (omega arith) (omega arith))))

pub follow_rising : (size : ℕ) (hs : Holdings) → IsBook size hs → Follow 0 (rising hs)
follow_rising size hs b = follow_by hs (λ i d l. (b.pieces i d l).not_empty) b.apart

-- nothing begins below where all follow
all_follow : (b : ℕ) (hs : Holdings) → Follow b hs → all_from b hs ≡ hs
all_follow b [] f = refl
all_follow b (h ∷ hs) f = ap (λ (c : Bool). cond c (all_from b hs) (h ∷ hs)) (is_above h.start b f.0)

first_above : (b : ℕ) (hs : Holdings) (h : Held) → first_from b hs ≡ Some h → b ≤ h.start
first_above b [] h e = absurd cc
first_above b (g ∷ gs) h e = elim (cases_Bool (ltb g.start b)) [
  | inl low ↦ first_above b gs h (sym (ap (λ (c : Bool). cond c (first_from b gs) (Some g)) low) ∙ e)
  | inr high ↦
      let same : g ≡ h = same_Some g h (sym (ap (λ (c : Bool). cond c (first_from b gs) (Some g)) high) ∙ e) in
      subst (λ (x : Held). b ≤ x.start) same (above g.start b high)
]

all_step : (a b : ℕ) (hs : Holdings) (h : Held) → Follow a hs → first_from b hs ≡ Some h → all_from b hs ≡ h ∷ all_from (h.start + h.length) hs
all_step a b [] h f e = absurd cc
all_step a b (g ∷ gs) h f e = elim (cases_Bool (ltb g.start b)) [
  | inl low ↦
      let first : first_from b gs ≡ Some h = sym (ap (λ (c : Bool). cond c (first_from b gs) (Some g)) low) ∙ e in
      let under : g.start < h.start + h.length = let x = below g.start b low in let y = first_above b gs h first in omega (arith, x, y) in
      ap (λ (c : Bool). cond c (all_from b gs) (g ∷ gs)) low
      ∙ all_step (g.start + g.length) b gs h f.2 first
      ∙ sym (ap (λ (c : Bool). h ∷ cond c (all_from (h.start + h.length) gs) (g ∷ gs)) (is_below g.start (h.start + h.length) under))
  | inr high ↦
      let same : g ≡ h = same_Some g h (sym (ap (λ (c : Bool). cond c (first_from b gs) (Some g)) high) ∙ e) in
      let under : g.start < g.start + g.length = let x = f.1 in omega (arith, x) in
      ap (λ (c : Bool). cond c (all_from b gs) (g ∷ gs)) high
      ∙ ap (λ (xs : Holdings). g ∷ xs)
      (sym (ap (λ (c : Bool). cond c (all_from (g.start + g.length) gs) (g ∷ gs)) (is_below g.start (g.start + g.length) under) ∙ all_follow (g.start + g.length) gs f.2))
      ∙ ap (λ (x : Held). x ∷ all_from (x.start + x.length) (g ∷ gs)) same
]

all_none : (b : ℕ) (hs : Holdings) → first_from b hs ≡ None → all_from b hs ≡ []
all_none b [] e = refl
all_none b (g ∷ gs) e = elim (cases_Bool (ltb g.start b)) [
  | inl low ↦ ap (λ (c : Bool). cond c (all_from b gs) (g ∷ gs)) low ∙ all_none b gs (sym (ap (λ (c : Bool). cond c (first_from b gs) (Some g)) low) ∙ e)
  | inr high ↦ absurd (let x : Some g ≡ None = sym (ap (λ (c : Bool). cond c (first_from b gs) (Some g)) high) ∙ e in cc)
]

-- The text from a block on.

abbrev pub text_from : ℕ → ℕ → Holdings → List ℕ
text_from size b hs = blocks_from size b (all_from b (rising hs))

pub text_start : (size : ℕ) (hs : Holdings) → IsBook size hs → blocks_from size 0 (rising hs) ≡ text_from size 0 hs
text_start size hs b = ap (blocks_from size 0) (sym (all_follow 0 (rising hs) (follow_rising size hs b)))

pub text_step : (size b : ℕ) (hs : Holdings) (h : Held) → IsBook size hs → Some h ≡ next_from b hs
    → text_from size b hs ≡ gap_line b h.start ++ piece_line h ++ text_from size (h.start + h.length) hs
text_step size b hs h book e =
    ap (blocks_from size b) (all_step 0 b (rising hs) h (follow_rising size hs book) (sym (e ∙ next_is_first b hs)))

pub text_end : (size b : ℕ) (hs : Holdings) → None ≡ next_from b hs → text_from size b hs ≡ gap_line b size
text_end size b hs e = ap (blocks_from size b) (all_none b (rising hs) (sym (e ∙ next_is_first b hs)))

-- The piece that begins next begins at the block or after it, and ends within the area.

nearer_of : (P : Held → Type 0) (h : Held) (o : Option Held) → P h → ((g : Held) → o ≡ Some g → P g) → P (nearer h o)
nearer_of P h None x k = x
nearer_of P h (Some g) x k = elim (cases_Bool (ltb g.start h.start)) [
  | inl low ↦ subst (λ (c : Bool). P (cond c g h)) (sym low) (k g refl)
  | inr high ↦ subst (λ (c : Bool). P (cond c g h)) (sym high) x
]

next_of : (P : Held → Type 0) (b : ℕ) (hs : Holdings) (h : Held) → Each P hs → next_from b hs ≡ Some h → P h
next_of P b [] h k e = absurd cc
next_of P b (g ∷ gs) h k e = elim (cases_Bool (ltb g.start b)) [
  | inl low ↦ next_of P b gs h k.1 (sym (ap (λ (c : Bool). cond c (next_from b gs) (Some (nearer g (next_from b gs)))) low) ∙ e)
  | inr high ↦
      let same : nearer g (next_from b gs) ≡ h = same_Some (nearer g (next_from b gs)) h (sym (ap (λ (c : Bool). cond c (next_from b gs) (Some (nearer g (next_from b gs)))) high) ∙ e) in
      subst P same (nearer_of P g (next_from b gs) k.0 (λ x f. next_of P b gs x k.1 f))
]

pub next_piece_is : (size b : ℕ) (hs : Holdings) (h : Held) → IsBook size hs → Some h ≡ next_from b hs
    → (b ≤ h.start) × (0 < h.length) × (h.start + h.length ≤ size)
next_piece_is size b hs h book e =
    let piece = next_of (IsPiece size) b hs h (each_from (IsPiece size) hs book.pieces) (sym e) in
    (first_above b (rising hs) h (sym (e ∙ next_is_first b hs)), piece.not_empty, piece.within)
