-- Sums over a tree of counts, and what a walk up it leaves.
use Rattle.std.proofs.Common.{◌≡◌, ℕ, zero, suc, ◌+◌, ◌-◌, ◌*◌, ◌/◌, ◌%◌, ◌^◌, ◌<◌, ◌≤◌, Bool, true, false, eqb, List, [], ◌∷◌, length, get_or, set, take, drop, replicate, refl, sym, ap, ◌∙◌, subst, arith, inl, inr, ◌⊎◌}
use Rattle.std.specs.Prelude.{if◌then◌else◌}
use Rattle.std.proofs.lemmas.List.{length-set, length-drop, get_or-set_same, get_or-set_other, get_or-drop, drop-set-lt, drop-set-add, drop-replicate, take_all}
use Rattle.std.proofs.lemmas.Nat.{pow-add}
use Rattle.std.proofs.lemmas.Bool.{cases_eq, cases_lt, eq-eqb, ne_eqb}
use Rattle.stack_dist.specs.Tree.{total, AreSums, raised, IsPower, if_odd}

-- ---- sums of lists

pub total-take-le : (n : ℕ) (xs : List ℕ) → total (take n xs) ≤ total xs
unfolding total
total-take-le zero xs = omega arith
total-take-le (suc n) [] = omega arith
total-take-le (suc n) (x ∷ xs) = let h = total-take-le n xs in omega arith

pub total-set : (xs : List ℕ) (at v : ℕ) → at < length xs → total (set xs at v) + get_or xs at 0 ≡ total xs + v
unfolding total
total-set [] at v lt = absurd (omega arith)
total-set (x ∷ xs) zero v lt = omega arith
total-set (x ∷ xs) (suc at) v lt = let h = total-set xs at v (omega arith) in omega arith

get-le-total : (xs : List ℕ) (at : ℕ) → get_or xs at 0 ≤ total xs
unfolding total
get-le-total [] at = omega arith
get-le-total (x ∷ xs) zero = omega arith
get-le-total (x ∷ xs) (suc at) = let h = get-le-total xs at in omega arith

pub total-replicate : (n : ℕ) → total (replicate n 0) ≡ 0
unfolding total
total-replicate zero = refl
total-replicate (suc n) = let h = total-replicate n in omega arith

-- ---- the sum of n entries from a place on

pub between : List ℕ → ℕ → ℕ → ℕ
between sums from zero = 0
between sums from (suc n) = get_or sums from 0 + between sums (suc from) n

between-nil : (from n : ℕ) → between [] from n ≡ 0
unfolding between
between-nil from zero = refl
between-nil from (suc n) = let h = between-nil (suc from) n in omega arith

between-cons : (x : ℕ) (xs : List ℕ) (from n : ℕ) → between (x ∷ xs) (suc from) n ≡ between xs from n
unfolding between
between-cons x xs from zero = refl
between-cons x xs from (suc n) = ap (λ t. get_or xs from 0 + t) (between-cons x xs (suc from) n)

pub total-between : (sums : List ℕ) (from n : ℕ) → total (take n (drop from sums)) ≡ between sums from n
unfolding between total
total-between [] zero zero = refl
total-between [] zero (suc n) = sym (between-nil zero (suc n))
total-between [] (suc from) zero = refl
total-between [] (suc from) (suc n) = sym (between-nil (suc from) (suc n))
total-between (x ∷ xs) zero zero = refl
total-between (x ∷ xs) zero (suc n) =
    ap (λ t. x + t) (total-between xs zero n ∙ sym (between-cons x xs zero n))
total-between (x ∷ xs) (suc from) n = total-between xs from n ∙ sym (between-cons x xs from n)

between_last : (sums : List ℕ) (from n last : ℕ) → last ≡ from + n → between sums from (suc n) ≡ between sums from n + get_or sums last 0
unfolding between
between_last sums from zero last e =
    let same : from ≡ last = omega arith in
    subst (λ (k : ℕ). get_or sums from 0 + 0 ≡ 0 + get_or sums k 0) same (omega arith)
between_last sums from (suc n) last e = let h = between_last sums (suc from) n last (omega arith) in omega arith

-- a sum at one level of the tree is the sum of the pairs below
between_pairs : (size : ℕ) (sums : List ℕ) (n from below m : ℕ) → AreSums size sums → 0 < from → from + n ≤ size → below ≡ 2 * from → m ≡ 2 * n
    → between sums below m ≡ between sums from n
unfolding between
between_pairs size sums zero from below zero h some le e f = refl
between_pairs size sums zero from below (suc m) h some le e f = absurd (omega arith)
between_pairs size sums (suc n) from below zero h some le e f = absurd (omega arith)
between_pairs size sums (suc n) from below (suc zero) h some le e f = absurd (omega arith)
between_pairs size sums (suc n) from below (suc (suc m)) h some le e f =
    let here : get_or sums from 0 ≡ get_or sums (2 * from) 0 + get_or sums (2 * from + 1) 0 = h from some (omega arith) in
    let left : get_or sums below 0 ≡ get_or sums (2 * from) 0 = ap (λ (k : ℕ). get_or sums k 0) e in
    let same : suc below ≡ 2 * from + 1 = omega arith in
    let right : get_or sums (suc below) 0 ≡ get_or sums (2 * from + 1) 0 = ap (λ (k : ℕ). get_or sums k 0) same in
    let rest = between_pairs size sums n (suc from) (suc (suc below)) m h (omega arith) (omega arith) (omega arith) (omega arith) in
    omega arith

-- the sum of all counts is at the top
level_below : (size k : ℕ) (sums : List ℕ) → AreSums size sums → 0 < k → k < size → between sums k k ≡ between sums (suc k) (suc k)
unfolding between
level_below size zero sums h some lt = absurd (omega arith)
level_below size (suc j) sums h some lt =
    let here : get_or sums (suc j) 0 ≡ get_or sums (2 * suc j) 0 + get_or sums (2 * suc j + 1) 0 = h (suc j) some lt in
    let last = between_last sums (suc (suc j)) (suc j) (2 * suc j + 1) (omega arith) in
    let before = between_last sums (suc (suc j)) j (2 * suc j) (omega arith) in
    omega arith

every_level : (size j : ℕ) (sums : List ℕ) → AreSums size sums → suc j ≤ size → between sums 1 1 ≡ between sums (suc j) (suc j)
every_level size zero sums h le = refl
every_level size (suc j) sums h le = every_level size j sums h (omega arith) ∙ level_below size (suc j) sums h (omega arith) (omega arith)

pub top_is_total : (size : ℕ) (sums : List ℕ) → length sums ≡ size + size → AreSums size sums → 0 < size → get_or sums 1 0 ≡ total (drop size sums)
unfolding between
top_is_total zero sums room h some = absurd (omega arith)
top_is_total (suc j) sums room h some =
    let levels = every_level (suc j) j sums h (omega arith) in
    let all = total-between sums (suc j) (suc j) in
    let len = length-drop (suc j) sums in
    let same = ap total (take_all (suc j) (drop (suc j) sums) (omega arith)) in
    omega arith

-- a node has at most what the top has, where each node above it has at least what its two have
pub below_top : (fuel node : ℕ) (sums : List ℕ) → node ≤ fuel → 0 < node
    → ((k : ℕ) → 0 < k → k < node → (get_or sums (2 * k) 0 ≤ get_or sums k 0) × (get_or sums (2 * k + 1) 0 ≤ get_or sums k 0))
    → get_or sums node 0 ≤ get_or sums 1 0
below_top zero node sums le some h = absurd (omega arith)
below_top (suc fuel) node sums le some h = elim (cases_lt 1 node) [
  | inl low ↦
      let up = below_top fuel (node / 2) sums (omega arith) (omega arith) (λ k s lt. h k s (omega arith)) in
      let here = h (node / 2) (omega arith) (omega arith) in
      step up here.0 here.1 (half node)
  | inr top ↦ let same : node ≡ 1 = omega arith in ap_le same
]
  where
    half : (node : ℕ) → (node ≡ 2 * (node / 2)) ⊎ (node ≡ 2 * (node / 2) + 1)
    half node = elim (cases_eq (node % 2) 0) [
      | inl even ↦ inl (omega arith)
      | inr odd ↦ inr (omega arith)
    ]

    step : get_or sums (node / 2) 0 ≤ get_or sums 1 0 → get_or sums (2 * (node / 2)) 0 ≤ get_or sums (node / 2) 0
        → get_or sums (2 * (node / 2) + 1) 0 ≤ get_or sums (node / 2) 0 → (node ≡ 2 * (node / 2)) ⊎ (node ≡ 2 * (node / 2) + 1)
        → get_or sums node 0 ≤ get_or sums 1 0
    step up left right (inl even) = subst (λ (i : ℕ). get_or sums i 0 ≤ get_or sums 1 0) (sym even) (omega arith)
    step up left right (inr odd) = subst (λ (i : ℕ). get_or sums i 0 ≤ get_or sums 1 0) (sym odd) (omega arith)

    ap_le : node ≡ 1 → get_or sums node 0 ≤ get_or sums 1 0
    ap_le same = subst (λ (i : ℕ). get_or sums i 0 ≤ get_or sums 1 0) (sym same) (omega arith)

-- ---- the sum of the nodes from left up to right

pub choose : (b c : Bool) (x y : ℕ) → b ≡ c → (if b then x else y) ≡ (if c then x else y)
choose b c x y e = ap (λ (t : Bool). if t then x else y) e

odd_is : (n count : ℕ) → n % 2 ≡ 1 → if_odd n count ≡ count
odd_is n count odd = choose (eqb (n % 2) 1) true count 0 (eq-eqb (n % 2) 1 odd)

even_is : (n count : ℕ) → n % 2 ≡ 0 → if_odd n count ≡ 0
even_is n count even = choose (eqb (n % 2) 1) false count 0 (ne_eqb (n % 2) 1 (λ odd. omega arith))

parity : (n : ℕ) → (n % 2 ≡ 0) ⊎ (n % 2 ≡ 1)
parity n = elim (cases_eq (n % 2) 0) [
  | inl even ↦ inl even
  | inr odd ↦ inr (omega arith)
]

between_same : (sums : List ℕ) (from from' n n' : ℕ) → from ≡ from' → n ≡ n' → between sums from n ≡ between sums from' n'
between_same sums from from' n n' e f = cc

between_first : (sums : List ℕ) (from n m : ℕ) → n ≡ suc m → between sums from n ≡ get_or sums from 0 + between sums (suc from) m
unfolding between
between_first sums from zero m e = absurd (omega arith)
between_first sums from (suc n) m e = let same : n ≡ m = omega arith in ap (λ (k : ℕ). get_or sums from 0 + between sums (suc from) k) same

from_left : (sums : List ℕ) (left right : ℕ) → left < right
    → between sums left (right - left) ≡ if_odd left (get_or sums left 0) + between sums (2 * ((left + 1) / 2)) (right - 2 * ((left + 1) / 2))
from_left sums left right lt = elim (parity left) [
  | inl even ↦
      let same = between_same sums left (2 * ((left + 1) / 2)) (right - left) (right - 2 * ((left + 1) / 2)) (omega arith) (omega arith) in
      let none = even_is left (get_or sums left 0) even in
      omega arith
  | inr odd ↦
      let first = between_first sums left (right - left) (right - 2 * ((left + 1) / 2)) (omega arith) in
      let e : suc left ≡ 2 * ((left + 1) / 2) = omega arith in
      let same = ap (λ (k : ℕ). between sums k (right - 2 * ((left + 1) / 2))) e in
      let one = odd_is left (get_or sums left 0) odd in
      omega arith
]

to_right : (sums : List ℕ) (from right : ℕ) → from ≤ 2 * (right / 2)
    → between sums from (right - from) ≡ between sums from (2 * (right / 2) - from) + if_odd right (get_or sums (right - 1) 0)
to_right sums from right le = elim (parity right) [
  | inl even ↦
      let same = between_same sums from from (right - from) (2 * (right / 2) - from) refl (omega arith) in
      let none = even_is right (get_or sums (right - 1) 0) even in
      omega arith
  | inr odd ↦
      let same = between_same sums from from (right - from) (suc (2 * (right / 2) - from)) refl (omega arith) in
      let last = between_last sums from (2 * (right / 2) - from) (right - 1) (omega arith) in
      let one = odd_is right (get_or sums (right - 1) 0) odd in
      omega arith
]

pub level_up : (size left right : ℕ) (sums : List ℕ) → AreSums size sums → 0 < left → left < right → right ≤ size + size
    → between sums left (right - left)
    ≡ if_odd left (get_or sums left 0) + if_odd right (get_or sums (right - 1) 0) + between sums ((left + 1) / 2) (right / 2 - (left + 1) / 2)
level_up size left right sums h some lt le =
    let first = from_left sums left right lt in
    let last = to_right sums (2 * ((left + 1) / 2)) right (omega arith) in
    let pairs =
    between_pairs size sums (right / 2 - (left + 1) / 2) ((left + 1) / 2) (2 * ((left + 1) / 2)) (2 * (right / 2) - 2 * ((left + 1) / 2)) h
    (omega arith) (omega arith) refl (omega arith)
    in
    omega arith

-- ---- a walk up the tree

-- 1 at the node, and 0 at others
unfoldable pub at_one : ℕ → ℕ → ℕ
at_one node k = if eqb k node then 1 else 0

one_at : (node k : ℕ) → k ≡ node → at_one node k ≡ 1
unfolding at_one
one_at node k e = choose (eqb k node) true 1 0 (eq-eqb k node e)

none_at : (node k : ℕ) → (k ≡ node → ⊥) → at_one node k ≡ 0
unfolding at_one
none_at node k e = choose (eqb k node) false 1 0 (ne_eqb k node e)

-- the node above one
parent_of : (node k : ℕ) → 0 < k → at_one (node / 2) k ≡ at_one node (2 * k) + at_one node (2 * k + 1)
parent_of node k some = elim (cases_eq k (node / 2)) [
  | inl above ↦
      let here = one_at (node / 2) k above in
      elim (parity node) [
        | inl even ↦
            let left = one_at node (2 * k) (omega arith) in
            let right = none_at node (2 * k + 1) (λ e. omega arith) in
            omega arith
        | inr odd ↦
            let left = none_at node (2 * k) (λ e. omega arith) in
            let right = one_at node (2 * k + 1) (omega arith) in
            omega arith
      ]
  | inr other ↦
      let here = none_at (node / 2) k other in
      let left = none_at node (2 * k) (λ e. omega arith) in
      let right = none_at node (2 * k + 1) (λ e. omega arith) in
      omega arith
]

one_more : (sums : List ℕ) (node k : ℕ) → node < length sums → get_or (set sums node (get_or sums node 0 + 1)) k 0 ≡ get_or sums k 0 + at_one node k
one_more sums node k lt = elim (cases_eq k node) [
  | inl same ↦
      let one = one_at node k same in
      let here = get_or-set_same sums node (get_or sums node 0 + 1) 0 lt in
      let new = ap (λ (i : ℕ). get_or (set sums node (get_or sums node 0 + 1)) i 0) same in
      let old = ap (λ (i : ℕ). get_or sums i 0) same in
      omega arith
  | inr other ↦
      let none = none_at node k other in
      let there = get_or-set_other sums node k (get_or sums node 0 + 1) 0 other in
      omega arith
]

-- each inner node has its sum, but the one that is next lacks one
abbrev pub Lacks : ℕ → ℕ → List ℕ → Type 0
Lacks size node sums = (k : ℕ) → 0 < k → k < size → get_or sums k 0 + at_one node k ≡ get_or sums (2 * k) 0 + get_or sums (2 * k + 1) 0

pub lacks_none : (size node : ℕ) (sums : List ℕ) → size ≤ node → AreSums size sums → Lacks size node sums
lacks_none size node sums le h k some lt =
    let here : get_or sums k 0 ≡ get_or sums (2 * k) 0 + get_or sums (2 * k + 1) 0 = h k some lt in
    let none = none_at node k (λ e. omega arith) in
    omega arith

pub sums_lack_none : (size : ℕ) (sums : List ℕ) → Lacks size 0 sums → AreSums size sums
sums_lack_none size sums h k some lt = let here = h k some lt in let none = none_at 0 k (λ e. omega arith) in omega arith

pub lacks_above : (size node : ℕ) (sums : List ℕ) → node < length sums → Lacks size node sums
    → Lacks size (node / 2) (set sums node (get_or sums node 0 + 1))
lacks_above size node sums lt h k some below =
    let here = h k some below in
    let self = one_more sums node k lt in
    let left = one_more sums node (2 * k) lt in
    let right = one_more sums node (2 * k + 1) lt in
    let parent = parent_of node k some in
    omega arith

-- ---- raising a count

pub record Raising (size node : ℕ) (counts sums : List ℕ) : Type 0 where
  pub room : length sums ≡ size + size
  pub inner : node < size
  pub counts_are : drop size sums ≡ counts
  pub lacks : Lacks size node sums
  pub top : 0 < node → get_or sums 1 0 < 2 ^ 32 - 1

pub raised_fits : (size at : ℕ) (sums : List ℕ) → total (drop size sums) < 2 ^ 32 - 1 → get_or sums (size + at) 0 + 1 < 2 ^ 32
raised_fits size at sums fits =
    let here = get_or-drop size sums at 0 in let le = get-le-total (drop size sums) at in omega arith

pub raising_starts : (size at : ℕ) (sums : List ℕ) → length sums ≡ size + size → at < size → AreSums size sums → total (drop size sums) < 2 ^ 32 - 1
    → Raising size ((size + at) / 2) (raised (drop size sums) at) (set sums (size + at) (get_or sums (size + at) 0 + 1))
raising_starts size at sums room lt h fits = record {
  room = length-set sums (size + at) (get_or sums (size + at) 0 + 1) ∙ room;
  inner = omega arith;
  counts_are =
      drop-set-add size sums at (get_or sums (size + at) 0 + 1) ∙
      ap (λ (c : ℕ). set (drop size sums) at (c + 1)) (sym (get_or-drop size sums at 0));
  lacks = lacks_above size (size + at) sums (omega arith) (lacks_none size (size + at) sums (omega arith) h);
  top = λ inner.
      let same = get_or-set_other sums (size + at) 1 (get_or sums (size + at) 0 + 1) 0 (λ e. omega arith) in
      let whole = top_is_total size sums room h (omega arith) in
      omega arith;
}

pub raising_fits : (size node : ℕ) (counts sums : List ℕ) → Raising size node counts sums → 0 < node → get_or sums node 0 + 1 < 2 ^ 32
raising_fits size node counts sums r some =
    let top = r.top some in
    let le =
    below_top node node sums (omega arith) some
    (λ k s lt.
    let here = r.lacks k s (let i = r.inner in omega arith) in
    let none = none_at node k (λ e. omega arith) in
    (omega arith, omega arith))
    in
    omega arith

pub raising_more : (size node : ℕ) (counts sums : List ℕ) → Raising size node counts sums → 0 < node
    → Raising size (node / 2) counts (set sums node (get_or sums node 0 + 1))
raising_more size node counts sums r some =
    let i = r.inner in
    let l = r.room in
    record {
      room = length-set sums node (get_or sums node 0 + 1) ∙ r.room;
      inner = omega arith;
      counts_are = drop-set-lt size sums node (get_or sums node 0 + 1) i ∙ r.counts_are;
      lacks = lacks_above size node sums (omega arith) r.lacks;
      top = λ inner.
          let same = get_or-set_other sums node 1 (get_or sums node 0 + 1) 0 (λ e. omega arith) in
          let top = r.top some in
          omega arith;
    }

-- ---- the counts before the one that is raised

-- the sum so far, and what is left of the walk's level, make the whole; the nodes up to the next one are as they were
pub record Counting (node before whole : ℕ) (old sums : List ℕ) : Type 0 where
  pub first : ℕ
  pub power : IsPower first
  pub from : first ≤ node
  pub below : node < 2 * first
  pub rest : before + between old first (node - first) ≡ whole
  pub same : (k : ℕ) → k ≤ node → get_or sums k 0 ≡ get_or old k 0

pub counting_starts : (size at : ℕ) (sums : List ℕ) → IsPower size → at < size → Counting (size + at) 0 (total (take at (drop size sums))) sums sums
counting_starts size at sums power lt = record {
  first = size;
  power = power;
  from = omega arith;
  below = omega arith;
  rest =
      let all = total-between sums size at in
      let same = between_same sums size size (size + at - size) at refl (omega arith) in
      omega arith;
  same = λ k le. refl;
}

pub double_power : (n : ℕ) → IsPower n → IsPower (n * 2)
double_power n (d, e) = let two = pow-add 2 1 d in (suc d, omega arith)

half_power : (n : ℕ) → IsPower n → 1 < n → IsPower (n / 2) × (n % 2 ≡ 0)
half_power n (zero, e) some = absurd (omega arith)
half_power n (suc d, e) some = let two = pow-add 2 1 d in ((d, omega arith), omega arith)

-- one level up: the node to the left is counted where there is one
step_up : (size node first before whole x : ℕ) (old : List ℕ) → AreSums size old → 1 < node → node < size + size → IsPower first → first ≤ node
    → node < 2 * first
    → before + between old first (node - first) ≡ whole → x ≡ if_odd node (get_or old (node - 1) 0)
    → before + x + between old (first / 2) (node / 2 - first / 2) ≡ whole
unfolding between
step_up size node first before whole x old sums some inner power from below rest is =
    let half = half_power first power (omega arith) in
    let even = half.1 in
    let none = even_is first (get_or old first 0) even in
    let same = between_same old ((first + 1) / 2) (first / 2) (node / 2 - (first + 1) / 2) (node / 2 - first / 2) (omega arith) (omega arith) in
    elim (cases_lt first node) [
      | inl more ↦ let up = level_up size first node old sums (omega arith) more (omega arith) in omega arith
      | inr last ↦
          let zero_is = even_is node (get_or old (node - 1) 0) (omega arith) in
          let nothing = between_same old first first (node - first) 0 refl (omega arith) in
          let nothing_above = between_same old (first / 2) (first / 2) (node / 2 - first / 2) 0 refl (omega arith) in
          omega arith
    ]

pub counting_more : (size node before whole x v : ℕ) (old sums : List ℕ) → AreSums size old → 1 < node → node < size + size
    → Counting node before whole old sums → x ≡ if_odd node (get_or sums (node - 1) 0) → Counting (node / 2) (before + x) whole old (set sums node v)
counting_more size node before whole x v old sums h some inner c is =
    let from = c.from in
    let below = c.below in
    let half = half_power c.first c.power (omega arith) in
    let even = half.1 in
    record {
      first = c.first / 2;
      power = half.0;
      from = omega arith;
      below = omega arith;
      rest =
          step_up size node c.first before whole x old h some inner c.power c.from c.below c.rest
          (is ∙ ap (λ (w : ℕ). if_odd node w) (c.same (node - 1) (omega arith)));
      same = λ k le. get_or-set_other sums node k v 0 (λ e. omega arith) ∙ c.same k (omega arith);
    }

-- what is counted so far, with one node more, is part of the whole
pub counting_fits : (size node before whole x : ℕ) (old sums : List ℕ) → AreSums size old → 1 < node → node < size + size
    → Counting node before whole old sums → x ≡ if_odd node (get_or sums (node - 1) 0) → before + x ≤ whole
counting_fits size node before whole x old sums h some inner c is =
    let next = (counting_more size node before whole x 0 old sums h some inner c is).rest in omega arith

pub counting_ends : (node before whole : ℕ) (old sums : List ℕ) → node ≤ 1 → Counting node before whole old sums → before ≡ whole
unfolding between
counting_ends node before whole old sums le c =
    let from = c.from in
    let below = c.below in
    let rest = c.rest in
    let nothing = between_same old c.first c.first (node - c.first) 0 refl (omega arith) in
    omega arith

-- ---- the tree as a list of counts

zeros : ℕ → List ℕ
zeros n = replicate n 0

get_or_zeros : (n k : ℕ) → get_or (zeros n) k 0 ≡ 0
unfolding zeros
get_or_zeros zero k = refl
get_or_zeros (suc n) zero = refl
get_or_zeros (suc n) (suc k) = get_or_zeros n k

pub zeros_are_sums : (size n : ℕ) → AreSums size (replicate n 0)
unfolding zeros
zeros_are_sums size n k some lt =
    let here = get_or_zeros n k in let left = get_or_zeros n (2 * k) in let right = get_or_zeros n (2 * k + 1) in omega arith

drop_zeros : (size : ℕ) → drop size (zeros (size + size)) ≡ zeros size
unfolding zeros
drop_zeros size = let e : size + size - size ≡ size = omega arith in drop-replicate size (size + size) 0 ∙ ap zeros e

pub zero_counts : (size : ℕ) (sums : List ℕ) → sums ≡ replicate (size + size) 0 → drop size sums ≡ replicate size 0
unfolding zeros
zero_counts size sums e = ap (λ (xs : List ℕ). drop size xs) e ∙ drop_zeros size

pub total_raised : (counts : List ℕ) (at : ℕ) → at < length counts → total (raised counts at) ≡ total counts + 1
total_raised counts at lt = let h = total-set counts at (get_or counts at 0 + 1) lt in omega arith
