-- Two blocks of a swap image, after a write of two.
use Rattle.std.proofs.Common.{◌≡◌, ◌⊎◌, inl, inr, ℕ, ◌+◌, ◌-◌, ◌*◌, ◌≤◌, List, ◌++◌, length, take, drop, sym, ap, ◌∙◌, subst, append_assoc, length-append, arith}
use Rattle.std.proofs.lemmas.List.{take_at, drop_at, drop-append-le, take-append-le, drop-take, take-take, drop-drop, length-take-le, length-drop}
use Rattle.vm_facts.specs.Swap.{blocks_at, put_blocks}

here : (b bs : List ℕ) (a n : ℕ) → a ≤ length b → length bs ≡ n → take n (drop a (take a b ++ bs ++ drop (a + n) b)) ≡ bs
here b bs a n la lb = rw append_assoc (rw (drop_at (take a b) (bs ++ drop (a + n) b) a (length-take-le a b la)) (take_at bs (drop (a + n) b) n lb))

before_k : (b r : List ℕ) (i n k : ℕ) → i + (n + k) ≤ length b → take n (drop i (take (i + (n + k)) b ++ r)) ≡ take n (drop i b)
before_k b r i n k la =
    let l : length (take (i + (n + k)) b) ≡ i + (n + k) = length-take-le (i + (n + k)) b la in
    rw (drop-append-le i (take (i + (n + k)) b) r (omega arith))
    (rw (take-append-le n (drop i (take (i + (n + k)) b)) r (omega (arith, length-drop i (take (i + (n + k)) b))))
    (rw (drop-take i (n + k) b) (take-take n (n + k) (drop i b) (omega arith))))

-- what lies before a place, once other bytes follow from there
pub before : (b r : List ℕ) (a i n : ℕ) → i + n ≤ a → a ≤ length b → take n (drop i (take a b ++ r)) ≡ take n (drop i b)
before b r a i n h la =
    let e : i + (n + (a - (i + n))) ≡ a = omega arith in
    subst (λ (x : ℕ). take n (drop i (take x b ++ r)) ≡ take n (drop i b)) e (before_k b r i n (a - (i + n)) (omega arith))

after_k : (b bs : List ℕ) (a n k : ℕ) → a + n ≤ length b → length bs ≡ n → drop ((a + n) + k) (take a b ++ bs ++ drop (a + n) b) ≡ drop ((a + n) + k) b
after_k b bs a n k la lb =
    let l : length (take a b ++ bs) ≡ a + n = omega (arith, length-append (take a b) bs, length-take-le a b (omega arith)) in
    sym (drop-drop k (a + n) (take a b ++ bs ++ drop (a + n) b)) ∙ ap (drop k) (drop_at (take a b ++ bs) (drop (a + n) b) (a + n) l) ∙ drop-drop k (a + n) b

after : (b bs : List ℕ) (a i n : ℕ) → a + n ≤ i → a + n ≤ length b → length bs ≡ n → take n (drop i (take a b ++ bs ++ drop (a + n) b)) ≡ take n (drop i b)
after b bs a i n h la lb =
    let e : (a + n) + (i - (a + n)) ≡ i = omega arith in
    ap (take n) (subst (λ (x : ℕ). drop x (take a b ++ bs ++ drop (a + n) b) ≡ drop x b) e (after_k b bs a n (i - (a + n)) la lb))

pub blocks_at-put_blocks_same : (image bytes : List ℕ) (x : ℕ) → 512 * x + 1024 ≤ length image → length bytes ≡ 1024
    → blocks_at (put_blocks image x bytes) x ≡ bytes
unfolding blocks_at put_blocks
blocks_at-put_blocks_same image bytes x l lb = here image bytes (512 * x) 1024 (omega arith) lb

pub blocks_at-put_blocks_other : (image bytes : List ℕ) (x y : ℕ) → 512 * x + 1024 ≤ length image → length bytes ≡ 1024
    → (x + 2 ≤ y) ⊎ (y + 2 ≤ x) → blocks_at (put_blocks image x bytes) y ≡ blocks_at image y
unfolding blocks_at put_blocks
blocks_at-put_blocks_other image bytes x y l lb n = elim n [
  | inl h ↦ after image bytes (512 * x) (512 * y) 1024 (omega arith) l lb
  | inr h ↦ rw append_assoc (before image (bytes ++ drop (512 * x + 1024) image) (512 * x) (512 * y) 1024 (omega arith) (omega arith))
]

pub length-put_blocks : (image bytes : List ℕ) (x : ℕ) → 512 * x + 1024 ≤ length image → length bytes ≡ 1024
    → length (put_blocks image x bytes) ≡ length image
unfolding put_blocks
length-put_blocks image bytes x l lb = omega (
  arith,
  length-append (take (512 * x) image ++ bytes) (drop (512 * x + 1024) image),
  length-append (take (512 * x) image) bytes,
  length-take-le (512 * x) image (omega arith),
  length-drop (512 * x + 1024) image,
)
