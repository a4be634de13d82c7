-- The bytes of a kind at the front of a text, and what stands after them.
use Rattle.std.proofs.Common.{◌≡◌, ℕ, Bool, true, false, List, [], ◌∷◌, ◌++◌, Some, None, refl, ap, arith}
use Rattle.std.specs.Prelude.{◌==◌, if◌then◌else◌, ⊤}
use Rattle.std.specs.List.{list_all}
use Rattle.std.proofs.lemmas.Bool.Decides.{nat_tests}
use Rattle.asm_grammar.specs.Text.{behind_byte, front_of, behind}
use Rattle.asm_grammar.proofs.Spelled.{both}

-- the text begins with one that says x, and the rest stands after it
pub record Begins {A : Type 0} (Says : List ℕ → A → Type 0) (text : List ℕ) (x : A) (rest : List ℕ) : Type 0 where
  pub front : List ℕ
  pub split : text ≡ front ++ rest
  pub says : Says front x

-- no byte of a kind comes next
abbrev pub Stops : (ℕ → Bool) → List ℕ → Type 0
Stops is [] = ⊤
Stops is (byte ∷ bytes) = is byte ≡ false

stops : (is : ℕ → Bool) (rest : List ℕ) → Stops is rest → (front_of is rest ≡ []) × (behind is rest ≡ rest)
stops is [] h = (refl, refl)
stops is (byte ∷ bytes) h = (rw h refl, rw h refl)

pub cut : (is : ℕ → Bool) (word rest : List ℕ) → list_all is word ≡ true → Stops is rest
    → (front_of is (word ++ rest) ≡ word) × (behind is (word ++ rest) ≡ rest)
cut is [] rest all ends = stops is rest ends
cut is (x ∷ word) rest all ends =
    let tests = both (is x) (list_all is word) all in
    let more = cut is word rest tests.1 ends in
    (rw tests.0 (ap (λ (l : List ℕ). x ∷ l) more.0), rw tests.0 more.1)

all_by : (is : ℕ → Bool) (t : Bool) (x : ℕ) (xs : List ℕ) → is x ≡ t → list_all is (front_of is xs) ≡ true
    → list_all is (if t then x ∷ front_of is xs else []) ≡ true
all_by is true x xs e h = rw e h
all_by is false x xs e h = refl

pub front_all : (is : ℕ → Bool) (text : List ℕ) → list_all is (front_of is text) ≡ true
front_all is [] = refl
front_all is (x ∷ xs) = all_by is (is x) x xs refl (front_all is xs)

split_by : (is : ℕ → Bool) (t : Bool) (x : ℕ) (xs : List ℕ) → xs ≡ front_of is xs ++ behind is xs
    → x ∷ xs ≡ (if t then x ∷ front_of is xs else []) ++ (if t then behind is xs else x ∷ xs)
split_by is true x xs h = ap (λ (l : List ℕ). x ∷ l) h
split_by is false x xs h = refl

pub front_split : (is : ℕ → Bool) (text : List ℕ) → text ≡ front_of is text ++ behind is text
front_split is [] = refl
front_split is (x ∷ xs) = split_by is (is x) x xs (front_split is xs)

-- ---- one byte

after_by : (byte first : ℕ) (rest : List ℕ) (r : List ℕ) (t : Bool) → (t ≡ true → first ≡ byte) → (if t then Some rest else None) ≡ Some r
    → first ∷ rest ≡ byte ∷ r
after_by byte first rest r true same e = (let s : first ≡ byte = same refl in cc)
after_by byte first rest r false same e = absurd (cc)

pub eq_of : (a b : ℕ) → (a == b) ≡ true → a ≡ b
eq_of a b e = grind (arith, nat_tests)

-- the text begins with the byte that was looked for
pub after_splits : (byte : ℕ) (text r : List ℕ) → behind_byte byte text ≡ Some r → text ≡ byte ∷ r
unfolding behind_byte
after_splits byte [] r e = absurd (cc)
after_splits byte (first ∷ rest) r e = after_by byte first rest r (first == byte) (eq_of first byte) e

itself : (n : ℕ) → (n == n) ≡ true
itself n = grind (arith, nat_tests)

pub after_itself : (byte : ℕ) (rest : List ℕ) → behind_byte byte (byte ∷ rest) ≡ Some rest
unfolding behind_byte
after_itself byte rest = rw (itself byte) refl
