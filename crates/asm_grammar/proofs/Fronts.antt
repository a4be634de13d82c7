-- The bytes of a kind at the front of a text.
use Rattle.std.proofs.Common.{◌≡◌, ℕ, ◌+◌, ◌<◌, suc, Bool, true, false, List, [], ◌∷◌, length, get_or, take, drop, refl, sym, ◌∙◌, ap, subst, drop-cons, add-one}
use Rattle.std.specs.Prelude.{if◌then◌else◌}
use Rattle.asm_grammar.specs.Text.{front_of, behind}

-- what is left at an index
at_index : (xs : List ℕ) (i : ℕ) → i < length xs → drop i xs ≡ get_or xs i 0 ∷ drop (i + 1) xs
at_index xs i h = subst (λ (k : ℕ). drop i xs ≡ get_or xs i 0 ∷ drop k xs) (sym (add-one i)) (drop-cons xs i 0 h)

pub front_ends : (is : ℕ → Bool) (xs : List ℕ) (i : ℕ) → i < length xs → is (get_or xs i 0) ≡ false → length (front_of is (drop i xs)) ≡ 0
front_ends is xs i h e =
    ap (λ (l : List ℕ). length (front_of is l)) (at_index xs i h) ∙ ap (λ (t : Bool). length (if t then get_or xs i 0 ∷ front_of is (drop (i + 1) xs) else [])) e

pub front_goes_on : (is : ℕ → Bool) (xs : List ℕ) (i : ℕ) → i < length xs → is (get_or xs i 0) ≡ true
    → length (front_of is (drop i xs)) ≡ suc (length (front_of is (drop (i + 1) xs)))
front_goes_on is xs i h e =
    ap (λ (l : List ℕ). length (front_of is l)) (at_index xs i h) ∙ ap (λ (t : Bool). length (if t then get_or xs i 0 ∷ front_of is (drop (i + 1) xs) else [])) e

take_by : (is : ℕ → Bool) (t : Bool) (x : ℕ) (xs : List ℕ) → take (length (front_of is xs)) xs ≡ front_of is xs
    → take (length (if t then x ∷ front_of is xs else [])) (x ∷ xs) ≡ (if t then x ∷ front_of is xs else [])
take_by is true x xs h = ap (λ (l : List ℕ). x ∷ l) h
take_by is false x xs h = refl

pub take_front : (is : ℕ → Bool) (xs : List ℕ) → take (length (front_of is xs)) xs ≡ front_of is xs
take_front is [] = refl
take_front is (x ∷ xs) = take_by is (is x) x xs (take_front is xs)

drop_by : (is : ℕ → Bool) (t : Bool) (x : ℕ) (xs : List ℕ) → drop (length (front_of is xs)) xs ≡ behind is xs
    → drop (length (if t then x ∷ front_of is xs else [])) (x ∷ xs) ≡ (if t then behind is xs else x ∷ xs)
drop_by is true x xs h = h
drop_by is false x xs h = refl

pub drop_front : (is : ℕ → Bool) (xs : List ℕ) → drop (length (front_of is xs)) xs ≡ behind is xs
drop_front is [] = refl
drop_front is (x ∷ xs) = drop_by is (is x) x xs (drop_front is xs)
