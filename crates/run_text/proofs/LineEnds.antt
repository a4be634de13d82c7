-- Lines and words, cut at a byte.
use Rattle.std.proofs.Common.{◌≡◌, ◌≢◌, ℕ, ◌+◌, ◌<◌, ◌≤◌, suc, Bool, true, false, List, [], ◌∷◌, ◌++◌, length, get_or, take, drop, refl, sym, ◌∙◌, ap, subst, arith, drop-cons, add-one}
use Rattle.std.specs.Prelude.{◌==◌, if◌then◌else◌}
use Rattle.std.proofs.lemmas.List.{take_more, take-append-drop}
use Rattle.std.proofs.lemmas.Bool.Decides.{nat_tests}
use Rattle.run_text.specs.Lines.{begin_line, lines_in}
use Rattle.run_text.specs.Pieces.{line_len, HasNo}

is_byte : (b c : ℕ) → b ≡ c → (b == c) ≡ true
is_byte b c e = grind (arith, nat_tests)

pub is_other : (b c : ℕ) → b ≢ c → (b == c) ≡ false
is_other b c n = grind (arith, nat_tests)

-- what is left at an index
at_index : (xs : List ℕ) (i : ℕ) → i < length xs → drop i xs ≡ get_or xs i 0 ∷ drop (i + 1) xs
at_index xs i h = subst (λ (k : ℕ). drop i xs ≡ get_or xs i 0 ∷ drop k xs) (sym (add-one i)) (drop-cons xs i 0 h)

-- the line ends here
pub line_ends : (xs : List ℕ) (i : ℕ) → i < length xs → get_or xs i 0 ≡ 10 → line_len (drop i xs) ≡ 1
line_ends xs i h e =
    ap line_len (at_index xs i h) ∙ ap (λ (t : Bool). if t then 1 else suc (line_len (drop (i + 1) xs))) (is_byte (get_or xs i 0) 10 e)

-- the line goes on
pub line_goes_on : (xs : List ℕ) (i : ℕ) → i < length xs → get_or xs i 0 ≢ 10 → line_len (drop i xs) ≡ suc (line_len (drop (i + 1) xs))
line_goes_on xs i h n =
    ap line_len (at_index xs i h) ∙ ap (λ (t : Bool). if t then 1 else suc (line_len (drop (i + 1) xs))) (is_other (get_or xs i 0) 10 n)

-- the first line and the others
begin_step : (b : ℕ) (bs : List ℕ) (t : Bool) → (b == 10) ≡ t
    → (0 < length bs → lines_in bs ≡ take (line_len bs) bs ∷ lines_in (drop (line_len bs) bs))
    → begin_line t b (lines_in bs) ≡ take (if t then 1 else suc (line_len bs)) (b ∷ bs) ∷ lines_in (drop (if t then 1 else suc (line_len bs)) (b ∷ bs))
unfolding lines_in
begin_step b bs true e more = refl
begin_step b [] false e more = refl
begin_step b (c ∷ cs) false e more = ap (λ (ls : List (List ℕ)). begin_line false b ls) (more (omega arith))

pub lines_step : (xs : List ℕ) → 0 < length xs → lines_in xs ≡ take (line_len xs) xs ∷ lines_in (drop (line_len xs) xs)
unfolding lines_in
lines_step [] h = absurd (omega arith)
lines_step (b ∷ bs) h = begin_step b bs (b == 10) refl (lines_step bs)

-- a line isn't longer than the text, and not empty
pub line_len-le : (xs : List ℕ) → line_len xs ≤ length xs
line_len-le [] = omega arith
line_len-le (b ∷ bs) = line_len-le_by b bs (b == 10) (line_len-le bs)
  where
    line_len-le_by : (b : ℕ) (bs : List ℕ) (t : Bool) → line_len bs ≤ length bs → (if t then 1 else suc (line_len bs)) ≤ length (b ∷ bs)
    line_len-le_by b bs true h = omega arith
    line_len-le_by b bs false h = omega (arith, h)

pub line_len_some : (xs : List ℕ) → 0 < length xs → 0 < line_len xs
line_len_some [] h = absurd (omega arith)
line_len_some (b ∷ bs) h = some_by (b == 10) (line_len bs)
  where
    some_by : (t : Bool) (n : ℕ) → 0 < (if t then 1 else suc n)
    some_by true n = omega arith
    some_by false n = omega arith

-- so far a byte didn't stand there
no_push : (c : ℕ) (xs : List ℕ) (b : ℕ) → HasNo c xs → b ≢ c → HasNo c (xs ++ b ∷ [])
no_push c [] b h n = (n, tt)
no_push c (x ∷ xs) b h n = (h.0, no_push c xs b h.1 n)

pub no_more : (c : ℕ) (xs : List ℕ) (i : ℕ) → i < length xs → HasNo c (take i xs) → get_or xs i 0 ≢ c → HasNo c (take (i + 1) xs)
no_more c xs i h so_far n = subst (λ (ys : List ℕ). HasNo c ys) (sym (take_more xs i 0 h)) (no_push c (take i xs) (get_or xs i 0) so_far n)

-- a list is what stands before an index, what stands at it, and what stands after it
pub cut_at : (xs : List ℕ) (i c : ℕ) → i < length xs → get_or xs i 0 ≡ c → xs ≡ take i xs ++ c ∷ drop (i + 1) xs
cut_at xs i c h e =
    sym (take-append-drop i xs) ∙ ap (λ (ys : List ℕ). take i xs ++ ys) (at_index xs i h) ∙ ap (λ (b : ℕ). take i xs ++ b ∷ drop (i + 1) xs) e

-- there is one way to cut at the first of a byte
pub cut_once : (c : ℕ) (a b x y : List ℕ) → HasNo c a → HasNo c b → a ++ c ∷ x ≡ b ++ c ∷ y → (a ≡ b) × (x ≡ y)
cut_once c [] [] x y h k e = (refl, cc)
cut_once c [] (b ∷ bs) x y h k e = absurd (k.0 (cc))
cut_once c (a ∷ front) [] x y h k e = absurd (h.0 (cc))
cut_once c (a ∷ front) (b ∷ bs) x y h k e =
    let more : (front ≡ bs) × (x ≡ y) = cut_once c front bs x y h.1 k.1 (cc) in
    (cc, more.1)

pub no_cut : (c : ℕ) (xs a x : List ℕ) → HasNo c xs → xs ≡ a ++ c ∷ x → ⊥
no_cut c [] [] x h e = cc
no_cut c [] (a ∷ front) x h e = cc
no_cut c (b ∷ bs) [] x h e = h.0 (cc)
no_cut c (b ∷ bs) (a ∷ front) x h e = no_cut c bs front x h.1 (cc)
