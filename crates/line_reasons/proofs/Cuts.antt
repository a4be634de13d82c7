-- A line and its line feed, a text and its words.
use Rattle.std.proofs.Common.{◌≡◌, ◌≢◌, ◌∙◌, ℕ, zero, suc, ◌+◌, ◌-◌, ◌<◌, ◌≤◌, Bool, true, false, ◌&&◌, ◌||◌, not, cond, List, [], ◌∷◌, ◌++◌, length, get_or, take, drop, refl, sym, ap, Option, Some, None, arith, length-append, add-one}
use Rattle.std.specs.Prelude.{◌==◌, nat_le, nat_lt, if◌then◌else◌}
use Rattle.std.specs.List.{list_any, position_or_len}
use Rattle.std.specs.Option.{option_map}
use Rattle.std.proofs.lemmas.Bool.{and_parts, and_right}
use Rattle.std.proofs.lemmas.Bool.Decides.{nat_tests}
use Rattle.std.proofs.lemmas.List.{take_all, take_more, take-append-le, get_or-append_right}
use Rattle.std.proofs.lemmas.List.Sums.{prefix_len_stops, split_at_first}
use Rattle.run_text.specs.Pieces.{HasNo}
use Rattle.run_text.proofs.LineEnds.{is_other}
use Rattle.line_reasons.specs.Lines.{ends_in, text_in, word_by, word_in, rest_in}

pub is_byte : (b c : ℕ) → (b == c) ≡ true → b ≡ c
is_byte b c e = grind (arith, nat_tests)

same_byte : (b c : ℕ) → b ≡ c → (b == c) ≡ true
same_byte b c e = grind (arith, nat_tests)

some_bytes : (n : ℕ) → 1 ≤ n → nat_le 1 n ≡ true
some_bytes n h = grind (arith, nat_tests)

not_yes : (t : Bool) → not t ≡ false → t ≡ true
not_yes true e = refl
not_yes false e = absurd cc

-- The last byte.

front_of : (xs : List ℕ) (c : ℕ) → take (length (xs ++ c ∷ []) - 1) (xs ++ c ∷ []) ≡ xs
front_of xs c =
    let n : length (xs ++ c ∷ []) - 1 ≡ length xs = omega (arith, length-append xs (c ∷ [])) in
    ap (λ (k : ℕ). take k (xs ++ c ∷ [])) n ∙ take-append-le (length xs) xs (c ∷ []) (omega arith) ∙ take_all (length xs) xs (omega arith)

last_of : (xs : List ℕ) (c : ℕ) → get_or (xs ++ c ∷ []) (length (xs ++ c ∷ []) - 1) 0 ≡ c
last_of xs c =
    let n : length (xs ++ c ∷ []) - 1 ≡ length xs = omega (arith, length-append xs (c ∷ [])) in
    let none : length xs - length xs ≡ 0 = omega arith in
    ap (λ (k : ℕ). get_or (xs ++ c ∷ []) k 0) n
    ∙ get_or-append_right xs (c ∷ []) (length xs) (length xs) 0 refl (omega arith)
    ∙ ap (λ (k : ℕ). get_or (c ∷ []) k 0) none

pub ends_so : (xs : List ℕ) (c : ℕ) → ends_in c (xs ++ c ∷ []) ≡ true
unfolding ends_in
ends_so xs c =
    ap (λ (t : Bool). t && (get_or (xs ++ c ∷ []) (length (xs ++ c ∷ []) - 1) 0 == c)) (some_bytes (length (xs ++ c ∷ [])) (omega (arith, length-append xs (c ∷ []))))
    ∙ same_byte _ c (last_of xs c)

text_if : (line : List ℕ) (t : Bool) → ends_in 10 line ≡ t → text_in line ≡ (if t then take (length line - 1) line else line)
unfolding text_in
text_if line t e = ap (λ (t : Bool). if t then take (length line - 1) line else line) e

pub text_of : (xs : List ℕ) → text_in (xs ++ 10 ∷ []) ≡ xs
text_of xs = text_if (xs ++ 10 ∷ []) true (ends_so xs 10) ∙ front_of xs 10

-- a line that ends with a line feed
pub line_of : (line : List ℕ) → ends_in 10 line ≡ true → line ≡ text_in line ++ 10 ∷ []
unfolding ends_in
line_of line e =
    let parts = and_parts (nat_le 1 (length line)) (get_or line (length line - 1) 0 == 10) e in
    let last : get_or line (length line - 1) 0 ≡ 10 = is_byte _ 10 parts.1 in
    let some : 1 ≤ length line = grind (arith, nat_tests, parts.0) in
    let n : length line - 1 + 1 ≡ length line = omega arith in
    sym (take_all (length line) line (omega arith))
    ∙ ap (λ (k : ℕ). take k line) (sym n)
    ∙ take_more line (length line - 1) 0 (omega arith)
    ∙ ap (λ (c : ℕ). take (length line - 1) line ++ c ∷ []) last
    ∙ ap (λ (xs : List ℕ). xs ++ 10 ∷ []) (sym (text_if line true e))

-- a byte that doesn't stand in a text isn't its last
absent_at : (c : ℕ) (xs : List ℕ) (i : ℕ) → i < length xs → HasNo c xs → get_or xs i 0 ≢ c
absent_at c [] i h none e = omega arith
absent_at c (x ∷ xs) zero h none e = none.0 e
absent_at c (x ∷ xs) (suc i) h none e = absent_at c xs i (omega arith) none.1 e

pub ends_not : (c : ℕ) (x : ℕ) (xs : List ℕ) → HasNo c (x ∷ xs) → ends_in c (x ∷ xs) ≡ false
unfolding ends_in
ends_not c x xs none = and_right _ _ (is_other _ c (absent_at c (x ∷ xs) (length (x ∷ xs) - 1) (omega arith) none))

pub any_not : (c : ℕ) (xs : List ℕ) → HasNo c xs → list_any (λ (b : ℕ). b == c) xs ≡ false
any_not c [] none = refl
any_not c (x ∷ xs) none = any_step (x == c) _ (is_other x c none.0) (any_not c xs none.1)
  where
    any_step : (s t : Bool) → s ≡ false → t ≡ false → (s || t) ≡ false
    any_step true t a b = absurd cc
    any_step false t a b = b

-- The first blank.

abbrev blank : List ℕ → ℕ
blank text = position_or_len (λ (b : ℕ). b == 32) text

cut_by : (text rest : List ℕ) (t : Bool) → nat_lt (blank text) (length text) ≡ t
    → option_map (λ (place : ℕ). drop (place + 1) text) (cond t (Some (blank text)) None) ≡ Some rest
    → text ≡ word_by (cond t (Some (blank text)) None) text ++ 32 ∷ rest
cut_by text rest true within e =
    let small : blank text < length text = grind (arith, nat_tests, within) in
    let at : get_or text (blank text) 0 ≡ 32 = is_byte _ 32 (not_yes _ (prefix_len_stops (λ (b : ℕ). not (b == 32)) text 0 small)) in
    let after : drop (blank text + 1) text ≡ rest = cc in
    split_at_first (λ (b : ℕ). b == 32) text 0 small
    ∙ ap (λ (c : ℕ). take (blank text) text ++ c ∷ drop (blank text + 1) text) at
    ∙ ap (λ (ys : List ℕ). take (blank text) text ++ 32 ∷ ys) after
cut_by text rest false within e = absurd cc

-- a text with a blank is its first word, the blank and the rest
pub text_cut : (text rest : List ℕ) → rest_in text ≡ Some rest → text ≡ word_in text ++ 32 ∷ rest
unfolding word_in rest_in
text_cut text rest e = cut_by text rest (nat_lt (blank text) (length text)) refl e

whole_by : (text : List ℕ) (t : Bool) → option_map (λ (place : ℕ). drop (place + 1) text) (cond t (Some (blank text)) None) ≡ None
    → text ≡ word_by (cond t (Some (blank text)) None) text
whole_by text true e = absurd cc
whole_by text false e = refl

-- a text without one is its first word
pub text_whole : (text : List ℕ) → rest_in text ≡ None → text ≡ word_in text
unfolding word_in rest_in
text_whole text e = whole_by text (nat_lt (blank text) (length text)) e

-- a word without a blank, before one or at the end
blank_after : (w r : List ℕ) → HasNo 32 w → blank (w ++ 32 ∷ r) ≡ length w
blank_after [] r none = refl
blank_after (b ∷ bs) r none =
    ap (λ (t : Bool). cond (not t) (1 + blank (bs ++ 32 ∷ r)) 0) (is_other b 32 none.0) ∙ (let more : blank (bs ++ 32 ∷ r) ≡ length bs = blank_after bs r none.1 in omega arith)

blank_none : (w : List ℕ) → HasNo 32 w → blank w ≡ length w
blank_none [] none = refl
blank_none (b ∷ bs) none =
    ap (λ (t : Bool). cond (not t) (1 + blank bs) 0) (is_other b 32 none.0) ∙ (let more : blank bs ≡ length bs = blank_none bs none.1 in omega arith)

rest_of : (w : List ℕ) (c : ℕ) (r : List ℕ) → drop (suc (length w)) (w ++ c ∷ r) ≡ r
rest_of [] c r = refl
rest_of (b ∷ bs) c r = rest_of bs c r

place_is : (t : Bool) (m n : ℕ) → t ≡ true → m ≡ n → cond t (Some m) None ≡ Some n
place_is true m n a b = ap (λ (k : ℕ). Some k) b
place_is false m n a b = absurd cc

place_none : (t : Bool) (m : ℕ) → t ≡ false → cond t (Some m) None ≡ None
place_none true m a = absurd cc
place_none false m a = refl

below : (m n : ℕ) → m < n → nat_lt m n ≡ true
below m n h = grind (arith, nat_tests)

not_below : (m n : ℕ) → m ≡ n → nat_lt m n ≡ false
not_below m n h = grind (arith, nat_tests)

place_after : (w r : List ℕ) → HasNo 32 w → cond (nat_lt (blank (w ++ 32 ∷ r)) (length (w ++ 32 ∷ r))) (Some (blank (w ++ 32 ∷ r))) None ≡ Some (length w)
place_after w r none =
    let at = blank_after w r none in
    place_is _ _ (length w) (below _ _ (omega (arith, at, length-append w (32 ∷ r)))) at

pub word_before : (w r : List ℕ) → HasNo 32 w → word_in (w ++ 32 ∷ r) ≡ w
unfolding word_in
word_before w r none =
    ap (λ (o : Option ℕ). word_by o (w ++ 32 ∷ r)) (place_after w r none) ∙ take-append-le (length w) w (32 ∷ r) (omega arith) ∙ take_all (length w) w (omega arith)

pub rest_after : (w r : List ℕ) → HasNo 32 w → rest_in (w ++ 32 ∷ r) ≡ Some r
unfolding rest_in
rest_after w r none =
    ap (λ (o : Option ℕ). option_map (λ (place : ℕ). drop (place + 1) (w ++ 32 ∷ r)) o) (place_after w r none)
    ∙ ap (λ (k : ℕ). Some (drop k (w ++ 32 ∷ r))) (add-one (length w))
    ∙ ap (λ (xs : List ℕ). Some xs) (rest_of w 32 r)

pub word_alone : (w : List ℕ) → HasNo 32 w → word_in w ≡ w
unfolding word_in
word_alone w none = ap (λ (o : Option ℕ). word_by o w) (place_none _ _ (not_below _ _ (blank_none w none)))

pub rest_none : (w : List ℕ) → HasNo 32 w → rest_in w ≡ None
unfolding rest_in
rest_none w none = ap (λ (o : Option ℕ). option_map (λ (place : ℕ). drop (place + 1) w) o) (place_none _ _ (not_below _ _ (blank_none w none)))
