-- Words, numbers and pairs of hexadecimal digits can be read in one way only.
use Rattle.std.proofs.Common.{◌≡◌, ℕ, suc, zero, ◌/◌, ◌%◌, ◌^◌, ◌<◌, List, [], ◌∷◌, ◌++◌, length, get_or, refl, sym, ◌∙◌, ap, subst, arith, codes, decimal, lit<}
use Rattle.std.specs.Str.Parse.{IsNumeral, AllDigits, digits_value}
use Rattle.std.proofs.lemmas.Str.Parse.{IsNumeralModel, numerals_by_value, tells_digits}
use Rattle.std.proofs.lemmas.Fmt.{decimal_is_IsNumeral, decimal_injective, decimal-digits_value, first_decimal, decimal_digit}
use Rattle.std.proofs.lemmas.List.{append_cancel_right}
use Rattle.std.specs.Prelude.{Some}
use Rattle.std.proofs.lemmas.Option.{same_Some}
use Rattle.vm_facts.specs.declared.entry.Entry.TheVariants.{Out}
use Rattle.std.proofs.lemmas.Bool.Decides.{nat_tests}
use Rattle.vm_facts.specs.declared.entry.Entry.{Entry}
use Rattle.run_text.specs.Text.{part, parts, hex_digit, hex_pair, hex_text}
use Rattle.run_text.specs.Pieces.{HasNo, AtSpace}
use Rattle.run_text.specs.Transcript.{AllBelow, IsWithin, IsEntryLine}
use Rattle.run_text.specs.EntryParts.{Body, Counted, Paged, Written, letter_of, body_of, body_text, entry_text, entry_from, kind_of, kind_for}
use Rattle.run_text.proofs.Events.{digits_no}
use Rattle.run_text.proofs.Parts.{line_is, entry_back, kind_is}

-- digits and their value
own : IsNumeralModel (AllDigits 10) (digits_value 10)
own = numerals_by_value (AllDigits 10) tells_digits

-- digits with no zero in front are the number that they write
pub is_decimal : (ds : List ℕ) (n : ℕ) → IsNumeral 10 ds → digits_value 10 ds ≡ n → n < 2 ^ 32 → (get_or ds 0 0 ≡ 48 → length ds ≡ 1) → ds ≡ decimal n
is_decimal ds n h value small front =
    let fits : digits_value 10 ds < 2 ^ 64 = omega (arith, value) in
    sym (decimal-digits_value own ds h.1 h.0 front fits) ∙ ap decimal value

-- a number's digits
pub decimal_value : (n : ℕ) → n < 2 ^ 32 → IsNumeral 10 (decimal n) × (digits_value 10 (decimal n) ≡ n)
decimal_value n h = decimal_is_IsNumeral n (omega arith)

-- a number has no zero in front
pub no_zero_front : (ds : List ℕ) (n : ℕ) → n < 2 ^ 32 → ds ≡ decimal n → get_or ds 0 0 ≡ 48 → length ds ≡ 1
no_zero_front ds zero h e front = ap length e ∙ ap length (decimal_digit 0 (lit< tt))
no_zero_front ds (suc n) h e front =
    let above : 48 < get_or (decimal (suc n)) 0 0 = first_decimal (suc n) (omega arith) (omega arith) in
    let same : get_or ds 0 0 ≡ get_or (decimal (suc n)) 0 0 = ap (λ (xs : List ℕ). get_or xs 0 0) e in
    absurd (omega arith)

pub decimal_no_space : (n : ℕ) → n < 2 ^ 32 → HasNo 32 (decimal n)
decimal_no_space n h = digits_no 32 (decimal n) (lit< tt) (decimal_value n h).0.1

-- a word and what stands after it
pub cut_word : (a b x y : List ℕ) → HasNo 32 a → HasNo 32 b → AtSpace x → AtSpace y → a ++ x ≡ b ++ y → (a ≡ b) × (x ≡ y)
cut_word [] [] x y h k s t e = (refl, e)
cut_word [] (b ∷ bs) [] y h k s t e = cc
cut_word [] (b ∷ bs) (c ∷ cs) y h k s t e = let same : c ≡ b = cc in absurd (k.0 (sym same ∙ s))
cut_word (a ∷ front) [] x [] h k s t e = cc
cut_word (a ∷ front) [] x (c ∷ cs) h k s t e = let same : a ≡ c = cc in absurd (h.0 (same ∙ t))
cut_word (a ∷ front) (b ∷ bs) x y h k s t e =
    let tails : front ++ x ≡ bs ++ y = cc in
    let more : (front ≡ bs) × (x ≡ y) = cut_word front bs x y h.1 k.1 s t tails in
    let heads : a ≡ b = cc in
    (cons_both a b front bs heads more.0, more.1)
  where
    cons_both : (a b : ℕ) (xs ys : List ℕ) → a ≡ b → xs ≡ ys → a ∷ xs ≡ b ∷ ys
    cons_both a b xs ys p q = cc

pub parts_at_space : (ns : List ℕ) → AtSpace (parts ns)
parts_at_space [] = tt
parts_at_space (n ∷ ns) = refl

-- a number after a space, and what stands after it
pub cut_part : (m n : ℕ) (x y : List ℕ) → m < 2 ^ 32 → n < 2 ^ 32 → AtSpace x → AtSpace y → part m ++ x ≡ part n ++ y → (m ≡ n) × (x ≡ y)
cut_part m n x y h k s t e =
    let tails : decimal m ++ x ≡ decimal n ++ y = cc in
    let more : (decimal m ≡ decimal n) × (x ≡ y) = cut_word (decimal m) (decimal n) x y (decimal_no_space m h) (decimal_no_space n k) s t tails in
    (decimal_injective m n (omega arith) (omega arith) more.0, more.1)

pub parts_once : (ms ns : List ℕ) → AllBelow 4294967296 ms → AllBelow 4294967296 ns → parts ms ≡ parts ns → ms ≡ ns
parts_once [] [] h k e = refl
parts_once [] (n ∷ ns) h k e = cc
parts_once (m ∷ ms) [] h k e = cc
parts_once (m ∷ ms) (n ∷ ns) h k e =
    let cut : (m ≡ n) × (parts ms ≡ parts ns) = cut_part m n (parts ms) (parts ns) h.0 k.0 (parts_at_space ms) (parts_at_space ns) e in
    let more : ms ≡ ns = parts_once ms ns h.1 k.1 cut.1 in
    let first : m ≡ n = cut.0 in
    ap (λ (z : ℕ). z ∷ ms) first ∙ ap (λ (zs : List ℕ). n ∷ zs) more

-- hexadecimal digits and pairs
pub hex_digit_once : (a b : ℕ) → a < 16 → b < 16 → hex_digit a ≡ hex_digit b → a ≡ b
hex_digit_once a b h k e = grind (arith, nat_tests)

pub hex_pair_once : (a b : ℕ) (x y : List ℕ) → a < 256 → b < 256 → hex_pair a ++ x ≡ hex_pair b ++ y → (a ≡ b) × (x ≡ y)
hex_pair_once a b x y h k e =
    let high : hex_digit (a / 16) ≡ hex_digit (b / 16) = cc in
    let low : hex_digit (a % 16) ≡ hex_digit (b % 16) = cc in
    let tails : x ≡ y = cc in
    let highs : a / 16 ≡ b / 16 = hex_digit_once (a / 16) (b / 16) (omega arith) (omega arith) high in
    let lows : a % 16 ≡ b % 16 = hex_digit_once (a % 16) (b % 16) (omega arith) (omega arith) low in
    (omega arith, tails)

pub hex_once : (xs ys : List ℕ) → AllBelow 256 xs → AllBelow 256 ys → hex_text xs ≡ hex_text ys → xs ≡ ys
hex_once [] [] h k e = refl
hex_once [] (y ∷ ys) h k e = cc
hex_once (x ∷ xs) [] h k e = cc
hex_once (x ∷ xs) (y ∷ ys) h k e =
    let cut : (x ≡ y) × (hex_text xs ≡ hex_text ys) = hex_pair_once x y (hex_text xs) (hex_text ys) h.0 k.0 e in
    let more : xs ≡ ys = hex_once xs ys h.1 k.1 cut.1 in
    let first : x ≡ y = cut.0 in
    ap (λ (z : ℕ). z ∷ xs) first ∙ ap (λ (zs : List ℕ). y ∷ zs) more

-- a body's numbers and bytes are in their ranges
abbrev pub InBody : Body → Type 0
InBody (Counted ns) = AllBelow 4294967296 ns
InBody (Paged segment ns) = AllBelow 4294967296 ns
InBody (Written pid bytes) = (pid < 4294967296) × AllBelow 256 bytes

pub in_body : (e : Entry) → IsWithin e → InBody (body_of e)
in_body (Out pid bytes) h = (h.0.0, h.1.1)
in_body e h = h.0

pub body_once : (x y : Body) → kind_of x ≡ kind_of y → InBody x → InBody y → body_text x ≡ body_text y → x ≡ y
body_once (Counted ms) (Counted ns) same h k e = ap (λ (zs : List ℕ). Counted zs) (parts_once ms ns h k e)
body_once (Counted ms) (Paged t ns) same h k e = absurd (omega arith)
body_once (Counted ms) (Written p bs) same h k e = absurd (omega arith)
body_once (Paged s ms) (Counted ns) same h k e = absurd (omega arith)
body_once (Paged s ms) (Paged t ns) same h k e =
    let first : s ≡ t = cc in
    let tails : parts ms ≡ parts ns = cc in
    ap (λ (z : ℕ). Paged z ms) first ∙ ap (λ (zs : List ℕ). Paged t zs) (parts_once ms ns h k tails)
body_once (Paged s ms) (Written p bs) same h k e = absurd (omega arith)
body_once (Written p bs) (Counted ns) same h k e = absurd (omega arith)
body_once (Written p bs) (Paged t ns) same h k e = absurd (omega arith)
body_once (Written p bs) (Written q cs) same h k e =
    let cut : (p ≡ q) × (32 ∷ hex_text bs ≡ 32 ∷ hex_text cs) = cut_part p q (32 ∷ hex_text bs) (32 ∷ hex_text cs) h.0 k.0 refl refl e in
    let tails : hex_text bs ≡ hex_text cs = cc in
    let first : p ≡ q = cut.0 in
    ap (λ (z : ℕ). Written z bs) first ∙ ap (λ (zs : List ℕ). Written q zs) (hex_once bs cs h.1 k.1 tails)

-- a text without a line's end is that of one entry at most
pub text_once : (a b : Entry) → IsWithin a → IsWithin b → entry_text a ≡ entry_text b → a ≡ b
text_once a b h k e =
    let letters : letter_of a ≡ letter_of b = cc in
    let bodies : body_text (body_of a) ≡ body_text (body_of b) = cc in
    let kinds : kind_of (body_of a) ≡ kind_of (body_of b) = kind_is a ∙ ap kind_for letters ∙ sym (kind_is b) in
    let same : body_of a ≡ body_of b = body_once (body_of a) (body_of b) kinds (in_body a h) (in_body b k) bodies in
    let found : Some a ≡ Some b =
    sym (entry_back a h) ∙ ap (λ (l : ℕ). entry_from l (body_of a)) letters ∙ ap (λ (x : Body). entry_from (letter_of b) x) same ∙ entry_back b k in
    same_Some a b found

-- a line is that of one entry at most
pub line_once : (a b : Entry) (l : List ℕ) → IsEntryLine a l → IsEntryLine b l → a ≡ b
line_once a b l (h, e) (k, f) =
    text_once a b h k (append_cancel_right (entry_text a) (entry_text b) (codes "\n") (sym (line_is a) ∙ sym e ∙ f ∙ line_is b))

-- texts that are no number
pub zero_in_front : (ds : List ℕ) (n : ℕ) → n < 2 ^ 32 → ds ≡ decimal n → 1 < length ds → get_or ds 0 0 ≡ 48 → ⊥
zero_in_front ds n small is long zero_first =
    let one : length ds ≡ 1 = no_zero_front ds n small is zero_first in
    omega arith

pub no_digits : (ds : List ℕ) (n : ℕ) → n < 2 ^ 32 → ds ≡ decimal n → (IsNumeral 10 ds → digits_value 10 ds < 4294967296 → ⊥) → ⊥
no_digits ds n small is none =
    let value : IsNumeral 10 (decimal n) × (digits_value 10 (decimal n) ≡ n) = decimal_value n small in
    none (subst (λ (xs : List ℕ). IsNumeral 10 xs) (sym is) value.0)
    (subst (λ (xs : List ℕ). digits_value 10 xs < 4294967296) (sym is) (subst (λ (k : ℕ). k < 4294967296) (sym value.1) small))

pub no_word : (text after word behind : List ℕ) → text ≡ 32 ∷ after → after ≡ word ++ behind → HasNo 32 word → AtSpace behind
    → ((n : ℕ) → n < 2 ^ 32 → word ≡ decimal n → ⊥) → (n : ℕ) (rest : List ℕ) → n < 2 ^ 32 → AtSpace rest → text ≡ part n ++ rest → ⊥
no_word text after word behind front cut one at none n rest small start is =
    let tails : after ≡ decimal n ++ rest = cc in
    none n small (cut_word word (decimal n) behind rest one (decimal_no_space n small) at start (sym cut ∙ tails)).0
