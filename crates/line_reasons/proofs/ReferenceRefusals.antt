-- A line has a reason exactly where it is none of a file of references.
use Rattle.std.proofs.Common.{◌≡◌, ◌≢◌, ◌∙◌, inl, inr, ℕ, ◌^◌, ◌<◌, Bool, true, false, ◌||◌, is_none, List, [], ◌∷◌, ◌++◌, length, refl, sym, ap, subst, Option, Some, None, bytes_eq, codes, decimal, arith, lit<}
use Rattle.std.specs.Prelude.{◌==◌, if◌then◌else◌}
use Rattle.std.specs.Str.Parse.{AllDigits}
use Rattle.std.proofs.lemmas.List.{append-nil}
use Rattle.std.proofs.lemmas.Slice.Eq.{bytes_eq-Decides}
use Rattle.std.proofs.lemmas.Str.Parse.{digit_from_value}
use Rattle.vm_facts.specs.declared.page.Page.{Page}
use Rattle.vm_facts.specs.declared.page.Page.TheVariants.{Data, Stack, Text}
use Rattle.run_text.specs.Text.{parts}
use Rattle.run_text.specs.Pieces.{HasNo}
use Rattle.run_text.specs.Transcript.{AllBelow, page_numbers}
use Rattle.run_text.proofs.Events.{digits_no}
use Rattle.run_text.proofs.Words.{decimal_value, decimal_no_space}
use Rattle.run_text.proofs.LineEnds.{is_other}
use Rattle.run_text.proofs.WrittenLines.{no_both}
use Rattle.reference_answers.specs.Grammar.{IsReference, IsLineText, IsReferenceLine}
use Rattle.line_reasons.specs.Lines.{ends_in, text_in, word_in, rest_in}
use Rattle.line_reasons.specs.FirstReason.{or_else}
use Rattle.line_reasons.proofs.Cuts.{ends_so, text_of, line_of, ends_not, any_not, text_cut, text_whole, word_before, rest_after, word_alone, rest_none, is_byte}
use Rattle.line_reasons.specs.declared.references.Argument.{Argument}
use Rattle.line_reasons.specs.declared.references.Argument.TheVariants.{Owner, Place}
use Rattle.line_reasons.specs.ReferenceReasons.{Why, CarriageReturn, Tab, NoReference, NotNumber, NoLineFeed, is_number, why_number, why_numbers, is_segment, why_reference, why_text, why_line, RefusedHaveReasons}
use Rattle.line_reasons.proofs.ReferenceNumerals.{IsDecimal, number_read, number_so}

none_is : (x : Option Why) → is_none x ≡ true → x ≡ None
none_is None e = refl
none_is (Some why) e = absurd cc

or_none : (x y : Option Why) → or_else x y ≡ None → (x ≡ None) × (y ≡ None)
or_none None y e = (refl, e)
or_none (Some why) y e = absurd cc

-- a choice between nothing and a reason
unless : (t : Bool) (why : Why) → (if t then None else Some why) ≡ None → t ≡ true
unless true why e = refl
unless false why e = absurd cc

-- a choice between a reason and more
after : (t : Bool) (why : Why) (x : Option Why) → (if t then Some why else x) ≡ None → x ≡ None
after true why x e = absurd cc
after false why x e = e

-- Numbers.

-- a word without a reason is a number
number_found : (argument : Argument) (word : List ℕ) → why_number argument word ≡ None → IsDecimal word
unfolding why_number
number_found argument [] e = absurd cc
number_found argument (b ∷ bs) e = number_read (b ∷ bs) (unless _ (NotNumber argument (b ∷ bs)) e)

number_passes : (argument : Argument) (word : List ℕ) (n : ℕ) → n < 2 ^ 32 → word ≡ decimal n → why_number argument word ≡ None
unfolding why_number
number_passes argument [] n small is =
    let same = ap length is in
    absurd (omega (arith, same, (decimal_value n small).0.0))
number_passes argument (b ∷ bs) n small is = ap (λ (t : Bool). if t then None else Some (NotNumber argument (b ∷ bs))) (number_so (b ∷ bs) n small is)

-- What follows the letter of a segment.

nothing_follows : (rest : Option (List ℕ)) → why_numbers [] rest ≡ None → rest ≡ None
unfolding why_numbers
nothing_follows None e = refl
nothing_follows (Some text) e = absurd cc

record Follows (argument : Argument) (arguments : List Argument) (rest : Option (List ℕ)) : Type 0 where
  text : List ℕ
  is : rest ≡ Some text
  number : IsDecimal (word_in text)
  more : why_numbers arguments (rest_in text) ≡ None

number_follows : (argument : Argument) (arguments : List Argument) (rest : Option (List ℕ)) → why_numbers (argument ∷ arguments) rest ≡ None
    → Follows argument arguments rest
unfolding why_numbers
number_follows argument arguments None e = absurd cc
number_follows argument arguments (Some text) e =
    let both = or_none (why_number argument (word_in text)) (why_numbers arguments (rest_in text)) e in
    record { text = text; is = refl; number = number_found argument (word_in text) both.0; more = both.1 }

-- two numbers follow, and nothing else
record TwoFollow (rest : Option (List ℕ)) : Type 0 where
  owner : ℕ
  place : ℕ
  small_owner : owner < 2 ^ 32
  small_place : place < 2 ^ 32
  is : rest ≡ Some (decimal owner ++ 32 ∷ decimal place)

two_found : (rest : Option (List ℕ)) → why_numbers (Owner ∷ Place ∷ []) rest ≡ None → TwoFollow rest
two_found rest e =
    let one = number_follows Owner (Place ∷ []) rest e in
    let two = number_follows Place [] (rest_in one.text) one.more in
    let a : IsDecimal (word_in one.text) = one.number in
    let b : IsDecimal (word_in two.text) = two.number in
    let whole : two.text ≡ decimal b.value = text_whole two.text (nothing_follows (rest_in two.text) two.more) ∙ b.is in
    record {
      owner = a.value;
      place = b.value;
      small_owner = a.small;
      small_place = b.small;
      is =
          one.is
          ∙ ap (λ (t : List ℕ). Some t) (text_cut one.text two.text two.is ∙ ap (λ (w : List ℕ). w ++ 32 ∷ two.text) a.is ∙ ap (λ (t : List ℕ). decimal a.value ++ 32 ∷ t) whole);
    }

last_follows : (argument : Argument) (n : ℕ) → n < 2 ^ 32 → why_numbers (argument ∷ []) (Some (decimal n)) ≡ None
unfolding why_numbers
last_follows argument n small =
    let none = decimal_no_space n small in
    ap (λ (x : List ℕ). or_else (why_number argument x) (why_numbers [] (rest_in (decimal n)))) (word_alone (decimal n) none)
    ∙ ap (λ (x : Option Why). or_else x (why_numbers [] (rest_in (decimal n)))) (number_passes argument (decimal n) n small refl)
    ∙ ap (λ (x : Option (List ℕ)). why_numbers [] x) (rest_none (decimal n) none)

two_follow : (a b : ℕ) → a < 2 ^ 32 → b < 2 ^ 32 → why_numbers (Owner ∷ Place ∷ []) (Some (decimal a ++ 32 ∷ decimal b)) ≡ None
unfolding why_numbers
two_follow a b small_a small_b =
    let none = decimal_no_space a small_a in
    ap (λ (x : List ℕ). or_else (why_number Owner x) (why_numbers (Place ∷ []) (rest_in (decimal a ++ 32 ∷ decimal b)))) (word_before (decimal a) (decimal b) none)
    ∙ ap (λ (x : Option Why). or_else x (why_numbers (Place ∷ []) (rest_in (decimal a ++ 32 ∷ decimal b)))) (number_passes Owner (decimal a) a small_a refl)
    ∙ ap (λ (x : Option (List ℕ)). why_numbers (Place ∷ []) x) (rest_after (decimal a) (decimal b) none)
    ∙ last_follows Place b small_b

-- The reference of a text.

-- the first word and what follows make the text
pub record Cuts (word : List ℕ) (rest : Option (List ℕ)) (text : List ℕ) : Type 0 where
  pub whole : rest ≡ None → text ≡ word
  pub cut : (more : List ℕ) → rest ≡ Some more → text ≡ word ++ 32 ∷ more

pub cuts_of : (text : List ℕ) → Cuts (word_in text) (rest_in text) text
cuts_of text = record { whole = text_whole text; cut = λ more is. text_cut text more is }

pub same_word : (word letter : List ℕ) → bytes_eq word letter ≡ true → word ≡ letter
same_word word letter e = (bytes_eq-Decides word letter).0 e

-- two numbers as a page has them
page_text : (letter a b : ℕ) → letter ∷ 32 ∷ (decimal a ++ 32 ∷ decimal b) ≡ letter ∷ parts (a ∷ b ∷ [])
page_text letter a b = ap (λ (t : List ℕ). letter ∷ 32 ∷ (decimal a ++ 32 ∷ t)) (sym (append-nil (decimal b)))

lettered : (letter : ℕ) (word text : List ℕ) (rest : Option (List ℕ)) (two : TwoFollow rest) → Cuts word rest text → word ≡ letter ∷ []
    → text ≡ letter ∷ parts (two.owner ∷ two.place ∷ [])
lettered letter word text rest two cuts is =
    cuts.cut (decimal two.owner ++ 32 ∷ decimal two.place) two.is
    ∙ ap (λ (w : List ℕ). w ++ 32 ∷ (decimal two.owner ++ 32 ∷ decimal two.place)) is
    ∙ page_text letter two.owner two.place

module _ (word text : List ℕ) (rest : Option (List ℕ)) where
  page_by : (d s x : Bool) → bytes_eq word (codes "d") ≡ d → bytes_eq word (codes "s") ≡ s → bytes_eq word (codes "x") ≡ x → (d || (s || x)) ≡ true
      → Cuts word rest text → TwoFollow rest → (page : Page) × IsReference page text
  page_by true s x a b c one cuts two =
      (Data two.owner two.place, ((two.small_owner, (two.small_place, tt)), inl (lettered 100 word text rest two cuts (same_word word (codes "d") a))))
  page_by false true x a b c one cuts two =
      (Stack two.owner two.place, ((two.small_owner, (two.small_place, tt)), inl (lettered 115 word text rest two cuts (same_word word (codes "s") b))))
  page_by false false true a b c one cuts two =
      (Text two.owner two.place, ((two.small_owner, (two.small_place, tt)), inl (lettered 120 word text rest two cuts (same_word word (codes "x") c))))
  page_by false false false a b c one cuts two = absurd cc

  page_found : is_segment word ≡ true → Cuts word rest text → TwoFollow rest → (page : Page) × IsReference page text
  unfolding is_segment
  page_found one cuts two = page_by _ _ _ refl refl refl one cuts two

  plain_found : IsDecimal word → Cuts word rest text → why_numbers [] rest ≡ None → (page : Page) × IsReference page text
  plain_found number cuts none =
      (Data 0 number.value, ((lit< tt, (number.small, tt)), inr (number.value, refl, cuts.whole (nothing_follows rest none) ∙ number.is)))

  reference_by : (s n : Bool) → is_segment word ≡ s → is_number word ≡ n → Cuts word rest text
      → (if s then why_numbers (Owner ∷ Place ∷ []) rest else (if n then why_numbers [] rest else Some (NoReference word))) ≡ None
      → (page : Page) × IsReference page text
  reference_by true n a b cuts none = page_found a cuts (two_found rest none)
  reference_by false true a b cuts none = plain_found (number_read word b) cuts none
  reference_by false false a b cuts none = absurd cc

reference_found : (word text : List ℕ) (rest : Option (List ℕ)) → Cuts word rest text → why_reference word rest ≡ None → (page : Page) × IsReference page text
unfolding why_reference
reference_found [] text rest cuts none = absurd cc
reference_found (b ∷ bs) text rest cuts none = reference_by (b ∷ bs) text rest _ _ refl refl cuts none

text_by : (b : ℕ) (bs : List ℕ) (t : Bool) (x : Option Why) → (b == 35) ≡ t → (if t then None else x) ≡ None
    → (x ≡ None → (page : Page) × IsReference page (b ∷ bs)) → (read : Option Page) × IsLineText read (b ∷ bs)
text_by b bs true x is none found = (None, inr (bs, ap (λ (c : ℕ). c ∷ bs) (is_byte b 35 is)))
text_by b bs false x is none found = let page = found none in (Some page.0, page.1)

text_found : (text : List ℕ) → why_text text ≡ None → (read : Option Page) × IsLineText read text
unfolding why_text
text_found [] none = (None, inl refl)
text_found (b ∷ bs) none =
    text_by b bs _ _ refl none (λ more. reference_found (word_in (b ∷ bs)) (b ∷ bs) (rest_in (b ∷ bs)) (cuts_of (b ∷ bs)) (after _ Tab _ (after _ CarriageReturn _ more)))

line_found : (line : List ℕ) → why_line line ≡ None → (read : Option Page) × IsReferenceLine read line
unfolding why_line
line_found line none =
    let both = or_none (why_text (text_in line)) (if ends_in 10 line then None else Some NoLineFeed) none in
    let read = text_found (text_in line) both.0 in
    (read.0, (text_in line, line_of line (unless _ NoLineFeed both.1), read.1))

-- The text of a reference.

-- a text without a tab and a carriage return
pub record IsClean (text : List ℕ) : Type 0 where
  pub tab : HasNo 9 text
  pub return : HasNo 13 text

clean_number : (n : ℕ) → n < 2 ^ 32 → IsClean (decimal n)
clean_number n small = record { tab = digits_no 9 (decimal n) (lit< tt) (decimal_value n small).0.1; return = digits_no 13 (decimal n) (lit< tt) (decimal_value n small).0.1 }

pub clean_more : (b : ℕ) (text : List ℕ) → 13 < b → IsClean text → IsClean (b ∷ text)
clean_more b text high clean = record { tab = (λ e. omega arith, clean.tab); return = (λ e. omega arith, clean.return) }

pub clean_both : (xs ys : List ℕ) → IsClean xs → IsClean ys → IsClean (xs ++ ys)
clean_both xs ys a b = record { tab = no_both 9 xs ys a.tab b.tab; return = no_both 13 xs ys a.return b.return }

clean_by : (r s t : Bool) (a b : Why) (x : Option Why) → r ≡ false → s ≡ false → t ≡ false → x ≡ None
    → (if r then None else (if s then Some a else (if t then Some b else x))) ≡ None
clean_by true s t a b x r_is s_is t_is x_is = refl
clean_by false true t a b x r_is s_is t_is x_is = absurd cc
clean_by false false true a b x r_is s_is t_is x_is = absurd cc
clean_by false false false a b x r_is s_is t_is x_is = x_is

clean_text : (b : ℕ) (bs : List ℕ) → b ≢ 35 → IsClean (b ∷ bs) → why_reference (word_in (b ∷ bs)) (rest_in (b ∷ bs)) ≡ None → why_text (b ∷ bs) ≡ None
unfolding why_text
clean_text b bs other clean none = clean_by _ _ _ CarriageReturn Tab _ (is_other b 35 other) (ends_not 13 b bs clean.return) (any_not 9 (b ∷ bs) clean.tab) none

-- a letter with what follows it
with_rest : (b : ℕ) (rest : List ℕ) → 35 < b → IsClean rest → why_reference (b ∷ []) (Some rest) ≡ None → why_text (b ∷ 32 ∷ rest) ≡ None
with_rest b rest high clean none =
    let word = word_before (b ∷ []) rest ((λ e. omega arith), tt) in
    let more = rest_after (b ∷ []) rest ((λ e. omega arith), tt) in
    clean_text b (32 ∷ rest) (λ e. omega arith) (clean_more b (32 ∷ rest) (omega arith) (clean_more 32 rest (lit< tt) clean))
    (ap (λ (w : List ℕ). why_reference w (rest_in (b ∷ 32 ∷ rest))) word ∙ ap (λ (r : Option (List ℕ)). why_reference (b ∷ []) r) more ∙ none)

data_segment : (rest : Option (List ℕ)) → why_reference (100 ∷ []) rest ≡ why_numbers (Owner ∷ Place ∷ []) rest
unfolding why_reference is_segment
data_segment rest = refl

stack_segment : (rest : Option (List ℕ)) → why_reference (115 ∷ []) rest ≡ why_numbers (Owner ∷ Place ∷ []) rest
unfolding why_reference is_segment
stack_segment rest = refl

text_segment : (rest : Option (List ℕ)) → why_reference (120 ∷ []) rest ≡ why_numbers (Owner ∷ Place ∷ []) rest
unfolding why_reference is_segment
text_segment rest = refl

page_passes : (letter a b : ℕ) (text : List ℕ) → text ≡ letter ∷ parts (a ∷ b ∷ []) → 35 < letter → a < 2 ^ 32 → b < 2 ^ 32
    → ((rest : Option (List ℕ)) → why_reference (letter ∷ []) rest ≡ why_numbers (Owner ∷ Place ∷ []) rest) → why_text text ≡ None
page_passes letter a b text is high small_a small_b segment =
    ap why_text (is ∙ sym (page_text letter a b))
    ∙ with_rest letter (decimal a ++ 32 ∷ decimal b) high (clean_both (decimal a) (32 ∷ decimal b) (clean_number a small_a) (clean_more 32 (decimal b) (lit< tt) (clean_number b small_b)))
    (segment (Some (decimal a ++ 32 ∷ decimal b)) ∙ two_follow a b small_a small_b)

-- digits are no letter
digits_only : (letter : ℕ) (word : List ℕ) → word ≡ letter ∷ [] → 57 < letter → AllDigits 10 word → ⊥
digits_only letter word is high digits =
    let only : AllDigits 10 (letter ∷ []) = subst (λ (w : List ℕ). AllDigits 10 w) is digits in
    omega (arith, digit_from_value letter only.0, high)

no_letter : (word : List ℕ) (d s x : Bool) → bytes_eq word (codes "d") ≡ d → bytes_eq word (codes "s") ≡ s → bytes_eq word (codes "x") ≡ x → AllDigits 10 word
    → (d || (s || x)) ≡ false
no_letter word true s x a b c digits = absurd (digits_only 100 word (same_word word (codes "d") a) (lit< tt) digits)
no_letter word false true x a b c digits = absurd (digits_only 115 word (same_word word (codes "s") b) (lit< tt) digits)
no_letter word false false true a b c digits = absurd (digits_only 120 word (same_word word (codes "x") c) (lit< tt) digits)
no_letter word false false false a b c digits = refl

no_segment : (word : List ℕ) → AllDigits 10 word → is_segment word ≡ false
unfolding is_segment
no_segment word digits = no_letter word _ _ _ refl refl refl digits

plain_by : (word : List ℕ) (s n : Bool) → s ≡ false → n ≡ true
    → (if s then why_numbers (Owner ∷ Place ∷ []) None else (if n then why_numbers [] None else Some (NoReference word))) ≡ None
unfolding why_numbers
plain_by word true n a b = absurd cc
plain_by word false true a b = refl
plain_by word false false a b = absurd cc

plain_alone : (b : ℕ) (bs : List ℕ) → is_segment (b ∷ bs) ≡ false → is_number (b ∷ bs) ≡ true → why_reference (b ∷ bs) None ≡ None
unfolding why_reference
plain_alone b bs letter number = plain_by (b ∷ bs) _ _ letter number

plain_passes : (text : List ℕ) (n : ℕ) → n < 2 ^ 32 → text ≡ decimal n → why_text text ≡ None
unfolding why_text
plain_passes [] n small is = refl
plain_passes (b ∷ bs) n small is = word_passes
  where
    digits : AllDigits 10 (b ∷ bs)
    digits = subst (λ (w : List ℕ). AllDigits 10 w) (sym is) (decimal_value n small).0.1

    clean : IsClean (b ∷ bs)
    clean = subst (λ (w : List ℕ). IsClean w) (sym is) (clean_number n small)

    none : HasNo 32 (b ∷ bs)
    none = digits_no 32 (b ∷ bs) (lit< tt) digits

    word_passes : why_text (b ∷ bs) ≡ None
    word_passes =
        clean_text b bs (digits_no 35 (b ∷ bs) (lit< tt) digits).0 clean
        (ap (λ (w : List ℕ). why_reference w (rest_in (b ∷ bs))) (word_alone (b ∷ bs) none)
        ∙ ap (λ (r : Option (List ℕ)). why_reference (b ∷ bs) r) (rest_none (b ∷ bs) none)
        ∙ plain_alone b bs (no_segment (b ∷ bs) digits) (number_so (b ∷ bs) n small is))

remark_passes : (rest : List ℕ) → why_text (35 ∷ rest) ≡ None
unfolding why_text
remark_passes rest = refl

empty_passes : why_text [] ≡ None
unfolding why_text
empty_passes = refl

text_passes : (read : Option Page) (text : List ℕ) → IsLineText read text → why_text text ≡ None
text_passes None text (inl is) = ap why_text is ∙ empty_passes
text_passes None text (inr (rest, is)) = ap why_text is ∙ remark_passes rest
text_passes (Some (Data a b)) text (below, inl is) = page_passes 100 a b text is (lit< tt) below.0 below.1.0 data_segment
text_passes (Some (Stack a b)) text (below, inl is) = page_passes 115 a b text is (lit< tt) below.0 below.1.0 stack_segment
text_passes (Some (Text a b)) text (below, inl is) = page_passes 120 a b text is (lit< tt) below.0 below.1.0 text_segment
text_passes (Some page) text (below, inr (n, same, is)) =
    let both : AllBelow 4294967296 (0 ∷ n ∷ []) = subst (λ (p : Page). AllBelow 4294967296 (page_numbers p)) same below in
    plain_passes text n both.1.0 is

passes_by : (line text : List ℕ) → line ≡ text ++ codes "\n" → why_text text ≡ None → why_line line ≡ None
unfolding why_line
passes_by line text is none =
    ap (λ (l : List ℕ). or_else (why_text (text_in l)) (if ends_in 10 l then None else Some NoLineFeed)) is
    ∙ ap (λ (t : List ℕ). or_else (why_text t) (if ends_in 10 (text ++ 10 ∷ []) then None else Some NoLineFeed)) (text_of text)
    ∙ ap (λ (x : Option Why). or_else x (if ends_in 10 (text ++ 10 ∷ []) then None else Some NoLineFeed)) none
    ∙ ap (λ (t : Bool). if t then None else Some NoLineFeed) (ends_so text 10)

line_passes : (line : List ℕ) → ((read : Option Page) × IsReferenceLine read line) → why_line line ≡ None
line_passes line (read, (text, is, good)) = passes_by line text is (text_passes read text good)

-- the law
pub refused_have_reasons : RefusedHaveReasons
refused_have_reasons line = (λ none. line_found line (none_is (why_line line) none), λ read. ap is_none (line_passes line read))
