-- A line has a reason exactly where it is the line of no event.
use Rattle.std.proofs.Common.{◌≡◌, ◌∙◌, ℕ, ◌<◌, ◌≤◌, Bool, true, false, ◌&&◌, ◌||◌, is_none, List, [], ◌∷◌, ◌++◌, length, refl, ap, Option, Some, None, bytes_eq, codes, arith, lit<}
use Rattle.std.specs.Prelude.{nat_le, if◌then◌else◌}
use Rattle.std.specs.List.{list_all}
use Rattle.std.specs.Char.{is_ascii_digit}
use Rattle.std.specs.Str.Parse.{digits_value}
use Rattle.std.proofs.lemmas.Bool.{and_parts, and_from, leb-true, le-leb}
use Rattle.vm_facts.specs.declared.event.Event.{Event}
use Rattle.vm_facts.specs.declared.event.Event.TheVariants.{Dispatch, Interrupt, Hands, Swapper, Audit}
use Rattle.run_text.specs.Pieces.{HasNo}
use Rattle.run_text.specs.Schedule.{Writes, IsEvent, IsEventLine}
use Rattle.run_text.specs.declared.limits.TheConstants.{LAST_PROCESS, MOST_TURN, MOST_MOVES}
use Rattle.run_text.proofs.Events.{digits_no}
use Rattle.command_words.proofs.Numerals.{digits_alone}
use Rattle.line_reasons.specs.declared.schedule.Argument.{Argument}
use Rattle.line_reasons.specs.declared.schedule.Argument.TheVariants.{Process, Turn, Moves}
use Rattle.line_reasons.specs.Lines.{ends_in, text_in, word_in, rest_in}
use Rattle.line_reasons.specs.FirstReason.{or_else}
use Rattle.line_reasons.specs.Digits.{decimal_of}
use Rattle.line_reasons.specs.ScheduleReasons.{Why, OutOfRange, NoLineFeed, CarriageReturn, Tab, most_of, why_value, why_number, why_numbers, no_event, is_plain, why_event, why_text, why_line, RefusedHaveReasons}
use Rattle.line_reasons.proofs.Cuts.{ends_so, text_of, line_of, ends_not, any_not, text_cut, text_whole, word_before, rest_after, word_alone, rest_none}
use Rattle.line_reasons.proofs.ReferenceRefusals.{Cuts, cuts_of, same_word, IsClean, clean_more, clean_both}

none_is : (x : Option Why) → is_none x ≡ true → x ≡ None
none_is None e = refl
none_is (Some why) e = absurd cc

or_none : (x y : Option Why) → or_else x y ≡ None → (x ≡ None) × (y ≡ None)
or_none None y e = (refl, e)
or_none (Some why) y e = absurd cc

-- a choice between nothing and a reason
unless : (t : Bool) (why : Why) → (if t then None else Some why) ≡ None → t ≡ true
unless true why e = refl
unless false why e = absurd cc

-- a choice between a reason and more
after : (t : Bool) (why : Why) (x : Option Why) → (if t then Some why else x) ≡ None → x ≡ None
after true why x e = absurd cc
after false why x e = e

-- Numbers.

record IsDecimal (word : List ℕ) (value : ℕ) : Type 0 where
  some : 1 ≤ length word
  short : length word ≤ 8
  digits : list_all is_ascii_digit word ≡ true
  same : digits_value 10 word ≡ value

decimal_by : (word : List ℕ) (value : ℕ) (t : Bool) → ((nat_le 1 (length word) && nat_le (length word) 8) && list_all is_ascii_digit word) ≡ t
    → (if t then Some (digits_value 10 word) else None) ≡ Some value → IsDecimal word value
decimal_by word value true is e =
    let parts = and_parts (nat_le 1 (length word) && nat_le (length word) 8) (list_all is_ascii_digit word) is in
    let sizes = and_parts (nat_le 1 (length word)) (nat_le (length word) 8) parts.0 in
    record { some = leb-true 1 (length word) sizes.0; short = leb-true (length word) 8 sizes.1; digits = parts.1; same = cc }
decimal_by word value false is e = absurd cc

decimal_is : (word : List ℕ) (value : ℕ) → decimal_of word ≡ Some value → IsDecimal word value
unfolding decimal_of
decimal_is word value e = decimal_by word value _ refl e

value_read : (argument : Argument) (word : List ℕ) (o : Option ℕ) → decimal_of word ≡ o → why_value argument word o ≡ None
    → (value : ℕ) × Writes (most_of argument) word value
value_read argument word None is e = absurd cc
value_read argument word (Some value) is e =
    let d = decimal_is word value is in
    let range = and_parts (nat_le 1 value) (nat_le value (most_of argument)) (unless _ (OutOfRange argument word) e) in
    (value, ((d.some, digits_alone.to word d.digits), d.short, d.same, leb-true 1 value range.0, leb-true value (most_of argument) range.1))

-- a word without a reason is a number
number_read : (argument : Argument) (word : List ℕ) → why_number argument word ≡ None → (value : ℕ) × Writes (most_of argument) word value
unfolding why_number
number_read argument [] e = absurd cc
number_read argument (b ∷ bs) e = value_read argument (b ∷ bs) _ refl e

decimal_so : (most : ℕ) (word : List ℕ) (value : ℕ) → Writes most word value → decimal_of word ≡ Some value
unfolding decimal_of
decimal_so most word value w =
    let all : ((nat_le 1 (length word) && nat_le (length word) 8) && list_all is_ascii_digit word) ≡ true =
    and_from _ _ (and_from _ _ (le-leb 1 (length word) w.0.0) (le-leb (length word) 8 w.1)) (digits_alone.from word w.0.1) in
    ap (λ (t : Bool). if t then Some (digits_value 10 word) else None) all ∙ ap (λ (n : ℕ). Some n) w.2

value_written : (argument : Argument) (word : List ℕ) (value : ℕ) → Writes (most_of argument) word value → why_value argument word (decimal_of word) ≡ None
value_written argument word value w =
    ap (λ (o : Option ℕ). why_value argument word o) (decimal_so (most_of argument) word value w)
    ∙ ap (λ (t : Bool). if t then None else Some (OutOfRange argument word)) (and_from _ _ (le-leb 1 value w.3) (le-leb value (most_of argument) w.4))

number_written : (argument : Argument) (word : List ℕ) (value : ℕ) → Writes (most_of argument) word value → why_number argument word ≡ None
unfolding why_number
number_written argument [] value w = absurd (omega (arith, w.0.0))
number_written argument (b ∷ bs) value w = value_written argument (b ∷ bs) value w

digits_no_blank : (most : ℕ) (word : List ℕ) (value : ℕ) (c : ℕ) → c < 48 → Writes most word value → HasNo c word
digits_no_blank most word value c low w = digits_no c word low w.0.1

-- What follows an event's letter.

nothing_follows : (rest : Option (List ℕ)) → why_numbers [] rest ≡ None → rest ≡ None
unfolding why_numbers
nothing_follows None e = refl
nothing_follows (Some text) e = absurd cc

record Follows (argument : Argument) (arguments : List Argument) (rest : Option (List ℕ)) : Type 0 where
  text : List ℕ
  is : rest ≡ Some text
  value : ℕ
  writes : Writes (most_of argument) (word_in text) value
  more : why_numbers arguments (rest_in text) ≡ None

number_follows : (argument : Argument) (arguments : List Argument) (rest : Option (List ℕ)) → why_numbers (argument ∷ arguments) rest ≡ None
    → Follows argument arguments rest
unfolding why_numbers
number_follows argument arguments None e = absurd cc
number_follows argument arguments (Some text) e =
    let both = or_none (why_number argument (word_in text)) (why_numbers arguments (rest_in text)) e in
    let read = number_read argument (word_in text) both.0 in
    record { text = text; is = refl; value = read.0; writes = read.1; more = both.1 }

last_follows : (argument : Argument) (word : List ℕ) (value : ℕ) → Writes (most_of argument) word value → why_numbers (argument ∷ []) (Some word) ≡ None
unfolding why_numbers
last_follows argument word value w =
    let none = digits_no_blank (most_of argument) word value 32 (lit< tt) w in
    ap (λ (x : List ℕ). or_else (why_number argument x) (why_numbers [] (rest_in word))) (word_alone word none)
    ∙ ap (λ (x : Option Why). or_else x (why_numbers [] (rest_in word))) (number_written argument word value w)
    ∙ ap (λ (x : Option (List ℕ)). why_numbers [] x) (rest_none word none)

two_follow : (first second : Argument) (word other : List ℕ) (value n : ℕ) → Writes (most_of first) word value → Writes (most_of second) other n
    → why_numbers (first ∷ second ∷ []) (Some (word ++ 32 ∷ other)) ≡ None
unfolding why_numbers
two_follow first second word other value n w v =
    let none = digits_no_blank (most_of first) word value 32 (lit< tt) w in
    ap (λ (x : List ℕ). or_else (why_number first x) (why_numbers (second ∷ []) (rest_in (word ++ 32 ∷ other)))) (word_before word other none)
    ∙ ap (λ (x : Option Why). or_else x (why_numbers (second ∷ []) (rest_in (word ++ 32 ∷ other)))) (number_written first word value w)
    ∙ ap (λ (x : Option (List ℕ)). why_numbers (second ∷ []) x) (rest_after word other none)
    ∙ last_follows second other n v

-- The event of a text.

module _ (word text : List ℕ) (rest : Option (List ℕ)) where
  alone : (letter : List ℕ) → Cuts word rest text → bytes_eq word letter ≡ true → why_numbers [] rest ≡ None → text ≡ letter
  alone letter cuts is none = cuts.whole (nothing_follows rest none) ∙ same_word word letter is

  dispatched : Cuts word rest text → bytes_eq word (codes "d") ≡ true → why_numbers (Process ∷ Turn ∷ []) rest ≡ None → (e : Event) × IsEvent e text
  dispatched cuts is none =
      let one = number_follows Process (Turn ∷ []) rest none in
      let two = number_follows Turn [] (rest_in one.text) one.more in
      let p = word_in one.text in
      let n = word_in two.text in
      let whole : two.text ≡ n = text_whole two.text (nothing_follows (rest_in two.text) two.more) in
      let text_is : text ≡ codes "d " ++ (p ++ (codes " " ++ n)) =
      cuts.cut one.text one.is
      ∙ ap (λ (w : List ℕ). w ++ 32 ∷ one.text) (same_word word (codes "d") is)
      ∙ ap (λ (t : List ℕ). 100 ∷ 32 ∷ t) (text_cut one.text two.text two.is ∙ ap (λ (t : List ℕ). p ++ 32 ∷ t) whole) in
      (Dispatch one.value two.value, (p, n, one.writes, two.writes, text_is))

  moved : Cuts word rest text → bytes_eq word (codes "h") ≡ true → why_numbers (Moves ∷ []) rest ≡ None → (e : Event) × IsEvent e text
  moved cuts is none =
      let one = number_follows Moves [] rest none in
      let n = word_in one.text in
      let text_is : text ≡ codes "h " ++ n =
      cuts.cut one.text one.is
      ∙ ap (λ (w : List ℕ). w ++ 32 ∷ one.text) (same_word word (codes "h") is)
      ∙ ap (λ (t : List ℕ). 104 ∷ 32 ∷ t) (text_whole one.text (nothing_follows (rest_in one.text) one.more)) in
      (Hands one.value, (n, one.writes, text_is))

  plain_by : (i w m : Bool) → bytes_eq word (codes "i") ≡ i → bytes_eq word (codes "w") ≡ w → bytes_eq word (codes "m") ≡ m → (i || (w || m)) ≡ true
      → Cuts word rest text → why_numbers [] rest ≡ None → (e : Event) × IsEvent e text
  plain_by true w m a b d one cuts none = (Interrupt, alone (codes "i") cuts a none)
  plain_by false true m a b d one cuts none = (Swapper, alone (codes "w") cuts b none)
  plain_by false false true a b d one cuts none = (Audit, alone (codes "m") cuts d none)
  plain_by false false false a b d one cuts none = absurd cc

  plain_told : is_plain word ≡ true → Cuts word rest text → why_numbers [] rest ≡ None → (e : Event) × IsEvent e text
  unfolding is_plain
  plain_told one cuts none = plain_by _ _ _ refl refl refl one cuts none

  event_by : (d h p : Bool) → bytes_eq word (codes "d") ≡ d → bytes_eq word (codes "h") ≡ h
      → is_plain word ≡ p → Cuts word rest text
      → (if d then why_numbers (Process ∷ Turn ∷ []) rest
      else (if h then why_numbers (Moves ∷ []) rest else (if p then why_numbers [] rest else Some (no_event word)))) ≡ None
      → (e : Event) × IsEvent e text
  event_by true h p a b q cuts none = dispatched cuts a none
  event_by false true p a b q cuts none = moved cuts b none
  event_by false false true a b q cuts none = plain_told q cuts none
  event_by false false false a b q cuts none = absurd cc

event_told : (word text : List ℕ) (rest : Option (List ℕ)) → Cuts word rest text → why_event word rest ≡ None → (e : Event) × IsEvent e text
unfolding why_event
event_told [] text rest cuts none = absurd cc
event_told (b ∷ bs) text rest cuts none = event_by (b ∷ bs) text rest _ _ _ refl refl refl cuts none

text_told : (text : List ℕ) → why_text text ≡ None → (e : Event) × IsEvent e text
unfolding why_text
text_told [] none = absurd cc
text_told (b ∷ bs) none =
    event_told (word_in (b ∷ bs)) (b ∷ bs) (rest_in (b ∷ bs)) (cuts_of (b ∷ bs)) (after _ Tab _ (after _ CarriageReturn _ none))

line_told : (line : List ℕ) → why_line line ≡ None → (e : Event) × IsEventLine e line
unfolding why_line
line_told line none =
    let both = or_none (why_text (text_in line)) (if ends_in 10 line then None else Some NoLineFeed) none in
    let event = text_told (text_in line) both.0 in
    (event.0, (text_in line, line_of line (unless _ NoLineFeed both.1), event.1))

-- The text of an event.

clean_number : (most : ℕ) (word : List ℕ) (value : ℕ) → Writes most word value → IsClean word
clean_number most word value w = record { tab = digits_no_blank most word value 9 (lit< tt) w; return = digits_no_blank most word value 13 (lit< tt) w }

clean_none : IsClean []
clean_none = record { tab = tt; return = tt }

clean_by : (s t : Bool) (a b : Why) (x : Option Why) → s ≡ false → t ≡ false → x ≡ None → (if s then Some a else (if t then Some b else x)) ≡ None
clean_by true t a b x s_is t_is x_is = absurd cc
clean_by false true a b x s_is t_is x_is = absurd cc
clean_by false false a b x s_is t_is x_is = x_is

clean_text : (b : ℕ) (bs : List ℕ) → IsClean (b ∷ bs) → why_event (word_in (b ∷ bs)) (rest_in (b ∷ bs)) ≡ None → why_text (b ∷ bs) ≡ None
unfolding why_text
clean_text b bs clean none = clean_by _ _ CarriageReturn Tab _ (ends_not 13 b bs clean.return) (any_not 9 (b ∷ bs) clean.tab) none

-- a letter with what follows it
with_rest : (b : ℕ) (rest : List ℕ) → (32 < b) → IsClean rest → why_event (b ∷ []) (Some rest) ≡ None → why_text (b ∷ 32 ∷ rest) ≡ None
with_rest b rest high clean none =
    let word = word_before (b ∷ []) rest ((λ e. omega arith), tt) in
    let more = rest_after (b ∷ []) rest ((λ e. omega arith), tt) in
    clean_text b (32 ∷ rest) (clean_more b (32 ∷ rest) (omega arith) (clean_more 32 rest (lit< tt) clean))
    (ap (λ (w : List ℕ). why_event w (rest_in (b ∷ 32 ∷ rest))) word ∙ ap (λ (r : Option (List ℕ)). why_event (b ∷ []) r) more ∙ none)

letter_alone : (b : ℕ) → (32 < b) → why_event (b ∷ []) None ≡ None → why_text (b ∷ []) ≡ None
letter_alone b high none =
    let word = word_alone (b ∷ []) ((λ e. omega arith), tt) in
    let more = rest_none (b ∷ []) ((λ e. omega arith), tt) in
    clean_text b [] (clean_more b [] (omega arith) clean_none)
    (ap (λ (w : List ℕ). why_event w (rest_in (b ∷ []))) word ∙ ap (λ (r : Option (List ℕ)). why_event (b ∷ []) r) more ∙ none)

dispatch_event : (rest : Option (List ℕ)) → why_event (100 ∷ []) rest ≡ why_numbers (Process ∷ Turn ∷ []) rest
unfolding why_event
dispatch_event rest = refl

hands_event : (rest : Option (List ℕ)) → why_event (104 ∷ []) rest ≡ why_numbers (Moves ∷ []) rest
unfolding why_event
hands_event rest = refl

interrupt_event : why_event (105 ∷ []) None ≡ None
unfolding why_event is_plain why_numbers
interrupt_event = refl

swapper_event : why_event (119 ∷ []) None ≡ None
unfolding why_event is_plain why_numbers
swapper_event = refl

audit_event : why_event (109 ∷ []) None ≡ None
unfolding why_event is_plain why_numbers
audit_event = refl

text_passes : (e : Event) (text : List ℕ) → IsEvent e text → why_text text ≡ None
text_passes (Dispatch pid count) text (p, n, wp, wn, is) =
    ap why_text is
    ∙ with_rest 100 (p ++ 32 ∷ n) (lit< tt) (clean_both p (32 ∷ n) (clean_number LAST_PROCESS p pid wp) (clean_more 32 n (lit< tt) (clean_number MOST_TURN n count wn)))
    (dispatch_event (Some (p ++ 32 ∷ n)) ∙ two_follow Process Turn p n pid count wp wn)
text_passes Interrupt text is = ap why_text is ∙ letter_alone 105 (lit< tt) interrupt_event
text_passes (Hands count) text (n, wn, is) =
    ap why_text is ∙ with_rest 104 n (lit< tt) (clean_number MOST_MOVES n count wn) (hands_event (Some n) ∙ last_follows Moves n count wn)
text_passes Swapper text is = ap why_text is ∙ letter_alone 119 (lit< tt) swapper_event
text_passes Audit text is = ap why_text is ∙ letter_alone 109 (lit< tt) audit_event

passes_by : (line text : List ℕ) → line ≡ text ++ codes "\n" → why_text text ≡ None → why_line line ≡ None
unfolding why_line
passes_by line text is none =
    ap (λ (l : List ℕ). or_else (why_text (text_in l)) (if ends_in 10 l then None else Some NoLineFeed)) is
    ∙ ap (λ (t : List ℕ). or_else (why_text t) (if ends_in 10 (text ++ 10 ∷ []) then None else Some NoLineFeed)) (text_of text)
    ∙ ap (λ (x : Option Why). or_else x (if ends_in 10 (text ++ 10 ∷ []) then None else Some NoLineFeed)) none
    ∙ ap (λ (t : Bool). if t then None else Some NoLineFeed) (ends_so text 10)

line_passes : (line : List ℕ) → ((e : Event) × IsEventLine e line) → why_line line ≡ None
line_passes line (e, (text, is, event)) = passes_by line text is (text_passes e text event)

-- the law
pub refused_have_reasons : RefusedHaveReasons
refused_have_reasons line = (λ none. line_told line (none_is (why_line line) none), λ event. ap is_none (line_passes line event))
