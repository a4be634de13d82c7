-- The lines of entries are read as these entries.
use Rattle.std.proofs.Common.{◌≡◌, ℕ, ◌+◌, ◌/◌, ◌%◌, lit<, decimal, ◌≤◌, Bool, true, false, List, [], ◌∷◌, ◌++◌, refl, sym, ◌∙◌, ap, subst, append_assoc, arith}
use Rattle.std.specs.Prelude.{◌==◌, ⊤, nat_lt, if◌then◌else◌}
use Rattle.std.proofs.lemmas.Bool.Decides.{nat_tests}
use Rattle.vm_facts.specs.declared.entry.Entry.{Entry}
use Rattle.run_text.specs.Text.{part, parts, hex_digit, hex_text, line_of, lines_of}
use Rattle.run_text.specs.Lines.{begin_line, lines_in, AreLines}
use Rattle.run_text.specs.Pieces.{HasNo}
use Rattle.run_text.specs.Transcript.{AllBelow, IsWithin, AreWithin, IsEntryLine, IsReadTranscript, IsRead}
use Rattle.run_text.specs.EntryParts.{Body, Counted, Paged, Written, segment_of, letter_of, body_of, body_text, entry_text}
use Rattle.run_text.specs.declared.answers.Transcript.{Transcript}
use Rattle.run_text.specs.declared.answers.Transcript.TheVariants.{Is, BadLine}
use Rattle.run_text.proofs.Parts.{line_is}
use Rattle.run_text.proofs.Words.{line_once, InBody, in_body, decimal_value}
use Rattle.run_text.proofs.Events.{digits_no}
use Rattle.vm_facts.specs.declared.page.Page.{Page}
use Rattle.vm_facts.specs.declared.page.Page.TheVariants.{Data, Stack, Text}
use Rattle.vm_facts.specs.declared.entry.Entry.TheVariants.{Zero, Get, Copy, Reclaim, Put}

-- a page's letter, or another
abbrev segment_of_body : Body → ℕ
segment_of_body (Counted ns) = 0
segment_of_body (Paged segment ns) = segment
segment_of_body (Written pid bytes) = 0

-- a line before a text
not_end : (b : ℕ) → (b ≡ 10 → ⊥) → (b == 10) ≡ false
not_end b n = grind (arith, nat_tests)

pub line_before : (text rest : List ℕ) → HasNo 10 text → lines_in (text ++ 10 ∷ rest) ≡ (text ++ 10 ∷ []) ∷ lines_in rest
unfolding lines_in
line_before [] rest h = refl
line_before (b ∷ bs) rest h =
    ap (λ (t : Bool). begin_line t b (lines_in (bs ++ 10 ∷ rest))) (not_end b h.0) ∙ ap (λ (ls : List (List ℕ)). begin_line false b ls) (line_before bs rest h.1)

-- an entry's text has no line feed
pub no_both : (c : ℕ) (xs ys : List ℕ) → HasNo c xs → HasNo c ys → HasNo c (xs ++ ys)
no_both c [] ys h k = k
no_both c (x ∷ xs) ys h k = (h.0, no_both c xs ys h.1 k)

parts_no_end : (ns : List ℕ) → AllBelow 4294967296 ns → HasNo 10 (parts ns)
parts_no_end [] h = tt
parts_no_end (n ∷ ns) h =
    no_both 10 (part n) (parts ns) (λ e. omega arith, digits_no 10 (decimal n) (lit< tt) (decimal_value n h.0).0.1) (parts_no_end ns h.1)

digit_not_end : (d : ℕ) → hex_digit d ≡ 10 → ⊥
digit_not_end d e = by (nat_lt d 10) d e
  where
    by : (t : Bool) (d : ℕ) → ◌≡◌ {A = ℕ} (if t then 48 + d else 87 + d) 10 → ⊥
    by true d e = omega arith
    by false d e = omega arith

hex_no_end : (bytes : List ℕ) → HasNo 10 (hex_text bytes)
hex_no_end [] = tt
hex_no_end (b ∷ bs) = (digit_not_end (b / 16), (digit_not_end (b % 16), hex_no_end bs))

body_no_end : (x : Body) → InBody x → (segment_of_body x ≡ 10 → ⊥) → HasNo 10 (body_text x)
body_no_end (Counted ns) h s = parts_no_end ns h
body_no_end (Paged segment ns) h s = (λ e. omega arith, (s, parts_no_end ns h))
body_no_end (Written pid bytes) h s =
    no_both 10 (part pid) (32 ∷ hex_text bytes) (λ e. omega arith, digits_no 10 (decimal pid) (lit< tt) (decimal_value pid h.0).0.1) (λ e. omega arith, hex_no_end bytes)

letter_not_end : (e : Entry) → letter_of e ≡ 10 → ⊥
letter_not_end (Zero page) q = omega arith
letter_not_end e q = omega arith

page_not_end : (page : Page) → segment_of page ≡ 10 → ⊥
page_not_end (Data sid v) q = omega arith
page_not_end (Stack sid v) q = omega arith
page_not_end (Text image v) q = omega arith

segment_not_end : (e : Entry) → segment_of_body (body_of e) ≡ 10 → ⊥
segment_not_end (Zero page) q = page_not_end page q
segment_not_end (Get page lo n) q = page_not_end page q
segment_not_end (Copy page) q = page_not_end page q
segment_not_end (Reclaim page) q = page_not_end page q
segment_not_end (Put page n) q = page_not_end page q
segment_not_end e q = omega arith

pub text_has_no_end : (e : Entry) → IsWithin e → HasNo 10 (entry_text e)
text_has_no_end e h = (letter_not_end e, body_no_end (body_of e) (in_body e h) (segment_not_end e))

-- the lines of entries
first_entry : (e : Entry) (es : List Entry) → IsWithin e → lines_in (lines_of (e ∷ es)) ≡ line_of e ∷ lines_in (lines_of es)
first_entry e es h =
    let rest = lines_of es in
    let cut : line_of e ++ rest ≡ entry_text e ++ 10 ∷ rest = ap (λ (z : List ℕ). z ++ rest) (line_is e) ∙ append_assoc (entry_text e) (10 ∷ []) rest in
    ap lines_in cut ∙ line_before (entry_text e) rest (text_has_no_end e h) ∙ ap (λ (z : List ℕ). z ∷ lines_in rest) (sym (line_is e))

lines_are : (es : List Entry) → AreWithin es → AreLines IsEntryLine es (lines_in (lines_of es))
unfolding lines_in
lines_are [] h = tt
lines_are (e ∷ es) h =
    subst (λ (ls : List (List ℕ)). AreLines IsEntryLine (e ∷ es) ls) (sym (first_entry e es h.0)) ((h.0, refl), lines_are es h.1)

-- lines are those of one row of entries at most
pub rows_once : (ds es : List Entry) (ls : List (List ℕ)) → AreLines IsEntryLine ds ls → AreLines IsEntryLine es ls → ds ≡ es
rows_once [] [] ls h k = refl
rows_once [] (e ∷ es) [] h k = absurd k
rows_once [] (e ∷ es) (l ∷ ls) h k = absurd h
rows_once (d ∷ ds) [] [] h k = absurd h
rows_once (d ∷ ds) [] (l ∷ ls) h k = absurd k
rows_once (d ∷ ds) (e ∷ es) [] h k = absurd h
rows_once (d ∷ ds) (e ∷ es) (l ∷ ls) h k =
    let first : d ≡ e = line_once d e l h.0 k.0 in
    ap (λ (x : Entry). x ∷ ds) first ∙ ap (λ (xs : List Entry). e ∷ xs) (rows_once ds es ls h.1 k.1)

-- among lines of entries none is bad
pub none_bad : (es : List Entry) (before : List (List ℕ)) (bad : List ℕ) (after : List (List ℕ)) → AreLines IsEntryLine es (before ++ bad ∷ after)
    → ((e : Entry) → IsEntryLine e bad → ⊥) → ⊥
none_bad [] [] bad after h none = h
none_bad [] (l ∷ ls) bad after h none = h
none_bad (e ∷ es) [] bad after h none = none e h.0
none_bad (e ∷ es) (l ∷ ls) bad after h none = none_bad es ls bad after h.1 none

-- a line's number is one of 32 bits
abbrev pub IsSmallLine : Transcript → Type 0
IsSmallLine (Is entries) = ⊤
IsSmallLine (BadLine n) = n ≤ 4294967295

pub written_is_read : (es : List Entry) (bytes : List ℕ) (t : Transcript) → AreWithin es → bytes ≡ lines_of es → IsReadTranscript bytes t
    → IsSmallLine t → IsRead es t
written_is_read es bytes (Is entries) h is read small =
    rows_once entries.items es (lines_in bytes) read (subst (λ (xs : List ℕ). AreLines IsEntryLine es (lines_in xs)) (sym is) (lines_are es h))
written_is_read es bytes (BadLine m) h is read small =
    none_bad es read.before read.bad read.after
    (subst (λ (ls : List (List ℕ)). AreLines IsEntryLine es ls) read.split (subst (λ (xs : List ℕ). AreLines IsEntryLine es (lines_in xs)) (sym is) (lines_are es h)))
    (read.none small)
