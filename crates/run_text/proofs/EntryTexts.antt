-- Texts that are, or are none, of an entry.
use Rattle.std.proofs.Common.{◌≡◌, ◌≢◌, ℕ, ◌<◌, ◌≤◌, Bool, true, false, List, [], ◌∷◌, ◌++◌, length, refl, sym, ◌∙◌, ap, subst, arith, codes}
use Rattle.std.specs.Prelude.{◌==◌, if◌then◌else◌, Option, Some, None, Result, Ok, Err, IfOk, MatchOption}
use Rattle.std.proofs.lemmas.Option.{none-some}
use Rattle.std.proofs.lemmas.List.{append_cancel_right}
use Rattle.std.proofs.lemmas.Bool.Decides.{nat_tests}
use Rattle.vm_facts.specs.declared.page.Page.{Page}
use Rattle.vm_facts.specs.declared.entry.Entry.{Entry}
use Rattle.run_text.specs.Text.{part, parts, hex_text}
use Rattle.run_text.specs.Pieces.{AtSpace}
use Rattle.run_text.specs.Transcript.{page_numbers, numbers_of, AllBelow, IsWithin, IsEntryLine}
use Rattle.run_text.specs.EntryParts.{Body, Counted, Paged, Written, segment_of, letter_of, body_of, body_text, entry_text, is_page_letter, from_numbers, from_paged, entry_from, kind_of, kind_for, HasParts, HasPageParts}
use Rattle.run_text.proofs.Parts.{line_is, entry_back, kind_is, counted_body, paged_body, written_body, body_numbers, numbers_are, numbers_few, written_some}
use Rattle.run_text.proofs.Words.{cut_part, parts_once, in_body, InBody}

-- a page's parts are parts
pub page_parts : (l segment : ℕ) (a b : ℕ) (ns : List ℕ) (page : Page) (e : Entry) → segment_of page ≡ segment → page_numbers page ≡ a ∷ b ∷ []
    → AllBelow 4294967296 (a ∷ b ∷ ns) → HasPageParts l page ns e → HasParts l (Paged segment (a ∷ b ∷ ns)) e
page_parts l segment a b ns page e same is below h =
    let numbers : page_numbers page ++ ns ≡ a ∷ b ∷ ns = ap (λ (zs : List ℕ). zs ++ ns) is in (
      h.0,
      h.1 ∙ ap (λ (s : ℕ). Paged s (page_numbers page ++ ns)) same ∙ ap (λ (zs : List ℕ). Paged segment zs) numbers,
      h.2 (subst (λ (zs : List ℕ). AllBelow 4294967296 zs) (sym numbers) below),
    )

-- the numbers were read, and are of no entry
pub counted_none : (l : ℕ) (rest numbers : List ℕ) → rest ≡ parts numbers → AllBelow 4294967296 numbers → None ≡ from_numbers l numbers
    → (ns : List ℕ) → length ns ≤ 5 → AllBelow 4294967296 ns → rest ≡ body_text (Counted ns) → from_numbers l ns ≡ None
counted_none l rest numbers read below none ns few k is =
    let same : numbers ≡ ns = parts_once numbers ns below k (sym read ∙ is) in
    sym (none ∙ ap (λ (zs : List ℕ). from_numbers l zs) same)

pub paged_none : (l segment : ℕ) (rest after behind numbers : List ℕ) → rest ≡ 32 ∷ after → after ≡ segment ∷ behind → behind ≡ parts numbers
    → AllBelow 4294967296 numbers → None ≡ from_paged l segment numbers → (s : ℕ) (ns : List ℕ) → length ns ≤ 5 → AllBelow 4294967296 ns
    → rest ≡ body_text (Paged s ns) → from_paged l s ns ≡ None
paged_none l segment rest after behind numbers front cut read below none s ns few k is =
    let tails : segment ∷ behind ≡ s ∷ parts ns = same_tails segment behind s ns rest after front cut is in
    let first : segment ≡ s = same_first segment behind s (parts ns) tails in
    let row : behind ≡ parts ns = same_rest segment behind s (parts ns) tails in
    let same : numbers ≡ ns = parts_once numbers ns below k (sym read ∙ row) in
    sym (none ∙ ap (λ (z : ℕ). from_paged l z numbers) first ∙ ap (λ (zs : List ℕ). from_paged l s zs) same)
  where
    same_first : (a : ℕ) (xs : List ℕ) (b : ℕ) (ys : List ℕ) → a ∷ xs ≡ b ∷ ys → a ≡ b
    same_first a xs b ys e = cc

    same_rest : (a : ℕ) (xs : List ℕ) (b : ℕ) (ys : List ℕ) → a ∷ xs ≡ b ∷ ys → xs ≡ ys
    same_rest a xs b ys e = cc

    same_tails : (a : ℕ) (xs : List ℕ) (b : ℕ) (ns rest after : List ℕ) → rest ≡ 32 ∷ after → after ≡ a ∷ xs → rest ≡ 32 ∷ b ∷ parts ns → a ∷ xs ≡ b ∷ parts ns
    same_tails a xs b ns rest after front cut is = same_rest 32 (a ∷ xs) 32 (b ∷ parts ns) (ap (λ (zs : List ℕ). 32 ∷ zs) (sym cut) ∙ sym front ∙ is)

-- after the process stands no space, or no row of digits
pub behind_process : (rest behind : List ℕ) (p : ℕ) → rest ≡ part p ++ behind → AtSpace behind → p < 4294967296 → (pid : ℕ) (bytes : List ℕ)
    → pid < 4294967296 → rest ≡ body_text (Written pid bytes) → behind ≡ 32 ∷ hex_text bytes
behind_process rest behind p cut at small pid bytes k is = (cut_part p pid behind (32 ∷ hex_text bytes) small k at refl (sym cut ∙ is)).1

-- a text of a letter and a body
pub text_some : (l : ℕ) (rest text : List ℕ) (body : Body) (e : Entry) → text ≡ l ∷ rest → rest ≡ body_text body → HasParts l body e
    → IsWithin e × (text ≡ entry_text e)
text_some l rest text body e cut is h =
    (h.2, cut ∙ ap (λ (zs : List ℕ). l ∷ zs) (is ∙ ap body_text (sym h.1)) ∙ ap (λ (k : ℕ). k ∷ body_text (body_of e)) (sym h.0))

letter_is : (l : ℕ) (rest text : List ℕ) (e : Entry) → text ≡ l ∷ rest → text ≡ entry_text e → (l ≡ letter_of e) × (rest ≡ body_text (body_of e))
letter_is l rest text e cut is = both l rest (letter_of e) (body_text (body_of e)) (sym cut ∙ is)
  where
    both : (a : ℕ) (xs : List ℕ) (b : ℕ) (ys : List ℕ) → a ∷ xs ≡ b ∷ ys → (a ≡ b) × (xs ≡ ys)
    both a xs b ys e = (cc, cc)

found : (l : ℕ) (e : Entry) (body : Body) → IsWithin e → l ≡ letter_of e → body_of e ≡ body → entry_from l body ≡ Some e
found l e body h same is = ap (λ (k : ℕ). entry_from k body) same ∙ ap (λ (x : Body). entry_from (letter_of e) x) (sym is) ∙ entry_back e h

pub text_counted_none : (l : ℕ) (rest text : List ℕ) → text ≡ l ∷ rest → kind_for l ≡ 0
    → ((ns : List ℕ) → length ns ≤ 5 → AllBelow 4294967296 ns → rest ≡ body_text (Counted ns) → from_numbers l ns ≡ None) → (e : Entry) → IsWithin e
    → text ≡ entry_text e → ⊥
text_counted_none l rest text cut kind none e h is =
    let parts_are : (l ≡ letter_of e) × (rest ≡ body_text (body_of e)) = letter_is l rest text e cut is in
    let kinds : kind_of (body_of e) ≡ 0 = kind_is e ∙ ap kind_for (sym parts_are.0) ∙ kind in
    let b : (ns : List ℕ) × (body_of e ≡ Counted ns) = counted_body (body_of e) kinds in
    let numbers : numbers_of e ≡ b.0 = sym (numbers_are e) ∙ ap body_numbers b.1 in
    let missing : from_numbers l b.0 ≡ None =
    none b.0 (subst (λ (zs : List ℕ). length zs ≤ 5) numbers (numbers_few e)) (subst (λ (zs : List ℕ). AllBelow 4294967296 zs) numbers h.0) (parts_are.1 ∙ ap body_text b.1) in
    none-some e (sym missing ∙ found l e (Counted b.0) h parts_are.0 b.1)

pub text_paged_none : (l : ℕ) (rest text : List ℕ) → text ≡ l ∷ rest → kind_for l ≡ 1
    → ((segment : ℕ) (ns : List ℕ) → length ns ≤ 5 → AllBelow 4294967296 ns → rest ≡ body_text (Paged segment ns) → from_paged l segment ns ≡ None)
    → (e : Entry) → IsWithin e → text ≡ entry_text e → ⊥
text_paged_none l rest text cut kind none e h is =
    let parts_are : (l ≡ letter_of e) × (rest ≡ body_text (body_of e)) = letter_is l rest text e cut is in
    let kinds : kind_of (body_of e) ≡ 1 = kind_is e ∙ ap kind_for (sym parts_are.0) ∙ kind in
    let b : (segment : ℕ) × (ns : List ℕ) × (body_of e ≡ Paged segment ns) = paged_body (body_of e) kinds in
    let numbers : numbers_of e ≡ b.1 = sym (numbers_are e) ∙ ap body_numbers b.2 in
    let missing : from_paged l b.0 b.1 ≡ None =
    none b.0 b.1 (subst (λ (zs : List ℕ). length zs ≤ 5) numbers (numbers_few e)) (subst (λ (zs : List ℕ). AllBelow 4294967296 zs) numbers h.0) (parts_are.1 ∙ ap body_text b.2) in
    none-some e (sym missing ∙ found l e (Paged b.0 b.1) h parts_are.0 b.2)

pub text_written_none : (rest text : List ℕ) → text ≡ 111 ∷ rest
    → ((pid : ℕ) (bytes : List ℕ) → pid < 4294967296 → 1 ≤ length bytes → AllBelow 256 bytes → rest ≡ body_text (Written pid bytes) → ⊥) → (e : Entry)
    → IsWithin e → text ≡ entry_text e → ⊥
text_written_none rest text cut none e h is =
    let parts_are : (111 ≡ letter_of e) × (rest ≡ body_text (body_of e)) = letter_is 111 rest text e cut is in
    let kinds : kind_of (body_of e) ≡ 2 = kind_is e ∙ ap kind_for (sym parts_are.0) in
    let b : (pid : ℕ) × (bytes : List ℕ) × (body_of e ≡ Written pid bytes) = written_body (body_of e) kinds in
    let within : InBody (Written b.0 b.1) = subst (λ (x : Body). InBody x) b.2 (in_body e h) in
    let some : (1 ≤ length b.1) × AllBelow 256 b.1 = written_some e b.0 b.1 h b.2 in
    none b.0 b.1 within.0 some.0 some.1 (parts_are.1 ∙ ap body_text b.2)

-- the kind of body that a letter wants
abbrev chosen : Bool → Bool → ℕ
chosen t u = if t then 2 else (if u then 1 else 0)

pub kind_paged : (l : ℕ) → l ≢ 111 → is_page_letter l ≡ true → kind_for l ≡ 1
kind_paged l other page = by (l == 111) (is_page_letter l) (grind (arith, nat_tests)) page
  where
    by : (t u : Bool) → t ≡ false → u ≡ true → chosen t u ≡ 1
    by true u p q = cc
    by false true p q = refl
    by false false p q = cc

pub kind_counted : (l : ℕ) → l ≢ 111 → is_page_letter l ≡ false → kind_for l ≡ 0
kind_counted l other page = by (l == 111) (is_page_letter l) (grind (arith, nat_tests)) page
  where
    by : (t u : Bool) → t ≡ false → u ≡ false → chosen t u ≡ 0
    by true u p q = cc
    by false true p q = cc
    by false false p q = refl

-- the text's line
pub line_none : (text line : List ℕ) → line ≡ text ++ codes "\n" → ((e : Entry) → IsWithin e → text ≡ entry_text e → ⊥) → (e : Entry) → IsEntryLine e line → ⊥
line_none text line cut none e (h, is) =
    none e h (append_cancel_right text (entry_text e) (codes "\n") (sym cut ∙ is ∙ line_is e))

pub line_some : (text line : List ℕ) → line ≡ text ++ codes "\n" → (e : Entry) → IsWithin e × (text ≡ entry_text e) → IsEntryLine e line
line_some text line cut e (h, is) = (h, cut ∙ ap (λ (zs : List ℕ). zs ++ codes "\n") is ∙ sym (line_is e))

-- what a reader answers for a text, from what it answers for the rest
pub text_counted : (l : ℕ) (rest text : List ℕ) (r : Option Entry) → text ≡ l ∷ rest → kind_for l ≡ 0
    → MatchOption r ((ns : List ℕ) → length ns ≤ 5 → AllBelow 4294967296 ns → rest ≡ body_text (Counted ns) → from_numbers l ns ≡ None)
    (λ e. (ns : List ℕ) × (rest ≡ body_text (Counted ns)) × HasParts l (Counted ns) e)
    → MatchOption r ((e : Entry) → IsWithin e → text ≡ entry_text e → ⊥) (λ e. IsWithin e × (text ≡ entry_text e))
text_counted l rest text None cut kind h = text_counted_none l rest text cut kind h
text_counted l rest text (Some e) cut kind (ns, is, h) = text_some l rest text (Counted ns) e cut is h

pub text_paged : (l : ℕ) (rest text : List ℕ) (r : Option Entry) → text ≡ l ∷ rest → kind_for l ≡ 1
    → MatchOption r ((segment : ℕ) (ns : List ℕ) → length ns ≤ 5 → AllBelow 4294967296 ns → rest ≡ body_text (Paged segment ns)
    → from_paged l segment ns ≡ None) (λ e. (segment : ℕ) × (ns : List ℕ) × (rest ≡ body_text (Paged segment ns)) × HasParts l (Paged segment ns) e)
    → MatchOption r ((e : Entry) → IsWithin e → text ≡ entry_text e → ⊥) (λ e. IsWithin e × (text ≡ entry_text e))
text_paged l rest text None cut kind h = text_paged_none l rest text cut kind h
text_paged l rest text (Some e) cut kind (segment, ns, is, h) = text_some l rest text (Paged segment ns) e cut is h

pub text_written : {E : Type 0} (rest text : List ℕ) (r : Result (Option Entry) E) → text ≡ 111 ∷ rest
    → IfOk r (λ o. MatchOption o ((pid : ℕ) (bytes : List ℕ) → pid < 4294967296 → 1 ≤ length bytes → AllBelow 256 bytes → rest ≡ body_text (Written pid bytes)
    → ⊥) (λ e. (pid : ℕ) × (bytes : List ℕ) × (rest ≡ body_text (Written pid bytes)) × HasParts 111 (Written pid bytes) e))
    → IfOk r (λ o. MatchOption o ((e : Entry) → IsWithin e → text ≡ entry_text e → ⊥) (λ e. IsWithin e × (text ≡ entry_text e)))
text_written rest text (Ok None) cut h = text_written_none rest text cut h
text_written rest text (Ok (Some e)) cut (pid, bytes, is, h) = text_some 111 rest text (Written pid bytes) e cut is h
text_written rest text (Err e) cut h = h

pub text_line : {E : Type 0} (text line : List ℕ) (r : Result (Option Entry) E) → line ≡ text ++ codes "\n"
    → IfOk r (λ o. MatchOption o ((e : Entry) → IsWithin e → text ≡ entry_text e → ⊥) (λ e. IsWithin e × (text ≡ entry_text e)))
    → IfOk r (λ o. MatchOption o ((e : Entry) → IsEntryLine e line → ⊥) (λ e. IsEntryLine e line))
text_line text line (Ok None) cut h = line_none text line cut h
text_line text line (Ok (Some e)) cut h = line_some text line cut e h
text_line text line (Err e) cut h = h

-- a line with no end is none of an entry
pub no_end : (line : List ℕ) → ((rest : List ℕ) → line ≡ rest ++ codes "\n" → ⊥) → (e : Entry) → IsEntryLine e line → ⊥
no_end line none e (h, is) = none (entry_text e) (is ∙ line_is e)

-- no bytes have no digits
pub no_bytes : (digits bytes : List ℕ) → length digits ≡ 0 → 1 ≤ length bytes → digits ≡ hex_text bytes → ⊥
no_bytes digits [] none some is = omega arith
no_bytes [] (b ∷ bs) none some is = cc
no_bytes (d ∷ ds) (b ∷ bs) none some is = omega arith
