-- Each entry is got back from the parts of its line.
use Rattle.std.proofs.Common.{◌≡◌, ℕ, suc, ◌≤◌, Bool, true, false, List, [], ◌∷◌, ◌++◌, length, refl, sym, ◌∙◌, ap, subst, append_assoc, arith, codes}
use Rattle.std.specs.Prelude.{nat_lt, if◌then◌else◌, Some, None}
use Rattle.std.proofs.lemmas.List.{append-nil}
use Rattle.std.proofs.lemmas.Bool.Decides.{nat_tests}
use Rattle.vm_facts.specs.declared.page.Page.{Page}
use Rattle.vm_facts.specs.declared.page.Page.TheVariants.{Data, Stack, Text}
use Rattle.vm_facts.specs.declared.entry.Entry.{Entry}
use Rattle.vm_facts.specs.declared.entry.Entry.TheVariants.{Ran, Out, Grew, Call, Zero, Get, Copy, Reclaim, Hands, Put}
use Rattle.run_text.specs.Text.{part, parts, page_text, hex_text, rest_of_line, line_of}
use Rattle.run_text.specs.Transcript.{page_numbers, numbers_of, AllBelow, IsWithin}
use Rattle.run_text.specs.EntryParts.{Body, Counted, Paged, Written, segment_of, letter_of, body_of, body_text, entry_text, page_alone, page_and_one, page_and_two, from_paged, entry_from, kind_of, kind_for}

pub some_count : (n : ℕ) → 1 ≤ n → nat_lt 0 n ≡ true
some_count n h = grind (arith, nat_tests)

-- the text and the line's end make the line
parts_more : (x y z w : List ℕ) → (x ++ (y ++ [])) ++ (z ++ w) ≡ (x ++ (y ++ z)) ++ w
parts_more x y z w =
    ap (λ (u : List ℕ). (x ++ u) ++ (z ++ w)) (append-nil y) ∙ sym (append_assoc (x ++ y) z w) ∙ ap (λ (u : List ℕ). u ++ w) (append_assoc x y z)

written_line : (x y z : List ℕ) → ((x ++ []) ++ 32 ∷ []) ++ y ++ z ≡ (x ++ 32 ∷ y) ++ z
written_line x y z =
    ap (λ (u : List ℕ). (u ++ 32 ∷ []) ++ y ++ z) (append-nil x) ∙ ap (λ (u : List ℕ). u ++ z) (append_assoc x (32 ∷ []) y)

paged_line : (l : ℕ) (page : Page) (ns : List ℕ)
    → (l ∷ []) ++ page_text page ++ rest_of_line ns ≡ (l ∷ body_text (Paged (segment_of page) (page_numbers page ++ ns))) ++ codes "\n"
paged_line l (Data sid v) ns = ap (λ (z : List ℕ). l ∷ 32 ∷ 100 ∷ z) (parts_more (part sid) (part v) (parts ns) (codes "\n"))
paged_line l (Stack sid v) ns = ap (λ (z : List ℕ). l ∷ 32 ∷ 115 ∷ z) (parts_more (part sid) (part v) (parts ns) (codes "\n"))
paged_line l (Text image v) ns = ap (λ (z : List ℕ). l ∷ 32 ∷ 120 ∷ z) (parts_more (part image) (part v) (parts ns) (codes "\n"))

pub line_is : (e : Entry) → line_of e ≡ entry_text e ++ codes "\n"
unfolding line_of
line_is (Out pid bytes) = ap (λ (z : List ℕ). 111 ∷ z) (written_line (part pid) (hex_text bytes) (codes "\n"))
line_is (Zero page) = paged_line 90 page []
line_is (Get page lo n) = paged_line 71 page (lo ∷ n ∷ [])
line_is (Copy page) = paged_line 67 page []
line_is (Reclaim page) = paged_line 82 page []
line_is (Put page n) = paged_line 80 page (n ∷ [])
line_is e = refl

-- a page of its letter and its numbers
page_alone_back : (l : ℕ) (page : Page) → from_paged l (segment_of page) (page_numbers page ++ []) ≡ page_alone l (Some page)
page_alone_back l (Data sid v) = refl
page_alone_back l (Stack sid v) = refl
page_alone_back l (Text image v) = refl

page_and_one_back : (l : ℕ) (page : Page) (n : ℕ) → from_paged l (segment_of page) (page_numbers page ++ n ∷ []) ≡ page_and_one l (Some page) n
page_and_one_back l (Data sid v) n = refl
page_and_one_back l (Stack sid v) n = refl
page_and_one_back l (Text image v) n = refl

page_and_two_back : (l : ℕ) (page : Page) (lo n : ℕ) → from_paged l (segment_of page) (page_numbers page ++ lo ∷ n ∷ []) ≡ page_and_two l (Some page) lo n
page_and_two_back l (Data sid v) lo n = refl
page_and_two_back l (Stack sid v) lo n = refl
page_and_two_back l (Text image v) lo n = refl

-- the entry of its letter and its body
pub entry_back : (e : Entry) → IsWithin e → entry_from (letter_of e) (body_of e) ≡ Some e
entry_back (Ran pid count) h = ap (λ (t : Bool). if t then Some (Ran pid count) else None) (some_count count h.1)
entry_back (Grew pid pages) h = ap (λ (t : Bool). if t then Some (Grew pid pages) else None) (some_count pages h.1)
entry_back (Hands count) h = ap (λ (t : Bool). if t then Some (Hands count) else None) (some_count count h.1)
entry_back (Call pid number true r0 r1) h = refl
entry_back (Call pid number false r0 r1) h = refl
entry_back (Zero page) h = page_alone_back 90 page
entry_back (Copy page) h = page_alone_back 67 page
entry_back (Reclaim page) h = page_alone_back 82 page
entry_back (Put page n) h = page_and_one_back 80 page n ∙ ap (λ (t : Bool). if t then Some (Put page n) else None) (some_count n h.1)
entry_back (Get page lo n) h = page_and_two_back 71 page lo n ∙ ap (λ (t : Bool). if t then Some (Get page lo n) else None) (some_count n h.1)
entry_back e h = refl

-- the letter says which kind of body there is
pub kind_is : (e : Entry) → kind_of (body_of e) ≡ kind_for (letter_of e)
kind_is (Out pid bytes) = refl
kind_is e = refl

pub counted_body : (x : Body) → kind_of x ≡ 0 → (ns : List ℕ) × (x ≡ Counted ns)
counted_body (Counted ns) e = (ns, refl)
counted_body (Paged segment ns) e = absurd (omega arith)
counted_body (Written pid bytes) e = absurd (omega arith)

pub paged_body : (x : Body) → kind_of x ≡ 1 → (segment : ℕ) × (ns : List ℕ) × (x ≡ Paged segment ns)
paged_body (Counted ns) e = absurd (omega arith)
paged_body (Paged segment ns) e = (segment, ns, refl)
paged_body (Written pid bytes) e = absurd (omega arith)

pub written_body : (x : Body) → kind_of x ≡ 2 → (pid : ℕ) × (bytes : List ℕ) × (x ≡ Written pid bytes)
written_body (Counted ns) e = absurd (omega arith)
written_body (Paged segment ns) e = absurd (omega arith)
written_body (Written pid bytes) e = (pid, bytes, refl)

-- the numbers of a body
abbrev pub body_numbers : Body → List ℕ
body_numbers (Counted ns) = ns
body_numbers (Paged segment ns) = ns
body_numbers (Written pid bytes) = pid ∷ []

pub numbers_are : (e : Entry) → body_numbers (body_of e) ≡ numbers_of e
numbers_are (Out pid bytes) = refl
numbers_are e = refl

page_few : (page : Page) (ns : List ℕ) → length (page_numbers page ++ ns) ≡ suc (suc (length ns))
page_few (Data sid v) ns = refl
page_few (Stack sid v) ns = refl
page_few (Text image v) ns = refl

pub numbers_few : (e : Entry) → length (numbers_of e) ≤ 5
numbers_few (Zero page) = omega (arith, page_few page [])
numbers_few (Copy page) = omega (arith, page_few page [])
numbers_few (Reclaim page) = omega (arith, page_few page [])
numbers_few (Put page n) = omega (arith, page_few page (n ∷ []))
numbers_few (Get page lo n) = omega (arith, page_few page (lo ∷ n ∷ []))
numbers_few e = omega arith

-- the bytes that a process wrote
pub written_some : (e : Entry) (pid : ℕ) (bytes : List ℕ) → IsWithin e → body_of e ≡ Written pid bytes → (1 ≤ length bytes) × AllBelow 256 bytes
written_some (Out other wrote) pid bytes h e =
    let same : wrote ≡ bytes = cc in
    subst (λ (xs : List ℕ). (1 ≤ length xs) × AllBelow 256 xs) same h.1
written_some e pid bytes h is = cc
