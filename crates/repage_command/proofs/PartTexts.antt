-- Texts that are, or are none, of a part.
use Rattle.std.proofs.Common.{◌≡◌, ℕ, ◌≤◌, Bool, List, [], ◌∷◌, ◌++◌, length, refl, sym, ◌∙◌, ap, subst, arith, codes, append_assoc}
use Rattle.std.specs.Prelude.{if◌then◌else◌, Option, Some, None}
use Rattle.std.proofs.lemmas.Option.{none-some}
use Rattle.vm_facts.specs.declared.page.Page.{Page}
use Rattle.vm_facts.specs.declared.page.Page.TheVariants.{Data, Stack, Text}
use Rattle.kernel_model.specs.declared.part.HandPart.{HandPart}
use Rattle.kernel_model.specs.declared.part.HandPart.TheVariants.{Expires, Writes, Frees}
use Rattle.run_text.specs.Text.{part, parts}
use Rattle.run_text.specs.Transcript.{page_numbers, AllBelow}
use Rattle.run_text.specs.EntryParts.{segment_of}
use Rattle.run_text.proofs.Words.{parts_once}
use Rattle.run_text.proofs.Parts.{some_count}
use Rattle.repage_command.specs.Grammar.{part_line, part_numbers, IsPartWithin}
use Rattle.repage_command.specs.PartFrom.{part_letter, part_page, part_text, part_from, HasPagePart, HasPart}

-- a page's part is a part
pub page_part : (l segment : ℕ) (a b : ℕ) (ns : List ℕ) (page : Page) (x : HandPart) → segment_of page ≡ segment → page_numbers page ≡ a ∷ b ∷ []
    → HasPagePart l page ns x → HasPart l segment (a ∷ b ∷ ns) x
page_part l segment a b ns page x same is h =
    (h.0, ap segment_of h.1 ∙ same, h.2 ∙ ap (λ (zs : List ℕ). zs ++ ns) is, h.3)

-- The line.

line_run : (a b c d : List ℕ) → (a ++ (b ++ [])) ++ ((c ++ []) ++ d) ≡ (a ++ (b ++ (c ++ []))) ++ d
line_run a b c d = simp append_assoc

pub part_line_is : (x : HandPart) → part_line x ≡ part_text x ++ codes "\n"
part_line_is (Expires (Data sid v)) = refl
part_line_is (Expires (Stack sid v)) = refl
part_line_is (Expires (Text image v)) = refl
part_line_is (Writes (Data sid v) n) = ap (λ (z : List ℕ). 87 ∷ 32 ∷ 100 ∷ z) (line_run (part sid) (part v) (part n) (codes "\n"))
part_line_is (Writes (Stack sid v) n) = ap (λ (z : List ℕ). 87 ∷ 32 ∷ 115 ∷ z) (line_run (part sid) (part v) (part n) (codes "\n"))
part_line_is (Writes (Text image v) n) = ap (λ (z : List ℕ). 87 ∷ 32 ∷ 120 ∷ z) (line_run (part image) (part v) (part n) (codes "\n"))
part_line_is (Frees (Data sid v)) = refl
part_line_is (Frees (Stack sid v)) = refl
part_line_is (Frees (Text image v)) = refl

-- The part of its letter, its page's letter and its numbers.

abbrev when_some : Page → ℕ → Bool → Option HandPart
when_some q n t = if t then Some (Writes q n) else None

part_back : (x : HandPart) → IsPartWithin x → part_from (part_letter x) (segment_of (part_page x)) (part_numbers x) ≡ Some x
part_back (Expires (Data sid v)) h = refl
part_back (Expires (Stack sid v)) h = refl
part_back (Expires (Text image v)) h = refl
part_back (Writes (Data sid v) n) h = ap (when_some (Data sid v) n) (some_count n h.1)
part_back (Writes (Stack sid v) n) h = ap (when_some (Stack sid v) n) (some_count n h.1)
part_back (Writes (Text image v) n) h = ap (when_some (Text image v) n) (some_count n h.1)
part_back (Frees (Data sid v)) h = refl
part_back (Frees (Stack sid v)) h = refl
part_back (Frees (Text image v)) h = refl

pub numbers_few : (x : HandPart) → length (part_numbers x) ≤ 5
numbers_few (Expires (Data sid v)) = omega arith
numbers_few (Expires (Stack sid v)) = omega arith
numbers_few (Expires (Text image v)) = omega arith
numbers_few (Writes (Data sid v) n) = omega arith
numbers_few (Writes (Stack sid v) n) = omega arith
numbers_few (Writes (Text image v) n) = omega arith
numbers_few (Frees (Data sid v)) = omega arith
numbers_few (Frees (Stack sid v)) = omega arith
numbers_few (Frees (Text image v)) = omega arith

-- A text that is cut.

-- a letter and what stands after it
pub record CutText (l segment : ℕ) (behind text : List ℕ) : Type 0 where
  pub rest : List ℕ
  pub after : List ℕ
  pub whole : text ≡ l ∷ rest
  pub space : rest ≡ 32 ∷ after
  pub page : after ≡ segment ∷ behind

-- what stands behind the letter of a part, and behind the space
pub rest_is : (l : ℕ) (rest text : List ℕ) (x : HandPart) → text ≡ l ∷ rest → text ≡ part_text x
    → rest ≡ 32 ∷ segment_of (part_page x) ∷ parts (part_numbers x)
rest_is l rest text x whole is =
    let e : l ∷ rest ≡ part_letter x ∷ 32 ∷ segment_of (part_page x) ∷ parts (part_numbers x) = sym whole ∙ is in cc

pub after_is : (l : ℕ) (after rest text : List ℕ) (x : HandPart) → text ≡ l ∷ rest → rest ≡ 32 ∷ after → text ≡ part_text x
    → after ≡ segment_of (part_page x) ∷ parts (part_numbers x)
after_is l after rest text x whole space is =
    let e : 32 ∷ after ≡ 32 ∷ segment_of (part_page x) ∷ parts (part_numbers x) = sym space ∙ rest_is l rest text x whole is in cc

-- a text of no bytes begins with none
pub none_first : (text : List ℕ) (first : ℕ) (rest : List ℕ) → length text ≡ 0 → text ≡ first ∷ rest → ⊥
none_first [] first rest none is = cc
none_first (b ∷ bs) first rest none is = omega arith

pub cut_text : (l segment : ℕ) (rest after behind text : List ℕ) → text ≡ l ∷ rest → rest ≡ 32 ∷ after → after ≡ segment ∷ behind
    → CutText l segment behind text
cut_text l segment rest after behind text whole space page = record { rest = rest; after = after; whole = whole; space = space; page = page }

cut_is : (l segment : ℕ) (behind text : List ℕ) → CutText l segment behind text → text ≡ l ∷ 32 ∷ segment ∷ behind
cut_is l segment behind text c = c.whole ∙ ap (λ (zs : List ℕ). l ∷ zs) (c.space ∙ ap (λ (zs : List ℕ). 32 ∷ zs) c.page)

record SameCut (l segment m s : ℕ) (behind row : List ℕ) : Type 0 where
  letter : l ≡ m
  page : segment ≡ s
  numbers : behind ≡ row

same_cut : (l segment m s : ℕ) (behind row : List ℕ) → l ∷ 32 ∷ segment ∷ behind ≡ m ∷ 32 ∷ s ∷ row → SameCut l segment m s behind row
same_cut l segment m s behind row e = record { letter = cc; page = cc; numbers = cc }

module _ (l segment : ℕ) (behind text : List ℕ) where
  cut_part_is : (x : HandPart) → CutText l segment behind text → text ≡ part_text x
      → SameCut l segment (part_letter x) (segment_of (part_page x)) behind (parts (part_numbers x))
  cut_part_is x c is =
      same_cut l segment (part_letter x) (segment_of (part_page x)) behind (parts (part_numbers x)) (sym (cut_is l segment behind text c) ∙ is)

  -- what stands behind the page's letter is the numbers of a part
  pub behind_numbers : (x : HandPart) → CutText l segment behind text → text ≡ part_text x → behind ≡ parts (part_numbers x)
  behind_numbers x c is = (cut_part_is x c is).numbers

  -- numbers of no part
  pub part_none : (numbers : List ℕ) → CutText l segment behind text → behind ≡ parts numbers → AllBelow 4294967296 numbers
      → None ≡ part_from l segment numbers → (x : HandPart) → IsPartWithin x → text ≡ part_text x → ⊥
  part_none numbers c read below none x h is =
      let s : SameCut l segment (part_letter x) (segment_of (part_page x)) behind (parts (part_numbers x)) = cut_part_is x c is in
      let same : numbers ≡ part_numbers x = parts_once numbers (part_numbers x) below h.0 (sym read ∙ s.numbers) in
      none-some x (none ∙ ap (λ (k : ℕ). part_from k segment numbers) s.letter ∙ ap (λ (k : ℕ). part_from (part_letter x) k numbers) s.page
      ∙ ap (λ (zs : List ℕ). part_from (part_letter x) (segment_of (part_page x)) zs) same ∙ part_back x h)

-- numbers of a part
pub part_some : (l segment : ℕ) (behind text numbers : List ℕ) (x : HandPart) → CutText l segment behind text → behind ≡ parts numbers
    → AllBelow 4294967296 numbers → HasPart l segment numbers x → IsPartWithin x × (text ≡ part_text x)
part_some l segment behind text numbers x c read below h = (
  (subst (AllBelow 4294967296) (sym h.2) below, h.3),
  cut_is l segment behind text c
      ∙ ap (λ (k : ℕ). k ∷ 32 ∷ segment ∷ behind) (sym h.0)
      ∙ ap (λ (k : ℕ). part_letter x ∷ 32 ∷ k ∷ behind) (sym h.1)
      ∙ ap (λ (zs : List ℕ). part_letter x ∷ 32 ∷ segment_of (part_page x) ∷ zs) (read ∙ ap parts (sym h.2)),
)
