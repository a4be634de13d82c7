-- The parts of an entry's line: a letter, and after it numbers, a page's letter and numbers, or a
-- process and bytes.
use Prim.Native.Char.{code}
use Rattle.std.specs.Prelude.{◌≡◌, ℕ, ◌==◌, Bool, ◌&&◌, ◌||◌, if◌then◌else◌, nat_lt, List, [], ◌∷◌, ◌++◌, Option, Some, None}
use Rattle.vm_facts.specs.declared.page.Page.{Page}
use Rattle.vm_facts.specs.declared.page.Page.TheVariants.{Data, Stack, Text}
use Rattle.vm_facts.specs.declared.entry.Entry.{Entry}
use Rattle.vm_facts.specs.declared.entry.Entry.TheVariants.{Event, Turn, Ran, Out, Grew, Call, Refused, Sleeps, Ended, Zero, Get, Copy, Reclaim, Hands, Put, Done, SwapOut, SwapIn, Owners}
use Rattle.run_text.specs.Text.{part, parts, hex_text}
use Rattle.run_text.specs.Transcript.{page_numbers, numbers_of, AllBelow, IsWithin}

-- what a line has after its letter: numbers; a segment's letter and numbers; or a process and the bytes that it wrote
pub data Body : Type 0 where
  Counted : List ℕ → Body
  Paged : ℕ → List ℕ → Body
  Written : ℕ → List ℕ → Body

-- the letter of a page's segment: d, s or x
abbrev pub segment_of : Page → ℕ
segment_of (Data sid v) = code "d"
segment_of (Stack sid v) = code "s"
segment_of (Text image v) = code "x"

-- the letter that an entry's line begins with
abbrev pub letter_of : Entry → ℕ
letter_of (Event line) = code "e"
letter_of (Turn pid) = code "t"
letter_of (Ran pid count) = code "r"
letter_of (Out pid bytes) = code "o"
letter_of (Grew pid pages) = code "g"
letter_of (Call pid number carry r0 r1) = code "c"
letter_of (Refused pid) = code "f"
letter_of (Sleeps pid) = code "s"
letter_of (Ended pid status) = code "x"
letter_of (Zero page) = code "Z"
letter_of (Get page lo n) = code "G"
letter_of (Copy page) = code "C"
letter_of (Reclaim page) = code "R"
letter_of (Hands count) = code "H"
letter_of (Put page n) = code "P"
letter_of Done = code "D"
letter_of (SwapOut pid) = code "O"
letter_of (SwapIn pid) = code "I"
letter_of (Owners free used moving held) = code "M"

-- what an entry's line has after its letter
abbrev pub body_of : Entry → Body
body_of (Out pid bytes) = Written pid bytes
body_of (Zero page) = Paged (segment_of page) (numbers_of (Zero page))
body_of (Get page lo n) = Paged (segment_of page) (numbers_of (Get page lo n))
body_of (Copy page) = Paged (segment_of page) (numbers_of (Copy page))
body_of (Reclaim page) = Paged (segment_of page) (numbers_of (Reclaim page))
body_of (Put page n) = Paged (segment_of page) (numbers_of (Put page n))
body_of e = Counted (numbers_of e)

-- the text of a line after its letter: numbers in decimal, each after a space, and bytes in hexadecimal
abbrev pub body_text : Body → List ℕ
body_text (Counted ns) = parts ns
body_text (Paged segment ns) = code " " ∷ segment ∷ parts ns
body_text (Written pid bytes) = part pid ++ code " " ∷ hex_text bytes

-- the text of a line without its end
abbrev pub entry_text : Entry → List ℕ
entry_text e = letter_of e ∷ body_text (body_of e)

-- the letters of entries with a page
abbrev pub is_page_letter : ℕ → Bool
is_page_letter l = l == code "Z" || (l == code "G" || (l == code "C" || (l == code "R" || l == code "P")))

-- the entry of a letter with no number
abbrev pub with_none : ℕ → Option Entry
with_none l = if l == code "D" then Some Done else None

-- the entry of a letter and one number
abbrev pub with_one : ℕ → ℕ → Option Entry
with_one l a =
    if l == code "e" then Some (Event a) else (if l == code "t" then Some (Turn a) else (if l == code "f" then Some (Refused a) else (if l == code "s" then Some
    (Sleeps a) else (if l == code "O" then Some (SwapOut a)
    else (if l == code "I" then Some (SwapIn a) else (if l == code "H" && nat_lt 0 a then Some (Hands a) else None))))))

-- the entry of a letter and two numbers
abbrev pub with_two : ℕ → ℕ → ℕ → Option Entry
with_two l a b =
    if l == code "x" then Some (Ended a b)
    else (if l == code "r" && nat_lt 0 b then Some (Ran a b) else (if l == code "g" && nat_lt 0 b then Some (Grew a b) else None))

-- the entry of a letter and four numbers
abbrev pub with_four : ℕ → ℕ → ℕ → ℕ → ℕ → Option Entry
with_four l a b c d = if l == code "M" then Some (Owners a b c d) else None

-- the entry of a letter and five numbers
abbrev pub with_five : ℕ → ℕ → ℕ → ℕ → ℕ → ℕ → Option Entry
with_five l a b c d e = if l == code "c" && nat_lt c 2 then Some (Call a b (c == 1) d e) else None

-- the entry of a letter and these numbers; none where no entry has that many
abbrev pub from_numbers : ℕ → List ℕ → Option Entry
from_numbers l [] = with_none l
from_numbers l (a ∷ []) = with_one l a
from_numbers l (a ∷ b ∷ []) = with_two l a b
from_numbers l (a ∷ b ∷ c ∷ []) = None
from_numbers l (a ∷ b ∷ c ∷ d ∷ []) = with_four l a b c d
from_numbers l (a ∷ b ∷ c ∷ d ∷ e ∷ []) = with_five l a b c d e
from_numbers l (a ∷ b ∷ c ∷ d ∷ e ∷ f ∷ ns) = None

-- the page of a letter and two numbers
abbrev pub page_from : ℕ → ℕ → ℕ → Option Page
page_from s a b = if s == code "d" then Some (Data a b) else (if s == code "s" then Some (Stack a b) else (if s == code "x" then Some (Text a b) else None))

-- the entry of a letter and a page alone
abbrev pub page_alone : ℕ → Option Page → Option Entry
page_alone l None = None
page_alone l (Some page) =
    if l == code "Z" then Some (Zero page) else (if l == code "C" then Some (Copy page) else (if l == code "R" then Some (Reclaim page) else None))

-- the entry of a letter, a page and one further number
abbrev pub page_and_one : ℕ → Option Page → ℕ → Option Entry
page_and_one l None n = None
page_and_one l (Some page) n = if l == code "P" && nat_lt 0 n then Some (Put page n) else None

-- the entry of a letter, a page and two further numbers
abbrev pub page_and_two : ℕ → Option Page → ℕ → ℕ → Option Entry
page_and_two l None lo n = None
page_and_two l (Some page) lo n = if l == code "G" && nat_lt 0 n then Some (Get page lo n) else None

-- the entry of a letter, a segment's letter and numbers, of which the first two are the page's
abbrev pub from_paged : ℕ → ℕ → List ℕ → Option Entry
from_paged l s [] = None
from_paged l s (a ∷ []) = None
from_paged l s (a ∷ b ∷ []) = page_alone l (page_from s a b)
from_paged l s (a ∷ b ∷ n ∷ []) = page_and_one l (page_from s a b) n
from_paged l s (a ∷ b ∷ lo ∷ n ∷ []) = page_and_two l (page_from s a b) lo n
from_paged l s (a ∷ b ∷ c ∷ d ∷ e ∷ ns) = None

-- the entry of a letter and a body
abbrev pub entry_from : ℕ → Body → Option Entry
entry_from l (Counted ns) = from_numbers l ns
entry_from l (Paged segment ns) = from_paged l segment ns
entry_from l (Written pid bytes) = if l == code "o" then Some (Out pid bytes) else None

-- the kind of a body: numbers, a page's, or bytes
abbrev pub kind_of : Body → ℕ
kind_of (Counted ns) = 0
kind_of (Paged segment ns) = 1
kind_of (Written pid bytes) = 2

-- the kind of body that the entries of a letter have
abbrev pub kind_for : ℕ → ℕ
kind_for l = if l == code "o" then 2 else (if is_page_letter l then 1 else 0)

-- an entry has this letter and this body, and is within its ranges
abbrev pub HasParts : ℕ → Body → Entry → Type 0
HasParts l body e = (letter_of e ≡ l) × (body_of e ≡ body) × IsWithin e

-- an entry has this letter, this page and these further numbers, and is within its ranges where all of
-- these numbers are
abbrev pub HasPageParts : ℕ → Page → List ℕ → Entry → Type 0
HasPageParts l page ns e =
    (letter_of e ≡ l) × (body_of e ≡ Paged (segment_of page) (page_numbers page ++ ns)) × (AllBelow 4294967296 (page_numbers page ++ ns) → IsWithin e)
