-- The text of a journal: a line for each entry, with the paging entries or without.
use Rattle.std.specs.Prelude.{ℕ, ◌+◌, ◌/◌, ◌%◌, ◌==◌, Bool, true, false, if◌then◌else◌, nat_lt, List, [], ◌∷◌, ◌++◌, codes, decimal}
use Rattle.std.specs.List.{flat_map}
use Rattle.vm_facts.specs.declared.page.Page.{Page}
use Rattle.vm_facts.specs.declared.page.Page.TheVariants.{Data, Stack, Text}
use Rattle.vm_facts.specs.declared.entry.Entry.{Entry}
use Rattle.vm_facts.specs.declared.entry.Entry.TheVariants.{Event, Turn, Ran, Out, Grew, Call, Refused, Sleeps, Ended, Zero, Get, Copy, Reclaim, Hands, Put, Done, SwapOut, SwapIn, Owners}

-- a number after a space
abbrev pub part : ℕ → List ℕ
part n = codes " " ++ decimal n

-- numbers, each after a space
abbrev pub parts : List ℕ → List ℕ
parts ns = flat_map part ns

-- the rest of a line: numbers, each after a space, and the line's end
abbrev pub rest_of_line : List ℕ → List ℕ
rest_of_line ns = parts ns ++ codes "\n"

-- a page after a space: the letter of its segment, the space or the image, and the page's number
abbrev pub page_text : Page → List ℕ
page_text (Data sid v) = codes " d" ++ parts (sid ∷ v ∷ [])
page_text (Stack sid v) = codes " s" ++ parts (sid ∷ v ∷ [])
page_text (Text image v) = codes " x" ++ parts (image ∷ v ∷ [])

-- a hexadecimal digit in lower case
abbrev pub hex_digit : ℕ → ℕ
hex_digit d = if nat_lt d 10 then 48 + d else 87 + d

-- a byte as a pair of hexadecimal digits, the high one first
abbrev pub hex_pair : ℕ → List ℕ
hex_pair b = hex_digit (b / 16) ∷ hex_digit (b % 16) ∷ []

-- bytes as pairs of hexadecimal digits
abbrev pub hex_text : List ℕ → List ℕ
hex_text bytes = flat_map hex_pair bytes

-- the carry as a number
abbrev pub bit_of : Bool → ℕ
bit_of true = 1
bit_of false = 0

-- the line of an entry, with its end
unfoldable pub line_of : Entry → List ℕ
line_of (Event line) = codes "e" ++ rest_of_line (line ∷ [])
line_of (Turn pid) = codes "t" ++ rest_of_line (pid ∷ [])
line_of (Ran pid count) = codes "r" ++ rest_of_line (pid ∷ count ∷ [])
line_of (Out pid bytes) = codes "o" ++ parts (pid ∷ []) ++ codes " " ++ hex_text bytes ++ codes "\n"
line_of (Grew pid pages) = codes "g" ++ rest_of_line (pid ∷ pages ∷ [])
line_of (Call pid number carry r0 r1) = codes "c" ++ rest_of_line (pid ∷ number ∷ bit_of carry ∷ r0 ∷ r1 ∷ [])
line_of (Refused pid) = codes "f" ++ rest_of_line (pid ∷ [])
line_of (Sleeps pid) = codes "s" ++ rest_of_line (pid ∷ [])
line_of (Ended pid status) = codes "x" ++ rest_of_line (pid ∷ status ∷ [])
line_of (Zero page) = codes "Z" ++ page_text page ++ rest_of_line []
line_of (Get page lo n) = codes "G" ++ page_text page ++ rest_of_line (lo ∷ n ∷ [])
line_of (Copy page) = codes "C" ++ page_text page ++ rest_of_line []
line_of (Reclaim page) = codes "R" ++ page_text page ++ rest_of_line []
line_of (Hands count) = codes "H" ++ rest_of_line (count ∷ [])
line_of (Put page n) = codes "P" ++ page_text page ++ rest_of_line (n ∷ [])
line_of Done = codes "D" ++ rest_of_line []
line_of (SwapOut pid) = codes "O" ++ rest_of_line (pid ∷ [])
line_of (SwapIn pid) = codes "I" ++ rest_of_line (pid ∷ [])
line_of (Owners free used moving held) = codes "M" ++ rest_of_line (free ∷ used ∷ moving ∷ held ∷ [])

-- the lines of entries, one after another
abbrev pub lines_of : List Entry → List ℕ
lines_of es = flat_map line_of es

-- the paging entries are those whose letter is a capital one
abbrev pub is_paging : Entry → Bool
is_paging (Zero page) = true
is_paging (Get page lo n) = true
is_paging (Copy page) = true
is_paging (Reclaim page) = true
is_paging (Hands count) = true
is_paging (Put page n) = true
is_paging Done = true
is_paging (SwapOut pid) = true
is_paging (SwapIn pid) = true
is_paging (Owners free used moving held) = true
is_paging _ = false

-- an entry before others, unless it is left out
abbrev pub unless : Bool → Entry → List Entry → List Entry
unless true e es = es
unless false e es = e ∷ es

-- the entries without the paging entries
abbrev pub without_paging : List Entry → List Entry
without_paging [] = []
without_paging (e ∷ es) = unless (is_paging e) e (without_paging es)

-- two neighbouring `Ran`, which become one where the process is the same
abbrev pub join_ran : Bool → ℕ → ℕ → ℕ → ℕ → List Entry → List Entry
join_ran true p m q n es = Ran p (m + n) ∷ es
join_ran false p m q n es = Ran p m ∷ Ran q n ∷ es

-- an entry before others that are joined already
abbrev pub join_before : Entry → List Entry → List Entry
join_before (Ran p m) (Ran q n ∷ es) = join_ran (p == q) p m q n es
join_before e es = e ∷ es

-- neighbouring `Ran` of one process become one
abbrev pub joined : List Entry → List Entry
joined [] = []
joined (e ∷ es) = join_before e (joined es)

-- the text of a journal: every entry's line, or, without the trace of the paging, the lines of the
-- other entries, neighbouring `Ran` of one process joined
unfoldable pub text_of : Bool → List Entry → List ℕ
text_of true es = lines_of es
text_of false es = lines_of (joined (without_paging es))
