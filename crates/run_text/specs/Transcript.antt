-- The grammar of a transcript: each line is that of an entry within its ranges.
use Rattle.std.specs.Prelude.{◌≡◌, ◌≤◌, ◌<◌, ℕ, List, [], ◌∷◌, ◌++◌, length, ⊤}
use Rattle.vm_facts.specs.declared.page.Page.{Page}
use Rattle.vm_facts.specs.declared.page.Page.TheVariants.{Data, Stack, Text}
use Rattle.vm_facts.specs.declared.entry.Entry.{Entry}
use Rattle.vm_facts.specs.declared.entry.Entry.TheVariants.{Event, Turn, Ran, Out, Grew, Call, Refused, Sleeps, Ended, Zero, Get, Copy, Reclaim, Hands, Put, Done, SwapOut, SwapIn, Owners}
use Rattle.run_text.specs.declared.answers.Transcript.{Transcript}
use Rattle.run_text.specs.declared.answers.Transcript.TheVariants.{Is, BadLine}
use Rattle.run_text.specs.Lines.{lines_in, AreLines, IsFirstBad}
use Rattle.run_text.specs.Text.{bit_of, line_of}

-- the numbers of a page
abbrev pub page_numbers : Page → List ℕ
page_numbers (Data sid v) = sid ∷ v ∷ []
page_numbers (Stack sid v) = sid ∷ v ∷ []
page_numbers (Text image v) = image ∷ v ∷ []

-- the numbers of an entry, in the order of its line
abbrev pub numbers_of : Entry → List ℕ
numbers_of (Event line) = line ∷ []
numbers_of (Turn pid) = pid ∷ []
numbers_of (Ran pid count) = pid ∷ count ∷ []
numbers_of (Out pid bytes) = pid ∷ []
numbers_of (Grew pid pages) = pid ∷ pages ∷ []
numbers_of (Call pid number carry r0 r1) = pid ∷ number ∷ bit_of carry ∷ r0 ∷ r1 ∷ []
numbers_of (Refused pid) = pid ∷ []
numbers_of (Sleeps pid) = pid ∷ []
numbers_of (Ended pid status) = pid ∷ status ∷ []
numbers_of (Zero page) = page_numbers page ++ []
numbers_of (Get page lo n) = page_numbers page ++ lo ∷ n ∷ []
numbers_of (Copy page) = page_numbers page ++ []
numbers_of (Reclaim page) = page_numbers page ++ []
numbers_of (Hands count) = count ∷ []
numbers_of (Put page n) = page_numbers page ++ n ∷ []
numbers_of Done = []
numbers_of (SwapOut pid) = pid ∷ []
numbers_of (SwapIn pid) = pid ∷ []
numbers_of (Owners free used moving held) = free ∷ used ∷ moving ∷ held ∷ []

-- each number is below the bound
abbrev pub AllBelow : ℕ → List ℕ → Type 0
AllBelow bound [] = ⊤
AllBelow bound (n ∷ ns) = (n < bound) × AllBelow bound ns

-- the bytes that a process wrote
abbrev pub bytes_of : Entry → List ℕ
bytes_of (Out pid bytes) = bytes
bytes_of _ = []

-- its numbers have 32 bits, and what a process wrote are bytes: this is so of every entry that is at hand
abbrev pub HasNumbers : Entry → Type 0
HasNumbers e = AllBelow 4294967296 (numbers_of e) × AllBelow 256 (bytes_of e)

-- the numbers of each entry have 32 bits, and what a process wrote are bytes
abbrev pub HaveNumbers : List Entry → Type 0
HaveNumbers [] = ⊤
HaveNumbers (e ∷ es) = HasNumbers e × HaveNumbers es

-- counts of instructions, of moves and of pages are at least 1, and a process wrote at least one byte
abbrev pub CountsSome : Entry → Type 0
CountsSome (Ran pid count) = 1 ≤ count
CountsSome (Out pid bytes) = (1 ≤ length bytes) × AllBelow 256 bytes
CountsSome (Grew pid pages) = 1 ≤ pages
CountsSome (Get page lo n) = 1 ≤ n
CountsSome (Hands count) = 1 ≤ count
CountsSome (Put page n) = 1 ≤ n
CountsSome _ = ⊤

-- an entry is within its ranges: its numbers have 32 bits
abbrev pub IsWithin : Entry → Type 0
IsWithin e = AllBelow 4294967296 (numbers_of e) × CountsSome e

-- each entry is within its ranges
abbrev pub AreWithin : List Entry → Type 0
AreWithin [] = ⊤
AreWithin (e ∷ es) = IsWithin e × AreWithin es

-- the line of an entry within its ranges
abbrev pub IsEntryLine : Entry → List ℕ → Type 0
IsEntryLine e line = IsWithin e × (line ≡ line_of e)

-- what a transcript reads as: its entries, one a line, or its first bad line
abbrev pub IsReadTranscript : List ℕ → Transcript → Type 0
IsReadTranscript bytes (Is entries) = AreLines IsEntryLine entries.items (lines_in bytes)
IsReadTranscript bytes (BadLine n) = IsFirstBad IsEntryLine 4294967295 n (lines_in bytes)

-- a transcript was read as these entries
abbrev pub IsRead : List Entry → Transcript → Type 0
IsRead es (Is entries) = entries.items ≡ es
IsRead es (BadLine n) = ⊥
