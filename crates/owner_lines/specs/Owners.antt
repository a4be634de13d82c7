-- Who owns what, line by line: frames, transfers in flight, processes, pages that are due, and the swap area.
use Rattle.std.specs.Prelude.{ℕ, zero, suc, ◌+◌, ◌-◌, ◌==◌, nat_lt, Bool, true, false, if◌then◌else◌, List, [], ◌∷◌, ◌++◌, length, Option, Some, None, codes}
use Rattle.std.specs.List.{flat_map, list_any}
use Rattle.vm_facts.specs.declared.page.Page.{Page}
use Rattle.vm_facts.specs.declared.page.PageState.{PageState}
use Rattle.vm_facts.specs.declared.page.PageState.TheVariants.{Unfilled, Valid, Invalid, Coming, Going, OnSwap}
use Rattle.vm_facts.specs.declared.regs.Regs.{Regs}
use Rattle.core_map.specs.Order.{place_from}
use Rattle.swap_book.specs.declared.Owner.{Owner}
use Rattle.swap_book.specs.declared.Owner.TheVariants as owners
use Rattle.swap_book.specs.declared.Held.{Held}
use Rattle.swap_book.specs.Holdings.{Holdings}
use Rattle.page_model.specs.Frames.{count_up}
use Rattle.page_model.specs.Swapper.{is_out}
use Rattle.page_model.specs.Placement.{Source, FromSwap, FromFile, Errand, Writes, Reads, Part, Transfer, Due, Start, CopyOf, Placement, state_of, mark_of, page_of}
use Rattle.page_model.specs.Ownership.{is_marked_dirty, block_of}
use Rattle.kernel_model.specs.Kernel.{Life, New, HoldsSpace, LendsSpace, Ended, Proc}
use Rattle.machine_state.specs.Machine.{Standing}
use Rattle.run_text.specs.Text.{parts, rest_of_line, page_text}

-- a word where something is so
abbrev pub word_if : Bool → List ℕ → List ℕ
word_if true word = word
word_if false word = []

-- a page after a space, where there is one
abbrev pub page_if : Option Page → List ℕ
page_if None = []
page_if (Some q) = page_text q

-- The journal's length, and the hands.

-- the line of the journal's length, with the word `end` where the run is over
abbrev pub entries_line : ℕ → Bool → List ℕ
entries_line entries over = codes "entries" ++ parts (entries ∷ []) ++ word_if over (codes " end") ++ codes "\n"

-- the line of the hands: the frames of the front one and of the back one
abbrev pub hands_line : Placement → List ℕ
hands_line p = codes "hands" ++ rest_of_line (p.front ∷ p.back ∷ [])

-- Frames.

-- the place of a frame on the free list, 1 for its head; 0 where it isn't free
abbrev pub free_place : Placement → ℕ → ℕ
free_place p f = place_from 1 f p.free

-- a page of the transfer is in the frame
abbrev pub has_frame : ℕ → Transfer → Bool
has_frame f t = list_any (λ (x : Part). x.frame == f) t.parts

-- the number of the transfer that has a frame, where the first has this number; 0 where none has it
abbrev pub carrier_from : ℕ → ℕ → List Transfer → ℕ
carrier_from n f [] = 0
carrier_from n f (t ∷ ts) = if has_frame f t then n else carrier_from (n + 1) f ts

-- the number of the transfer that has a frame, 1 for the oldest
abbrev pub carrier : Placement → ℕ → ℕ
carrier p f = carrier_from 1 f p.transfers

-- a data or stack page that swap hasn't
abbrev pub is_unsaved : Placement → Page → Bool
is_unsaved p q = is_marked_dirty q (mark_of p q)

-- a page with the word for its state, and whether it is dirty
abbrev pub kept_text : List ℕ → Page → Bool → List ℕ
kept_text word q dirty = word ++ page_text q ++ word_if dirty (codes " dirty")

-- a page with the word for its state, and the number of its transfer
abbrev pub moved_text : List ℕ → ℕ → Page → List ℕ
moved_text word n q = word ++ parts (n ∷ []) ++ page_text q

-- the page of a frame off the free list, by its state
abbrev pub used_by : Placement → Page → PageState → List ℕ
used_by p q Unfilled = []
used_by p q (Valid f) = kept_text (codes " valid") q (is_unsaved p q)
used_by p q (Invalid f) = kept_text (codes " invalid") q (is_unsaved p q)
used_by p q (Coming f) = moved_text (codes " read") (carrier p f) q
used_by p q (Going f) = moved_text (codes " write") (carrier p f) q
used_by p q OnSwap = []

-- the page in a frame off the free list
abbrev pub used_text : Placement → Option Page → List ℕ
used_text p None = []
used_text p (Some q) = used_by p q (state_of p q)

-- the page that a frame on the free list still holds, if any, after the frame's place
abbrev pub free_text : ℕ → Option Page → List ℕ
free_text n page = codes " free" ++ parts (n ∷ []) ++ page_if page

-- what is said of a frame, by its place on the free list
abbrev pub owner_text : Placement → ℕ → ℕ → List ℕ
owner_text p f zero = used_text p (page_of p f)
owner_text p f (suc n) = free_text (suc n) (page_of p f)

-- the line of a frame: its number, and what is said of it
abbrev pub frame_line : Placement → ℕ → List ℕ
frame_line p f = codes "frame" ++ parts (f ∷ []) ++ owner_text p f (free_place p f) ++ codes "\n"

-- the lines of all frames, from frame 1 on
abbrev pub frame_lines : Placement → List ℕ
frame_lines p = flat_map (frame_line p) (count_up 1 (length p.holds))

-- Transfers.

-- the word for where a read is from: swap, or the file of the image
abbrev pub source_word : Source → List ℕ
source_word FromSwap = codes " swap"
source_word FromFile = codes " file"

-- what a transfer is for: a write, or a read, with where it is from and the page that is demanded
abbrev pub errand_text : Errand → List ℕ
errand_text Writes = codes " write"
errand_text (Reads source demanded) = source_word source ++ page_text demanded

-- a block after a space, where there is one
abbrev pub block_if : Option ℕ → List ℕ
block_if None = []
block_if (Some b) = parts (b ∷ [])

-- the first of the two blocks of swap from which a page is read, or to which it is written
abbrev pub block_moved : Holdings → Errand → Page → Option ℕ
block_moved hs Writes q = block_of hs q
block_moved hs (Reads FromSwap demanded) q = block_of hs q
block_moved hs (Reads FromFile demanded) q = None

-- a page in a frame, with its block
abbrev pub moved_line : Page → ℕ → Option ℕ → List ℕ
moved_line q f block = codes "part" ++ page_text q ++ parts (f ∷ []) ++ block_if block ++ codes "\n"

-- a page of a transfer, with its block as these pieces are held
abbrev pub part_line : Holdings → Errand → Part → List ℕ
part_line hs e x = moved_line x.page x.frame (block_moved hs e x.page)

-- a transfer by its number, and its pages
abbrev pub transfer_lines : Holdings → ℕ → Transfer → List ℕ
transfer_lines hs n t = codes "transfer" ++ parts (n ∷ []) ++ errand_text t.errand ++ codes "\n" ++ flat_map (part_line hs t.errand) t.parts

-- the transfers, of which the first has this number
abbrev pub transfers_from : Holdings → ℕ → List Transfer → List ℕ
transfers_from hs n [] = []
transfers_from hs n (t ∷ ts) = transfer_lines hs n t ++ transfers_from hs (n + 1) ts

-- Processes.

-- the word for a process that is swapped out, or for one that isn't
abbrev pub in_or_out : Bool → List ℕ
in_or_out true = codes " out"
in_or_out false = codes " in"

-- the space that a process holds, whether the process is out, and whether it is asleep
abbrev pub holder_text : Bool → ℕ → Bool → List ℕ
holder_text out sid asleep = in_or_out out ++ parts (sid ∷ []) ++ word_if asleep (codes " asleep")

-- what a process has; between two entries none is new
abbrev pub life_text : Bool → Bool → Life → List ℕ
life_text out asleep New = []
life_text out asleep (HoldsSpace sid) = holder_text out sid asleep
life_text out asleep (LendsSpace sid child) = codes " lent" ++ parts (sid ∷ child ∷ [])
life_text out asleep (Ended status) = codes " ended" ++ parts (status ∷ [])

-- the line of a process: its number, and what it has
abbrev pub process_line : Placement → Proc → List ℕ
process_line p q = codes "process" ++ parts (q.pid ∷ []) ++ life_text (is_out p q.pid) q.asleep q.life ++ codes "\n"

-- the letters of the condition codes that are set
abbrev pub codes_text : Regs → List ℕ
codes_text regs = word_if regs.n (codes " N") ++ word_if regs.z (codes " Z") ++ word_if regs.v (codes " V") ++ word_if regs.c (codes " C")

-- the line of a process's registers: R0 to R11, AP, FP, SP and PC, and the condition codes that are set
abbrev pub registers_line : ℕ → Regs → List ℕ
registers_line pid regs = codes "registers" ++ parts (pid ∷ []) ++ parts regs.r ++ codes_text regs ++ codes "\n"

-- a process that is out has its registers in its u page
abbrev pub registers_in : Bool → ℕ → Regs → List ℕ
registers_in true pid regs = []
registers_in false pid regs = registers_line pid regs

-- the line of the registers of a process that is in, by what it has; one that has ended has none
abbrev pub registers_text : Bool → ℕ → Regs → Life → List ℕ
registers_text out pid regs New = []
registers_text out pid regs (HoldsSpace sid) = registers_in out pid regs
registers_text out pid regs (LendsSpace sid child) = registers_in out pid regs
registers_text out pid regs (Ended status) = []

-- the lines of a process, its own and that of its registers
abbrev pub process_lines : Placement → Proc → List ℕ
process_lines p q = process_line p q ++ registers_text (is_out p q.pid) q.pid q.regs q.life

-- What is due.

-- the parent's page, where a page is copied from it
abbrev pub from_text : Option Page → List ℕ
from_text None = []
from_text (Some parent) = codes " from" ++ page_text parent

-- the line of a page that is due for a fill, with the parent's page where it is copied from one
abbrev pub fill_line : Page → Option Page → List ℕ
fill_line q parent = codes "due" ++ page_text q ++ from_text parent ++ codes "\n"

-- the line of a page that is due for a fill: a new stack page 0, or a child's page and its parent's
abbrev pub due_line : Due → List ℕ
due_line (Start q) = fill_line q None
due_line (CopyOf q parent) = fill_line q (Some parent)

-- The swap area.

-- who holds a piece
abbrev pub owner_of_piece : Owner → List ℕ
owner_of_piece (owners.Data sid) = codes " d" ++ parts (sid ∷ [])
owner_of_piece (owners.Stack sid) = codes " s" ++ parts (sid ∷ [])
owner_of_piece (owners.U pid) = codes " u" ++ parts (pid ∷ [])
owner_of_piece (owners.Text image) = codes " x" ++ parts (image ∷ [])

-- a row of blocks, by its first one and its length, with what is said of it
abbrev pub swap_line : ℕ → ℕ → List ℕ → List ℕ
swap_line start blocks said = codes "swap" ++ parts (start ∷ blocks ∷ []) ++ said ++ codes "\n"

-- the line of a piece: its first block, how many it has, and who holds it
abbrev pub piece_line : Held → List ℕ
piece_line h = swap_line h.start h.length (owner_of_piece h.owner)

-- the blocks from one on to another, which nobody holds, where there are any
abbrev pub gap_line : ℕ → ℕ → List ℕ
gap_line b end = word_if (nat_lt b end) (swap_line b (end - b) (codes " free"))

-- a piece among pieces whose first blocks rise
abbrev pub placed : Held → Holdings → Holdings
placed h [] = h ∷ []
placed h (g ∷ gs) = if nat_lt g.start h.start then g ∷ placed h gs else h ∷ g ∷ gs

-- the pieces by their first blocks
abbrev pub rising : Holdings → Holdings
rising [] = []
rising (h ∷ hs) = placed h (rising hs)

-- the pieces, whose first blocks rise, and what is free between them, from a block on to the area's end
abbrev pub blocks_from : ℕ → ℕ → Holdings → List ℕ
blocks_from size b [] = gap_line b size
blocks_from size b (h ∷ hs) = gap_line b h.start ++ piece_line h ++ blocks_from size (h.start + h.length) hs

-- the lines of a swap area of so many blocks, from block 0 on: the pieces that are held, and what is free
abbrev pub swap_lines : ℕ → Holdings → List ℕ
swap_lines size hs = blocks_from size 0 (rising hs)

-- All lines: how long the journal is and whether the run is over, where all pages are, who holds which blocks of an area of
-- this size, and the processes with their registers.
unfoldable pub owners_text : ℕ → Bool → Placement → Holdings → ℕ → List Proc → List ℕ
owners_text entries over p hs size processes = entries_line entries over ++ hands_line p ++ frame_lines p ++ transfers_from hs 1 p.transfers
    ++ flat_map (process_lines p) processes ++ flat_map due_line p.due ++ swap_lines size hs

-- the lines of a machine, whose holdings are those before the pieces that were found for an entry to come
abbrev pub owners_lines : Standing → Bool → List ℕ
owners_lines m over = owners_text (length m.kernel.journal) over m.kernel.place m.before m.params.swap_blocks m.kernel.processes
