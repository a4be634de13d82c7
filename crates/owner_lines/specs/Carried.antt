-- What is found of the transfers for a frame's line, and the lines of a transfer by what the ring has of it.
use Rattle.std.specs.Prelude.{ℕ, ◌+◌, ◌==◌, Bool, true, false, if◌then◌else◌, List, [], ◌∷◌, ◌++◌, Option, Some, None, codes}
use Rattle.std.specs.List.{flat_map}
use Rattle.vm_facts.specs.declared.page.Page.{Page}
use Rattle.transfer_ring.specs.declared.transfer.Inbound.{Inbound}
use Rattle.transfer_ring.specs.declared.transfer.Outbound.{Outbound}
use Rattle.transfer_ring.specs.declared.transfer.Transfer.{Transfer as Flight}
use Rattle.transfer_ring.specs.declared.transfer.Transfer.TheVariants as flights
use Rattle.transfer_ring.specs.declared.transfer.Source.{Source as From}
use Rattle.transfer_ring.specs.declared.transfer.Source.TheVariants as froms
use Rattle.page_model.specs.Placement.{Errand, Writes, Reads, Part, Transfer, Due}
use Rattle.swap_book.specs.Holdings.{Holdings}
use Rattle.machine_state.specs.View.{source_shown}
use Rattle.owner_lines.specs.declared.frames.Carried.{Carried}
use Rattle.owner_lines.specs.Owners.{source_word, moved_line, moved_text, transfer_lines, due_line}
use Rattle.run_text.specs.Text.{page_text}

-- the page that is in a frame
abbrev pub page_in : ℕ → List Part → Option Page
page_in f [] = None
page_in f (x ∷ xs) = if x.frame == f then Some x.page else page_in f xs

-- the transfer is a write
abbrev pub is_write : Errand → Bool
is_write Writes = true
is_write (Reads source demanded) = false

-- what a transfer of this number carries in a frame, if it has a page there, or else this
abbrev pub carried_by : ℕ → Errand → Option Page → Option Carried → Option Carried
carried_by n e None rest = rest
carried_by n e (Some q) rest = Some (record { number = n; is_write = is_write e; page = q })

-- the page that a transfer of this number has in a frame
abbrev pub carried_in : ℕ → ℕ → Transfer → Option Carried
carried_in n f t = carried_by n t.errand (page_in f t.parts) None

-- the page that a transfer of this number has in a frame, if there is such a transfer
abbrev pub carried_if : ℕ → ℕ → Option Transfer → Option Carried
carried_if n f None = None
carried_if n f (Some t) = carried_in n f t

-- the first transfer that has a frame, where the first of all has this number, and the page that it has there
abbrev pub carried_from : ℕ → ℕ → List Transfer → Option Carried
carried_from n f [] = None
carried_from n f (t ∷ ts) = carried_by n t.errand (page_in f t.parts) (carried_from (n + 1) f ts)

-- the number of what was found; 0 where nothing was
abbrev pub carried_number : Option Carried → ℕ
carried_number None = 0
carried_number (Some c) = c.number

-- the word that tells whether a page is written or read
abbrev pub carrying_word : Bool → List ℕ
carrying_word true = codes " write"
carrying_word false = codes " read"

-- what is said of a frame that a transfer has
abbrev pub carried_text : Option Carried → List ℕ
carried_text None = []
carried_text (Some c) = moved_text (carrying_word c.is_write) c.number c.page

-- the block that is read
abbrev pub block_read : From → Option ℕ
block_read (froms.Swap block) = Some block
block_read (froms.File id offset count) = None

-- the line of a page that is read
abbrev pub inbound_line : Inbound → List ℕ
inbound_line x = moved_line x.page x.token.number (block_read x.source)

-- the line of a page that is written
abbrev pub outbound_line : Outbound → List ℕ
outbound_line x = moved_line x.page x.token.number (Some x.block)

-- what stands after a transfer's number, and the lines of its pages
abbrev pub flight_text : Flight → List ℕ
flight_text (flights.Read demanded parts) = source_word (source_shown parts.items) ++ page_text demanded ++ codes "\n" ++ flat_map inbound_line parts.items
flight_text (flights.Write parts) = codes " write\n" ++ flat_map outbound_line parts.items

-- the lines of a transfer of this number, where there is one
abbrev pub transfer_if : Holdings → ℕ → Option Transfer → List ℕ
transfer_if hs n None = []
transfer_if hs n (Some t) = transfer_lines hs n t

-- the line of a page that is due, if one is
abbrev pub due_if : Option Due → List ℕ
due_if None = []
due_if (Some d) = due_line d
