-- Writes of pages to swap, and what makes a further write of a page worth it.
use Rattle.std.specs.Prelude.{◌≡◌, ◌⊎◌, ℕ, Bool, true, false, List, [], ◌∷◌, map}
use Rattle.vm_facts.specs.declared.page.Page.{Page}
use Rattle.vm_facts.specs.declared.page.Page.TheVariants.{Data, Stack, Text}
use Rattle.vm_facts.specs.declared.entry.Entry.{Entry}
use Rattle.vm_facts.specs.declared.entry.Entry.TheVariants as entries
use Rattle.swap_book.specs.declared.Owner.TheVariants as owners
use Rattle.swap_book.specs.Holdings.{lengths}
use Rattle.flat_state.specs.Flat.{Inputs}
use Rattle.flat_state.specs.PageNames.{same_page, is_among}
use Rattle.page_model.specs.Placement.{Placement, Transfer, Part, Errand, Writes, Reads, FromFile}
use Rattle.flat_model.specs.Run.{step_at}
use Rattle.run_model.specs.State.{State}
use Rattle.run_model.specs.After.{after}
use Rattle.run_model.specs.Snapshot.{pages_written}

-- Writes.

-- the pages that a transfer writes to swap, by what it is for; a read writes none
abbrev pub stored_by : Errand → List Part → List Page
stored_by Writes xs = map (λ (x : Part). x.page) xs
stored_by (Reads source demanded) xs = []

-- the pages that the oldest transfer writes to swap; none where it is a read, or there is none
abbrev pub stored_first : List Transfer → List Page
stored_first [] = []
stored_first (t ∷ ts) = stored_by t.errand t.parts

-- the pages that a unit writes to swap: those of the oldest transfer, where that is a write and it completes
abbrev pub stored_pages : Placement → Entry → List Page
stored_pages p entries.Done = stored_first p.transfers
stored_pages p _ = []

-- User writes and fills.

-- a transfer for this is a read from the image's file that the page demanded
abbrev pub arrives_by : Errand → Page → Bool
arrives_by (Reads FromFile demanded) q = same_page demanded q
arrives_by _ q = false

-- the oldest transfer is a read from the image's file that the page demanded
abbrev pub arrives_first : List Transfer → Page → Bool
arrives_first [] q = false
arrives_first (t ∷ ts) q = arrives_by t.errand q

-- the pages that a process writes with its step
abbrev pub step_writes : Inputs → State → ℕ → List Page
step_writes A s pid = pages_written s.point.flat pid (step_at A s.point pid)

-- a unit makes a data or stack page other than it was on swap: the user writes it, or it is filled by `Zero`, `Copy` or the image
abbrev pub renews_page : Inputs → State → Entry → Page → Bool
renews_page A s (entries.Zero r) q = same_page r q
renews_page A s (entries.Copy r) q = same_page r q
renews_page A s entries.Done q = arrives_first s.place.transfers q
renews_page A s (entries.Ran pid n) q = is_among q (step_writes A s pid)
renews_page A s (entries.Grew pid pages) q = is_among q (step_writes A s pid)
renews_page A s (entries.Call pid number carry r0 r1) q = is_among q (step_writes A s pid)
renews_page A s (entries.Sleeps pid) q = is_among q (step_writes A s pid)
renews_page A s (entries.Ended pid status) q = is_among q (step_writes A s pid)
renews_page A s _ q = false

-- no lengths of pieces, so that none is held
abbrev pub is_empty : List ℕ → Bool
is_empty [] = true
is_empty (n ∷ ns) = false

-- after the unit no swap pieces are held for the image's text: they are given back
abbrev pub frees_text : Inputs → State → Entry → ℕ → Bool
frees_text A s u image = is_empty (lengths (owners.Text image) (after A s u).holdings)

-- a unit after which a page may be written again
abbrev pub renews : Inputs → State → Entry → Page → Bool
renews A s u (Data sid v) = renews_page A s u (Data sid v)
renews A s u (Stack sid v) = renews_page A s u (Stack sid v)
renews A s u (Text image v) = frees_text A s u image

-- one of these units, from this state on, is so
abbrev pub Happens : (Inputs → State → Entry → Bool) → Inputs → State → List Entry → Type 0
Happens test A s [] = ⊥
Happens test A s (u ∷ us) = (test A s u ≡ true) ⊎ Happens test A (after A s u) us
