-- A walk over a placement: what was recorded of a run, operation by operation, and what the definitions make of it.
use Rattle.std.proofs.Common.{ℕ, zero, suc, ◌+◌, Bool, List, [], ◌∷◌, ◌++◌, map, replicate, Option, Some, None}
use Rattle.vm_facts.specs.declared.page.Page.{Page}
use Rattle.vm_facts.specs.declared.page.PageState.{PageState}
use Rattle.vm_facts.specs.declared.entry.Entry.{Entry}
use Rattle.aout_image.specs.declared.Kind.{Kind}
use Rattle.flat_state.specs.Flat.{NamedImage, image_numbered}
use Rattle.flat_state.specs.declared.change.Change.{Change}
use Rattle.page_model.specs.Pages.{Slot, Filling, SpacePages, TextPages}
use Rattle.page_model.specs.Placement.{Placement, Starting, Residence, start_placement}
use Rattle.page_model.specs.Moves.{touch_all}
use Rattle.page_model.specs.Hands.{wants_moves}
use Rattle.page_model.specs.Serve.{serve_unit}
use Rattle.page_model.specs.Place.{Changing, place_entry, place_change, facts_of}
use Rattle.page_model.specs.Swapper.{Runner, Choice, swap_choice, put_out_unit}

-- Short words for the placements.

-- an image by its kind, its lengths in bytes and its entry
abbrev pub named : Kind → ℕ → ℕ → ℕ → ℕ → NamedImage
named kind text_len data_len bss_len entry = record {
  name = [];
  image = record { facts = record { kind = kind; text_len = text_len; data_len = data_len; bss_len = bss_len; entry = entry }; text = []; «data» = [] };
}

abbrev pub slot : PageState → Bool → Filling → Slot
slot state mark filling = record { state = state; mark = mark; filling = filling }

-- a space by its number, its image, its data pages and its stack pages
abbrev pub space : ℕ → ℕ → List Slot → List Slot → SpacePages
space sid image data_pages stack_pages = record { sid = sid; image = image; data_pages = data_pages; stack_pages = stack_pages }

-- the text of an image, by its number, and its pages
abbrev pub text_of : ℕ → List Slot → TextPages
text_of image text_pages = record { image = image; text_pages = text_pages }

-- a process's place in memory or out of it: its pid, whether it is out, and since when
abbrev pub residence : ℕ → Bool → ℕ → Residence
residence pid out since = record { pid = pid; out = out; since = since }

-- what the swapper asks of a process: its pid, its space, whether it borrowed that, and whether it sleeps
abbrev pub runner : ℕ → ℕ → Bool → Bool → Runner
runner pid sid borrowed asleep = record { pid = pid; sid = sid; borrowed = borrowed; asleep = asleep }

-- so many frames that hold no page
abbrev pub empty : ℕ → List (Option Page)
empty n = replicate n None

-- so many frames, from one on
abbrev pub frames : ℕ → ℕ → List ℕ
frames f zero = []
frames f (suc n) = f ∷ frames (f + 1) n

-- so many groups of rows, each by its number, numbered from one on
abbrev pub rows : {A : Type 0} → ℕ → ℕ → (ℕ → List A) → List A
rows k zero group = []
rows k (suc n) group = group k ++ rows (k + 1) n group

-- a process that starts with an image
abbrev pub starts_with : ℕ → Option NamedImage → List Starting
starts_with n None = []
starts_with n (Some x) = record { image = n; facts = x.image.facts } ∷ []

abbrev pub starts : List NamedImage → List ℕ → List Starting
starts images [] = []
starts images (n ∷ ns) = starts_with n (image_numbered images n) ++ starts images ns

-- the placement at the start of a run: its images, the numbers of its first processes' images, and how many frames
abbrev pub starting : List NamedImage → List ℕ → ℕ → Placement
starting images first n = start_placement (map (λ (x : NamedImage). x.image.facts) images) (starts images first) n

-- Operations.

-- What was done in a recorded run, in its order. A list of pages first is those that are locked, and the number after
-- it is the place in the journal.
pub data Operation : Type 0 where
  -- this entry, whichever unit the definitions would choose
  Fixed : List Page → ℕ → Entry → Operation
  -- the unit that serving this page asks for, where waiting is allowed or not
  Serve : List Page → ℕ → Page → Bool → Operation
  -- the unit that putting out a process asks for, by its pid and its space
  PutsOut : ℕ → ℕ → ℕ → Operation
  -- a turn of the swapper over these processes
  Choose : List Runner → Operation
  -- whether the hands should move by themselves
  Wants : Operation
  -- a change of a process: its pid, its space, whether it borrowed that, the number of the next space, the place in
  -- the journal, and the pages that it wrote before
  Step : ℕ → ℕ → Bool → ℕ → ℕ → List Page → Change → Operation

-- what the definitions make or choose on the way, and the placement that is left
pub data Seen : Type 0 where
  Made : Option Entry → Seen
  Chose : Choice → Seen
  Moves : Bool → Seen
  Ends : Placement → Seen

-- units that are made
abbrev pub made : List Entry → List Seen
made entries = map (λ (e : Entry). Made (Some e)) entries

-- a unit is made where there is one
abbrev pub by_unit : List Page → ℕ → Placement → Option Entry → Placement
by_unit locked at p None = p
by_unit locked at p (Some e) = place_entry locked at p e

abbrev pub walk : List NamedImage → List Operation → Placement → List Seen
walk images [] p = Ends p ∷ []
walk images (Fixed locked at e ∷ rest) p = walk images rest (place_entry locked at p e)
walk images (Serve locked at q now ∷ rest) p =
    Made (serve_unit p q now) ∷ walk images rest (by_unit locked at p (serve_unit p q now))
walk images (PutsOut at pid sid ∷ rest) p =
    Made (Some (put_out_unit p pid sid)) ∷ walk images rest (place_entry [] at p (put_out_unit p pid sid))
walk images (Choose runners ∷ rest) p = Chose (swap_choice p runners) ∷ walk images rest p
walk images (Wants ∷ rest) p = Moves (wants_moves p) ∷ walk images rest p
walk images (Step pid sid borrowed next_sid at written change ∷ rest) p =
    let c : Changing = record { images = facts_of images; pid = pid; sid = sid; borrowed = borrowed; next_sid = next_sid; at = at } in
    walk images rest (place_change c (touch_all p written) change)

-- the units and choices alone
abbrev pub chosen : List Seen → List Seen
chosen [] = []
chosen (Ends p ∷ xs) = chosen xs
chosen (Made e ∷ xs) = Made e ∷ chosen xs
chosen (Chose c ∷ xs) = Chose c ∷ chosen xs
chosen (Moves b ∷ xs) = Moves b ∷ chosen xs
