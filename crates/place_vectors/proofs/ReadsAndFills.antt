-- What reads and fills leave, by the rule in words: a page that is read from swap is clean till it is written, one from the
-- image's file is dirty, and text isn't saved; neighbours wait at the tail of the free list; and a page whose free frame
-- is taken is on swap, or as text that isn't saved unfilled.
use Rattle.std.proofs.Common.{◌≡◌, ℕ, true, false, List, [], ◌∷◌, Option, Some, None, refl}
use Rattle.vm_facts.specs.declared.page.Page.{Page}
use Rattle.vm_facts.specs.declared.page.Page.TheVariants.{Data, Stack, Text}
use Rattle.vm_facts.specs.declared.page.PageState.TheVariants.{Unfilled, Valid, Invalid, OnSwap}
use Rattle.vm_facts.specs.declared.entry.Entry.TheVariants as entries
use Rattle.swap_dmap.specs.Chunks.{chunk, chunk_start, lowest_below, chunk_reached, counted_from, spot, text_spot}
use Rattle.flat_state.specs.declared.change.Change.TheVariants.{Keep}
use Rattle.page_model.specs.Pages.{Slot, Zeros, OfImage}
use Rattle.page_model.specs.Placement.{Placement}
use Rattle.place_vectors.proofs.Walk.{Operation, Serve, Step, Made, Ends, slot, empty, frames, walk}

-- a space of an image, in eight frames
placed : List Slot → List Slot → List Slot → List (Option Page) → List ℕ → Placement
placed pages stack text holds free = record {
  spaces = record { sid = 1; image = 1; data_pages = pages; stack_pages = stack } ∷ [];
  texts = record { image = 1; text_pages = text } ∷ [];
  holds = holds;
  free = free;
  transfers = [];
  front = 3;
  back = 1;
  residents = [];
  due = [];
}

serve : Page → Operation
serve q = Serve [] 9 q true

-- a data page of the file, two of swap and one of zeros; a stack page of swap; two text pages of the file
reads_and_fills :
    walk []
    (serve (Data 1 0) ∷ serve (Data 1 0) ∷ serve (Data 1 1) ∷ serve (Data 1 1) ∷ serve (Stack 1 0) ∷ serve (Stack 1 0) ∷
    serve (Text 1 0) ∷ serve (Text 1 0) ∷ Step 1 1 false 2 9 (Data 1 1 ∷ Stack 1 0 ∷ Text 1 0 ∷ []) Keep ∷
    serve (Data 1 3) ∷ serve (Data 1 2) ∷ serve (Data 1 2) ∷ [])
    (placed
    (slot Unfilled false OfImage ∷ slot OnSwap false Zeros ∷ slot OnSwap false Zeros ∷ slot Unfilled false Zeros ∷ [])
    (slot OnSwap false Zeros ∷ []) (slot Unfilled false Zeros ∷ slot Unfilled false Zeros ∷ []) (empty 8) (frames 1 8))
    ≡ Made (Some (entries.Get (Data 1 0) 0 1)) ∷ Made (Some entries.Done) ∷ Made (Some (entries.Get (Data 1 1) 1 2)) ∷
    Made (Some entries.Done) ∷ Made (Some (entries.Get (Stack 1 0) 0 1)) ∷ Made (Some entries.Done) ∷
    Made (Some (entries.Get (Text 1 0) 0 2)) ∷ Made (Some entries.Done) ∷ Made (Some (entries.Zero (Data 1 3))) ∷
    Made (Some (entries.Reclaim (Data 1 2))) ∷ Made None ∷
    Ends
    (placed
    (slot (Valid 1) true Zeros ∷ slot (Valid 2) true Zeros ∷ slot (Valid 3) false Zeros ∷ slot (Valid 7) true Zeros ∷ [])
    (slot (Valid 4) true Zeros ∷ []) (slot (Valid 5) false Zeros ∷ slot (Invalid 6) false Zeros ∷ [])
    (Some (Data 1 0) ∷ Some (Data 1 1) ∷ Some (Data 1 2) ∷ Some (Stack 1 0) ∷ Some (Text 1 0) ∷ Some (Text 1 1) ∷ Some (Data 1 3) ∷ None ∷ [])
    (8 ∷ 6 ∷ [])) ∷ []
unfolding placed serve spot chunk_reached lowest_below chunk_start chunk counted_from text_spot
reads_and_fills = refl

-- what is read from swap and not written stays clean
read_and_not_written :
    walk [] (serve (Data 1 0) ∷ serve (Data 1 0) ∷ []) (placed (slot OnSwap false Zeros ∷ []) [] [] (empty 8) (frames 1 8))
    ≡ Made (Some (entries.Get (Data 1 0) 0 1)) ∷ Made (Some entries.Done) ∷
    Ends (placed (slot (Valid 1) false Zeros ∷ []) [] [] (Some (Data 1 0) ∷ empty 7) (frames 2 7)) ∷ []
unfolding placed serve spot chunk_reached lowest_below chunk_start chunk counted_from text_spot
read_and_not_written = refl

-- three free frames that hold a saved text page, one that isn't saved, and a clean data page are taken
frames_taken :
    walk [] (serve (Data 1 1) ∷ serve (Data 1 2) ∷ serve (Data 1 3) ∷ [])
    (placed
    (slot (Invalid 3) false Zeros ∷ slot Unfilled false Zeros ∷ slot Unfilled false Zeros ∷ slot Unfilled false Zeros ∷ [])
    [] (slot (Invalid 1) true Zeros ∷ slot (Invalid 2) false Zeros ∷ [])
    (Some (Text 1 0) ∷ Some (Text 1 1) ∷ Some (Data 1 0) ∷ empty 5) (frames 1 8))
    ≡ Made (Some (entries.Zero (Data 1 1))) ∷ Made (Some (entries.Zero (Data 1 2))) ∷ Made (Some (entries.Zero (Data 1 3))) ∷
    Ends
    (placed
    (slot OnSwap false Zeros ∷ slot (Valid 1) true Zeros ∷ slot (Valid 2) true Zeros ∷ slot (Valid 3) true Zeros ∷ [])
    [] (slot OnSwap true Zeros ∷ slot Unfilled false Zeros ∷ [])
    (Some (Data 1 1) ∷ Some (Data 1 2) ∷ Some (Data 1 3) ∷ empty 5) (frames 4 5)) ∷ []
unfolding placed serve spot chunk_reached lowest_below chunk_start chunk counted_from text_spot
frames_taken = refl
