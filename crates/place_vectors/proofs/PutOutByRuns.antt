-- A process is put out, by the rule in words: while a transfer has a page of its space, or of a text that nobody else
-- shares, that one ends first; a clean page's frame is given up alone, and dirty pages in frames off the free list are
-- written together, upwards and within a chunk; the stack comes after the data, and last the process is out.
use Rattle.std.proofs.Common.{◌≡◌, ℕ, Bool, true, false, List, [], ◌∷◌, ◌++◌, map, replicate, Some, refl}
use Rattle.vm_facts.specs.declared.page.Page.TheVariants.{Data, Stack, Text}
use Rattle.vm_facts.specs.declared.page.PageState.TheVariants.{Valid, Invalid, Coming, OnSwap}
use Rattle.vm_facts.specs.declared.entry.Entry.TheVariants as entries
use Rattle.swap_dmap.specs.Chunks.{chunk, chunk_start, lowest_below, chunk_reached, counted_from, spot, text_spot}
use Rattle.page_model.specs.Pages.{Slot, Zeros, SpacePages}
use Rattle.page_model.specs.Placement.{Placement, Residence, Reads, FromFile}
use Rattle.page_model.specs.Swapper.{put_out_unit}
use Rattle.place_vectors.proofs.Walk.{PutsOut, Made, Ends, slot, empty, frames, walk}

space : ℕ → List Slot → List Slot → SpacePages
space sid pages stack = record { sid = sid; image = 1; data_pages = pages; stack_pages = stack }

resident : Bool → ℕ → Residence
resident out since = record { pid = 1; out = out; since = since }

-- data page 16 is clean, 17 invalid and dirty, 18 valid and dirty, 19 clean, and 20 dirty and on the free list; the pages
-- below are on swap, and the stack page is dirty
held : List Slot → List Slot → List ℕ → List Residence → Placement
held pages stack free residents = record {
  spaces = space 1 (replicate 16 (slot OnSwap false Zeros) ++ pages) stack ∷ [];
  texts = [];
  holds =
      Some (Data 1 16) ∷ Some (Data 1 17) ∷ Some (Data 1 18) ∷ Some (Data 1 19) ∷ Some (Data 1 20) ∷ Some (Stack 1 0) ∷ empty 2;
  free = free;
  transfers = [];
  front = 3;
  back = 1;
  residents = residents;
  due = [];
}

put_out_by_runs :
    walk [] (map (λ at. PutsOut at 1 1) (frames 11 7))
    (held
    (slot (Valid 1) false Zeros ∷ slot (Invalid 2) true Zeros ∷ slot (Valid 3) true Zeros ∷ slot (Valid 4) false Zeros ∷ slot (Invalid 5) true Zeros ∷ [])
    (slot (Valid 6) true Zeros ∷ []) (5 ∷ 7 ∷ 8 ∷ []) (resident false 0 ∷ []))
    ≡ Made (Some (entries.Put (Data 1 16) 1)) ∷ Made (Some (entries.Put (Data 1 17) 2)) ∷ Made (Some entries.Done) ∷
    Made (Some (entries.Put (Data 1 19) 1)) ∷ Made (Some (entries.Put (Stack 1 0) 1)) ∷ Made (Some entries.Done) ∷
    Made (Some (entries.SwapOut 1)) ∷
    Ends
    (held
    (slot (Invalid 1) false Zeros ∷ slot (Invalid 2) false Zeros ∷ slot (Invalid 3) false Zeros ∷ slot (Invalid 4) false Zeros ∷ slot (Invalid 5) true Zeros ∷ [])
    (slot (Invalid 6) false Zeros ∷ []) (5 ∷ 7 ∷ 8 ∷ 1 ∷ 2 ∷ 3 ∷ 4 ∷ 6 ∷ []) (resident true 17 ∷ [])) ∷ []
unfolding space resident held spot chunk_reached lowest_below chunk_start chunk counted_from text_spot
put_out_by_runs = refl

-- pages 14 to 17 are dirty: 14 and 15 are the last of chunk 0
across_chunks : Placement
across_chunks = record {
  spaces =
      space 1
      (replicate 14 (slot OnSwap false Zeros) ++ slot (Valid 1) true Zeros ∷ slot (Valid 2) true Zeros ∷ slot (Valid 3) true Zeros ∷ slot (Valid 4) true Zeros ∷ [])
      [] ∷ [];
  texts = [];
  holds = Some (Data 1 14) ∷ Some (Data 1 15) ∷ Some (Data 1 16) ∷ Some (Data 1 17) ∷ empty 4;
  free = frames 5 4;
  transfers = [];
  front = 3;
  back = 1;
  residents = [];
  due = [];
}

within_a_chunk : put_out_unit across_chunks 1 1 ≡ entries.Put (Data 1 14) 2
unfolding space across_chunks spot chunk_reached lowest_below chunk_start chunk counted_from text_spot
within_a_chunk = refl

-- a text page is on its way in, and a stack page of space 1 is clean
text_coming : List SpacePages → Placement
text_coming others = record {
  spaces = space 1 [] (slot (Valid 1) false Zeros ∷ []) ∷ others;
  texts = record { image = 1; text_pages = slot (Coming 2) false Zeros ∷ [] } ∷ [];
  holds = Some (Stack 1 0) ∷ Some (Text 1 0) ∷ empty 6;
  free = frames 3 6;
  transfers = record { errand = Reads FromFile (Text 1 0); parts = record { page = Text 1 0; frame = 2 } ∷ [] } ∷ [];
  front = 3;
  back = 1;
  residents = [];
  due = [];
}

text_of_its_own_waits :
    put_out_unit (text_coming []) 1 1 ∷ put_out_unit (text_coming (space 2 [] [] ∷ [])) 1 1 ∷ []
    ≡ entries.Done ∷ entries.Put (Stack 1 0) 1 ∷ []
unfolding space text_coming spot chunk_reached lowest_below chunk_start chunk counted_from text_spot
text_of_its_own_waits = refl
