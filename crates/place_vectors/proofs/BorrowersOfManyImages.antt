-- Borrowers that run another image, break, and end, in 128 frames; data pages of the image's file, read one by one;
-- forks of spaces of which pages are unfilled with bytes of the file.
use Rattle.std.proofs.Common.{◌≡◌, true, false, List, [], ◌∷◌, ◌++◌, replicate, Some, None, refl}
use Rattle.vm_facts.specs.declared.page.Page.TheVariants.{Data, Stack, Text}
use Rattle.vm_facts.specs.declared.page.PageState.TheVariants.{Unfilled, Invalid}
use Rattle.vm_facts.specs.declared.entry.Entry.TheVariants as entries
use Rattle.aout_image.specs.declared.Kind.TheVariants.{Paged}
use Rattle.swap_dmap.specs.Chunks.{chunk, chunk_start, lowest_below, chunk_reached, counted_from, spot, text_spot}
use Rattle.flat_state.specs.Flat.{NamedImage}
use Rattle.flat_state.specs.declared.change.Change.TheVariants.{Resize, Fork, Lend, Exec, End}
use Rattle.page_model.specs.Pages.{Zeros}
use Rattle.page_model.specs.Placement.{Placement}
use Rattle.place_vectors.proofs.Walk.{Operation, Fixed, Serve, Step, Seen, Made, Ends, named, slot, empty, frames, starting, walk, made, text_of}

images : List NamedImage
images =
    named Paged 16384 3072 1024 0 ∷
    named Paged 16384 3072 0 0 ∷
    named Paged 16384 0 1024 0 ∷ []

operations : List Operation
operations =
    Fixed [] 1 (entries.Zero (Stack 1 0)) ∷ Serve [] 19 (Text 1 0) false ∷ Serve [] 0 (Text 1 0) false ∷
    Serve [] 21 (Text 1 0) true ∷ Serve (Text 1 0 ∷ []) 23 (Data 1 0) true ∷
    Serve (Text 1 0 ∷ []) 24 (Data 1 0) true ∷ Step 1 1 false 2 26 [] (Lend 2) ∷ Step 2 1 true 2 32 [] (Exec 3 []) ∷
    Fixed [] 33 (entries.Zero (Stack 2 0)) ∷ Serve [] 34 (Text 3 0) true ∷ Serve [] 35 (Text 3 0) true ∷
    Step 2 2 false 3 37 [] (End 11) ∷ Step 1 1 false 3 40 [] (Fork 3) ∷
    Fixed (Data 1 0 ∷ []) 41 (entries.Copy (Data 3 0)) ∷ Fixed (Stack 1 0 ∷ []) 42 (entries.Copy (Stack 3 0)) ∷
    Step 1 1 false 4 46 [] (Lend 4) ∷ Step 3 3 false 4 49 [] (Exec 1 []) ∷ Fixed [] 50 (entries.Zero (Stack 4 0)) ∷
    Serve (Text 1 0 ∷ []) 52 (Data 4 0) true ∷ Serve (Text 1 0 ∷ []) 53 (Data 4 0) true ∷
    Step 3 4 false 5 55 [] (Lend 5) ∷ Step 4 1 true 5 58 [] (Resize 4 1) ∷ Step 4 1 true 5 63 [] (End 25088) ∷
    Step 5 4 true 5 72 [] (End 12800) ∷ Step 3 4 false 5 82 [] (Fork 6) ∷
    Fixed (Data 4 0 ∷ []) 83 (entries.Copy (Data 5 0)) ∷ Fixed (Stack 4 0 ∷ []) 84 (entries.Copy (Stack 5 0)) ∷
    Step 3 4 false 6 88 [] (Lend 7) ∷ Step 6 5 false 6 94 [] (End 60416) ∷ Step 7 4 true 6 97 [] (Resize 4 1) ∷
    Step 7 4 true 6 99 [] (Exec 1 []) ∷ Fixed [] 100 (entries.Zero (Stack 6 0)) ∷
    Serve (Text 1 0 ∷ []) 102 (Data 6 0) true ∷ Serve (Text 1 0 ∷ []) 103 (Data 6 0) true ∷
    Step 7 6 false 7 105 [] (Lend 8) ∷ Step 8 6 true 7 114 [] (End 12800) ∷ Step 7 6 false 7 127 [] (Lend 9) ∷
    Step 9 6 true 7 130 [] (Resize 4 1) ∷ Step 9 6 true 7 135 [] (End 25088) ∷ Step 7 6 false 7 145 [] (Resize 6 1) ∷
    Step 7 6 false 7 149 [] (End 16640) ∷ Step 3 4 false 7 154 [] (Resize 6 1) ∷ Step 3 4 false 7 158 [] (End 16640) ∷
    Step 1 1 false 7 163 [] (Resize 6 1) ∷ Step 1 1 false 7 167 [] (End 16640) ∷ []

last : Placement
last = record {
  spaces = [];
  texts =
      text_of 1 (slot (Invalid 2) false Zeros ∷ slot (Invalid 3) false Zeros ∷
      replicate 14 (slot Unfilled false Zeros)) ∷
      text_of 2 (replicate 16 (slot Unfilled false Zeros)) ∷
      text_of 3 (slot (Invalid 6) false Zeros ∷ slot (Invalid 7) false Zeros ∷
      replicate 14 (slot Unfilled false Zeros)) ∷ [];
  holds = None ∷ Some (Text 1 0) ∷ Some (Text 1 1) ∷ None ∷ None ∷ Some (Text 3 0) ∷ Some (Text 3 1) ∷ empty 121;
  free = 1 ∷ 4 ∷ 8 ∷ 5 ∷ 10 ∷ 9 ∷ frames 11 118 ++ 3 ∷ 7 ∷ 6 ∷ 2 ∷ [];
  transfers = [];
  front = 33;
  back = 1;
  residents = [];
  due = [];
}

seen : List Seen
seen =
    Made (Some (entries.Get (Text 1 0) 0 2)) ∷ Made None ∷
    made (entries.Done ∷ entries.Get (Data 1 0) 0 1 ∷ entries.Done ∷ entries.Get (Text 3 0) 0 2 ∷ entries.Done ∷
    entries.Get (Data 4 0) 0 1 ∷ entries.Done ∷ entries.Get (Data 6 0) 0 1 ∷ entries.Done ∷ []) ++
    Ends last ∷ []

borrowers_of_many_images : walk images operations (starting images (1 ∷ []) 128) ≡ seen
unfolding images operations last seen spot chunk_reached lowest_below chunk_start chunk counted_from text_spot
borrowers_of_many_images = refl
