-- A process forks, its child ends, and it runs its own image again by execve: the text is shared by two spaces for a
-- moment, so it stays. The page of data that the image's file gives is read from the file.
use Rattle.std.proofs.Common.{◌≡◌, true, false, List, [], ◌∷◌, ◌++◌, replicate, Some, None, refl}
use Rattle.vm_facts.specs.declared.page.Page.TheVariants.{Data, Stack, Text}
use Rattle.vm_facts.specs.declared.page.PageState.TheVariants.{Unfilled, Valid, Invalid}
use Rattle.vm_facts.specs.declared.entry.Entry.TheVariants as entries
use Rattle.aout_image.specs.declared.Kind.TheVariants.{Paged}
use Rattle.swap_dmap.specs.Chunks.{chunk, chunk_start, lowest_below, chunk_reached, counted_from, spot, text_spot}
use Rattle.flat_state.specs.Flat.{NamedImage}
use Rattle.flat_state.specs.declared.change.Change.TheVariants.{Resize, Fork, Exec, End}
use Rattle.page_model.specs.Pages.{Zeros, OfImage}
use Rattle.page_model.specs.Placement.{Placement}
use Rattle.page_model.specs.Swapper.{Nothing}
use Rattle.place_vectors.proofs.Walk.{Operation, Fixed, Serve, Choose, Step, Seen, Made, Chose, Ends, named, runner, slot, empty, frames, starting, walk, space, made, text_of, residence}

images : List NamedImage
images =
    named Paged 16384 1024 4096 0 ∷
    named Paged 16384 1024 1024 0 ∷ []

operations : List Operation
operations =
    Fixed [] 1 (entries.Zero (Stack 1 0)) ∷ Serve [] 5 (Text 1 0) false ∷ Serve [] 0 (Text 1 0) false ∷
    Fixed [] 8 entries.Done ∷ replicate 7 (Choose (runner 1 1 false false ∷ [])) ++
    Step 1 1 false 2 47 [] (Resize 7 1) ∷ Serve (Text 1 0 ∷ []) 48 (Data 1 3) false ∷
    Step 1 1 false 2 50 [] (Fork 2) ∷ Fixed (Data 1 3 ∷ []) 51 (entries.Copy (Data 2 3)) ∷
    Fixed (Stack 1 0 ∷ []) 52 (entries.Copy (Stack 2 0)) ∷ Serve (Text 1 0 ∷ []) 54 (Data 1 0) false ∷
    Serve [] 0 (Data 1 0) false ∷ Choose (runner 1 1 false false ∷ runner 2 2 false false ∷ []) ∷
    Serve [] 0 (Data 1 0) false ∷ Step 2 2 false 3 65 [] (End 18944) ∷ Choose (runner 1 1 false false ∷ []) ∷
    Serve [] 0 (Data 1 0) false ∷ Serve [] 0 (Data 1 0) false ∷ Fixed [] 74 entries.Done ∷
    Choose (runner 1 1 false false ∷ []) ∷ Serve (Text 1 0 ∷ []) 96 (Data 1 1) false ∷
    Step 1 1 false 3 99 [] (Resize 7 2) ∷ Serve (Text 1 0 ∷ []) 100 (Stack 1 1) false ∷
    Serve (Text 1 0 ∷ []) 102 (Data 1 2) false ∷ Step 1 1 false 3 104 [] (Exec 1 []) ∷
    Fixed [] 105 (entries.Zero (Stack 3 0)) ∷ Step 1 3 false 4 107 [] (Resize 7 1) ∷
    Serve (Text 1 0 ∷ []) 108 (Data 3 3) false ∷ Step 1 3 false 4 110 [] (Fork 3) ∷
    Fixed (Data 3 3 ∷ []) 111 (entries.Copy (Data 4 3)) ∷ Fixed (Stack 3 0 ∷ []) 112 (entries.Copy (Stack 4 0)) ∷ []

last : Placement
last = record {
  spaces =
      space 3 1 (slot Unfilled false OfImage ∷ slot Unfilled false Zeros ∷ slot Unfilled false Zeros ∷
      slot (Valid 1) true Zeros ∷ replicate 3 (slot Unfilled false Zeros))
      (slot (Valid 5) true Zeros ∷ []) ∷
      space 4 1 (slot Unfilled false OfImage ∷ slot Unfilled false Zeros ∷ slot Unfilled false Zeros ∷
      slot (Valid 4) true Zeros ∷ replicate 3 (slot Unfilled false Zeros))
      (slot (Valid 8) true Zeros ∷ []) ∷ [];
  texts =
      text_of 1 (slot (Valid 2) false Zeros ∷ slot (Invalid 3) false Zeros ∷
      replicate 14 (slot Unfilled false Zeros)) ∷
      text_of 2 (replicate 16 (slot Unfilled false Zeros)) ∷ [];
  holds =
      Some (Data 3 3) ∷ Some (Text 1 0) ∷ Some (Text 1 1) ∷ Some (Data 4 3) ∷ Some (Stack 3 0) ∷ None ∷ None ∷
      Some (Stack 4 0) ∷ empty 56;
  free = 6 ∷ 7 ∷ frames 9 56 ++ 3 ∷ [];
  transfers = [];
  front = 17;
  back = 1;
  residents = residence 1 false 0 ∷ residence 3 false 110 ∷ [];
  due = [];
}

seen : List Seen
seen =
    Made (Some (entries.Get (Text 1 0) 0 2)) ∷ Made None ∷ replicate 7 (Chose Nothing) ++
    Made (Some (entries.Zero (Data 1 3))) ∷ Made (Some (entries.Get (Data 1 0) 0 1)) ∷ Made None ∷ Chose Nothing ∷
    Made None ∷ Chose Nothing ∷ Made None ∷ Made None ∷ Chose Nothing ∷
    made (entries.Zero (Data 1 1) ∷ entries.Zero (Stack 1 1) ∷ entries.Zero (Data 1 2) ∷
    entries.Zero (Data 3 3) ∷ []) ++
    Ends last ∷ []

execve_of_own_image : walk images operations (starting images (1 ∷ []) 64) ≡ seen
unfolding images operations last seen spot chunk_reached lowest_below chunk_start chunk counted_from text_spot
execve_of_own_image = refl
