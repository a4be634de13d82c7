-- Four processes of two images: reads of two kinds in flight at once, breaks to a smaller size, a stack of seven pages
-- that a fork copies, and the ends of all.
use Rattle.std.proofs.Common.{◌≡◌, true, false, List, [], ◌∷◌, ◌++◌, replicate, Some, None, refl, ◌*◌, ◌+◌}
use Rattle.vm_facts.specs.declared.page.Page.TheVariants.{Data, Stack, Text}
use Rattle.vm_facts.specs.declared.page.PageState.TheVariants.{Unfilled, Invalid}
use Rattle.vm_facts.specs.declared.entry.Entry.TheVariants as entries
use Rattle.aout_image.specs.declared.Kind.TheVariants.{Paged, Shared}
use Rattle.swap_dmap.specs.Chunks.{chunk, chunk_start, lowest_below, chunk_reached, counted_from, spot, text_spot}
use Rattle.flat_state.specs.Flat.{NamedImage}
use Rattle.flat_state.specs.declared.change.Change.TheVariants.{Resize, Fork, End}
use Rattle.page_model.specs.Pages.{Zeros}
use Rattle.page_model.specs.Placement.{Placement}
use Rattle.page_model.specs.Swapper.{Nothing}
use Rattle.place_vectors.proofs.Walk.{Operation, Fixed, Serve, Choose, Step, Seen, Made, Chose, Ends, named, runner, slot, empty, frames, starting, walk, rows, made, text_of}

images : List NamedImage
images =
    named Shared 16384 0 250000 0 ∷
    named Shared 16384 3072 1024 0 ∷
    named Paged 16384 1024 20000 0 ∷ []

operations : List Operation
operations =
    rows 1 4 (λ k. Fixed [] k (entries.Zero (Stack k 0)) ∷ []) ++
    Serve [] 8 (Text 2 0) false ∷ Serve [] 0 (Text 2 0) false ∷
    Choose (runner 1 1 false false ∷ runner 2 2 false false ∷ runner 3 3 false false ∷ runner 4 4 false false ∷ []) ∷
    Fixed [] 11 entries.Done ∷ Serve (Text 2 0 ∷ []) 19 (Data 4 0) false ∷ Serve [] 0 (Data 4 0) false ∷
    Serve [] 23 (Text 1 0) false ∷ Serve [] 0 (Text 1 0) false ∷ Serve [] 25 (Text 1 0) true ∷
    Serve [] 26 (Text 1 0) true ∷
    rows 1 3 (λ k. Step k k false 5 (4 * k + 24) [] (Resize 1 1) ∷ Step k k false 5 (4 * k + 25) [] (End 11) ∷ []) ++
    rows 1 6 (λ k.
    Step 4 4 false 5 (3 * k + 39) [] (Resize 4 (k + 1)) ∷ Serve (Text 2 0 ∷ []) (3 * k + 40) (Stack 4 k) true ∷ []) ++
    Step 4 4 false 5 60 [] (Fork 5) ∷ Fixed (Data 4 0 ∷ []) 61 (entries.Copy (Data 5 0)) ∷
    rows 0 7 (λ k. Fixed (Stack 4 k ∷ []) (k + 62) (entries.Copy (Stack 5 k)) ∷ []) ++
    Step 4 4 false 6 72 [] (End 11) ∷ Step 5 5 false 6 75 [] (Resize 2 7) ∷ Step 5 5 false 6 77 [] (End 3584) ∷ []

last : Placement
last = record {
  spaces = [];
  texts =
      text_of 1 (slot (Invalid 8) false Zeros ∷ slot (Invalid 9) false Zeros ∷
      replicate 14 (slot Unfilled false Zeros)) ∷
      text_of 2 (slot (Invalid 5) false Zeros ∷ slot (Invalid 6) false Zeros ∷
      replicate 14 (slot Unfilled false Zeros)) ∷
      text_of 3 (replicate 16 (slot Unfilled false Zeros)) ∷ [];
  holds = empty 4 ++ Some (Text 2 0) ∷ Some (Text 2 1) ∷ None ∷ Some (Text 1 0) ∷ Some (Text 1 1) ∷ empty 55;
  free =
      20 ∷ 19 ∷ 18 ∷ 17 ∷ 16 ∷ 15 ∷ 14 ∷ 13 ∷ 12 ∷ 11 ∷ 10 ∷ 1 ∷ 2 ∷ 3 ∷ 4 ∷ 7 ∷ frames 21 44 ++ 6 ∷ 9 ∷ 8 ∷ 5 ∷ [];
  transfers = [];
  front = 17;
  back = 1;
  residents = [];
  due = [];
}

seen : List Seen
seen =
    Made (Some (entries.Get (Text 2 0) 0 2)) ∷ Made None ∷ Chose Nothing ∷
    Made (Some (entries.Get (Data 4 0) 0 1)) ∷ Made None ∷ Made (Some (entries.Get (Text 1 0) 0 2)) ∷ Made None ∷
    made (entries.Done ∷ entries.Done ∷
    rows 1 6 (λ k. entries.Zero (Stack 4 k) ∷ [])) ++
    Ends last ∷ []

deep_stacks : walk images operations (starting images (1 ∷ 1 ∷ 1 ∷ 2 ∷ []) 64) ≡ seen
unfolding images operations last seen spot chunk_reached lowest_below chunk_start chunk counted_from text_spot
deep_stacks = refl
