-- Two processes of two images: one ends, and the other's data grows by 33 pages, none of them filled.
use Rattle.std.proofs.Common.{◌≡◌, true, false, List, [], ◌∷◌, ◌++◌, replicate, Some, None, refl}
use Rattle.vm_facts.specs.declared.page.Page.TheVariants.{Stack, Text}
use Rattle.vm_facts.specs.declared.page.PageState.TheVariants.{Unfilled, Valid, Invalid}
use Rattle.vm_facts.specs.declared.entry.Entry.TheVariants as entries
use Rattle.aout_image.specs.declared.Kind.TheVariants.{Paged}
use Rattle.swap_dmap.specs.Chunks.{chunk, chunk_start, lowest_below, chunk_reached, counted_from, spot, text_spot}
use Rattle.flat_state.specs.Flat.{NamedImage}
use Rattle.flat_state.specs.declared.change.Change.TheVariants.{Resize, End}
use Rattle.page_model.specs.Pages.{Zeros}
use Rattle.page_model.specs.Placement.{Placement}
use Rattle.place_vectors.proofs.Walk.{Operation, Fixed, Serve, Step, Seen, Made, Ends, named, slot, empty, frames, starting, walk, space, text_of, residence}

images : List NamedImage
images =
    named Paged 1024 0 16384 0 ∷
    named Paged 1024 0 0 0 ∷ []

operations : List Operation
operations =
    Fixed [] 1 (entries.Zero (Stack 1 0)) ∷ Fixed [] 2 (entries.Zero (Stack 2 0)) ∷ Serve [] 4 (Text 1 0) false ∷
    Serve [] 0 (Text 1 0) false ∷ Fixed [] 6 entries.Done ∷ Serve [] 12 (Text 2 0) false ∷
    Serve [] 0 (Text 2 0) false ∷ Fixed [] 14 entries.Done ∷ Step 2 2 false 3 20 [] (End 0) ∷
    Step 1 1 false 3 22 [] (Resize 49 1) ∷ []

last : Placement
last = record {
  spaces =
      space 1 1 (replicate 49 (slot Unfilled false Zeros))
      (slot (Valid 1) true Zeros ∷ []) ∷ [];
  texts = text_of 1 (slot (Valid 3) false Zeros ∷ []) ∷ text_of 2 (slot (Invalid 4) false Zeros ∷ []) ∷ [];
  holds = Some (Stack 1 0) ∷ None ∷ Some (Text 1 0) ∷ Some (Text 2 0) ∷ empty 60;
  free = 2 ∷ frames 5 60 ++ 4 ∷ [];
  transfers = [];
  front = 17;
  back = 1;
  residents = residence 1 false 0 ∷ [];
  due = [];
}

seen : List Seen
seen =
    Made (Some (entries.Get (Text 1 0) 0 1)) ∷ Made None ∷ Made (Some (entries.Get (Text 2 0) 0 1)) ∷ Made None ∷
    Ends last ∷ []

data_grows : walk images operations (starting images (1 ∷ 2 ∷ []) 64) ≡ seen
unfolding images operations last seen spot chunk_reached lowest_below chunk_start chunk counted_from text_spot
data_grows = refl
