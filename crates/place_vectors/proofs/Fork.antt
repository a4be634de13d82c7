-- A fork: the stack page that the parent filled is copied, and the unfilled data page isn't; each of the two fills its
-- own, and the text stays till both have ended.
use Rattle.std.proofs.Common.{◌≡◌, true, false, List, [], ◌∷◌, ◌++◌, Some, None, refl}
use Rattle.vm_facts.specs.declared.page.Page.TheVariants.{Data, Stack, Text}
use Rattle.vm_facts.specs.declared.page.PageState.TheVariants.{Invalid}
use Rattle.vm_facts.specs.declared.entry.Entry.TheVariants as entries
use Rattle.aout_image.specs.declared.Kind.TheVariants.{Paged}
use Rattle.swap_dmap.specs.Chunks.{chunk, chunk_start, lowest_below, chunk_reached, counted_from, spot, text_spot}
use Rattle.flat_state.specs.Flat.{NamedImage}
use Rattle.flat_state.specs.declared.change.Change.TheVariants.{Fork, End}
use Rattle.page_model.specs.Pages.{Zeros}
use Rattle.page_model.specs.Placement.{Placement}
use Rattle.place_vectors.proofs.Walk.{Operation, Fixed, Serve, Step, Seen, Ends, named, slot, empty, frames, starting, walk, made, text_of}

images : List NamedImage
images =
    named Paged 1024 0 1024 0 ∷ []

operations : List Operation
operations =
    Fixed [] 1 (entries.Zero (Stack 1 0)) ∷ Serve [] 3 (Text 1 0) true ∷ Serve [] 4 (Text 1 0) true ∷
    Step 1 1 false 2 5 [] (Fork 2) ∷ Fixed (Stack 1 0 ∷ []) 6 (entries.Copy (Stack 2 0)) ∷
    Serve (Text 1 0 ∷ []) 8 (Data 1 0) true ∷ Step 1 1 false 3 13 [] (End 0) ∷
    Serve (Text 1 0 ∷ []) 16 (Data 2 0) true ∷ Step 2 2 false 3 21 [] (End 0) ∷ []

last : Placement
last = record {
  spaces = [];
  texts = text_of 1 (slot (Invalid 2) false Zeros ∷ []) ∷ [];
  holds = None ∷ Some (Text 1 0) ∷ empty 62;
  free = 3 ∷ 1 ∷ frames 4 61 ++ 2 ∷ [];
  transfers = [];
  front = 17;
  back = 1;
  residents = [];
  due = [];
}

seen : List Seen
seen =
    made (entries.Get (Text 1 0) 0 1 ∷ entries.Done ∷ entries.Zero (Data 1 0) ∷ entries.Zero (Data 2 0) ∷ []) ++
    Ends last ∷ []

fork : walk images operations (starting images (1 ∷ []) 64) ≡ seen
unfolding images operations last seen spot chunk_reached lowest_below chunk_start chunk counted_from text_spot
fork = refl
