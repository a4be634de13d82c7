-- A text of two pages: one read takes both, the neighbour's frame goes to the free list, and at the end of its one
-- process both pages stay in free frames.
use Rattle.std.proofs.Common.{◌≡◌, true, false, List, [], ◌∷◌, ◌++◌, Some, None, refl}
use Rattle.vm_facts.specs.declared.page.Page.TheVariants.{Stack, Text}
use Rattle.vm_facts.specs.declared.page.PageState.TheVariants.{Invalid}
use Rattle.vm_facts.specs.declared.entry.Entry.TheVariants as entries
use Rattle.aout_image.specs.declared.Kind.TheVariants.{Paged}
use Rattle.swap_dmap.specs.Chunks.{chunk, chunk_start, lowest_below, chunk_reached, counted_from, spot, text_spot}
use Rattle.flat_state.specs.Flat.{NamedImage}
use Rattle.flat_state.specs.declared.change.Change.TheVariants.{End}
use Rattle.page_model.specs.Pages.{Zeros}
use Rattle.page_model.specs.Placement.{Placement}
use Rattle.place_vectors.proofs.Walk.{Operation, Fixed, Serve, Step, Seen, Made, Ends, named, slot, empty, frames, starting, walk, text_of}

images : List NamedImage
images =
    named Paged 2048 0 0 0 ∷ []

operations : List Operation
operations =
    Fixed [] 1 (entries.Zero (Stack 1 0)) ∷ Serve [] 3 (Text 1 0) true ∷ Serve [] 4 (Text 1 0) true ∷
    Step 1 1 false 2 9 [] (End 0) ∷ []

last : Placement
last = record {
  spaces = [];
  texts = text_of 1 (slot (Invalid 2) false Zeros ∷ slot (Invalid 3) false Zeros ∷ []) ∷ [];
  holds = None ∷ Some (Text 1 0) ∷ Some (Text 1 1) ∷ empty 61;
  free = 1 ∷ frames 4 61 ++ 3 ∷ 2 ∷ [];
  transfers = [];
  front = 17;
  back = 1;
  residents = [];
  due = [];
}

seen : List Seen
seen =
    Made (Some (entries.Get (Text 1 0) 0 2)) ∷ Made (Some entries.Done) ∷ Ends last ∷ []

two_pages_of_text : walk images operations (starting images (1 ∷ []) 64) ≡ seen
unfolding images operations last seen spot chunk_reached lowest_below chunk_start chunk counted_from text_spot
two_pages_of_text = refl
