-- A stack that grows by a page below: the new page is filled with zeros, and the end frees both.
use Rattle.std.proofs.Common.{◌≡◌, true, false, List, [], ◌∷◌, ◌++◌, Some, None, refl}
use Rattle.vm_facts.specs.declared.page.Page.TheVariants.{Stack, Text}
use Rattle.vm_facts.specs.declared.page.PageState.TheVariants.{Invalid}
use Rattle.vm_facts.specs.declared.entry.Entry.TheVariants as entries
use Rattle.aout_image.specs.declared.Kind.TheVariants.{Paged}
use Rattle.swap_dmap.specs.Chunks.{chunk, chunk_start, lowest_below, chunk_reached, counted_from, spot, text_spot}
use Rattle.flat_state.specs.Flat.{NamedImage}
use Rattle.flat_state.specs.declared.change.Change.TheVariants.{Resize, End}
use Rattle.page_model.specs.Pages.{Zeros}
use Rattle.page_model.specs.Placement.{Placement}
use Rattle.place_vectors.proofs.Walk.{Operation, Fixed, Serve, Step, Seen, Made, Ends, named, slot, empty, frames, starting, walk, text_of}

images : List NamedImage
images =
    named Paged 1024 0 0 0 ∷ []

operations : List Operation
operations =
    Fixed [] 1 (entries.Zero (Stack 1 0)) ∷ Serve [] 3 (Text 1 0) true ∷ Serve [] 4 (Text 1 0) true ∷
    Step 1 1 false 2 5 [] (Resize 0 2) ∷ Serve (Text 1 0 ∷ []) 6 (Stack 1 1) true ∷
    Step 1 1 false 2 8 [] (End 64512) ∷ []

last : Placement
last = record {
  spaces = [];
  texts = text_of 1 (slot (Invalid 2) false Zeros ∷ []) ∷ [];
  holds = None ∷ Some (Text 1 0) ∷ empty 62;
  free = 3 ∷ 1 ∷ frames 4 61 ++ 2 ∷ [];
  transfers = [];
  front = 17;
  back = 1;
  residents = [];
  due = [];
}

seen : List Seen
seen =
    Made (Some (entries.Get (Text 1 0) 0 1)) ∷ Made (Some entries.Done) ∷ Made (Some (entries.Zero (Stack 1 1))) ∷
    Ends last ∷ []

stack_grows : walk images operations (starting images (1 ∷ []) 64) ≡ seen
unfolding images operations last seen spot chunk_reached lowest_below chunk_start chunk counted_from text_spot
stack_grows = refl
