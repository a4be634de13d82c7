-- A process ends, and another runs its image by execve: the text page is still in its free frame, and no device is
-- asked.
use Rattle.std.proofs.Common.{◌≡◌, true, false, List, [], ◌∷◌, ◌++◌, Some, None, refl}
use Rattle.vm_facts.specs.declared.page.Page.TheVariants.{Stack, Text}
use Rattle.vm_facts.specs.declared.page.PageState.TheVariants.{Invalid}
use Rattle.vm_facts.specs.declared.entry.Entry.TheVariants as entries
use Rattle.aout_image.specs.declared.Kind.TheVariants.{Paged}
use Rattle.swap_dmap.specs.Chunks.{chunk, chunk_start, lowest_below, chunk_reached, counted_from, spot, text_spot}
use Rattle.flat_state.specs.Flat.{NamedImage}
use Rattle.flat_state.specs.declared.change.Change.TheVariants.{Exec, End}
use Rattle.page_model.specs.Pages.{Zeros}
use Rattle.page_model.specs.Placement.{Placement}
use Rattle.place_vectors.proofs.Walk.{Operation, Fixed, Serve, Step, Seen, Ends, named, slot, empty, frames, starting, walk, made, text_of}

images : List NamedImage
images =
    named Paged 1024 0 0 0 ∷
    named Paged 1024 0 0 0 ∷ []

operations : List Operation
operations =
    Fixed [] 1 (entries.Zero (Stack 1 0)) ∷ Fixed [] 2 (entries.Zero (Stack 2 0)) ∷ Serve [] 4 (Text 1 0) true ∷
    Serve [] 5 (Text 1 0) true ∷ Step 1 1 false 3 10 [] (End 0) ∷ Serve [] 12 (Text 2 0) true ∷
    Serve [] 13 (Text 2 0) true ∷ Step 2 2 false 3 15 [] (Exec 1 []) ∷ Fixed [] 16 (entries.Zero (Stack 3 0)) ∷
    Serve [] 17 (Text 1 0) true ∷ Step 2 3 false 4 22 [] (End 0) ∷ []

last : Placement
last = record {
  spaces = [];
  texts = text_of 1 (slot (Invalid 3) false Zeros ∷ []) ∷ text_of 2 (slot (Invalid 1) false Zeros ∷ []) ∷ [];
  holds = Some (Text 2 0) ∷ None ∷ Some (Text 1 0) ∷ empty 61;
  free = 2 ∷ frames 4 61 ++ 1 ∷ 3 ∷ [];
  transfers = [];
  front = 17;
  back = 1;
  residents = [];
  due = [];
}

seen : List Seen
seen =
    made (entries.Get (Text 1 0) 0 1 ∷ entries.Done ∷ entries.Get (Text 2 0) 0 1 ∷ entries.Done ∷
    entries.Reclaim (Text 1 0) ∷ []) ++
    Ends last ∷ []

text_found_again : walk images operations (starting images (1 ∷ 2 ∷ []) 64) ≡ seen
unfolding images operations last seen spot chunk_reached lowest_below chunk_start chunk counted_from text_spot
text_found_again = refl
