-- A process of 48 data pages ends while the write of two of them is in flight: it ends first, and then all frames are
-- free.
use Rattle.std.proofs.Common.{◌≡◌, false, List, [], ◌∷◌, ◌++◌, Some, None, refl, ◌*◌, ◌+◌}
use Rattle.vm_facts.specs.declared.page.Page.TheVariants.{Data, Stack, Text}
use Rattle.vm_facts.specs.declared.page.PageState.TheVariants.{Invalid}
use Rattle.vm_facts.specs.declared.entry.Entry.TheVariants as entries
use Rattle.aout_image.specs.declared.Kind.TheVariants.{Paged}
use Rattle.swap_dmap.specs.Chunks.{chunk, chunk_start, lowest_below, chunk_reached, counted_from, spot, text_spot}
use Rattle.flat_state.specs.Flat.{NamedImage}
use Rattle.flat_state.specs.declared.change.Change.TheVariants.{End}
use Rattle.page_model.specs.Pages.{Zeros}
use Rattle.page_model.specs.Placement.{Placement}
use Rattle.place_vectors.proofs.Walk.{Operation, Fixed, Serve, Step, Seen, Made, Ends, named, slot, empty, frames, starting, walk, rows, made, text_of}

images : List NamedImage
images =
    named Paged 1024 0 49152 0 ∷ []

operations : List Operation
operations =
    Fixed [] 1 (entries.Zero (Stack 1 0)) ∷ Serve [] 3 (Text 1 0) false ∷ Serve [] 0 (Text 1 0) false ∷
    Fixed [] 5 entries.Done ∷
    rows 0 48 (λ k. Serve (Text 1 0 ∷ []) (2 * k + 8) (Data 1 k) false ∷ []) ++
    Fixed [] 105 (entries.Hands 17) ∷ Fixed (Text 1 0 ∷ []) 107 entries.Done ∷ Step 1 1 false 2 108 [] (End 0) ∷ []

last : Placement
last = record {
  spaces = [];
  texts = text_of 1 (slot (Invalid 2) false Zeros ∷ []) ∷ [];
  holds = None ∷ Some (Text 1 0) ∷ empty 62;
  free =
      1 ∷ 50 ∷ 49 ∷ 48 ∷ 47 ∷ 46 ∷ 45 ∷ 44 ∷ 43 ∷ 42 ∷ 41 ∷ 40 ∷ 39 ∷ 38 ∷ 37 ∷ 36 ∷ 35 ∷ 34 ∷ 33 ∷ 32 ∷ 31 ∷ 30 ∷
      29 ∷ 28 ∷ 27 ∷ 26 ∷ 25 ∷ 24 ∷ 23 ∷ 22 ∷ 21 ∷ 20 ∷ 19 ∷ 18 ∷ 17 ∷ 16 ∷ 15 ∷ 14 ∷ 13 ∷ 12 ∷ 11 ∷ 10 ∷ 9 ∷ 8 ∷
      7 ∷ 6 ∷ 5 ∷ 4 ∷ 3 ∷ frames 51 14 ++ 2 ∷ [];
  transfers = [];
  front = 34;
  back = 18;
  residents = [];
  due = [];
}

seen : List Seen
seen =
    Made (Some (entries.Get (Text 1 0) 0 1)) ∷ Made None ∷
    made (rows 0 48 (λ k. entries.Zero (Data 1 k) ∷ [])) ++
    Ends last ∷ []

end_with_write_in_flight : walk images operations (starting images (1 ∷ []) 64) ≡ seen
unfolding images operations last seen spot chunk_reached lowest_below chunk_start chunk counted_from text_spot
end_with_write_in_flight = refl
