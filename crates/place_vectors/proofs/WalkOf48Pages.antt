-- A process of 48 dirty data pages, and 66 moves of the hands: five writes begin, of 2, 16, 16, 1 and 1 pages, by the
-- chunks of data and with a page of text among them; once they ended the text page and a data page are reclaimed.
use Rattle.std.proofs.Common.{◌≡◌, true, false, List, [], ◌∷◌, ◌++◌, Some, None, refl, ◌*◌, ◌+◌, replicate}
use Rattle.vm_facts.specs.declared.page.Page.TheVariants.{Data, Stack, Text}
use Rattle.vm_facts.specs.declared.page.PageState.TheVariants.{Valid, Invalid}
use Rattle.vm_facts.specs.declared.entry.Entry.TheVariants as entries
use Rattle.aout_image.specs.declared.Kind.TheVariants.{Paged}
use Rattle.swap_dmap.specs.Chunks.{chunk, chunk_start, lowest_below, chunk_reached, counted_from, spot, text_spot}
use Rattle.flat_state.specs.Flat.{NamedImage}
use Rattle.page_model.specs.Pages.{Zeros}
use Rattle.page_model.specs.Placement.{Placement}
use Rattle.place_vectors.proofs.Walk.{Operation, Fixed, Serve, Seen, Made, Ends, named, slot, empty, frames, starting, walk, rows, space, made, text_of, residence}

images : List NamedImage
images =
    named Paged 1024 0 49152 0 ∷ []

operations : List Operation
operations =
    Fixed [] 1 (entries.Zero (Stack 1 0)) ∷ Serve [] 3 (Text 1 0) false ∷ Serve [] 0 (Text 1 0) false ∷
    Fixed [] 5 entries.Done ∷
    rows 0 48 (λ k. Serve (Text 1 0 ∷ []) (2 * k + 8) (Data 1 k) false ∷ []) ++
    Fixed [] 105 (entries.Hands 66) ∷
    rows 107 6 (λ k. Serve [] k (Text 1 0) true ∷ []) ++
    Serve (Text 1 0 ∷ []) 113 (Data 1 14) true ∷ []

last : Placement
last = record {
  spaces =
      space 1 1 (rows 3 14 (λ k. slot (Invalid k) true Zeros ∷ []) ++ slot (Valid 17) false Zeros ∷
      rows 18 33 (λ k. slot (Invalid k) false Zeros ∷ []))
      (slot (Invalid 1) false Zeros ∷ []) ∷ [];
  texts = text_of 1 (slot (Valid 2) true Zeros ∷ []) ∷ [];
  holds = Some (Stack 1 0) ∷ Some (Text 1 0) ∷ rows 0 48 (λ k. Some (Data 1 k) ∷ []) ++ empty 14;
  free = frames 51 14 ++ frames 18 33 ++ 1 ∷ [];
  transfers = [];
  front = 19;
  back = 3;
  residents = residence 1 false 0 ∷ [];
  due = [];
}

seen : List Seen
seen =
    Made (Some (entries.Get (Text 1 0) 0 1)) ∷ Made None ∷
    made (rows 0 48 (λ k. entries.Zero (Data 1 k) ∷ []) ++
    replicate 5 entries.Done ++ entries.Reclaim (Text 1 0) ∷ entries.Reclaim (Data 1 14) ∷ []) ++
    Ends last ∷ []

walk_of_48_pages : walk images operations (starting images (1 ∷ []) 64) ≡ seen
unfolding images operations last seen spot chunk_reached lowest_below chunk_start chunk counted_from text_spot
walk_of_48_pages = refl
