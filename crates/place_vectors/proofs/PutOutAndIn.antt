-- The swapper puts out a process of 56 dirty data pages, by writes of at most 16 pages of one chunk, each ended before
-- the next, and brings it in again; its text page stays.
use Rattle.std.proofs.Common.{◌≡◌, true, false, List, [], ◌∷◌, ◌++◌, replicate, Some, None, refl, ◌*◌, ◌+◌}
use Rattle.vm_facts.specs.declared.page.Page.TheVariants.{Data, Stack, Text}
use Rattle.vm_facts.specs.declared.page.PageState.TheVariants.{Unfilled, Valid, Invalid}
use Rattle.vm_facts.specs.declared.entry.Entry.TheVariants as entries
use Rattle.aout_image.specs.declared.Kind.TheVariants.{Paged}
use Rattle.swap_dmap.specs.Chunks.{chunk, chunk_start, lowest_below, chunk_reached, counted_from, spot, text_spot}
use Rattle.flat_state.specs.Flat.{NamedImage}
use Rattle.page_model.specs.Pages.{Zeros}
use Rattle.page_model.specs.Placement.{Placement}
use Rattle.page_model.specs.Swapper.{Out}
use Rattle.place_vectors.proofs.Walk.{Operation, Fixed, Serve, PutsOut, Choose, Seen, Made, Chose, Ends, named, runner, slot, empty, frames, starting, walk, rows, space, made, text_of, residence}

images : List NamedImage
images =
    named Paged 1024 0 204800 0 ∷ []

operations : List Operation
operations =
    Fixed [] 1 (entries.Zero (Stack 1 0)) ∷ Serve [] 3 (Text 1 0) false ∷ Serve [] 0 (Text 1 0) false ∷
    Fixed [] 5 entries.Done ∷
    rows 0 56 (λ k. Serve (Text 1 0 ∷ []) (2 * k + 8) (Data 1 k) false ∷ []) ++
    Choose (runner 1 1 false false ∷ []) ∷
    rows 121 11 (λ k. PutsOut k 1 1 ∷ []) ++
    Fixed (Text 1 0 ∷ []) 135 (entries.SwapIn 1) ∷ Serve (Text 1 0 ∷ []) 136 (Data 1 56) true ∷ []

last : Placement
last = record {
  spaces =
      space 1 1 (rows 3 56 (λ k. slot (Invalid k) false Zeros ∷ []) ++ slot (Valid 59) true Zeros ∷
      replicate 143 (slot Unfilled false Zeros))
      (slot (Invalid 1) false Zeros ∷ []) ∷ [];
  texts = text_of 1 (slot (Valid 2) false Zeros ∷ []) ∷ [];
  holds = Some (Stack 1 0) ∷ Some (Text 1 0) ∷ rows 0 57 (λ k. Some (Data 1 k) ∷ []) ++ empty 5;
  free = frames 60 5 ++ frames 3 56 ++ 1 ∷ [];
  transfers = [];
  front = 17;
  back = 1;
  residents = residence 1 false 135 ∷ [];
  due = [];
}

seen : List Seen
seen =
    Made (Some (entries.Get (Text 1 0) 0 1)) ∷ Made None ∷
    made (rows 0 56 (λ k. entries.Zero (Data 1 k) ∷ [])) ++
    Chose (Out 1) ∷
    made (rows 0 3 (λ k. entries.Put (Data 1 (16 * k)) 16 ∷ entries.Done ∷ []) ++
    entries.Put (Data 1 48) 8 ∷ entries.Done ∷ entries.Put (Stack 1 0) 1 ∷ entries.Done ∷ entries.SwapOut 1 ∷
    entries.Zero (Data 1 56) ∷ []) ++
    Ends last ∷ []

put_out_and_in : walk images operations (starting images (1 ∷ []) 64) ≡ seen
unfolding images operations last seen spot chunk_reached lowest_below chunk_start chunk counted_from text_spot
put_out_and_in = refl
