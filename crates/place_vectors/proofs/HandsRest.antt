-- A process of 48 data pages in 64 frames: with 14 frames free the hands move when they may, and once a write of two
-- pages has ended and 16 are free they make no move. Then a page that was written is reclaimed. The units were
-- recorded, and what the run leaves wasn't.
use Rattle.std.proofs.Common.{◌≡◌, true, false, List, [], ◌∷◌, Some, None, refl, ◌++◌, ◌*◌, ◌+◌}
use Rattle.vm_facts.specs.declared.page.Page.TheVariants.{Data, Stack, Text}
use Rattle.vm_facts.specs.declared.entry.Entry.TheVariants as entries
use Rattle.aout_image.specs.declared.Kind.TheVariants.{Paged}
use Rattle.swap_dmap.specs.Chunks.{chunk, chunk_start, lowest_below, chunk_reached, counted_from, spot, text_spot}
use Rattle.flat_state.specs.Flat.{NamedImage}
use Rattle.place_vectors.proofs.Walk.{Operation, Fixed, Serve, Wants, Seen, Made, Moves, named, starting, walk, chosen, rows, made}

images : List NamedImage
images = named Paged 1024 0 49152 0 ∷ []

operations : List Operation
operations =
    Fixed [] 1 (entries.Zero (Stack 1 0)) ∷ Serve [] 3 (Text 1 0) false ∷ Serve [] 0 (Text 1 0) false ∷
    Fixed [] 5 entries.Done ∷
    rows 0 48 (λ k. Serve (Text 1 0 ∷ []) (2 * k + 8) (Data 1 k) false ∷ []) ++
    Wants ∷ Fixed [] 105 (entries.Hands 16) ∷ Wants ∷ Fixed [] 105 (entries.Hands 1) ∷ Fixed [] 107 entries.Done ∷
    Wants ∷ Serve [] 111 (Data 1 14) false ∷ []

seen : List Seen
seen =
    Made (Some (entries.Get (Text 1 0) 0 1)) ∷ Made None ∷
    made (rows 0 48 (λ k. entries.Zero (Data 1 k) ∷ [])) ++
    Moves true ∷ Moves true ∷ Moves false ∷ Made (Some (entries.Reclaim (Data 1 14))) ∷ []

hands_rest : chosen (walk images operations (starting images (1 ∷ []) 64)) ≡ seen
unfolding images operations seen spot chunk_reached lowest_below chunk_start chunk counted_from text_spot
hands_rest = refl
