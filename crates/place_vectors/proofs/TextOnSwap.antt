-- A process of four text pages in 64 frames uses each of them, then fills 100 data pages, reads a text page again, fills
-- 60 more and reads the other two, which were written and whose frames were taken. This run is of its own program; its
-- units were recorded, and what it leaves wasn't.
use Rattle.std.proofs.Common.{◌≡◌, true, false, List, [], ◌∷◌, refl, ◌++◌, ◌*◌, ◌+◌, replicate}
use Rattle.vm_facts.specs.declared.page.Page.TheVariants.{Data, Stack, Text}
use Rattle.vm_facts.specs.declared.entry.Entry.TheVariants as entries
use Rattle.aout_image.specs.declared.Kind.TheVariants.{Paged}
use Rattle.swap_dmap.specs.Chunks.{chunk, chunk_start, lowest_below, chunk_reached, counted_from, spot, text_spot}
use Rattle.flat_state.specs.Flat.{NamedImage}
use Rattle.flat_state.specs.declared.change.Change.TheVariants.{End}
use Rattle.place_vectors.proofs.Walk.{Operation, Fixed, Serve, Step, Seen, named, starting, walk, chosen, rows, made}

images : List NamedImage
images = named Paged 4096 0 204800 0 ∷ []

operations : List Operation
operations =
    Fixed [] 1 (entries.Zero (Stack 1 0)) ∷ Serve [] 3 (Text 1 0) true ∷ Serve [] 4 (Text 1 0) true ∷
    Serve (Text 1 0 ∷ []) 5 (Text 1 1) true ∷ Serve (Text 1 0 ∷ []) 7 (Text 1 2) true ∷
    Serve (Text 1 0 ∷ []) 8 (Text 1 2) true ∷ Serve (Text 1 0 ∷ []) 10 (Text 1 3) true ∷
    rows 0 59 (λ k. Serve (Text 1 0 ∷ []) (2 * k + 12) (Data 1 k) true ∷ []) ++
    replicate 17 (Serve (Text 1 0 ∷ []) 130 (Data 1 59) true) ++ Serve (Text 1 0 ∷ []) 131 (Data 1 59) true ∷
    rows 59 5 (λ k. Serve (Text 1 0 ∷ []) (2 * k + 14) (Data 1 k) true ∷ []) ++
    replicate 5 (Serve (Text 1 0 ∷ []) 142 (Data 1 64) true) ++ Serve (Text 1 0 ∷ []) 143 (Data 1 64) true ∷
    rows 64 16 (λ k. Serve (Text 1 0 ∷ []) (2 * k + 16) (Data 1 k) true ∷ []) ++
    replicate 16 (Serve (Text 1 0 ∷ []) 176 (Data 1 80) true) ++ Serve (Text 1 0 ∷ []) 177 (Data 1 80) true ∷
    rows 80 16 (λ k. Serve (Text 1 0 ∷ []) (2 * k + 18) (Data 1 k) true ∷ []) ++
    replicate 16 (Serve (Text 1 0 ∷ []) 210 (Data 1 96) true) ++ Serve (Text 1 0 ∷ []) 211 (Data 1 96) true ∷
    rows 96 4 (λ k. Serve (Text 1 0 ∷ []) (2 * k + 20) (Data 1 k) true ∷ []) ++
    Serve (Text 1 0 ∷ []) 220 (Text 1 2) true ∷
    rows 100 7 (λ k. Serve (Text 1 0 ∷ []) (2 * k + 22) (Data 1 k) true ∷ []) ++
    replicate 11 (Serve (Text 1 0 ∷ []) 236 (Data 1 107) true) ++ Serve (Text 1 0 ∷ []) 237 (Data 1 107) true ∷
    Serve (Text 1 0 ∷ []) 238 (Data 1 107) true ∷ Serve (Text 1 0 ∷ []) 240 (Data 1 108) true ∷
    rows 240 3 (λ k. Serve (Text 1 0 ∷ []) k (Data 1 108) true ∷ []) ++
    Serve (Text 1 0 ∷ []) 244 (Data 1 109) true ∷
    rows 244 3 (λ k. Serve (Text 1 0 ∷ []) k (Data 1 109) true ∷ []) ++
    rows 248 3 (λ k. Serve (Text 1 0 ∷ []) k (Data 1 110) true ∷ []) ++
    rows 111 10 (λ k. Serve (Text 1 0 ∷ []) (2 * k + 30) (Data 1 k) true ∷ []) ++
    replicate 11 (Serve (Text 1 0 ∷ []) 272 (Data 1 121) true) ++ Serve (Text 1 0 ∷ []) 273 (Data 1 121) true ∷
    rows 121 16 (λ k. Serve (Text 1 0 ∷ []) (2 * k + 32) (Data 1 k) true ∷ []) ++
    replicate 16 (Serve (Text 1 0 ∷ []) 306 (Data 1 137) true) ++ Serve (Text 1 0 ∷ []) 307 (Data 1 137) true ∷
    rows 137 16 (λ k. Serve (Text 1 0 ∷ []) (2 * k + 34) (Data 1 k) true ∷ []) ++
    replicate 16 (Serve (Text 1 0 ∷ []) 340 (Data 1 153) true) ++ Serve (Text 1 0 ∷ []) 341 (Data 1 153) true ∷
    rows 153 7 (λ k. Serve (Text 1 0 ∷ []) (2 * k + 36) (Data 1 k) true ∷ []) ++
    Serve (Text 1 0 ∷ []) 356 (Text 1 1) true ∷ Serve (Text 1 0 ∷ []) 357 (Text 1 1) true ∷
    Serve (Text 1 0 ∷ []) 359 (Text 1 3) true ∷ Serve (Text 1 0 ∷ []) 360 (Text 1 3) true ∷
    Step 1 1 false 2 362 [] (End 0) ∷ []

seen : List Seen
seen =
    made (entries.Get (Text 1 0) 0 2 ∷ entries.Done ∷ entries.Reclaim (Text 1 1) ∷ entries.Get (Text 1 2) 2 2 ∷
    entries.Done ∷ entries.Reclaim (Text 1 3) ∷
    rows 0 59 (λ k. entries.Zero (Data 1 k) ∷ []) ++
    replicate 17 (entries.Hands 1) ++ entries.Done ∷
    rows 59 5 (λ k. entries.Zero (Data 1 k) ∷ []) ++
    replicate 5 (entries.Hands 1) ++ entries.Done ∷
    rows 64 16 (λ k. entries.Zero (Data 1 k) ∷ []) ++
    replicate 16 (entries.Hands 1) ++ entries.Done ∷
    rows 80 16 (λ k. entries.Zero (Data 1 k) ∷ []) ++
    replicate 16 (entries.Hands 1) ++ entries.Done ∷
    rows 96 4 (λ k. entries.Zero (Data 1 k) ∷ []) ++
    entries.Reclaim (Text 1 2) ∷
    rows 100 7 (λ k. entries.Zero (Data 1 k) ∷ []) ++
    replicate 11 (entries.Hands 1) ++ entries.Done ∷ entries.Zero (Data 1 107) ∷ entries.Hands 1 ∷
    entries.Hands 1 ∷ entries.Done ∷ entries.Zero (Data 1 108) ∷ entries.Hands 1 ∷ entries.Hands 1 ∷
    entries.Done ∷ entries.Zero (Data 1 109) ∷ entries.Hands 1 ∷ entries.Done ∷
    rows 110 11 (λ k. entries.Zero (Data 1 k) ∷ []) ++
    replicate 11 (entries.Hands 1) ++ entries.Done ∷
    rows 121 16 (λ k. entries.Zero (Data 1 k) ∷ []) ++
    replicate 16 (entries.Hands 1) ++ entries.Done ∷
    rows 137 16 (λ k. entries.Zero (Data 1 k) ∷ []) ++
    replicate 16 (entries.Hands 1) ++ entries.Done ∷
    rows 153 7 (λ k. entries.Zero (Data 1 k) ∷ []) ++
    entries.Get (Text 1 1) 1 1 ∷ entries.Done ∷ entries.Get (Text 1 3) 3 1 ∷ entries.Done ∷ [])

text_on_swap : chosen (walk images operations (starting images (1 ∷ []) 64)) ≡ seen
unfolding images operations seen spot chunk_reached lowest_below chunk_start chunk counted_from text_spot
text_on_swap = refl
