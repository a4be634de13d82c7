-- A process goes round 200 data pages in 64 frames, into its second round: writes of 16 pages that the hands begin, and
-- from swap reads of up to four pages of one chunk, by the frames that are spared; what is written again is dirty again.
-- The recorded run goes on; these are its first units.
use Rattle.std.proofs.Common.{◌≡◌, true, false, List, [], ◌∷◌, refl, ◌++◌, ◌*◌, ◌+◌, replicate}
use Rattle.vm_facts.specs.declared.page.Page.TheVariants.{Data, Stack, Text}
use Rattle.vm_facts.specs.declared.entry.Entry.TheVariants as entries
use Rattle.aout_image.specs.declared.Kind.TheVariants.{Paged}
use Rattle.swap_dmap.specs.Chunks.{chunk, chunk_start, lowest_below, chunk_reached, counted_from, spot, text_spot}
use Rattle.flat_state.specs.Flat.{NamedImage}
use Rattle.flat_state.specs.declared.change.Change.TheVariants.{Keep}
use Rattle.place_vectors.proofs.Walk.{Operation, Fixed, Serve, Step, Seen, named, starting, walk, chosen, rows, made}

images : List NamedImage
images = named Paged 1024 0 204800 0 ∷ []

operations : List Operation
operations =
    Fixed [] 1 (entries.Zero (Stack 1 0)) ∷ Serve [] 3 (Text 1 0) true ∷ Serve [] 4 (Text 1 0) true ∷
    rows 0 62 (λ k. Serve (Text 1 0 ∷ []) (2 * k + 6) (Data 1 k) true ∷ []) ++
    replicate 17 (Serve (Text 1 0 ∷ []) 130 (Data 1 62) true) ++ Serve (Text 1 0 ∷ []) 131 (Data 1 62) true ∷
    rows 62 3 (λ k. Serve (Text 1 0 ∷ []) (2 * k + 8) (Data 1 k) true ∷ []) ++
    rows 136 3 (λ k. Serve (Text 1 0 ∷ []) k (Data 1 64) true ∷ []) ++
    rows 65 15 (λ k. Serve (Text 1 0 ∷ []) (2 * k + 10) (Data 1 k) true ∷ []) ++
    replicate 16 (Serve (Text 1 0 ∷ []) 170 (Data 1 80) true) ++ Serve (Text 1 0 ∷ []) 171 (Data 1 80) true ∷
    rows 80 16 (λ k. Serve (Text 1 0 ∷ []) (2 * k + 12) (Data 1 k) true ∷ []) ++
    replicate 16 (Serve (Text 1 0 ∷ []) 204 (Data 1 96) true) ++ Serve (Text 1 0 ∷ []) 205 (Data 1 96) true ∷
    rows 96 14 (λ k. Serve (Text 1 0 ∷ []) (2 * k + 14) (Data 1 k) true ∷ []) ++
    replicate 14 (Serve (Text 1 0 ∷ []) 234 (Data 1 110) true) ++ Serve (Text 1 0 ∷ []) 235 (Data 1 110) true ∷
    Serve (Text 1 0 ∷ []) 236 (Data 1 110) true ∷ Serve (Text 1 0 ∷ []) 238 (Data 1 111) true ∷
    rows 238 3 (λ k. Serve (Text 1 0 ∷ []) k (Data 1 111) true ∷ []) ++
    rows 112 13 (λ k. Serve (Text 1 0 ∷ []) (2 * k + 18) (Data 1 k) true ∷ []) ++
    replicate 14 (Serve (Text 1 0 ∷ []) 268 (Data 1 125) true) ++ Serve (Text 1 0 ∷ []) 269 (Data 1 125) true ∷
    rows 125 16 (λ k. Serve (Text 1 0 ∷ []) (2 * k + 20) (Data 1 k) true ∷ []) ++
    replicate 16 (Serve (Text 1 0 ∷ []) 302 (Data 1 141) true) ++ Serve (Text 1 0 ∷ []) 303 (Data 1 141) true ∷
    rows 141 16 (λ k. Serve (Text 1 0 ∷ []) (2 * k + 22) (Data 1 k) true ∷ []) ++
    replicate 16 (Serve (Text 1 0 ∷ []) 336 (Data 1 157) true) ++ Serve (Text 1 0 ∷ []) 337 (Data 1 157) true ∷
    rows 157 16 (λ k. Serve (Text 1 0 ∷ []) (2 * k + 24) (Data 1 k) true ∷ []) ++
    replicate 16 (Serve (Text 1 0 ∷ []) 370 (Data 1 173) true) ++ Serve (Text 1 0 ∷ []) 371 (Data 1 173) true ∷
    Serve (Text 1 0 ∷ []) 372 (Data 1 173) true ∷ Serve (Text 1 0 ∷ []) 374 (Data 1 174) true ∷
    replicate 3 (Serve (Text 1 0 ∷ []) 376 (Data 1 175) true) ++ Serve (Text 1 0 ∷ []) 377 (Data 1 175) true ∷
    rows 175 16 (λ k. Serve (Text 1 0 ∷ []) (2 * k + 28) (Data 1 k) true ∷ []) ++
    replicate 16 (Serve (Text 1 0 ∷ []) 410 (Data 1 191) true) ++ Serve (Text 1 0 ∷ []) 411 (Data 1 191) true ∷
    rows 191 9 (λ k. Serve (Text 1 0 ∷ []) (2 * k + 30) (Data 1 k) true ∷ []) ++
    rows 0 7 (λ k.
    Serve (Text 1 0 ∷ []) (3 * k + 430) (Data 1 k) true ∷ Serve (Text 1 0 ∷ []) (3 * k + 431) (Data 1 k) true ∷
    Step 1 1 false 2 (3 * k + 432) (Data 1 k ∷ []) Keep ∷ []) ++
    replicate 16 (Serve (Text 1 0 ∷ []) 451 (Data 1 7) true) ++
    rows 452 3 (λ k. Serve (Text 1 0 ∷ []) k (Data 1 7) true ∷ []) ++
    rows 7 4 (λ k.
    Step 1 1 false 2 (2 * k + 441) (Data 1 k ∷ []) Keep ∷
    Serve (Text 1 0 ∷ []) (2 * k + 442) (Data 1 (k + 1)) true ∷ []) ++
    rows 11 4 (λ k.
    Serve (Text 1 0 ∷ []) (2 * k + 441) (Data 1 k) true ∷ Step 1 1 false 2 (2 * k + 442) (Data 1 k ∷ []) Keep ∷ []) ++
    rows 15 8 (λ k.
    Serve (Text 1 0 ∷ []) (3 * k + 426) (Data 1 k) true ∷ Serve (Text 1 0 ∷ []) (3 * k + 427) (Data 1 k) true ∷
    Step 1 1 false 2 (3 * k + 428) (Data 1 k ∷ []) Keep ∷ []) ++
    replicate 16 (Serve (Text 1 0 ∷ []) 495 (Data 1 23) true) ++
    rows 496 3 (λ k. Serve (Text 1 0 ∷ []) k (Data 1 23) true ∷ []) ++
    rows 23 4 (λ k.
    Step 1 1 false 2 (2 * k + 453) (Data 1 k ∷ []) Keep ∷
    Serve (Text 1 0 ∷ []) (2 * k + 454) (Data 1 (k + 1)) true ∷ []) ++
    rows 27 3 (λ k.
    Serve (Text 1 0 ∷ []) (2 * k + 453) (Data 1 k) true ∷ Step 1 1 false 2 (2 * k + 454) (Data 1 k ∷ []) Keep ∷ []) ++
    rows 30 8 (λ k.
    Serve (Text 1 0 ∷ []) (3 * k + 423) (Data 1 k) true ∷ Step 1 1 false 2 (3 * k + 424) (Data 1 k ∷ []) Keep ∷
    Serve (Text 1 0 ∷ []) (3 * k + 425) (Data 1 (k + 1)) true ∷ [])

seen : List Seen
seen =
    made (entries.Get (Text 1 0) 0 1 ∷ entries.Done ∷
    rows 0 62 (λ k. entries.Zero (Data 1 k) ∷ []) ++
    replicate 17 (entries.Hands 1) ++ entries.Done ∷ entries.Zero (Data 1 62) ∷ entries.Zero (Data 1 63) ∷
    entries.Hands 1 ∷ entries.Hands 1 ∷ entries.Done ∷
    rows 64 16 (λ k. entries.Zero (Data 1 k) ∷ []) ++
    replicate 16 (entries.Hands 1) ++ entries.Done ∷
    rows 80 16 (λ k. entries.Zero (Data 1 k) ∷ []) ++
    replicate 16 (entries.Hands 1) ++ entries.Done ∷
    rows 96 14 (λ k. entries.Zero (Data 1 k) ∷ []) ++
    replicate 14 (entries.Hands 1) ++ entries.Done ∷ entries.Zero (Data 1 110) ∷ entries.Hands 1 ∷
    entries.Hands 1 ∷ entries.Done ∷
    rows 111 14 (λ k. entries.Zero (Data 1 k) ∷ []) ++
    replicate 14 (entries.Hands 1) ++ entries.Done ∷
    rows 125 16 (λ k. entries.Zero (Data 1 k) ∷ []) ++
    replicate 16 (entries.Hands 1) ++ entries.Done ∷
    rows 141 16 (λ k. entries.Zero (Data 1 k) ∷ []) ++
    replicate 16 (entries.Hands 1) ++ entries.Done ∷
    rows 157 16 (λ k. entries.Zero (Data 1 k) ∷ []) ++
    replicate 16 (entries.Hands 1) ++ entries.Done ∷ entries.Zero (Data 1 173) ∷ entries.Zero (Data 1 174) ∷
    replicate 3 (entries.Hands 1) ++ entries.Done ∷
    rows 175 16 (λ k. entries.Zero (Data 1 k) ∷ []) ++
    replicate 16 (entries.Hands 1) ++ entries.Done ∷
    rows 191 9 (λ k. entries.Zero (Data 1 k) ∷ []) ++
    rows 0 7 (λ k. entries.Get (Data 1 k) k 1 ∷ entries.Done ∷ []) ++
    replicate 16 (entries.Hands 1) ++ entries.Done ∷ entries.Get (Data 1 7) 7 4 ∷ entries.Done ∷
    rows 8 3 (λ k. entries.Reclaim (Data 1 k) ∷ []) ++
    entries.Get (Data 1 11) 11 4 ∷ entries.Done ∷
    rows 12 3 (λ k. entries.Reclaim (Data 1 k) ∷ []) ++
    rows 15 8 (λ k. entries.Get (Data 1 k) k 1 ∷ entries.Done ∷ []) ++
    replicate 16 (entries.Hands 1) ++ entries.Done ∷ entries.Get (Data 1 23) 23 4 ∷ entries.Done ∷
    rows 24 3 (λ k. entries.Reclaim (Data 1 k) ∷ []) ++
    entries.Get (Data 1 27) 27 4 ∷ entries.Done ∷
    rows 28 3 (λ k. entries.Reclaim (Data 1 k) ∷ []) ++
    entries.Get (Data 1 31) 31 1 ∷
    rows 32 7 (λ k. entries.Done ∷ entries.Get (Data 1 k) k 1 ∷ []))

ring_of_200_pages : chosen (walk images operations (starting images (1 ∷ []) 64)) ≡ seen
unfolding images operations seen spot chunk_reached lowest_below chunk_start chunk counted_from text_spot
ring_of_200_pages = refl
