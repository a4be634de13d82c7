-- Forks and execve of other images in 70 frames: fills force frames by moves of the hands and by transfers that end.
use Rattle.std.proofs.Common.{◌≡◌, true, false, List, [], ◌∷◌, ◌++◌, replicate, Some, None, refl, ◌*◌, ◌+◌}
use Rattle.vm_facts.specs.declared.page.Page.TheVariants.{Data, Stack, Text}
use Rattle.vm_facts.specs.declared.page.PageState.TheVariants.{Unfilled, Valid, Invalid, OnSwap}
use Rattle.vm_facts.specs.declared.entry.Entry.TheVariants as entries
use Rattle.aout_image.specs.declared.Kind.TheVariants.{Paged}
use Rattle.swap_dmap.specs.Chunks.{chunk, chunk_start, lowest_below, chunk_reached, counted_from, spot, text_spot}
use Rattle.flat_state.specs.Flat.{NamedImage}
use Rattle.flat_state.specs.declared.change.Change.TheVariants.{Fork, Lend, Exec}
use Rattle.page_model.specs.Pages.{Zeros}
use Rattle.page_model.specs.Placement.{Placement}
use Rattle.page_model.specs.Swapper.{Nothing}
use Rattle.place_vectors.proofs.Walk.{Operation, Fixed, Serve, Choose, Step, Seen, Made, Chose, Ends, named, runner, slot, starting, walk, rows, space, made, text_of, residence}

images : List NamedImage
images =
    named Paged 16384 0 60000 0 ∷
    named Paged 16384 0 20000 0 ∷ []

operations : List Operation
operations =
    Fixed [] 1 (entries.Zero (Stack 1 0)) ∷ Choose (runner 1 1 false false ∷ []) ∷ Serve [] 8 (Text 1 0) false ∷
    Serve [] 0 (Text 1 0) false ∷ Serve [] 0 (Text 1 0) false ∷ Serve [] 11 (Text 1 0) true ∷
    Serve (Text 1 0 ∷ []) 12 (Data 1 38) true ∷ Serve (Text 1 0 ∷ []) 14 (Data 1 10) true ∷
    Step 1 1 false 2 16 [] (Fork 2) ∷ Fixed (Data 1 10 ∷ []) 17 (entries.Copy (Data 2 10)) ∷
    Fixed (Data 1 38 ∷ []) 18 (entries.Copy (Data 2 38)) ∷ Fixed (Stack 1 0 ∷ []) 19 (entries.Copy (Stack 2 0)) ∷
    rows 6 4 (λ k. Serve (Text 1 0 ∷ []) (2 * k + 9) (Data 1 k) true ∷ []) ++
    rows 11 27 (λ k. Serve (Text 1 0 ∷ []) (2 * k + 7) (Data 1 k) true ∷ []) ++
    rows 39 18 (λ k. Serve (Text 1 0 ∷ []) (2 * k + 5) (Data 1 k) true ∷ []) ++
    Step 1 1 false 3 119 [] (Lend 3) ∷
    rows 32 6 (λ k. Serve (Text 1 0 ∷ []) (2 * k + 58) (Data 2 k) true ∷ []) ++
    Serve (Text 1 0 ∷ []) 134 (Data 2 39) true ∷ Serve (Text 1 0 ∷ []) 136 (Data 2 40) true ∷
    Step 2 2 false 3 138 [] (Exec 2 []) ∷ Fixed [] 139 (entries.Zero (Stack 3 0)) ∷ Serve [] 140 (Text 2 0) true ∷
    Serve [] 141 (Text 2 0) true ∷ Serve (Text 2 0 ∷ []) 143 (Data 3 1) true ∷
    Serve (Text 2 0 ∷ []) 145 (Data 3 2) true ∷ Step 2 3 false 4 149 [] (Exec 1 []) ∷
    Fixed [] 150 (entries.Zero (Stack 4 0)) ∷ Serve (Text 1 0 ∷ []) 151 (Data 4 38) true ∷
    Serve (Text 1 0 ∷ []) 153 (Data 4 10) true ∷ Step 2 4 false 5 155 [] (Fork 4) ∷
    Fixed (Data 4 10 ∷ []) 156 (entries.Copy (Data 5 10)) ∷ Fixed (Data 4 38 ∷ []) 157 (entries.Copy (Data 5 38)) ∷
    Fixed (Stack 4 0 ∷ []) 158 (entries.Copy (Stack 5 0)) ∷
    rows 6 4 (λ k. Serve (Text 1 0 ∷ []) (2 * k + 148) (Data 4 k) true ∷ []) ++
    rows 11 7 (λ k. Serve (Text 1 0 ∷ []) (2 * k + 146) (Data 4 k) true ∷ []) ++
    replicate 18 (Serve (Text 1 0 ∷ []) 182 (Data 4 18) true) ++ Serve (Text 1 0 ∷ []) 183 (Data 4 18) true ∷
    rows 18 16 (λ k. Serve (Text 1 0 ∷ []) (2 * k + 148) (Data 4 k) true ∷ []) ++
    replicate 16 (Serve (Text 1 0 ∷ []) 216 (Data 4 34) true) ++ Serve (Text 1 0 ∷ []) 217 (Data 4 34) true ∷
    rows 34 4 (λ k. Serve (Text 1 0 ∷ []) (2 * k + 150) (Data 4 k) true ∷ []) ++
    Serve (Text 1 0 ∷ []) 226 (Data 4 39) true ∷ Serve (Text 1 0 ∷ []) 228 (Data 4 40) true ∷
    replicate 6 (Serve (Text 1 0 ∷ []) 230 (Data 4 41) true) ++ Serve (Text 1 0 ∷ []) 231 (Data 4 41) true ∷
    rows 41 9 (λ k. Serve (Text 1 0 ∷ []) (2 * k + 150) (Data 4 k) true ∷ []) ++
    replicate 9 (Serve (Text 1 0 ∷ []) 250 (Data 4 50) true) ++ Serve (Text 1 0 ∷ []) 251 (Data 4 50) true ∷
    rows 50 7 (λ k. Serve (Text 1 0 ∷ []) (2 * k + 152) (Data 4 k) true ∷ []) ++
    Step 2 4 false 6 266 [] (Lend 5) ∷ Serve (Text 1 0 ∷ []) 269 (Data 1 0) true ∷
    Serve (Text 1 0 ∷ []) 271 (Data 1 1) true ∷ replicate 9 (Serve (Text 1 0 ∷ []) 273 (Data 1 2) true) ++
    Serve (Text 1 0 ∷ []) 274 (Data 1 2) true ∷
    rows 2 3 (λ k. Serve (Text 1 0 ∷ []) (2 * k + 271) (Data 1 k) true ∷ []) ++
    rows 279 3 (λ k. Serve (Text 1 0 ∷ []) k (Data 1 4) true ∷ []) ++
    rows 283 3 (λ k. Serve (Text 1 0 ∷ []) k (Data 1 5) true ∷ [])

last : Placement
last = record {
  spaces =
      space 1 1 (slot (Valid 56) true Zeros ∷ slot (Valid 57) true Zeros ∷ slot (Valid 59) true Zeros ∷
      slot (Valid 58) true Zeros ∷ slot (Valid 60) true Zeros ∷ slot (Valid 61) true Zeros ∷
      rows 9 4 (λ k. slot (Valid k) true Zeros ∷ []) ++ slot (Invalid 5) true Zeros ∷
      rows 13 5 (λ k. slot (Valid k) true Zeros ∷ []) ++ replicate 22 (slot OnSwap false Zeros) ++
      slot (Invalid 4) true Zeros ∷ replicate 18 (slot OnSwap false Zeros) ++ slot Unfilled false Zeros ∷
      slot Unfilled false Zeros ∷ [])
      (slot (Invalid 1) true Zeros ∷ []) ∷
      space 4 1 (replicate 6 (slot Unfilled false Zeros) ++ slot OnSwap false Zeros ∷ slot OnSwap false Zeros ∷
      slot (Invalid 6) true Zeros ∷ slot (Invalid 66) true Zeros ∷ slot (Invalid 7) true Zeros ∷
      rows 67 4 (λ k. slot (Invalid k) true Zeros ∷ []) ++ slot (Invalid 3) true Zeros ∷
      slot (Invalid 64) true Zeros ∷ slot (Invalid 65) true Zeros ∷
      rows 18 20 (λ k. slot (Valid k) true Zeros ∷ []) ++ slot (Invalid 63) true Zeros ∷
      rows 38 18 (λ k. slot (Valid k) true Zeros ∷ []) ++ slot Unfilled false Zeros ∷
      slot Unfilled false Zeros ∷ [])
      (slot (Invalid 8) true Zeros ∷ []) ∷
      space 5 1 (replicate 10 (slot Unfilled false Zeros) ++ slot (Invalid 62) true Zeros ∷
      replicate 27 (slot Unfilled false Zeros) ++ slot OnSwap false Zeros ∷
      replicate 20 (slot Unfilled false Zeros))
      (slot OnSwap false Zeros ∷ []) ∷ [];
  texts =
      text_of 1 (slot (Valid 2) false Zeros ∷ replicate 15 (slot Unfilled false Zeros)) ∷
      text_of 2 (replicate 16 (slot Unfilled false Zeros)) ∷ [];
  holds =
      Some (Stack 1 0) ∷ Some (Text 1 0) ∷ Some (Data 4 15) ∷ Some (Data 1 38) ∷ Some (Data 1 10) ∷
      Some (Data 4 8) ∷ Some (Data 4 10) ∷ Some (Stack 4 0) ∷ rows 6 4 (λ k. Some (Data 1 k) ∷ []) ++
      rows 11 5 (λ k. Some (Data 1 k) ∷ []) ++ rows 18 20 (λ k. Some (Data 4 k) ∷ []) ++
      rows 39 18 (λ k. Some (Data 4 k) ∷ []) ++ Some (Data 1 0) ∷ Some (Data 1 1) ∷ Some (Data 1 3) ∷
      Some (Data 1 2) ∷ Some (Data 1 4) ∷ Some (Data 1 5) ∷ Some (Data 5 10) ∷ Some (Data 4 38) ∷ Some (Data 4 16) ∷
      Some (Data 4 17) ∷ Some (Data 4 9) ∷ rows 11 4 (λ k. Some (Data 4 k) ∷ []);
  free = [];
  transfers = [];
  front = 9;
  back = 62;
  residents =
      residence 1 false 0 ∷ residence 2 false 16 ∷ residence 3 false 119 ∷ residence 4 false 155 ∷
      residence 5 false 266 ∷ [];
  due = [];
}

seen : List Seen
seen =
    Chose Nothing ∷ Made (Some (entries.Get (Text 1 0) 0 2)) ∷ Made None ∷ Made None ∷
    made (entries.Done ∷ entries.Zero (Data 1 38) ∷ entries.Zero (Data 1 10) ∷
    rows 6 4 (λ k. entries.Zero (Data 1 k) ∷ []) ++
    rows 11 27 (λ k. entries.Zero (Data 1 k) ∷ []) ++
    rows 39 18 (λ k. entries.Zero (Data 1 k) ∷ []) ++
    rows 32 6 (λ k. entries.Zero (Data 2 k) ∷ []) ++
    entries.Zero (Data 2 39) ∷ entries.Zero (Data 2 40) ∷ entries.Get (Text 2 0) 0 2 ∷ entries.Done ∷
    entries.Zero (Data 3 1) ∷ entries.Zero (Data 3 2) ∷ entries.Zero (Data 4 38) ∷ entries.Zero (Data 4 10) ∷
    rows 6 4 (λ k. entries.Zero (Data 4 k) ∷ []) ++
    rows 11 7 (λ k. entries.Zero (Data 4 k) ∷ []) ++
    replicate 18 (entries.Hands 1) ++ entries.Done ∷
    rows 18 16 (λ k. entries.Zero (Data 4 k) ∷ []) ++
    replicate 16 (entries.Hands 1) ++ entries.Done ∷
    rows 34 4 (λ k. entries.Zero (Data 4 k) ∷ []) ++
    entries.Zero (Data 4 39) ∷ entries.Zero (Data 4 40) ∷ replicate 6 (entries.Hands 1) ++ entries.Done ∷
    rows 41 9 (λ k. entries.Zero (Data 4 k) ∷ []) ++
    replicate 9 (entries.Hands 1) ++ entries.Done ∷
    rows 50 7 (λ k. entries.Zero (Data 4 k) ∷ []) ++
    entries.Zero (Data 1 0) ∷ entries.Zero (Data 1 1) ∷ replicate 9 (entries.Hands 1) ++ entries.Done ∷
    entries.Zero (Data 1 2) ∷ entries.Zero (Data 1 3) ∷ entries.Hands 1 ∷ entries.Hands 1 ∷ entries.Done ∷
    entries.Zero (Data 1 4) ∷ entries.Hands 1 ∷ entries.Done ∷ entries.Zero (Data 1 5) ∷ []) ++
    Ends last ∷ []

forced_frames : walk images operations (starting images (1 ∷ []) 70) ≡ seen
unfolding images operations last seen spot chunk_reached lowest_below chunk_start chunk counted_from text_spot
forced_frames = refl
