-- Two processes fork in 65 frames, with frames forced for the copies: locked pages stay, writes of the back hand, and
-- reads of one, two and three pages as frames are spared.
use Rattle.std.proofs.Common.{◌≡◌, true, false, List, [], ◌∷◌, ◌++◌, replicate, Some, None, refl, ◌*◌, ◌+◌}
use Rattle.vm_facts.specs.declared.page.Page.TheVariants.{Data, Stack, Text}
use Rattle.vm_facts.specs.declared.page.PageState.TheVariants.{Unfilled, Valid, Invalid, OnSwap}
use Rattle.vm_facts.specs.declared.entry.Entry.TheVariants as entries
use Rattle.aout_image.specs.declared.Kind.TheVariants.{Paged}
use Rattle.swap_dmap.specs.Chunks.{chunk, chunk_start, lowest_below, chunk_reached, counted_from, spot, text_spot}
use Rattle.flat_state.specs.Flat.{NamedImage}
use Rattle.flat_state.specs.declared.change.Change.TheVariants.{Fork, Lend, End}
use Rattle.page_model.specs.Pages.{Zeros}
use Rattle.page_model.specs.Placement.{Placement}
use Rattle.page_model.specs.Swapper.{Nothing}
use Rattle.place_vectors.proofs.Walk.{Operation, Fixed, Serve, Choose, Step, Seen, Made, Chose, Ends, named, runner, slot, empty, starting, walk, rows, space, made, text_of, residence}

images : List NamedImage
images =
    named Paged 16384 0 30000 0 ∷ []

operations : List Operation
operations =
    Fixed [] 1 (entries.Zero (Stack 1 0)) ∷ Fixed [] 2 (entries.Zero (Stack 2 0)) ∷ Serve [] 5 (Text 1 0) false ∷
    Serve [] 0 (Text 1 0) false ∷ Choose (runner 1 1 false false ∷ runner 2 2 false false ∷ []) ∷
    Choose (runner 1 1 false false ∷ runner 2 2 false false ∷ []) ∷ Fixed [] 12 entries.Done ∷
    Choose (runner 1 1 false false ∷ runner 2 2 false false ∷ []) ∷
    rows 2 21 (λ k. Serve (Text 1 0 ∷ []) (2 * k + 20) (Data 2 k) false ∷ []) ++
    Serve (Text 1 0 ∷ []) 66 (Data 2 0) false ∷ Serve (Text 1 0 ∷ []) 68 (Data 2 1) false ∷
    rows 2 21 (λ k. Serve (Text 1 0 ∷ []) (2 * k + 73) (Data 1 k) true ∷ []) ++
    Serve (Text 1 0 ∷ []) 119 (Data 1 0) true ∷ Serve (Text 1 0 ∷ []) 121 (Data 1 1) true ∷
    Serve (Text 1 0 ∷ []) 123 (Data 1 23) true ∷ Serve (Text 1 0 ∷ []) 125 (Data 1 24) true ∷
    Step 1 1 false 3 127 [] (Lend 3) ∷ Serve (Text 1 0 ∷ []) 130 (Data 2 23) true ∷
    Serve (Text 1 0 ∷ []) 132 (Data 2 24) true ∷ Step 2 2 false 3 134 [] (Lend 4) ∷
    Step 3 1 true 3 137 [] (End 35072) ∷ Step 4 2 true 3 140 [] (End 35072) ∷ Step 1 1 false 3 145 [] (Fork 5) ∷
    rows 0 12 (λ k. Fixed (Data 1 k ∷ []) (k + 146) (entries.Copy (Data 3 k)) ∷ []) ++
    Fixed (Data 1 12 ∷ []) 158 (entries.Hands 17) ∷ Fixed (Data 1 12 ∷ []) 159 entries.Done ∷
    Fixed (Data 1 12 ∷ []) 160 (entries.Copy (Data 3 12)) ∷ Fixed (Data 1 13 ∷ []) 161 (entries.Copy (Data 3 13)) ∷
    Fixed (Data 1 14 ∷ []) 162 (entries.Hands 2) ∷ Fixed (Data 1 14 ∷ []) 163 entries.Done ∷
    rows 14 7 (λ k. Fixed (Data 1 k ∷ []) (k + 150) (entries.Copy (Data 3 k)) ∷ []) ++
    Fixed (Data 1 21 ∷ []) 171 (entries.Hands 7) ∷ Fixed (Data 1 21 ∷ []) 172 entries.Done ∷
    Fixed (Data 1 21 ∷ []) 173 (entries.Copy (Data 3 21)) ∷ Fixed (Data 1 22 ∷ []) 174 (entries.Copy (Data 3 22)) ∷
    Fixed (Data 1 23 ∷ []) 175 (entries.Hands 2) ∷ Fixed (Data 1 23 ∷ []) 176 entries.Done ∷
    Fixed (Data 1 23 ∷ []) 177 (entries.Copy (Data 3 23)) ∷ Fixed (Data 1 24 ∷ []) 178 (entries.Copy (Data 3 24)) ∷
    Fixed (Stack 1 0 ∷ []) 179 (entries.Copy (Stack 3 0)) ∷ Step 1 1 false 4 181 [] (End 21248) ∷
    Step 2 2 false 4 186 [] (Fork 6) ∷ Serve (Data 2 0 ∷ []) 187 (Data 2 0) true ∷
    Serve (Data 2 0 ∷ []) 188 (Data 2 0) true ∷ Fixed (Data 2 0 ∷ []) 189 (entries.Copy (Data 4 0)) ∷
    Serve (Data 2 1 ∷ []) 190 (Data 2 1) true ∷
    rows 1 12 (λ k. Fixed (Data 2 k ∷ []) (k + 190) (entries.Copy (Data 4 k)) ∷ []) ++
    rows 13 4 (λ k.
    Fixed (Data 2 k ∷ []) (3 * k + 164) (entries.Copy (Data 4 k)) ∷
    Serve (Data 2 (k + 1) ∷ []) (3 * k + 165) (Data 2 (k + 1)) true ∷
    Serve (Data 2 (k + 1) ∷ []) (3 * k + 166) (Data 2 (k + 1)) true ∷ []) ++
    Fixed (Data 2 17 ∷ []) 215 (entries.Hands 17) ∷ Fixed (Data 2 17 ∷ []) 216 entries.Done ∷
    Fixed (Data 2 17 ∷ []) 217 (entries.Copy (Data 4 17)) ∷ Serve (Data 2 18 ∷ []) 218 (Data 2 18) true ∷
    Serve (Data 2 18 ∷ []) 219 (Data 2 18) true ∷ Fixed (Data 2 18 ∷ []) 220 (entries.Copy (Data 4 18)) ∷
    Serve (Data 2 19 ∷ []) 221 (Data 2 19) true ∷ Serve (Data 2 19 ∷ []) 222 (Data 2 19) true ∷
    Fixed (Data 2 19 ∷ []) 223 (entries.Copy (Data 4 19)) ∷
    replicate 5 (Serve (Data 2 20 ∷ []) 224 (Data 2 20) true) ++
    rows 225 3 (λ k. Serve (Data 2 20 ∷ []) k (Data 2 20) true ∷ []) ++
    Fixed (Data 2 20 ∷ []) 228 (entries.Hands 2) ∷ Fixed (Data 2 20 ∷ []) 229 (entries.Copy (Data 4 20)) ∷
    rows 230 4 (λ k. Serve (Data 2 21 ∷ []) k (Data 2 21) true ∷ []) ++
    Fixed (Data 2 21 ∷ []) 234 (entries.Copy (Data 4 21)) ∷ Serve (Data 2 22 ∷ []) 235 (Data 2 22) true ∷
    rows 235 3 (λ k. Serve (Data 2 22 ∷ []) k (Data 2 22) true ∷ []) ++
    rows 22 3 (λ k.
    Serve (Data 2 k ∷ []) (2 * k + 194) (Data 2 k) true ∷
    Fixed (Data 2 k ∷ []) (2 * k + 195) (entries.Copy (Data 4 k)) ∷ []) ++
    Serve (Stack 2 0 ∷ []) 244 (Stack 2 0) true ∷ Fixed (Stack 2 0 ∷ []) 245 (entries.Copy (Stack 4 0)) ∷
    Serve [] 246 (Text 1 0) true ∷ Step 2 2 false 5 248 [] (End 21248) ∷
    rows 25 3 (λ k. Serve (Text 1 0 ∷ []) (2 * k + 201) (Data 3 k) true ∷ [])

last : Placement
last = record {
  spaces =
      space 3 1 (replicate 7 (slot OnSwap false Zeros) ++ rows 62 4 (λ k. slot (Invalid k) false Zeros ∷ []) ++
      slot (Invalid 4) false Zeros ∷ rows 17 13 (λ k. slot (Valid k) true Zeros ∷ []) ++ slot (Valid 2) true Zeros ∷
      slot (Valid 57) true Zeros ∷ slot (Valid 56) true Zeros ∷ slot Unfilled false Zeros ∷
      slot Unfilled false Zeros ∷ [])
      (slot (Valid 30) true Zeros ∷ []) ∷
      space 4 1 (replicate 5 (slot OnSwap false Zeros) ++ slot (Valid 44) true Zeros ∷ slot (Valid 43) true Zeros ∷
      slot (Valid 42) true Zeros ∷ slot (Valid 41) true Zeros ∷ slot (Valid 40) true Zeros ∷
      slot (Valid 39) true Zeros ∷ slot (Valid 38) true Zeros ∷ slot (Valid 37) true Zeros ∷
      slot (Valid 36) true Zeros ∷ slot (Valid 34) true Zeros ∷ slot (Valid 32) true Zeros ∷
      slot OnSwap false Zeros ∷ slot (Valid 51) true Zeros ∷ slot (Valid 47) true Zeros ∷
      slot (Valid 45) true Zeros ∷ slot (Valid 52) true Zeros ∷ slot (Valid 54) true Zeros ∷
      rows 58 3 (λ k. slot (Valid k) true Zeros ∷ []) ++ replicate 5 (slot Unfilled false Zeros))
      (slot (Valid 61) true Zeros ∷ []) ∷ [];
  texts = text_of 1 (slot (Valid 3) false Zeros ∷ replicate 15 (slot Unfilled false Zeros)) ∷ [];
  holds =
      None ∷ Some (Data 3 25) ∷ Some (Text 1 0) ∷ Some (Data 3 11) ∷ empty 12 ++
      rows 12 13 (λ k. Some (Data 3 k) ∷ []) ++ Some (Stack 3 0) ∷ None ∷ Some (Data 4 15) ∷ None ∷
      Some (Data 4 14) ∷ None ∷ Some (Data 4 13) ∷ Some (Data 4 12) ∷ Some (Data 4 11) ∷ Some (Data 4 10) ∷
      Some (Data 4 9) ∷ Some (Data 4 8) ∷ Some (Data 4 7) ∷ Some (Data 4 6) ∷ Some (Data 4 5) ∷ Some (Data 4 19) ∷
      None ∷ Some (Data 4 18) ∷ replicate 3 None ++ Some (Data 4 17) ∷ Some (Data 4 20) ∷ None ∷ Some (Data 4 21) ∷
      None ∷ Some (Data 3 27) ∷ Some (Data 3 26) ∷ rows 22 3 (λ k. Some (Data 4 k) ∷ []) ++ Some (Stack 4 0) ∷
      rows 7 4 (λ k. Some (Data 3 k) ∷ []);
  free =
      55 ∷ 53 ∷ 50 ∷ 46 ∷ 48 ∷ 49 ∷ 31 ∷ 33 ∷ 35 ∷ 16 ∷ 15 ∷ 14 ∷ 13 ∷ 12 ∷ 11 ∷ 10 ∷ 9 ∷ 8 ∷ 7 ∷ 6 ∷ 5 ∷ 1 ∷ 62 ∷
      63 ∷ 64 ∷ 65 ∷ 4 ∷ [];
  transfers = [];
  front = 7;
  back = 56;
  residents = residence 5 false 145 ∷ residence 6 false 186 ∷ [];
  due = [];
}

seen : List Seen
seen =
    Made (Some (entries.Get (Text 1 0) 0 2)) ∷ Made None ∷ replicate 3 (Chose Nothing) ++
    made (rows 2 21 (λ k. entries.Zero (Data 2 k) ∷ []) ++
    entries.Zero (Data 2 0) ∷ entries.Zero (Data 2 1) ∷
    rows 2 21 (λ k. entries.Zero (Data 1 k) ∷ []) ++
    entries.Zero (Data 1 0) ∷ entries.Zero (Data 1 1) ∷ entries.Zero (Data 1 23) ∷ entries.Zero (Data 1 24) ∷
    entries.Zero (Data 2 23) ∷ entries.Zero (Data 2 24) ∷ entries.Get (Data 2 0) 0 2 ∷ entries.Done ∷
    entries.Reclaim (Data 2 1) ∷
    rows 14 6 (λ k. entries.Get (Data 2 k) k 1 ∷ entries.Done ∷ []) ++
    replicate 5 (entries.Hands 1) ++ entries.Done ∷ entries.Get (Data 2 20) 20 1 ∷ entries.Done ∷ entries.Hands 1 ∷
    entries.Done ∷ entries.Get (Data 2 21) 21 1 ∷ entries.Done ∷ entries.Hands 1 ∷ entries.Hands 1 ∷ entries.Done ∷
    entries.Get (Data 2 22) 22 3 ∷ entries.Done ∷ entries.Reclaim (Data 2 23) ∷ entries.Reclaim (Data 2 24) ∷
    entries.Reclaim (Stack 2 0) ∷ entries.Reclaim (Text 1 0) ∷
    rows 25 3 (λ k. entries.Zero (Data 3 k) ∷ [])) ++
    Ends last ∷ []

forks_with_few_frames : walk images operations (starting images (1 ∷ 1 ∷ []) 65) ≡ seen
unfolding images operations last seen spot chunk_reached lowest_below chunk_start chunk counted_from text_spot
forks_with_few_frames = refl
