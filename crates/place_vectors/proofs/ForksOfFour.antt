-- Four processes of one text in 64 frames fork, lend their spaces and run their own image, over and over; stacks of 18
-- pages, of which two are filled.
use Rattle.std.proofs.Common.{◌≡◌, true, false, List, [], ◌∷◌, ◌++◌, replicate, Some, None, refl, ◌*◌, ◌+◌}
use Rattle.vm_facts.specs.declared.page.Page.TheVariants.{Data, Stack, Text}
use Rattle.vm_facts.specs.declared.page.PageState.TheVariants.{Unfilled, Valid, Invalid}
use Rattle.vm_facts.specs.declared.entry.Entry.TheVariants as entries
use Rattle.aout_image.specs.declared.Kind.TheVariants.{Shared}
use Rattle.swap_dmap.specs.Chunks.{chunk, chunk_start, lowest_below, chunk_reached, counted_from, spot, text_spot}
use Rattle.flat_state.specs.Flat.{NamedImage}
use Rattle.flat_state.specs.declared.change.Change.TheVariants.{Resize, Fork, Lend, Exec, End}
use Rattle.page_model.specs.Pages.{Zeros}
use Rattle.page_model.specs.Placement.{Placement}
use Rattle.page_model.specs.Swapper.{Nothing}
use Rattle.place_vectors.proofs.Walk.{Operation, Fixed, Serve, Choose, Step, Seen, Made, Chose, Ends, named, runner, slot, empty, frames, starting, walk, rows, space, made, text_of, residence}

images : List NamedImage
images =
    named Shared 16384 0 4096 0 ∷ []

operations : List Operation
operations =
    rows 1 4 (λ k. Fixed [] k (entries.Zero (Stack k 0)) ∷ []) ++
    Serve [] 6 (Text 1 0) false ∷ Serve [] 0 (Text 1 0) false ∷ Serve [] 0 (Text 1 0) false ∷
    Fixed [] 10 entries.Done ∷ Step 2 2 false 5 14 [] (Fork 5) ∷
    Fixed (Stack 2 0 ∷ []) 15 (entries.Copy (Stack 5 0)) ∷ Step 2 2 false 6 17 [] (Lend 6) ∷
    Step 3 3 false 6 20 [] (Fork 7) ∷ Fixed (Stack 3 0 ∷ []) 21 (entries.Copy (Stack 6 0)) ∷
    Step 3 3 false 7 23 [] (Lend 8) ∷
    Choose (runner 1 1 false false ∷ runner 4 4 false false ∷ runner 5 5 false false ∷ runner 6 2 true false ∷ runner 7 6 false false ∷ runner 8 3 true false ∷ []) ∷
    Step 1 1 false 7 30 [] (Fork 9) ∷ Fixed (Stack 1 0 ∷ []) 31 (entries.Copy (Stack 7 0)) ∷
    Step 5 5 false 8 35 [] (Exec 1 []) ∷ Fixed [] 36 (entries.Zero (Stack 8 0)) ∷ Step 5 8 false 9 38 [] (Fork 10) ∷
    Fixed (Stack 8 0 ∷ []) 39 (entries.Copy (Stack 9 0)) ∷ Step 5 8 false 10 41 [] (Lend 11) ∷
    Step 1 1 false 10 46 [] (Lend 12) ∷
    replicate 3 (Choose (runner 4 4 false false ∷ runner 6 2 true false ∷ runner 7 6 false false ∷ runner 8 3 true false ∷ runner 9 7 false false ∷ runner 10 9 false false ∷ runner 11 8 true false
    ∷ runner 12 1 true false ∷ [])) ++
    Step 4 4 false 10 54 [] (Fork 13) ∷ Fixed (Stack 4 0 ∷ []) 55 (entries.Copy (Stack 10 0)) ∷
    Step 4 4 false 11 57 [] (Lend 14) ∷ Serve (Text 1 0 ∷ []) 60 (Data 2 0) true ∷
    Step 6 2 true 11 62 [] (Resize 4 18) ∷ Serve (Text 1 0 ∷ []) 63 (Stack 2 17) true ∷
    Step 6 2 true 11 65 [] (Exec 1 []) ∷ Fixed [] 66 (entries.Zero (Stack 11 0)) ∷
    Step 6 11 false 12 68 [] (Fork 15) ∷ Fixed (Stack 11 0 ∷ []) 69 (entries.Copy (Stack 12 0)) ∷
    Step 6 11 false 13 71 [] (Lend 16) ∷ Step 7 6 false 13 74 [] (Exec 1 []) ∷
    Fixed [] 75 (entries.Zero (Stack 13 0)) ∷ Step 7 13 false 14 77 [] (Fork 17) ∷
    Fixed (Stack 13 0 ∷ []) 78 (entries.Copy (Stack 14 0)) ∷ Step 7 13 false 15 80 [] (Lend 18) ∷
    Serve (Text 1 0 ∷ []) 83 (Data 3 0) true ∷ Step 8 3 true 15 85 [] (Resize 4 18) ∷
    Serve (Text 1 0 ∷ []) 86 (Stack 3 17) true ∷ Step 8 3 true 15 88 [] (Exec 1 []) ∷
    Fixed [] 89 (entries.Zero (Stack 15 0)) ∷ Step 8 15 false 16 91 [] (Fork 19) ∷
    Fixed (Stack 15 0 ∷ []) 92 (entries.Copy (Stack 16 0)) ∷ Step 8 15 false 17 94 [] (Lend 20) ∷
    Step 9 7 false 17 97 [] (Exec 1 []) ∷ Fixed [] 98 (entries.Zero (Stack 17 0)) ∷
    Step 9 17 false 18 100 [] (Fork 21) ∷ Fixed (Stack 17 0 ∷ []) 101 (entries.Copy (Stack 18 0)) ∷
    Step 9 17 false 19 103 [] (Lend 22) ∷ Step 10 9 false 19 106 [] (Exec 1 []) ∷
    Fixed [] 107 (entries.Zero (Stack 19 0)) ∷ Step 10 19 false 20 109 [] (Fork 23) ∷
    Fixed (Stack 19 0 ∷ []) 110 (entries.Copy (Stack 20 0)) ∷ Step 10 19 false 21 112 [] (Lend 24) ∷
    Serve (Text 1 0 ∷ []) 115 (Data 8 0) true ∷ Step 11 8 true 21 117 [] (Resize 4 18) ∷
    Serve (Text 1 0 ∷ []) 118 (Stack 8 17) true ∷ Step 11 8 true 21 120 [] (Exec 1 []) ∷
    Fixed [] 121 (entries.Zero (Stack 21 0)) ∷ Step 11 21 false 22 123 [] (Fork 25) ∷
    Fixed (Stack 21 0 ∷ []) 124 (entries.Copy (Stack 22 0)) ∷ Step 11 21 false 23 126 [] (Lend 26) ∷
    Serve (Text 1 0 ∷ []) 129 (Data 1 0) true ∷ Step 12 1 true 23 131 [] (Resize 4 18) ∷
    Serve (Text 1 0 ∷ []) 132 (Stack 1 17) true ∷ Step 12 1 true 23 134 [] (Exec 1 []) ∷
    Fixed [] 135 (entries.Zero (Stack 23 0)) ∷ Step 12 23 false 24 137 [] (Fork 27) ∷
    Fixed (Stack 23 0 ∷ []) 138 (entries.Copy (Stack 24 0)) ∷ Step 12 23 false 25 140 [] (Lend 28) ∷
    Step 13 10 false 25 143 [] (Exec 1 []) ∷ Fixed [] 144 (entries.Zero (Stack 25 0)) ∷
    Step 13 25 false 26 146 [] (Fork 29) ∷ Fixed (Stack 25 0 ∷ []) 147 (entries.Copy (Stack 26 0)) ∷
    Step 13 25 false 27 149 [] (Lend 30) ∷ Serve (Text 1 0 ∷ []) 152 (Data 4 0) true ∷
    Step 14 4 true 27 154 [] (Resize 4 18) ∷ Serve (Text 1 0 ∷ []) 155 (Stack 4 17) true ∷
    Step 14 4 true 27 157 [] (Exec 1 []) ∷ Fixed [] 158 (entries.Zero (Stack 27 0)) ∷
    Step 14 27 false 28 160 [] (Fork 31) ∷ Fixed (Stack 27 0 ∷ []) 161 (entries.Copy (Stack 28 0)) ∷
    Step 14 27 false 29 163 [] (Lend 32) ∷ Step 15 12 false 29 166 [] (Exec 1 []) ∷
    Fixed [] 167 (entries.Zero (Stack 29 0)) ∷ Step 15 29 false 30 169 [] (Fork 33) ∷
    Fixed (Stack 29 0 ∷ []) 170 (entries.Copy (Stack 30 0)) ∷ Step 15 29 false 31 172 [] (Lend 34) ∷
    Serve (Text 1 0 ∷ []) 175 (Data 11 0) true ∷ Step 16 11 true 31 178 [] (End 11) ∷
    rows 0 9 (λ k.
    Step (2 * k + 17) (2 * k + 14) false 31 (17 * k + 184) [] (End 37888) ∷
    Serve (Text 1 0 ∷ []) (17 * k + 187) (Data (2 * k + 13) 0) true ∷
    Step (2 * k + 18) (2 * k + 13) true 31 (17 * k + 189) [] (Resize 4 18) ∷
    Serve (Text 1 0 ∷ []) (17 * k + 190) (Stack (2 * k + 13) 17) true ∷
    Step (2 * k + 18) (2 * k + 13) true 31 (17 * k + 195) [] (End 11264) ∷ [])

last : Placement
last = record {
  spaces =
      space 1 1 (slot (Valid 27) true Zeros ∷ replicate 3 (slot Unfilled false Zeros))
      (slot (Valid 1) true Zeros ∷ replicate 16 (slot Unfilled false Zeros) ++ slot (Valid 28) true Zeros ∷ []) ∷
      space 2 1 (slot (Valid 12) true Zeros ∷ replicate 3 (slot Unfilled false Zeros))
      (slot (Valid 2) true Zeros ∷ replicate 16 (slot Unfilled false Zeros) ++ slot (Valid 13) true Zeros ∷ []) ∷
      space 3 1 (slot (Valid 17) true Zeros ∷ replicate 3 (slot Unfilled false Zeros))
      (slot (Valid 3) true Zeros ∷ replicate 16 (slot Unfilled false Zeros) ++ slot (Valid 18) true Zeros ∷ []) ∷
      space 4 1 (slot (Valid 32) true Zeros ∷ replicate 3 (slot Unfilled false Zeros))
      (slot (Valid 4) true Zeros ∷ replicate 16 (slot Unfilled false Zeros) ++ slot (Valid 33) true Zeros ∷ []) ∷
      space 8 1 (slot (Valid 23) true Zeros ∷ replicate 3 (slot Unfilled false Zeros))
      (slot (Valid 7) true Zeros ∷ replicate 16 (slot Unfilled false Zeros) ++ slot (Valid 24) true Zeros ∷ []) ∷
      space 11 1 (slot (Valid 37) true Zeros ∷ replicate 3 (slot Unfilled false Zeros))
      (slot (Valid 14) true Zeros ∷ []) ∷
      space 13 1 (slot (Valid 16) true Zeros ∷ replicate 3 (slot Unfilled false Zeros))
      (slot (Valid 8) true Zeros ∷ replicate 16 (slot Unfilled false Zeros) ++ slot (Valid 38) true Zeros ∷ []) ∷
      space 15 1 (slot (Valid 20) true Zeros ∷ replicate 3 (slot Unfilled false Zeros))
      (slot (Valid 19) true Zeros ∷ replicate 16 (slot Unfilled false Zeros) ++ slot (Valid 39) true Zeros ∷ []) ∷
      space 17 1 (slot (Valid 21) true Zeros ∷ replicate 3 (slot Unfilled false Zeros))
      (slot (Valid 9) true Zeros ∷ replicate 16 (slot Unfilled false Zeros) ++ slot (Valid 40) true Zeros ∷ []) ∷
      space 19 1 (slot (Valid 22) true Zeros ∷ replicate 3 (slot Unfilled false Zeros))
      (slot (Valid 10) true Zeros ∷ replicate 16 (slot Unfilled false Zeros) ++ slot (Valid 41) true Zeros ∷ []) ∷
      space 21 1 (slot (Valid 26) true Zeros ∷ replicate 3 (slot Unfilled false Zeros))
      (slot (Valid 25) true Zeros ∷ replicate 16 (slot Unfilled false Zeros) ++ slot (Valid 42) true Zeros ∷ []) ∷
      space 23 1 (slot (Valid 30) true Zeros ∷ replicate 3 (slot Unfilled false Zeros))
      (slot (Valid 29) true Zeros ∷ replicate 16 (slot Unfilled false Zeros) ++ slot (Valid 43) true Zeros ∷ []) ∷
      space 25 1 (slot (Valid 31) true Zeros ∷ replicate 3 (slot Unfilled false Zeros))
      (slot (Valid 11) true Zeros ∷ replicate 16 (slot Unfilled false Zeros) ++ slot (Valid 44) true Zeros ∷ []) ∷
      space 27 1 (slot (Valid 35) true Zeros ∷ replicate 3 (slot Unfilled false Zeros))
      (slot (Valid 34) true Zeros ∷ replicate 16 (slot Unfilled false Zeros) ++ slot (Valid 45) true Zeros ∷ []) ∷
      space 29 1 (slot (Valid 36) true Zeros ∷ replicate 3 (slot Unfilled false Zeros))
      (slot (Valid 15) true Zeros ∷ replicate 16 (slot Unfilled false Zeros) ++
      slot (Valid 46) true Zeros ∷ []) ∷ [];
  texts =
      text_of 1 (slot (Valid 5) false Zeros ∷ slot (Invalid 6) false Zeros ∷
      replicate 14 (slot Unfilled false Zeros)) ∷ [];
  holds =
      rows 1 4 (λ k. Some (Stack k 0) ∷ []) ++ Some (Text 1 0) ∷ Some (Text 1 1) ∷ Some (Stack 8 0) ∷
      Some (Stack 13 0) ∷ Some (Stack 17 0) ∷ Some (Stack 19 0) ∷ Some (Stack 25 0) ∷ Some (Data 2 0) ∷
      Some (Stack 2 17) ∷ Some (Stack 11 0) ∷ Some (Stack 29 0) ∷ Some (Data 13 0) ∷ Some (Data 3 0) ∷
      Some (Stack 3 17) ∷ Some (Stack 15 0) ∷ Some (Data 15 0) ∷ Some (Data 17 0) ∷ Some (Data 19 0) ∷
      Some (Data 8 0) ∷ Some (Stack 8 17) ∷ Some (Stack 21 0) ∷ Some (Data 21 0) ∷ Some (Data 1 0) ∷
      Some (Stack 1 17) ∷ Some (Stack 23 0) ∷ Some (Data 23 0) ∷ Some (Data 25 0) ∷ Some (Data 4 0) ∷
      Some (Stack 4 17) ∷ Some (Stack 27 0) ∷ Some (Data 27 0) ∷ Some (Data 29 0) ∷ Some (Data 11 0) ∷
      rows 0 9 (λ k. Some (Stack (2 * k + 13) 17) ∷ []) ++ empty 18;
  free = frames 47 18 ++ 6 ∷ [];
  transfers = [];
  front = 17;
  back = 1;
  residents =
      residence 1 false 0 ∷ residence 2 false 0 ∷ residence 3 false 0 ∷ residence 4 false 0 ∷ residence 5 false 14 ∷
      residence 6 false 17 ∷ residence 7 false 20 ∷ residence 8 false 23 ∷ residence 9 false 30 ∷
      residence 10 false 38 ∷ residence 11 false 41 ∷ residence 12 false 46 ∷ residence 13 false 54 ∷
      residence 14 false 57 ∷ residence 15 false 68 ∷ [];
  due = [];
}

seen : List Seen
seen =
    Made (Some (entries.Get (Text 1 0) 0 2)) ∷ Made None ∷ Made None ∷ replicate 4 (Chose Nothing) ++
    made (entries.Zero (Data 2 0) ∷ entries.Zero (Stack 2 17) ∷ entries.Zero (Data 3 0) ∷
    entries.Zero (Stack 3 17) ∷ entries.Zero (Data 8 0) ∷ entries.Zero (Stack 8 17) ∷ entries.Zero (Data 1 0) ∷
    entries.Zero (Stack 1 17) ∷ entries.Zero (Data 4 0) ∷ entries.Zero (Stack 4 17) ∷ entries.Zero (Data 11 0) ∷
    rows 0 9 (λ k. entries.Zero (Data (2 * k + 13) 0) ∷ entries.Zero (Stack (2 * k + 13) 17) ∷ [])) ++
    Ends last ∷ []

forks_of_four : walk images operations (starting images (1 ∷ 1 ∷ 1 ∷ 1 ∷ []) 64) ≡ seen
unfolding images operations last seen spot chunk_reached lowest_below chunk_start chunk counted_from text_spot
forks_of_four = refl
