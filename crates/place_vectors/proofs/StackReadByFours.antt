-- Three processes and seven forks in 64 frames, of which three end: stack pages come from swap by up to four of one
-- chunk, with moves of the hands and forced frames all along.
use Rattle.std.proofs.Common.{◌≡◌, true, false, List, [], ◌∷◌, replicate, Some, None, refl, ◌++◌, ◌*◌, ◌+◌}
use Rattle.vm_facts.specs.declared.page.Page.TheVariants.{Data, Stack, Text}
use Rattle.vm_facts.specs.declared.page.PageState.TheVariants.{Unfilled, Valid, Invalid, OnSwap}
use Rattle.vm_facts.specs.declared.entry.Entry.TheVariants as entries
use Rattle.aout_image.specs.declared.Kind.TheVariants.{Paged}
use Rattle.swap_dmap.specs.Chunks.{chunk, chunk_start, lowest_below, chunk_reached, counted_from, spot, text_spot}
use Rattle.flat_state.specs.Flat.{NamedImage}
use Rattle.flat_state.specs.declared.change.Change.TheVariants.{Keep, Resize, Fork, End}
use Rattle.page_model.specs.Pages.{Zeros}
use Rattle.page_model.specs.Placement.{Placement}
use Rattle.place_vectors.proofs.Walk.{Operation, Fixed, Serve, Step, Seen, Made, Ends, named, slot, starting, walk, rows, space, made, text_of, residence}

images : List NamedImage
images =
    named Paged 16384 0 4096 0 ∷ []

operations : List Operation
operations =
    rows 1 3 (λ k. Fixed [] k (entries.Zero (Stack k 0)) ∷ []) ++
    Serve [] 5 (Text 1 0) false ∷ replicate 11 (Serve [] 0 (Text 1 0) false) ++ Fixed [] 24 entries.Done ∷
    Serve (Text 1 0 ∷ []) 26 (Data 1 1) false ∷ Serve (Text 1 0 ∷ []) 28 (Data 1 3) false ∷
    rows 1 31 (λ k.
    Step 1 1 false 4 (3 * k + 27) [] (Resize 4 (k + 1)) ∷ Serve (Text 1 0 ∷ []) (3 * k + 28) (Stack 1 k) false ∷ []) ++
    Step 1 1 false 4 124 [] (Fork 4) ∷ Fixed (Data 1 1 ∷ []) 125 (entries.Copy (Data 4 1)) ∷
    Fixed (Data 1 3 ∷ []) 126 (entries.Copy (Data 4 3)) ∷
    rows 0 25 (λ k. Fixed (Stack 1 k ∷ []) (k + 127) (entries.Copy (Stack 4 k)) ∷ []) ++
    Fixed (Stack 1 25 ∷ []) 152 (entries.Hands 17) ∷ Fixed (Stack 1 25 ∷ []) 153 entries.Done ∷
    Fixed (Stack 1 25 ∷ []) 154 (entries.Copy (Stack 4 25)) ∷ Serve (Stack 1 26 ∷ []) 155 (Stack 1 26) true ∷
    rows 26 5 (λ k. Fixed (Stack 1 k ∷ []) (k + 130) (entries.Copy (Stack 4 k)) ∷ []) ++
    Fixed (Stack 1 31 ∷ []) 161 (entries.Hands 6) ∷ Fixed (Stack 1 31 ∷ []) 162 entries.Done ∷
    Fixed (Stack 1 31 ∷ []) 163 (entries.Copy (Stack 4 31)) ∷ Step 1 1 false 5 165 [] (Resize 3 32) ∷
    Step 1 1 false 5 169 [] (Fork 5) ∷ Fixed (Data 1 1 ∷ []) 170 (entries.Copy (Data 5 1)) ∷
    rows 0 8 (λ k. Fixed (Stack 1 k ∷ []) (k + 171) (entries.Copy (Stack 5 k)) ∷ []) ++
    Fixed (Stack 1 8 ∷ []) 179 (entries.Hands 11) ∷ Fixed (Stack 1 8 ∷ []) 180 entries.Done ∷
    Fixed (Stack 1 8 ∷ []) 181 (entries.Copy (Stack 5 8)) ∷ Fixed (Stack 1 9 ∷ []) 182 (entries.Copy (Stack 5 9)) ∷
    Serve (Stack 1 10 ∷ []) 183 (Stack 1 10) true ∷ Serve (Stack 1 10 ∷ []) 184 (Stack 1 10) true ∷
    Fixed (Stack 1 10 ∷ []) 185 (entries.Copy (Stack 5 10)) ∷
    replicate 5 (Serve (Stack 1 11 ∷ []) 186 (Stack 1 11) true) ++
    rows 187 3 (λ k. Serve (Stack 1 11 ∷ []) k (Stack 1 11) true ∷ []) ++
    Fixed (Stack 1 11 ∷ []) 190 (entries.Hands 1) ∷ Fixed (Stack 1 11 ∷ []) 191 entries.Done ∷
    Fixed (Stack 1 11 ∷ []) 192 (entries.Copy (Stack 5 11)) ∷
    rows 193 3 (λ k. Serve (Stack 1 12 ∷ []) k (Stack 1 12) true ∷ []) ++
    rows 12 4 (λ k.
    Serve (Stack 1 k ∷ []) (2 * k + 172) (Stack 1 k) true ∷
    Fixed (Stack 1 k ∷ []) (2 * k + 173) (entries.Copy (Stack 5 k)) ∷ []) ++
    rows 16 4 (λ k.
    Serve (Stack 1 k ∷ []) (3 * k + 156) (Stack 1 k) true ∷
    Serve (Stack 1 k ∷ []) (3 * k + 157) (Stack 1 k) true ∷
    Fixed (Stack 1 k ∷ []) (3 * k + 158) (entries.Copy (Stack 5 k)) ∷ []) ++
    replicate 16 (Serve (Stack 1 20 ∷ []) 216 (Stack 1 20) true) ++
    rows 217 3 (λ k. Serve (Stack 1 20 ∷ []) k (Stack 1 20) true ∷ []) ++
    rows 20 4 (λ k.
    Fixed (Stack 1 k ∷ []) (3 * k + 160) (entries.Copy (Stack 5 k)) ∷
    Serve (Stack 1 (k + 1) ∷ []) (3 * k + 161) (Stack 1 (k + 1)) true ∷
    Serve (Stack 1 (k + 1) ∷ []) (3 * k + 162) (Stack 1 (k + 1)) true ∷ []) ++
    Fixed (Stack 1 24 ∷ []) 232 (entries.Hands 8) ∷ Fixed (Stack 1 24 ∷ []) 233 entries.Done ∷
    Fixed (Stack 1 24 ∷ []) 234 (entries.Copy (Stack 5 24)) ∷
    Fixed (Stack 1 25 ∷ []) 235 (entries.Copy (Stack 5 25)) ∷
    rows 26 4 (λ k.
    Fixed (Stack 1 k ∷ []) (3 * k + 158) (entries.Copy (Stack 5 k)) ∷
    Serve (Stack 1 (k + 1) ∷ []) (3 * k + 159) (Stack 1 (k + 1)) true ∷
    Serve (Stack 1 (k + 1) ∷ []) (3 * k + 160) (Stack 1 (k + 1)) true ∷ []) ++
    Fixed (Stack 1 30 ∷ []) 248 (entries.Hands 1) ∷ Fixed (Stack 1 30 ∷ []) 249 entries.Done ∷
    Fixed (Stack 1 30 ∷ []) 250 (entries.Copy (Stack 5 30)) ∷ Fixed (Stack 1 31 ∷ []) 251 (entries.Hands 1) ∷
    Fixed (Stack 1 31 ∷ []) 252 entries.Done ∷ Fixed (Stack 1 31 ∷ []) 253 (entries.Copy (Stack 5 31)) ∷
    Serve [] 254 (Text 1 0) false ∷ Step 4 4 false 6 262 [] (Fork 6) ∷
    replicate 3 (Serve (Data 4 1 ∷ []) 263 (Data 4 1) true) ++
    rows 264 3 (λ k. Serve (Data 4 1 ∷ []) k (Data 4 1) true ∷ []) ++
    Fixed (Data 4 1 ∷ []) 267 (entries.Hands 1) ∷ Fixed (Data 4 1 ∷ []) 268 entries.Done ∷
    Fixed (Data 4 1 ∷ []) 269 (entries.Copy (Data 6 1)) ∷ replicate 10 (Serve (Data 4 3 ∷ []) 270 (Data 4 3) true) ++
    rows 271 3 (λ k. Serve (Data 4 3 ∷ []) k (Data 4 3) true ∷ []) ++
    Fixed (Data 4 3 ∷ []) 274 (entries.Copy (Data 6 3)) ∷ Serve (Stack 4 0 ∷ []) 275 (Stack 4 0) true ∷
    Serve (Stack 4 0 ∷ []) 276 (Stack 4 0) true ∷ Fixed (Stack 4 0 ∷ []) 277 (entries.Copy (Stack 6 0)) ∷
    Serve (Stack 4 1 ∷ []) 278 (Stack 4 1) true ∷ Serve (Stack 4 1 ∷ []) 279 (Stack 4 1) true ∷
    Fixed (Stack 4 1 ∷ []) 280 (entries.Copy (Stack 6 1)) ∷ Serve (Stack 4 2 ∷ []) 281 (Stack 4 2) true ∷
    Serve (Stack 4 2 ∷ []) 282 (Stack 4 2) true ∷ Fixed (Stack 4 2 ∷ []) 283 (entries.Hands 7) ∷
    Fixed (Stack 4 2 ∷ []) 284 entries.Done ∷ Fixed (Stack 4 2 ∷ []) 285 (entries.Copy (Stack 6 2)) ∷
    Serve (Stack 4 3 ∷ []) 286 (Stack 4 3) true ∷ Serve (Stack 4 3 ∷ []) 287 (Stack 4 3) true ∷
    Fixed (Stack 4 3 ∷ []) 288 (entries.Copy (Stack 6 3)) ∷ Serve (Stack 4 4 ∷ []) 289 (Stack 4 4) true ∷
    Fixed (Stack 4 4 ∷ []) 290 (entries.Copy (Stack 6 4)) ∷ Serve (Stack 4 5 ∷ []) 291 (Stack 4 5) true ∷
    rows 5 3 (λ k.
    Fixed (Stack 4 k ∷ []) (3 * k + 277) (entries.Copy (Stack 6 k)) ∷
    Serve (Stack 4 (k + 1) ∷ []) (3 * k + 278) (Stack 4 (k + 1)) true ∷
    Serve (Stack 4 (k + 1) ∷ []) (3 * k + 279) (Stack 4 (k + 1)) true ∷ []) ++
    Fixed (Stack 4 8 ∷ []) 301 (entries.Hands 8) ∷ Fixed (Stack 4 8 ∷ []) 302 entries.Done ∷
    Fixed (Stack 4 8 ∷ []) 303 (entries.Copy (Stack 6 8)) ∷ Serve (Stack 4 9 ∷ []) 304 (Stack 4 9) true ∷
    Serve (Stack 4 9 ∷ []) 305 (Stack 4 9) true ∷ Fixed (Stack 4 9 ∷ []) 306 (entries.Hands 4) ∷
    Fixed (Stack 4 9 ∷ []) 307 (entries.Copy (Stack 6 9)) ∷ Serve (Stack 4 10 ∷ []) 308 (Stack 4 10) true ∷
    rows 308 4 (λ k. Serve (Stack 4 10 ∷ []) k (Stack 4 10) true ∷ []) ++
    Fixed (Stack 4 10 ∷ []) 312 (entries.Hands 1) ∷ Fixed (Stack 4 10 ∷ []) 313 (entries.Copy (Stack 6 10)) ∷
    Serve (Stack 4 11 ∷ []) 314 (Stack 4 11) true ∷
    rows 314 3 (λ k. Serve (Stack 4 11 ∷ []) k (Stack 4 11) true ∷ []) ++
    Fixed (Stack 4 11 ∷ []) 317 (entries.Hands 1) ∷ Fixed (Stack 4 11 ∷ []) 318 (entries.Copy (Stack 6 11)) ∷
    rows 319 3 (λ k. Serve (Stack 4 12 ∷ []) k (Stack 4 12) true ∷ []) ++
    Fixed (Stack 4 12 ∷ []) 322 (entries.Hands 1) ∷ Fixed (Stack 4 12 ∷ []) 323 (entries.Copy (Stack 6 12)) ∷
    rows 324 4 (λ k. Serve (Stack 4 13 ∷ []) k (Stack 4 13) true ∷ []) ++
    Fixed (Stack 4 13 ∷ []) 328 (entries.Copy (Stack 6 13)) ∷ Serve (Stack 4 14 ∷ []) 329 (Stack 4 14) true ∷
    Serve (Stack 4 14 ∷ []) 330 (Stack 4 14) true ∷ Fixed (Stack 4 14 ∷ []) 331 (entries.Copy (Stack 6 14)) ∷
    replicate 4 (Serve (Stack 4 15 ∷ []) 332 (Stack 4 15) true) ++ Serve (Stack 4 15 ∷ []) 333 (Stack 4 15) true ∷
    Serve (Stack 4 15 ∷ []) 334 (Stack 4 15) true ∷ Fixed (Stack 4 15 ∷ []) 335 (entries.Hands 1) ∷
    Fixed (Stack 4 15 ∷ []) 336 entries.Done ∷
    rows 15 5 (λ k.
    Fixed (Stack 4 k ∷ []) (3 * k + 292) (entries.Copy (Stack 6 k)) ∷
    Serve (Stack 4 (k + 1) ∷ []) (3 * k + 293) (Stack 4 (k + 1)) true ∷
    Serve (Stack 4 (k + 1) ∷ []) (3 * k + 294) (Stack 4 (k + 1)) true ∷ []) ++
    Serve (Stack 4 20 ∷ []) 352 (Stack 4 20) true ∷
    rows 20 3 (λ k.
    Fixed (Stack 4 k ∷ []) (5 * k + 253) (entries.Hands 2) ∷
    Fixed (Stack 4 k ∷ []) (5 * k + 254) (entries.Copy (Stack 6 k)) ∷
    Serve (Stack 4 (k + 1) ∷ []) (5 * k + 255) (Stack 4 (k + 1)) true ∷
    Serve (Stack 4 (k + 1) ∷ []) (5 * k + 255) (Stack 4 (k + 1)) true ∷
    Serve (Stack 4 (k + 1) ∷ []) (5 * k + 256) (Stack 4 (k + 1)) true ∷
    Serve (Stack 4 (k + 1) ∷ []) (5 * k + 257) (Stack 4 (k + 1)) true ∷ []) ++
    Fixed (Stack 4 23 ∷ []) 368 (entries.Hands 3) ∷ Fixed (Stack 4 23 ∷ []) 369 entries.Done ∷
    Fixed (Stack 4 23 ∷ []) 370 (entries.Copy (Stack 6 23)) ∷ Serve (Stack 4 24 ∷ []) 371 (Stack 4 24) true ∷
    rows 24 3 (λ k.
    Serve (Stack 4 k ∷ []) (3 * k + 300) (Stack 4 k) true ∷
    Fixed (Stack 4 k ∷ []) (3 * k + 301) (entries.Copy (Stack 6 k)) ∷
    Serve (Stack 4 (k + 1) ∷ []) (3 * k + 302) (Stack 4 (k + 1)) true ∷ []) ++
    rows 380 4 (λ k. Serve (Stack 4 27 ∷ []) k (Stack 4 27) true ∷ []) ++
    Fixed (Stack 4 27 ∷ []) 384 (entries.Hands 1) ∷ Fixed (Stack 4 27 ∷ []) 385 (entries.Copy (Stack 6 27)) ∷
    rows 386 3 (λ k. Serve (Stack 4 28 ∷ []) k (Stack 4 28) true ∷ []) ++
    Fixed (Stack 4 28 ∷ []) 389 (entries.Hands 1) ∷ Fixed (Stack 4 28 ∷ []) 390 entries.Done ∷
    Fixed (Stack 4 28 ∷ []) 391 (entries.Copy (Stack 6 28)) ∷
    replicate 3 (Serve (Stack 4 29 ∷ []) 392 (Stack 4 29) true) ++ Serve (Stack 4 29 ∷ []) 393 (Stack 4 29) true ∷
    Serve (Stack 4 29 ∷ []) 394 (Stack 4 29) true ∷ Fixed (Stack 4 29 ∷ []) 395 (entries.Hands 2) ∷
    Fixed (Stack 4 29 ∷ []) 396 (entries.Copy (Stack 6 29)) ∷ Serve (Stack 4 30 ∷ []) 397 (Stack 4 30) true ∷
    rows 397 3 (λ k. Serve (Stack 4 30 ∷ []) k (Stack 4 30) true ∷ []) ++
    Fixed (Stack 4 30 ∷ []) 400 (entries.Hands 2) ∷ Fixed (Stack 4 30 ∷ []) 401 (entries.Copy (Stack 6 30)) ∷
    rows 402 3 (λ k. Serve (Stack 4 31 ∷ []) k (Stack 4 31) true ∷ []) ++
    Fixed (Stack 4 31 ∷ []) 405 (entries.Hands 1) ∷ Fixed (Stack 4 31 ∷ []) 406 entries.Done ∷
    Fixed (Stack 4 31 ∷ []) 407 (entries.Copy (Stack 6 31)) ∷ replicate 3 (Serve [] 0 (Text 1 0) false) ++
    Fixed [] 417 (entries.Hands 31) ∷ Serve [] 419 (Text 1 0) false ∷ Serve [] 0 (Text 1 0) false ∷
    rows 0 3 (λ k. Fixed [] (2 * k + 422) entries.Done ∷ []) ++
    Serve (Text 1 0 ∷ []) 428 (Data 3 1) false ∷ Serve (Text 1 0 ∷ []) 430 (Data 3 3) false ∷
    Serve (Text 1 0 ∷ []) 432 (Stack 3 0) false ∷ Serve [] 0 (Stack 3 0) false ∷ Step 6 6 false 7 435 [] (End 8192) ∷
    Serve (Text 1 0 ∷ []) 438 (Data 2 1) false ∷ Serve (Text 1 0 ∷ []) 440 (Data 2 3) false ∷
    Serve (Text 1 0 ∷ []) 442 (Stack 2 0) false ∷ Serve [] 0 (Stack 2 0) false ∷ Fixed [] 445 entries.Done ∷
    Step 5 5 false 7 449 [] (End 11) ∷ Step 1 1 false 7 453 [] (End 37120) ∷
    Serve (Text 1 0 ∷ []) 455 (Stack 2 0) true ∷
    Step 2 2 false 7 456 (Stack 2 0 ∷ Stack 2 0 ∷ Stack 2 0 ∷ Stack 2 0 ∷ []) Keep ∷
    rows 1 31 (λ k.
    Step 2 2 false 7 (3 * k + 454) [] (Resize 4 (k + 1)) ∷ Serve (Text 1 0 ∷ []) (3 * k + 455) (Stack 2 k) true ∷ []) ++
    Step 2 2 false 7 551 [] (Fork 7) ∷ Fixed (Data 2 1 ∷ []) 552 (entries.Copy (Data 7 1)) ∷
    Fixed (Data 2 3 ∷ []) 553 (entries.Copy (Data 7 3)) ∷
    rows 0 8 (λ k. Fixed (Stack 2 k ∷ []) (k + 554) (entries.Copy (Stack 7 k)) ∷ []) ++
    Fixed (Stack 2 8 ∷ []) 562 (entries.Hands 2) ∷ Fixed (Stack 2 8 ∷ []) 563 (entries.Copy (Stack 7 8)) ∷
    Fixed (Stack 2 9 ∷ []) 564 (entries.Hands 1) ∷ Fixed (Stack 2 9 ∷ []) 565 (entries.Copy (Stack 7 9)) ∷
    rows 0 3 (λ k.
    Fixed (Stack 2 (2 * k + 10) ∷ []) (4 * k + 566) (entries.Hands 3) ∷
    Fixed (Stack 2 (2 * k + 10) ∷ []) (4 * k + 567) (entries.Copy (Stack 7 (2 * k + 10))) ∷
    Fixed (Stack 2 (2 * k + 11) ∷ []) (4 * k + 568) (entries.Hands 1) ∷
    Fixed (Stack 2 (2 * k + 11) ∷ []) (4 * k + 569) (entries.Copy (Stack 7 (2 * k + 11))) ∷ []) ++
    Fixed (Stack 2 16 ∷ []) 578 (entries.Hands 2) ∷ Fixed (Stack 2 16 ∷ []) 579 (entries.Copy (Stack 7 16)) ∷
    Fixed (Stack 2 17 ∷ []) 580 (entries.Hands 1) ∷ Fixed (Stack 2 17 ∷ []) 581 entries.Done ∷
    rows 17 7 (λ k. Fixed (Stack 2 k ∷ []) (k + 565) (entries.Copy (Stack 7 k)) ∷ []) ++
    rows 1 3 (λ k.
    Fixed (Stack 2 (k + 23) ∷ []) (2 * k + 587) (entries.Hands k) ∷
    Fixed (Stack 2 (k + 23) ∷ []) (2 * k + 588) (entries.Copy (Stack 7 (k + 23))) ∷ []) ++
    Serve (Stack 2 27 ∷ []) 595 (Stack 2 27) true ∷ Fixed (Stack 2 27 ∷ []) 596 (entries.Hands 1) ∷
    Fixed (Stack 2 27 ∷ []) 597 (entries.Copy (Stack 7 27)) ∷ Serve (Stack 2 28 ∷ []) 598 (Stack 2 28) true ∷
    Fixed (Stack 2 28 ∷ []) 599 (entries.Hands 3) ∷ Fixed (Stack 2 28 ∷ []) 600 (entries.Copy (Stack 7 28)) ∷
    Serve (Stack 2 29 ∷ []) 601 (Stack 2 29) true ∷ Fixed (Stack 2 29 ∷ []) 602 (entries.Hands 1) ∷
    Fixed (Stack 2 29 ∷ []) 603 (entries.Copy (Stack 7 29)) ∷ Serve (Stack 2 30 ∷ []) 604 (Stack 2 30) true ∷
    Fixed (Stack 2 30 ∷ []) 605 (entries.Hands 2) ∷ Fixed (Stack 2 30 ∷ []) 606 entries.Done ∷
    Fixed (Stack 2 30 ∷ []) 607 (entries.Copy (Stack 7 30)) ∷ Serve (Stack 2 31 ∷ []) 608 (Stack 2 31) true ∷
    Fixed (Stack 2 31 ∷ []) 609 (entries.Hands 1) ∷ Fixed (Stack 2 31 ∷ []) 610 (entries.Copy (Stack 7 31)) ∷
    Serve [] 611 (Text 1 0) true ∷ Step 2 2 false 8 613 [] (Resize 3 32) ∷
    rows 616 4 (λ k. Serve (Text 1 0 ∷ []) k (Stack 2 0) true ∷ []) ++
    Step 2 2 false 8 620 (Stack 2 0 ∷ Stack 2 0 ∷ Stack 2 0 ∷ Stack 2 0 ∷ []) Keep ∷
    Step 2 2 false 8 621 [] (Fork 8) ∷ replicate 3 (Serve (Data 2 1 ∷ []) 622 (Data 2 1) true) ++
    rows 623 3 (λ k. Serve (Data 2 1 ∷ []) k (Data 2 1) true ∷ []) ++
    Fixed (Data 2 1 ∷ []) 626 (entries.Hands 2) ∷ Fixed (Data 2 1 ∷ []) 627 entries.Done ∷
    Fixed (Data 2 1 ∷ []) 628 (entries.Copy (Data 8 1)) ∷ Fixed (Stack 2 0 ∷ []) 629 (entries.Hands 2) ∷
    Fixed (Stack 2 0 ∷ []) 630 (entries.Copy (Stack 8 0)) ∷
    replicate 3 (Serve (Stack 2 1 ∷ []) 631 (Stack 2 1) true) ++
    rows 632 3 (λ k. Serve (Stack 2 1 ∷ []) k (Stack 2 1) true ∷ []) ++
    Fixed (Stack 2 1 ∷ []) 635 (entries.Copy (Stack 8 1)) ∷ Serve (Stack 2 2 ∷ []) 636 (Stack 2 2) true ∷
    Fixed (Stack 2 2 ∷ []) 637 (entries.Copy (Stack 8 2)) ∷
    rows 3 3 (λ k.
    Serve (Stack 2 k ∷ []) (3 * k + 629) (Stack 2 k) true ∷
    Serve (Stack 2 k ∷ []) (3 * k + 630) (Stack 2 k) true ∷
    Fixed (Stack 2 k ∷ []) (3 * k + 631) (entries.Copy (Stack 8 k)) ∷ []) ++
    replicate 3 (Serve (Stack 2 6 ∷ []) 647 (Stack 2 6) true) ++
    rows 648 3 (λ k. Serve (Stack 2 6 ∷ []) k (Stack 2 6) true ∷ []) ++
    Fixed (Stack 2 6 ∷ []) 651 (entries.Hands 2) ∷ Fixed (Stack 2 6 ∷ []) 652 entries.Done ∷
    Fixed (Stack 2 6 ∷ []) 653 (entries.Copy (Stack 8 6)) ∷ Fixed (Stack 2 7 ∷ []) 654 (entries.Hands 2) ∷
    Fixed (Stack 2 7 ∷ []) 655 entries.Done ∷
    rows 7 6 (λ k. Fixed (Stack 2 k ∷ []) (k + 649) (entries.Copy (Stack 8 k)) ∷ []) ++
    rows 13 3 (λ k.
    Fixed (Stack 2 k ∷ []) (2 * k + 636) (entries.Copy (Stack 8 k)) ∷
    Serve (Stack 2 (k + 1) ∷ []) (2 * k + 637) (Stack 2 (k + 1)) true ∷ []) ++
    Fixed (Stack 2 16 ∷ []) 668 (entries.Hands 17) ∷ Fixed (Stack 2 16 ∷ []) 669 entries.Done ∷
    Fixed (Stack 2 16 ∷ []) 670 (entries.Copy (Stack 8 16)) ∷
    rows 17 3 (λ k.
    Serve (Stack 2 k ∷ []) (3 * k + 620) (Stack 2 k) true ∷
    Serve (Stack 2 k ∷ []) (3 * k + 621) (Stack 2 k) true ∷
    Fixed (Stack 2 k ∷ []) (3 * k + 622) (entries.Copy (Stack 8 k)) ∷ []) ++
    rows 680 4 (λ k. Serve (Stack 2 20 ∷ []) k (Stack 2 20) true ∷ []) ++
    rows 20 3 (λ k.
    Fixed (Stack 2 k ∷ []) (3 * k + 624) (entries.Copy (Stack 8 k)) ∷
    Serve (Stack 2 (k + 1) ∷ []) (3 * k + 625) (Stack 2 (k + 1)) true ∷
    Serve (Stack 2 (k + 1) ∷ []) (3 * k + 626) (Stack 2 (k + 1)) true ∷ []) ++
    Fixed (Stack 2 23 ∷ []) 693 (entries.Hands 13) ∷ Fixed (Stack 2 23 ∷ []) 694 entries.Done ∷
    Fixed (Stack 2 23 ∷ []) 695 (entries.Copy (Stack 8 23)) ∷ Serve (Stack 2 24 ∷ []) 696 (Stack 2 24) true ∷
    rows 24 3 (λ k.
    Serve (Stack 2 k ∷ []) (2 * k + 649) (Stack 2 k) true ∷
    Fixed (Stack 2 k ∷ []) (2 * k + 650) (entries.Copy (Stack 8 k)) ∷ []) ++
    rows 27 5 (λ k. Fixed (Stack 2 k ∷ []) (k + 676) (entries.Copy (Stack 8 k)) ∷ []) ++
    Serve (Text 1 0 ∷ []) 711 (Stack 3 0) true ∷ Serve (Text 1 0 ∷ []) 712 (Stack 3 0) true ∷
    Step 3 3 false 9 713 (Stack 3 0 ∷ Stack 3 0 ∷ Stack 3 0 ∷ Stack 3 0 ∷ []) Keep ∷
    Step 3 3 false 9 714 [] (Resize 4 2) ∷
    rows 1 3 (λ k.
    Serve (Text 1 0 ∷ []) (3 * k + 712) (Stack 3 k) true ∷ Step 3 3 false 9 (3 * k + 714) [] (Resize 4 (k + 2)) ∷ []) ++
    replicate 16 (Serve (Text 1 0 ∷ []) 724 (Stack 3 4) true) ++ Serve (Text 1 0 ∷ []) 725 (Stack 3 4) true ∷
    Serve (Text 1 0 ∷ []) 726 (Stack 3 4) true ∷ Step 3 3 false 9 728 [] (Resize 4 6) ∷
    Serve (Text 1 0 ∷ []) 729 (Stack 3 5) true ∷
    rows 729 3 (λ k. Serve (Text 1 0 ∷ []) k (Stack 3 5) true ∷ []) ++
    rows 6 5 (λ k.
    Step 3 3 false 9 (3 * k + 715) [] (Resize 4 (k + 1)) ∷ Serve (Text 1 0 ∷ []) (3 * k + 716) (Stack 3 k) true ∷ []) ++
    Serve (Text 1 0 ∷ []) 747 (Stack 3 10) true ∷ Step 3 3 false 9 749 [] (Resize 4 12) ∷
    Serve (Text 1 0 ∷ []) 750 (Stack 3 11) true ∷
    rows 750 3 (λ k. Serve (Text 1 0 ∷ []) k (Stack 3 11) true ∷ []) ++
    Step 3 3 false 9 754 [] (Resize 4 13) ∷ Serve (Text 1 0 ∷ []) 755 (Stack 3 12) true ∷
    Serve (Text 1 0 ∷ []) 755 (Stack 3 12) true ∷ Serve (Text 1 0 ∷ []) 756 (Stack 3 12) true ∷
    rows 12 11 (λ k.
    Serve (Text 1 0 ∷ []) (3 * k + 721) (Stack 3 k) true ∷ Step 3 3 false 9 (3 * k + 723) [] (Resize 4 (k + 2)) ∷ []) ++
    replicate 4 (Serve (Text 1 0 ∷ []) 790 (Stack 3 23) true) ++ Serve (Text 1 0 ∷ []) 791 (Stack 3 23) true ∷
    Step 3 3 false 9 793 [] (Resize 4 25) ∷ Serve (Text 1 0 ∷ []) 794 (Stack 3 24) true ∷
    Serve (Text 1 0 ∷ []) 794 (Stack 3 24) true ∷ Serve (Text 1 0 ∷ []) 795 (Stack 3 24) true ∷
    Step 3 3 false 9 797 [] (Resize 4 26) ∷ Serve (Text 1 0 ∷ []) 798 (Stack 3 25) true ∷
    Serve (Text 1 0 ∷ []) 799 (Stack 3 25) true ∷ Step 3 3 false 9 801 [] (Resize 4 27) ∷
    Serve (Text 1 0 ∷ []) 802 (Stack 3 26) true ∷ Serve (Text 1 0 ∷ []) 802 (Stack 3 26) true ∷
    Serve (Text 1 0 ∷ []) 803 (Stack 3 26) true ∷ Step 3 3 false 9 805 [] (Resize 4 28) ∷
    replicate 8 (Serve (Text 1 0 ∷ []) 806 (Stack 3 27) true) ++ Serve (Text 1 0 ∷ []) 807 (Stack 3 27) true ∷
    Step 3 3 false 9 809 [] (Resize 4 29) ∷
    rows 810 3 (λ k. Serve (Text 1 0 ∷ []) k (Stack 3 28) true ∷ []) ++
    rows 29 3 (λ k.
    Step 3 3 false 9 (3 * k + 727) [] (Resize 4 (k + 1)) ∷ Serve (Text 1 0 ∷ []) (3 * k + 728) (Stack 3 k) true ∷ []) ++
    Step 3 3 false 9 824 [] (Fork 9) ∷ Serve (Data 3 1 ∷ []) 825 (Data 3 1) true ∷
    Serve (Data 3 1 ∷ []) 826 (Data 3 1) true ∷ Fixed (Data 3 1 ∷ []) 827 (entries.Hands 1) ∷
    Fixed (Data 3 1 ∷ []) 828 (entries.Copy (Data 9 1)) ∷ Serve (Data 3 3 ∷ []) 829 (Data 3 3) true ∷
    rows 829 4 (λ k. Serve (Data 3 3 ∷ []) k (Data 3 3) true ∷ []) ++
    Fixed (Data 3 3 ∷ []) 833 (entries.Hands 2) ∷ Fixed (Data 3 3 ∷ []) 834 entries.Done ∷
    Fixed (Data 3 3 ∷ []) 835 (entries.Copy (Data 9 3)) ∷ Fixed (Stack 3 0 ∷ []) 836 (entries.Copy (Stack 9 0)) ∷
    Fixed (Stack 3 1 ∷ []) 837 (entries.Hands 4) ∷ Fixed (Stack 3 1 ∷ []) 838 entries.Done ∷
    rows 1 9 (λ k. Fixed (Stack 3 k ∷ []) (k + 838) (entries.Copy (Stack 9 k)) ∷ []) ++
    rows 10 3 (λ k.
    Fixed (Stack 3 k ∷ []) (2 * k + 828) (entries.Hands 1) ∷
    Fixed (Stack 3 k ∷ []) (2 * k + 829) (entries.Copy (Stack 9 k)) ∷ []) ++
    Fixed (Stack 3 13 ∷ []) 854 (entries.Hands 4) ∷ Fixed (Stack 3 13 ∷ []) 855 (entries.Copy (Stack 9 13)) ∷
    Fixed (Stack 3 14 ∷ []) 856 (entries.Hands 2) ∷ Fixed (Stack 3 14 ∷ []) 857 (entries.Copy (Stack 9 14)) ∷
    Fixed (Stack 3 15 ∷ []) 858 (entries.Hands 1) ∷ Fixed (Stack 3 15 ∷ []) 859 (entries.Copy (Stack 9 15)) ∷
    Fixed (Stack 3 16 ∷ []) 860 (entries.Hands 1) ∷ Fixed (Stack 3 16 ∷ []) 861 (entries.Copy (Stack 9 16)) ∷
    Fixed (Stack 3 17 ∷ []) 862 (entries.Hands 5) ∷ Fixed (Stack 3 17 ∷ []) 863 entries.Done ∷
    rows 17 7 (λ k. Fixed (Stack 3 k ∷ []) (k + 847) (entries.Copy (Stack 9 k)) ∷ []) ++
    Fixed (Stack 3 24 ∷ []) 871 (entries.Hands 1) ∷ Fixed (Stack 3 24 ∷ []) 872 (entries.Copy (Stack 9 24)) ∷
    Fixed (Stack 3 25 ∷ []) 873 (entries.Hands 2) ∷ Fixed (Stack 3 25 ∷ []) 874 (entries.Copy (Stack 9 25)) ∷
    Fixed (Stack 3 26 ∷ []) 875 (entries.Hands 5) ∷ Fixed (Stack 3 26 ∷ []) 876 (entries.Copy (Stack 9 26)) ∷
    Fixed (Stack 3 27 ∷ []) 877 (entries.Hands 1) ∷ Fixed (Stack 3 27 ∷ []) 878 entries.Done ∷
    rows 27 5 (λ k. Fixed (Stack 3 k ∷ []) (k + 852) (entries.Copy (Stack 9 k)) ∷ []) ++
    Serve [] 884 (Text 1 0) true ∷ Step 3 3 false 10 886 [] (Resize 3 32) ∷
    Serve (Text 1 0 ∷ []) 889 (Stack 3 0) true ∷ Serve (Text 1 0 ∷ []) 890 (Stack 3 0) true ∷
    Step 3 3 false 10 891 (Stack 3 0 ∷ Stack 3 0 ∷ Stack 3 0 ∷ Stack 3 0 ∷ []) Keep ∷
    Step 3 3 false 10 892 [] (Fork 10) ∷ Fixed (Data 3 1 ∷ []) 893 (entries.Copy (Data 10 1)) ∷
    Fixed (Stack 3 0 ∷ []) 894 (entries.Copy (Stack 10 0)) ∷
    rows 1 3 (λ k.
    Serve (Stack 3 k ∷ []) (3 * k + 892) (Stack 3 k) true ∷
    Serve (Stack 3 k ∷ []) (3 * k + 893) (Stack 3 k) true ∷
    Fixed (Stack 3 k ∷ []) (3 * k + 894) (entries.Copy (Stack 10 k)) ∷ []) ++
    replicate 15 (Serve (Stack 3 4 ∷ []) 904 (Stack 3 4) true) ++
    rows 905 3 (λ k. Serve (Stack 3 4 ∷ []) k (Stack 3 4) true ∷ []) ++
    rows 4 3 (λ k.
    Fixed (Stack 3 k ∷ []) (2 * k + 900) (entries.Copy (Stack 10 k)) ∷
    Serve (Stack 3 (k + 1) ∷ []) (2 * k + 901) (Stack 3 (k + 1)) true ∷ []) ++
    rows 7 3 (λ k.
    Fixed (Stack 3 k ∷ []) (3 * k + 893) (entries.Copy (Stack 10 k)) ∷
    Serve (Stack 3 (k + 1) ∷ []) (3 * k + 894) (Stack 3 (k + 1)) true ∷
    Serve (Stack 3 (k + 1) ∷ []) (3 * k + 895) (Stack 3 (k + 1)) true ∷ []) ++
    Fixed (Stack 3 10 ∷ []) 923 (entries.Hands 8) ∷ Fixed (Stack 3 10 ∷ []) 924 entries.Done ∷
    Fixed (Stack 3 10 ∷ []) 925 (entries.Copy (Stack 10 10)) ∷ Serve (Stack 3 11 ∷ []) 926 (Stack 3 11) true ∷
    Serve (Stack 3 11 ∷ []) 927 (Stack 3 11) true ∷ Fixed (Stack 3 11 ∷ []) 928 (entries.Copy (Stack 10 11)) ∷
    replicate 8 (Serve (Stack 3 12 ∷ []) 929 (Stack 3 12) true) ++
    rows 930 3 (λ k. Serve (Stack 3 12 ∷ []) k (Stack 3 12) true ∷ []) ++
    Fixed (Stack 3 12 ∷ []) 933 (entries.Hands 1) ∷ Fixed (Stack 3 12 ∷ []) 934 entries.Done ∷
    Fixed (Stack 3 12 ∷ []) 935 (entries.Copy (Stack 10 12)) ∷ Serve (Stack 3 13 ∷ []) 936 (Stack 3 13) true ∷
    Serve (Stack 3 13 ∷ []) 937 (Stack 3 13) true ∷ Fixed (Stack 3 13 ∷ []) 938 (entries.Copy (Stack 10 13)) ∷
    rows 939 4 (λ k. Serve (Stack 3 14 ∷ []) k (Stack 3 14) true ∷ []) ++
    Fixed (Stack 3 14 ∷ []) 943 (entries.Hands 2) ∷ Fixed (Stack 3 14 ∷ []) 944 entries.Done ∷
    rows 14 3 (λ k.
    Fixed (Stack 3 k ∷ []) (3 * k + 903) (entries.Copy (Stack 10 k)) ∷
    Serve (Stack 3 (k + 1) ∷ []) (3 * k + 904) (Stack 3 (k + 1)) true ∷
    Serve (Stack 3 (k + 1) ∷ []) (3 * k + 905) (Stack 3 (k + 1)) true ∷ []) ++
    Fixed (Stack 3 17 ∷ []) 954 (entries.Hands 2) ∷ Fixed (Stack 3 17 ∷ []) 955 entries.Done ∷
    Fixed (Stack 3 17 ∷ []) 956 (entries.Copy (Stack 10 17)) ∷
    rows 957 3 (λ k. Serve (Stack 3 18 ∷ []) k (Stack 3 18) true ∷ []) ++
    Fixed (Stack 3 18 ∷ []) 960 (entries.Hands 2) ∷ Fixed (Stack 3 18 ∷ []) 961 entries.Done ∷
    rows 18 5 (λ k.
    Fixed (Stack 3 k ∷ []) (3 * k + 908) (entries.Copy (Stack 10 k)) ∷
    Serve (Stack 3 (k + 1) ∷ []) (3 * k + 909) (Stack 3 (k + 1)) true ∷
    Serve (Stack 3 (k + 1) ∷ []) (3 * k + 910) (Stack 3 (k + 1)) true ∷ []) ++
    Fixed (Stack 3 23 ∷ []) 977 (entries.Hands 10) ∷ Fixed (Stack 3 23 ∷ []) 978 entries.Done ∷
    Fixed (Stack 3 23 ∷ []) 979 (entries.Copy (Stack 10 23)) ∷ Serve (Stack 3 24 ∷ []) 980 (Stack 3 24) true ∷
    Serve (Stack 3 24 ∷ []) 981 (Stack 3 24) true ∷
    rows 24 4 (λ k.
    Fixed (Stack 3 k ∷ []) (2 * k + 934) (entries.Copy (Stack 10 k)) ∷
    Serve (Stack 3 (k + 1) ∷ []) (2 * k + 935) (Stack 3 (k + 1)) true ∷ []) ++
    Serve (Stack 3 28 ∷ []) 990 (Stack 3 28) true ∷ Fixed (Stack 3 28 ∷ []) 991 (entries.Copy (Stack 10 28)) ∷
    Serve (Stack 3 29 ∷ []) 992 (Stack 3 29) true ∷ Serve (Stack 3 29 ∷ []) 993 (Stack 3 29) true ∷
    Fixed (Stack 3 29 ∷ []) 994 (entries.Copy (Stack 10 29)) ∷
    replicate 17 (Serve (Stack 3 30 ∷ []) 995 (Stack 3 30) true) ++
    rows 996 3 (λ k. Serve (Stack 3 30 ∷ []) k (Stack 3 30) true ∷ []) ++
    Fixed (Stack 3 30 ∷ []) 999 (entries.Copy (Stack 10 30)) ∷ Serve (Stack 3 31 ∷ []) 1000 (Stack 3 31) true ∷
    Serve (Stack 3 31 ∷ []) 1001 (Stack 3 31) true ∷ Fixed (Stack 3 31 ∷ []) 1002 (entries.Hands 3) ∷
    Fixed (Stack 3 31 ∷ []) 1003 (entries.Copy (Stack 10 31)) ∷
    rows 1004 3 (λ k. Serve [] k (Text 1 0) true ∷ [])

last : Placement
last = record {
  spaces =
      space 2 1 (slot Unfilled false Zeros ∷ slot OnSwap false Zeros ∷ slot Unfilled false Zeros ∷ [])
      (replicate 32 (slot OnSwap false Zeros)) ∷
      space 3 1 (slot Unfilled false Zeros ∷ slot OnSwap false Zeros ∷ slot Unfilled false Zeros ∷ [])
      (slot OnSwap false Zeros ∷ slot OnSwap false Zeros ∷ slot (Invalid 27) false Zeros ∷
      slot (Invalid 23) false Zeros ∷ slot (Invalid 30) false Zeros ∷ slot (Invalid 28) false Zeros ∷
      slot (Invalid 33) false Zeros ∷ slot (Invalid 35) false Zeros ∷ slot (Invalid 31) false Zeros ∷
      slot (Invalid 34) false Zeros ∷ slot (Valid 43) false Zeros ∷ slot (Invalid 36) false Zeros ∷
      slot (Valid 44) false Zeros ∷ slot (Valid 47) false Zeros ∷ slot (Valid 46) false Zeros ∷
      slot (Valid 52) false Zeros ∷ slot (Valid 60) false Zeros ∷ slot (Valid 57) false Zeros ∷
      slot (Valid 51) false Zeros ∷ slot (Valid 58) false Zeros ∷ slot (Valid 3) false Zeros ∷
      slot (Valid 54) false Zeros ∷ slot (Valid 59) false Zeros ∷ slot (Valid 62) false Zeros ∷
      slot (Valid 15) false Zeros ∷ slot (Valid 11) false Zeros ∷ slot (Valid 8) false Zeros ∷
      slot (Valid 4) false Zeros ∷ slot (Valid 7) false Zeros ∷ slot (Valid 13) false Zeros ∷
      slot (Valid 16) false Zeros ∷ slot (Valid 18) false Zeros ∷ []) ∷
      space 4 1 (slot Unfilled false Zeros ∷ slot OnSwap false Zeros ∷ slot Unfilled false Zeros ∷
      slot OnSwap false Zeros ∷ [])
      (replicate 32 (slot OnSwap false Zeros)) ∷
      space 7 1 (slot Unfilled false Zeros ∷ slot OnSwap false Zeros ∷ slot Unfilled false Zeros ∷
      slot OnSwap false Zeros ∷ [])
      (replicate 32 (slot OnSwap false Zeros)) ∷
      space 8 1 (slot Unfilled false Zeros ∷ slot OnSwap false Zeros ∷ slot Unfilled false Zeros ∷ [])
      (replicate 32 (slot OnSwap false Zeros)) ∷
      space 9 1 (slot Unfilled false Zeros ∷ slot OnSwap false Zeros ∷ slot Unfilled false Zeros ∷
      slot OnSwap false Zeros ∷ [])
      (replicate 32 (slot OnSwap false Zeros)) ∷
      space 10 1 (slot Unfilled false Zeros ∷ slot (Invalid 24) true Zeros ∷ slot Unfilled false Zeros ∷ [])
      (slot (Invalid 22) true Zeros ∷ slot (Invalid 26) true Zeros ∷ slot (Invalid 21) true Zeros ∷
      slot (Invalid 25) true Zeros ∷ slot (Valid 38) true Zeros ∷ slot (Valid 40) true Zeros ∷
      slot (Valid 41) true Zeros ∷ slot (Invalid 29) true Zeros ∷ slot (Invalid 32) true Zeros ∷
      slot (Valid 42) true Zeros ∷ slot (Valid 39) true Zeros ∷ slot (Valid 37) true Zeros ∷
      slot (Valid 45) true Zeros ∷ slot (Valid 49) true Zeros ∷ slot (Valid 48) true Zeros ∷
      slot (Valid 56) true Zeros ∷ slot (Valid 64) true Zeros ∷ slot (Valid 50) true Zeros ∷
      slot (Valid 1) true Zeros ∷ slot (Valid 2) true Zeros ∷ slot (Valid 53) true Zeros ∷
      slot (Valid 55) true Zeros ∷ slot (Valid 61) true Zeros ∷ slot (Valid 63) true Zeros ∷
      slot (Valid 6) true Zeros ∷ slot (Valid 9) true Zeros ∷ slot (Valid 10) true Zeros ∷
      slot (Valid 5) true Zeros ∷ slot (Valid 12) true Zeros ∷ slot (Valid 14) true Zeros ∷
      slot (Valid 17) true Zeros ∷ slot (Valid 19) true Zeros ∷ []) ∷ [];
  texts = text_of 1 (slot (Valid 20) true Zeros ∷ replicate 15 (slot Unfilled false Zeros)) ∷ [];
  holds =
      Some (Stack 10 18) ∷ Some (Stack 10 19) ∷ Some (Stack 3 20) ∷ Some (Stack 3 27) ∷ Some (Stack 10 27) ∷
      Some (Stack 10 24) ∷ Some (Stack 3 28) ∷ Some (Stack 3 26) ∷ Some (Stack 10 25) ∷ Some (Stack 10 26) ∷
      Some (Stack 3 25) ∷ Some (Stack 10 28) ∷ Some (Stack 3 29) ∷ Some (Stack 10 29) ∷ Some (Stack 3 24) ∷
      Some (Stack 3 30) ∷ Some (Stack 10 30) ∷ Some (Stack 3 31) ∷ Some (Stack 10 31) ∷ Some (Text 1 0) ∷
      Some (Stack 10 2) ∷ Some (Stack 10 0) ∷ Some (Stack 3 3) ∷ Some (Data 10 1) ∷ Some (Stack 10 3) ∷
      Some (Stack 10 1) ∷ Some (Stack 3 2) ∷ Some (Stack 3 5) ∷ Some (Stack 10 7) ∷ Some (Stack 3 4) ∷
      Some (Stack 3 8) ∷ Some (Stack 10 8) ∷ Some (Stack 3 6) ∷ Some (Stack 3 9) ∷ Some (Stack 3 7) ∷
      Some (Stack 3 11) ∷ Some (Stack 10 11) ∷ Some (Stack 10 4) ∷ Some (Stack 10 10) ∷ Some (Stack 10 5) ∷
      Some (Stack 10 6) ∷ Some (Stack 10 9) ∷ Some (Stack 3 10) ∷ Some (Stack 3 12) ∷ Some (Stack 10 12) ∷
      Some (Stack 3 14) ∷ Some (Stack 3 13) ∷ Some (Stack 10 14) ∷ Some (Stack 10 13) ∷ Some (Stack 10 17) ∷
      Some (Stack 3 18) ∷ Some (Stack 3 15) ∷ Some (Stack 10 20) ∷ Some (Stack 3 21) ∷ Some (Stack 10 21) ∷
      Some (Stack 10 15) ∷ Some (Stack 3 17) ∷ Some (Stack 3 19) ∷ Some (Stack 3 22) ∷ Some (Stack 3 16) ∷
      Some (Stack 10 22) ∷ Some (Stack 3 23) ∷ Some (Stack 10 23) ∷ Some (Stack 10 16) ∷ [];
  free = [];
  transfers = [];
  front = 37;
  back = 21;
  residents =
      residence 2 false 0 ∷ residence 3 false 0 ∷ residence 4 false 124 ∷ residence 7 false 551 ∷
      residence 8 false 621 ∷ residence 9 false 824 ∷ residence 10 false 892 ∷ [];
  due = [];
}

seen : List Seen
seen =
    Made (Some (entries.Get (Text 1 0) 0 2)) ∷ replicate 11 (Made None) ++
    made (entries.Zero (Data 1 1) ∷ entries.Zero (Data 1 3) ∷
    rows 1 31 (λ k. entries.Zero (Stack 1 k) ∷ []) ++
    entries.Reclaim (Stack 1 26) ∷ entries.Get (Stack 1 10) 10 1 ∷ entries.Done ∷ replicate 5 (entries.Hands 1) ++
    entries.Done ∷ entries.Get (Stack 1 11) 11 1 ∷ entries.Done ∷ entries.Hands 1 ∷ entries.Done ∷
    entries.Get (Stack 1 12) 12 4 ∷ entries.Done ∷
    rows 13 3 (λ k. entries.Reclaim (Stack 1 k) ∷ []) ++
    rows 16 4 (λ k. entries.Get (Stack 1 k) k 1 ∷ entries.Done ∷ []) ++
    replicate 16 (entries.Hands 1) ++
    rows 20 5 (λ k. entries.Done ∷ entries.Get (Stack 1 k) k 1 ∷ []) ++
    rows 27 4 (λ k. entries.Done ∷ entries.Get (Stack 1 k) k 1 ∷ []) ++
    entries.Done ∷ entries.Reclaim (Text 1 0) ∷ replicate 3 (entries.Hands 1) ++ entries.Done ∷
    entries.Get (Data 4 1) 1 1 ∷ entries.Done ∷ replicate 10 (entries.Hands 1) ++ entries.Done ∷
    entries.Get (Data 4 3) 3 1 ∷
    rows 0 3 (λ k. entries.Done ∷ entries.Get (Stack 4 k) k 1 ∷ []) ++
    entries.Done ∷ entries.Get (Stack 4 3) 3 3 ∷ entries.Done ∷ entries.Reclaim (Stack 4 4) ∷
    entries.Reclaim (Stack 4 5) ∷
    rows 6 4 (λ k. entries.Get (Stack 4 k) k 1 ∷ entries.Done ∷ []) ++
    entries.Hands 1 ∷ entries.Hands 1 ∷ entries.Done ∷ entries.Get (Stack 4 10) 10 1 ∷ entries.Done ∷
    entries.Hands 1 ∷ entries.Hands 1 ∷ entries.Get (Stack 4 11) 11 1 ∷ entries.Done ∷ entries.Hands 1 ∷
    entries.Get (Stack 4 12) 12 1 ∷ entries.Done ∷ entries.Hands 1 ∷ entries.Done ∷ entries.Get (Stack 4 13) 13 1 ∷
    entries.Done ∷ entries.Get (Stack 4 14) 14 1 ∷ entries.Done ∷ replicate 4 (entries.Hands 1) ++
    rows 15 5 (λ k. entries.Get (Stack 4 k) k 1 ∷ entries.Done ∷ []) ++
    rows 20 3 (λ k. entries.Hands 1 ∷ entries.Get (Stack 4 k) k 1 ∷ entries.Done ∷ entries.Hands 1 ∷ []) ++
    entries.Hands 1 ∷
    rows 23 4 (λ k. entries.Get (Stack 4 k) k 1 ∷ entries.Done ∷ []) ++
    entries.Hands 1 ∷ entries.Hands 1 ∷ entries.Done ∷ entries.Get (Stack 4 27) 27 1 ∷ entries.Done ∷
    entries.Hands 1 ∷ entries.Get (Stack 4 28) 28 1 ∷ entries.Done ∷ replicate 3 (entries.Hands 1) ++
    entries.Get (Stack 4 29) 29 1 ∷ entries.Done ∷ entries.Hands 1 ∷ entries.Hands 1 ∷
    entries.Get (Stack 4 30) 30 1 ∷ entries.Done ∷ entries.Hands 1 ∷ entries.Get (Stack 4 31) 31 1 ∷
    entries.Done ∷ []) ++
    replicate 3 (Made None) ++ Made (Some (entries.Get (Text 1 0) 0 1)) ∷ Made None ∷
    Made (Some (entries.Zero (Data 3 1))) ∷ Made (Some (entries.Zero (Data 3 3))) ∷
    Made (Some (entries.Get (Stack 3 0) 0 1)) ∷ Made None ∷ Made (Some (entries.Zero (Data 2 1))) ∷
    Made (Some (entries.Zero (Data 2 3))) ∷ Made (Some (entries.Get (Stack 2 0) 0 1)) ∷ Made None ∷
    made (entries.Done ∷
    rows 1 31 (λ k. entries.Zero (Stack 2 k) ∷ []) ++
    rows 27 5 (λ k. entries.Reclaim (Stack 2 k) ∷ []) ++
    entries.Reclaim (Text 1 0) ∷ entries.Hands 1 ∷ entries.Done ∷ entries.Get (Stack 2 0) 0 1 ∷ entries.Done ∷
    replicate 3 (entries.Hands 1) ++ entries.Done ∷ entries.Get (Data 2 1) 1 1 ∷ entries.Done ∷
    replicate 3 (entries.Hands 1) ++ entries.Done ∷ entries.Get (Stack 2 1) 1 2 ∷ entries.Done ∷
    entries.Reclaim (Stack 2 2) ∷
    rows 3 3 (λ k. entries.Get (Stack 2 k) k 1 ∷ entries.Done ∷ []) ++
    replicate 3 (entries.Hands 1) ++ entries.Done ∷ entries.Get (Stack 2 6) 6 1 ∷ entries.Done ∷
    rows 14 3 (λ k. entries.Reclaim (Stack 2 k) ∷ []) ++
    rows 17 3 (λ k. entries.Get (Stack 2 k) k 1 ∷ entries.Done ∷ []) ++
    entries.Hands 1 ∷
    rows 20 4 (λ k. entries.Done ∷ entries.Get (Stack 2 k) k 1 ∷ []) ++
    entries.Done ∷ entries.Get (Stack 2 24) 24 3 ∷ entries.Done ∷ entries.Reclaim (Stack 2 25) ∷
    entries.Reclaim (Stack 2 26) ∷ entries.Get (Stack 3 0) 0 1 ∷ entries.Done ∷
    rows 1 3 (λ k. entries.Zero (Stack 3 k) ∷ []) ++
    replicate 16 (entries.Hands 1) ++ entries.Done ∷ entries.Zero (Stack 3 4) ∷ entries.Hands 1 ∷ entries.Hands 1 ∷
    entries.Done ∷
    rows 5 5 (λ k. entries.Zero (Stack 3 k) ∷ []) ++
    entries.Hands 1 ∷ entries.Zero (Stack 3 10) ∷ entries.Hands 1 ∷ entries.Hands 1 ∷ entries.Done ∷
    entries.Zero (Stack 3 11) ∷ entries.Hands 1 ∷ entries.Hands 1 ∷ entries.Done ∷
    rows 12 11 (λ k. entries.Zero (Stack 3 k) ∷ []) ++
    replicate 4 (entries.Hands 1) ++ entries.Zero (Stack 3 23) ∷ entries.Hands 1 ∷ entries.Hands 1 ∷
    entries.Zero (Stack 3 24) ∷ entries.Hands 1 ∷ entries.Zero (Stack 3 25) ∷ entries.Hands 1 ∷ entries.Hands 1 ∷
    entries.Zero (Stack 3 26) ∷ replicate 8 (entries.Hands 1) ++ entries.Zero (Stack 3 27) ∷ entries.Hands 1 ∷
    entries.Done ∷
    rows 28 4 (λ k. entries.Zero (Stack 3 k) ∷ []) ++
    entries.Get (Data 3 1) 1 1 ∷ entries.Done ∷ entries.Hands 1 ∷ entries.Hands 1 ∷ entries.Done ∷
    entries.Get (Data 3 3) 3 1 ∷ entries.Done ∷ entries.Reclaim (Text 1 0) ∷
    rows 0 4 (λ k. entries.Get (Stack 3 k) k 1 ∷ entries.Done ∷ []) ++
    replicate 15 (entries.Hands 1) ++ entries.Done ∷ entries.Get (Stack 3 4) 4 4 ∷ entries.Done ∷
    rows 5 3 (λ k. entries.Reclaim (Stack 3 k) ∷ []) ++
    rows 8 4 (λ k. entries.Get (Stack 3 k) k 1 ∷ entries.Done ∷ []) ++
    replicate 8 (entries.Hands 1) ++ entries.Done ∷ entries.Get (Stack 3 12) 12 1 ∷ entries.Done ∷
    entries.Get (Stack 3 13) 13 1 ∷ entries.Done ∷ entries.Hands 1 ∷
    rows 14 4 (λ k. entries.Done ∷ entries.Get (Stack 3 k) k 1 ∷ []) ++
    entries.Done ∷ entries.Hands 1 ∷
    rows 18 6 (λ k. entries.Get (Stack 3 k) k 1 ∷ entries.Done ∷ []) ++
    entries.Get (Stack 3 24) 24 4 ∷ entries.Done ∷
    rows 25 3 (λ k. entries.Reclaim (Stack 3 k) ∷ []) ++
    entries.Get (Stack 3 28) 28 1 ∷ entries.Done ∷ entries.Get (Stack 3 29) 29 1 ∷ entries.Done ∷
    replicate 17 (entries.Hands 1) ++ entries.Done ∷ entries.Get (Stack 3 30) 30 1 ∷ entries.Done ∷
    entries.Get (Stack 3 31) 31 1 ∷ entries.Done ∷ entries.Hands 1 ∷ entries.Get (Text 1 0) 0 1 ∷
    entries.Done ∷ []) ++
    Ends last ∷ []

stack_read_by_fours : walk images operations (starting images (1 ∷ 1 ∷ 1 ∷ []) 64) ≡ seen
unfolding images operations last seen spot chunk_reached lowest_below chunk_start chunk counted_from text_spot
stack_read_by_fours = refl
