-- What a range of a swap file that is read or written is of the device that it makes.
use Rattle.std.proofs.Common.{◌≡◌, ◌≤◌, ◌+◌, ◌-◌, ◌*◌, inl, inr, max, ℕ, suc, get_or, Bool, true, false, List, [], ◌∷◌, ◌++◌, length, take, drop, replicate, Option, Some, None, ◌<◌, refl, ap, subst, sym, ◌∙◌, arith, length-append, append_assoc}
use Rattle.std.specs.Prelude.{⊤, Result, Ok, Err, OnOk, OnErr, IsOk}
use Rattle.std.specs.List.{flat_map}
use Rattle.std.specs.Option.{ForSome}
use Rattle.std.proofs.lemmas.Option.{same_Some}
use Rattle.std.proofs.lemmas.Bool.{cases_lt}
use Rattle.std.proofs.Math.Seq.{drop-append-add, take-append-add}
use Rattle.std.proofs.lemmas.List.{append-nil, drop-replicate, nil_from_length, length-replicate, length-take, length-take-le, length-drop, drop-drop, drop-append-le, take-append-le, take-append-drop, take_at, take_all, drop_at, replicate-append-replicate}
use Rattle.vm_facts.specs.Swap.{blocks_at, put_blocks}
use Rattle.vm_facts.specs.SwapImages.{SwapImage, unnoted}
use Rattle.io_edge.specs.FileHolding.{file_range}
use Rattle.io_edge.specs.SwapImage.{bytes_told, HoldsPage, ReadsPage, WritesPage, SpoilsPage}
use Rattle.io_edge.specs.SwapRuns.{WritesPages, SpoilsPages, WritesSomePages}
use Rattle.io_edge.specs.Zeros.{with_zeros, length-with_zeros}
use Rattle.io_edge.proofs.RunWrites.{untold_spoiled}
use Rattle.io_edge.proofs.ZeroEnds.{none_kept, blocks_at-kept, blocks_at-zeros}
use Rattle.system_calls.specs.Bytes.{IsTold, Empties, HoldsBytes, WritesBytes, SpoilsBytes, filled_to, written_over}
use Rattle.system_edge.specs.SwapFiles.{IsEmptied, IsWithin, OverImage, PartOverImage, put_over, file_image, image_of}
use Rattle.system_edge.specs.SwapWhole.{within_more, none_within}

length-put_over : (bytes : List ℕ) (offset : ℕ) (piece : List ℕ) → offset + length piece ≤ length bytes → length (put_over bytes offset piece) ≡ length bytes
length-put_over bytes offset piece within = omega (
  arith,
  within,
  length-append (take offset bytes ++ piece) (drop (offset + length piece) bytes),
  length-append (take offset bytes) piece,
  length-take-le offset bytes (omega (arith, within)),
  length-drop (offset + length piece) bytes,
)

-- two pieces, one behind the other
put_both : (bytes : List ℕ) (offset : ℕ) (first then : List ℕ) → offset + length first ≤ length bytes
    → put_over bytes offset (first ++ then) ≡ put_over (put_over bytes offset first) (offset + length first) then
put_both bytes offset first then within =
    let front : length (take offset bytes ++ first) ≡ offset + length first =
    length-append (take offset bytes) first ∙ ap (λ (n : ℕ). n + length first) (length-take-le offset bytes (omega (arith, within))) in
    let back : List ℕ = drop (offset + length first) bytes in
    let kept : take (offset + length first) (put_over bytes offset first) ≡ take offset bytes ++ first = take_at (take offset bytes ++ first) back (offset + length first) front in
    let rest : drop (offset + length first) (put_over bytes offset first) ≡ back = drop_at (take offset bytes ++ first) back (offset + length first) front in
    let behind : drop (offset + length first + length then) (put_over bytes offset first) ≡ drop (offset + length (first ++ then)) bytes =
    sym (drop-drop (length then) (offset + length first) (put_over bytes offset first))
    ∙ ap (λ (xs : List ℕ). drop (length then) xs) rest
    ∙ drop-drop (length then) (offset + length first) bytes
    ∙ ap (λ (n : ℕ). drop n bytes) (omega (arith, length-append first then)) in
    ap (λ (xs : List ℕ). xs ++ drop (offset + length (first ++ then)) bytes) (sym (append_assoc (take offset bytes) first then))
    ∙ ap (λ (xs : List ℕ). (xs ++ then) ++ drop (offset + length (first ++ then)) bytes) (sym kept)
    ∙ ap (λ (xs : List ℕ). (take (offset + length first) (put_over bytes offset first) ++ then) ++ xs) (sym behind)

-- nothing lies behind the end
past_end : (n : ℕ) (xs : List ℕ) → length xs ≤ n → drop n xs ≡ []
past_end n xs past = nil_from_length (drop n xs) (omega (arith, past, length-drop n xs))

-- A write over a file, and then its zeros: the piece over the device.
over_zeros : (size offset : ℕ) (bytes piece : List ℕ) → length bytes ≤ size → offset + length piece ≤ size
    → with_zeros size (written_over bytes offset piece) ≡ put_over (with_zeros size bytes) offset piece
unfolding with_zeros
over_zeros size offset bytes piece within inside =
    let n : ℕ = length piece in
    let long : ℕ = length bytes in
    let fill : List ℕ = replicate (offset - long) 0 in
    let filled : List ℕ = filled_to offset bytes in
    let zeros : List ℕ = replicate (size - long) 0 in
    let filled_long : length filled ≡ long + (offset - long) = length-append bytes fill ∙ ap (λ (k : ℕ). long + k) (length-replicate (offset - long) 0) in
    let split : zeros ≡ fill ++ replicate (size - long - (offset - long)) 0 =
    ap (λ (k : ℕ). replicate k 0) (omega (arith, within, inside)) ∙ sym (replicate-append-replicate (offset - long) (size - long - (offset - long)) 0) in
    let front : take offset (bytes ++ zeros) ≡ take offset filled =
    ap (λ (xs : List ℕ). take offset (bytes ++ xs)) split
    ∙ ap (λ (xs : List ℕ). take offset xs) (sym (append_assoc bytes fill (replicate (size - long - (offset - long)) 0)))
    ∙ take-append-le offset filled (replicate (size - long - (offset - long)) 0) (omega (arith, filled_long)) in
    let taken : length (take offset filled) ≡ offset = length-take-le offset filled (omega (arith, filled_long)) in
    let all : length (written_over bytes offset piece) ≡ offset + n + (long - (offset + n)) =
    omega (arith, taken, length-append (take offset filled ++ piece) (drop (offset + n) bytes), length-append (take offset filled) piece, length-drop (offset + n) bytes) in
    let back : drop (offset + n) bytes ++ replicate (size - length (written_over bytes offset piece)) 0 ≡ drop (offset + n) (bytes ++ zeros) =
    ap (λ (k : ℕ). drop (offset + n) bytes ++ replicate (size - k) 0) all ∙ elim (cases_lt long (offset + n)) [
      | inl past ↦ ap (λ (xs : List ℕ). xs ++ replicate (size - (offset + n + (long - (offset + n)))) 0) (past_end (offset + n) bytes (omega (arith, past)))
          ∙ ap (λ (k : ℕ). replicate k 0) (omega (arith, past, inside))
          ∙ sym (drop-replicate (offset + n - long) (size - long) 0)
          ∙ sym (drop-append-add bytes zeros (offset + n - long))
          ∙ ap (λ (k : ℕ). drop k (bytes ++ zeros)) (omega (arith, past))
      | inr short ↦ ap (λ (k : ℕ). drop (offset + n) bytes ++ replicate k 0) (omega (arith, short))
          ∙ sym (drop-append-le (offset + n) bytes zeros short)
    ] in
    append_assoc (take offset filled ++ piece) (drop (offset + n) bytes) (replicate (size - length (written_over bytes offset piece)) 0)
    ∙ ap (λ (xs : List ℕ). (take offset filled ++ piece) ++ xs) back
    ∙ ap (λ (xs : List ℕ). (xs ++ piece) ++ drop (offset + n) (bytes ++ zeros)) (sym front)

-- a page over the device
put_page : (image : List ℕ) (block : ℕ) (page : List ℕ) → length page ≡ 1024 → put_over image (512 * block) page ≡ put_blocks image block page
unfolding put_blocks
put_page image block page whole = ap (λ (n : ℕ). take (512 * block) image ++ page ++ drop (512 * block + n) image) whole

-- no piece
put_none : (image : List ℕ) (offset : ℕ) → put_over image offset [] ≡ image
put_none image offset =
    ap (λ (xs : List ℕ). xs ++ drop (offset + 0) image) (append-nil (take offset image))
    ∙ ap (λ (n : ℕ). take offset image ++ drop n image) (omega arith)
    ∙ take-append-drop offset image

-- a part of a page, and then what the page had
abbrev part_page : (image : List ℕ) (block : ℕ) (piece : List ℕ) → List ℕ
part_page image block piece = piece ++ take (1024 - length piece) (drop (512 * block + length piece) image)

length-part_page : (image : List ℕ) (block : ℕ) (piece : List ℕ) → length piece ≤ 1024 → 512 * block + 1024 ≤ length image
    → length (part_page image block piece) ≡ 1024
length-part_page image block piece few within =
    let rest : List ℕ = drop (512 * block + length piece) image in
    omega (
      arith,
      few,
      within,
      length-append piece (take (1024 - length piece) rest),
      length-drop (512 * block + length piece) image,
      length-take-le (1024 - length piece) rest (omega (arith, few, within, length-drop (512 * block + length piece) image)),
    )

put_part : (image : List ℕ) (block : ℕ) (piece : List ℕ) → length piece ≤ 1024
    → put_over image (512 * block) piece ≡ put_blocks image block (part_page image block piece)
unfolding put_blocks
put_part image block piece few =
    let from : ℕ = 512 * block + length piece in
    let rest : drop from image ≡ take (1024 - length piece) (drop from image) ++ drop (512 * block + 1024) image =
    sym (take-append-drop (1024 - length piece) (drop from image))
    ∙ ap (λ (xs : List ℕ). take (1024 - length piece) (drop from image) ++ xs) (drop-drop (1024 - length piece) from image ∙ ap (λ (n : ℕ). drop n image) (omega (arith, few))) in
    ap (λ (xs : List ℕ). (take (512 * block) image ++ piece) ++ xs) rest
    ∙ sym (append_assoc (take (512 * block) image ++ piece) (take (1024 - length piece) (drop from image)) (drop (512 * block + 1024) image))
    ∙ ap (λ (xs : List ℕ). xs ++ drop (512 * block + 1024) image) (append_assoc (take (512 * block) image) piece (take (1024 - length piece) (drop from image)))

-- pages, one behind the other
abbrev pub joined : List (List ℕ) → List ℕ
joined pages = flat_map (λ page. page) pages

-- each has the length of a page
abbrev pub AreWhole : List (List ℕ) → Type 0
AreWhole [] = ⊤
AreWhole (page ∷ pages) = (length page ≡ 1024) × AreWhole pages

untold_run : (block : ℕ) (pages : List (List ℕ)) → WritesPages None block pages None
untold_run block [] = refl
untold_run block (page ∷ pages) = (None, refl, untold_run (block + 2) pages)

pub run_written : (blocks block : ℕ) (image : List ℕ) (pages : List (List ℕ)) → AreWhole pages → length image ≡ 512 * blocks
    → block + 2 * length pages ≤ blocks → WritesPages (Some (unnoted image)) block pages (Some (unnoted (put_over image (512 * block) (joined pages))))
run_written blocks block image [] whole long inside = ap (λ (bytes : List ℕ). Some (unnoted bytes)) (put_none image (512 * block))
run_written blocks block image (page ∷ pages) whole long inside =
    let within : 512 * block + length page ≤ length image = omega (arith, whole.0, long, inside) in
    let next : List ℕ = put_blocks image block page in
    let put : put_over image (512 * block) page ≡ next = put_page image block page whole.0 in
    let same : length next ≡ 512 * blocks = sym (ap length put) ∙ length-put_over image (512 * block) page within ∙ long in
    let at : 512 * block + length page ≡ 512 * (block + 2) = omega (arith, whole.0) in
    let both : put_over image (512 * block) (page ++ joined pages) ≡ put_over next (512 * (block + 2)) (joined pages) =
    put_both image (512 * block) page (joined pages) within
    ∙ ap (λ (bytes : List ℕ). put_over bytes (512 * block + length page) (joined pages)) put
    ∙ ap (λ (n : ℕ). put_over next n (joined pages)) at in (
      Some (unnoted next),
      refl,
      subst (λ (bytes : List ℕ). WritesPages (Some (unnoted next)) (block + 2) pages (Some (unnoted bytes))) (sym both)
          (run_written blocks (block + 2) next pages whole.1 same (omega (arith, inside))),
    )

length-take_few : (count : ℕ) (xs : List ℕ) → count ≤ length xs → length (take count xs) ≡ count
length-take_few count xs few = length-take-le count xs few

some_left : (pages : List (List ℕ)) → 0 < length (joined pages) → 0 < length pages
some_left [] some = some
some_left (page ∷ pages) some = omega arith

take_into : (count : ℕ) (page rest : List ℕ) → length page ≤ count → take count (page ++ rest) ≡ page ++ take (count - length page) rest
take_into count page rest past =
    let n : ℕ = count - length page in
    let is : length page + n ≡ count = omega (arith, past) in
    subst (λ (k : ℕ). take k (page ++ rest) ≡ page ++ take n rest) is (take-append-add page rest n)

pub run_spoiled : (blocks block count : ℕ) (image : List ℕ) (pages : List (List ℕ)) → AreWhole pages → length image ≡ 512 * blocks
    → block + 2 * length pages ≤ blocks → 0 < length pages → count ≤ length (joined pages)
    → SpoilsPages (Some (unnoted image)) block pages (Some (unnoted (put_over image (512 * block) (take count (joined pages)))))
run_spoiled blocks block count image [] whole long inside some few = absurd (omega (arith, some))
run_spoiled blocks block count image (page ∷ pages) whole long inside some few =
    let piece : List ℕ = take count (page ++ joined pages) in
    let many : length piece ≡ count = length-take_few count (page ++ joined pages) few in
    elim (cases_lt 1024 count) [
      | inl more ↦
          let within : 512 * block + length page ≤ length image = omega (arith, whole.0, long, inside) in
          let next : List ℕ = put_blocks image block page in
          let put : put_over image (512 * block) page ≡ next = put_page image block page whole.0 in
          let same : length next ≡ 512 * blocks = sym (ap length put) ∙ length-put_over image (512 * block) page within ∙ long in
          let at : 512 * block + length page ≡ 512 * (block + 2) = omega (arith, whole.0) in
          let left : ℕ = count - 1024 in
          let rest : List ℕ = take left (joined pages) in
          let fewer : left ≤ length (joined pages) = omega (arith, few, more, whole.0, length-append page (joined pages)) in
          let split : piece ≡ page ++ rest =
          take_into count page (joined pages) (omega (arith, more, whole.0)) ∙ ap (λ (n : ℕ). page ++ take (count - n) (joined pages)) whole.0 in
          let both : put_over image (512 * block) piece ≡ put_over next (512 * (block + 2)) rest =
          ap (λ (bytes : List ℕ). put_over image (512 * block) bytes) split
          ∙ put_both image (512 * block) page rest within
          ∙ ap (λ (bytes : List ℕ). put_over bytes (512 * block + length page) rest) put
          ∙ ap (λ (n : ℕ). put_over next n rest) at in
          inr (
            Some (unnoted next),
            refl,
            subst (λ (bytes : List ℕ). SpoilsPages (Some (unnoted next)) (block + 2) pages (Some (unnoted bytes))) (sym both)
                (run_spoiled blocks (block + 2) left next pages whole.1 same (omega (arith, inside)) (some_left pages (omega (arith, few, more, whole.0, length-append page (joined pages)))) fewer),
          )
      | inr short ↦ inl (
        part_page image block piece,
        length-part_page image block piece (omega (arith, many, short)) (omega (arith, long, inside)),
        ap (λ (bytes : List ℕ). Some (unnoted bytes)) (put_part image block piece (omega (arith, many, short))),
      )
    ]

-- ---- the device of a file

-- a page past the end
pub reads_past : (told : Bool) (blocks block len : ℕ) (bytes : Option (List ℕ)) → IsWithin len bytes → len ≤ 512 * block → block + 2 ≤ blocks
    → HoldsPage (bytes_told (file_image told blocks bytes)) block (replicate 1024 0)
reads_past false blocks block len bytes within past inside = tt
reads_past true blocks block len None within past inside = tt
reads_past true blocks block len (Some bytes) within past inside =
    sym (blocks_at-zeros (512 * blocks) block bytes (omega (arith, within bytes refl, past)) (omega (arith, inside)))

-- a page that the file has
pub reads_kept : (told : Bool) (blocks block : ℕ) (bytes : Option (List ℕ)) (page : List ℕ) → length page ≡ 1024
    → HoldsBytes bytes (512 * block) page → HoldsPage (bytes_told (file_image told blocks bytes)) block page
unfolding blocks_at
reads_kept false blocks block bytes page whole held = tt
reads_kept true blocks block None page whole held = tt
reads_kept true blocks block (Some bytes) page whole held =
    let is : page ≡ take 1024 (drop (512 * block) bytes) = held ∙ ap (λ (n : ℕ). file_range bytes (512 * block) n) whole in
    let within : 512 * block + 1024 ≤ length bytes =
    omega (arith, sym (ap length is) ∙ whole, length-take 1024 (drop (512 * block) bytes), length-drop (512 * block) bytes) in
    is ∙ sym (blocks_at-kept (512 * blocks) block bytes within)

-- a piece was written
pub writes_file : (told : Bool) (blocks block : ℕ) (old new : Option (List ℕ)) (piece : List ℕ) → IsWithin (512 * blocks) old
    → 512 * block + length piece ≤ 512 * blocks → WritesBytes old (512 * block) piece new
    → OverImage (file_image told blocks old) block piece (file_image told blocks new)
writes_file false blocks block old new piece within inside written = refl
writes_file true blocks block None new piece within inside written = ap (λ (bytes : Option (List ℕ)). file_image true blocks bytes) written
writes_file true blocks block (Some bytes) new piece within inside written =
    ap (λ (b : Option (List ℕ)). file_image true blocks b) written
    ∙ ap (λ (b : List ℕ). Some (unnoted b)) (over_zeros (512 * blocks) (512 * block) bytes piece (within bytes refl) inside)

-- nothing was written
stays_over : (told : Bool) (blocks block : ℕ) (old new : Option (List ℕ)) → new ≡ old
    → OverImage (file_image told blocks old) block [] (file_image told blocks new)
stays_over false blocks block old new same = refl
stays_over true blocks block None new same = ap (λ (bytes : Option (List ℕ)). file_image true blocks bytes) same
stays_over true blocks block (Some bytes) new same =
    ap (λ (b : Option (List ℕ)). file_image true blocks b) same ∙ ap (λ (b : List ℕ). Some (unnoted b)) (sym (put_none (with_zeros (512 * blocks) bytes) (512 * block)))

-- a write failed
pub spoils_file : (told : Bool) (blocks block : ℕ) (old new : Option (List ℕ)) (piece : List ℕ) → IsWithin (512 * blocks) old
    → 512 * block + length piece ≤ 512 * blocks → SpoilsBytes old (512 * block) piece new
    → PartOverImage (file_image told blocks old) block piece (file_image told blocks new)
spoils_file told blocks block old new piece within inside (inl same) = (0, omega arith, stays_over told blocks block old new same)
spoils_file told blocks block old new piece within inside (inr part) =
    (part.0, part.1, writes_file told blocks block old new (take part.0 piece) within (omega (arith, inside, part.1, length-take-le part.0 piece part.1)) part.2)

-- a write of one page that was done, or failed
pub page_over : (told : Bool) (blocks block : ℕ) (bytes : Option (List ℕ)) (new : Option SwapImage) (page : List ℕ) → length page ≡ 1024
    → OverImage (file_image told blocks bytes) block page new → WritesPage (file_image told blocks bytes) block page new
page_over false blocks block bytes new page whole over = over
page_over true blocks block None new page whole over = over
page_over true blocks block (Some bytes) new page whole over =
    over ∙ ap (λ (b : List ℕ). Some (unnoted b)) (put_page (with_zeros (512 * blocks) bytes) block page whole)

pub page_part : (told : Bool) (blocks block : ℕ) (bytes : Option (List ℕ)) (new : Option SwapImage) (page : List ℕ) → length page ≡ 1024
    → block + 2 ≤ blocks → IsWithin (512 * blocks) bytes → PartOverImage (file_image told blocks bytes) block page new
    → SpoilsPage (file_image told blocks bytes) block new
page_part false blocks block bytes new page whole inside within part = (page, whole, part.2)
page_part true blocks block None new page whole inside within part = (page, whole, part.2)
page_part true blocks block (Some bytes) new page whole inside within part =
    let image : List ℕ = with_zeros (512 * blocks) bytes in
    let piece : List ℕ = take part.0 page in
    let few : length piece ≤ 1024 = omega (arith, whole, part.1, length-take-le part.0 page part.1) in
    let long : length image ≡ 512 * blocks = length-with_zeros (512 * blocks) bytes (within bytes refl) in (
      part_page image block piece,
      length-part_page image block piece few (omega (arith, long, inside)),
      part.2 ∙ ap (λ (b : List ℕ). Some (unnoted b)) (put_part image block piece few),
    )

length-joined : (pages : List (List ℕ)) → AreWhole pages → length (joined pages) ≡ 1024 * length pages
length-joined [] whole = refl
length-joined (page ∷ pages) whole = omega (arith, whole.0, length-append page (joined pages), length-joined pages whole.1)

-- a write of a run of pages
pub run_over : (told : Bool) (blocks block count : ℕ) (bytes : Option (List ℕ)) (new : Option SwapImage) (pages : List (List ℕ)) → AreWhole pages
    → 0 < length pages → count ≡ length pages → block + 2 * length pages ≤ blocks → IsWithin (512 * blocks) bytes
    → OverImage (file_image told blocks bytes) block (joined pages) new → WritesSomePages (Some count) (file_image told blocks bytes) block pages new
run_over told blocks block count bytes new pages whole some all inside within over = (
  omega (arith, some, all),
  omega (arith, all),
  subst (λ (ps : List (List ℕ)). WritesPages (file_image told blocks bytes) block ps new) (sym (take_all count pages (omega (arith, all))))
      (written told bytes within over),
)
  where
    written : (told : Bool) (bytes : Option (List ℕ)) → IsWithin (512 * blocks) bytes → OverImage (file_image told blocks bytes) block (joined pages) new
        → WritesPages (file_image told blocks bytes) block pages new
    written false bytes within over = subst (λ (image : Option SwapImage). WritesPages None block pages image) (sym over) (untold_run block pages)
    written true None within over = subst (λ (image : Option SwapImage). WritesPages None block pages image) (sym over) (untold_run block pages)
    written true (Some bytes) within over = subst (λ (image : Option SwapImage). WritesPages (file_image true blocks (Some bytes)) block pages image) (sym over)
        (run_written blocks block (with_zeros (512 * blocks) bytes) pages whole (length-with_zeros (512 * blocks) bytes (within bytes refl)) inside)

pub run_part : (told : Bool) (blocks block : ℕ) (bytes : Option (List ℕ)) (new : Option SwapImage) (pages : List (List ℕ)) → AreWhole pages
    → 0 < length pages → block + 2 * length pages ≤ blocks → IsWithin (512 * blocks) bytes
    → PartOverImage (file_image told blocks bytes) block (joined pages) new → WritesSomePages None (file_image told blocks bytes) block pages new
run_part false blocks block bytes new pages whole some inside within part =
    subst (λ (image : Option SwapImage). SpoilsPages None block pages image) (sym part.2) (untold_spoiled block pages some)
run_part true blocks block None new pages whole some inside within part =
    subst (λ (image : Option SwapImage). SpoilsPages None block pages image) (sym part.2) (untold_spoiled block pages some)
run_part true blocks block (Some bytes) new pages whole some inside within part =
    subst (λ (image : Option SwapImage). SpoilsPages (file_image true blocks (Some bytes)) block pages image) (sym part.2)
    (run_spoiled blocks block part.0 (with_zeros (512 * blocks) bytes) pages whole (length-with_zeros (512 * blocks) bytes (within bytes refl)) inside some part.1)

-- a file that was opened and emptied
pub emptied : (told : Bool) (old new : Option (List ℕ)) → IsTold told old → Empties old new → IsEmptied told new
emptied false None new is empty = subst (λ (b : Option (List ℕ)). IsEmptied false b) (sym empty) tt
emptied false (Some bytes) new is empty = subst (λ (b : Option (List ℕ)). IsEmptied false b) (sym empty) refl
emptied true None new is empty = absurd is
emptied true (Some bytes) new is empty = subst (λ (b : Option (List ℕ)). IsEmptied true b) (sym empty) refl

pub opened_image : (told : Bool) (blocks : ℕ) (bytes : Option (List ℕ)) → IsEmptied told bytes → file_image told blocks bytes ≡ file_image told blocks (Some [])
opened_image false blocks bytes empty = refl
opened_image true blocks None empty = absurd empty
opened_image true blocks (Some bytes) empty = ap (λ (b : List ℕ). file_image true blocks (Some b)) empty

pub opened_within : (told : Bool) (size : ℕ) (bytes : Option (List ℕ)) → IsEmptied told bytes → IsWithin size bytes
opened_within told size None empty = λ some is. absurd (cc is)
opened_within false size (Some bytes) empty = λ some is. subst (λ (b : List ℕ). length b ≤ size) (sym empty ∙ same_Some bytes some is) (omega arith)
opened_within true size (Some bytes) empty = λ some is. subst (λ (b : List ℕ). length b ≤ size) (sym empty ∙ same_Some bytes some is) (omega arith)

-- bytes after a write
over_within : (len offset : ℕ) (bytes piece : List ℕ) → length bytes ≤ len → length (written_over bytes offset piece) ≤ max len (offset + length piece)
over_within len offset bytes piece within =
    let n : ℕ = length piece in
    let filled : List ℕ = filled_to offset bytes in
    let filled_long : length filled ≡ length bytes + (offset - length bytes) =
    length-append bytes (replicate (offset - length bytes) 0) ∙ ap (λ (k : ℕ). length bytes + k) (length-replicate (offset - length bytes) 0) in
    let taken : length (take offset filled) ≡ offset = length-take-le offset filled (omega (arith, filled_long)) in
    omega (arith, within, taken, length-append (take offset filled ++ piece) (drop (offset + n) bytes), length-append (take offset filled) piece, length-drop (offset + n) bytes)

written_within : (len many offset : ℕ) (old new : Option (List ℕ)) (piece : List ℕ) → IsWithin len old → max len (offset + length piece) ≤ many
    → WritesBytes old offset piece new → IsWithin many new
written_within len many offset None new piece within fits written = λ some is. absurd (cc (written, is))
written_within len many offset (Some bytes) new piece within fits written = λ some is.
    subst (λ (b : List ℕ). length b ≤ many) (same_Some (written_over bytes offset piece) some (sym written ∙ is))
    (omega (arith, fits, over_within len offset bytes piece (within bytes refl)))

spoiled_within : (len many offset : ℕ) (old new : Option (List ℕ)) (piece : List ℕ) → IsWithin len old → max len (offset + length piece) ≤ many
    → SpoilsBytes old offset piece new → IsWithin many new
spoiled_within len many offset old new piece within fits (inl same) = λ some is. omega (arith, fits, within some (sym same ∙ is))
spoiled_within len many offset old new piece within fits (inr part) =
    written_within len many offset old new (take part.0 piece) within (omega (arith, fits, part.1, length-take-le part.0 piece part.1)) part.2

pub within_after : {T E : Type 0} (ended : Result T E) (len many offset : ℕ) (old new : Option (List ℕ)) (piece : List ℕ) → IsWithin len old
    → many ≡ max len (offset + length piece) → OnOk ended (WritesBytes old offset piece new) → OnErr ended (SpoilsBytes old offset piece new)
    → IsWithin many new
within_after (Ok done) len many offset old new piece within is written spoiled = written_within len many offset old new piece within (omega (arith, is)) written
within_after (Err error) len many offset old new piece within is written spoiled = spoiled_within len many offset old new piece within (omega (arith, is)) spoiled

-- a page that was read
pub reads_page : {T E : Type 0} (ended : Result T E) (told : Bool) (blocks block len : ℕ) (bytes : Option (List ℕ)) (page : List ℕ) → IsWithin len bytes
    → block + 2 ≤ blocks → length page ≡ 1024 → (len ≤ 512 * block → IsOk ended × (page ≡ replicate 1024 0))
    → (512 * block < len → OnOk ended (HoldsBytes bytes (512 * block) page))
    → OnOk ended (HoldsPage (bytes_told (file_image told blocks bytes)) block page)
reads_page (Err error) told blocks block len bytes page within inside whole past held = tt
reads_page (Ok done) told blocks block len bytes page within inside whole past held = elim (cases_lt (512 * block) len) [
  | inl kept ↦ reads_kept told blocks block bytes page whole (held kept)
  | inr behind ↦ subst (λ (b : List ℕ). HoldsPage (bytes_told (file_image told blocks bytes)) block b) (sym (past behind).1)
      (reads_past told blocks block len bytes within behind inside)
]

-- what a write makes of the image
pub over_after : {T E : Type 0} (ended : Result T E) (told : Bool) (blocks block : ℕ) (old new : Option (List ℕ)) (piece : List ℕ) → IsWithin (512 * blocks) old
    → 512 * block + length piece ≤ 512 * blocks → OnOk ended (WritesBytes old (512 * block) piece new)
    → OnOk ended (OverImage (file_image told blocks old) block piece (file_image told blocks new))
over_after (Err error) told blocks block old new piece within inside written = tt
over_after (Ok done) told blocks block old new piece within inside written = writes_file told blocks block old new piece within inside written

pub part_after : {T E : Type 0} (ended : Result T E) (told : Bool) (blocks block : ℕ) (old new : Option (List ℕ)) (piece : List ℕ) → IsWithin (512 * blocks) old
    → 512 * block + length piece ≤ 512 * blocks → OnErr ended (SpoilsBytes old (512 * block) piece new)
    → OnErr ended (PartOverImage (file_image told blocks old) block piece (file_image told blocks new))
part_after (Ok done) told blocks block old new piece within inside spoiled = tt
part_after (Err error) told blocks block old new piece within inside spoiled = spoils_file told blocks block old new piece within inside spoiled

-- ---- the device of a file that may not have been opened so far

file_reads : (told : Bool) (blocks block : ℕ) (bytes : Option (List ℕ)) (new : Option SwapImage) → new ≡ file_image told blocks bytes
    → ReadsPage (file_image told blocks bytes) block new
file_reads false blocks block bytes new same = same
file_reads true blocks block None new same = same
file_reads true blocks block (Some bytes) new same = same

pub image_reads : {F : Type 0} (bytes : F → Option (List ℕ)) (told : Bool) (blocks block : ℕ) (file : Option F) (new : Option SwapImage)
    → new ≡ image_of bytes told blocks file → ReadsPage (image_of bytes told blocks file) block new
image_reads bytes told blocks block None new same = file_reads told blocks block (Some []) new same
image_reads bytes told blocks block (Some file) new same = file_reads told blocks block (bytes file) new same

pub image_page : {F : Type 0} (bytes : F → Option (List ℕ)) (told : Bool) (blocks block : ℕ) (file : Option F) (new : Option SwapImage) (page : List ℕ)
    → length page ≡ 1024 → OverImage (image_of bytes told blocks file) block page new → WritesPage (image_of bytes told blocks file) block page new
image_page bytes told blocks block None new page whole over = page_over told blocks block (Some []) new page whole over
image_page bytes told blocks block (Some file) new page whole over = page_over told blocks block (bytes file) new page whole over

pub image_part : {F : Type 0} (bytes : F → Option (List ℕ)) (told : Bool) (blocks block : ℕ) (file : Option F) (new : Option SwapImage) (page : List ℕ)
    → length page ≡ 1024 → block + 2 ≤ blocks → ForSome file (λ f. IsWithin (512 * blocks) (bytes f))
    → PartOverImage (image_of bytes told blocks file) block page new → SpoilsPage (image_of bytes told blocks file) block new
image_part bytes told blocks block None new page whole inside within part =
    page_part told blocks block (Some []) new page whole inside (none_within (512 * blocks)) part
image_part bytes told blocks block (Some file) new page whole inside within part =
    page_part told blocks block (bytes file) new page whole inside (within file refl) part

pub image_run : {F : Type 0} (bytes : F → Option (List ℕ)) (told : Bool) (blocks block count : ℕ) (file : Option F) (new : Option SwapImage)
    (pages : List (List ℕ)) (piece : List ℕ) → piece ≡ joined pages → AreWhole pages → 0 < length pages → count ≡ length pages
    → block + 2 * length pages ≤ blocks → ForSome file (λ f. IsWithin (512 * blocks) (bytes f))
    → OverImage (image_of bytes told blocks file) block piece new → WritesSomePages (Some count) (image_of bytes told blocks file) block pages new
image_run bytes told blocks block count None new pages piece is whole some all inside within over =
    run_over told blocks block count (Some []) new pages whole some all inside (none_within (512 * blocks))
    (subst (λ (b : List ℕ). OverImage (file_image told blocks (Some [])) block b new) is over)
image_run bytes told blocks block count (Some file) new pages piece is whole some all inside within over =
    run_over told blocks block count (bytes file) new pages whole some all inside (within file refl)
    (subst (λ (b : List ℕ). OverImage (file_image told blocks (bytes file)) block b new) is over)

pub image_run_part : {F : Type 0} (bytes : F → Option (List ℕ)) (told : Bool) (blocks block : ℕ) (file : Option F) (new : Option SwapImage)
    (pages : List (List ℕ)) (piece : List ℕ) → piece ≡ joined pages → AreWhole pages → 0 < length pages → block + 2 * length pages ≤ blocks
    → ForSome file (λ f. IsWithin (512 * blocks) (bytes f)) → PartOverImage (image_of bytes told blocks file) block piece new
    → WritesSomePages None (image_of bytes told blocks file) block pages new
image_run_part bytes told blocks block None new pages piece is whole some inside within part =
    run_part told blocks block (Some []) new pages whole some inside (none_within (512 * blocks))
    (subst (λ (b : List ℕ). PartOverImage (file_image told blocks (Some [])) block b new) is part)
image_run_part bytes told blocks block (Some file) new pages piece is whole some inside within part =
    run_part told blocks block (bytes file) new pages whole some inside (within file refl)
    (subst (λ (b : List ℕ). PartOverImage (file_image told blocks (bytes file)) block b new) is part)

-- before the first call
pub new_zeros : (told : Bool) (blocks : ℕ) → told ≡ true → file_image told blocks (Some []) ≡ Some (unnoted (replicate (512 * blocks) 0))
new_zeros told blocks tells =
    subst (λ (t : Bool). file_image t blocks (Some []) ≡ Some (unnoted (replicate (512 * blocks) 0))) (sym tells)
    (ap (λ (b : List ℕ). Some (unnoted b)) (none_kept (512 * blocks)))

-- each page of a run has the length of one
pub are_whole : (pages : List (List ℕ)) → ((i : ℕ) → i < length pages → length (get_or pages i []) ≡ 1024) → AreWhole pages
are_whole [] each = tt
are_whole (page ∷ pages) each = (each 0 (omega arith), are_whole pages (λ i fits. each (suc i) (omega (arith, fits))))

-- a write through an adapter whose other fields stay
pub try_over : {T E : Type 0} (ended : Result T E) (told now : Bool) (blocks size block len : ℕ) (image : Option SwapImage) (old new : Option (List ℕ))
    (piece : List ℕ) → now ≡ told → size ≡ blocks → file_image told blocks old ≡ image → len ≤ 512 * blocks → IsWithin len old
    → 512 * block + length piece ≤ 512 * blocks → OnOk ended (WritesBytes old (512 * block) piece new)
    → OnOk ended (OverImage image block piece (file_image now size new))
try_over ended told now blocks size block len image old new piece tells same is room within inside written =
    subst (λ (t : Bool). OnOk ended (OverImage image block piece (file_image t size new))) (sym tells)
    (subst (λ (n : ℕ). OnOk ended (OverImage image block piece (file_image told n new))) (sym same)
    (subst (λ (i : Option SwapImage). OnOk ended (OverImage i block piece (file_image told blocks new))) is
    (over_after ended told blocks block old new piece (within_more len (512 * blocks) old room within) inside written)))

pub try_part : {T E : Type 0} (ended : Result T E) (told now : Bool) (blocks size block len : ℕ) (image : Option SwapImage) (old new : Option (List ℕ))
    (piece : List ℕ) → now ≡ told → size ≡ blocks → file_image told blocks old ≡ image → len ≤ 512 * blocks → IsWithin len old
    → 512 * block + length piece ≤ 512 * blocks → OnErr ended (SpoilsBytes old (512 * block) piece new)
    → OnErr ended (PartOverImage image block piece (file_image now size new))
try_part ended told now blocks size block len image old new piece tells same is room within inside spoiled =
    subst (λ (t : Bool). OnErr ended (PartOverImage image block piece (file_image t size new))) (sym tells)
    (subst (λ (n : ℕ). OnErr ended (PartOverImage image block piece (file_image told n new))) (sym same)
    (subst (λ (i : Option SwapImage). OnErr ended (PartOverImage i block piece (file_image told blocks new))) is
    (part_after ended told blocks block old new piece (within_more len (512 * blocks) old room within) inside spoiled)))

-- a read through it
pub try_read_page : {T E : Type 0} (ended : Result T E) (told : Bool) (blocks block len : ℕ) (image : Option SwapImage) (bytes : Option (List ℕ))
    (page : List ℕ) → file_image told blocks bytes ≡ image → IsWithin len bytes → block + 2 ≤ blocks → length page ≡ 1024
    → (len ≤ 512 * block → IsOk ended × (page ≡ replicate 1024 0))
    → (512 * block < len → OnOk ended (HoldsBytes bytes (512 * block) page)) → OnOk ended (HoldsPage (bytes_told image) block page)
try_read_page ended told blocks block len image bytes page is within inside whole past held =
    subst (λ (i : Option SwapImage). OnOk ended (HoldsPage (bytes_told i) block page)) is (reads_page ended told blocks block len bytes page within inside whole past held)
