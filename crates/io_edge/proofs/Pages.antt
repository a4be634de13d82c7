-- Parts of an image that is read and written.
use Rattle.std.proofs.Common.{◌≡◌, ◌≤◌, ◌+◌, ◌*◌, ℕ, List, ◌++◌, length, take, drop, ap, subst, sym, ◌∙◌, arith, length-append, append_assoc, ◌<◌, ◌⊎◌, inl, inr, suc, []}
use Rattle.std.proofs.lemmas.List.{append-nil, nil_from_length, length-take-le, length-drop, drop-append-le, take-append-le, take-append-drop, drop-drop}
use Rattle.std.proofs.lemmas.Slice.{drop-append-drop}
use Rattle.std.proofs.Math.Seq.{drop-append_seam, take-append_seam, take-add, take-length}
use Rattle.vm_facts.specs.Swap.{blocks_at, put_blocks}
use Rattle.io_edge.specs.Striping.{block_at}

-- so many elements from a place on
abbrev part : ℕ → ℕ → List ℕ → List ℕ
part start count xs = take count (drop start xs)

-- the list with other elements from a place on
abbrev put_part : ℕ → ℕ → List ℕ → List ℕ → List ℕ
put_part start count bytes xs = take start xs ++ bytes ++ drop (start + count) xs

-- where the front ends
pub take_at : (n : ℕ) (xs ys : List ℕ) → length xs ≡ n → take n (xs ++ ys) ≡ xs
take_at n xs ys long = subst (λ (m : ℕ). take m (xs ++ ys) ≡ xs) long (take-append_seam xs ys)

pub drop_at : (n : ℕ) (xs ys : List ℕ) → length xs ≡ n → drop n (xs ++ ys) ≡ ys
drop_at n xs ys long = subst (λ (m : ℕ). drop m (xs ++ ys) ≡ ys) long (drop-append_seam xs ys)

-- a part of the front
pub part-append : (start count : ℕ) (xs ys : List ℕ) → start + count ≤ length xs → part start count (xs ++ ys) ≡ part start count xs
part-append start count xs ys within =
    let begins : start ≤ length xs = omega arith in
    let ends : count ≤ length (drop start xs) = omega (arith, length-drop start xs) in
    ap (λ (rest : List ℕ). take count rest) (drop-append-le start xs ys begins) ∙ take-append-le count (drop start xs) ys ends

-- a write into the front
pub put_blocks-append : (block : ℕ) (bytes xs ys : List ℕ) → 512 * block + 1024 ≤ length xs
    → put_blocks (xs ++ ys) block bytes ≡ put_blocks xs block bytes ++ ys
unfolding put_blocks
put_blocks-append block bytes xs ys within =
    let begins : 512 * block ≤ length xs = omega arith in
    ap (λ (front : List ℕ). front ++ bytes ++ drop (512 * block + 1024) (xs ++ ys)) (take-append-le (512 * block) xs ys begins)
    ∙ ap (λ (back : List ℕ). take (512 * block) xs ++ bytes ++ back) (drop-append-le (512 * block + 1024) xs ys within)
    ∙ sym (append_assoc (take (512 * block) xs ++ bytes) (drop (512 * block + 1024) xs) ys)

-- a write at the end
pub put_blocks_last : (block : ℕ) (bytes front page : List ℕ) → length front ≡ 512 * block → length page ≡ 1024
    → put_blocks (front ++ page) block bytes ≡ front ++ bytes
unfolding put_blocks
put_blocks_last block bytes front page begins whole =
    let ends : drop (512 * block + 1024) (front ++ page) ≡ [] =
    nil_from_length (drop (512 * block + 1024) (front ++ page)) (omega (arith, length-drop (512 * block + 1024) (front ++ page), length-append front page)) in
    ap (λ (xs : List ℕ). xs ++ bytes ++ drop (512 * block + 1024) (front ++ page)) (take_at (512 * block) front page begins)
    ∙ ap (λ (back : List ℕ). front ++ bytes ++ back) ends
    ∙ append-nil (front ++ bytes)

-- a read at the end
pub blocks_at_last : (block : ℕ) (front page : List ℕ) → length front ≡ 512 * block → length page ≡ 1024 → blocks_at (front ++ page) block ≡ page
unfolding blocks_at
blocks_at_last block front page begins whole =
    ap (λ (xs : List ℕ). take 1024 xs) (drop_at (512 * block) front page begins)
    ∙ subst (λ (n : ℕ). take n page ≡ page) whole (take-length page)

-- a page is two blocks
pub page_blocks : (image : List ℕ) (block : ℕ) → blocks_at image block ≡ block_at image block ++ block_at image (suc block)
unfolding blocks_at block_at
page_blocks image block =
    take-add 512 512 (drop (512 * block) image)
    ∙ ap (λ (rest : List ℕ). take 512 (drop (512 * block) image) ++ take 512 rest) (drop-drop 512 (512 * block) image ∙ ap (λ (n : ℕ). drop n image) (omega arith))

-- a part before the one that was written
pub part-put_part_before : (at count start size : ℕ) (bytes xs : List ℕ) → start + size ≤ at → at ≤ length xs
    → part start size (put_part at count bytes xs) ≡ part start size xs
part-put_part_before at count start size bytes xs before within =
    let front : length (take at xs) ≡ at = length-take-le at xs within in
    ap (λ (ys : List ℕ). part start size ys) (append_assoc (take at xs) bytes (drop (at + count) xs))
    ∙ part-append start size (take at xs) (bytes ++ drop (at + count) xs) (omega arith)
    ∙ sym (part-append start size (take at xs) (drop at xs) (omega arith))
    ∙ ap (λ (ys : List ℕ). part start size ys) (take-append-drop at xs)

-- a part after it
pub part-put_part_behind : (at count start size : ℕ) (bytes xs : List ℕ) → at + count ≤ start → at ≤ length xs → length bytes ≡ count
    → part start size (put_part at count bytes xs) ≡ part start size xs
part-put_part_behind at count start size bytes xs behind within whole =
    ap (λ (ys : List ℕ). take size ys) (drop-append-drop (at + count) xs (take at xs ++ bytes) start behind (length-append (take at xs) bytes ∙ omega (arith, length-take-le at xs)))

-- another block
pub block_at-put_blocks_other : (block other : ℕ) (bytes image : List ℕ) → (other < block) ⊎ (suc block < other) → 512 * block + 1024 ≤ length image
    → length bytes ≡ 1024 → block_at (put_blocks image block bytes) other ≡ block_at image other
unfolding block_at put_blocks
block_at-put_blocks_other block other bytes image (inl before) within whole = part-put_part_before (512 * block) 1024 (512 * other) 512 bytes image (omega arith) (omega arith)
block_at-put_blocks_other block other bytes image (inr behind) within whole = part-put_part_behind (512 * block) 1024 (512 * other) 512 bytes image (omega arith) (omega arith) whole

-- a page that is written as it stands
pub put_blocks-blocks_at : (image : List ℕ) (block : ℕ) → put_blocks image block (blocks_at image block) ≡ image
unfolding blocks_at put_blocks
put_blocks-blocks_at image block =
    append_assoc (take (512 * block) image) (take 1024 (drop (512 * block) image)) (drop (512 * block + 1024) image)
    ∙ ap (λ (back : List ℕ). take (512 * block) image ++ (take 1024 (drop (512 * block) image) ++ back)) (sym (drop-drop 1024 (512 * block) image))
    ∙ ap (λ (back : List ℕ). take (512 * block) image ++ back) (take-append-drop 1024 (drop (512 * block) image))
    ∙ take-append-drop (512 * block) image

-- the length of a page
pub length-blocks_at : (image : List ℕ) (block : ℕ) → 512 * block + 1024 ≤ length image → length (blocks_at image block) ≡ 1024
unfolding blocks_at
length-blocks_at image block within = length-take-le 1024 (drop (512 * block) image) (omega (arith, length-drop (512 * block) image))
