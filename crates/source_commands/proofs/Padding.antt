-- Bytes with zeros after them.
use Rattle.std.proofs.Common.{◌≡◌, ◌≤◌, ◌+◌, ◌-◌, ◌*◌, ◌/◌, ◌%◌, ℕ, min, max, List, ◌++◌, length, take, replicate, refl, ap, ◌∙◌, append_assoc, arith}
use Rattle.std.proofs.lemmas.List.{take_all, length-append, length-replicate}
use Rattle.aout_image.specs.declared.Kind.TheVariants.{Paged}
use Rattle.aout_image.specs.declared.Image.{Image}
use Rattle.aout_image.specs.Image.{pages_for, header_of}
use Rattle.source_commands.specs.ProgramFile.{program_pages, program_facts, program_file}

-- a program has at least one page, and its bytes fit into its pages
pub fits_pages : (n : ℕ) → n ≤ 1024 * pages_for (max n 1)
fits_pages n = omega arith

-- the whole pages of at least one byte
pub whole_pages : (n least pages : ℕ) → least ≡ max n 1 → pages ≡ least / 1024 + min 1 (least % 1024) → pages ≡ pages_for (max n 1)
whole_pages n least pages is rounded = omega (arith, is, rounded)

pub header_long : (image : Image) → length (header_of image) ≡ 32
unfolding header_of
header_long image = refl

abbrev facts_with : ℕ → ℕ → Image
facts_with text bss = record { kind = Paged; text_len = text; data_len = 0; bss_len = bss; entry = 0 }

pub program_file_is : (bytes header first second file : List ℕ) (bss pages header_len second_len : ℕ) → pages ≡ program_pages bytes
    → header ≡ header_of (record { kind = Paged; text_len = pages * 1024; data_len = 0; bss_len = bss; entry = 0 }) → header_len ≡ length header
    → first ≡ take 1024 header ++ replicate (1024 - header_len) 0 → second ≡ first ++ bytes → second_len ≡ length second
    → file ≡ take (1024 + pages * 1024) second ++ replicate (1024 + pages * 1024 - second_len) 0 → file ≡ program_file bytes bss
unfolding program_file
program_file_is bytes header first second file bss pages header_len second_len count head header_size one two second_size all =
    let text : pages * 1024 ≡ 1024 * program_pages bytes = omega (arith, count) in
    let named : header ≡ header_of (program_facts bytes bss) = head ∙ ap (λ (n : ℕ). header_of (facts_with n bss)) text in
    let size : length header ≡ 32 = ap length head ∙ header_long (facts_with (pages * 1024) bss) in
    let few : header_len ≡ 32 = header_size ∙ size in
    let begin : first ≡ header ++ replicate (1024 - 32) 0
    = one ∙ ap (λ (n : ℕ). take 1024 header ++ replicate (1024 - n) 0) few ∙ ap (λ (ys : List ℕ). ys ++ replicate (1024 - 32) 0) (take_all 1024 header (omega (arith, size))) in
    let zeros : length (replicate {A = ℕ} (1024 - 32) 0) ≡ 1024 - 32 = length-replicate {A = ℕ} (1024 - 32) 0 in
    let front : length first ≡ length header + length (replicate {A = ℕ} (1024 - 32) 0) = ap length begin ∙ length-append header (replicate (1024 - 32) 0) in
    let sum : length second ≡ length first + length bytes = ap length two ∙ length-append first bytes in
    let fits : length bytes ≤ 1024 * program_pages bytes = fits_pages (length bytes) in
    let left : 1024 + pages * 1024 - second_len ≡ 1024 * program_pages bytes - length bytes = omega (arith, second_size, sum, front, zeros, size, text) in
    all ∙ ap (λ (ys : List ℕ). ys ++ replicate (1024 + pages * 1024 - second_len) 0) (take_all (1024 + pages * 1024) second (omega (arith, sum, front, zeros, size, text, fits)))
    ∙ ap (λ (ys : List ℕ). ys ++ replicate (1024 + pages * 1024 - second_len) 0) (two ∙ ap (λ (ys : List ℕ). ys ++ bytes) (begin ∙ ap (λ (ys : List ℕ). ys ++ replicate (1024 - 32) 0) named))
    ∙ ap (λ (n : ℕ). header_of (program_facts bytes bss) ++ replicate (1024 - 32) 0 ++ bytes ++ replicate n 0) left
    ∙ append_assoc (header_of (program_facts bytes bss) ++ replicate (1024 - 32) 0) bytes (replicate (1024 * program_pages bytes - length bytes) 0)
