-- The file of a program is an image, with the program's bytes as its text.
use Rattle.std.proofs.Common.{◌≡◌, ◌≤◌, ◌<◌, ◌+◌, ◌-◌, ◌*◌, ◌%◌, ℕ, max, List, [], ◌++◌, length, take, drop, replicate, Ok, refl, sym, ap, ◌∙◌, arith}
use Rattle.std.proofs.lemmas.List.{append-nil, append_assoc, length-append, length-replicate, take_all, take_at, drop_at}
use Rattle.aout_image.specs.declared.Judged.{Judged}
use Rattle.aout_image.specs.declared.Judged.TheVariants.{Is}
use Rattle.aout_image.specs.Image.{IsSound, Loaded, loaded, loaded_if, judgement, judged_image, file_length_of, pages_for, in_pages, header_of}
use Rattle.aout_image.proofs.Images.{judgement-take, judgement-header_of}
use Rattle.vax_asm.specs.Program.{IsProgramOf}
use Rattle.source_commands.specs.ProgramFile.{program_pages, program_facts, program_file, program_image}
use Rattle.source_commands.proofs.Limits.{program_limit, bss_limit}
use Rattle.source_commands.proofs.Padding.{fits_pages, header_long}

-- ---- the file's parts

-- what stands in front of the text, and the text
abbrev front : List ℕ → ℕ → List ℕ
front bytes bss = header_of (program_facts bytes bss) ++ replicate (1024 - 32) 0

abbrev text : List ℕ → List ℕ
text bytes = in_pages (program_pages bytes) bytes

front_long : (bytes : List ℕ) (bss : ℕ) → length (front bytes bss) ≡ 1024
front_long bytes bss = length-append (header_of (program_facts bytes bss)) (replicate (1024 - 32) 0)
    ∙ sums (length (header_of (program_facts bytes bss))) (length (replicate {A = ℕ} (1024 - 32) 0)) (header_long (program_facts bytes bss)) (length-replicate {A = ℕ} (1024 - 32) 0)
  where
    sums : (a b : ℕ) → a ≡ 32 → b ≡ 1024 - 32 → a + b ≡ 1024
    sums a b e f = omega (arith, e, f)

text_long : (bytes : List ℕ) → length (text bytes) ≡ 1024 * program_pages bytes
text_long bytes = let fits = fits_pages (length bytes) in simp (length-append, length-replicate) (omega (arith, fits))

in_parts : (bytes : List ℕ) (bss : ℕ) → program_file bytes bss ≡ front bytes bss ++ text bytes
unfolding program_file
in_parts bytes bss = refl

-- the file ends where its text does
pub file_long : (bytes : List ℕ) (bss : ℕ) → length (program_file bytes bss) ≡ file_length_of (program_facts bytes bss)
file_long bytes bss =
    ap length (in_parts bytes bss) ∙ length-append (front bytes bss) (text bytes)
    ∙ sums (length (front bytes bss)) (length (text bytes)) (1024 * program_pages bytes) (front_long bytes bss) (text_long bytes)
  where
    sums : (a b n : ℕ) → a ≡ 1024 → b ≡ n → a + b ≡ 1024 + n + 0
    sums a b n e f = omega (arith, e, f)

header_first : (bytes : List ℕ) (bss : ℕ) → take 32 (program_file bytes bss) ≡ header_of (program_facts bytes bss)
header_first bytes bss =
    ap (take 32) (in_parts bytes bss ∙ append_assoc (header_of (program_facts bytes bss)) (replicate (1024 - 32) 0) (text bytes))
    ∙ take_at (header_of (program_facts bytes bss)) (replicate (1024 - 32) 0 ++ text bytes) 32 (header_long (program_facts bytes bss))

text_behind : (bytes : List ℕ) (bss : ℕ) → drop 1024 (program_file bytes bss) ≡ text bytes
text_behind bytes bss = ap (drop 1024) (in_parts bytes bss) ∙ drop_at (front bytes bss) (text bytes) 1024 (front_long bytes bss)

-- ---- no reason against it

few_pages : (n : ℕ) → n ≤ 65536 → pages_for (1024 * pages_for (max n 1)) ≤ 2048
few_pages n few = omega (arith, few)

few_zeros : (bss : ℕ) → bss ≤ 4194304 → pages_for (0 + bss) ≤ 4096
few_zeros bss few = omega (arith, few)

whole : (pages : ℕ) → 1024 * pages % 1024 ≡ 0
whole pages = omega arith

same_pages : (pages : ℕ) → pages_for (1024 * pages) ≡ pages
same_pages pages = omega arith

sound : (bytes : List ℕ) (bss : ℕ) → length bytes ≤ 65536 → bss ≤ 4194304 → IsSound (program_facts bytes bss)
sound bytes bss few small = record {
  whole_text = λ paged. whole (program_pages bytes);
  whole_data = λ paged. refl;
  text_fits = few_pages (length bytes) few;
  data_fits = few_zeros bss small;
  starts_inside = inside (length bytes);
}
  where
    inside : (n : ℕ) → 0 + 2 < 1024 * pages_for (1024 * pages_for (max n 1)) + 0
    inside n = omega arith

-- ---- what it holds

given_text : (pages : ℕ) (bytes : List ℕ) → length bytes ≡ 1024 * pages → in_pages (pages_for (1024 * pages)) (take (1024 * pages) bytes) ≡ bytes
given_text pages bytes long =
    ap (λ (xs : List ℕ). in_pages (pages_for (1024 * pages)) xs) (take_all (1024 * pages) bytes (omega (arith, long)))
    ∙ ap (λ (n : ℕ). bytes ++ replicate n 0) (none (pages_for (1024 * pages)) (length bytes) (same_pages pages) long) ∙ append-nil bytes
  where
    none : (most long : ℕ) → most ≡ pages → long ≡ 1024 * pages → 1024 * most - long ≡ 0
    none most long e f = omega (arith, e, f)

only_zeros : (bss : ℕ) → in_pages (pages_for (0 + bss)) [] ≡ replicate (1024 * pages_for bss) 0
only_zeros bss = ap (λ (n : ℕ). replicate {A = ℕ} n 0) all
  where
    all : 1024 * pages_for (0 + bss) - 0 ≡ 1024 * pages_for bss
    all = omega arith

holds : (bytes : List ℕ) (bss : ℕ) → loaded (program_facts bytes bss) (program_file bytes bss) ≡ program_image bytes bss
unfolding loaded program_image
holds bytes bss =
    let with_both : List ℕ → List ℕ → Loaded = λ t d. record { facts = program_facts bytes bss; text = t; «data» = d } in
    ap (λ (t : List ℕ). with_both (in_pages (pages_for (1024 * program_pages bytes)) (take (1024 * program_pages bytes) t)) (in_pages (pages_for (0 + bss)) [])) (text_behind bytes bss)
    ∙ ap (λ (t : List ℕ). with_both t (in_pages (pages_for (0 + bss)) [])) (given_text (program_pages bytes) (text bytes) (text_long bytes))
    ∙ ap (λ (d : List ℕ). with_both (text bytes) d) (only_zeros bss)

judged : (bytes : List ℕ) (bss : ℕ) → length bytes ≤ 65536 → bss ≤ 4194304
    → judgement (program_file bytes bss) (length (program_file bytes bss)) ≡ Is (program_facts bytes bss)
judged bytes bss few small =
    let file = program_file bytes bss in
    sym (judgement-take file (length file))
    ∙ ap (λ (head : List ℕ). judgement head (length file)) (header_first bytes bss)
    ∙ judgement-header_of (program_facts bytes bss) (length file) (sound bytes bss few small) (at_most (file_length_of (program_facts bytes bss)) (length file) (file_long bytes bss))
  where
    at_most : (n m : ℕ) → m ≡ n → n ≤ m
    at_most n m e = omega (arith, e)

small_is_image : (bytes : List ℕ) (bss : ℕ) → length bytes ≤ 65536 → bss ≤ 4194304 → judged_image (program_file bytes bss) ≡ Ok (program_image bytes bss)
unfolding judged_image
small_is_image bytes bss few small =
    ap (λ (j : Judged). loaded_if j (program_file bytes bss)) (judged bytes bss few small) ∙ ap (λ (image : Loaded). Ok image) (holds bytes bss)

pub is_image : (source bytes : List ℕ) (bss : ℕ) → IsProgramOf source bytes bss → judged_image (program_file bytes bss) ≡ Ok (program_image bytes bss)
is_image source bytes bss program = small_is_image bytes bss (program_limit source bytes bss program) (bss_limit source bytes bss program)
