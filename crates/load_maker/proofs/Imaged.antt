-- The files of the load are images of one page of text.
use Rattle.std.proofs.Common.{◌≡◌, ◌≤◌, ◌<◌, ℕ, [], ◌∷◌, length, map, Ok, refl, ap, ◌∙◌, arith}
use Rattle.io_edge.specs.FileHolding.{NamedFile}
use Rattle.aout_image.specs.Image.{Loaded, judged_image}
use Rattle.source_commands.specs.ProgramFile.{program_file, program_image}
use Rattle.source_commands.specs.Command.{IsFileFrom}
use Rattle.source_commands.proofs.Programs.{is_image, file_long}
use Rattle.load_maker.specs.Programs.{w_source, w_bytes, v_source, v_bytes}
use Rattle.load_maker.specs.Load.{load_pages, w_bss, v_bss, load_files, load_images, one_page_image, load_sources, AreFilesFrom}
use Rattle.load_maker.proofs.Assembled.{w_program, v_program}

pub pages_low : (number : ℕ) → 40 ≤ load_pages number
pages_low number = omega arith

pub pages_high : (number : ℕ) → load_pages number < 65
pages_high number = omega arith

w_one_page : (pages : ℕ) → program_image (w_bytes pages) w_bss ≡ one_page_image (w_bytes pages) w_bss
unfolding program_image w_bytes
w_one_page pages = refl

v_one_page : (pages : ℕ) → program_image (v_bytes pages) (v_bss pages) ≡ one_page_image (v_bytes pages) (v_bss pages)
unfolding program_image v_bytes
v_one_page pages = refl

w_image : (pages : ℕ) → 40 ≤ pages → pages < 65 → judged_image (program_file (w_bytes pages) w_bss) ≡ Ok (one_page_image (w_bytes pages) w_bss)
w_image pages low high = is_image (w_source pages) (w_bytes pages) w_bss (w_program pages low high) ∙ ap (λ (l : Loaded). Ok l) (w_one_page pages)

v_image : (pages : ℕ) → 40 ≤ pages → pages < 65 → judged_image (program_file (v_bytes pages) (v_bss pages)) ≡ Ok (one_page_image (v_bytes pages) (v_bss pages))
v_image pages low high = is_image (v_source pages) (v_bytes pages) (v_bss pages) (v_program pages low high) ∙ ap (λ (l : Loaded). Ok l) (v_one_page pages)

w_long : (pages : ℕ) → length (program_file (w_bytes pages) w_bss) ≡ 2048
unfolding w_bytes
w_long pages = file_long (w_bytes pages) w_bss

v_long : (pages : ℕ) → length (program_file (v_bytes pages) (v_bss pages)) ≡ 2048
unfolding v_bytes
v_long pages = file_long (v_bytes pages) (v_bss pages)

pair : {A : Type 0} (a b c d : A) → a ≡ b → c ≡ d → a ∷ c ∷ [] ≡ b ∷ d ∷ []
pair a b c d e f = cc

pub are_files : (number : ℕ) → AreFilesFrom (load_sources number) (load_files number)
unfolding load_sources load_files
are_files number =
    let w : IsFileFrom (w_source (load_pages number)) (program_file (w_bytes (load_pages number)) w_bss) =
    record { bytes = _; bss = _; program = w_program (load_pages number) (pages_low number) (pages_high number); file = refl } in
    let v : IsFileFrom (v_source (load_pages number)) (program_file (v_bytes (load_pages number)) (v_bss (load_pages number))) =
    record { bytes = _; bss = _; program = v_program (load_pages number) (pages_low number) (pages_high number); file = refl } in
    (w, (v, tt))

pub are_images : (number : ℕ) → map (λ (file : NamedFile). judged_image file.bytes) (load_files number) ≡ map (λ (l : Loaded). Ok l) (load_images number)
unfolding load_files load_images
are_images number =
    pair _ _ _ _ (w_image (load_pages number) (pages_low number) (pages_high number)) (v_image (load_pages number) (pages_low number) (pages_high number))

pub are_two_pages : (number : ℕ) → map (λ (file : NamedFile). length file.bytes) (load_files number) ≡ 2048 ∷ 2048 ∷ []
unfolding load_files
are_two_pages number = pair _ _ _ _ (w_long (load_pages number)) (v_long (load_pages number))
