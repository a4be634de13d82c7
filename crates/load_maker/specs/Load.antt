-- The workload of a number: which files and which schedule it stands for.
use Rattle.std.specs.Prelude.{ℕ, suc, zero, ◌+◌, ◌*◌, ◌/◌, ◌%◌, ◌^◌, ◌==◌, if◌then◌else◌, nat_lt, List, [], ◌∷◌, codes, map, replicate, ⊤}
use Rattle.std.specs.List.{range_with_len}
use Rattle.io_edge.specs.FileHolding.{NamedFile}
use Rattle.aout_image.specs.declared.Kind.TheVariants.{Paged}
use Rattle.aout_image.specs.Image.{Loaded, pages_for, in_pages}
use Rattle.vax_asm.specs.Program.{IsProgramOf}
use Rattle.vm_facts.specs.declared.event.Event.{Event}
use Rattle.vm_facts.specs.declared.event.Event.TheVariants.{Dispatch, Interrupt, Hands, Swapper, Audit}
use Rattle.source_commands.specs.ProgramFile.{program_file}
use Rattle.source_commands.specs.Command.{IsFileFrom}
use Rattle.load_maker.specs.Programs.{w_source, w_bytes, v_source, v_bytes}

-- ---- the files

-- how many pages each program changes
abbrev pub load_pages : ℕ → ℕ
load_pages number = 40 + number % 25

-- how many zeros `w` wants after its text, and `v`
abbrev pub w_bss : ℕ
w_bss = 8192

-- how many zeros `v` wants after its text: 1,024 for each page that it changes
abbrev pub v_bss : ℕ → ℕ
v_bss pages = 1024 * pages

-- the files `w` and `v`, by the pages that their programs change
abbrev pub files_for : ℕ → List NamedFile
files_for pages =
    record { name = codes "w"; bytes = program_file (w_bytes pages) w_bss }
    ∷ record { name = codes "v"; bytes = program_file (v_bytes pages) (v_bss pages) }
    ∷ []

-- the files of a workload, by its number
unfoldable pub load_files : ℕ → List NamedFile
load_files number = files_for (load_pages number)

-- a source without a bad line
pub record HasNoBadLine (source : List ℕ) : Type 0 where
  pub bytes : List ℕ
  pub bss : ℕ
  pub program : IsProgramOf source bytes bss

-- the sources of `w` and `v`
unfoldable pub load_sources : ℕ → List (List ℕ)
load_sources number = w_source (load_pages number) ∷ v_source (load_pages number) ∷ []

-- each file is the one that assembling its source makes
abbrev pub AreFilesFrom : List (List ℕ) → List NamedFile → Type 0
AreFilesFrom [] [] = ⊤
AreFilesFrom [] (file ∷ files) = ⊥
AreFilesFrom (source ∷ sources) [] = ⊥
AreFilesFrom (source ∷ sources) (file ∷ files) = IsFileFrom source file.bytes × AreFilesFrom sources files

-- an image of kind 0413 with one page of text, which begins with these bytes, no data, entry 0 and so many zeros
abbrev pub one_page_image : List ℕ → ℕ → Loaded
one_page_image bytes bss = record {
  facts = record { kind = Paged; text_len = 1024; data_len = 0; bss_len = bss; entry = 0 };
  text = in_pages 1 bytes;
  «data» = replicate (1024 * pages_for bss) 0;
}

-- the images that the files hold
unfoldable pub load_images : ℕ → List Loaded
load_images number =
    one_page_image (w_bytes (load_pages number)) w_bss
    ∷ one_page_image (v_bytes (load_pages number)) (v_bss (load_pages number))
    ∷ []

-- ---- the schedule

-- a linear congruential generator: the number that is drawn after x
abbrev pub drawn_after : ℕ → ℕ
drawn_after x = (1103515245 * x + 12345) % 2 ^ 31

-- its numbers: number 0 is the seed
abbrev pub drawn : ℕ → ℕ → ℕ
drawn seed zero = seed
drawn seed (suc k) = drawn_after (drawn seed k)

-- the line for each of sixteen cases
abbrev pub line_of_case : ℕ → Event
line_of_case q =
    if nat_lt q 8 then Dispatch (q + 1) 50
    else (if nat_lt q 12 then Interrupt
    else (if nat_lt q 14 then Hands 16
    else (if q == 14 then Swapper else Audit)))

-- the line for a number of the generator
abbrev pub line_drawn : ℕ → Event
line_drawn x = line_of_case (x / 65536 % 16)

-- the 200 lines, for the numbers from 1 on
unfoldable pub load_lines : ℕ → List Event
load_lines number = map (λ k. line_drawn (drawn number k)) (range_with_len 1 200)
