-- The file of a program, and the image that it holds.
use Rattle.std.specs.Prelude.{ℕ, ◌*◌, ◌-◌, max, List, ◌++◌, length, replicate}
use Rattle.aout_image.specs.declared.Kind.TheVariants.{Paged}
use Rattle.aout_image.specs.declared.Image.{Image}
use Rattle.aout_image.specs.Image.{Loaded, pages_for, in_pages, header_of}

-- the pages that hold a program's bytes, at least one
abbrev pub program_pages : List ℕ → ℕ
program_pages bytes = pages_for (max (length bytes) 1)

-- its image: these pages are its text, it has no data, and its entry is at 0
abbrev pub program_facts : List ℕ → ℕ → Image
program_facts bytes bss = record {
  kind = Paged;
  text_len = 1024 * program_pages bytes;
  data_len = 0;
  bss_len = bss;
  entry = 0;
}

-- the header, zeros up to offset 1,024, and the program's bytes with zeros up to a whole page
unfoldable pub program_file : List ℕ → ℕ → List ℕ
program_file bytes bss =
    header_of (program_facts bytes bss) ++ replicate (1024 - 32) 0 ++ in_pages (program_pages bytes) bytes

-- the image as a new space has it: its text is the program's bytes with zeros up to a whole page, its data only zeros
unfoldable pub program_image : List ℕ → ℕ → Loaded
program_image bytes bss = record {
  facts = program_facts bytes bss;
  text = in_pages (program_pages bytes) bytes;
  «data» = replicate (1024 * pages_for bss) 0;
}
