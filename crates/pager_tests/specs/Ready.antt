-- What tests ask of a machine before each call, as one premise.
use Rattle.std.specs.Prelude.{◌≡◌, ℕ, ◌<◌, ◌≤◌, List, [], ◌∷◌, length, Option}
use Rattle.vm_facts.specs.declared.page.Page.TheVariants.{Stack}
use Rattle.aout_image.specs.declared.Image.{Image}
use Rattle.aout_image.specs.Image.{file_length_of}
use Rattle.io_edge.specs.FileHolding.{NamedFile, bytes_at}
use Rattle.page_model.specs.Placement.{Start}
use Rattle.machine_state.specs.Going.{CanGoOn}
use Rattle.machine_state.specs.Machine.{Standing}
use Rattle.machine_state.specs.Files.{AreFiles, HaveFiles}

-- The machine can go on, the device has its blocks, and the files are those of its images.
pub record MachineIsReady (m : Standing) (holds : Option (List NamedFile)) (blocks : ℕ) : Type 0 where
  pub ready : CanGoOn m
  pub area : m.params.swap_blocks ≤ blocks
  pub files : AreFiles m.images holds

-- It can go on, and has one image, of the first file, in which the first process began: its stack page is due.
pub record HasStarted (m : Standing) (facts : Image) : Type 0 where
  pub ready : CanGoOn m
  pub blocks : m.params.swap_blocks ≡ 260
  pub files : (files : List NamedFile) → 0 < length files → file_length_of facts ≤ length (bytes_at files 0) → HaveFiles m.images files
  pub due : m.kernel.place.due ≡ Start (Stack 1 0) ∷ []
