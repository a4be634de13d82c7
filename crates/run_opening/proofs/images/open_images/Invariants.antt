-- The images so far are those of the names so far, and no count of faults rose.
use Rattle.std.proofs.Common.{◌≡◌, List, Some, map, take, drop}
use Rattle.std.specs.Prelude.{All}
use Rattle.io_edge.specs.FileHolding.{NamedFile, HasRange}
use Rattle.aout_image.specs.Image.{IsSound, file_length_of}
use Rattle.command_edge.proofs.Behind.{behind}
use Rattle.run_opening.specs.Asked.{AsksHeaders}
use Rattle.run_opening.specs.Images.{images_found, images_in, IsIn}
use Rattle.run_opening.proofs.images.open_images.Given as goal

abbrev pub invariant-loop-name : goal.invariant-loop-name
invariant-loop-name g l = record {
  answers : (list : List NamedFile) → g.F.Files.holds l.fn.files ≡ Some list
      → images_found list (map (λ name. name.now) l.names) ≡ behind (images_in list l.images.items) (images_found list (map (λ name. name.now) (drop l.name-index l.names)));
  are_in : (list : List NamedFile) → g.F.Files.holds l.fn.files ≡ Some list → All (IsIn list) l.images.items;
  names : map (λ image. image.name) l.images.items ≡ take l.name-index l.names;
  ranges : All (λ image. HasRange (g.F.Files.holds l.fn.files) image.file 0 (file_length_of image.facts)) l.images.items;
  sound : All (λ image. IsSound image.facts) l.images.items;
  asked : AsksHeaders (map (λ name. name.now) (take l.name-index l.names)) (g.F.Files.holds l.fn.files) (g.F.Files.notes l.fn.files) (g.F.Files.notes l.files);
  leads : g.F.Files.leads l.fn.files l.files;
  holds : g.F.Files.holds l.files ≡ g.F.Files.holds l.fn.files;
  open_faults : g.F.Files.open_faults l.files ≡ g.F.Files.open_faults l.fn.files;
  page_faults : g.F.Files.page_faults l.files ≡ g.F.Files.page_faults l.fn.files;
}
