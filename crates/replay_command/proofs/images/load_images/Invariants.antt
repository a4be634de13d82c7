-- The images so far are those of the names so far, and no count of faults rose.
use Rattle.std.proofs.Common.{◌≡◌, List, Some, length, map, take, drop}
use Rattle.std.specs.Prelude.{All}
use Rattle.io_edge.specs.FileHolding.{NamedFile}
use Rattle.replay_check.specs.Images.{IsImageFile}
use Rattle.command_edge.proofs.Behind.{behind}
use Rattle.replay_command.specs.Reading.{images_told}
use Rattle.replay_command.proofs.images.load_images.Given as goal

abbrev pub invariant-loop-name : goal.invariant-loop-name
invariant-loop-name g l = record {
  answers : (list : List NamedFile) → g.F.Files.holds l.fn.files ≡ Some list
      → images_told list (map (λ name. name.now) l.names) ≡ behind l.images.items (images_told list (map (λ name. name.now) (drop l.name-index l.names)));
  images : All IsImageFile l.images.items;
  count : length l.images.items ≡ l.name-index;
  named : map (λ image. image.name) l.images.items ≡ map (λ name. name.now) (take l.name-index l.names);
  leads : g.F.Files.leads l.fn.files l.files;
  holds : g.F.Files.holds l.files ≡ g.F.Files.holds l.fn.files;
  open_faults : g.F.Files.open_faults l.files ≡ g.F.Files.open_faults l.fn.files;
  page_faults : g.F.Files.page_faults l.files ≡ g.F.Files.page_faults l.fn.files;
}
