use Rattle.std.proofs.Common.{◌≡◌, List, Option, Some, map, ap, ◌∙◌}
use Rattle.io_edge.specs.FileHolding.{NamedFile, named_file}
use Rattle.reference_commands.specs.InMemory.{file_of}
use Rattle.reference_commands.proofs.Runs.{are_opened}
use Rattle.reference_commands.proofs.running.open_in_memory.Goals as goal

pub returns-clause-opened : goal.returns-clause-opened
returns-clause-opened c =
    let holds : Option (List NamedFile) = Some (map named_file c.new-files.result.files.items) in
    let told : holds ≡ Some (map file_of c.args.images.now) = c.new-files.ensures ∙ ap (λ (files : List NamedFile). Some files) c.in-Ok.ensures.files in
    are_opened c.args.images.now c.in-Ok-open_images.opened.items c.args.names.now holds told
    (c.in-Ok-open_images.ensures.answers (map file_of c.args.images.now) told) (c.in-Ok-open_images.ensures.are_in (map file_of c.args.images.now) told) c.in-Ok-open_images.ensures.sound
    c.in-Ok-open_images.ensures.ranges
    c.in-Ok-open_images.ensures.names c.requires.named c.requires.differ c.requires.images.images c.requires.short c.requires.few
