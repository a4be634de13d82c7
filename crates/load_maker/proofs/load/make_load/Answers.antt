-- What holds of the files and the lines of a number holds of those that were made.
use Rattle.std.proofs.Common.{List, map, sym, ap, ◌∙◌, length, subst}
use Rattle.std.specs.Prelude.{All}
use Rattle.io_edge.specs.FileHolding.{NamedFile}
use Rattle.aout_image.specs.Image.{judged_image}
use Rattle.vm_facts.specs.declared.event.Event.{Event}
use Rattle.run_text.specs.Schedule.{IsInRanges}
use Rattle.load_maker.specs.Load.{load_sources, AreFilesFrom}
use Rattle.load_maker.proofs.Imaged.{are_files, are_images, are_two_pages}
use Rattle.load_maker.proofs.Ranged.{are_in_ranges}
use Rattle.load_maker.proofs.load.make_load.Goals as goal

pub returns-clause-sources : goal.returns-clause-sources
returns-clause-sources c = subst (AreFilesFrom (load_sources c.args.number)) (sym c.in_ok-files.ensures) (are_files c.args.number)

pub returns-clause-images : goal.returns-clause-images
returns-clause-images c = ap (map (λ (file : NamedFile). judged_image file.bytes)) c.in_ok-files.ensures ∙ are_images c.args.number

pub returns-clause-sizes : goal.returns-clause-sizes
returns-clause-sizes c = ap (map (λ (file : NamedFile). length file.bytes)) c.in_ok-files.ensures ∙ are_two_pages c.args.number

pub returns-clause-ranges : goal.returns-clause-ranges
returns-clause-ranges c = subst (λ (lines : List Event). All IsInRanges lines) (sym c.in_ok-lines.ensures) (are_in_ranges c.args.number)
