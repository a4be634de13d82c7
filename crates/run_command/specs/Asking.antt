-- Which inputs of a run the words ask for, where the files are told.
use Rattle.std.specs.Prelude.{◌≡◌, List, Ok}
use Rattle.io_edge.specs.FileHolding.{NamedFile}
use Rattle.flat_state.specs.Flat.{Inputs}
use Rattle.command_edge.specs.ImageWords.{image_names, first_images}
use Rattle.command_words.specs.Asked.{Request}
use Rattle.run_opening.specs.Schedules.{schedule_found, HasEvents}
use Rattle.run_opening.specs.Images.{images_found, file_numbers}

-- Inputs of a run that words ask for: the images that their names are in the files, numbered from 1 as they first appear, and the numbers
-- of their files; those in
-- which the first processes start; the lines of the schedule; and the numbers.
pub record AsksFor (A : Inputs) (request : Request) (files : List NamedFile) : Type 0 where
  pub images : images_found files (image_names request.words) ≡ Ok A.images
  pub file_numbers : A.file_numbers ≡ file_numbers files A.images
  pub first : A.first ≡ first_images (image_names request.words) request.words
  pub lines : HasEvents (schedule_found files request.schedule) A.lines
  pub frames : A.frames ≡ request.numbers.frames
  pub blocks : A.swap_blocks ≡ request.numbers.swap
  pub limit : A.limit ≡ request.numbers.limit
