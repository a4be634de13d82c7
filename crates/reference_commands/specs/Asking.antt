-- What is asked, and about which run: the words' numbers, names and frames.
use Rattle.std.specs.Prelude.{◌≡◌, ◌≤◌, ℕ, List, Ok}
use Rattle.flat_state.specs.Flat.{Inputs}
use Rattle.command_edge.specs.ImageWords.{image_names, first_images}
use Rattle.replay_check.specs.Images.{FlatFile, images_of}
use Rattle.command_words.specs.declared.command.Numbers.{Numbers}
use Rattle.command_words.specs.Command.{AreSteps}
use Rattle.command_words.specs.declared.limits.TheConstants.{MOST_FRAMES, MOST_LIMIT, MOST_SHORT_LIMIT}
use Rattle.run_opening.specs.Schedules.{HasEvents}
use Rattle.reference_commands.specs.declared.question.Question.{Question}
use Rattle.reference_commands.specs.declared.question.Question.TheVariants.{Optimum, Curve, Owners, Film, Stats, WasCut, References}
use Rattle.reference_commands.specs.Reading.{Read}

-- the run that is asked about: its numbers, the name of its schedule, and the words of its images
pub record Subject : Type 0 where
  pub numbers : Numbers
  pub schedule : List ℕ
  pub words : List (List ℕ)

-- Inputs of that run, by what was read: the images; those in which the first processes start; the lines of the schedule; and the numbers.
pub record AreInputsOf (A : Inputs) (subject : Subject) (read : Read) : Type 0 where
  pub images : List FlatFile
  pub are : read.images ≡ Ok images
  pub images_are : A.images ≡ images_of images
  pub first : A.first ≡ first_images (image_names subject.words) subject.words
  pub lines : HasEvents read.schedule A.lines
  pub frames : A.frames ≡ subject.numbers.frames
  pub blocks : A.swap_blocks ≡ subject.numbers.swap
  pub limit : A.limit ≡ subject.numbers.limit

-- the frames that are asked about are in their range, and so are the numbers of a film's steps
abbrev pub IsQuestion : Question → Type 0
IsQuestion (Optimum frames) = (1 ≤ frames) × (frames ≤ MOST_FRAMES)
IsQuestion Curve = Unit {0}
IsQuestion (Owners entries) = Unit {0}
IsQuestion (Film steps) = AreSteps steps
IsQuestion Stats = Unit {0}
IsQuestion WasCut = Unit {0}
IsQuestion References = Unit {0}

-- the most instructions of a run that may be asked about
abbrev pub limit_of : Question → ℕ
limit_of (Optimum frames) = MOST_SHORT_LIMIT
limit_of Curve = MOST_SHORT_LIMIT
limit_of (Owners entries) = MOST_LIMIT
limit_of (Film steps) = MOST_LIMIT
limit_of Stats = MOST_LIMIT
limit_of WasCut = MOST_SHORT_LIMIT
limit_of References = MOST_LIMIT
