-- A command that was read: what it asks for, and what holds of its parts.
use Rattle.std.specs.Prelude.{◌≡◌, ◌≤◌, ◌<◌, ℕ, IsTrue, List, ◌++◌, length, map, All}
use Rattle.std.specs.List.{list_any}
use Rattle.io_edge.specs.Striping.{most_blocks}
use Rattle.command_edge.specs.ImageWords.{IsShortName, starts, name_in}
use Rattle.command_words.specs.declared.limits.TheConstants.{LEAST_FRAMES, MOST_FRAMES, MOST_COMPARED, LEAST_SWAP, MOST_LIMIT, MOST_SHORT_LIMIT, LAST_LOAD, JOURNAL_ENTRIES}
use Rattle.command_words.specs.declared.command.Numbers.{Numbers}
use Rattle.command_words.specs.declared.command.FilmSteps.{FilmSteps}
use Rattle.command_words.specs.declared.command.Comparison.{Comparison}
use Rattle.command_words.specs.declared.command.Comparison.TheVariants.{At, Sweep}
use Rattle.command_words.specs.declared.command.Command.{Command}
use Rattle.command_words.specs.declared.command.Command.TheVariants as commands
use Rattle.command_words.specs.declared.image_words.ImageWords.{ImageWords}
use Rattle.command_words.specs.Asked.{Asked, Run, Load, Replay, Assemble, Show, Optimum, Curve, Owners, Film, Stats, References, Grade, Repage, RepageOwners, Policies}
use denote.Ref.{Bor}

-- the words, as one list
abbrev pub word_list : ImageWords → List (Bor (List ℕ))
word_list words = words.before.now ++ words.after.now

-- what a command asks for
abbrev pub asked_by : Command → Asked
asked_by (commands.Run traced numbers schedule images) = Run traced numbers schedule.now (map (λ word. word.now) (word_list images))
asked_by (commands.Load number) = Load number
asked_by (commands.Replay transcript images) = Replay transcript.now (map (λ word. word.now) images.now)
asked_by (commands.Assemble source) = Assemble source.now
asked_by (commands.Show image) = Show image.now
asked_by (commands.Optimum size numbers schedule images) = Optimum size numbers schedule.now (map (λ word. word.now) images.now)
asked_by (commands.Curve numbers schedule images) = Curve numbers schedule.now (map (λ word. word.now) images.now)
asked_by (commands.Owners entries numbers schedule images) = Owners entries numbers schedule.now (map (λ word. word.now) images.now)
asked_by (commands.Film steps numbers schedule images) = Film steps numbers schedule.now (map (λ word. word.now) images.now)
asked_by (commands.Stats numbers schedule images) = Stats numbers schedule.now (map (λ word. word.now) images.now)
asked_by (commands.References numbers schedule images) = References numbers schedule.now (map (λ word. word.now) images.now)
asked_by (commands.Grade numbers schedule trace images) = Grade numbers schedule.now trace.now (map (λ word. word.now) images.now)
asked_by (commands.Repage numbers trace images) = Repage numbers trace.now (map (λ word. word.now) images.now)
asked_by (commands.RepageOwners entries numbers trace images) = RepageOwners entries numbers trace.now (map (λ word. word.now) images.now)
asked_by (commands.Policies comparison references) = Policies comparison references.now

-- each number is in its range
pub record AreAllowed (numbers : Numbers) : Type 0 where
  pub least_frames : LEAST_FRAMES ≤ numbers.frames
  pub most_frames : numbers.frames ≤ MOST_FRAMES
  pub least_swap : LEAST_SWAP ≤ numbers.swap
  pub most_swap : numbers.swap ≤ most_blocks
  pub least_limit : 1 ≤ numbers.limit
  pub most_limit : numbers.limit ≤ MOST_LIMIT

-- so is each number of a film's steps
pub record AreSteps (steps : FilmSteps) : Type 0 where
  pub from : steps.from ≤ JOURNAL_ENTRIES
  pub to : steps.to ≤ JOURNAL_ENTRIES
  pub least_every : 1 ≤ steps.every
  pub most_every : steps.every ≤ JOURNAL_ENTRIES

-- a number of frames is in its range, and the front hand is at one of the frames
pub record IsFrameNumber (frames spread : ℕ) : Type 0 where
  pub some : 1 ≤ frames
  pub most : frames ≤ MOST_COMPARED
  pub ahead : spread < frames

-- so are the numbers of frames from one to another, which isn't before it
pub record AreFrameNumbers (from to every : ℕ) : Type 0 where
  pub some : 1 ≤ from
  pub order : from ≤ to
  pub most : to ≤ MOST_COMPARED
  pub least_every : 1 ≤ every
  pub most_every : every ≤ MOST_COMPARED

-- the numbers of a comparison are in their ranges
abbrev pub IsFittingComparison : Comparison → Type 0
IsFittingComparison (At frames spread) = IsFrameNumber frames spread
IsFittingComparison (Sweep from to every) = AreFrameNumbers from to every

-- 1 to 16 words of images, each with a name of 1 to 63 bytes, and at least one of them starts a process
pub record AreImageWords (words : List (Bor (List ℕ))) : Type 0 where
  pub some : 0 < length words
  pub few : length words ≤ 16
  pub names : All (λ word. IsShortName (name_in word.now)) words
  pub starting : IsTrue (list_any starts (map (λ word. word.now) words))

-- the numbers of a run are in their ranges, its limit is at most so many, the name of its schedule is short, and its
-- images are few
pub record IsFittingRun (most : ℕ) (numbers : Numbers) (schedule : Bor (List ℕ)) (images : List (Bor (List ℕ))) : Type 0 where
  pub allowed : AreAllowed numbers
  pub limit : numbers.limit ≤ most
  pub named : IsShortName schedule.now
  pub images_are : AreImageWords images

-- the numbers of a command are in their ranges, its names are short, and its images few
abbrev pub IsFitting : Command → Type 0
IsFitting (commands.Run traced numbers schedule images) = IsFittingRun MOST_LIMIT numbers schedule (word_list images)
IsFitting (commands.Load number) = number ≤ LAST_LOAD
IsFitting (commands.Replay transcript images) = IsShortName transcript.now × AreImageWords images.now
IsFitting (commands.Assemble source) = IsShortName source.now
IsFitting (commands.Show image) = IsShortName image.now × IsTrue (starts image.now)
IsFitting (commands.Optimum size numbers schedule images) = ((1 ≤ size) × (size ≤ MOST_FRAMES)) × IsFittingRun MOST_SHORT_LIMIT numbers schedule images.now
IsFitting (commands.Curve numbers schedule images) = IsFittingRun MOST_SHORT_LIMIT numbers schedule images.now
IsFitting (commands.Owners entries numbers schedule images) = (entries ≤ JOURNAL_ENTRIES) × IsFittingRun MOST_LIMIT numbers schedule images.now
IsFitting (commands.Film steps numbers schedule images) = AreSteps steps × IsFittingRun MOST_LIMIT numbers schedule images.now
IsFitting (commands.Stats numbers schedule images) = IsFittingRun MOST_LIMIT numbers schedule images.now
IsFitting (commands.References numbers schedule images) = IsFittingRun MOST_LIMIT numbers schedule images.now
IsFitting (commands.Grade numbers schedule trace images) = IsShortName trace.now × IsFittingRun MOST_LIMIT numbers schedule images.now
IsFitting (commands.Repage numbers trace images) = (numbers.limit ≡ MOST_LIMIT) × IsFittingRun MOST_LIMIT numbers trace images.now
IsFitting (commands.RepageOwners entries numbers trace images) =
    (entries ≤ JOURNAL_ENTRIES) × (numbers.limit ≡ MOST_LIMIT) × IsFittingRun MOST_LIMIT numbers trace images.now
IsFitting (commands.Policies comparison references) = IsFittingComparison comparison × IsShortName references.now
