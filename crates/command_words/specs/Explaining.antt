-- Why words are no command's, as a line of text. The words of --help and of reasons are put together here.
use Rattle.std.specs.Prelude.{ℕ, List, [], ◌∷◌, ◌++◌, codes, decimal, Option}
use Rattle.std.specs.Option.{option_map}
use Rattle.command_words.specs.declared.reasons.Argument.{Argument}
use Rattle.command_words.specs.declared.reasons.Argument.TheVariants.{Frames, Swap, Limit, ShortLimit, Number, Size, Compared, Spread, FirstFrames, LastFrames, MoreFrames, Entries, From, To, Every, Schedule, Transcript, Trace, Source, ReferenceFile, Listed, Image}
use Rattle.command_words.specs.Reasons.{Why, NoCommand, Unknown, NotPlain, Missing, Refused, TooMany, TooManyImages, NoneStarts, least_of, most_of, why_bad}

-- an argument as `--help` calls it
abbrev pub argument_name : Argument → List ℕ
argument_name Frames = codes "FRAMES"
argument_name Swap = codes "SWAP"
argument_name Limit = codes "LIMIT"
argument_name ShortLimit = codes "LIMIT"
argument_name Number = codes "NUMBER"
argument_name Size = codes "N"
argument_name Compared = codes "N"
argument_name (Spread frames) = codes "SPREAD"
argument_name FirstFrames = codes "FROM"
argument_name (LastFrames first) = codes "TO"
argument_name MoreFrames = codes "EVERY"
argument_name Entries = codes "N"
argument_name From = codes "FROM"
argument_name To = codes "TO"
argument_name Every = codes "EVERY"
argument_name Schedule = codes "SCHED"
argument_name Transcript = codes "TRANSCRIPT"
argument_name Trace = codes "TRACE"
argument_name Source = codes "SOURCE"
argument_name ReferenceFile = codes "FILE"
argument_name Listed = codes "IMAGE"
argument_name Image = codes "IMAGE"

-- the numbers from the least to the most that an argument may be
abbrev pub range_text : Argument → List ℕ
range_text argument = decimal (least_of argument) ++ codes " to " ++ decimal (most_of argument)

-- what an argument may be
abbrev pub kind_text : Argument → List ℕ
kind_text Schedule = codes "a name of 1 to 63 bytes"
kind_text Transcript = codes "a name of 1 to 63 bytes"
kind_text Trace = codes "a name of 1 to 63 bytes"
kind_text Source = codes "a name of 1 to 63 bytes"
kind_text ReferenceFile = codes "a name of 1 to 63 bytes"
kind_text Listed = codes "a name of 1 to 63 bytes, with no = before it"
kind_text Image = codes "a name of 1 to 63 bytes, or = and such a name"
kind_text argument = range_text argument

-- the commands that there are
abbrev pub commands_text : List ℕ
commands_text = codes "run, load, opt, curve, owners, film, stats, refs, grade, repage, policies, replay, as or dis"

-- a reason in words
abbrev pub why_text : Why → List ℕ
why_text NoCommand = codes "no command is named: " ++ commands_text
why_text (Unknown []) = codes "a word is empty"
why_text (Unknown (byte ∷ bytes)) = byte ∷ bytes ++ codes " is no command: " ++ commands_text
why_text (NotPlain []) = codes "a word is empty"
why_text (NotPlain (byte ∷ bytes)) = byte ∷ bytes ++ codes " is no option of this command"
why_text (Missing argument) = argument_name argument ++ codes " is missing: " ++ kind_text argument
why_text (Refused argument word) = argument_name argument ++ codes " is " ++ word ++ codes ": " ++ kind_text argument
why_text (TooMany word) = word ++ codes " is a word too many"
why_text TooManyImages = codes "there are more than 16 words of images"
why_text NoneStarts = codes "no image is started: each has a = before it"

-- the line that tells it
abbrev pub why_line : Why → List ℕ
why_line why = codes "vmrun: " ++ why_text why ++ 10 ∷ []

-- what is told of words: nothing where they ask for a command
abbrev pub words_explained : List (List ℕ) → Option (List ℕ)
words_explained words = option_map why_line (why_bad words)
