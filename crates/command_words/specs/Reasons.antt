-- Why words are no command's: the first word that isn't what it is for.
use Rattle.std.specs.Prelude.{ℕ, ◌-◌, Bool, true, false, ◌&&◌, not, nat_le, is_none, is_some, ◌≡◌, List, [], ◌∷◌, length, drop, Option, Some, None, unwrap_or, if◌then◌else◌, bytes_eq, codes, find}
use Rattle.std.specs.List.{list_any}
use Rattle.std.specs.Option.{option_map}
use Rattle.io_edge.specs.Striping.{most_blocks}
use Rattle.command_edge.specs.ImageWords.{starts}
use Rattle.command_words.specs.Words.{is_plain, number_in, is_name, is_image_word, without_trace}
use Rattle.command_words.specs.Asked.{owners_first, asked_of}
use Rattle.command_words.specs.declared.limits.TheConstants.{LEAST_FRAMES, MOST_FRAMES, MOST_COMPARED, LEAST_SWAP, MOST_LIMIT, MOST_SHORT_LIMIT, LAST_LOAD, JOURNAL_ENTRIES}
use Rattle.command_words.specs.declared.reasons.Argument.{Argument}
use Rattle.command_words.specs.declared.reasons.Argument.TheVariants.{Frames, Swap, Limit, ShortLimit, Number, Size, Compared, Spread, FirstFrames, LastFrames, MoreFrames, Entries, From, To, Every, Schedule, Transcript, Trace, Source, ReferenceFile, Listed, Image}
use Rattle.command_words.specs.declared.reasons.BadWord.{BadWord}
use Rattle.command_words.specs.declared.reasons.BadWord.TheVariants as bad

-- why words are no command's
pub data Why : Type 0 where
  NoCommand : Why
  Unknown : (name : List ℕ) → Why
  NotPlain : (word : List ℕ) → Why
  Missing : Argument → Why
  Refused : Argument → (word : List ℕ) → Why
  TooMany : (word : List ℕ) → Why
  TooManyImages : Why
  NoneStarts : Why

-- the reason that the code answers
abbrev pub why_of : BadWord → Why
why_of bad.NoCommand = NoCommand
why_of (bad.Unknown name) = Unknown name.now
why_of (bad.NotPlain word) = NotPlain word.now
why_of (bad.Missing argument) = Missing argument
why_of (bad.Refused argument word) = Refused argument word.now
why_of (bad.TooMany word) = TooMany word.now
why_of bad.TooManyImages = TooManyImages
why_of bad.NoneStarts = NoneStarts

-- the least that an argument may be, where it is a number
abbrev pub least_of : Argument → ℕ
least_of Frames = LEAST_FRAMES
least_of Swap = LEAST_SWAP
least_of Limit = 1
least_of ShortLimit = 1
least_of Size = 1
least_of Every = 1
least_of Compared = 1
least_of FirstFrames = 1
least_of (LastFrames first) = first
least_of MoreFrames = 1
least_of _ = 0

-- the most that an argument may be, where it is a number
abbrev pub most_of : Argument → ℕ
most_of Frames = MOST_FRAMES
most_of Swap = most_blocks
most_of Limit = MOST_LIMIT
most_of ShortLimit = MOST_SHORT_LIMIT
most_of Number = LAST_LOAD
most_of Size = MOST_FRAMES
most_of Entries = JOURNAL_ENTRIES
most_of From = JOURNAL_ENTRIES
most_of To = JOURNAL_ENTRIES
most_of Every = JOURNAL_ENTRIES
most_of Compared = MOST_COMPARED
most_of (Spread frames) = frames - 1
most_of FirstFrames = MOST_COMPARED
most_of (LastFrames first) = MOST_COMPARED
most_of MoreFrames = MOST_COMPARED
most_of _ = 0

-- whether a word may stand for an argument
unfoldable pub takes : Argument → List ℕ → Bool
takes Schedule word = is_name word
takes Transcript word = is_name word
takes Trace word = is_name word
takes Source word = is_name word
takes ReferenceFile word = is_name word
takes Listed word = is_name word && starts word
takes Image word = is_image_word word
takes argument word = is_some (number_in (least_of argument) (most_of argument) word)

-- the first word that is none of an image, if there is one
abbrev pub bad_image : List (List ℕ) → Option Why
bad_image words = option_map (Refused Image) (find (λ word. not (is_image_word word)) words)

-- no reason where there is one already
abbrev pub or_else : Option Why → Option Why → Option Why
or_else (Some why) other = Some why
or_else None other = other

-- no word starts a process: there is none, or each stands after an equals sign
abbrev pub none_starts : List (List ℕ) → Why
none_starts [] = Missing Image
none_starts (word ∷ words) = NoneStarts

-- words of images: there is one, and at most 16; each has a name; and one at least starts a process
unfoldable pub why_images : List (List ℕ) → Option Why
why_images words =
    if nat_le (length words) 16 then or_else (bad_image words) (if list_any starts words then None else Some (none_starts words))
    else Some TooManyImages

-- what may come after the arguments of a command
unfoldable pub why_rest : (images : Bool) → List (List ℕ) → Option Why
why_rest true words = why_images words
why_rest false [] = None
why_rest false (word ∷ words) = Some (TooMany word)

-- words for these arguments, in order, and then for images or no more
unfoldable pub why_words : List Argument → (images : Bool) → List (List ℕ) → Option Why
why_words [] images words = why_rest images words
why_words (argument ∷ arguments) images [] = Some (Missing argument)
why_words (argument ∷ arguments) images (word ∷ words) =
    if takes argument word then why_words arguments images words else Some (Refused argument word)

-- the first word that is empty or begins with a hyphen, if there is one
abbrev pub bad_plain : List (List ℕ) → Option Why
bad_plain words = option_map NotPlain (find (λ word. not (is_plain word)) words)

-- words for these arguments, none of which may be an option
unfoldable pub why_form : List Argument → (images : Bool) → List (List ℕ) → Option Why
why_form arguments images words = or_else (bad_plain words) (why_words arguments images words)

-- how many frames a word says that there are, and one where it isn't such a number
abbrev pub frames_or_one : List ℕ → ℕ
frames_or_one word = unwrap_or (number_in 1 MOST_COMPARED word) 1

-- `N hands SPREAD FILE`, by the first word and those after the second
abbrev pub why_spread : (frames : List ℕ) → (words : List (List ℕ)) → Option Why
why_spread frames words =
    if takes Compared frames then why_words (Spread (frames_or_one frames) ∷ ReferenceFile ∷ []) false words else Some (Refused Compared frames)

-- `FROM TO EVERY FILE`, by the first word and all of them
abbrev pub why_sweep : (from : List ℕ) → (words : List (List ℕ)) → Option Why
why_sweep from words = why_words (FirstFrames ∷ LastFrames (frames_or_one from) ∷ MoreFrames ∷ ReferenceFile ∷ []) false words

-- the words after `policies`: up to two are `N FILE`
unfoldable pub why_policies : List (List ℕ) → Option Why
why_policies (first ∷ second ∷ third ∷ more) =
    if bytes_eq second (codes "hands") then why_spread first (third ∷ more) else why_sweep first (first ∷ second ∷ third ∷ more)
why_policies words = why_words (Compared ∷ ReferenceFile ∷ []) false words

-- the words after the name of a command other than `run` and `repage`
unfoldable pub why_other : List ℕ → List (List ℕ) → Option Why
why_other name words =
    if bytes_eq name (codes "load") then why_form (Number ∷ []) false words
    else (if bytes_eq name (codes "replay") then why_form (Transcript ∷ []) true words
    else (if bytes_eq name (codes "as") then why_form (Source ∷ []) false words
    else (if bytes_eq name (codes "dis") then why_form (Listed ∷ []) false words
    else (if bytes_eq name (codes "opt") then why_form (Size ∷ Frames ∷ Swap ∷ ShortLimit ∷ Schedule ∷ []) true words
    else (if bytes_eq name (codes "curve") then why_form (Frames ∷ Swap ∷ ShortLimit ∷ Schedule ∷ []) true words
    else (if bytes_eq name (codes "owners") then why_form (Entries ∷ Frames ∷ Swap ∷ Limit ∷ Schedule ∷ []) true words
    else (if bytes_eq name (codes "film") then why_form (From ∷ To ∷ Every ∷ Frames ∷ Swap ∷ Limit ∷ Schedule ∷ []) true words
    else (if bytes_eq name (codes "stats") then why_form (Frames ∷ Swap ∷ Limit ∷ Schedule ∷ []) true words
    else (if bytes_eq name (codes "refs") then why_form (Frames ∷ Swap ∷ Limit ∷ Schedule ∷ []) true words
    else (if bytes_eq name (codes "grade") then why_form (Frames ∷ Swap ∷ Limit ∷ Schedule ∷ Trace ∷ []) true words
    else (if bytes_eq name (codes "policies") then or_else (bad_plain words) (why_policies words)
    else Some (Unknown name))))))))))))

-- the words after `repage`
unfoldable pub why_repage : List (List ℕ) → Option Why
why_repage words =
    if owners_first words then why_form (Entries ∷ Frames ∷ Swap ∷ Trace ∷ []) true (drop 1 words)
    else why_form (Frames ∷ Swap ∷ Trace ∷ []) true words

-- the words after the name of a command
unfoldable pub why_command : List ℕ → List (List ℕ) → Option Why
why_command name words =
    if bytes_eq name (codes "run") then why_form (Frames ∷ Swap ∷ Limit ∷ Schedule ∷ []) true (without_trace words)
    else (if bytes_eq name (codes "repage") then why_repage words else why_other name words)

-- why the words after the program's name ask for no command; none where they ask for one
unfoldable pub why_bad : List (List ℕ) → Option Why
why_bad [] = Some NoCommand
why_bad (name ∷ words) = why_command name words

-- words have a reason exactly where they ask for no command
abbrev pub RefusedHaveReasons : Type 0
RefusedHaveReasons = (words : List (List ℕ)) → is_none (why_bad words) ≡ is_some (asked_of words)
