-- What the words of a command line ask for, command by command. This is the command line's grammar.
use Rattle.std.specs.Prelude.{ℕ, ◌-◌, ◌/◌, Bool, false, ◌&&◌, not, List, [], ◌∷◌, drop, Option, Some, None, option_and_then, if◌then◌else◌, bytes_eq, codes}
use Rattle.std.specs.List.{list_all, list_any}
use Rattle.std.specs.Option.{option_map}
use Rattle.io_edge.specs.Striping.{most_blocks}
use Rattle.command_edge.specs.ImageWords.{starts}
use Rattle.command_words.specs.declared.command.Numbers.{Numbers}
use Rattle.command_words.specs.declared.command.FilmSteps.{FilmSteps}
use Rattle.command_words.specs.declared.command.Comparison.{Comparison}
use Rattle.command_words.specs.declared.command.Comparison.TheVariants.{At, Sweep}
use Rattle.command_words.specs.declared.limits.TheConstants.{LEAST_FRAMES, MOST_FRAMES, MOST_COMPARED, LEAST_SWAP, MOST_LIMIT, MOST_SHORT_LIMIT, LAST_LOAD, JOURNAL_ENTRIES}
use Rattle.command_words.specs.Words.{is_plain, number_in, is_name, are_image_words, is_trace, without_trace}

-- a command, with the numbers and the names that its words give
pub data Asked : Type 0 where
  Run : (traced : Bool) → Numbers → (schedule : List ℕ) → (images : List (List ℕ)) → Asked
  Load : (number : ℕ) → Asked
  Replay : (transcript : List ℕ) → (images : List (List ℕ)) → Asked
  Assemble : (source : List ℕ) → Asked
  Show : (image : List ℕ) → Asked
  Optimum : (size : ℕ) → Numbers → (schedule : List ℕ) → (images : List (List ℕ)) → Asked
  Curve : Numbers → (schedule : List ℕ) → (images : List (List ℕ)) → Asked
  Owners : (entries : ℕ) → Numbers → (schedule : List ℕ) → (images : List (List ℕ)) → Asked
  Film : FilmSteps → Numbers → (schedule : List ℕ) → (images : List (List ℕ)) → Asked
  Stats : Numbers → (schedule : List ℕ) → (images : List (List ℕ)) → Asked
  References : Numbers → (schedule : List ℕ) → (images : List (List ℕ)) → Asked
  Grade : Numbers → (schedule trace : List ℕ) → (images : List (List ℕ)) → Asked
  Repage : Numbers → (trace : List ℕ) → (images : List (List ℕ)) → Asked
  RepageOwners : (entries : ℕ) → Numbers → (trace : List ℕ) → (images : List (List ℕ)) → Asked
  Policies : Comparison → (references : List ℕ) → Asked

-- what the words of a run ask for: the option `--trace`, the numbers, the name of the schedule, and the words of the images
pub record Request : Type 0 where
  pub traced : Bool
  pub numbers : Numbers
  pub schedule : List ℕ
  pub words : List (List ℕ)

-- the three numbers, where each is one
unfoldable pub all_numbers : Option ℕ → Option ℕ → Option ℕ → Option Numbers
all_numbers (Some frames) (Some swap) (Some limit) = Some (record { frames = frames; swap = swap; limit = limit })
all_numbers _ _ _ = None

-- `FRAMES SWAP LIMIT`, with a limit up to so many
unfoldable pub run_numbers : ℕ → List ℕ → List ℕ → List ℕ → Option Numbers
run_numbers most frames swap limit = all_numbers (number_in LEAST_FRAMES MOST_FRAMES frames) (number_in LEAST_SWAP most_blocks swap) (number_in 1 most limit)

-- `FRAMES SWAP LIMIT SCHED IMAGE..`, with a limit up to so many, and what is made of these numbers, this
-- schedule and these images
unfoldable pub asked_with_run : {A : Type 0} → ℕ → (Numbers → List ℕ → List (List ℕ) → A) → List (List ℕ) → Option A
asked_with_run most command (frames ∷ swap ∷ limit ∷ schedule ∷ images) =
    if is_name schedule && are_image_words images then option_map (λ numbers. command numbers schedule images) (run_numbers most frames swap limit) else None
asked_with_run most command _ = None

-- `NUMBER`
unfoldable pub asked_load : List (List ℕ) → Option Asked
asked_load (number ∷ []) = option_map Load (number_in 0 LAST_LOAD number)
asked_load _ = None

-- `TRANSCRIPT IMAGE..`
unfoldable pub asked_replay : List (List ℕ) → Option Asked
asked_replay (transcript ∷ images) = if is_name transcript && are_image_words images then Some (Replay transcript images) else None
asked_replay [] = None

-- `SOURCE`
unfoldable pub asked_assemble : List (List ℕ) → Option Asked
asked_assemble (source ∷ []) = if is_name source then Some (Assemble source) else None
asked_assemble _ = None

-- `IMAGE`, with no equals sign before it
unfoldable pub asked_show : List (List ℕ) → Option Asked
asked_show (image ∷ []) = if is_name image && starts image then Some (Show image) else None
asked_show _ = None

-- `N FRAMES SWAP LIMIT SCHED IMAGE..`
unfoldable pub asked_optimum : List (List ℕ) → Option Asked
asked_optimum (size ∷ words) = option_and_then (λ n. asked_with_run MOST_SHORT_LIMIT (Optimum n) words) (number_in 1 MOST_FRAMES size)
asked_optimum [] = None

-- `N FRAMES SWAP LIMIT SCHED IMAGE..`
unfoldable pub asked_owners : List (List ℕ) → Option Asked
asked_owners (entries ∷ words) = option_and_then (λ n. asked_with_run MOST_LIMIT (Owners n) words) (number_in 0 JOURNAL_ENTRIES entries)
asked_owners [] = None

-- the three numbers, where each is one
unfoldable pub all_steps : Option ℕ → Option ℕ → Option ℕ → Option FilmSteps
all_steps (Some from) (Some to) (Some every) = Some (record { from = from; to = to; every = every })
all_steps _ _ _ = None

-- `FROM TO EVERY`
unfoldable pub film_steps : List ℕ → List ℕ → List ℕ → Option FilmSteps
film_steps from to every = all_steps (number_in 0 JOURNAL_ENTRIES from) (number_in 0 JOURNAL_ENTRIES to) (number_in 1 JOURNAL_ENTRIES every)

-- `FROM TO EVERY FRAMES SWAP LIMIT SCHED IMAGE..`
unfoldable pub asked_film : List (List ℕ) → Option Asked
asked_film (from ∷ to ∷ every ∷ words) = option_and_then (λ steps. asked_with_run MOST_LIMIT (Film steps) words) (film_steps from to every)
asked_film _ = None

-- a comparison of this trace with the run of these numbers, this schedule and these images
abbrev pub grade_for : (trace : List ℕ) → Numbers → (schedule : List ℕ) → (images : List (List ℕ)) → Asked
grade_for trace numbers schedule images = Grade numbers schedule trace images

-- `FRAMES SWAP LIMIT SCHED TRACE IMAGE..`
unfoldable pub asked_grade : List (List ℕ) → Option Asked
asked_grade (frames ∷ swap ∷ limit ∷ schedule ∷ trace ∷ images) =
    if is_name trace then asked_with_run MOST_LIMIT (grade_for trace) (frames ∷ swap ∷ limit ∷ schedule ∷ images) else None
asked_grade _ = None

-- both numbers, where each is one, and the highest limit
unfoldable pub both_numbers : Option ℕ → Option ℕ → Option Numbers
both_numbers (Some frames) (Some swap) = Some (record { frames = frames; swap = swap; limit = MOST_LIMIT })
both_numbers _ _ = None

-- `FRAMES SWAP`
unfoldable pub machine_numbers : List ℕ → List ℕ → Option Numbers
machine_numbers frames swap = both_numbers (number_in LEAST_FRAMES MOST_FRAMES frames) (number_in LEAST_SWAP most_blocks swap)

-- `FRAMES SWAP TRACE IMAGE..`, and what is made of these numbers, this trace and these images
unfoldable pub asked_with_trace : (Numbers → List ℕ → List (List ℕ) → Asked) → List (List ℕ) → Option Asked
asked_with_trace command (frames ∷ swap ∷ trace ∷ images) =
    if is_name trace && are_image_words images then option_map (λ numbers. command numbers trace images) (machine_numbers frames swap) else None
asked_with_trace command _ = None

-- `N FRAMES SWAP TRACE IMAGE..`
unfoldable pub asked_trace_owners : List (List ℕ) → Option Asked
asked_trace_owners (entries ∷ words) = option_and_then (λ n. asked_with_trace (RepageOwners n) words) (number_in 0 JOURNAL_ENTRIES entries)
asked_trace_owners [] = None

-- the first word is `--owners`
abbrev pub owners_first : List (List ℕ) → Bool
owners_first [] = false
owners_first (word ∷ words) = bytes_eq word (codes "--owners")

-- these words, none of which is empty or begins with a hyphen
abbrev pub where_plain : (List (List ℕ) → Option Asked) → List (List ℕ) → Option Asked
where_plain asked words = if list_all is_plain words then asked words else None

-- the words after `repage`: `FRAMES SWAP TRACE IMAGE..`, or `--owners` and `N FRAMES SWAP TRACE IMAGE..`
unfoldable pub asked_repage : List (List ℕ) → Option Asked
asked_repage words = if owners_first words then where_plain asked_trace_owners (drop 1 words) else where_plain (asked_with_trace Repage) words

-- `N`: the front hand is a quarter of the frames ahead
unfoldable pub quarter_ahead : List ℕ → Option Comparison
quarter_ahead frames = option_map (λ n. At n (n / 4)) (number_in 1 MOST_COMPARED frames)

-- `N` and `SPREAD`: the front hand is so many frames ahead, fewer than there are
unfoldable pub so_far_ahead : (frames spread : List ℕ) → Option Comparison
so_far_ahead frames spread = option_and_then (λ n. option_map (At n) (number_in 0 (n - 1) spread)) (number_in 1 MOST_COMPARED frames)

-- `FROM TO EVERY`: several numbers of frames, the last not before the first
unfoldable pub each_of_several : (from to every : List ℕ) → Option Comparison
each_of_several from to every =
    option_and_then
    (λ first. option_and_then (λ last. option_map (Sweep first last) (number_in 1 MOST_COMPARED every)) (number_in first MOST_COMPARED to))
    (number_in 1 MOST_COMPARED from)

-- a comparison, where it is one, on the references of a file
unfoldable pub compared_on : (references : List ℕ) → Option Comparison → Option Asked
compared_on references comparison = if is_name references then option_map (λ c. Policies c references) comparison else None

-- `N FILE`, `N hands SPREAD FILE` or `FROM TO EVERY FILE`
unfoldable pub asked_policies : List (List ℕ) → Option Asked
asked_policies (frames ∷ references ∷ []) = compared_on references (quarter_ahead frames)
asked_policies (first ∷ second ∷ third ∷ references ∷ []) =
    if bytes_eq second (codes "hands") then compared_on references (so_far_ahead first third)
    else compared_on references (each_of_several first second third)
asked_policies _ = None

-- the words after `run`, and what is made of them: one of them may be `--trace`; of the others none is empty or begins with a hyphen
abbrev pub words_of_run : {A : Type 0} → (Bool → Numbers → List ℕ → List (List ℕ) → A) → List (List ℕ) → Option A
words_of_run made words =
    if list_all is_plain (without_trace words) then asked_with_run MOST_LIMIT (made (list_any is_trace words)) (without_trace words) else None

-- the words after `run`
unfoldable pub asked_run : List (List ℕ) → Option Asked
asked_run words = words_of_run Run words

-- a run with this option and these numbers, this schedule and these images
abbrev pub request_for : Bool → Numbers → List ℕ → List (List ℕ) → Request
request_for traced numbers schedule images = record { traced = traced; numbers = numbers; schedule = schedule; words = images }

-- the run that the words after the program's name ask for, and `None` where they ask for none
unfoldable pub request_of : List (List ℕ) → Option Request
request_of [] = None
request_of (name ∷ words) = if bytes_eq name (codes "run") then words_of_run request_for words else None

-- the words after the name of another command: none of them is empty or begins with a hyphen
unfoldable pub asked_other : List ℕ → List (List ℕ) → Option Asked
asked_other name words =
    if not (list_all is_plain words) then None
    else (if bytes_eq name (codes "load") then asked_load words
    else (if bytes_eq name (codes "replay") then asked_replay words
    else (if bytes_eq name (codes "as") then asked_assemble words
    else (if bytes_eq name (codes "dis") then asked_show words
    else (if bytes_eq name (codes "opt") then asked_optimum words
    else (if bytes_eq name (codes "curve") then asked_with_run MOST_SHORT_LIMIT Curve words
    else (if bytes_eq name (codes "owners") then asked_owners words
    else (if bytes_eq name (codes "film") then asked_film words
    else (if bytes_eq name (codes "stats") then asked_with_run MOST_LIMIT Stats words
    else (if bytes_eq name (codes "refs") then asked_with_run MOST_LIMIT References words
    else (if bytes_eq name (codes "grade") then asked_grade words
    else (if bytes_eq name (codes "policies") then asked_policies words
    else None))))))))))))

-- what the words after the program's name ask for, and `None` where they are no command's
unfoldable pub asked_of : List (List ℕ) → Option Asked
asked_of [] = None
asked_of (name ∷ words) =
    if bytes_eq name (codes "run") then asked_run words else (if bytes_eq name (codes "repage") then asked_repage words else asked_other name words)

-- the run that a command is, and `None` where it is another
abbrev pub request_in : Option Asked → Option Request
request_in (Some (Run traced numbers schedule images)) = Some (request_for traced numbers schedule images)
request_in asked = None
