-- Words have a reason exactly where they ask for no command.
use Rattle.std.proofs.Common.{◌≡◌, ℕ, ◌-◌, ◌/◌, ◌∙◌, Bool, true, false, ◌&&◌, not, if◌then◌else◌, is_none, is_some, nat_le, List, [], ◌∷◌, length, drop, refl, sym, ap, Option, Some, None, find, bytes_eq, codes}
use Rattle.std.specs.List.{list_all, list_any}
use Rattle.std.specs.Option.{option_map, option_and_then}
use Rattle.std.specs.Prelude.{unwrap_or}
use Rattle.io_edge.specs.Striping.{most_blocks}
use Rattle.command_edge.specs.ImageWords.{starts}
use Rattle.command_words.specs.declared.command.Numbers.{Numbers}
use Rattle.command_words.specs.declared.command.FilmSteps.{FilmSteps}
use Rattle.command_words.specs.declared.command.Comparison.{Comparison}
use Rattle.command_words.specs.declared.command.Comparison.TheVariants.{At, Sweep}
use Rattle.command_words.specs.declared.limits.TheConstants.{LEAST_FRAMES, MOST_FRAMES, MOST_COMPARED, LEAST_SWAP, MOST_LIMIT, MOST_SHORT_LIMIT, LAST_LOAD, JOURNAL_ENTRIES}
use Rattle.command_words.specs.declared.reasons.Argument.{Argument}
use Rattle.command_words.specs.declared.reasons.Argument.TheVariants.{Frames, Swap, Limit, ShortLimit, Number, Size, Compared, Spread, FirstFrames, LastFrames, MoreFrames, Entries, From, To, Every, Schedule, Transcript, Trace, Source, ReferenceFile, Listed, Image}
use Rattle.command_words.specs.Words.{is_plain, number_in, is_name, is_image_word, are_image_words, without_trace}
use Rattle.command_words.specs.Asked.{Asked, Load, Replay, Assemble, Show, Optimum, Curve, Owners, Film, Stats, References, Grade, Repage, RepageOwners, Policies, all_numbers, run_numbers, asked_with_run, asked_load, asked_replay, asked_assemble, asked_show, asked_optimum, asked_owners, all_steps, film_steps, asked_film, grade_for, asked_grade, both_numbers, machine_numbers, asked_with_trace, asked_trace_owners, owners_first, where_plain, asked_repage, quarter_ahead, so_far_ahead, each_of_several, compared_on, asked_policies, asked_run, asked_other, asked_of}
use Rattle.command_words.specs.Reasons.{Why, Refused, NotPlain, takes, bad_image, or_else, why_images, why_rest, why_words, bad_plain, why_form, frames_or_one, why_spread, why_sweep, why_policies, why_other, why_repage, why_command, why_bad}

-- Choices.

chosen : (b : Bool) (x y : Option Why) (p q : Option Asked) → is_none x ≡ is_some p → is_none y ≡ is_some q
    → is_none (if b then x else y) ≡ is_some (if b then p else q)
chosen true x y p q one other = one
chosen false x y p q one other = other

refused : (b : Bool) (x y : Option Why) → is_none x ≡ false → is_none y ≡ false → is_none (if b then x else y) ≡ false
refused true x y one other = one
refused false x y one other = other

unless : (b : Bool) (x : Option Why) (why : Why) → is_none (if b then x else Some why) ≡ b && is_none x
unless true x why = refl
unless false x why = refl

where_so : (b : Bool) (p : Option Asked) → is_some (if b then p else None) ≡ b && is_some p
where_so true p = refl
where_so false p = refl

first_of : (x y : Option Why) → is_none (or_else x y) ≡ is_none x && is_none y
first_of None y = refl
first_of (Some why) y = refl

mapped : {A : Type 0} (f : A → Asked) (o : Option A) → is_some (option_map f o) ≡ is_some o
mapped f None = refl
mapped f (Some x) = refl

never : (b : Bool) → b && false ≡ false
never true = refl
never false = refl

always : (b : Bool) → b && true ≡ b
always true = refl
always false = refl

grouped : (a b c : Bool) → a && (b && c) ≡ (a && b) && c
grouped true b c = refl
grouped false b c = refl

-- Words of images.

none_found : (p : List ℕ → Bool) (b : Bool) (word : List ℕ) (found : Option (List ℕ)) (rest : Bool) → is_none found ≡ rest
    → is_none (if not b then Some word else found) ≡ b && rest
none_found p true word found rest same = same
none_found p false word found rest same = refl

all_pass : (p : List ℕ → Bool) (words : List (List ℕ)) → is_none (find (λ word. not (p word)) words) ≡ list_all p words
all_pass p [] = refl
all_pass p (word ∷ words) = none_found p (p word) word _ _ (all_pass p words)

told : (f : List ℕ → Why) (o : Option (List ℕ)) → is_none (option_map f o) ≡ is_none o
told f None = refl
told f (Some word) = refl

images_by : (few some : Bool) (x : Option Why) (one other : Why)
    → is_none (if few then or_else x (if some then None else Some one) else Some other) ≡ few && is_none x && some
images_by false some x one other = refl
images_by true true None one other = refl
images_by true false None one other = refl
images_by true some (Some why) one other = refl

images : (words : List (List ℕ)) → is_none (why_images words) ≡ are_image_words words
unfolding why_images are_image_words
images words =
    images_by (nat_le (length words) 16) (list_any starts words) (bad_image words) _ _
    ∙ ap (λ (each : Bool). nat_le (length words) 16 && each && list_any starts words) (told (Refused Image) _ ∙ all_pass is_image_word words)

plain : (words : List (List ℕ)) → is_none (bad_plain words) ≡ list_all is_plain words
plain words = told NotPlain _ ∙ all_pass is_plain words

-- Words for arguments.

next : (argument : Argument) (arguments : List Argument) (more : Bool) (word : List ℕ) (words : List (List ℕ))
    → is_none (why_words (argument ∷ arguments) more (word ∷ words)) ≡ takes argument word && is_none (why_words arguments more words)
unfolding why_words
next argument arguments more word words = unless (takes argument word) _ _

-- there are too few of them
lacking : (argument : Argument) (arguments : List Argument) (more : Bool) (word : List ℕ) (words : List (List ℕ))
    → is_none (why_words arguments more words) ≡ false → is_none (why_words (argument ∷ arguments) more (word ∷ words)) ≡ false
lacking argument arguments more word words none = next argument arguments more word words ∙ ap (λ (b : Bool). takes argument word && b) none ∙ never _

missing : (argument : Argument) (arguments : List Argument) (more : Bool) → is_none (why_words (argument ∷ arguments) more []) ≡ false
unfolding why_words
missing argument arguments more = refl

rest_images : (words : List (List ℕ)) → is_none (why_words [] true words) ≡ are_image_words words
unfolding why_words why_rest
rest_images words = images words

rest_none : is_none (why_words [] false []) ≡ true
unfolding why_words why_rest
rest_none = refl

rest_more : (word : List ℕ) (words : List (List ℕ)) → is_none (why_words [] false (word ∷ words)) ≡ false
unfolding why_words why_rest
rest_more word words = refl

-- Numbers.

numbers_by : (a b c : Option ℕ) → is_some (all_numbers a b c) ≡ is_some a && (is_some b && is_some c)
unfolding all_numbers
numbers_by None b c = refl
numbers_by (Some x) None c = refl
numbers_by (Some x) (Some y) None = refl
numbers_by (Some x) (Some y) (Some z) = refl

turn : (a b c n i : Bool) → a && (b && (c && (n && i))) ≡ (n && i) && (a && (b && c))
turn true true true n i = sym (always (n && i))
turn false b c n i = sym (never (n && i))
turn true false c n i = sym (never (n && i))
turn true true false n i = sym (never (n && i))

-- The words of a run.

asked_whole : (most : ℕ) (command : Numbers → List ℕ → List (List ℕ) → Asked) (f s l n : List ℕ) (ws : List (List ℕ))
    → is_some (asked_with_run most command (f ∷ s ∷ l ∷ n ∷ ws))
    ≡ (is_name n && are_image_words ws) && (is_some (number_in LEAST_FRAMES MOST_FRAMES f) && (is_some (number_in LEAST_SWAP most_blocks s) && is_some (number_in 1 most l)))
unfolding asked_with_run run_numbers
asked_whole most command f s l n ws =
    where_so (is_name n && are_image_words ws) _
    ∙ ap (λ (b : Bool). (is_name n && are_image_words ws) && b)
    (mapped (λ (numbers : Numbers). command numbers n ws) (run_numbers most f s l) ∙ numbers_by (number_in LEAST_FRAMES MOST_FRAMES f) (number_in LEAST_SWAP most_blocks s) (number_in 1 most l))

why_whole : (limit : Argument) (most : ℕ) (f s l n : List ℕ) (ws : List (List ℕ)) → takes limit l ≡ is_some (number_in 1 most l)
    → is_none (why_words (Frames ∷ Swap ∷ limit ∷ Schedule ∷ []) true (f ∷ s ∷ l ∷ n ∷ ws))
    ≡ is_some (number_in LEAST_FRAMES MOST_FRAMES f) && (is_some (number_in LEAST_SWAP most_blocks s) && (is_some (number_in 1 most l) && (is_name n && are_image_words ws)))
unfolding takes
why_whole limit most f s l n ws is =
    let four : is_none (why_words (Schedule ∷ []) true (n ∷ ws)) ≡ is_name n && are_image_words ws =
    next Schedule [] true n ws ∙ ap (λ (b : Bool). is_name n && b) (rest_images ws) in
    let three : is_none (why_words (limit ∷ Schedule ∷ []) true (l ∷ n ∷ ws)) ≡ is_some (number_in 1 most l) && (is_name n && are_image_words ws) =
    next limit (Schedule ∷ []) true l (n ∷ ws) ∙ ap (λ (b : Bool). takes limit l && b) four ∙ ap (λ (b : Bool). b && (is_name n && are_image_words ws)) is in
    let two : is_none (why_words (Swap ∷ limit ∷ Schedule ∷ []) true (s ∷ l ∷ n ∷ ws))
    ≡ is_some (number_in LEAST_SWAP most_blocks s) && (is_some (number_in 1 most l) && (is_name n && are_image_words ws)) =
    next Swap (limit ∷ Schedule ∷ []) true s (l ∷ n ∷ ws) ∙ ap (λ (b : Bool). is_some (number_in LEAST_SWAP most_blocks s) && b) three in
    next Frames (Swap ∷ limit ∷ Schedule ∷ []) true f (s ∷ l ∷ n ∷ ws) ∙ ap (λ (b : Bool). is_some (number_in LEAST_FRAMES MOST_FRAMES f) && b) two

run : (limit : Argument) (most : ℕ) (command : Numbers → List ℕ → List (List ℕ) → Asked) (words : List (List ℕ))
    → ((word : List ℕ) → takes limit word ≡ is_some (number_in 1 most word))
    → is_none (why_words (Frames ∷ Swap ∷ limit ∷ Schedule ∷ []) true words) ≡ is_some (asked_with_run most command words)
unfolding asked_with_run
run limit most command [] is = missing Frames (Swap ∷ limit ∷ Schedule ∷ []) true
run limit most command (f ∷ []) is = lacking Frames (Swap ∷ limit ∷ Schedule ∷ []) true f [] (missing Swap (limit ∷ Schedule ∷ []) true)
run limit most command (f ∷ s ∷ []) is =
    lacking Frames (Swap ∷ limit ∷ Schedule ∷ []) true f (s ∷ []) (lacking Swap (limit ∷ Schedule ∷ []) true s [] (missing limit (Schedule ∷ []) true))
run limit most command (f ∷ s ∷ l ∷ []) is =
    lacking Frames (Swap ∷ limit ∷ Schedule ∷ []) true f (s ∷ l ∷ [])
    (lacking Swap (limit ∷ Schedule ∷ []) true s (l ∷ []) (lacking limit (Schedule ∷ []) true l [] (missing Schedule [] true)))
run limit most command (f ∷ s ∷ l ∷ n ∷ ws) is =
    why_whole limit most f s l n ws (is l)
    ∙ turn (is_some (number_in LEAST_FRAMES MOST_FRAMES f)) (is_some (number_in LEAST_SWAP most_blocks s)) (is_some (number_in 1 most l)) (is_name n) (are_image_words ws)
    ∙ sym (asked_whole most command f s l n ws)

long_limit : (word : List ℕ) → takes Limit word ≡ is_some (number_in 1 MOST_LIMIT word)
unfolding takes
long_limit word = refl

short_limit : (word : List ℕ) → takes ShortLimit word ≡ is_some (number_in 1 MOST_SHORT_LIMIT word)
unfolding takes
short_limit word = refl

-- The words of each other command.

load : (words : List (List ℕ)) → is_none (why_words (Number ∷ []) false words) ≡ is_some (asked_load words)
unfolding asked_load takes
load [] = missing Number [] false
load (n ∷ []) = next Number [] false n [] ∙ ap (λ (b : Bool). takes Number n && b) rest_none ∙ always _ ∙ sym (mapped Load (number_in 0 LAST_LOAD n))
load (n ∷ w ∷ ws) = lacking Number [] false n (w ∷ ws) (rest_more w ws)

replay : (words : List (List ℕ)) → is_none (why_words (Transcript ∷ []) true words) ≡ is_some (asked_replay words)
unfolding asked_replay takes
replay [] = missing Transcript [] true
replay (t ∷ ws) =
    next Transcript [] true t ws ∙ ap (λ (b : Bool). is_name t && b) (rest_images ws)
    ∙ sym (where_so (is_name t && are_image_words ws) (Some (Replay t ws)) ∙ always _)

assemble : (words : List (List ℕ)) → is_none (why_words (Source ∷ []) false words) ≡ is_some (asked_assemble words)
unfolding asked_assemble takes
assemble [] = missing Source [] false
assemble (s ∷ []) = next Source [] false s [] ∙ ap (λ (b : Bool). is_name s && b) rest_none ∙ sym (where_so (is_name s) (Some (Assemble s)))
assemble (s ∷ w ∷ ws) = lacking Source [] false s (w ∷ ws) (rest_more w ws)

show : (words : List (List ℕ)) → is_none (why_words (Listed ∷ []) false words) ≡ is_some (asked_show words)
unfolding asked_show takes
show [] = missing Listed [] false
show (i ∷ []) =
    next Listed [] false i [] ∙ ap (λ (b : Bool). (is_name i && starts i) && b) rest_none ∙ sym (where_so (is_name i && starts i) (Some (Show i)))
show (i ∷ w ∷ ws) = lacking Listed [] false i (w ∷ ws) (rest_more w ws)

after_number : (o : Option ℕ) (g : ℕ → Option Asked) (b : Bool) → ((n : ℕ) → b ≡ is_some (g n)) → is_some o && b ≡ is_some (option_and_then g o)
after_number None g b each = refl
after_number (Some n) g b each = each n

optimum : (words : List (List ℕ)) → is_none (why_words (Size ∷ Frames ∷ Swap ∷ ShortLimit ∷ Schedule ∷ []) true words) ≡ is_some (asked_optimum words)
unfolding asked_optimum takes
optimum [] = missing Size (Frames ∷ Swap ∷ ShortLimit ∷ Schedule ∷ []) true
optimum (n ∷ words) =
    next Size (Frames ∷ Swap ∷ ShortLimit ∷ Schedule ∷ []) true n words
    ∙ after_number (number_in 1 MOST_FRAMES n) (λ k. asked_with_run MOST_SHORT_LIMIT (Optimum k) words) _ (λ k. run ShortLimit MOST_SHORT_LIMIT (Optimum k) words short_limit)

owners : (words : List (List ℕ)) → is_none (why_words (Entries ∷ Frames ∷ Swap ∷ Limit ∷ Schedule ∷ []) true words) ≡ is_some (asked_owners words)
unfolding asked_owners takes
owners [] = missing Entries (Frames ∷ Swap ∷ Limit ∷ Schedule ∷ []) true
owners (n ∷ words) =
    next Entries (Frames ∷ Swap ∷ Limit ∷ Schedule ∷ []) true n words
    ∙ after_number (number_in 0 JOURNAL_ENTRIES n) (λ k. asked_with_run MOST_LIMIT (Owners k) words) _ (λ k. run Limit MOST_LIMIT (Owners k) words long_limit)

steps_by : (a b c : Option ℕ) → is_some (all_steps a b c) ≡ is_some a && (is_some b && is_some c)
unfolding all_steps
steps_by None b c = refl
steps_by (Some x) None c = refl
steps_by (Some x) (Some y) None = refl
steps_by (Some x) (Some y) (Some z) = refl

after_three : (a b c : Bool) (o : Option FilmSteps) (g : FilmSteps → Option Asked) (d : Bool) → is_some o ≡ a && (b && c)
    → ((s : FilmSteps) → d ≡ is_some (g s))
    → a && (b && (c && d)) ≡ is_some (option_and_then g o)
after_three true true true (Some s) g d is each = each s
after_three true true true None g d is each = absurd cc
after_three true true false None g d is each = refl
after_three true true false (Some s) g d is each = absurd cc
after_three true false c None g d is each = refl
after_three true false c (Some s) g d is each = absurd cc
after_three false b c None g d is each = refl
after_three false b c (Some s) g d is each = absurd cc

film_whole : (from to every : List ℕ) (words : List (List ℕ))
    → is_none (why_words (From ∷ To ∷ Every ∷ Frames ∷ Swap ∷ Limit ∷ Schedule ∷ []) true (from ∷ to ∷ every ∷ words))
    ≡ is_some (asked_film (from ∷ to ∷ every ∷ words))
unfolding asked_film film_steps takes
film_whole from to every words =
    let one : is_none (why_words (Every ∷ Frames ∷ Swap ∷ Limit ∷ Schedule ∷ []) true (every ∷ words))
    ≡ is_some (number_in 1 JOURNAL_ENTRIES every) && is_none (why_words (Frames ∷ Swap ∷ Limit ∷ Schedule ∷ []) true words) =
    next Every (Frames ∷ Swap ∷ Limit ∷ Schedule ∷ []) true every words in
    let two : is_none (why_words (To ∷ Every ∷ Frames ∷ Swap ∷ Limit ∷ Schedule ∷ []) true (to ∷ every ∷ words))
    ≡ is_some (number_in 0 JOURNAL_ENTRIES to) && (is_some (number_in 1 JOURNAL_ENTRIES every) && is_none (why_words (Frames ∷ Swap ∷ Limit ∷ Schedule ∷ []) true words)) =
    next To (Every ∷ Frames ∷ Swap ∷ Limit ∷ Schedule ∷ []) true to (every ∷ words) ∙ ap (λ (b : Bool). is_some (number_in 0 JOURNAL_ENTRIES to) && b) one in
    next From (To ∷ Every ∷ Frames ∷ Swap ∷ Limit ∷ Schedule ∷ []) true from (to ∷ every ∷ words) ∙ ap (λ (b : Bool). is_some (number_in 0 JOURNAL_ENTRIES from) && b) two
    ∙ after_three (is_some (number_in 0 JOURNAL_ENTRIES from)) (is_some (number_in 0 JOURNAL_ENTRIES to)) (is_some (number_in 1 JOURNAL_ENTRIES every)) _
    (λ steps. asked_with_run MOST_LIMIT (Film steps) words) _
    (steps_by (number_in 0 JOURNAL_ENTRIES from) (number_in 0 JOURNAL_ENTRIES to) (number_in 1 JOURNAL_ENTRIES every)) (λ steps. run Limit MOST_LIMIT (Film steps) words long_limit)

film : (words : List (List ℕ)) → is_none (why_words (From ∷ To ∷ Every ∷ Frames ∷ Swap ∷ Limit ∷ Schedule ∷ []) true words) ≡ is_some (asked_film words)
unfolding asked_film
film [] = missing From (To ∷ Every ∷ Frames ∷ Swap ∷ Limit ∷ Schedule ∷ []) true
film (from ∷ []) = lacking From (To ∷ Every ∷ Frames ∷ Swap ∷ Limit ∷ Schedule ∷ []) true from [] (missing To (Every ∷ Frames ∷ Swap ∷ Limit ∷ Schedule ∷ []) true)
film (from ∷ to ∷ []) =
    lacking From (To ∷ Every ∷ Frames ∷ Swap ∷ Limit ∷ Schedule ∷ []) true from (to ∷ [])
    (lacking To (Every ∷ Frames ∷ Swap ∷ Limit ∷ Schedule ∷ []) true to [] (missing Every (Frames ∷ Swap ∷ Limit ∷ Schedule ∷ []) true))
film (from ∷ to ∷ every ∷ words) = film_whole from to every words

traced_turn : (a b c n t i : Bool) → a && (b && (c && (n && (t && i)))) ≡ t && ((n && i) && (a && (b && c)))
traced_turn true true true n true i = sym (always (n && i))
traced_turn true true true n false i = never n
traced_turn false b c n t i = sym (ap (λ (x : Bool). t && x) (never (n && i)) ∙ never t)
traced_turn true false c n t i = sym (ap (λ (x : Bool). t && x) (never (n && i)) ∙ never t)
traced_turn true true false n t i = sym (ap (λ (x : Bool). t && x) (never (n && i)) ∙ never t)

grade_whole : (f s l n t : List ℕ) (ws : List (List ℕ))
    → is_none (why_words (Frames ∷ Swap ∷ Limit ∷ Schedule ∷ Trace ∷ []) true (f ∷ s ∷ l ∷ n ∷ t ∷ ws)) ≡ is_some (asked_grade (f ∷ s ∷ l ∷ n ∷ t ∷ ws))
unfolding asked_grade takes
grade_whole f s l n t ws =
    let a = is_some (number_in LEAST_FRAMES MOST_FRAMES f) in
    let b = is_some (number_in LEAST_SWAP most_blocks s) in
    let c = is_some (number_in 1 MOST_LIMIT l) in
    next Frames (Swap ∷ Limit ∷ Schedule ∷ Trace ∷ []) true f (s ∷ l ∷ n ∷ t ∷ ws)
    ∙ ap (λ (x : Bool). a && x)
    (next Swap (Limit ∷ Schedule ∷ Trace ∷ []) true s (l ∷ n ∷ t ∷ ws)
    ∙ ap (λ (x : Bool). b && x)
    (next Limit (Schedule ∷ Trace ∷ []) true l (n ∷ t ∷ ws)
    ∙ ap (λ (x : Bool). c && x)
    (next Schedule (Trace ∷ []) true n (t ∷ ws)
    ∙ ap (λ (x : Bool). is_name n && x) (next Trace [] true t ws ∙ ap (λ (x : Bool). is_name t && x) (rest_images ws)))))
    ∙ traced_turn a b c (is_name n) (is_name t) (are_image_words ws)
    ∙ sym (where_so (is_name t) _ ∙ ap (λ (x : Bool). is_name t && x) (asked_whole MOST_LIMIT (grade_for t) f s l n ws))

grade : (words : List (List ℕ)) → is_none (why_words (Frames ∷ Swap ∷ Limit ∷ Schedule ∷ Trace ∷ []) true words) ≡ is_some (asked_grade words)
unfolding asked_grade
grade [] = missing Frames (Swap ∷ Limit ∷ Schedule ∷ Trace ∷ []) true
grade (f ∷ []) = lacking Frames (Swap ∷ Limit ∷ Schedule ∷ Trace ∷ []) true f [] (missing Swap (Limit ∷ Schedule ∷ Trace ∷ []) true)
grade (f ∷ s ∷ []) = lacking Frames (Swap ∷ Limit ∷ Schedule ∷ Trace ∷ []) true f (s ∷ []) (lacking Swap (Limit ∷ Schedule ∷ Trace ∷ []) true s [] (missing Limit (Schedule ∷ Trace ∷ []) true))
grade (f ∷ s ∷ l ∷ []) =
    lacking Frames (Swap ∷ Limit ∷ Schedule ∷ Trace ∷ []) true f (s ∷ l ∷ [])
    (lacking Swap (Limit ∷ Schedule ∷ Trace ∷ []) true s (l ∷ []) (lacking Limit (Schedule ∷ Trace ∷ []) true l [] (missing Schedule (Trace ∷ []) true)))
grade (f ∷ s ∷ l ∷ n ∷ []) =
    lacking Frames (Swap ∷ Limit ∷ Schedule ∷ Trace ∷ []) true f (s ∷ l ∷ n ∷ [])
    (lacking Swap (Limit ∷ Schedule ∷ Trace ∷ []) true s (l ∷ n ∷ [])
    (lacking Limit (Schedule ∷ Trace ∷ []) true l (n ∷ []) (lacking Schedule (Trace ∷ []) true n [] (missing Trace [] true))))
grade (f ∷ s ∷ l ∷ n ∷ t ∷ ws) = grade_whole f s l n t ws

both_by : (a b : Option ℕ) → is_some (both_numbers a b) ≡ is_some a && is_some b
unfolding both_numbers
both_by None b = refl
both_by (Some x) None = refl
both_by (Some x) (Some y) = refl

judged_turn : (a b t i : Bool) → a && (b && (t && i)) ≡ (t && i) && (a && b)
judged_turn true true t i = sym (always (t && i))
judged_turn false b t i = sym (never (t && i))
judged_turn true false t i = sym (never (t && i))

traced_whole : (command : Numbers → List ℕ → List (List ℕ) → Asked) (f s t : List ℕ) (ws : List (List ℕ))
    → is_none (why_words (Frames ∷ Swap ∷ Trace ∷ []) true (f ∷ s ∷ t ∷ ws)) ≡ is_some (asked_with_trace command (f ∷ s ∷ t ∷ ws))
unfolding asked_with_trace machine_numbers takes
traced_whole command f s t ws =
    let a = is_some (number_in LEAST_FRAMES MOST_FRAMES f) in
    let b = is_some (number_in LEAST_SWAP most_blocks s) in
    next Frames (Swap ∷ Trace ∷ []) true f (s ∷ t ∷ ws)
    ∙ ap (λ (x : Bool). a && x)
    (next Swap (Trace ∷ []) true s (t ∷ ws)
    ∙ ap (λ (x : Bool). b && x) (next Trace [] true t ws ∙ ap (λ (x : Bool). is_name t && x) (rest_images ws)))
    ∙ judged_turn a b (is_name t) (are_image_words ws)
    ∙ sym (where_so (is_name t && are_image_words ws) _
    ∙ ap (λ (x : Bool). (is_name t && are_image_words ws) && x)
    (mapped (λ (numbers : Numbers). command numbers t ws) (both_numbers (number_in LEAST_FRAMES MOST_FRAMES f) (number_in LEAST_SWAP most_blocks s))
    ∙ both_by (number_in LEAST_FRAMES MOST_FRAMES f) (number_in LEAST_SWAP most_blocks s)))

traced : (command : Numbers → List ℕ → List (List ℕ) → Asked) (words : List (List ℕ))
    → is_none (why_words (Frames ∷ Swap ∷ Trace ∷ []) true words) ≡ is_some (asked_with_trace command words)
unfolding asked_with_trace
traced command [] = missing Frames (Swap ∷ Trace ∷ []) true
traced command (f ∷ []) = lacking Frames (Swap ∷ Trace ∷ []) true f [] (missing Swap (Trace ∷ []) true)
traced command (f ∷ s ∷ []) = lacking Frames (Swap ∷ Trace ∷ []) true f (s ∷ []) (lacking Swap (Trace ∷ []) true s [] (missing Trace [] true))
traced command (f ∷ s ∷ t ∷ ws) = traced_whole command f s t ws

either_way : (a b : Bool) → a && b ≡ b && a
either_way true b = sym (always b)
either_way false b = sym (never b)

-- a comparison is one, and its file is named
on_file : (references : List ℕ) (comparison : Option Comparison) (b : Bool) → b ≡ is_some comparison
    → b && is_name references ≡ is_some (compared_on references comparison)
unfolding compared_on
on_file references comparison b is =
    either_way b (is_name references) ∙ ap (λ (c : Bool). is_name references && c) (is ∙ sym (mapped (λ c. Policies c references) comparison))
    ∙ sym (where_so (is_name references) _)

-- the last word of a comparison is the name of a file
last_word : (argument : Argument) (word references : List ℕ)
    → is_none (why_words (argument ∷ ReferenceFile ∷ []) false (word ∷ references ∷ [])) ≡ takes argument word && is_name references
unfolding takes
last_word argument word references =
    next argument (ReferenceFile ∷ []) false word (references ∷ [])
    ∙ ap (λ (b : Bool). takes argument word && b)
    (next ReferenceFile [] false references [] ∙ ap (λ (b : Bool). is_name references && b) rest_none ∙ always _)

made_of : {A B : Type 0} (f : A → B) (o : Option A) → is_some (option_map f o) ≡ is_some o
made_of f None = refl
made_of f (Some x) = refl

-- `N FILE`
at_frames : (frames references : List ℕ)
    → is_none (why_words (Compared ∷ ReferenceFile ∷ []) false (frames ∷ references ∷ [])) ≡ is_some (compared_on references (quarter_ahead frames))
unfolding takes quarter_ahead
at_frames frames references =
    last_word Compared frames references
    ∙ on_file references (quarter_ahead frames) (is_some (number_in 1 MOST_COMPARED frames))
    (sym (made_of (λ n. At n (n / 4)) (number_in 1 MOST_COMPARED frames)))

-- `N hands SPREAD FILE`
after_frames : (o : Option ℕ) (spread : ℕ → Option ℕ)
    → is_some o && is_some (spread (unwrap_or o 1)) ≡ is_some (option_and_then (λ n. option_map (At n) (spread n)) o)
after_frames None spread = refl
after_frames (Some n) spread = sym (made_of (At n) (spread n))

spread_ahead : (frames word references : List ℕ)
    → is_none (why_spread frames (word ∷ references ∷ [])) ≡ is_some (compared_on references (so_far_ahead frames word))
unfolding takes so_far_ahead
spread_ahead frames word references =
    unless (takes Compared frames) _ _
    ∙ ap (λ (b : Bool). is_some (number_in 1 MOST_COMPARED frames) && b) (last_word (Spread (frames_or_one frames)) word references)
    ∙ grouped (is_some (number_in 1 MOST_COMPARED frames)) (is_some (number_in 0 (frames_or_one frames - 1) word)) (is_name references)
    ∙ on_file references (so_far_ahead frames word) _ (after_frames (number_in 1 MOST_COMPARED frames) (λ n. number_in 0 (n - 1) word))

-- `FROM TO EVERY FILE`
after_first : (o : Option ℕ) (last : ℕ → Option ℕ) (every : Option ℕ)
    → is_some o && (is_some (last (unwrap_or o 1)) && is_some every)
    ≡ is_some (option_and_then (λ first. option_and_then (λ to. option_map (Sweep first to) every) (last first)) o)
after_first None last every = refl
after_first (Some first) last every = by (last first)
  where
    by : (to : Option ℕ) → is_some to && is_some every ≡ is_some (option_and_then (λ to. option_map (Sweep first to) every) to)
    by None = refl
    by (Some to) = sym (made_of (Sweep first to) every)

several : (from to every references : List ℕ)
    → is_none (why_sweep from (from ∷ to ∷ every ∷ references ∷ [])) ≡ is_some (compared_on references (each_of_several from to every))
unfolding takes each_of_several
several from to every references =
    let a = is_some (number_in 1 MOST_COMPARED from) in
    let b = is_some (number_in (frames_or_one from) MOST_COMPARED to) in
    let c = is_some (number_in 1 MOST_COMPARED every) in
    next FirstFrames (LastFrames (frames_or_one from) ∷ MoreFrames ∷ ReferenceFile ∷ []) false from (to ∷ every ∷ references ∷ [])
    ∙ ap (λ (x : Bool). a && x)
    (next (LastFrames (frames_or_one from)) (MoreFrames ∷ ReferenceFile ∷ []) false to (every ∷ references ∷ [])
    ∙ ap (λ (x : Bool). b && x) (last_word MoreFrames every references) ∙ grouped b c (is_name references))
    ∙ grouped a (b && c) (is_name references)
    ∙ on_file references (each_of_several from to every) (a && (b && c))
    (after_first (number_in 1 MOST_COMPARED from) (λ first. number_in first MOST_COMPARED to) (number_in 1 MOST_COMPARED every))

policies : (words : List (List ℕ)) → is_none (why_policies words) ≡ is_some (asked_policies words)
unfolding asked_policies why_policies
policies [] = missing Compared (ReferenceFile ∷ []) false
policies (n ∷ []) = lacking Compared (ReferenceFile ∷ []) false n [] (missing ReferenceFile [] false)
policies (n ∷ f ∷ []) = at_frames n f
policies (a ∷ b ∷ c ∷ []) =
    refused (bytes_eq b (codes "hands")) _ _
    (refused (takes Compared a) _ _ (lacking (Spread (frames_or_one a)) (ReferenceFile ∷ []) false c [] (missing ReferenceFile [] false)) refl)
    (lacking FirstFrames (LastFrames (frames_or_one a) ∷ MoreFrames ∷ ReferenceFile ∷ []) false a (b ∷ c ∷ [])
    (lacking (LastFrames (frames_or_one a)) (MoreFrames ∷ ReferenceFile ∷ []) false b (c ∷ [])
    (lacking MoreFrames (ReferenceFile ∷ []) false c [] (missing ReferenceFile [] false))))
policies (a ∷ b ∷ c ∷ f ∷ []) = chosen (bytes_eq b (codes "hands")) _ _ _ _ (spread_ahead a c f) (several a b c f)
policies (a ∷ b ∷ c ∷ f ∷ w ∷ ws) =
    refused (bytes_eq b (codes "hands")) _ _
    (refused (takes Compared a) _ _
    (lacking (Spread (frames_or_one a)) (ReferenceFile ∷ []) false c (f ∷ w ∷ ws) (lacking ReferenceFile [] false f (w ∷ ws) (rest_more w ws))) refl)
    (lacking FirstFrames (LastFrames (frames_or_one a) ∷ MoreFrames ∷ ReferenceFile ∷ []) false a (b ∷ c ∷ f ∷ w ∷ ws)
    (lacking (LastFrames (frames_or_one a)) (MoreFrames ∷ ReferenceFile ∷ []) false b (c ∷ f ∷ w ∷ ws)
    (lacking MoreFrames (ReferenceFile ∷ []) false c (f ∷ w ∷ ws) (lacking ReferenceFile [] false f (w ∷ ws) (rest_more w ws)))))

-- Options.

-- words of which none may be an option
without_options : (words : List (List ℕ)) (why : Option Why) → is_none (or_else (bad_plain words) why) ≡ list_all is_plain words && is_none why
without_options words why = first_of (bad_plain words) why ∙ ap (λ (b : Bool). b && is_none why) (plain words)

module _ (arguments : List Argument) (more : Bool) (words : List (List ℕ)) where
  form : is_none (why_form arguments more words) ≡ list_all is_plain words && is_none (why_words arguments more words)
  unfolding why_form
  form = first_of (bad_plain words) _ ∙ ap (λ (b : Bool). b && is_none (why_words arguments more words)) (plain words)

  with_plain : (asked : Option Asked) → list_all is_plain words ≡ true
      → is_none (why_words arguments more words) ≡ is_some asked → is_none (why_form arguments more words) ≡ is_some asked
  with_plain asked are same = form ∙ ap (λ (b : Bool). b && is_none (why_words arguments more words)) are ∙ same

  with_option : list_all is_plain words ≡ false → is_none (why_form arguments more words) ≡ false
  with_option are = form ∙ ap (λ (b : Bool). b && is_none (why_words arguments more words)) are

run_command : (words : List (List ℕ)) → is_none (why_form (Frames ∷ Swap ∷ Limit ∷ Schedule ∷ []) true (without_trace words)) ≡ is_some (asked_run words)
unfolding asked_run
run_command words =
    form (Frames ∷ Swap ∷ Limit ∷ Schedule ∷ []) true (without_trace words)
    ∙ ap (λ (b : Bool). list_all is_plain (without_trace words) && b) (run Limit MOST_LIMIT _ (without_trace words) long_limit)
    ∙ sym (where_so (list_all is_plain (without_trace words)) _)

-- words for these arguments, none of which is an option
plain_command : (arguments : List Argument) (asked : List (List ℕ) → Option Asked) (words : List (List ℕ))
    → is_none (why_words arguments true words) ≡ is_some (asked words)
    → is_none (why_form arguments true words) ≡ is_some (where_plain asked words)
plain_command arguments asked words same =
    form arguments true words ∙ ap (λ (b : Bool). list_all is_plain words && b) same ∙ sym (where_so (list_all is_plain words) (asked words))

trace_owners : (words : List (List ℕ)) → is_none (why_words (Entries ∷ Frames ∷ Swap ∷ Trace ∷ []) true words) ≡ is_some (asked_trace_owners words)
unfolding asked_trace_owners takes
trace_owners [] = missing Entries (Frames ∷ Swap ∷ Trace ∷ []) true
trace_owners (n ∷ words) =
    next Entries (Frames ∷ Swap ∷ Trace ∷ []) true n words
    ∙ after_number (number_in 0 JOURNAL_ENTRIES n) (λ k. asked_with_trace (RepageOwners k) words) _ (λ k. traced (RepageOwners k) words)

repage_command : (words : List (List ℕ)) → is_none (why_repage words) ≡ is_some (asked_repage words)
unfolding why_repage asked_repage
repage_command words =
    chosen (owners_first words) _ _ _ _ (plain_command (Entries ∷ Frames ∷ Swap ∷ Trace ∷ []) asked_trace_owners (drop 1 words) (trace_owners (drop 1 words)))
    (plain_command (Frames ∷ Swap ∷ Trace ∷ []) (asked_with_trace Repage) words (traced Repage words))

-- All commands.

-- the command that words without an option ask for
asked_plain : List ℕ → List (List ℕ) → Option Asked
asked_plain name words =
    if bytes_eq name (codes "load") then asked_load words
    else (if bytes_eq name (codes "replay") then asked_replay words
    else (if bytes_eq name (codes "as") then asked_assemble words
    else (if bytes_eq name (codes "dis") then asked_show words
    else (if bytes_eq name (codes "opt") then asked_optimum words
    else (if bytes_eq name (codes "curve") then asked_with_run MOST_SHORT_LIMIT Curve words
    else (if bytes_eq name (codes "owners") then asked_owners words
    else (if bytes_eq name (codes "film") then asked_film words
    else (if bytes_eq name (codes "stats") then asked_with_run MOST_LIMIT Stats words
    else (if bytes_eq name (codes "refs") then asked_with_run MOST_LIMIT References words
    else (if bytes_eq name (codes "grade") then asked_grade words
    else (if bytes_eq name (codes "policies") then asked_policies words
    else None)))))))))))

other_by : (p : Bool) (name : List ℕ) (words : List (List ℕ)) → list_all is_plain words ≡ p
    → is_none (why_other name words) ≡ p && is_some (asked_plain name words)
unfolding why_other asked_plain
other_by true name words are =
    chosen (bytes_eq name (codes "load")) _ _ _ _ (with_plain _ _ words _ are (load words))
    (chosen (bytes_eq name (codes "replay")) _ _ _ _ (with_plain _ _ words _ are (replay words))
    (chosen (bytes_eq name (codes "as")) _ _ _ _ (with_plain _ _ words _ are (assemble words))
    (chosen (bytes_eq name (codes "dis")) _ _ _ _ (with_plain _ _ words _ are (show words))
    (chosen (bytes_eq name (codes "opt")) _ _ _ _ (with_plain _ _ words _ are (optimum words))
    (chosen (bytes_eq name (codes "curve")) _ _ _ _ (with_plain _ _ words _ are (run ShortLimit MOST_SHORT_LIMIT Curve words short_limit))
    (chosen (bytes_eq name (codes "owners")) _ _ _ _ (with_plain _ _ words _ are (owners words))
    (chosen (bytes_eq name (codes "film")) _ _ _ _ (with_plain _ _ words _ are (film words))
    (chosen (bytes_eq name (codes "stats")) _ _ _ _ (with_plain _ _ words _ are (run Limit MOST_LIMIT Stats words long_limit))
    (chosen (bytes_eq name (codes "refs")) _ _ _ _ (with_plain _ _ words _ are (run Limit MOST_LIMIT References words long_limit))
    (chosen (bytes_eq name (codes "grade")) _ _ _ _ (with_plain _ _ words _ are (grade words))
    (chosen (bytes_eq name (codes "policies")) _ _ _ _
    (without_options words (why_policies words) ∙ ap (λ (b : Bool). b && is_none (why_policies words)) are ∙ policies words) refl)))))))))))
other_by false name words are =
    refused (bytes_eq name (codes "load")) _ _ (with_option _ _ words are)
    (refused (bytes_eq name (codes "replay")) _ _ (with_option _ _ words are)
    (refused (bytes_eq name (codes "as")) _ _ (with_option _ _ words are)
    (refused (bytes_eq name (codes "dis")) _ _ (with_option _ _ words are)
    (refused (bytes_eq name (codes "opt")) _ _ (with_option _ _ words are)
    (refused (bytes_eq name (codes "curve")) _ _ (with_option _ _ words are)
    (refused (bytes_eq name (codes "owners")) _ _ (with_option _ _ words are)
    (refused (bytes_eq name (codes "film")) _ _ (with_option _ _ words are)
    (refused (bytes_eq name (codes "stats")) _ _ (with_option _ _ words are)
    (refused (bytes_eq name (codes "refs")) _ _ (with_option _ _ words are)
    (refused (bytes_eq name (codes "grade")) _ _ (with_option _ _ words are)
    (refused (bytes_eq name (codes "policies")) _ _
    (without_options words (why_policies words) ∙ ap (λ (b : Bool). b && is_none (why_policies words)) are) refl)))))))))))

unless_plain : (p : Bool) (asked : Option Asked) → is_some (if not p then None else asked) ≡ p && is_some asked
unless_plain true asked = refl
unless_plain false asked = refl

other : (name : List ℕ) (words : List (List ℕ)) → is_none (why_other name words) ≡ is_some (asked_other name words)
unfolding asked_other asked_plain
other name words = other_by (list_all is_plain words) name words refl ∙ sym (unless_plain (list_all is_plain words) (asked_plain name words))

-- the law
pub refused_have_reasons : (words : List (List ℕ)) → is_none (why_bad words) ≡ is_some (asked_of words)
unfolding why_bad why_command asked_of
refused_have_reasons [] = refl
refused_have_reasons (name ∷ words) =
    chosen (bytes_eq name (codes "run")) _ _ _ _ (run_command words) (chosen (bytes_eq name (codes "repage")) _ _ _ _ (repage_command words) (other name words))
