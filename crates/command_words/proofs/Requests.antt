-- Words that ask for a run, and those that ask for none.
use Rattle.std.proofs.Common.{◌≡◌, ℕ, Bool, true, false, ◌&&◌, not, if◌then◌else◌, List, [], ◌∷◌, drop, codes, bytes_eq, Option, Some, None, refl}
use Rattle.std.specs.List.{list_all, list_any}
use Rattle.std.specs.Option.{option_map, option_and_then}
use Rattle.command_edge.specs.ImageWords.{starts}
use Rattle.command_words.specs.declared.command.Numbers.{Numbers}
use Rattle.command_words.specs.declared.command.FilmSteps.{FilmSteps}
use Rattle.command_words.specs.declared.command.Comparison.{Comparison}
use Rattle.command_words.specs.declared.limits.TheConstants.{MOST_FRAMES, MOST_LIMIT, MOST_SHORT_LIMIT, LAST_LOAD, JOURNAL_ENTRIES}
use Rattle.command_words.specs.Words.{is_plain, number_in, is_name, are_image_words, is_trace, without_trace}
use Rattle.command_words.specs.Asked.{Asked, Run, Load, Replay, Assemble, Show, Optimum, Curve, Owners, Film, Stats, References, Grade, Repage, RepageOwners, Policies, Request, run_numbers, asked_with_run, asked_load, asked_replay, asked_assemble, asked_show, asked_optimum, asked_owners, film_steps, asked_film, grade_for, asked_grade, machine_numbers, asked_with_trace, asked_trace_owners, owners_first, where_plain, asked_repage, quarter_ahead, so_far_ahead, each_of_several, compared_on, asked_policies, words_of_run, asked_run, request_for, request_of, asked_other, asked_of, request_in}

-- Words that ask for no run.

either : (b : Bool) (x y : Option Asked) → request_in x ≡ None → request_in y ≡ None → request_in (if b then x else y) ≡ None
either true x y one other = one
either false x y one other = other

mapped : {A : Type 0} (f : A → Asked) (o : Option A) → ((a : A) → request_in (Some (f a)) ≡ None) → request_in (option_map f o) ≡ None
mapped f None none = refl
mapped f (Some a) none = none a

chained : {X : Type 0} (f : X → Option Asked) (o : Option X) → ((x : X) → request_in (f x) ≡ None) → request_in (option_and_then f o) ≡ None
chained f None none = refl
chained f (Some x) none = none x

about_run : (most : ℕ) (command : Numbers → List ℕ → List (List ℕ) → Asked) (words : List (List ℕ))
    → ((numbers : Numbers) (schedule : List ℕ) (images : List (List ℕ)) → request_in (Some (command numbers schedule images)) ≡ None)
    → request_in (asked_with_run most command words) ≡ None
unfolding asked_with_run
about_run most command [] none = refl
about_run most command (_ ∷ []) none = refl
about_run most command (_ ∷ _ ∷ []) none = refl
about_run most command (_ ∷ _ ∷ _ ∷ []) none = refl
about_run most command (frames ∷ swap ∷ limit ∷ schedule ∷ images) none =
    either (is_name schedule && are_image_words images) _ None
    (mapped (λ (numbers : Numbers). command numbers schedule images) (run_numbers most frames swap limit) (λ numbers. none numbers schedule images)) refl

load : (words : List (List ℕ)) → request_in (asked_load words) ≡ None
unfolding asked_load
load [] = refl
load (number ∷ []) = mapped Load (number_in 0 LAST_LOAD number) (λ n. refl)
load (_ ∷ _ ∷ _) = refl

replay : (words : List (List ℕ)) → request_in (asked_replay words) ≡ None
unfolding asked_replay
replay [] = refl
replay (transcript ∷ images) = either (is_name transcript && are_image_words images) (Some (Replay transcript images)) None refl refl

assemble : (words : List (List ℕ)) → request_in (asked_assemble words) ≡ None
unfolding asked_assemble
assemble [] = refl
assemble (source ∷ []) = either (is_name source) (Some (Assemble source)) None refl refl
assemble (_ ∷ _ ∷ _) = refl

show : (words : List (List ℕ)) → request_in (asked_show words) ≡ None
unfolding asked_show
show [] = refl
show (image ∷ []) = either (is_name image && starts image) (Some (Show image)) None refl refl
show (_ ∷ _ ∷ _) = refl

optimum : (words : List (List ℕ)) → request_in (asked_optimum words) ≡ None
unfolding asked_optimum
optimum [] = refl
optimum (size ∷ words) =
    chained (λ (n : ℕ). asked_with_run MOST_SHORT_LIMIT (Optimum n) words) (number_in 1 MOST_FRAMES size) (λ n. about_run MOST_SHORT_LIMIT (Optimum n) words (λ numbers schedule images. refl))

owners : (words : List (List ℕ)) → request_in (asked_owners words) ≡ None
unfolding asked_owners
owners [] = refl
owners (entries ∷ words) =
    chained (λ (n : ℕ). asked_with_run MOST_LIMIT (Owners n) words) (number_in 0 JOURNAL_ENTRIES entries) (λ n. about_run MOST_LIMIT (Owners n) words (λ numbers schedule images. refl))

film : (words : List (List ℕ)) → request_in (asked_film words) ≡ None
unfolding asked_film
film [] = refl
film (_ ∷ []) = refl
film (_ ∷ _ ∷ []) = refl
film (from ∷ to ∷ every ∷ words) =
    chained (λ (steps : FilmSteps). asked_with_run MOST_LIMIT (Film steps) words) (film_steps from to every) (λ steps. about_run MOST_LIMIT (Film steps) words (λ numbers schedule images. refl))

grade : (words : List (List ℕ)) → request_in (asked_grade words) ≡ None
unfolding asked_grade
grade [] = refl
grade (_ ∷ []) = refl
grade (_ ∷ _ ∷ []) = refl
grade (_ ∷ _ ∷ _ ∷ []) = refl
grade (_ ∷ _ ∷ _ ∷ _ ∷ []) = refl
grade (frames ∷ swap ∷ limit ∷ schedule ∷ trace ∷ images) =
    either (is_name trace) _ None
    (about_run MOST_LIMIT (grade_for trace) (frames ∷ swap ∷ limit ∷ schedule ∷ images) (λ numbers schedule images. refl)) refl

about_trace : (command : Numbers → List ℕ → List (List ℕ) → Asked) (words : List (List ℕ))
    → ((numbers : Numbers) (trace : List ℕ) (images : List (List ℕ)) → request_in (Some (command numbers trace images)) ≡ None)
    → request_in (asked_with_trace command words) ≡ None
unfolding asked_with_trace
about_trace command [] none = refl
about_trace command (_ ∷ []) none = refl
about_trace command (_ ∷ _ ∷ []) none = refl
about_trace command (frames ∷ swap ∷ trace ∷ images) none =
    either (is_name trace && are_image_words images) _ None
    (mapped (λ (numbers : Numbers). command numbers trace images) (machine_numbers frames swap) (λ numbers. none numbers trace images)) refl

trace_owners : (words : List (List ℕ)) → request_in (asked_trace_owners words) ≡ None
unfolding asked_trace_owners
trace_owners [] = refl
trace_owners (entries ∷ words) =
    chained (λ (n : ℕ). asked_with_trace (RepageOwners n) words) (number_in 0 JOURNAL_ENTRIES entries) (λ n. about_trace (RepageOwners n) words (λ numbers trace images. refl))

repage : (words : List (List ℕ)) → request_in (asked_repage words) ≡ None
unfolding asked_repage
repage words =
    either (owners_first words) _ _
    (either (list_all is_plain (drop 1 words)) _ None (trace_owners (drop 1 words)) refl)
    (either (list_all is_plain words) _ None (about_trace Repage words (λ numbers trace images. refl)) refl)

compared : (references : List ℕ) (comparison : Option Comparison) → request_in (compared_on references comparison) ≡ None
unfolding compared_on
compared references comparison =
    either (is_name references) _ None (mapped (λ (c : Comparison). Policies c references) comparison (λ c. refl)) refl

policies : (words : List (List ℕ)) → request_in (asked_policies words) ≡ None
unfolding asked_policies
policies [] = refl
policies (_ ∷ []) = refl
policies (frames ∷ references ∷ []) = compared references (quarter_ahead frames)
policies (_ ∷ _ ∷ _ ∷ []) = refl
policies (first ∷ second ∷ third ∷ references ∷ []) =
    either (bytes_eq second (codes "hands")) _ _ (compared references (so_far_ahead first third)) (compared references (each_of_several first second third))
policies (_ ∷ _ ∷ _ ∷ _ ∷ _ ∷ _) = refl

pub no_request : (name : List ℕ) (words : List (List ℕ)) → request_in (asked_other name words) ≡ None
unfolding asked_other
no_request name words =
    either (not (list_all is_plain words)) None _ refl
    (either (bytes_eq name (codes "load")) _ _ (load words)
    (either (bytes_eq name (codes "replay")) _ _ (replay words)
    (either (bytes_eq name (codes "as")) _ _ (assemble words)
    (either (bytes_eq name (codes "dis")) _ _ (show words)
    (either (bytes_eq name (codes "opt")) _ _ (optimum words)
    (either (bytes_eq name (codes "curve")) _ _ (about_run MOST_SHORT_LIMIT Curve words (λ numbers schedule images. refl))
    (either (bytes_eq name (codes "owners")) _ _ (owners words)
    (either (bytes_eq name (codes "film")) _ _ (film words)
    (either (bytes_eq name (codes "stats")) _ _ (about_run MOST_LIMIT Stats words (λ numbers schedule images. refl))
    (either (bytes_eq name (codes "refs")) _ _ (about_run MOST_LIMIT References words (λ numbers schedule images. refl))
    (either (bytes_eq name (codes "grade")) _ _ (grade words)
    (either (bytes_eq name (codes "policies")) _ _ (policies words) refl))))))))))))

-- Words that ask for a run.

run_request : (traced : Bool) (words : List (List ℕ))
    → request_in (asked_with_run MOST_LIMIT (Run traced) words) ≡ asked_with_run MOST_LIMIT (request_for traced) words
unfolding asked_with_run
run_request traced [] = refl
run_request traced (_ ∷ []) = refl
run_request traced (_ ∷ _ ∷ []) = refl
run_request traced (_ ∷ _ ∷ _ ∷ []) = refl
run_request traced (frames ∷ swap ∷ limit ∷ schedule ∷ images) = go (is_name schedule && are_image_words images) (run_numbers MOST_LIMIT frames swap limit)
  where
    go : (b : Bool) (o : Option Numbers) → request_in (if b then option_map (λ (n : Numbers). Run traced n schedule images) o else None)
        ≡ (if b then option_map (λ (n : Numbers). request_for traced n schedule images) o else None)
    go true (Some n) = refl
    go true None = refl
    go false o = refl

words_request : (words : List (List ℕ)) → request_in (asked_run words) ≡ words_of_run request_for words
unfolding asked_run
words_request words = go (list_all is_plain (without_trace words))
  where
    go : (b : Bool) → request_in (if b then asked_with_run MOST_LIMIT (Run (list_any is_trace words)) (without_trace words) else None)
        ≡ (if b then asked_with_run MOST_LIMIT (request_for (list_any is_trace words)) (without_trace words) else None)
    go true = run_request (list_any is_trace words) (without_trace words)
    go false = refl

-- the run that words ask for is the one that their command is
pub request_is : (words : List (List ℕ)) → request_in (asked_of words) ≡ request_of words
unfolding asked_of request_of
request_is [] = refl
request_is (name ∷ words) = go (bytes_eq name (codes "run"))
  where
    other : Option Asked
    other = if bytes_eq name (codes "repage") then asked_repage words else asked_other name words

    go : (b : Bool) → request_in (if b then asked_run words else other) ≡ (if b then words_of_run request_for words else None)
    go true = words_request words
    go false = either (bytes_eq name (codes "repage")) _ _ (repage words) (no_request name words)
