-- The words that ask for a run.
use Rattle.std.proofs.Common.{◌≡◌, ℕ, ◌∙◌, Bool, true, false, ◌&&◌, if◌then◌else◌, List, [], ◌∷◌, drop, map, Bor, refl, sym, ap, Option, Some, None}
use Rattle.std.specs.List.{list_all, list_any}
use Rattle.std.specs.Option.{option_map}
use Rattle.std.proofs.lemmas.List.{drop-map}
use Rattle.command_words.specs.declared.command.Numbers.{Numbers}
use Rattle.command_words.specs.declared.limits.TheConstants.{MOST_LIMIT}
use Rattle.command_words.specs.Words.{has_up_to, is_plain, is_name, are_image_words, is_trace, without_trace, word_at}
use Rattle.command_words.specs.Asked.{Asked, Run, run_numbers, asked_with_run, asked_run}

module _ (most : ℕ) (command : Numbers → List ℕ → List (List ℕ) → Asked) where
  -- the words of a run by their places, where one that is missing is empty
  run_by_places : (words : List (List ℕ))
      → asked_with_run most command words
      ≡ (if is_name (word_at words 3) && are_image_words (drop 4 words)
      then option_map (λ (n : Numbers). command n (word_at words 3) (drop 4 words))
      (run_numbers most (word_at words 0) (word_at words 1) (word_at words 2)) else None)
  unfolding asked_with_run is_name has_up_to
  run_by_places [] = refl
  run_by_places (_ ∷ []) = refl
  run_by_places (_ ∷ _ ∷ []) = refl
  run_by_places (_ ∷ _ ∷ _ ∷ []) = refl
  run_by_places (_ ∷ _ ∷ _ ∷ _ ∷ _) = refl

  -- with a schedule and images, their numbers decide
  pub run_read : (words : List (List ℕ)) (frames swap limit schedule : List ℕ) (numbers : Option Numbers) → frames ≡ word_at words 0 → swap ≡ word_at words 1
      → limit ≡ word_at words 2 → schedule ≡ word_at words 3 → is_name schedule ≡ true → are_image_words (drop 4 words) ≡ true
      → numbers ≡ run_numbers most frames swap limit
      → option_map (λ (n : Numbers). command n schedule (drop 4 words)) numbers ≡ asked_with_run most command words
  run_read words frames swap limit schedule numbers frames_at swap_at limit_at schedule_at name images are =
      let named : is_name (word_at words 3) ≡ true = ap is_name (sym schedule_at) ∙ name in
      rw (schedule_at, are, frames_at, swap_at, limit_at) (sym (run_by_places words ∙ rw (named, images) refl))

  -- without a schedule there is no run
  pub unnamed_run : (words : List (List ℕ)) (schedule : List ℕ)
      → schedule ≡ word_at words 3 → is_name schedule ≡ false → None ≡ asked_with_run most command words
  unnamed_run words schedule schedule_at name =
      let unnamed : is_name (word_at words 3) ≡ false = ap is_name (sym schedule_at) ∙ name in
      sym (run_by_places words ∙ rw unnamed refl)

  -- nor without images
  pub imageless_run : (words : List (List ℕ)) → are_image_words (drop 4 words) ≡ false → None ≡ asked_with_run most command words
  imageless_run words images = sym (run_by_places words ∙ rw images (go (is_name (word_at words 3))))
    where
      go : (named : Bool)
          → (if named && false then option_map (λ (n : Numbers). command n (word_at words 3) (drop 4 words)) (run_numbers most (word_at words 0) (word_at words 1) (word_at words 2)) else None) ≡ None
      go true = refl
      go false = refl

-- the words of the images among those of a run
pub images_there : (words images : List (Bor (List ℕ))) (good : Bool) → good ≡ are_image_words (map (λ (word : Bor (List ℕ)). word.now) images)
    → images ≡ drop 4 words
    → are_image_words (drop 4 (map (λ (word : Bor (List ℕ)). word.now) words)) ≡ good
images_there words images good exact is = rw (drop-map, ← is) (sym exact)

-- a run of the words but for the option
pub traced_run : (words : List (List ℕ)) (kept images : List (Bor (List ℕ))) (traced : Bool) (numbers : Numbers) (schedule : List ℕ)
    → map (λ (word : Bor (List ℕ)). word.now) kept ≡ without_trace words → list_all is_plain (map (λ (word : Bor (List ℕ)). word.now) kept) ≡ true
    → traced ≡ list_any is_trace words → images ≡ drop 4 kept
    → Some (Run traced numbers schedule (drop 4 (map (λ (word : Bor (List ℕ)). word.now) kept)))
    ≡ asked_with_run MOST_LIMIT (Run traced) (map (λ (word : Bor (List ℕ)). word.now) kept)
    → Some (Run traced numbers schedule (map (λ (word : Bor (List ℕ)). word.now) images)) ≡ asked_run words
unfolding asked_run
traced_run words kept images traced numbers schedule kept_is plain traced_is images_are asked =
    ap (λ (names : List (List ℕ)). Some (Run traced numbers schedule names)) (rw (images_are, drop-map) refl) ∙ asked ∙ rw (← kept_is, plain, ← traced_is) refl
