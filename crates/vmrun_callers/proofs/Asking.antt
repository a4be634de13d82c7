-- The words of a run, and those of its replay.
use Rattle.std.proofs.Common.{◌≡◌, ℕ, Bool, true, false, ◌&&◌, not, if◌then◌else◌, List, [], ◌∷◌, codes, bytes_eq, Option, Some, None, refl, ap, subst}
use Rattle.std.specs.List.{list_all, list_any}
use Rattle.std.specs.Option.{option_map}
use Rattle.std.proofs.lemmas.Bool.{and_parts}
use Rattle.command_words.specs.declared.command.Numbers.{Numbers}
use Rattle.command_words.specs.declared.limits.TheConstants.{MOST_LIMIT}
use Rattle.command_words.specs.Words.{is_plain, is_name, are_image_words, is_trace, without_trace}
use Rattle.command_words.specs.Asked.{Asked, Run, Replay, run_numbers, asked_with_run, asked_replay, asked_repage, words_of_run, asked_run, request_for, request_of, asked_other, asked_of, request_in}
use Rattle.command_words.proofs.Requests.{request_is}

-- The words of images with which a run is asked for.

-- none of them is empty or begins with a hyphen, and they are words of images
pub record AreGood (images : List (List ℕ)) : Type 0 where
  pub plain : list_all is_plain images ≡ true
  pub images_are : are_image_words images ≡ true

module _ (traced : Bool) (numbers : Numbers) (schedule : List ℕ) (images : List (List ℕ)) where
  same_images : (option : Bool) (name : List ℕ) (words : List (List ℕ)) (o : Option Numbers) → option_map (λ (n : Numbers). Run option n name words) o ≡ Some (Run traced numbers schedule images)
      → words ≡ images
  same_images option name words None is = absurd cc
  same_images option name words (Some n) is = cc

  by_places : (option : Bool) (words : List (List ℕ)) → list_all is_plain words ≡ true → asked_with_run MOST_LIMIT (Run option) words ≡ Some (Run traced numbers schedule images) → AreGood images
  unfolding asked_with_run
  by_places option [] plain is = absurd cc
  by_places option (_ ∷ []) plain is = absurd cc
  by_places option (_ ∷ _ ∷ []) plain is = absurd cc
  by_places option (_ ∷ _ ∷ _ ∷ []) plain is = absurd cc
  by_places option (frames ∷ swap ∷ limit ∷ name ∷ words) plain is =
      let first = and_parts (is_plain frames) (list_all is_plain (swap ∷ limit ∷ name ∷ words)) plain in
      let second = and_parts (is_plain swap) (list_all is_plain (limit ∷ name ∷ words)) first.1 in
      let third = and_parts (is_plain limit) (list_all is_plain (name ∷ words)) second.1 in
      let rest = and_parts (is_plain name) (list_all is_plain words) third.1 in
      go (is_name name) (are_image_words words) rest.1 refl is
    where
      go : (named good : Bool) → list_all is_plain words ≡ true → are_image_words words ≡ good
          → (if named && good then option_map (λ (n : Numbers). Run option n name words) (run_numbers MOST_LIMIT frames swap limit) else None) ≡ Some (Run traced numbers schedule images)
          → AreGood images
      go true true all are same = subst AreGood (same_images option name words (run_numbers MOST_LIMIT frames swap limit) same) (record { plain = all; images_are = are })
      go true false all are same = absurd cc
      go false good all are same = absurd cc

  after_run : (words : List (List ℕ)) → asked_run words ≡ Some (Run traced numbers schedule images) → AreGood images
  unfolding asked_run
  after_run words is = go (list_all is_plain (without_trace words)) refl is
    where
      go : (plain : Bool) → list_all is_plain (without_trace words) ≡ plain
          → (if plain then asked_with_run MOST_LIMIT (Run (list_any is_trace words)) (without_trace words) else None) ≡ Some (Run traced numbers schedule images) → AreGood images
      go true all same = by_places (list_any is_trace words) (without_trace words) all same
      go false all same = absurd cc

  pub good_images : (words : List (List ℕ)) → asked_of words ≡ Some (Run traced numbers schedule images) → AreGood images
  unfolding asked_of request_of
  good_images [] is = absurd cc
  good_images (name ∷ words) is = go (bytes_eq name (codes "run")) is (request_is (name ∷ words))
    where
      other : Option Asked
      other = if bytes_eq name (codes "repage") then asked_repage words else asked_other name words

      go : (b : Bool) → (if b then asked_run words else other) ≡ Some (Run traced numbers schedule images)
          → request_in (if b then asked_run words else other) ≡ (if b then words_of_run request_for words else None) → AreGood images
      go true same asked = after_run words same
      go false same asked = absurd (let some : request_in other ≡ Some (request_for traced numbers schedule images) = ap request_in same in cc)

-- the words of a replay over such images ask for it
pub replay_asked : (transcript : List ℕ) (images : List (List ℕ)) → is_plain transcript ≡ true → is_name transcript ≡ true → AreGood images
    → asked_of (codes "replay" ∷ transcript ∷ images) ≡ Some (Replay transcript images)
unfolding asked_of asked_other asked_replay
replay_asked transcript images plain name good = go (is_plain transcript) (list_all is_plain images) (is_name transcript) (are_image_words images) plain good.plain name good.images_are
  where
    go : (a b c d : Bool) → a ≡ true → b ≡ true → c ≡ true → d ≡ true
        → (if not (a && b) then None else (if c && d then Some (Replay transcript images) else None)) ≡ Some (Replay transcript images)
    go true true true true h k l m = refl
    go true true true false h k l m = absurd cc
    go true true false d h k l m = absurd cc
    go true false c d h k l m = absurd cc
    go false b c d h k l m = absurd cc
