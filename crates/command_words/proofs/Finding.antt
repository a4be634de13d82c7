-- What is found among words is found among their bytes.
use Rattle.std.proofs.Common.{◌≡◌, ℕ, Bool, true, false, not, List, [], ◌∷◌, map, Bor, refl, Option, Some, find, if◌then◌else◌}
use Rattle.std.specs.Option.{option_map}
use Rattle.std.proofs.Common.{ap, ◌∙◌}
use Rattle.command_words.specs.declared.reasons.Argument.TheVariants.{Image}
use Rattle.command_words.specs.Words.{is_plain, is_image_word}
use Rattle.command_words.specs.Reasons.{Why, Refused, NotPlain, bad_image, bad_plain}

chosen : (b : Bool) (word : Bor (List ℕ)) (rest : Option (Bor (List ℕ))) (other : Option (List ℕ)) → option_map (λ (w : Bor (List ℕ)). w.now) rest ≡ other
    → option_map (λ (w : Bor (List ℕ)). w.now) (if b then Some word else rest) ≡ (if b then Some word.now else other)
chosen true word rest other same = refl
chosen false word rest other same = same

pub found_bytes : (p : List ℕ → Bool) (words : List (Bor (List ℕ)))
    → option_map (λ (w : Bor (List ℕ)). w.now) (find (λ (w : Bor (List ℕ)). not (p w.now)) words)
    ≡ find (λ word. not (p word)) (map (λ (w : Bor (List ℕ)). w.now) words)
found_bytes p [] = refl
found_bytes p (word ∷ words) = chosen (not (p word.now)) word _ _ (found_bytes p words)

told : (p : List ℕ → Bool) (f : List ℕ → Why) (words : List (Bor (List ℕ))) (found : Option (Bor (List ℕ)))
    → found ≡ find (λ (w : Bor (List ℕ)). not (p w.now)) words
    → option_map f (option_map (λ (w : Bor (List ℕ)). w.now) found) ≡ option_map f (find (λ word. not (p word)) (map (λ (w : Bor (List ℕ)). w.now) words))
told p f words found is = ap (option_map f) (ap (option_map (λ (w : Bor (List ℕ)). w.now)) is ∙ found_bytes p words)

-- the first word that is none of an image, as a reason
pub unnamed_told : (words : List (Bor (List ℕ))) (found : Option (Bor (List ℕ))) → found ≡ find (λ (w : Bor (List ℕ)). not (is_image_word w.now)) words
    → option_map (Refused Image) (option_map (λ (w : Bor (List ℕ)). w.now) found) ≡ bad_image (map (λ (w : Bor (List ℕ)). w.now) words)
unnamed_told words found is = told is_image_word (Refused Image) words found is

-- the first word that is empty or begins with a hyphen, as a reason
pub unplain_told : (words : List (Bor (List ℕ))) (found : Option (Bor (List ℕ))) → found ≡ find (λ (w : Bor (List ℕ)). not (is_plain w.now)) words
    → option_map NotPlain (option_map (λ (w : Bor (List ℕ)). w.now) found) ≡ bad_plain (map (λ (w : Bor (List ℕ)). w.now) words)
unplain_told words found is = told is_plain NotPlain words found is
