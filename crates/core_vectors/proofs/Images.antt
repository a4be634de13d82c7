-- Images that are opened, one after another.
use Rattle.std.proofs.Common.{◌≡◌, ◌<◌, List, [], ◌∷◌, ◌++◌, length, map, Option, Some, None, sym, subst, arith}
use Rattle.std.specs.Prelude.{string_bytes}
use Rattle.io_edge.specs.FileHolding.{NamedFile, HasRange}
use Rattle.aout_image.specs.Image.{IsSound, file_length_of}
use Rattle.machine_state.specs.Named.{Named}
use Rattle.machine_state.specs.Files.{AreFiles}
use Rattle.machine_state.specs.Machine.{image_shown}
use Rattle.machine_state.specs.New.{AreSound}
use Rattle.machine_state.specs.Sourced.{AreNames}
use Rattle.core_vectors.specs.Ready.{AreFit}

has_file : (image : Named) (holds : Option (List NamedFile)) → HasRange holds image.file 0 (file_length_of image.facts)
    → AreFiles (image_shown image ∷ []) holds
has_file image None range = tt
has_file image (Some files) range = (record { there = range.0; whole = omega (arith, range.1) }, tt)

pub opened_fit : (image : Named) (holds : Option (List NamedFile)) → IsSound image.facts → 0 < length (string_bytes image.name)
    → length (string_bytes image.name) < 64
    → HasRange holds image.file 0 (file_length_of image.facts) → AreFit (image ∷ []) holds
opened_fit image holds sound some few range = record { sound = (sound, tt); names = (some, few, tt); files = has_file image holds range }

-- One more.

more_sound : (xs : List Named) (y : Named) → AreSound (map (λ (x : Named). x.facts) xs) → IsSound y.facts
    → AreSound (map (λ (x : Named). x.facts) (xs ++ y ∷ []))
more_sound [] y all one = (one, tt)
more_sound (x ∷ xs) y all one = (all.0, more_sound xs y all.1 one)

more_names : (xs : List Named) (y : Named) → AreNames (map image_shown xs) → AreNames (image_shown y ∷ []) → AreNames (map image_shown (xs ++ y ∷ []))
more_names [] y all one = one
more_names (x ∷ xs) y all one = (all.0, all.1, more_names xs y all.2 one)

more_files : (xs : List Named) (y : Named) (holds : Option (List NamedFile)) → AreFiles (map image_shown xs) holds → AreFiles (image_shown y ∷ []) holds
    → AreFiles (map image_shown (xs ++ y ∷ [])) holds
more_files xs y None all one = tt
more_files [] y (Some files) all one = one
more_files (x ∷ xs) y (Some files) all one = (all.0, more_files xs y (Some files) all.1 one)

pub one_more : (xs ys : List Named) (y : Named) (old new : Option (List NamedFile)) → ys ≡ xs ++ y ∷ [] → new ≡ old → AreFit xs old → AreFit (y ∷ []) new
    → AreFit ys new
one_more xs ys y old new pushed same all one =
    let before : AreFit xs new = subst (AreFit xs) (sym same) all in
    subst (λ (images : List Named). AreFit images new) (sym pushed) (record {
      sound = more_sound xs y before.sound one.sound.0;
      names = more_names xs y before.names one.names;
      files = more_files xs y new before.files one.files;
    })
