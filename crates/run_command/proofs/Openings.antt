-- What was opened, as a machine asks and as inputs of a run.
use Rattle.std.proofs.Common.{◌≡◌, ℕ, zero, suc, ◌-◌, ◌≤◌, List, [], ◌∷◌, length, map, get_or, Option, Some, None, refl, sym, ap, ◌∙◌, subst, arith}
use Rattle.std.specs.Prelude.{All, unwrap_or, slice_get, slice_index_or, bytes_eq}
use Rattle.std.proofs.lemmas.List.Quantifiers.{position-Some}
use Rattle.std.proofs.lemmas.Slice.Eq.{bytes_eq-Decides}
use Rattle.std.proofs.lemmas.List.Elements.{All-head, All-tail}
use Rattle.std.proofs.lemmas.Option.{same_Some}
use Rattle.aout_image.specs.Image.{IsSound, loaded, file_length_of}
use Rattle.io_edge.specs.FileHolding.{NamedFile, no_file, place_of, bytes_at, HasRange}
use Rattle.flat_state.specs.Flat.{NamedImage, image_numbered}
use Rattle.machine_state.specs.New.{AreSound}
use Rattle.machine_state.specs.Applying.{facts_named}
use Rattle.page_model.specs.Place.{facts_of}
use Rattle.kernel_model.specs.Requests.{ImageFile, numbered_files}
use Rattle.machine_state.specs.Sourced.{AreNames, files_named}
use Rattle.machine_state.specs.Files.{AreFiles, HaveFiles, AreLoaded}
use Rattle.vm_core.specs.Reading.{AreNamed}
use Rattle.vm_core.specs.Longwords.{AllImages}
use Rattle.vm_core.proofs.FlatLawsImages.{file_fits}
use Rattle.vm_core.specs.Files.{IsFiled, AreNumbers}
use Rattle.vax_code.specs.Grammar.{AreOctets}
use Rattle.run_opening.specs.declared.images.OpenedImage.{OpenedImage}
use Rattle.command_edge.specs.ImageWords.{IsShortName}
use Rattle.run_opening.specs.Images.{image_in, images_in, file_number, file_numbers, IsIn}
use Rattle.io_edge.specs.Octets.{AreOctetFiles}
use Rattle.run_command.specs.Naming.{shown_as}

-- As a machine asks.

pub shown_facts : (os : List OpenedImage) → facts_named (map shown_as os) ≡ map (λ (o : OpenedImage). o.facts) os
shown_facts [] = refl
shown_facts (o ∷ os) = ap (λ more. o.facts ∷ more) (shown_facts os)

pub shown_length : (os : List OpenedImage) → length (map shown_as os) ≡ length os
shown_length [] = refl
shown_length (o ∷ os) = ap suc (shown_length os)

pub are_sound : (os : List OpenedImage) → All (λ (o : OpenedImage). IsSound o.facts) os → AreSound (facts_named (map shown_as os))
are_sound [] all = tt
are_sound (o ∷ os) all = (All-head (λ (x : OpenedImage). IsSound x.facts) o os all, are_sound os (All-tail (λ (x : OpenedImage). IsSound x.facts) o os all))

pub are_names : (os : List OpenedImage) → All (λ (o : OpenedImage). IsShortName o.name.now) os → AreNames (map shown_as os)
are_names [] all = tt
are_names (o ∷ os) all =
    let h = All-head (λ (x : OpenedImage). IsShortName x.name.now) o os all in
    (h.0, h.1, are_names os (All-tail (λ (x : OpenedImage). IsShortName x.name.now) o os all))

abbrev AllInFiles : Option (List NamedFile) → List OpenedImage → Type 0
AllInFiles holds os = All (λ (o : OpenedImage). HasRange holds o.file 0 (file_length_of o.facts)) os

have_files : (files : List NamedFile) (os : List OpenedImage) → AllInFiles (Some files) os → HaveFiles (map shown_as os) files
have_files files [] all = tt
have_files files (o ∷ os) all =
    let h = All-head (λ (x : OpenedImage). HasRange (Some files) x.file 0 (file_length_of x.facts)) o os all in
    (record { there = h.0; whole = let w = h.1 in omega arith }, have_files files os (All-tail (λ (x : OpenedImage). HasRange (Some files) x.file 0 (file_length_of x.facts)) o os all))

pub are_files : (holds : Option (List NamedFile)) (os : List OpenedImage) → AllInFiles holds os → AreFiles (map shown_as os) holds
are_files None os all = tt
are_files (Some files) os all = have_files files os all

-- As inputs of a run.

pub named_images : (files : List NamedFile) (os : List OpenedImage) → AreNamed (images_in files os) (map shown_as os)
unfolding loaded
named_images files [] = tt
named_images files (o ∷ os) = (refl, refl, named_images files os)

pub loaded_images : (files : List NamedFile) (os : List OpenedImage) → AreLoaded (map shown_as os) files (images_in files os)
loaded_images files [] = tt
loaded_images files (o ∷ os) = (refl, loaded_images files os)

-- the files are those that the run reads
pub numbered_images : (files : List NamedFile) (os : List OpenedImage) → All (IsIn files) os
    → files_named (map shown_as os) ≡ numbered_files (file_numbers files (images_in files os)) (facts_of (images_in files os))
unfolding loaded
numbered_images files [] are = refl
numbered_images files (o ∷ os) are =
    let h : IsIn files o = All-head (IsIn files) o os are in
    let number : file_number files o.name.now ≡ o.file = ap (λ (place : Option ℕ). unwrap_or place 0) h.place in
    ap (λ (more : List ImageFile). let f : ImageFile = record { file = o.file; facts = o.facts } in f ∷ more) (numbered_images files os (All-tail (IsIn files) o os are))
    ∙ ap (λ (n : ℕ). let f : ImageFile = record { file = n; facts = o.facts } in f ∷ numbered_files (file_numbers files (images_in files os)) (facts_of (images_in files os))) (sym number)

-- each image is that of a file
pub filed_at : (files : List NamedFile) (os : List OpenedImage) (number : ℕ) (named : NamedImage) → All (IsIn files) os
    → All (λ (o : OpenedImage). IsShortName o.name.now) os
    → image_numbered (images_in files os) number ≡ Some named → IsFiled named
filed_at files os zero named are short at = absurd cc
filed_at files os (suc place) named are short at = go os place are short at
  where
    go : (xs : List OpenedImage) (k : ℕ) → All (IsIn files) xs → All (λ (o : OpenedImage). IsShortName o.name.now) xs → slice_get (images_in files xs) k ≡ Some named → IsFiled named
    go [] k a n e = absurd cc
    go (x ∷ xs) zero a n e =
        subst IsFiled (same_Some (image_in files x) named e)
        (record { file = bytes_at files x.file; is = (All-head (IsIn files) x xs a).is; name = (All-head (λ (o : OpenedImage). IsShortName o.name.now) x xs n).1 })
    go (x ∷ xs) (suc k) a n e = go xs k (All-tail (IsIn files) x xs a) (All-tail (λ (o : OpenedImage). IsShortName o.name.now) x xs n) e

pub are_numbers : (images : List NamedImage) (ns : List ℕ) → All (λ (n : ℕ). (1 ≤ n) × (n ≤ length images)) ns → AreNumbers images ns
are_numbers images [] all = tt
are_numbers images (n ∷ ns) all =
    let h = All-head (λ (k : ℕ). (1 ≤ k) × (k ≤ length images)) n ns all in
    (let low = h.0 in omega arith, h.1, are_numbers images ns (All-tail (λ (k : ℕ). (1 ≤ k) × (k ≤ length images)) n ns all))

pub images_length : (files : List NamedFile) (os : List OpenedImage) → length (images_in files os) ≡ length os
images_length files [] = refl
images_length files (o ∷ os) = ap suc (images_length files os)

-- What is told of files are bytes.

octets_at : (files : List NamedFile) (k : ℕ) → AreOctetFiles files → AreOctets (bytes_at files k) × AreOctets (slice_index_or files k no_file).name
octets_at [] k all = (tt, tt)
octets_at (f ∷ fs) zero all = (all.0.bytes, all.0.name)
octets_at (f ∷ fs) (suc k) all = octets_at fs k all.1

name_octets : (files : List NamedFile) (name : List ℕ) (k : ℕ) → place_of files name ≡ Some k → AreOctetFiles files → AreOctets name
name_octets files name k at all =
    let found = position-Some (λ (file : NamedFile). bytes_eq file.name name) files k no_file at in
    subst AreOctets ((bytes_eq-Decides (get_or files k no_file).name name).0 found.1) (octets_at files k all).1

pub all_images : (files : List NamedFile) (os : List OpenedImage) → All (IsIn files) os → AreOctetFiles files → AllImages (images_in files os)
all_images files [] are octets = tt
all_images files (o ∷ os) are octets =
    let h : IsIn files o = All-head (IsIn files) o os are in (
      file_fits (image_in files o) (bytes_at files o.file) h.is (octets_at files o.file octets).0 (name_octets files o.name.now o.file h.place
          octets),
      all_images files os (All-tail (IsIn files) o os are) octets,
    )
