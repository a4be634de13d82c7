-- The images of a load, as inputs of a run.
use Rattle.std.proofs.Common.{◌≡◌, ℕ, ◌+◌, ◌*◌, ◌-◌, ◌^◌, ◌<◌, ◌≤◌, Bool, true, false, ◌&&◌, nat_lt, List, [], ◌∷◌, ◌++◌, length, map, take, drop, replicate, Option, Some, Ok, Result, refl, sym, ap, ◌∙◌, subst, arith}
use Rattle.std.specs.Prelude.{All, codes}
use Rattle.std.specs.List.{list_all}
use Rattle.std.proofs.lemmas.List.Elements.{All-nil, All-cons, All-head, All-tail}
use Rattle.std.proofs.lemmas.Bool.{ltb-true}
use Rattle.std.proofs.lemmas.List.FromFn.{length-map-range_with_len}
use Rattle.vm_facts.specs.SwapImages.{SwapImage}
use Rattle.vm_facts.specs.declared.event.Event.{Event}
use Rattle.io_edge.specs.FileHolding.{NamedFile, HasRange}
use Rattle.io_edge.specs.Striping.{pair_blocks, zero_needs, one_needs, device_of, MeetsNeeds}
use Rattle.io_edge.specs.StripeSizes.{tell_blocks, pair_whole}
use Rattle.aout_image.specs.Image.{Loaded, judged_image, word_bytes, in_pages, pages_for, file_length_of}
use Rattle.vax_code.specs.Grammar.{AreOctets}
use Rattle.flat_state.specs.Flat.{NamedImage, image_numbered}
use Rattle.page_model.specs.Place.{facts_of}
use Rattle.kernel_model.specs.Requests.{numbered_files}
use Rattle.machine_state.specs.Sourced.{files_named}
use Rattle.machine_state.specs.Files.{AreFiles, AreImages}
use Rattle.vm_core.specs.Reading.{AreNamed}
use Rattle.vm_core.specs.Longwords.{AllImages}
use Rattle.vm_core.proofs.Octets.{zero_octets}
use Rattle.command_edge.specs.ImageWords.{IsShortName}
use Rattle.vm_core.specs.Files.{AreInputs}
use Rattle.vm_core.proofs.Filing.{images_fit}
use Rattle.vm_core.specs.FirstProcesses.{StartsFrom}
use Rattle.vm_core.specs.RunEnds.{IsAskedOf}
use Rattle.command_edge.specs.Named.{Why, before}
use Rattle.vax_code.proofs.Readers.{octets-append}
use Rattle.run_opening.specs.declared.images.OpenedImage.{OpenedImage}
use Rattle.run_opening.specs.Images.{named_image, image_in, images_found, images_in, file_numbers, IsIn}
use Rattle.load_maker.specs.Programs.{w_bytes, v_bytes}
use Rattle.load_maker.specs.Load.{load_pages, load_files, load_images, load_lines, line_drawn, drawn, w_bss, v_bss}
use Rattle.run_command.specs.Naming.{shown_as}
use Rattle.run_command.specs.Machines.{machine_of}
use Rattle.run_command.specs.Paired.{image_together}
use Rattle.run_command.specs.Loads.{load_names, load_first, load_numbers, load_inputs}
use Rattle.run_command.proofs.Openings.{named_images, loaded_images, numbered_images, filed_at, are_numbers, images_length, are_files}
use Rattle.run_command.proofs.LoadLength.{line_count}

-- The bytes of the programs.

all_octets : (bytes : List ℕ) → list_all (λ b. nat_lt b 256) bytes ≡ true → AreOctets bytes
all_octets [] e = tt
all_octets (b ∷ bytes) e = go (nat_lt b 256) refl (all_octets bytes) e
  where
    go : (low : Bool) → nat_lt b 256 ≡ low → (list_all (λ x. nat_lt x 256) bytes ≡ true → AreOctets bytes) → (low && list_all (λ x. nat_lt x 256) bytes) ≡ true → AreOctets (b ∷ bytes)
    go true is behind more = (ltb-true b 256 is, behind more)
    go false is behind more = absurd cc

word_octets : (n : ℕ) → AreOctets (word_bytes n)
word_octets n = (omega arith, (omega arith, (omega arith, (omega arith, tt))))

-- a program with its pages left out
w_octets : (pages : ℕ) → AreOctets (w_bytes pages)
unfolding w_bytes
w_octets pages =
    let front = take 28 (w_bytes 0) in
    let middle = take 132 (drop 32 (w_bytes 0)) in
    let back = drop 168 (w_bytes 0) in
    octets-append front (word_bytes pages ++ (middle ++ (word_bytes (1024 + 1024 * pages) ++ back))) (all_octets front refl)
    (octets-append (word_bytes pages) (middle ++ (word_bytes (1024 + 1024 * pages) ++ back)) (word_octets pages)
    (octets-append middle (word_bytes (1024 + 1024 * pages) ++ back) (all_octets middle refl)
    (octets-append (word_bytes (1024 + 1024 * pages)) back (word_octets (1024 + 1024 * pages)) (all_octets back refl))))

v_octets : (pages : ℕ) → AreOctets (v_bytes pages)
unfolding v_bytes
v_octets pages =
    let front = take 14 (v_bytes 0) in
    let back = drop 18 (v_bytes 0) in
    octets-append front (word_bytes pages ++ back) (all_octets front refl) (octets-append (word_bytes pages) back (word_octets pages) (all_octets back refl))

paged_octets : (bytes : List ℕ) → AreOctets bytes → AreOctets (in_pages 1 bytes)
paged_octets bytes a = octets-append bytes (replicate (1024 * 1 - length bytes) 0) a (zero_octets (1024 * 1 - length bytes))

load_octets : (number : ℕ) → AllImages (load_inputs number).images
unfolding load_images
load_octets number =
    let pages = load_pages number in (
      record { entry = omega arith; name = all_octets (codes "w") refl; text = paged_octets (w_bytes pages) (w_octets pages); «data» = zero_octets (1024 * pages_for w_bss) },
      (
        record { entry = omega arith; name = all_octets (codes "v") refl; text = paged_octets (v_bytes pages) (v_octets pages); «data» = zero_octets (1024 * pages_for (v_bss pages)) },
        tt,
      ),
    )

-- The images that are found under their names.

first_is : {X : Type 0} (x y : X) (xs ys : List X) → (x ∷ xs) ≡ (y ∷ ys) → x ≡ y
first_is x y xs ys e = cc

more_is : {X : Type 0} (x y : X) (xs ys : List X) → (x ∷ xs) ≡ (y ∷ ys) → xs ≡ ys
more_is x y xs ys e = cc

-- two files under these names
abbrev two_named : List ℕ → List ℕ → List NamedFile
two_named w v = record { name = codes "w"; bytes = w } ∷ record { name = codes "v"; bytes = v } ∷ []

abbrev two_loaded : Loaded → Loaded → List NamedImage
two_loaded w v = record { name = codes "w"; image = w } ∷ record { name = codes "v"; image = v } ∷ []

two_found : (w_file v_file : List ℕ) (w v : Loaded) → judged_image w_file ≡ Ok w → judged_image v_file ≡ Ok v
    → images_found (two_named w_file v_file) load_names ≡ Ok (two_loaded w v)
two_found w_file v_file w v e d =
    ap (λ (r : Result Loaded ℕ). before (named_image (codes "w") r) (before (named_image (codes "v") (judged_image v_file)) (Ok []))) e
    ∙ ap (λ (r : Result Loaded ℕ). before (Ok (record { name = codes "w"; image = w })) (before (named_image (codes "v") r) (Ok []))) d

pub load_found : (number : ℕ) → map (λ (file : NamedFile). judged_image file.bytes) (load_files number)
    ≡ map (λ (image : Loaded). Ok image) (load_images number)
    → images_found (load_files number) load_names ≡ Ok (load_inputs number).images
unfolding load_files load_images
load_found number e = two_found _ _ _ _ (first_is _ _ _ _ e) (first_is _ _ _ _ (more_is _ _ _ _ e))

same_Ok : (a b : List NamedImage) → ◌≡◌ {A = Result (List NamedImage) Why} (Ok a) (Ok b) → a ≡ b
same_Ok a b e = cc

pub found_in : (number : ℕ) (files : List NamedFile) → files ≡ load_files number
    → map (λ (file : NamedFile). judged_image file.bytes) files ≡ map (λ (image : Loaded). Ok image) (load_images number)
    → images_found (load_files number) load_names ≡ Ok (load_inputs number).images
found_in number files is images =
    load_found number (subst (λ (fs : List NamedFile). map (λ (file : NamedFile). judged_image file.bytes) fs ≡ map (λ (image : Loaded). Ok image) (load_images number)) is images)

-- the images that were opened are those of the load
pub same_images : (number : ℕ) (holds : Option (List NamedFile)) (files : List NamedFile) (os : List OpenedImage) → holds ≡ Some files
    → files ≡ load_files number
    → map (λ (file : NamedFile). judged_image file.bytes) files ≡ map (λ (image : Loaded). Ok image) (load_images number)
    → ((list : List NamedFile) → holds ≡ Some list → images_found list load_names ≡ Ok (images_in list os))
    → images_in (load_files number) os ≡ (load_inputs number).images
same_images number holds files os told is images answers =
    same_Ok (images_in (load_files number) os) (load_inputs number).images
    (sym (answers (load_files number) (told ∙ ap (λ (fs : List NamedFile). Some fs) is)) ∙ found_in number files is images)

-- their files hold all that their headers say
pub files_opened : (old new : Option (List NamedFile)) (os xs : List OpenedImage) → new ≡ old → xs ≡ os
    → All (λ (o : OpenedImage). HasRange old o.file 0 (file_length_of o.facts)) os → AreFiles (map shown_as xs) new
files_opened old new os xs same is ranges =
    subst (λ (ys : List OpenedImage). AreFiles (map shown_as ys) new) (sym is) (subst (λ (h : Option (List NamedFile)). AreFiles (map shown_as os) h) (sym same) (are_files old os ranges))

pub two_images : (number : ℕ) → length (load_inputs number).images ≡ 2
unfolding load_images
two_images number = refl

abbrev HasShortName : NamedImage → Type 0
HasShortName named = IsShortName named.name

two_short : (w v : Loaded) → All HasShortName (two_loaded w v)
two_short w v =
    let w_named : NamedImage = record { name = codes "w"; image = w } in
    let v_named : NamedImage = record { name = codes "v"; image = v } in
    All-cons HasShortName w_named (v_named ∷ []) (omega arith, omega arith) (All-cons HasShortName v_named [] (omega arith, omega arith) (All-nil HasShortName))

load_short : (number : ℕ) → All HasShortName (load_inputs number).images
unfolding load_images
load_short number = two_short _ _

pub few_lines : (number : ℕ) (lines more : List Event) → more ≡ lines → lines ≡ load_lines number → length more < 2 ^ 32
few_lines number lines more same is = let count : length more ≡ 200 = ap length (same ∙ is) ∙ line_count number in omega arith

pub two_files : (number : ℕ) → length (load_files number) ≡ 2
unfolding load_files
two_files number = refl

pub first_numbers : (most : ℕ) → 1 ≤ most → All (λ (n : ℕ). (1 ≤ n) × (n ≤ most)) load_first
first_numbers most some = one (1 ∷ 1 ∷ 1 ∷ []) (one (1 ∷ 1 ∷ []) (one (1 ∷ []) (one [] (All-nil Fits))))
  where
    Fits : ℕ → Type 0
    Fits n = (1 ≤ n) × (n ≤ most)

    one : (ns : List ℕ) → All Fits ns → All Fits (1 ∷ ns)
    one ns all = All-cons Fits 1 ns (omega arith, some) all

-- The swap image has all blocks.
pub has_room : (z o : ℕ) (evens odds : Option SwapImage) (image : SwapImage) → ((whole : SwapImage) → evens ≡ Some whole → length whole.bytes ≡ 512 * z)
    → ((whole : SwapImage) → odds ≡ Some whole → length whole.bytes ≡ 512 * o)
    → MeetsNeeds z o load_numbers.swap → image_together z o evens odds ≡ Some image → 512 * load_numbers.swap ≤ length image.bytes
unfolding pair_blocks zero_needs one_needs device_of
has_room z o evens odds image whole_z whole_o meets told =
    let long = pair_whole (pair_blocks z o) evens odds image (tell_blocks z o evens odds whole_z whole_o) told in
    let zero_meets = meets.0 in
    let one_meets = meets.1 in
    omega arith

-- Opened images that are those of the load.
module _ (number : ℕ) (os : List OpenedImage) (same : images_in (load_files number) os ≡ (load_inputs number).images) where
  pub two_opened : length os ≡ 2
  two_opened = sym (images_length (load_files number) os) ∙ ap length same ∙ two_images number

  pub short_opened : All (λ (o : OpenedImage). IsShortName o.name.now) os
  short_opened = go os (subst (All HasShortName) (sym same) (load_short number))
    where
      go : (xs : List OpenedImage) → All HasShortName (images_in (load_files number) xs) → All (λ (o : OpenedImage). IsShortName o.name.now) xs
      go [] all = All-nil (λ (o : OpenedImage). IsShortName o.name.now)
      go (x ∷ xs) all =
          All-cons (λ (o : OpenedImage). IsShortName o.name.now) x xs (All-head HasShortName (image_in (load_files number) x) (images_in (load_files number) xs) all)
          (go xs (All-tail HasShortName (image_in (load_files number) x) (images_in (load_files number) xs) all))

  fit : All (IsIn (load_files number)) os → AreInputs (load_inputs number)
  fit are_in = record {
    files = λ n named at. filed_at (load_files number) os n named are_in short_opened (subst (λ (images : List NamedImage). image_numbered images n ≡ Some named) (sym same) at);
    numbers = are_numbers (load_inputs number).images load_first (first_numbers (length (load_inputs number).images) (let two = two_images number in omega arith));
    few = omega arith;
    frames = omega arith;
  }

  pub starts_from : StartsFrom (load_inputs number) (machine_of load_numbers (map shown_as os)) load_first
  starts_from = record { named = subst (λ (images : List NamedImage). AreNamed images (map shown_as os)) same (named_images (load_files number) os); first = refl; frames = refl; blocks = refl }

  pub is_asked_of : (holds : Option (List NamedFile)) (lines : List Event) (image : SwapImage) → holds ≡ Some (load_files number) → lines ≡ load_lines number → All (IsIn (load_files number)) os
      → 512 * load_numbers.swap ≤ length image.bytes → IsAskedOf (load_inputs number) (machine_of load_numbers (map shown_as os)) load_first lines holds image
  is_asked_of holds lines image told lines_are are_in room = record {
    named = subst (λ (images : List NamedImage). AreNamed images (map shown_as os)) same (named_images (load_files number) os);
    first = refl;
    lines_are = sym lines_are;
    frames = refl;
    blocks = refl;
    limit = refl;
    images = (
      subst (λ (h : Option (List NamedFile)). AreImages (map shown_as os) h (load_inputs number).images) (sym told)
          (subst (λ (images : List NamedImage). AreImages (map shown_as os) (Some (load_files number)) images) same (loaded_images (load_files number) os)),
      subst (λ (images : List NamedImage). files_named (map shown_as os) ≡ numbered_files (file_numbers (load_files number) images) (facts_of images)) same
          (numbered_images (load_files number) os are_in),
    );
    fit = images_fit (load_inputs number) (fit are_in);
    octets = load_octets number;
    few = omega arith;
    room = room;
  }
