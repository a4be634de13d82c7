-- A run in memory, and its references.
use Rattle.std.proofs.Common.{OnOk, ◌≡◌, ℕ, ◌*◌, ◌≤◌, List, [], ◌∷◌, length, map, Option, Some, None, Result, Ok, Err, Bor, refl, sym, ap, ◌∙◌, subst, arith}
use Rattle.std.specs.Prelude.{All}
use Rattle.std.proofs.lemmas.List.{length-map, length-replicate}
use Rattle.std.proofs.lemmas.List.Elements.{All-nil, All-cons, All-head, All-tail, All-weaker}
use Rattle.vm_facts.specs.SwapImages.{SwapImage}
use Rattle.vm_facts.specs.declared.entry.Entry.{Entry}
use Rattle.vm_facts.specs.declared.event.Event.{Event}
use Rattle.vm_facts.specs.declared.page.Page.{Page}
use Rattle.io_edge.specs.FileHolding.{NamedFile, HasRange}
use Rattle.aout_image.specs.Image.{IsSound, file_length_of}
use Rattle.flat_state.specs.Flat.{NamedImage, Inputs}
use Rattle.flat_state.specs.Journal.{instructions_of}
use Rattle.machine_state.specs.Files.{AreFiles}
use Rattle.machine_state.specs.Machine.{Standing}
use Rattle.run_model.specs.State.{start}
use Rattle.run_command.specs.Files.{AreInputs}
use Rattle.run_command.proofs.Filing.{images_fit}
use Rattle.run_command.proofs.Finishing.{units_below}
use Rattle.run_command.specs.Lawful.{RunFinished}
use Rattle.run_command.specs.RunEnds.{IsAskedOf}
use Rattle.command_edge.specs.ImageWords.{IsShortName}
use Rattle.reference_answers.specs.Grammar.{most_references}
use Rattle.replay_check.specs.Images.{FlatFile, IsImageFile, images_of}
use Rattle.replay_check.specs.Verdicts.{references_of, first_bad}
use Rattle.run_command.proofs.Fronts.{none_is_bad}
use Rattle.command_edge.specs.Named.{Why}
use Rattle.command_words.specs.declared.command.Numbers.{Numbers}
use Rattle.command_words.specs.declared.limits.TheConstants.{MOST_LIMIT, MOST_SHORT_LIMIT}
use Rattle.run_opening.specs.declared.images.OpenedImage.{OpenedImage}
use Rattle.run_opening.specs.Images.{images_found, images_in, file_numbers, IsIn}
use Rattle.io_edge.specs.Octets.{AreOctetFiles}
use Rattle.run_command.specs.Naming.{shown_as}
use Rattle.run_command.specs.Machines.{machine_up_to}
use Rattle.run_command.proofs.Openings.{are_files, named_images, loaded_images, numbered_images, filed_at, are_numbers, images_length, all_images}
use Rattle.reference_commands.specs.Answering.{blank_stores}
use Rattle.reference_commands.specs.InMemory.{file_of, inputs_with, AreOpened, IsRunnable, HasReferences, AllDiffer}
use Rattle.reference_commands.proofs.Counts.{references_few}
use Rattle.reference_commands.proofs.Names.{all_found}

-- The run is finished.

pub finished : (A : Inputs) (journal : List Entry) (left : Option SwapImage) (pages : List Page) → A.limit ≤ MOST_LIMIT
    → RunFinished A journal (blank_stores A.swap_blocks) left
    → (first_bad A journal ≡ None → pages ≡ references_of A journal) → HasReferences A pages
finished A journal left pages limit run answer =
    let below : run.state.count ≤ A.limit = units_below A run.made.units (start A run.made.holdings) run.state run.made.follows (omega arith) in
    let count : instructions_of journal ≡ run.state.count = run.made.lawful.count in
    let are : pages ≡ references_of A journal = answer (none_is_bad A journal run.state.point run.made.lawful.flat (omega arith)) in
    record { journal = journal; left = left; finished = run; are = are }

-- a run of at most 100,000 instructions has so few that `opt` and `curve` can be asked about them
pub few_references : (A : Inputs) (pages : List Page) → A.limit ≤ MOST_SHORT_LIMIT → HasReferences A pages → length pages ≤ most_references
few_references A pages limit has =
    let run : RunFinished A has.journal (blank_stores A.swap_blocks) has.left = has.finished in
    let below : run.state.count ≤ A.limit = units_below A run.made.units (start A run.made.holdings) run.state run.made.follows (omega arith) in
    let count : instructions_of has.journal ≡ run.state.count = run.made.lawful.count in
    let few : length (references_of A has.journal) ≤ 28 * instructions_of has.journal = references_few A has.journal run.made.can.images in
    subst (λ (xs : List Page). length xs ≤ most_references) (sym has.are) (omega arith)

-- Images that were opened.

pub short_opened : (opened : List OpenedImage) (names : List (Bor (List ℕ))) → map (λ (image : OpenedImage). image.name) opened ≡ names
    → All (λ (name : Bor (List ℕ)). IsShortName name.now) names
    → All (λ (image : OpenedImage). IsShortName image.name.now) opened
short_opened opened names are short = go opened (subst (All (λ (name : Bor (List ℕ)). IsShortName name.now)) (sym are) short)
  where
    go : (xs : List OpenedImage) → All (λ (name : Bor (List ℕ)). IsShortName name.now) (map (λ (image : OpenedImage). image.name) xs) → All (λ (image : OpenedImage). IsShortName image.name.now) xs
    go [] all = All-nil (λ (image : OpenedImage). IsShortName image.name.now)
    go (x ∷ xs) all =
        All-cons (λ (image : OpenedImage). IsShortName image.name.now) x xs
        (All-head (λ (name : Bor (List ℕ)). IsShortName name.now) x.name (map (λ (image : OpenedImage). image.name) xs) all)
        (go xs (All-tail (λ (name : Bor (List ℕ)). IsShortName name.now) x.name (map (λ (image : OpenedImage). image.name) xs) all))

pub opened_count : (images : List FlatFile) (opened : List OpenedImage) (names : List (Bor (List ℕ))) → map (λ (image : OpenedImage). image.name) opened ≡ names
    → map (λ (image : FlatFile). image.name) images ≡ map (λ (name : Bor (List ℕ)). name.now) names → length opened ≡ length images
opened_count images opened names are named =
    let a = length-map opened (λ (image : OpenedImage). image.name) in
    let b = length-map images (λ (image : FlatFile). image.name) in
    let c = length-map names (λ (name : Bor (List ℕ)). name.now) in
    let d = ap length are in
    let e = ap length named in
    omega arith

ok_same : (some other : List NamedImage) → Path (Result (List NamedImage) Why) (Ok some) (Ok other) → some ≡ other
ok_same some other is = cc

pub are_opened : (images : List FlatFile) (opened : List OpenedImage) (names : List (Bor (List ℕ))) (holds : Option (List NamedFile))
    → holds ≡ Some (map file_of images)
    → images_found (map file_of images) (map (λ (name : Bor (List ℕ)). name.now) names) ≡ Ok (images_in (map file_of images) opened)
    → All (IsIn (map file_of images)) opened → All (λ (image : OpenedImage). IsSound image.facts) opened
    → All (λ (image : OpenedImage). HasRange holds image.file 0 (file_length_of image.facts)) opened
    → map (λ (image : OpenedImage). image.name) opened ≡ names → map (λ (image : FlatFile). image.name) images ≡ map (λ (name : Bor (List ℕ)). name.now) names
    → AllDiffer (map (λ (name : Bor (List ℕ)). name.now) names) → All IsImageFile images
    → All (λ (name : Bor (List ℕ)). IsShortName name.now) names → length names ≤ 16
    → AreOpened images opened
are_opened images opened names holds told found are_in sound ranges are named differ good short few =
    let there : images_found (map file_of images) (map (λ (name : Bor (List ℕ)). name.now) names) ≡ Ok (images_of images)
    = subst (λ (ns : List (List ℕ)). images_found (map file_of images) ns ≡ Ok (images_of images)) named (all_found images (subst AllDiffer (sym named) differ) good) in
    record {
      are = ok_same (images_in (map file_of images) opened) (images_of images) (sym found ∙ there);
      are_in = are_in;
      sound = sound;
      ranges = subst (λ (h : Option (List NamedFile)). All (λ (image : OpenedImage). HasRange h image.file 0 (file_length_of image.facts)) opened) told ranges;
      short = short_opened opened names are short;
      count = opened_count images opened names are named;
      few = let many = length-map opened (λ (image : OpenedImage). image.name) in let same = ap length are in omega arith;
    }

-- The inputs of their run.

module _ (entries : ℕ) (numbers : Numbers) (images : List FlatFile) (opened : List OpenedImage) (first : List ℕ) (lines : List Event)
    (o : AreOpened images opened) (r : IsRunnable numbers (length images) first lines) (octets : AreOctetFiles (map file_of images)) where
  abbrev files : List NamedFile
  files = map file_of images

  abbrev over : List NamedImage → Inputs
  over xs = record { images = xs; file_numbers = file_numbers files xs; first = first; lines = lines; frames = numbers.frames; swap_blocks = numbers.swap; limit = numbers.limit }

  fit : AreInputs (over (images_in files opened))
  fit = record {
    files = λ number named at. filed_at files opened number named o.are_in o.short at;
    numbers = are_numbers (images_in files opened) first
        (All-weaker (λ (n : ℕ). (1 ≤ n) × (n ≤ length images)) (λ (n : ℕ). (1 ≤ n) × (n ≤ length (images_in files opened)))
        (λ n h. (h.0, let many = images_length files opened in let most = h.1 in let same = o.count in omega arith)) first r.numbers_are);
    few = let few = r.few_first in omega arith;
    frames = let least = r.allowed.least_frames in omega arith;
  }

  asked_in : (image : SwapImage) → 512 * numbers.swap ≤ length image.bytes → IsAskedOf (over (images_in files opened))
      (machine_up_to entries numbers (map shown_as opened)) first lines (Some files) image
  asked_in image room = record {
    named = named_images files opened;
    first = refl;
    lines_are = refl;
    frames = refl;
    blocks = refl;
    limit = refl;
    images = (loaded_images files opened, numbered_images files opened o.are_in);
    fit = images_fit (over (images_in files opened)) fit;
    octets = all_images files opened o.are_in octets;
    few = let few = r.few_first in let most = r.allowed.most_limit in omega arith;
    room = room;
  }

  -- of a machine that was made so
  module _ (m : Standing) (made : m ≡ machine_up_to entries numbers (map shown_as opened)) (holds : Option (List NamedFile)) (held : holds ≡ Some (map file_of images)) where
    pub asked : IsAskedOf (inputs_with numbers images first lines) m first lines holds (blank_stores numbers.swap)
    asked =
        subst (λ (n : Standing). IsAskedOf (over (images_of images)) n first lines holds (blank_stores numbers.swap)) (sym made)
        (subst (λ (h : Option (List NamedFile)). IsAskedOf (over (images_of images)) (machine_up_to entries numbers (map shown_as opened)) first lines h (blank_stores numbers.swap)) (sym held)
        (subst (λ (xs : List NamedImage). IsAskedOf (over xs) (machine_up_to entries numbers (map shown_as opened)) first lines (Some files) (blank_stores numbers.swap)) o.are
        (asked_in (blank_stores numbers.swap) (let e : length (blank_stores numbers.swap).bytes ≡ 512 * numbers.swap = length-replicate {A = ℕ} (512 * numbers.swap) 0 in omega arith))))

    pub opened_files : AreFiles m.images holds
    opened_files =
        subst (λ (n : Standing). AreFiles n.images holds) (sym made)
        (subst (λ (h : Option (List NamedFile)). AreFiles (map shown_as opened) h) (sym held) (are_files (Some files) opened o.ranges))

pub on_ok_so : {T E : Type 0} (r : Result T E) (P Q : Type 0) → (P → Q) → OnOk r P → OnOk r Q
on_ok_so (Ok x) P Q f h = f h
on_ok_so (Err e) P Q f h = tt

pub on_ok_always : {T E : Type 0} (r : Result T E) (P : Type 0) → P → OnOk r P
on_ok_always (Ok x) P p = p
on_ok_always (Err e) P p = tt
