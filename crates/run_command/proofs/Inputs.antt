-- The inputs of a run that was opened.
use Rattle.std.proofs.Common.{◌≡◌, ℕ, ◌*◌, ◌≤◌, List, [], ◌∷◌, length, map, Option, Some, Ok, refl, sym, subst, arith}
use Rattle.std.specs.Prelude.{All}
use Rattle.std.proofs.lemmas.List.Elements.{All-weaker, All-head, All-tail}
use Rattle.vm_facts.specs.SwapImages.{SwapImage}
use Rattle.vm_facts.specs.declared.event.Event.{Event}
use Rattle.vm_facts.specs.declared.event.Event.TheVariants as events
use Rattle.io_edge.specs.FileHolding.{NamedFile}
use Rattle.flat_state.specs.Flat.{Inputs}
use Rattle.command_edge.specs.ImageWords.{IsShortName, image_names, first_images}
use Rattle.run_text.specs.Schedule.{IsInRanges as IsEventInRanges}
use Rattle.machine_state.specs.Files.{AreImages}
use Rattle.vm_core.specs.Files.{AreInputs}
use Rattle.vm_core.proofs.Filing.{images_fit}
use Rattle.vm_core.specs.Steady.{HasFewMoves}
use Rattle.command_words.specs.Command.{AreAllowed}
use Rattle.run_opening.specs.declared.images.OpenedImage.{OpenedImage}
use Rattle.run_opening.specs.declared.opening.Opening.{Opening}
use Rattle.run_opening.specs.Schedules.{schedule_found, HasEvents}
use Rattle.run_opening.specs.Images.{images_found, images_in, file_numbers, IsIn}
use Rattle.vm_core.specs.Schedules.{HaveFewMoves}
use Rattle.io_edge.specs.Octets.{AreOctetFiles}
use Rattle.command_words.specs.Asked.{Request}
use Rattle.run_command.specs.Asking.{AsksFor}
use Rattle.run_command.specs.Naming.{shown_as}
use Rattle.run_command.specs.Machines.{IsOfOpening}
use Rattle.run_command.proofs.Openings.{named_images, loaded_images, numbered_images, all_images, filed_at, are_numbers, images_length}

few_moves : (e : Event) → IsEventInRanges e → HasFewMoves e
few_moves (events.Dispatch pid count) h = tt
few_moves events.Interrupt h = tt
few_moves (events.Hands count) h = let most = h.1 in omega arith
few_moves events.Swapper h = tt
few_moves events.Audit h = tt

pub have_few_moves : (es : List Event) → All IsEventInRanges es → HaveFewMoves es
have_few_moves es all = go es all
  where
    go : (xs : List Event) → All IsEventInRanges xs → HaveFewMoves xs
    go [] h = tt
    go (x ∷ xs) h = (few_moves x (All-head IsEventInRanges x xs h), go xs (All-tail IsEventInRanges x xs h))

-- What is known of what was opened, where the files are told.
pub record KnownOpening (request : Request) (files : List NamedFile) (opening : Opening) : Type 0 where
  pub found : images_found files (image_names request.words) ≡ Ok (images_in files opening.images.items)
  pub are_in : All (IsIn files) opening.images.items
  pub short : All (λ (o : OpenedImage). IsShortName o.name.now) opening.images.items
  pub first : opening.first.items ≡ first_images (image_names request.words) request.words
  pub numbers : All (λ (n : ℕ). (1 ≤ n) × (n ≤ length opening.images.items)) opening.first.items
  pub few : length opening.first.items ≤ 16
  pub lines : HasEvents (schedule_found files request.schedule) opening.lines.items

-- the inputs
abbrev pub inputs_of : Request → List NamedFile → Opening → Inputs
inputs_of request files opening = record {
  images = images_in files opening.images.items;
  file_numbers = file_numbers files (images_in files opening.images.items);
  first = opening.first.items;
  lines = opening.lines.items;
  frames = request.numbers.frames;
  swap_blocks = request.numbers.swap;
  limit = request.numbers.limit;
}

pub asks_for : (request : Request) (files : List NamedFile) (opening : Opening) → KnownOpening request files opening
    → AsksFor (inputs_of request files opening) request files
asks_for request files opening k = record { images = k.found; file_numbers = refl; first = k.first; lines = k.lines; frames = refl; blocks = refl; limit = refl }

module _ (request : Request) (files : List NamedFile) (opening : Opening) (k : KnownOpening request files opening) (ranges : AreAllowed request.numbers) where
  A : Inputs
  A = inputs_of request files opening

  fit : AreInputs (inputs_of request files opening)
  fit = record {
    files = λ number named at. filed_at files opening.images.items number named k.are_in k.short at;
    numbers = are_numbers (images_in files opening.images.items) opening.first.items
        (All-weaker (λ (n : ℕ). (1 ≤ n) × (n ≤ length opening.images.items)) (λ (n : ℕ). (1 ≤ n) × (n ≤ length (images_in files opening.images.items)))
        (λ n h. (h.0, let many = images_length files opening.images.items in let most = h.1 in omega arith)) opening.first.items k.numbers);
    few = let few = k.few in omega arith;
    frames = let least = ranges.least_frames in omega arith;
  }

  pub is_asked_of : (image : SwapImage) (holds : Option (List NamedFile)) → holds ≡ Some files → AreOctetFiles files → 512 * request.numbers.swap ≤ length image.bytes
      → IsOfOpening request.numbers opening holds (inputs_of request files opening) image
  is_asked_of image holds told octets room = record {
    named = named_images files opening.images.items;
    first = refl;
    lines_are = refl;
    frames = refl;
    blocks = refl;
    limit = refl;
    images = (
      subst (λ (h : Option (List NamedFile)). AreImages (map shown_as opening.images.items) h (images_in files opening.images.items)) (sym told)
          (loaded_images files opening.images.items),
      numbered_images files opening.images.items k.are_in,
    );
    fit = images_fit (inputs_of request files opening) fit;
    octets = all_images files opening.images.items k.are_in octets;
    few = let few = k.few in let most = ranges.most_limit in omega arith;
    room = room;
  }
