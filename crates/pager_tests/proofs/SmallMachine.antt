-- A small machine, in which the first process began.
use Rattle.std.proofs.Common.{◌≡◌, ℕ, ◌<◌, ◌≤◌, List, [], ◌∷◌, length, map, None, inl, refl, sym, ap, ◌∙◌, subst, arith, lit≤, lit<}
use Rattle.vm_facts.specs.declared.page.Page.TheVariants.{Stack, Text}
use Rattle.vm_facts.specs.declared.params.Params.{Params}
use Rattle.aout_image.specs.declared.Image.{Image}
use Rattle.aout_image.specs.declared.Kind.TheVariants.{Shared}
use Rattle.aout_image.specs.Image.{file_length_of}
use Rattle.io_edge.specs.FileHolding.{NamedFile, bytes_at}
use Rattle.page_model.specs.Placement.{Placement, start_placement}
use Rattle.page_model.specs.Place.{filled, facts_numbered}
use Rattle.kernel_model.specs.Start.{begin_place}
use Rattle.machine_state.specs.Named.{Named}
use Rattle.machine_state.specs.Sourced.{ImageNamed}
use Rattle.machine_state.specs.Machine.{Standing, image_shown}
use Rattle.machine_state.specs.New.{fresh_kernel}
use Rattle.machine_state.specs.Calls.{CanPush}
use Rattle.machine_state.specs.Conditions.{CanZero, CanBringIn}
use Rattle.machine_state.specs.Files.{HaveFiles}
use Rattle.machine_state.specs.Beginning.{StartedFirst}
use Rattle.machine_state.proofs.FirstBegins.{same_named, shown_facts}

-- two pages of text and a page of data
abbrev pub small : Image
small = record { kind = Shared; text_len = 2048; data_len = 100; bss_len = 0; entry = 0 }

abbrev pub sizes : Params
sizes = record { frames = 8; swap_blocks = 128; limit = 1; journal = 64 }

-- where its pages are
abbrev pub first_place : Placement
first_place = begin_place (start_placement (small ∷ []) [] 8) 1 1 small

-- What may be done with them.

pub can_zero : CanZero first_place (Stack 1 0)
can_zero = record { writable = tt; there = lit< tt; unfilled = refl; zeros = refl; first = refl; frame = lit< tt }

pub can_push : CanPush (filled first_place (Stack 1 0)) (Stack 1 0) 1
can_push = record {
  clear = refl;
  writable = tt;
  some = lit< tt;
  most = lit≤ tt;
  seats = (record { frame = 1; seat = record { state = inl refl } }, tt);
  alike = ((refl, tt), lit< tt);
}

pub can_get : CanBringIn first_place (Text 1 0) 0 2
can_get = record {
  enter = (record { there = lit< tt; frameless = refl }, (record { there = lit< tt; frameless = refl }, tt));
  reads = ((refl, refl, refl, λ w. absurd w), ((refl, refl, refl, λ w. absurd w), tt));
  shared = lit< tt;
  frames = lit≤ tt;
  some = lit< tt;
  most = lit≤ tt;
  room = lit< tt;
  fits = lit< tt;
}

-- The machine in which it began.

abbrev head_or : ℕ → List ℕ → ℕ
head_or n [] = n
head_or n (x ∷ xs) = x

abbrev head_image : Image → List Image → Image
head_image f [] = f
head_image f (x ∷ xs) = x

-- its image's file is the first, and has enough bytes
pub has_file : (images : List ImageNamed) (i : Image) → map (λ (n : ImageNamed). n.facts) images ≡ i ∷ [] → map (λ (n : ImageNamed). n.file) images ≡ 0 ∷ []
    → (files : List NamedFile) → 0 < length files → file_length_of i ≤ length (bytes_at files 0) → HaveFiles images files
has_file [] i facts at files some long = absurd (let k = ap length facts in cc)
has_file (x ∷ []) i facts at files some long =
    let file : x.file ≡ 0 = ap (head_or 0) at in
    let image : x.facts ≡ i = ap (head_image i) facts in (
      record {
        there = subst (λ (n : ℕ). n < length files) (sym file) some;
        whole = subst (λ (f : Image). file_length_of f ≤ length (bytes_at files x.file)) (sym image)
            (subst (λ (n : ℕ). file_length_of i ≤ length (bytes_at files n)) (sym file) long);
      },
      tt,
    )
has_file (x ∷ y ∷ more) i facts at files some long = absurd (let k = ap length facts in omega (arith, k))

pub shown_files : (images : List Named) → map (λ (n : ImageNamed). n.file) (map image_shown images) ≡ map (λ (n : Named). n.file) images
shown_files [] = refl
shown_files (x ∷ xs) = ap (λ (ys : List ℕ). x.file ∷ ys) (shown_files xs)

-- what is known of it
pub record HasBegun (m : Standing) : Type 0 where
  pub blocks : m.params.swap_blocks ≡ 128
  pub files : (files : List NamedFile) → 0 < length files → 4096 ≤ length (bytes_at files 0) → HaveFiles m.images files
  pub place : m.kernel.place ≡ first_place

abbrev pub fresh : List Named → Standing
fresh images = record {
  kernel = fresh_kernel (map (λ (x : Named). x.facts) images) 8;
  params = sizes;
  images = map image_shown images;
  before = [];
  room = None;
}

from_fresh : (new : Standing) (images : List Named) → map (λ (x : Named). x.facts) images ≡ small ∷ [] → map (λ (x : Named). x.file) images ≡ 0 ∷ []
    → StartedFirst (fresh images) new 1 → HasBegun new
from_fresh new images facts at s =
    let same : s.named.facts ≡ small = same_named images 1 s.named small s.is (ap (λ (fs : List Image). facts_numbered fs 1) facts) in
    record {
      blocks = ap (λ (m : Standing). m.params.swap_blocks) s.step;
      files = subst (λ (ns : List ImageNamed). (files : List NamedFile) → 0 < length files → 4096 ≤ length (bytes_at files 0) → HaveFiles ns files)
          (sym (ap (λ (m : Standing). m.images) s.step))
          (λ files some long. has_file (map image_shown images) small (shown_facts images ∙ facts) (shown_files images ∙ at) files some (omega (arith, long)));
      place = ap (λ (m : Standing). m.kernel.place) s.step
          ∙ ap (λ (fs : List Image). begin_place (start_placement fs [] 8) 1 1 s.named.facts) facts
          ∙ ap (λ (f : Image). begin_place (start_placement (small ∷ []) [] 8) 1 1 f) same;
    }

pub has_begun : (old new : Standing) (images : List Named) → old ≡ fresh images → map (λ (x : Named). x.facts) images ≡ small ∷ []
    → map (λ (x : Named). x.file) images ≡ 0 ∷ [] → StartedFirst old new 1 → HasBegun new
has_begun old new images is facts at s =
    from_fresh new images facts at (subst (λ (m : Standing). StartedFirst m new 1) is s)
