-- The whole machine at the start of a run, and how first processes come into it one by one.
use Rattle.std.specs.Prelude.{◌≡◌, ℕ, ◌+◌, ◌*◌, ◌≤◌, false, List, [], ◌∷◌, ◌++◌, length, map, Some}
use Rattle.page_model.specs.Space.{Space}
use Rattle.page_model.specs.Flat.{Process, NamedImage, Inputs, image_numbered, argument_area, start_page, start_regs, start_state, spaces_of}
use Rattle.vm_facts.specs.declared.page.Page.TheVariants.{Stack}
use Rattle.page_model.specs.Image.{Image}
use Rattle.page_model.specs.AoutImageImage.{IsSound, text_pages_of}
use Rattle.page_model.specs.Holdings.{Holdings}
use Rattle.page_model.specs.Placement.{Placement, Start, Starting, new_pages, start_placement}
use Rattle.kernel_model.specs.Kernel.{HoldsSpace, Proc, StartBytes, Kernel, life_of}
use Rattle.kernel_model.specs.Sound.{DataFits}
use Rattle.page_model.specs.Place.{facts_of}

-- the machine's record of a process of the flat state
abbrev pub kept_of : Process → Proc
kept_of q = record { pid = q.pid; parent = q.parent; regs = q.regs; life = life_of q.holding; asleep = q.asleep }

-- the stack page 0 with which a space begins
abbrev pub start_of : Space → StartBytes
start_of s = record { page = Stack s.sid 0; bytes = s.stack_bytes }

-- with the first processes' images, their holdings, and some bytes in each frame
abbrev pub start_kernel : Inputs → List Starting → Holdings → List (List ℕ) → Kernel
start_kernel A first hs frames = record {
  place = start_placement (facts_of A.images) first A.frames;
  holdings = hs;
  processes = map kept_of (start_state A).processes;
  next_pid = (start_state A).next_pid;
  next_sid = (start_state A).next_sid;
  starts = map start_of (spaces_of (start_state A));
  frames = frames;
  journal = [];
  stopped = false;
}

-- First processes that begin one by one.

-- with no process, and some bytes in each frame
abbrev pub new_kernel : List Image → ℕ → List (List ℕ) → Kernel
new_kernel images count frames = record {
  place = start_placement images [] count;
  holdings = [];
  processes = [];
  next_pid = 1;
  next_sid = 1;
  starts = [];
  frames = frames;
  journal = [];
  stopped = false;
}

-- the process is in from the start, and has a space of its own number with the pages of its image; stack page 0 of that
-- is due, after those of the processes before it
abbrev pub begin_place : Placement → ℕ → ℕ → Image → Placement
begin_place p pid image facts = record p {
  spaces = p.spaces ++ new_pages pid image facts ∷ [];
  residents = p.residents ++ record { pid = pid; out = false; since = 0 } ∷ [];
  due = p.due ++ Start (Stack pid 0) ∷ [];
}

-- One first process begins, by the number, the name and the facts of its image, with the holdings in which its pieces
-- were found. It has the next number and the registers of a start, and the bytes of its stack page 0 are kept. No entry
-- says so.
abbrev pub begin_step : Kernel → Holdings → ℕ → List ℕ → Image → Kernel
begin_step k found image name facts = record k {
  place = begin_place k.place k.next_pid image facts;
  holdings = found;
  processes =
      k.processes ++ record { pid = k.next_pid; parent = 0; regs = start_regs facts.entry (name ∷ []); life = HoldsSpace k.next_pid; asleep = false } ∷ [];
  next_pid = k.next_pid + 1;
  next_sid = k.next_sid + 1;
  starts = k.starts ++ record { page = Stack k.next_pid 0; bytes = start_page (name ∷ []) } ∷ [];
}

-- one first process more, in the image of this number
abbrev pub with_first : Inputs → ℕ → Inputs
with_first A number = record A { first = A.first ++ number ∷ [] }

-- a process that starts in this image
abbrev pub starting_in : ℕ → NamedImage → Starting
starting_in number named = record { image = number; facts = named.image.facts }

-- each first process starts in the image of its number
abbrev pub AreStarting : List NamedImage → List ℕ → List Starting → Type 0
AreStarting images [] [] = Unit {0}
AreStarting images (n ∷ ns) (a ∷ more) =
    (named : NamedImage) × (image_numbered images n ≡ Some named) × (a.image ≡ n) × (a.facts ≡ named.image.facts) × AreStarting images ns more
AreStarting images _ _ = ⊥

-- an image's text and data are those of its pages, of which there are no more than may be; and its name finds room in
-- stack page 0
pub record ImageFits (named : NamedImage) : Type 0 where
  pub text : length named.image.text ≡ 1024 * text_pages_of named.image.facts
  pub «data» : DataFits named.image
  pub sound : IsSound named.image.facts
  pub name : length (argument_area (named.name ∷ [])) ≤ 1024

-- each image's text and data are those of its pages, no more than may be, and its name finds room in stack page 0
abbrev pub ImagesFit : List NamedImage → Type 0
ImagesFit images = (number : ℕ) (named : NamedImage) → image_numbered images number ≡ Some named → ImageFits named
