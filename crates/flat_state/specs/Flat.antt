-- The flat machine's states: which process can step, and the state in which a run starts.
use Rattle.std.specs.Prelude.{ℕ, zero, suc, ◌+◌, ◌-◌, ◌*◌, ◌/◌, ◌==◌, Bool, true, false, List, [], ◌∷◌, ◌++◌, length, replicate, flat_map, find, slice_set, slice_get, Option, Some, None, if◌then◌else◌}
use Rattle.flat_state.specs.Space.{Space, stack_top}
use Rattle.vm_facts.specs.declared.event.Event.{Event}
use Rattle.vm_facts.specs.declared.regs.Regs.{Regs}
use Rattle.aout_image.specs.Image.{Loaded, word_bytes}

-- what a process has: a space; the number of the space that it lent, and the child that it lent it to; or an exit
-- status. A space belongs to one process: a lender has none.
pub data Holding : Type 0 where
  Holds : Space → Holding
  Lends : (sid child : ℕ) → Holding
  Zombie : ℕ → Holding

-- a process: its number, its parent's or 0 for none, its registers, what it has, and whether it sleeps till a child ends
pub record Process : Type 0 where
  pub pid : ℕ
  pub parent : ℕ
  pub regs : Regs
  pub holding : Holding
  pub asleep : Bool

-- the processes by rising pid, and the numbers of the next process and the next space
pub record FlatState : Type 0 where
  pub processes : List Process
  pub next_pid : ℕ
  pub next_sid : ℕ

-- The flat memory.

-- the space that a process holds, if it holds one
abbrev pub space_held : Holding → List Space
space_held (Holds s) = s ∷ []
space_held (Lends sid child) = []
space_held (Zombie status) = []

-- the spaces that the processes hold, in the order of the processes
abbrev pub spaces_of : FlatState → List Space
spaces_of flat = flat_map (λ (q : Process). space_held q.holding) flat.processes

-- the process with this number
abbrev pub process_of : FlatState → ℕ → Option Process
process_of F pid = find (λ q. q.pid == pid) F.processes

-- a process that isn't there, is out of a space or waits can't step
abbrev pub holds_space : Holding → Bool
holds_space (Holds s) = true
holds_space (Lends sid child) = false
holds_space (Zombie status) = false

-- the process holds a space and isn't asleep
abbrev pub is_ready : Process → Bool
is_ready p = if p.asleep then false else holds_space p.holding

-- the process is there, holds a space and isn't asleep
abbrev pub ready_if : Option Process → Bool
ready_if None = false
ready_if (Some p) = is_ready p

-- the process of this number is there, holds a space and isn't asleep
abbrev pub can_step : FlatState → ℕ → Bool
can_step F pid = ready_if (process_of F pid)

-- How a process starts: its space, its stack page 0 and its registers.

-- the strings of the arguments, each with a final 0
abbrev pub strings_of : List (List ℕ) → List ℕ
strings_of arguments = flat_map (λ argument. argument ++ 0 ∷ []) arguments

-- the least multiple of 4 that holds so many bytes
abbrev pub in_longwords : ℕ → ℕ
in_longwords bytes = (bytes + 3) / 4 * 4

-- the bytes of the strings, filled with zeros to whole longwords
abbrev pub string_area : List (List ℕ) → List ℕ
string_area arguments =
    strings_of arguments ++ replicate (in_longwords (length (strings_of arguments)) - length (strings_of arguments)) 0

-- the address of the first string: below the longword 0 at the top
abbrev pub strings_at : List (List ℕ) → ℕ
strings_at arguments = stack_top - 4 - in_longwords (length (strings_of arguments))

-- the addresses of the strings, the first lowest
abbrev pub pointers_from : ℕ → List (List ℕ) → List ℕ
pointers_from address [] = []
pointers_from address (argument ∷ more) = word_bytes address ++ pointers_from (address + length argument + 1) more

-- what stands from SP on up to the stack's top: the number of arguments, their pointers, a 0 that ends them, a 0
-- for no environment, the strings, and a 0
unfoldable pub argument_area : List (List ℕ) → List ℕ
argument_area arguments =
    word_bytes (length arguments) ++ pointers_from (strings_at arguments) arguments ++ word_bytes 0 ++ word_bytes 0
    ++ string_area arguments ++ word_bytes 0

-- stack page 0 at the start: zeros, and the arguments at its end
abbrev pub start_page : List (List ℕ) → List ℕ
start_page arguments = replicate (1024 - length (argument_area arguments)) 0 ++ argument_area arguments

-- the stack pointer at the start
abbrev pub start_sp : List (List ℕ) → ℕ
start_sp arguments = stack_top - length (argument_area arguments)

-- all registers 0, and all condition codes clear
abbrev pub cleared : Regs
cleared = record { r = replicate 16 0; n = false; z = false; v = false; c = false }

-- all is 0 but PC, after the entry mask, and SP
unfoldable pub start_regs : ℕ → List (List ℕ) → Regs
start_regs entry arguments =
    record cleared { r = slice_set (slice_set (replicate 16 0) 14 (start_sp arguments)) 15 (entry + 2) }

-- the space with this number in which an image starts with this stack page 0
abbrev pub space_with : ℕ → ℕ → Loaded → List ℕ → Space
space_with sid image loaded top = record {
  sid = sid;
  image = image;
  text_bytes = loaded.text;
  data_bytes = loaded.data;
  stack_bytes = top;
}

-- the space with this number in which an image starts with these arguments
abbrev pub new_space : ℕ → ℕ → Loaded → List (List ℕ) → Space
new_space sid image loaded arguments = space_with sid image loaded (start_page arguments)

-- What a run is of.

-- an image and the name of its file
pub record NamedImage : Type 0 where
  pub name : List ℕ
  pub image : Loaded

-- the images by number, from 1 on, and the numbers by which their files are read; the numbers of the first processes' images, by
-- pid; the schedule; the frames and swap blocks; and how many instructions may run in all
pub record Inputs : Type 0 where
  pub images : List NamedImage
  pub file_numbers : List ℕ
  pub first : List ℕ
  pub lines : List Event
  pub frames : ℕ
  pub swap_blocks : ℕ
  pub limit : ℕ

-- the image of this number, counted from 1; none where there is none
abbrev pub image_numbered : List NamedImage → ℕ → Option NamedImage
image_numbered images zero = None
image_numbered images (suc place) = slice_get images place

-- a first process, whose space has its own number and whose one argument is its image's name
abbrev pub start_process : ℕ → ℕ → NamedImage → Process
start_process pid number named = record {
  pid = pid;
  parent = 0;
  regs = start_regs named.image.facts.entry (named.name ∷ []);
  holding = Holds (new_space pid number named.image (named.name ∷ []));
  asleep = false;
}

-- a first process, with this pid, where there is an image of its number
abbrev pub start_if : ℕ → ℕ → Option NamedImage → List Process
start_if pid number None = []
start_if pid number (Some named) = start_process pid number named ∷ []

-- the first processes, from a pid on
abbrev pub start_processes : List NamedImage → ℕ → List ℕ → List Process
start_processes images pid [] = []
start_processes images pid (number ∷ more) = start_if pid number (image_numbered images number) ++ start_processes images (pid + 1) more

-- the flat machine at the start
abbrev pub start_state : Inputs → FlatState
start_state A = record {
  processes = start_processes A.images 1 A.first;
  next_pid = length A.first + 1;
  next_sid = length A.first + 1;
}
