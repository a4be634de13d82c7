-- A run agrees with the kernel's units, with its journal, and with what processes read.
use Rattle.std.specs.Prelude.{◌≡◌, ℕ, List, Some, ◌+◌, ◌*◌, ◌^◌, ◌<◌, ◌≤◌, [], length, slice_index}
use Rattle.vm_facts.specs.declared.entry.Entry.{Entry}
use Rattle.flat_state.specs.Flat.{Inputs, process_of, Process, Holds}
use Rattle.kernel_model.specs.Kernel.{Kernel, frame_bytes}
use Rattle.kernel_model.specs.Unit.{KernelState, states_after}
use Rattle.run_model.specs.State.{State, start}
use Rattle.run_model.specs.Next.{next_unit}
use Rattle.run_laws.specs.Machine.{unit_step, unit_image, StandsAt, place_in}
use Rattle.run_laws.specs.KernelUnits.{resting, units_behind}
use Rattle.vm_facts.specs.declared.page.Page.{Page}
use Rattle.swap_book.specs.Holdings.{Holdings}
use Rattle.flat_state.specs.Space.{Space, byte_at}
use Rattle.flat_state.specs.declared.spot.Spot.{Spot as AnySpot}
use Rattle.vm_facts.specs.declared.memory.ByteRead.TheVariants as reads
use Rattle.vm_facts.specs.declared.page.PageState.TheVariants.{Valid}
use Rattle.page_model.specs.Placement.{state_of}
use Rattle.flat_model.specs.Touched.{page_read}
use Rattle.flat_laws.specs.Longwords.{AllImages}
use Rattle.page_model.specs.Place.{space_of_process}
use Rattle.page_model.specs.PuttingOut.{put_rank}
use Rattle.run_model.specs.declared.mark.Mark.TheVariants as marks
use Rattle.run_model.specs.Lawful.{Follows}
use Rattle.run_model.specs.After.{after}
use Rattle.run_laws.specs.Running.{IsRun, CanRun}
use Rattle.run_laws.specs.Images.{HasSwapped}
use Rattle.flat_state.specs.Journal.{appended}
use Rattle.run_model.specs.Swapped.{swapped_from, swapped}

-- the machine that a next unit makes is the one that the kernel's units of it make
abbrev pub KernelUnitsMakeMachine : Type 0
KernelUnitsMakeMachine = (A : Inputs) (s : State) (k : Kernel) (image : List ℕ) (read : List (List ℕ)) (u : Entry)
    → StandsAt A s k image → next_unit A s ≡ Some u
    → KernelState.kernel (states_after A.images (resting s k image) (units_behind A s k read u))
    ≡ unit_step A s k image read u

-- and so is the swap image
abbrev pub KernelUnitsMakeImage : Type 0
KernelUnitsMakeImage = (A : Inputs) (s : State) (k : Kernel) (image : List ℕ) (read : List (List ℕ)) (u : Entry)
    → StandsAt A s k image → next_unit A s ≡ Some u
    → KernelState.image (states_after A.images (resting s k image) (units_behind A s k read u))
    ≡ unit_image k image u

-- the swap image along a list of next units is the one that their journal says
abbrev pub JournalSaysImage : Type 0
JournalSaysImage = (A : Inputs) (hs : Holdings) (us journal : List Entry) (t : State) (image : List ℕ)
    → CanRun A hs → Follows A (start A hs) us t → appended [] us ≡ journal
    → swapped_from A (start A hs) us image ≡ swapped A journal image

-- after a journal the image that it says has the flat bytes of each page that is on swap alone
abbrev pub RunHasSwapped : Type 0
RunHasSwapped = (A : Inputs) (hs : Holdings) (us journal : List Entry) (t : State) (image : List ℕ)
    → CanRun A hs → AllImages A.images → length A.first + 1 + A.limit < 2 ^ 32 → Follows A (start A hs) us t
    → appended [] us ≡ journal → 512 * A.swap_blocks ≤ length image → HasSwapped A t (swapped A journal image)

-- what is left of putting a process out falls with each unit of it
abbrev pub PuttingOutFalls : Type 0
PuttingOutFalls = (A : Inputs) (s : State) (u : Entry) (pid : ℕ)
    → IsRun A s → s.mark ≡ marks.PutOut pid → next_unit A s ≡ Some u
    → put_rank (after A s u).place pid (space_of_process (process_of s.point.flat pid))
    < put_rank s.place pid (space_of_process (process_of s.point.flat pid))

-- a byte that a process reads is the byte at its place in the frame of its page
abbrev pub ReadsAreFlat : Type 0
ReadsAreFlat = (A : Inputs) (s : State) (k : Kernel) (image : List ℕ) (pid : ℕ) (q : Process) (x : Space)
    (spot : AnySpot) (v : Page) (f : ℕ)
    → IsRun A s → StandsAt A s k image → process_of s.point.flat pid ≡ Some q → q.holding ≡ Holds x
    → page_read x spot ≡ Some v → state_of k.place v ≡ Valid f
    → byte_at x spot ≡ reads.Is (slice_index (frame_bytes k f) (place_in spot))
