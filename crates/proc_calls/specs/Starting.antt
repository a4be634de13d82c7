-- What becomes of the machine where a process starts another image: new pieces, the old space left, a stack page due.
use Rattle.std.specs.Prelude.{◌≡◌, ◌⊎◌, ℕ, ◌*◌, ◌<◌, ◌≤◌, nat_lt, Bool, true, false, List, [], ◌∷◌, length, Option, Some, Result, Ok, Err, is_ok}
use Rattle.vm_facts.specs.SwapImages.{SwapImage}
use Rattle.io_edge.specs.FileHolding.{NamedFile}
use Rattle.vm_facts.specs.declared.regs.Regs.{Regs}
use Rattle.vm_facts.specs.declared.page.Page.TheVariants.{Stack}
use Rattle.vm_facts.specs.declared.entry.Entry.TheVariants as entries
use Rattle.vm_facts.specs.declared.stop.Stop.{Stop}
use Rattle.user_vax.specs.Program.{run}
use Rattle.user_vax.specs.declared.refused.Refused.{Refused}
use Rattle.aout_image.specs.declared.Image.{Image}
use Rattle.aout_image.specs.Image.{text_pages_of, image_data_pages}
use Rattle.swap_book.specs.declared.Owner.TheVariants as owners
use Rattle.swap_book.specs.Holdings.{Holdings}
use Rattle.swap_book.specs.Placing.{Wanted, place_all}
use Rattle.flat_state.specs.Flat.{NamedImage}
use Rattle.flat_state.specs.declared.change.Change.TheVariants.{Exec}
use Rattle.flat_model.specs.Calls.{execve_reply}
use Rattle.flat_model.specs.declared.calls.Reply.{Reply}
use Rattle.flat_model.specs.declared.calls.Reply.TheVariants.{Does}
use Rattle.flat_model.specs.declared.calls.SystemCall.TheVariants.{Execve}
use Rattle.page_model.specs.Placement.{Placement, sharers}
use Rattle.page_model.specs.Place.{facts_numbered}
use Rattle.kernel_model.specs.Asks.{image_asked}
use Rattle.machine_state.specs.Machine.{Standing}
use Rattle.machine_state.specs.Sourced.{ImageNamed, named_at}
use Rattle.machine_state.specs.Applying.{facts_named}
use Rattle.machine_state.specs.Conditions.{KeepsFlat}
use Rattle.machine_state.specs.Wants.{found_for}
use Rattle.machine_state.specs.UserMemory.{kernel_answers}
use Rattle.machine_state.specs.Want.{Want}
use Rattle.fault_fill.specs.Stops.{StopsBefore}
use Rattle.fault_fill.specs.Growth.{space_of_pid, with_pieces}
use Rattle.proc_calls.specs.declared.replying.Called.{Called}
use Rattle.proc_calls.specs.declared.replying.Called.TheVariants as calls
use Rattle.proc_calls.specs.Answered.{Answered, Comes, StopsOnce}
use Rattle.proc_calls.specs.Leaving.{HasLeft, StopsAlive}
use Rattle.proc_calls.specs.Filling.{FillsStart, StopsFilling}
use Rattle.proc_calls.specs.Making.{without_pieces, IsRefused}

-- The pieces.

-- a number of one of the images, which count from 1
abbrev pub IsImageOf : Standing → ℕ → Type 0
IsImageOf m image = (0 < image) × (image ≤ length m.images)

-- the pieces of the next space, in which an image starts
abbrev pub image_wanted : Standing → ℕ → List Wanted
image_wanted m image = image_asked m.kernel.place m.kernel.next_sid image (facts_numbered (facts_named m.images) image)

-- the holdings once they are found
abbrev pub image_found : ℕ → Standing → Result Holdings ℕ
image_found image m = place_all m.params.swap_blocks m.kernel.holdings (image_wanted m image)

-- the holdings once the pieces are found that are asked for so
abbrev pub wants_found : List Want → Standing → Result Holdings ℕ
wants_found wants m = found_for m.params.swap_blocks m.kernel.holdings wants

-- some space shares an image's text
abbrev pub is_shared : Placement → ℕ → Bool
is_shared p image = nat_lt 0 (sharers p image)

-- what an image wants in a space: its text, its data, and one page of stack
abbrev pub three_wants : ℕ → ℕ → Image → List Want
three_wants sid image facts =
    record { owner = owners.Text image; blocks = 2 * text_pages_of facts }
    ∷ record { owner = owners.Data sid; blocks = 2 * image_data_pages facts }
    ∷ record { owner = owners.Stack sid; blocks = 2 } ∷ []

-- this is what the image of this number wants in the next space
pub record AreNextWants (m : Standing) (image : ℕ) (wants : List Want) : Type 0 where
  pub named : ImageNamed
  pub is : named_at m.images image ≡ Some named
  pub are : wants ≡ three_wants m.kernel.next_sid image named.facts

-- What becomes of the machine.

-- a process left its space, and then pieces were found
pub record LeavesFor (pieces : Standing → Result Holdings ℕ) (old new : Standing) (pid : ℕ) (holds : Option (List NamedFile))
    (before after : Option SwapImage) : Type 0 where
  pub between : Standing
  pub left : HasLeft old between pid holds before after
  pub found : Holdings
  pub finds : pieces between ≡ Ok found
  pub step : new ≡ with_pieces between found

-- an entry says that they find no place, and leaves the flat states as they are
pub record StaysWithout (old new : Standing) (pid : ℕ) (before after : Option SwapImage) : Type 0 where
  pub step : new ≡ without_pieces old pid
  pub keeps : KeepsFlat old.kernel new.kernel
  pub image : after ≡ before

-- by whether they find their places
abbrev pub FindsBy : Bool → (Standing → Result Holdings ℕ) → Standing → Standing → ℕ → Option (List NamedFile) → Option SwapImage → Option SwapImage → Type 0
FindsBy true pieces old new pid holds before after = LeavesFor pieces old new pid holds before after
FindsBy false pieces old new pid holds before after = StaysWithout old new pid before after

-- Pieces are looked for, and where they find their places the process leaves its space before they are found.
pub record Finds (pieces : Standing → Result Holdings ℕ) (fits : Bool) (old new : Standing) (pid : ℕ) (holds : Option (List NamedFile))
    (before after : Option SwapImage) : Type 0 where
  pub answer : fits ≡ is_ok (pieces old)
  pub finds : FindsBy fits pieces old new pid holds before after

-- once the process left its space and the pieces of the image were found, the call answers with the change
pub record HasStarted (old new : Standing) (pid : ℕ) (after : Regs) (image : ℕ) (top : List ℕ) (holds : Option (List NamedFile))
    (before behind : Option SwapImage) : Type 0 where
  pub asked : Standing
  pub finds : LeavesFor (image_found image) old asked pid holds before behind
  pub answer : Answered asked new pid Execve after (Exec image top)

-- and then its stack page 0 is filled
pub record HasStartedFilled (old new : Standing) (pid : ℕ) (after : Regs) (image : ℕ) (top : List ℕ) (holds : Option (List NamedFile))
    (before behind : Option SwapImage) : Type 0 where
  pub between : Standing
  pub told : Option SwapImage
  pub started : HasStarted old between pid after image top holds before told
  pub fills : FillsStart (Stack old.kernel.next_sid 0) between new holds told behind

-- by whether the pieces of the image find their places: else that is an entry, and then the call fails
abbrev pub StartsBy : Bool → Standing → Standing → ℕ → Regs → Regs → ℕ → List ℕ → Option (List NamedFile) → Option SwapImage → Option SwapImage → Type 0
StartsBy true old new pid regs after image top holds before behind = HasStartedFilled old new pid after image top holds before behind
StartsBy false old new pid regs after image top holds before behind = IsRefused old new pid Execve regs × (behind ≡ before)

-- an execve starts an image, or the pieces find no place and it fails
abbrev pub Starts : Standing → Standing → ℕ → Regs → Regs → ℕ → List ℕ → Option (List NamedFile) → Option SwapImage → Option SwapImage → Type 0
Starts old new pid regs after image top holds before behind = StartsBy (is_ok (image_found image old)) old new pid regs after image top holds before behind

-- what an execve of a process comes to by what its memory has, with these images
abbrev pub execve_read : List NamedImage → Standing → ℕ → Regs → Result Reply Refused
execve_read known m pid regs = run (kernel_answers m.kernel (space_of_pid m.kernel pid)) (execve_reply known regs)

-- What becomes of the machine by that.
abbrev pub ExecComes : Standing → Standing → ℕ → Regs → Result Reply Refused → Option (List NamedFile) → Option SwapImage → Option SwapImage → Called → Type 0
ExecComes old new pid regs (Ok (Does after (Exec image top))) holds before behind called =
    (called ≡ calls.Ready) × Starts old new pid regs after image top holds before behind
ExecComes old new pid regs (Ok reply) holds before behind called = Comes old new pid Execve regs (Ok reply) called × (behind ≡ before)
ExecComes old new pid regs (Err refused) holds before behind called = Comes old new pid Execve regs (Err refused) called × (behind ≡ before)

-- Where the run stops.

-- as it was, or where the pieces find their places: as the process leaves its space, or after that
abbrev pub StopsFinding : (Standing → Result Holdings ℕ) → Standing → Standing → ℕ → Option (List NamedFile) → Option SwapImage → Option SwapImage → Stop
    → Type 0
StopsFinding pieces old new pid holds before after stop =
    (StopsBefore old new stop × (after ≡ before)) ⊎ ((is_ok (pieces old) ≡ true) × StopsAlive old new pid holds before after stop)

-- By the reply: an execve that starts an image stops as its pieces are found, or after the entry that says that they find no place, or
-- once the call has answered, as the new stack page is filled; and any other before its entry.
abbrev pub StopsExec : Standing → Standing → ℕ → Reply → Option (List NamedFile) → Option SwapImage → Option SwapImage → Stop → Type 0
StopsExec old new pid (Does after (Exec image top)) holds before behind stop =
    (StopsFinding (image_found image) old new pid holds before behind stop
    ⊎ ((is_ok (image_found image old) ≡ false) × StopsBefore (without_pieces old pid) new stop × (behind ≡ before)))
    ⊎ ((told : Option SwapImage) × StopsOnce (λ m. HasStarted old m pid after image top holds before told)
    (λ m. StopsFilling (entries.Zero (Stack old.kernel.next_sid 0)) [] m new holds told behind stop))
StopsExec old new pid reply holds before behind stop = StopsBefore old new stop × (behind ≡ before)
